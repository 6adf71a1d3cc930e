use native.Mathlib.Omega.{arith}
use Rattle.grammar.specs.RuleTable.{kids_le}
use Rattle.checker.proofs.Families.{found_start, found_more, found_no, family_yes, family_no}
use Rattle.checker.proofs.family.family.Goals as goal

pub returns-then-count-eq0 : goal.returns-then-count-eq0
returns-then-count-eq0 c = (family_no (λ lo e js k. let z = kids_le k in omega (arith, c.if-count-eq0.true, c.wide-count.ensures)), tt)

pub returns-then-i-count : goal.returns-then-i-count
returns-then-i-count c = (family_no (λ lo e js k. omega (arith, c.if-i-count.true, c.wide-count.ensures)), tt)

pub loop-left-init : goal.loop-left-init
loop-left-init c = (c.requires, found_start (omega (arith, c.if-count-eq0.false, c.if-i-count.false, c.wide-count.ensures)) (omega (arith, c.if-count-eq0.false, c.if-i-count.false)), omega (arith, c.if-count-eq0.false, c.if-i-count.false))

pub returns-then-c-eq0 : goal.returns-then-c-eq0
returns-then-c-eq0 c = (found_no _ c.loop-left.invariant.1 (omega (arith, c.loop-left-test.true, c.loop-left.invariant.2)) c.wide-c.ensures.0 (λ z. omega (arith, c.if-c-eq0.true)), tt)

pub returns-then-left-c : goal.returns-then-left-c
returns-then-left-c c = (found_no _ c.loop-left.invariant.1 (omega (arith, c.loop-left-test.true, c.loop-left.invariant.2)) c.wide-c.ensures.0 (λ z. omega (arith, c.if-left-c.true, c.loop-left.invariant.2)), tt)

pub loop-left-preserved : goal.loop-left-preserved
loop-left-preserved c = (c.loop-left.invariant.0, found_more _ c.loop-left.invariant.1 (omega (arith, c.loop-left-test.true, c.loop-left.invariant.2)) c.wide-c.ensures.0 c.if-c-eq0.false (omega (arith, c.if-left-c.false, c.loop-left.invariant.2)) c.loop-left.invariant.0.marked, omega (arith, c.loop-left.invariant.2, c.if-left-c.false))

pub returns : goal.returns
returns c = (family_yes c.loop-left.invariant.1 (omega (arith, c.loop-left-test.false, c.loop-left.invariant.2, c.loop-left.invariant.1.low)), c.loop-left.invariant.1.far)
