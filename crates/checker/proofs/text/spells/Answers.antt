use native.Mathlib.Omega.{arith}
use mathlib.Core.Path.{refl}
use Rattle.checker.proofs.Spellings.{along_end, along_none, along_no, along_more, along_room}
use Rattle.checker.proofs.text.spells.Goals as goal

pub returns-in_default : goal.returns-in_default
returns-in_default c = along_none c.loop-i.invariant c.loop-i-test.true c.in_default.ensures.here refl

pub returns-then-not-holds : goal.returns-then-not-holds
returns-then-not-holds c = along_no c.loop-i.invariant c.loop-i-test.true c.in-Ok.ensures.here (λ x. omega (arith, c.type_inv.s x)) c.holds.ensures c.if-not-holds.true

pub overflow_add-j : goal.overflow_add-j
overflow_add-j c = omega (arith, along_room c.loop-i.invariant c.loop-i-test.true c.in-Ok.ensures.here (λ x. omega (arith, c.type_inv.s x)) c.holds.ensures c.if-not-holds.false)

pub loop-i-preserved : goal.loop-i-preserved
loop-i-preserved c = rw c.from-j.ensures (along_more c.loop-i.invariant c.loop-i-test.true c.in-Ok.ensures.here (λ x. omega (arith, c.type_inv.s x)) c.holds.ensures c.if-not-holds.false)

pub returns : goal.returns
returns c = along_end c.loop-i.invariant c.loop-i-test.false
