use mathlib.Core.Path.{refl, sym, ◌∙◌}
use native.Mathlib.Omega.{arith}
use Rattle.grammar.proofs.Refusals.{numbered}
use Rattle.checker.proofs.Enclosures.{seated}
use Rattle.checker.proofs.Onwards.{direct_up}
use Rattle.checker.proofs.Traversals.{first_gap_no, first_no, first_on, part_no, last_gap, last_part, next_part}
use Rattle.checker.proofs.traversal.traversal.Goals as goal

pub returns-in_default : goal.returns-in_default
returns-in_default c = first_gap_no c.lines-lines.ensures c.in_default.ensures (numbered _)

pub returns-then-not-is_part : goal.returns-then-not-is_part
returns-then-not-is_part c = first_no c.lines-lines.ensures c.in-Ok.ensures refl (sym c.is_part.ensures ∙ c.if-not-is_part.true)

pub loop-first-init : goal.loop-first-init
loop-first-init c = first_on c.lines-lines.ensures c.in-Ok.ensures refl (sym c.is_part.ensures ∙ c.if-not-is_part.false) c.requires

pub kid-requires : goal.kid-requires
kid-requires c = seated c.loop-first.invariant.direct

pub returns-then-not-kid : goal.returns-then-not-kid
returns-then-not-kid c = part_no c.lines-lines.ensures c.loop-first.invariant c.kid.ensures c.if-not-kid.true

pub returns-in_default-space : goal.returns-in_default-space
returns-in_default-space c = last_gap c.lines-lines.ensures c.loop-first.invariant c.kid.ensures c.if-not-kid.false c.next-j.ensures c.end-q.ensures.0 c.in_default-space.ensures (numbered _) c.ends.ensures

pub returns-then-not-is_part-2 : goal.returns-then-not-is_part-2
returns-then-not-is_part-2 c = last_part c.lines-lines.ensures c.loop-first.invariant c.kid.ensures c.if-not-kid.false c.next-j.ensures c.end-q.ensures.0 c.in-Ok-space.ensures refl (sym c.is_part-in-loop-first.ensures ∙ c.if-not-is_part-2.true) c.ends-then-not-is_part-2.ensures

pub loop-first-smaller : goal.loop-first-smaller
loop-first-smaller c = let u = direct_up c.loop-first.invariant.direct (c.kid.ensures.inside c.if-not-kid.false) c.next-j.ensures in omega (arith, u.0, u.1)

pub loop-first-preserved : goal.loop-first-preserved
loop-first-preserved c = next_part c.lines-lines.ensures c.loop-first.invariant c.kid.ensures c.if-not-kid.false c.next-j.ensures c.end-q.ensures.0 c.in-Ok-space.ensures refl (sym c.is_part-in-loop-first.ensures ∙ c.if-not-is_part-2.false)
