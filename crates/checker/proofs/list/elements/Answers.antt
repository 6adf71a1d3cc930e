use mathlib.Core.Path.{refl, sym, ◌∙◌}
use native.Mathlib.Omega.{arith}
use Rattle.grammar.proofs.Refusals.{numbered}
use Rattle.checker.proofs.Enclosures.{seated}
use Rattle.checker.proofs.Onwards.{direct_up}
use Rattle.checker.proofs.Elements.{element_no, element_gap_no, element_last, comma_gap_no, comma_last, comma_next}
use Rattle.checker.proofs.list.elements.Goals as goal

pub kid-requires : goal.kid-requires
kid-requires c = seated c.loop-first.invariant.direct

pub returns-then-not-kid : goal.returns-then-not-kid
returns-then-not-kid c = element_no c.loop-first.invariant c.requires.1 c.inner-depth.ensures c.kid.ensures c.if-not-kid.true

pub returns-in_default : goal.returns-in_default
returns-in_default c = element_gap_no c.loop-first.invariant c.requires.1 c.inner-depth.ensures c.kid.ensures c.if-not-kid.false c.next-j.ensures c.end-q.ensures.0 c.in_default.ensures (numbered _)

pub returns-then-byte_at-ne44 : goal.returns-then-byte_at-ne44
returns-then-byte_at-ne44 c = element_last c.loop-first.invariant c.requires.1 c.inner-depth.ensures c.kid.ensures c.if-not-kid.false c.next-j.ensures c.end-q.ensures.0 c.in-Ok.ensures refl (λ e. c.if-byte_at-ne44.true (c.byte_at.ensures.is ∙ e)) c.last.ensures

pub returns-in_default-space : goal.returns-in_default-space
returns-in_default-space c = comma_gap_no c.loop-first.invariant c.requires.1 c.inner-depth.ensures c.kid.ensures c.if-not-kid.false c.next-j.ensures c.end-q.ensures.0 c.in-Ok.ensures refl (sym c.byte_at.ensures.is ∙ c.if-byte_at-ne44.false) c.in_default-space.ensures (numbered _)

pub returns-then-e-at : goal.returns-then-e-at
returns-then-e-at c = comma_last c.loop-first.invariant c.requires.1 c.inner-depth.ensures c.kid.ensures c.if-not-kid.false c.next-j.ensures c.end-q.ensures.0 c.in-Ok.ensures refl (sym c.byte_at.ensures.is ∙ c.if-byte_at-ne44.false) c.in-Ok-space.ensures c.requires.2 refl c.mark_end-e.ensures c.if-e-at.true c.ends.ensures

pub loop-first-smaller : goal.loop-first-smaller
loop-first-smaller c = let u = direct_up c.loop-first.invariant.direct (c.kid.ensures.inside c.if-not-kid.false) c.next-j.ensures in omega (arith, u.0, u.1)

pub loop-first-preserved : goal.loop-first-preserved
loop-first-preserved c = comma_next c.loop-first.invariant c.requires.1 c.inner-depth.ensures c.kid.ensures c.if-not-kid.false c.next-j.ensures c.end-q.ensures.0 c.in-Ok.ensures refl (sym c.byte_at.ensures.is ∙ c.if-byte_at-ne44.false) c.in-Ok-space.ensures c.requires.2 refl c.mark_end-e.ensures c.if-e-at.false
