use native.Mathlib.Omega.{arith}
use mathlib.Core.Path.{refl, ◌∙◌}
use Rattle.grammar.proofs.Refusals.{numbered}
use Rattle.checker.proofs.Tolds.{told_on}
use Rattle.checker.proofs.Lones.{known_nothing}
use Rattle.checker.proofs.Objects.{after_as, object_deep, object_no, object_gap_no, object_empty, object_first, ahead_passing, object_item, object_item_no, object_up, object_more, object_open, object_end}
use Rattle.checker.proofs.object.object.Goals as goal

pub returns-then-site-lt2 : goal.returns-then-site-lt2
returns-then-site-lt2 c = (object_deep _ _ _ _ _ _ _ _ _ c.requires.0 c.requires.1 (omega (arith, c.if-site-lt2.true)), c.requires.2.key)

pub returns-then-b-p : goal.returns-then-b-p
returns-then-b-p c = (object_no _ _ _ _ _ _ _ _ _ c.requires.0 c.requires.1 (λ e. omega (arith, e, c.if-site-lt2.false)) c.mark_end-b.ensures c.if-b-p.true, c.requires.2.key)

pub returns-in_default : goal.returns-in_default
returns-in_default c = (object_gap_no _ _ _ _ _ _ _ _ _ c.requires.0 c.requires.1 (λ e. omega (arith, e, c.if-site-lt2.false)) c.mark_end-b.ensures c.if-b-p.false c.in_default.ensures (numbered _), c.requires.2.key)

pub returns-then-e-at : goal.returns-then-e-at
returns-then-e-at c = (object_empty _ _ _ _ _ _ _ _ _ c.requires.0 c.requires.1 (λ e. omega (arith, e, c.if-site-lt2.false)) c.mark_end-b.ensures c.if-b-p.false c.in-Ok.ensures refl c.mark_end-e.ensures c.if-e-at.true c.ends.ensures, c.requires.2.key)

pub loop-c-init : goal.loop-c-init
loop-c-init c = (object_first _ _ _ _ _ _ _ _ _ c.requires.0 c.requires.1 (λ e. omega (arith, e, c.if-site-lt2.false)) c.mark_end-b.ensures c.if-b-p.false c.in-Ok.ensures refl c.mark_end-e.ensures c.if-e-at.false, c.requires.0, refl, known_nothing _ _, refl, c.requires.2)

pub pass-requires : goal.pass-requires
pass-requires c = ahead_passing _ _ _ _ _ _ _ _ _ c.loop-c.invariant.0 c.loop-c.invariant.1 c.loop-c.invariant.2 c.token_at-t.ensures c.alone-key.ensures

pub returns-in_default-pass : goal.returns-in_default-pass
returns-in_default-pass c = (object_item_no _ _ _ _ _ _ _ _ _ c.in_default-pass.ensures c.loop-c.invariant.0 c.loop-c.invariant.1.deep refl, c.loop-c.invariant.5.key)

pub returns-in-Some-Closed : goal.returns-in-Some-Closed
returns-in-Some-Closed c = (object_end _ _ _ _ _ _ _ _ _ (object_item _ _ _ _ _ _ _ _ _ c.in-Some.ensures c.loop-c.invariant.0 c.loop-c.invariant.1.deep refl) (after_as c.in-Some-Closed.field-0-is c.in-Some-Closed.ensures) refl c.ends-in-Some-Closed.ensures, told_on c.loop-c.invariant.5.key c.token_at-t.ensures c.alone-key.ensures c.tell.ensures)

pub returns-in-None : goal.returns-in-None
returns-in-None c = (object_open _ _ _ _ _ _ _ _ _ (object_item _ _ _ _ _ _ _ _ _ c.in-Some.ensures c.loop-c.invariant.0 c.loop-c.invariant.1.deep refl) c.in-None.ensures (λ z. omega (arith, z)) (λ z. omega (arith, z)), told_on c.loop-c.invariant.5.key c.token_at-t.ensures c.alone-key.ensures c.tell.ensures)

pub loop-c-smaller : goal.loop-c-smaller
loop-c-smaller c = let u = object_up _ _ _ _ _ _ _ _ _ c.in-Some.ensures c.loop-c.invariant.0 refl in omega (arith, u.0, u.1)

pub loop-c-preserved : goal.loop-c-preserved
loop-c-preserved c = (
  object_more _ _ _ _ _ _ _ _ _ (object_item _ _ _ _ _ _ _ _ _ c.in-Some.ensures c.loop-c.invariant.0 c.loop-c.invariant.1.deep refl) (after_as c.in-Some-Next.field-0-is c.in-Some-Next.ensures) refl,
  c.loop-c.invariant.1,
  c.in-Some.ensures.room ∙ c.loop-c.invariant.2,
  c.alone-key.ensures.known,
  c.tell.ensures.long ∙ c.loop-c.invariant.4,
  record { room = omega (arith, c.tell.ensures.long, c.loop-c.invariant.5.room); key = told_on c.loop-c.invariant.5.key c.token_at-t.ensures c.alone-key.ensures c.tell.ensures },
)
