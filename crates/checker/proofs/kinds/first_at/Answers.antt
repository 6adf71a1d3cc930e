use mathlib.Core.Path.{◌∙◌}
use Rattle.checker.proofs.Callings.{some_is, first_none, first_dollar, first_always, first_key, first_part, first_term}
use Rattle.std.proofs.Common.{inl, inr, arith}
use Rattle.checker.proofs.kinds.first_at.Goals as goal
use Rattle.checker.proofs.kinds.first_at.Goals.{in_default-via-then-kind-lt38, in_default-via-else-kind-lt38+else-kind-lt43}

pub returns-in-0 : goal.returns-in-0
returns-in-0 c = first_none _ _ _ c.in-0.is

pub returns-in-10 : goal.returns-in-10
returns-in-10 c = first_dollar _ _ _ c.in-10.is c.two_at.ensures

pub returns-in-13 : goal.returns-in-13
returns-in-13 c = first_always _ _ _ c.in-13.is

pub returns-in-14 : goal.returns-in-14
returns-in-14 c = rw (c.eq.ensures ∙ some_is c.term_at.result 5 (λ e. omega arith)) (first_key _ _ _ c.in-14.is c.term_at.ensures.kind)

pub returns-in-38-to-42 : goal.returns-in-38-to-42
returns-in-38-to-42 c = rw (c.eq-in-38-to-42.ensures ∙ some_is c.part_at.result c.args.kind (λ e. omega (arith, c.in-38-to-42.if-kind-lt38-own.false))) (first_part _ _ _ c.in-38-to-42.if-kind-lt38-own.false c.in-38-to-42.if-kind-lt43-own.true c.part_at.ensures.kind)

pub returns-in_default : goal.returns-in_default
returns-in_default c = rw (c.eq-in_default.ensures ∙ some_is c.term_at-in_default.result c.args.kind (λ e. omega arith)) (first_term _ _ _ c.in_default-1.rest.0.0.0.1 c.in_default-1.rest.0.0.1 c.in_default-1.rest.0.1 c.in_default-1.rest.1 (elim c.in_default.branch [ in_default-via-then-kind-lt38 w ↦ inl (omega arith) | in_default-via-else-kind-lt38+else-kind-lt43 w ↦ inr (omega arith) ]) c.term_at-in_default.ensures.kind)
