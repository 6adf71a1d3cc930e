use native.Mathlib.Omega.{arith}
use mathlib.Core.Path.{refl, sym, ◌∙◌}
use mathlib.Core.List.{[], ◌∷◌}
use Rattle.lexis.specs.RunLaws.{stands_inside}
use Rattle.grammar.proofs.Refusals.{numbered}
use Rattle.checker.proofs.Goings.{after_no, after_brace, after_none, stop_other}
use Rattle.checker.proofs.Afters.{line_ended}
use Rattle.checker.proofs.moves.after.Goals as goal

pub overflow_add-p : goal.overflow_add-p
overflow_add-p c = omega (arith, stands_inside (10 ∷ []) c.args.s.now c.args.p (sym c.one_at.ensures ∙ c.if-one_at.true))

pub over-requires : goal.over-requires
over-requires c = line_ended c.args.s.now c.args.p (sym c.one_at.ensures ∙ c.if-one_at.true)

pub returns-in_default : goal.returns-in_default
returns-in_default c = after_no c.in_default.ensures (numbered _)

pub overflow_add-result : goal.overflow_add-result
overflow_add-result c = omega (arith, stands_inside (125 ∷ []) c.args.s.now c.in-Ok.at (sym c.one_at-2.ensures ∙ c.if-one_at-2.true))

pub returns-then-one_at-2 : goal.returns-then-one_at-2
returns-then-one_at-2 c = after_brace c.in-Ok.ensures refl (sym c.one_at-2.ensures ∙ c.if-one_at-2.true)

pub returns-in_default-terminator : goal.returns-in_default-terminator
returns-in_default-terminator c = after_none c.in-Ok.ensures refl (sym c.one_at-2.ensures ∙ c.if-one_at-2.false) c.terminator.ensures (stop_other _ _ c.in_default-terminator.not-End)
