use mathlib.Core.List.{[], ◌∷◌}
use mathlib.Core.Path.{refl, sym, ◌∙◌}
use native.Mathlib.Omega.{arith}
use Rattle.lexis.specs.RunLaws.{stands_inside}
use Rattle.grammar.proofs.Refusals.{numbered, handed_on}
use Rattle.checker.proofs.Goings.{closing_no, closing_here, closing_stuck, closing_past}
use Rattle.checker.proofs.moves.closing.Goals as goal

pub returns-in_err-at : goal.returns-in_err-at
returns-in_err-at c = rw (handed_on c.from_residual.result c.in_err-at.field-0.0 c.from_residual.ensures.1) (closing_no c.in_err-at.ensures (numbered _))

pub overflow_add-result : goal.overflow_add-result
overflow_add-result c = omega (arith, stands_inside (125 ∷ []) c.args.s.now c.in_ok-at.at (sym c.one_at.ensures ∙ c.if-one_at.true))

pub returns-then-one_at : goal.returns-then-one_at
returns-then-one_at c = closing_here c.in_ok-at.ensures refl (sym c.one_at.ensures ∙ c.if-one_at.true) refl

pub returns-in_err-w : goal.returns-in_err-w
returns-in_err-w c = rw (handed_on c.from_residual-in_err-w.result c.in_err-w.field-0.0 c.from_residual-in_err-w.ensures.1) (closing_stuck c.in_ok-at.ensures refl c.in_err-w.ensures (sym c.one_at.ensures ∙ c.if-one_at.false) (numbered _))

pub returns : goal.returns
returns c = closing_past c.in_ok-at.ensures refl c.in_ok-w.ensures (sym c.one_at.ensures ∙ c.if-one_at.false) refl c.mark_end.ensures c.past.ensures
