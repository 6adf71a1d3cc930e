use mathlib.Core.List.{[], ◌∷◌}
use mathlib.Core.Path.{refl, ap, sym, ◌∙◌}
use native.Mathlib.Omega.{arith}
use Rattle.lexis.specs.RunLaws.{stands_inside}
use borrow.Author.Tests.{not-true, not-false}
use Rattle.grammar.specs.Said.{refused}
use Rattle.grammar.proofs.Refusals.{numbered, handed_on}
use Rattle.grammar.proofs.Leaves.{call_opens, call_stuck, call_named}
use Rattle.grammar.proofs.moves.call.Goals as goal

pub returns-then-not-two_at : goal.returns-then-not-two_at
returns-then-not-two_at c = call_opens (sym c.two_at.ensures ∙ not-true _ c.if-not-two_at.true-raw) c.mark_end.ensures c.enter.ensures

pub overflow_add-p : goal.overflow_add-p
overflow_add-p c = omega (arith, stands_inside (58 ∷ 58 ∷ []) c.args.s.now c.args.p (sym c.two_at.ensures ∙ not-false _ c.if-not-two_at.false-raw))

pub returns-in_err-at : goal.returns-in_err-at
returns-in_err-at c = rw (handed_on c.from_residual.result c.in_err-at.field-0.0 c.from_residual.ensures.1) (call_stuck (sym c.two_at.ensures ∙ not-false _ c.if-not-two_at.false-raw) c.in_err-at.ensures (numbered _))

pub returns : goal.returns
returns c = call_named (sym c.two_at.ensures ∙ not-false _ c.if-not-two_at.false-raw) c.in_ok-at.ensures refl (ap refused c.at.ensures)
