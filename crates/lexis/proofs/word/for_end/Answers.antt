use Rattle.lexis.specs.RunLaws.{stands_inside}
use Rattle.lexis.specs.Word.{for'}
use borrow.Author.Tests.{not-false}
use mathlib.Core.Path.{sym, ◌∙◌}
use native.Mathlib.Omega.{arith}
use Rattle.lexis.proofs.word.for_end.Goals as goal

pub overflow_add-p : goal.overflow_add-p
overflow_add-p c = let a = c.args in
    omega (arith, stands_inside for' a.s.now a.p (sym c.all_at.ensures ∙ not-false _ c.if-not-all_at.false-raw))
