use Rattle.lexis.proofs.Operators.{marked, lone}
use Rattle.lexis.specs.RunLaws.{stands_inside}
use borrow.Author.Tests.{not-false}
use mathlib.Core.List.{[], ◌∷◌}
use mathlib.Core.Path.{sym, ◌∙◌}
use native.Mathlib.Omega.{arith}
use Rattle.lexis.proofs.operator.lone_end.Goals as goal

pub overflow_add-p : goal.overflow_add-p
overflow_add-p c = let a = c.args in
    omega (arith, stands_inside (a.a ∷ []) a.s.now a.p (sym c.one_at.ensures ∙ not-false _ c.if-not-one_at.false-raw))

pub overflow_add-result : goal.overflow_add-result
overflow_add-result c = let a = c.args in
    omega (arith, stands_inside (a.a ∷ []) a.s.now a.p (sym c.one_at.ensures ∙ not-false _ c.if-not-one_at.false-raw))

pub returns-then-one_at : goal.returns-then-one_at
returns-then-one_at c = let a = c.args in
    marked (a.a ∷ []) ((a.a ∷ a.b ∷ []) ∷ []) a.s.now a.p (sym (lone a.a a.b a.s.now a.p (omega (arith, c.ranges.a)) (sym c.one_at.ensures ∙ not-false _ c.if-not-one_at.false-raw) (sym c.one_at-2.ensures ∙ c.if-one_at.true)))

pub returns-else-one_at : goal.returns-else-one_at
returns-else-one_at c = let a = c.args in
    marked (a.a ∷ []) ((a.a ∷ a.b ∷ []) ∷ []) a.s.now a.p (sym (lone a.a a.b a.s.now a.p (omega (arith, c.ranges.a)) (sym c.one_at.ensures ∙ not-false _ c.if-not-one_at.false-raw) (sym c.one_at-2.ensures ∙ c.if-one_at.false)))
