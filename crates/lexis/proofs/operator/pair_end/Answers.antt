use Rattle.lexis.proofs.Operators.{mark_by_lem, marked}
use Rattle.lexis.specs.RunLaws.{stands_inside}
use mathlib.Core.List.{[], ◌∷◌}
use mathlib.Core.Path.{refl, sym, ◌∙◌}
use native.Mathlib.Omega.{arith}
use Rattle.lexis.proofs.operator.pair_end.Goals as goal

pub overflow_add-result : goal.overflow_add-result
overflow_add-result c = let a = c.args in
    omega (arith, stands_inside (a.a ∷ a.b ∷ []) a.s.now a.p (sym c.two_at.ensures ∙ c.if-two_at.true))

pub returns-then-two_at : goal.returns-then-two_at
returns-then-two_at c = let a = c.args in
    marked (a.a ∷ a.b ∷ []) [] a.s.now a.p (sym (mark_by_lem (a.a ∷ a.b ∷ []) [] a.s.now a.p (sym c.two_at.ensures ∙ c.if-two_at.true) refl))
