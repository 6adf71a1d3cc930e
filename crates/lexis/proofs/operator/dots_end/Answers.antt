use Rattle.lexis.proofs.Operators.{mark_by_lem, marked}
use Rattle.lexis.specs.RunLaws.{stands_inside}
use mathlib.Core.List.{[], ◌∷◌}
use mathlib.Core.Path.{refl, sym, ◌∙◌}
use native.Mathlib.Omega.{arith}
use Rattle.lexis.proofs.operator.dots_end.Goals as goal

pub overflow_add-result : goal.overflow_add-result
overflow_add-result c = let a = c.args in
    omega (arith, stands_inside (46 ∷ 46 ∷ 46 ∷ []) a.s.now a.p (sym c.all_at.ensures ∙ c.if-all_at.true))

pub returns-then-all_at : goal.returns-then-all_at
returns-then-all_at c = let a = c.args in
    marked (46 ∷ 46 ∷ 46 ∷ []) [] a.s.now a.p (sym (mark_by_lem (46 ∷ 46 ∷ 46 ∷ []) [] a.s.now a.p (sym c.all_at.ensures ∙ c.if-all_at.true) refl))
