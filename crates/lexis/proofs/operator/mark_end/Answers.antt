use Rattle.lexis.proofs.Operators.{mark_by_lem, marked}
use Rattle.lexis.specs.RunLaws.{stands_inside}
use mathlib.Core.List.{[], ◌∷◌}
use mathlib.Core.Path.{refl, sym, ◌∙◌}
use native.Mathlib.Omega.{arith}
use Rattle.lexis.proofs.operator.mark_end.Goals as goal

pub overflow_add-result : goal.overflow_add-result
overflow_add-result c = let a = c.args in
    omega (arith, stands_inside (a.b ∷ []) a.s.now a.p (sym c.one_at.ensures ∙ c.if-one_at.true))

pub returns-then-one_at : goal.returns-then-one_at
returns-then-one_at c = let a = c.args in
    marked (a.b ∷ []) [] a.s.now a.p (sym (mark_by_lem (a.b ∷ []) [] a.s.now a.p (sym c.one_at.ensures ∙ c.if-one_at.true) refl))
