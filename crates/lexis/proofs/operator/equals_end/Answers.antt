use Rattle.lexis.proofs.Operators.{marked, equals_off, equals_on}
use Rattle.lexis.specs.RunLaws.{stands_inside}
use borrow.Author.Tests.{not-false}
use mathlib.Core.List.{[], ◌∷◌}
use mathlib.Core.Path.{refl, sym, ◌∙◌}
use native.Mathlib.Omega.{arith}
use Rattle.lexis.proofs.operator.equals_end.Goals as goal

pub overflow_add-p : goal.overflow_add-p
overflow_add-p c = let a = c.args in
    omega (arith, stands_inside (61 ∷ []) a.s.now a.p (sym c.one_at.ensures ∙ not-false _ c.if-not-one_at.false-raw))

pub returns-then-b-eq62 : goal.returns-then-b-eq62
returns-then-b-eq62 c = let a = c.args in
    marked (61 ∷ []) ((61 ∷ 62 ∷ []) ∷ (61 ∷ 61 ∷ []) ∷ []) a.s.now a.p (sym (equals_off a.s.now a.p (sym c.one_at.ensures ∙ not-false _ c.if-not-one_at.false-raw) 62 refl (sym c.byte_at-b.ensures.is ∙ c.if-b-eq62.true)))

pub overflow_add-result : goal.overflow_add-result
overflow_add-result c = let a = c.args in
    omega (arith, stands_inside (61 ∷ []) a.s.now a.p (sym c.one_at.ensures ∙ not-false _ c.if-not-one_at.false-raw))

pub returns-then-b-eq61 : goal.returns-then-b-eq61
returns-then-b-eq61 c = let a = c.args in
    marked (61 ∷ []) ((61 ∷ 62 ∷ []) ∷ (61 ∷ 61 ∷ []) ∷ []) a.s.now a.p (sym (equals_off a.s.now a.p (sym c.one_at.ensures ∙ not-false _ c.if-not-one_at.false-raw) 61 refl (sym c.byte_at-b.ensures.is ∙ c.if-b-eq61.true)))

pub returns-else-b-eq61 : goal.returns-else-b-eq61
returns-else-b-eq61 c = let a = c.args in
    marked (61 ∷ []) ((61 ∷ 62 ∷ []) ∷ (61 ∷ 61 ∷ []) ∷ []) a.s.now a.p (sym (equals_on a.s.now a.p (sym c.one_at.ensures ∙ not-false _ c.if-not-one_at.false-raw) (λ e. c.if-b-eq62.false (c.byte_at-b.ensures.is ∙ e)) (λ e. c.if-b-eq61.false (c.byte_at-b.ensures.is ∙ e))))
