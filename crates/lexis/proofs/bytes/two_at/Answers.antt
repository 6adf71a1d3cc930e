use Rattle.lexis.specs.RunLaws.{stands_inside, stands_on, stands_off}
use mathlib.Core.List.{[], ◌∷◌}
use mathlib.Core.Path.{sym, ◌∙◌}
use native.Mathlib.Omega.{arith}
use Rattle.lexis.proofs.bytes.two_at.Goals as goal

pub overflow_add-p : goal.overflow_add-p
overflow_add-p c = let a = c.args in
    omega (arith, stands_inside (a.a ∷ []) a.s.now a.p (sym c.one_at.ensures ∙ c.if-one_at.true))

pub returns-then-one_at : goal.returns-then-one_at
returns-then-one_at c = let a = c.args in
    stands_on a.a (a.b ∷ []) a.s.now a.p (omega (arith, c.ranges.a)) (sym c.one_at.ensures ∙ c.if-one_at.true) c.one_at-then-one_at.ensures

pub returns-else-one_at : goal.returns-else-one_at
returns-else-one_at c = let a = c.args in
    c.if-one_at.false ∙ sym (stands_off a.a (a.b ∷ []) a.s.now a.p (omega (arith, c.ranges.a)) (sym c.one_at.ensures ∙ c.if-one_at.false))
