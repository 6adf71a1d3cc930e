-- The loop keeps that what is left of w stands behind what was passed.
use Prim.Native.Nat.{◌+◌}
use Rattle.lexis.specs.RunLaws.{stands_inside}
use Rattle.lexis.proofs.Runs.{all_start, all_more, all_end, all_fails}
use lib.ListN.{get_or}
use mathlib.Core.List.{[], ◌∷◌}
use mathlib.Core.Path.{sym, ◌∙◌}
use native.Mathlib.Omega.{arith}
use Rattle.lexis.proofs.bytes.all_at.Goals as goal

pub loop-i-init : goal.loop-i-init
loop-i-init c = let a = c.args in
    (omega arith, all_start a.w.now a.s.now a.p)

pub overflow_add-p : goal.overflow_add-p
overflow_add-p c = omega arith

pub returns-then-not-one_at : goal.returns-then-not-one_at
returns-then-not-one_at c = let a = c.args in
    sym (all_fails a.w.now a.s.now a.p c.loop-i.i c.loop-i-test.true (c.type_inv.w c.loop-i.i).fits (sym c.one_at.ensures ∙ c.if-not-one_at.true) c.loop-i.invariant.1)

pub loop-i-preserved : goal.loop-i-preserved
loop-i-preserved c = let a = c.args in
    (omega (arith, stands_inside (get_or a.w.now c.loop-i.i 0 ∷ []) a.s.now (a.p + c.loop-i.i) (sym c.one_at.ensures ∙ c.if-not-one_at.false)), all_more a.w.now a.s.now a.p c.loop-i.i c.loop-i-test.true (c.type_inv.w c.loop-i.i).fits (sym c.one_at.ensures ∙ c.if-not-one_at.false) ∙ c.loop-i.invariant.1)

pub returns : goal.returns
returns c = let a = c.args in
    sym (all_end a.w.now a.s.now a.p c.loop-i.i c.loop-i-test.false c.loop-i.invariant.1)
