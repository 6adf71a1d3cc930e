-- The loop keeps that the greatest byte is the greater of m and what is left of the block.
use Prim.Native.Nat.{ℕ, ◌+◌, ◌-◌, ◌<◌, max}
use lib.ListN.{take, drop}
use mathlib.Core.Path.{sym, ap, ◌∙◌}
use native.Mathlib.Omega.{arith}
use Rattle.lexis.specs.Utf8.{greatest}
use Rattle.lexis.proofs.Blocks.{greatest_on, greatest_end, part_over, part_inside, part_read}
use Rattle.lexis.proofs.utf8.highest.Goals as goal

pub loop-b-preserved : goal.loop-b-preserved
loop-b-preserved c =
    let a = c.args in
    let l = c.loop-b in
    let k : a.p + l.b-index < a.p + 64 = part_inside a.s.now a.p (a.p + 64) l.b-index c.requires c.loop-b-test.true in
    ap (λ (x : ℕ). max x (greatest (take (64 - (l.b-index + 1)) (drop (a.p + (l.b-index + 1)) a.s.now))))
    (c.max-m.ensures ∙ ap (max l.m) (part_read a.s.now a.p (a.p + 64) l.b-index c.requires c.loop-b-test.true))
    ∙ greatest_on a.s.now a.p l.b-index l.m (omega arith) (omega arith)
    ∙ l.invariant

pub returns : goal.returns
returns c =
    let a = c.args in
    sym (greatest_end a.s.now a.p c.loop-b.b-index c.loop-b.m (omega (arith, part_over a.s.now a.p (a.p + 64) c.loop-b.b-index c.requires c.loop-b-test.false))) ∙ c.loop-b.invariant
