use Prim.Native.Nat.{◌+◌}
use native.Mathlib.Omega.{arith}
use mathlib.Core.Path.{◌≡◌}
use Rattle.lexis.proofs.Blocks.{part_over, part_inside}
use Rattle.index.proofs.Marks.{wording_start, wording_more, wording_end, word_within, part_here}
use Rattle.index.proofs.mark.word_to.Goals as goal

pub slice_bounds-b-items-end : goal.slice_bounds-b-items-end
slice_bounds-b-items-end c = omega (arith, word_within c.requires)

pub loop-b-init : goal.loop-b-init
loop-b-init c = let z : c.args.p + 0 ≡ c.args.p = omega arith in rw z (wording_start c.args.s.now c.args.p c.args.e c.requires)

pub loop-b-preserved : goal.loop-b-preserved
loop-b-preserved c =
    let h = (word_within c.requires).1 in
    let z : c.args.p + (c.loop-b.b-index + 1) ≡ c.args.p + c.loop-b.b-index + 1 = omega arith in
    rw z
    (wording_more c.loop-b.invariant (part_inside c.args.s.now c.args.p c.args.e c.loop-b.b-index h c.loop-b-test.true)
    (part_here c.args.s.now c.args.p c.args.e c.loop-b.b-index h c.loop-b-test.true c.from.ensures (λ i. omega (arith, c.type_inv.s i))) c.mix-m.ensures)

pub returns : goal.returns
returns c = wording_end c.loop-b.invariant c.requires (part_over c.args.s.now c.args.p c.args.e c.loop-b.b-index (word_within c.requires).1 c.loop-b-test.false)
