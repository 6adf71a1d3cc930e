-- Both loops keep that the bytes before the place are good.
use mathlib.Core.Path.{◌∙◌, sym}
use native.Mathlib.Omega.{arith}
use lib.ListN.{drop}
use Rattle.lexis.proofs.Blocks.{block_inside, block_on}
use Rattle.lexis.proofs.Sequences.{nonzero_none, nonzero_some, sequence_high, good_on, good_stop}
use Rattle.lexis.proofs.utf8.first_bad.Goals as goal

pub loop-i-preserved-then-ascii_at : goal.loop-i-preserved-then-ascii_at
loop-i-preserved-then-ascii_at c = (block_inside c.args.s.now c.loop-i.i (sym c.ascii_at.ensures ∙ c.if-ascii_at.true), block_on c.args.s.now c.loop-i.i (sym c.ascii_at.ensures ∙ c.if-ascii_at.true) ∙ c.loop-i.invariant.1)

pub returns-in_default : goal.returns-in_default
returns-in_default c = record {
  is = omega (arith, good_stop (drop c.loop-n.i c.args.s.now) (nonzero_none (sym c.width.ensures ∙ c.in_default.is)));
  high = omega arith;
}

pub overflow_add-i-in-loop-n : goal.overflow_add-i-in-loop-n
overflow_add-i-in-loop-n c = let v = nonzero_some (sym c.width.ensures ∙ c.in-Some.is) in omega (arith, v.0, sequence_high c.args.s.now c.loop-n.i)

pub loop-n-preserved : goal.loop-n-preserved
loop-n-preserved c =
    let v = nonzero_some (sym c.width.ensures ∙ c.in-Some.is) in (
      omega (arith, v.1),
      omega (arith, v.0, sequence_high c.args.s.now c.loop-n.i),
      good_on c.args.s.now c.loop-n.i c.in-Some.w v.0 v.1 ∙ c.loop-n.invariant.2,
    )
