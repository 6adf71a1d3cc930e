-- The loop keeps the place at which trivia ends.
use Rattle.lexis.specs.RunLaws.{here}
use Rattle.lexis.proofs.Trivias.{gap_stop, gap_open, gap_on, gap_space, gap_other, gapped}
use Rattle.lexis.specs.Trivia.{opens_comment}
use borrow.Author.Tests.{not-true}
use mathlib.Core.Path.{sym, ap, ◌∙◌}
use native.Mathlib.Omega.{arith}
use Rattle.lexis.proofs.trivia.skip.Goals as goal

pub loop-i-preserved-then-b-eq32 : goal.loop-i-preserved-then-b-eq32
loop-i-preserved-then-b-eq32 c = (
  omega arith,
  omega (arith, here c.args.s.now c.loop-i.i, c.byte_at-b.ensures.is, c.if-b-eq32.true),
  gap_space c.args.lines c.args.s.now c.loop-i.i (sym c.byte_at-b.ensures.is ∙ c.if-b-eq32.true) ∙ c.loop-i.invariant.2,
)

-- a byte that starts no trivia
pub returns-then-not-opens : goal.returns-then-not-opens
returns-then-not-opens c = gapped _ (gap_other c.args.lines c.args.s.now c.loop-i.i (omega (arith, c.if-b-gt32.true, c.byte_at-b.ensures.is)) (ap opens_comment (sym c.byte_at-b.ensures.is) ∙ sym c.opens.ensures ∙ not-true _ c.if-not-opens.true-raw) ∙ c.loop-i.invariant.2)

-- what may be a comment
pub returns-then-c-i : goal.returns-then-c-i
returns-then-c-i c = gapped _ (gap_stop _ _ _ c.in_ok-c.ensures.is c.if-c-i.true ∙ c.loop-i.invariant.2)

pub returns-in_err-c : goal.returns-in_err-c
returns-in_err-c c = gapped _ (gap_open _ _ _ _ _ c.from_residual.ensures.1 c.in_err-c.ensures.is ∙ c.loop-i.invariant.2)

pub loop-i-preserved-then-b-gt32 : goal.loop-i-preserved-then-b-gt32
loop-i-preserved-then-b-gt32 c =
    (omega (arith, c.in_ok-c.ensures.low), omega (arith, c.in_ok-c.ensures.high), gap_on c.args.lines c.args.s.now c.loop-i.i c.in_ok-c.ensures.is c.if-c-i.false c.in_ok-c.ensures.low c.in_ok-c.ensures.high ∙ c.loop-i.invariant.2)

-- a tab, or what may be a line ending
pub returns-then-g-i : goal.returns-then-g-i
returns-then-g-i c = gapped _ (gap_stop _ _ _ c.in_ok-g.ensures.is c.if-g-i.true ∙ c.loop-i.invariant.2)

pub returns-in_err-g : goal.returns-in_err-g
returns-in_err-g c = gapped _ (gap_open _ _ _ _ _ c.from_residual-in_err-g.ensures.1 c.in_err-g.ensures.is ∙ c.loop-i.invariant.2)

pub loop-i-preserved : goal.loop-i-preserved
loop-i-preserved c =
    (omega (arith, c.in_ok-g.ensures.low), omega (arith, c.in_ok-g.ensures.high), gap_on c.args.lines c.args.s.now c.loop-i.i c.in_ok-g.ensures.is c.if-g-i.false c.in_ok-g.ensures.low c.in_ok-g.ensures.high ∙ c.loop-i.invariant.2)
