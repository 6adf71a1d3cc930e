use native.Mathlib.Omega.{arith}
use Rattle.checker.proofs.Lays.{chain_le, next_of}
use Rattle.checker.proofs.TextTurns.{turn_start, do_shut, do_strand_no, do_strand}
use Rattle.checker.proofs.texts.texts.Goals as goal

pub loop-j-init : goal.loop-j-init
loop-j-init c = (c.requires.0, c.requires.1, turn_start _ _ _ _ _ _ _ _ (c.requires.0.js) (c.requires.0.chain), chain_le _ _ (c.requires.0.js) _ (c.requires.0.chain))

pub returns-then-j-site : goal.returns-then-j-site
returns-then-j-site c = do_shut _ _ _ _ _ _ _ _ (c.loop-j.invariant.2) (c.loop-j.invariant.0.mode) _ c.end.ensures.0 (c.if-j-site.true) (c.shuts.ensures)

pub returns-then-not-strand : goal.returns-then-not-strand
returns-then-not-strand c = do_strand_no _ _ _ _ _ _ _ _ (c.loop-j.invariant.2) (c.loop-j.invariant.0.mode) c.if-not-strand.true (c.if-j-site.false) (chain_le _ _ (c.loop-j.invariant.2.js) _ (c.loop-j.invariant.2.chain)) (c.strand.ensures)

pub loop-j-smaller : goal.loop-j-smaller
loop-j-smaller c = let z = chain_le _ _ (c.loop-j.invariant.2.js) _ (c.loop-j.invariant.2.chain) in let y = next_of _ _ (c.loop-j.invariant.2.js) _ (c.loop-j.invariant.2.chain) (omega (arith, z, c.if-j-site.false)) in omega (arith, y.up, y.far, c.next-j.ensures)

pub loop-j-preserved : goal.loop-j-preserved
loop-j-preserved c = (c.loop-j.invariant.0, omega (arith, c.end-q.ensures.1), do_strand _ _ _ _ _ _ _ _ (c.loop-j.invariant.2) (c.loop-j.invariant.0.mode) c.if-not-strand.false (c.if-j-site.false) (chain_le _ _ (c.loop-j.invariant.2.js) _ (c.loop-j.invariant.2.chain)) (omega (arith, c.loop-j.invariant.0.deep, c.loop-j.invariant.2.long)) (c.strand.ensures) (c.end-q.ensures.0) (c.next-j.ensures), (let z = c.loop-j.invariant.3 in let y = next_of _ _ (c.loop-j.invariant.2.js) _ (c.loop-j.invariant.2.chain) (omega (arith, z, c.if-j-site.false)) in omega (arith, y.far, c.next-j.ensures)))
