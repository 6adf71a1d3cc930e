use native.Mathlib.Omega.{arith}
use Rattle.lexis.specs.String.{quoted_of, from_of, to_of, mode_from}
use Rattle.lexis.proofs.Writes.{write_start, write_more, write_end, ahead_of, ahead_ok, turn, run_ends, run_counts}
use Rattle.lexis.proofs.string.write.Goals as goal

pub loop-i-init : goal.loop-i-init
loop-i-init c = write_start (mode_from c.args.s.now c.args.round) c.args.s.now c.args.p c.args.at c.args.buf.now

pub unwrap-u-requires : goal.unwrap-u-requires
unwrap-u-requires c = ahead_ok (ahead_of c.args.s.now (quoted_of c.args.round) (from_of c.args.round) (to_of c.args.round) c.loop-i.invariant (omega (arith, run_ends c.run_at-r.ensures, c.loop-i-test.true))) _ (rw c.is_quoted.ensures at c.unit_at.ensures)

pub put-requires : goal.put-requires
put-requires c = omega (arith, turn (ahead_of c.args.s.now (quoted_of c.args.round) (from_of c.args.round) (to_of c.args.round) c.loop-i.invariant (omega (arith, run_ends c.run_at-r.ensures, c.loop-i-test.true))) c.loop-i.invariant (rw c.is_quoted.ensures at c.unit_at.ensures) c.unwrap-u.ensures, run_counts c.run_at-r.ensures, c.if-buf-at.false, c.if-buf-at-2.false, c.loop-i.invariant.long)

pub loop-i-preserved : goal.loop-i-preserved
loop-i-preserved c = rw c.from-j.ensures (write_more (ahead_of c.args.s.now (quoted_of c.args.round) (from_of c.args.round) (to_of c.args.round) c.loop-i.invariant (omega (arith, run_ends c.run_at-r.ensures, c.loop-i-test.true))) c.loop-i.invariant (rw c.is_quoted.ensures at c.unit_at.ensures) c.unwrap-u.ensures (λ x. omega (arith, c.shared_slice_known-1.given x)) (omega (arith, run_counts c.run_at-r.ensures, c.if-buf-at.false, c.if-buf-at-2.false)) c.put.ensures c.put.auto.buf)

pub returns : goal.returns
returns c = write_end c.loop-i.invariant (omega (arith, run_counts c.run_at-r.ensures, c.if-buf-at.false, c.if-buf-at-2.false)) (omega (arith, run_ends c.run_at-r.ensures, c.loop-i-test.false))
