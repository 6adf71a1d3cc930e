-- The loop keeps the end of the run of bytes that are text as they stand.
use Rattle.lexis.specs.String.{plain_in}
use Rattle.lexis.proofs.Runs.{tested, running_on, running_stop, running_end}
use Rattle.lexis.proofs.string.plain_end.Goals as goal

pub returns-then-not-is_plain : goal.returns-then-not-is_plain
returns-then-not-is_plain c = running_stop c.loop-i.invariant (tested (plain_in c.args.quoted) c.byte_at.ensures c.is_plain.ensures c.if-not-is_plain.true)

pub loop-i-preserved : goal.loop-i-preserved
loop-i-preserved c = running_on c.loop-i.invariant c.loop-i-test.true (tested (plain_in c.args.quoted) c.byte_at.ensures c.is_plain.ensures c.if-not-is_plain.false)

pub returns : goal.returns
returns c = running_end c.loop-i.invariant c.loop-i-test.false c.max.ensures
