use Rattle.lexis.proofs.Writes.{put_more}
use Rattle.lexis.proofs.string.put.Goals as goal

pub loop-k-preserved : goal.loop-k-preserved
loop-k-preserved c = put_more c.loop-k.invariant (rw (← c.from-k-end.ensures) c.loop-k-test.true) c.requires
