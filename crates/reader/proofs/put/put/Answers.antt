-- `put` meets its contract: seven stores, where the buffer has the record.
use borrow.Author.Tests.{lt-ltb, le-ltb}
use Rattle.reader.specs.Buffer.{put_at}
use Rattle.reader.proofs.put.put.Goals as goal

pub returns-then-i-nodes : goal.returns-then-i-nodes
unfolding put_at
returns-then-i-nodes c = simp (lt-ltb _ _ c.if-i-nodes.true)

pub returns-else-i-nodes : goal.returns-else-i-nodes
unfolding put_at
returns-else-i-nodes c = simp (le-ltb _ _ c.if-i-nodes.false)
