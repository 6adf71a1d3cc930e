use Rattle.lexis.specs.Bytes.{is_space}
use Rattle.lexis.proofs.Runs.{tested}
use Rattle.checker.proofs.Lones.{blank_on}
use Rattle.checker.proofs.lone.spaces.Goals as goal

pub loop-i-preserved : goal.loop-i-preserved
loop-i-preserved c = blank_on c.loop-i.invariant c.loop-i-test.true (tested is_space c.byte_at.ensures c.is_space.ensures c.if-not-is_space.false)
