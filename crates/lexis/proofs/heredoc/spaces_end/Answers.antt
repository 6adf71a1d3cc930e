use Rattle.lexis.specs.Bytes.{is_space}
use Rattle.lexis.proofs.Runs.{tested, running_on, running_stop, running_end}
use Rattle.lexis.proofs.heredoc.spaces_end.Goals as goal

pub returns-then-not-is_space : goal.returns-then-not-is_space
returns-then-not-is_space c = running_stop c.loop-i.invariant (tested is_space c.byte_at.ensures c.is_space.ensures c.if-not-is_space.true)

pub loop-i-preserved : goal.loop-i-preserved
loop-i-preserved c = running_on c.loop-i.invariant c.loop-i-test.true (tested is_space c.byte_at.ensures c.is_space.ensures c.if-not-is_space.false)

pub returns : goal.returns
returns c = running_end c.loop-i.invariant c.loop-i-test.false c.max.ensures
