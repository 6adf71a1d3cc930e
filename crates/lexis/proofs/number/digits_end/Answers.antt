use Rattle.lexis.specs.Bytes.{is_digit}
use Rattle.lexis.proofs.Runs.{tested, running_on, running_stop, running_end}
use Rattle.lexis.proofs.number.digits_end.Goals as goal

pub returns-then-not-is_digit : goal.returns-then-not-is_digit
returns-then-not-is_digit c = running_stop c.loop-i.invariant (tested is_digit c.byte_at.ensures c.is_digit.ensures c.if-not-is_digit.true)

pub loop-i-preserved : goal.loop-i-preserved
loop-i-preserved c = running_on c.loop-i.invariant c.loop-i-test.true (tested is_digit c.byte_at.ensures c.is_digit.ensures c.if-not-is_digit.false)

pub returns : goal.returns
returns c = running_end c.loop-i.invariant c.loop-i-test.false c.max.ensures
