use Rattle.checker.proofs.Spellings.{hold_start, hold_no, hold_more, hold_end}
use Rattle.checker.proofs.text.holds.Goals as goal

pub loop-k-init : goal.loop-k-init
loop-k-init c = hold_start _ _ _ _

pub returns-then-not-one_at : goal.returns-then-not-one_at
returns-then-not-one_at c = hold_no c.loop-k.invariant c.loop-k-test.true (rw c.from.ensures at c.one_at.ensures) c.if-not-one_at.true

pub loop-k-preserved : goal.loop-k-preserved
loop-k-preserved c = hold_more c.loop-k.invariant c.loop-k-test.true (rw c.from.ensures at c.one_at.ensures) c.if-not-one_at.false

pub returns : goal.returns
returns c = hold_end c.loop-k.invariant c.loop-k-test.false
