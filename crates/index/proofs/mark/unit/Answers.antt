-- What is left of the unit has the same mark.
use Rattle.index.proofs.Marks.{unit_more, unit_end}
use Rattle.index.proofs.mark.unit.Goals as goal

pub loop-k-preserved : goal.loop-k-preserved
loop-k-preserved c = unit_more _ _ _ c.loop-k.invariant c.loop-k-test.true c.mix-m.ensures

pub returns : goal.returns
returns c = unit_end _ _ _ c.loop-k.invariant c.loop-k-test.false
