use Rattle.grammar.proofs.Leaves.{mode_any, mode_line, mode_here}
use Rattle.grammar.proofs.moves.mode.Goals as goal

pub returns-then-x-eq0 : goal.returns-then-x-eq0
returns-then-x-eq0 c = mode_any _ _ c.if-x-eq0.true

pub returns-then-x-eq1 : goal.returns-then-x-eq1
returns-then-x-eq1 c = mode_line _ _ c.if-x-eq1.true

pub returns-else-x-eq1 : goal.returns-else-x-eq1
returns-else-x-eq1 c = mode_here _ _ c.if-x-eq0.false c.if-x-eq1.false
