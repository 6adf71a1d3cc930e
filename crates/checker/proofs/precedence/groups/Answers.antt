use Rattle.checker.proofs.Precedences.{groups_right, groups_left}
use Rattle.checker.proofs.precedence.groups.Goals as goal

pub returns-then-right : goal.returns-then-right
returns-then-right c = groups_right _ _ c.if-right.true

pub returns : goal.returns
returns c = groups_left _ _ c.if-right.false
