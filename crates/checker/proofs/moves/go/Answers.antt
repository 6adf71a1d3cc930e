use Rattle.checker.proofs.Goings.{gone_minus, gone_bang}
use Rattle.checker.proofs.moves.go.Goals as goal

pub returns-in-200 : goal.returns-in-200
returns-in-200 c = gone_minus c.in-200.is c.atom.ensures

pub returns-in-201 : goal.returns-in-201
returns-in-201 c = gone_bang c.in-201.is c.bang.ensures
