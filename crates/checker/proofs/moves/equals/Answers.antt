use mathlib.Core.Path.{refl}
use Rattle.grammar.proofs.Refusals.{numbered, handed_on}
use Rattle.checker.proofs.Goings.{equals_no, equals_past}
use Rattle.checker.proofs.moves.equals.Goals as goal

pub returns-in_err-at : goal.returns-in_err-at
returns-in_err-at c = rw (handed_on c.from_residual.result c.in_err-at.field-0.0 c.from_residual.ensures.1) (equals_no c.in_err-at.ensures (numbered _))

pub returns : goal.returns
returns c = equals_past c.in_ok-at.ensures refl c.equals_end.ensures c.past.ensures
