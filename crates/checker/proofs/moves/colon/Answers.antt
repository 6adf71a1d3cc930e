use mathlib.Core.Path.{refl}
use Rattle.grammar.proofs.Refusals.{numbered, handed_on}
use Rattle.checker.proofs.Goings.{colon_no, colon_past}
use Rattle.checker.proofs.moves.colon.Goals as goal

pub returns-in_err-at : goal.returns-in_err-at
returns-in_err-at c = rw (handed_on c.from_residual.result c.in_err-at.field-0.0 c.from_residual.ensures.1) (colon_no c.in_err-at.ensures (numbered _))

pub returns : goal.returns
returns c = colon_past c.in_ok-at.ensures refl c.mark_end.ensures c.past.ensures
