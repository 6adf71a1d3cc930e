use mathlib.Core.Path.{refl}
use Rattle.grammar.proofs.Leaves.{moved}
use Rattle.grammar.proofs.Refusals.{handed_on}
use Rattle.grammar.proofs.moves.space.Goals as goal

pub returns : goal.returns
returns c = moved c.in_ok-skip.ensures refl

pub returns-in_err-skip : goal.returns-in_err-skip
returns-in_err-skip c = rw (handed_on c.from_residual.result _ c.from_residual.ensures.1) (moved c.in_err-skip.ensures refl)
