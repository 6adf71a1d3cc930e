use mathlib.Core.Path.{◌∙◌}
use Rattle.grammar.specs.Said.{wanted}
use Rattle.checker.proofs.Programs.{sits_in}
use Rattle.checker.proofs.program.fits.Goals as goal

pub returns : goal.returns
returns c = sits_in (wanted c.args.want) c.args.kind c.sits.ensures (c.from.ensures ∙ c.seat.ensures)
