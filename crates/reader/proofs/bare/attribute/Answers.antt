-- `attribute` meets its contract.
use mathlib.Core.Path.{refl}
use Rattle.grammar.proofs.Refusals.{numbered, handed_on}
use Rattle.reader.proofs.Names.{attribute_gap, attribute_no, attribute_ok}
use Rattle.reader.proofs.Views.{told_put}
use Rattle.reader.proofs.bare.attribute.Goals as goal

pub returns-in_err-g : goal.returns-in_err-g
returns-in_err-g c = rw (handed_on c.from_residual.result c.in_err-g.field-0.0 c.from_residual.ensures.1) (attribute_gap c.requires.0 c.requires.1 c.in_err-g.ensures (numbered _) refl)

pub returns-then-e-g : goal.returns-then-e-g
returns-then-e-g c = attribute_no c.requires.0 c.requires.1 c.in_ok-g.ensures refl c.ident_end-e.ensures c.if-e-g.true c.unexpected.ensures refl

pub returns : goal.returns
returns c = attribute_ok c.requires.0 c.requires.1 c.in_ok-g.ensures refl c.ident_end-e.ensures c.if-e-g.false (told_put c.close_at.ensures)
