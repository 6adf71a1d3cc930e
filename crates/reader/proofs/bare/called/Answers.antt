-- `called` meets its contract.
use mathlib.Core.Path.{refl}
use Rattle.reader.proofs.Names.{called_no, called_ok}
use Rattle.reader.proofs.Views.{told_put}
use Rattle.reader.proofs.bare.called.Goals as goal

pub returns-then-e-at : goal.returns-then-e-at
returns-then-e-at c = called_no c.requires c.ident_end-e.ensures c.if-e-at.true c.unexpected.ensures refl

pub returns : goal.returns
returns c = called_ok c.requires c.ident_end-e.ensures c.if-e-at.false (told_put c.close_at.ensures)
