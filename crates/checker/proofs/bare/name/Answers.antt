use Rattle.checker.proofs.Bares.{name_no, name_by}
use Rattle.checker.proofs.bare.name.Goals as goal

pub returns-then-e-p : goal.returns-then-e-p
returns-then-e-p c = name_no c.requires c.ident_end-e.ensures c.if-e-p.true

pub returns : goal.returns
returns c = name_by c.requires c.ident_end-e.ensures c.if-e-p.false c.ends.ensures
