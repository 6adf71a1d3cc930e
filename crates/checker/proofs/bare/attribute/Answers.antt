use mathlib.Core.Path.{refl}
use Rattle.grammar.proofs.Refusals.{numbered}
use Rattle.checker.proofs.Bares.{attribute_no, attribute_gap_no, attribute_word_no, attribute_by}
use Rattle.checker.proofs.bare.attribute.Goals as goal

pub returns-then-d-p : goal.returns-then-d-p
returns-then-d-p c = attribute_no c.requires c.mark_end-d.ensures c.if-d-p.true

pub returns-in_default : goal.returns-in_default
returns-in_default c = attribute_gap_no c.requires c.mark_end-d.ensures c.if-d-p.false c.in_default.ensures (numbered _)

pub returns-then-e-at : goal.returns-then-e-at
returns-then-e-at c = attribute_word_no c.requires c.mark_end-d.ensures c.if-d-p.false c.in-Ok.ensures refl c.ident_end-e.ensures c.if-e-at.true

pub returns : goal.returns
returns c = attribute_by c.requires c.mark_end-d.ensures c.if-d-p.false c.in-Ok.ensures refl c.ident_end-e.ensures c.if-e-at.false c.ends.ensures
