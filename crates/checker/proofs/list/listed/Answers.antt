use mathlib.Core.Path.{refl}
use Rattle.grammar.proofs.Refusals.{numbered}
use Rattle.checker.proofs.Enclosures.{opener_deep, opener_no, opener_on}
use Rattle.checker.proofs.Elements.{listed_gap_no, listed_none, listed_some}
use Rattle.checker.proofs.list.listed.Goals as goal

pub returns-then-site-lt2 : goal.returns-then-site-lt2
returns-then-site-lt2 c = opener_deep c.if-site-lt2.true

pub returns-then-b-p : goal.returns-then-b-p
returns-then-b-p c = opener_no c.if-site-lt2.false c.mark_end-b.ensures c.if-b-p.true

pub returns-in_default : goal.returns-in_default
returns-in_default c = opener_on c.if-site-lt2.false c.mark_end-b.ensures c.if-b-p.false (listed_gap_no c.in_default.ensures (numbered _))

pub returns-then-e-at : goal.returns-then-e-at
returns-then-e-at c = opener_on c.if-site-lt2.false c.mark_end-b.ensures c.if-b-p.false (listed_none c.in-Ok.ensures refl c.mark_end-e.ensures c.if-e-at.true c.ends.ensures)

pub returns : goal.returns
returns c = opener_on c.if-site-lt2.false c.mark_end-b.ensures c.if-b-p.false (listed_some c.in-Ok.ensures refl c.mark_end-e.ensures c.if-e-at.false c.elements.ensures)
