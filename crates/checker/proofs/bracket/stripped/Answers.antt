use mathlib.Core.Path.{refl}
use Rattle.grammar.proofs.Refusals.{numbered}
use Rattle.checker.proofs.Enclosures.{strip_gap_no, strip_no, strip_by}
use Rattle.checker.proofs.bracket.stripped.Goals as goal

pub returns-in_default : goal.returns-in_default
returns-in_default c = strip_gap_no c.in_default.ensures (numbered _)

pub returns-then-e-r : goal.returns-then-e-r
returns-then-e-r c = strip_no c.in-Ok.ensures refl c.mark_end-r.ensures c.mark_end-e.ensures c.if-e-r.true

pub returns : goal.returns
returns c = strip_by c.in-Ok.ensures refl c.mark_end-r.ensures c.mark_end-e.ensures c.if-e-r.false c.flagged.ensures c.ends.ensures
