use mathlib.Core.Path.{refl}
use Rattle.grammar.proofs.Refusals.{numbered}
use Rattle.checker.proofs.Enclosures.{inside_gap_no, inside_by}
use Rattle.checker.proofs.bracket.inside.Goals as goal

pub returns-in_default : goal.returns-in_default
returns-in_default c = inside_gap_no c.in_default.ensures (numbered _)

pub returns : goal.returns
returns c = inside_by c.in-Ok.ensures refl c.requires.1 c.inner.ensures c.kid.ensures
