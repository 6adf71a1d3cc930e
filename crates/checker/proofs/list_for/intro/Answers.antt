use mathlib.Core.Path.{refl}
use Rattle.grammar.proofs.Refusals.{numbered}
use Rattle.checker.proofs.ListFors.{intro_gap_no, intro_no, intro_by}
use Rattle.checker.proofs.list_for.intro.Goals as goal

pub returns-in_default : goal.returns-in_default
returns-in_default c = intro_gap_no c.in_default.ensures (numbered _)

pub returns-then-e-at : goal.returns-then-e-at
returns-then-e-at c = intro_no c.in-Ok.ensures refl c.for_end-e.ensures c.if-e-at.true

pub returns : goal.returns
returns c = intro_by c.in-Ok.ensures refl c.for_end-e.ensures c.if-e-at.false c.named.ensures
