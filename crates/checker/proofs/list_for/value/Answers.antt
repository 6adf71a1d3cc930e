use mathlib.Core.Path.{refl}
use Rattle.grammar.proofs.Refusals.{numbered}
use Rattle.checker.proofs.ListFors.{value_gap_no, value_no, value_by}
use Rattle.checker.proofs.list_for.value.Goals as goal

pub returns-in_default : goal.returns-in_default
returns-in_default c = value_gap_no c.in_default.ensures (numbered _)

pub returns-then-e-at : goal.returns-then-e-at
returns-then-e-at c = value_no c.in-Ok.ensures refl c.mark_end-e.ensures c.if-e-at.true

pub returns : goal.returns
returns c = value_by c.in-Ok.ensures refl c.mark_end-e.ensures c.if-e-at.false c.inside.ensures
