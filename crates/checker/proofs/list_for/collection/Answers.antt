use mathlib.Core.Path.{refl}
use Rattle.grammar.proofs.Refusals.{numbered}
use Rattle.checker.proofs.ListFors.{collection_gap_no, collection_no, collection_space_no, collection_by}
use Rattle.checker.proofs.list_for.collection.Goals as goal

pub returns-in_default : goal.returns-in_default
returns-in_default c = collection_gap_no c.in_default.ensures (numbered _)

pub returns-then-e-at : goal.returns-then-e-at
returns-then-e-at c = collection_no c.in-Ok.ensures refl c.in_end-e.ensures c.if-e-at.true

pub returns-in_default-space : goal.returns-in_default-space
returns-in_default-space c = collection_space_no c.in-Ok.ensures refl c.in_end-e.ensures c.if-e-at.false c.in_default-space.ensures (numbered _)

pub returns : goal.returns
returns c = collection_by c.in-Ok.ensures refl c.in_end-e.ensures c.if-e-at.false c.in-Ok-space.ensures refl c.requires.1 refl c.kid.ensures
