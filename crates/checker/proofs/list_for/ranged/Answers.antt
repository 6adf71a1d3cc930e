use mathlib.Core.Path.{◌∙◌}
use Rattle.checker.proofs.Enclosures.{seated, step_on}
use Rattle.checker.proofs.Onwards.{direct_next, direct_after}
use Rattle.checker.proofs.list_for.ranged.Goals as goal

pub collection-requires : goal.collection-requires
collection-requires c = (seated c.requires.0, c.requires.1)

pub returns-then-not-collection : goal.returns-then-not-collection
returns-then-not-collection c = c.collection.ensures.no c.if-not-collection.true _ _

pub value-requires : goal.value-requires
value-requires c = (seated (direct_next c.requires.0 (c.collection.ensures.inside c.if-not-collection.false) c.collection.ensures.long c.next-k.ensures), c.requires.1)

pub returns-then-not-value : goal.returns-then-not-value
returns-then-not-value c = step_on c.collection.ensures c.if-not-collection.false c.requires.0 c.next-k.ensures c.end-q.ensures.0 (c.value.ensures.no c.if-not-value.true _ _)

pub filtered-requires : goal.filtered-requires
filtered-requires c = ((direct_after c.requires.0 (c.collection.ensures.inside c.if-not-collection.false) c.next-k.ensures (c.value.ensures.inside c.if-not-value.false) (c.value.ensures.long ∙ c.collection.ensures.long) c.next.ensures), c.requires.1)

pub returns : goal.returns
returns c = step_on c.collection.ensures c.if-not-collection.false c.requires.0 c.next-k.ensures c.end-q.ensures.0 (step_on c.value.ensures c.if-not-value.false (direct_next c.requires.0 (c.collection.ensures.inside c.if-not-collection.false) c.collection.ensures.long c.next-k.ensures) c.next.ensures c.end-e.ensures.0 c.filtered.ensures)
