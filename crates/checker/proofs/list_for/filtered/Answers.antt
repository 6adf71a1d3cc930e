use mathlib.Core.Path.{refl}
use Rattle.grammar.proofs.Refusals.{numbered}
use Rattle.checker.proofs.Enclosures.{seated, closer_gap_no}
use Rattle.checker.proofs.ListFors.{shut_on, filter_gap_no, filter_none, filter_no, filter_on}
use Rattle.checker.proofs.list_for.filtered.Goals as goal

pub returns-in_default : goal.returns-in_default
returns-in_default c = filter_gap_no c.in_default.ensures (numbered _)

pub returns-then-if_end-at : goal.returns-then-if_end-at
returns-then-if_end-at c = filter_none c.in-Ok.ensures refl c.if_end.ensures c.if-if_end-at.true c.shut.ensures

pub kid-requires : goal.kid-requires
kid-requires c = seated c.requires.0

pub returns-then-not-kid : goal.returns-then-not-kid
returns-then-not-kid c = filter_no c.in-Ok.ensures refl c.if_end.ensures c.if-if_end-at.false c.requires.1 c.inner.ensures c.kid.ensures c.if-not-kid.true

pub returns-in_default-space : goal.returns-in_default-space
returns-in_default-space c = filter_on c.in-Ok.ensures refl c.if_end.ensures c.if-if_end-at.false c.requires.1 c.inner.ensures c.kid.ensures c.if-not-kid.false c.requires.0 c.next-k.ensures c.end-q.ensures.0 (closer_gap_no c.in_default-space.ensures (numbered _))

pub returns : goal.returns
returns c = filter_on c.in-Ok.ensures refl c.if_end.ensures c.if-if_end-at.false c.requires.1 c.inner.ensures c.kid.ensures c.if-not-kid.false c.requires.0 c.next-k.ensures c.end-q.ensures.0 (shut_on c.in-Ok-space.ensures refl c.shut-2.ensures)
