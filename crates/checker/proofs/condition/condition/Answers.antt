use mathlib.Core.Path.{refl}
use Rattle.grammar.proofs.Refusals.{numbered}
use Rattle.checker.proofs.Enclosures.{seated}
use Rattle.checker.proofs.ListFors.{if_no, if_gap_no, test_no, test_by}
use Rattle.checker.proofs.condition.condition.Goals as goal

pub returns-then-e-p : goal.returns-then-e-p
returns-then-e-p c = if_no c.if_end-e.ensures c.if-e-p.true

pub returns-in_default : goal.returns-in_default
returns-in_default c = if_gap_no c.if_end-e.ensures c.if-e-p.false c.in_default.ensures (numbered _)

pub kid-requires : goal.kid-requires
kid-requires c = seated c.requires.0

pub returns-then-not-kid : goal.returns-then-not-kid
returns-then-not-kid c = test_no c.if_end-e.ensures c.if-e-p.false c.in-Ok.ensures refl c.requires.1 c.kid.ensures c.if-not-kid.true

pub returns : goal.returns
returns c = test_by c.if_end-e.ensures c.if-e-p.false c.in-Ok.ensures refl c.requires.1 c.kid.ensures c.if-not-kid.false c.requires.0 c.next.ensures c.end.ensures.0 c.ends.ensures
