use mathlib.Core.Path.{refl}
use native.Mathlib.Omega.{arith}
use Rattle.grammar.proofs.Refusals.{numbered}
use Rattle.checker.proofs.Enclosures.{seated}
use Rattle.checker.proofs.Onwards.{direct_next, direct_up}
use Rattle.checker.proofs.Calls.{name_no, name_gap_no, name_last, colons_gap_no, name_next}
use Rattle.checker.proofs.call.call.Goals as goal

pub kid-requires : goal.kid-requires
kid-requires c = seated c.loop-first.invariant.direct

pub returns-then-not-kid : goal.returns-then-not-kid
returns-then-not-kid c = name_no c.lines-lines.ensures c.loop-first.invariant c.kid.ensures c.if-not-kid.true

pub returns-in_default : goal.returns-in_default
returns-in_default c = name_gap_no c.lines-lines.ensures c.loop-first.invariant c.kid.ensures c.if-not-kid.false c.next-j.ensures c.end-q.ensures.0 c.in_default.ensures (numbered _)

pub listed-requires : goal.listed-requires
listed-requires c = ((direct_next c.loop-first.invariant.direct (c.kid.ensures.inside c.if-not-kid.false) c.kid.ensures.long c.next-j.ensures), (omega arith, (λ e. omega (arith, e)), (λ e. omega (arith, e))))

pub returns-then-c-at : goal.returns-then-c-at
returns-then-c-at c = name_last c.lines-lines.ensures c.loop-first.invariant c.kid.ensures c.if-not-kid.false c.next-j.ensures c.end-q.ensures.0 c.in-Ok.ensures refl c.colons_end-c.ensures c.if-c-at.true c.listed.ensures

pub returns-in_default-space : goal.returns-in_default-space
returns-in_default-space c = colons_gap_no c.lines-lines.ensures c.loop-first.invariant c.kid.ensures c.if-not-kid.false c.next-j.ensures c.end-q.ensures.0 c.in-Ok.ensures refl c.colons_end-c.ensures c.if-c-at.false c.in_default-space.ensures (numbered _)

pub loop-first-smaller : goal.loop-first-smaller
loop-first-smaller c = let u = direct_up c.loop-first.invariant.direct (c.kid.ensures.inside c.if-not-kid.false) c.next-j.ensures in omega (arith, u.0, u.1)

pub loop-first-preserved : goal.loop-first-preserved
loop-first-preserved c = name_next c.lines-lines.ensures c.loop-first.invariant c.kid.ensures c.if-not-kid.false c.next-j.ensures c.end-q.ensures.0 c.in-Ok.ensures refl c.colons_end-c.ensures c.if-c-at.false c.in-Ok-space.ensures refl
