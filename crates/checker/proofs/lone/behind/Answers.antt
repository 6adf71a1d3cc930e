use native.Mathlib.Omega.{arith}
use Rattle.checker.proofs.Lones.{trail_inside, trail_none, trail_on, trail_sign}
use Rattle.checker.proofs.lone.behind.Goals as goal

pub covers-requires : goal.covers-requires
covers-requires c = trail_inside c.loop-memo.invariant.0

pub overflow_add-at : goal.overflow_add-at
overflow_add-at c = omega (arith, trail_inside c.loop-memo.invariant.0)

pub closer-e-requires : goal.closer-e-requires
closer-e-requires c = trail_inside c.loop-memo.invariant.0

pub returns-then-e-s : goal.returns-then-e-s
returns-then-e-s c = trail_none c.loop-memo.invariant.0 c.closer-e.ensures c.if-e-s.true

pub returns-then-not-two_at : goal.returns-then-not-two_at
returns-then-not-two_at c = trail_sign c.loop-memo.invariant.0 c.closer-e.ensures c.if-e-s.false c.spaces-q.ensures c.two_at.ensures c.if-not-two_at.true c.signs-yes.ensures c.loop-memo.invariant.1 c.later-kept.ensures

pub loop-memo-preserved : goal.loop-memo-preserved
loop-memo-preserved c = (trail_on c.loop-memo.invariant.0 c.closer-e.ensures c.if-e-s.false c.spaces-q.ensures c.two_at.ensures c.if-not-two_at.false, c.loop-memo.invariant.1)
