use mathlib.Core.Path.{◌≡◌, subst}
use lib.ListN.{length}
use Rattle.checker.specs.Lone.{CloserAt}
use native.Mathlib.Omega.{arith}
use Rattle.checker.proofs.Lones.{closer_here, closer_on, closer_none}
use Rattle.checker.proofs.lone.closer.Goals as goal

pub returns-then-two_at : goal.returns-then-two_at
returns-then-two_at c = closer_here _ _ _ (omega arith) c.loop-i-test.true c.loop-i.invariant c.two_at.ensures c.if-two_at.true

pub loop-i-preserved : goal.loop-i-preserved
loop-i-preserved c = closer_on _ _ _ c.loop-i-test.true c.loop-i.invariant c.two_at.ensures c.if-two_at.false

pub returns : goal.returns
returns c =
    let z : c.loop-i.i ≡ length c.args.s.now = omega (arith, c.loop-i.auto.i-end c.requires) in
    subst (CloserAt c.args.s.now c.args.p) z (closer_none _ _ _ (omega arith) (omega arith) c.loop-i-test.false c.loop-i.invariant)
