use native.Mathlib.Omega.{arith}
use Prim.Native.Nat.{◌-◌}
use mathlib.Core.Path.{refl, ◌∙◌}
use lib.ListN.{length-set}
use Rattle.checker.proofs.Checks.{checks_no}
use Rattle.checker.proofs.Walks.{walk_start, row_no, columns_no, row_on}
use Rattle.checker.proofs.WalkEnds.{ended}
use Rattle.checker.proofs.walk.Goals as goal

pub loop-i-init : goal.loop-i-init
loop-i-init c = (record { ready = c.requires.0.ready; marked = c.requires.0.marked; deep = omega (arith, c.requires.0.deep, length-set c.args.depths.now (c.args.n - 1) 128); keyed = c.requires.0.keyed }, refl, refl, refl, walk_start _ _ _ _ c.args.depths.now 128 c.requires.0.ready.root.some c.requires.0.ready.root.count c.requires.0.deep refl, refl, c.requires.1, c.requires.2)

pub returns : goal.returns
returns c = ended _ _ _ _ c.loop-i.invariant.0 c.loop-i.invariant.4 (omega (arith, c.loop-i-test.false))

pub returns-in_default : goal.returns-in_default
returns-in_default c = checks_no (columns_no _ _ _ _ c.loop-i.invariant.4 (omega (arith, c.loop-i-test.true)) c.loop-i.invariant.0.ready.rows refl c.in_default.ensures)

pub returns-then-not-node : goal.returns-then-not-node
returns-then-not-node c = checks_no (row_no _ _ _ _ c.loop-i.invariant.4 (omega (arith, c.loop-i-test.true)) c.loop-i.invariant.0.ready.rows c.if-not-node.true c.node.ensures.0)

pub loop-i-preserved : goal.loop-i-preserved
loop-i-preserved c = (c.loop-i.invariant.0, c.node.auto.marks ∙ c.loop-i.invariant.1, c.node.auto.depths ∙ c.loop-i.invariant.2, c.node.auto.keys ∙ c.loop-i.invariant.3, row_on _ _ _ _ c.loop-i.invariant.4 (omega (arith, c.loop-i-test.true)) c.loop-i.invariant.0.ready.rows c.if-not-node.false c.node.ensures.0 refl c.in-Some.ensures, c.node.auto.told ∙ c.loop-i.invariant.5, omega (arith, c.node.auto.told, c.loop-i.invariant.6), c.node.ensures.1)
