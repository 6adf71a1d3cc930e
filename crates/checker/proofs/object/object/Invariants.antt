use Prim.Native.Nat.{◌-◌, ◌/◌, ◌%◌}
use mathlib.Core.Path.{◌≡◌}
use lib.ListN.{length}
use lib.Dec.{eqb}
use Rattle.checker.specs.Lay.{Laying}
use Rattle.checker.specs.Lone.{Known}
use Rattle.checker.specs.Told.{Telling}
use Rattle.checker.proofs.Objects.{Ahead}
use Rattle.checker.proofs.object.object.Given as goal

abbrev pub invariant-loop-c : goal.invariant-loop-c
invariant-loop-c l = Ahead l.site.s.now l.site.table.now l.site.i (l.site.own / 2) (eqb (l.site.own % 2) 1) l.site.marks.now l.initial.depths l.first l.p l.depths l.keys l.at l.j l.n × Laying l.site.table.now l.site.i l.site.marks.now l.initial.depths l.initial.keys l.first (l.site.own / 2) × (length l.keys ≡ length l.initial.keys) × Known l.site.s.now l.memo × (length l.told ≡ length l.initial.told) × Telling l.site.s.now l.site.table.now l.site.i l.told

abbrev pub decreases-loop-c : goal.decreases-loop-c
decreases-loop-c l = l.site.i - l.j
