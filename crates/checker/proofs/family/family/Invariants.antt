use Prim.Native.Nat.{◌-◌, ◌+◌}
use mathlib.Core.Path.{◌≡◌}
use Rattle.checker.proofs.Families.{Found}
use Rattle.checker.specs.Family.{Rowed}
use Rattle.checker.proofs.family.family.Given as goal

abbrev pub invariant-loop-left : goal.invariant-loop-left
invariant-loop-left l = Rowed l.table l.i l.initial.marks × Found l.table l.i (l.i + 1 - l.count) l.hi l.next l.initial.marks l.marks × (l.left ≡ l.hi - (l.i + 1 - l.count))

abbrev pub decreases-loop-left : goal.decreases-loop-left
decreases-loop-left l = l.hi
