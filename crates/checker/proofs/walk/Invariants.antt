use Prim.Native.Nat.{◌≤◌}
use mathlib.Core.Path.{◌≡◌}
use lib.ListN.{length}
use Rattle.checker.specs.Check.{Walking}
use Rattle.checker.specs.Told.{Told}
use Rattle.checker.proofs.Walks.{Walked}
use Rattle.checker.proofs.walk.Given as goal

abbrev pub invariant-loop-i : goal.invariant-loop-i
invariant-loop-i l = Walking l.source l.table l.n l.initial.marks l.initial.depths l.initial.keys × (length l.marks ≡ length l.initial.marks) × (length l.depths ≡ length l.initial.depths) × (length l.keys ≡ length l.initial.keys) × Walked l.source l.text l.table l.n l.depths l.i l.u × (length l.told ≡ length l.initial.told) × (l.n ≤ length l.told) × Told l.source l.table l.told
