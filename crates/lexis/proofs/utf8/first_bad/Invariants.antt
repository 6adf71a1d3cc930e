use Prim.Native.Nat.{◌+◌, ◌-◌, ◌≤◌}
use mathlib.Core.Path.{◌≡◌}
use lib.ListN.{drop, length}
use Rattle.lexis.specs.Utf8.{first_bad}
use Rattle.lexis.proofs.utf8.first_bad.Given as goal

abbrev pub invariant-loop-n : goal.invariant-loop-n
invariant-loop-n l = (l.initial.i + l._n ≤ l.i) × (l.i ≤ length l.s) × (l.i + first_bad (drop l.i l.s) ≡ first_bad l.s)

abbrev pub invariant-loop-i : goal.invariant-loop-i
invariant-loop-i l = (l.i ≤ length l.s) × (l.i + first_bad (drop l.i l.s) ≡ first_bad l.s)

abbrev pub decreases-loop-i : goal.decreases-loop-i
decreases-loop-i l = length l.s - l.i
