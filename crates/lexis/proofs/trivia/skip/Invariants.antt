use Prim.Native.Nat.{◌≤◌, ◌+◌, ◌-◌}
use Rattle.lexis.specs.Trivia.{gap_to}
use lib.ListN.{length}
use mathlib.Core.Path.{◌≡◌}
use Rattle.lexis.proofs.trivia.skip.Given as goal

abbrev pub invariant-loop-i : goal.invariant-loop-i
invariant-loop-i l = (l.p ≤ l.i) × (l.i ≤ l.p + (length l.s - l.p)) × (gap_to l.lines l.s l.i ≡ gap_to l.lines l.s l.p)

abbrev pub decreases-loop-i : goal.decreases-loop-i
decreases-loop-i l = length l.s - l.i
