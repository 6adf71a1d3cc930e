use Prim.Native.Nat.{◌≤◌, ◌+◌, ◌-◌}
use Rattle.lexis.specs.Trivia.{line_comment}
use lib.ListN.{length, drop}
use mathlib.Core.Path.{◌≡◌}
use Rattle.lexis.proofs.trivia.lf_at.Given as goal

abbrev pub invariant-loop-i : goal.invariant-loop-i
invariant-loop-i l = (l.p ≤ l.i) × (l.i ≤ l.p + (length l.s - l.p)) × (line_comment l.i (drop l.i l.s) ≡ line_comment l.p (drop l.p l.s))
