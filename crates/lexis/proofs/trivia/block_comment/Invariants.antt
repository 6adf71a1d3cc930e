use Prim.Native.Nat.{◌≤◌, ◌+◌, ◌-◌}
use Rattle.lexis.specs.RunLaws.{reach}
use Rattle.lexis.specs.Trivia.{closes}
use lib.ListN.{length}
use mathlib.Core.Path.{◌≡◌}
use Rattle.lexis.proofs.trivia.block_comment.Given as goal

abbrev pub invariant-loop-i : goal.invariant-loop-i
invariant-loop-i l = (l.i ≤ length l.s + 1) × (reach closes l.s (l.i - 1) ≡ reach closes l.s (l.p + 2))
