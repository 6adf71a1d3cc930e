use Prim.Native.Nat.{◌≤◌, ◌+◌, ◌-◌}
use Rattle.lexis.specs.Bytes.{stands}
use lib.ListN.{length, drop}
use mathlib.Core.Path.{◌≡◌}
use Rattle.lexis.proofs.bytes.all_at.Given as goal

-- what is left of w stands behind what was passed
abbrev pub invariant-loop-i : goal.invariant-loop-i
invariant-loop-i l = (l.i ≤ length l.s - l.p) × (stands (drop l.i l.w) l.s (l.p + l.i) ≡ stands l.w l.s l.p)
