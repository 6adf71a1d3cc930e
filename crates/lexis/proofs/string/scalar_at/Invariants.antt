use Prim.Native.Nat.{◌+◌, ◌-◌, ◌≤◌}
use mathlib.Core.Path.{◌≡◌}
use lib.ListN.{drop}
use Rattle.lexis.specs.String.{hexes}
use Rattle.lexis.proofs.string.scalar_at.Given as goal

abbrev pub invariant-loop-k : goal.invariant-loop-k
invariant-loop-k l = (l.v ≤ 0x10FFFF) × (hexes l.v (l.n - l.k) (drop (l.p + l.k) l.s) ≡ hexes 0 l.n (drop l.p l.s))
