use Prim.Native.Nat.{◌≤◌, ◌+◌, ◌-◌}
use Rattle.lexis.proofs.Numbers.{digits}
use Rattle.lexis.specs.Number.{digits_to, limit, value, value_from}
use lib.ListN.{length}
use mathlib.Core.Path.{◌≡◌}
use Rattle.lexis.proofs.number.index_at.Given as goal

abbrev pub invariant-loop-i : goal.invariant-loop-i
invariant-loop-i l = (l.i ≤ l.p + (length l.s - l.p)) × (l.v ≤ limit) × (digits_to l.s l.i ≡ digits_to l.s l.p) × (value_from l.v (digits l.s l.i) ≡ value (digits l.s l.p))
