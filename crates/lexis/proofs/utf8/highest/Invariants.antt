use Prim.Native.Nat.{◌+◌, ◌-◌, max}
use Rattle.lexis.specs.Utf8.{greatest}
use lib.ListN.{take, drop}
use mathlib.Core.Path.{◌≡◌}
use Rattle.lexis.proofs.utf8.highest.Given as goal

abbrev pub invariant-loop-b : goal.invariant-loop-b
invariant-loop-b l = max l.m (greatest (take (64 - l.b-index) (drop (l.p + l.b-index) l.s))) ≡ greatest (take 64 (drop l.p l.s))
