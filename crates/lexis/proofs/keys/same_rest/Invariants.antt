use Prim.Native.Nat.{◌-◌}
use mathlib.Core.Path.{◌≡◌}
use lib.ListN.{length, drop}
use Rattle.lexis.specs.Keys.{alike, rest_of}
use Rattle.lexis.proofs.keys.same_rest.Given as goal

abbrev pub invariant-loop-a : goal.invariant-loop-a
invariant-loop-a l = alike (rest_of (drop l.i l.s)) (rest_of (drop l.j l.s)) ≡ alike (rest_of (drop l.a l.s)) (rest_of (drop l.b l.s))

abbrev pub decreases-loop-a : goal.decreases-loop-a
decreases-loop-a l = length l.s - l.i
