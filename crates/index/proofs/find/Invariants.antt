use Prim.Native.Nat.{◌-◌}
use mathlib.Core.Path.{◌≡◌}
use lib.ListN.{length, drop}
use Rattle.lexis.specs.Keys.{alike, rest_of, same_key}
use Rattle.index.proofs.Finds.{Searching, left_of}
use Rattle.index.proofs.find.Given as goal

abbrev pub invariant-loop-j : goal.invariant-loop-j
invariant-loop-j l = alike (rest_of (drop l.x l.s)) (rest_of (drop l.y l.s)) ≡ same_key l.s l.a l.p

abbrev pub decreases-loop-j : goal.decreases-loop-j
decreases-loop-j l = length l.s - l.x

abbrev pub invariant-slots : goal.invariant-slots
invariant-slots l = Searching l.s l.keys l.first l.k l.p l.h l.slot

abbrev pub decreases-slots : goal.decreases-slots
decreases-slots l = left_of l.k l.slot
