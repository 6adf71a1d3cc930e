use Prim.Native.Nat.{◌-◌}
use mathlib.Core.Path.{◌≡◌}
use mathlib.Core.Bool.{false}
use lib.ListN.{length, drop}
use Rattle.lexis.specs.Heredoc.{part}
use Rattle.lexis.specs.Keys.{alike, rest_of, same_key, among, met_before}
use Rattle.lexis.proofs.keys.met_before.Given as goal

abbrev pub invariant-loop-k : goal.invariant-loop-k
invariant-loop-k l = (l.met ≡ false) × (alike (rest_of (drop l.i l.s)) (rest_of (drop l.j l.s)) ≡ same_key l.s l.a l.p)

abbrev pub decreases-loop-k : goal.decreases-loop-k
decreases-loop-k l = length l.s - l.i

abbrev pub invariant-keys : goal.invariant-keys
invariant-keys l = (l.met ≡ false) × (among l.s (part l.starts l.k l.to) l.p ≡ met_before l.s l.starts l.from l.to l.p)
