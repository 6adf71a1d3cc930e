use Prim.Native.Nat.{◌-◌}
use Rattle.checker.proofs.Spellings.{Holding}
use Rattle.checker.proofs.text.holds.Given as goal

abbrev pub invariant-loop-k : goal.invariant-loop-k
invariant-loop-k l = Holding l.text l.at l.bytes l.count l.left l.k

abbrev pub decreases-loop-k : goal.decreases-loop-k
decreases-loop-k l = l.count - l.k
