use Prim.Native.Nat.{◌-◌}
use lib.ListN.{length}
use Rattle.lexis.specs.String.{mode_from}
use Rattle.lexis.proofs.Texts.{Going}
use Rattle.lexis.proofs.string.run_at.Given as goal

abbrev pub invariant-loop-k : goal.invariant-loop-k
invariant-loop-k l = Going (mode_from l.s l.round) l.s l.p l.i l.n l.fresh

abbrev pub decreases-loop-k : goal.decreases-loop-k
decreases-loop-k l = length l.s - l.i
