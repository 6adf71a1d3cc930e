use Prim.Native.Nat.{◌-◌}
use Rattle.lexis.specs.String.{mode_from}
use Rattle.lexis.proofs.Writes.{Writing}
use Rattle.lexis.proofs.string.write.Given as goal

abbrev pub invariant-loop-i : goal.invariant-loop-i
invariant-loop-i l = Writing (mode_from l.s l.round) l.s l.p l.at l.initial.buf l.buf l.i l.j

abbrev pub decreases-loop-i : goal.decreases-loop-i
decreases-loop-i l = l.end - l.i
