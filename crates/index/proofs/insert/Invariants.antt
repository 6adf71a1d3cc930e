use Prim.Native.Nat.{◌-◌}
use Rattle.index.proofs.Inserts.{Walking}
use Rattle.index.proofs.insert.Given as goal

abbrev pub invariant-loop-c : goal.invariant-loop-c
invariant-loop-c l = Walking l.initial.keys l.keys l.first l.k l.m l.h l.j

abbrev pub decreases-loop-c : goal.decreases-loop-c
decreases-loop-c l = l.k - l.j
