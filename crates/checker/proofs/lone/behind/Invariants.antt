use Prim.Native.Nat.{◌-◌}
use lib.ListN.{length}
use Rattle.checker.specs.Lone.{Known}
use Rattle.checker.proofs.Lones.{Trail}
use Rattle.checker.proofs.lone.behind.Given as goal

abbrev pub invariant-loop-memo : goal.invariant-loop-memo
invariant-loop-memo l = Trail l.s l.c l.at × Known l.s l.memo

abbrev pub decreases-loop-memo : goal.decreases-loop-memo
decreases-loop-memo l = length l.s - l.at
