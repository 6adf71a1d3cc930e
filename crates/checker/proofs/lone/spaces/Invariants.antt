use Rattle.checker.proofs.Lones.{Blank}
use Rattle.checker.proofs.lone.spaces.Given as goal

abbrev pub invariant-loop-i : goal.invariant-loop-i
invariant-loop-i l = Blank l.s l.p l.i
