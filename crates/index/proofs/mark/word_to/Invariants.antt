use Prim.Native.Nat.{◌+◌}
use Rattle.index.proofs.Marks.{Wording}
use Rattle.index.proofs.mark.word_to.Given as goal

abbrev pub invariant-loop-b : goal.invariant-loop-b
invariant-loop-b l = Wording l.s l.p l.e l.m (l.p + l.b-index)
