use Prim.Native.Nat.{◌-◌}
use Rattle.grammar.proofs.Walks.{Walking}
use Rattle.grammar.proofs.moves.walk.Given as goal

abbrev pub invariant-loop-left : goal.invariant-loop-left
invariant-loop-left l = Walking l.s l.left l.lines l.a l.p l.i l.q

abbrev pub decreases-loop-left : goal.decreases-loop-left
decreases-loop-left l = 146 - l.i
