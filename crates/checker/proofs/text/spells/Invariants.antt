use Prim.Native.Nat.{◌-◌}
use Rattle.checker.proofs.Spellings.{Along}
use Rattle.checker.proofs.text.spells.Given as goal

abbrev pub invariant-loop-i : goal.invariant-loop-i
invariant-loop-i l = Along l.s l.plain l.p l.end l.text l.at l.i l.j

abbrev pub decreases-loop-i : goal.decreases-loop-i
decreases-loop-i l = l.end - l.i
