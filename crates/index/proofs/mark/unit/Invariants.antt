use Prim.Native.Nat.{◌-◌}
use Rattle.lexis.specs.String.{unpacked}
use Rattle.index.proofs.Marks.{Mixing}
use Rattle.index.proofs.mark.unit.Given as goal

abbrev pub invariant-loop-k : goal.invariant-loop-k
invariant-loop-k l = Mixing l.m-2 (unpacked l.n l.bytes) (unpacked (l.n - l._k) l.left) l.m
