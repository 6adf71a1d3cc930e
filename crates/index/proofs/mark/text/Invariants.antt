use Prim.Native.Nat.{◌-◌}
use lib.ListN.{length}
use Rattle.lexis.specs.String.{quoted, text_at}
use Rattle.index.proofs.Marks.{Mixing}
use Rattle.index.proofs.mark.text.Given as goal

abbrev pub invariant-loop-u : goal.invariant-loop-u
invariant-loop-u l = Mixing 0 (text_at quoted l.s l.p).bytes (text_at quoted l.s l.i).bytes l.m

abbrev pub decreases-loop-u : goal.decreases-loop-u
decreases-loop-u l = length l.s - l.i
