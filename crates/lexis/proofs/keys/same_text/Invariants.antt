use Prim.Native.Nat.{◌+◌, ◌*◌, ◌-◌}
use lib.ListN.{length}
use Rattle.lexis.proofs.SameTexts.{Left}
use Rattle.lexis.proofs.keys.same_text.Given as goal

abbrev pub invariant-loop-n : goal.invariant-loop-n
invariant-loop-n l = Left l.s l.a l.b l.i l.u l.n l.j l.v l.m

abbrev pub decreases-loop-n : goal.decreases-loop-n
decreases-loop-n l = (5 * (length l.s - l.i) + l.n) + (5 * (length l.s - l.j) + l.m)
