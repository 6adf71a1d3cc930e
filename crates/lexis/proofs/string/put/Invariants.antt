use Rattle.lexis.proofs.Writes.{Putting}
use Rattle.lexis.proofs.string.put.Given as goal

abbrev pub invariant-loop-k : goal.invariant-loop-k
invariant-loop-k l = Putting l.initial.buf l.at l.bytes l.count l.buf l.left l.k
