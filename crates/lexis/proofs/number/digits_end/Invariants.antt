use Rattle.lexis.specs.Bytes.{is_digit}
use Rattle.lexis.proofs.Runs.{Running}
use Rattle.lexis.proofs.number.digits_end.Given as goal

abbrev pub invariant-loop-i : goal.invariant-loop-i
invariant-loop-i l = Running is_digit l.s l.p l.i
