use Rattle.lexis.specs.String.{plain_in}
use Rattle.lexis.proofs.Runs.{Running}
use Rattle.lexis.proofs.string.plain_end.Given as goal

abbrev pub invariant-loop-i : goal.invariant-loop-i
invariant-loop-i l = Running (plain_in l.quoted) l.s l.p l.i
