use Rattle.lexis.specs.Bytes.{is_space}
use Rattle.lexis.proofs.Runs.{Running}
use Rattle.lexis.proofs.heredoc.spaces_end.Given as goal

abbrev pub invariant-loop-i : goal.invariant-loop-i
invariant-loop-i l = Running is_space l.s l.p l.i
