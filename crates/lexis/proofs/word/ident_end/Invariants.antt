use Prim.Native.Nat.{◌+◌}
use Rattle.lexis.specs.Bytes.{is_rest}
use Rattle.lexis.proofs.Runs.{Running}
use Rattle.lexis.proofs.word.ident_end.Given as goal

abbrev pub invariant-loop-i : goal.invariant-loop-i
invariant-loop-i l = Running is_rest l.s (l.p + 1) l.i
