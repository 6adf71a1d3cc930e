use mathlib.Core.Path.{refl}
use native.Mathlib.Omega.{arith}
use Rattle.checker.proofs.Programs.{instr_low, instr_own}
use Rattle.checker.proofs.program.instr.Goals as goal

pub returns-then-pc-lt228 : goal.returns-then-pc-lt228
returns-then-pc-lt228 c = instr_low c.if-pc-lt228.true c.instr.ensures

pub returns : goal.returns
returns c = rw c.unpacked.ensures (instr_own c.args.pc c.word.result c.if-pc-lt228.false c.word.ensures refl refl refl refl (omega arith))
