use Prim.Native.Nat.{ℕ}
use lib.Dec.{T}
use mathlib.Core.Path.{ap, sym, subst}
use native.Mathlib.Omega.{arith}
use Rattle.engine.specs.Base.{has}
use Rattle.grammar.specs.Code.{operation, argument, class, otherwise}
use Rattle.grammar.specs.Said.{classes}
use Rattle.grammar.proofs.Tables.{class_known}
use Rattle.grammar.proofs.program.instr.Goals as goal

pub returns : goal.returns
returns c = rw c.unpacked.ensures (record { op = ap operation c.word.ensures.is; arg = ap argument c.word.ensures.is; class = ap class c.word.ensures.is; next = ap otherwise c.word.ensures.is; here = omega arith; known = subst (λ (x : ℕ). T (has classes (class x))) (sym c.word.ensures.is) (class_known c.args.pc); short = omega arith; near = omega arith })
