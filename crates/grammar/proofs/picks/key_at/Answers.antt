use Prim.Native.Nat.{ℕ}
use Rattle.lexis.specs.Word.{constant_at}
use Rattle.grammar.specs.Alone.{key_of, Word}
use Rattle.grammar.proofs.Callings.{kind_by}
use mathlib.Core.Path.{refl}
use native.Mathlib.Omega.{arith}
use borrow.Author.Tests.{not-false}
use Rattle.lexis.specs.Bytes.{is_start}
use Rattle.grammar.proofs.Leaves.{tested}
use Rattle.grammar.proofs.Keys.{key_constant, key_variable}
use Rattle.grammar.proofs.picks.key_at.Goals as goal

pub returns : goal.returns
returns c = kind_by (λ (k : ℕ). Word c.args.s.now c.args.p (key_of k c.ident_end-e.result c.in-Ok.q c.in_ok-flag.flag)) (constant_at c.args.s.now c.args.p) c.constant_at.ensures c.unwrap_or.ensures (λ n. key_constant (tested is_start c.byte_at-b.ensures c.is_start.ensures (not-false c.is_start.result c.if-not-is_start.false-raw)) c.ident_end-e.ensures c.in-Ok.ensures refl c.in_ok-flag.ensures (omega arith) c.in_ok-flag.flag refl refl n) (λ n. key_variable (tested is_start c.byte_at-b.ensures c.is_start.ensures (not-false c.is_start.result c.if-not-is_start.false-raw)) c.ident_end-e.ensures c.in-Ok.ensures refl c.in_ok-flag.ensures (omega arith) c.in_ok-flag.flag refl refl n)
