use Prim.Native.Nat.{ℕ}
use mathlib.Core.Path.{refl, ◌∙◌}
use Rattle.lexis.specs.Word.{constant_at}
use Rattle.grammar.specs.Alone.{head_of, HeadAt}
use Rattle.grammar.proofs.Callings.{kind_by, kind_or}
use borrow.Author.Tests.{not-false}
use Rattle.lexis.specs.Bytes.{is_digit, is_start}
use Rattle.grammar.proofs.Leaves.{tested}
use Rattle.grammar.proofs.Heads.{head_digits, head_other, head_call, head_constant, head_variable}
use Rattle.grammar.proofs.picks.head_at.Goals as goal

pub returns-then-is_digit : goal.returns-then-is_digit
returns-then-is_digit c = head_digits c.args.lines (tested is_digit c.byte_at-b.ensures c.is_digit.ensures c.if-is_digit.true) c.number_end-e.ensures c.headed.ensures

pub returns-then-not-is_start : goal.returns-then-not-is_start
returns-then-not-is_start c = head_other c.args.lines (λ left. c.unwrap_or-k.ensures ∙ kind_or c.term_at.result ∙ c.term_at.ensures.kind left) c.headed-then-not-is_start.ensures

pub returns-then-calls : goal.returns-then-calls
returns-then-calls c = head_call c.args.lines (tested is_digit c.byte_at-b.ensures c.is_digit.ensures c.if-is_digit.false) (tested is_start c.byte_at-b.ensures c.is_start.ensures (not-false c.is_start.result c.if-not-is_start.false-raw)) c.ident_end-e.ensures c.calls.ensures c.if-calls.true c.headed-then-calls.ensures

pub returns : goal.returns
returns c = rw c.headed-2.ensures (kind_by (λ (k : ℕ). HeadAt c.args.s.now c.args.p c.args.lines (head_of k c.ident_end-e.result)) (constant_at c.args.s.now c.args.p) c.constant_at.ensures c.unwrap_or.ensures (λ n. head_constant c.args.lines (tested is_digit c.byte_at-b.ensures c.is_digit.ensures c.if-is_digit.false) (tested is_start c.byte_at-b.ensures c.is_start.ensures (not-false c.is_start.result c.if-not-is_start.false-raw)) c.ident_end-e.ensures c.calls.ensures c.if-calls.false refl n refl) (λ n. head_variable c.args.lines (tested is_digit c.byte_at-b.ensures c.is_digit.ensures c.if-is_digit.false) (tested is_start c.byte_at-b.ensures c.is_start.ensures (not-false c.is_start.result c.if-not-is_start.false-raw)) c.ident_end-e.ensures c.calls.ensures c.if-calls.false refl n refl))
