use Prim.Native.Nat.{ℕ}
use mathlib.Core.Path.{refl, ◌≡◌}
use Rattle.lexis.specs.Word.{constant_at}
use Rattle.grammar.specs.Said.{word_kind}
use Rattle.grammar.proofs.Callings.{word_call, word_some, word_none, kind_by}
use Rattle.grammar.proofs.picks.word_at.Goals as goal

pub returns-then-calls-clause-kind : goal.returns-then-calls-clause-kind
returns-then-calls-clause-kind c = word_call c.args.lines c.ident_end-e.ensures c.calls.ensures c.if-calls.true

pub returns-clause-kind : goal.returns-clause-kind
returns-clause-kind c = kind_by (λ (k : ℕ). k ≡ word_kind c.args.s.now c.args.lines c.args.p) (constant_at c.args.s.now c.args.p) c.constant_at.ensures c.unwrap_or.ensures (λ n. word_some c.args.lines c.ident_end-e.ensures c.calls.ensures c.if-calls.false refl n) (λ n. word_none c.args.lines c.ident_end-e.ensures c.calls.ensures c.if-calls.false refl n)
