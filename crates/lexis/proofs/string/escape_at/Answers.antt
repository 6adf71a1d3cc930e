use Prim.Native.Nat.{ℕ, ◌+◌}
use mathlib.Core.Path.{sym, ap, ◌∙◌}
use lib.ListN.{drop}
use Rattle.std.specs.Prelude.{Ok}
use Rattle.lexis.specs.String.{answer_of, escape}
use Rattle.lexis.proofs.Spelling.{escape_none}
use Rattle.lexis.proofs.string.escape_at.Goals as goal

pub returns-then-b-eq110 : goal.returns-then-b-eq110
unfolding escape
returns-then-b-eq110 c = ap Ok c.one.ensures ∙ ap (λ (x : ℕ). answer_of (escape x (drop (c.args.p + 1) c.args.s.now))) (sym (sym c.byte_at-b.ensures.is ∙ c.if-b-eq110.true))

pub returns-then-b-eq114 : goal.returns-then-b-eq114
unfolding escape
returns-then-b-eq114 c = ap Ok c.one-then-b-eq114.ensures ∙ ap (λ (x : ℕ). answer_of (escape x (drop (c.args.p + 1) c.args.s.now))) (sym (sym c.byte_at-b.ensures.is ∙ c.if-b-eq114.true))

pub returns-then-b-eq116 : goal.returns-then-b-eq116
unfolding escape
returns-then-b-eq116 c = ap Ok c.one-then-b-eq116.ensures ∙ ap (λ (x : ℕ). answer_of (escape x (drop (c.args.p + 1) c.args.s.now))) (sym (sym c.byte_at-b.ensures.is ∙ c.if-b-eq116.true))

pub returns-then-b-eq92 : goal.returns-then-b-eq92
unfolding escape
returns-then-b-eq92 c = ap Ok c.one-then-b-eq92.ensures ∙ ap (λ (x : ℕ). answer_of (escape x (drop (c.args.p + 1) c.args.s.now))) (sym (sym c.byte_at-b.ensures.is ∙ c.if-b-eq92.true))

pub returns-then-b-eq34 : goal.returns-then-b-eq34
unfolding escape
returns-then-b-eq34 c = ap Ok c.one-then-b-eq34.ensures ∙ ap (λ (x : ℕ). answer_of (escape x (drop (c.args.p + 1) c.args.s.now))) (sym (sym c.byte_at-b.ensures.is ∙ c.if-b-eq34.true))

pub returns-then-b-eq117 : goal.returns-then-b-eq117
unfolding escape
returns-then-b-eq117 c = c.scalar_at.ensures ∙ ap (λ (x : ℕ). answer_of (escape x (drop (c.args.p + 1) c.args.s.now))) (sym (sym c.byte_at-b.ensures.is ∙ c.if-b-eq117.true))

pub returns-then-b-eq85 : goal.returns-then-b-eq85
unfolding escape
returns-then-b-eq85 c = c.scalar_at-then-b-eq85.ensures ∙ ap (λ (x : ℕ). answer_of (escape x (drop (c.args.p + 1) c.args.s.now))) (sym (sym c.byte_at-b.ensures.is ∙ c.if-b-eq85.true))

pub returns : goal.returns
returns c = ap answer_of (sym (ap (λ (x : ℕ). escape x (drop (c.args.p + 1) c.args.s.now)) (sym c.byte_at-b.ensures.is) ∙ escape_none c.byte_at-b.result (drop (c.args.p + 1) c.args.s.now) c.if-b-eq110.false c.if-b-eq114.false c.if-b-eq116.false c.if-b-eq92.false c.if-b-eq34.false c.if-b-eq117.false c.if-b-eq85.false))
