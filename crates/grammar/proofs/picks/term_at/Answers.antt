use mathlib.Core.Path.{sym, ◌∙◌}
use Rattle.lexis.specs.Bytes.{is_digit, is_start}
use Rattle.grammar.proofs.Leaves.{tested}
use Rattle.grammar.proofs.Callings.{term_digit, term_word, term_minus, term_unequal, term_not, term_parentheses, term_array, term_object, term_quote, term_heredoc, term_less, term_none}
use Rattle.grammar.proofs.picks.term_at.Goals as goal

pub returns-then-is_digit-clause-kind : goal.returns-then-is_digit-clause-kind
returns-then-is_digit-clause-kind c = term_digit c.args.s.now c.args.p c.args.lines (tested is_digit c.byte_at-b.ensures c.is_digit.ensures c.if-is_digit.true)

pub returns-then-is_start-clause-kind : goal.returns-then-is_start-clause-kind
returns-then-is_start-clause-kind c = term_word c.args.s.now c.args.p c.args.lines (tested is_digit c.byte_at-b.ensures c.is_digit.ensures c.if-is_digit.false) (tested is_start c.byte_at-b.ensures c.is_start.ensures c.if-is_start.true) c.word_at.ensures.kind

pub returns-in-45-clause-kind : goal.returns-in-45-clause-kind
returns-in-45-clause-kind c = term_minus c.args.s.now c.args.p c.args.lines (sym c.byte_at-b.ensures.is ∙ c.in-45.is) c.minus_before.ensures

pub returns-then-byte_at-eq61-clause-kind : goal.returns-then-byte_at-eq61-clause-kind
returns-then-byte_at-eq61-clause-kind c = term_unequal c.args.s.now c.args.p c.args.lines (sym c.byte_at-b.ensures.is ∙ c.in-33.is) (sym c.byte_at.ensures.is ∙ c.if-byte_at-eq61.true)

pub returns-else-byte_at-eq61-clause-kind : goal.returns-else-byte_at-eq61-clause-kind
returns-else-byte_at-eq61-clause-kind c = term_not c.args.s.now c.args.p c.args.lines (sym c.byte_at-b.ensures.is ∙ c.in-33.is) (λ e. c.if-byte_at-eq61.false (c.byte_at.ensures.is ∙ e))

pub returns-in-40-clause-kind : goal.returns-in-40-clause-kind
returns-in-40-clause-kind c = term_parentheses c.args.s.now c.args.p c.args.lines (sym c.byte_at-b.ensures.is ∙ c.in-40.is)

pub returns-in-91-clause-kind : goal.returns-in-91-clause-kind
returns-in-91-clause-kind c = term_array c.args.s.now c.args.p c.args.lines (sym c.byte_at-b.ensures.is ∙ c.in-91.is) c.for_at.ensures

pub returns-in-123-clause-kind : goal.returns-in-123-clause-kind
returns-in-123-clause-kind c = term_object c.args.s.now c.args.p c.args.lines (sym c.byte_at-b.ensures.is ∙ c.in-123.is) c.for_at-in-123.ensures

pub returns-in-34-clause-kind : goal.returns-in-34-clause-kind
returns-in-34-clause-kind c = term_quote c.args.s.now c.args.p c.args.lines (sym c.byte_at-b.ensures.is ∙ c.in-34.is) c.quote_before.ensures

pub returns-then-byte_at-eq60-clause-kind : goal.returns-then-byte_at-eq60-clause-kind
returns-then-byte_at-eq60-clause-kind c = term_heredoc c.args.s.now c.args.p c.args.lines (sym c.byte_at-b.ensures.is ∙ c.in-60.is) (sym c.byte_at-in-60.ensures.is ∙ c.if-byte_at-eq60.true)

pub returns-else-byte_at-eq60-clause-kind : goal.returns-else-byte_at-eq60-clause-kind
returns-else-byte_at-eq60-clause-kind c = term_less c.args.s.now c.args.p c.args.lines (sym c.byte_at-b.ensures.is ∙ c.in-60.is) (λ e. c.if-byte_at-eq60.false (c.byte_at-in-60.ensures.is ∙ e))

pub returns-in_default-clause-kind : goal.returns-in_default-clause-kind
returns-in_default-clause-kind c = term_none c.args.s.now c.args.p c.args.lines (tested is_digit c.byte_at-b.ensures c.is_digit.ensures c.if-is_digit.false) (tested is_start c.byte_at-b.ensures c.is_start.ensures c.if-is_start.false)
    (λ e. c.in_default.in_default-own.rest.0.0.0.0.0.0.1 (c.byte_at-b.ensures.is ∙ e)) (λ e. c.in_default.in_default-own.rest.0.0.0.0.0.1 (c.byte_at-b.ensures.is ∙ e)) (λ e. c.in_default.in_default-own.rest.0.0.0.0.1 (c.byte_at-b.ensures.is ∙ e)) (λ e. c.in_default.in_default-own.rest.0.0.0.1 (c.byte_at-b.ensures.is ∙ e)) (λ e. c.in_default.in_default-own.rest.0.0.1 (c.byte_at-b.ensures.is ∙ e)) (λ e. c.in_default.in_default-own.rest.0.1 (c.byte_at-b.ensures.is ∙ e)) (λ e. c.in_default.in_default-own.rest.1 (c.byte_at-b.ensures.is ∙ e))
