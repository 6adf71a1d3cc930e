-- The first bytes say which keys they are.
use mathlib.Core.Path.{sym, ◌∙◌}
use Rattle.lexis.proofs.Sames.{keys_differ, keys_string, keys_other, keys_word}
use Rattle.lexis.proofs.keys.same_key.Goals as goal

pub returns-then-x-y : goal.returns-then-x-y
returns-then-x-y c = sym (keys_differ c.byte_at-x.ensures c.byte_at-y.ensures c.if-x-y.true)

pub returns-then-x-eq-QUOTE : goal.returns-then-x-eq-QUOTE
returns-then-x-eq-QUOTE c = c.same_text.ensures ∙ sym (keys_string c.byte_at-x.ensures c.byte_at-y.ensures c.if-x-y.false c.if-x-eq-QUOTE.true)

pub returns-then-not-is_start : goal.returns-then-not-is_start
returns-then-not-is_start c = sym (keys_other c.byte_at-x.ensures c.byte_at-y.ensures c.if-x-y.false (sym c.is_start.ensures ∙ c.if-not-is_start.true) c.if-x-eq-QUOTE.false)

pub returns : goal.returns
returns c = c.same_rest.ensures ∙ sym (keys_word c.byte_at-x.ensures c.byte_at-y.ensures c.if-x-y.false (sym c.is_start.ensures ∙ c.if-not-is_start.false))
