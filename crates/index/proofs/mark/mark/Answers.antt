-- The first byte says which key it is.
use mathlib.Core.Path.{sym, ◌∙◌}
use Rattle.index.proofs.Marks.{mark_text, mark_none}
use Rattle.index.proofs.mark.mark.Goals as goal

pub returns-then-b-eq34 : goal.returns-then-b-eq34
returns-then-b-eq34 c = mark_text c.byte_at-b.ensures c.if-b-eq34.true c.text.ensures

pub returns-then-not-is_start : goal.returns-then-not-is_start
returns-then-not-is_start c = mark_none c.byte_at-b.ensures c.if-b-eq34.false (sym c.is_start.ensures ∙ c.if-not-is_start.true)

pub returns : goal.returns
returns c = c.word_at.ensures.mark
