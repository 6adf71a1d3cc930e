-- The first byte says which key it is.
use mathlib.Core.Path.{sym, ◌∙◌}
use Rattle.index.proofs.Marks.{token_none, token_text}
use Rattle.index.proofs.mark.token_at.Goals as goal

pub returns-then-b-ne34 : goal.returns-then-b-ne34
returns-then-b-ne34 c = token_none c.byte_at-b.ensures c.if-b-ne34.true (sym c.is_start.ensures ∙ c.if-is_start.false)

pub returns : goal.returns
returns c = token_text c.byte_at-b.ensures c.if-b-ne34.false c.run_at-t.ensures c.text-m.ensures
