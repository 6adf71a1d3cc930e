use mathlib.Core.Path.{sym, ◌∙◌}
use Rattle.checker.proofs.Strands.{line_closes, line_text, line_foreign}
use Rattle.checker.proofs.texts.line_ends.Goals as goal

pub returns-in-Text : goal.returns-in-Text
returns-in-Text c = line_text (sym (rw c.delimiter-d.ensures at c.line_at.ensures) ∙ c.in-Text.is)

pub returns-in-Closes : goal.returns-in-Closes
returns-in-Closes c = line_closes (sym (rw c.delimiter-d.ensures at c.line_at.ensures) ∙ c.in-Closes.is)

pub returns-in-Foreign : goal.returns-in-Foreign
returns-in-Foreign c = line_foreign (sym (rw c.delimiter-d.ensures at c.line_at.ensures) ∙ c.in-Foreign.is)
