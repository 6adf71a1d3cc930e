use mathlib.Core.Path.{refl, sym, ◌∙◌}
use borrow.Author.Tests.{not-true, not-false}
use Rattle.lexis.proofs.SameTexts.{quote_as}
use Rattle.checker.proofs.Strings.{string_bare, string_open, string_short, string_told}
use Rattle.checker.proofs.text.string.Goals as goal

pub returns-then-not-one_at : goal.returns-then-not-one_at
returns-then-not-one_at c = string_bare c.requires c.row-r.ensures _ _ c.one_at.ensures c.if-not-one_at.true

pub returns-then-ne : goal.returns-then-ne
returns-then-ne c = string_open c.requires c.row-r.ensures _ _ c.run_at-t.ensures refl (sym (quote_as _) ∙ not-true _ (sym c.ne.ensures ∙ c.if-ne.true))

pub returns-then-r-t : goal.returns-then-r-t
returns-then-r-t c = string_short c.requires c.row-r.ensures _ _ c.run_at-t.ensures c.if-r-t.true

pub returns : goal.returns
returns c = string_told c.requires c.row-r.ensures _ _ c.run_at-t.ensures c.one_at.ensures c.if-not-one_at.false refl (sym (quote_as _) ∙ not-false _ (sym c.ne.ensures ∙ c.if-ne.false)) c.if-r-t.false c.told.ensures
