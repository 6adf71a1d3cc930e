use borrow.Author.Tests.{not-true, not-false}
use Rattle.checker.proofs.Tellings.{told_plain, told_unset, told_long, told_spelt}
use Rattle.checker.proofs.text.told.Goals as goal

pub returns-then-not-t : goal.returns-then-not-t
returns-then-not-t c = told_plain (not-true _ c.if-not-t.true)

pub returns-then-r-ne1 : goal.returns-then-r-ne1
returns-then-r-ne1 c = told_unset (not-false _ c.if-not-t.false) c.if-r-ne1.true

pub returns-then-r-t : goal.returns-then-r-t
returns-then-r-t c = told_long (not-false _ c.if-not-t.false) c.if-r-ne1.false c.if-r-t.true

pub returns : goal.returns
returns c = told_spelt (not-false _ c.if-not-t.false) c.if-r-ne1.false c.if-r-t.false c.spells.ensures
