use Rattle.checker.proofs.Columns.{text_long}
use Rattle.checker.proofs.text.own.Goals as goal

pub returns : goal.returns
returns c = rw (c.then_some-2.ensures, c.in_ok-before.ensures.1) (text_long _ _ _ _ _ _ c.if-flag-ne1.false c.in_ok-before.ensures.0)
