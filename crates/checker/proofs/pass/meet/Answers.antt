use mathlib.Core.Path.{sym, ◌∙◌}
use Rattle.checker.proofs.Passes.{item_yes, met_loose, met_new}
use Rattle.checker.proofs.pass.meet.Goals as goal

pub returns-then-not-alone : goal.returns-then-not-alone
returns-then-not-alone c = met_loose _ _ _ _ _ c.requires.0.indexed (sym (c.requires.2 (item_yes _ c.ne.ensures c.if-ne.false)) ∙ c.if-not-alone.true)

pub returns : goal.returns
returns c = met_new _ _ _ _ _ c.requires.0.indexed (rw (sym c.wide-a.ensures.0) c.insert.ensures) (sym (c.requires.2 (item_yes _ c.ne.ensures c.if-ne.false)) ∙ c.if-not-alone.false) (rw (sym c.wide-a.ensures.0) (sym c.find.ensures ∙ c.if-find.false))
