use mathlib.Core.Path.{refl, sym, ◌∙◌}
use Rattle.grammar.proofs.Refusals.{numbered}
use Rattle.checker.proofs.Afters.{over_gap, over_shut, over_more}
use Rattle.checker.proofs.moves.over.Goals as goal

pub returns-in_default : goal.returns-in_default
returns-in_default c = over_gap c.requires c.in_default.ensures (numbered _)

pub returns-then-one_at : goal.returns-then-one_at
returns-then-one_at c = over_shut c.requires c.in-Ok.ensures refl (sym c.one_at.ensures ∙ c.if-one_at.true)

pub returns : goal.returns
returns c = over_more c.requires c.in-Ok.ensures refl (sym c.one_at.ensures ∙ c.if-one_at.false)
