use mathlib.Core.Path.{sym, ◌∙◌}
use Rattle.checker.proofs.Passes.{ends_no, ends_by_lem}
use Rattle.checker.proofs.lay.ends.Goals as goal

pub returns-then-j-spot : goal.returns-then-j-spot
returns-then-j-spot c = ends_no (λ a b f. c.if-j-spot.true a)

pub returns-then-q-end : goal.returns-then-q-end
returns-then-q-end c = ends_no (λ a b f. c.if-q-end.true (b ∙ sym (c.end.ensures.0)))

pub returns : goal.returns
returns c = ends_by_lem _ (c.flag.ensures.0) (c.if-j-spot.false) (c.if-q-end.false ∙ c.end.ensures.0)
