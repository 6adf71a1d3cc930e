use mathlib.Core.Path.{◌∙◌}
use Rattle.checker.proofs.Strands.{broken_as, opens_by, opens_text}
use Rattle.checker.proofs.texts.opens.Goals as goal

pub returns-then-r-q : goal.returns-then-r-q
returns-then-r-q c = opens_text _ _ _ _ _ c.run_at-r.ensures c.if-r-q.true

pub returns : goal.returns
returns c = opens_by _ _ _ _ _ c.run_at-r.ensures c.if-r-q.false (c.eq.ensures ∙ broken_as _)
