use mathlib.Core.Path.{sym, ◌∙◌}
use Rattle.checker.proofs.Tolds.{tells_none, tells_one}
use Rattle.checker.proofs.told.tell.Goals as goal

pub returns-then-not-alone : goal.returns-then-not-alone
returns-then-not-alone c = tells_none

pub returns-then-count-eq0 : goal.returns-then-count-eq0
returns-then-count-eq0 c = tells_none

pub returns-then-spot-count : goal.returns-then-spot-count
returns-then-spot-count c = tells_none

pub returns-then-start-at : goal.returns-then-start-at
returns-then-start-at c = tells_none

pub returns-then-end : goal.returns-then-end
returns-then-end c = tells_none

pub returns : goal.returns
returns c = tells_one _ c.if-not-alone.false (sym c.start.ensures.0 ∙ c.if-start-at.false) (sym c.end.ensures.0 ∙ c.if-end.false)
