use native.Mathlib.Omega.{arith}
use mathlib.Core.Path.{sym, ◌∙◌}
use Rattle.lexis.specs.RunLaws.{default}
use Rattle.checker.proofs.Tolds.{keyed_no, keyed_by}
use Rattle.checker.proofs.told.keyed.Goals as goal

pub returns-then-kind-ne-KEY : goal.returns-then-kind-ne-KEY
returns-then-kind-ne-KEY c = keyed_no

pub returns-then-told-spot-ne0 : goal.returns-then-told-spot-ne0
returns-then-told-spot-ne0 c = keyed_no

pub returns-then-lines : goal.returns-then-lines
returns-then-lines c = keyed_no

pub returns-then-flag-ne0 : goal.returns-then-flag-ne0
returns-then-flag-ne0 c = keyed_no

pub returns-then-end-p : goal.returns-then-end-p
returns-then-end-p c = keyed_no

pub returns : goal.returns
returns c = keyed_by (c.requires.key _ (default c.args.told.now _ 1 0 c.requires.room ∙ c.if-told-spot-ne0.false)) (sym c.kind.ensures ∙ c.if-kind-ne-KEY.false) (sym c.flag.ensures.0 ∙ c.if-flag-ne0.false) (omega (arith, c.if-end-p.false, c.start-p.ensures.0, c.end.ensures.0)) c.start-p.ensures.0 c.if-lines.false c.one_at.ensures
