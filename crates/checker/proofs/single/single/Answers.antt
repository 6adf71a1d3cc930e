use mathlib.Core.Path.{sym, ◌∙◌}
use Rattle.checker.proofs.Singles.{sure, unsure}
use Rattle.checker.proofs.Looks.{look_key, look_name, look_dot}
use Rattle.checker.proofs.single.single.Goals as goal

pub returns-then-kind-eq-ATTRIBUTE : goal.returns-then-kind-eq-ATTRIBUTE
returns-then-kind-eq-ATTRIBUTE c = look_dot c.start-start.ensures.0 (sym c.kind-kind.ensures ∙ c.if-kind-eq-ATTRIBUTE.true) c.attribute.ensures

pub returns-then-kind-eq-NAME : goal.returns-then-kind-eq-NAME
returns-then-kind-eq-NAME c = look_name c.start-start.ensures.0 (sym c.kind-kind.ensures ∙ c.if-kind-eq-NAME.true) c.name.ensures

pub returns-then-keyed : goal.returns-then-keyed
returns-then-keyed c = look_key c.if-keyed.true c.keyed.ensures

pub returns-then-not-is_token : goal.returns-then-not-is_token
returns-then-not-is_token c = unsure

pub returns-then-h-start : goal.returns-then-h-start
returns-then-h-start c = unsure

pub returns : goal.returns
returns c = sure (rw c.kind-kind.ensures at c.is_token.ensures c.if-not-is_token.false) c.start-start.ensures.0 c.head_at-h.ensures c.if-h-start.false c.is_alone.ensures
