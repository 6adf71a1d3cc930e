use mathlib.Core.Path.{sym, ◌∙◌}
use Rattle.checker.proofs.Singles.{token_no, token_by}
use Rattle.checker.proofs.single.is_alone.Goals as goal

pub returns-then-read_as-kind : goal.returns-then-read_as-kind
returns-then-read_as-kind c = token_no (λ a b d. c.if-read_as-kind.true (rw c.kind.ensures at c.read_as.ensures ∙ a))

pub returns-then-end : goal.returns-then-end
returns-then-end c = token_no (λ a b d. c.if-end.true (c.end.ensures.0 ∙ b))

pub returns : goal.returns
returns c = token_by c.flag.ensures.0 (sym (rw c.kind.ensures at c.read_as.ensures) ∙ c.if-read_as-kind.false) (sym c.end.ensures.0 ∙ c.if-end.false)
