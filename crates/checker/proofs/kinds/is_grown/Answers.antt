use Rattle.checker.proofs.Callings.{grown_conditional, grown_high, grown_low}
use Rattle.checker.proofs.kinds.is_grown.Goals as goal

pub returns-then-kind-eq-CONDITIONAL : goal.returns-then-kind-eq-CONDITIONAL
returns-then-kind-eq-CONDITIONAL c = grown_conditional _ c.if-kind-eq-CONDITIONAL.true

pub returns-then-kind-ge-MULTIPLY : goal.returns-then-kind-ge-MULTIPLY
returns-then-kind-ge-MULTIPLY c = grown_high _ c.if-kind-eq-CONDITIONAL.false c.if-kind-ge-MULTIPLY.true

pub returns-else-kind-ge-MULTIPLY : goal.returns-else-kind-ge-MULTIPLY
returns-else-kind-ge-MULTIPLY c = grown_low _ c.if-kind-eq-CONDITIONAL.false c.if-kind-ge-MULTIPLY.false
