use Rattle.checker.proofs.Layings.{traversal_laid, conditional_laid}
use Rattle.checker.proofs.layout.growth.Goals as goal

pub returns-then-kind-eq-TRAVERSAL : goal.returns-then-kind-eq-TRAVERSAL
returns-then-kind-eq-TRAVERSAL c = traversal_laid c.if-kind-eq-TRAVERSAL.true c.traversal.ensures

pub returns-then-kind-eq-CONDITIONAL : goal.returns-then-kind-eq-CONDITIONAL
returns-then-kind-eq-CONDITIONAL c = conditional_laid c.if-kind-eq-CONDITIONAL.true c.conditional.ensures
