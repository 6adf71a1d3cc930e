use Rattle.checker.proofs.Layings.{index_laid, interpolation_laid, array_laid, call_laid, condition_laid, list_for_laid, parentheses_laid}
use Rattle.checker.proofs.layout.layout.Goals as goal

pub returns-then-kind-eq-INDEX : goal.returns-then-kind-eq-INDEX
returns-then-kind-eq-INDEX c = index_laid (c.if-kind-eq-INDEX.true) c.enclosed.ensures

pub returns-then-kind-eq-INTERPOLATION : goal.returns-then-kind-eq-INTERPOLATION
returns-then-kind-eq-INTERPOLATION c = interpolation_laid (c.if-kind-eq-INTERPOLATION.true) c.interpolation.ensures

pub returns-then-kind-eq-ARRAY : goal.returns-then-kind-eq-ARRAY
returns-then-kind-eq-ARRAY c = array_laid (c.if-kind-eq-ARRAY.true) c.listed.ensures

pub returns-then-kind-eq-CALL : goal.returns-then-kind-eq-CALL
returns-then-kind-eq-CALL c = call_laid (c.if-kind-eq-CALL.true) c.call.ensures

pub returns-then-kind-eq-CONDITION : goal.returns-then-kind-eq-CONDITION
returns-then-kind-eq-CONDITION c = condition_laid (c.if-kind-eq-CONDITION.true) c.condition.ensures

pub returns-then-kind-eq-LIST_FOR : goal.returns-then-kind-eq-LIST_FOR
returns-then-kind-eq-LIST_FOR c = list_for_laid (c.if-kind-eq-LIST_FOR.true) c.list_for.ensures

pub returns-then-kind-eq-PARENTHESES : goal.returns-then-kind-eq-PARENTHESES
returns-then-kind-eq-PARENTHESES c = parentheses_laid (c.if-kind-eq-PARENTHESES.true) c.enclosed-then-kind-eq-PARENTHESES.ensures
