use borrow.Author.Tests.{eq-eqb, ne_eqb}
use Rattle.reader.proofs.tree.is_unary.Goals as goal

pub returns-then-kind-eq-NEGATION : goal.returns-then-kind-eq-NEGATION
returns-then-kind-eq-NEGATION c = rw (eq-eqb c.args.kind 22 c.if-kind-eq-NEGATION.true)

pub returns-else-kind-eq-NEGATION : goal.returns-else-kind-eq-NEGATION
returns-else-kind-eq-NEGATION c = rw (ne_eqb c.args.kind 22 c.if-kind-eq-NEGATION.false)
