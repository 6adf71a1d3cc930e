use borrow.Author.Tests.{eq-eqb, ne_eqb}
use Rattle.reader.proofs.tree.is_quoted.Goals as goal

pub returns-then-kind-eq-STRING : goal.returns-then-kind-eq-STRING
returns-then-kind-eq-STRING c = rw (eq-eqb c.args.kind 6 c.if-kind-eq-STRING.true)

pub returns-else-kind-eq-STRING : goal.returns-else-kind-eq-STRING
returns-else-kind-eq-STRING c = rw (ne_eqb c.args.kind 6 c.if-kind-eq-STRING.false)
