use Rattle.checker.proofs.Singles.{read_key, read_other}
use Rattle.checker.proofs.single.read_as.Goals as goal

pub returns-then-kind-eq-KEY : goal.returns-then-kind-eq-KEY
returns-then-kind-eq-KEY c = read_key _ c.if-kind-eq-KEY.true

pub returns-else-kind-eq-KEY : goal.returns-else-kind-eq-KEY
returns-else-kind-eq-KEY c = read_other _ c.if-kind-eq-KEY.false
