use Rattle.checker.proofs.ListFors.{shut_no, shut_by}
use Rattle.checker.proofs.list_for.shut.Goals as goal

pub returns-then-e-at : goal.returns-then-e-at
returns-then-e-at c = shut_no c.mark_end-e.ensures c.if-e-at.true

pub returns : goal.returns
returns c = shut_by c.mark_end-e.ensures c.if-e-at.false c.ends.ensures
