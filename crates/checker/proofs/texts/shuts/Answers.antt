use Rattle.checker.proofs.Strands.{shuts_text, shuts_by}
use Rattle.checker.proofs.texts.shuts.Goals as goal

pub returns-then-r-q : goal.returns-then-r-q
returns-then-r-q c = shuts_text _ _ _ _ _ (c.run_at-r.ensures) (c.if-r-q.true)

pub returns : goal.returns
returns c = shuts_by _ _ _ _ _ (c.run_at-r.ensures) (c.if-r-q.false) (c.closes.ensures)
