use Rattle.checker.proofs.Lones.{item_here}
use Rattle.checker.proofs.lone.alone.Goals as goal

pub returns : goal.returns
returns c = item_here _ c.spaces-q.ensures c.two_at.ensures c.if-two_at.false c.signs-yes.ensures c.requires
