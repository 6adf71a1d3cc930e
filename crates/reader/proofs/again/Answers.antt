-- A source is read again, into the lent room.
use Rattle.reader.proofs.Wholly.{read_again}
use Rattle.reader.proofs.again.Goals as goal

pub returns : goal.returns
returns c = read_again c.requires.0.small c.requires.0.whole c.whole.ensures c.requires.2 c.whole.auto.nodes c.whole.auto.text c.accepted.ensures
