use mathlib.Core.Path.{refl}
use Rattle.grammar.proofs.Callings.{for_open, for_none, for_some}
use Rattle.grammar.proofs.picks.for_at.Goals as goal

pub returns-in_default : goal.returns-in_default
returns-in_default c = for_open c.in_default.ensures c.args.yes c.args.no refl

pub returns-then-for_end-at : goal.returns-then-for_end-at
returns-then-for_end-at c = for_none c.in-Ok.ensures c.args.yes c.args.no refl c.for_end.ensures c.if-for_end-at.true

pub returns-else-for_end-at : goal.returns-else-for_end-at
returns-else-for_end-at c = for_some c.in-Ok.ensures c.args.yes c.args.no refl c.for_end.ensures c.if-for_end-at.false
