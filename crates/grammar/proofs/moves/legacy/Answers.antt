use Rattle.grammar.specs.Moves as moves
use lib.Dec.{eqb}
use mathlib.Core.Path.{refl, ap}
use borrow.Author.Tests.{ne_eqb}
use Rattle.grammar.specs.Said.{refused}
use Rattle.grammar.proofs.Leaves.{other, index_is, over_past}
use Rattle.grammar.proofs.moves.legacy.Goals as goal

pub returns-in-Ok : goal.returns-in-Ok
returns-in-Ok c = index_is c.in-Ok.ensures c.token.ensures

pub returns-in-Err : goal.returns-in-Err
returns-in-Err c = index_is c.in-Err.ensures (other (eqb c.in-Err.field-0.end c.args.p) (moves.unexpected c.args.s.now c.args.p) (moves.no 10 c.args.p) (ne_eqb _ _ (over_past c.in-Err.ensures refl)) (ap refused c.at.ensures))
