use Rattle.grammar.specs.Moves as moves
use lib.Dec.{eqb}
use borrow.Author.Tests.{eq-eqb, ne_eqb}
use Rattle.grammar.proofs.Leaves.{one, other}
use mathlib.Core.Path.{refl}
use Rattle.grammar.proofs.moves.stay.Goals as goal

pub returns-then-e-p : goal.returns-then-e-p
returns-then-e-p c = one (eqb c.args.e c.args.p) (moves.unexpected c.args.s.now c.args.p) (moves.to c.args.p) (eq-eqb _ _ c.if-e-p.true) c.unexpected.ensures

pub returns-else-e-p : goal.returns-else-e-p
returns-else-e-p c = other (eqb c.args.e c.args.p) (moves.unexpected c.args.s.now c.args.p) (moves.to c.args.p) (ne_eqb _ _ c.if-e-p.false) refl
