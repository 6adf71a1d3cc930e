use Rattle.grammar.specs.Moves as moves
use Rattle.grammar.specs.Said.{refused, went_of}
use lib.Dec.{eqb}
use mathlib.Core.Path.{refl, sym, ap, ◌∙◌}
use borrow.Author.Tests.{eq-eqb, ne_eqb}
use Rattle.grammar.proofs.Leaves.{one, other, level_none, level_some}
use Rattle.grammar.proofs.moves.enter.Goals as goal

pub returns-then-e-p : goal.returns-then-e-p
returns-then-e-p c = one (eqb c.args.e c.args.p) (moves.unexpected c.args.s.now c.args.p) (moves.level c.args.left c.args.p (moves.to c.args.e)) (eq-eqb _ _ c.if-e-p.true) c.unexpected.ensures

pub returns-then-left-eq0 : goal.returns-then-left-eq0
returns-then-left-eq0 c = other (eqb c.args.e c.args.p) (moves.unexpected c.args.s.now c.args.p) (moves.level c.args.left c.args.p (moves.to c.args.e)) (ne_eqb _ _ c.if-e-p.false) ((ap refused c.at.ensures) ∙ ap went_of (sym (level_none _ c.args.p (moves.to c.args.e) c.if-left-eq0.true)))

pub returns-else-left-eq0 : goal.returns-else-left-eq0
returns-else-left-eq0 c = other (eqb c.args.e c.args.p) (moves.unexpected c.args.s.now c.args.p) (moves.level c.args.left c.args.p (moves.to c.args.e)) (ne_eqb _ _ c.if-e-p.false) (refl ∙ ap went_of (sym (level_some _ c.args.p (moves.to c.args.e) c.if-left-eq0.false)))
