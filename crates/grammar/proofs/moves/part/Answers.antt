use mathlib.Core.Path.{refl, sym, ◌∙◌}
use Rattle.grammar.specs.Moves as moves
use Rattle.grammar.proofs.Leaves.{one, other, part_is}
use Rattle.grammar.proofs.moves.part.Goals as goal

pub returns-then-is_part : goal.returns-then-is_part
returns-then-is_part c = part_is (one (moves.is_part c.args.s.now c.args.p) (moves.to c.args.p) (moves.unexpected c.args.s.now c.args.p) (sym c.is_part.ensures ∙ c.if-is_part.true) refl)

pub returns-else-is_part : goal.returns-else-is_part
returns-else-is_part c = part_is (other (moves.is_part c.args.s.now c.args.p) (moves.to c.args.p) (moves.unexpected c.args.s.now c.args.p) (sym c.is_part.ensures ∙ c.if-is_part.false) c.unexpected.ensures)
