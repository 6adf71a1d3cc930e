use mathlib.Core.Path.{refl, sym, ◌∙◌}
use Rattle.lexis.specs.Bytes.{byte_at}
use Rattle.grammar.specs.Moves as moves
use lib.Dec.{eqb}
use borrow.Author.Tests.{eq-eqb, ne_eqb}
use Rattle.grammar.proofs.Leaves.{one, other, unless_is}
use Rattle.grammar.proofs.moves.unless.Goals as goal

pub returns-then-byte_at-from : goal.returns-then-byte_at-from
returns-then-byte_at-from c = unless_is c.args.x (one (eqb (byte_at c.args.s.now c.args.p) c.args.x) (moves.unexpected c.args.s.now c.args.p) (moves.to c.args.p) (eq-eqb _ _ (sym c.byte_at.ensures.is ∙ c.if-byte_at-from.true ∙ c.from.ensures)) c.unexpected.ensures)

pub returns-else-byte_at-from : goal.returns-else-byte_at-from
returns-else-byte_at-from c = unless_is c.args.x (other (eqb (byte_at c.args.s.now c.args.p) c.args.x) (moves.unexpected c.args.s.now c.args.p) (moves.to c.args.p) (ne_eqb _ _ (λ e. c.if-byte_at-from.false (c.byte_at.ensures.is ∙ e ∙ sym c.from.ensures))) refl)
