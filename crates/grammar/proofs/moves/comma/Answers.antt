use Prim.Native.Nat.{◌+◌}
use mathlib.Core.Bool.{true}
use mathlib.Core.Path.{refl, sym, ◌∙◌}
use Rattle.lexis.specs.Bytes.{byte_at}
use Rattle.grammar.specs.Moves as moves
use lib.Dec.{eqb}
use borrow.Author.Tests.{eq-eqb, ne_eqb}
use Rattle.grammar.proofs.Leaves.{one, other, comma_is}
use Rattle.grammar.proofs.moves.comma.Goals as goal

pub returns-then-byte_at-eq44 : goal.returns-then-byte_at-eq44
returns-then-byte_at-eq44 c = comma_is (one (eqb (byte_at c.args.s.now c.args.p) 44) (moves.skip c.args.s.now true (c.args.p + 1)) (moves.to c.args.p) (eq-eqb _ _ (sym c.byte_at.ensures.is ∙ c.if-byte_at-eq44.true)) c.space.ensures.is)

pub returns-else-byte_at-eq44 : goal.returns-else-byte_at-eq44
returns-else-byte_at-eq44 c = comma_is (other (eqb (byte_at c.args.s.now c.args.p) 44) (moves.skip c.args.s.now true (c.args.p + 1)) (moves.to c.args.p) (ne_eqb _ _ (λ e. c.if-byte_at-eq44.false (c.byte_at.ensures.is ∙ e))) refl)
