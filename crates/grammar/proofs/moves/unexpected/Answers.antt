use Rattle.lexis.specs.Bytes.{is_foreign, byte_at}
use Rattle.grammar.specs.Moves as moves
use Rattle.grammar.proofs.Leaves.{one, other, tested}
use mathlib.Core.Path.{ap}
use Rattle.grammar.specs.Said.{refused}
use Rattle.grammar.proofs.moves.unexpected.Goals as goal

pub returns-then-is_foreign : goal.returns-then-is_foreign
returns-then-is_foreign c = one (is_foreign (byte_at c.args.s.now c.args.p)) (moves.no 3 c.args.p) (moves.no 4 c.args.p) (tested is_foreign c.byte_at.ensures c.is_foreign.ensures c.if-is_foreign.true) (ap refused c.at.ensures)

pub returns-else-is_foreign : goal.returns-else-is_foreign
returns-else-is_foreign c = other (is_foreign (byte_at c.args.s.now c.args.p)) (moves.no 3 c.args.p) (moves.no 4 c.args.p) (tested is_foreign c.byte_at.ensures c.is_foreign.ensures c.if-is_foreign.false) (ap refused c.at-else-is_foreign.ensures)
