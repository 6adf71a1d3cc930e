use Rattle.lexis.specs.String.{quoted_of, from_of, to_of}
use Rattle.checker.proofs.Tellings.{piece_dollar, piece_empty, piece_short, piece_told}
use Rattle.checker.proofs.text.piece.Goals as goal

pub returns-then-two_at : goal.returns-then-two_at
returns-then-two_at c = piece_dollar c.row-r.ensures _ (quoted_of c.args.round) (from_of c.args.round) (to_of c.args.round) c.two_at.ensures c.if-two_at.true

pub returns-then-r : goal.returns-then-r
returns-then-r c = piece_empty c.row-r.ensures _ (quoted_of c.args.round) (from_of c.args.round) (to_of c.args.round) c.if-r.true

pub returns-then-r-t : goal.returns-then-r-t
returns-then-r-t c = piece_short c.row-r.ensures _ (quoted_of c.args.round) (from_of c.args.round) (to_of c.args.round) c.run_at-t.ensures c.if-r-t.true

pub returns : goal.returns
returns c = piece_told c.row-r.ensures _ (quoted_of c.args.round) (from_of c.args.round) (to_of c.args.round) c.run_at-t.ensures c.two_at.ensures c.if-two_at.false c.if-r.false c.if-r-t.false (rw c.is_quoted.ensures at c.told.ensures)
