use mathlib.Core.Path.{sym, ◌∙◌}
use Rattle.grammar.specs.Said.{wanted}
use Rattle.checker.specs.Rows.{row_at}
use Rattle.checker.proofs.Programs.{sits_in, seat_tight}
use Rattle.checker.proofs.Precedences.{right_yes, right_none}
use Rattle.checker.proofs.Passes.{suits_by, suits_loose}
use Rattle.checker.proofs.pass.suits.Goals as goal

pub returns-then-not-groups : goal.returns-then-not-groups
returns-then-not-groups c = suits_loose (right_none _ _ c.groups.ensures (seat_tight (row_at c.args.spot.table.now c.args.spot.i).kind (c.from-x.ensures ∙ (rw c.kind-kind.ensures at c.seat.ensures))) c.if-not-groups.true)

pub returns : goal.returns
returns c = suits_by (sits_in (wanted c.args.want) (row_at c.args.spot.table.now c.args.spot.i).kind c.sits.ensures (c.from-x.ensures ∙ (rw c.kind-kind.ensures at c.seat.ensures))) (sym c.start-start.ensures.0 ∙ c.if-start-at.false) (right_yes _ _ c.groups.ensures (seat_tight (row_at c.args.spot.table.now c.args.spot.i).kind (c.from-x.ensures ∙ (rw c.kind-kind.ensures at c.seat.ensures))) c.if-not-groups.false)
