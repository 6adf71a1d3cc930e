use mathlib.Core.Path.{sym, ◌∙◌}
use Rattle.checker.proofs.Columns.{columns_string, columns_piece, columns_none}
use Rattle.checker.proofs.text.columns.Goals as goal

pub returns-in-6 : goal.returns-in-6
returns-in-6 c = columns_string _ c.row-r.ensures (sym c.kind.ensures ∙ c.in-6.is) c.saturating_sub-n.ensures c.saturating_sub.ensures c.own.ensures

pub returns-in-9 : goal.returns-in-9
returns-in-9 c = columns_piece _ c.row-r-in-9.ensures (sym c.kind.ensures ∙ c.in-9.is) c.saturating_sub-n-in-9.ensures c.own-in-9.ensures

pub returns-in_default : goal.returns-in_default
returns-in_default c = columns_none c.args.spot.table.now c.args.spot.i _ c.from.ensures.0 c.length.ensures.0 (λ e. c.in_default.in_default-own.rest.0.1 (c.kind.ensures ∙ e)) (λ e. c.in_default.in_default-own.rest.1 (c.kind.ensures ∙ e)) c.own-in_default.ensures
