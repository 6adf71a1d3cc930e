use mathlib.Core.Path.{sym, ◌∙◌}
use Rattle.grammar.proofs.Callings.{part_full, part_index, part_splat, part_legacy, part_attribute, part_no}
use Rattle.grammar.proofs.picks.part_at.Goals as goal

pub returns-then-c-eq42-clause-kind : goal.returns-then-c-eq42-clause-kind
returns-then-c-eq42-clause-kind c = part_full c.args.s.now c.args.p c.beyond-c.ensures (sym c.byte_at-b.ensures.is ∙ c.if-b-eq91.true) c.if-c-eq42.true

pub returns-else-c-eq42-clause-kind : goal.returns-else-c-eq42-clause-kind
returns-else-c-eq42-clause-kind c = part_index c.args.s.now c.args.p c.beyond-c.ensures (sym c.byte_at-b.ensures.is ∙ c.if-b-eq91.true) c.if-c-eq42.false

pub returns-then-b-ne46-clause-kind : goal.returns-then-b-ne46-clause-kind
returns-then-b-ne46-clause-kind c = part_no c.args.s.now c.args.p (λ e. c.if-b-eq91.false (c.byte_at-b.ensures.is ∙ e)) (λ e. c.if-b-ne46.true (c.byte_at-b.ensures.is ∙ e))

pub returns-then-c-eq42-2-clause-kind : goal.returns-then-c-eq42-2-clause-kind
returns-then-c-eq42-2-clause-kind c = part_splat c.args.s.now c.args.p c.beyond-c-2.ensures (sym c.byte_at-b.ensures.is ∙ c.if-b-ne46.false) c.if-c-eq42-2.true

pub returns-then-is_digit-clause-kind : goal.returns-then-is_digit-clause-kind
returns-then-is_digit-clause-kind c = part_legacy c.args.s.now c.args.p c.beyond-c-2.ensures (sym c.byte_at-b.ensures.is ∙ c.if-b-ne46.false) c.if-c-eq42-2.false (sym c.is_digit.ensures ∙ c.if-is_digit.true)

pub returns-else-is_digit-clause-kind : goal.returns-else-is_digit-clause-kind
returns-else-is_digit-clause-kind c = part_attribute c.args.s.now c.args.p c.beyond-c-2.ensures (sym c.byte_at-b.ensures.is ∙ c.if-b-ne46.false) c.if-c-eq42-2.false (sym c.is_digit.ensures ∙ c.if-is_digit.false)
