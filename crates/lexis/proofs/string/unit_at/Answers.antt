use mathlib.Core.Path.{sym, ap, ◌∙◌}
use Rattle.std.specs.Prelude.{Ok}
use Rattle.lexis.specs.String.{answer_of}
use Rattle.lexis.proofs.Units.{unit_there, unit_end, unit_dollar, unit_percent, unit_heredoc, unit_quote, unit_escape, unit_plain}
use Rattle.lexis.proofs.string.unit_at.Goals as goal

pub returns-then-s-p : goal.returns-then-s-p
returns-then-s-p c = unit_there c.args.quoted c.args.s.now c.args.p _ (ap answer_of (sym (unit_end c.args.quoted c.args.s.now c.args.p c.if-s-p.true)))

pub returns-then-b-eq36 : goal.returns-then-b-eq36
returns-then-b-eq36 c = unit_there c.args.quoted c.args.s.now c.args.p _ (c.marker_at.ensures ∙ ap answer_of (sym (unit_dollar c.args.quoted c.args.s.now c.args.p c.if-s-p.false c.if-b-eq36.true)))

pub returns-then-b-eq37 : goal.returns-then-b-eq37
returns-then-b-eq37 c = unit_there c.args.quoted c.args.s.now c.args.p _ (c.marker_at-then-b-eq37.ensures ∙ ap answer_of (sym (unit_percent c.args.quoted c.args.s.now c.args.p c.if-s-p.false c.if-b-eq37.true)))

pub returns-then-not-quoted : goal.returns-then-not-quoted
returns-then-not-quoted c = unit_there c.args.quoted c.args.s.now c.args.p _ (ap Ok c.one.ensures ∙ ap answer_of (sym (unit_heredoc c.args.quoted c.args.s.now c.args.p c.if-s-p.false c.if-b-eq36.false c.if-b-eq37.false (c.if-not-quoted.true))))

pub returns-then-b-eq34 : goal.returns-then-b-eq34
returns-then-b-eq34 c = unit_there c.args.quoted c.args.s.now c.args.p _ (ap answer_of (sym (unit_quote c.args.quoted c.args.s.now c.args.p c.if-s-p.false c.if-b-eq36.false c.if-b-eq37.false (c.if-not-quoted.false) c.if-b-eq34.true)))

pub returns-then-b-eq92 : goal.returns-then-b-eq92
returns-then-b-eq92 c = unit_there c.args.quoted c.args.s.now c.args.p _ (c.escape_at.ensures ∙ ap answer_of (sym (unit_escape c.args.quoted c.args.s.now c.args.p c.if-s-p.false c.if-b-eq36.false c.if-b-eq37.false (c.if-not-quoted.false) c.if-b-eq92.true)))

pub returns : goal.returns
returns c = unit_there c.args.quoted c.args.s.now c.args.p _ (ap Ok c.one-2.ensures ∙ ap answer_of (sym (unit_plain c.args.quoted c.args.s.now c.args.p c.if-s-p.false c.if-b-eq36.false c.if-b-eq37.false (c.if-not-quoted.false) c.if-b-eq34.false c.if-b-eq92.false)))
