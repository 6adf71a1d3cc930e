use native.Mathlib.Omega.{arith}
use mathlib.Core.List.{[]}
use mathlib.Core.Path.{refl, sym, ◌∙◌}
use Rattle.checker.proofs.Nodes.{first_as, opened_as}
use Rattle.checker.proofs.TextHeads.{byte_is, heredoc_first_no, heredoc_no, heredoc_flag_no, heredoc_mode, heredoc_by}
use Rattle.checker.proofs.node.heredoc.Goals as goal

pub returns-then-not-first_at : goal.returns-then-not-first_at
returns-then-not-first_at c = heredoc_first_no _ _ _ _ _ _ _ _ (c.requires.2) c.if-not-first_at.true (first_as (c.start-start.ensures.0) (c.lines.ensures) (c.first_at.ensures))

pub returns-in_default : goal.returns-in_default
returns-in_default c = heredoc_no _ _ _ _ _ _ _ _ (c.requires.2) c.if-not-first_at.false (first_as (c.start-start.ensures.0) (c.lines.ensures) (c.first_at.ensures)) (opened_as (c.start-start.ensures.0) c.in_default.ensures) refl

pub returns-then-wide-from : goal.returns-then-wide-from
returns-then-wide-from c = heredoc_flag_no _ _ _ _ _ _ _ _ (c.requires.2) c.if-not-first_at.false (first_as (c.start-start.ensures.0) (c.lines.ensures) (c.first_at.ensures)) (opened_as (c.start-start.ensures.0) c.in-Ok.ensures) refl (λ e. c.if-wide-from.true (c.wide.ensures.0 ∙ e ∙ sym (byte_is _ c.from.ensures)))

pub texts-requires : goal.texts-requires
texts-requires c = (record { within = c.requires.0.within; marked = c.requires.0.marked; deep = c.requires.0.deep; js = c.requires.1.js; chain = c.requires.1.chain; mode = heredoc_mode (c.args.site.s.now) [] (c.args.site.table.now) (c.args.site.i) (c.args.site.own) [] [] 0 (c.requires.2) c.if-not-first_at.false (first_as (c.start-start.ensures.0) (c.lines.ensures) (c.first_at.ensures)) (opened_as (c.start-start.ensures.0) c.in-Ok.ensures) }, omega (arith, c.in-Ok.ensures.high, c.start-start.ensures.1, c.requires.0.short))

pub returns : goal.returns
returns c = heredoc_by _ _ _ _ _ _ _ _ (c.requires.2) c.if-not-first_at.false (first_as (c.start-start.ensures.0) (c.lines.ensures) (c.first_at.ensures)) (opened_as (c.start-start.ensures.0) c.in-Ok.ensures) refl (sym (c.wide.ensures.0) ∙ c.if-wide-from.false ∙ byte_is _ c.from.ensures) (c.texts.ensures)
