use native.Mathlib.Omega.{arith}
use mathlib.Core.List.{[]}
use Prim.Native.Nat.{◌+◌}
use mathlib.Core.Path.{ap}
use Rattle.checker.proofs.Nodes.{first_as, text_as_lem}
use Rattle.checker.proofs.TextHeads.{template_first_no, template_flag_no, template_mode, template_by}
use Rattle.checker.proofs.node.template.Goals as goal

pub returns-then-site-ne0 : goal.returns-then-site-ne0
returns-then-site-ne0 c = template_flag_no _ _ _ _ _ _ _ _ (c.requires.2) (c.if-site-ne0.true)

pub returns-then-not-first_at : goal.returns-then-not-first_at
returns-then-not-first_at c = template_first_no _ _ _ _ _ _ _ _ (c.requires.2) c.if-not-first_at.true (first_as (c.start-start.ensures.0) (c.lines.ensures) (c.first_at.ensures))

pub texts-requires : goal.texts-requires
texts-requires c = (record { within = c.requires.0.within; marked = c.requires.0.marked; deep = c.requires.0.deep; js = c.requires.1.js; chain = c.requires.1.chain; mode = template_mode (c.args.site.s.now) [] (c.args.site.table.now) (c.args.site.i) (c.args.site.own) [] [] 0 (c.requires.2) c.if-not-first_at.false (first_as (c.start-start.ensures.0) (c.lines.ensures) (c.first_at.ensures)) }, omega (arith, c.start-start.ensures.1))

pub returns : goal.returns
returns c = template_by _ _ _ _ _ _ _ _ (c.requires.2) c.if-not-first_at.false (first_as (c.start-start.ensures.0) (c.lines.ensures) (c.first_at.ensures)) (c.if-site-ne0.false) (text_as_lem (ap (λ x. x + 1) (c.start-start.ensures.0)) (c.texts.ensures))
