use mathlib.Core.Path.{refl}
use mathlib.Core.List.{[]}
use Rattle.checker.proofs.Nodes.{first_as, laid_as}
use Rattle.checker.proofs.Heads.{head_no, head_known, head_by}
use Rattle.checker.proofs.node.headed.Goals as goal

pub returns-then-not-first_at : goal.returns-then-not-first_at
returns-then-not-first_at c = (head_no _ _ _ _ _ _ _ _ c.requires.2 c.if-not-first_at.true (first_as c.start-start.ensures.0 c.lines.ensures c.first_at.ensures), c.requires.4.key)

pub returns-then-kind-eq-OBJECT : goal.returns-then-kind-eq-OBJECT
returns-then-kind-eq-OBJECT c = (head_by _ _ _ _ _ _ _ _ c.requires.2 c.requires.3 c.if-not-first_at.false (first_as c.start-start.ensures.0 c.lines.ensures c.first_at.ensures) (laid_as c.start-start.ensures.0 refl refl c.object.ensures.0), c.object.ensures.1)

pub lay-requires : goal.lay-requires
lay-requires c = record { direct = record { within = c.requires.0.within; marked = c.requires.0.marked; deep = c.requires.0.deep; js = c.requires.1.js; chain = c.requires.1.chain }; known = head_known c.args.site.s.now c.args.site.table.now c.args.site.i c.args.site.own [] [] [] 0 c.requires.2 c.requires.3 c.if-not-first_at.false (first_as c.start-start.ensures.0 c.lines.ensures c.first_at.ensures); other = c.if-kind-eq-OBJECT.false; small = c.requires.0.small }

pub returns-then-first-site : goal.returns-then-first-site
returns-then-first-site c = (head_by _ _ _ _ _ _ _ _ c.requires.2 c.requires.3 c.if-not-first_at.false (first_as c.start-start.ensures.0 c.lines.ensures c.first_at.ensures) (laid_as c.start-start.ensures.0 refl refl c.lay.ensures), c.requires.4.key)

pub layout-requires : goal.layout-requires
layout-requires c = record { direct = record { within = c.requires.0.within; marked = c.requires.0.marked; deep = c.requires.0.deep; js = c.requires.1.js; chain = c.requires.1.chain }; known = head_known c.args.site.s.now c.args.site.table.now c.args.site.i c.args.site.own [] [] [] 0 c.requires.2 c.requires.3 c.if-not-first_at.false (first_as c.start-start.ensures.0 c.lines.ensures c.first_at.ensures); other = c.if-kind-eq-OBJECT.false; small = c.requires.0.small }

pub returns : goal.returns
returns c = (head_by _ _ _ _ _ _ _ _ c.requires.2 c.requires.3 c.if-not-first_at.false (first_as c.start-start.ensures.0 c.lines.ensures c.first_at.ensures) (laid_as c.start-start.ensures.0 refl refl c.layout.ensures), c.requires.4.key)
