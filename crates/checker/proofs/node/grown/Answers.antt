use native.Mathlib.Omega.{arith}
use mathlib.Core.Path.{refl, sym, ap, subst, ◌∙◌}
use Rattle.checker.proofs.Growns.{grown_none, grown_left_no, left_known, grown_by}
use Rattle.checker.proofs.Lays.{chain_le, linked_low, next_of}
use lib.ListN.{length-set}
use mathlib.Core.List.{[]}
use Rattle.checker.specs.Family.{Chain}
use Rattle.checker.proofs.Directs.{operator_laid}
use Rattle.lexis.specs.RunLaws.{clash}
use Rattle.checker.specs.Leaf.{is_grown}
use Rattle.checker.proofs.node.grown.Goals as goal

pub returns-then-first-site : goal.returns-then-first-site
returns-then-first-site c = grown_none _ _ _ _ _ _ _ _ c.requires.2 c.if-first-site.true

pub left_at-requires : goal.left_at-requires
left_at-requires c = omega (arith, c.requires.0.within, linked_low c.requires.1 c.if-first-site.false)

pub returns-in_default : goal.returns-in_default
returns-in_default c = grown_left_no _ _ _ _ _ _ _ _ c.requires.2 c.if-first-site.false (chain_le _ _ c.requires.1.js _ c.requires.1.chain) refl (c.in_default.ensures.left)

pub bounds-depths-first : goal.bounds-depths-first
bounds-depths-first c = omega (arith, c.requires.0.deep, linked_low c.requires.1 c.if-first-site.false)

pub next-next-requires : goal.next-next-requires
next-next-requires c = omega (arith, c.requires.0.marked, linked_low c.requires.1 c.if-first-site.false)

pub end-end-requires : goal.end-end-requires
end-end-requires c = omega (arith, c.requires.0.within, linked_low c.requires.1 c.if-first-site.false)

pub operator-requires : goal.operator-requires
operator-requires c = let z = linked_low c.requires.1 c.if-first-site.false in let y = next_of _ _ c.requires.1.js _ c.requires.1.chain z in (record { within = c.requires.0.within; marked = c.requires.0.marked; deep = omega (arith, length-set c.args.depths.now c.args.first c.args.site.own, c.requires.0.deep); js = y.rest; chain = subst (Chain _ _ y.rest) (sym c.next-next.ensures) y.chain }, left_known c.args.site.s.now c.args.site.table.now c.args.site.i c.args.site.own [] [] [] c.args.first c.requires.2 c.if-first-site.false (omega (arith, z)) refl c.in-Some.ensures.left)

pub returns-then-e-end : goal.returns-then-e-end
returns-then-e-end c = let z = linked_low c.requires.1 c.if-first-site.false in let y = next_of _ _ c.requires.1.js _ c.requires.1.chain z in grown_by _ _ _ _ _ _ _ _ c.requires.2 c.if-first-site.false (omega (arith, z)) refl c.in-Some.ensures.left (omega (arith, z, c.requires.0.deep)) y.up c.next-next.ensures c.end-end.ensures.0 (operator_laid c.in-Some.ensures refl c.end-end.ensures.0 c.if-e-end.true c.operator.ensures)

pub growth-requires : goal.growth-requires
growth-requires c = let z = linked_low c.requires.1 c.if-first-site.false in let y = next_of _ _ c.requires.1.js _ c.requires.1.chain z in record { direct = record { within = c.requires.0.within; marked = c.requires.0.marked; deep = omega (arith, length-set c.args.depths.now c.args.first c.args.site.own, c.requires.0.deep); js = y.rest; chain = subst (Chain _ _ y.rest) (sym c.next-next.ensures) y.chain }; known = left_known c.args.site.s.now c.args.site.table.now c.args.site.i c.args.site.own [] [] [] c.args.first c.requires.2 c.if-first-site.false (omega (arith, z)) refl c.in-Some.ensures.left; other = λ e. clash (sym c.requires.2 ∙ ap is_grown e); small = c.requires.0.small }

pub returns : goal.returns
returns c = let z = linked_low c.requires.1 c.if-first-site.false in let y = next_of _ _ c.requires.1.js _ c.requires.1.chain z in grown_by _ _ _ _ _ _ _ _ c.requires.2 c.if-first-site.false (omega (arith, z)) refl c.in-Some.ensures.left (omega (arith, z, c.requires.0.deep)) y.up c.next-next.ensures c.end-end.ensures.0 c.growth.ensures
