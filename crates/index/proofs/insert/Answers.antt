-- The four numbers of the slot are put; then the walk comes to where the path ends.
use mathlib.Core.Path.{refl, sym, ◌∙◌}
use native.Mathlib.Omega.{arith}
use Rattle.lexis.proofs.Sequences.{nonzero_none, nonzero_some}
use Rattle.index.proofs.Inserts.{insert_first, walk_start, walk_more, walk_less, insert_linked}
use Rattle.index.proofs.insert.Goals as goal

pub returns-then-k-first : goal.returns-then-k-first
returns-then-k-first c = insert_first c.requires.0 c.requires.1 c.requires.2 refl c.if-k-first.true

pub loop-c-init : goal.loop-c-init
loop-c-init c = walk_start c.requires.0 c.requires.1 c.requires.2 (omega (arith, c.if-k-first.false))

pub loop-c-smaller : goal.loop-c-smaller
loop-c-smaller c = let v = nonzero_some (sym c.child.ensures ∙ c.in-Some.is) in let h = walk_less c.requires.0 c.requires.1 c.requires.2 c.loop-c.invariant v.0 v.1 in omega (arith, h.0, h.1)

pub loop-c-preserved : goal.loop-c-preserved
loop-c-preserved c = let v = nonzero_some (sym c.child.ensures ∙ c.in-Some.is) in walk_more c.requires.0 c.requires.1 c.requires.2 c.loop-c.invariant v.0 v.1

pub returns : goal.returns
returns c = insert_linked c.requires.0 c.requires.1 c.requires.2 c.loop-c.invariant (nonzero_none (sym c.child.ensures ∙ c.in_default.is)) _ c.from.ensures
