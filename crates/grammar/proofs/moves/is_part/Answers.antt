use mathlib.Core.Path.{sym, ap, ◌∙◌}
use mathlib.Core.Bool.{not}
use Prim.Native.Nat.{ℕ}
use lib.Dec.{eqb}
use Rattle.grammar.proofs.Leaves.{part_open, part_none, part_dot}
use Rattle.grammar.proofs.moves.is_part.Goals as goal

pub returns-then-b-eq91 : goal.returns-then-b-eq91
returns-then-b-eq91 c = part_open c.args.s.now c.args.p (sym c.byte_at-b.ensures.is ∙ c.if-b-eq91.true)

pub returns-then-b-ne46 : goal.returns-then-b-ne46
returns-then-b-ne46 c = part_none c.args.s.now c.args.p (λ e. c.if-b-eq91.false (c.byte_at-b.ensures.is ∙ e)) (λ e. c.if-b-ne46.true (c.byte_at-b.ensures.is ∙ e))

pub returns : goal.returns
returns c = ap (λ (x : ℕ). not (eqb x 46)) c.byte_at.ensures.is ∙ part_dot c.args.s.now c.args.p (λ e. c.if-b-eq91.false (c.byte_at-b.ensures.is ∙ e)) (sym c.byte_at-b.ensures.is ∙ c.if-b-ne46.false)
