use native.Mathlib.Omega.{arith}
use mathlib.Core.Path.{sym, ◌∙◌}
use Rattle.checker.proofs.Strands.{strand_no, strand_piece, strand_dollar, strand_other}
use Rattle.checker.proofs.texts.strand.Goals as goal

pub returns-then-start-q : goal.returns-then-start-q
returns-then-start-q c = strand_no _ _ _ _ _ _ _ _ (λ a b σ u. c.if-start-q.true (c.start-start.ensures.0 ∙ a))

pub returns-then-end-start : goal.returns-then-end-start
returns-then-end-start c = strand_no _ _ _ _ _ _ _ _ (λ a b σ u. omega (arith, b.some, c.if-end-start.true, c.start-start.ensures.0, c.end.ensures.0))

pub returns-then-kind-eq-PIECE : goal.returns-then-kind-eq-PIECE
returns-then-kind-eq-PIECE c = strand_piece _ _ _ _ _ _ _ _ (c.piece.ensures) (sym c.kind-kind.ensures ∙ c.if-kind-eq-PIECE.true) (sym (c.start-start.ensures.0) ∙ c.if-start-q.false)

pub returns-then-kind-ne-INTERPOLATION : goal.returns-then-kind-ne-INTERPOLATION
returns-then-kind-ne-INTERPOLATION c = strand_other _ _ _ _ _ _ _ _ (λ e. c.if-kind-eq-PIECE.false (c.kind-kind.ensures ∙ e)) (λ e. c.if-kind-ne-INTERPOLATION.true (c.kind-kind.ensures ∙ e))

pub returns : goal.returns
returns c = strand_dollar _ _ _ _ _ _ _ _ (c.opens.ensures) (sym c.kind-kind.ensures ∙ c.if-kind-ne-INTERPOLATION.false) (sym (c.start-start.ensures.0) ∙ c.if-start-q.false)
