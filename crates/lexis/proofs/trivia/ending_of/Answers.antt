-- The width of a line ending, from the byte at p and the one after it.
use Prim.Native.Nat.{◌+◌}
use Rattle.lexis.specs.RunLaws.{stands_inside, here}
use Rattle.lexis.proofs.Trivias.{ending_lf, ending_cr, ending_none}
use mathlib.Core.List.{[], ◌∷◌}
use mathlib.Core.Path.{sym, ◌∙◌}
use native.Mathlib.Omega.{arith}
use Rattle.lexis.proofs.trivia.ending_of.Goals as goal

pub returns-then-b-eq10 : goal.returns-then-b-eq10
returns-then-b-eq10 c = let a = c.args in
    record {
      is = sym (ending_lf a.s.now a.p (sym c.requires ∙ c.if-b-eq10.true));
      inside = omega (arith, here a.s.now a.p);
    }

pub returns-then-b-ne13 : goal.returns-then-b-ne13
returns-then-b-ne13 c = let a = c.args in
    record {
      is = sym (ending_none a.s.now a.p (λ e. c.if-b-eq10.false (c.requires ∙ e)) (λ e. c.if-b-ne13.true (c.requires ∙ e)));
      inside = omega arith;
    }

pub returns-then-one_at : goal.returns-then-one_at
returns-then-one_at c = let a = c.args in
    record {
      is = sym (ending_cr a.s.now a.p (sym c.requires ∙ c.if-b-ne13.false) ∙ rw (sym c.one_at.ensures ∙ c.if-one_at.true));
      inside = omega (arith, stands_inside (10 ∷ []) a.s.now (a.p + 1) (sym c.one_at.ensures ∙ c.if-one_at.true));
    }

pub returns-else-one_at : goal.returns-else-one_at
returns-else-one_at c = let a = c.args in
    record {
      is = sym (ending_cr a.s.now a.p (sym c.requires ∙ c.if-b-ne13.false) ∙ rw (sym c.one_at.ensures ∙ c.if-one_at.false));
      inside = omega arith;
    }
