use Prim.Native.Nat.{◌+◌}
use Rattle.lexis.proofs.Numbers.{no_digit, a_digit, fraction}
use mathlib.Core.Path.{sym, ◌∙◌}
use native.Mathlib.Omega.{arith}
use Rattle.lexis.proofs.number.fraction_end.Goals as goal

pub returns-then-e-p : goal.returns-then-e-p
returns-then-e-p c = let a = c.args in
    record {
      is = sym (fraction a.s.now a.p (sym c.byte_at-b.ensures.is ∙ c.if-b-ne46.false) (no_digit a.s.now (a.p + 1) c.digits_end-e.ensures c.if-e-p.true));
      low = omega arith;
      high = omega arith;
    }

pub returns-else-e-p : goal.returns-else-e-p
returns-else-e-p c = let a = c.args in
    record {
      is = c.digits_end-e.ensures.is ∙ sym (fraction a.s.now a.p (sym c.byte_at-b.ensures.is ∙ c.if-b-ne46.false) (a_digit a.s.now (a.p + 1) c.digits_end-e.ensures c.if-e-p.false));
      low = omega arith;
      high = omega arith;
    }
