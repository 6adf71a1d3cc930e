use Rattle.lexis.proofs.Numbers.{a_digit, number_is}
use native.Mathlib.Omega.{arith}
use Rattle.lexis.proofs.number.number_end.Goals as goal

pub returns : goal.returns
returns c = let a = c.args in
    record {
      is = number_is a.s.now a.p (a_digit a.s.now a.p c.digits_end-d.ensures c.if-d-p.false) c.digits_end-d.ensures.is c.fraction_end-f.ensures.is c.exponent_end.ensures.is;
      low = omega arith;
      high = omega arith;
    }
