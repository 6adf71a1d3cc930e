use Rattle.lexis.proofs.Numbers.{no_digit, a_digit, exponent}
use Rattle.lexis.specs.RunLaws.{inside}
use Rattle.lexis.proofs.Runs.{tested}
use Rattle.lexis.specs.Number.{is_exponent}
use borrow.Author.Tests.{not-false}
use mathlib.Core.Path.{refl, sym, ◌∙◌}
use native.Mathlib.Omega.{arith}
use Rattle.lexis.proofs.number.exponent_end.Goals as goal

pub returns-then-e-d : goal.returns-then-e-d
returns-then-e-d c = let a = c.args in
    record {
      is = sym (exponent a.s.now a.p (tested is_exponent c.byte_at-b.ensures c.is_exponent.ensures (not-false _ c.if-not-is_exponent.false-raw)) c.sign_end-d.ensures.is (no_digit a.s.now c.sign_end-d.result c.digits_end-e.ensures c.if-e-d.true));
      low = omega arith;
      high = omega arith;
    }

pub returns-else-e-d : goal.returns-else-e-d
returns-else-e-d c = let a = c.args in
    let e = tested is_exponent c.byte_at-b.ensures c.is_exponent.ensures (not-false _ c.if-not-is_exponent.false-raw) in
    let h = inside is_exponent a.s.now a.p refl e in
    record {
      is = c.digits_end-e.ensures.is ∙ sym (exponent a.s.now a.p e c.sign_end-d.ensures.is (a_digit a.s.now c.sign_end-d.result c.digits_end-e.ensures c.if-e-d.false));
      low = omega arith;
      high = omega arith;
    }
