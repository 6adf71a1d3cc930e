-- The loop keeps the end of the digits and their value: v is the value of those passed, and those left follow it.
use Prim.Native.Nat.{ℕ, ◌+◌, ◌*◌, ◌-◌, ◌<◌}
use Rattle.lexis.proofs.Numbers.{digits, index_zero, index_ends, index_more, index_over, over_by}
use Rattle.lexis.specs.RunLaws.{run_on}
use Rattle.lexis.proofs.Runs.{tested, past}
use Rattle.lexis.specs.Bytes.{byte_at, is_digit}
use Rattle.lexis.specs.Number.{limit, value_from, index_of}
use Rattle.std.specs.Prelude.{Ok}
use mathlib.Core.Path.{◌≡◌, refl, sym, ap, ◌∙◌}
use native.Mathlib.Omega.{arith}
use Rattle.lexis.proofs.number.index_at.Goals as goal

pub returns-then-byte_at-eq48 : goal.returns-then-byte_at-eq48
returns-then-byte_at-eq48 c = let a = c.args in
    record {
      is = index_zero a.s.now a.p (sym c.byte_at.ensures.is ∙ c.if-byte_at-eq48.true);
      low = omega arith;
      high = omega arith;
    }

pub returns-then-not-is_digit : goal.returns-then-not-is_digit
returns-then-not-is_digit c = let a = c.args in
    let l = c.loop-i.invariant in
    record {
      is = index_ends a.s.now a.p c.loop-i.i c.loop-i.v (λ f. c.if-byte_at-eq48.false (c.byte_at.ensures.is ∙ f)) l.2 l.3 (tested is_digit c.byte_at-c.ensures c.is_digit.ensures c.if-not-is_digit.true) l.1;
      low = omega arith;
      high = omega arith;
    }

pub returns-then-d-v : goal.returns-then-d-v
returns-then-d-v c = let a = c.args in
    let l = c.loop-i.invariant in
    let k : limit < c.loop-i.v * 10 + (byte_at a.s.now c.loop-i.i - 48) = omega (arith, over_by _ _ _ c.if-d-v.true, c.from-d.ensures, c.byte_at-c.ensures.is) in
    record {
      is = index_over a.s.now a.p c.loop-i.i c.loop-i.v (λ f. c.if-byte_at-eq48.false (c.byte_at.ensures.is ∙ f)) l.2 l.3 (tested is_digit c.byte_at-c.ensures c.is_digit.ensures c.if-not-is_digit.false) c.digits_end-end.ensures.is k;
      low = omega arith;
      high = omega arith;
    }

pub loop-i-preserved : goal.loop-i-preserved
loop-i-preserved c = let a = c.args in
    let l = c.loop-i.invariant in
    let digit = tested is_digit c.byte_at-c.ensures c.is_digit.ensures c.if-not-is_digit.false in
    let e : c.from-d.result ≡ byte_at a.s.now c.loop-i.i - 48 = omega (arith, c.from-d.ensures, c.byte_at-c.ensures.is) in (
      omega arith,
      omega (arith, c.if-d-v.false),
      run_on is_digit a.s.now c.loop-i.i c.loop-i-test.true digit ∙ l.2,
      ap (λ (x : ℕ). value_from (c.loop-i.v * 10 + x) (digits a.s.now (c.loop-i.i + 1))) e
          ∙ index_more a.s.now a.p c.loop-i.i c.loop-i.v (λ f. c.if-byte_at-eq48.false (c.byte_at.ensures.is ∙ f)) l.2 l.3 digit,
    )

pub returns : goal.returns
returns c = let a = c.args in
    let l = c.loop-i.invariant in
    let e : c.max.result ≡ c.loop-i.i = omega arith in
    record {
      is = ap (λ (q : ℕ). index_of (Ok q)) e
          ∙ index_ends a.s.now a.p c.loop-i.i c.loop-i.v (λ f. c.if-byte_at-eq48.false (c.byte_at.ensures.is ∙ f)) l.2 l.3 (past is_digit a.s.now c.loop-i.i refl c.loop-i-test.false) l.1;
      low = omega arith;
      high = omega arith;
    }
