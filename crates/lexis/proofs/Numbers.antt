-- Laws on numbers: the parts of a number, and the value of the digits that an index has.
use Prim.Native.Nat.{ℕ, ◌+◌, ◌*◌, ◌-◌, ◌/◌, ◌≤◌, ◌<◌}
use mathlib.Core.Path.{◌≡◌, refl, sym, ap, ◌∙◌}
use mathlib.Core.List.{List, [], ◌∷◌}
use mathlib.Core.Bool.{Bool, true, false, cond}
use native.Mathlib.Omega.{arith}
use lib.ListN.{length, take, drop}
use lib.Dec.{ltb}
use borrow.Author.Tests.{ne_eqb, lt-ltb, le-ltb}
use Rattle.lexis.specs.Bytes.{byte_at, is_digit, run, Ran}
use Rattle.lexis.specs.Number.{digits_to, fraction_to, sign_to, is_exponent, exponent_to, number_to, value_from, value, limit, index_at}
use Rattle.lexis.specs.RunLaws.{here, inside, next, run_on, run_stop}
use Rattle.lexis.proofs.Runs.{run_first, run_later}

-- the code's test, which does not overflow: ten times v and d are over k
pub over_by : (k d v : ℕ) → (k - d) / 10 < v → k < v * 10 + d
over_by k d v h = omega arith

-- where digits were looked for: their end tells whether there is one
module _ (s : List ℕ) (p : ℕ) {r : ℕ} (h : Ran s p (digits_to s p) r) where
  pub no_digit : r ≡ p → is_digit (byte_at s p) ≡ false
  no_digit e = run_first is_digit s p refl (sym h.is ∙ e)

  pub a_digit : (r ≡ p → ⊥) → is_digit (byte_at s p) ≡ true
  a_digit n = run_later is_digit s p (λ e. n (h.is ∙ e))

module _ (s : List ℕ) (p : ℕ) where
  pub fraction : {d : Bool} → byte_at s p ≡ 46 → is_digit (byte_at s (p + 1)) ≡ d → fraction_to s p ≡ cond d (digits_to s (p + 1)) p
  fraction e f = rw (e, f)

  pub no_sign : (byte_at s p ≡ 43 → ⊥) → (byte_at s p ≡ 45 → ⊥) → sign_to s p ≡ p
  no_sign n m = rw (ne_eqb (byte_at s p) 43 n, ne_eqb (byte_at s p) 45 m)

  pub exponent : {q : ℕ} {d : Bool} → is_exponent (byte_at s p) ≡ true → q ≡ sign_to s (p + 1) → is_digit (byte_at s q) ≡ d → exponent_to s p ≡ cond d (digits_to s q) p
  exponent e f g = rw (e, ← f, g)

  pub number_is : {d f r : ℕ} → is_digit (byte_at s p) ≡ true → d ≡ digits_to s p → f ≡ fraction_to s d → r ≡ exponent_to s f → r ≡ number_to s p
  number_is e g h k = k ∙ ap (exponent_to s) (h ∙ ap (fraction_to s) g) ∙ sym whole
    where
      whole : number_to s p ≡ exponent_to s (fraction_to s (digits_to s p))
      whole = rw e

-- the digits from a place on, and their value
abbrev pub digits : List ℕ → ℕ → List ℕ
digits s i = take (run is_digit (drop i s)) (drop i s)

module _ (s : List ℕ) (i : ℕ) where
  pub digits_on : is_digit (byte_at s i) ≡ true → digits s i ≡ byte_at s i ∷ digits s (i + 1)
  unfolding run
  digits_on e = rw (next s i (inside is_digit s i refl e), e)

  pub digits_stop : is_digit (byte_at s i) ≡ false → digits s i ≡ []
  digits_stop e = let f : run is_digit (drop i s) ≡ 0 = omega (arith, run_stop is_digit s i e) in rw f

-- more digits make no value smaller
grows : (v : ℕ) (ds : List ℕ) → v ≤ value_from v ds
unfolding value_from
grows v [] = omega arith
grows v (d ∷ ds) = omega (arith, grows (10 * v + (d - 48)) ds)

module _ (s : List ℕ) (p : ℕ) where
  -- of an index that does not start with 0 all digits count
  index_is : (byte_at s p ≡ 48 → ⊥) → index_at s p ≡ record { end = digits_to s p; over = ltb limit (value (digits s p)) }
  index_is n = let f : digits_to s p - p ≡ run is_digit (drop p s) = omega arith in rw (ne_eqb (byte_at s p) 48 n, f)

  pub index_zero : byte_at s p ≡ 48 → record { end = p + 1; over = false } ≡ index_at s p
  unfolding value_from
  index_zero e =
      let h : p < length s = omega (arith, here s p) in
      let f : p + 1 - p ≡ 1 = omega arith in
      rw (e, f, next s p h, e)

  -- the code is at the digit at i, with the value v of those before it
  module _ (i v : ℕ) (n : byte_at s p ≡ 48 → ⊥) (same : digits_to s i ≡ digits_to s p) (kept : value_from v (digits s i) ≡ value (digits s p)) where
    pub index_ends : is_digit (byte_at s i) ≡ false → v ≤ limit → record { end = i; over = false } ≡ index_at s p
    unfolding value_from
    index_ends e l =
        let f : digits_to s p ≡ i = sym same ∙ run_stop is_digit s i e in
        let g : value (digits s p) ≡ v = sym kept ∙ rw (digits_stop s i e) in
        sym (index_is n ∙ rw (f, g, le-ltb limit v l))

    pub index_more : is_digit (byte_at s i) ≡ true → value_from (v * 10 + (byte_at s i - 48)) (digits s (i + 1)) ≡ value (digits s p)
    unfolding value_from
    index_more e =
        let f : v * 10 + (byte_at s i - 48) ≡ 10 * v + (byte_at s i - 48) = omega arith in
        let g : value_from v (digits s i) ≡ value_from (10 * v + (byte_at s i - 48)) (digits s (i + 1)) = rw (digits_on s i e) in
        rw f (sym g ∙ kept)

    pub index_over : {r : ℕ} → is_digit (byte_at s i) ≡ true → r ≡ digits_to s (i + 1) → limit < v * 10 + (byte_at s i - 48)
        → record { end = r; over = true } ≡ index_at s p
    index_over {r} e f l =
        let g : limit < value (digits s p) = omega (arith, index_more e, grows (v * 10 + (byte_at s i - 48)) (digits s (i + 1))) in
        let k : digits_to s p ≡ r = sym (f ∙ run_on is_digit s i (inside is_digit s i refl e) e ∙ same) in
        sym (index_is n ∙ rw (k, lt-ltb limit (value (digits s p)) g))
