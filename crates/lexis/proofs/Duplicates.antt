-- What equal keys mean: the same word or the same plain text, and a key that is met before has an equal one among the starts.
use Prim.Native.Nat.{ℕ, zero, suc, ◌+◌, ◌-◌, ◌≤◌, ◌<◌, min}
use mathlib.Core.Path.{◌≡◌, refl, sym, ap, ◌∙◌}
use mathlib.Core.List.{List, [], ◌∷◌}
use mathlib.Core.Bool.{Bool, true, false, ◌||◌}
use native.Mathlib.Decide.{dec_lt}
use native.Mathlib.Omega.{arith}
use lib.ListN.{length, get_or}
use lib.Dec.{eqb}
use borrow.Author.Tests.{eq-eqb, eqb-true}
use Rattle.lexis.specs.Keys.{Key, word, plain, other, alike, same_as, same_key, among, met_before}
use Rattle.lexis.specs.RunLaws.{default, clash, and_left, and_right}
use Rattle.lexis.proofs.Lines.{part_next, part_none}

pub alike_equal : (l k : List ℕ) → alike l k ≡ true → l ≡ k
unfolding alike
alike_equal [] [] e = refl
alike_equal [] (y ∷ k) e = clash (sym e)
alike_equal (x ∷ l) [] e = clash (sym e)
alike_equal (x ∷ l) (y ∷ k) e =
    let f : x ≡ y = eqb-true x y (and_left (eqb x y) (alike l k) e) in
    let g : l ≡ k = alike_equal l k (and_right (eqb x y) (alike l k) e) in
    cc

pub alike_self : (l : List ℕ) → alike l l ≡ true
unfolding alike
alike_self [] = refl
alike_self (x ∷ l) = rw (eq-eqb x x refl) (alike_self l)

-- two keys are the same exactly where they are equal and are a word or a plain string
pub same_equal : (x y : Key) → same_as x y ≡ true → x ≡ y
same_equal (word l) (word k) e = ap word (alike_equal l k e)
same_equal (plain l) (plain k) e = ap plain (alike_equal l k e)
same_equal (word l) (plain k) e = clash (sym e)
same_equal (word l) other e = clash (sym e)
same_equal (plain l) (word k) e = clash (sym e)
same_equal (plain l) other e = clash (sym e)
same_equal other y e = clash (sym e)

pub same_word : (l : List ℕ) → same_as (word l) (word l) ≡ true
same_word l = alike_self l

pub same_plain : (l : List ℕ) → same_as (plain l) (plain l) ≡ true
same_plain l = alike_self l

-- a start from the i-th to before the j-th has the key at p
pub record Met (s starts : List ℕ) (i j p : ℕ) : Type 0 where
  pub at : ℕ
  pub low : i ≤ at
  pub high : at < min j (length starts)
  pub same : same_key s (get_or starts at 0) p ≡ true

module _ (s starts : List ℕ) (j p : ℕ) where
  one_more : (i : ℕ) → i < min j (length starts) → met_before s starts i j p ≡ (same_key s (get_or starts i 0) p || met_before s starts (i + 1) j p)
  unfolding among
  one_more i h = rw (part_next starts j i h, default starts i 256 0 (omega arith))

  no_more : (i : ℕ) → min j (length starts) ≤ i → met_before s starts i j p ≡ false
  unfolding among
  no_more i h = rw (part_none starts j i h)

  met_by : (n i : ℕ) → j - i < n → met_before s starts i j p ≡ true → Met s starts i j p
  met_by zero i h e = absurd (omega arith)
  met_by (suc n) i h e = go (dec_lt i (min j (length starts))) (met_by n (i + 1))
    where
      here : (x : Bool) → same_key s (get_or starts i 0) p ≡ x → i < min j (length starts) → (x || met_before s starts (i + 1) j p) ≡ true
          → (j - (i + 1) < n → met_before s starts (i + 1) j p ≡ true → Met s starts (i + 1) j p) → Met s starts i j p
      here true f l g r = record { at = i; low = omega arith; high = l; same = f }
      here false f l g r = let m = r (omega arith) g in record { at = m.at; low = omega (arith, m.low); high = m.high; same = m.same }

      go : Dec (i < min j (length starts)) → (j - (i + 1) < n → met_before s starts (i + 1) j p ≡ true → Met s starts (i + 1) j p) → Met s starts i j p
      go (yes l) r = here (same_key s (get_or starts i 0) p) refl l (sym (one_more i l) ∙ e) r
      go (no l) r = clash (sym e ∙ no_more i (omega arith))

  pub met : (i : ℕ) → met_before s starts i j p ≡ true → Met s starts i j p
  met i e = met_by (suc (j - i)) i (omega arith) e

  is_met_by : (n i : ℕ) (m : Met s starts i j p) → m.at - i < n → met_before s starts i j p ≡ true
  is_met_by zero i m h = absurd (omega arith)
  is_met_by (suc n) i m h = one_more i (omega (arith, m.low, m.high)) ∙ here (same_key s (get_or starts i 0) p) refl (dec_lt i m.at) (is_met_by n (i + 1))
    where
      here : (x : Bool) → same_key s (get_or starts i 0) p ≡ x → Dec (i < m.at) → ((m : Met s starts (i + 1) j p) → m.at - (i + 1) < n → met_before s starts (i + 1) j p ≡ true)
          → (x || met_before s starts (i + 1) j p) ≡ true
      here true f d r = refl
      here false f (yes l) r = r (record { at = m.at; low = omega arith; high = m.high; same = m.same }) (omega arith)
      here false f (no l) r = let z : i ≡ m.at = omega (arith, m.low) in clash (sym m.same ∙ ap (λ (k : ℕ). same_key s (get_or starts k 0) p) (sym z) ∙ f)

  pub is_met : (i : ℕ) → Met s starts i j p → met_before s starts i j p ≡ true
  is_met i m = is_met_by (suc (m.at - i)) i m (omega arith)
