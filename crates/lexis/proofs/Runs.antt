-- Laws on bytes and runs that only the code's proofs need. The others stand in specs/RunLaws.antt.
use Prim.Native.Nat.{ℕ, zero, suc, ◌+◌, ◌-◌, ◌<◌, ◌≤◌, max}
use mathlib.Core.Path.{◌≡◌, refl, sym, ap, ◌∙◌}
use mathlib.Core.List.{List, [], ◌∷◌}
use mathlib.Core.Bool.{Bool, true, false, cond, ◌&&◌, or-true}
use native.Mathlib.Numerals.{add-one}
use native.Mathlib.Nat.{add-zero}
use native.Mathlib.Omega.{arith}
use lib.ListN.{length, get_or, drop}
use lib.Seq.{drop-cons}
use lib.Dec.{leb}
use Rattle.lexis.specs.Bytes.{Byte, Ran, is_within, is_rest, run, run_to, byte_at, stands}
use Rattle.lexis.specs.RunLaws.{front, empty, run_on, run_stop, run_end, stands_none, stands_on, stands_off}

-- a test of a byte that was read is a test of the source
pub tested : (t : ℕ → Bool) {s : List ℕ} {p b : ℕ} {r v : Bool} → Byte s p b → r ≡ t b → r ≡ v → t (byte_at s p) ≡ v
tested t h e f = ap t (sym h.is) ∙ sym e ∙ f

-- past the end of the source nothing passes a test that nothing passes
pub past : (t : ℕ → Bool) (s : List ℕ) (i : ℕ) → t 256 ≡ false → length s ≤ i → t (byte_at s i) ≡ false
past t [] i n h = n
past t (x ∷ xs) zero n h = absurd (omega arith)
past t (x ∷ xs) (suc i) n h = past t xs i n (omega arith)

-- a loop over a run that starts at p, at the place i
pub record Running (t : ℕ → Bool) (s : List ℕ) (p i : ℕ) : Type 0 where
  pub low : p ≤ i
  pub high : i ≤ p + (length s - p)
  pub same : run_to t s i ≡ run_to t s p

module _ {t : ℕ → Bool} {s : List ℕ} {p i : ℕ} (h : Running t s p i) where
  pub running_on : i < length s → t (byte_at s i) ≡ true → Running t s p (i + 1)
  running_on l e = record { low = omega arith; high = omega arith; same = run_on t s i l e ∙ h.same }

  pub running_stop : t (byte_at s i) ≡ false → Ran s p (run_to t s p) i
  running_stop e = record { is = sym (run_stop t s i e) ∙ h.same; low = h.low; high = h.high }

  pub running_end : length s ≤ i → {r : ℕ} → r ≡ max p (length s) → Ran s p (run_to t s p) r
  running_end l {r} e =
      let f : r ≡ i = omega arith in
      record { is = f ∙ sym (run_end t s i l) ∙ h.same; low = omega arith; high = omega arith }

-- an end that is x where a test holds, and p elsewhere: whether it is p tells whether the test holds
pub unmoved : (p x : ℕ) (b : Bool) → p < x → cond b x p ≡ p → b ≡ false
unmoved p x true h e = absurd (omega arith)
unmoved p x false h e = refl

pub moved : (p x : ℕ) (b : Bool) → (cond b x p ≡ p → ⊥) → b ≡ true
moved p x true n = refl
moved p x false n = absurd (n refl)

first_fails : (t : ℕ → Bool) (xs : List ℕ) → t 256 ≡ false → run t xs ≡ 0 → t (byte_at xs 0) ≡ false
unfolding run
first_fails t [] n e = n
first_fails t (x ∷ xs) n e = unmoved 0 (suc (run t xs)) (t x) (omega arith) e

-- the end of a run tells whether its first byte passes
module _ (t : ℕ → Bool) (s : List ℕ) (i : ℕ) where
  pub run_first : t 256 ≡ false → run_to t s i ≡ i → t (byte_at s i) ≡ false
  run_first n e = ap t (sym (front s i)) ∙ first_fails t (drop i s) n (omega arith)

  pub run_later : (run_to t s i ≡ i → ⊥) → t (byte_at s i) ≡ true
  run_later n = later (t (byte_at s i)) refl
    where
      later : (b : Bool) → t (byte_at s i) ≡ b → b ≡ true
      later true e = refl
      later false e = absurd (n (run_stop t s i e))

-- a word that is compared byte by byte: what is left of it stands behind what was passed
module _ (w s : List ℕ) (p : ℕ) where
  pub all_start : stands (drop 0 w) s (p + 0) ≡ stands w s p
  all_start = rw add-zero

  module _ (i : ℕ) where
    pub all_end : length w ≤ i → stands (drop i w) s (p + i) ≡ stands w s p → stands w s p ≡ true
    all_end h e = sym e ∙ rw (empty w i) (stands_none s (p + i))

    module _ (h : i < length w) (l : get_or w i 0 < 256) where
      pub all_more : stands (get_or w i 0 ∷ []) s (p + i) ≡ true → stands (drop (i + 1) w) s (p + (i + 1)) ≡ stands (drop i w) s (p + i)
      all_more e =
          let f : p + (i + 1) ≡ p + i + 1 = omega arith in
          let g : drop (i + 1) w ≡ drop (suc i) w = rw add-one in
          rw (f, g, drop-cons w i 0) (stands_on (get_or w i 0) (drop (suc i) w) s (p + i) l e refl)

      pub all_fails : stands (get_or w i 0 ∷ []) s (p + i) ≡ false → stands (drop i w) s (p + i) ≡ stands w s p → stands w s p ≡ false
      all_fails e f = sym f ∙ rw (drop-cons w i 0) (stands_off (get_or w i 0) (drop (suc i) w) s (p + i) l e)

-- a small letter is an identifier character
pub small_rest : (b : ℕ) → is_within 97 122 b ≡ true → is_rest b ≡ true
small_rest b e = rw (e, or-true (leb 65 b && leb b 90))
