-- Laws on sequences of UTF-8: which row a first byte has, how the tests of the bytes behind it add up, and how sequences join.
use Prim.Native.Nat.{ℕ, zero, suc, ◌+◌, ◌-◌, ◌≤◌, ◌<◌}
use mathlib.Core.Path.{◌≡◌, refl, sym, ap, ◌∙◌}
use mathlib.Core.List.{List, [], ◌∷◌, ◌++◌}
use mathlib.Core.Bool.{Bool, true, false, cond, ◌&&◌, and-false, and-true, false≢true}
use native.Mathlib.Numerals.{add-one, add-two}
use native.Mathlib.Decide.{dec_lt}
use native.Mathlib.Omega.{arith}
use lib.ListN.{length, take, drop, replicate, length-drop, drop_of_length-le}
use lib.Dec.{leb, eqb-suc-zero}
use lib.Seq.{drop-cons, drop-nil, drop-drop}
use borrow.Author.Tests.{le-leb, lt-leb}
use Rattle.std.specs.Prelude.{Option, Some, None, is_none, unwrap_or}
use Rattle.lexis.specs.Bytes.{byte_at, is_within, nonzero}
use Rattle.lexis.specs.RunLaws.{and_left, and_right}
use Rattle.lexis.specs.Utf8.{Range, ◌to◌, within, Row, tail, table, fits, width_by, sequence, behind_of, good_after, first_bad}

-- none is 0, and some is the number
pub nonzero_none : {c : ℕ} → nonzero c ≡ None → c ≡ 0
nonzero_none {c = zero} e = refl
nonzero_none {c = suc c} e = absurd (false≢true (ap is_none e))

pub nonzero_some : {c d : ℕ} → nonzero c ≡ Some d → (d ≡ c) × (d ≡ 0 → ⊥)
nonzero_some {c = zero} e = absurd (false≢true (sym (ap is_none e)))
nonzero_some {c = suc c} {d} e = let z : suc c ≡ d = ap (λ (o : Option ℕ). unwrap_or o 0) e in (sym z, λ v. omega arith)

-- a byte outside a range
pub under : (l h b : ℕ) → b < l → within (l to h) b ≡ false
under l h b e = rw (lt-leb l b e)

pub over : (l h b : ℕ) → h < b → within (l to h) b ≡ false
over l h b e = rw (lt-leb b h e) (and-false (leb l b))

pub inside : (l h b : ℕ) → l ≤ b → b ≤ h → within (l to h) b ≡ true
inside l h b e f = rw (le-leb l b e, le-leb b h f)

-- the row of a first byte
module _ (b : ℕ) (t : List ℕ) where
  pub by_ascii : b < 0x80 → width_by table b t ≡ 1
  unfolding width_by table fits
  by_ascii h = rw (inside 0 0x7F b (omega arith) (omega arith))

  pub by_none : 0x80 ≤ b → b < 0xC2 → width_by table b t ≡ 0
  unfolding width_by table
  by_none h k =
      rw (
        over 0 0x7F b (omega arith),
        under 0xC2 0xDF b (omega arith),
        under 0xE0 0xE0 b (omega arith),
        under 0xE1 0xEC b (omega arith),
        under 0xED 0xED b (omega arith),
        under 0xEE 0xEF b (omega arith),
        under 0xF0 0xF0 b (omega arith),
        under 0xF1 0xF3 b (omega arith),
        under 0xF4 0xF4 b (omega arith),
      )

  pub by_two : 0xC2 ≤ b → b < 0xE0 → width_by table b t ≡ behind_of t 0x80 0xBF 1
  unfolding width_by table
  by_two h k = rw (over 0 0x7F b (omega arith), inside 0xC2 0xDF b (omega arith) (omega arith))

  pub by_three_low : 0xE0 < b → b < 0xED → width_by table b t ≡ behind_of t 0x80 0xBF 2
  unfolding width_by table
  by_three_low h k = rw (over 0 0x7F b (omega arith), over 0xC2 0xDF b (omega arith), over 0xE0 0xE0 b (omega arith), inside 0xE1 0xEC b (omega arith) (omega arith))

  pub by_three_high : 0xED < b → b < 0xF0 → width_by table b t ≡ behind_of t 0x80 0xBF 2
  unfolding width_by table
  by_three_high h k =
      rw (
        over 0 0x7F b (omega arith),
        over 0xC2 0xDF b (omega arith),
        over 0xE0 0xE0 b (omega arith),
        over 0xE1 0xEC b (omega arith),
        over 0xED 0xED b (omega arith),
        inside 0xEE 0xEF b (omega arith) (omega arith),
      )

  pub by_four : 0xF0 < b → b < 0xF4 → width_by table b t ≡ behind_of t 0x80 0xBF 3
  unfolding width_by table
  by_four h k =
      rw (
        over 0 0x7F b (omega arith),
        over 0xC2 0xDF b (omega arith),
        over 0xE0 0xE0 b (omega arith),
        over 0xE1 0xEC b (omega arith),
        over 0xED 0xED b (omega arith),
        over 0xEE 0xEF b (omega arith),
        over 0xF0 0xF0 b (omega arith),
        inside 0xF1 0xF3 b (omega arith) (omega arith),
      )

  pub by_nothing : 0xF4 < b → width_by table b t ≡ 0
  unfolding width_by table
  by_nothing h =
      rw (
        over 0 0x7F b (omega arith),
        over 0xC2 0xDF b (omega arith),
        over 0xE0 0xE0 b (omega arith),
        over 0xE1 0xEC b (omega arith),
        over 0xED 0xED b (omega arith),
        over 0xEE 0xEF b (omega arith),
        over 0xF0 0xF0 b (omega arith),
        over 0xF1 0xF3 b (omega arith),
        over 0xF4 0xF4 b (omega arith),
      )

pub by_three : (b : ℕ) (t : List ℕ) → 0xE0 < b → (b ≡ 0xED → ⊥) → b < 0xF0 → width_by table b t ≡ behind_of t 0x80 0xBF 2
by_three b t h n k = go (dec_lt b 0xED)
  where
    go : Dec (b < 0xED) → width_by table b t ≡ behind_of t 0x80 0xBF 2
    go (yes l) = by_three_low b t h l
    go (no g) = by_three_high b t (omega arith) k

module _ (t : List ℕ) where
  pub by-E0 : width_by table 0xE0 t ≡ behind_of t 0xA0 0xBF 2
  unfolding width_by table
  by-E0 = refl

  pub by-ED : width_by table 0xED t ≡ behind_of t 0x80 0x9F 2
  unfolding width_by table
  by-ED = refl

  pub by-F0 : width_by table 0xF0 t ≡ behind_of t 0x90 0xBF 3
  unfolding width_by table
  by-F0 = refl

  pub by-F4 : width_by table 0xF4 t ≡ behind_of t 0x80 0x8F 3
  unfolding width_by table
  by-F4 = refl

-- the sequence at a place, by its first byte
pub sequence_at : (s : List ℕ) (p : ℕ) → p < length s → sequence (drop p s) ≡ width_by table (byte_at s p) (drop (p + 1) s)
unfolding sequence
sequence_at s p h = rw (add-one, drop-cons s p 256)

pub sequence_end : (s : List ℕ) (p : ℕ) → length s ≤ p → sequence (drop p s) ≡ 0
unfolding sequence
sequence_end s p h = rw (drop_of_length-le s h)

-- a byte at a place, and the bytes behind it
pub fits_at_lem : (r : Range) (rs : List Range) → r.high < 256 → (s : List ℕ) (p : ℕ)
    → fits (r ∷ rs) (drop p s) ≡ (within r (byte_at s p) && fits rs (drop (suc p) s))
unfolding fits
fits_at_lem r rs h [] p = rw (drop-nil p, lt-leb 256 r.high h) (sym (ap (λ (x : Bool). x && fits rs (drop (suc p) [])) (and-false (leb r.low 256))))
fits_at_lem r rs h (x ∷ xs) zero = refl
fits_at_lem r rs h (x ∷ xs) (suc p) = fits_at_lem r rs h xs p

-- the bytes behind a first byte, one after the other
module _ (s : List ℕ) (p low high n : ℕ) (h : high < 256) where
  pub behind_no : within (low to high) (byte_at s p) ≡ false → behind_of (drop p s) low high n ≡ 0
  behind_no e = rw (fits_at_lem (low to high) (replicate (n - 1) tail) h s p, e)

  module _ (e : within (low to high) (byte_at s p) ≡ true) where
    pub behind_one : n ≡ 1 → behind_of (drop p s) low high n ≡ 2
    unfolding fits
    behind_one m = rw (m, fits_at_lem (low to high) [] h s p, e)

    pub behind_two_no : (n ≡ 1 → ⊥) → 1 ≤ n → within tail (byte_at s (p + 1)) ≡ false → behind_of (drop p s) low high n ≡ 0
    behind_two_no m l f =
        let g : n - 1 ≡ suc (n - 2) = omega arith in
        rw (g, fits_at_lem (low to high) (tail ∷ replicate (n - 2) tail) h s p, e, fits_at_lem tail (replicate (n - 2) tail) (omega arith) s (suc p), ← add-one p, f)

    pub behind_two : within tail (byte_at s (p + 1)) ≡ true → n ≡ 2 → behind_of (drop p s) low high n ≡ 3
    unfolding fits
    behind_two f m = rw (m, fits_at_lem (low to high) (tail ∷ []) h s p, e, fits_at_lem tail [] (omega arith) s (suc p), ← add-one p, f)

    pub behind_three : (n ≡ 1 → ⊥) → (n ≡ 2 → ⊥) → 1 ≤ n → n ≤ 3 → within tail (byte_at s (p + 1)) ≡ true → (r : Bool) → within tail (byte_at s (p + 2)) ≡ r
        → behind_of (drop p s) low high n ≡ cond r 4 0
    unfolding fits
    behind_three a b l k f r g =
        let m : n ≡ 3 = omega arith in
        rw (m, fits_at_lem (low to high) (tail ∷ tail ∷ []) h s p, e, fits_at_lem tail (tail ∷ []) (omega arith) s (suc p), ← add-one p, f, add-one p, fits_at_lem tail [] (omega arith) s (suc (suc p)), ← add-two p, g, and-true r)

-- a sequence is within its list
pub fits_long : (rs : List Range) (l : List ℕ) → fits rs l ≡ true → length rs ≤ length l
unfolding fits
fits_long [] l e = omega arith
fits_long (r ∷ rs) [] e = absurd (false≢true e)
fits_long (r ∷ rs) (b ∷ l) e = omega (arith, fits_long rs l (and_right (within r b) (fits rs l) e))

pub width_long : (rows : List Row) (b : ℕ) (l : List ℕ) → width_by rows b l ≤ suc (length l)
unfolding width_by
width_long [] b l = omega arith
width_long (r ∷ rs) b l = go (within r.first b) (fits r.behind l) refl (width_long rs b l)
  where
    go : (x y : Bool) → fits r.behind l ≡ y → width_by rs b l ≤ suc (length l) → cond x (cond y (suc (length r.behind)) 0) (width_by rs b l) ≤ suc (length l)
    go true true e h = omega (arith, fits_long r.behind l e)
    go true false e h = omega arith
    go false y e h = h

pub sequence_long : (l : List ℕ) → sequence l ≤ length l
unfolding sequence
sequence_long [] = omega arith
sequence_long (b ∷ l) = width_long table b l

pub sequence_high : (s : List ℕ) (p : ℕ) → sequence (drop p s) ≤ length s - p
sequence_high s p = rw (← length-drop p s) (sequence_long (drop p s))

-- r is the width of the sequence at p, which is within the source
pub record Wide (s : List ℕ) (p r : ℕ) : Type 0 where
  pub is : r ≡ sequence (drop p s)
  pub high : r ≤ length s - p

-- the width at a place, by the row of its first byte
pub wide_by : (s : List ℕ) (p b w : ℕ) → b ≡ byte_at s p → p < length s → width_by table b (drop (p + 1) s) ≡ w → Wide s p w
wide_by s p b w e h k =
    let is : w ≡ sequence (drop p s) = sym (sequence_at s p h ∙ ap (λ (x : ℕ). width_by table x (drop (p + 1) s)) (sym e) ∙ k) in
    record { is = is; high = omega (arith, sequence_high s p) }

pub wide_end : (s : List ℕ) (p : ℕ) → length s ≤ p → Wide s p 0
wide_end s p h = record { is = sym (sequence_end s p h); high = omega arith }

-- a byte over F4 begins no sequence, and neither does the end of the source
pub wide_none : (s : List ℕ) (p b : ℕ) → b ≡ byte_at s p → 0xF4 < b → Wide s p 0
wide_none s p b e h = go (dec_lt p (length s))
  where
    go : Dec (p < length s) → Wide s p 0
    go (yes l) = wide_by s p b 0 e l (by_nothing b (drop (p + 1) s) h)
    go (no g) = wide_end s p (omega arith)

-- what a test of a byte at a place says
pub tested : (l h : ℕ) {b x : ℕ} {r t : Bool} → b ≡ x → r ≡ is_within l h b → r ≡ t → within (l to h) x ≡ t
tested l h e f g = sym (f ∙ ap (is_within l h) e) ∙ g

-- the good bytes at the front of a list: past bytes that are passed unseen; past a sequence; where none stands
pass_good : (n : ℕ) (l : List ℕ) → n ≤ length l → good_after n l ≡ n + first_bad (drop n l)
unfolding good_after
pass_good zero l h = omega arith
pass_good (suc n) [] h = absurd (omega arith)
pass_good (suc n) (b ∷ l) h = omega (arith, pass_good n l (omega arith))

pub good_step : (l : List ℕ) (w : ℕ) → sequence l ≡ w → (w ≡ 0 → ⊥) → first_bad l ≡ w + first_bad (drop w l)
unfolding good_after
good_step l zero e h = absurd (h refl)
good_step [] (suc n) e h = absurd (omega (arith, sequence_long []))
good_step (b ∷ l) (suc n) e h =
    let g : suc n - 1 ≡ n = omega arith in
    let k : suc n ≤ suc (length l) = omega (arith, sequence_long (b ∷ l)) in
    rw (e, g, eqb-suc-zero n) (omega (arith, pass_good n l (omega arith)))

pub good_stop : (l : List ℕ) → sequence l ≡ 0 → first_bad l ≡ 0
unfolding good_after
good_stop [] e = refl
good_stop (b ∷ l) e = rw e

-- the loop: the good bytes from a place on
pub good_on : (s : List ℕ) (i w : ℕ) → w ≡ sequence (drop i s) → (w ≡ 0 → ⊥) → (i + w) + first_bad (drop (i + w) s) ≡ i + first_bad (drop i s)
good_on s i w e h = rw (← drop-drop w i s) (omega (arith, good_step (drop i s) w (sym e) h))

-- sequences join: what follows a sequence does not matter to it, and it stands alone
fits_front : (rs : List Range) (l m : List ℕ) → fits rs l ≡ true → fits rs (l ++ m) ≡ true
unfolding fits
fits_front [] l m e = refl
fits_front (r ∷ rs) [] m e = absurd (false≢true e)
fits_front (r ∷ rs) (b ∷ l) m e = rw (and_left (within r b) (fits rs l) e, fits_front rs l m (and_right (within r b) (fits rs l) e))

fits_alone : (rs : List Range) (l : List ℕ) → fits rs l ≡ true → fits rs (take (length rs) l) ≡ true
unfolding fits
fits_alone [] l e = refl
fits_alone (r ∷ rs) [] e = absurd (false≢true e)
fits_alone (r ∷ rs) (b ∷ l) e = rw (and_left (within r b) (fits rs l) e, fits_alone rs l (and_right (within r b) (fits rs l) e))

module _ (b n : ℕ) (l : List ℕ) where
  width_front : (rows : List Row) (m : List ℕ) → width_by rows b l ≡ suc n → width_by rows b (l ++ m) ≡ suc n
  unfolding width_by
  width_front [] m e = absurd (omega arith)
  width_front (r ∷ rs) m e = go (within r.first b) (fits r.behind l) refl e (width_front rs m)
    where
      go : (x y : Bool) → fits r.behind l ≡ y → cond x (cond y (suc (length r.behind)) 0) (width_by rs b l) ≡ suc n
          → (width_by rs b l ≡ suc n → width_by rs b (l ++ m) ≡ suc n)
          → cond x (cond (fits r.behind (l ++ m)) (suc (length r.behind)) 0) (width_by rs b (l ++ m)) ≡ suc n
      go true true f e h = rw (fits_front r.behind l m f) e
      go true false f e h = absurd (omega arith)
      go false y f e h = h e

  width_alone : (rows : List Row) → width_by rows b l ≡ suc n → width_by rows b (take n l) ≡ suc n
  unfolding width_by
  width_alone [] e = absurd (omega arith)
  width_alone (r ∷ rs) e = go (within r.first b) (fits r.behind l) refl e (width_alone rs)
    where
      go : (x y : Bool) → fits r.behind l ≡ y → cond x (cond y (suc (length r.behind)) 0) (width_by rs b l) ≡ suc n
          → (width_by rs b l ≡ suc n → width_by rs b (take n l) ≡ suc n)
          → cond x (cond (fits r.behind (take n l)) (suc (length r.behind)) 0) (width_by rs b (take n l)) ≡ suc n
      go true true f e h =
          let g : n ≡ length r.behind = omega arith in
          let k : fits r.behind (take n l) ≡ true = rw g (fits_alone r.behind l f) in
          rw k e
      go true false f e h = absurd (omega arith)
      go false y f e h = h e

pub sequence_front : (w m : List ℕ) (n : ℕ) → sequence w ≡ suc n → sequence (w ++ m) ≡ suc n
unfolding sequence
sequence_front [] m n e = absurd (omega arith)
sequence_front (b ∷ w) m n e = width_front b n w table m e

pub sequence_alone : (l : List ℕ) (n : ℕ) → sequence l ≡ suc n → sequence (take (suc n) l) ≡ suc n
unfolding sequence
sequence_alone [] n e = absurd (omega arith)
sequence_alone (b ∷ l) n e = width_alone b n l table e
