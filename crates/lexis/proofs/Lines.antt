-- Laws on the lines of a heredoc: parts of the source, a delimiter byte by byte, and what a line is by what stands behind the delimiter.
use Prim.Native.Nat.{ℕ, zero, suc, ◌+◌, ◌-◌, ◌≤◌, ◌<◌, min}
use mathlib.Core.Path.{◌≡◌, refl, sym, ap, ◌∙◌}
use mathlib.Core.List.{List, [], ◌∷◌}
use mathlib.Core.Bool.{Bool, true, false, cond, ◌&&◌}
use native.Mathlib.Decide.{dec_le, dec_lt}
use native.Mathlib.Omega.{arith}
use lib.ListN.{length, take, drop, length-drop}
use lib.Dec.{eqb}
use borrow.Author.Tests.{ne_eqb}
use lib.Seq.{drop-drop, take-nil, get_or-drop}
use Rattle.std.proofs.lemmas.List.{take_all}
use Rattle.lexis.specs.Bytes.{byte_at, is_space, is_rest, is_foreign, run, run_to, begins, stands}
use Rattle.lexis.specs.Heredoc.{part, ends_by, closing, line_as, line_at, fresh_at}
use Rattle.lexis.specs.declared.heredoc.Line.{Line}
use Rattle.lexis.specs.declared.heredoc.Line.TheVariants.{Text, Closes, Foreign}
use Rattle.lexis.specs.RunLaws.{next, empty, clash, and_right, inside, run_high}

-- a line starts behind LF
pub fresh_behind : (s : List ℕ) (p : ℕ) → (p ≡ 0 → ⊥) → fresh_at s p ≡ eqb (byte_at s (p - 1)) 10
fresh_behind s zero h = absurd (h refl)
fresh_behind s (suc p) h = let e : suc p - 1 ≡ p = omega arith in rw e

module _ (s : List ℕ) (e k : ℕ) where
  pub part_next : k < min e (length s) → part s k e ≡ byte_at s k ∷ part s (k + 1) e
  part_next h =
      let n : e - k ≡ suc (e - (k + 1)) = omega arith in
      rw (n, next s k (omega arith))

  pub part_none : min e (length s) ≤ k → part s k e ≡ []
  part_none h = go (dec_le e k)
    where
      go : Dec (e ≤ k) → part s k e ≡ []
      go (yes l) = let n : e - k ≡ 0 = omega arith in rw n
      go (no l) = rw (empty s k (omega arith), take-nil {A = ℕ} (e - k))

  -- the first byte of a delimiter is not the one at j
  pub part_miss : (j : ℕ) → k < min e (length s) → (byte_at s j ≡ byte_at s k → ⊥) → begins (part s k e) (drop j s) ≡ false
  unfolding begins
  part_miss j h f = go (dec_lt j (length s))
    where
      go : Dec (j < length s) → begins (part s k e) (drop j s) ≡ false
      go (yes l) = rw (part_next h, next s j l, ne_eqb (byte_at s j) (byte_at s k) f)
      go (no l) = rw (part_next h, empty s j (omega arith))

-- the slice that the code takes is that part of the source
pub part_slice : (s : List ℕ) (d e : ℕ) {t f : ℕ} → t ≡ min e (length s) → f ≡ min d t → take (t - f) (drop f s) ≡ part s d e
part_slice s d e {t} {f} h k = go (dec_le d t) (dec_le e (length s))
  where
    go : Dec (d ≤ t) → Dec (e ≤ length s) → take (t - f) (drop f s) ≡ part s d e
    go (no l) m = let n : t - f ≡ 0 = omega arith in rw n (sym (part_none s e d (omega arith)))
    go (yes l) (yes m) = let n : f ≡ d = omega arith in let o : t ≡ e = omega arith in rw (n, o)
    go (yes l) (no m) =
        let n : f ≡ d = omega arith in
        rw n (take_all (t - d) (drop d s) (omega (arith, length-drop d s)) ∙ sym (take_all (e - d) (drop d s) (omega (arith, length-drop d s))))

-- a word by its first n bytes and what is left of it
begins_split : (n : ℕ) (w l : List ℕ) → begins w l ≡ begins (take n w) l && begins (drop n w) (drop n l)
unfolding begins
begins_split zero w l = refl
begins_split (suc n) [] l = refl
begins_split (suc n) (b ∷ w) [] = refl
begins_split (suc n) (b ∷ w) (x ∷ l) = ap (λ r. eqb x b && r) (begins_split n w l) ∙ nest (eqb x b)
  where
    nest : (y : Bool) → y && (begins (take n w) l && begins (drop n w) (drop n l)) ≡ (y && begins (take n w) l) && begins (drop n w) (drop n l)
    nest true = refl
    nest false = refl

module _ (w s : List ℕ) (p n : ℕ) where
  pub split_miss : stands (take n w) s p ≡ false → stands w s p ≡ false
  split_miss e = begins_split n w (drop p s) ∙ ap (λ b. b && begins (drop n w) (drop n (drop p s))) e

  pub split_hit : stands (take n w) s p ≡ true → begins (drop n w) (drop (p + n) s) ≡ stands w s p
  split_hit e = ap (begins (drop n w)) (sym (drop-drop n p s)) ∙ sym (begins_split n w (drop p s) ∙ ap (λ b. b && begins (drop n w) (drop n (drop p s))) e)

-- what a line is, by its delimiter D and the place q behind its spaces
module _ (D s : List ℕ) (p q : ℕ) (e : q ≡ run_to is_space s p) where
  behind_spaces : drop (run is_space (drop p s)) (drop p s) ≡ drop q s
  behind_spaces = rw (drop-drop (run is_space (drop p s)) p s, e)

  pub line_text : begins D (drop q s) ≡ false → line_at D s p ≡ Text
  unfolding closing
  line_text f = rw (behind_spaces, f)

  lines : (e b : ℕ) → line_as p (ends_by e b) ≡ ends_by (p + e) b
  lines e b = go (is_rest b) (is_foreign b)
    where
      go : (x y : Bool) → line_as p (cond x Text (cond y (Foreign e) (Closes e))) ≡ cond x Text (cond y (Foreign (p + e)) (Closes (p + e)))
      go true y = refl
      go false true = refl
      go false false = refl

  pub line_ends : (j : ℕ) → begins D (drop q s) ≡ true → j ≡ q + length D → line_at D s p ≡ ends_by j (byte_at s j)
  unfolding closing
  line_ends j f g =
      let h : j ≡ p + (run is_space (drop p s) + length D) = omega arith in
      rw (behind_spaces, f, lines (run is_space (drop p s) + length D) (byte_at (drop p s) (run is_space (drop p s) + length D)), get_or-drop p s (run is_space (drop p s) + length D) 256, h)

-- what stands behind a delimiter
module _ (j b : ℕ) where
  pub ends_text : is_rest b ≡ true → ends_by j b ≡ Text
  ends_text e = rw e

  pub ends_foreign : is_rest b ≡ false → is_foreign b ≡ true → ends_by j b ≡ Foreign j
  ends_foreign e f = rw (e, f)

  pub ends_closes : is_rest b ≡ false → is_foreign b ≡ false → ends_by j b ≡ Closes j
  ends_closes e f = rw (e, f)

-- a line by a delimiter that is the same
pub line_by : (s : List ℕ) (p : ℕ) {D E : List ℕ} {x : Line} → D ≡ E → line_at D s p ≡ x → x ≡ line_at E s p
line_by s p e f = sym f ∙ ap (λ (D : List ℕ). line_at D s p) e

-- where a delimiter ends: within the source, and a foreign scalar stands there
abbrev Within : List ℕ → Line → Type 0
Within l Text = Prim.Unit {0}
Within l (Closes e) = e ≤ length l
Within l (Foreign e) = e < length l

abbrev pub Placed : List ℕ → ℕ → Line → Type 0
Placed s p Text = Prim.Unit {0}
Placed s p (Closes e) = (p ≤ e) × (e ≤ p + (length s - p))
Placed s p (Foreign e) = (p ≤ e) × (e < length s)

begins_long : (d l : List ℕ) → begins d l ≡ true → length d ≤ length l
unfolding begins
begins_long [] l e = omega arith
begins_long (x ∷ d) [] e = clash (sym e)
begins_long (x ∷ d) (y ∷ l) e = omega (arith, begins_long d l (and_right (eqb y x) (begins d l) e))

ends_within : (l : List ℕ) (e : ℕ) → e ≤ length l → Within l (ends_by e (byte_at l e))
ends_within l e h = go (is_rest (byte_at l e)) (is_foreign (byte_at l e)) refl
  where
    go : (x y : Bool) → is_foreign (byte_at l e) ≡ y → Within l (cond x Text (cond y (Foreign e) (Closes e)))
    go true y f = tt
    go false true f = inside is_foreign l e refl f
    go false false f = h

closing_within : (d l : List ℕ) → Within l (closing d l)
unfolding closing
closing_within d l = go (begins d (drop (run is_space l) l)) refl
  where
    run_few : run is_space l ≤ length l
    run_few = omega (arith, run_high is_space l 0)

    go : (x : Bool) → begins d (drop (run is_space l) l) ≡ x
        → Within l (cond x (ends_by (run is_space l + length d) (byte_at l (run is_space l + length d))) Text)
    go true e = ends_within l (run is_space l + length d) (omega (arith, begins_long d (drop (run is_space l) l) e, length-drop (run is_space l) l, run_few))
    go false e = tt

pub line_placed : (D s : List ℕ) (p : ℕ) → Placed s p (line_at D s p)
line_placed D s p = go (closing D (drop p s)) (closing_within D (drop p s))
  where
    go : (x : Line) → Within (drop p s) x → Placed s p (line_as p x)
    go Text h = tt
    go (Closes e) h = (omega arith, omega (arith, length-drop p s))
    go (Foreign e) h = (omega arith, omega (arith, length-drop p s))
