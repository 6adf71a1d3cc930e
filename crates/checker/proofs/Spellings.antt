-- Text that is compared, unit by unit and byte by byte.
use Prim.Native.Nat.{ℕ, zero, suc, ◌+◌, ◌-◌, ◌*◌, ◌/◌, ◌%◌, ◌≤◌, ◌<◌}
use mathlib.Core.Path.{◌≡◌, refl, sym, ap, ◌∙◌}
use mathlib.Core.List.{List, [], ◌∷◌, ◌++◌}
use mathlib.Core.Bool.{Bool, true, false, ◌&&◌}
use native.Mathlib.Omega.{arith}
use lib.ListN.{length, drop}
use lib.Seq.{get_or-drop, drop-drop}
use lib.Dec.{eqb}
use borrow.Author.Tests.{ne_eqb}
use Rattle.lexis.specs.Bytes.{begins, stands}
use Rattle.lexis.specs.Heredoc.{fresh_at}
use Rattle.lexis.specs.String.{Piece, Mode, mode_of, Unit, is, not, unit, unit_in, Text, added, unit_else, text_after, text_at, packed, unpacked, piece_of, UnitHere}
use Rattle.lexis.specs.RunLaws.{stands_none, stands_cons, stands_one, stands_inside}
use Rattle.lexis.proofs.Units.{Bytewise, Sound}
use Rattle.lexis.proofs.Texts.{after, step, stop, in_sound}
use Rattle.lexis.proofs.Writes.{of_mode}
use Rattle.checker.specs.LeafMore.{Spells}

-- ---- bytes out of one number

unpacked_long : (n v : ℕ) → length (unpacked n v) ≡ n
unfolding unpacked
unpacked_long zero v = refl
unpacked_long (suc n) v = ap suc (unpacked_long n (v / 256))

unpack : (bs : List ℕ) → Bytewise bs → unpacked (length bs) (packed bs) ≡ bs
unfolding unpacked packed
unpack [] h = refl
unpack (b ∷ bs) h =
    let k : b < 256 = h 0 in
    let d : (b + 256 * packed bs) / 256 ≡ packed bs = omega arith in
    let r : (b + 256 * packed bs) % 256 ≡ b = omega arith in
    rw (d, r) (ap (λ (l : List ℕ). b ∷ l) (unpack bs (λ i. h (suc i))))

-- the loop over the bytes of a unit: k of them stand there, and the others are in `left`
pub record Holding (text : List ℕ) (at bytes count left k : ℕ) : Type 0 where
  pub few : k ≤ count
  pub room : at + k ≤ at + (length text - at)
  pub rest : stands (unpacked (count - k) left) text (at + k) ≡ stands (unpacked count bytes) text at

pub hold_start : (text : List ℕ) (at bytes count : ℕ) → Holding text at bytes count bytes 0
hold_start text at bytes count =
    let z : count - 0 ≡ count = omega arith in
    let y : at + 0 ≡ at = omega arith in
    record { few = omega arith; room = omega arith; rest = rw (z, y) }

module _ {text : List ℕ} {at bytes count left k : ℕ} (g : Holding text at bytes count left k) where
  split : k < count → stands (unpacked count bytes) text at ≡ (stands ((left % 256) ∷ []) text (at + k) && stands (unpacked (count - (k + 1)) (left / 256)) text (at + k + 1))
  unfolding unpacked
  split h =
      let z : count - k ≡ suc (count - (k + 1)) = omega arith in
      let n : eqb 256 (left % 256) ≡ false = ne_eqb 256 (left % 256) (λ e. omega arith) in
      sym (rw z at g.rest) ∙ stands_cons (left % 256) (unpacked (count - (k + 1)) (left / 256)) text (at + k) n ∙ rw (stands_one (left % 256) text (at + k) n)

  pub hold_no : {r : Bool} → k < count → r ≡ stands ((left % 256) ∷ []) text (at + k) → r ≡ false → false ≡ stands (unpacked count bytes) text at
  hold_no h e f = sym (split h ∙ rw (sym e ∙ f))

  pub hold_more : {r : Bool} → k < count → r ≡ stands ((left % 256) ∷ []) text (at + k) → r ≡ true → Holding text at bytes count (left / 256) (k + 1)
  hold_more h e f =
      let y : at + (k + 1) ≡ at + k + 1 = omega arith in
      record {
        few = omega arith;
        room = omega (arith, stands_inside ((left % 256) ∷ []) text (at + k) (sym e ∙ f));
        rest = rw y (sym (split h ∙ rw (sym e ∙ f)));
      }

  pub hold_end : count ≤ k → true ≡ stands (unpacked count bytes) text at
  unfolding unpacked
  hold_end h = let z : count - k ≡ 0 = omega arith in sym (stands_none text (at + k)) ∙ rw z at g.rest

-- ---- a run, unit by unit

append_begins : (xs ys l : List ℕ) → begins (xs ++ ys) l ≡ (begins xs l && begins ys (drop (length xs) l))
unfolding begins
append_begins [] ys l = refl
append_begins (x ∷ xs) ys [] = refl
append_begins (x ∷ xs) ys (b ∷ l) = go (eqb b x) (append_begins xs ys l)
  where
    go : (y : Bool) → begins (xs ++ ys) l ≡ (begins xs l && begins ys (drop (length xs) l)) → (y && begins (xs ++ ys) l) ≡ ((y && begins xs l) && begins ys (drop (length xs) l))
    go true e = e
    go false e = refl

append_stands : (xs ys text : List ℕ) (at : ℕ) → stands (xs ++ ys) text at ≡ (stands xs text at && stands ys text (at + length xs))
append_stands xs ys text at = append_begins xs ys (drop at text) ∙ rw (drop-drop (length xs) at text)

turned : (text : List ℕ) (j : ℕ) {r : Bool} {us : List ℕ} {n : ℕ} (xs ys : List ℕ) → r ≡ stands us text j → us ≡ xs → n ≡ length xs
    → (stands xs text j && stands ys text (j + length xs)) ≡ (r && stands ys text (j + n))
turned text j xs ys f e c = rw (f, e, c)

bytewise_drop : (s : List ℕ) (i : ℕ) → Bytewise s → Bytewise (drop i s)
bytewise_drop s i h j = rw (get_or-drop i s j 0) (h (i + j))

-- the unit at i, where the run goes on, as the code has it
pub record Ahead (m : Mode) (s : List ℕ) (i : ℕ) (u : Piece) : Type 0 where
  bs : List ℕ
  wide : ¬ (u.width ≡ 0)
  spelt : Bytewise s → unpacked u.count u.bytes ≡ bs
  count : u.count ≡ length bs
  text : (text_at m s i).bytes ≡ bs ++ (text_at m s (i + u.width)).bytes
  width : (text_at m s i).width ≡ u.width + (text_at m s (i + u.width)).width

ahead : (s : List ℕ) (q : Bool) (d e i : ℕ) {u : Piece} → UnitHere s (unit q (drop i s)) i u → 0 < (text_at (mode_of s q d e) s i).width → Ahead (mode_of s q d e) s i u
ahead s q d e i {u} k h = go (unit_in (mode_of s q d e) (fresh_at s i) (drop i s)) refl (in_sound (mode_of s q d e) (fresh_at s i) (drop i s))
  where
    go : (v : Unit) → unit_in (mode_of s q d e) (fresh_at s i) (drop i s) ≡ v → Sound (drop i s) v → Ahead (mode_of s q d e) s i u
    go (not y) f g = absurd (omega (arith, ap (λ (t : Text). t.width) (stop (mode_of s q d e) s i y f)))
    go (is w bs x) f g =
        let z : u ≡ piece_of (is w bs x) = k.is ∙ ap piece_of (of_mode s q d e (fresh_at s i) (drop i s) w bs x f) in
        let wide : u.width ≡ w = ap (λ (v : Piece). v.width) z in
        let count : u.count ≡ length bs = ap (λ (v : Piece). v.count) z in
        let bytes : u.bytes ≡ packed bs = ap (λ (v : Piece). v.bytes) z in
        let t : text_at (mode_of s q d e) s i ≡ after w bs x (text_at (mode_of s q d e) s (i + w)) = step (mode_of s q d e) s i w bs x f g in
        record {
          bs = bs;
          wide = λ n. omega (arith, g.wide);
          spelt = λ low. rw (count, bytes) (unpack bs (g.low (bytewise_drop s i low)));
          count = count;
          text = rw wide (ap (λ (v : Text). v.bytes) t);
          width = rw wide (ap (λ (v : Text). v.width) t);
        }

-- the loop: the text from i on is to stand at j
pub record Along (s : List ℕ) (q : Bool) (p end : ℕ) (text : List ℕ) (at i j : ℕ) : Type 0 where
  pub low : at ≤ j
  pub room : j ≤ at + (length text - at)
  pub ends : (d e : ℕ) → end ≡ p + (text_at (mode_of s q d e) s p).width → end ≡ i + (text_at (mode_of s q d e) s i).width
  pub is : (d e : ℕ) → end ≡ p + (text_at (mode_of s q d e) s p).width → stands (text_at (mode_of s q d e) s i).bytes text j ≡ stands (text_at (mode_of s q d e) s p).bytes text at

-- a run with no byte in the source has no text
none_as : (m : Mode) (f : Bool) (l : List ℕ) → (text_after m f 0 l).width ≡ 0 → (text_after m f 0 l).bytes ≡ []
unfolding text_after
none_as m f [] h = refl
none_as m f (b ∷ l) h = go (unit_in m f (b ∷ l)) h
  where
    go : (u : Unit) → (unit_else u (λ w bs e. added bs e (text_after m (eqb b 10) (w - 1) l))).width ≡ 0 → (unit_else u (λ w bs e. added bs e (text_after m (eqb b 10) (w - 1) l))).bytes ≡ []
    go (is w bs e) g = absurd (omega arith)
    go (not y) g = refl

empty_run : (m : Mode) (s : List ℕ) (i : ℕ) → (text_at m s i).width ≡ 0 → (text_at m s i).bytes ≡ []
empty_run m s i h = none_as m (fresh_at s i) (drop i s) h

module _ {s : List ℕ} {q : Bool} {p end : ℕ} {text : List ℕ} {at i j : ℕ} (g : Along s q p end text at i j) where
  pub along_end : end ≤ i → Spells s q p end text at true
  along_end h = record { is = λ d e z. sym (stands_none text j) ∙ ap (λ (l : List ℕ). stands l text j) (sym (empty_run (mode_of s q d e) s i (omega (arith, g.ends d e z)))) ∙ g.is d e z }

  module _ {u : Piece} (h : i < end) (k : UnitHere s (unit q (drop i s)) i u) where
    here : (d e : ℕ) → end ≡ p + (text_at (mode_of s q d e) s p).width → Ahead (mode_of s q d e) s i u
    here d e z = ahead s q d e i k (omega (arith, g.ends d e z))

    pub along_none : u.width ≡ 0 → Spells s q p end text at false
    along_none n = record { is = λ d e z. absurd ((here d e z).wide n) }

    module _ {r : Bool} (low : Bytewise s) (f : r ≡ stands (unpacked u.count u.bytes) text j) where
      split_unit : (d e : ℕ) → end ≡ p + (text_at (mode_of s q d e) s p).width
          → stands (text_at (mode_of s q d e) s p).bytes text at ≡ (r && stands (text_at (mode_of s q d e) s (i + u.width)).bytes text (j + u.count))
      split_unit d e z =
          let a = here d e z in
          sym (g.is d e z)
          ∙ ap (λ (l : List ℕ). stands l text j) a.text
          ∙ append_stands a.bs (text_at (mode_of s q d e) s (i + u.width)).bytes text j
          ∙ turned text j a.bs (text_at (mode_of s q d e) s (i + u.width)).bytes f (a.spelt low) a.count

      pub along_no : r ≡ false → Spells s q p end text at false
      along_no n = record { is = λ d e z. sym (split_unit d e z ∙ rw n) }

      -- the unit's bytes are within the text
      pub along_room : r ≡ true → j + u.count ≤ at + (length text - at)
      along_room n = omega (arith, g.low, g.room, stands_inside (unpacked u.count u.bytes) text j (sym f ∙ n), unpacked_long u.count u.bytes)

      pub along_more : r ≡ true → Along s q p end text at (i + u.width) (j + u.count)
      along_more n = record {
        low = omega (arith, g.low);
        room = along_room n;
        ends = λ d e z. omega (arith, g.ends d e z, (here d e z).width);
        is = λ d e z. sym (split_unit d e z ∙ rw n);
      }
