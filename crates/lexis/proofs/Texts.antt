-- Laws on runs of literal text: a unit and the run behind it, and what holds of every run.
use Prim.Native.Nat.{ℕ, zero, suc, ◌+◌, ◌-◌, ◌≤◌, ◌<◌}
use mathlib.Core.Path.{◌≡◌, refl, sym, ap, subst, ◌∙◌}
use mathlib.Core.List.{List, [], ◌∷◌, ◌++◌}
use mathlib.Core.Bool.{Bool, true, false, cond, ◌&&◌, ◌||◌}
use native.Mathlib.Nat.{zero-add}
use native.Mathlib.Omega.{arith}
use lib.ListN.{length, take, drop, length-drop, length-append}
use lib.Dec.{ltb, eqb}
use lib.Seq.{get_or-drop, drop-drop, drop-cons, take-add}
use borrow.Author.Tests.{ne_eqb, lt-ltb, le-ltb, eqb-true, ltb-true, ltb-false}
use Rattle.lexis.specs.Bytes.{byte_at, run_to, Byte, Ran}
use Rattle.lexis.specs.Heredoc.{closing, fresh_at, part, line_as, line_at}
use Rattle.lexis.specs.String.{Mode, quoted, heredoc, Unit, is, not, plain, marker, unit, line_or, unit_in, plain_in, Text, ended, added, unit_else, text_after, text_at, mode_of, packed, Piece, piece_of, piece_from, run_of, RunHere, UnitAt}
use Rattle.lexis.specs.declared.heredoc.Line.{Line}
use Rattle.lexis.specs.declared.heredoc.Line.TheVariants as line
use Rattle.lexis.specs.declared.string.Why.{Why}
use Rattle.lexis.specs.declared.string.Why.TheVariants.{Quote, Interpolation, Directive, Closing, Foreign, End}
use Rattle.lexis.specs.declared.string.Run.{Run}
use Rattle.lexis.specs.declared.string.Unit.{Unit as Made}
use Rattle.std.specs.Prelude.{Ok, Err}
use Rattle.lexis.specs.RunLaws.{next, empty, clash, and_right, inside, run_on, run_stop}
use Rattle.lexis.proofs.Lines.{fresh_behind}
use Rattle.lexis.proofs.Spelling.{pack_one, pack_two}
use Rattle.lexis.proofs.Units.{Fine, Sound, unit_sound, Bytewise}

-- a run behind a unit of w bytes
abbrev pub after : ℕ → List ℕ → Bool → Text → Text
after w bs e t = record { width = w + t.width; why = t.why; escaped = e || t.escaped; bytes = bs ++ t.bytes }

-- a byte more in front
add_after : (bs : List ℕ) (e : Bool) (n : ℕ) (t : Text) → added bs e (after n [] false t) ≡ after (suc n) bs e t
add_after bs e n t = let z : suc (n + t.width) ≡ suc n + t.width = omega arith in rw z

after_none : (t : Text) → after 0 [] false t ≡ t
after_none t = rw (zero-add t.width)

-- bytes that belong to the unit before
pass : (m : Mode) (s : List ℕ) (n i : ℕ) → i + n ≤ length s → text_after m (fresh_at s i) n (drop i s) ≡ after n [] false (text_at m s (i + n))
unfolding text_after
pass m s zero i h = let z : i + 0 ≡ i = omega arith in rw z (sym (after_none (text_at m s i)))
pass m s (suc n) i h =
    let z : suc i + n ≡ i + suc n = omega arith in
    rw (drop-cons s i 256 (omega arith), ← z)
    (ap (added [] false) (pass m s n (suc i) (omega arith)) ∙ add_after [] false n (text_at m s (suc i + n)))

-- a unit, and the run behind it
module _ (m : Mode) (s : List ℕ) (i : ℕ) where
  pub step : (w : ℕ) (bs : List ℕ) (e : Bool) → unit_in m (fresh_at s i) (drop i s) ≡ is w bs e → Sound (drop i s) (is w bs e) → text_at m s i ≡ after w bs e (text_at m s (i + w))
  unfolding text_after
  step zero bs e f g = absurd (omega (arith, g.wide))
  step (suc n) bs e f g =
      let h : i + suc n ≤ length s = omega (arith, g.high, length-drop i s) in
      let d = drop-cons s i 256 (omega arith) in
      let y : suc n - 1 ≡ n = omega arith in
      let z : suc i + n ≡ i + suc n = omega arith in
      rw (d, rw d at f, y, ← z) (ap (added bs e) (pass m s n (suc i) (omega arith)) ∙ add_after bs e n (text_at m s (suc i + n)))

  pub stop : (y : Why) → unit_in m (fresh_at s i) (drop i s) ≡ not y → text_at m s i ≡ ended y
  unfolding text_after
  stop y f = go (drop i s) f
    where
      go : (l : List ℕ) → unit_in m (fresh_at s i) l ≡ not y → text_after m (fresh_at s i) 0 l ≡ ended y
      go [] f = ap (λ (u : Unit). unit_else u (λ w bs e. ended End)) f
      go (b ∷ l) f = ap (λ (u : Unit). unit_else u (λ w bs e. added bs e (text_after m (eqb b 10) (w - 1) l))) f

-- a closing line leaves no unit, and every other unit is one of the text
line_sound : (l : List ℕ) (x : Line) (u : Unit) → Sound l u → Sound l (line_or x u)
line_sound l line.Text u h = h
line_sound l (line.Closes e) u h = tt
line_sound l (line.Foreign e) u h = tt

pub in_sound : (m : Mode) (f : Bool) (l : List ℕ) → Sound l (unit_in m f l)
in_sound m f [] = tt
in_sound quoted f (b ∷ l) = unit_sound true (b ∷ l)
in_sound (heredoc d) false (b ∷ l) = unit_sound false (b ∷ l)
in_sound (heredoc d) true (b ∷ l) = line_sound (b ∷ l) (closing d (b ∷ l)) (unit false (b ∷ l)) (unit_sound false (b ∷ l))

-- what holds of no run, and of a unit with what holds of the run behind it, holds of every run
module _ (m : Mode) (s : List ℕ) (P : ℕ → Text → Type 0) (none : (i : ℕ) (y : Why) → unit_in m (fresh_at s i) (drop i s) ≡ not y → P i (ended y))
    (more : (i w : ℕ) (bs : List ℕ) (e : Bool) → unit_in m (fresh_at s i) (drop i s) ≡ is w bs e → Fine (drop i s) w bs e → P (i + w) (text_at m s (i + w)) → P i (after w bs e (text_at m s (i + w))))
  where
    ind_by : (n i : ℕ) → length s - i < n → P i (text_at m s i)
    ind_by zero i h = absurd (omega arith)
    ind_by (suc n) i h = go (unit_in m (fresh_at s i) (drop i s)) refl (in_sound m (fresh_at s i) (drop i s)) (ind_by n)
      where
        go : (u : Unit) → unit_in m (fresh_at s i) (drop i s) ≡ u → Sound (drop i s) u → ((j : ℕ) → length s - j < n → P j (text_at m s j)) → P i (text_at m s i)
        go (not y) f g r = rw (stop m s i y f) (none i y f)
        go (is w bs e) f g r = rw (step m s i w bs e f g) (more i w bs e f g (r (i + w) (omega (arith, g.wide, g.high, length-drop i s))))

    pub ind : (i : ℕ) → P i (text_at m s i)
    ind i = ind_by (suc (length s - i)) i (omega arith)

-- what holds of every run: its text is no longer, and shorter exactly where there is an escape or an escaped marker; with none, its text is the source itself; and
-- its text is bytes. (It is within the source: specs/TextLaws.antt.)
pub record Facts (s : List ℕ) (i : ℕ) (t : Text) : Type 0 where
  pub short : length t.bytes ≤ t.width
  pub marked : t.escaped ≡ ltb (length t.bytes) t.width
  pub same : t.escaped ≡ false → t.bytes ≡ take t.width (drop i s)
  pub low : Bytewise s → Bytewise t.bytes

or_ltb : (a b c d : ℕ) → a ≤ b → c ≤ d → (ltb a b || ltb c d) ≡ ltb (a + c) (b + d)
or_ltb a b c d h k = go (ltb a b) (ltb c d) refl refl
  where
    go : (x y : Bool) → ltb a b ≡ x → ltb c d ≡ y → (x || y) ≡ ltb (a + c) (b + d)
    go true y e f = sym (lt-ltb (a + c) (b + d) (omega (arith, ltb-true a b e)))
    go false true e f = sym (lt-ltb (a + c) (b + d) (omega (arith, ltb-true c d f)))
    go false false e f = sym (le-ltb (a + c) (b + d) (omega (arith, ltb-false a b e, ltb-false c d f)))

or_left : (x y : Bool) → (x || y) ≡ false → x ≡ false
or_left true y e = e
or_left false y e = refl

or_right : (x y : Bool) → (x || y) ≡ false → y ≡ false
or_right true y e = clash e
or_right false y e = e

bytewise_append : (l k : List ℕ) → Bytewise l → Bytewise k → Bytewise (l ++ k)
bytewise_append [] k g h i = h i
bytewise_append (b ∷ l) k g h zero = g 0
bytewise_append (b ∷ l) k g h (suc i) = bytewise_append l k (λ j. g (suc j)) h i

pub bytewise_drop : (s : List ℕ) (i : ℕ) → Bytewise s → Bytewise (drop i s)
bytewise_drop s i h j = rw (get_or-drop i s j 0) (h (i + j))

facts_none : (s : List ℕ) (i : ℕ) (y : Why) → Facts s i (ended y)
facts_none s i y = record { short = omega arith; marked = refl; same = λ e. refl; low = λ h k. omega arith }

facts_more : (s : List ℕ) (i w : ℕ) (bs : List ℕ) (e : Bool) (t : Text) → Fine (drop i s) w bs e → Facts s (i + w) t → Facts s i (after w bs e t)
facts_more s i w bs e t g f =
    record {
      short = rw (length-append bs t.bytes) (omega (arith, g.few, f.short));
      marked = rw (length-append bs t.bytes, g.marked, f.marked) (or_ltb (length bs) w (length t.bytes) t.width g.few f.short);
      same = λ x.
          rw (take-add w t.width (drop i s), drop-drop w i s, g.same (or_left e t.escaped x), f.same (or_right e t.escaped x));
      low = λ h. bytewise_append bs t.bytes (g.low (bytewise_drop s i h)) (f.low h);
    }

pub facts : (m : Mode) (s : List ℕ) (i : ℕ) → Facts s i (text_at m s i)
facts m s = ind m s (Facts s) (λ i y e. facts_none s i y) (λ i w bs e u g f. facts_more s i w bs e (text_at m s (i + w)) g f)

-- in quoted text it does not matter where a line starts
pub fresh_quoted : (f g : Bool) (l : List ℕ) → unit_in quoted f l ≡ unit_in quoted g l
fresh_quoted f g [] = refl
fresh_quoted f g (b ∷ l) = refl

-- the unit at a place, by the text round it
line_or_lem : (p : ℕ) (x : Line) (u : Unit) → line_or (line_as p x) u ≡ line_or x u
line_or_lem p line.Text u = refl
line_or_lem p (line.Closes e) u = refl
line_or_lem p (line.Foreign e) u = refl

module _ (s : List ℕ) (p : ℕ) (q f : Bool) (d e : ℕ) where
  pub in_end : length s ≤ p → unit_in (mode_of s q d e) f (drop p s) ≡ not End
  in_end h = rw (empty s p h)

  module _ (h : p < length s) where
    pub in_quoted : q ≡ true → unit_in (mode_of s q d e) f (drop p s) ≡ unit true (drop p s)
    in_quoted a = rw (a, next s p h)

    pub in_text : q ≡ false → f ≡ false → unit_in (mode_of s q d e) f (drop p s) ≡ unit false (drop p s)
    in_text a b = rw (a, b, next s p h)

    pub in_line : q ≡ false → f ≡ true → (x : Line) → x ≡ line_at (part s d e) s p → unit_in (mode_of s q d e) f (drop p s) ≡ line_or x (unit false (drop p s))
    in_line a b x g =
        let k : unit_in (mode_of s q d e) f (drop p s) ≡ line_or (closing (part s d e) (drop p s)) (unit false (drop p s)) = rw (a, b, next s p h) in
        rw g (k ∙ sym (line_or_lem p (closing (part s d e) (drop p s)) (unit false (drop p s))))

-- a unit of a heredoc ends in LF exactly where its text is LF
abbrev Lasts : List ℕ → Unit → Type 0
Lasts l (is w bs e) = eqb (byte_at l (w - 1)) 10 ≡ eqb (packed bs) 10
Lasts l (not y) = Prim.Unit {0}

lasts_plain : (b : ℕ) (l : List ℕ) → Lasts (b ∷ l) (plain b)
lasts_plain b l = ap (λ (x : ℕ). eqb x 10) (pack_one b)

lasts_marker : (y : Why) (b : ℕ) (l : List ℕ) → Lasts (b ∷ l) (marker y b (byte_at l 0) (byte_at l 1))
lasts_marker y b l = go (eqb (byte_at l 0) b && eqb (byte_at l 1) 123) (eqb (byte_at l 0) 123) refl
  where
    go : (x z : Bool) → (eqb (byte_at l 0) b && eqb (byte_at l 1) 123) ≡ x → Lasts (b ∷ l) (cond x (is 3 (b ∷ 123 ∷ []) true) (cond z (not y) (plain b)))
    go true z e =
        let h : byte_at l 1 ≡ 123 = eqb-true (byte_at l 1) 123 (and_right (eqb (byte_at l 0) b) (eqb (byte_at l 1) 123) e) in
        ap (λ (x : ℕ). eqb x 10) h ∙ sym (ne_eqb (packed (b ∷ 123 ∷ [])) 10 (λ k. omega (arith, pack_two b 123)))
    go false true e = tt
    go false false e = lasts_plain b l

lasts : (l : List ℕ) → Lasts l (unit false l)
unfolding unit
lasts [] = tt
lasts (b ∷ l) = go (eqb b 36) (eqb b 37)
  where
    go : (x y : Bool) → Lasts (b ∷ l) (cond x (marker Interpolation b (byte_at l 0) (byte_at l 1)) (cond y (marker Directive b (byte_at l 0) (byte_at l 1)) (plain b)))
    go true y = lasts_marker Interpolation b l
    go false true = lasts_marker Directive b l
    go false false = lasts_plain b l

-- a unit of a heredoc is one of its text
pub not_is : {A : Type 0} (y : Why) (w : ℕ) (bs : List ℕ) (e : Bool) → not y ≡ is w bs e → A
not_is y w bs e f = let z : ◌≡◌ {A = ℕ} 0 1 = cc in absurd (omega arith)

module _ (w : ℕ) (bs : List ℕ) (e : Bool) where
  of_line : (x : Line) (u : Unit) → line_or x u ≡ is w bs e → u ≡ is w bs e
  of_line line.Text u f = f
  of_line (line.Closes k) u f = not_is Closing w bs e f
  of_line (line.Foreign k) u f = not_is Foreign w bs e f

  pub of_heredoc : (d : List ℕ) (g : Bool) (l : List ℕ) → unit_in (heredoc d) g l ≡ is w bs e → unit false l ≡ is w bs e
  of_heredoc d g [] f = not_is End w bs e f
  of_heredoc d false (b ∷ l) f = f
  of_heredoc d true (b ∷ l) f = of_line (closing d (b ∷ l)) (unit false (b ∷ l)) f

-- where a line starts behind a unit
fresh_on : (m : Mode) (g : Bool) (s : List ℕ) (i w : ℕ) (bs : List ℕ) (e : Bool) → unit_in m g (drop i s) ≡ is w bs e → 1 ≤ w
    → (l : List ℕ) → unit_in m (eqb (packed bs) 10) l ≡ unit_in m (fresh_at s (i + w)) l
fresh_on quoted g s i w bs e f h l = fresh_quoted (eqb (packed bs) 10) (fresh_at s (i + w)) l
fresh_on (heredoc d) g s i w bs e f h l =
    let k : eqb (byte_at (drop i s) (w - 1)) 10 ≡ eqb (packed bs) 10 = subst (Lasts (drop i s)) (of_heredoc w bs e d g (drop i s) f) (lasts (drop i s)) in
    let n : i + (w - 1) ≡ (i + w) - 1 = omega arith in
    let j : byte_at (drop i s) (w - 1) ≡ byte_at s ((i + w) - 1) = get_or-drop i s (w - 1) 256 ∙ ap (byte_at s) n in
    let o : fresh_at s (i + w) ≡ eqb (packed bs) 10 = fresh_behind s (i + w) (λ z. omega arith) ∙ ap (λ (x : ℕ). eqb x 10) (sym j) ∙ k in
    rw (← o)

-- the loop over the units from p on: at i, with n bytes of text behind it; f says of i, where it matters, that a line starts there
pub record Going (m : Mode) (s : List ℕ) (p i n : ℕ) (f : Bool) : Type 0 where
  pub low : p ≤ i
  pub high : i ≤ p + (length s - p)
  pub short : p + n ≤ i
  pub fits : (l : List ℕ) → unit_in m f l ≡ unit_in m (fresh_at s i) l
  pub ends : p + (text_at m s p).width ≡ i + (text_at m s i).width
  pub counts : length (text_at m s p).bytes ≡ n + length (text_at m s i).bytes
  pub whys : (text_at m s p).why ≡ (text_at m s i).why

run_is : (t : Text) (p i n : ℕ) (y : Why) (b : Bool) → i ≡ p + t.width → n ≡ length t.bytes → y ≡ t.why → b ≡ t.escaped
    → ◌≡◌ {A = Run} (record { end = i; length = n; why = y; escaped = b }) (run_of p t)
run_is t p i n y b f g h k = rw (f, g, h, k)

module _ {m : Mode} {s : List ℕ} {p i n : ℕ} {f : Bool} (g : Going m s p i n f) where
  stop_by : (v : Unit) → unit_in m f (drop i s) ≡ v → Sound (drop i s) v → (u : Piece) → u ≡ piece_of v → u.width ≡ 0
      → RunHere m s p (record { end = i; length = n; why = u.why; escaped = ltb n (i - p) })
  stop_by (is w bs e) h k u a b = absurd (omega (arith, k.wide, ap (λ (x : Piece). x.width) a))
  stop_by (not y) h k u a b =
      let t : text_at m s i ≡ ended y = stop m s i y (sym (g.fits (drop i s)) ∙ h) in
      let z : (text_at m s i).width ≡ 0 = ap (λ (x : Text). x.width) t in
      let c : length (text_at m s i).bytes ≡ 0 = ap (λ (x : Text). length x.bytes) t in
      let x : i ≡ p + (text_at m s p).width = omega (arith, g.ends) in
      let l : n ≡ length (text_at m s p).bytes = omega (arith, g.counts) in
      let v : i - p ≡ (text_at m s p).width = omega arith in
      let o : u.why ≡ (text_at m s p).why = ap (λ (x : Piece). x.why) a ∙ sym (g.whys ∙ ap (λ (x : Text). x.why) t) in
      let q : ltb n (i - p) ≡ (text_at m s p).escaped = ap (λ (k : ℕ). ltb k (i - p)) l ∙ ap (λ (k : ℕ). ltb (length (text_at m s p).bytes) k) v ∙ sym (facts m s p).marked in
      record { is = run_is (text_at m s p) p i n u.why (ltb n (i - p)) x l o q; low = g.low; high = g.high; short = g.short }

  pub going_stop : {y : Why} → UnitAt s (unit_in m f (drop i s)) i (Err y) → RunHere m s p (record { end = i; length = n; why = y; escaped = ltb n (i - p) })
  going_stop {y} h = stop_by (unit_in m f (drop i s)) refl (in_sound m f (drop i s)) (piece_from (Err y)) h.here.is refl

  more_by : (v : Unit) → unit_in m f (drop i s) ≡ v → Sound (drop i s) v → (u : Piece) → u ≡ piece_of v → (u.width ≡ 0 → ⊥)
      → Going m s p (i + u.width) (n + u.count) (eqb u.bytes 10)
  more_by (not y) h k u a b = absurd (b (ap (λ (x : Piece). x.width) a))
  more_by (is w bs e) h k u a b =
      let t : text_at m s i ≡ after w bs e (text_at m s (i + w)) = step m s i w bs e (sym (g.fits (drop i s)) ∙ h) k in
      let z : (text_at m s i).width ≡ w + (text_at m s (i + w)).width = ap (λ (x : Text). x.width) t in
      let c : length (text_at m s i).bytes ≡ length bs + length (text_at m s (i + w)).bytes = ap (λ (x : Text). length x.bytes) t ∙ length-append bs (text_at m s (i + w)).bytes in
      rw a
      (record {
        low = omega (arith, g.low);
        high = omega (arith, g.low, g.high, k.high, length-drop i s);
        short = omega (arith, g.short, k.few);
        fits = fresh_on m f s i w bs e h k.wide;
        ends = omega (arith, g.ends);
        counts = omega (arith, g.counts);
        whys = g.whys ∙ ap (λ (x : Text). x.why) t;
      })

  pub going_more : {u : Made} → UnitAt s (unit_in m f (drop i s)) i (Ok u) → Going m s p (i + u.width) (n + u.count) (eqb u.bytes 10)
  going_more {u} h = more_by (unit_in m f (drop i s)) refl (in_sound m f (drop i s)) (piece_from (Ok u)) h.here.is (λ z. omega (arith, h.wide, z))

-- a byte that is text as it stands
plain_no : (q : Bool) (b : ℕ) → plain_in q b ≡ true → (n : ℕ) → plain_in q n ≡ false → b ≡ n → ⊥
plain_no q b k n e z = clash (sym k ∙ ap (plain_in q) z ∙ e)

-- bytes that are text as they stand, in quoted text or where no line starts: each is a unit, and no line starts behind it
module _ (s : List ℕ) (p d e : ℕ) (q f : Bool) (o : q ≡ false → f ≡ false) where
  plain_unit : (i : ℕ) → i < length s → plain_in q (byte_at s i) ≡ true → unit_in (mode_of s q d e) f (drop i s) ≡ plain (byte_at s i)
  unfolding unit
  plain_unit i h k = go q f o k
    where
      go : (q f : Bool) → (q ≡ false → f ≡ false) → plain_in q (byte_at s i) ≡ true → unit_in (mode_of s q d e) f (drop i s) ≡ plain (byte_at s i)
      go true f o k =
          rw (
            next s i h,
            ne_eqb (byte_at s i) 36 (plain_no true (byte_at s i) k 36 refl),
            ne_eqb (byte_at s i) 37 (plain_no true (byte_at s i) k 37 refl),
            ne_eqb (byte_at s i) 34 (plain_no true (byte_at s i) k 34 refl),
            ne_eqb (byte_at s i) 92 (plain_no true (byte_at s i) k 92 refl),
          )
      go false false o k =
          rw (next s i h, ne_eqb (byte_at s i) 36 (plain_no false (byte_at s i) k 36 refl), ne_eqb (byte_at s i) 37 (plain_no false (byte_at s i) k 37 refl))
      go false true o k = clash (o refl)

  fresh_kept : (b : ℕ) → plain_in q b ≡ true → (l : List ℕ) → unit_in (mode_of s q d e) f l ≡ unit_in (mode_of s q d e) (eqb b 10) l
  fresh_kept b k l = go q o k
    where
      go : (q : Bool) → (q ≡ false → f ≡ false) → plain_in q b ≡ true → unit_in (mode_of s q d e) f l ≡ unit_in (mode_of s q d e) (eqb b 10) l
      go true o k = fresh_quoted f (eqb b 10) l
      go false o k = ap (λ (x : Bool). unit_in (mode_of s false d e) x l) (o refl ∙ sym (ne_eqb b 10 (plain_no false b k 10 refl)))

  going_plain : (i n : ℕ) → Going (mode_of s q d e) s p i n f → i < length s → plain_in q (byte_at s i) ≡ true → Going (mode_of s q d e) s p (i + 1) (n + 1) f
  going_plain i n g h k =
      let v = plain_unit i h k in
      let w = more_by g (plain (byte_at s i)) v (subst (Sound (drop i s)) v (in_sound (mode_of s q d e) f (drop i s))) (piece_of (plain (byte_at s i))) refl (λ z. omega arith) in
      let x = subst (λ (x : ℕ). Going (mode_of s q d e) s p (i + 1) (n + 1) (eqb x 10)) (sym (pack_one (byte_at s i))) w in
      record {
        low = x.low;
        high = x.high;
        short = x.short;
        fits = λ l. fresh_kept (byte_at s i) k l ∙ x.fits l;
        ends = x.ends;
        counts = x.counts;
        whys = x.whys;
      }

  going_by : (c i n : ℕ) → length s - i < c → Going (mode_of s q d e) s p i n f → Going (mode_of s q d e) s p (run_to (plain_in q) s i) (n + (run_to (plain_in q) s i - i)) f
  going_by zero i n h g = absurd (omega arith)
  going_by (suc c) i n h g = go (plain_in q (byte_at s i)) refl (going_by c)
    where
      go : (x : Bool) → plain_in q (byte_at s i) ≡ x
          → ((i n : ℕ) → length s - i < c → Going (mode_of s q d e) s p i n f → Going (mode_of s q d e) s p (run_to (plain_in q) s i) (n + (run_to (plain_in q) s i - i)) f)
          → Going (mode_of s q d e) s p (run_to (plain_in q) s i) (n + (run_to (plain_in q) s i - i)) f
      go false k r =
          let z : n ≡ n + (i - i) = omega arith in
          subst (λ (j : ℕ). Going (mode_of s q d e) s p j (n + (j - i)) f) (sym (run_stop (plain_in q) s i k)) (subst (λ (j : ℕ). Going (mode_of s q d e) s p i j f) z g)
      go true k r =
          let l : i < length s = inside (plain_in q) s i refl k in
          let w = r (i + 1) (n + 1) (omega arith) (going_plain i n g l k) in
          let z : n + 1 + (run_to (plain_in q) s (i + 1) - (i + 1)) ≡ n + (run_to (plain_in q) s (i + 1) - i) = omega arith in
          subst (λ (j : ℕ). Going (mode_of s q d e) s p j (n + (j - i)) f) (run_on (plain_in q) s i l k) (subst (λ (j : ℕ). Going (mode_of s q d e) s p (run_to (plain_in q) s (i + 1)) j f) z w)

  pub going_run : {i n k j m : ℕ} → Going (mode_of s q d e) s p i n f → Ran s i (run_to (plain_in q) s i) k → j ≡ k → m ≡ n + (k - i) → Going (mode_of s q d e) s p j m f
  going_run {i} {n} g h a b = rw (b, a, h.is) (going_by (suc (length s - i)) i n (omega arith) g)

pub going_same : {m : Mode} {s : List ℕ} {p i n j k : ℕ} {f : Bool} → Going m s p i n f → j ≡ i → k ≡ n → Going m s p j k f
going_same g a b = rw (a, b) g

-- a quote ends quoted text
pub going_quote : {s : List ℕ} {p i n b : ℕ} (d e : ℕ) {q f : Bool} → Going (mode_of s q d e) s p i n f → q ≡ true → Byte s i b → b ≡ 34
    → RunHere (mode_of s q d e) s p (record { end = i; length = n; why = Quote; escaped = ltb n (i - p) })
unfolding unit
going_quote {s} {p} {i} {n} {b} d e {q} {f} g a h k =
    let l : i < length s = omega (arith, h.here) in
    let z : byte_at s i ≡ 34 = sym h.is ∙ k in
    let v : unit_in (mode_of s q d e) f (drop i s) ≡ not Quote = in_quoted s i q f d e l a ∙ rw (next s i l, z) in
    stop_by g (not Quote) v tt (piece_of (not Quote)) refl refl
