-- The run of text at a place, as the atoms of the grammar see it: by its first unit.
use Rattle.std.specs.Prelude.{ℕ, zero, suc, ◌+◌, ◌-◌, ◌≤◌, refl, Bool, true, false, cond, ◌&&◌, List, [], ◌∷◌, length, drop}
use Rattle.std.proofs.Math.Path.{◌≡◌, ap}
use Rattle.std.proofs.Common.{sym, ◌∙◌, arith, length-drop, get_or-drop, drop-drop, eqb-true, ne_eqb}
use Rattle.std.proofs.Math.Option.{Option, none, some}
use Rattle.std.proofs.Math.Dec.{eqb}
use Rattle.lexis.specs.declared.heredoc.Line.{Line}
use Rattle.lexis.specs.declared.heredoc.Line.TheVariants as line
use Rattle.lexis.specs.declared.string.Why.{Why}
use Rattle.lexis.specs.declared.string.Why.TheVariants as why
use Rattle.lexis.specs.declared.string.Run.{Run}
use Rattle.lexis.specs.Bytes.{byte_at, is_space, is_rest, is_foreign, begins}
use Rattle.lexis.specs.Bytes.{run as spaces}
use Rattle.lexis.specs.Heredoc.{ends_by, closing, line_as, line_at, fresh_at}
use Rattle.lexis.specs.String.{Mode, quoted, heredoc, Unit, is, not, scalar_as, hexes, escape, marker, unit, line_or, unit_in, Text, added, unit_else, text_after, text_at, RunHere}
use Rattle.lexis.specs.Utf8.{is_scalar}
use Rattle.lexis.specs.RunLaws.{stands_one, and_left, clash, left, run_most, begins_most}
use Rattle.lexis.specs.TokenLaws.{Within}

-- ---- a run is empty where no unit stands

apart : {A : Type 0} (w : ℕ) (bs : List ℕ) (e : Bool) (y : Why) → is w bs e ≡ not y → A
apart w bs e y f = let z : ◌≡◌ {A = ℕ} 0 1 = cc in absurd (omega arith)

none_as : (m : Mode) (f : Bool) (xs : List ℕ) → (text_after m f 0 xs).width ≡ 0 → unit_in m f xs ≡ not (text_after m f 0 xs).why
unfolding text_after
none_as m f [] h = refl
none_as m f (b ∷ s) h = go (unit_in m f (b ∷ s)) h
  where
    go : (u : Unit) → (unit_else u (λ w bs e. added bs e (text_after m (eqb b 10) (w - 1) s))).width ≡ 0
        → u ≡ not (unit_else u (λ w bs e. added bs e (text_after m (eqb b 10) (w - 1) s))).why
    go (is w bs e) g = absurd (omega arith)
    go (not y) g = refl

-- a unit stands
pub record Stands (u : Unit) : Type 0 where
  pub width : ℕ
  pub bytes : List ℕ
  pub escaped : Bool
  pub is : u ≡ is width bytes escaped

some_as : (m : Mode) (f : Bool) (xs : List ℕ) → ¬ ((text_after m f 0 xs).width ≡ 0) → Stands (unit_in m f xs)
unfolding text_after
some_as m f [] h = absurd (h refl)
some_as m f (b ∷ s) h = go (unit_in m f (b ∷ s)) h
  where
    go : (u : Unit) → ¬ ((unit_else u (λ w bs e. added bs e (text_after m (eqb b 10) (w - 1) s))).width ≡ 0) → Stands u
    go (is w bs e) g = record { width = w; bytes = bs; escaped = e; is = refl }
    go (not y) g = absurd (g refl)

-- where a run is not empty a unit stands
pub text_some : (m : Mode) (s : List ℕ) (p : ℕ) → ¬ ((text_at m s p).width ≡ 0) → Stands (unit_in m (fresh_at s p) (drop p s))
text_some m s p h = some_as m (fresh_at s p) (drop p s) h

-- ---- where a run ends no unit stands

-- whether a line starts at a place of a list, where f says it of the list's start
abbrev fresh_in : Bool → List ℕ → ℕ → Bool
fresh_in f xs zero = f
fresh_in f xs (suc k) = eqb (byte_at xs k) 10

fresh_on : (f : Bool) (b : ℕ) (s : List ℕ) (k : ℕ) → fresh_in f (b ∷ s) (suc k) ≡ fresh_in (eqb b 10) s k
fresh_on f b s zero = refl
fresh_on f b s (suc k) = refl

fresh_in_lem : (s : List ℕ) (p k : ℕ) → fresh_in (fresh_at s p) (drop p s) k ≡ fresh_at s (p + k)
fresh_in_lem s p zero = let z : p + 0 ≡ p = omega arith in rw z
fresh_in_lem s p (suc k) = let z : p + suc k ≡ suc (p + k) = omega arith in rw z (ap (λ (x : ℕ). eqb x 10) (get_or-drop p s k 256))

stop_as : (m : Mode) (f : Bool) (n : ℕ) (xs : List ℕ) → unit_in m (fresh_in f xs (text_after m f n xs).width) (drop (text_after m f n xs).width xs) ≡ not (text_after m f n xs).why
unfolding text_after
stop_as m f n [] = refl
stop_as m f (suc n) (b ∷ s) =
    let k = (text_after m (eqb b 10) n s).width in
    ap (λ (x : Bool). unit_in m x (drop k s)) (fresh_on f b s k) ∙ stop_as m (eqb b 10) n s
stop_as m f zero (b ∷ s) = go (unit_in m f (b ∷ s)) refl (λ w. stop_as m (eqb b 10) (w - 1) s)
  where
    on : Unit → Text
    on u = unit_else u (λ w bs e. added bs e (text_after m (eqb b 10) (w - 1) s))

    go : (u : Unit) → unit_in m f (b ∷ s) ≡ u
        → ((w : ℕ) → unit_in m (fresh_in (eqb b 10) s (text_after m (eqb b 10) (w - 1) s).width) (drop (text_after m (eqb b 10) (w - 1) s).width s) ≡ not (text_after m (eqb b 10) (w - 1) s).why)
        → unit_in m (fresh_in f (b ∷ s) (on u).width) (drop (on u).width (b ∷ s)) ≡ not (on u).why
    go (is w bs e) g h = let k = (text_after m (eqb b 10) (w - 1) s).width in ap (λ (x : Bool). unit_in m x (drop k s)) (fresh_on f b s k) ∙ h w
    go (not y) g h = g

pub text_stops : (m : Mode) (s : List ℕ) (p : ℕ) → unit_in m (fresh_at s (p + (text_at m s p).width)) (drop (p + (text_at m s p).width) s) ≡ not (text_at m s p).why
text_stops m s p =
    let k = (text_at m s p).width in
    rw (← fresh_in_lem s p k, ← drop-drop k p s) (stop_as m (fresh_at s p) 0 (drop p s))

-- ---- a unit stands where no interpolation does

-- a closing line, which only a heredoc has
abbrev pub is_line : Why → Bool
is_line why.Quote = false
is_line why.Interpolation = false
is_line why.Directive = false
is_line why.Escape = false
is_line why.Closing = true
is_line why.Foreign = true
is_line why.End = false

-- what a unit at the front of a list says of `${` there; lines close the text or not
pub record Marks (lines : Bool) (xs : List ℕ) (u : Unit) : Type 0 where
  pub no : Stands u → begins (36 ∷ 123 ∷ []) xs ≡ false
  pub yes : u ≡ not why.Interpolation → begins (36 ∷ 123 ∷ []) xs ≡ true
  pub inner : (y : Why) → u ≡ not y → lines ≡ false → is_line y ≡ false

marks_is : {c : Bool} {xs : List ℕ} (w : ℕ) (bs : List ℕ) (e : Bool) → begins (36 ∷ 123 ∷ []) xs ≡ false → Marks c xs (is w bs e)
marks_is w bs e h = record { no = λ z. h; yes = λ z. apart w bs e why.Interpolation z; inner = λ y z. apart w bs e y z }

marks_not : {c : Bool} {xs : List ℕ} (y : Why) → (c ≡ false → is_line y ≡ false) → (y ≡ why.Interpolation → begins (36 ∷ 123 ∷ []) xs ≡ true) → Marks c xs (not y)
marks_not y n h = record { no = λ z. apart z.width z.bytes z.escaped y (sym z.is); yes = λ z. h cc; inner = λ v z o. let same : v ≡ y = cc in ap is_line same ∙ n o }

either : {c : Bool} {xs : List ℕ} {u v : Unit} (b : Bool) → (b ≡ true → Marks c xs u) → (b ≡ false → Marks c xs v) → Marks c xs (cond b u v)
either true f g = f refl
either false f g = g refl

-- an escape is a unit or a wrong one
marks_scalar : {c : Bool} {xs : List ℕ} (n : ℕ) (o : Option ℕ) → begins (36 ∷ 123 ∷ []) xs ≡ false → Marks c xs (scalar_as n o)
marks_scalar n none h = marks_not why.Escape (λ o. refl) (λ e. absurd (let z : ◌≡◌ {A = ℕ} 0 1 = cc in omega arith))
marks_scalar n (some v) h = either (is_scalar v) (λ f. marks_is _ _ _ h) (λ f. marks_not why.Escape (λ o. refl) (λ e. absurd (let z : ◌≡◌ {A = ℕ} 0 1 = cc in omega arith)))

marks_escape : {c : Bool} {xs : List ℕ} (b : ℕ) (l : List ℕ) → begins (36 ∷ 123 ∷ []) xs ≡ false → Marks c xs (escape b l)
unfolding escape
marks_escape b l h =
    either (eqb b 110) (λ f. marks_is _ _ _ h)
    (λ f. either (eqb b 114) (λ f. marks_is _ _ _ h)
    (λ f. either (eqb b 116) (λ f. marks_is _ _ _ h)
    (λ f. either (eqb b 92) (λ f. marks_is _ _ _ h)
    (λ f. either (eqb b 34) (λ f. marks_is _ _ _ h)
    (λ f. either (eqb b 117) (λ f. marks_scalar 4 (hexes 0 4 l) h)
    (λ f. either (eqb b 85) (λ f. marks_scalar 8 (hexes 0 8 l) h)
    (λ f. marks_not why.Escape (λ o. refl) (λ e. absurd (let z : ◌≡◌ {A = ℕ} 0 1 = cc in omega arith)))))))))

module _ (b : ℕ) (s : List ℕ) where
  behind : begins (36 ∷ 123 ∷ []) (b ∷ s) ≡ (eqb b 36 && eqb (byte_at s 0) 123)
  unfolding begins
  behind = ap (λ (x : Bool). eqb b 36 && x) (stands_one 123 s 0 refl)

  marks_dollar : {c : Bool} → eqb b 36 ≡ true → Marks c (b ∷ s) (marker why.Interpolation b (byte_at s 0) (byte_at s 1))
  marks_dollar d =
      either (eqb (byte_at s 0) b && eqb (byte_at s 1) 123)
      (λ f. marks_is _ _ _ (behind ∙ rw d (ne_eqb (byte_at s 0) 123 (twice f))))
      (λ f. either (eqb (byte_at s 0) 123) (λ g. marks_not why.Interpolation (λ o. refl) (λ e. behind ∙ rw (d, g))) (λ g. marks_is _ _ _ (behind ∙ rw (d, g))))
    where
      twice : (eqb (byte_at s 0) b && eqb (byte_at s 1) 123) ≡ true → byte_at s 0 ≡ 123 → ⊥
      twice f g = omega (arith, eqb-true b 36 d, eqb-true (byte_at s 0) b (and_left (eqb (byte_at s 0) b) (eqb (byte_at s 1) 123) f))

  marks_percent : {c : Bool} → begins (36 ∷ 123 ∷ []) (b ∷ s) ≡ false → Marks c (b ∷ s) (marker why.Directive b (byte_at s 0) (byte_at s 1))
  marks_percent h =
      either (eqb (byte_at s 0) b && eqb (byte_at s 1) 123) (λ f. marks_is _ _ _ h)
      (λ f. either (eqb (byte_at s 0) 123) (λ g. marks_not why.Directive (λ o. refl) (λ e. absurd (let z : ◌≡◌ {A = ℕ} 0 1 = cc in omega arith))) (λ g. marks_is _ _ _ h))

  marks_unit : {c : Bool} (q : Bool) → Marks c (b ∷ s) (unit q (b ∷ s))
  unfolding unit
  marks_unit q =
      either (eqb b 36) marks_dollar
      (λ d. let h = behind ∙ rw d in
      either (eqb b 37) (λ f. marks_percent h)
      (λ f. either (q && eqb b 34) (λ f. marks_not why.Quote (λ o. refl) (λ e. absurd (let z : ◌≡◌ {A = ℕ} 0 1 = cc in omega arith)))
      (λ f. either (q && eqb b 92) (λ f. marks_escape (byte_at s 0) (drop 1 s) h) (λ f. marks_is _ _ _ h))))

marks_line : {xs : List ℕ} {u : Unit} (x : Line) → Marks true xs u → Marks true xs (line_or x u)
marks_line line.Text h = h
marks_line (line.Closes e) h = marks_not why.Closing (λ o. clash o) (λ e. absurd (let z : ◌≡◌ {A = ℕ} 0 1 = cc in omega arith))
marks_line (line.Foreign e) h = marks_not why.Foreign (λ o. clash o) (λ e. absurd (let z : ◌≡◌ {A = ℕ} 0 1 = cc in omega arith))

abbrev pub closable : Mode → Bool
closable quoted = false
closable (heredoc d) = true

pub marks : (m : Mode) (f : Bool) (xs : List ℕ) → Marks (closable m) xs (unit_in m f xs)
marks m f [] = marks_not why.End (λ o. refl) (λ e. absurd (let z : ◌≡◌ {A = ℕ} 0 1 = cc in omega arith))
marks quoted f (b ∷ s) = marks_unit b s true
marks (heredoc d) false (b ∷ s) = marks_unit b s false
marks (heredoc d) true (b ∷ s) = marks_line (closing d (b ∷ s)) (marks_unit b s false)

-- ---- a foreign scalar behind a delimiter is within the source

foreign_as : (x y : Bool) (n e : ℕ) → cond x line.Text (cond y (line.Foreign n) (line.Closes n)) ≡ line.Foreign e → n ≡ e
foreign_as true y n e h = absurd (let z : ◌≡◌ {A = ℕ} 0 1 = cc in omega arith)
foreign_as false true n e h = cc
foreign_as false false n e h = absurd (let z : ◌≡◌ {A = ℕ} 0 1 = cc in omega arith)

foreign_most : (d xs : List ℕ) (e : ℕ) → closing d xs ≡ line.Foreign e → e ≤ length xs
unfolding closing
foreign_most d xs e = go (begins d (drop (spaces is_space xs) xs)) refl
  where
    go : (b : Bool) → begins d (drop (spaces is_space xs) xs) ≡ b
        → cond b (ends_by (spaces is_space xs + length d) (byte_at xs (spaces is_space xs + length d))) line.Text ≡ line.Foreign e → e ≤ length xs
    go true f h =
        let n = spaces is_space xs + length d in
        omega (arith, foreign_as (is_rest (byte_at xs n)) (is_foreign (byte_at xs n)) n e h, begins_most d (drop (spaces is_space xs) xs) f, length-drop (spaces is_space xs) xs, run_most is_space xs)
    go false f h = absurd (let z : ◌≡◌ {A = ℕ} 0 1 = cc in omega arith)

pub foreign_within : (d s : List ℕ) (p e : ℕ) → line_at d s p ≡ line.Foreign e → Within s p e
foreign_within d s p e = go (closing d (drop p s)) refl
  where
    go : (l : Line) → closing d (drop p s) ≡ l → line_as p l ≡ line.Foreign e → Within s p e
    go line.Text f h = absurd (let z : ◌≡◌ {A = ℕ} 0 1 = cc in omega arith)
    go (line.Closes n) f h = absurd (let z : ◌≡◌ {A = ℕ} 0 1 = cc in omega arith)
    go (line.Foreign n) f h =
        let z : p + n ≡ e = cc in
        let m = foreign_most d (drop p s) n f in
        record { low = omega arith; high = omega (arith, left s p) }

-- ---- a run as the code has it

module _ {m : Mode} {s : List ℕ} {p : ℕ} {r : Run} (h : RunHere m s p r) where
  ends : r.end ≡ p + (text_at m s p).width
  ends = ap (λ (x : Run). x.end) h.is

  pub run_why : r.why ≡ (text_at m s p).why
  run_why = ap (λ (x : Run). x.why) h.is

  pub run_escaped : r.escaped ≡ (text_at m s p).escaped
  run_escaped = ap (λ (x : Run). x.escaped) h.is

  pub run_length : r.length ≡ length (text_at m s p).bytes
  run_length = ap (λ (x : Run). x.length) h.is

  pub run_end : p + (text_at m s p).width ≡ r.end
  run_end = sym ends

  -- an empty run: why no unit stands
  pub run_none : r.end ≡ p → unit_in m (fresh_at s p) (drop p s) ≡ not r.why
  run_none e = none_as m (fresh_at s p) (drop p s) (omega (arith, ends)) ∙ ap not (sym run_why)

  pub run_some : ¬ (r.end ≡ p) → Stands (unit_in m (fresh_at s p) (drop p s))
  run_some n = some_as m (fresh_at s p) (drop p s) (λ z. n (omega (arith, ends)))

  -- where it ends
  pub run_stops : unit_in m (fresh_at s r.end) (drop r.end s) ≡ not r.why
  run_stops = rw (ends, run_why) (text_stops m s p)
