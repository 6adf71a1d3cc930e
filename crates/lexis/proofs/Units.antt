-- Laws on the units of literal text: what they are by their first bytes, and that each is within the source and no longer than its text.
use Prim.Native.Nat.{ℕ, zero, suc, ◌+◌, ◌*◌, ◌/◌, ◌≤◌, ◌<◌}
use mathlib.Core.Path.{◌≡◌, refl, sym, ap, ◌∙◌}
use mathlib.Core.List.{List, [], ◌∷◌}
use mathlib.Core.Bool.{Bool, true, false, cond, ◌&&◌, and-false}
use mathlib.Core.Option.{Option, none, some, none-ne-some}
use native.Mathlib.Omega.{arith}
use lib.ListN.{length, get_or, take, drop, length-drop}
use lib.Dec.{leb, ltb, eqb}
use lib.Seq.{drop-drop, get_or-drop}
use borrow.Author.Tests.{eq-eqb, ne_eqb, lt-ltb, eqb-true, ltb-true, ltb-false, leb-true}
use Rattle.std.specs.Prelude.{Result}
use Rattle.lexis.specs.Bytes.{byte_at, is_hex}
use Rattle.lexis.specs.Utf8.{is_scalar, six, encoded}
use Rattle.lexis.specs.String.{Unit, is, not, plain, short, hex_of, hexes, scalar_as, scalar, escape, marker, unit, answer_of, UnitAt}
use Rattle.lexis.specs.declared.string.Why.{Why}
use Rattle.lexis.specs.declared.string.Why.TheVariants.{Quote, Interpolation, Directive, Escape, End}
use Rattle.lexis.specs.declared.string.Unit.{Unit as Made}
use Rattle.lexis.specs.RunLaws.{next, empty, front, here, default, clash, and_right}

-- a marker by the bytes behind it
module _ (y : Why) (b c d : ℕ) where
  pub marker_escaped : c ≡ b → d ≡ 123 → marker y b c d ≡ is 3 (b ∷ 123 ∷ []) true
  marker_escaped k l = rw (eq-eqb c b k, eq-eqb d 123 l)

-- the unit at a place, by its bytes
abbrev unit_by : Bool → ℕ → ℕ → ℕ → List ℕ → Unit
unit_by q b c d l =
    cond (eqb b 36) (marker Interpolation b c d)
    (cond (eqb b 37) (marker Directive b c d)
    (cond (q && eqb b 34) (not Quote)
    (cond (q && eqb b 92) (escape c l)
    (plain b))))

module _ (q : Bool) (s : List ℕ) (p : ℕ) where
  pub unit_end : length s ≤ p → unit q (drop p s) ≡ not End
  unfolding unit
  unit_end h = rw (empty s p h)

  module _ (h : p < length s) where
    pub unit_by_lem : unit q (drop p s) ≡ unit_by q (get_or s p 0) (byte_at s (p + 1)) (byte_at s (p + 2)) (drop (p + 1 + 1) s)
    unfolding unit
    unit_by_lem =
        let n : (p + 1) + 1 ≡ p + 2 = omega arith in
        let f : byte_at (drop (p + 1) s) 1 ≡ byte_at s (p + 2) = get_or-drop (p + 1) s 1 256 ∙ ap (byte_at s) n in
        rw (next s p h, front s (p + 1), f, drop-drop 1 (p + 1) s, default s p 0 256 h)

    pub unit_dollar : get_or s p 0 ≡ 36 → unit q (drop p s) ≡ marker Interpolation 36 (byte_at s (p + 1)) (byte_at s (p + 2))
    unit_dollar e = unit_by_lem ∙ rw e

    pub unit_percent : get_or s p 0 ≡ 37 → unit q (drop p s) ≡ marker Directive 37 (byte_at s (p + 1)) (byte_at s (p + 2))
    unit_percent e = unit_by_lem ∙ rw e

    module _ (f : get_or s p 0 ≡ 36 → ⊥) (g : get_or s p 0 ≡ 37 → ⊥) where
      pub unit_heredoc : q ≡ false → unit q (drop p s) ≡ plain (get_or s p 0)
      unit_heredoc e = unit_by_lem ∙ rw (ne_eqb (get_or s p 0) 36 f, ne_eqb (get_or s p 0) 37 g, e)

      pub unit_quote : q ≡ true → get_or s p 0 ≡ 34 → unit q (drop p s) ≡ not Quote
      unit_quote e k = unit_by_lem ∙ rw (k, e)

      pub unit_escape : q ≡ true → get_or s p 0 ≡ 92 → unit q (drop p s) ≡ escape (byte_at s (p + 1)) (drop (p + 1 + 1) s)
      unit_escape e k = unit_by_lem ∙ rw (k, e)

      pub unit_plain : q ≡ true → (get_or s p 0 ≡ 34 → ⊥) → (get_or s p 0 ≡ 92 → ⊥) → unit q (drop p s) ≡ plain (get_or s p 0)
      unit_plain e k l =
          unit_by_lem ∙ rw (ne_eqb (get_or s p 0) 36 f, ne_eqb (get_or s p 0) 37 g, e, ne_eqb (get_or s p 0) 34 k, ne_eqb (get_or s p 0) 92 l)

-- every element is a byte
abbrev pub Bytewise : List ℕ → Type 0
Bytewise l = (i : ℕ) → get_or l i 0 < 256

nil : Bytewise []
nil i = omega arith

cons : (b : ℕ) (l : List ℕ) → b < 256 → Bytewise l → Bytewise (b ∷ l)
cons b l h k zero = h
cons b l h k (suc i) = k i

-- a unit is within the list, its text is no longer than it is, and shorter exactly where it is an escape or an escaped marker
pub record Fine (l : List ℕ) (w : ℕ) (bs : List ℕ) (e : Bool) : Type 0 where
  pub wide : 1 ≤ w
  pub high : w ≤ length l
  pub few : length bs ≤ w
  pub small : length bs ≤ 4
  pub marked : e ≡ ltb (length bs) w
  pub same : e ≡ false → bs ≡ take w l
  pub low : Bytewise l → Bytewise bs

abbrev pub Sound : List ℕ → Unit → Type 0
Sound l (is w bs e) = Fine l w bs e
Sound l (not y) = Prim.Unit {0}

plain_sound : (b : ℕ) (l : List ℕ) → Sound (b ∷ l) (plain b)
plain_sound b l =
    record {
      wide = omega arith;
      high = omega arith;
      few = omega arith;
      small = omega arith;
      marked = refl;
      same = λ e. refl;
      low = λ h. cons b [] (h 0) nil;
    }

-- an escape or an escaped marker
strict : (l : List ℕ) (w : ℕ) (bs : List ℕ) → w ≤ length l → length bs < w → length bs ≤ 4 → (Bytewise l → Bytewise bs) → Fine l w bs true
strict l w bs h k m g =
    record {
      wide = omega arith;
      high = h;
      few = omega arith;
      small = m;
      marked = sym (lt-ltb (length bs) w k);
      same = λ e. clash e;
      low = g;
    }

-- a byte that is less than 256 stands within a list
stands_at : (l : List ℕ) (i b : ℕ) → byte_at l i ≡ b → b < 256 → i < length l
stands_at l i b e h = omega (arith, here l i)

marker_sound : (y : Why) (b : ℕ) (l : List ℕ) → Sound (b ∷ l) (marker y b (byte_at l 0) (byte_at l 1))
marker_sound y b l = go (eqb (byte_at l 0) b && eqb (byte_at l 1) 123) (eqb (byte_at l 0) 123) refl
  where
    go : (x z : Bool) → (eqb (byte_at l 0) b && eqb (byte_at l 1) 123) ≡ x → Sound (b ∷ l) (cond x (is 3 (b ∷ 123 ∷ []) true) (cond z (not y) (plain b)))
    go true z e =
        let h : 1 < length l = stands_at l 1 123 (eqb-true (byte_at l 1) 123 (and_right (eqb (byte_at l 0) b) (eqb (byte_at l 1) 123) e)) (omega arith) in
        strict (b ∷ l) 3 (b ∷ 123 ∷ []) (omega arith) (omega arith) (omega arith) (λ g. cons b (123 ∷ []) (g 0) (cons 123 [] (omega arith) nil))
    go false true e = tt
    go false false e = plain_sound b l

-- a scalar in UTF-8, by how many bytes it has
pub encoded_by : (P : List ℕ → Type 0) (v : ℕ)
    → (v < 0x80 → P (v ∷ []))
    → (0x80 ≤ v → v < 0x800 → P ((0xC0 + v / 64) ∷ six v ∷ []))
    → (0x800 ≤ v → v < 0x10000 → P ((0xE0 + v / 4096) ∷ six (v / 64) ∷ six v ∷ []))
    → (0x10000 ≤ v → P ((0xF0 + v / 262144) ∷ six (v / 4096) ∷ six (v / 64) ∷ six v ∷ []))
    → P (encoded v)
unfolding encoded
encoded_by P v f g h k = go (ltb v 0x80) (ltb v 0x800) (ltb v 0x10000) refl refl refl
  where
    go : (x y z : Bool) → ltb v 0x80 ≡ x → ltb v 0x800 ≡ y → ltb v 0x10000 ≡ z
        → P (cond x (v ∷ [])
        (cond y ((0xC0 + v / 64) ∷ six v ∷ [])
        (cond z ((0xE0 + v / 4096) ∷ six (v / 64) ∷ six v ∷ []) ((0xF0 + v / 262144) ∷ six (v / 4096) ∷ six (v / 64) ∷ six v ∷ []))))
    go true y z a b c = f (ltb-true v 0x80 a)
    go false true z a b c = g (ltb-false v 0x80 a) (ltb-true v 0x800 b)
    go false false true a b c = h (ltb-false v 0x800 b) (ltb-true v 0x10000 c)
    go false false false a b c = k (ltb-false v 0x10000 c)

encoded_long : (v : ℕ) → length (encoded v) ≤ 4
encoded_long v = encoded_by (λ bs. length bs ≤ 4) v (λ a. omega arith) (λ a b. omega arith) (λ a b. omega arith) (λ a. omega arith)

encoded_low : (v : ℕ) → v ≤ 0x10FFFF → Bytewise (encoded v)
encoded_low v h =
    encoded_by Bytewise v
    (λ a. cons v [] (omega arith) nil)
    (λ a b. cons (0xC0 + v / 64) (six v ∷ []) (omega arith) (cons (six v) [] (omega arith) nil))
    (λ a b. cons (0xE0 + v / 4096) (six (v / 64) ∷ six v ∷ []) (omega arith) (cons (six (v / 64)) (six v ∷ []) (omega arith) (cons (six v) [] (omega arith) nil)))
    (λ a.
    cons (0xF0 + v / 262144) (six (v / 4096) ∷ six (v / 64) ∷ six v ∷ []) (omega arith)
    (cons (six (v / 4096)) (six (v / 64) ∷ six v ∷ []) (omega arith) (cons (six (v / 64)) (six v ∷ []) (omega arith) (cons (six v) [] (omega arith) nil))))

pub scalar_most : (v : ℕ) → is_scalar v ≡ true → v ≤ 0x10FFFF
scalar_most v e = go (ltb v 0xD800) (leb v 0x10FFFF) refl refl
  where
    go : (x y : Bool) → ltb v 0xD800 ≡ x → leb v 0x10FFFF ≡ y → v ≤ 0x10FFFF
    go true y a b = omega (arith, ltb-true v 0xD800 a)
    go false true a b = leb-true v 0x10FFFF b
    go false false a b = clash (sym (rw (a, b, and-false (ltb 0xDFFF v)) at e))

hexes_long : (n v : ℕ) (l : List ℕ) (x : ℕ) → hexes v n l ≡ some x → n ≤ length l
unfolding hexes
hexes_long zero v l x e = omega arith
hexes_long (suc n) v [] x e = absurd (none-ne-some x e)
hexes_long (suc n) v (b ∷ l) x e = go (is_hex b) (hexes_long n (v * 16 + hex_of b) l x) e
  where
    go : (y : Bool) → (hexes (v * 16 + hex_of b) n l ≡ some x → n ≤ length l) → cond y (hexes (v * 16 + hex_of b) n l) none ≡ some x → suc n ≤ suc (length l)
    go true h e = omega (arith, h e)
    go false h e = absurd (none-ne-some x e)

scalar_sound : (b c n : ℕ) (l : List ℕ) → 3 ≤ n → Sound (b ∷ c ∷ l) (scalar n l)
scalar_sound b c n l h = go (hexes 0 n l) refl
  where
    some_sound : (v : ℕ) (x : Bool) → is_scalar v ≡ x → n ≤ length l → Sound (b ∷ c ∷ l) (cond x (is (n + 2) (encoded v) true) (not Escape))
    some_sound v true e k =
        strict (b ∷ c ∷ l) (n + 2) (encoded v) (omega arith) (omega (arith, encoded_long v)) (encoded_long v) (λ g. encoded_low v (scalar_most v e))
    some_sound v false e k = tt

    go : (o : Option ℕ) → hexes 0 n l ≡ o → Sound (b ∷ c ∷ l) (scalar_as n o)
    go none e = tt
    go (some v) e = some_sound v (is_scalar v) refl (hexes_long n 0 l v e)

short_sound : (b c x : ℕ) (l : List ℕ) → x < 256 → Sound (b ∷ c ∷ l) (short x)
short_sound b c x l h = strict (b ∷ c ∷ l) 2 (x ∷ []) (omega arith) (omega arith) (omega arith) (λ g. cons x [] h nil)

escape_sound : (b : ℕ) (l : List ℕ) → Sound (b ∷ l) (escape (byte_at l 0) (drop 1 l))
unfolding escape
escape_sound b [] = tt
escape_sound b (c ∷ l) = go (eqb c 110) (eqb c 114) (eqb c 116) (eqb c 92) (eqb c 34) (eqb c 117) (eqb c 85)
  where
    go : (x₁ x₂ x₃ x₄ x₅ x₆ x₇ : Bool)
        → Sound (b ∷ c ∷ l)
        (cond x₁ (short 10) (cond x₂ (short 13) (cond x₃ (short 9) (cond x₄ (short 92) (cond x₅ (short 34) (cond x₆ (scalar 4 l) (cond x₇ (scalar 8 l) (not Escape))))))))
    go true x₂ x₃ x₄ x₅ x₆ x₇ = short_sound b c 10 l (omega arith)
    go false true x₃ x₄ x₅ x₆ x₇ = short_sound b c 13 l (omega arith)
    go false false true x₄ x₅ x₆ x₇ = short_sound b c 9 l (omega arith)
    go false false false true x₅ x₆ x₇ = short_sound b c 92 l (omega arith)
    go false false false false true x₆ x₇ = short_sound b c 34 l (omega arith)
    go false false false false false true x₇ = scalar_sound b c 4 l (omega arith)
    go false false false false false false true = scalar_sound b c 8 l (omega arith)
    go false false false false false false false = tt

pub unit_sound : (q : Bool) (l : List ℕ) → Sound l (unit q l)
unfolding unit
unit_sound q [] = tt
unit_sound q (b ∷ l) = go (eqb b 36) (eqb b 37) (q && eqb b 34) (q && eqb b 92)
  where
    go : (x₁ x₂ x₃ x₄ : Bool)
        → Sound (b ∷ l)
        (cond x₁ (marker Interpolation b (byte_at l 0) (byte_at l 1))
        (cond x₂ (marker Directive b (byte_at l 0) (byte_at l 1))
        (cond x₃ (not Quote) (cond x₄ (escape (byte_at l 0) (drop 1 l)) (plain b)))))
    go true x₂ x₃ x₄ = marker_sound Interpolation b l
    go false true x₃ x₄ = marker_sound Directive b l
    go false false true x₄ = tt
    go false false false true = escape_sound b l
    go false false false false = plain_sound b l

-- what the code says of a unit
pub unit_here : (s : List ℕ) (u : Unit) (p : ℕ) (r : Result Made Why) → Sound (drop p s) u → r ≡ answer_of u → UnitAt s u p r
unit_here s (is w bs e) p r h f =
    rw f (record { here = record { is = refl; high = omega (arith, h.high, length-drop p s); few = h.few; small = h.small }; wide = h.wide })
unit_here s (not y) p r h f = rw f (record { here = record { is = refl; high = omega arith; few = omega arith; small = omega arith }; wide = tt })

pub unit_there : (q : Bool) (s : List ℕ) (p : ℕ) (r : Result Made Why) → r ≡ answer_of (unit q (drop p s)) → UnitAt s (unit q (drop p s)) p r
unit_there q s p r = unit_here s (unit q (drop p s)) p r (unit_sound q (drop p s))

pub same_here : {s : List ℕ} {u v : Unit} {p : ℕ} {r : Result Made Why} → v ≡ u → UnitAt s u p r → UnitAt s v p r
same_here e h = rw e h
