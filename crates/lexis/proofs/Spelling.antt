-- Laws on the units of literal text.
use Prim.Native.Nat.{ℕ, zero, suc, ◌+◌, ◌-◌, ◌*◌, ◌/◌, ◌%◌, ◌≤◌, ◌<◌}
use mathlib.Core.Path.{◌≡◌, refl, sym, ap, ◌∙◌}
use mathlib.Core.List.{List, [], ◌∷◌}
use mathlib.Core.Bool.{Bool, true, false, cond, and-false}
use mathlib.Core.Option.{none}
use native.Mathlib.Decide.{dec_lt}
use native.Mathlib.Omega.{arith}
use lib.ListN.{length, drop, get_or-eq_default}
use lib.Dec.{ltb}
use borrow.Author.Tests.{ne_eqb, lt-leb, lt-ltb, le-ltb}
use Rattle.std.specs.Prelude.{Result, Ok}
use Rattle.std.specs.Prelude as std
use Rattle.lexis.specs.Bytes.{byte_at, is_hex}
use Rattle.lexis.specs.Utf8.{is_scalar, six, encoded}
use Rattle.lexis.specs.String.{is, not, hex_of, hexes, scalar_of, scalar_as, scalar, escape, packed, made_of, answer_of}
use Rattle.lexis.specs.declared.string.Unit.{Unit as Made}
use Rattle.lexis.specs.declared.string.Why.{Why}
use Rattle.lexis.specs.declared.string.Why.TheVariants.{Escape}
use Rattle.lexis.specs.RunLaws.{next, empty, clash}

-- a unit of given bytes as the code says it
pub packs : (w b n : ℕ) (bs : List ℕ) (e : Bool) → b ≡ packed bs → n ≡ length bs → ◌≡◌ {A = Result Made Why} (Ok (made_of w b n)) (answer_of (is w bs e))
packs w b n bs e f g = rw (f, g)

pub pack_one : (b : ℕ) → b ≡ packed (b ∷ [])
unfolding packed
pack_one b = omega arith

pub pack_two : (b c : ℕ) → b + 256 * c ≡ packed (b ∷ c ∷ [])
unfolding packed
pack_two b c = omega arith

pub pack_three : (b c d : ℕ) → b + 256 * c + 65536 * d ≡ packed (b ∷ c ∷ d ∷ [])
unfolding packed
pack_three b c d = omega arith

pub pack_four : (b c d e : ℕ) → b + 256 * c + 65536 * d + 16777216 * e ≡ packed (b ∷ c ∷ d ∷ e ∷ [])
unfolding packed
pack_four b c d e = omega arith

-- the value of a digit as the code says it
abbrev pub digit_of : ℕ → std.Option ℕ
digit_of b = cond (is_hex b) (std.Some (hex_of b)) std.None

-- an escape that is worth v, by how many bytes it has
module _ (w v : ℕ) (e : is_scalar v ≡ true) where
  pub scalar_one : v < 0x80 → ◌≡◌ {A = Result Made Why} (Ok (made_of w v 1)) (answer_of (scalar_of w v))
  unfolding encoded
  scalar_one h = rw (e, lt-ltb v 0x80 h) (packs w v 1 (v ∷ []) true (pack_one v) refl)

  pub scalar_two : 0x80 ≤ v → v < 0x800 → ◌≡◌ {A = Result Made Why} (Ok (made_of w ((0xC0 + v / 64) + 256 * (0x80 + v % 64)) 2)) (answer_of (scalar_of w v))
  unfolding encoded
  scalar_two h k = rw (e, le-ltb v 0x80 h, lt-ltb v 0x800 k) (packs w _ 2 ((0xC0 + v / 64) ∷ six v ∷ []) true (pack_two (0xC0 + v / 64) (six v)) refl)

  pub scalar_three : 0x800 ≤ v → v < 0x10000
      → ◌≡◌ {A = Result Made Why} (Ok (made_of w ((0xE0 + v / 4096) + 256 * (0x80 + v / 64 % 64) + 65536 * (0x80 + v % 64)) 3)) (answer_of (scalar_of w v))
  unfolding encoded
  scalar_three h k =
      rw (e, le-ltb v 0x80 (omega arith), le-ltb v 0x800 h, lt-ltb v 0x10000 k)
      (packs w _ 3 ((0xE0 + v / 4096) ∷ six (v / 64) ∷ six v ∷ []) true (pack_three (0xE0 + v / 4096) (six (v / 64)) (six v)) refl)

  pub scalar_four : 0x10000 ≤ v
      → ◌≡◌ {A = Result Made Why} (Ok (made_of w ((0xF0 + v / 262144) + 256 * (0x80 + v / 4096 % 64) + 65536 * (0x80 + v / 64 % 64) + 16777216 * (0x80 + v % 64)) 4)) (answer_of (scalar_of w v))
  unfolding encoded
  scalar_four h =
      rw (e, le-ltb v 0x80 (omega arith), le-ltb v 0x800 (omega arith), le-ltb v 0x10000 h)
      (packs w _ 4 ((0xF0 + v / 262144) ∷ six (v / 4096) ∷ six (v / 64) ∷ six v ∷ []) true (pack_four (0xF0 + v / 262144) (six (v / 4096)) (six (v / 64)) (six v)) refl)

-- no number is none
some_none : {d : ℕ} → ◌≡◌ {A = std.Option ℕ} (std.Some d) std.None → ⊥
some_none e = clash (sym (ap std.is_none e))

-- digits at a place
module _ (v m : ℕ) (s : List ℕ) (q : ℕ) where
  hex_at : hexes v (suc m) (drop q s) ≡ cond (is_hex (byte_at s q)) (hexes (v * 16 + hex_of (byte_at s q)) m (drop (q + 1) s)) none
  unfolding hexes
  hex_at = go (dec_lt q (length s))
    where
      go : Dec (q < length s) → hexes v (suc m) (drop q s) ≡ cond (is_hex (byte_at s q)) (hexes (v * 16 + hex_of (byte_at s q)) m (drop (q + 1) s)) none
      go (yes l) = rw (next s q l)
      go (no l) = let k : length s ≤ q = omega arith in rw (empty s q k, get_or-eq_default {A = ℕ} s 256 k)

  module _ (o : std.Option ℕ) (h : o ≡ digit_of (byte_at s q)) where
    pub hex_on : (d : ℕ) → o ≡ std.Some d → hexes v (suc m) (drop q s) ≡ hexes (v * 16 + d) m (drop (q + 1) s)
    hex_on d k = go (is_hex (byte_at s q)) refl (sym k ∙ h)
      where
        go : (x : Bool) → is_hex (byte_at s q) ≡ x → std.Some d ≡ cond x (std.Some (hex_of (byte_at s q))) std.None → hexes v (suc m) (drop q s) ≡ hexes (v * 16 + d) m (drop (q + 1) s)
        go true e f = let z : d ≡ hex_of (byte_at s q) = ap (λ (o : std.Option ℕ). std.unwrap_or o 0) f in hex_at ∙ rw (e, z)
        go false e f = absurd (some_none f)

    pub hex_off : o ≡ std.None → hexes v (suc m) (drop q s) ≡ none
    hex_off k = go (is_hex (byte_at s q)) refl (sym k ∙ h)
      where
        go : (x : Bool) → is_hex (byte_at s q) ≡ x → std.None ≡ cond x (std.Some (hex_of (byte_at s q))) std.None → hexes v (suc m) (drop q s) ≡ none
        go true e f = absurd (some_none (sym f))
        go false e f = hex_at ∙ rw e

-- a value over the last scalar stays over it
pub hex_over : (n m v : ℕ) (l : List ℕ) → 0x10FFFF < v → scalar_as n (hexes v m l) ≡ not Escape
unfolding hexes
hex_over n zero v l h = rw (le-ltb v 0xD800 (omega arith), lt-leb v 0x10FFFF h, and-false (ltb 0xDFFF v))
hex_over n (suc m) v [] h = refl
hex_over n (suc m) v (b ∷ l) h = go (is_hex b) (hex_over n m (v * 16 + hex_of b) l (omega arith))
  where
    go : (x : Bool) → scalar_as n (hexes (v * 16 + hex_of b) m l) ≡ not Escape → scalar_as n (cond x (hexes (v * 16 + hex_of b) m l) none) ≡ not Escape
    go true e = e
    go false e = refl

-- the loop over n digits from p on: k of them are read, and are worth v
module _ (s : List ℕ) (p n k v : ℕ) (inv : hexes v (n - k) (drop (p + k) s) ≡ hexes 0 n (drop p s)) where
  pub turn_end : n ≤ k → scalar n (drop p s) ≡ scalar_of (n + 2) v
  unfolding hexes
  turn_end h =
      let z : n - k ≡ 0 = omega arith in
      rw (← inv, z)

  module _ (o : std.Option ℕ) (h : o ≡ digit_of (byte_at s (p + k))) (l : k < n) where
    pub turn_off : o ≡ std.None → scalar n (drop p s) ≡ not Escape
    turn_off e =
        let z : n - k ≡ suc (n - (k + 1)) = omega arith in
        rw (← inv, z, hex_off v (n - (k + 1)) s (p + k) o h e)

    pub turn_on : (d : ℕ) → o ≡ std.Some d → hexes (v * 16 + d) (n - (k + 1)) (drop (p + (k + 1)) s) ≡ hexes 0 n (drop p s)
    turn_on d e =
        let z : n - k ≡ suc (n - (k + 1)) = omega arith in
        let y : p + (k + 1) ≡ (p + k) + 1 = omega arith in
        rw (← inv, z, y, hex_on v (n - (k + 1)) s (p + k) o h d e)

    pub turn_over : (d : ℕ) → o ≡ std.Some d → 0x10FFFF < v * 16 + d → scalar n (drop p s) ≡ not Escape
    turn_over d e g = rw (← turn_on d e) (hex_over n (n - (k + 1)) (v * 16 + d) (drop (p + (k + 1)) s) g)

-- a letter that begins no escape
pub escape_none : (b : ℕ) (l : List ℕ) → (b ≡ 110 → ⊥) → (b ≡ 114 → ⊥) → (b ≡ 116 → ⊥) → (b ≡ 92 → ⊥) → (b ≡ 34 → ⊥) → (b ≡ 117 → ⊥) → (b ≡ 85 → ⊥)
    → escape b l ≡ not Escape
unfolding escape
escape_none b l h₁ h₂ h₃ h₄ h₅ h₆ h₇ =
    rw (ne_eqb b 110 h₁, ne_eqb b 114 h₂, ne_eqb b 116 h₃, ne_eqb b 92 h₄, ne_eqb b 34 h₅, ne_eqb b 117 h₆, ne_eqb b 85 h₇)
