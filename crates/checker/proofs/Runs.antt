-- Where a run of literal text ends, no unit stands.
use Prim.Native.Nat.{ℕ, zero, suc, ◌+◌, ◌-◌}
use mathlib.Core.Path.{◌≡◌, refl, ap, ◌∙◌}
use mathlib.Core.List.{List, [], ◌∷◌}
use mathlib.Core.Bool.{Bool}
use native.Mathlib.Omega.{arith}
use lib.ListN.{drop}
use lib.Dec.{eqb}
use lib.Seq.{get_or-drop, drop-drop}
use Rattle.lexis.specs.Bytes.{byte_at}
use Rattle.lexis.specs.Heredoc.{fresh_at}
use Rattle.lexis.specs.String.{Mode, Unit, is, not, unit_in, Text, added, unit_else, text_after, text_at}

-- whether a line starts at a place of a list, where f says it of the list's start
abbrev fresh_in : Bool → List ℕ → ℕ → Bool
fresh_in f xs zero = f
fresh_in f xs (suc k) = eqb (byte_at xs k) 10

fresh_on : (f : Bool) (b : ℕ) (s : List ℕ) (k : ℕ) → fresh_in f (b ∷ s) (suc k) ≡ fresh_in (eqb b 10) s k
fresh_on f b s zero = refl
fresh_on f b s (suc k) = refl

fresh_in_lem : (s : List ℕ) (p k : ℕ) → fresh_in (fresh_at s p) (drop p s) k ≡ fresh_at s (p + k)
fresh_in_lem s p zero = let z : p + 0 ≡ p = omega arith in rw z
fresh_in_lem s p (suc k) = let z : p + suc k ≡ suc (p + k) = omega arith in rw z (ap (λ (x : ℕ). eqb x 10) (get_or-drop p s k 256))

stop_as : (m : Mode) (f : Bool) (n : ℕ) (xs : List ℕ) → unit_in m (fresh_in f xs (text_after m f n xs).width) (drop (text_after m f n xs).width xs) ≡ not (text_after m f n xs).why
unfolding text_after
stop_as m f n [] = refl
stop_as m f (suc n) (b ∷ s) =
    let k = (text_after m (eqb b 10) n s).width in
    ap (λ (x : Bool). unit_in m x (drop k s)) (fresh_on f b s k) ∙ stop_as m (eqb b 10) n s
stop_as m f zero (b ∷ s) = go (unit_in m f (b ∷ s)) refl (λ w. stop_as m (eqb b 10) (w - 1) s)
  where
    on : Unit → Text
    on u = unit_else u (λ w bs e. added bs e (text_after m (eqb b 10) (w - 1) s))

    go : (u : Unit) → unit_in m f (b ∷ s) ≡ u
        → ((w : ℕ) → unit_in m (fresh_in (eqb b 10) s (text_after m (eqb b 10) (w - 1) s).width) (drop (text_after m (eqb b 10) (w - 1) s).width s) ≡ not (text_after m (eqb b 10) (w - 1) s).why)
        → unit_in m (fresh_in f (b ∷ s) (on u).width) (drop (on u).width (b ∷ s)) ≡ not (on u).why
    go (is w bs e) g h = let k = (text_after m (eqb b 10) (w - 1) s).width in ap (λ (x : Bool). unit_in m x (drop k s)) (fresh_on f b s k) ∙ h w
    go (not y) g h = g

pub text_stops : (m : Mode) (s : List ℕ) (p : ℕ) → unit_in m (fresh_at s (p + (text_at m s p).width)) (drop (p + (text_at m s p).width) s) ≡ not (text_at m s p).why
text_stops m s p =
    let k = (text_at m s p).width in
    rw (← fresh_in_lem s p k, ← drop-drop k p s) (stop_as m (fresh_at s p) 0 (drop p s))
