-- Why a run of literal text ends: at its end no unit stands, for the reason that is given, and what stands there instead.
use Prim.Native.Nat.{ℕ, ◌+◌, ◌<◌}
use mathlib.Core.Path.{◌≡◌, refl, subst}
use mathlib.Core.List.{List, [], ◌∷◌}
use mathlib.Core.Bool.{Bool, true, false, cond, ◌&&◌}
use mathlib.Core.Option.{Option, none, some}
use native.Mathlib.Nat.{add-zero, add_assoc}
use native.Mathlib.Decide.{dec_lt}
use native.Mathlib.Omega.{arith}
use lib.ListN.{length, drop}
use lib.Dec.{eqb}
use borrow.Author.Tests.{eqb-true}
use Rattle.lexis.specs.Bytes.{byte_at}
use Rattle.lexis.specs.Utf8.{is_scalar, encoded}
use Rattle.lexis.specs.Heredoc.{closing, fresh_at}
use Rattle.lexis.specs.String.{Mode, quoted, heredoc, Unit, is, not, plain, short, hexes, scalar_as, scalar, escape, marker, unit, line_or, unit_in, text_at}
use Rattle.lexis.specs.declared.heredoc.Line.{Line}
use Rattle.lexis.specs.declared.heredoc.Line.TheVariants as line
use Rattle.lexis.specs.declared.string.Why.{Why}
use Rattle.lexis.specs.declared.string.Why.TheVariants.{Quote, Interpolation, Directive, Escape, Closing, Foreign, End}
use Rattle.lexis.specs.RunLaws.{empty, and_right}
use Rattle.lexis.proofs.Texts.{ind}

-- no unit stands at the end of a run: it is the longest
pub text_stop : (m : Mode) (s : List ℕ) (p : ℕ) → unit_in m (fresh_at s (p + (text_at m s p).width)) (drop (p + (text_at m s p).width) s) ≡ not (text_at m s p).why
text_stop m s = ind m s (λ i t. unit_in m (fresh_at s (i + t.width)) (drop (i + t.width) s) ≡ not t.why) (λ i y e. rw (add-zero i) e) (λ i w bs e u g h. rw (← add_assoc i w (text_at m s (i + w)).width) h)

-- what stands where the text ends for a reason
abbrev pub Stands : Why → List ℕ → Type 0
Stands Quote l = byte_at l 0 ≡ 34
Stands Interpolation l = (byte_at l 0 ≡ 36) × (byte_at l 1 ≡ 123)
Stands Directive l = (byte_at l 0 ≡ 37) × (byte_at l 1 ≡ 123)
Stands Escape l = byte_at l 0 ≡ 92
Stands Closing l = ⊥
Stands Foreign l = ⊥
Stands End l = l ≡ []

abbrev pub Stopped : List ℕ → Unit → Type 0
Stopped l (is w bs e) = Prim.Unit {0}
Stopped l (not y) = Stands y l

marker_stopped : (y : Why) (b : ℕ) (l : List ℕ) → (byte_at l 0 ≡ 123 → Stands y (b ∷ l)) → Stopped (b ∷ l) (marker y b (byte_at l 0) (byte_at l 1))
marker_stopped y b l h = go (eqb (byte_at l 0) b && eqb (byte_at l 1) 123) (eqb (byte_at l 0) 123) refl
  where
    go : (x z : Bool) → eqb (byte_at l 0) 123 ≡ z → Stopped (b ∷ l) (cond x (is 3 (b ∷ 123 ∷ []) true) (cond z (not y) (plain b)))
    go true z e = tt
    go false true e = h (eqb-true (byte_at l 0) 123 e)
    go false false e = tt

scalar_stopped : (b : ℕ) (l : List ℕ) (n : ℕ) (o : Option ℕ) → b ≡ 92 → Stopped (b ∷ l) (scalar_as n o)
scalar_stopped b l n none h = h
scalar_stopped b l n (some v) h = go (is_scalar v)
  where
    go : (x : Bool) → Stopped (b ∷ l) (cond x (is (n + 2) (encoded v) true) (not Escape))
    go true = tt
    go false = h

escape_stopped : (b c : ℕ) (l k : List ℕ) → b ≡ 92 → Stopped (b ∷ l) (escape c k)
unfolding escape
escape_stopped b c l k h = go (eqb c 110) (eqb c 114) (eqb c 116) (eqb c 92) (eqb c 34) (eqb c 117) (eqb c 85)
  where
    go : (x₁ x₂ x₃ x₄ x₅ x₆ x₇ : Bool)
        → Stopped (b ∷ l)
        (cond x₁ (short 10) (cond x₂ (short 13) (cond x₃ (short 9) (cond x₄ (short 92) (cond x₅ (short 34) (cond x₆ (scalar 4 k) (cond x₇ (scalar 8 k) (not Escape))))))))
    go true x₂ x₃ x₄ x₅ x₆ x₇ = tt
    go false true x₃ x₄ x₅ x₆ x₇ = tt
    go false false true x₄ x₅ x₆ x₇ = tt
    go false false false true x₅ x₆ x₇ = tt
    go false false false false true x₆ x₇ = tt
    go false false false false false true x₇ = scalar_stopped b l 4 (hexes 0 4 k) h
    go false false false false false false true = scalar_stopped b l 8 (hexes 0 8 k) h
    go false false false false false false false = h

pub unit_stopped : (q : Bool) (l : List ℕ) → Stopped l (unit q l)
unfolding unit
unit_stopped q [] = refl
unit_stopped q (b ∷ l) = go (eqb b 36) (eqb b 37) (q && eqb b 34) (q && eqb b 92) refl refl refl refl
  where
    go : (x₁ x₂ x₃ x₄ : Bool) → eqb b 36 ≡ x₁ → eqb b 37 ≡ x₂ → (q && eqb b 34) ≡ x₃ → (q && eqb b 92) ≡ x₄
        → Stopped (b ∷ l)
        (cond x₁ (marker Interpolation b (byte_at l 0) (byte_at l 1))
        (cond x₂ (marker Directive b (byte_at l 0) (byte_at l 1))
        (cond x₃ (not Quote) (cond x₄ (escape (byte_at l 0) (drop 1 l)) (plain b)))))
    go true x₂ x₃ x₄ e f g h = marker_stopped Interpolation b l (λ c. (eqb-true b 36 e, c))
    go false true x₃ x₄ e f g h = marker_stopped Directive b l (λ c. (eqb-true b 37 f, c))
    go false false true x₄ e f g h = eqb-true b 34 (and_right q (eqb b 34) g)
    go false false false true e f g h = escape_stopped b (byte_at l 0) l (drop 1 l) (eqb-true b 92 (and_right q (eqb b 92) h))
    go false false false false e f g h = tt

-- the same by the text round a run: a heredoc's text may also end at a closing line
abbrev pub StandsIn : Mode → Why → List ℕ → Type 0
StandsIn quoted y l = Stands y l
StandsIn (heredoc d) Closing l = (e : ℕ) × (closing d l ≡ line.Closes e)
StandsIn (heredoc d) Foreign l = (e : ℕ) × (closing d l ≡ line.Foreign e)
StandsIn (heredoc d) Quote l = Stands Quote l
StandsIn (heredoc d) Interpolation l = Stands Interpolation l
StandsIn (heredoc d) Directive l = Stands Directive l
StandsIn (heredoc d) Escape l = Stands Escape l
StandsIn (heredoc d) End l = Stands End l

stands_more : (d : List ℕ) (y : Why) (l : List ℕ) → Stands y l → StandsIn (heredoc d) y l
stands_more d Closing l h = absurd h
stands_more d Foreign l h = absurd h
stands_more d Quote l h = h
stands_more d Interpolation l h = h
stands_more d Directive l h = h
stands_more d Escape l h = h
stands_more d End l h = h

-- the end of the text, read off the unit that is not there
abbrev StoppedIn : Mode → List ℕ → Unit → Type 0
StoppedIn m l (is w bs e) = Prim.Unit {0}
StoppedIn m l (not y) = StandsIn m y l

stopped_more : (d l : List ℕ) (u : Unit) → Stopped l u → StoppedIn (heredoc d) l u
stopped_more d l (is w bs e) h = tt
stopped_more d l (not y) h = stands_more d y l h

stopped_quoted : (l : List ℕ) (u : Unit) → Stopped l u → StoppedIn quoted l u
stopped_quoted l (is w bs e) h = tt
stopped_quoted l (not y) h = h

in_stopped : (m : Mode) (f : Bool) (l : List ℕ) → StoppedIn m l (unit_in m f l)
in_stopped quoted f [] = refl
in_stopped (heredoc d) f [] = refl
in_stopped quoted f (b ∷ l) = stopped_quoted (b ∷ l) (unit true (b ∷ l)) (unit_stopped true (b ∷ l))
in_stopped (heredoc d) false (b ∷ l) = stopped_more d (b ∷ l) (unit false (b ∷ l)) (unit_stopped false (b ∷ l))
in_stopped (heredoc d) true (b ∷ l) = go (closing d (b ∷ l)) refl
  where
    go : (x : Line) → closing d (b ∷ l) ≡ x → StoppedIn (heredoc d) (b ∷ l) (line_or x (unit false (b ∷ l)))
    go line.Text e = stopped_more d (b ∷ l) (unit false (b ∷ l)) (unit_stopped false (b ∷ l))
    go (line.Closes k) e = (k, e)
    go (line.Foreign k) e = (k, e)

-- what stands at the end of a run
pub text_stands : (m : Mode) (s : List ℕ) (p : ℕ) → StandsIn m (text_at m s p).why (drop (p + (text_at m s p).width) s)
text_stands m s p =
    subst (StoppedIn m (drop (p + (text_at m s p).width) s)) (text_stop m s p) (in_stopped m (fresh_at s (p + (text_at m s p).width)) (drop (p + (text_at m s p).width) s))

-- a run that the source's end does not cut ends within the source
pub text_inside : (m : Mode) (s : List ℕ) (p : ℕ) → ((text_at m s p).why ≡ End → ⊥) → p + (text_at m s p).width < length s
text_inside m s p h = go (dec_lt (p + (text_at m s p).width) (length s))
  where
    go : Dec (p + (text_at m s p).width < length s) → p + (text_at m s p).width < length s
    go (yes l) = l
    go (no l) =
        let e : not End ≡ not (text_at m s p).why = rw (empty s (p + (text_at m s p).width) (omega arith)) at (text_stop m s p) in
        absurd (h (cc))
