-- The text of a run of a well-formed source: a run ends at a border of two sequences, so where it also starts at one its text is well formed.
use Prim.Native.Nat.{ℕ, zero, suc, ◌+◌, ◌-◌, ◌<◌}
use mathlib.Core.Path.{◌≡◌, refl, sym, ap, subst, ◌∙◌}
use mathlib.Core.List.{List, [], ◌∷◌, ◌++◌, append-nil}
use mathlib.Core.Bool.{Bool, true, false}
use mathlib.Core.Logic.{◌⊎◌, inl, inr}
use native.Mathlib.Omega.{arith}
use lib.ListN.{length, take, drop, take-append-drop}
use lib.Seq.{drop-drop, split_at, take-suc, get_or-drop}
use lib.Dec.{eqb}
use borrow.Author.Tests.{eqb-true}
use Rattle.lexis.specs.Bytes.{byte_at}
use Rattle.lexis.specs.Utf8.{Formed}
use Rattle.lexis.specs.Utf8 as utf8
use Rattle.lexis.specs.Heredoc.{fresh_at}
use Rattle.lexis.specs.String.{Mode, quoted, heredoc, not, unit_in, text_at}
use Rattle.lexis.specs.declared.string.Why.{Why}
use Rattle.lexis.specs.declared.string.Why.TheVariants.{Quote, Interpolation, Directive, Escape, Closing, Foreign, End}
use Rattle.lexis.specs.RunLaws.{here, front}
use Rattle.lexis.proofs.Lines.{fresh_behind}
use Rattle.lexis.proofs.Stops.{Stands, Stopped, unit_stopped, text_stop}
use Rattle.lexis.proofs.Formeds.{formed_append, formed_byte, cut, text_formed}

-- where the text ends for a reason of its own, a byte less than 80 stands
stands_low : (y : Why) (b : ℕ) (l : List ℕ) → Stands y (b ∷ l) → b < 0x80
stands_low Quote b l h = omega arith
stands_low Interpolation b l h = omega (arith, h.0)
stands_low Directive b l h = omega (arith, h.0)
stands_low Escape b l h = omega arith
stands_low Closing b l h = absurd h
stands_low Foreign b l h = absurd h
stands_low End b l h = absurd (omega (arith, ap (λ (x : List ℕ). length x) h))

-- where no unit stands the source ends, or a byte less than 80 stands, or a line starts
edge : (m : Mode) (f : Bool) (l : List ℕ) (y : Why) → unit_in m f l ≡ not y → (l ≡ []) ⊎ ((byte_at l 0 < 0x80) ⊎ (f ≡ true))
edge m f [] y e = inl refl
edge m true (b ∷ l) y e = inr (inr refl)
edge quoted false (b ∷ l) y e = inr (inl (stands_low y b l (subst (Stopped (b ∷ l)) e (unit_stopped true (b ∷ l)))))
edge (heredoc d) false (b ∷ l) y e = inr (inl (stands_low y b l (subst (Stopped (b ∷ l)) e (unit_stopped false (b ∷ l)))))

-- a well-formed list, cut at such a place
module _ (l : List ℕ) (f : Formed l) where
  cut_end : (w : ℕ) → drop w l ≡ [] → Formed (take w l)
  cut_end w e = subst Formed (sym (take-append-drop w l) ∙ ap (λ (x : List ℕ). take w l ++ x) e ∙ append-nil (take w l)) f

  cut_before : (w : ℕ) → byte_at l w < 0x80 → Formed (take w l)
  cut_before w h =
      let n : w < length l = omega (arith, here l w) in
      (cut (take w l) (byte_at l w) (drop (suc w) l) h (subst Formed (split_at l w 256 n) f)).0

  cut_behind : (w : ℕ) → byte_at l w < 0x80 → Formed (take (suc w) l)
  cut_behind w h =
      let n : w < length l = omega (arith, here l w) in
      rw (take-suc l w 256 n) (formed_append (cut_before w h) (formed_byte (byte_at l w) h))

-- a well-formed source is well formed from behind a byte less than 80 on
from_behind : (s : List ℕ) (p : ℕ) → Formed s → byte_at s p < 0x80 → Formed (drop (suc p) s)
from_behind s p f h =
    let n : p < length s = omega (arith, here s p) in
    (cut (take p s) (byte_at s p) (drop (suc p) s) h (subst Formed (split_at s p 256 n) f)).1

-- the part of the source that is a run
run_formed : (m : Mode) (s : List ℕ) (p : ℕ) → Formed (drop p s) → Formed (take (text_at m s p).width (drop p s))
run_formed m s p f = go (text_at m s p).width refl (edge m (fresh_at s (p + (text_at m s p).width)) (drop (p + (text_at m s p).width) s) (text_at m s p).why (text_stop m s p))
  where
    go : (w : ℕ) → (text_at m s p).width ≡ w
        → (drop (p + (text_at m s p).width) s ≡ []) ⊎ ((byte_at (drop (p + (text_at m s p).width) s) 0 < 0x80) ⊎ (fresh_at s (p + (text_at m s p).width) ≡ true))
        → Formed (take w (drop p s))
    go w e (inl h) = cut_end (drop p s) f w (drop-drop w p s ∙ ap (λ (n : ℕ). drop (p + n) s) (sym e) ∙ h)
    go w e (inr (inl h)) = cut_before (drop p s) f w (rw (get_or-drop p s w 256) (rw (e, front s (p + w)) at h))
    go zero e (inr (inr h)) = utf8.none
    go (suc w) e (inr (inr h)) =
        let n : (p + suc w) - 1 ≡ p + w = omega arith in
        let b : byte_at s (p + w) ≡ 10 =
        eqb-true (byte_at s (p + w)) 10 (ap (λ (k : ℕ). eqb (byte_at s k) 10) (sym n) ∙ sym (fresh_behind s (p + suc w) (λ z. omega arith)) ∙ rw e at h) in
        cut_behind (drop p s) f w (rw (get_or-drop p s w 256) (omega arith))

-- a run that starts right behind a byte less than 80 in a well-formed source has well-formed text
pub source_formed : (m : Mode) (s : List ℕ) (p : ℕ) → Formed s → byte_at s p < 0x80 → Formed (text_at m s (suc p)).bytes
source_formed m s p f h = text_formed m s (suc p) (run_formed m s (suc p) (from_behind s p f h))
