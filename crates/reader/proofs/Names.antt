-- Names and attributes, read by their bytes alone.
use Prim.Native.Nat.{ℕ, ◌+◌, ◌≤◌, ◌<◌}
use mathlib.Core.Path.{◌≡◌, refl, ◌∙◌}
use mathlib.Core.Bool.{Bool, true}
use mathlib.Core.List.{List, [], ◌∷◌}
use native.Mathlib.Omega.{arith}
use lib.ListN.{length}
use lib.Dec.{eqb}
use borrow.Author.Tests.{eq-eqb}
use Rattle.lexis.specs.Bytes.{byte_at, Ran}
use Rattle.lexis.specs.Word.{ident_to}
use Rattle.lexis.specs.RunLaws.{stands_one, inside}
use Rattle.engine.specs.Layout.{fin, move}
use Rattle.grammar.specs.Moves.{ident, unexpected}
use Rattle.grammar.specs.Layouts.{layouts, layout_of, ident_lay, dot_lay, space}
use Rattle.grammar.specs.Table.{record_of}
use Rattle.grammar.specs.Said.{Went, went_of, Moved}
use Rattle.grammar.specs.TextLaws.{plain_yes}
use Rattle.reader.specs.Buffer.{put_at}
use Rattle.reader.specs.Said.{Step, step_of, under_any, Closing}
use Rattle.reader.specs.Bare.{Naming, SaidBare}
use Rattle.reader.proofs.Answers.{kept_same}
use Rattle.reader.proofs.Stages.{stage_move}
use Rattle.reader.proofs.Laids.{On}
use Rattle.reader.proofs.Ons.{space_to, space_no, ident_to_lem, ident_no, on_start, on_stop, on_else, on_fin}

-- ---- a name

name_lays : layout_of 17 ≡ ident_lay
unfolding layouts
name_lays = refl

module _ {s : List ℕ} {i p e : ℕ} (a : Naming s i p) (h : Ran s p (ident_to s p) e) where
  pub called_no : {b : List ℕ} {w : Went} {r : Step} → e ≡ p → w ≡ went_of (unexpected s p) → r ≡ step_of w.kind w.at 0 0 → SaidBare 17 s i p b b r
  called_no {b} n f q = record { made = λ left lines u K x y. on_else p (on_start {b = b} {x = x} name_lays a.inside) (λ ξ. ident_no s (under_any 17 left lines ξ) p p h n) f (omega arith) a.inside q (kept_same y) }

  module _ (n : ¬ (e ≡ p)) where
    pub called_closing : Closing i 0 0 p e 0
    called_closing = record { few = omega (arith, a.few, a.inside, a.small); some = omega arith; low = h.low; room = omega (arith, h.low, n); small = omega (arith, h.high, a.inside, a.small) }

    pub called_ok : {b b' : List ℕ} {r : Step} → (r ≡ step_of 0 e (0 + 1) 0) × (b' ≡ put_at b (i + 0) (record_of 17 0 p e (0 + 0 + 1) (0, 0))) → SaidBare 17 s i p b b' r
    called_ok {b} q = record {
      made = λ left lines u K x y.
          on_fin (stage_move 1 (on_start {left = left} {lines = lines} {b = b} {x = x} name_lays a.inside) (λ ξ. ident_to_lem s (under_any 17 left lines ξ) p p h n) (omega (arith, h.low, n)) (omega (arith, h.high, a.inside))) (omega arith) q (kept_same y);
    }

-- ---- an attribute

attribute_lays : layout_of 38 ≡ dot_lay (ident ∷ [])
unfolding layouts
attribute_lays = refl

module _ {s : List ℕ} {i p : ℕ} (a : Naming s i p) (dot : byte_at s p ≡ 46) where
  pub dot_inside : p < length s
  dot_inside = inside (λ x. eqb x 46) s p refl (eq-eqb (byte_at s p) 46 dot)

  behind : (left : ℕ) (lines : Bool) (u : ℕ) (b x : List ℕ) → On s left lines p 38 p i u b b x x (move space (move (ident ∷ []) (fin 0))) (p + 1) 0 0 (0 + 1)
  behind left lines u b x =
      stage_move 1 (on_start attribute_lays a.inside) (λ ξ. plain_yes s (under_any 38 left lines ξ) p p (46 ∷ []) (stands_one 46 s p refl ∙ eq-eqb (byte_at s p) 46 dot)) (omega arith) (omega (arith, dot_inside))

  module _ {g : Went} (m : Moved s (p + 1) true g) where
    there : g.at ≤ length s
    there = omega (arith, m.high, dot_inside)

    pub attribute_gap : {b : List ℕ} {r : Step} → ¬ (g.kind ≡ 0) → r ≡ step_of g.kind g.at 0 0 → SaidBare 38 s i p b b r
    attribute_gap {b} f q = record {
      made = λ left lines u K x y. on_stop g.kind g.at (behind left lines u b x) (λ ξ. space_no s (under_any 38 left lines ξ) p (p + 1) g.kind g.at (m.bad f)) (omega (arith, f)) (omega (arith, m.low)) there q (kept_same y);
    }

    module _ (f : g.kind ≡ 0) {e : ℕ} (h : Ran s g.at (ident_to s g.at) e) where
      at : (left : ℕ) (lines : Bool) (u : ℕ) (b x : List ℕ) → On s left lines p 38 p i u b b x x (move (ident ∷ []) (fin 0)) g.at 0 0 (0 + 1 + 0)
      at left lines u b x = stage_move 0 (behind left lines u b x) (λ ξ. space_to s (under_any 38 left lines ξ) p (p + 1) g.at (m.good f)) (omega (arith, m.low)) there

      pub attribute_no : {b : List ℕ} {w : Went} {r : Step} → e ≡ g.at → w ≡ went_of (unexpected s g.at) → r ≡ step_of w.kind w.at 0 0 → SaidBare 38 s i p b b r
      attribute_no {b} n z q = record { made = λ left lines u K x y. on_else g.at (at left lines u b x) (λ ξ. ident_no s (under_any 38 left lines ξ) p g.at h n) z (omega (arith, m.low)) there q (kept_same y) }

      module _ (n : ¬ (e ≡ g.at)) where
        pub attribute_closing : Closing i 0 0 p e 0
        attribute_closing = record { few = omega (arith, a.few, a.inside, a.small); some = omega arith; low = omega (arith, h.low, m.low); room = omega (arith, h.low, n, m.low); small = omega (arith, h.high, there, a.small) }

        pub attribute_ok : {b b' : List ℕ} {r : Step} → (r ≡ step_of 0 e (0 + 1) 0) × (b' ≡ put_at b (i + 0) (record_of 38 0 p e (0 + 0 + 1) (0, 0))) → SaidBare 38 s i p b b' r
        attribute_ok {b} q = record {
          made = λ left lines u K x y. on_fin (stage_move 1 (at left lines u b x) (λ ξ. ident_to_lem s (under_any 38 left lines ξ) p g.at h n) (omega (arith, h.low, n)) (omega (arith, h.high, there))) (omega arith) q (kept_same y);
        }
