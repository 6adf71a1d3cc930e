-- A production under way, told by its layout: what its moves come to, and the answers where one stops, at a child in brackets, and at the end.
use Prim.Native.Nat.{ℕ, zero, suc, ◌+◌, ◌-◌, ◌≤◌}
use mathlib.Core.Path.{◌≡◌, refl, sym, ap, ◌∙◌}
use mathlib.Core.Bool.{Bool, true, false, cond, ◌&&◌}
use mathlib.Core.List.{List, [], ◌∷◌}
use native.Mathlib.Omega.{arith}
use lib.ListN.{length}
use lib.Dec.{leb}
use borrow.Author.Tests.{eq-eqb, ne_eqb}
use Rattle.lexis.specs.Bytes.{stands, Ran}
use Rattle.lexis.specs.Word.{ident_to}
use Rattle.engine.specs.Layout.{fin, move, kid}
use Rattle.grammar.specs.Kinds.{Deep}
use Rattle.grammar.specs.Moves.{Under, to, no, then, level, walk, atom, skip, unexpected, Move, ident, an_expression}
use Rattle.grammar.specs.Layouts.{Layout, layout_of, inside, opening, space, past}
use Rattle.grammar.specs.Hcl.{under}
use Rattle.grammar.specs.Table.{record_of}
use Rattle.grammar.specs.Thrift.{spare}
use Rattle.grammar.specs.Wants.{down_below}
use Rattle.grammar.specs.Said.{Went, went_of}
use Rattle.grammar.specs.TextLaws as text
use Rattle.reader.specs.Buffer.{put_at}
use Rattle.reader.specs.Said.{Step, step_of, Climbs, Kept, Any, under_any, any_before, Said, SaidMade}
use Rattle.reader.proofs.Answers.{good, stage_made, made_no}
use Rattle.reader.proofs.Stages.{stage_start, stage_lay, stage_stop, stage_kid, stage_kid_no}
use Rattle.reader.proofs.Laids.{On}
use Rattle.reader.proofs.Laidings.{pass_made}
use Rattle.reader.proofs.Exprs.{unexpected_is}

-- ---- moves

-- what is not expected is refused where it stands
pub unexpected_as : (s : List ℕ) (p : ℕ) {w : Went} → w ≡ went_of (unexpected s p) → unexpected s p ≡ no w.kind w.at
unexpected_as s p {w} h = let e = text.unexpected_is s p in e ∙ sym (rw (h, e))

module _ (s : List ℕ) (a : Under) (σ : ℕ) where
  pub open_to : (w : List ℕ) (p : ℕ) → stands w s p ≡ true → ¬ (a.left ≡ 0) → walk s a σ (opening w) p ≡ to (p + length w)
  unfolding walk atom
  open_to w p e n = rw e (go a.left n)
    where
      go : (l : ℕ) → ¬ (l ≡ 0) → then (level l p (to (p + length w))) (walk s a σ []) ≡ to (p + length w)
      go zero n = absurd (n refl)
      go (suc l) n = refl

  pub open_deep : (w : List ℕ) (p : ℕ) → stands w s p ≡ true → a.left ≡ 0 → walk s a σ (opening w) p ≡ no Deep p
  unfolding walk atom
  open_deep w p e n = rw (e, n)

  pub open_no : (w : List ℕ) (p : ℕ) → stands w s p ≡ false → walk s a σ (opening w) p ≡ unexpected s p
  unfolding walk atom
  open_no w p e = rw (e, text.unexpected_is s p)

  pub space_to : (p q : ℕ) → skip s true p ≡ to q → walk s a σ space p ≡ to q
  unfolding walk atom
  space_to p q e = rw e

  pub space_no : (p y z : ℕ) → skip s true p ≡ no y z → walk s a σ space p ≡ no y z
  unfolding walk atom
  space_no p y z e = rw e

  pub past_to : (w : List ℕ) (p q : ℕ) → skip s true p ≡ to q → stands w s q ≡ true → walk s a σ (past w) p ≡ to (q + length w)
  unfolding walk atom
  past_to w p q e f = rw (e, f)

  pub past_gap : (w : List ℕ) (p y z : ℕ) → skip s true p ≡ no y z → walk s a σ (past w) p ≡ no y z
  unfolding walk atom
  past_gap w p y z e = rw e

  pub past_no : (w : List ℕ) (p q : ℕ) → skip s true p ≡ to q → stands w s q ≡ false → walk s a σ (past w) p ≡ unexpected s q
  unfolding walk atom
  past_no w p q e f = rw (e, f, text.unexpected_is s q)

  pub ident_to_lem : (p : ℕ) {e : ℕ} → Ran s p (ident_to s p) e → ¬ (e ≡ p) → walk s a σ (ident ∷ []) p ≡ to e
  unfolding walk atom
  ident_to_lem p {e} h n = rw (ne_eqb (ident_to s p) p (λ z. n (h.is ∙ z))) (ap to (sym h.is))

  pub ident_no : (p : ℕ) {e : ℕ} → Ran s p (ident_to s p) e → e ≡ p → walk s a σ (ident ∷ []) p ≡ unexpected s p
  unfolding walk atom
  ident_no p {e} h n = rw (eq-eqb (ident_to s p) p (sym h.is ∙ n), text.unexpected_is s p)

pub spare_most : (k : ℕ) → spare k ≤ 1
spare_most k = go (leb 38 k && leb k 42)
  where
    go : (t : Bool) → cond t 1 0 ≤ 1
    go true = omega arith
    go false = omega arith

-- ---- answers

pub on_start : {s : List ℕ} {left : ℕ} {lines : Bool} {σ k p i u : ℕ} {b x : List ℕ} {l : Layout} → layout_of k ≡ l → p ≤ length s → On s left lines σ k p i u b b x x l p 0 0 0
on_start e h = stage_lay e (stage_start any_before (omega arith) h)

module _ {s : List ℕ} {left : ℕ} {lines : Bool} {σ k p i u : ℕ} {b b' x x' : List ℕ} {q n t w : ℕ} where
  -- a move that can't be made
  pub on_stop : {m : Move} {l : Layout} (y z : ℕ) → On s left lines σ k p i u b b' x x' (move m l) q n t w → ((ξ : Any) → walk s (under_any k left lines ξ) σ m q ≡ no y z) → 1 ≤ y → p ≤ z → z ≤ length s
      → {before K : ℕ} {c c' v v' : List ℕ} {r : Step} → r ≡ step_of y z 0 0 → Kept K v v' → SaidMade Any s (under_any k left lines) σ any_before k (layout_of k) p i u before p K b c x c' v v' r
  on_stop y z g f pos low high e kept = record {
    made = made_no y z e pos (stage_stop g f);
    room = rw e (omega arith);
    spent = rw e (omega arith);
    high = rw e high;
    kept = kept;
    over = λ o. absurd (omega (arith, sym (ap (λ (a : Step). a.kind) e) ∙ o));
  }

  -- one that is unexpected
  pub on_else : {m : Move} {l : Layout} (z : ℕ) {g : Went} → On s left lines σ k p i u b b' x x' (move m l) q n t w → ((ξ : Any) → walk s (under_any k left lines ξ) σ m q ≡ unexpected s z) → g ≡ went_of (unexpected s z) → p ≤ z → z ≤ length s
      → {before K : ℕ} {c c' v v' : List ℕ} {r : Step} → r ≡ step_of g.kind g.at 0 0 → Kept K v v' → SaidMade Any s (under_any k left lines) σ any_before k (layout_of k) p i u before p K b c x c' v v' r
  on_else z {g} o f h low high e kept =
      let (pos, place) = unexpected_is s z h in
      on_stop g.kind g.at o (λ ξ. f ξ ∙ unexpected_as s z h) pos (omega arith) (omega arith) e kept

  -- the end
  pub on_fin : {φ : ℕ} → On s left lines σ k p i u b b' x x' (fin φ) q n t w → suc (spare k) ≤ w
      → {before K : ℕ} {b'' v v' : List ℕ} {r : Step} → (r ≡ step_of 0 q (n + 1) t) × (b'' ≡ put_at b' (i + n) (record_of k φ σ q (before + n + 1) (0, 0))) → Kept K v v'
      → SaidMade Any s (under_any k left lines) σ any_before k (layout_of k) p i u before p K b b'' x x' v v' r
  on_fin g own {before} (e, put) kept = record {
    made = stage_made before g e put;
    room = rw e (omega (arith, g.room));
    spent = rw e g.spent;
    high = rw e g.high;
    kept = kept;
    over = λ _. rw e (omega (arith, g.room));
  }

  -- an expression in brackets
  module _ {l : Layout} (g : On s left lines σ k p i u b b' x x' (kid inside l) q n t w) {i' u' K' : ℕ} {b'' x'' y' y'' : List ℕ} {m : Step} (h : Said (Climbs s (under (left - 1) true an_expression) 0 q) s i' u' K' q b' b'' x' x'' y' y'' m) where
    pub on_inside_no : ¬ (m.kind ≡ 0) → {before K : ℕ} {c c' v v' : List ℕ} → Kept K v v' → SaidMade Any s (under_any k left lines) σ any_before k (layout_of k) p i u before p K b c x c' v v' m
    on_inside_no f kept = pass_made h f (omega (arith, g.room)) kept (λ y z d. stage_kid_no g (λ ξ. down_below s k ξ.0 left lines inside σ (g.recs ξ) tt tt) refl d)

    pub on_inside : {n' t' : ℕ} → m.kind ≡ 0 → i + n ≡ i' → u + t ≡ u' → n + m.count ≡ n' → t + m.text ≡ t' → On s left lines σ k p i u b b'' x x'' l m.end n' t' (w + 0)
    on_inside f e₁ e₂ e₃ e₄ = stage_kid 0 g refl (λ ξ. down_below s k ξ.0 left lines inside σ (g.recs ξ) tt tt) refl (good h f) (omega (arith, h.room)) e₁ e₂ e₃ e₄
