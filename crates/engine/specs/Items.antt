-- For code that checks the children of a `rep` from the last to the first: `Lefts` is what the turns of such a loop have found so far, and
-- `lefts_whole`, `walk_found` say that it is the walk and the rule.
use Rattle.std.specs.Prelude.{◌≡◌, refl, List, ◌∷◌, ℕ, suc, ◌+◌, ◌≤◌, ◌<◌}
use Rattle.std.proofs.Math.Option.{some}
use Rattle.std.proofs.Common.{arith}
use Rattle.engine.specs.Base.{Rec}
use Rattle.engine.specs.Flat.{Row}
use Rattle.engine.specs.Layout.{Lay, kid, rep, Lang}
use Rattle.engine.specs.Rule.{Runs, rkid, rrep, rend, Firm, Local}
use Rattle.engine.specs.Forest.{recs, Walk, there, over}

module _ {P B M C : Type 0} (N : Lang P B M C) (f : ℕ → Row P) (b : B) (c : C) (m : M) (l : Lay M C) (from : ℕ) (σ p₀ : P) (before : List (Rec P)) where
  -- the row i can be a child at q, after the children ks
  pub record Fit (ks : List (Rec P)) (i : ℕ) (q : P) : Type 0 where
    pub att : B
    pub down : N.down b c σ ks ≡ some att
    pub at : (f i).rec.start ≡ q
    pub firm : Firm N att c (f i).rec

  -- the row i and those before it are children, the first of which starts at p₀ and has its first row at `from`; the records of all so far
  pub data Lefts : ℕ → List (Rec P) → Type 0 where
    lone : {i : ℕ} → from + (f i).count ≡ suc i → from ≤ i → Fit before i p₀ → Lefts i ((f i).rec ∷ before)
    more : {i : ℕ} {ks : List (Rec P)} (h : ℕ) → suc h + (f i).count ≡ suc i → h < i → (q : P) → N.go b m σ (f h).rec.end ≡ some q → Fit ks i q → Lefts h ks → Lefts i ((f i).rec ∷ ks)

  pub lefts_le : {i : ℕ} {ks : List (Rec P)} → Lefts i ks → from ≤ i
  lefts_le (lone z h x) = h
  lefts_le (more h z w q g x y) = let v = lefts_le y in omega arith

  pub record Walked (i : ℕ) (e : P) (φ : ℕ) (acc : List ℕ) : Type 0 where
    pub kids : List ℕ
    pub atts : List (B × ℕ)
    pub walk : Walk (Local N) f from (suc i) acc kids
    pub runs : Runs N (Firm N) b σ before (kid c (rep m c l)) p₀ e φ (recs (Local N) f kids) atts

  pub lefts_whole : {i : ℕ} {ks : List (Rec P)} {e : P} {φ : ℕ} {acc : List ℕ} {bs : List (B × ℕ)} → Lefts i ks → Runs N (Firm N) b σ ks (rep m c l) (f i).rec.end e φ (recs (Local N) f acc) bs → Walked i e φ acc
  lefts_whole {i} {acc = acc} (lone z h x) r = record { kids = i ∷ acc; atts = _; walk = over i from refl z h there; runs = rkid x.down x.at x.firm r }
  lefts_whole {i} (more h z w q g x y) r =
      let v = lefts_whole {acc = i ∷ _} y (rrep q g x.down x.at x.firm r) in
      record { kids = v.kids; atts = v.atts; walk = over i (suc h) refl z w v.walk; runs = v.runs }

  pub record Found (a : ℕ) (e : P) (φ : ℕ) (us : List ℕ) : Type 0 where
    pub ks : List (Rec P)
    pub lefts : Lefts a ks
    pub atts : List (B × ℕ)
    pub runs : Runs N (Firm N) b σ ks (rep m c l) (f a).rec.end e φ (recs (Local N) f us) atts

  -- l has no child
  module _ (none_in : (ks : List (Rec P)) (p e : P) (φ : ℕ) (r : Rec P) (rs : List (Rec P)) (bs : List (B × ℕ)) → Runs N (Firm N) b σ ks l p e φ (r ∷ rs) bs → ⊥) where
    first_found : {e : P} {φ : ℕ} {bs : List (B × ℕ)} (a : ℕ) (us : List ℕ) → from + (f a).count ≡ suc a → from ≤ a → Runs N (Firm N) b σ before (kid c (rep m c l)) p₀ e φ (recs (Local N) f (a ∷ us)) bs → Found a e φ us
    first_found a us z h (rkid {d = d} w st y x) = record { ks = _; lefts = lone z h (record { att = d; down = w; at = st; firm = y }); atts = _; runs = x }

    next_found : {ks : List (Rec P)} {e : P} {φ : ℕ} {bs : List (B × ℕ)} (i a : ℕ) (us : List ℕ) → suc i + (f a).count ≡ suc a → i < a → Lefts i ks → Runs N (Firm N) b σ ks (rep m c l) (f i).rec.end e φ (recs (Local N) f (a ∷ us)) bs → Found a e φ us
    next_found i a us z h y (rrep {d = d} q g w st u x) = record { ks = _; lefts = more i z h q g (record { att = d; down = w; at = st; firm = u }) y; atts = _; runs = x }
    next_found i a us z h y (rend g x) = absurd (none_in _ _ _ _ _ _ _ x)

    pub walk_found : {hi : ℕ} {e : P} {φ : ℕ} {kids : List ℕ} {bs : List (B × ℕ)} (a : ℕ) (us : List ℕ) → hi + (f a).count ≡ suc a → hi ≤ a → Walk (Local N) f from hi (a ∷ us) kids
        → Runs N (Firm N) b σ before (kid c (rep m c l)) p₀ e φ (recs (Local N) f kids) bs → Found a e φ us
    walk_found a us z h there r = first_found a us z h r
    walk_found a us z h (over i mid z' c' l' w) r =
        let v = walk_found i (a ∷ us) (omega arith) l' w r in
        next_found i a us (omega arith) (omega arith) v.lefts v.runs
