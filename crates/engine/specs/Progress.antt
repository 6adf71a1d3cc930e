-- What is asked of a language so that its reading needs no fuel: on each way through a layout a move that eats stands before the end, and
-- before the first child too, unless that is of a lower rank.
use Rattle.std.specs.Prelude.{◌≡◌, Bool, true, false, ◌&&◌, ◌||◌, List, ℕ, suc, ◌≤◌, ◌<◌, leb, T}
use Rattle.std.proofs.Math.Option.{some}
use Rattle.engine.specs.Base.{Outcome, Rec, Tree}
use Rattle.engine.specs.Engine.{full}
use Rattle.engine.specs.Layout.{Lay, bad, fin, move, kid, fork, rep, Lang, grammar}

-- which moves eat; the rank of a class and of an attribute; how much of the source is left at a place; fuel that is enough
pub record Pace (P B M C : Type 0) : Type 0 where
  pub eats : M → Bool
  pub rankC : C → ℕ
  pub rank : B → ℕ
  pub rest : P → ℕ
  pub fuel : B → P → ℕ

-- the test of a layout under an attribute of the rank r, which computes
abbrev pub ate : {P B M C : Type 0} → Pace P B M C → ℕ → Lay M C → Bool
ate w r bad = true
ate w r (fin φ) = false
ate w r (move m l) = w.eats m || ate w r l
ate w r (kid c l) = leb (suc (w.rankC c)) r
ate w r (fork m l l') = (w.eats m || ate w r l) && ate w r l'
ate w r (rep m c l) = (w.eats m || leb (suc (w.rankC c)) r) && ate w r l

module _ {P B M C : Type 0} (N : Lang P B M C) (w : Pace P B M C) where
  pub record Going : Type 0 where
    -- no move goes back, and one that eats goes on
    pub go_less : (b : B) (m : M) (σ p q : P) → N.go b m σ p ≡ some q → w.rest q ≤ w.rest p
    pub go_eats : (b : B) (m : M) (σ p q : P) → T (w.eats m) → N.go b m σ p ≡ some q → w.rest q < w.rest p
    pub down_rank : (b d : B) (c : C) (σ : P) (ks : List (Rec P)) → N.down b c σ ks ≡ some d → w.rank d ≤ w.rankC c
    -- fuel falls with what is left, and with the rank
    pub fuel_left : (b : B) (p : P) → w.rest p ≤ w.fuel b p
    pub fuel_less : (b d : B) (p q : P) → w.rest q < w.rest p → w.fuel d q < w.fuel b p
    pub fuel_rank : (b d : B) (p q : P) → w.rest q ≤ w.rest p → w.rank d < w.rank b → w.fuel d q < w.fuel b p
    -- the test, of each kind that is called for
    pub pick_ate : (b : B) (p : P) (k : ℕ) → N.pick b p ≡ some k → T (ate w (w.rank b) (N.layout k))
    pub op_ate : (b : B) (p : P) (k : ℕ) → N.op_at b p ≡ some k → T (ate w (w.rank b) (N.layout k))

  -- the reading of a language under an attribute at a place, with no fuel
  abbrev pub reads : B → P → Outcome P (Tree P)
  reads b p = full (grammar N) (λ a p. w.fuel a.0 p) (b, 0) p
