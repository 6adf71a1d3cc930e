-- A language whose kinds are listed: what Tables and Progress ask of each kind that is called for is one test over the list, which computes.
-- (Where `heads` or `ops` depends on the attribute, a definition of `Kinds` is an `abbrev`, so that the tests see the lists.)
use Rattle.std.specs.Prelude.{◌≡◌, Bool, true, false, ◌||◌, List, ◌∷◌, [], ℕ, ◌≤◌, ◌+◌, ◌*◌, ◌<◌, leb, eqb, T}
use Rattle.std.proofs.Common.{subst, inl, inr, arith, leb→le}
use Rattle.std.proofs.Math.Option.{some}
use Rattle.std.proofs.Math.Dec.{eqb_refl}
use Rattle.engine.specs.Base.{Rec, has, all_of, choose}
use Rattle.engine.specs.Layout.{Lang, after}
use Rattle.engine.specs.Tables.{Called, Sane, ok_kind, ok_op, stands}
use Rattle.engine.specs.Progress.{Pace, ate, Going}
use Rattle.engine.specs.BaseLaws.{has_all, t_or}

-- what may be called for under each attribute: by the bytes at a place, and by an operator
pub record Kinds {P B M C : Type 0} (N : Lang P B M C) : Type 0 where
  pub heads : B → List ℕ
  pub ops : B → List ℕ
  pub heads_all : (b : B) (p : P) (k : ℕ) → N.pick b p ≡ some k → T (has (heads b) k)
  pub ops_all : (b : B) (p : P) (k : ℕ) → N.op_at b p ≡ some k → T (has (ops b) k)

-- a pace: ranks below 4, and fuel by what is left and the rank
abbrev pub ranked : {P B M C : Type 0} → (M → Bool) → (C → ℕ) → (B → ℕ) → (P → ℕ) → Pace P B M C
ranked eats rankC rank rest = record { eats = eats; rankC = rankC; rank = rank; rest = rest; fuel = λ b p. 4 * rest p + rank b }

module _ {P B M C : Type 0} (N : Lang P B M C) (K : Kinds N) where
  pub called_ok : (q : ℕ → Bool) (b : B) → T (all_of q (K.heads b)) → T (all_of q (K.ops b)) → (k : ℕ) → Called N b k → T (q k)
  called_ok q b t u k (p, inl e) = has_all q (K.heads b) t k (K.heads_all b p k e)
  called_ok q b t u k (p, inr e) = has_all q (K.ops b) u k (K.ops_all b p k e)

  -- Sane from tests over lists; what is left is what the marks of the tables mean
  pub record Tested : Type 0 where
    pub cap_pos : T (leb 1 N.cap)
    pub name_tight : (n k : ℕ) → N.tight (N.name n k) ≡ N.tight k
    pub slack_le : (c : C) → T (leb (N.slack c) (N.bound c))
    pub heads_ok : (b : B) → T (all_of (ok_kind N) (K.heads b))
    pub ops_ok : (b : B) → T (all_of (ok_op N) (K.ops b))
    pub stands_ok : (c : C) (b d : B) (σ : P) (ks : List (Rec P)) → N.down b c σ ks ≡ some d → T (all_of (stands N c) (K.heads d)) × T (all_of (stands N c) (K.ops d))
    pub stops_ok : (m : M) (c : C) → T (N.stops m c) → (b d : B) (σ : P) (ks : List (Rec P)) (p q : P) → N.down b c σ ks ≡ some d → N.go b m σ p ≡ some q → after N d p ≤ N.slack c
    pub keeps_ok : (c : C) → T (N.keeps c) → (b d : B) (σ : P) (ks : List (Rec P)) (p : P) → N.down b c σ ks ≡ some d → after N d p ≡ after N b p

  pub sane_by : Tested → Sane N
  sane_by W = record {
    cap_pos = leb→le 1 N.cap W.cap_pos;
    name_tight = W.name_tight;
    slack_le = λ c. leb→le (N.slack c) (N.bound c) (W.slack_le c);
    pick_ok = λ b p k q. has_all (ok_kind N) (K.heads b) (W.heads_ok b) k (K.heads_all b p k q);
    op_ok = λ b p k q. has_all (ok_op N) (K.ops b) (W.ops_ok b) k (K.ops_all b p k q);
    stands_ok = λ c b d σ ks k w m. let (t, u) = W.stands_ok c b d σ ks w in called_ok (stands N c) d t u k m;
    stops_ok = W.stops_ok;
    keeps_ok = W.keeps_ok;
  }

  -- Going from tests over lists, for a pace as below; what is left is that moves go on
  pub record Paced (eats : M → Bool) (rankC : C → ℕ) (rank : B → ℕ) (rest : P → ℕ) : Type 0 where
    pub rank_low : (b : B) → rank b < 4
    pub down_rank : (b d : B) (c : C) (σ : P) (ks : List (Rec P)) → N.down b c σ ks ≡ some d → rank d ≤ rankC c
    pub go_less : (b : B) (m : M) (σ p q : P) → N.go b m σ p ≡ some q → rest q ≤ rest p
    pub go_eats : (b : B) (m : M) (σ p q : P) → T (eats m) → N.go b m σ p ≡ some q → rest q < rest p
    pub heads_ate : (b : B) → T (all_of (λ k. ate (ranked eats rankC rank rest) (rank b) (N.layout k)) (K.heads b))
    pub ops_ate : (b : B) → T (all_of (λ k. ate (ranked eats rankC rank rest) (rank b) (N.layout k)) (K.ops b))

  pub going_by : (eats : M → Bool) (rankC : C → ℕ) (rank : B → ℕ) (rest : P → ℕ) → Paced eats rankC rank rest → Going N (ranked eats rankC rank rest)
  going_by eats rankC rank rest W = record {
    go_less = W.go_less;
    go_eats = W.go_eats;
    down_rank = W.down_rank;
    fuel_left = λ b p. omega arith;
    fuel_less = λ b d p q h. omega (arith, W.rank_low d);
    fuel_rank = λ b d p q h w. omega arith;
    pick_ate = λ b p k q. has_all (λ k. ate (ranked eats rankC rank rest) (rank b) (N.layout k)) (K.heads b) (W.heads_ate b) k (K.heads_all b p k q);
    op_ate = λ b p k q. has_all (λ k. ate (ranked eats rankC rank rest) (rank b) (N.layout k)) (K.ops b) (W.ops_ate b) k (K.ops_all b p k q);
  }

-- a list of choices gives only what it lists
abbrev pub choices : List (Bool × ℕ) → List ℕ
choices [] = []
choices (x ∷ xs) = x.1 ∷ choices xs

pub choose_has : (xs : List (Bool × ℕ)) (k : ℕ) → choose xs ≡ some k → T (has (choices xs) k)
choose_has [] k e = absurd (let z : ◌≡◌ {A = ℕ} 0 1 = cc in omega arith)
choose_has (x ∷ xs) k e = go x.0 e (choose_has xs k)
  where
    go : (b : Bool) → elim b [ true ↦ some x.1 | false ↦ choose xs ] ≡ some k → (choose xs ≡ some k → T (has (choices xs) k)) → T (eqb x.1 k || has (choices xs) k)
    go true e ih = let z : x.1 ≡ k = cc in t_or (eqb x.1 k) (has (choices xs) k) (inl (subst (λ (y : ℕ). T (eqb x.1 y)) z (eqb_refl x.1)))
    go false e ih = t_or (eqb x.1 k) (has (choices xs) k) (inr (ih e))
