-- Where the rule holds, the operands of the thirteen operators bind as their places ask.
use Rattle.std.specs.Prelude.{ℕ, zero, suc, ◌+◌, ◌≤◌, ◌<◌, ◌≡◌, refl, List, [], ◌∷◌, map, Bool, true, false, cond, ◌&&◌, ◌||◌, ◌⊎◌, length, get_or, leb, T}
use Rattle.std.proofs.Common.{sym, ap, ◌∙◌, subst, inl, inr, arith, leb→le, eqb→eq}
use Rattle.std.proofs.Math.Option.{Option, none, some}
use Rattle.std.proofs.Math.Dec.{eqb}
use Rattle.lexis.specs.Operator.{op_at}
use Rattle.lexis.specs.TokenLaws.{op_all}
use Rattle.engine.specs.Base.{all_of, Rec}
use Rattle.engine.specs.BaseLaws.{and_t, or_t, EqCase, same, other, eq_case}
use Rattle.engine.specs.Flat.{Row}
use Rattle.engine.specs.Layout.{named}
use Rattle.engine.specs.Rule.{Kids, Runs, rfin, rmove, rkid, ryes, rno, rrep, rend, Firm, Local, first, later}
use Rattle.engine.specs.Levels.{level_as, level_in, Graded}
use Rattle.engine.specs.LevelsLaws.{local_pair}
use Rattle.grammar.specs.Kinds.{tights, holds, tight_of, hold_of}
use Rattle.grammar.specs.Moves.{Want, an_expression, a_name, an_item, a_part, a_piece, a_condition, Under}
use Rattle.grammar.specs.Layouts.{Layout, layouts, layout_of}
use Rattle.grammar.specs.Hcl.{hcl, pick_at, bare, bounds}
use Rattle.grammar.specs.KindLaws.{heads, pick_all}
use Rattle.grammar.specs.DownLaws.{kids}
use Rattle.grammar.specs.Precedence.{thirteen, Binds}

-- none of them stands first
abbrev is_none : Option ℕ → Bool
is_none none = true
is_none (some n) = false

none_is : (o : Option ℕ) → T (is_none o) → o ≡ none
none_is none t = refl
none_is (some n) t = absurd t

first_none : (w : Want) → T (all_of (λ k. is_none (level_in thirteen k)) (heads w))
first_none an_expression = tt
first_none a_name = tt
first_none (an_item ks) = tt
first_none a_part = tt
first_none (a_piece t) = tt
first_none a_condition = tt

own_name : (k t : ℕ) → level_in thirteen (bare k) ≡ some t → bare k ≡ k
own_name k t = go (eq_case k 5)
  where
    go : {b : Bool} → EqCase k 5 b → level_in thirteen (cond b 14 k) ≡ some t → cond b 14 k ≡ k
    go (same e) q = absurd (let z : ◌≡◌ {A = ℕ} 0 1 = cc in omega arith)
    go (other e) q = refl

pub graded : (s : List ℕ) → Graded (hcl s) thirteen
unfolding layouts pick_at
graded s = record {
  tests = tt;
  not_first = λ b p k e. none_is (level_in thirteen k) (pick_all (λ k. is_none (level_in thirteen k)) b.want (first_none b.want) s b.lines p k e);
  own_name = λ n k t q. own_name k t q;
}

-- nothing holds against more than it binds
abbrev under : List ℕ → List ℕ → Bool
under [] ys = true
under (x ∷ xs) [] = false
under (x ∷ xs) (y ∷ ys) = leb x y && under xs ys

under_at : (xs ys : List ℕ) → T (under xs ys) → (k : ℕ) → get_or xs k 0 ≤ get_or ys k 0
under_at [] ys t k = omega arith
under_at (x ∷ xs) [] t k = absurd t
under_at (x ∷ xs) (y ∷ ys) t zero = leb→le x y (and_t (leb x y) (under xs ys) t).0
under_at (x ∷ xs) (y ∷ ys) t (suc k) = under_at xs ys (and_t (leb x y) (under xs ys) t).1 k

hold_tight : (k : ℕ) → hold_of k ≤ tight_of k
hold_tight k = under_at holds tights tt k

module _ (s : List ℕ) where
  -- each child that a layout has is of a class that is bound by the level
  abbrev Tight : ℕ → List (Rec ℕ) → Type 0
  Tight t [] = Unit {0}
  Tight t (r ∷ rs) = (t < tight_of r.kind) × Tight t rs

  abbrev bounded : ℕ → Layout → Bool
  bounded t l = kids (λ c. leb t (bounds c)) l

  runs_tight : {b : Under} {σ : ℕ} {ks : List (Rec ℕ)} {l : Layout} {p e φ : ℕ} {rs : List (Rec ℕ)} {bs : List (Under × ℕ)} (t : ℕ)
      → Runs (hcl s) (Firm (hcl s)) b σ ks l p e φ rs bs → T (bounded t l) → Tight t rs
  runs_tight t rfin u = tt
  runs_tight t (rmove q g x) u = runs_tight t x u
  runs_tight t (rkid {c} {l} w st y x) u = let (v, z) = and_t (leb t (bounds c)) (bounded t l) u in (omega (arith, leb→le t (bounds c) v), runs_tight t x z)
  runs_tight t (ryes {l = l} {l'} q g x) u = runs_tight t x (and_t (bounded t l) (bounded t l') u).0
  runs_tight t (rno {l = l} {l'} g x) u = runs_tight t x (and_t (bounded t l) (bounded t l') u).1
  runs_tight t (rrep {c = c} {l} q g w st y x) u = (omega (arith, leb→le t (bounds c) (and_t (leb t (bounds c)) (bounded t l) u).0), runs_tight t x u)
  runs_tight t (rend {c = c} {l} g x) u = runs_tight t x (and_t (leb t (bounds c)) (bounded t l) u).1

  -- the test, over the thirteen
  level_all : (q : ℕ × ℕ → Bool) (levels : List (ℕ × ℕ)) → T (all_of q levels) → (k t : ℕ) → level_in levels k ≡ some t → T (q (k, t))
  level_all q [] u k t e = absurd (let z : ◌≡◌ {A = ℕ} 0 1 = cc in omega arith)
  level_all q (x ∷ xs) u k t e = go (eq_case x.0 k) e (level_all q xs (and_t (q x) (all_of q xs) u).1 k t)
    where
      go : {b : Bool} → EqCase x.0 k b → level_as b x.1 (level_in xs k) ≡ some t → (level_in xs k ≡ some t → T (q (k, t))) → T (q (k, t))
      go (same f) e ih =
          let z : x.1 ≡ t = cc in
          subst (λ (y : ℕ). T (q (k, y))) z (subst (λ (y : ℕ). T (q (y, x.1))) f (and_t (q x) (all_of q xs) u).0)
      go (other f) e ih = ih e

  bound_ok : (k t : ℕ) → level_in thirteen k ≡ some t → T (eqb (tight_of k) t && bounded t (layout_of k))
  unfolding layouts
  bound_ok k t e = level_all (λ x. eqb (tight_of x.0) x.1 && bounded x.1 (layout_of x.0)) thirteen tt k t e

  named_own : (n k t : ℕ) → level_in thirteen (named (hcl s) n k) ≡ some t → named (hcl s) n k ≡ k
  named_own zero k t e = refl
  named_own (suc n) k t e = own_name k t e

  local_binds : {a : Under × ℕ} {r : Rec ℕ} {rs : List (Rec ℕ)} {bs : List (Under × ℕ)} (t : ℕ) (x y : Rec ℕ) → Local (hcl s) a r rs bs → level_in thirteen r.kind ≡ some t → rs ≡ x ∷ y ∷ []
      → (t ≤ tight_of x.kind) × (t < tight_of y.kind)
  local_binds {r = r} t x y (first {b} {n} k i p z) q e =
      let o : level_in thirteen k ≡ some t = ap (level_in thirteen) (sym (named_own n k t (ap (level_in thirteen) i ∙ q)) ∙ i) ∙ q in
      absurd (let w = (graded s).not_first b r.start k p in let v : ◌≡◌ {A = ℕ} 0 1 = cc in omega arith)
  local_binds {r = r} t x y (later {b} {n} {l = l} {rs} k i st p h z) q e =
      let o : level_in thirteen k ≡ some t = ap (level_in thirteen) (sym (named_own n k t (ap (level_in thirteen) i ∙ q)) ∙ i) ∙ q in
      let (u, v) = and_t (eqb (tight_of k) t) (bounded t (layout_of k)) (bound_ok k t o) in
      let w : tight_of k ≡ t = eqb→eq (tight_of k) t u in
      let lx : l ≡ x = cc in
      let ry : rs ≡ y ∷ [] = cc in
      (rw (← lx) (omega (arith, hold_tight l.kind)), (subst (Tight t) ry (runs_tight t z v)).0)

  pub pair_binds : (f : ℕ → Row ℕ) (att : ℕ → Under × ℕ) (i lo t : ℕ) (js : List ℕ) → lo + (f i).count ≡ suc i → Kids f lo i js
      → Local (hcl s) (att i) (f i).rec (map (λ j. (f j).rec) js) (map att js) → level_in thirteen (f i).rec.kind ≡ some t → Binds f i t
  pair_binds f att i lo t [] w k x q = absurd (omega (arith, ap length (local_pair (hcl s) thirteen (graded s) t x q).are))
  pair_binds f att i lo t (j ∷ []) w k x q = absurd (omega (arith, ap length (local_pair (hcl s) thirteen (graded s) t x q).are))
  pair_binds f att i lo t (l ∷ r ∷ []) w k x q =
      let (u, v) = local_binds t (f l).rec (f r).rec x q refl in
      record { lo = lo; left = l; right = r; tiles = w; split = k; as_tight = u; tighter = v }
  pair_binds f att i lo t (j ∷ l ∷ r ∷ js) w k x q = absurd (omega (arith, ap length (local_pair (hcl s) thirteen (graded s) t x q).are))

-- the levels that the bytes of an operator have are these levels
pub level_is : (s : List ℕ) (p : ℕ) → 0 < (op_at s p).kind → tight_of (op_at s p).kind ≡ suc (op_at s p).level
level_is s p h = go (or_t (eqb (op_at s p).kind 0) (eqb (tight_of (op_at s p).kind) (suc (op_at s p).level)) (op_all (λ o. eqb o.kind 0 || eqb (tight_of o.kind) (suc o.level)) tt s p))
  where
    go : T (eqb (op_at s p).kind 0) ⊎ T (eqb (tight_of (op_at s p).kind) (suc (op_at s p).level)) → tight_of (op_at s p).kind ≡ suc (op_at s p).level
    go (inl t) = absurd (omega (arith, eqb→eq (op_at s p).kind 0 t))
    go (inr t) = eqb→eq (tight_of (op_at s p).kind) (suc (op_at s p).level) t
