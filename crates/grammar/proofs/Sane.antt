-- HCL's tables are sane (the engine's Tables).
use Rattle.std.specs.Prelude.{ℕ, suc, ◌≤◌, min, ◌≡◌, refl, List, Bool, true, cond, ◌||◌, ◌⊎◌, leb, T}
use Rattle.std.proofs.Common.{sym, subst, inl, inr, arith, leb→le, le→leb}
use Rattle.std.proofs.Math.Option.{Option, none, some}
use Rattle.lexis.specs.Bytes.{begins}
use Rattle.engine.specs.Base.{Rec, all_of}
use Rattle.engine.specs.BaseLaws.{or_t, LeCase, low, high, le_case, EqCase, same, other, eq_case}
use Rattle.engine.specs.Layout.{after, level}
use Rattle.engine.specs.Tables.{ok_kind, ok_op, stands as standing, Called, Sane}
use Rattle.grammar.specs.Kinds.{tight_of, hold_of}
use Rattle.grammar.specs.Moves.{Want, an_expression, a_name, an_item, a_part, a_piece, a_condition, Under, place, Move, walk}
use Rattle.grammar.specs.Layouts.{Class, inside, single, key, value, test, branch, term, right, entry, called, portion, piecewise, filter, layouts}
use Rattle.grammar.specs.Hcl.{hcl, pick_at, follow_at, downs, fits, bounds, slacks, bare, stilled, keeping}
use Rattle.grammar.specs.KindLaws.{heads, pick_all, followers, follow_all, called_all}
use Rattle.grammar.specs.QuietLaws.{stilled_after}
use Rattle.grammar.specs.Going.{place_to, down_is}

module _ (s : List ℕ) where
  -- ---- where a move stops a child, nothing tighter than its slack follows

  -- no operator is tighter than a traversal
  after_most : (b : Under) (p : ℕ) → after (hcl s) b p ≤ 8
  after_most b p = go (follow_at s b p) refl
    where
      go : (o : Option ℕ) → follow_at s b p ≡ o → level (hcl s) o ≤ 8
      go none e = omega arith
      go (some k) e = leb→le (tight_of k) 8 (follow_all (λ k. leb (tight_of k) 8) tt s b p k e).1

  stops_ok : (m : Move) (c : Class) → T (leb 8 (slacks c) || stilled m c) → (b d : Under) (σ : ℕ) (ks : List (Rec ℕ)) (p q : ℕ)
      → cond (fits b c) (some (downs s b c σ ks)) none ≡ some d → place (walk s b σ m p) ≡ some q → after (hcl s) d p ≤ slacks c
  stops_ok m c t b d σ ks p q w e = subst (λ (x : Under). after (hcl s) x p ≤ slacks c) (down_is s b d c σ ks w).1 (go (or_t (leb 8 (slacks c)) (stilled m c) t))
    where
      go : T (leb 8 (slacks c)) ⊎ T (stilled m c) → after (hcl s) (downs s b c σ ks) p ≤ slacks c
      go (inl u) = omega (arith, leb→le 8 (slacks c) u, after_most (downs s b c σ ks) p)
      go (inr u) = omega (arith, stilled_after s m c u b σ ks p q (place_to q e))

  -- ---- a child that ends its node sees what its node sees

  keeps_as : (c : Class) → T (keeping c) → (b : Under) (σ : ℕ) (ks : List (Rec ℕ)) (p : ℕ) → fits b c ≡ true → after (hcl s) (downs s b c σ ks) p ≡ after (hcl s) b p
  unfolding follow_at
  keeps_as inside t b σ ks p f = absurd t
  keeps_as single t b σ ks p f = absurd t
  keeps_as key t b σ ks p f = absurd t
  keeps_as value t b σ ks p f = rw f
  keeps_as test t b σ ks p f = rw f
  keeps_as branch t b σ ks p f = rw f
  keeps_as term t b σ ks p f = rw f
  keeps_as (right n) t b σ ks p f = rw f
  keeps_as entry t b σ ks p f = absurd t
  keeps_as called t b σ ks p f = absurd t
  keeps_as portion t b σ ks p f = absurd t
  keeps_as piecewise t b σ ks p f = absurd t
  keeps_as filter t b σ ks p f = absurd t

  keeps_ok : (c : Class) → T (keeping c) → (b d : Under) (σ : ℕ) (ks : List (Rec ℕ)) (p : ℕ)
      → cond (fits b c) (some (downs s b c σ ks)) none ≡ some d → after (hcl s) d p ≡ after (hcl s) b p
  keeps_ok c t b d σ ks p w =
      let (f, z) = down_is s b d c σ ks w in
      subst (λ (x : Under). after (hcl s) x p ≡ after (hcl s) b p) z (keeps_as c t b σ ks p f)

  -- ---- the kinds that may stand where a class is asked for

  -- right of an operator: what is tight enough holds against its level, or is no tighter than it
  right_stands : (n k : ℕ) → T (leb (tight_of k) (suc (hold_of k)) || leb 7 (hold_of k)) → T (standing (hcl s) (right n) k)
  right_stands n k t = go (or_t (leb (tight_of k) (suc (hold_of k))) (leb 7 (hold_of k)) t) (le_case (tight_of k) n)
    where
      go : {b : Bool} → T (leb (tight_of k) (suc (hold_of k))) ⊎ T (leb 7 (hold_of k)) → LeCase (tight_of k) n b → T (b || leb (min n 7) (hold_of k))
      go x (low h) = tt
      go (inl u) (high h) = le→leb (min n 7) (hold_of k) (omega (arith, leb→le (tight_of k) (suc (hold_of k)) u))
      go (inr u) (high h) = le→leb (min n 7) (hold_of k) (omega (arith, leb→le 7 (hold_of k) u))

  stands_as : (c : Class) (b : Under) (σ : ℕ) (ks : List (Rec ℕ)) (k : ℕ) → Called (hcl s) (downs s b c σ ks) k → T (standing (hcl s) c k)
  stands_as inside b σ ks = called_all s (standing (hcl s) inside) (downs s b inside σ ks) tt (λ t. tt)
  stands_as single b σ ks = called_all s (standing (hcl s) single) (downs s b single σ ks) tt (λ t. tt)
  stands_as key b σ ks = called_all s (standing (hcl s) key) (downs s b key σ ks) tt (λ t. tt)
  stands_as value b σ ks = called_all s (standing (hcl s) value) (downs s b value σ ks) tt (λ t. tt)
  stands_as test b σ ks = called_all s (standing (hcl s) test) (downs s b test σ ks) tt (λ t. tt)
  stands_as branch b σ ks = called_all s (standing (hcl s) branch) (downs s b branch σ ks) tt (λ t. tt)
  stands_as term b σ ks = called_all s (standing (hcl s) term) (downs s b term σ ks) tt (λ t. tt)
  stands_as (right n) b σ ks = λ k x. right_stands n k (called_all s (λ k. leb (tight_of k) (suc (hold_of k)) || leb 7 (hold_of k)) (downs s b (right n) σ ks) tt (λ t. tt) k x)
  stands_as entry b σ ks = called_all s (standing (hcl s) entry) (downs s b entry σ ks) tt (λ t. tt)
  stands_as called b σ ks = called_all s (standing (hcl s) called) (downs s b called σ ks) tt (λ t. absurd t)
  stands_as portion b σ ks = called_all s (standing (hcl s) portion) (downs s b portion σ ks) tt (λ t. absurd t)
  stands_as piecewise b σ ks = called_all s (standing (hcl s) piecewise) (downs s b piecewise σ ks) tt (λ t. absurd t)
  stands_as filter b σ ks = called_all s (standing (hcl s) filter) (downs s b filter σ ks) tt (λ t. tt)

  -- ---- names, slacks, and the tests of the kinds

  name_tight : (k : ℕ) → tight_of (bare k) ≡ tight_of k
  name_tight k = go (eq_case k 5)
    where
      go : {b : Bool} → EqCase k 5 b → tight_of (cond b 14 k) ≡ tight_of k
      go (same e) = rw e
      go (other n) = refl

  slack_le : (c : Class) → slacks c ≤ bounds c
  slack_le inside = omega arith
  slack_le single = omega arith
  slack_le key = omega arith
  slack_le value = omega arith
  slack_le test = omega arith
  slack_le branch = omega arith
  slack_le term = omega arith
  slack_le (right n) = omega arith
  slack_le entry = omega arith
  slack_le called = omega arith
  slack_le portion = omega arith
  slack_le piecewise = omega arith
  slack_le filter = omega arith

  heads_ok : (w : Want) → T (all_of (ok_kind (hcl s)) (heads w))
  unfolding layouts begins
  heads_ok an_expression = tt
  heads_ok a_name = tt
  heads_ok (an_item ks) = tt
  heads_ok a_part = tt
  heads_ok (a_piece t) = tt
  heads_ok a_condition = tt

  followers_ok : T (all_of (ok_op (hcl s)) followers)
  unfolding layouts begins
  followers_ok = tt

  pub sane : Sane (hcl s)
  unfolding pick_at
  sane = record {
    cap_pos = omega arith;
    name_tight = λ n k. name_tight k;
    slack_le = slack_le;
    pick_ok = λ b p k. pick_all (ok_kind (hcl s)) b.want (heads_ok b.want) s b.lines p k;
    op_ok = λ b p k e. (follow_all (ok_op (hcl s)) followers_ok s b p k e).1;
    stands_ok = λ c b d σ ks k w x. stands_as c b σ ks k (subst (λ (y : Under). Called (hcl s) y k) (sym (down_is s b d c σ ks w).1) x);
    stops_ok = stops_ok;
    keeps_ok = keeps_ok;
  }
