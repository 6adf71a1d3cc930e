-- The kinds that the tables call for: a test that computes, over the kinds that are listed, passes at each that is called for.
use Rattle.std.specs.Prelude.{ℕ, ◌<◌, ◌≡◌, refl, List, [], ◌∷◌, Bool, true, false, cond, ◌||◌, ◌⊎◌, eqb, ltb, T}
use Rattle.std.proofs.Common.{subst, inl, inr, arith, eqb→eq, ltb-true}
use Rattle.std.proofs.Math.Option.{none, some}
use Rattle.lexis.specs.Bytes.{byte_at}
use Rattle.lexis.specs.Trivia.{gap_to}
use Rattle.lexis.specs.Operator.{op_at}
use Rattle.lexis.specs.TokenLaws.{op_all}
use Rattle.engine.specs.Base.{choose, all_of, has}
use Rattle.engine.specs.BaseLaws.{or_t, has_all}
use Rattle.engine.specs.Finite.{choices, choose_has}
use Rattle.engine.specs.Tables.{Called}
use Rattle.grammar.specs.Moves.{Want, an_expression, a_name, an_item, a_part, a_piece, a_condition, Under, is_part}
use Rattle.grammar.specs.Hcl.{hcl, pick_at, picks, follows, grows, follow_at}

-- what may stand first under a want; the kinds that the tests choose from do not depend on the source
abbrev pub heads : Want → List ℕ
heads w = choices (picks [] false w 0)

pub pick_all : (q : ℕ → Bool) (w : Want) → T (all_of q (heads w)) → (s : List ℕ) (lines : Bool) (p k : ℕ) → choose (picks s lines w p) ≡ some k → T (q k)
pick_all q w t s lines p k e = has_all q (heads w) t k (go w e)
  where
    go : (w : Want) → choose (picks s lines w p) ≡ some k → T (has (heads w) k)
    go an_expression e = choose_has (picks s lines an_expression p) k e
    go a_name e = choose_has (picks s lines a_name p) k e
    go (an_item ks) e = choose_has (picks s lines (an_item ks) p) k e
    go a_part e = choose_has (picks s lines a_part p) k e
    go (a_piece t) e = choose_has (picks s lines (a_piece t) p) k e
    go a_condition e = choose_has (picks s lines a_condition p) k e

-- what may follow an operand: the thirteen binary operators, the conditional, the traversal
abbrev pub binaries : List ℕ
binaries = 24 ∷ 25 ∷ 26 ∷ 27 ∷ 28 ∷ 29 ∷ 30 ∷ 31 ∷ 32 ∷ 33 ∷ 34 ∷ 35 ∷ 36 ∷ []

abbrev pub followers : List ℕ
followers = 21 ∷ 37 ∷ binaries

binary_has : (s : List ℕ) (p : ℕ) → 0 < (op_at s p).kind → T (has followers (op_at s p).kind)
binary_has s p h = go (or_t (eqb (op_at s p).kind 0) (has followers (op_at s p).kind) (op_all (λ o. eqb o.kind 0 || has followers o.kind) tt s p))
  where
    go : T (eqb (op_at s p).kind 0) ⊎ T (has followers (op_at s p).kind) → T (has followers (op_at s p).kind)
    go (inl t) = absurd (omega (arith, eqb→eq (op_at s p).kind 0 t))
    go (inr t) = t

follows_has : (s : List ℕ) (p k : ℕ) → choose (follows s p) ≡ some k → T (has followers k)
follows_has s p k = go (ltb 0 (op_at s p).kind) (eqb (byte_at s p) 63) (is_part s p) refl
  where
    go : (a b c : Bool) → ltb 0 (op_at s p).kind ≡ a → choose ((a, (op_at s p).kind) ∷ (b, 21) ∷ (c, 37) ∷ []) ≡ some k → T (has followers k)
    go true b c f e = let z : (op_at s p).kind ≡ k = cc in subst (λ (x : ℕ). T (has followers x)) z (binary_has s p (ltb-true 0 (op_at s p).kind f))
    go false true c f e = let z : 21 ≡ k = cc in subst (λ (x : ℕ). T (has followers x)) z tt
    go false false true f e = let z : 37 ≡ k = cc in subst (λ (x : ℕ). T (has followers x)) z tt
    go false false false f e = absurd (let z : ◌≡◌ {A = ℕ} 0 1 = cc in omega arith)

-- and only where a want grows
pub follow_all : (q : ℕ → Bool) → T (all_of q followers) → (s : List ℕ) (b : Under) (p k : ℕ) → follow_at s b p ≡ some k → T (grows b.want) × T (q k)
unfolding follow_at
follow_all q t s b p k = go (grows b.want) (gap_to b.lines s p).unclosed
  where
    go : (g u : Bool) → cond g (cond u none (choose (follows s (gap_to b.lines s p).at))) none ≡ some k → T g × T (q k)
    go true true e = absurd (let z : ◌≡◌ {A = ℕ} 0 1 = cc in omega arith)
    go true false e = (tt, has_all q followers t k (follows_has s (gap_to b.lines s p).at k e))
    go false u e = absurd (let z : ◌≡◌ {A = ℕ} 0 1 = cc in omega arith)

-- both: what may be called for under an attribute
pub called_all : (s : List ℕ) (q : ℕ → Bool) (d : Under) → T (all_of q (heads d.want)) → (T (grows d.want) → T (all_of q followers)) → (k : ℕ) → Called (hcl s) d k → T (q k)
unfolding pick_at
called_all s q d t u k (p, inl e) = pick_all q d.want t s d.lines p k e
called_all s q d t u k (p, inr e) = (follow_all q (u (follow_all (λ k. true) tt s d p k e).0) s d p k e).1
