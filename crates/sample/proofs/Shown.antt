-- What the engine proves, at this language.
use Rattle.std.specs.Prelude.{◌≡◌, refl, Bool, true, false, not, ◌||◌, ◌⊎◌, ◌↔◌, List, ◌∷◌, [], ℕ, zero, suc, ◌<◌, eqb, T, length, get_or}
use Rattle.std.proofs.Common.{ap, sym, ◌∙◌, subst, inl, inr, arith, eqb→eq}
use Rattle.std.proofs.Math.Option.{none, some}
use Rattle.engine.specs.Flat.{Row, row_in}
use Rattle.engine.specs.Source.{reading, Holds, blank}
use Rattle.sample.specs.Lang.{source, levels, heads, operators, byte_at, skip, Att, gap, tok, digits, letter, sep, fresh, Move, moves, Child, inside, operand, addend, factor, entry, value, downs, is_fresh, sample, layouts}
use Rattle.engine.specs.Base.{ok, stuck, Rec, given, has, all_of, choose}
use Rattle.engine.specs.Layout.{bad, named}
use Rattle.engine.specs.Theorem.{agree, only_one, answered, precedence, agree_posted}
use Rattle.sample.specs.Table.{row}
use Rattle.engine.specs.Levels.{level_in, Operands}
use Rattle.engine.specs.BaseLaws.{choose_elim, or_t}
use Rattle.engine.specs.Finite.{choose_has, called_ok}
use Rattle.sample.specs.Posts.{looks, handed}
use Rattle.engine.specs.Handed.{Pure, free, sober, meets, Blind, Posts}
use Rattle.engine.specs.Tables.{Called}
use Rattle.engine.specs.HandedLaws.{Tests-in, own_untested, untested_own}
use Rattle.sample.proofs.Facts.{kinds, heads_of, checked}

-- ---- the theorem, uniqueness, an answer to every source

pub theorem : (s : List ℕ) (rows : List (Row ℕ)) → Holds (source s) rows ↔ (reading (source s) ≡ ok rows)
theorem s = agree (source s) (checked s)

pub at_most_one : (s : List ℕ) (rows rows' : List (Row ℕ)) → Holds (source s) rows → Holds (source s) rows' → rows ≡ rows'
at_most_one s = only_one (source s) (checked s)

pub always : (s : List ℕ) → ¬ (reading (source s) ≡ stuck)
always s = answered (source s) (checked s)

-- 1+2*3 has a table at which the rule holds; so what is said of such tables is not said of nothing
pub is_met : Holds (source (49 ∷ 43 ∷ 50 ∷ 42 ∷ 51 ∷ [])) (row 1 0 0 1 1 ∷ row 1 0 2 3 1 ∷ row 1 0 4 5 1 ∷ row 4 0 2 5 3 ∷ row 3 0 0 5 5 ∷ [])
is_met = (theorem (49 ∷ 43 ∷ 50 ∷ 42 ∷ 51 ∷ []) _).1 refl

-- and grouped the other way it does not hold
pub is_not : ¬ Holds (source (49 ∷ 43 ∷ 50 ∷ 42 ∷ 51 ∷ [])) (row 1 0 0 1 1 ∷ row 1 0 2 3 1 ∷ row 3 0 0 3 3 ∷ row 1 0 4 5 1 ∷ row 4 0 0 5 5 ∷ [])
is_not h =
    let q = at_most_one (49 ∷ 43 ∷ 50 ∷ 42 ∷ 51 ∷ []) _ _ is_met h in
    let z : ◌≡◌ {A = ℕ} 1 3 = ap (λ (rows : List (Row ℕ)). (get_or rows 2 (row 0 0 0 0 0)).rec.kind) q in
    absurd (omega arith)

-- ---- precedence

name_own : (n k t : ℕ) → level_in levels k ≡ some t → k ≡ k
name_own n k t q = refl

-- no operator stands first: computed over the kinds that may
not_first : (t : Bool) (c k : ℕ) → choose (heads t c) ≡ some k → level_in levels k ≡ none
not_first false c k q = choose_elim (λ k. level_in levels k ≡ none) (heads false c) (refl, (refl, (refl, (refl, (refl, tt))))) k q
not_first true c k q = choose_elim (λ k. level_in levels k ≡ none) (heads true c) (refl, tt) k q

pub grouped : (s : List ℕ) (rows : List (Row ℕ)) → Holds (source s) rows → (i t : ℕ) → i < length rows → level_in levels (row_in (blank (source s)) rows i).rec.kind ≡ some t
    → Operands levels (row_in (blank (source s)) rows) i t
grouped s = precedence (source s) levels (record { tests = tt; not_first = λ b p k q. not_first b.0.entry (byte_at s p) k q; own_name = name_own })

-- as of the sum in 1+2*3, whose right operand is the product
pub is_grouped : Operands levels (row_in (blank (source (49 ∷ 43 ∷ 50 ∷ 42 ∷ 51 ∷ []))) (row 1 0 0 1 1 ∷ row 1 0 2 3 1 ∷ row 1 0 4 5 1 ∷ row 4 0 2 5 3 ∷ row 3 0 0 5 5 ∷ [])) 4 1
is_grouped = grouped (49 ∷ 43 ∷ 50 ∷ 42 ∷ 51 ∷ []) _ is_met 4 1 (omega arith) refl

-- ---- the published rule, with the test of equal letters at the record

module _ (s : List ℕ) where
  go_blind : (b : Att) (x y : List ℕ) (m : Move) (σ p : ℕ) → T (not (looks m)) → moves s (b, x) m σ p ≡ moves s (b, y) m σ p
  go_blind b x y (gap g) σ p t = refl
  go_blind b x y (tok g c) σ p t = refl
  go_blind b x y digits σ p t = refl
  go_blind b x y letter σ p t = refl
  go_blind b x y (sep c) σ p t = refl
  go_blind b x y fresh σ p t = absurd t

  go_tests : (b : Att) (x : List ℕ) (m : Move) (σ p : ℕ) → T (looks m) → moves s (b, x) m σ p ≡ given (is_fresh s x σ) (some p)
  go_tests b x (gap g) σ p t = absurd t
  go_tests b x (tok g c) σ p t = absurd t
  go_tests b x digits σ p t = absurd t
  go_tests b x letter σ p t = absurd t
  go_tests b x (sep c) σ p t = absurd t
  go_tests b x fresh σ p t = refl

  down_blind : (b : Att) (x y : List ℕ) (c : Child) (σ : ℕ) (ks : List (Rec ℕ)) → downs (b, x) c σ ks ≡ downs (b, y) c σ ks
  down_blind b x y inside σ ks = refl
  down_blind b x y operand σ ks = refl
  down_blind b x y addend σ ks = refl
  down_blind b x y factor σ ks = refl
  down_blind b x y entry σ ks = refl
  down_blind b x y value σ ks = refl

  pure : Pure (sample s) looks (is_fresh s)
  pure = record { tests = go_tests; others = go_blind; picks = λ b x y p. refl; downs = down_blind }

  named_is : (n k : ℕ) → named (sample s) n k ≡ k
  named_is zero k = refl
  named_is (suc n) k = refl

  free_heads : (t : Bool) → T (all_of (λ k. has (8 ∷ []) k || free (sample s) (handed s) (get_or layouts k bad)) (heads_of s t))
  free_heads false = tt
  free_heads true = tt

  free_ok : (a : Att × List ℕ) (n k : ℕ) → Called (sample s) a k → T (has (8 ∷ []) (named (sample s) n k) || free (sample s) (handed s) (get_or layouts k bad))
  free_ok a n k c =
      subst (λ (j : ℕ). T (has (8 ∷ []) j || free (sample s) (handed s) (get_or layouts k bad))) (sym (named_is n k))
      (called_ok (sample s) (kinds s) (λ k. has (8 ∷ []) k || free (sample s) (handed s) (get_or layouts k bad)) a (free_heads a.0.entry) tt k c)

  -- the kind of an entry
  eight : (k : ℕ) → T (has (8 ∷ []) k) → 8 ≡ k
  eight k t = go (or_t (eqb 8 k) false t)
    where
      go : T (eqb 8 k) ⊎ T false → 8 ≡ k
      go (inl u) = eqb→eq 8 k u
      go (inr u) = absurd u

  is_eight : (n j k : ℕ) → T (has (8 ∷ []) k) → named (sample s) n j ≡ k → 8 ≡ j
  is_eight n j k t q = eight k t ∙ sym q ∙ named_is n j

  no_op_lem : (b : Att × List ℕ) (p : ℕ) → ¬ (choose (operators (byte_at s (skip b.0.lines s p))) ≡ some 8)
  no_op_lem b p q = choose_has (operators (byte_at s (skip b.0.lines s p))) 8 q

  entries : (a : Att × List ℕ) (n k : ℕ) → T (has (8 ∷ []) k) → Tests-in (sample s) looks (is_fresh s) pure a n k
  entries a n k t = record {
    no_op_lem = λ j q p e. no_op_lem a p (e ∙ ap some (sym (is_eight n j k t q)));
    is_sober = λ j q. subst (λ (i : ℕ). T (sober (sample s) looks (get_or layouts i bad))) (is_eight n j k t q) tt;
    is_met = λ j q. subst (λ (i : ℕ). T (meets (sample s) looks (get_or layouts i bad))) (is_eight n j k t q) tt;
  }

  blind : Blind (sample s) (handed s)
  blind = record {
    pick_blind = λ b x y p. refl;
    op_blind = λ b x y p. refl;
    go_blind = go_blind;
    down_blind = down_blind;
    free_ok = free_ok;
    left_ok = tt;
    own_to = λ a r rs bs t x ts. own_untested (sample s) looks (is_fresh s) pure a r rs bs [] (entries a.0 a.1 r.kind t) x ts;
    own_from = λ a r rs ds t f u. untested_own (sample s) looks (is_fresh s) pure a r rs ds [] (entries (a.0.0, []) a.1 r.kind t) f u;
  }

  -- what is published is met exactly by what is read
  pub published : (rows : List (Row ℕ)) → Posts (source s) (handed s) rows ↔ (reading (source s) ≡ ok rows)
  published = agree_posted (source s) (checked s) (handed s) blind (λ r rs ds t x. tt)
