-- Laws on quiet places: where no operator, no `?` and no part of a traversal begins, nothing follows an operand.
use Rattle.std.specs.Prelude.{ℕ, ◌≡◌, refl, Bool, true, false, cond, not, ◌&&◌, ◌||◌, ◌⊎◌, length, drop, eqb, ltb, T}
use Rattle.std.proofs.Common.{sym, ◌∙◌, subst, inl, inr, eqb-true}
use mathlib.Core.List.{List, [], ◌∷◌, ◌++◌}
use Rattle.std.proofs.Math.Option.{none}
use Rattle.lexis.specs.Bytes.{byte_at, begins}
use Rattle.lexis.specs.Trivia.{ends_line, starts_comment}
use Rattle.lexis.specs.Operator.{Row, no_op, operators, op_at}
use Rattle.lexis.specs.Operator as operator
use Rattle.lexis.specs.RunLaws.{clash, other, front, and_left, and_right}
use Rattle.lexis.specs.TriviaLaws.{Stops}
use Rattle.engine.specs.Base.{choose}
use Rattle.engine.specs.BaseLaws.{and_t}
use Rattle.grammar.specs.Hcl.{follows}

-- nothing follows at the front of a list
abbrev pub Still : List ℕ → Type 0
Still xs = choose (follows xs 0) ≡ none

-- a place is as quiet as the list from there on
pub still_at : (s : List ℕ) (p : ℕ) → Still (drop p s) → choose (follows s p) ≡ none
unfolding op_at
still_at s p h = rw (← front s p) h

-- ---- by the bytes that stand there

pub or-true : (a b : Bool) → (a || b) ≡ true → (a ≡ true) ⊎ (b ≡ true)
or-true true b e = inl refl
or-true false b e = inr e

begins_is : (w xs : List ℕ) → begins w xs ≡ true → xs ≡ w ++ drop (length w) xs
unfolding begins
begins_is [] xs e = refl
begins_is (b ∷ w) [] e = clash (sym e)
begins_is (b ∷ w) (x ∷ xs) e =
    let z : x ≡ b = eqb-true x b (and_left (eqb x b) (begins w xs) e) in
    let y : xs ≡ w ++ drop (length w) xs = begins_is w xs (and_right (eqb x b) (begins w xs) e) in
    cc

pub still_by : (w xs : List ℕ) → ((ys : List ℕ) → Still (w ++ ys)) → begins w xs ≡ true → Still xs
still_by w xs f e = subst Still (sym (begins_is w xs e)) (f (drop (length w) xs))

-- a line ending, a line comment, a comma, a closing brace, `=>`, `..`
pub still_line : (xs : List ℕ) → ends_line xs ≡ true → Still xs
unfolding op_at begins
still_line xs = go (begins (10 ∷ []) xs) (begins (13 ∷ 10 ∷ []) xs) refl refl
  where
    go : (a b : Bool) → begins (10 ∷ []) xs ≡ a → begins (13 ∷ 10 ∷ []) xs ≡ b → ltb 0 (cond a 1 (cond b 2 0)) ≡ true → Still xs
    go true b e f t = still_by (10 ∷ []) xs (λ ys. refl) e
    go false true e f t = still_by (13 ∷ 10 ∷ []) xs (λ ys. refl) f
    go false false e f t = clash (sym t)

pub still_comment : (xs : List ℕ) → starts_comment xs ≡ true → Still xs
unfolding op_at begins
still_comment xs = go (begins (35 ∷ []) xs) (begins (47 ∷ 47 ∷ []) xs) refl refl
  where
    go : (a b : Bool) → begins (35 ∷ []) xs ≡ a → begins (47 ∷ 47 ∷ []) xs ≡ b → (a || b) ≡ true → Still xs
    go true b e f t = still_by (35 ∷ []) xs (λ ys. refl) e
    go false true e f t = still_by (47 ∷ 47 ∷ []) xs (λ ys. refl) f
    go false false e f t = clash (sym t)

pub still_comma : (xs : List ℕ) → begins (44 ∷ []) xs ≡ true → Still xs
unfolding op_at begins
still_comma xs e = still_by (44 ∷ []) xs (λ ys. refl) e

pub still_stop : (xs : List ℕ) → Stops xs → Still xs
still_stop xs (inl e) = still_comma xs e
still_stop xs (inr (inl e)) = still_line xs e
still_stop xs (inr (inr e)) = still_comment xs e

-- `=` that is not `==`
pub still_equals : (xs : List ℕ) → begins (61 ∷ []) xs ≡ true → begins (61 ∷ 61 ∷ []) xs ≡ false → Still xs
unfolding op_at begins
still_equals [] e f = refl
still_equals (x ∷ []) e f = rw (eqb-true x 61 (and_left (eqb x 61) true e))
still_equals (x ∷ y ∷ ys) e f =
    let z : x ≡ 61 = eqb-true x 61 (and_left (eqb x 61) true e) in
    let g : (eqb y 61 && true) ≡ false = rw z at f in
    rw (z, g)

-- `=>` and `..`
pub still_two : (c d : ℕ) (xs : List ℕ) → ((eqb c 61 && eqb d 62) || (eqb c 46 && eqb d 46)) ≡ true → Still (c ∷ d ∷ xs)
unfolding op_at begins
still_two c d xs t = go (or-true (eqb c 61 && eqb d 62) (eqb c 46 && eqb d 46) t)
  where
    go : ((eqb c 61 && eqb d 62) ≡ true) ⊎ ((eqb c 46 && eqb d 46) ≡ true) → Still (c ∷ d ∷ xs)
    go (inl e) = rw (eqb-true c 61 (and_left (eqb c 61) (eqb d 62) e), eqb-true d 62 (and_right (eqb c 61) (eqb d 62) e))
    go (inr e) = rw (eqb-true c 46 (and_left (eqb c 46) (eqb d 46) e), eqb-true d 46 (and_right (eqb c 46) (eqb d 46) e))

-- ---- by a test that the first byte passes and that none of the bytes passes with which something begins that may follow

abbrev spare : (ℕ → Bool) → List ℕ → Bool
spare t [] = false
spare t (b ∷ bs) = not (t b)

abbrev spares : (ℕ → Bool) → List Row → Bool
spares t [] = true
spares t (r ∷ rs) = spare t r.bytes && spares t rs

not-false : (b : Bool) → T (not b) → b ≡ false
not-false true t = absurd t
not-false false t = refl

module _ (t : ℕ → Bool) (x : ℕ) (xs : List ℕ) (e : t x ≡ true) where
  spared : (w : List ℕ) → T (spare t w) → begins w (x ∷ xs) ≡ false
  unfolding begins
  spared [] u = absurd u
  spared (b ∷ w) u = rw (other t x b e (not-false (t b) u))

  among_none : (rs : List Row) → T (spares t rs) → operator.among rs (x ∷ xs) ≡ no_op
  among_none [] u = refl
  among_none (r ∷ rs) u =
      let (v, w) = and_t (spare t r.bytes) (spares t rs) u in
      rw (spared r.bytes v) (among_none rs w)

  pub still_first : T (spares t operators) → t 63 ≡ false → t 91 ≡ false → t 46 ≡ false → Still (x ∷ xs)
  unfolding op_at begins
  still_first u f g h = rw (among_none operators u, other t x 63 e f, other t x 91 e g, other t x 46 e h)

-- the byte at the front of a list passes a test
pub still_test : (t : ℕ → Bool) (xs : List ℕ) → t (byte_at xs 0) ≡ true → t 256 ≡ false → T (spares t operators) → t 63 ≡ false → t 91 ≡ false → t 46 ≡ false → Still xs
still_test t [] e n u f g h = clash (sym e ∙ n)
still_test t (x ∷ xs) e n u f g h = still_first t x xs e u f g h

pub still_end : Still []
unfolding op_at begins
still_end = refl
