-- Laws on tables: two tests that agree on every number below a bound, which is computed, agree on each.
use Prim.Native.Nat.{ℕ, zero, suc, ◌<◌}
use mathlib.Core.Path.{◌≡◌, refl, sym, subst}
use mathlib.Core.List.{List, [], ◌∷◌}
use mathlib.Core.Bool.{Bool, true, false, not, ◌&&◌}
use native.Mathlib.Omega.{arith}
use lib.Dec.{T, eqb, leb, leb→le}
use borrow.Author.Tests.{ne_eqb, eqb-true, eqb-false}
use Rattle.engine.specs.Base.{all_of, has}
use Rattle.engine.specs.BaseLaws.{and_t}

-- two answers are the same
abbrev pub alike : Bool → Bool → Bool
alike true b = b
alike false b = not b

alike_is : (a b : Bool) → T (alike a b) → a ≡ b
alike_is true true t = refl
alike_is true false t = absurd t
alike_is false true t = absurd t
alike_is false false t = refl

-- two tests agree below n
abbrev pub agree : (ℕ → Bool) → (ℕ → Bool) → ℕ → Bool
agree f g zero = true
agree f g (suc n) = alike (f n) (g n) && agree f g n

pub agreed : (f g : ℕ → Bool) (n : ℕ) → T (agree f g n) → (k : ℕ) → k < n → f k ≡ g k
agreed f g zero t k h = absurd (omega arith)
agreed f g (suc n) t k h = go (eqb k n) refl (and_t (alike (f n) (g n)) (agree f g n) t) (agreed f g n)
  where
    go : (b : Bool) → eqb k n ≡ b → T (alike (f n) (g n)) × T (agree f g n) → (T (agree f g n) → (j : ℕ) → j < n → f j ≡ g j) → f k ≡ g k
    go true e u ih = subst (λ (j : ℕ). f j ≡ g j) (sym (eqb-true k n e)) (alike_is (f n) (g n) u.0)
    go false e u ih = ih u.1 k (omega (arith, eqb-false k n e))

-- a number past all that are listed is not listed
pub unlisted : (xs : List ℕ) (n k : ℕ) → T (all_of (λ x. leb x n) xs) → n < k → has xs k ≡ false
unlisted [] n k t h = refl
unlisted (x ∷ xs) n k t h =
    let u = and_t (leb x n) (all_of (λ y. leb y n) xs) t in
    rw (ne_eqb x k (λ e. omega (arith, leb→le x n u.0)), unlisted xs n k u.1 h)
