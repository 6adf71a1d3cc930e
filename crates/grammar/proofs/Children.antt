-- What a child is under, class by class.
use Prim.Native.Nat.{ℕ, ◌-◌, ◌%◌, ◌≤◌}
use mathlib.Core.Path.{◌≡◌, refl, sym, ap}
use mathlib.Core.Bool.{Bool, true, false, ◌||◌}
use native.Mathlib.Omega.{arith}
use lib.Dec.{T, eqb, leb, leb→le}
use borrow.Author.Tests.{ne_eqb}
use Rattle.engine.specs.Base.{has}
use Rattle.grammar.specs.Moves.{an_expression, a_condition}
use Rattle.grammar.specs.Layouts.{right}
use Rattle.grammar.specs.Hcl.{under}
use Rattle.grammar.specs.Code.{class_of}
use Rattle.grammar.specs.Said.{classes, Child, ChildOf}
use Rattle.grammar.specs.PickLaws.{listed}

abbrev child : ℕ → Bool → ℕ → ℕ → Child
child d l b w = record { left = d; lines = l; bound = b; want = w }

module _ (left : ℕ) (lines : Bool) {c : ℕ} where
  at : (k : ℕ) {r : Child} → c ≡ k → ChildOf k left lines r → ChildOf c left lines r
  at k e h = rw e h

  -- a level deeper
  module _ {d : ℕ} (less : d ≡ left - 1) where
    pub inside : c ≡ 0 → ChildOf c left lines (child d true 0 0)
    inside e = at 0 e (record { down = λ s w σ ks. ap (λ (n : ℕ). under n true an_expression) (sym less); bound = refl; plain = refl; fewer = omega arith; small = λ t. omega arith; loose = λ t z. omega arith; known = omega arith })

    pub single : c ≡ 1 → ChildOf c left lines (child d false 0 0)
    single e = at 1 e (record { down = λ s w σ ks. ap (λ (n : ℕ). under n false an_expression) (sym less); bound = refl; plain = refl; fewer = omega arith; small = λ t. omega arith; loose = λ t z. omega arith; known = omega arith })

    pub branch : c ≡ 5 → ChildOf c left lines (child d lines 0 0)
    branch e = at 5 e (record { down = λ s w σ ks. ap (λ (n : ℕ). under n lines an_expression) (sym less); bound = refl; plain = refl; fewer = omega arith; small = λ t. omega arith; loose = λ t z. omega arith; known = omega arith })

    pub filter : c ≡ 12 → ChildOf c left lines (child d true 8 3)
    filter e = at 12 e (record { down = λ s w σ ks. ap (λ (n : ℕ). under n true a_condition) (sym less); bound = refl; plain = refl; fewer = omega arith; small = λ t. omega arith; loose = λ t z. omega arith; known = omega arith })

  -- on the node's own level
  pub test : c ≡ 4 → ChildOf c left lines (child left lines 0 0)
  test e = at 4 e (record { down = λ s w σ ks. refl; bound = refl; plain = refl; fewer = omega arith; small = λ t. omega arith; loose = λ t z. omega arith; known = omega arith })

  pub called : c ≡ 9 → ChildOf c left lines (child left lines 8 1)
  called e = at 9 e (record { down = λ s w σ ks. refl; bound = refl; plain = refl; fewer = omega arith; small = λ t. omega arith; loose = λ t z. omega arith; known = omega arith })

  pub portion : c ≡ 10 → ChildOf c left lines (child left lines 8 2)
  portion e = at 10 e (record { down = λ s w σ ks. refl; bound = refl; plain = refl; fewer = omega arith; small = λ t. omega arith; loose = λ t z. omega arith; known = omega arith })

-- a right operand is what is none of these
module _ (c : ℕ) (n0 : c ≡ 0 → ⊥) (n1 : c ≡ 1 → ⊥) (n4 : c ≡ 4 → ⊥) (n5 : c ≡ 5 → ⊥) (n9 : c ≡ 9 → ⊥) (n10 : c ≡ 10 → ⊥) (n12 : c ≡ 12 → ⊥) where
  is_right : class_of c ≡ right (c % 16)
  is_right = rw (ne_eqb c 0 n0, ne_eqb c 1 n1, ne_eqb c 4 n4, ne_eqb c 5 n5, ne_eqb c 9 n9, ne_eqb c 10 n10, ne_eqb c 12 n12)

  abbrev others : ℕ → Bool
  others k = eqb k 0 || eqb k 1 || eqb k 4 || eqb k 5 || eqb k 9 || eqb k 10 || eqb k 12

  low : T (has classes c) → c % 16 ≤ 7
  low t =
      let h : T (others c || leb (c % 16) 7) = listed (λ k. others k || leb (k % 16) 7) classes tt c t in
      leb→le (c % 16) 7 (rw (ne_eqb c 0 n0, ne_eqb c 1 n1, ne_eqb c 4 n4, ne_eqb c 5 n5, ne_eqb c 9 n9, ne_eqb c 10 n10, ne_eqb c 12 n12) at h)

  pub operand : (left : ℕ) (lines : Bool) → ChildOf c left lines (child left lines (c % 16) 0)
  operand left lines = record {
    down = λ s w σ ks. rw is_right;
    bound = rw is_right;
    plain = rw is_right;
    fewer = omega arith;
    small = λ t. omega (arith, low t);
    loose = λ t z. low t;
    known = omega arith;
  }
