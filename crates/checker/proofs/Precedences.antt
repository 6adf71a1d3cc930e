-- The precedence test, as numbers.
use Prim.Native.Nat.{ℕ, ◌≤◌, ◌<◌}
use mathlib.Core.Path.{◌≡◌, sym, ◌∙◌}
use mathlib.Core.Bool.{Bool, true, false}
use native.Mathlib.Omega.{arith}
use lib.Dec.{leb, ltb}
use borrow.Author.Tests.{leb-true, leb-false, ltb-true, ltb-false}
use Rattle.checker.specs.Precedence.{grouped}

pub groups_right : (n m : ℕ) {b : Bool} → b ≡ true → ltb n m ≡ grouped n m b
groups_right n m e = rw e

pub groups_left : (n m : ℕ) {b : Bool} → b ≡ false → leb n m ≡ grouped n m b
groups_left n m e = rw e

module _ (n m : ℕ) {r : Bool} where
  pub right_yes : {t : ℕ} → r ≡ grouped n m true → m ≡ t → r ≡ true → n < t
  right_yes g f e = omega (arith, ltb-true n m (sym g ∙ e))

  pub right_none : {t : ℕ} → r ≡ grouped n m true → m ≡ t → r ≡ false → n < t → ⊥
  right_none g f e l = omega (arith, ltb-false n m (sym g ∙ e))

  pub left_yes : {t h : ℕ} → r ≡ grouped n m false → n ≡ t → m ≡ h → r ≡ true → t ≤ h
  left_yes g f i e = omega (arith, leb-true n m (sym g ∙ e))

  pub left_none : {t h : ℕ} → r ≡ grouped n m false → n ≡ t → m ≡ h → r ≡ false → t ≤ h → ⊥
  left_none g f i e l = omega (arith, leb-false n m (sym g ∙ e))
