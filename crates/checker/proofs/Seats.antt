-- What a child of a class is under: its depth in one number.
use Rattle.grammar.specs.Said.{Child}
use Prim.Native.Nat.{ℕ, ◌-◌, ◌*◌, ◌/◌, ◌%◌, ◌≤◌}
use mathlib.Core.Path.{◌≡◌, refl, sym, subst}
use mathlib.Core.Bool.{Bool, true, false}
use mathlib.Core.List.{List}
use native.Mathlib.Omega.{arith}
use lib.Dec.{eqb, T}
use Rattle.grammar.specs.Layouts.{inside, single, test, branch, called, portion, filter}
use Rattle.grammar.specs.Hcl.{under, fits}
use Rattle.grammar.specs.Published.{want_of}
use Rattle.engine.specs.Layout.{kid}
use Rattle.checker.specs.Rows.{row_at}
use Rattle.checker.specs.Leaf.{ChildAt}
use Rattle.checker.specs.Lay.{KidBy}
use Rattle.checker.specs.Rest.{StepBy}
use Rattle.checker.proofs.Directs.{own_packed}
use Rattle.checker.proofs.Rests.{step_kid}

abbrev child : ℕ → Bool → ℕ → ℕ → Child
child d l b w = record { left = d; lines = l; bound = b; want = w }

module _ (left : ℕ) (lines : Bool) where
  child_inside : ChildAt 0 left lines (child (left - 1) true 0 0)
  child_inside = record { left = λ s w σ ks. refl; lines = λ s w σ ks. refl; bound = refl; kinds = λ s w σ ks. refl; item = λ z. absurd (omega arith); plain = λ n s w σ ks x. tt; fewer = omega arith }

  child_branch : ChildAt 5 left lines (child (left - 1) lines 0 0)
  child_branch = record { left = λ s w σ ks. refl; lines = λ s w σ ks. refl; bound = refl; kinds = λ s w σ ks. refl; item = λ z. absurd (omega arith); plain = λ n s w σ ks x. tt; fewer = omega arith }

  child_single : ChildAt 1 left lines (child (left - 1) false 0 0)
  child_single = record { left = λ s w σ ks. refl; lines = λ s w σ ks. refl; bound = refl; kinds = λ s w σ ks. refl; item = λ z. absurd (omega arith); plain = λ n s w σ ks x. tt; fewer = omega arith }

  child_test : ChildAt 4 left lines (child left lines 0 0)
  child_test = record { left = λ s w σ ks. refl; lines = λ s w σ ks. refl; bound = refl; kinds = λ s w σ ks. refl; item = λ z. absurd (omega arith); plain = λ n s w σ ks x. tt; fewer = omega arith }

  child_filter : ChildAt 12 left lines (child (left - 1) true 8 3)
  child_filter = record { left = λ s w σ ks. refl; lines = λ s w σ ks. refl; bound = refl; kinds = λ s w σ ks. refl; item = λ z. absurd (omega arith); plain = λ n s w σ ks x. tt; fewer = omega arith }

  child_called : ChildAt 9 left lines (child left lines 8 1)
  child_called = record { left = λ s w σ ks. refl; lines = λ s w σ ks. refl; bound = refl; kinds = λ s w σ ks. refl; item = λ z. absurd (omega arith); plain = λ n s w σ ks x. tt; fewer = omega arith }

  child_portion : ChildAt 10 left lines (child left lines 8 2)
  child_portion = record { left = λ s w σ ks. refl; lines = λ s w σ ks. refl; bound = refl; kinds = λ s w σ ks. refl; item = λ z. absurd (omega arith); plain = λ n s w σ ks x. tt; fewer = omega arith }

module _ {s t : List ℕ} {i v : ℕ} {D D' : List ℕ} {j p : ℕ} {r : Bool} where
  -- within brackets
  pub seat_inside : {w : ℕ} → 2 ≤ v → w ≡ v / 2 * 2 - 1 → KidBy t i D D' j p 0 0 w r → StepBy s t i v D D' (λ l. kid inside l) j p r
  seat_inside h e x = step_kid 0 (child_inside (v / 2) (eqb (v % 2) 1)) (λ z. omega (arith, z)) refl tt (omega (arith, h, e)) x

  -- a part
  pub seat_portion : KidBy t i D D' j p 8 2 v r → StepBy s t i v D D' (λ l. kid portion l) j p r
  seat_portion x = step_kid 10 (child_portion (v / 2) (eqb (v % 2) 1)) (λ z. omega (arith, z)) refl tt (own_packed v) x

  -- a part of a conditional
  pub seat_branch : {w : ℕ} → 2 ≤ v → w ≡ v - 2 → (row_at t i).kind ≡ 21 → KidBy t i D D' j p 0 0 w r → StepBy s t i v D D' (λ l. kid branch l) j p r
  seat_branch h e is x = step_kid 5 (child_branch (v / 2) (eqb (v % 2) 1)) (λ z. omega (arith, z)) refl (subst (λ (k : ℕ). T (fits (under 0 true (want_of k)) branch)) (sym is) tt) (omega (arith, own_packed v, h, e)) x

  -- a name
  pub seat_called : KidBy t i D D' j p 8 1 v r → StepBy s t i v D D' (λ l. kid called l) j p r
  seat_called x = step_kid 9 (child_called (v / 2) (eqb (v % 2) 1)) (λ z. omega (arith, z)) refl tt (own_packed v) x

  -- the collection of a for
  pub seat_single : {w : ℕ} → 2 ≤ v → w ≡ v / 2 * 2 - 2 → KidBy t i D D' j p 0 0 w r → StepBy s t i v D D' (λ l. kid single l) j p r
  seat_single h e x = step_kid 1 (child_single (v / 2) (eqb (v % 2) 1)) (λ z. omega (arith, z)) refl tt (omega (arith, h, e)) x

  -- the condition of a for, and its expression
  pub seat_filter : {w : ℕ} → 2 ≤ v → w ≡ v / 2 * 2 - 1 → KidBy t i D D' j p 8 3 w r → StepBy s t i v D D' (λ l. kid filter l) j p r
  seat_filter h e x = step_kid 12 (child_filter (v / 2) (eqb (v % 2) 1)) (λ z. omega (arith, z)) refl tt (omega (arith, h, e)) x

  pub seat_test : (row_at t i).kind ≡ 20 → KidBy t i D D' j p 0 0 v r → StepBy s t i v D D' (λ l. kid test l) j p r
  seat_test is x = step_kid 4 (child_test (v / 2) (eqb (v % 2) 1)) (λ z. omega (arith, z)) refl (subst (λ (k : ℕ). T (fits (under 0 true (want_of k)) test)) (sym is) tt) (own_packed v) x
