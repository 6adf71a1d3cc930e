-- A row that one look tells: names, attributes, keys that are known, and what is not told.
use Prim.Native.Nat.{ℕ, ◌/◌, ◌%◌, ◌≤◌}
use mathlib.Core.Path.{◌≡◌, refl, ap, subst}
use mathlib.Core.Bool.{Bool, true}
use mathlib.Core.Logic.{inl, inr}
use mathlib.Core.List.{List, []}
use native.Mathlib.Omega.{arith}
use lib.Dec.{eqb}
use Rattle.checker.specs.Rows.{row_at}
use Rattle.checker.specs.Leaf.{is_grown}
use Rattle.checker.specs.Token.{BareBy, DotBy}
use Rattle.checker.specs.Node.{NoText, SingleBy}
use Rattle.checker.proofs.Callings.{first_always, dot_first}
use Rattle.checker.proofs.Heads.{head_by, head_called}
use Rattle.checker.proofs.Nodes.{laid_as}

-- a kind behind those with literal text
pub no_text : {k n : ℕ} → k ≡ n → 10 ≤ n → NoText k
no_text e l = (λ z. omega (arith, e, l, z), λ z. omega (arith, e, l, z), λ z. omega (arith, e, l, z), λ z. omega (arith, e, l, z))

module _ {s t : List ℕ} {i : ℕ} {lines : Bool} where
  pub look_key : {b : Bool} → b ≡ true → SingleBy s t i lines (record { sure = b; yes = true }) → SingleBy s t i lines (record { sure = true; yes = true })
  look_key y h = subst (λ (x : Bool). SingleBy s t i lines (record { sure = x; yes = true })) y h

  module _ {p : ℕ} {y : Bool} (a : p ≡ (row_at t i).start) where
    pub look_name : (row_at t i).kind ≡ 17 → BareBy s t i i p y → SingleBy s t i lines (record { sure = true; yes = y })
    look_name is h = record {
      other = λ z k. omega (arith, is, k);
      rule = λ z own l text m D. head_by s t i own text m D i (ap is_grown is) (no_text is (omega arith)) refl (first_always s (row_at t i).start (eqb (own % 2) 1) (inr (inl is))) (laid_as a refl refl (h.laid m D [] (own / 2) (eqb (own % 2) 1) refl));
    }

    pub look_dot : (row_at t i).kind ≡ 38 → DotBy s t i i p y → SingleBy s t i lines (record { sure = true; yes = y })
    look_dot is h = record {
      other = λ z k. omega (arith, is, k);
      rule = λ z own l text m D. head_called s t i own text m D i (ap is_grown is) (no_text is (omega arith)) y (λ k. omega (arith, is, k)) (λ v. dot_first is a (h.called v (eqb (own % 2) 1))) (laid_as a refl refl (h.bare.laid m D [] (own / 2) (eqb (own % 2) 1) refl));
    }
