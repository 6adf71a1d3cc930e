-- A loop over children: what is left of a layout tells what is laid of the whole.
use Prim.Native.Nat.{ℕ, ◌≤◌, ◌<◌}
use mathlib.Core.Path.{◌≡◌, refl, sym, subst, ◌∙◌}
use mathlib.Core.Bool.{Bool}
use mathlib.Core.List.{List}
use native.Mathlib.Omega.{arith}
use lib.ListN.{length, get_or}
use Rattle.grammar.specs.Layouts.{Layout}
use Rattle.checker.specs.Family.{Chain}
use Rattle.checker.specs.Lay.{Direct}
use Rattle.checker.specs.Rest.{RestBy}
use Rattle.checker.proofs.Lays.{next_of}

-- from the layout l₀ at p₀ and the row j₀ to l at p and j
pub record Onward (s t : List ℕ) (i v : ℕ) (m D₀ : List ℕ) (l₀ : Layout) (j₀ p₀ : ℕ) (D : List ℕ) (l : Layout) (j p : ℕ) : Type 0 where
  pub on : (D' : List ℕ) (r : Bool) → RestBy s t i v m D D' l j p r → RestBy s t i v m D₀ D' l₀ j₀ p₀ r
  pub direct : Direct t i m D j
  pub long : length D ≡ length D₀

module _ {t : List ℕ} {i : ℕ} {m D : List ℕ} {j : ℕ} (a : Direct t i m D j) (l : j < i) where
  -- the next row
  pub direct_next : {D' : List ℕ} {n : ℕ} → length D' ≡ length D → n ≡ get_or m j 0 → Direct t i m D' n
  direct_next {D'} {n} e f =
      let y = next_of m i a.js j a.chain l in
      record { within = a.within; marked = a.marked; deep = omega (arith, a.deep, e); js = y.rest; chain = subst (Chain m i y.rest) (sym f) y.chain }

  pub direct_up : {n : ℕ} → n ≡ get_or m j 0 → (j < n) × (n ≤ i)
  direct_up e = let y = next_of m i a.js j a.chain l in (omega (arith, y.up, e), omega (arith, y.far, e))

-- one more child
pub onward_on : {s t : List ℕ} {i v : ℕ} {m D₀ : List ℕ} {l₀ : Layout} {j₀ p₀ : ℕ} {D : List ℕ} {l : Layout} {j p : ℕ} {D₁ : List ℕ} {l₁ : Layout} {n q : ℕ} → Onward s t i v m D₀ l₀ j₀ p₀ D l j p → Direct t i m D₁ n → length D₁ ≡ length D
    → ((D' : List ℕ) (r : Bool) → RestBy s t i v m D₁ D' l₁ n q r → RestBy s t i v m D D' l j p r) → Onward s t i v m D₀ l₀ j₀ p₀ D₁ l₁ n q
onward_on w a e f = record { on = λ D' r h. w.on D' r (f D' r h); direct = a; long = e ∙ w.long }

-- the one after the next row
pub direct_after : {t : List ℕ} {i : ℕ} {m D D' : List ℕ} {j n k : ℕ} → Direct t i m D j → j < i → n ≡ get_or m j 0 → n < i → length D' ≡ length D → k ≡ get_or m n 0 → Direct t i m D' k
direct_after {D = D} a l f u e g = direct_next (direct_next a l {D' = D} refl f) u e g
