-- The children of a row, found by their counts from the right, and the links between them.
use Rattle.std.specs.Prelude.{ℕ, suc, ◌+◌, ◌*◌, ◌≤◌, ◌<◌, ◌≡◌, List, [], ◌∷◌, length, get_or, Option, Some, None}
use Rattle.engine.specs.Rule.{Kids}
use Rattle.checker.specs.Rows.{row_at, rows}

-- the i-th row stands in the table, whose rows have a mark each, and can be told in 16 bits
pub record Rowed (t : List ℕ) (i : ℕ) (m : List ℕ) : Type 0 where
  pub within : 7 * i + 7 ≤ length t
  pub marked : i < length m
  pub small : i ≤ 65535

-- the rows js stand one after the other from the row j on, each marked with the next, and the last with i
abbrev pub Chain : List ℕ → ℕ → List ℕ → ℕ → Type 0
Chain m i [] j = j ≡ i
Chain m i (x ∷ xs) j = (x ≡ j) × (j < get_or m j 0) × (get_or m j 0 ≤ i) × Chain m i xs (get_or m j 0)

-- some rows do
pub record Linked (m : List ℕ) (i j : ℕ) : Type 0 where
  pub js : List ℕ
  pub chain : Chain m i js j

-- a row of a first child as a number, and i + 1 for none
abbrev pub family_from : ℕ → Option ℕ → ℕ
family_from i None = i + 1
family_from i (Some j) = j

-- `r` is the row of the first child of the row i, or i where it has none; then its children are linked. More than i: no children by their counts
pub record Family (t : List ℕ) (i : ℕ) (m m' : List ℕ) (r : ℕ) : Type 0 where
  pub long : length m' ≡ length m
  pub lo : ℕ
  pub kids : List ℕ
  pub tiles : r ≤ i → lo + (row_at t i).count ≡ suc i
  pub split : r ≤ i → Kids (rows t) lo i kids
  pub chain : r ≤ i → Chain m' i kids r
  pub low : r ≤ i → lo ≤ r
  pub no : ¬ (r ≤ i) → (lo' : ℕ) (js : List ℕ) → lo' + (row_at t i).count ≡ suc i → Kids (rows t) lo' i js → ((j : ℕ) → j < i → 1 ≤ (row_at t j).count) → ⊥
