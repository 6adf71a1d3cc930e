-- What the checker promises.
use Rattle.std.specs.Prelude.{ℕ, ◌-◌, ◌*◌, ◌≤◌, ◌≡◌, List, Bool, true, false, length, T}
use Rattle.lexis.specs.Utf8.{Formed}
use Rattle.engine.specs.Base.{has}
use Rattle.grammar.specs.Moves.{an_expression}
use Rattle.grammar.specs.Published.{kinds_of, Holds}
use Rattle.checker.specs.Rows.{row_at}

-- `r` says whether the rule holds of a source, a table and a text: grammar's Published. By its theorems (Demands) that is so exactly when the
-- reader, lent enough room, accepts the source and returns that very table and text
pub record Checks (s table text : List ℕ) (r : Bool) : Type 0 where
  pub yes : r ≡ true → Holds s table text
  pub no : r ≡ false → Holds s table text → ⊥

-- the last of n rows can be the root
pub record Root (s table : List ℕ) (n : ℕ) : Type 0 where
  pub some : 1 ≤ n
  pub count : (row_at table (n - 1)).count ≡ n
  pub small : n ≤ 65535
  pub start : (row_at table (n - 1)).start ≡ 0
  pub end : (row_at table (n - 1)).end ≡ length s
  pub kind : T (has (kinds_of an_expression 0) (row_at table (n - 1)).kind)

pub record Rooted (s table : List ℕ) (n : ℕ) (r : Bool) : Type 0 where
  pub yes : r ≡ true → Root s table n
  pub no : r ≡ false → length table ≡ 7 * n → (text : List ℕ) → Holds s table text → ⊥

-- a source that is well formed and not too long, and n rows that can be walked over
pub record Ready (s table : List ℕ) (n : ℕ) : Type 0 where
  pub short : length s ≤ 65535
  pub formed : Formed s
  pub rows : length table ≡ 7 * n
  pub root : Root s table n

-- what the walk asks for: a place for each row too, and a slot of four numbers for its key
pub record Walking (s table : List ℕ) (n : ℕ) (m D K : List ℕ) : Type 0 where
  pub ready : Ready s table n
  pub marked : n ≤ length m
  pub deep : n ≤ length D
  pub keyed : 4 * n ≤ length K
