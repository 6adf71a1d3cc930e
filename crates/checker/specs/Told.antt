-- What an object tells of its keys: what the code of it promises.
use Rattle.std.specs.Prelude.{ℕ, ◌<◌, ◌≡◌, List, Bool, true, ◌⊎◌, length, get_or}
use Rattle.lexis.specs.Keys.{key_to}
use Rattle.grammar.specs.Moves.{lone}
use Rattle.checker.specs.Rows.{row_at}

-- a key that stands alone starts where the row k does, and its first token ends where that does
pub record KeyHere (s t : List ℕ) (k : ℕ) : Type 0 where
  pub alone : lone s (row_at t k).start ≡ true
  pub end : (row_at t k).end ≡ key_to s (row_at t k).start

-- that is so of each row with a 0 in E
abbrev pub Told : List ℕ → List ℕ → List ℕ → Type 0
Told s t E = (k : ℕ) → get_or E k 1 ≡ 0 → KeyHere s t k

-- the same, with a place for the row i
pub record Telling (s t : List ℕ) (i : ℕ) (E : List ℕ) : Type 0 where
  pub room : i < length E
  pub key : Told s t E

-- a 0 in E' is one of E, or of a row from `at` to e, whose key stands alone
pub record Tells (t E E' : List ℕ) (at e : ℕ) (alone : Bool) : Type 0 where
  pub long : length E' ≡ length E
  pub new : (k : ℕ) → get_or E' k 1 ≡ 0 → (get_or E k 1 ≡ 0) ⊎ ((alone ≡ true) × ((row_at t k).start ≡ at) × ((row_at t k).end ≡ e))
