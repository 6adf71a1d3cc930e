-- A child that is no item, of a class of the program: what the code of it promises.
use Rattle.std.specs.Prelude.{ℕ, ◌<◌, ◌≡◌, List, Bool, true, false, length, get_or}
use Rattle.index.specs.Index.{Indexed}
use Rattle.grammar.specs.Layouts.{entry}
use Rattle.checker.specs.Rows.{row_at}
use Rattle.checker.specs.Program.{class_in}
use Rattle.checker.specs.Lay.{Passed, no_pass, PassedBy}

-- what is passed with the row j, after n keys
abbrev pub kidded : List ℕ → List ℕ → ℕ → ℕ → Bool → Passed
kidded t m j n true = record { good = true; end = (row_at t j).end; next = get_or m j 0; keys = n }
kidded t m j n false = no_pass n

-- `r` says whether the row j is a child of the class c at the place `at`, where the class is no item's; then its depth is put down
pub record ChildBy (t : List ℕ) (i : ℕ) (D D' : List ℕ) (j c left : ℕ) (lines : Bool) (at : ℕ) (r : Bool) : Type 0 where
  pub long : length D' ≡ length D
  pub inside : r ≡ true → j < i
  pub passed : (s m K : List ℕ) (n : ℕ) → ¬ (class_in c ≡ entry) → Indexed s K 0 n → PassedBy s t i m D D' K K j n c left lines at (kidded t m j n r)
