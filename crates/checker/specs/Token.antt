-- A row that its bytes alone tell, with no children: what the code of it promises.
use Rattle.std.specs.Prelude.{ℕ, List, ◌≡◌, Bool, true}
use Rattle.checker.specs.Family.{Chain}
use Rattle.checker.specs.Leaf.{FirstAt}
use Rattle.checker.specs.Lay.{LaidBy}

-- `r` says whether the layout of the row's kind goes from p over the children from the row j on, whatever it is under; no depth is put down
pub record BareBy (s t : List ℕ) (i j p : ℕ) (r : Bool) : Type 0 where
  pub laid : (m D js : List ℕ) (left : ℕ) (lines : Bool) → Chain m i js j → LaidBy s t i m D D j p left lines r

-- the same of an attribute; where it does, the bytes at p call for one
pub record DotBy (s t : List ℕ) (i j p : ℕ) (r : Bool) : Type 0 where
  pub bare : BareBy s t i j p r
  pub called : r ≡ true → (lines : Bool) → FirstAt s 38 p lines true
