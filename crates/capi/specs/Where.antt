-- Where the text of a node stands, in numbers: what a caller with no slices is told.
use Rattle.std.specs.Prelude.{ℕ, zero, suc, ◌+◌, ◌*◌, List, [], cond, ◌≡◌}
use Rattle.reader.specs.Node.{number_at, node_has_text}

-- in which of the two: 0 for no text, 1 for the source, 2 for the text buffer
abbrev pub side_of : List ℕ → List ℕ → List ℕ → ℕ → ℕ
side_of s b x i = cond (node_has_text s b x i) (number_at b (i * 7 + 1) + 1) 0

-- from which byte on, and how many
abbrev pub from_of : List ℕ → List ℕ → List ℕ → ℕ → ℕ
from_of s b x i = cond (node_has_text s b x i) (number_at b (i * 7 + 5)) 0

abbrev pub length_of : List ℕ → List ℕ → List ℕ → ℕ → ℕ
length_of s b x i = cond (node_has_text s b x i) (number_at b (i * 7 + 6)) 0

-- the bytes that a side names
abbrev pub sided : List ℕ → List ℕ → ℕ → List ℕ
sided s x zero = []
sided s x (suc zero) = s
sided s x (suc (suc n)) = x

-- what the three numbers that are handed back are
pub record Stands (s b x : List ℕ) (i r a n : ℕ) : Type 0 where
  pub side : r ≡ side_of s b x i
  pub from : a ≡ from_of s b x i
  pub length : n ≡ length_of s b x i
