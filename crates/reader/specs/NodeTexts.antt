-- The texts of a reading, node by node in table order, and what the records of a table show of them.
use Rattle.std.specs.Prelude.{ℕ, ◌+◌, ◌-◌, List, [], ◌∷◌, ◌++◌, Bool, true, false, take, drop, eqb}
use Rattle.lexis.specs.String.{quoted, text_at}
use Rattle.engine.specs.Base.{Tree, Trees, node, nil, cons}
use Rattle.grammar.specs.Moves.{round}
use Rattle.grammar.specs.Table.{Record}
use Rattle.reader.specs.Node.{text_in}

-- the text of a node from b to e whose parent starts at t, by whether its kind is 6, 9 and its flag 0: with flag 0 the source itself, for 6
-- between the quotes; else its unescaped text; none for the kinds without text
abbrev pub read_as : List ℕ → ℕ → ℕ → ℕ → Bool → Bool → Bool → List ℕ
read_as s t b e true y true = take (e - b - 2) (drop (b + 1) s)
read_as s t b e true y false = (text_at quoted s (b + 1)).bytes
read_as s t b e false true true = take (e - b) (drop b s)
read_as s t b e false true false = (text_at (round s t) s b).bytes
read_as s t b e false false z = []

abbrev pub read_text : List ℕ → ℕ → ℕ → ℕ → ℕ → ℕ → List ℕ
read_text s t k φ b e = read_as s t b e (eqb k 6) (eqb k 9) (eqb φ 0)

abbrev mutual
  -- of each node of a tree, and of trees
  pub read_texts : List ℕ → ℕ → Tree ℕ → List (List ℕ)
  read_texts s t (node k φ b e ts) = read_textss s b ts ++ read_text s t k φ b e ∷ []

  pub read_textss : List ℕ → ℕ → Trees ℕ → List (List ℕ)
  read_textss s t nil = []
  read_textss s t (cons x xs) = read_texts s t x ++ read_textss s t xs

-- what the records show, with the text buffer x
abbrev pub shown : List ℕ → List ℕ → List Record → List (List ℕ)
shown s x [] = []
shown s x (r ∷ rs) = text_in s x r.kind r.flag r.from r.length ∷ shown s x rs
