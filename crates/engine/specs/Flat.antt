-- Trees as tables: the nodes with the children first, each with the number of nodes of its subtree.
use Rattle.std.proofs.Math.Option.{Option, none, some}
use Rattle.std.specs.Prelude.{List, [], ◌∷◌, ◌++◌, ℕ, zero, suc, ◌-◌, leb, get_or}
use Rattle.engine.specs.Base.{Rec, Tree, node, Trees, nil, cons, size, sizes, via, given}

pub record Row (P : Type 0) : Type 0 where
  pub rec : Rec P
  -- the nodes of its subtree, itself included
  pub count : ℕ

-- the table of a tree: its children's tables one after the other, then its own row
abbrev mutual
  pub flat : {P : Type 0} → Tree P → List (Row P)
  flat (node k φ s e ts) = flats ts ++ record { rec = record { kind = k; flag = φ; start = s; end = e }; count = suc (sizes ts) } ∷ []

  pub flats : {P : Type 0} → Trees P → List (Row P)
  flats nil = []
  flats (cons t ts) = flat t ++ flats ts

-- the row at an index; d after the end
abbrev pub row_in : {P : Type 0} → Row P → List (Row P) → ℕ → Row P
row_in d xs i = get_or xs i d

-- ---- and back: a table from anyone, grown row by row; the trees so far stand in a pile, the nearest on top

-- trees from the top of the pile, of so many nodes in all, put before those taken already; and what is left of the pile
abbrev pub take_trees : {P : Type 0} → Trees P → ℕ → Trees P → Option (Trees P × Trees P)
take_trees nil zero us = some (us, nil)
take_trees nil (suc n) us = none
take_trees (cons t ts) zero us = some (us, cons t ts)
take_trees (cons t ts) (suc n) us = given (leb (size t) (suc n)) (take_trees ts (suc n - size t) (cons t us))

-- a row takes as many nodes as its count says, less itself
abbrev pub plant : {P : Type 0} → Rec P → Option (Trees P × Trees P) → Option (Trees P)
plant r none = none
plant r (some x) = some (cons (node r.kind r.flag r.start r.end x.0) x.1)

abbrev pub grow_row : {P : Type 0} → Trees P → Rec P → ℕ → Option (Trees P)
grow_row ts r zero = none
grow_row ts r (suc n) = plant r (take_trees ts n nil)

-- from the pile to the trees from left to right
abbrev pub unpile : {P : Type 0} → Trees P → Trees P → Trees P
unpile nil us = us
unpile (cons t ts) us = unpile ts (cons t us)

abbrev pub grow_on : {P : Type 0} → List (Row P) → Trees P → Option (Trees P)
grow_on [] ts = some (unpile ts nil)
grow_on (x ∷ xs) ts = via (grow_row ts x.rec x.count) (grow_on xs)

-- the trees that a table lists; none: it is not well shaped
abbrev pub grow : {P : Type 0} → List (Row P) → Option (Trees P)
grow xs = grow_on xs nil
