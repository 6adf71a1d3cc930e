-- The table and the text of a reading: seven numbers a node, children first, and the unescaped text of strings and pieces, back to back.
use Rattle.std.specs.Prelude.{ℕ, suc, ◌+◌, ◌-◌, List, [], ◌∷◌, ◌++◌, Bool, true, false, ◌&&◌, ◌||◌, length, eqb}
use Rattle.lexis.specs.String.{quoted, text_at}
use Rattle.engine.specs.Base.{Tree, Trees, node, nil, cons, sizes}
use Rattle.grammar.specs.Moves.{round}

-- "kind, flag, start, end, count of nodes in its subtree (itself included), text start, text length"
pub record Record : Type 0 where
  pub kind : ℕ
  pub flag : ℕ
  pub start : ℕ
  pub end : ℕ
  pub count : ℕ
  pub from : ℕ
  pub length : ℕ

-- the unescaped text that a node of a kind, with a flag, from b on, puts into the text buffer: a string (6) or a piece (9) of the
-- template that starts at t, with flag 1; the others put none
abbrev pub own_as : List ℕ → ℕ → ℕ → Bool → Bool → List (List ℕ)
own_as s t b true y = (text_at quoted s (b + 1)).bytes ∷ []
own_as s t b false true = (text_at (round s t) s b).bytes ∷ []
own_as s t b false false = []

-- 01: "Kinds 6 and 9 have text."
unfoldable pub own : List ℕ → ℕ → ℕ → ℕ → ℕ → List (List ℕ)
own s t k φ b = own_as s t b (eqb k 6 && eqb φ 1) (eqb k 9 && eqb φ 1)

-- how long some texts are together, and these one after the other
abbrev pub total : List (List ℕ) → ℕ
total [] = 0
total (x ∷ xs) = length x + total xs

abbrev pub flatten : List (List ℕ) → List ℕ
flatten [] = []
flatten (x ∷ xs) = x ++ flatten xs

-- where the text of a node begins and how long it is, u bytes of text being used before it: with flag 1 in the text buffer; with flag 0 the
-- source itself, for 6 between the quotes; 0, 0 for the kinds without text
-- 01: "Kinds without text have 0, 0."
abbrev pub span_as : ℕ → ℕ → ℕ → ℕ → Bool → Bool → Bool → ℕ × ℕ
span_as b e u n true y z = (u, n)
span_as b e u n false true z = (b + 1, e - b - 2)
span_as b e u n false false true = (b, e - b)
span_as b e u n false false false = (0, 0)

-- 01: "With no escape or escaped marker in it, flag 0 and the text is the source itself (for 6, between the quotes)."
abbrev pub span : ℕ → ℕ → ℕ → ℕ → ℕ → ℕ → ℕ × ℕ
span k φ b e u n = span_as b e u n ((eqb k 6 && eqb φ 1) || (eqb k 9 && eqb φ 1)) (eqb k 6) (eqb k 9)

abbrev pub record_of : ℕ → ℕ → ℕ → ℕ → ℕ → ℕ × ℕ → Record
record_of k φ b e n x = record { kind = k; flag = φ; start = b; end = e; count = n; from = x.0; length = x.1 }

-- t is where the node's parent starts
abbrev mutual
  -- the texts of a tree, and of trees, in table order
  pub texts_of : List ℕ → ℕ → Tree ℕ → List (List ℕ)
  texts_of s t (node k φ b e ts) = texts_ofs s b ts ++ own s t k φ b

  pub texts_ofs : List ℕ → ℕ → Trees ℕ → List (List ℕ)
  texts_ofs s t nil = []
  texts_ofs s t (cons x xs) = texts_of s t x ++ texts_ofs s t xs

abbrev mutual
  -- the records of a tree, u bytes of text being used before it
  pub records_of : List ℕ → ℕ → ℕ → Tree ℕ → List Record
  records_of s t u (node k φ b e ts) =
      records_ofs s b u ts
      ++ record_of k φ b e (suc (sizes ts)) (span k φ b e (u + total (texts_ofs s b ts)) (total (own s t k φ b))) ∷ []

  pub records_ofs : List ℕ → ℕ → ℕ → Trees ℕ → List Record
  records_ofs s t u nil = []
  records_ofs s t u (cons x xs) = records_of s t u x ++ records_ofs s t (u + total (texts_of s t x)) xs

-- the records as numbers
abbrev pub numbers : List Record → List ℕ
numbers [] = []
numbers (r ∷ rs) = r.kind ∷ r.flag ∷ r.start ∷ r.end ∷ r.count ∷ r.from ∷ r.length ∷ numbers rs

-- the table and the text of a whole source's tree
abbrev pub table_of : List ℕ → Tree ℕ → List Record
table_of s t = records_of s 0 0 t

-- 01: "Otherwise flag 1 and it stands unescaped in the text buffer, pieces back to back in table order."
abbrev pub words_of : List ℕ → Tree ℕ → List ℕ
words_of s t = flatten (texts_of s 0 t)
