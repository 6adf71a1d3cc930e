-- The rule that a checker holds a table to, from anyone: what demand 3 lets it look at, and nothing else. At a node it looks at the node's record and
-- its children's records (at an object also at its items' keys, in the source), at the levels left and whether a line end may stand there, at the
-- text used so far, and at the bytes of the source and of the text. It knows of no reader and of no reading.
--
-- How a node of a kind is laid out is in Layouts (the layouts), Moves (what each move takes) and Hcl (what a place calls for, what may follow an
-- operand, what a child is under); `Local`, the engine's rule at one node, lays a layout over the children that the node has. Table says what text a
-- node has.
use Rattle.std.specs.Prelude.{ℕ, zero, suc, ◌+◌, ◌≤◌, ◌<◌, ◌≡◌, List, [], ◌∷◌, map, Bool, true, false, cond, not, ◌&&◌, ◌||◌, length, get_or, take, drop, eqb, leb, T}
use Rattle.lexis.specs.Bytes.{stands}
use Rattle.lexis.specs.String.{text_at}
use Rattle.lexis.specs.Keys.{among}
use Rattle.lexis.specs.Utf8.{Formed}
use Rattle.engine.specs.Base.{Rec, has}
use Rattle.engine.specs.Flat.{Row}
use Rattle.engine.specs.Rule.{Local, Kids}
use Rattle.engine.specs.Handed.{Tests}
use Rattle.grammar.specs.Kinds.{most, levels}
use Rattle.grammar.specs.Moves.{Want, an_expression, a_name, an_item, a_part, a_piece, a_condition, Under, round, lone}
use Rattle.grammar.specs.Hcl.{hcl, under}
use Rattle.grammar.specs.Table.{Record, own, total, flatten, span, numbers}

-- ---- what a node has from above

-- how many levels may still open, and whether a line end may stand there
pub record Depth : Type 0 where
  pub left : ℕ
  pub lines : Bool

abbrev pub depth : ℕ → Bool → Depth
depth n l = record { left = n; lines = l }

-- of all that a node is under, this is carried down from node to node; what is wanted there, and whether a lone identifier goes by another name there
-- (1: it is a key), is tested by the parent
abbrev pub depth_of : Under × ℕ → Depth
depth_of a = depth a.0.left a.0.lines

abbrev pub wanted : Under × ℕ → Want × ℕ
wanted a = (a.0.want, a.1)

-- ---- the kinds that may stand where something is wanted

-- 1 to 8, 11, 12, 15, 16, 18, 19, 21 to 37; a key that is a lone identifier is 14 and not 5
abbrev pub expressions : List ℕ
expressions =
    1 ∷ 2 ∷ 3 ∷ 4 ∷ 6 ∷ 7 ∷ 8 ∷ 11 ∷ 12 ∷ 15 ∷ 16 ∷ 18 ∷ 19 ∷ 21 ∷ 22 ∷ 23
    ∷ 24 ∷ 25 ∷ 26 ∷ 27 ∷ 28 ∷ 29 ∷ 30 ∷ 31 ∷ 32 ∷ 33 ∷ 34 ∷ 35 ∷ 36 ∷ 37 ∷ []

abbrev pub kinds_of : Want → ℕ → List ℕ
kinds_of an_expression zero = 5 ∷ expressions
kinds_of an_expression (suc n) = 14 ∷ expressions
kinds_of a_name n = 17 ∷ []
kinds_of (an_item ks) n = 13 ∷ []
kinds_of a_part n = 38 ∷ 39 ∷ 40 ∷ 41 ∷ 42 ∷ []
kinds_of (a_piece t) n = 9 ∷ 10 ∷ []
kinds_of a_condition n = 20 ∷ []

-- so a node's kind says what is wanted where it stands
abbrev pub want_as : Bool → Bool → Bool → Bool → Bool → Want
want_as true i p c e = a_name
want_as false true p c e = an_item []
want_as false false true c e = a_part
want_as false false false true e = a_condition
want_as false false false false true = a_piece 0
want_as false false false false false = an_expression

abbrev pub want_of : ℕ → Want
want_of k = want_as (eqb k 17) (eqb k 13) (leb 38 k && leb k 42) (eqb k 20) (eqb k 10)

abbrev pub style_of : ℕ → ℕ
style_of k = cond (eqb k 14) 1 0

-- ---- what a parent tests of a child: its kind, and of an item and of a piece more

-- "9 is a longest run of literal text, never empty", of the text round it, which starts at t: where it ends, and flag 1 with an escape in it
pub record Piece (s : List ℕ) (t : ℕ) (r : Rec ℕ) : Type 0 where
  pub text : stands (36 ∷ 123 ∷ []) s r.start ≡ false
  pub some : r.start < r.end
  pub end : r.end ≡ r.start + (text_at (round s t) s r.start).width
  pub flag : r.flag ≡ cond (text_at (round s t) s r.start).escaped 1 0

abbrev pub More : List ℕ → Want → Rec ℕ → Type 0
More s an_expression r = Unit {0}
More s a_name r = Unit {0}
-- ks are the starts of the keys before it that may be compared: "Duplicate" if its own may be and is equal to one of them
More s (an_item ks) r = T (not (lone s r.start && among s ks r.start))
More s a_part r = Unit {0}
More s (a_piece t) r = r.kind ≡ 9 → Piece s t r
More s a_condition r = Unit {0}

pub record Suits (s : List ℕ) (x : Want × ℕ) (r : Rec ℕ) : Type 0 where
  pub kind : T (has (kinds_of x.0 x.1) r.kind)
  pub more : More s x.0 r

-- ---- the rule at a node: its layout, laid over its children, ends where it ends; and each child suits its place

pub record Laid (s : List ℕ) (d : Depth) (r : Rec ℕ) (rs : List (Rec ℕ)) (ds : List Depth) : Type 0 where
  -- what its children are under
  pub below : List (Under × ℕ)
  pub depths : map depth_of below ≡ ds
  pub local : Local (hcl s) (under d.left d.lines (want_of r.kind), style_of r.kind) r rs below
  pub suits : Tests (Suits s) (map wanted below) rs

-- a piece has no children, and is tested by its parent alone
abbrev pub rule_as : Bool → List ℕ → Depth → Rec ℕ → List (Rec ℕ) → List Depth → Type 0
rule_as true s d r rs ds = (rs ≡ []) × (ds ≡ [])
rule_as false s d r rs ds = Laid s d r rs ds

abbrev pub Rule : List ℕ → Depth → Rec ℕ → List (Rec ℕ) → List Depth → Type 0
Rule s d r rs ds = rule_as (eqb r.kind 9) s d r rs ds

-- ---- text: "With no escape or escaped marker in it, flag 0 and the text is the source itself. Otherwise flag 1 and it stands unescaped in the text
-- buffer, pieces back to back in table order. Kinds without text have 0, 0."

-- how many bytes of the text buffer a record says that it has
abbrev pub taken : Record → ℕ
taken r = cond ((eqb r.kind 6 && eqb r.flag 1) || (eqb r.kind 9 && eqb r.flag 1)) r.length 0

-- the text used by the rows before the row i
abbrev pub used : (ℕ → Record) → ℕ → ℕ
used f zero = 0
used f (suc i) = used f i + taken (f i)

-- a record's text numbers and its bytes, u bytes of text being used before it; t is where its parent starts
pub record Texted (s text : List ℕ) (t u : ℕ) (r : Record) : Type 0 where
  pub columns : (r.from, r.length) ≡ span r.kind r.flag r.start r.end u (total (own s t r.kind r.flag r.start))
  pub bytes : take (total (own s t r.kind r.flag r.start)) (drop u text) ≡ flatten (own s t r.kind r.flag r.start)

-- ---- at every node of a table

abbrev pub row_of : Record → Row ℕ
row_of r = record { rec = record { kind = r.kind; flag = r.flag; start = r.start; end = r.end }; count = r.count }

abbrev pub rec_in : (ℕ → Record) → ℕ → Rec ℕ
rec_in f i = (row_of (f i)).rec

module _ (s text : List ℕ) (f : ℕ → Record) where
  -- the node in row i, whose subtree begins in row lo and whose children stand in the rows `kids`, by their counts
  pub record Node (att : ℕ → Depth) (i : ℕ) : Type 0 where
    pub lo : ℕ
    pub kids : List ℕ
    pub tiles : lo + (f i).count ≡ suc i
    pub split : Kids (λ j. row_of (f j)) lo i kids
    pub rule : Rule s (att i) (rec_in f i) (map (rec_in f) kids) (map att kids)
    -- its own text, unless it is a piece; and that of the pieces among its children
    pub words : ¬ ((f i).kind ≡ 9) → Texted s text 0 (used f i) (f i)
    pub pieces : (j : ℕ) → T (has kids j) → (f j).kind ≡ 9 → Texted s text (f i).start (used f j) (f j)

-- a row where a table has none
abbrev pub no_row : Record
no_row = record { kind = 0; flag = 0; start = 0; end = 0; count = 0; from = 0; length = 0 }

abbrev pub rows_in : List Record → ℕ → Record
rows_in rows i = get_or rows i no_row

-- the rule holds of a source, a table and a text, which are numbers from anyone
pub record Holds (s table text : List ℕ) : Type 0 where
  -- a source that is too long, or not well-formed UTF-8, is refused
  pub short : length s ≤ most
  pub formed : Formed s
  -- "The checker answers no to a table whose length isn't 7 times its nodes"
  pub rows : List Record
  pub seven : numbers rows ≡ table
  -- the rule at every node, with levels and modes that the rule itself fixes from the root down
  pub att : ℕ → Depth
  pub nodes : (i : ℕ) → i < length rows → Node s text (rows_in rows) att i
  -- the root is the last row: all nodes are below it, it is an expression, "from byte 0 to the last byte", single-line, with all levels left
  pub root : ℕ
  pub last : length rows ≡ suc root
  pub all : (rows_in rows root).count ≡ length rows
  pub top : att root ≡ depth levels false
  pub kind : T (has (kinds_of an_expression 0) (rows_in rows root).kind)
  pub start : (rows_in rows root).start ≡ 0
  pub end : (rows_in rows root).end ≡ length s
  -- a text that is not wholly used is refused
  pub all_used : used (rows_in rows) (length rows) ≡ length text
