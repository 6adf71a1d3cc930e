-- The thirteen binary operators, with their kinds and levels (01, "Kinds" and "Precedence"), and the other marks.
use Rattle.std.specs.Prelude.{ℕ, ◌+◌, ◌*◌, ◌-◌, ◌≤◌, ◌≡◌, List, [], ◌∷◌, Bool, false, cond, not, ◌&&◌, ◌||◌, length, drop, Option, Some, None}
use Rattle.lexis.specs.Bytes.{begins, stands}
use Rattle.lexis.specs.declared.operator.Op.{Op}

-- a row of the table: the bytes, and what stands where these do
pub record Row : Type 0 where
  pub bytes : List ℕ
  pub op : Op

abbrev pub op : ℕ → ℕ → ℕ → Op
op k l w = record { kind = k; level = l; width = w }

abbrev pub no_op : Op
no_op = op 0 0 0

-- the same as the code has it
abbrev pub op_of : Option Op → Op
op_of None = no_op
op_of (Some o) = o

abbrev pub row : List ℕ → ℕ → ℕ → Row
row bs k l = record { bytes = bs; op = op k l (length bs) }

-- what starts a comment is no operator
abbrev pub never : List ℕ → Row
never bs = record { bytes = bs; op = no_op }

-- longest first: `//` and `/*` are none; then `>= <= == != && ||`, then `* / % + - > <`
abbrev pub operators : List Row
operators =
    never (47 ∷ 47 ∷ [])
    ∷ never (47 ∷ 42 ∷ [])
    ∷ row (62 ∷ 61 ∷ []) 30 4
    ∷ row (60 ∷ 61 ∷ []) 32 4
    ∷ row (61 ∷ 61 ∷ []) 33 3
    ∷ row (33 ∷ 61 ∷ []) 34 3
    ∷ row (38 ∷ 38 ∷ []) 35 2
    ∷ row (124 ∷ 124 ∷ []) 36 1
    ∷ row (42 ∷ []) 24 6
    ∷ row (47 ∷ []) 25 6
    ∷ row (37 ∷ []) 26 6
    ∷ row (43 ∷ []) 27 5
    ∷ row (45 ∷ []) 28 5
    ∷ row (62 ∷ []) 29 4
    ∷ row (60 ∷ []) 31 4
    ∷ []

-- the first row whose bytes stand at the front of a list
abbrev pub among : List Row → List ℕ → Op
among [] xs = no_op
among (r ∷ rs) xs = cond (begins r.bytes xs) r.op (among rs xs)

-- the operator at p; kind 0 where none stands
unfoldable pub op_at : List ℕ → ℕ → Op
op_at s p = among operators (drop p s)

-- `r` is the operator at p: within the source, and with a width where it is one
pub record OpHere (s : List ℕ) (p : ℕ) (r : Op) : Type 0 where
  pub is : r ≡ op_at s p
  pub inside : r.width ≤ length s - p
  pub wide : r.kind ≤ 36 * r.width
  pub known : r.kind ≤ 36
  pub level : r.level ≤ 6 * r.width
  pub tight : r.level ≤ 6

-- whether one of some tokens stands at p
abbrev pub any_of : List (List ℕ) → List ℕ → ℕ → Bool
any_of [] s p = false
any_of (w ∷ ws) s p = stands w s p || any_of ws s p

-- a mark stands at p: its bytes, and none of the longer tokens that start with them
abbrev pub is_mark : List ℕ → List (List ℕ) → List ℕ → ℕ → Bool
is_mark w longer s p = stands w s p && not (any_of longer s p)

-- the end of a mark at p; p where it does not stand
abbrev pub mark_to : List ℕ → List (List ℕ) → List ℕ → ℕ → ℕ
mark_to w longer s p = cond (is_mark w longer s p) (p + length w) p

abbrev pub question_to : List ℕ → ℕ → ℕ
question_to s p = mark_to (63 ∷ []) [] s p

abbrev pub colon_to : List ℕ → ℕ → ℕ
colon_to s p = mark_to (58 ∷ []) [] s p

abbrev pub colons_to : List ℕ → ℕ → ℕ
colons_to s p = mark_to (58 ∷ 58 ∷ []) [] s p

-- `.`, but not `..`
-- 01: "`..` never starts a traversal."
abbrev pub dot_to : List ℕ → ℕ → ℕ
dot_to s p = mark_to (46 ∷ []) ((46 ∷ 46 ∷ []) ∷ []) s p

abbrev pub dots_to : List ℕ → ℕ → ℕ
dots_to s p = mark_to (46 ∷ 46 ∷ 46 ∷ []) [] s p

-- `=`, but neither `=>` nor `==`
abbrev pub equals_to : List ℕ → ℕ → ℕ
equals_to s p = mark_to (61 ∷ []) ((61 ∷ 62 ∷ []) ∷ (61 ∷ 61 ∷ []) ∷ []) s p

abbrev pub arrow_to : List ℕ → ℕ → ℕ
arrow_to s p = mark_to (61 ∷ 62 ∷ []) [] s p

-- `!`, but not `!=`
abbrev pub bang_to : List ℕ → ℕ → ℕ
bang_to s p = mark_to (33 ∷ []) ((33 ∷ 61 ∷ []) ∷ []) s p
