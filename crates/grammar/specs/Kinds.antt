-- 01's numbers: the kinds of nodes, the refusals, the limits; and the levels of the thirteen operators.
use Rattle.std.specs.Prelude.{ℕ, List, [], ◌∷◌, get_or}
use Rattle.grammar.specs.declared.kinds.Refusal.{Refusal}
use Rattle.grammar.specs.declared.kinds.Refusal.TheVariants as refusal

-- ---- refusals (01, "Lent room and the answer")

abbrev pub Long : ℕ
Long = 1

abbrev pub Utf8 : ℕ
Utf8 = 2

abbrev pub Foreign : ℕ
Foreign = 3

abbrev pub Unexpected : ℕ
Unexpected = 4

abbrev pub Escape : ℕ
Escape = 5

abbrev pub Unclosed : ℕ
Unclosed = 6

abbrev pub Duplicate : ℕ
Duplicate = 7

abbrev pub Deep : ℕ
Deep = 8

abbrev pub Directive : ℕ
Directive = 9

abbrev pub Index : ℕ
Index = 10

abbrev pub Slots : ℕ
Slots = 11

abbrev pub Text : ℕ
Text = 12

-- the number of a refusal, as the code has it
abbrev pub number : Refusal → ℕ
number refusal.Long = Long
number refusal.Utf8 = Utf8
number refusal.Foreign = Foreign
number refusal.Unexpected = Unexpected
number refusal.Escape = Escape
number refusal.Unclosed = Unclosed
number refusal.Duplicate = Duplicate
number refusal.Deep = Deep
number refusal.Directive = Directive
number refusal.Index = Index
number refusal.Slots = Slots
number refusal.Text = Text

-- ---- limits

-- a source has at most so many bytes
abbrev pub most : ℕ
most = 65535

-- at most so many levels are open at once
abbrev pub levels : ℕ
levels = 64

-- a record has so many numbers
abbrev pub wide : ℕ
wide = 7

-- ---- how tightly a kind binds: the conditional is looser than all (1), then the operators by level, `||` first (2 to 7), then the
-- traversal (8), then everything that no operator takes apart (9). "Precedence, tightest first: `* / %`; `+ -`; `> >= < <=`; `== !=`; `&&`; `||`"

-- by kind: 0 to 23, then `* / % + - > >= < <= == != && ||`, then 37 to 42
abbrev pub tights : List ℕ
tights =
    0 ∷ 9 ∷ 9 ∷ 9 ∷ 9 ∷ 9 ∷ 9 ∷ 9 ∷ 9 ∷ 9 ∷ 9 ∷ 9 ∷ 9 ∷ 9 ∷ 9 ∷ 9 ∷ 9 ∷ 9 ∷ 9 ∷ 9 ∷ 9 ∷ 1 ∷ 9 ∷ 9
    ∷ 7 ∷ 7 ∷ 7 ∷ 6 ∷ 6 ∷ 5 ∷ 5 ∷ 5 ∷ 5 ∷ 4 ∷ 4 ∷ 3 ∷ 2 ∷ 8 ∷ 9 ∷ 9 ∷ 9 ∷ 9 ∷ 9 ∷ []

-- the tightest operator that may follow a node, as the new node's left operand: an operator of its own level and looser ("equal levels group
-- from the left"); after an item, a condition or a conditional, whose last part is a whole expression, none; after a unary operator no
-- traversal ("one term, its traversals included"); a traversal has taken "all following operators" of its own level
-- 01: "Equal levels group from the left."
abbrev pub holds : List ℕ
holds =
    0 ∷ 9 ∷ 9 ∷ 9 ∷ 9 ∷ 9 ∷ 9 ∷ 9 ∷ 9 ∷ 9 ∷ 9 ∷ 9 ∷ 9 ∷ 0 ∷ 9 ∷ 9 ∷ 9 ∷ 9 ∷ 9 ∷ 9 ∷ 0 ∷ 0 ∷ 7 ∷ 7
    ∷ 7 ∷ 7 ∷ 7 ∷ 6 ∷ 6 ∷ 5 ∷ 5 ∷ 5 ∷ 5 ∷ 4 ∷ 4 ∷ 3 ∷ 2
    ∷ 8 ∷ 9 ∷ 9 ∷ 9 ∷ 9 ∷ 9 ∷ []

abbrev pub tight_of : ℕ → ℕ
tight_of k = get_or tights k 0

abbrev pub hold_of : ℕ → ℕ
hold_of k = get_or holds k 0
