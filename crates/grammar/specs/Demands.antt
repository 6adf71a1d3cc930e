-- The demands, each a statement that is read on its own; their proofs are in proofs/DemandLaws.antt. s is the bytes of a source, `nodes` and `text` are the
-- lent room: for so many nodes, and so many bytes of text.
use Rattle.std.specs.Prelude.{ℕ, ◌*◌, ◌≤◌, ◌<◌, ◌≡◌, List, ◌↔◌, length, get_or, take, drop}
use Rattle.std.proofs.Math.Option.{some}
use Rattle.lexis.specs.Utf8.{Formed, sequence}
use Rattle.engine.specs.Base.{Tree, rec_of, size}
use Rattle.engine.specs.Engine.{Whole, FailAt}
use Rattle.engine.specs.Layout.{grammar}
use Rattle.engine.specs.Levels.{level_in}
use Rattle.grammar.specs.Kinds.{Long, Utf8, Slots, Text, most}
use Rattle.grammar.specs.Hcl.{hcl}
use Rattle.grammar.specs.Table.{numbers, table_of, words_of}
use Rattle.grammar.specs.Answer.{Answer, answer, answer_of, root, leftover}
use Rattle.grammar.specs.Precedence.{thirteen, Binds}
use Rattle.grammar.specs.Published.{row_of, rows_in, Holds}

-- ---- the words of the demands

-- within the limits: "A source has at most 65,535 bytes", and is well-formed UTF-8
pub record Fair (s : List ℕ) : Type 0 where
  pub short : length s ≤ most
  pub formed : Formed s

-- the grammar reads the whole source as the tree t: a derivation, which knows of no fuel, from the first byte to the last
pub record Derives (s : List ℕ) (t : Tree ℕ) : Type 0 where
  pub derived : Whole (grammar (hcl s)) (root, 0) 0 t
  pub whole : (rec_of t).end ≡ length s

-- nodes and text bytes of a reading
abbrev pub nodes_of : Tree ℕ → ℕ
nodes_of t = size t

abbrev pub bytes_of : List ℕ → Tree ℕ → ℕ
bytes_of s t = length (words_of s t)

-- 01's answers: of a source and a room, what may be answered, and when
pub data Answers (s : List ℕ) (nodes text : ℕ) : Answer → Type 0 where
  -- "1 comes first"
  long : most < length s → Answers s nodes text (answer Long 0 0 0)
  -- "then 2 over the whole source": p is the "first byte of the first bad sequence", what stands before it is well formed
  unformed : length s ≤ most → (p : ℕ) → Formed (take p s) → p < length s → sequence (drop p s) ≡ 0 → Answers s nodes text (answer Utf8 p 0 0)
  -- "then the first of 3 to 10 that reading from the left meets": all before it was read well, and this step cannot be made
  refused : Fair s → (k p : ℕ) → FailAt (grammar (hcl s)) (root, 0) 0 k p → Answers s nodes text (answer k p 0 0)
  -- or a whole expression was read, and something is left
  unread : Fair s → (t : Tree ℕ) → Whole (grammar (hcl s)) (root, 0) 0 t → ¬ ((rec_of t).end ≡ length s)
      → Answers s nodes text (answer (leftover s (rec_of t).end).0 (leftover s (rec_of t).end).1 0 0)
  -- "11 and then 12 only for a source that would otherwise be accepted. 11 and 12 report both true needs"
  slots : Fair s → (t : Tree ℕ) → Derives s t → nodes < nodes_of t → Answers s nodes text (answer Slots 0 (nodes_of t) (bytes_of s t))
  words : Fair s → (t : Tree ℕ) → Derives s t → nodes_of t ≤ nodes → text < bytes_of s t → Answers s nodes text (answer Text 0 (nodes_of t) (bytes_of s t))
  -- "Acceptance: 0, source length, and the counts of the reading"
  accepted : Fair s → (t : Tree ℕ) → Derives s t → nodes_of t ≤ nodes → bytes_of s t ≤ text → Answers s nodes text (answer 0 (length s) (nodes_of t) (bytes_of s t))

-- ---- 1. two readings of a source are the same; every source has exactly one answer for each room, and it is `answer_of`

abbrev pub OneReading : Type 0
OneReading = (s : List ℕ) (t u : Tree ℕ) → Derives s t → Derives s u → t ≡ u

abbrev pub OneAnswer : Type 0
OneAnswer = (s : List ℕ) (nodes text : ℕ) (a : Answer) → Answers s nodes text a ↔ (a ≡ answer_of s nodes text)

-- ---- 2. a source is accepted exactly when the grammar reads it within the limits and the room; and nodes and text bytes are those of that
-- reading

pub record Accepted (s : List ℕ) (nodes text : ℕ) : Type 0 where
  pub fair : Fair s
  pub tree : Tree ℕ
  pub derives : Derives s tree
  pub few_nodes : nodes_of tree ≤ nodes
  pub few_bytes : bytes_of s tree ≤ text

abbrev pub AcceptedWhen : Type 0
AcceptedWhen = (s : List ℕ) (nodes text : ℕ) → ((answer_of s nodes text).kind ≡ 0) ↔ Accepted s nodes text

abbrev pub TrueCounts : Type 0
TrueCounts = (s : List ℕ) (nodes text : ℕ) (x : Accepted s nodes text) → answer_of s nodes text ≡ answer 0 (length s) (nodes_of x.tree) (bytes_of s x.tree)

-- ---- 3. the rule that is published holds of a source, a table and a text, which are numbers from anyone, exactly when the answer with enough room is
-- acceptance with that very table and that very text. (As much room as the source has bytes is enough: 5.)

pub record Gives (s : List ℕ) (nodes text : ℕ) (table words : List ℕ) : Type 0 where
  pub accepted : (answer_of s nodes text).kind ≡ 0
  pub tree : Tree ℕ
  pub derives : Derives s tree
  pub table_is : numbers (table_of s tree) ≡ table
  pub words_is : words_of s tree ≡ words

abbrev pub RuleMeetsReading : Type 0
RuleMeetsReading = (s table words : List ℕ) (nodes text : ℕ) → length s ≤ nodes → length s ≤ text → Holds s table words ↔ Gives s nodes text table words

-- a table of which it holds is seven numbers a node
abbrev pub SevenEach : Type 0
SevenEach = (s table words : List ℕ) (h : Holds s table words) → length table ≡ 7 * length h.rows

-- so an accepted source has a table and a text at which the rule holds, those of its reading; and at most one table and one text are right for a source
abbrev pub OwnTable : Type 0
OwnTable = (s : List ℕ) (nodes text : ℕ) (x : Accepted s nodes text) → Holds s (numbers (table_of s x.tree)) (words_of s x.tree)

abbrev pub OneTable : Type 0
OneTable = (s table words table' words' : List ℕ) → Holds s table words → Holds s table' words' → (table ≡ table') × (words ≡ words')

-- ---- 4. over all thirteen operators, once: in a table of which the rule holds each of them has two operands, of which the left binds as tightly as
-- the operator or tighter, and the right tighter, whatever their kinds; so what binds more loosely stands in parentheses

abbrev pub Precedence : Type 0
Precedence = (s table words : List ℕ) (h : Holds s table words) (i n : ℕ) → i < length h.rows → level_in thirteen (rows_in h.rows i).kind ≡ some n → Binds (λ j. row_of (rows_in h.rows j)) i n

-- ---- 5. more room changes nothing: what is accepted in some room is answered the same in more, and its records and its text, which are of its
-- reading, do not depend on the room; a refusal for another reason than room is the same in every room; an accepted source has no more nodes, and no
-- more text, than bytes; and the numbers of its records fit 16 bits

abbrev pub MoreRoom : Type 0
MoreRoom = (s : List ℕ) (n m n' m' : ℕ) → n ≤ n' → m ≤ m' → (answer_of s n m).kind ≡ 0 → answer_of s n' m' ≡ answer_of s n m

abbrev pub AnyRoom : Type 0
AnyRoom = (s : List ℕ) (n m n' m' : ℕ) → 0 < (answer_of s n m).kind → (answer_of s n m).kind < Slots → answer_of s n' m' ≡ answer_of s n m

abbrev pub NoMoreThanBytes : Type 0
NoMoreThanBytes = (s : List ℕ) (t : Tree ℕ) → Derives s t → (nodes_of t ≤ length s) × (bytes_of s t ≤ length s)

abbrev pub SixteenBits : Type 0
SixteenBits = (s table words : List ℕ) → Holds s table words → (i : ℕ) → get_or table i 0 ≤ 65535
