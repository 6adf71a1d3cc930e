-- What `read` promises.
use Rattle.std.specs.Prelude.{ℕ, ◌/◌, ◌*◌, ◌≤◌, ◌≡◌, List, length}
use Rattle.reader.specs.declared.Answer.{Answer}
use Rattle.reader.specs.declared.Reading.{Reading}
use Rattle.lexis.specs.Utf8.{first_bad}
use Rattle.engine.specs.Base.{Outcome, ok, Tree}
use Rattle.grammar.specs.Answer.{answer, answer_of, outcome, reading}
use Rattle.grammar.specs.Answer as grammar
use Rattle.grammar.specs.Table.{table_of, texts_of}
use Rattle.reader.specs.Buffer.{lay, write}

-- the answer's four numbers, as the definitions have them
abbrev pub answer_from : Answer → grammar.Answer
answer_from r = answer r.kind r.place r.nodes r.text

-- what the reading of a source is
abbrev pub Wholes : List ℕ → Outcome ℕ (Tree ℕ) → Type 0
Wholes s o = reading s ≡ o

-- a source of at most n bytes, of well-formed UTF-8
pub record Clean (n : ℕ) (s : List ℕ) : Type 0 where
  pub small : length s ≤ n
  pub whole : first_bad s ≡ length s

-- m is the reading of a source s that is accepted with lent room b and x
pub record Fitting (s b x : List ℕ) (m : Reading) : Type 0 where
  pub is : answer 0 m.end m.count m.text ≡ answer_of s (length b / 7) (length x)
  pub few : m.count ≤ length b / 7
  pub used : m.text ≤ length x
  pub inside : m.end ≤ length s

-- a source s, with lent room b for records of seven numbers and x for text; b' and x' are what these hold afterwards
pub record Reads (s b b' x x' : List ℕ) (r : Answer) : Type 0 where
  -- the answer is the definition's
  pub is : answer_from r ≡ answer_of s (length b / 7) (length x)
  -- a refusal changes neither
  pub same : ¬ (r.kind ≡ 0) → (b' ≡ b) × (x' ≡ x)
  -- an acceptance lays the reading's records and text over them from their beginning, and leaves the rest
  pub laid : r.kind ≡ 0 → (t : Tree ℕ) → outcome s ≡ ok t → (b' ≡ lay b 0 (table_of s t)) × (x' ≡ write x 0 (texts_of s 0 t))
  -- what callers compute with
  pub long : (length b' ≡ length b) × (length x' ≡ length x)
  pub room : r.kind ≡ 0 → (r.nodes * 7 ≤ length b) × (r.text ≤ length x)
  pub place : r.place ≤ length s
