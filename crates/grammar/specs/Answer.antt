-- The answer of a source: 01's order of refusals, and what is read.
use Rattle.std.specs.Prelude.{ℕ, ◌+◌, ◌-◌, ◌*◌, List, [], ◌∷◌, ◌++◌, Bool, true, false, length, drop, eqb, ltb}
use Rattle.lexis.specs.Utf8.{first_bad}
use Rattle.engine.specs.Base.{Outcome, ok, halt, stuck, bind, Tree, rec_of, size}
use Rattle.engine.specs.Progress.{Pace, reads}
use Rattle.engine.specs.Source.{Source}
use Rattle.grammar.specs.Kinds.{Long, Utf8, Slots, Text, most, levels}
use Rattle.grammar.specs.Moves.{Want, an_expression, a_name, an_item, a_part, a_piece, a_condition, Under, then, refusal, unexpected, skip, gap, mark, opens, word, ahead, for, ident, number, index, operator, parts, unless, comma, stop, ended, call, fresh, ending, run, piece, more, close, Move}
use Rattle.grammar.specs.Layouts.{Class, inside, single, key, value, test, branch, term, right, entry, called, portion, piecewise, filter}
use Rattle.grammar.specs.Hcl.{hcl, under}
use Rattle.grammar.specs.Table.{words_of}

-- ---- for the fuel: which atoms take a byte, and what may stand within what without one

abbrev pub eating : Move → Bool
eating [] = false
eating (gap g ∷ m) = eating m
eating (mark w l ∷ m) = ltb 0 (length w)
eating (opens w l ∷ m) = ltb 0 (length w)
eating (word w ∷ m) = ltb 0 (length w)
eating (ahead w ∷ m) = eating m
eating (for ∷ m) = true
eating (ident ∷ m) = true
eating (number ∷ m) = true
eating (index ∷ m) = true
eating (operator k ∷ m) = ltb 0 k
eating (parts ∷ m) = eating m
eating (unless c ∷ m) = eating m
eating (comma ∷ m) = eating m
eating (stop ∷ m) = true
eating (ended ∷ m) = eating m
eating (call ∷ m) = true
eating (fresh ∷ m) = eating m
eating (ending ∷ m) = true
eating (run e ∷ m) = eating m
eating (piece e ∷ m) = true
eating (more ∷ m) = eating m
eating (close ∷ m) = eating m

abbrev pub rank_of : Want → ℕ
rank_of an_expression = 1
rank_of a_name = 0
rank_of (an_item ks) = 2
rank_of a_part = 0
rank_of (a_piece t) = 0
rank_of a_condition = 2

abbrev pub ranks : Class → ℕ
ranks inside = 1
ranks single = 1
ranks key = 1
ranks value = 1
ranks test = 1
ranks branch = 1
ranks term = 1
ranks (right t) = 1
ranks entry = 2
ranks called = 0
ranks portion = 0
ranks piecewise = 0
ranks filter = 2

abbrev pub rest : List ℕ → ℕ → ℕ
rest s p = length s - p

abbrev pub rank : Under → ℕ
rank b = rank_of b.want

abbrev pub fuel : List ℕ → Under → ℕ → ℕ
fuel s b p = 3 * rest s p + rank b

-- ---- the reading of a source

-- "The root is single-line", at level 0, and is an expression "from byte 0 to the last byte"
abbrev pub root : Under
root = under levels false an_expression

-- what is left after the expression: past same-line space, no rule takes it
abbrev pub leftover : List ℕ → ℕ → ℕ × ℕ
leftover s e = refusal (then (skip s false e) (unexpected s))

abbrev pub whole : List ℕ → Bool → Tree ℕ → Outcome ℕ (Tree ℕ)
whole s true t = ok t
whole s false t = halt (leftover s (rec_of t).end).0 (leftover s (rec_of t).end).1

abbrev pub pace : List ℕ → Pace ℕ Under Move Class
pace s = record { eats = eating; rankC = ranks; rank = rank; rest = rest s; fuel = fuel s }

-- the same for the engine, whose reading gives the rows of that tree
abbrev pub source : List ℕ → Source ℕ Under Move Class
source s = record { lang = hcl s; pace = pace s; root = root; begin = 0; ended = λ e. eqb e (length s); left = leftover s }

-- the tree of a source, or the first of the refusals 3 to 10 that reading from the left meets
unfoldable pub reading : List ℕ → Outcome ℕ (Tree ℕ)
reading s = bind (reads (hcl s) (pace s) root 0) (λ t. whole s (eqb (rec_of t).end (length s)) t)

-- "1 comes first, then 2 over the whole source, then the first of 3 to 10"
abbrev pub formed_as : List ℕ → Bool → Outcome ℕ (Tree ℕ)
formed_as s true = reading s
formed_as s false = halt Utf8 (first_bad s)

abbrev pub long_as : List ℕ → Bool → Outcome ℕ (Tree ℕ)
long_as s true = halt Long 0
long_as s false = formed_as s (eqb (first_bad s) (length s))

unfoldable pub outcome : List ℕ → Outcome ℕ (Tree ℕ)
outcome s = long_as s (ltb most (length s))

-- ---- the answer, with room for so many nodes and so many text bytes

-- "The answer is kind, place, nodes, text bytes"
pub record Answer : Type 0 where
  pub kind : ℕ
  pub place : ℕ
  pub nodes : ℕ
  pub text : ℕ

abbrev pub answer : ℕ → ℕ → ℕ → ℕ → Answer
answer k p n t = record { kind = k; place = p; nodes = n; text = t }

-- "11 and then 12 only for a source that would otherwise be accepted. 11 and 12 report both true needs"
abbrev pub room_as : ℕ → ℕ → ℕ → Bool → Bool → Answer
room_as l n t true y = answer Slots 0 n t
room_as l n t false true = answer Text 0 n t
room_as l n t false false = answer 0 l n t

abbrev pub answer_as : List ℕ → ℕ → ℕ → Outcome ℕ (Tree ℕ) → Answer
answer_as s nodes text (ok t) = room_as (length s) (size t) (length (words_of s t)) (ltb nodes (size t)) (ltb text (length (words_of s t)))
answer_as s nodes text (halt k p) = answer k p 0 0
answer_as s nodes text stuck = answer 0 0 0 0

unfoldable pub answer_of : List ℕ → ℕ → ℕ → Answer
answer_of s nodes text = answer_as s nodes text (outcome s)

-- what an acceptance lays over the lent buffers: the records as numbers, and the text; the rest stays
abbrev pub over : List ℕ → List ℕ → List ℕ
over xs b = xs ++ drop (length xs) b
