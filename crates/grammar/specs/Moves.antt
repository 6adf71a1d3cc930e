-- Moves over the bytes of a source: what each of 01's rules takes at a place, and the refusal where it takes nothing.
-- A move is a few atoms, one after the other; the first that can't be made gives the refusal.
use Rattle.std.specs.Prelude.{ℕ, zero, suc, ◌+◌, List, [], ◌∷◌, Bool, true, false, cond, not, ◌&&◌, ◌||◌, length, drop, eqb}
use Rattle.std.proofs.Math.Option.{Option, none, some}
use Rattle.lexis.specs.Number as numbers
use Rattle.lexis.specs.declared.heredoc.Line.{Line}
use Rattle.lexis.specs.declared.heredoc.Line.TheVariants as heredoc_line
use Rattle.lexis.specs.declared.string.Why.{Why}
use Rattle.lexis.specs.declared.string.Why.TheVariants as why
use Rattle.lexis.specs.Bytes.{byte_at, is_foreign, stands}
use Rattle.lexis.specs.Trivia.{Stopping, Gap, gap_to, stop_to}
use Rattle.lexis.specs.Word.{ident_to, is_word, for_to}
use Rattle.lexis.specs.Number.{number_to, index_at}
use Rattle.lexis.specs.Operator.{op_at, is_mark, equals_to}
use Rattle.lexis.specs.Heredoc.{opener_at, line_at, line_end, fresh_at, part}
use Rattle.lexis.specs.String.{Mode, quoted, heredoc, unit_in, text_at}
use Rattle.lexis.specs.String as string
use Rattle.lexis.specs.Keys.{key_to, among}
use Rattle.grammar.specs.Kinds.{Foreign, Unexpected, Escape, Unclosed, Duplicate, Deep, Directive, Index}

-- ---- what a node is under

-- what is wanted at a place: an expression; a name; an object's item, which is handed the starts of the keys before it that may be compared;
-- a part of a traversal; a piece or an interpolation of the text whose template starts at a place; a for's condition
pub data Want : Type 0 where
  an_expression : Want
  a_name : Want
  an_item : List ℕ → Want
  a_part : Want
  a_piece : ℕ → Want
  a_condition : Want

-- the inherited attribute: how many levels may still open, whether a line end may stand there (multi-line mode), and what is wanted
pub record Under : Type 0 where
  pub left : ℕ
  pub lines : Bool
  pub want : Want

-- ---- what a move comes to

pub data Step : Type 0 where
  -- the place after it
  to : ℕ → Step
  -- the number of the refusal, and its place
  no : ℕ → ℕ → Step

abbrev pub then : Step → (ℕ → Step) → Step
then (to q) f = f q
then (no k q) f = no k q

abbrev pub place : Step → Option ℕ
place (to q) = some q
place (no k q) = none

abbrev pub refusal : Step → ℕ × ℕ
refusal (to q) = (Unexpected, q)
refusal (no k q) = (k, q)

abbrev pub when : Bool → Step → Step → Step
when true x y = x
when false x y = y

-- no rule takes what stands at p: a scalar of 128 or more is Foreign, all else Unexpected, at its first byte or the source's length
abbrev pub unexpected : List ℕ → ℕ → Step
unexpected s p = when (is_foreign (byte_at s p)) (no Foreign p) (no Unexpected p)

-- the end of a token, which is past p where the token stands
abbrev pub token : List ℕ → ℕ → ℕ → Step
token s p e = when (eqb e p) (unexpected s p) (to e)

-- ---- atoms

-- trivia: any, same-line space, or that of the mode round the node
pub data Space : Type 0 where
  any line here : Space

pub data Atom : Type 0 where
  -- trivia of a sort; an unclosed comment in it is Unclosed at its `/*`
  gap : Space → Atom
  -- these bytes, and none of the longer tokens that begin so
  mark : List ℕ → List (List ℕ) → Atom
  -- the same, opening a level: Deep at its first byte where none is left
  opens : List ℕ → List (List ℕ) → Atom
  -- this word as a whole identifier; the same, staying before it
  word : List ℕ → Atom
  ahead : List ℕ → Atom
  -- `for` with one of its six bytes behind it
  for : Atom
  ident number index : Atom
  -- the binary operator of a kind
  operator : ℕ → Atom
  -- a part of a traversal begins here: `[`, or `.` but not `..`; it stays
  parts : Atom
  -- anything but this byte; it stays
  unless : ℕ → Atom
  -- a comma and any trivia, or nothing
  comma : Atom
  -- what ends an object's item; before a `}` nothing, else that and any trivia
  stop ended : Atom
  -- an open parenthesis that opens a level, after the names of a call
  call : Atom
  -- a key that was not met before
  fresh : Atom
  -- a line ending
  ending : Atom
  -- the longest run of text after a quote, with (true) or without an escape; a piece, which has a byte at least
  run piece : Bool → Atom
  -- text or an interpolation goes on; it stays
  more : Atom
  -- the closing quote, or the closing line
  close : Atom

-- ---- the text round a place

-- the text of the template, string or heredoc that starts at a place
abbrev pub round : List ℕ → ℕ → Mode
round s t = cond (eqb (byte_at s t) 34) quoted (heredoc (part s (opener_at s t).from (opener_at s t).to))

abbrev pub unit_at : List ℕ → ℕ → ℕ → string.Unit
unit_at s t p = unit_in (round s t) (fresh_at s p) (drop p s)

-- the heredoc's delimiter closes it, or a foreign scalar stands behind it
abbrev pub closes_as : Line → ℕ → Step
closes_as heredoc_line.Text p = no Unexpected p
closes_as (heredoc_line.Closes e) p = to e
closes_as (heredoc_line.Foreign e) p = no Foreign e

abbrev pub closes : List ℕ → ℕ → ℕ → Step
closes s t p = closes_as (line_at (part s (opener_at s t).from (opener_at s t).to) s p) p

-- the text that starts at t ends at p: why
abbrev pub close_by : List ℕ → ℕ → ℕ → Why → Step
close_by s t p why.Quote = to (p + 1)
close_by s t p why.Interpolation = no Unexpected p
close_by s t p why.Directive = no Directive p
close_by s t p why.Escape = no Escape p
close_by s t p why.Closing = closes s t p
close_by s t p why.Foreign = closes s t p
close_by s t p why.End = no Unclosed t

abbrev pub close_as : List ℕ → ℕ → ℕ → string.Unit → Step
close_as s t p (string.is w bs e) = no Unexpected p
close_as s t p (string.not y) = close_by s t p y

abbrev pub goes_by : ℕ → Why → Step
goes_by p why.Quote = no Unexpected p
goes_by p why.Interpolation = to p
goes_by p why.Directive = no Unexpected p
goes_by p why.Escape = no Unexpected p
goes_by p why.Closing = no Unexpected p
goes_by p why.Foreign = no Unexpected p
goes_by p why.End = no Unexpected p

abbrev pub goes_as : ℕ → string.Unit → Step
goes_as p (string.is w bs e) = to p
goes_as p (string.not y) = goes_by p y

abbrev pub same : Bool → Bool → Bool
same true b = b
same false b = not b

-- a run of text from p to its end, if it is escaped or not as asked
abbrev pub runs : Bool → ℕ → string.Text → Step
runs e p t = when (same e t.escaped) (to (p + t.width)) (no Unexpected p)

-- the start of the template that a piece is of
abbrev pub text_start : Want → ℕ
text_start an_expression = 0
text_start a_name = 0
text_start (an_item ks) = 0
text_start a_part = 0
text_start (a_piece t) = t
text_start a_condition = 0

-- ---- keys

-- past the same-line space behind the token that the key at a begins with
abbrev pub behind_key : List ℕ → ℕ → ℕ
behind_key s a = (gap_to false s (key_to s a)).at

-- the key of an item that starts at a is that token alone: `=` or `:` follows it. Only such keys are compared
abbrev pub lone : List ℕ → ℕ → Bool
lone s a = not (eqb (equals_to s (behind_key s a)) (behind_key s a)) || is_mark (58 ∷ []) ((58 ∷ 58 ∷ []) ∷ []) s (behind_key s a)

-- the starts that are of such keys
unfoldable pub lones : List ℕ → List ℕ → List ℕ
lones s [] = []
lones s (a ∷ l) = cond (lone s a) (a ∷ lones s l) (lones s l)

abbrev pub keys_of : Want → List ℕ
keys_of an_expression = []
keys_of a_name = []
keys_of (an_item ks) = ks
keys_of a_part = []
keys_of (a_piece t) = []
keys_of a_condition = []

-- ---- the atoms at work

-- trivia from p: an unclosed comment is refused at its start
abbrev pub gap_step : Gap → Step
gap_step g = when g.unclosed (no Unclosed g.at) (to g.at)

abbrev pub lines_in : Under → Space → Bool
lines_in b any = true
lines_in b line = false
lines_in b here = b.lines

abbrev pub skip : List ℕ → Bool → ℕ → Step
skip s lines p = gap_step (gap_to lines s p)

abbrev pub marks : List ℕ → List ℕ → List (List ℕ) → ℕ → Step
marks s w longer p = when (is_mark w longer s p) (to (p + length w)) (unexpected s p)

abbrev pub level : ℕ → ℕ → Step → Step
level zero p x = no Deep p
level (suc n) p x = x

abbrev pub opening : List ℕ → ℕ → List ℕ → List (List ℕ) → ℕ → Step
opening s left w longer p = when (is_mark w longer s p) (level left p (to (p + length w))) (unexpected s p)

abbrev pub index_step : List ℕ → ℕ → numbers.Index → Step
index_step s p x = when (eqb x.end p) (unexpected s p) (when x.over (no Index p) (to x.end))

abbrev pub is_part : List ℕ → ℕ → Bool
is_part s p = is_mark (91 ∷ []) [] s p || is_mark (46 ∷ []) ((46 ∷ 46 ∷ []) ∷ []) s p

-- by how a stop is: none, its end, or a line comment that the source's end cuts
abbrev pub stop_step : List ℕ → ℕ → ℕ → Stopping → Step
stop_step s p zero x = unexpected s p
stop_step s p (suc zero) x = to x.at
stop_step s p (suc (suc n)) x = no Unexpected x.at

abbrev pub stopping : List ℕ → ℕ → Step
stopping s p = stop_step s p (stop_to s p).how (stop_to s p)

-- a `::` that no name can follow is refused where its trivia is
abbrev pub refused : Step → Step
refused (to q) = no Unexpected q
refused (no k q) = no k q

unfoldable pub atom : List ℕ → Under → ℕ → Atom → ℕ → Step
atom s b σ (gap g) p = skip s (lines_in b g) p
atom s b σ (mark w longer) p = marks s w longer p
atom s b σ (opens w longer) p = opening s b.left w longer p
atom s b σ (word w) p = when (is_word w s p) (to (p + length w)) (unexpected s p)
atom s b σ (ahead w) p = when (is_word w s p) (to p) (unexpected s p)
atom s b σ for p = token s p (for_to s p)
atom s b σ ident p = token s p (ident_to s p)
atom s b σ number p = token s p (number_to s p)
atom s b σ index p = index_step s p (index_at s p)
atom s b σ (operator k) p = when (eqb (op_at s p).kind k) (to (p + (op_at s p).width)) (unexpected s p)
atom s b σ parts p = when (is_part s p) (to p) (unexpected s p)
atom s b σ (unless c) p = when (eqb (byte_at s p) c) (unexpected s p) (to p)
atom s b σ comma p = when (eqb (byte_at s p) 44) (skip s true (p + 1)) (to p)
atom s b σ stop p = stopping s p
atom s b σ ended p = when (eqb (byte_at s p) 125) (to p) (then (stopping s p) (skip s true))
atom s b σ call p = when (stands (58 ∷ 58 ∷ []) s p) (refused (skip s b.lines (p + 2))) (opening s b.left (40 ∷ []) [] p)
atom s b σ fresh p = when (eqb (behind_key s σ) p && among s (keys_of b.want) σ) (no Duplicate σ) (to p)
atom s b σ ending p = token s p (p + line_end s p)
atom s b σ (run e) p = runs e p (text_at (round s σ) s p)
atom s b σ (piece e) p = then (runs e p (text_at (round s (text_start b.want)) s p)) (token s p)
atom s b σ more p = goes_as p (unit_at s σ p)
atom s b σ close p = close_as s σ p (unit_at s σ p)

-- ---- a move is made of atoms

abbrev pub Move : Type 0
Move = List Atom

unfoldable pub walk : List ℕ → Under → ℕ → Move → ℕ → Step
walk s b σ [] p = to p
walk s b σ (a ∷ m) p = then (atom s b σ a p) (walk s b σ m)
