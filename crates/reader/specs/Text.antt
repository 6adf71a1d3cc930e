-- What the functions on strings and pieces of text say.
use Rattle.std.specs.Prelude.{ℕ, ◌≤◌, ◌≡◌, List, Bool, cond, length, Result, Ok, Err}
use Rattle.std.proofs.Math.Option.{some}
use Rattle.grammar.specs.declared.kinds.Refused.{Refused}
use Rattle.lexis.specs.declared.string.Why.{Why}
use Rattle.lexis.specs.declared.string.Why.TheVariants as why
use Rattle.lexis.specs.Bytes.{byte_at}
use Rattle.lexis.specs.Heredoc.{opener_at}
use Rattle.lexis.specs.String.{text_at, mode_of}
use Rattle.lexis.specs.String as string
use Rattle.grammar.specs.Moves.{an_expression, to, no, close_by}
use Rattle.grammar.specs.Moves as moves
use Rattle.grammar.specs.Hcl.{under, pick_at}
use Rattle.grammar.specs.Table.{record_of, span}
use Rattle.reader.specs.Buffer.{put_at}
use Rattle.reader.specs.Said.{Step, step_of, halted, Heads, Said}

-- flag 1: with an escape or an escaped marker
abbrev pub flag_of : Bool → ℕ
flag_of e = cond e 1 0

-- ---- how a text ends

-- a move as an answer
abbrev pub step_from : moves.Step → Step
step_from (to q) = step_of 0 q 0 0
step_from (no k q) = step_of k q 0 0

-- the same of the code's answer, which is where the text ends
abbrev pub ended : Result ℕ Refused → Step
ended (Ok q) = step_of 0 q 0 0
ended (Err e) = halted e

-- where a line closes the text that starts at t, its delimiter stands from d to e
abbrev pub Delimited : List ℕ → ℕ → ℕ → ℕ → Why → Type 0
Delimited s t d e why.Quote = Unit {0}
Delimited s t d e why.Interpolation = Unit {0}
Delimited s t d e why.Directive = Unit {0}
Delimited s t d e why.Escape = Unit {0}
Delimited s t d e why.Closing = ((opener_at s t).from ≡ d) × ((opener_at s t).to ≡ e)
Delimited s t d e why.Foreign = ((opener_at s t).from ≡ d) × ((opener_at s t).to ≡ e)
Delimited s t d e why.End = Unit {0}

-- `r` is how the text that starts at t ends at q
pub record Ends (s : List ℕ) (t q d e : ℕ) (y : Why) (r : Step) : Type 0 where
  pub is : Delimited s t d e y → r ≡ step_from (close_by s t q y)

-- ---- a piece

-- what a piece from `from` to `to` asks, with n bytes of text from u on: the numbers fit its record
pub record Piecing (u from to n : ℕ) : Type 0 where
  pub low : from ≤ to
  pub small : to ≤ 65535
  pub used : u ≤ 65535
  pub short : n ≤ 65535

-- its record is the i-th, its text, where it is escaped, stands from u on; `r` is how many bytes of text it has there
pub record Pieced (s : List ℕ) (i u from to : ℕ) (escaped : Bool) (n : ℕ) (plain : Bool) (d e : ℕ) (b b' x x' : List ℕ) (r : ℕ) : Type 0 where
  pub is : r ≡ cond escaped n 0
  pub laid : b' ≡ put_at b i (record_of 9 (flag_of escaped) from to 1 (span 9 (flag_of escaped) from to u n))
  pub written : x' ≡ cond escaped (string.laid x u (text_at (mode_of s plain d e) s from).bytes) x

-- ---- a string

-- what a string at p asks: a quote stands there, in a source of at most 65,535 bytes
pub record Quoting (s : List ℕ) (i u p : ℕ) : Type 0 where
  pub small : length s ≤ 65535
  pub quote : byte_at s p ≡ 34
  pub few : i ≤ p
  pub used : u ≤ p

-- the answer of a string at p, wherever one is called for; it does not look at the keys
pub record SaidString (s : List ℕ) (i u p : ℕ) (b b' x x' : List ℕ) (r : Step) : Type 0 where
  pub said : (left : ℕ) (lines : Bool) → pick_at s (under left lines an_expression) p ≡ some 6
      → (k : ℕ) (y : List ℕ) → Said (Heads s (under left lines an_expression) p) s i u k p b b' x x' y y r
