-- Heredocs (01, "Reading rules", and its open points): the opener, and the line that closes the text.
use Rattle.std.specs.Prelude.{ℕ, zero, suc, ◌+◌, ◌-◌, ◌≤◌, ◌≡◌, List, Bool, true, false, cond, ◌&&◌, length, take, drop, eqb, Result, Ok, Err}
use Rattle.lexis.specs.Bytes.{byte_at, is_space, is_start, is_rest, is_foreign, run, begins}
use Rattle.lexis.specs.Trivia.{ending}
use Rattle.lexis.specs.Word.{ident_to}
use Rattle.lexis.specs.declared.heredoc.Line.{Line}
use Rattle.lexis.specs.declared.heredoc.Line.TheVariants.{Text, Closes, Foreign}
use Rattle.lexis.specs.declared.heredoc.Opener as declared

-- the bytes of the source from a to e
abbrev pub part : List ℕ → ℕ → ℕ → List ℕ
part s a e = take (e - a) (drop a s)

-- at a delimiter that ends at e, with byte b behind it: an identifier character makes it text, a scalar of 128 or more is foreign, and all else lets it close
abbrev pub ends_by : ℕ → ℕ → Line
ends_by e b = cond (is_rest b) Text (cond (is_foreign b) (Foreign e) (Closes e))

-- what the line at the front of a list is, for the delimiter d: text, the closing line, or foreign. A closing line is spaces and tabs, then the delimiter, then no
-- identifier character; the number is where the delimiter ends
-- 01: "Only the first line that is optional space, then the delimiter, then no identifier character, closes it, the line after the opener included (the Rust may take that one as text)."
unfoldable pub closing : List ℕ → List ℕ → Line
closing d l =
    cond (begins d (drop (run is_space l) l))
    (ends_by (run is_space l + length d) (byte_at l (run is_space l + length d)))
    Text

-- the same in the source, at the place p
-- 01: "A scalar of 128 or more right after a delimiter there is Foreign."
abbrev pub line_as : ℕ → Line → Line
line_as p Text = Text
line_as p (Closes e) = Closes (p + e)
line_as p (Foreign e) = Foreign (p + e)

abbrev pub line_at : List ℕ → List ℕ → ℕ → Line
line_at d s p = line_as p (closing d (drop p s))

-- a line starts at p: the byte before it is LF
-- 01: "A line starts after the opener or a line ending in literal text."
abbrev pub fresh_at : List ℕ → ℕ → Bool
fresh_at s zero = false
fresh_at s (suc p) = eqb (byte_at s p) 10

-- the width of the line ending at p; 0 where none stands
-- 01: "The line ending before it is text."
abbrev pub line_end : List ℕ → ℕ → ℕ
line_end s p = ending (drop p s)

-- an opener: its flag, its delimiter from `from` to `to`, and at `at` the start of the text; or, not good, the place at which something else stands
pub record Opener : Type 0 where
  pub good : Bool
  pub dash : Bool
  pub from : ℕ
  pub to : ℕ
  pub at : ℕ

abbrev pub fails : ℕ → Opener
fails p = record { good = false; dash = false; from = 0; to = 0; at = p }

abbrev pub opens : Bool → ℕ → ℕ → ℕ → Opener
opens f d e t = record { good = true; dash = f; from = d; to = e; at = t }

-- the same as the code has it
abbrev pub opener_of : Result declared.Opener ℕ → Opener
opener_of (Ok o) = opens o.dash o.from o.to o.at
opener_of (Err p) = fails p

-- after the delimiter from d to e, a line ending
abbrev pub opener_end : List ℕ → Bool → ℕ → ℕ → Opener
opener_end s f d e = cond (eqb (line_end s e) 0) (fails e) (opens f d e (e + line_end s e))

-- after `<<` or `<<-`, an identifier
abbrev pub opener_word : List ℕ → Bool → ℕ → Opener
opener_word s f d = cond (is_start (byte_at s d)) (opener_end s f d (ident_to s d)) (fails d)

-- the opener at p: `<<`, perhaps `-`, an identifier, a line ending, with nothing between; where it fails, the place at which something else stands
unfoldable pub opener_at : List ℕ → ℕ → Opener
opener_at s p =
    cond (eqb (byte_at s p) 60 && eqb (byte_at s (p + 1)) 60)
    (cond (eqb (byte_at s (p + 2)) 45) (opener_word s true (p + 3)) (opener_word s false (p + 2)))
    (fails p)

-- r is the opener o, read from p on. Its place is not before p, and is within the source where p is; its delimiter is before that place
pub record Opened (o : Opener) (s : List ℕ) (p : ℕ) (r : Opener) : Type 0 where
  pub is : r ≡ o
  pub low : p ≤ r.at
  pub high : r.at ≤ p + (length s - p)
  pub named : r.from ≤ r.to
  pub ended : r.to ≤ r.at
