-- Literal text, quoted and in heredocs (01, "Reading rules"): units, and the longest run of units.
use Rattle.std.specs.Prelude.{ℕ, zero, suc, ◌+◌, ◌-◌, ◌*◌, ◌/◌, ◌%◌, ◌≤◌, ◌≡◌, List, [], ◌∷◌, ◌++◌, Bool, true, false, cond, ◌&&◌, ◌||◌, length, take, drop, leb, eqb, Result, Ok, Err, IfOk}
use Rattle.std.proofs.Math.Bool as bool
use Rattle.std.proofs.Math.Option.{Option, none, some}
use Rattle.lexis.specs.Bytes.{byte_at, is_digit, is_hex}
use Rattle.lexis.specs.Utf8.{is_scalar, encoded}
use Rattle.lexis.specs.Heredoc.{closing, fresh_at, part}
use Rattle.lexis.specs.declared.string.Round.{Round}
use Rattle.lexis.specs.declared.string.Round.TheVariants as rounds
use Rattle.lexis.specs.declared.heredoc.Line.{Line}
use Rattle.lexis.specs.declared.heredoc.Line.TheVariants as line
use Rattle.lexis.specs.declared.string.Why.{Why}
use Rattle.lexis.specs.declared.string.Why.TheVariants.{Quote, Interpolation, Directive, Escape, Closing, Foreign, End}
use Rattle.lexis.specs.declared.string.Unit.{Unit as Made}
use Rattle.lexis.specs.declared.string.Run.{Run}

-- the text round a run: quoted, or a heredoc with its delimiter
pub data Mode : Type 0 where
  quoted : Mode
  heredoc : List ℕ → Mode

-- a unit: its width in the source, its unescaped bytes, and whether it is an escape or an escaped marker; or why none stands
pub data Unit : Type 0 where
  is : ℕ → List ℕ → Bool → Unit
  not : Why → Unit

abbrev pub plain : ℕ → Unit
plain b = is 1 (b ∷ []) false

-- the value of a hexadecimal digit
abbrev pub hex_of : ℕ → ℕ
hex_of b = cond (is_digit b) (b - 48) (cond (leb 97 b) (b - 87) (b - 55))

-- the value of n hexadecimal digits at the front, after digits that are worth v
unfoldable pub hexes : ℕ → ℕ → List ℕ → Option ℕ
hexes v zero s = some v
hexes v (suc n) [] = none
hexes v (suc n) (b ∷ s) = cond (is_hex b) (hexes (v * 16 + hex_of b) n s) none

-- an escape of w bytes that is worth v
abbrev pub scalar_of : ℕ → ℕ → Unit
scalar_of w v = cond (is_scalar v) (is w (encoded v) true) (not Escape)

-- a backslash, a letter, and n digits that are worth v
abbrev pub scalar_as : ℕ → Option ℕ → Unit
scalar_as n none = not Escape
scalar_as n (some v) = scalar_of (n + 2) v

abbrev pub scalar : ℕ → List ℕ → Unit
scalar n s = scalar_as n (hexes 0 n s)

abbrev pub short : ℕ → Unit
short b = is 2 (b ∷ []) true

-- the escape whose letter is b, with s behind it: `\n \r \t \\ \"`, `\uXXXX`, `\UXXXXXXXX`
-- 01: "`\n \r \t \\ \"`, `\u` with 4 hex digits, `\U` with 8, no surrogate, none over 10FFFF."
unfoldable pub escape : ℕ → List ℕ → Unit
escape b s =
    cond (eqb b 110) (short 10)
    (cond (eqb b 114) (short 13)
    (cond (eqb b 116) (short 9)
    (cond (eqb b 92) (short 92)
    (cond (eqb b 34) (short 34)
    (cond (eqb b 117) (scalar 4 s)
    (cond (eqb b 85) (scalar 8 s)
    (not Escape)))))))

-- `$` or `%`, b, with c and d behind it: `$${` is `${`, and `${` ends the text
-- 01: "`$${` gives `${`, `%%{` gives `%{`."
abbrev pub marker : Why → ℕ → ℕ → ℕ → Unit
marker w b c d = cond (eqb c b && eqb d 123) (is 3 (b ∷ 123 ∷ []) true) (cond (eqb c 123) (not w) (plain b))

-- the unit at the front of a list, in quoted text (q) or in a heredoc
-- 01: "Raw line endings are text."
unfoldable pub unit : Bool → List ℕ → Unit
unit q [] = not End
unit q (b ∷ s) =
    cond (eqb b 36) (marker Interpolation b (byte_at s 0) (byte_at s 1))
    (cond (eqb b 37) (marker Directive b (byte_at s 0) (byte_at s 1))
    (cond (q && eqb b 34) (not Quote)
    (cond (q && eqb b 92) (escape (byte_at s 0) (drop 1 s))
    (plain b))))

-- what a line of a heredoc does to the text: a closing line ends it
abbrev pub line_or : Line → Unit → Unit
line_or line.Text u = u
line_or (line.Closes e) u = not Closing
line_or (line.Foreign e) u = not Foreign

-- the unit at the front of a list; f: a line starts there
-- 01: "Heredoc text has no backslash escapes."
abbrev pub unit_in : Mode → Bool → List ℕ → Unit
unit_in m f [] = not End
unit_in quoted f (b ∷ s) = unit true (b ∷ s)
unit_in (heredoc d) false (b ∷ s) = unit false (b ∷ s)
unit_in (heredoc d) true (b ∷ s) = line_or (closing d (b ∷ s)) (unit false (b ∷ s))

-- a byte b that is text as it stands: neither `$` nor `%`; in quoted text (q) neither a quote nor a backslash, and in a heredoc no LF, with which a line ends
abbrev pub plain_in : Bool → ℕ → Bool
plain_in q b = cond (eqb b 36 || eqb b 37 || eqb b 256) false (cond q (bool.not (eqb b 34) && bool.not (eqb b 92)) (bool.not (eqb b 10)))

-- a run of units: its width in the source, why it ends, whether a unit was an escape or an escaped marker, and its unescaped text
pub record Text : Type 0 where
  pub width : ℕ
  pub why : Why
  pub escaped : Bool
  pub bytes : List ℕ

abbrev pub ended : Why → Text
ended w = record { width = 0; why = w; escaped = false; bytes = [] }

-- a byte more at the front of a run, which gives some text
abbrev pub added : List ℕ → Bool → Text → Text
added bs e t = record { width = suc t.width; why = t.why; escaped = e || t.escaped; bytes = bs ++ t.bytes }

abbrev pub unit_else : Unit → (ℕ → List ℕ → Bool → Text) → Text
unit_else (is w bs e) f = f w bs e
unit_else (not why) f = ended why

-- the longest run of units at the front of a list, after n bytes that belong to the unit before
unfoldable pub text_after : Mode → Bool → ℕ → List ℕ → Text
text_after m f n [] = ended End
text_after m f (suc n) (b ∷ s) = added [] false (text_after m (eqb b 10) n s)
text_after m f zero (b ∷ s) = unit_else (unit_in m f (b ∷ s)) (λ w bs e. added bs e (text_after m (eqb b 10) (w - 1) s))

-- the longest run of literal text from p
abbrev pub text_at : Mode → List ℕ → ℕ → Text
text_at m s p = text_after m (fresh_at s p) 0 (drop p s)

-- the text round a run as the code has it: quoted, or a heredoc whose delimiter stands in the source from d to e
abbrev pub mode_of : List ℕ → Bool → ℕ → ℕ → Mode
mode_of s true d e = quoted
mode_of s false d e = heredoc (part s d e)

-- the same of the code's enum
abbrev pub quoted_of : Round → Bool
quoted_of rounds.Quoted = true
quoted_of (rounds.Heredoc d e) = false

abbrev pub from_of : Round → ℕ
from_of rounds.Quoted = 0
from_of (rounds.Heredoc d e) = d

abbrev pub to_of : Round → ℕ
to_of rounds.Quoted = 0
to_of (rounds.Heredoc d e) = e

abbrev pub mode_from : List ℕ → Round → Mode
mode_from s r = mode_of s (quoted_of r) (from_of r) (to_of r)

-- what the code says of a run from p
abbrev pub run_of : ℕ → Text → Run
run_of p t = record { end = p + t.width; why = t.why; escaped = t.escaped; length = length t.bytes }

abbrev pub run_at : Mode → List ℕ → ℕ → Run
run_at m s p = run_of p (text_at m s p)

-- up to four bytes in one number, the first lowest
unfoldable pub packed : List ℕ → ℕ
packed [] = 0
packed (b ∷ bs) = b + 256 * packed bs

-- n bytes out of one number
unfoldable pub unpacked : ℕ → ℕ → List ℕ
unpacked zero v = []
unpacked (suc n) v = (v % 256) ∷ unpacked n (v / 256)

-- a unit in numbers: its width, its bytes in one number, and how many they are; and why none stands
pub record Piece : Type 0 where
  pub width : ℕ
  pub bytes : ℕ
  pub count : ℕ
  pub why : Why

abbrev pub piece_is : ℕ → ℕ → ℕ → Piece
piece_is w b n = record { width = w; bytes = b; count = n; why = End }

-- where none stands, its width is 0
abbrev pub piece_of : Unit → Piece
piece_of (is w bs e) = piece_is w (packed bs) (length bs)
piece_of (not why) = record { width = 0; bytes = 0; count = 0; why = why }

-- the same of what the code answers
abbrev pub piece_from : Result Made Why → Piece
piece_from (Ok u) = piece_is u.width u.bytes u.count
piece_from (Err y) = piece_of (not y)

-- what the code answers for a unit
abbrev pub made_of : ℕ → ℕ → ℕ → Made
made_of w b n = record { width = w; bytes = b; count = n }

abbrev pub answer_of : Unit → Result Made Why
answer_of (is w bs e) = Ok (made_of w (packed bs) (length bs))
answer_of (not y) = Err y

-- r is the unit at p, within the source, and its text is no longer than it is
pub record UnitHere (s : List ℕ) (u : Unit) (p : ℕ) (r : Piece) : Type 0 where
  pub is : r ≡ piece_of u
  pub high : r.width ≤ length s - p
  pub few : r.count ≤ r.width
  pub small : r.count ≤ 4

-- r is what the code answers of the unit at p; one that stands has a width
pub record UnitAt (s : List ℕ) (u : Unit) (p : ℕ) (r : Result Made Why) : Type 0 where
  pub here : UnitHere s u p (piece_from r)
  pub wide : IfOk r (λ v. 1 ≤ v.width)

-- r is the run from p. It ends within the source, or at p where p is past its end; its text is no longer than the run
pub record RunHere (m : Mode) (s : List ℕ) (p : ℕ) (r : Run) : Type 0 where
  pub is : r ≡ run_at m s p
  pub low : p ≤ r.end
  pub high : r.end ≤ p + (length s - p)
  pub short : p + r.length ≤ r.end

-- text laid over a buffer at a place; where it does not fit the buffer stays as it is
abbrev pub fits_at : List ℕ → ℕ → List ℕ → Bool
fits_at b at text = leb (at + length text) (length b)

abbrev pub laid : List ℕ → ℕ → List ℕ → List ℕ
laid b at text = cond (fits_at b at text) (take at b ++ text ++ drop (at + length text) b) b

-- r says whether the text fits the buffer b at a place; where it does, the buffer has it there at the end and is the same elsewhere, and else it is as it was
pub record Wrote (b b' : List ℕ) (at : ℕ) (text : List ℕ) (r : Bool) : Type 0 where
  pub is : r ≡ fits_at b at text
  pub laid : b' ≡ laid b at text
