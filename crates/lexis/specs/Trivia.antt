-- Trivia: space, line endings and comments (01, "Reading rules": space, line ending, comments, the two modes), and what ends an object's item.
use Rattle.std.specs.Prelude.{ℕ, suc, zero, ◌+◌, ◌-◌, ◌≤◌, ◌≡◌, List, [], ◌∷◌, Bool, true, false, cond, ◌||◌, length, drop, ltb, eqb, Result, Ok, Err}
use Rattle.lexis.specs.Bytes.{byte_at, is_space, begins, up_to}
use Rattle.lexis.specs.declared.trivia.Unclosed.{Unclosed}
use Rattle.lexis.specs.declared.trivia.Stop.{Stop}
use Rattle.lexis.specs.declared.trivia.Stop.TheVariants.{Nothing, End, Cut}

-- the width of the line ending at the front of a list: LF is 1, CRLF is 2; 0 where none stands, a lone CR among that
-- 01: "Line ending: LF or CRLF; a lone CR outside literal text and comments is Unexpected."
abbrev pub ending : List ℕ → ℕ
ending xs = cond (begins (10 ∷ []) xs) 1 (cond (begins (13 ∷ 10 ∷ []) xs) 2 0)

abbrev pub ends_line : List ℕ → Bool
ends_line xs = ltb 0 (ending xs)

-- whether a line comment starts at the front of a list: `#` or `//`
abbrev pub starts_comment : List ℕ → Bool
starts_comment xs = begins (35 ∷ []) xs || begins (47 ∷ 47 ∷ []) xs

-- whether a comment, of one line or more, can start with a byte
abbrev pub opens_comment : ℕ → Bool
opens_comment b = eqb b 47 || eqb b 35

-- the width of a line comment up to its line ending, or to the end of the source
abbrev pub comment : List ℕ → ℕ
comment xs = up_to ends_line xs

-- one item of trivia: none, one of so many bytes, or a block comment that nothing closes
pub data Item : Type 0 where
  none : Item
  wide : ℕ → Item
  endless : Item

-- a block comment, from what follows its `/*`: to the first `*/`, and with it
abbrev pub block_as : ℕ → List ℕ → Item
block_as n [] = endless
block_as n (x ∷ xs) = wide (n + 4)

abbrev pub closes : List ℕ → Bool
closes xs = begins (42 ∷ 47 ∷ []) xs

-- 01: "Comments: `#` or `//` to the line ending, `/* */` unnested."
abbrev pub block : List ℕ → Item
block xs = block_as (up_to closes xs) (drop (up_to closes xs) xs)

-- what only the trivia of several lines has: line endings, and line comments with their endings
abbrev pub line_item : List ℕ → Item
line_item xs =
    cond (ends_line xs) (wide (ending xs))
    (cond (starts_comment xs) (wide (comment xs + ending (drop (comment xs) xs))) none)

-- the item of trivia at the front of a list; `lines` says whether line endings count
-- 01: "Single-line mode takes space and block comments, with any line endings inside those, and this is what same-line space means below; multi-line mode takes all trivia."
unfoldable pub item : Bool → List ℕ → Item
item lines xs =
    cond (is_space (byte_at xs 0)) (wide 1)
    (cond (begins (47 ∷ 42 ∷ []) xs) (block (drop 2 xs)) (cond lines (line_item xs) none))

-- where trivia ends, or where the block comment starts that nothing closes
pub record Gap : Type 0 where
  pub at : ℕ
  pub unclosed : Bool

abbrev pub ends_at : ℕ → Gap
ends_at p = record { at = p; unclosed = false }

abbrev pub open_at : ℕ → Gap
open_at p = record { at = p; unclosed = true }

-- the same as the code has it
abbrev pub gap_of : Result ℕ Unclosed → Gap
gap_of (Ok q) = ends_at q
gap_of (Err e) = open_at e.at

-- an item at p, as a place: p itself where none stands
abbrev pub placed : ℕ → Item → Gap
placed p none = ends_at p
placed p (wide n) = ends_at (p + n)
placed p endless = open_at p

-- trivia goes on past an item, by `on`, which is told how many bytes of the item are left after its first
abbrev pub passing : ℕ → (ℕ → Gap) → Item → Gap
passing p on none = ends_at p
passing p on (wide zero) = ends_at p
passing p on (wide (suc n)) = on n
passing p on endless = open_at p

-- the trivia at the front of a list that starts at p: items as long as there are any. The number is how many bytes of an item are still to pass
unfoldable pub gap : Bool → ℕ → ℕ → List ℕ → Gap
gap lines p n [] = ends_at p
gap lines p (suc n) (x ∷ xs) = gap lines (suc p) n xs
gap lines p zero (x ∷ xs) = passing p (λ n. gap lines (suc p) n xs) (item lines (x ∷ xs))

abbrev pub gap_to : Bool → List ℕ → ℕ → Gap
gap_to lines s p = gap lines p 0 (drop p s)

-- `r` is the width of the line ending at p
pub record Ending (s : List ℕ) (p r : ℕ) : Type 0 where
  pub is : r ≡ ending (drop p s)
  pub inside : r ≤ length s - p

-- `r` is an item at p, as a place
pub record Placed (x : Item) (s : List ℕ) (p : ℕ) (r : Gap) : Type 0 where
  pub is : r ≡ placed p x
  pub low : p ≤ r.at
  pub high : r.at ≤ p + (length s - p)

-- `r` is the item of trivia at p, as a place
abbrev pub Itemed : Bool → List ℕ → ℕ → Gap → Type 0
Itemed lines s p r = Placed (item lines (drop p s)) s p r

-- `r` is the place of trivia's end or of the unclosed comment. Past the end of the source nothing stands
pub record Gapped (lines : Bool) (s : List ℕ) (p : ℕ) (r : Gap) : Type 0 where
  pub is : r ≡ gap_to lines s p
  pub low : p ≤ r.at
  pub high : r.at ≤ p + (length s - p)
  pub inside : r.unclosed ≡ true → suc r.at ≤ length s

-- what ends an object's item (01: `,`, a line ending, a line comment with its ending): nothing does (0), its end (1),
-- or a line comment that the source's end cuts (2), at the source's length
pub record Stopping : Type 0 where
  pub at : ℕ
  pub how : ℕ

abbrev pub stop_at : ℕ → ℕ → Stopping
stop_at how p = record { at = p; how = how }

-- the same as the code has it, at the place p: for an item, and for a line comment
abbrev pub stop_of : ℕ → Stop → Stopping
stop_of p Nothing = stop_at 0 p
stop_of p (End q) = stop_at 1 q
stop_of p (Cut q) = stop_at 2 q

abbrev pub comment_of : Result ℕ ℕ → Stopping
comment_of (Ok q) = stop_at 1 q
comment_of (Err q) = stop_at 2 q

-- a line comment whose text ends at `e`, with a line ending of so many bytes
abbrev pub stop_comment : ℕ → ℕ → Stopping
stop_comment e zero = stop_at 2 e
stop_comment e (suc n) = stop_at 1 (e + suc n)

abbrev pub line_comment : ℕ → List ℕ → Stopping
line_comment p xs = stop_comment (p + comment xs) (ending (drop (comment xs) xs))

abbrev pub stop : ℕ → List ℕ → Stopping
stop p xs =
    cond (begins (44 ∷ []) xs) (stop_at 1 (p + 1))
    (cond (ends_line xs) (stop_at 1 (p + ending xs)) (cond (starts_comment xs) (line_comment p xs) (stop_at 0 p)))

abbrev pub stop_to : List ℕ → ℕ → Stopping
stop_to s p = stop p (drop p s)

-- `r` is the first LF at or after p, or the source's end: a line comment whose text goes on at p is the same from there
pub record Lined (s : List ℕ) (p r : ℕ) : Type 0 where
  pub is : line_comment r (drop r s) ≡ line_comment p (drop p s)
  pub lf : suc r ≤ length s → byte_at s r ≡ 10
  pub low : p ≤ r
  pub high : r ≤ p + (length s - p)

-- `r` is where the line comment ends whose text goes on at p
pub record Commented (s : List ℕ) (p : ℕ) (r : Stopping) : Type 0 where
  pub is : r ≡ line_comment p (drop p s)
  pub low : p ≤ r.at
  pub high : r.at ≤ p + (length s - p)

-- `r` is what ends an item at p
pub record Stopped (s : List ℕ) (p : ℕ) (r : Stopping) : Type 0 where
  pub is : r ≡ stop_to s p
  pub low : p ≤ r.at
  pub high : r.at ≤ p + (length s - p)
