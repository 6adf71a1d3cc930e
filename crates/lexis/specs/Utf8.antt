-- Well-formed UTF-8 (Unicode, Table 3-7): sequences of one to four bytes, and sources that are made of them.
use Rattle.std.specs.Prelude.{ℕ, zero, suc, ◌+◌, ◌-◌, ◌/◌, ◌%◌, ◌≤◌, ◌<◌, max, ◌≡◌, List, [], ◌∷◌, ◌++◌, Bool, true, false, cond, ◌&&◌, ◌||◌, length, take, replicate, leb, ltb, eqb}

-- from a byte to a byte, both included
pub record Range : Type 0 where
  pub low : ℕ
  pub high : ℕ

infixl 60 ◌to◌
abbrev pub ◌to◌ : ℕ → ℕ → Range
l to h = record { low = l; high = h }

abbrev pub within : Range → ℕ → Bool
within r b = leb r.low b && leb b r.high

-- a row of the table: the first byte, and the bytes behind it
pub record Row : Type 0 where
  pub first : Range
  pub behind : List Range

abbrev pub row : Range → List Range → Row
row f rs = record { first = f; behind = rs }

abbrev pub tail : Range
tail = 0x80 to 0xBF

-- Table 3-7, "Well-Formed UTF-8 Byte Sequences"
unfoldable pub table : List Row
table =
    row (0x00 to 0x7F) []
    ∷ row (0xC2 to 0xDF) (tail ∷ [])
    ∷ row (0xE0 to 0xE0) ((0xA0 to 0xBF) ∷ tail ∷ [])
    ∷ row (0xE1 to 0xEC) (tail ∷ tail ∷ [])
    ∷ row (0xED to 0xED) ((0x80 to 0x9F) ∷ tail ∷ [])
    ∷ row (0xEE to 0xEF) (tail ∷ tail ∷ [])
    ∷ row (0xF0 to 0xF0) ((0x90 to 0xBF) ∷ tail ∷ tail ∷ [])
    ∷ row (0xF1 to 0xF3) (tail ∷ tail ∷ tail ∷ [])
    ∷ row (0xF4 to 0xF4) ((0x80 to 0x8F) ∷ tail ∷ tail ∷ [])
    ∷ []

-- a byte for each range at the front of the list
unfoldable pub fits : List Range → List ℕ → Bool
fits [] s = true
fits (r ∷ rs) [] = false
fits (r ∷ rs) (b ∷ s) = within r b && fits rs s

-- the width of the sequence that a first byte and the list behind it begin with, by the row that has the byte; 0 where none stands
unfoldable pub width_by : List Row → ℕ → List ℕ → ℕ
width_by [] b s = 0
width_by (r ∷ rs) b s = cond (within r.first b) (cond (fits r.behind s) (suc (length r.behind)) 0) (width_by rs b s)

-- the width of the well-formed sequence at the front of a list; 0 where none stands
unfoldable pub sequence : List ℕ → ℕ
sequence [] = 0
sequence (b ∷ s) = width_by table b s

-- the width of a sequence by the list behind its first byte: a byte from low to high, then n - 1 tails
abbrev pub behind_of : List ℕ → ℕ → ℕ → ℕ → ℕ
behind_of l low high n = cond (fits ((low to high) ∷ replicate (n - 1) tail) l) (n + 1) 0

-- a source is well formed if it is sequences, one after the other
pub data Formed : List ℕ → Type 0 where
  none : Formed []
  more : (w s : List ℕ) → 0 < length w → sequence w ≡ length w → Formed s → Formed (w ++ s)

-- how many bytes at the front of a list are whole sequences, after n bytes that are passed unseen
unfoldable pub good_after : ℕ → List ℕ → ℕ
good_after n [] = 0
good_after (suc n) (b ∷ s) = suc (good_after n s)
good_after zero (b ∷ s) = cond (eqb (sequence (b ∷ s)) 0) 0 (suc (good_after (sequence (b ∷ s) - 1) s))

-- the first byte of the first bad sequence; the length where there is none
abbrev pub first_bad : List ℕ → ℕ
first_bad s = good_after 0 s

-- r is that place, which is within the source or its end
pub record FirstBad (s : List ℕ) (r : ℕ) : Type 0 where
  pub is : r ≡ first_bad s
  pub high : r ≤ length s

-- the greatest byte of a list; 0 where it has none
unfoldable pub greatest : List ℕ → ℕ
greatest [] = 0
greatest (b ∷ s) = max b (greatest s)

-- whether a list begins with a whole block of 64 bytes, all of them ASCII
abbrev pub ascii_block : List ℕ → Bool
ascii_block s = leb 64 (length s) && ltb (greatest (take 64 s)) 0x80

-- a Unicode scalar value: no surrogate, and nothing over 10FFFF
abbrev pub is_scalar : ℕ → Bool
is_scalar v = ltb v 0xD800 || (ltb 0xDFFF v && leb v 0x10FFFF)

-- the last six bits of v, as a byte behind the first
abbrev pub six : ℕ → ℕ
six v = 0x80 + v % 64

-- a scalar in UTF-8
unfoldable pub encoded : ℕ → List ℕ
encoded v =
    cond (ltb v 0x80) (v ∷ [])
    (cond (ltb v 0x800) ((0xC0 + v / 64) ∷ six v ∷ [])
    (cond (ltb v 0x10000) ((0xE0 + v / 4096) ∷ six (v / 64) ∷ six v ∷ [])
    ((0xF0 + v / 262144) ∷ six (v / 4096) ∷ six (v / 64) ∷ six v ∷ [])))
