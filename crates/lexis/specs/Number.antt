-- Numbers, and the legacy index with its limit.
use Rattle.std.specs.Prelude.{ℕ, ◌+◌, ◌*◌, ◌-◌, ◌≤◌, ◌≡◌, List, [], ◌∷◌, Bool, cond, ◌&&◌, ◌||◌, length, take, drop, eqb, ltb, true, false, Result, Ok, Err}
use Rattle.lexis.specs.Bytes.{byte_at, run_to, is_digit}
use Rattle.lexis.specs.declared.number.Over.{Over}

abbrev pub digits_to : List ℕ → ℕ → ℕ
digits_to s p = run_to is_digit s p

-- the end of the `.` and digits at p; p where they do not stand
abbrev pub fraction_to : List ℕ → ℕ → ℕ
fraction_to s p = cond (eqb (byte_at s p) 46 && is_digit (byte_at s (p + 1))) (digits_to s (p + 1)) p

-- past the sign at p, if there is one
abbrev pub sign_to : List ℕ → ℕ → ℕ
sign_to s p = cond (eqb (byte_at s p) 43 || eqb (byte_at s p) 45) (p + 1) p

abbrev pub is_exponent : ℕ → Bool
is_exponent b = eqb b 101 || eqb b 69

-- the end of the `e` or `E`, the sign if there is one, and the digits at p; p where they do not stand
abbrev pub exponent_to : List ℕ → ℕ → ℕ
exponent_to s p =
    cond (is_exponent (byte_at s p) && is_digit (byte_at s (sign_to s (p + 1))))
    (digits_to s (sign_to s (p + 1)))
    p

-- the end of the longest number at p; p where none starts
-- 01: "Number: digits, then optionally `.` digits, then optionally `e` or `E`, an optional `+` or `-`, and digits; longest first."
abbrev pub number_to : List ℕ → ℕ → ℕ
number_to s p = cond (is_digit (byte_at s p)) (exponent_to s (fraction_to s (digits_to s p))) p

-- the end of the legacy index at p: 0, or 1 to 9 and digits; p where none starts
abbrev pub index_to : List ℕ → ℕ → ℕ
index_to s p = cond (eqb (byte_at s p) 48) (p + 1) (digits_to s p)

-- the value of a list of digits that follow digits of the value v
unfoldable pub value_from : ℕ → List ℕ → ℕ
value_from v [] = v
value_from v (d ∷ ds) = value_from (10 * v + (d - 48)) ds

abbrev pub value : List ℕ → ℕ
value ds = value_from 0 ds

-- the largest index
abbrev pub limit : ℕ
limit = 18446744073709551615

-- the bytes of the legacy index at p
abbrev pub index_bytes : List ℕ → ℕ → List ℕ
index_bytes s p = take (index_to s p - p) (drop p s)

-- the end of an index, and whether its value is over the limit
pub record Index : Type 0 where
  pub end : ℕ
  pub over : Bool

-- the same as the code has it
abbrev pub index_of : Result ℕ Over → Index
index_of (Ok q) = record { end = q; over = false }
index_of (Err e) = record { end = e.end; over = true }

abbrev pub index_at : List ℕ → ℕ → Index
index_at s p = record { end = index_to s p; over = ltb limit (value (index_bytes s p)) }

-- `r` is the index at p
pub record Indexed (s : List ℕ) (p : ℕ) (r : Index) : Type 0 where
  pub is : r ≡ index_at s p
  pub low : p ≤ r.end
  pub high : r.end ≤ p + (length s - p)
