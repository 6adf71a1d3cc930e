-- The byte at a place of the source, and the classes of bytes (01, "Reading rules": space, identifier, number).
use Rattle.std.specs.Prelude.{ℕ, zero, suc, ◌+◌, ◌*◌, ◌-◌, ◌≤◌, ◌≡◌, List, [], ◌∷◌, Bool, true, false, cond, ◌&&◌, ◌||◌, length, get_or, drop, leb, eqb, Option, Some, None}

-- no byte: what stands past the end of the source
abbrev pub nothing : ℕ
nothing = 256

abbrev pub byte_at : List ℕ → ℕ → ℕ
byte_at s p = get_or s p nothing

-- the bytes from one to another
abbrev pub is_within : ℕ → ℕ → ℕ → Bool
is_within low high b = leb low b && leb b high

-- space and tab
-- 01: "Space: space and tab."
abbrev pub is_space : ℕ → Bool
is_space b = eqb b 32 || eqb b 9

abbrev pub is_digit : ℕ → Bool
is_digit b = leb 48 b && leb b 57

abbrev pub is_letter : ℕ → Bool
is_letter b = (leb 65 b && leb b 90) || (leb 97 b && leb b 122)

abbrev pub is_hex : ℕ → Bool
is_hex b = is_digit b || (leb 65 b && leb b 70) || (leb 97 b && leb b 102)

-- an identifier is a letter or `_`, then letters, digits, `_`, `-`
abbrev pub is_start : ℕ → Bool
is_start b = is_letter b || eqb b 95

abbrev pub is_rest : ℕ → Bool
is_rest b = is_start b || is_digit b || eqb b 45

-- the first byte of a scalar of 128 or more, in well-formed UTF-8
abbrev pub is_foreign : ℕ → Bool
is_foreign b = leb 128 b && leb b 255

-- a number that is 0 for none
abbrev pub nonzero : ℕ → Option ℕ
nonzero zero = None
nonzero (suc n) = Some (suc n)

-- how many elements at the front of a list pass a test
unfoldable pub run : (ℕ → Bool) → List ℕ → ℕ
run t [] = 0
run t (x ∷ xs) = cond (t x) (suc (run t xs)) 0

-- the first place at or after p whose byte does not pass the test
abbrev pub run_to : (ℕ → Bool) → List ℕ → ℕ → ℕ
run_to t s p = p + run t (drop p s)

-- whether a list starts with the given bytes
unfoldable pub begins : List ℕ → List ℕ → Bool
begins [] xs = true
begins (b ∷ bs) [] = false
begins (b ∷ bs) (x ∷ xs) = eqb x b && begins bs xs

-- whether the given bytes stand at p
abbrev pub stands : List ℕ → List ℕ → ℕ → Bool
stands bs s p = begins bs (drop p s)

-- how many elements stand before the first tail of a list that passes a test; all of them where none passes
unfoldable pub up_to : (List ℕ → Bool) → List ℕ → ℕ
up_to t [] = 0
up_to t (x ∷ xs) = cond (t (x ∷ xs)) 0 (suc (up_to t xs))

-- `r` is the byte at p. The bound says, in a way that arithmetic reads, that what is less than `nothing` stands within the source
pub record Byte (s : List ℕ) (p r : ℕ) : Type 0 where
  pub is : r ≡ byte_at s p
  pub low : r ≤ 256
  pub here : 256 ≤ r + 256 * (length s - p)

-- `r` is the place `to`, not before p; it is within the source where p is, and p itself where p is not
pub record Ran (s : List ℕ) (p to r : ℕ) : Type 0 where
  pub is : r ≡ to
  pub low : p ≤ r
  pub high : r ≤ p + (length s - p)
