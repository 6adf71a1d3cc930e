-- Equal keys of an object (01, "Duplicate"): two bare keys of equal bytes, two plain strings of equal text.
use Rattle.std.specs.Prelude.{ℕ, ◌+◌, List, [], ◌∷◌, Bool, true, false, cond, ◌&&◌, ◌||◌, take, drop, eqb}
use Rattle.lexis.specs.Bytes.{byte_at, is_start, is_rest, run}
use Rattle.lexis.specs.Heredoc.{part}
use Rattle.lexis.specs.String.{quoted, text_at}
use Rattle.lexis.specs.Word.{ident_to}
use Rattle.lexis.specs.declared.string.Why.{Why}
use Rattle.lexis.specs.declared.string.Why.TheVariants.{Quote, Interpolation, Directive, Escape, Closing, Foreign, End}

-- a key: an identifier, with its bytes (`null`, `true` and `false` are identifiers here); a plain string, with its text; or another, which is never equal to one
pub data Key : Type 0 where
  word : List ℕ → Key
  plain : List ℕ → Key
  other : Key

abbrev pub is_quote : Why → Bool
is_quote Quote = true
is_quote Interpolation = false
is_quote Directive = false
is_quote Escape = false
is_quote Closing = false
is_quote Foreign = false
is_quote End = false

-- a string is plain where its text ends at the closing quote
abbrev pub plain_as : Why → List ℕ → Key
plain_as y text = cond (is_quote y) (plain text) other

-- the identifier characters at the front of a list
abbrev pub rest_of : List ℕ → List ℕ
rest_of l = take (run is_rest l) l

-- the string whose text starts at p
abbrev pub string_at : List ℕ → ℕ → Key
string_at s p = plain_as (text_at quoted s p).why (text_at quoted s p).bytes

-- the key that starts at p
unfoldable pub key_at : List ℕ → ℕ → Key
key_at s p =
    cond (is_start (byte_at s p)) (word (rest_of (drop p s)))
    (cond (eqb (byte_at s p) 34) (string_at s (p + 1)) other)

-- where the token ends that the key at p begins with: a word or a plain string
abbrev pub key_to : List ℕ → ℕ → ℕ
key_to s p = cond (eqb (byte_at s p) 34) (p + 2 + (text_at quoted s (p + 1)).width) (ident_to s p)

-- two lists of bytes are equal
unfoldable pub alike : List ℕ → List ℕ → Bool
alike [] [] = true
alike [] (y ∷ ys) = false
alike (x ∷ xs) [] = false
alike (x ∷ xs) (y ∷ ys) = eqb x y && alike xs ys

-- 01: "Duplicate: two bare keys of equal bytes, two plain strings of equal text, or two of the same of `null`, `true`, `false`. Other keys aren't compared."
abbrev pub same_as : Key → Key → Bool
same_as (word a) (word b) = alike a b
same_as (plain a) (plain b) = alike a b
same_as (word a) (plain b) = false
same_as (word a) other = false
same_as (plain a) (word b) = false
same_as (plain a) other = false
same_as other k = false

-- the keys at a and at b are equal
abbrev pub same_key : List ℕ → ℕ → ℕ → Bool
same_key s a b = same_as (key_at s a) (key_at s b)

-- a key at one of some places is equal to the key at p
unfoldable pub among : List ℕ → List ℕ → ℕ → Bool
among s [] p = false
among s (a ∷ l) p = same_key s a p || among s l p

-- the same for the places from the i-th to before the j-th
abbrev pub met_before : List ℕ → List ℕ → ℕ → ℕ → ℕ → Bool
met_before s starts i j p = among s (part starts i j) p
