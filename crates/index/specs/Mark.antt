-- The mark of a key: a number that equal keys share (MarkLaws.antt). Which number it is shows in no answer.
use Rattle.std.specs.Prelude.{ℕ, ◌+◌, ◌*◌, ◌%◌, ◌≤◌, ◌≡◌, List, [], ◌∷◌, cond, true, drop, eqb}
use Rattle.lexis.specs.Bytes.{byte_at, is_start}
use Rattle.lexis.specs.Word.{ident_to}
use Rattle.lexis.specs.String.{quoted, text_at}
use Rattle.lexis.specs.Keys.{rest_of, key_to}
use Rattle.index.specs.declared.mark.Token.{Token}

-- a byte more
abbrev pub mixed : ℕ → ℕ → ℕ
mixed m b = (m * 40503 + b) % 65536

-- some bytes more
unfoldable pub mixed_all : ℕ → List ℕ → ℕ
mixed_all m [] = m
mixed_all m (b ∷ l) = mixed_all (mixed m b) l

-- the mark of the key that starts at p: of an identifier's bytes, or of a string's unescaped text
unfoldable pub mark_at : List ℕ → ℕ → ℕ
mark_at s p =
    cond (eqb (byte_at s p) 34) (mixed_all 0 (text_at quoted s (p + 1)).bytes)
    (cond (is_start (byte_at s p)) (mixed_all 0 (rest_of (drop p s))) 0)

-- `r` is the mark m with some bytes more
pub record Mixed (m : ℕ) (l : List ℕ) (r : ℕ) : Type 0 where
  pub is : r ≡ mixed_all m l
  pub small : r ≤ 65535

-- a word stands at p and ends at e
pub record WordTo (s : List ℕ) (p e : ℕ) : Type 0 where
  pub starts : is_start (byte_at s p) ≡ true
  pub ends : e ≡ ident_to s p

-- `r` is where the first token of the key at p ends, and the key's mark
pub record TokenHere (s : List ℕ) (p : ℕ) (r : Token) : Type 0 where
  pub end : r.end ≡ key_to s p
  pub mark : r.mark ≡ mark_at s p
