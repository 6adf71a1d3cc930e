-- Identifiers and the words that 01 gives a meaning.
use Rattle.std.specs.Prelude.{ℕ, zero, suc, ◌+◌, List, [], ◌∷◌, Bool, cond, not, ◌&&◌, ◌||◌, length, eqb, Option, Some, None}
use Rattle.lexis.specs.Bytes.{byte_at, run_to, is_space, is_start, is_rest, stands}

-- the end of the identifier at p; p where none starts
-- 01: "Identifier: a letter or `_`, then letters, digits, `_`, `-`."
abbrev pub ident_to : List ℕ → ℕ → ℕ
ident_to s p = cond (is_start (byte_at s p)) (run_to is_rest s (p + 1)) p

-- the identifier at p is the given word: its bytes, and no identifier character behind them
-- 01: "No other keyword may be followed by an identifier character."
abbrev pub is_word : List ℕ → List ℕ → ℕ → Bool
is_word w s p = stands w s p && not (is_rest (byte_at s (p + length w)))

-- the end of the given word at p; p where it does not stand
abbrev pub word_to : List ℕ → List ℕ → ℕ → ℕ
word_to w s p = cond (is_word w s p) (p + length w) p

abbrev pub null : List ℕ
null = 110 ∷ 117 ∷ 108 ∷ 108 ∷ []

abbrev pub yes : List ℕ
yes = 116 ∷ 114 ∷ 117 ∷ 101 ∷ []

abbrev pub no : List ℕ
no = 102 ∷ 97 ∷ 108 ∷ 115 ∷ 101 ∷ []

abbrev pub in' : List ℕ
in' = 105 ∷ 110 ∷ []

abbrev pub if' : List ℕ
if' = 105 ∷ 102 ∷ []

abbrev pub for' : List ℕ
for' = 102 ∷ 111 ∷ 114 ∷ []

-- the kind of the constant that the identifier at p is: 1 null, 2 true, 3 false; 0 where it is none
abbrev pub constant_at : List ℕ → ℕ → ℕ
constant_at s p = cond (is_word null s p) 1 (cond (is_word yes s p) 2 (cond (is_word no s p) 3 0))

-- the same as the code has it
abbrev pub kind_or_none : ℕ → Option ℕ
kind_or_none zero = None
kind_or_none (suc k) = Some (suc k)

-- what must stand right behind `for`: space, tab, CR, LF, `#` or `/`
abbrev pub ends_for : ℕ → Bool
ends_for b = is_space b || eqb b 13 || eqb b 10 || eqb b 35 || eqb b 47

-- the end of the `for` at p that commits to a for-expression; p where none stands
abbrev pub for_to : List ℕ → ℕ → ℕ
for_to s p = cond (stands for' s p && ends_for (byte_at s (p + 3))) (p + 3) p
