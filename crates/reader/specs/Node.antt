-- The text of a node, out of the source or of the text buffer, by the numbers of its record.
use Rattle.std.specs.Prelude.{ℕ, ◌+◌, ◌*◌, ◌/◌, List, [], Bool, false, cond, ◌||◌, length, take, drop, get_or, eqb, leb, ltb}

-- "Kinds 6 and 9 have text"
abbrev pub is_text : ℕ → Bool
is_text k = eqb k 6 || eqb k 9

-- n bytes from a on, where there are as many; else none
abbrev pub within : List ℕ → ℕ → ℕ → Bool
within s a n = leb (a + n) (length s)

abbrev pub part : List ℕ → ℕ → ℕ → List ℕ
part s a n = cond (within s a n) (take n (drop a s)) []

-- the text of a record of the kind k with the flag φ and the text numbers a and n: flag 0 a part of the source s, flag 1 of the text buffer x;
-- none for a kind without text, another flag, or numbers that don't fit
abbrev pub text_as : List ℕ → List ℕ → ℕ → ℕ → Bool → Bool → Bool → List ℕ
text_as s x a n t z o = cond t (cond z (part s a n) (cond o (part x a n) [])) []

abbrev pub text_in : List ℕ → List ℕ → ℕ → ℕ → ℕ → ℕ → List ℕ
text_in s x k φ a n = text_as s x a n (is_text k) (eqb φ 0) (eqb φ 1)

-- whether there is a text, which may be empty
abbrev pub has_as : List ℕ → List ℕ → ℕ → ℕ → Bool → Bool → Bool → Bool
has_as s x a n t z o = cond t (cond z (within s a n) (cond o (within x a n) false)) false

abbrev pub has_text : List ℕ → List ℕ → ℕ → ℕ → ℕ → ℕ → Bool
has_text s x k φ a n = has_as s x a n (is_text k) (eqb φ 0) (eqb φ 1)

-- the number at i
abbrev pub number_at : List ℕ → ℕ → ℕ
number_at b i = get_or b i 0

-- the same of the i-th record of a table b, where it has one
-- 01: "The text of a node is handed back as a part of the source or of the text buffer, never a copy;"
abbrev pub text_of_node : List ℕ → List ℕ → List ℕ → ℕ → List ℕ
text_of_node s b x i =
    cond (ltb i (length b / 7)) (text_in s x (number_at b (i * 7)) (number_at b (i * 7 + 1)) (number_at b (i * 7 + 5)) (number_at b (i * 7 + 6))) []

-- 01: "a bad index, numbers that don't fit, a flag over 1, or a kind without text gives an empty part of the source, and a yes or no tells this from empty text."
abbrev pub node_has_text : List ℕ → List ℕ → List ℕ → ℕ → Bool
node_has_text s b x i =
    cond (ltb i (length b / 7)) (has_text s x (number_at b (i * 7)) (number_at b (i * 7 + 1)) (number_at b (i * 7 + 5)) (number_at b (i * 7 + 6))) false
