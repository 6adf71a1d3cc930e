-- HCL's layouts: for each kind of 01 how its bytes and children stand. `gap any` is any trivia, `gap line` same-line space, `gap here`
-- the trivia of the mode round the node ("All else keeps the mode round it").
use Rattle.std.specs.Prelude.{ℕ, ◌+◌, List, [], ◌∷◌, true, false, get_or}
use Rattle.engine.specs.Layout.{Lay, bad, fin, move, kid, fork, rep}
use Rattle.lexis.specs.Word.{null, yes, no, in', if'}
use Rattle.grammar.specs.Moves.{gap, mark, opens, word, ahead, for, ident, number, index, operator, parts, unless, comma, stop, ended, call, fresh, ending, run, piece, more, close, any, line, here, Move}

-- what a child may be
pub data Class : Type 0 where
  -- a whole expression within brackets or an interpolation, multi-line; a for's collection or an object for's pair, single-line: a level deeper
  inside single : Class
  -- an item's key and its value, single-line; a for condition's expression, multi-line; on the node's own level
  key value test : Class
  -- the second and third part of a conditional, in the mode round it, a level deeper
  branch : Class
  -- one term with its traversals, under a unary operator, a level deeper
  term : Class
  -- what may stand right of an operator that binds so tightly
  right : ℕ → Class
  entry called portion piecewise filter : Class

abbrev pub Layout : Type 0
Layout = Lay Move Class

-- these bytes; past any trivia; past the mode's
abbrev pub plain : List ℕ → Move
plain w = mark w [] ∷ []

abbrev pub past : List ℕ → Move
past w = gap any ∷ mark w [] ∷ []

abbrev pub space : Move
space = gap any ∷ []

abbrev pub same_line : Move
same_line = gap line ∷ []

abbrev pub round : Move
round = gap here ∷ []

abbrev pub opening : List ℕ → Move
opening w = opens w [] ∷ []

-- a comma between two children, and not the closer behind it; the closer, perhaps after one comma
abbrev pub between : ℕ → Move
between c = gap any ∷ mark (44 ∷ []) [] ∷ gap any ∷ unless c ∷ []

abbrev pub closing : ℕ → Move
closing c = gap any ∷ comma ∷ mark (c ∷ []) [] ∷ []

-- "1 null, 2 true, 3 false": the word; "5 variable", "17 name": an identifier
abbrev pub word_lay : List ℕ → Layout
word_lay w = move (word w ∷ []) (fin 0)

abbrev pub ident_lay : Layout
ident_lay = move (ident ∷ []) (fin 0)

-- "`-`, optional same-line space, digits is one number": flag 1 with minus
abbrev pub number_lay : Layout
number_lay = fork (mark (45 ∷ []) [] ∷ gap line ∷ []) (move (number ∷ []) (fin 1)) (move (number ∷ []) (fin 0))

-- "6 is quoted text without interpolation": flag 1 with an escape or an escaped marker in it
abbrev pub string_lay : Layout
string_lay = move (plain (34 ∷ [])) (fork (run false ∷ []) (move (close ∷ []) (fin 0)) (move (run true ∷ []) (move (close ∷ []) (fin 1))))

-- "7 with at least one; 7 and 8 hold 9s and 10s in order"
abbrev pub text_lay : ℕ → Layout
text_lay φ = rep (more ∷ []) piecewise (move (close ∷ []) (fin φ))

abbrev pub template_lay : Layout
template_lay = move (plain (34 ∷ [])) (text_lay 0)

-- `<<`, flag 1 for `<<-`, the delimiter and its line ending, with nothing between
abbrev pub heredoc_lay : Layout
heredoc_lay =
    move (plain (60 ∷ 60 ∷ []))
    (fork (plain (45 ∷ [])) (move (ident ∷ ending ∷ []) (text_lay 1)) (move (ident ∷ ending ∷ []) (text_lay 0)))

-- "9 is a longest run of literal text, never empty"
abbrev pub piece_lay : Layout
piece_lay = fork (piece false ∷ []) (fin 0) (move (piece true ∷ []) (fin 1))

-- `${`, perhaps `~`, an expression, perhaps `~`, `}`: "flag 1 left `~`, 2 right, 3 both"
abbrev pub strip_lay : ℕ → Layout
strip_lay φ = move space (kid inside (fork (past (126 ∷ [])) (move (plain (125 ∷ [])) (fin (φ + 2))) (move (past (125 ∷ [])) (fin φ))))

abbrev pub interpolation_lay : Layout
interpolation_lay = move (opening (36 ∷ 123 ∷ [])) (fork (plain (126 ∷ [])) (strip_lay 1) (strip_lay 0))

-- "array items .. are multi-line"; a comma between, and perhaps behind the last
abbrev pub array_lay : Layout
array_lay =
    move (opening (91 ∷ []))
    (fork (past (93 ∷ [])) (fin 0) (move space (kid inside (rep (between 93) inside (move (closing 93) (fin 0))))))

-- "Object items end at `,`, a line ending, a line comment with its ending, or before `}`"; "any trivia before a key or an object's `}`"
abbrev pub object_lay : Layout
object_lay =
    move (opening (123 ∷ []))
    (fork (past (125 ∷ [])) (fin 0)
    (move space
    (kid entry (rep (gap line ∷ stop ∷ gap any ∷ unless 125 ∷ []) entry (move (gap line ∷ ended ∷ mark (125 ∷ []) [] ∷ []) (fin 0))))))

-- "same-line space beside a key's `=`"; flag 1 for `:`. Duplicate is decided after the key and its same-line space
-- 01: "13 holds key and value and ends with the value."
abbrev pub item_lay : Layout
item_lay =
    kid key
    (fork (gap line ∷ fresh ∷ mark (61 ∷ []) ((61 ∷ 61 ∷ []) ∷ (61 ∷ 62 ∷ []) ∷ []) ∷ []) (move same_line (kid value (fin 0)))
    (move (gap line ∷ fresh ∷ mark (58 ∷ []) [] ∷ []) (move same_line (kid value (fin 1)))))

-- 01: "10, 15, 20, 22 and 23 hold one expression;"
abbrev pub parentheses_lay : Layout
parentheses_lay = move (opening (40 ∷ [])) (move space (kid inside (move (past (41 ∷ [])) (fin 0))))

-- "16 holds its names, namespaces first, then its arguments": flag 1 for `...`, which stands for a last comma
abbrev pub call_lay : Layout
call_lay =
    kid called
    (rep (gap here ∷ mark (58 ∷ 58 ∷ []) [] ∷ gap here ∷ []) called
    (move (gap here ∷ call ∷ [])
    (fork (past (41 ∷ [])) (fin 0)
    (move space
    (kid inside (rep (between 41) inside (fork (past (46 ∷ 46 ∷ 46 ∷ [])) (move (past (41 ∷ [])) (fin 1)) (move (closing 41) (fin 0)))))))))

-- "any trivia around a for's parts": `for`, one or two names, `in`, the collection, `:`
abbrev pub for_in : Layout → Layout
for_in l = move (gap any ∷ word in' ∷ []) (move space (kid single (move (past (58 ∷ [])) (move space l))))

abbrev pub for_lay : Layout → Layout
for_lay l = move (gap any ∷ for ∷ []) (move space (kid called (fork (past (44 ∷ [])) (move space (kid called (for_in l))) (for_in l))))

-- "then 20 if there is one", and the closer
abbrev pub filter_lay : ℕ → ℕ → Layout
filter_lay c φ = fork (gap any ∷ ahead if' ∷ []) (kid filter (move (past (c ∷ [])) (fin φ))) (move (past (c ∷ [])) (fin φ))

-- "a list for's value" is multi-line; "a for's collection and an object for's pair are single-line"; 19 has flag 1 for `...`
abbrev pub list_for_lay : Layout
list_for_lay = move (opening (91 ∷ [])) (for_lay (kid inside (filter_lay 93 0)))

abbrev pub object_for_lay : Layout
object_for_lay =
    move (opening (123 ∷ []))
    (for_lay (kid single (move (past (61 ∷ 62 ∷ [])) (move space (kid single (fork (past (46 ∷ 46 ∷ 46 ∷ [])) (filter_lay 125 1) (filter_lay 125 0)))))))

-- "20 starts at `if`"
abbrev pub filters_lay : Layout
filters_lay = move (word if' ∷ []) (move space (kid test (fin 0)))

-- after its condition: `?` opens a level that lasts to "the end of the third part"
-- 01: "The conditional is looser than all, and its parts are whole expressions apart from its condition."
abbrev pub conditional_lay : Layout
conditional_lay =
    move (gap here ∷ opens (63 ∷ []) [] ∷ [])
    (move round (kid branch (move (gap here ∷ mark (58 ∷ []) [] ∷ []) (move round (kid branch (fin 0))))))

-- "Any other unary operator takes one term, its traversals included, after same-line space only"
abbrev pub unary_lay : ℕ → List (List ℕ) → Layout
unary_lay c longer = move (opens (c ∷ []) longer ∷ []) (move same_line (kid term (fin 0)))

-- after its left operand: the operator, and an operand that binds tighter
-- 01: "21 holds three parts, 24 to 36 left and right."
abbrev pub operator_lay : ℕ → ℕ → Layout
operator_lay k t = move (gap here ∷ operator k ∷ []) (move round (kid (right t) (fin 0)))

-- "37 holds the base, then 38 to 42": after its base, all that follow
abbrev pub traversal_lay : Layout
traversal_lay = move (gap here ∷ parts ∷ []) (kid portion (rep (gap here ∷ parts ∷ []) portion (fin 0)))

-- "After `.` any trivia may stand, then `*`, an index or an identifier"
abbrev pub dot_lay : Move → Layout
dot_lay m = move (plain (46 ∷ [])) (move space (move m (fin 0)))

abbrev pub splat_lay : Layout
splat_lay = move (opening (91 ∷ [])) (move (past (42 ∷ [])) (move (past (93 ∷ [])) (fin 0)))

-- 01: "each of those starts at its `.` or `[`, and only 42 has a child."
abbrev pub index_lay : Layout
index_lay = move (opening (91 ∷ [])) (move space (kid inside (move (past (93 ∷ [])) (fin 0))))

-- by kind, 0 to 42
-- 01: "Flags not named here or below are 0."
unfoldable pub layouts : List Layout
layouts =
    bad
    ∷ word_lay null
    ∷ word_lay yes
    ∷ word_lay no
    ∷ number_lay
    ∷ ident_lay
    ∷ string_lay
    ∷ template_lay
    ∷ heredoc_lay
    ∷ piece_lay
    ∷ interpolation_lay
    ∷ array_lay
    ∷ object_lay
    ∷ item_lay
    ∷ ident_lay
    ∷ parentheses_lay
    ∷ call_lay
    ∷ ident_lay
    ∷ list_for_lay
    ∷ object_for_lay
    ∷ filters_lay
    ∷ conditional_lay
    ∷ unary_lay 45 []
    ∷ unary_lay 33 ((33 ∷ 61 ∷ []) ∷ [])
    ∷ operator_lay 24 7
    ∷ operator_lay 25 7
    ∷ operator_lay 26 7
    ∷ operator_lay 27 6
    ∷ operator_lay 28 6
    ∷ operator_lay 29 5
    ∷ operator_lay 30 5
    ∷ operator_lay 31 5
    ∷ operator_lay 32 5
    ∷ operator_lay 33 4
    ∷ operator_lay 34 4
    ∷ operator_lay 35 3
    ∷ operator_lay 36 2
    ∷ traversal_lay
    ∷ dot_lay (ident ∷ [])
    ∷ dot_lay (index ∷ [])
    ∷ dot_lay (plain (42 ∷ []))
    ∷ splat_lay
    ∷ index_lay
    ∷ []

abbrev pub layout_of : ℕ → Layout
layout_of k = get_or layouts k bad
