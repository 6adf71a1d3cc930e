-- Small sources and what stands in them, by computation.
use Rattle.std.specs.Prelude.{◌≡◌, refl, [], ◌∷◌, true, false}
use Rattle.lexis.specs.Bytes.{run, begins, up_to}
use Rattle.lexis.specs.Trivia.{item, gap, gap_to, ends_at, open_at, stop_to, stop_at}
use Rattle.lexis.specs.Word.{ident_to, word_to, for_to, constant_at, in'}
use Rattle.lexis.specs.Number.{number_to, index_to, index_at, value_from}
use Rattle.lexis.specs.Operator.{op_at, op, no_op, dot_to, equals_to, bang_to}

-- ` #c␍↵/**/x`: trivia of one line ends at the `#`, that of several lines at the `x`; ` /*/` is not closed; a lone CR is none
trivia_shown :
    gap_to false (32 ∷ 35 ∷ 99 ∷ 13 ∷ 10 ∷ 47 ∷ 42 ∷ 42 ∷ 47 ∷ 120 ∷ []) 0
    ∷ gap_to true (32 ∷ 35 ∷ 99 ∷ 13 ∷ 10 ∷ 47 ∷ 42 ∷ 42 ∷ 47 ∷ 120 ∷ []) 0
    ∷ gap_to false (32 ∷ 47 ∷ 42 ∷ 47 ∷ []) 0
    ∷ gap_to true (10 ∷ 13 ∷ 32 ∷ []) 0
    ∷ gap_to true (35 ∷ 13 ∷ 32 ∷ []) 0
    ∷ gap_to true (32 ∷ []) 4
    ∷ []
    ≡ ends_at 1 ∷ ends_at 9 ∷ open_at 1 ∷ ends_at 1 ∷ ends_at 3 ∷ ends_at 4 ∷ []
unfolding gap item begins up_to
trivia_shown = refl

-- `,`, `#c↵`, `//` at the source's end, a lone CR
stops_shown :
    stop_to (44 ∷ []) 0 ∷ stop_to (35 ∷ 99 ∷ 10 ∷ []) 0 ∷ stop_to (47 ∷ 47 ∷ []) 0 ∷ stop_to (13 ∷ []) 0 ∷ []
    ≡ stop_at 1 1 ∷ stop_at 1 3 ∷ stop_at 2 2 ∷ stop_at 0 0 ∷ []
unfolding begins up_to
stops_shown = refl

-- `a_1`, `1a`; `in` in `in[` and in `in_b`; `for/`, `for]`; `nulls`, `null`
words_shown :
    ident_to (97 ∷ 45 ∷ 49 ∷ []) 0
    ∷ ident_to (49 ∷ 97 ∷ []) 0
    ∷ word_to in' (105 ∷ 110 ∷ 91 ∷ []) 0
    ∷ word_to in' (105 ∷ 110 ∷ 45 ∷ 98 ∷ []) 0
    ∷ for_to (102 ∷ 111 ∷ 114 ∷ 47 ∷ []) 0
    ∷ for_to (102 ∷ 111 ∷ 114 ∷ 93 ∷ []) 0
    ∷ constant_at (110 ∷ 117 ∷ 108 ∷ 108 ∷ 115 ∷ []) 0
    ∷ constant_at (110 ∷ 117 ∷ 108 ∷ 108 ∷ []) 0
    ∷ []
    ≡ 3 ∷ 0 ∷ 2 ∷ 0 ∷ 3 ∷ 0 ∷ 0 ∷ 1 ∷ []
unfolding begins run
words_shown = refl

-- `1.5e-3x`, `1.e`, `1e+`, `00`; the index `00`
numbers_shown :
    number_to (49 ∷ 46 ∷ 53 ∷ 101 ∷ 45 ∷ 51 ∷ 120 ∷ []) 0
    ∷ number_to (49 ∷ 46 ∷ 101 ∷ []) 0
    ∷ number_to (49 ∷ 101 ∷ 43 ∷ []) 0
    ∷ number_to (48 ∷ 48 ∷ []) 0
    ∷ index_to (48 ∷ 48 ∷ []) 0
    ∷ []
    ≡ 6 ∷ 1 ∷ 1 ∷ 2 ∷ 1 ∷ []
unfolding run
numbers_shown = refl

-- 18446744073709551615 is within the limit, 18446744073709551616 over it
limit_shown :
    (index_at (49 ∷ 56 ∷ 52 ∷ 52 ∷ 54 ∷ 55 ∷ 52 ∷ 52 ∷ 48 ∷ 55 ∷ 51 ∷ 55 ∷ 48 ∷ 57 ∷ 53 ∷ 53 ∷ 49 ∷ 54 ∷ 49 ∷ 53 ∷ []) 0).over
    ∷ (index_at (49 ∷ 56 ∷ 52 ∷ 52 ∷ 54 ∷ 55 ∷ 52 ∷ 52 ∷ 48 ∷ 55 ∷ 51 ∷ 55 ∷ 48 ∷ 57 ∷ 53 ∷ 53 ∷ 49 ∷ 54 ∷ 49 ∷ 54 ∷ []) 0).over
    ∷ []
    ≡ false ∷ true ∷ []
unfolding run value_from
limit_shown = refl

-- `>=`, `>`, `//`, `/`, `=>`, `<<`, `%{`
operators_shown :
    op_at (62 ∷ 61 ∷ []) 0
    ∷ op_at (62 ∷ 32 ∷ []) 0
    ∷ op_at (47 ∷ 47 ∷ []) 0
    ∷ op_at (47 ∷ []) 0
    ∷ op_at (61 ∷ 62 ∷ []) 0
    ∷ op_at (60 ∷ 60 ∷ []) 0
    ∷ op_at (37 ∷ 123 ∷ []) 0
    ∷ []
    ≡ op 30 4 2 ∷ op 29 4 1 ∷ no_op ∷ op 25 6 1 ∷ no_op ∷ op 31 4 1 ∷ op 26 6 1 ∷ []
unfolding begins op_at
operators_shown = refl

-- `..`, `.`; `=>`, `==`, `=`; `!=`, `!`
marks_shown :
    dot_to (46 ∷ 46 ∷ []) 0
    ∷ dot_to (46 ∷ 97 ∷ []) 0
    ∷ equals_to (61 ∷ 62 ∷ []) 0
    ∷ equals_to (61 ∷ 61 ∷ []) 0
    ∷ equals_to (61 ∷ []) 0
    ∷ bang_to (33 ∷ 61 ∷ []) 0
    ∷ bang_to (33 ∷ 97 ∷ []) 0
    ∷ []
    ≡ 0 ∷ 1 ∷ 0 ∷ 0 ∷ 1 ∷ 0 ∷ 1 ∷ []
unfolding begins
marks_shown = refl
