-- Small sources, their literal text, heredocs and keys, by computation.
use Rattle.std.specs.Prelude.{ℕ, ◌≡◌, refl, List, [], ◌∷◌, Bool, true, false}
use Rattle.lexis.specs.Bytes.{run, begins}
use Rattle.lexis.specs.Utf8.{sequence, table, width_by, fits, first_bad, good_after, encoded}
use Rattle.lexis.specs.Heredoc.{closing, opener_at, opens, fails}
use Rattle.lexis.specs.String.{Text, quoted, heredoc, unit, escape, hexes, text_after, text_at}
use Rattle.lexis.specs.Keys.{key_at, alike, among, same_key, met_before}
use Rattle.lexis.specs.declared.string.Why.{Why}
use Rattle.lexis.specs.declared.string.Why.TheVariants.{Quote, Interpolation, Directive, Escape, Closing, Foreign, End}

-- `aé€😀`; a lone tail; an overlong C0 80; a surrogate ED A0 80; a cut E2 82; F4 90 80 80, over 10FFFF
bad_shown :
    first_bad (97 ∷ 0xC3 ∷ 0xA9 ∷ 0xE2 ∷ 0x82 ∷ 0xAC ∷ 0xF0 ∷ 0x9F ∷ 0x98 ∷ 0x80 ∷ [])
    ∷ first_bad (97 ∷ 0x80 ∷ [])
    ∷ first_bad (0xC0 ∷ 0x80 ∷ [])
    ∷ first_bad (97 ∷ 97 ∷ 0xED ∷ 0xA0 ∷ 0x80 ∷ [])
    ∷ first_bad (97 ∷ 0xE2 ∷ 0x82 ∷ [])
    ∷ first_bad (0xF4 ∷ 0x90 ∷ 0x80 ∷ 0x80 ∷ [])
    ∷ []
    ≡ 10 ∷ 1 ∷ 0 ∷ 2 ∷ 1 ∷ 0 ∷ []
unfolding good_after sequence width_by table fits
bad_shown = refl

abbrev text : ℕ → Why → Bool → List ℕ → Text
text w y e bs = record { width = w; why = y; escaped = e; bytes = bs }

-- `a"`, `$$${"`, `a${`, `%{`, `\n\u00e9"`, `\U0010FFFF`, `\U00110000`, `\uD800`, `\u12`
quoted_shown :
    text_at quoted (97 ∷ 34 ∷ []) 0
    ∷ text_at quoted (36 ∷ 36 ∷ 36 ∷ 123 ∷ 34 ∷ []) 0
    ∷ text_at quoted (97 ∷ 36 ∷ 123 ∷ []) 0
    ∷ text_at quoted (37 ∷ 123 ∷ []) 0
    ∷ text_at quoted (92 ∷ 110 ∷ 92 ∷ 117 ∷ 48 ∷ 48 ∷ 101 ∷ 57 ∷ 34 ∷ []) 0
    ∷ text_at quoted (92 ∷ 85 ∷ 48 ∷ 48 ∷ 49 ∷ 48 ∷ 70 ∷ 70 ∷ 70 ∷ 70 ∷ []) 0
    ∷ text_at quoted (92 ∷ 85 ∷ 48 ∷ 48 ∷ 49 ∷ 49 ∷ 48 ∷ 48 ∷ 48 ∷ 48 ∷ []) 0
    ∷ text_at quoted (92 ∷ 117 ∷ 68 ∷ 56 ∷ 48 ∷ 48 ∷ []) 0
    ∷ text_at quoted (92 ∷ 117 ∷ 49 ∷ 50 ∷ []) 0
    ∷ []
    ≡ text 1 Quote false (97 ∷ [])
    ∷ text 4 Quote true (36 ∷ 36 ∷ 123 ∷ [])
    ∷ text 1 Interpolation false (97 ∷ [])
    ∷ text 0 Directive false []
    ∷ text 8 Quote true (10 ∷ 0xC3 ∷ 0xA9 ∷ [])
    ∷ text 10 End true (0xF4 ∷ 0x8F ∷ 0xBF ∷ 0xBF ∷ [])
    ∷ text 0 Escape false []
    ∷ text 0 Escape false []
    ∷ text 0 Escape false []
    ∷ []
unfolding text_after unit escape hexes encoded
quoted_shown = refl

-- `<<E↵x↵E` from 4, and `<<E↵E`, `<<E↵Ex↵E`, `<<E↵\n↵ Eé` and `<<E↵xE`
heredoc_shown :
    text_at (heredoc (69 ∷ [])) (60 ∷ 60 ∷ 69 ∷ 10 ∷ 120 ∷ 10 ∷ 69 ∷ []) 4
    ∷ text_at (heredoc (69 ∷ [])) (60 ∷ 60 ∷ 69 ∷ 10 ∷ 69 ∷ []) 4
    ∷ text_at (heredoc (69 ∷ [])) (60 ∷ 60 ∷ 69 ∷ 10 ∷ 69 ∷ 120 ∷ 10 ∷ 69 ∷ []) 4
    ∷ text_at (heredoc (69 ∷ [])) (60 ∷ 60 ∷ 69 ∷ 10 ∷ 92 ∷ 110 ∷ 10 ∷ 32 ∷ 69 ∷ 0xC3 ∷ 0xA9 ∷ []) 4
    ∷ text_at (heredoc (69 ∷ [])) (60 ∷ 60 ∷ 69 ∷ 10 ∷ 120 ∷ 69 ∷ []) 4
    ∷ []
    ≡ text 2 Closing false (120 ∷ 10 ∷ [])
    ∷ text 0 Closing false []
    ∷ text 3 Closing false (69 ∷ 120 ∷ 10 ∷ [])
    ∷ text 3 Foreign false (92 ∷ 110 ∷ 10 ∷ [])
    ∷ text 2 End false (120 ∷ 69 ∷ [])
    ∷ []
unfolding text_after unit closing run begins
heredoc_shown = refl

-- `<<E↵`, `<<-E␍↵`, `<< E`, `<<--E`, `<<E `, `<`
openers_shown :
    opener_at (60 ∷ 60 ∷ 69 ∷ 10 ∷ []) 0
    ∷ opener_at (60 ∷ 60 ∷ 45 ∷ 69 ∷ 13 ∷ 10 ∷ []) 0
    ∷ opener_at (60 ∷ 60 ∷ 32 ∷ 69 ∷ []) 0
    ∷ opener_at (60 ∷ 60 ∷ 45 ∷ 45 ∷ 69 ∷ []) 0
    ∷ opener_at (60 ∷ 60 ∷ 69 ∷ 32 ∷ []) 0
    ∷ opener_at (60 ∷ []) 0
    ∷ []
    ≡ opens false 2 3 4 ∷ opens true 3 4 6 ∷ fails 2 ∷ fails 3 ∷ fails 3 ∷ fails 0 ∷ []
unfolding opener_at run begins
openers_shown = refl

-- `a,a,ab`; `"a","\u0061",a`; `"$${","\u0024{"`
keys_shown :
    same_key (97 ∷ 44 ∷ 97 ∷ 44 ∷ 97 ∷ 98 ∷ []) 0 2
    ∷ same_key (97 ∷ 44 ∷ 97 ∷ 44 ∷ 97 ∷ 98 ∷ []) 0 4
    ∷ same_key (34 ∷ 97 ∷ 34 ∷ 44 ∷ 34 ∷ 92 ∷ 117 ∷ 48 ∷ 48 ∷ 54 ∷ 49 ∷ 34 ∷ 44 ∷ 97 ∷ []) 0 4
    ∷ same_key (34 ∷ 97 ∷ 34 ∷ 44 ∷ 34 ∷ 92 ∷ 117 ∷ 48 ∷ 48 ∷ 54 ∷ 49 ∷ 34 ∷ 44 ∷ 97 ∷ []) 0 13
    ∷ same_key (34 ∷ 36 ∷ 36 ∷ 123 ∷ 34 ∷ 44 ∷ 34 ∷ 92 ∷ 117 ∷ 48 ∷ 48 ∷ 50 ∷ 52 ∷ 123 ∷ 34 ∷ []) 0 6
    ∷ met_before (97 ∷ 44 ∷ 98 ∷ 44 ∷ 97 ∷ []) (0 ∷ 2 ∷ []) 0 2 4
    ∷ met_before (97 ∷ 44 ∷ 98 ∷ 44 ∷ 97 ∷ []) (0 ∷ 2 ∷ []) 1 2 4
    ∷ []
    ≡ true ∷ false ∷ true ∷ false ∷ true ∷ true ∷ false ∷ []
unfolding key_at alike among run text_after unit escape hexes encoded
keys_shown = refl
