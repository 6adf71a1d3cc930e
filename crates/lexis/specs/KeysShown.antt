-- Small sources, and keys in them that are equal or not, by computation.
use Rattle.std.specs.Prelude.{◌≡◌, refl, [], ◌∷◌, true, false}
use Rattle.lexis.specs.Bytes.{run}
use Rattle.lexis.specs.Utf8.{encoded}
use Rattle.lexis.specs.String.{unit, escape, hexes, text_after}
use Rattle.lexis.specs.Keys.{key_at, alike, among, same_key, met_before}

-- equal: `null,null`; `"ab","\u0061b"`; `"é","\u00e9"`; `"",""`; `"$${","$\u007b"`
equal_shown :
    same_key (110 ∷ 117 ∷ 108 ∷ 108 ∷ 44 ∷ 110 ∷ 117 ∷ 108 ∷ 108 ∷ []) 0 5
    ∷ same_key (34 ∷ 97 ∷ 98 ∷ 34 ∷ 44 ∷ 34 ∷ 92 ∷ 117 ∷ 48 ∷ 48 ∷ 54 ∷ 49 ∷ 98 ∷ 34 ∷ []) 0 5
    ∷ same_key (34 ∷ 0xC3 ∷ 0xA9 ∷ 34 ∷ 44 ∷ 34 ∷ 92 ∷ 117 ∷ 48 ∷ 48 ∷ 101 ∷ 57 ∷ 34 ∷ []) 0 5
    ∷ same_key (34 ∷ 34 ∷ 44 ∷ 34 ∷ 34 ∷ []) 0 3
    ∷ same_key (34 ∷ 36 ∷ 36 ∷ 123 ∷ 34 ∷ 44 ∷ 34 ∷ 36 ∷ 92 ∷ 117 ∷ 48 ∷ 48 ∷ 55 ∷ 98 ∷ 34 ∷ []) 0 6
    ∷ []
    ≡ true ∷ true ∷ true ∷ true ∷ true ∷ []
unfolding key_at alike run text_after unit escape hexes encoded
equal_shown = refl

-- not equal: `ab,a`; `a,"a"`; `"a","b"`; `"a","ab"`; a string that nothing closes, a template, a number and the end of the source, each beside itself
other_shown :
    same_key (97 ∷ 98 ∷ 44 ∷ 97 ∷ []) 0 3
    ∷ same_key (97 ∷ 44 ∷ 34 ∷ 97 ∷ 34 ∷ []) 0 2
    ∷ same_key (34 ∷ 97 ∷ 34 ∷ 44 ∷ 34 ∷ 98 ∷ 34 ∷ []) 0 4
    ∷ same_key (34 ∷ 97 ∷ 34 ∷ 44 ∷ 34 ∷ 97 ∷ 98 ∷ 34 ∷ []) 0 4
    ∷ same_key (34 ∷ 97 ∷ []) 0 0
    ∷ same_key (34 ∷ 36 ∷ 123 ∷ 97 ∷ 125 ∷ 34 ∷ []) 0 0
    ∷ same_key (49 ∷ []) 0 0
    ∷ same_key (97 ∷ []) 1 1
    ∷ []
    ≡ false ∷ false ∷ false ∷ false ∷ false ∷ false ∷ false ∷ false ∷ []
unfolding key_at alike run text_after unit escape hexes encoded
other_shown = refl

-- `a,b,a`: the starts 0 and 2, all of them, the second alone, and numbers that do not fit
met_shown :
    met_before (97 ∷ 44 ∷ 98 ∷ 44 ∷ 97 ∷ []) (0 ∷ 2 ∷ []) 0 2 4
    ∷ met_before (97 ∷ 44 ∷ 98 ∷ 44 ∷ 97 ∷ []) (0 ∷ 2 ∷ []) 1 2 4
    ∷ met_before (97 ∷ 44 ∷ 98 ∷ 44 ∷ 97 ∷ []) (0 ∷ 2 ∷ []) 0 9 4
    ∷ met_before (97 ∷ 44 ∷ 98 ∷ 44 ∷ 97 ∷ []) (0 ∷ 2 ∷ []) 5 2 4
    ∷ []
    ≡ true ∷ false ∷ true ∷ false ∷ []
unfolding key_at alike among run
met_shown = refl
