-- The published rule of the language: equal letters are tested at the record, over its entries. An entry itself is laid out as in the table, without
-- that test.
use Rattle.std.specs.Prelude.{Bool, true, false, List, ◌∷◌, [], ℕ, T}
use Rattle.engine.specs.Base.{Rec}
use Rattle.engine.specs.Rule.{Local}
use Rattle.engine.specs.Handed.{Hands, Found, carries, hands, untested, Passes}
use Rattle.sample.specs.Lang.{gap, tok, digits, letter, sep, fresh, Move, is_fresh, sample}

abbrev pub looks : Move → Bool
looks (gap g) = false
looks (tok g x) = false
looks digits = false
looks letter = false
looks (sep x) = false
looks fresh = true

-- an entry's letter is not among those of the entries that start at the places handed
abbrev pub Fresh : List ℕ → List ℕ → Rec ℕ → Type 0
Fresh s starts r = T (is_fresh s starts r.start)

abbrev pub handed : (s : List ℕ) → Hands (sample s)
handed s = record {
  uses = looks;
  tested = 8 ∷ [];
  Test = Fresh s;
  Own = λ d r rs ds. Found carries hands (Passes (8 ∷ []) (Fresh s)) (Local (untested (sample s) looks)) ((d.0, []), d.1) r rs ds;
  nothing = [];
}
