-- A list for, by its parts: what the code of it promises.
use Rattle.std.specs.Prelude.{ℕ, ◌≡◌, List, [], ◌∷◌, Bool, true}
use Rattle.lexis.specs.Word.{in'}
use Rattle.engine.specs.Layout.{fin, move, kid}
use Rattle.grammar.specs.Moves.{to, skip, gap, word, for, any}
use Rattle.grammar.specs.Layouts.{single, called, Layout, past, space, filter_lay}
use Rattle.checker.specs.Rest.{TailBy, inside_lay}

-- a name; `for` and a name; `in` and the collection; `:` and the value
abbrev pub named_lay : Layout → Layout
named_lay l = move space (kid called l)

abbrev pub intro_lay : Layout → Layout
intro_lay l = move (gap any ∷ for ∷ []) (named_lay l)

abbrev pub collection_lay : Layout → Layout
collection_lay l = move (gap any ∷ word in' ∷ []) (move space (kid single l))

abbrev pub value_lay : Layout → Layout
value_lay l = move (past (58 ∷ [])) (inside_lay l)

-- behind the names
abbrev pub ranged_lay : Layout
ranged_lay = collection_lay (value_lay (filter_lay 93 0))

-- `r` says whether the closer c stands at `at`, as the end of the row, wherever its trivia starts
pub record ShutBy (s t : List ℕ) (i c j at : ℕ) (r : Bool) : Type 0 where
  pub tail : (q : ℕ) → skip s true q ≡ to at → TailBy s t i (move (past (c ∷ [])) (fin 0)) j q r
