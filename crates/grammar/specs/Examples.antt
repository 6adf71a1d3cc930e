-- 01's first ten checked examples, by computation, as one table under one statement.
use Rattle.std.specs.Prelude.{ℕ, ◌≡◌, refl, List, [], ◌∷◌}
use Rattle.lexis.specs.Bytes.{run, begins, up_to}
use Rattle.lexis.specs.Trivia.{item, gap}
use Rattle.lexis.specs.Number.{value_from}
use Rattle.lexis.specs.Operator.{op_at}
use Rattle.lexis.specs.Utf8.{table, fits, width_by, sequence, good_after, encoded}
use Rattle.lexis.specs.Heredoc.{closing, opener_at}
use Rattle.lexis.specs.String.{hexes, escape, unit, text_after}
use Rattle.lexis.specs.Keys.{key_at, alike, among}
use Rattle.engine.specs.Base.{Outcome, ok, halt, stuck, Tree}
use Rattle.grammar.specs.Moves.{atom, walk, lones}
use Rattle.grammar.specs.Layouts.{layouts}
use Rattle.grammar.specs.Hcl.{pick_at, follow_at}
use Rattle.grammar.specs.Table.{own, numbers, table_of, words_of}
use Rattle.grammar.specs.Answer.{outcome, reading, Answer, answer, answer_of}

-- what is shown of a source, with room for everything: the answer, the records and the text
pub record Shown : Type 0 where
  pub answer : Answer
  pub records : List ℕ
  pub text : List ℕ

abbrev pub shown_as : List ℕ → Outcome ℕ (Tree ℕ) → Shown
shown_as s (ok t) = record { answer = answer_of s 65535 65535; records = numbers (table_of s t); text = words_of s t }
shown_as s (halt k p) = record { answer = answer_of s 65535 65535; records = []; text = [] }
shown_as s stuck = record { answer = answer_of s 65535 65535; records = []; text = [] }

abbrev pub shown : List ℕ → Shown
shown s = shown_as s (outcome s)

-- an example: a source, and what is shown of it
pub record Example : Type 0 where
  pub source : List ℕ
  pub right : Shown

abbrev good : ℕ → ℕ → ℕ → List ℕ → List ℕ → Shown
good l n t rs ts = record { answer = answer 0 l n t; records = rs; text = ts }

abbrev refused : ℕ → ℕ → Shown
refused k p = record { answer = answer k p 0 0; records = []; text = [] }

abbrev example : List ℕ → Shown → Example
example s x = record { source = s; right = x }

abbrev pub examples : List Example
examples =
    -- 1. `1+2*3`
    example (49 ∷ 43 ∷ 50 ∷ 42 ∷ 51 ∷ [])
    (good 5 5 0 (4 ∷ 0 ∷ 0 ∷ 1 ∷ 1 ∷ 0 ∷ 0 ∷ 4 ∷ 0 ∷ 2 ∷ 3 ∷ 1 ∷ 0 ∷ 0 ∷ 4 ∷ 0 ∷ 4 ∷ 5 ∷ 1 ∷ 0 ∷ 0 ∷ 24 ∷ 0 ∷ 2 ∷ 5 ∷ 3 ∷ 0 ∷ 0 ∷ 27 ∷ 0 ∷ 0 ∷ 5 ∷ 5 ∷ 0 ∷ 0 ∷ []) ([]))
    -- 2. `8-3-2`
    ∷ example (56 ∷ 45 ∷ 51 ∷ 45 ∷ 50 ∷ [])
    (good 5 5 0 (4 ∷ 0 ∷ 0 ∷ 1 ∷ 1 ∷ 0 ∷ 0 ∷ 4 ∷ 0 ∷ 2 ∷ 3 ∷ 1 ∷ 0 ∷ 0 ∷ 28 ∷ 0 ∷ 0 ∷ 3 ∷ 3 ∷ 0 ∷ 0 ∷ 4 ∷ 0 ∷ 4 ∷ 5 ∷ 1 ∷ 0 ∷ 0 ∷ 28 ∷ 0 ∷ 0 ∷ 5 ∷ 5 ∷ 0 ∷ 0 ∷ []) ([]))
    -- 3. `"$$${"`
    ∷ example (34 ∷ 36 ∷ 36 ∷ 36 ∷ 123 ∷ 34 ∷ [])
    (good 6 1 3 (6 ∷ 1 ∷ 0 ∷ 6 ∷ 1 ∷ 0 ∷ 3 ∷ []) (36 ∷ 36 ∷ 123 ∷ []))
    -- 4. `"\uD800"`
    ∷ example (34 ∷ 92 ∷ 117 ∷ 68 ∷ 56 ∷ 48 ∷ 48 ∷ 34 ∷ [])
    (refused 5 1)
    -- 5. `f(a...)`
    ∷ example (102 ∷ 40 ∷ 97 ∷ 46 ∷ 46 ∷ 46 ∷ 41 ∷ [])
    (good 7 3 0 (17 ∷ 0 ∷ 0 ∷ 1 ∷ 1 ∷ 0 ∷ 0 ∷ 5 ∷ 0 ∷ 2 ∷ 3 ∷ 1 ∷ 0 ∷ 0 ∷ 16 ∷ 1 ∷ 0 ∷ 7 ∷ 3 ∷ 0 ∷ 0 ∷ []) ([]))
    -- 6. `a..b`
    ∷ example (97 ∷ 46 ∷ 46 ∷ 98 ∷ [])
    (refused 4 1)
    -- 7. the empty source
    ∷ example ([])
    (refused 4 0)
    -- 8. `{a=1,a=2}`
    ∷ example (123 ∷ 97 ∷ 61 ∷ 49 ∷ 44 ∷ 97 ∷ 61 ∷ 50 ∷ 125 ∷ [])
    (refused 7 5)
    -- `{a=1,"a"=2}`
    ∷ example (123 ∷ 97 ∷ 61 ∷ 49 ∷ 44 ∷ 34 ∷ 97 ∷ 34 ∷ 61 ∷ 50 ∷ 125 ∷ [])
    (good 11 7 0 (14 ∷ 0 ∷ 1 ∷ 2 ∷ 1 ∷ 0 ∷ 0 ∷ 4 ∷ 0 ∷ 3 ∷ 4 ∷ 1 ∷ 0 ∷ 0 ∷ 13 ∷ 0 ∷ 1 ∷ 4 ∷ 3 ∷ 0 ∷ 0 ∷ 6 ∷ 0 ∷ 5 ∷ 8 ∷ 1 ∷ 6 ∷ 1 ∷ 4 ∷ 0 ∷ 9 ∷ 10 ∷ 1 ∷ 0 ∷ 0 ∷ 13 ∷ 0 ∷ 5 ∷ 10 ∷ 3 ∷ 0 ∷ 0 ∷ 12 ∷ 0 ∷ 0 ∷ 11 ∷ 7 ∷ 0 ∷ 0 ∷ []) ([]))
    -- 9. `<<E↵x↵E`
    ∷ example (60 ∷ 60 ∷ 69 ∷ 10 ∷ 120 ∷ 10 ∷ 69 ∷ [])
    (good 7 2 0 (9 ∷ 0 ∷ 4 ∷ 6 ∷ 1 ∷ 4 ∷ 2 ∷ 8 ∷ 0 ∷ 0 ∷ 7 ∷ 2 ∷ 0 ∷ 0 ∷ []) ([]))
    -- 10. `-1`
    ∷ example (45 ∷ 49 ∷ [])
    (good 2 1 0 (4 ∷ 1 ∷ 0 ∷ 2 ∷ 1 ∷ 0 ∷ 0 ∷ []) ([]))
    ∷ []

-- each example is what its source shows
abbrev pub All : List Example → Type 0
All [] = Unit {0}
All (x ∷ xs) = (shown x.source ≡ x.right) × All xs

pub right : All examples
unfolding run begins up_to item gap value_from op_at table fits width_by sequence good_after encoded closing opener_at hexes escape unit text_after key_at alike among atom walk lones layouts pick_at follow_at own outcome reading answer_of
right = (refl, (refl, (refl, (refl, (refl, (refl, (refl, (refl, (refl, (refl, (refl, tt)))))))))))
