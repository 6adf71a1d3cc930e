-- Worked examples, one table under one statement.
use Rattle.std.specs.Prelude.{◌≡◌, refl, List, ◌∷◌, map, [], ℕ, replicate}
use Rattle.engine.specs.Base.{Outcome, ok, halt}
use Rattle.engine.specs.Flat.{Row}
use Rattle.engine.specs.Source.{reading}
use Rattle.sample.specs.Lang.{source}

pub record Example : Type 0 where
  pub source_is : List ℕ
  pub gives : Outcome ℕ (List (Row ℕ))

-- kind, flag, start, end, count
abbrev pub row : ℕ → ℕ → ℕ → ℕ → ℕ → Row ℕ
row k φ p e n = record { rec = record { kind = k; flag = φ; start = p; end = e }; count = n }

abbrev pub examples : List Example
examples =
    -- 1+2*3
    record { source_is = 49 ∷ 43 ∷ 50 ∷ 42 ∷ 51 ∷ []; gives = ok (row 1 0 0 1 1 ∷ row 1 0 2 3 1 ∷ row 1 0 4 5 1 ∷ row 4 0 2 5 3 ∷ row 3 0 0 5 5 ∷ []) }
    -- 1+2+3 groups to the left
    ∷ record { source_is = 49 ∷ 43 ∷ 50 ∷ 43 ∷ 51 ∷ []; gives = ok (row 1 0 0 1 1 ∷ row 1 0 2 3 1 ∷ row 3 0 0 3 3 ∷ row 1 0 4 5 1 ∷ row 3 0 0 5 5 ∷ []) }
    -- (1+2)*3
    ∷ record { source_is = 40 ∷ 49 ∷ 43 ∷ 50 ∷ 41 ∷ 42 ∷ 51 ∷ []; gives = ok (row 1 0 1 2 1 ∷ row 1 0 3 4 1 ∷ row 3 0 1 4 3 ∷ row 2 0 0 5 4 ∷ row 1 0 6 7 1 ∷ row 4 0 0 7 6 ∷ []) }
    -- -1 * 2: the minus takes one term
    ∷ record { source_is = 45 ∷ 49 ∷ 32 ∷ 42 ∷ 32 ∷ 50 ∷ []; gives = ok (row 1 0 1 2 1 ∷ row 5 0 0 2 2 ∷ row 1 0 5 6 1 ∷ row 4 0 0 6 4 ∷ []) }
    -- 1 and + 2 on two lines: no line end at the root, but in parentheses
    ∷ record { source_is = 49 ∷ 10 ∷ 43 ∷ 50 ∷ []; gives = halt 1 1 }
    ∷ record { source_is = 40 ∷ 49 ∷ 10 ∷ 43 ∷ 50 ∷ 41 ∷ []; gives = ok (row 1 0 1 2 1 ∷ row 1 0 4 5 1 ∷ row 3 0 1 5 3 ∷ row 2 0 0 6 4 ∷ []) }
    -- [1, 2] and [1,2,] differ by the flag
    ∷ record { source_is = 91 ∷ 49 ∷ 44 ∷ 32 ∷ 50 ∷ 93 ∷ []; gives = ok (row 1 0 1 2 1 ∷ row 1 0 4 5 1 ∷ row 6 0 0 6 3 ∷ []) }
    ∷ record { source_is = 91 ∷ 49 ∷ 44 ∷ 50 ∷ 44 ∷ 93 ∷ []; gives = ok (row 1 0 1 2 1 ∷ row 1 0 3 4 1 ∷ row 6 1 0 6 3 ∷ []) }
    -- [ ] and [,] and (1
    ∷ record { source_is = 91 ∷ 32 ∷ 93 ∷ []; gives = ok (row 6 0 0 3 1 ∷ []) }
    ∷ record { source_is = 91 ∷ 44 ∷ 93 ∷ []; gives = halt 1 1 }
    ∷ record { source_is = 40 ∷ 49 ∷ []; gives = halt 1 2 }
    -- {a=1,b=2} and {a=1,a=2}
    ∷ record { source_is = 123 ∷ 97 ∷ 61 ∷ 49 ∷ 44 ∷ 98 ∷ 61 ∷ 50 ∷ 125 ∷ []; gives = ok (row 1 0 3 4 1 ∷ row 8 0 1 4 2 ∷ row 1 0 7 8 1 ∷ row 8 0 5 8 2 ∷ row 7 0 0 9 5 ∷ []) }
    ∷ record { source_is = 123 ∷ 97 ∷ 61 ∷ 49 ∷ 44 ∷ 97 ∷ 61 ∷ 50 ∷ 125 ∷ []; gives = halt 3 5 }
    -- nine brackets that open: the last is one too deep
    ∷ record { source_is = replicate 9 91; gives = halt 2 9 }
    -- nothing
    ∷ record { source_is = []; gives = halt 1 0 }
    ∷ []

-- each is read as it says
pub right : map (λ (x : Example). reading (source x.source_is)) examples ≡ map (λ (x : Example). x.gives) examples
right = refl
