-- Elements with commas between them, up to a closer: what the code of it promises.
use Rattle.std.specs.Prelude.{ℕ, ◌≤◌, ◌≡◌, List, [], ◌∷◌, Bool, true, cond, eqb}
use Rattle.lexis.specs.Bytes.{byte_at}
use Rattle.engine.specs.Layout.{fin, move, kid, fork, rep}
use Rattle.grammar.specs.Moves.{to, skip}
use Rattle.grammar.specs.Layouts.{inside, Layout, past, space, between, closing}
use Rattle.checker.specs.Rest.{TailBy}

-- `)` or `]`
abbrev pub Closer : ℕ → Type 0
Closer c = (c ≤ 255) × ¬ (c ≡ 44) × ¬ (c ≡ 46)

-- behind the last element of an array, and of a call, where `...` may stand before the closer
abbrev pub tail_of : Bool → ℕ → Layout
tail_of b c = cond b (fork (past (46 ∷ 46 ∷ 46 ∷ [])) (move (past (c ∷ [])) (fin 1)) (move (closing c) (fin 0))) (move (closing c) (fin 0))

abbrev pub tail_lay : ℕ → Layout
tail_lay c = tail_of (eqb c 41) c

abbrev pub elements_lay : ℕ → Layout
elements_lay c = kid inside (rep (between c) inside (tail_lay c))

-- behind the opener
abbrev pub listed_lay : ℕ → Layout
listed_lay c = fork (past (c ∷ [])) (fin 0) (move space (elements_lay c))

-- no comma stands at p
abbrev pub After : List ℕ → ℕ → Type 0
After s p = byte_at s p ≡ 44 → ⊥

-- `r` says whether the closer stands at `at`, as the end of the row, wherever its trivia starts
pub record LastBy (s t : List ℕ) (i c j at : ℕ) (r : Bool) : Type 0 where
  pub tail : (q : ℕ) → skip s true q ≡ to at → TailBy s t i (tail_lay c) j q r
