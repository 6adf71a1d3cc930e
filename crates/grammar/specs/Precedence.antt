-- Precedence: the thirteen operators with their levels, and what it means that an operator's operands bind as their places ask.
use Rattle.std.specs.Prelude.{ℕ, suc, ◌+◌, ◌≤◌, ◌<◌, ◌≡◌, List, [], ◌∷◌}
use Rattle.engine.specs.Flat.{Row}
use Rattle.engine.specs.Rule.{Kids}
use Rattle.grammar.specs.Kinds.{tight_of}

-- each kind with its level, the higher the tighter: "tightest first: `* / %`; `+ -`; `> >= < <=`; `== !=`; `&&`; `||`"
abbrev pub thirteen : List (ℕ × ℕ)
thirteen =
    (24, 7) ∷ (25, 7) ∷ (26, 7)
    ∷ (27, 6) ∷ (28, 6)
    ∷ (29, 5) ∷ (30, 5) ∷ (31, 5) ∷ (32, 5)
    ∷ (33, 4) ∷ (34, 4)
    ∷ (35, 3)
    ∷ (36, 2)
    ∷ []

-- row i has two operands, by its counts, of which the left binds as tightly as the level t or tighter, and the right tighter
pub record Binds (f : ℕ → Row ℕ) (i t : ℕ) : Type 0 where
  pub lo : ℕ
  pub left : ℕ
  pub right : ℕ
  pub tiles : lo + (f i).count ≡ suc i
  pub split : Kids f lo i (left ∷ right ∷ [])
  pub as_tight : t ≤ tight_of (f left).rec.kind
  pub tighter : t < tight_of (f right).rec.kind
