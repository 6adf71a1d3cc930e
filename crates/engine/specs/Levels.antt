-- Precedence, over any set of operators with levels, given as data: a list of kinds, each with its level; the higher the tighter.
use Rattle.std.specs.Prelude.{◌≡◌, Bool, true, false, ◌&&◌, List, ◌∷◌, [], ℕ, suc, ◌+◌, ◌≤◌, ◌<◌, leb, eqb, T}
use Rattle.std.proofs.Math.Option.{Option, none, some}
use Rattle.engine.specs.Base.{all_of}
use Rattle.engine.specs.Flat.{Row}
use Rattle.engine.specs.Layout.{Lay, bad, fin, move, kid, fork, rep, Lang}
use Rattle.engine.specs.Rule.{Kids}

-- the level of a kind; none: it is no operator of the list
abbrev pub level_as : Bool → ℕ → Option ℕ → Option ℕ
level_as true t o = some t
level_as false t o = o

abbrev pub level_in : List (ℕ × ℕ) → ℕ → Option ℕ
level_in [] k = none
level_in (x ∷ xs) k = level_as (eqb x.0 k) x.1 (level_in xs k)

-- under an operator of level t, a left operand that is an operator binds as tightly or tighter, and a right operand that is one binds
-- tighter; parentheses and whatever else is no operator of the list may stand in both places
pub record Grouped (levels : List (ℕ × ℕ)) (t left right : ℕ) : Type 0 where
  pub as_tight : (u : ℕ) → level_in levels left ≡ some u → t ≤ u
  pub tighter : (u : ℕ) → level_in levels right ≡ some u → t < u

-- row i of a table has two children, by its counts, and is so grouped with them
pub record Operands {P : Type 0} (levels : List (ℕ × ℕ)) (f : ℕ → Row P) (i t : ℕ) : Type 0 where
  pub lo : ℕ
  pub left : ℕ
  pub right : ℕ
  pub tiles : lo + (f i).count ≡ suc i
  pub split : Kids f lo i (left ∷ right ∷ [])
  pub grouped : Grouped levels t (f left).rec.kind (f right).rec.kind

module _ {P B M C : Type 0} (N : Lang P B M C) where
  -- ---- the test of the tables, which computes: an operator of level t is as tight as its level and holds against no tighter one; beside
  -- its left operand it has one child, of a class that is bound by the level

  abbrev pub bare : Lay M C → Bool
  bare bad = true
  bare (fin φ) = true
  bare (move m l) = bare l
  bare (kid c l) = false
  bare (fork m l l') = bare l && bare l'
  bare (rep m c l) = false

  abbrev pub lone : ℕ → Lay M C → Bool
  lone t bad = true
  lone t (fin φ) = false
  lone t (move m l) = lone t l
  lone t (kid c l) = leb t (N.bound c) && bare l
  lone t (fork m l l') = lone t l && lone t l'
  lone t (rep m c l) = false

  abbrev pub graded : ℕ × ℕ → Bool
  graded x = (eqb (N.tight x.0) x.1 && leb (N.hold x.0) x.1) && lone x.1 (N.layout x.0)

  pub record Graded (levels : List (ℕ × ℕ)) : Type 0 where
    pub tests : T (all_of graded levels)
    -- none of them stands first, and none is called by another name
    pub not_first : (b : B) (p : P) (k : ℕ) → N.pick b p ≡ some k → level_in levels k ≡ none
    pub own_name : (n k t : ℕ) → level_in levels (N.name n k) ≡ some t → N.name n k ≡ k
