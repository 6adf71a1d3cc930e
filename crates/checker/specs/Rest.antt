-- What is left of a layout, laid over what is left of a row's children: what the code promises that goes through a layout with no program.
use Rattle.std.specs.Prelude.{ℕ, ◌+◌, ◌/◌, ◌%◌, ◌<◌, ◌≡◌, List, [], ◌∷◌, map, Bool, true, false, length, get_or, eqb}
use Rattle.engine.specs.Base.{Rec}
use Rattle.grammar.specs.Moves.{Under, gap, mark, here}
use Rattle.engine.specs.Layout.{fin, move, kid, fork}
use Rattle.grammar.specs.Layouts.{inside, branch, Layout, opening, past, plain, space, round}
use Rattle.grammar.specs.Published.{depth_of}
use Rattle.checker.specs.Rows.{row_at, rec_at}
use Rattle.checker.specs.Family.{Chain}
use Rattle.checker.specs.Lay.{depths_at, Filled, Over, Direct}

-- in the row i, whose depth is v, the layout l goes from p over the children js, behind the children ks
abbrev pub Goes : List ℕ → List ℕ → ℕ → ℕ → List (Rec ℕ) → Layout → ℕ → List ℕ → List (Under × ℕ) → Type 0
Goes s t i v ks l p js bs = Over s t i (v / 2) (eqb (v % 2) 1) ks l p (map (rec_at t) js) bs

-- `r` says whether it does so over the children from the row j on; then their depths are put down
pub record RestBy (s t : List ℕ) (i v : ℕ) (m D D' : List ℕ) (l : Layout) (j p : ℕ) (r : Bool) : Type 0 where
  pub long : length D' ≡ length D
  pub same : (x : ℕ) → x < j → get_or D' x 0 ≡ get_or D x 0
  pub yes : r ≡ true → (ks : List (Rec ℕ)) (js : List ℕ) → Chain m i js j → (bs : List (Under × ℕ)) × Goes s t i v ks l p js bs
  pub only : r ≡ true → (ks : List (Rec ℕ)) (js : List ℕ) → Chain m i js j → (bs : List (Under × ℕ)) → Goes s t i v ks l p js bs → depths_at D' js ≡ map depth_of bs
  pub no : r ≡ false → (ks : List (Rec ℕ)) (js : List ℕ) → Chain m i js j → Filled t js → (bs : List (Under × ℕ)) → Goes s t i v ks l p js bs → ⊥

-- what a layout begins with, up to a child: `r` says whether that goes from p to the row j as the child; then its depth is put down
pub record StepBy (s t : List ℕ) (i v : ℕ) (D D' : List ℕ) (f : Layout → Layout) (j p : ℕ) (r : Bool) : Type 0 where
  pub long : length D' ≡ length D
  pub inside : r ≡ true → j < i
  pub on : r ≡ true → (m : List ℕ) → Direct t i m D j → (l : Layout) (D'' : List ℕ) (x : Bool) → RestBy s t i v m D' D'' l (get_or m j 0) (row_at t j).end x → RestBy s t i v m D D'' (f l) j p x
  pub no : r ≡ false → (m : List ℕ) (l : Layout) → RestBy s t i v m D D' (f l) j p false

-- `r` says whether l goes from p to the end of the row, with no child
pub record TailBy (s t : List ℕ) (i : ℕ) (l : Layout) (j p : ℕ) (r : Bool) : Type 0 where
  pub rest : (v : ℕ) (m D : List ℕ) → RestBy s t i v m D D l j p r

-- ---- layouts by their parts

-- an expression within brackets, behind any trivia
abbrev pub inside_lay : Layout → Layout
inside_lay l = move space (kid inside l)

-- one between two bytes
abbrev pub enclosed_lay : ℕ → ℕ → Layout
enclosed_lay a c = move (opening (a ∷ [])) (inside_lay (move (past (c ∷ [])) (fin 0)))

-- what stands behind the expression of an interpolation
abbrev pub stripped_lay : ℕ → Layout
stripped_lay φ = fork (past (126 ∷ [])) (move (plain (125 ∷ [])) (fin (φ + 2))) (move (past (125 ∷ [])) (fin φ))

-- a mark, and a part of a conditional
abbrev pub branch_lay : ℕ → Layout → Layout
branch_lay c l = move (gap here ∷ mark (c ∷ []) [] ∷ []) (move round (kid branch l))
