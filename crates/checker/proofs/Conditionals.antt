-- Conditionals: a mark and an expression, twice.
use Prim.Native.Nat.{ℕ, ◌-◌, ◌%◌, ◌≤◌, ◌<◌}
use mathlib.Core.Path.{◌≡◌}
use mathlib.Core.Bool.{Bool, false}
use mathlib.Core.List.{List, [], ◌∷◌}
use native.Mathlib.Omega.{arith}
use lib.Dec.{eqb}
use Rattle.lexis.specs.Bytes.{Ran}
use Rattle.lexis.specs.Operator.{mark_to}
use Rattle.engine.specs.Layout.{fin}
use Rattle.grammar.specs.Moves.{gap, here}
use Rattle.grammar.specs.Layouts.{conditional_lay}
use Rattle.grammar.specs.Said.{Went, Moved}
use Rattle.checker.specs.Rows.{row_at}
use Rattle.checker.specs.Lay.{KidBy}
use Rattle.checker.specs.Rest.{RestBy, StepBy, branch_lay}
use Rattle.checker.proofs.Atoms.{to_end, to_here, past_here, not_here, to_mark, not_mark, deep_open, blocked, open_same}
use Rattle.checker.proofs.Rests.{att, rest_stop, rest_swap, step_stop, step_move}
use Rattle.checker.proofs.Seats.{seat_branch}

module _ {s t : List ℕ} {i v : ℕ} {D : List ℕ} {j p c : ℕ} {lines : Bool} (e : lines ≡ eqb (v % 2) 1) {g : Went} (h : Moved s p lines g) where
  pub branch_gap_no : ¬ (g.kind ≡ 0) → StepBy s t i v D D (branch_lay c) j p false
  branch_gap_no n = step_stop (not_here e h n)

  module _ (z : g.kind ≡ 0) {b : ℕ} (f : Ran s g.at (mark_to (c ∷ []) [] s g.at) b) where
    pub branch_mark_no : b ≡ g.at → StepBy s t i v D D (branch_lay c) j p false
    branch_mark_no y = step_stop (past_here e h z (not_mark f y))

    module _ (n : ¬ (b ≡ g.at)) {w : Went} (k : Moved s b lines w) where
      pub branch_round_no : ¬ (w.kind ≡ 0) → StepBy s t i v D D (branch_lay c) j p false
      branch_round_no y = step_move (to_here e h z (to_mark f n to_end)) (step_stop (not_here e k y))

      pub branch_by : {D' : List ℕ} {u : ℕ} {r : Bool} → w.kind ≡ 0 → 2 ≤ v → u ≡ v - 2 → (row_at t i).kind ≡ 21 → KidBy t i D D' j w.at 0 0 u r → StepBy s t i v D D' (branch_lay c) j p r
      branch_by y l a is x = step_move (to_here e h z (to_mark f n to_end)) (step_move (to_here e k y to_end) (seat_branch l a is x))

module _ {s t : List ℕ} {i v : ℕ} {m D : List ℕ} {j p : ℕ} where
  pub conditional_deep : v < 2 → RestBy s t i v m D D conditional_lay j p false
  conditional_deep h = rest_stop s t i v m (blocked (gap here) (λ q. deep_open (omega (arith, h))))

  -- its `?` opens a level
  pub conditional_open : {D' : List ℕ} {r : Bool} → 2 ≤ v → RestBy s t i v m D D' (branch_lay 63 (branch_lay 58 (fin 0))) j p r → RestBy s t i v m D D' conditional_lay j p r
  conditional_open l o = rest_swap s t i v m (open_same s (att s t i v m) (row_at t i).start (gap here) (63 ∷ []) p (λ e. omega (arith, e, l))) o
