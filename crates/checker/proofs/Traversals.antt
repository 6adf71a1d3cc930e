-- Traversals: one part after the other.
use Prim.Native.Nat.{ℕ, ◌%◌}
use mathlib.Core.Path.{◌≡◌, refl}
use mathlib.Core.Bool.{Bool, true, false}
use mathlib.Core.List.{List, [], ◌∷◌}
use lib.ListN.{get_or}
use lib.Dec.{eqb}
use Rattle.engine.specs.Layout.{fin, kid, rep}
use Rattle.grammar.specs.Moves.{gap, parts, here, is_part}
use Rattle.grammar.specs.Layouts.{Layout, portion, traversal_lay}
use Rattle.grammar.specs.Said.{Went, Moved}
use Rattle.checker.specs.Rows.{row_at}
use Rattle.checker.specs.Lay.{KidBy, Direct, EndsAt}
use Rattle.checker.specs.Rest.{RestBy}
use Rattle.checker.proofs.Atoms.{to_end, to_here, past_here, not_here, to_part, not_part}
use Rattle.checker.proofs.Rests.{rest_stop, rest_move, rest_again, rest_done, rest_fin}
use Rattle.checker.proofs.Seats.{seat_portion}
use Rattle.checker.proofs.Enclosures.{step_on}
use Rattle.checker.proofs.Onwards.{Onward, direct_next, onward_on}

-- behind a part, and before one
abbrev pub later_lay : Layout
later_lay = rep (gap here ∷ parts ∷ []) portion (fin 0)

abbrev pub parts_lay : Layout
parts_lay = kid portion later_lay

module _ {s t : List ℕ} {i v : ℕ} {m : List ℕ} {lines : Bool} (e : lines ≡ eqb (v % 2) 1) where
  -- the first part
  module _ {D : List ℕ} {j p : ℕ} {g : Went} (h : Moved s p lines g) where
    pub first_gap_no : ¬ (g.kind ≡ 0) → RestBy s t i v m D D traversal_lay j p false
    first_gap_no n = rest_stop s t i v m (not_here e h n)

    pub first_no : g.kind ≡ 0 → is_part s g.at ≡ false → RestBy s t i v m D D traversal_lay j p false
    first_no z n = rest_stop s t i v m (past_here e h z (not_part n))

    pub first_on : g.kind ≡ 0 → is_part s g.at ≡ true → Direct t i m D j → Onward s t i v m D traversal_lay j p D parts_lay j g.at
    first_on z y a = record { on = λ D' r o. rest_move s t i v m (to_here e h z (to_part y to_end)) o; direct = a; long = refl }

  -- a part, and what stands behind it
  module _ {D₀ : List ℕ} {j₀ p₀ : ℕ} {D : List ℕ} {j p : ℕ} (w : Onward s t i v m D₀ traversal_lay j₀ p₀ D parts_lay j p) {D₁ : List ℕ} {b : Bool} (k : KidBy t i D D₁ j p 8 2 v b) where
    pub part_no : b ≡ false → RestBy s t i v m D₀ D₁ traversal_lay j₀ p₀ false
    part_no z = w.on D₁ false ((seat_portion k).no z m later_lay)

    module _ (z : b ≡ true) {n q : ℕ} (f : n ≡ get_or m j 0) (u : q ≡ (row_at t j).end) {g : Went} (h : Moved s q lines g) where
      behind : {D' : List ℕ} {r : Bool} → RestBy s t i v m D₁ D' later_lay n q r → RestBy s t i v m D D' parts_lay j p r
      behind o = step_on (seat_portion k) z w.direct f u o

      pub last_gap : {r : Bool} → ¬ (g.kind ≡ 0) → EndsAt t i n q 0 r → RestBy s t i v m D₀ D₁ traversal_lay j₀ p₀ r
      last_gap {r} y o = w.on D₁ r (behind (rest_done s t i v m (not_here e h y) (rest_fin s t i v m r o)))

      pub last_part : {r : Bool} → g.kind ≡ 0 → is_part s g.at ≡ false → EndsAt t i n q 0 r → RestBy s t i v m D₀ D₁ traversal_lay j₀ p₀ r
      last_part {r} y c o = w.on D₁ r (behind (rest_done s t i v m (past_here e h y (not_part c)) (rest_fin s t i v m r o)))

      pub next_part : g.kind ≡ 0 → is_part s g.at ≡ true → Onward s t i v m D₀ traversal_lay j₀ p₀ D₁ parts_lay n g.at
      next_part y c = onward_on w (direct_next w.direct (k.inside z) k.long f) k.long (λ D' r o. behind (rest_again s t i v m (to_here e h y (to_part c to_end)) o))
