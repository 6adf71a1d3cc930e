-- List fors and their conditions: their layouts, part by part.
use Prim.Native.Nat.{ℕ, ◌-◌, ◌*◌, ◌/◌, ◌≤◌}
use mathlib.Core.Path.{◌≡◌}
use mathlib.Core.Bool.{Bool, true, false}
use mathlib.Core.List.{List, [], ◌∷◌}
use lib.ListN.{get_or}
use Rattle.lexis.specs.Bytes.{Ran}
use Rattle.lexis.specs.Word.{word_to, for_to, in', if'}
use Rattle.lexis.specs.Operator.{mark_to}
use Rattle.engine.specs.Layout.{fin, move, fork}
use Rattle.grammar.specs.Layouts.{past, filter_lay, filters_lay}
use Rattle.grammar.specs.Said.{Went, Moved}
use Rattle.checker.specs.Rows.{row_at}
use Rattle.checker.specs.Lay.{KidBy, Direct, EndsAt}
use Rattle.checker.specs.Rest.{RestBy, StepBy, inside_lay}
use Rattle.checker.specs.ListFor.{ShutBy, named_lay, intro_lay, collection_lay, value_lay, ranged_lay}
use Rattle.checker.proofs.Atoms.{to_end, to_any, past_any, not_any, to_gap, past_gap, to_mark, not_mark, to_for, not_for, to_word, not_word, to_ahead, not_ahead}
use Rattle.checker.proofs.Rests.{rest_stop, rest_move, rest_fork, rest_other, rest_fin, step_stop, step_move}
use Rattle.checker.proofs.Seats.{seat_called, seat_single, seat_filter, seat_test}
use Rattle.checker.proofs.Enclosures.{step_on}

module _ {s t : List ℕ} {i v : ℕ} {D : List ℕ} {j p : ℕ} {g : Went} (h : Moved s p true g) where
  -- a name
  pub named_no : ¬ (g.kind ≡ 0) → StepBy s t i v D D named_lay j p false
  named_no n = step_stop (not_any h n)

  pub named_by : {D' : List ℕ} {r : Bool} → g.kind ≡ 0 → KidBy t i D D' j g.at 8 1 v r → StepBy s t i v D D' named_lay j p r
  named_by z x = step_move (to_any h z to_end) (seat_called x)

  -- `for`
  pub intro_gap_no : ¬ (g.kind ≡ 0) → StepBy s t i v D D intro_lay j p false
  intro_gap_no n = step_stop (not_any h n)

  module _ (z : g.kind ≡ 0) {e : ℕ} (f : Ran s g.at (for_to s g.at) e) where
    pub intro_no : e ≡ g.at → StepBy s t i v D D intro_lay j p false
    intro_no y = step_stop (past_any h z (not_for f y))

    pub intro_by : {D' : List ℕ} {r : Bool} → ¬ (e ≡ g.at) → StepBy s t i v D D' named_lay j e r → StepBy s t i v D D' intro_lay j p r
    intro_by n o = step_move (to_any h z (to_for f n to_end)) o

  -- `in`
  pub collection_gap_no : ¬ (g.kind ≡ 0) → StepBy s t i v D D collection_lay j p false
  collection_gap_no n = step_stop (not_any h n)

  module _ (z : g.kind ≡ 0) {e : ℕ} (f : Ran s g.at (word_to in' s g.at) e) where
    pub collection_no : e ≡ g.at → StepBy s t i v D D collection_lay j p false
    collection_no y = step_stop (past_any h z (not_word f y))

    module _ (n : ¬ (e ≡ g.at)) {x : Went} (k : Moved s e true x) where
      pub collection_space_no : ¬ (x.kind ≡ 0) → StepBy s t i v D D collection_lay j p false
      collection_space_no y = step_move (to_any h z (to_word f n to_end)) (step_stop (not_any k y))

      pub collection_by : {D' : List ℕ} {w : ℕ} {r : Bool} → x.kind ≡ 0 → 2 ≤ v → w ≡ v / 2 * 2 - 2 → KidBy t i D D' j x.at 0 0 w r → StepBy s t i v D D' collection_lay j p r
      collection_by y l a o = step_move (to_any h z (to_word f n to_end)) (step_move (to_any k y to_end) (seat_single l a o))

  -- `:`
  pub value_gap_no : ¬ (g.kind ≡ 0) → StepBy s t i v D D value_lay j p false
  value_gap_no n = step_stop (not_any h n)

  module _ (z : g.kind ≡ 0) {e : ℕ} (f : Ran s g.at (mark_to (58 ∷ []) [] s g.at) e) where
    pub value_no : e ≡ g.at → StepBy s t i v D D value_lay j p false
    value_no y = step_stop (past_any h z (not_mark f y))

    pub value_by : {D' : List ℕ} {r : Bool} → ¬ (e ≡ g.at) → StepBy s t i v D D' inside_lay j e r → StepBy s t i v D D' value_lay j p r
    value_by n o = step_move (to_any h z (to_mark f n to_end)) o

-- the closer
module _ {s t : List ℕ} {i c j at e : ℕ} (f : Ran s at (mark_to (c ∷ []) [] s at) e) where
  pub shut_no : e ≡ at → ShutBy s t i c j at false
  shut_no z = record { tail = λ q h. record { rest = λ v m D. rest_stop s t i v m (past_gap h (not_mark f z)) } }

  pub shut_by : {r : Bool} → ¬ (e ≡ at) → EndsAt t i j e 0 r → ShutBy s t i c j at r
  shut_by {r} n o = record { tail = λ q h. record { rest = λ v m D. rest_move s t i v m (to_gap h (to_mark f n to_end)) (rest_fin s t i v m r o) } }

-- behind a condition
pub shut_on : {s t : List ℕ} {i v : ℕ} {m D : List ℕ} {c j p : ℕ} {g : Went} {r : Bool} → Moved s p true g → g.kind ≡ 0 → ShutBy s t i c j g.at r → RestBy s t i v m D D (move (past (c ∷ [])) (fin 0)) j p r
shut_on {v = v} {m} {D} {p = p} h z o = (o.tail p (h.good z)).rest v m D

-- behind a value
module _ {s t : List ℕ} {i v : ℕ} {m D : List ℕ} {j p : ℕ} {g : Went} (h : Moved s p true g) where
  pub filter_gap_no : ¬ (g.kind ≡ 0) → RestBy s t i v m D D (filter_lay 93 0) j p false
  filter_gap_no n = rest_other s t i v m (not_any h n) (rest_stop s t i v m (not_any h n))

  module _ (z : g.kind ≡ 0) {e : ℕ} (f : Ran s g.at (word_to if' s g.at) e) where
    pub filter_none : {r : Bool} → e ≡ g.at → ShutBy s t i 93 j g.at r → RestBy s t i v m D D (filter_lay 93 0) j p r
    filter_none y o = rest_other s t i v m (past_any h z (not_ahead f y)) (shut_on h z o)

    module _ (n : ¬ (e ≡ g.at)) (deep : 2 ≤ v) {D₁ : List ℕ} {w : ℕ} {b : Bool} (pack : w ≡ v / 2 * 2 - 1) (k : KidBy t i D D₁ j g.at 8 3 w b) where
      pub filter_no : b ≡ false → RestBy s t i v m D D₁ (filter_lay 93 0) j p false
      filter_no y = rest_fork s t i v m (to_any h z (to_ahead f n to_end)) ((seat_filter deep pack k).no y m (move (past (93 ∷ [])) (fin 0)))

      pub filter_on : {D' : List ℕ} {l q : ℕ} {r : Bool} → b ≡ true → Direct t i m D j → l ≡ get_or m j 0 → q ≡ (row_at t j).end → RestBy s t i v m D₁ D' (move (past (93 ∷ [])) (fin 0)) l q r → RestBy s t i v m D D' (filter_lay 93 0) j p r
      filter_on y a c d o = rest_fork s t i v m (to_any h z (to_ahead f n to_end)) (step_on (seat_filter deep pack k) y a c d o)

  -- behind the first name
  pub pair_gap_no : ¬ (g.kind ≡ 0) → RestBy s t i v m D D (fork (past (44 ∷ [])) (named_lay ranged_lay) ranged_lay) j p false
  pair_gap_no n = rest_other s t i v m (not_any h n) (rest_stop s t i v m (not_any h n))

  module _ (z : g.kind ≡ 0) {e : ℕ} (f : Ran s g.at (mark_to (44 ∷ []) [] s g.at) e) where
    pub pair_one : {D' : List ℕ} {r : Bool} → e ≡ g.at → RestBy s t i v m D D' ranged_lay j p r → RestBy s t i v m D D' (fork (past (44 ∷ [])) (named_lay ranged_lay) ranged_lay) j p r
    pair_one y o = rest_other s t i v m (past_any h z (not_mark f y)) o

    pub pair_two : {D' : List ℕ} {r : Bool} → ¬ (e ≡ g.at) → RestBy s t i v m D D' (named_lay ranged_lay) j e r → RestBy s t i v m D D' (fork (past (44 ∷ [])) (named_lay ranged_lay) ranged_lay) j p r
    pair_two n o = rest_fork s t i v m (to_any h z (to_mark f n to_end)) o

-- ---- a condition

module _ {s t : List ℕ} {i v : ℕ} {m D : List ℕ} {j p e : ℕ} (f : Ran s p (word_to if' s p) e) where
  pub if_no : e ≡ p → RestBy s t i v m D D filters_lay j p false
  if_no z = rest_stop s t i v m (not_word f z)

  module _ (n : ¬ (e ≡ p)) {g : Went} (h : Moved s e true g) where
    pub if_gap_no : ¬ (g.kind ≡ 0) → RestBy s t i v m D D filters_lay j p false
    if_gap_no y = rest_move s t i v m (to_word f n to_end) (rest_stop s t i v m (not_any h y))

    module _ (z : g.kind ≡ 0) (is : (row_at t i).kind ≡ 20) {D₁ : List ℕ} {b : Bool} (k : KidBy t i D D₁ j g.at 0 0 v b) where
      pub test_no : b ≡ false → RestBy s t i v m D D₁ filters_lay j p false
      test_no y = rest_move s t i v m (to_word f n to_end) (rest_move s t i v m (to_any h z to_end) ((seat_test is k).no y m (fin 0)))

      pub test_by : {l q : ℕ} {r : Bool} → b ≡ true → Direct t i m D j → l ≡ get_or m j 0 → q ≡ (row_at t j).end → EndsAt t i l q 0 r → RestBy s t i v m D D₁ filters_lay j p r
      test_by {r = r} y a c d o = rest_move s t i v m (to_word f n to_end) (rest_move s t i v m (to_any h z to_end) (step_on (seat_test is k) y a c d (rest_fin s t i v m r o)))
