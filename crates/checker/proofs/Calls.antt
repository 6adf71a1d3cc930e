-- Calls: their names, one after the other.
use Prim.Native.Nat.{ℕ, ◌+◌, ◌%◌}
use mathlib.Core.Path.{◌≡◌, refl, sym}
use mathlib.Core.Bool.{Bool, true, false, cond, ◌&&◌}
use mathlib.Core.List.{List, [], ◌∷◌}
use native.Mathlib.Omega.{arith}
use lib.ListN.{get_or}
use lib.Dec.{eqb}
use Rattle.lexis.specs.Bytes.{Ran, stands}
use Rattle.lexis.specs.Operator.{mark_to}
use Rattle.engine.specs.Layout.{move, rep}
use Rattle.grammar.specs.Moves.{gap, mark, here, call}
use Rattle.grammar.specs.Layouts.{Layout, called, opening, call_lay}
use Rattle.grammar.specs.Said.{Went, Moved}
use Rattle.checker.specs.Rows.{row_at}
use Rattle.checker.specs.Lay.{KidBy}
use Rattle.checker.specs.Rest.{RestBy}
use Rattle.checker.specs.Elements.{listed_lay}
use Rattle.checker.proofs.Atoms.{to_end, to_here, past_here, not_here, to_mark, past_mark, not_mark, not_call, call_same}
use Rattle.checker.proofs.Rests.{att, rest_stop, rest_swap, rest_again, rest_done}
use Rattle.checker.proofs.Seats.{seat_called}
use Rattle.checker.proofs.Enclosures.{step_on}
use Rattle.checker.proofs.Onwards.{Onward, direct_next, onward_on}

-- behind the names, and behind one of them
abbrev pub open_lay : Layout
open_lay = move (gap here ∷ call ∷ []) (listed_lay 41)

abbrev pub later_lay : Layout
later_lay = rep (gap here ∷ mark (58 ∷ 58 ∷ []) [] ∷ gap here ∷ []) called open_lay

-- whether `::` stands, by where it ends
colons_yes : (b : Bool) {p e : ℕ} → e ≡ cond b (p + 2) p → ¬ (e ≡ p) → b ≡ true
colons_yes true h n = refl
colons_yes false h n = absurd (n h)

colons_no : (b : Bool) {p e : ℕ} → e ≡ cond b (p + 2) p → e ≡ p → b ≡ false
colons_no true h z = absurd (omega (arith, h, z))
colons_no false h z = refl

and-true : (b : Bool) → (b && true) ≡ true → b ≡ true
and-true true e = refl
and-true false e = e

and-false : (b : Bool) → (b && true) ≡ false → b ≡ false
and-false true e = e
and-false false e = refl

module _ {s t : List ℕ} {i v : ℕ} {m : List ℕ} {lines : Bool} (e : lines ≡ eqb (v % 2) 1) {D₀ : List ℕ} {j₀ p₀ : ℕ} {D : List ℕ} {j p : ℕ} (w : Onward s t i v m D₀ call_lay j₀ p₀ D call_lay j p) {D₁ : List ℕ} {b : Bool} (k : KidBy t i D D₁ j p 8 1 v b) where
  pub name_no : b ≡ false → RestBy s t i v m D₀ D₁ call_lay j₀ p₀ false
  name_no z = w.on D₁ false ((seat_called k).no z m later_lay)

  module _ (z : b ≡ true) {n q : ℕ} (f : n ≡ get_or m j 0) (a : q ≡ (row_at t j).end) {g : Went} (h : Moved s q lines g) where
    behind : {D' : List ℕ} {r : Bool} → RestBy s t i v m D₁ D' later_lay n q r → RestBy s t i v m D D' call_lay j p r
    behind o = step_on (seat_called k) z w.direct f a o

    pub name_gap_no : ¬ (g.kind ≡ 0) → RestBy s t i v m D₀ D₁ call_lay j₀ p₀ false
    name_gap_no y = w.on D₁ false (behind (rest_done s t i v m (not_here e h y) (rest_stop s t i v m (not_here e h y))))

    module _ (y : g.kind ≡ 0) {c : ℕ} (x : Ran s g.at (mark_to (58 ∷ 58 ∷ []) [] s g.at) c) where
      pub name_last : {D' : List ℕ} {r : Bool} → c ≡ g.at → RestBy s t i v m D₁ D' (move (opening (40 ∷ [])) (listed_lay 41)) n g.at r → RestBy s t i v m D₀ D' call_lay j₀ p₀ r
      name_last {D'} {r} d o =
          w.on D' r
          (behind (rest_done s t i v m (past_here e h y (not_mark x d))
          (rest_swap s t i v m (sym (call_same s (att s t i v m) (row_at t i).start e h y (and-false (stands (58 ∷ 58 ∷ []) s g.at) (colons_no _ x.is d)))) o)))

      module _ (d : ¬ (c ≡ g.at)) {u : Went} (o : Moved s c lines u) where
        pub colons_gap_no : ¬ (u.kind ≡ 0) → RestBy s t i v m D₀ D₁ call_lay j₀ p₀ false
        colons_gap_no r =
            w.on D₁ false
            (behind (rest_done s t i v m (past_here e h y (past_mark x d (not_here e o r)))
            (rest_stop s t i v m (past_here e h y (not_call (and-true (stands (58 ∷ 58 ∷ []) s g.at) (colons_yes _ x.is d)))))))

        pub name_next : u.kind ≡ 0 → Onward s t i v m D₀ call_lay j₀ p₀ D₁ call_lay n u.at
        name_next r = onward_on w (direct_next w.direct (k.inside z) k.long f) k.long (λ D' r' o'. behind (rest_again s t i v m (to_here e h y (to_mark x d (to_here e o r to_end))) o'))
