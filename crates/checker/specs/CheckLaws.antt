-- Demand 3, end to end: the checker says yes exactly when the reader, lent as much room as the source has bytes or more, would accept it and return
-- that very table and text.
use Rattle.std.specs.Prelude.{ℕ, ◌≤◌, ◌≡◌, refl, List, Bool, true, false, ◌↔◌, length}
use Rattle.grammar.specs.Published.{Holds}
use Rattle.grammar.specs.Demands.{Gives}
use Rattle.grammar.proofs.DemandLaws.{demand_3}
use Rattle.checker.specs.Check.{Checks}

pub says_yes : (s table text : List ℕ) (r : Bool) → Checks s table text r → (nodes bytes : ℕ) → length s ≤ nodes → length s ≤ bytes → (r ≡ true) ↔ Gives s nodes bytes table text
says_yes s table text r h nodes bytes a b = (λ z. (demand_3 s table text nodes bytes a b).0 (h.yes z), λ g. decide r h ((demand_3 s table text nodes bytes a b).1 g))
  where
    decide : (r : Bool) → Checks s table text r → Holds s table text → r ≡ true
    decide true h x = refl
    decide false h x = absurd (h.no refl x)
