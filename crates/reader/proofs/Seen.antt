-- Answers that are looked at.
use Prim.Native.Nat.{ℕ}
use mathlib.Core.Bool.{Bool}
use mathlib.Core.List.{List}
use mathlib.Core.Path.{◌≡◌, subst}
use Rattle.std.specs.Prelude.{Result}
use Rattle.engine.specs.Base.{Outcome, Tree}
use Rattle.grammar.specs.declared.kinds.Refused.{Refused}
use Rattle.grammar.specs.Said.{went_from, Moved}
use Rattle.reader.specs.declared.Reading.{Reading}
use Rattle.reader.specs.Said.{answered, Said}

pub moved_in : {s : List ℕ} {p : ℕ} {lines : Bool} {r r' : Result ℕ Refused} → r ≡ r' → Moved s p lines (went_from r) → Moved s p lines (went_from r')
moved_in {s} {p} {lines} e m = subst (λ (x : Result ℕ Refused). Moved s p lines (went_from x)) e m

pub said_in : {Z : Outcome ℕ (Tree ℕ) → Type 0} {s : List ℕ} {i u k p : ℕ} {b b' x x' y y' : List ℕ} {r r' : Result Reading Refused} → r ≡ r' → Said Z s i u k p b b' x x' y y' (answered r)
    → Said Z s i u k p b b' x x' y y' (answered r')
said_in {Z} {s} {i} {u} {k} {p} {b} {b'} {x} {x'} {y} {y'} e w = subst (λ (v : Result Reading Refused). Said Z s i u k p b b' x x' y y' (answered v)) e w
