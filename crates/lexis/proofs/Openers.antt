-- Laws on the opener of a heredoc: what it is by its parts.
use Prim.Native.Nat.{ℕ, ◌+◌, ◌-◌, ◌≤◌}
use mathlib.Core.Path.{◌≡◌, refl, sym, ◌∙◌}
use mathlib.Core.List.{List, [], ◌∷◌}
use mathlib.Core.Bool.{true, false}
use native.Mathlib.Omega.{arith}
use lib.ListN.{length}
use Rattle.lexis.specs.Bytes.{stands}
use Rattle.lexis.specs.Heredoc.{Opener, fails, opener_word, opener_at, Opened}
use Rattle.lexis.specs.RunLaws.{stands_one, stands_two, stands_inside}

no_opener : {s : List ℕ} (p : ℕ) {q : ℕ} {r o : Opener} → r ≡ fails q → o ≡ fails q → p ≤ q → q ≤ p + (length s - p) → Opened o s p r
no_opener p e f l h =
    record {
      is = e ∙ sym f;
      low = rw e l;
      high = rw e h;
      named = rw e (omega arith);
      ended = rw e (omega arith);
    }

-- an opener by its first bytes
module _ (s : List ℕ) (p : ℕ) where
  pub open_none : {r : Opener} → stands (60 ∷ 60 ∷ []) s p ≡ false → r ≡ fails p → Opened (opener_at s p) s p r
  unfolding opener_at
  open_none n g = no_opener p g (rw (rw (stands_two 60 60 s p refl refl) at n)) (omega arith) (omega arith)

  module _ (y : stands (60 ∷ 60 ∷ []) s p ≡ true) {r : Opener} where
    pub open_plain : stands (45 ∷ []) s (p + 2) ≡ false → Opened (opener_word s false (p + 2)) s (p + 2) r → Opened (opener_at s p) s p r
    unfolding opener_at
    open_plain n h =
        let i : 2 ≤ length s - p = stands_inside (60 ∷ 60 ∷ []) s p y in
        record {
          is = h.is ∙ sym (rw (rw (stands_two 60 60 s p refl refl) at y, rw (stands_one 45 s (p + 2) refl) at n));
          low = omega arith;
          high = omega arith;
          named = h.named;
          ended = h.ended;
        }

    pub open_dash : stands (45 ∷ []) s (p + 2) ≡ true → Opened (opener_word s true (p + 3)) s (p + 3) r → Opened (opener_at s p) s p r
    unfolding opener_at
    open_dash n h =
        let i : 1 ≤ length s - (p + 2) = stands_inside (45 ∷ []) s (p + 2) n in
        record {
          is = h.is ∙ sym (rw (rw (stands_two 60 60 s p refl refl) at y, rw (stands_one 45 s (p + 2) refl) at n));
          low = omega arith;
          high = omega arith;
          named = h.named;
          ended = h.ended;
        }
