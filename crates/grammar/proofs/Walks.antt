-- The walk over the atoms of a move: what is left of it gives what was asked.
use Prim.Native.Nat.{ℕ, zero, suc, ◌+◌, ◌-◌, ◌%◌, ◌/◌, ◌≤◌}
use mathlib.Core.Path.{◌≡◌, refl, sym, ap, ◌∙◌}
use mathlib.Core.List.{List, [], ◌∷◌}
use mathlib.Core.Bool.{Bool}
use native.Mathlib.Omega.{arith}
use native.Mathlib.Numerals.{add-one}
use lib.ListN.{length, get_or, drop}
use borrow.Author.Tests.{eq-eqb, ne_eqb}
use Rattle.grammar.specs.Moves.{Want, Under, Step, to, no, then, Atom, atom, Move, walk}
use Rattle.grammar.specs.Hcl.{under}
use Rattle.grammar.specs.Code.{atoms, atom_of, move_of, move_at}
use Rattle.grammar.specs.Thrift.{eaten}
use Rattle.grammar.specs.Said.{Went, went, Made, Walked, Numbered}
use Rattle.grammar.proofs.Steps.{does}

-- ---- the move at a place of the atoms, by its first number

nil_from : (xs : List ℕ) (i : ℕ) → get_or xs i 0 ≡ 0 → move_of (drop i xs) ≡ []
unfolding move_of
nil_from [] zero e = refl
nil_from [] (suc i) e = refl
nil_from (x ∷ xs) zero e = rw (eq-eqb x 0 e)
nil_from (x ∷ xs) (suc i) e = nil_from xs i e

cons_from : (xs : List ℕ) (i x : ℕ) → x ≡ get_or xs i 0 → (x ≡ 0 → ⊥) → move_of (drop i xs) ≡ atom_of (x % 256) (x / 256) ∷ move_of (drop (suc i) xs)
unfolding move_of
cons_from [] i x e n = absurd (n e)
cons_from (y ∷ xs) zero x e n = rw (← e, ne_eqb x 0 n)
cons_from (y ∷ xs) (suc i) x e n = cons_from xs i x e n

module _ {i x : ℕ} (h : Numbered i x) where
  last : x ≡ 0 → move_at i ≡ []
  last e = nil_from atoms i (sym h.is ∙ e)

  next : (x ≡ 0 → ⊥) → move_at i ≡ atom_of (x % 256) (x / 256) ∷ move_at (i + 1)
  next n = rw add-one (cons_from atoms i x h.is n)

-- ---- the loop

-- the move from a at p goes on with the atoms from i at q
pub record Walking (s : List ℕ) (left : ℕ) (lines : Bool) (a p i q : ℕ) : Type 0 where
  pub goes : (σ : ℕ) (w : Want) → walk s (under left lines w) σ (move_at a) p ≡ walk s (under left lines w) σ (move_at i) q
  pub low : p ≤ q
  pub high : q ≤ p + (length s - p)
  pub ate : p + eaten (move_at a) ≤ q + eaten (move_at i)

walk_nil : (s : List ℕ) (b : Under) (σ q : ℕ) (m : Move) → m ≡ [] → walk s b σ m q ≡ to q
unfolding walk
walk_nil s b σ q m e = rw e

walk_cons : (s : List ℕ) (b : Under) (σ q : ℕ) (m n : Move) (x : Atom) (st : Step) → m ≡ x ∷ n → atom s b σ x q ≡ st → walk s b σ m q ≡ then st (walk s b σ n)
unfolding walk
walk_cons s b σ q m n x st e f = rw (e, f)

pub walking_start : (s : List ℕ) (left : ℕ) (lines : Bool) (a p : ℕ) → Walking s left lines a p a p
walking_start s left lines a p = record { goes = λ σ w. refl; low = omega arith; high = omega arith; ate = omega arith }

module _ {s : List ℕ} {left : ℕ} {lines : Bool} {a p i q x : ℕ} (v : Walking s left lines a p i q) (h : Numbered i x) {r : Went} where
  pub walking_end : x ≡ 0 → r ≡ went 0 q → Walked s left lines a p r
  walking_end e g =
      does (to q) (λ σ w. v.goes σ w ∙ walk_nil s (under left lines w) σ q (move_at i) (last h e))
      (omega (arith, v.ate, ap eaten (last h e)), v.high)
      g

  module _ (n : x ≡ 0 → ⊥) (m : Made s left lines (atom_of (x % 256) (x / 256)) q r) where
    pub walking_no : (r.kind ≡ 0 → ⊥) → Walked s left lines a p r
    walking_no z =
        does (no r.kind r.at)
        (λ σ w. v.goes σ w ∙ walk_cons s (under left lines w) σ q (move_at i) (move_at (i + 1)) (atom_of (x % 256) (x / 256)) (no r.kind r.at) (next h n) (m.bad z σ w))
        (omega (arith, z), omega (arith, v.low, m.low), omega (arith, v.low, v.high, m.high))
        refl

    pub walking_more : r.kind ≡ 0 → Walking s left lines a p (i + 1) r.at
    walking_more z = record {
      goes = λ σ w. v.goes σ w ∙ walk_cons s (under left lines w) σ q (move_at i) (move_at (i + 1)) (atom_of (x % 256) (x / 256)) (to r.at) (next h n) (m.good z σ w);
      low = omega (arith, v.low, m.low);
      high = omega (arith, v.low, v.high, m.high);
      ate = omega (arith, v.ate, m.ate z, ap eaten (next h n));
    }
