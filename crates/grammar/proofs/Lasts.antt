-- Bytes behind which nothing follows an operand: what stands there is no trivia, and begins nothing that may follow.
use Prim.Native.Nat.{ℕ, ◌+◌}
use mathlib.Core.Path.{◌≡◌, refl, sym, ap, ◌∙◌}
use mathlib.Core.List.{List, [], ◌∷◌}
use mathlib.Core.Bool.{Bool, true, false, not}
use native.Mathlib.Omega.{arith}
use lib.ListN.{drop}
use lib.Dec.{eqb}
use borrow.Author.Tests.{eq-eqb}
use Rattle.lexis.specs.Bytes.{byte_at, begins, Byte}
use Rattle.lexis.specs.Trivia.{item, gap, gap_to, ends_at}
use Rattle.lexis.specs.Operator.{op_at}
use Rattle.lexis.specs.RunLaws.{clash, inside, next, stands_one}
use Rattle.grammar.specs.StillLaws.{Still, still_at, still_by}
use Rattle.grammar.specs.Said.{Follow}
use Rattle.grammar.specs.Alone.{Lasting}
use Rattle.grammar.proofs.Callings.{follow_still}

module _ (s : List ℕ) (p : ℕ) where
  here : (c : ℕ) → eqb 256 c ≡ false → byte_at s p ≡ c → drop p s ≡ c ∷ drop (p + 1) s
  here c n e = next s p (inside (λ x. eqb x c) s p n (eq-eqb (byte_at s p) c e)) ∙ ap (λ (x : ℕ). x ∷ drop (p + 1) s) e

  -- a byte c that is no trivia, and that nothing begins with
  nothing : (c : ℕ) (lines : Bool) → eqb 256 c ≡ false → byte_at s p ≡ c → ((xs : List ℕ) → gap lines p 0 (c ∷ xs) ≡ ends_at p) → ((ys : List ℕ) → Still (c ∷ ys)) → Follow s p lines 0
  nothing c lines n e f g =
      let t : ends_at p ≡ gap_to lines s p = sym (ap (gap lines p 0) (here c n e) ∙ f (drop (p + 1) s)) in
      follow_still {s = s} {p = p} {lines = lines} {g = ends_at p} (record { is = t; low = omega arith; high = omega arith; inside = λ u. clash (sym u) }) refl
      (still_at s p (still_by (c ∷ []) (drop p s) g (stands_one c s p n ∙ eq-eqb (byte_at s p) c e)))

gap_round : (lines : Bool) (p : ℕ) (xs : List ℕ) → gap lines p 0 (41 ∷ xs) ≡ ends_at p
unfolding gap item begins
gap_round true p xs = refl
gap_round false p xs = refl

gap_comma : (lines : Bool) (p : ℕ) (xs : List ℕ) → gap lines p 0 (44 ∷ xs) ≡ ends_at p
unfolding gap item begins
gap_comma true p xs = refl
gap_comma false p xs = refl

gap_square : (lines : Bool) (p : ℕ) (xs : List ℕ) → gap lines p 0 (93 ∷ xs) ≡ ends_at p
unfolding gap item begins
gap_square true p xs = refl
gap_square false p xs = refl

gap_brace : (lines : Bool) (p : ℕ) (xs : List ℕ) → gap lines p 0 (125 ∷ xs) ≡ ends_at p
unfolding gap item begins
gap_brace true p xs = refl
gap_brace false p xs = refl

gap_line : (p : ℕ) (xs : List ℕ) → gap false p 0 (10 ∷ xs) ≡ ends_at p
unfolding gap item begins
gap_line p xs = refl

still_round : (ys : List ℕ) → Still (41 ∷ ys)
unfolding op_at begins
still_round ys = refl

still_comma : (ys : List ℕ) → Still (44 ∷ ys)
unfolding op_at begins
still_comma ys = refl

still_square : (ys : List ℕ) → Still (93 ∷ ys)
unfolding op_at begins
still_square ys = refl

still_brace : (ys : List ℕ) → Still (125 ∷ ys)
unfolding op_at begins
still_brace ys = refl

still_line : (ys : List ℕ) → Still (10 ∷ ys)
unfolding op_at begins
still_line ys = refl

pub last_not : (s : List ℕ) (p : ℕ) (lines : Bool) → Lasting s p lines false
last_not s p lines = record { none = λ e. clash (sym e) }

module _ (s : List ℕ) (p : ℕ) (lines : Bool) {b : ℕ} (h : Byte s p b) where
  is : (c : ℕ) → b ≡ c → byte_at s p ≡ c
  is c e = sym h.is ∙ e

  pub last_line : b ≡ 10 → Lasting s p lines (not lines)
  last_line e = record { none = go lines }
    where
      go : (l : Bool) → not l ≡ true → Follow s p l 0
      go true z = clash (sym z)
      go false z = nothing s p 10 false refl (is 10 e) (gap_line p) still_line

  pub last_round : b ≡ 41 → Lasting s p lines true
  last_round e = record { none = λ _. nothing s p 41 lines refl (is 41 e) (gap_round lines p) still_round }

  pub last_comma : b ≡ 44 → Lasting s p lines true
  last_comma e = record { none = λ _. nothing s p 44 lines refl (is 44 e) (gap_comma lines p) still_comma }

  pub last_square : b ≡ 93 → Lasting s p lines true
  last_square e = record { none = λ _. nothing s p 93 lines refl (is 93 e) (gap_square lines p) still_square }

  pub last_brace : b ≡ 125 → Lasting s p lines true
  last_brace e = record { none = λ _. nothing s p 125 lines refl (is 125 e) (gap_brace lines p) still_brace }
