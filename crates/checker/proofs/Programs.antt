-- The program: where a kind's begins, its instructions, what a child is under, what fits.
use Prim.Native.Nat.{ℕ, zero, suc, ◌-◌, ◌%◌, ◌≤◌, ◌<◌}
use mathlib.Core.Path.{◌≡◌, refl, sym, ap, ◌∙◌}
use mathlib.Core.List.{List}
use mathlib.Core.Bool.{Bool, true, false}
use native.Mathlib.Omega.{arith}
use lib.ListN.{get_or-eq_default}
use lib.Dec.{T, eqb, leb}
use borrow.Author.Tests.{ne_eqb, eqb-true, lt-ltb, le-ltb, leb-true, leb-false}
use Rattle.engine.specs.Base.{all_of, has}
use Rattle.grammar.specs.declared.shape.Instr.{Instr}
use Rattle.grammar.specs.Code.{code, operation, argument, class, otherwise, begin}
use Rattle.grammar.specs.Kinds.{tights, tight_of}
use Rattle.grammar.specs.Said.{Child, Instructed}
use Rattle.checker.specs.Program.{code_in, begin_in}
use Rattle.checker.specs.Leaf.{InstrAt, kinds_by, ChildAt}
use Rattle.checker.specs.LeafMore.{word_in, seats, seat_of, sits_as}
use Rattle.checker.proofs.Tables.{agree, agreed, unlisted}

-- ---- starts

pub begin_rest : (k : ℕ) → (k ≡ 12 → ⊥) → (k ≡ 13 → ⊥) → (k ≡ 14 → ⊥) → (k ≡ 22 → ⊥) → (k ≡ 23 → ⊥) → begin_in k ≡ begin k
begin_rest k a b c d e = rw (ne_eqb k 12 a, ne_eqb k 13 b, ne_eqb k 14 c, ne_eqb k 22 d, ne_eqb k 23 e)

-- ---- instructions

code_low : (pc : ℕ) → pc < 228 → code_in pc ≡ code pc
code_low pc h = rw (lt-ltb pc 228 h)

code_own : (pc : ℕ) → 228 ≤ pc → code_in pc ≡ word_in (pc - 228)
code_own pc h = rw (le-ltb pc 228 h)

pub instr_low : {pc : ℕ} {r : Instr} → pc < 228 → Instructed pc r → InstrAt pc r
instr_low {pc} h i = record {
  op = i.op ∙ ap operation (sym (code_low pc h));
  arg = i.arg ∙ ap argument (sym (code_low pc h));
  class = i.class ∙ ap class (sym (code_low pc h));
  next = i.next ∙ ap otherwise (sym (code_low pc h));
  near = i.near;
}

pub instr_own : (pc x : ℕ) {r : Instr} → 228 ≤ pc → x ≡ word_in (pc - 228) → r.op ≡ operation x → r.arg ≡ argument x → r.class ≡ class x → r.next ≡ otherwise x → r.next ≤ 255 → InstrAt pc r
instr_own pc x h e a b c d n =
    let z : x ≡ code_in pc = e ∙ sym (code_own pc h) in
    record { op = a ∙ ap operation z; arg = b ∙ ap argument z; class = c ∙ ap class z; next = d ∙ ap otherwise z; near = n }

-- ---- what a child is under

abbrev child : ℕ → Bool → ℕ → ℕ → Child
child d l b w = record { left = d; lines = l; bound = b; want = w }

module _ (left : ℕ) (lines : Bool) {c : ℕ} where
  at : (k : ℕ) {r : Child} → c ≡ k → ChildAt k left lines r → ChildAt c left lines r
  at k e h = rw e h

  pub child_key : c ≡ 2 → ChildAt c left lines (child left false 0 5)
  child_key e = at 2 e (record { left = λ s w σ ks. refl; lines = λ s w σ ks. refl; bound = refl; kinds = λ s w σ ks. refl; item = λ z. absurd (omega arith); plain = λ n s w σ ks x. tt; fewer = omega arith })

  pub child_value : c ≡ 3 → ChildAt c left lines (child left lines 0 0)
  child_value e = at 3 e (record { left = λ s w σ ks. refl; lines = λ s w σ ks. refl; bound = refl; kinds = λ s w σ ks. refl; item = λ z. absurd (omega arith); plain = λ n s w σ ks x. tt; fewer = omega arith })

-- ---- what fits

past : (k : ℕ) → 43 ≤ k → seat_of k ≡ 0
past k h = get_or-eq_default seats 0 {n = k} h

by_table : (f : ℕ → Bool) (xs : List ℕ) → f 0 ≡ false → T (agree (λ k. f (seat_of k)) (has xs) 43) → T (all_of (λ x. leb x 42) xs) → (k : ℕ) → f (seat_of k) ≡ has xs k
by_table f xs n t u k = go (leb 43 k) refl
  where
    go : (b : Bool) → leb 43 k ≡ b → f (seat_of k) ≡ has xs k
    go true e = let h : 43 ≤ k = leb-true 43 k e in rw (past k h, n, unlisted xs 42 k u (omega arith))
    go false e = agreed (λ k. f (seat_of k)) (has xs) 43 t k (leb-false 43 k e)

sits_as_lem : (w k : ℕ) → sits_as w (seat_of k) ≡ has (kinds_by w) k
sits_as_lem zero k = by_table (sits_as 0) (kinds_by 0) refl tt tt k
sits_as_lem (suc zero) k = by_table (sits_as 1) (kinds_by 1) refl tt tt k
sits_as_lem (suc (suc zero)) k = by_table (sits_as 2) (kinds_by 2) refl tt tt k
sits_as_lem (suc (suc (suc zero))) k = by_table (sits_as 3) (kinds_by 3) refl tt tt k
sits_as_lem (suc (suc (suc (suc zero)))) k = by_table (sits_as 4) (kinds_by 4) refl tt tt k
sits_as_lem (suc (suc (suc (suc (suc w))))) k = by_table (sits_as 5) (kinds_by 5) refl tt tt k

pub sits_in : {r : Bool} (w k : ℕ) {x : ℕ} → r ≡ sits_as w x → x ≡ seat_of k → r ≡ has (kinds_by w) k
sits_in w k e f = e ∙ ap (sits_as w) f ∙ sits_as_lem w k

-- how tightly a kind binds stands in its seat
tight_same : (k : ℕ) → eqb (seat_of k % 16) (tight_of k) ≡ true
tight_same k = go (leb 43 k) refl
  where
    go : (b : Bool) → leb 43 k ≡ b → eqb (seat_of k % 16) (tight_of k) ≡ true
    go true e = let h : 43 ≤ k = leb-true 43 k e in rw (past k h, get_or-eq_default tights 0 {n = k} h)
    go false e = agreed (λ k. eqb (seat_of k % 16) (tight_of k)) (λ k. true) 43 tt k (leb-false 43 k e)

pub seat_tight : (k : ℕ) {x : ℕ} → x ≡ seat_of k → x % 16 ≡ tight_of k
seat_tight k e = ap (λ (x : ℕ). x % 16) e ∙ eqb-true (seat_of k % 16) (tight_of k) (tight_same k)
