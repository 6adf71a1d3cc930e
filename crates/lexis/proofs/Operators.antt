-- Laws on operators and marks.
use Prim.Native.Nat.{ℕ, ◌+◌, ◌*◌, ◌<◌}
use mathlib.Core.Path.{◌≡◌, refl, sym, ap, ◌∙◌}
use mathlib.Core.List.{List, [], ◌∷◌}
use mathlib.Core.Bool.{Bool, true, false, cond, not, ◌&&◌, ◌||◌, or-false}
use lib.ListN.{length}
use lib.Dec.{eqb, leb, leb→le}
use borrow.Author.Tests.{ne_eqb}
use Rattle.lexis.specs.declared.operator.Op.{Op}
use Rattle.lexis.specs.Bytes.{byte_at, stands, Ran}
use Rattle.std.specs.Prelude.{Option, None, IfSome}
use Rattle.lexis.specs.Operator.{op, op_of, no_op, op_at, OpHere, any_of, mark_to, equals_to}
use Rattle.lexis.specs.RunLaws.{stands_cons, stands_one, stands_two, stands_on}
use Rattle.lexis.specs.TokenLaws.{op_wide, op_all, mark_ends}

-- the operator that a byte is, with q the place after it
abbrev op_from : List ℕ → ℕ → ℕ → Op
op_from s q a =
    cond (eqb a 47 && stands (47 ∷ []) s q) no_op
    (cond (eqb a 47 && stands (42 ∷ []) s q) no_op
    (cond (eqb a 62 && stands (61 ∷ []) s q) (op 30 4 2)
    (cond (eqb a 60 && stands (61 ∷ []) s q) (op 32 4 2)
    (cond (eqb a 61 && stands (61 ∷ []) s q) (op 33 3 2)
    (cond (eqb a 33 && stands (61 ∷ []) s q) (op 34 3 2)
    (cond (eqb a 38 && stands (38 ∷ []) s q) (op 35 2 2)
    (cond (eqb a 124 && stands (124 ∷ []) s q) (op 36 1 2)
    (cond (eqb a 42) (op 24 6 1)
    (cond (eqb a 47) (op 25 6 1)
    (cond (eqb a 37) (op 26 6 1)
    (cond (eqb a 43) (op 27 5 1)
    (cond (eqb a 45) (op 28 5 1)
    (cond (eqb a 62) (op 29 4 1)
    (cond (eqb a 60) (op 31 4 1) no_op))))))))))))))

module _ (s : List ℕ) (p : ℕ) where
  op_is : op_at s p ≡ op_from s (p + 1) (byte_at s p)
  unfolding op_at
  op_is =
      rw (
        stands_cons 47 (47 ∷ []) s p refl,
        stands_cons 47 (42 ∷ []) s p refl,
        stands_cons 62 (61 ∷ []) s p refl,
        stands_cons 60 (61 ∷ []) s p refl,
        stands_cons 61 (61 ∷ []) s p refl,
        stands_cons 33 (61 ∷ []) s p refl,
        stands_cons 38 (38 ∷ []) s p refl,
        stands_cons 124 (124 ∷ []) s p refl,
        stands_one 42 s p refl,
        stands_one 47 s p refl,
        stands_one 37 s p refl,
        stands_one 43 s p refl,
        stands_one 45 s p refl,
        stands_one 62 s p refl,
        stands_one 60 s p refl,
      )

  -- by the byte at p the rest of the table is known
  pub op_by : (k : ℕ) → byte_at s p ≡ k → op_at s p ≡ op_from s (p + 1) k
  op_by k e = op_is ∙ ap (op_from s (p + 1)) e

  pub op_none : (byte_at s p ≡ 42 → ⊥) → (byte_at s p ≡ 47 → ⊥) → (byte_at s p ≡ 37 → ⊥) → (byte_at s p ≡ 43 → ⊥) → (byte_at s p ≡ 45 → ⊥)
      → (byte_at s p ≡ 62 → ⊥) → (byte_at s p ≡ 60 → ⊥) → (byte_at s p ≡ 61 → ⊥) → (byte_at s p ≡ 33 → ⊥) → (byte_at s p ≡ 38 → ⊥)
      → (byte_at s p ≡ 124 → ⊥) → op_at s p ≡ no_op
  op_none a b c d e f g h i j k =
      op_is
      ∙ rw (
        ne_eqb (byte_at s p) 47 b,
        ne_eqb (byte_at s p) 62 f,
        ne_eqb (byte_at s p) 60 g,
        ne_eqb (byte_at s p) 61 h,
        ne_eqb (byte_at s p) 33 i,
        ne_eqb (byte_at s p) 38 j,
        ne_eqb (byte_at s p) 124 k,
        ne_eqb (byte_at s p) 42 a,
        ne_eqb (byte_at s p) 37 c,
        ne_eqb (byte_at s p) 43 d,
        ne_eqb (byte_at s p) 45 e,
      )

-- a choice between two answers that are known
pub chosen : (s : List ℕ) (p b : ℕ) {r two one t o : Option Op} → r ≡ cond (stands (b ∷ []) s (p + 1)) two one → two ≡ t → one ≡ o
    → r ≡ cond (stands (b ∷ []) s (p + 1)) t o
chosen s p b e f g = e ∙ rw (f, g)

-- an operator has a kind
abbrev pub Named : Option Op → Type 0
Named r = IfSome r (λ o. 0 < o.kind)

chosen_op : (b : Bool) (t o : Option Op) → op_of (cond b t o) ≡ cond b (op_of t) (op_of o)
chosen_op true t o = refl
chosen_op false t o = refl

chosen_named : (b : Bool) (t o : Option Op) → Named t → Named o → Named (cond b t o)
chosen_named true t o h k = h
chosen_named false t o h k = k

-- the bounds that the contract has, from the table
pub op_here : (s : List ℕ) (p : ℕ) {r : Op} → r ≡ op_at s p → OpHere s p r
op_here s p e =
    let b = op_wide s p in
    rw e
    (record {
      is = refl;
      inside = b.inside;
      wide = b.wide;
      known = leb→le (op_at s p).kind 36 (op_all (λ o. leb o.kind 36) tt s p);
      level = leb→le (op_at s p).level (6 * (op_at s p).width) (op_all (λ o. leb o.level (6 * o.width)) tt s p);
      tight = leb→le (op_at s p).level 6 (op_all (λ o. leb o.level 6) tt s p);
    })

-- the answer that is known, and the one by the byte behind
module _ (s : List ℕ) (p : ℕ) {r : Option Op} where
  pub answer : (o : Option Op) → r ≡ o → op_at s p ≡ op_of o → Named o → record { here : OpHere s p (op_of r); named : Named r }
  answer o e f h = record { here = op_here s p (ap op_of e ∙ sym f); named = rw e h }

  pub answer_by : (b : ℕ) (t o : Option Op) → r ≡ cond (stands (b ∷ []) s (p + 1)) t o
      → op_at s p ≡ cond (stands (b ∷ []) s (p + 1)) (op_of t) (op_of o) → Named t → Named o → record { here : OpHere s p (op_of r); named : Named r }
  answer_by b t o e f h k =
      let v = stands (b ∷ []) s (p + 1) in
      answer (cond v t o) e (f ∙ sym (chosen_op v t o)) (chosen_named v t o h k)

  pub answer_slash : (o : Option Op) → r ≡ cond (stands (47 ∷ []) s (p + 1)) None (cond (stands (42 ∷ []) s (p + 1)) None o)
      → op_at s p ≡ cond (stands (47 ∷ []) s (p + 1)) no_op (cond (stands (42 ∷ []) s (p + 1)) no_op (op_of o)) → Named o
      → record { here : OpHere s p (op_of r); named : Named r }
  answer_slash o e f h =
      let w = stands (42 ∷ []) s (p + 1) in
      answer_by 47 None (cond w None o) e (f ∙ ap (cond (stands (47 ∷ []) s (p + 1)) no_op) (sym (chosen_op w None o))) tt (chosen_named w None o tt h)

-- the end of a mark: where its bytes stand, by whether a longer token does
module _ (w : List ℕ) (longer : List (List ℕ)) (s : List ℕ) (p : ℕ) where
  pub mark_by_lem : {b : Bool} → stands w s p ≡ true → any_of longer s p ≡ b → mark_to w longer s p ≡ cond (not b) (p + length w) p
  mark_by_lem e f = rw (e, f)

  -- a mark ends within the source
  pub marked : {r : ℕ} → r ≡ mark_to w longer s p → Ran s p (mark_to w longer s p) r
  marked e = let h = mark_ends s p w longer in record { is = e; low = rw e h.low; high = rw e h.high }

-- a byte that must not have another behind it
pub lone : (a b : ℕ) (s : List ℕ) (p : ℕ) {v : Bool} → a < 256 → stands (a ∷ []) s p ≡ true → stands (b ∷ []) s (p + 1) ≡ v
    → mark_to (a ∷ []) ((a ∷ b ∷ []) ∷ []) s p ≡ cond (not v) (p + 1) p
lone a b s p {v} l e f = mark_by_lem (a ∷ []) ((a ∷ b ∷ []) ∷ []) s p e (ap (λ (x : Bool). x || false) (sym (stands_on a (b ∷ []) s p l e (sym f))) ∙ or-false v)

-- `=`, by the byte behind it
equals_by : (s : List ℕ) (p : ℕ) → stands (61 ∷ []) s p ≡ true
    → equals_to s p ≡ cond (not (eqb (byte_at s (p + 1)) 62 || (eqb (byte_at s (p + 1)) 61 || false))) (p + 1) p
equals_by s p e =
    let f : eqb (byte_at s p) 61 ≡ true = sym (stands_one 61 s p refl) ∙ e in
    rw (e, stands_two 61 62 s p refl refl, stands_two 61 61 s p refl refl, f)

module _ (s : List ℕ) (p : ℕ) (e : stands (61 ∷ []) s p ≡ true) where
  pub equals_off : (k : ℕ) → (eqb k 62 || (eqb k 61 || false)) ≡ true → byte_at s (p + 1) ≡ k → equals_to s p ≡ p
  equals_off k f g = equals_by s p e ∙ rw (g, f)

  pub equals_on : (byte_at s (p + 1) ≡ 62 → ⊥) → (byte_at s (p + 1) ≡ 61 → ⊥) → equals_to s p ≡ p + 1
  equals_on n m = equals_by s p e ∙ rw (ne_eqb (byte_at s (p + 1)) 62 n, ne_eqb (byte_at s (p + 1)) 61 m)
