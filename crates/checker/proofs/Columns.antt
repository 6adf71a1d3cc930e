-- The text numbers of a record.
use Prim.Native.Nat.{ℕ, ◌+◌, ◌-◌, ◌≤◌, ◌<◌}
use mathlib.Core.Path.{◌≡◌, refl, sym, ap, ◌∙◌}
use mathlib.Core.List.{List}
use mathlib.Core.Bool.{Bool, true, false, cond, ◌&&◌, ◌||◌, or-false}
use native.Mathlib.Omega.{arith}
use lib.Dec.{eqb, ltb}
use borrow.Author.Tests.{eq-eqb, ne_eqb, eqb-true, eqb-false, le-ltb, ltb-true, ltb-false}
use Rattle.lexis.specs.RunLaws.{and_left, and_right, clash}
use Rattle.grammar.specs.Table.{Record, span}
use Rattle.grammar.specs.Published.{taken}
use Rattle.std.specs.Prelude.{Option, None}
use Rattle.std.specs.Bool.{then_some}
use Rattle.checker.specs.declared.row.Row.{Row}
use Rattle.checker.specs.Rows.{row_at}
use Rattle.checker.specs.Leaf.{used_from, Columns}
use Rattle.checker.specs.LeafMore.{RowHere, used_by}

-- ---- as the code finds them

module _ (flag from n a b u : ℕ) where
  pub text_long : flag ≡ 1 → n ≤ u → then_some (eqb from (u - n)) (u - n) ≡ used_by flag from n a b u
  text_long f h = rw (eq-eqb flag 1 f, le-ltb u n h)

-- ---- they are right, or for no number of bytes used before are they

-- its text stands in the buffer
abbrev texted : Record → Bool
texted r = (eqb r.kind 6 && eqb r.flag 1) || (eqb r.kind 9 && eqb r.flag 1)

pair_first : {a b c d : ℕ} → ◌≡◌ {A = ℕ × ℕ} (a, b) (c, d) → a ≡ c
pair_first e = ap (λ (x : ℕ × ℕ). x.0) e

pair_second : {a b c d : ℕ} → ◌≡◌ {A = ℕ × ℕ} (a, b) (c, d) → b ≡ d
pair_second e = ap (λ (x : ℕ × ℕ). x.1) e

both : (a b : ℕ) {c d : ℕ} → a ≡ c → b ≡ d → (eqb a c && eqb b d) ≡ true
both a b {c} {d} e f = rw (eq-eqb a c e, eq-eqb b d f)

pairs : {a b c d : ℕ} → a ≡ c → b ≡ d → ◌≡◌ {A = ℕ × ℕ} (a, b) (c, d)
pairs e f = rw (e, f)

module _ (r : Record) (u : ℕ) where
  -- where it does not
  plain : (a b : ℕ) → taken r ≡ 0 → ((v : ℕ) → span r.kind r.flag r.start r.end v r.length ≡ (a, b)) → Columns r u (used_from (then_some (eqb r.from a && eqb r.length b) u))
  plain a b t f = go (eqb r.from a && eqb r.length b) refl
    where
      go : (x : Bool) → (eqb r.from a && eqb r.length b) ≡ x → Columns r u (used_from (then_some x u))
      go true g = record {
        yes = λ z. (
          omega (arith, t),
          pairs (eqb-true r.from a (and_left (eqb r.from a) (eqb r.length b) g)) (eqb-true r.length b (and_right (eqb r.from a) (eqb r.length b) g)) ∙ sym (f u),
        );
        no = λ z. clash z;
      }
      go false g = record { yes = λ z. clash (sym z); no = λ z v e p. clash (sym (both r.from r.length (pair_first (p ∙ f v)) (pair_second (p ∙ f v))) ∙ g) }

  -- where it does
  module _ (t : texted r ≡ true) where
    takes : taken r ≡ r.length
    takes = rw t

    spans : (v : ℕ) → span r.kind r.flag r.start r.end v r.length ≡ (v, r.length)
    spans v = rw t

    short : u < r.length → Columns r u (used_from None)
    short h = record { yes = λ g. clash (sym g); no = λ g v e p. omega (arith, takes) }

    long : r.length ≤ u → Columns r u (used_from (then_some (eqb r.from (u - r.length)) (u - r.length)))
    long h = go (eqb r.from (u - r.length)) refl
      where
        go : (x : Bool) → eqb r.from (u - r.length) ≡ x → Columns r u (used_from (then_some x (u - r.length)))
        go true g = record { yes = λ z. (omega (arith, takes), pairs (eqb-true r.from (u - r.length) g) refl ∙ sym (spans (u - r.length))); no = λ z. clash z }
        go false g = record { yes = λ z. clash (sym z); no = λ z v e p. eqb-false r.from (u - r.length) g (omega (arith, takes, pair_first (p ∙ spans v))) }

  -- a string or a piece
  own : (a b : ℕ) → texted r ≡ eqb r.flag 1 → (texted r ≡ false → (v : ℕ) → span r.kind r.flag r.start r.end v r.length ≡ (a, b))
      → Columns r u (used_from (used_by r.flag r.from r.length a b u))
  own a b t f = go (eqb r.flag 1) (ltb u r.length) refl refl
    where
      go : (x y : Bool) → eqb r.flag 1 ≡ x → ltb u r.length ≡ y → Columns r u (used_from (cond x (cond y None (then_some (eqb r.from (u - r.length)) (u - r.length))) (then_some (eqb r.from a && eqb r.length b) u)))
      go true true e h = short (t ∙ e) (ltb-true u r.length h)
      go true false e h = long (t ∙ e) (ltb-false u r.length h)
      go false y e h = plain a b (rw (t ∙ e)) (f (t ∙ e))

  string_as : r.kind ≡ 6 → Columns r u (used_from (used_by r.flag r.from r.length (r.start + 1) (r.end - r.start - 2) u))
  string_as k = own (r.start + 1) (r.end - r.start - 2) (rw k (or-false (eqb r.flag 1))) (λ t v. rw (t, k))

  piece_as : r.kind ≡ 9 → Columns r u (used_from (used_by r.flag r.from r.length r.start (r.end - r.start) u))
  piece_as k = own r.start (r.end - r.start) (rw k) (λ t v. rw (t, k))

  other_as : (r.kind ≡ 6 → ⊥) → (r.kind ≡ 9 → ⊥) → Columns r u (used_from (used_by 0 r.from r.length 0 0 u))
  other_as m n = plain 0 0 (rw (ne_eqb r.kind 6 m, ne_eqb r.kind 9 n)) (λ v. rw (ne_eqb r.kind 6 m, ne_eqb r.kind 9 n))

-- ---- by the row that the code reads

module _ {t : List ℕ} {i : ℕ} {r : Row} (u : ℕ) {x : Option ℕ} (h : RowHere t i r) where
  pub columns_string : {m n : ℕ} → (row_at t i).kind ≡ 6 → m ≡ r.end - r.start → n ≡ m - 2 → x ≡ used_by r.flag r.from r.length (r.start + 1) n u → Columns (row_at t i) u (used_from x)
  columns_string {m} {n} k e f g = rw (g, f, e, h.flag, h.from, h.length, h.start, h.end) (string_as (row_at t i) u k)

  pub columns_piece : {m : ℕ} → (row_at t i).kind ≡ 9 → m ≡ r.end - r.start → x ≡ used_by r.flag r.from r.length r.start m u → Columns (row_at t i) u (used_from x)
  columns_piece {m} k e g = rw (g, e, h.flag, h.from, h.length, h.start, h.end) (piece_as (row_at t i) u k)

pub columns_none : (t : List ℕ) (i : ℕ) {a b : ℕ} (u : ℕ) {x : Option ℕ} → a ≡ (row_at t i).from → b ≡ (row_at t i).length → ((row_at t i).kind ≡ 6 → ⊥) → ((row_at t i).kind ≡ 9 → ⊥) → x ≡ used_by 0 a b 0 0 u → Columns (row_at t i) u (used_from x)
columns_none t i u e f m n g = rw (g, e, f) (other_as (row_at t i) u m n)
