-- What a record says of a run of literal text, and a piece.
use Prim.Native.Nat.{ℕ, ◌+◌, ◌≤◌, ◌<◌}
use mathlib.Core.Path.{◌≡◌, refl, sym, ap, subst, ◌∙◌}
use mathlib.Core.List.{List, [], ◌∷◌}
use mathlib.Core.Bool.{Bool, true, false, cond, ◌&&◌}
use native.Mathlib.Omega.{arith}
use lib.ListN.{length, take, drop}
use lib.Dec.{eqb}
use borrow.Author.Tests.{eq-eqb, ne_eqb, eqb-true}
use Rattle.lexis.specs.declared.string.Run.{Run}
use Rattle.lexis.specs.Bytes.{begins, stands}
use Rattle.lexis.specs.String.{Mode, Text, text_at, mode_of, RunHere}
use Rattle.lexis.specs.RunLaws.{clash, and_left, and_right}
use Rattle.grammar.specs.Table.{Record}
use Rattle.checker.specs.declared.row.Row.{Row}
use Rattle.checker.specs.Rows.{row_at}
use Rattle.checker.specs.Leaf.{Spelt, PieceBy, PieceAt}
use Rattle.checker.specs.LeafMore.{RowHere, Spells, Told}

-- ---- what stands at a place is what is taken from there

begins_take : (t l : List ℕ) → begins t l ≡ true → take (length t) l ≡ t
unfolding begins
begins_take [] l e = refl
begins_take (x ∷ t) [] e = clash (sym e)
begins_take (x ∷ t) (b ∷ l) e =
    let f : b ≡ x = eqb-true b x (and_left (eqb b x) (begins t l) e) in
    rw (f, begins_take t l (and_right (eqb b x) (begins t l) e))

take_begins : (t l : List ℕ) → take (length t) l ≡ t → begins t l ≡ true
unfolding begins
take_begins [] l e = refl
take_begins (x ∷ t) [] e = absurd (let z : ◌≡◌ {A = ℕ} 0 1 = cc in omega arith)
take_begins (x ∷ t) (b ∷ l) e =
    let f : b ≡ x = cc in
    let g : take (length t) l ≡ t = cc in
    rw (eq-eqb b x f, take_begins t l g)

-- ---- by the tests of the code

module _ {s text : List ℕ} {p : ℕ} {q : Bool} {t : Run} {r : Row} where
  pub told_plain : t.escaped ≡ false → Told s text p q t r (eqb r.flag 0)
  told_plain e = record { is = λ d f z. rw e }

  pub told_unset : t.escaped ≡ true → ¬ (r.flag ≡ 1) → Told s text p q t r false
  told_unset e n = record { is = λ d f z. rw (e, ne_eqb r.flag 1 n) }

  pub told_long : t.escaped ≡ true → r.flag ≡ 1 → ¬ (r.length ≡ t.length) → Told s text p q t r false
  told_long e n m = record { is = λ d f z. rw (e, eq-eqb r.flag 1 n, ne_eqb r.length t.length m) }

  pub told_spelt : {x : Bool} → t.escaped ≡ true → r.flag ≡ 1 → r.length ≡ t.length → Spells s q p t.end text r.from x → Told s text p q t r x
  told_spelt e n m h = record { is = λ d f z. rw (e, eq-eqb r.flag 1 n, eq-eqb r.length t.length m) (h.is d f z) }

-- ---- as the rule has it

-- the flag of a record says whether the run from p is escaped, and its text stands where it says
pub record Tells (m : Mode) (s text : List ℕ) (p : ℕ) (o : Record) : Type 0 where
  pub flag : o.flag ≡ cond (text_at m s p).escaped 1 0
  pub spelt : Spelt m s text p o

module _ (m : Mode) (s : List ℕ) (p : ℕ) (text : List ℕ) (o : Record) where
  abbrev standing : Bool
  standing = eqb o.length (length (text_at m s p).bytes) && stands (text_at m s p).bytes text o.from

  yes_by : (y : Bool) → (text_at m s p).escaped ≡ y → cond y (eqb o.flag 1 && standing) (eqb o.flag 0) ≡ true → Tells m s text p o
  yes_by true k z =
      let a = eqb-true o.flag 1 (and_left (eqb o.flag 1) standing z) in
      let b = and_right (eqb o.flag 1) standing z in
      let c = eqb-true o.length (length (text_at m s p).bytes) (and_left (eqb o.length (length (text_at m s p).bytes)) (stands (text_at m s p).bytes text o.from) b) in
      let f = and_right (eqb o.length (length (text_at m s p).bytes)) (stands (text_at m s p).bytes text o.from) b in
      record {
        flag = a ∙ rw k;
        spelt = record { long = λ _. c; bytes = λ _. ap (λ (n : ℕ). take n (drop o.from text)) c ∙ begins_take (text_at m s p).bytes (drop o.from text) f };
      }
  yes_by false k z =
      let a = eqb-true o.flag 0 z in
      record { flag = a ∙ rw k; spelt = record { long = λ n. absurd (omega (arith, a)); bytes = λ n. absurd (omega (arith, a)) } }

  no_by : Tells m s text p o → (y : Bool) → (text_at m s p).escaped ≡ y → cond y (eqb o.flag 1 && standing) (eqb o.flag 0) ≡ false → ⊥
  no_by v true k z =
      let a : o.flag ≡ 1 = v.flag ∙ rw k in
      let c : o.length ≡ length (text_at m s p).bytes = v.spelt.long a in
      let b : stands (text_at m s p).bytes text o.from ≡ true =
      take_begins (text_at m s p).bytes (drop o.from text) (ap (λ (n : ℕ). take n (drop o.from text)) (sym c) ∙ v.spelt.bytes a) in
      clash (rw (eq-eqb o.flag 1 a, eq-eqb o.length (length (text_at m s p).bytes) c, b) at z)
  no_by v false k z = let a : o.flag ≡ 0 = v.flag ∙ rw k in clash (rw (eq-eqb o.flag 0 a) at z)

-- the test of the code, by the text and the row that the rule names
abbrev test : List ℕ → Text → Record → Bool
test text t o = cond t.escaped (eqb o.flag 1 && (eqb o.length (length t.bytes) && stands t.bytes text o.from)) (eqb o.flag 0)

module _ {m : Mode} {s : List ℕ} {p : ℕ} {t : Run} {table : List ℕ} {i : ℕ} {r : Row} (h : RunHere m s p t) (w : RowHere table i r) (text : List ℕ) {x : Bool}
    (g : t.end ≡ p + (text_at m s p).width → x ≡ cond t.escaped (eqb r.flag 1 && (eqb r.length t.length && stands (text_at m s p).bytes text r.from)) (eqb r.flag 0))
  where
    test_is : x ≡ test text (text_at m s p) (row_at table i)
    test_is =
        let long : t.length ≡ length (text_at m s p).bytes = ap (λ (v : Run). v.length) h.is in
        let escaped : t.escaped ≡ (text_at m s p).escaped = ap (λ (v : Run). v.escaped) h.is in
        g (ap (λ (v : Run). v.end) h.is) ∙ rw (escaped, long, w.flag, w.length, w.from)

    pub tells_yes : x ≡ true → Tells m s text p (row_at table i)
    tells_yes f = yes_by m s p text (row_at table i) (text_at m s p).escaped refl (sym test_is ∙ f)

    pub tells_no : x ≡ false → Tells m s text p (row_at table i) → ⊥
    tells_no f v = no_by m s p text (row_at table i) v (text_at m s p).escaped refl (sym test_is ∙ f)

-- ---- a piece

piece_not : {m : Mode} {s text : List ℕ} {o : Record} → (PieceBy m s o → ⊥) → PieceAt m s text o false
piece_not n = record { yes = λ z. clash (sym z); no = λ z b c. n b }

module _ {table : List ℕ} {i : ℕ} {r : Row} (w : RowHere table i r) {s : List ℕ} (text : List ℕ) (q : Bool) (d e : ℕ) where
  pub piece_dollar : {x : Bool} → x ≡ stands (36 ∷ 123 ∷ []) s r.start → x ≡ true → PieceAt (mode_of s q d e) s text (row_at table i) false
  piece_dollar f z = piece_not (λ b. clash (sym (sym f ∙ z) ∙ ap (stands (36 ∷ 123 ∷ []) s) w.start ∙ b.text))

  pub piece_empty : r.end ≤ r.start → PieceAt (mode_of s q d e) s text (row_at table i) false
  piece_empty h = piece_not (λ b. omega (arith, b.some, w.start, w.end))

  module _ {t : Run} (h : RunHere (mode_of s q d e) s r.start t) where
    start_here : RunHere (mode_of s q d e) s (row_at table i).start t
    start_here = rw w.start at h

    pub piece_short : ¬ (r.end ≡ t.end) → PieceAt (mode_of s q d e) s text (row_at table i) false
    piece_short n = piece_not (λ b. n (w.end ∙ b.end ∙ sym (ap (λ (v : Run). v.end) start_here.is)))

    pub piece_told : {x y : Bool} → x ≡ stands (36 ∷ 123 ∷ []) s r.start → x ≡ false → r.start < r.end → r.end ≡ t.end → Told s text r.start q t r y → PieceAt (mode_of s q d e) s text (row_at table i) y
    piece_told {x} {y} f z l k g =
        let g' = subst (λ (n : ℕ). Told s text n q t r y) w.start g in
        record {
          yes = λ a. let v = tells_yes start_here w text (g'.is d e) a in (
            record {
              text = ap (stands (36 ∷ 123 ∷ []) s) (sym w.start) ∙ sym f ∙ z;
              some = omega (arith, w.start, w.end);
              end = sym w.end ∙ k ∙ ap (λ (u : Run). u.end) start_here.is;
              flag = v.flag;
            },
            v.spelt,
          );
          no = λ a b c. tells_no start_here w text (g'.is d e) a (record { flag = b.flag; spelt = c });
        }
