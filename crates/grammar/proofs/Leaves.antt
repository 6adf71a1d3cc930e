-- The steps that the small functions make, by their tests.
use Prim.Native.Nat.{ℕ, zero, suc, ◌+◌, ◌-◌}
use mathlib.Core.Path.{◌≡◌, refl, sym, ap, ◌∙◌}
use mathlib.Core.List.{List, [], ◌∷◌}
use mathlib.Core.Bool.{Bool, true, false, not, ◌&&◌, ◌||◌, or-false}
use native.Mathlib.Omega.{arith}
use lib.Dec.{eqb, ltb}
use lib.ListN.{take, drop}
use borrow.Author.Tests.{eq-eqb, ne_eqb}
use Rattle.lexis.specs.Number as numbers
use Rattle.lexis.specs.declared.operator.Op.{Op}
use Rattle.lexis.specs.Bytes.{byte_at, stands, Byte, Ran}
use Rattle.lexis.specs.Trivia.{Gap, Gapped}
use Rattle.lexis.specs.Word.{if', word_to}
use Rattle.lexis.specs.Number.{Indexed}
use Rattle.lexis.specs.Operator.{OpHere, is_mark, mark_to}
use Rattle.lexis.specs.RunLaws.{clash, stands_one, stands_two}
use Rattle.grammar.specs.Kinds.{Unexpected, Unclosed, Deep}
use Rattle.grammar.specs.Moves as moves
use Rattle.grammar.specs.Moves.{Want, an_expression, Under, Step, to, when, unexpected, token, Atom, index, operator, parts, unless, comma, call, gap_step, skip, level, opening, index_step, is_part, refused, atom}
use Rattle.grammar.specs.Code.{word_of}
use Rattle.grammar.specs.Said.{Went, went, went_of, Does, Moved, Plain, Placed, opened, lines_of}
use Rattle.grammar.proofs.Steps.{does, fair_skip, opened_by}

-- a test of a byte that was read is a test of the source
pub tested : (t : ℕ → Bool) {s : List ℕ} {p b : ℕ} {r v : Bool} → Byte s p b → r ≡ t b → r ≡ v → t (byte_at s p) ≡ v
tested t h e f = ap t (sym h.is) ∙ sym e ∙ f

-- by a test, one step or the other
module _ {r : Went} (b : Bool) (x y : Step) where
  pub one : b ≡ true → r ≡ went_of x → r ≡ went_of (when b x y)
  one e h = rw e h

  pub other : b ≡ false → r ≡ went_of y → r ≡ went_of (when b x y)
  other e h = rw e h

-- ---- trivia

moved_by : {s : List ℕ} {p : ℕ} {lines : Bool} {r : Went} → Does s p 0 (λ σ w. skip s lines p) r → Moved s p lines r
moved_by d = record {
  is = d.is 0 an_expression;
  good = λ z. d.good z 0 an_expression;
  bad = λ z. d.bad z 0 an_expression;
  low = d.low;
  high = d.high;
}

module _ {s : List ℕ} {p : ℕ} {lines : Bool} {g : Gap} {r : Went} (h : Gapped lines s p g) where
  pub moved : r ≡ went_of (when g.unclosed (moves.no Unclosed g.at) (to g.at)) → Moved s p lines r
  moved e = moved_by (does (skip s lines p) (λ σ w. refl) (fair_skip s p lines) (e ∙ ap (λ (x : Gap). went_of (gap_step x)) h.is))

-- ---- levels

pub level_none : (left p : ℕ) (x : Step) → left ≡ 0 → level left p x ≡ moves.no Deep p
level_none left p x e = rw e

pub level_some : (left p : ℕ) (x : Step) → (left ≡ 0 → ⊥) → level left p x ≡ x
level_some zero p x n = absurd (n refl)
level_some (suc d) p x n = refl

-- ---- the mode, and the words

pub mode_any : (x : ℕ) (lines : Bool) → x ≡ 0 → true ≡ lines_of x lines
mode_any x lines e = rw (eq-eqb x 0 e)

pub mode_line : (x : ℕ) (lines : Bool) → x ≡ 1 → false ≡ lines_of x lines
mode_line x lines e = rw (ne_eqb x 0 (λ z. omega arith), eq-eqb x 1 e)

pub mode_here : (x : ℕ) (lines : Bool) → (x ≡ 0 → ⊥) → (x ≡ 1 → ⊥) → lines ≡ lines_of x lines
mode_here x lines n m = rw (ne_eqb x 0 n, ne_eqb x 1 m)

module _ (s : List ℕ) (p x : ℕ) {r : ℕ} where
  pub word_by : (k : ℕ) → x ≡ k → Ran s p (word_to (word_of k) s p) r → Ran s p (word_to (word_of x) s p) r
  word_by k e h = rw e h

  pub word_if : (x ≡ 1 → ⊥) → (x ≡ 2 → ⊥) → (x ≡ 3 → ⊥) → (x ≡ 4 → ⊥) → Ran s p (word_to if' s p) r → Ran s p (word_to (word_of x) s p) r
  word_if a b c d h = rw (ne_eqb x 1 a, ne_eqb x 2 b, ne_eqb x 3 c, ne_eqb x 4 d) h

-- an index over the limit has a digit
pub over_past : {s : List ℕ} {p : ℕ} {i : numbers.Index} → Indexed s p i → i.over ≡ true → i.end ≡ p → ⊥
unfolding numbers.value_from
over_past {s} {p} h o e =
    let z : numbers.index_to s p - p ≡ 0 = omega (arith, ap (λ (x : numbers.Index). x.end) h.is) in
    let f : true ≡ ltb numbers.limit (numbers.value (take (numbers.index_to s p - p) (drop p s))) = sym o ∙ ap (λ (x : numbers.Index). x.over) h.is in
    clash (rw z at f)

-- ---- the atoms that turn on the source alone

module _ {s : List ℕ} {p : ℕ} {r : Went} where
  pub index_is : {i : numbers.Index} → Indexed s p i → r ≡ went_of (index_step s p i) → Plain s index p r
  unfolding atom
  index_is h e = record { is = λ b σ. e ∙ ap (λ (x : numbers.Index). went_of (index_step s p x)) h.is }

  pub operator_is : {o : Op} (k : ℕ) → OpHere s p o → r ≡ went_of (when (eqb o.kind k) (to (p + o.width)) (unexpected s p)) → Plain s (operator k) p r
  unfolding atom
  operator_is k h e = record { is = λ b σ. e ∙ ap (λ (x : Op). went_of (when (eqb x.kind k) (to (p + x.width)) (unexpected s p))) h.is }

  pub part_is : r ≡ went_of (when (is_part s p) (to p) (unexpected s p)) → Plain s parts p r
  unfolding atom
  part_is e = record { is = λ b σ. e }

  pub unless_is : (x : ℕ) → r ≡ went_of (when (eqb (byte_at s p) x) (unexpected s p) (to p)) → Plain s (unless x) p r
  unfolding atom
  unless_is x e = record { is = λ b σ. e }

  pub comma_is : r ≡ went_of (when (eqb (byte_at s p) 44) (skip s true (p + 1)) (to p)) → Plain s comma p r
  unfolding atom
  comma_is e = record { is = λ b σ. e }

-- a part of a traversal, by its bytes
module _ (s : List ℕ) (p : ℕ) where
  part_bytes : is_part s p ≡ ((eqb (byte_at s p) 91 && true) || (eqb (byte_at s p) 46 && not ((eqb (byte_at s p) 46 && eqb (byte_at s (p + 1)) 46) || false)))
  part_bytes = rw (stands_one 91 s p refl, stands_one 46 s p refl, stands_two 46 46 s p refl refl)

  pub part_open : byte_at s p ≡ 91 → true ≡ is_part s p
  part_open e = sym (part_bytes ∙ rw (eq-eqb (byte_at s p) 91 e))

  pub part_none : (byte_at s p ≡ 91 → ⊥) → (byte_at s p ≡ 46 → ⊥) → false ≡ is_part s p
  part_none m n = sym (part_bytes ∙ rw (ne_eqb (byte_at s p) 91 m, ne_eqb (byte_at s p) 46 n))

  pub part_dot : (byte_at s p ≡ 91 → ⊥) → byte_at s p ≡ 46 → not (eqb (byte_at s (p + 1)) 46) ≡ is_part s p
  part_dot m e = sym (part_bytes ∙ rw (ne_eqb (byte_at s p) 91 m, eq-eqb (byte_at s p) 46 e, or-false (eqb (byte_at s (p + 1)) 46)))

-- ---- a call

module _ {s : List ℕ} {left : ℕ} {lines : Bool} {p : ℕ} {r : Went} where
  pub call_opens : {e : ℕ} → stands (58 ∷ 58 ∷ []) s p ≡ false → Ran s p (mark_to (40 ∷ []) [] s p) e → r ≡ went_of (opened s left p e) → Placed s left lines call p r
  unfolding atom
  call_opens z ran h = record { is = λ σ w. rw z (h ∙ ap went_of (opened_by s p 1 left (is_mark (40 ∷ []) [] s p) (omega arith) ran.is)) }

  pub call_stuck : stands (58 ∷ 58 ∷ []) s p ≡ true → Moved s (p + 2) lines r → (r.kind ≡ 0 → ⊥) → Placed s left lines call p r
  unfolding atom
  call_stuck z m n = record { is = λ σ w. rw (z, m.bad n) refl }

  pub call_named : {v : Went} → stands (58 ∷ 58 ∷ []) s p ≡ true → Moved s (p + 2) lines v → v.kind ≡ 0 → r ≡ went Unexpected v.at → Placed s left lines call p r
  unfolding atom
  call_named z m n h = record { is = λ σ w. rw (z, m.good n) h }
