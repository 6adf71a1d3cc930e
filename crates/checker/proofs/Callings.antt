-- Kinds: which grow from an operand, and whether the bytes at a place call for one.
use Rattle.std.specs.Prelude.{Option, None, Some}
use Rattle.std.specs.Option.{option_eq}
use Prim.Native.Nat.{ℕ, ◌≤◌, ◌<◌}
use mathlib.Core.Path.{◌≡◌, refl, sym, ap, subst, ◌∙◌}
use mathlib.Core.List.{List, [], ◌∷◌}
use mathlib.Core.Bool.{Bool, true, false, cond, not, and-false, ◌&&◌}
use mathlib.Core.Option.{some}
use mathlib.Core.Logic.{◌⊎◌, inl, inr}
use native.Mathlib.Omega.{arith}
use lib.Dec.{T, eqb, leb}
use borrow.Author.Tests.{eq-eqb, ne_eqb, eqb-true, eqb-false, le-leb, lt-leb}
use Rattle.lexis.specs.Bytes.{stands}
use Rattle.engine.specs.Base.{all_of, has}
use Rattle.engine.specs.Layout.{named}
use Rattle.grammar.specs.Moves.{Want, an_expression, a_name, an_item, a_part, a_piece, a_condition, Under}
use Rattle.grammar.specs.Hcl.{hcl, under, pick_at, follow_at}
use Rattle.grammar.specs.Published.{want_of, style_of}
use Rattle.grammar.specs.Said.{kind_of, kind_from, TermAt, PartAt}
use Rattle.grammar.specs.KindLaws.{heads, pick_all}
use Rattle.grammar.specs.PickLaws.{listed, followers, termed, followed, picked_pos, picked_term, kind_some}
use Rattle.checker.specs.Leaf.{is_grown, read_as, FirstAt}

-- an answer is a kind
pub some_is : (o : Option ℕ) (k : ℕ) → (k ≡ 0 → ⊥) → option_eq eqb o (Some k) ≡ eqb (kind_from o) k
some_is None k n = sym (ne_eqb 0 k (λ e. n (sym e)))
some_is (Some x) k n = refl

-- ---- which grow from an operand

is_true : (b : Bool) → T b → b ≡ true
is_true true t = refl
is_true false t = absurd t

is_false : (b : Bool) → T (not b) → b ≡ false
is_false true t = absurd t
is_false false t = refl

-- what may follow an operand does
pub follow_grown : (s : List ℕ) (b : Under) (p k : ℕ) → follow_at s b p ≡ some k → is_grown k ≡ true
follow_grown s b p k e = is_true (is_grown k) (listed is_grown followers tt k (followed s p b k e))

heads_plain : (w : Want) → T (all_of (λ k. not (is_grown k)) (heads w))
heads_plain an_expression = tt
heads_plain a_name = tt
heads_plain (an_item ks) = tt
heads_plain a_part = tt
heads_plain (a_piece t) = tt
heads_plain a_condition = tt

-- what a place calls for does not
pub pick_grown : (s : List ℕ) (b : Under) (p k : ℕ) → pick_at s b p ≡ some k → is_grown k ≡ false
unfolding pick_at
pick_grown s b p k e = is_false (is_grown k) (pick_all (λ k. not (is_grown k)) b.want (heads_plain b.want) s b.lines p k e)

-- ---- by the tests of the code

pub grown_conditional : (k : ℕ) → k ≡ 21 → eqb k 21 ≡ is_grown k
grown_conditional k e = rw (eq-eqb k 21 e)

module _ (k : ℕ) (n : k ≡ 21 → ⊥) where
  pub grown_high : 24 ≤ k → leb k 37 ≡ is_grown k
  grown_high h = rw (ne_eqb k 21 n, le-leb 24 k h)

  pub grown_low : k < 24 → leb 24 k ≡ is_grown k
  grown_low h = rw (ne_eqb k 21 n, lt-leb 24 k h)

-- ---- what the bytes at a place call for

no_false : {A : Type 0} → true ≡ false → A
no_false e = absurd (let y : ◌≡◌ {A = ℕ} 0 1 = cc in omega arith)

module _ (s : List ℕ) (p : ℕ) (lines : Bool) where
  at : {k : ℕ} {r : Bool} (j : ℕ) → k ≡ j → FirstAt s j p lines r → FirstAt s k p lines r
  at j e h = rw e h

  -- by the kind that the code was told: j is what is looked for, and what goes by the name k there is j
  by_kind : {k t : ℕ} (j : ℕ) → ((left : ℕ) → t ≡ kind_of (pick_at s (under left lines (want_of k)) p)) → (j ≡ 0 → ⊥) → read_as k ≡ j
      → ((left x : ℕ) → named (hcl s) (style_of k) x ≡ k → pick_at s (under left lines (want_of k)) p ≡ some x → x ≡ j) → FirstAt s k p lines (eqb t j)
  by_kind {k} {t} j f n e g = record {
    yes = λ z left. kind_some (pick_at s (under left lines (want_of k)) p) j (sym (f left) ∙ eqb-true t j z) n ∙ ap some (sym e);
    no = λ z left x h q. eqb-false t j z (f left ∙ ap kind_of q ∙ g left x h q);
  }

  pub first_none : {k : ℕ} → k ≡ 0 → FirstAt s k p lines false
  first_none e = at 0 e (record { yes = λ z. no_false (sym z); no = λ z left x h q. rw h at (picked_pos s p (under left lines an_expression) x q) })

  pub first_dollar : {k : ℕ} {r : Bool} → k ≡ 10 → r ≡ stands (36 ∷ 123 ∷ []) s p → FirstAt s k p lines r
  unfolding pick_at
  first_dollar {k} {r} e f = at 10 e (record { yes = λ z left. rw (sym f ∙ z); no = λ z left x h q. never x h (rw (sym f ∙ z) at q) })
    where
      never : (x : ℕ) → x ≡ 10 → some 9 ≡ some x → ⊥
      never x h q = let y : 9 ≡ x = cc in omega arith

  always : (j : ℕ) → read_as j ≡ j → ((left : ℕ) → pick_at s (under left lines (want_of j)) p ≡ some j) → FirstAt s j p lines true
  always j e f = record { yes = λ z left. f left ∙ ap some (sym e); no = λ z. no_false z }

  -- an item, a name, a condition
  pub first_always : {k : ℕ} → (k ≡ 13) ⊎ ((k ≡ 17) ⊎ (k ≡ 20)) → FirstAt s k p lines true
  unfolding pick_at
  first_always (inl e) = at 13 e (always 13 refl (λ left. refl))
  first_always (inr (inl e)) = at 17 e (always 17 refl (λ left. refl))
  first_always (inr (inr e)) = at 20 e (always 20 refl (λ left. refl))

  -- a bare key is a variable, and no term is called for as a key
  pub first_key : {k t : ℕ} → k ≡ 14 → TermAt s p lines t → FirstAt s k p lines (eqb t 5)
  first_key {k} {t} e h = at 14 e (by_kind {k = 14} 5 h (λ z. omega arith) refl (λ left x f q. five x (eqb x 5) refl f (picked_term s p left lines x q)))
    where
      five : (x : ℕ) (b : Bool) → eqb x 5 ≡ b → cond b 14 x ≡ 14 → T (has termed x) → x ≡ 5
      five x true g f t = eqb-true x 5 g
      five x false g f t = absurd (rw f at t)

  pub first_part : {k t : ℕ} → 38 ≤ k → k < 43 → PartAt s p t → FirstAt s k p lines (eqb t k)
  first_part {k} {t} l h f = by_kind k (λ left. rw want (f left lines)) (λ z. omega arith) (rw (ne_eqb k 14 (λ z. omega arith))) (λ left x g q. rw style at g)
    where
      want : want_of k ≡ a_part
      want = rw (ne_eqb k 17 (λ z. omega arith), ne_eqb k 13 (λ z. omega arith), le-leb 38 k l, le-leb k 42 (omega arith))

      style : style_of k ≡ 0
      style = rw (ne_eqb k 14 (λ z. omega arith))

  pub first_term : {k t : ℕ} → (k ≡ 0 → ⊥) → (k ≡ 10 → ⊥) → ((k ≡ 13) ⊎ ((k ≡ 17) ⊎ (k ≡ 20)) → ⊥) → (k ≡ 14 → ⊥) → (k < 38) ⊎ (42 < k) → TermAt s p lines t → FirstAt s k p lines (eqb t k)
  first_term {k} {t} n0 n10 n n14 far f = by_kind k (λ left. rw want (f left)) n0 (rw (ne_eqb k 14 n14)) (λ left x g q. rw style at g)
    where
      no_part : (leb 38 k && leb k 42) ≡ false
      no_part = go far
        where
          go : (k < 38) ⊎ (42 < k) → (leb 38 k && leb k 42) ≡ false
          go (inl h) = rw (lt-leb 38 k h)
          go (inr h) = rw (lt-leb k 42 h) (and-false (leb 38 k))

      want : want_of k ≡ an_expression
      want = rw (ne_eqb k 17 (λ e. n (inr (inl e))), ne_eqb k 13 (λ e. n (inl e)), no_part, ne_eqb k 20 (λ e. n (inr (inr e))), ne_eqb k 10 n10)

      style : style_of k ≡ 0
      style = rw (ne_eqb k 14 n14)

-- an attribute's bytes, at a place that is told otherwise
pub dot_first : {s : List ℕ} {k p p' : ℕ} {lines : Bool} → k ≡ 38 → p ≡ p' → FirstAt s 38 p lines true → FirstAt s k p' lines true
dot_first {s} {k} {p} {p'} {lines} e f h = subst (λ (x : ℕ). FirstAt s x p' lines true) (sym e) (subst (λ (x : ℕ). FirstAt s 38 x lines true) f h)
