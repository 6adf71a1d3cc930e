-- The answers of `sign_of` and `key_at`.
use Prim.Native.Nat.{ℕ, zero, suc, ◌+◌, ◌≤◌, ◌<◌}
use mathlib.Core.Path.{◌≡◌, refl, sym, ap, subst, ◌∙◌}
use mathlib.Core.List.{List, [], ◌∷◌}
use mathlib.Core.Bool.{Bool, true, false, cond, not, ◌&&◌, ◌||◌, or-true}
use native.Mathlib.Omega.{arith}
use lib.ListN.{length, drop}
use lib.Dec.{eqb}
use borrow.Author.Tests.{eq-eqb, ne_eqb}
use Rattle.lexis.specs.Bytes.{byte_at, is_start, is_rest, stands, run, Byte, Ran}
use Rattle.lexis.specs.Trivia.{Gap, gap_to, Gapped}
use Rattle.lexis.specs.Word.{null, yes, is_word, ident_to, constant_at}
use Rattle.lexis.specs.Word as words
use Rattle.lexis.specs.Operator.{equals_to, is_mark}
use Rattle.lexis.specs.RunLaws.{clash, stands_one, stands_two, stands_inside}
use Rattle.lexis.specs.Keys.{key_to}
use Rattle.grammar.specs.Moves.{behind_key, lone, to, skip, gap_step}
use Rattle.grammar.specs.KeyLaws.{Behind, lone_behind, behind_still, behind_call, start_digit}
use Rattle.grammar.specs.Said.{calls_at, Follow}
use Rattle.grammar.specs.Alone.{head_of, HeadAt, SignOf, key_of, Word}
use Rattle.grammar.proofs.Callings.{follow_still}
use Rattle.grammar.proofs.Heads.{head_constant, head_variable}

-- ---- the sign

module _ {s : List ℕ} {q c : ℕ} (eq : Ran s q (equals_to s q) c) where
  pub sign_equals : (c ≡ q → ⊥) → SignOf s q 1
  sign_equals n = record { equals = λ _. go (is_mark (61 ∷ []) ((61 ∷ 62 ∷ []) ∷ (61 ∷ 61 ∷ []) ∷ []) s q) eq.is; colon = λ z. absurd (omega arith); few = omega arith }
    where
      go : (x : Bool) → c ≡ cond x (q + 1) q → cond x (q + 1) q ≡ q + 1
      go true e = refl
      go false e = absurd (n e)

  pub sign_colon : {b d : ℕ} → c ≡ q → Byte s q b → b ≡ 58 → Byte s (q + 1) d → (d ≡ 58 → ⊥) → SignOf s q 2
  sign_colon {b} {d} n h e k m = record {
    equals = λ z. absurd (omega arith);
    colon = λ _. (sym eq.is ∙ n, rw (stands_one 58 s q refl, stands_two 58 58 s q refl refl, eq-eqb (byte_at s q) 58 (sym h.is ∙ e), ne_eqb (byte_at s (q + 1)) 58 (λ z. m (k.is ∙ z))));
    few = omega arith;
  }

pub sign_none : (s : List ℕ) (q : ℕ) → SignOf s q 0
sign_none s q = record { equals = λ z. absurd (omega arith); colon = λ z. absurd (omega arith); few = omega arith }

-- ---- the key

constant_few : (s : List ℕ) (p k : ℕ) → k ≡ constant_at s p → k ≤ 3
constant_few s p k e = go (is_word null s p) (is_word yes s p) (is_word words.no s p) e
  where
    go : (x y z : Bool) → k ≡ cond x 1 (cond y 2 (cond z 3 0)) → k ≤ 3
    go true y z f = omega arith
    go false true z f = omega arith
    go false false true f = omega arith
    go false false false f = omega arith

constant_as : (k : ℕ) → k ≤ 3 → k ≡ cond (eqb k 5) 0 k
constant_as k h = rw (ne_eqb k 5 (λ z. omega arith))

module _ {s : List ℕ} {p e x : ℕ} {g : Gap} (st : is_start (byte_at s p) ≡ true) (h : Ran s p (ident_to s p) e) (gp : Gapped false s e g) (shut : g.unclosed ≡ false) (sg : SignOf s g.at x) (n : x ≡ 0 → ⊥) where
  to_key : e ≡ key_to s p
  to_key = h.is ∙ sym (rw (ne_eqb (byte_at s p) 34 (λ z. clash (sym st ∙ ap is_start z))))

  behind_is : behind_key s p ≡ g.at
  behind_is = sym (ap (λ (y : ℕ). (gap_to false s y).at) to_key) ∙ sym (ap (λ (y : Gap). y.at) gp.is)

  lone_by : (y : ℕ) → y ≡ x → (not (eqb (equals_to s g.at) g.at) || is_mark (58 ∷ []) ((58 ∷ 58 ∷ []) ∷ []) s g.at) ≡ true
  lone_by zero z = absurd (n (sym z))
  lone_by (suc zero) z = rw (sg.equals (sym z), ne_eqb (g.at + 1) g.at (λ w. omega arith))
  lone_by (suc (suc zero)) z = rw (sg.colon (sym z)).1 (or-true (not (eqb (equals_to s g.at) g.at)))
  lone_by (suc (suc (suc y))) z = absurd (omega (arith, sg.few))

  is_lone : lone s p ≡ true
  is_lone = subst (λ (q : ℕ). (not (eqb (equals_to s q) q) || is_mark (58 ∷ []) ((58 ∷ 58 ∷ []) ∷ []) s q) ≡ true) (sym behind_is) (lone_by x refl)

  signed : Behind s g.at
  signed = subst (Behind s) behind_is (lone_behind s p is_lone)

  no_call : false ≡ calls_at s false e
  no_call = sym (ap (λ (y : Gap). not y.unclosed && (eqb (byte_at s y.at) 40 || stands (58 ∷ 58 ∷ []) s y.at)) (sym gp.is) ∙ rw (shut, behind_call s g.at signed))

  still : Follow s e false 0
  still = follow_still gp shut (behind_still s g.at signed)

  over : g.at + 1 ≤ length s
  over = go signed
    where
      go : Behind s g.at → g.at + 1 ≤ length s
      go (Behind.equals a b) = omega (arith, stands_inside (61 ∷ []) s g.at a)
      go (Behind.colon a b) = omega (arith, stands_inside (58 ∷ []) s g.at (stands_one 58 s g.at refl ∙ eq-eqb (byte_at s g.at) 58 a))

  far : p < e
  far = let z : e ≡ p + 1 + run is_rest (drop (p + 1) s) = h.is ∙ rw st in omega arith

  gone : skip s false e ≡ to g.at
  gone = ap gap_step (sym gp.is) ∙ rw shut

  word_as : (φ k : ℕ) → x ≡ φ + 1 → HeadAt s p false (head_of k e) → constant_at s p ≡ cond (eqb k 5) 0 k → 1 ≤ k → Word s p (key_of k e g.at φ)
  word_as φ k f hd co some = record {
    starts = st;
    head = hd;
    still = still;
    ends = to_key;
    constant = co;
    alone = is_lone;
    behind = behind_is;
    gap = gone;
    sign = subst (SignOf s g.at) f sg;
    some = some;
    past = far;
    low = gp.low;
    high = over;
  }

  module _ (φ : ℕ) {k : ℕ} (f : x ≡ φ + 1) (c : k ≡ constant_at s p) where
    pub key_constant : (k ≡ 0 → ⊥) → Word s p (key_of k e g.at φ)
    key_constant m = word_as φ k f (head_constant false (start_digit s (byte_at s p) st) st h no_call refl c m refl) (sym c ∙ constant_as k (constant_few s p k c)) (omega (arith, m))

    pub key_variable : k ≡ 0 → Word s p (key_of 5 e g.at φ)
    key_variable m = word_as φ 5 f (head_variable false (start_digit s (byte_at s p) st) st h no_call refl c m refl) (sym c ∙ m) (omega arith)
