-- Laws on steps: what a step is by its tests, and that its place is within the source and past the bytes that it takes.
use Prim.Native.Nat.{ℕ, zero, suc, ◌+◌, ◌-◌, ◌*◌, ◌≤◌}
use mathlib.Core.Path.{◌≡◌, refl, sym, ap, ◌∙◌}
use mathlib.Core.List.{List, [], ◌∷◌}
use mathlib.Core.Bool.{Bool, true, false, cond, ◌&&◌}
use native.Mathlib.Omega.{arith}
use lib.ListN.{length}
use lib.Dec.{eqb, ltb}
use borrow.Author.Tests.{eq-eqb, ne_eqb, eqb-true, eqb-false, ltb-true}
use Rattle.lexis.specs.Bytes.{byte_at, is_foreign, stands, Ran}
use Rattle.lexis.specs.Trivia.{Gap, gap_to}
use Rattle.lexis.specs.Word.{null, yes, in', if', ident_to, is_word, word_to, ends_for, for_to}
use Rattle.lexis.specs.Word as words
use Rattle.lexis.specs.Number.{number_to, index_to, index_at}
use Rattle.lexis.specs.Operator.{op_at, is_mark, mark_to}
use Rattle.lexis.specs.RunLaws.{inside, stands_inside}
use Rattle.lexis.specs.TriviaLaws.{gap_low, gap_high}
use Rattle.lexis.specs.TokenLaws.{Within, ident_within, number_within, index_within, for_within, word_within, mark_within, op_wide}
use Rattle.grammar.specs.Kinds.{Index}
use Rattle.grammar.specs.Moves.{Want, an_expression, Under, Step, to, no, when, unexpected, token, Atom, gap, mark, opens, word, ahead, for, ident, number, index, operator, parts, unless, comma, call, any, line, here, gap_step, skip, marks, level, opening, is_part, refused, atom}
use Rattle.grammar.specs.Hcl.{under}
use Rattle.grammar.specs.Code.{word_of, space_of, atom_of}
use Rattle.grammar.specs.Thrift.{takes}
use Rattle.grammar.specs.Said.{Went, went_of, Does, Made, Moved, Plain, Placed, opened, stayed, lines_of}

-- ---- a step that is fair: made, it takes n bytes at least; refused, it has a number; its place is within the source
abbrev pub Fair : List ℕ → ℕ → ℕ → Step → Type 0
Fair s p n (to q) = (p + n ≤ q) × (q ≤ p + (length s - p))
Fair s p n (no k q) = (1 ≤ k) × (p ≤ q) × (q ≤ p + (length s - p))

pub does : {s : List ℕ} {p n : ℕ} {f : ℕ → Want → Step} {r : Went} (st : Step) → ((σ : ℕ) (w : Want) → f σ w ≡ st) → Fair s p n st → r ≡ went_of st → Does s p n f r
does (to q) h g e =
    rw e (record {
      is = λ σ w. ap went_of (sym (h σ w));
      good = λ z σ w. h σ w;
      bad = λ z. absurd (z refl);
      low = omega arith;
      high = g.1;
      ate = λ z. g.0;
    })
does (no k q) h g e =
    rw e (record {
      is = λ σ w. ap went_of (sym (h σ w));
      good = λ z. absurd (omega arith);
      bad = λ z σ w. h σ w;
      low = omega arith;
      high = omega arith;
      ate = λ z. absurd (omega arith);
    })

module _ (s : List ℕ) (p n : ℕ) where
  fair_when : (x y : Step) (b : Bool) → (b ≡ true → Fair s p n x) → (b ≡ false → Fair s p n y) → Fair s p n (when b x y)
  fair_when x y true f g = f refl
  fair_when x y false f g = g refl

  fair_unexpected : Fair s p n (unexpected s p)
  fair_unexpected = fair_when _ _ (is_foreign (byte_at s p)) (λ e. (omega arith, omega arith, omega arith)) (λ e. (omega arith, omega arith, omega arith))

  -- past n bytes that a test finds
  fair_past : (b : Bool) → (b ≡ true → Within s p (p + n)) → Fair s p n (when b (to (p + n)) (unexpected s p))
  fair_past b f = fair_when (to (p + n)) (unexpected s p) b (λ e. (omega arith, (f e).high)) (λ e. fair_unexpected)

  fair_level : (left q : ℕ) → Fair s p n (to q) → Fair s p n (level left p (to q))
  fair_level zero q h = (omega arith, omega arith, omega arith)
  fair_level (suc d) q h = h

  fair_opens : (left : ℕ) (b : Bool) → (b ≡ true → Within s p (p + n)) → Fair s p n (when b (level left p (to (p + n))) (unexpected s p))
  fair_opens left b f =
      fair_when (level left p (to (p + n))) (unexpected s p) b (λ e. fair_level left (p + n) (omega arith, (f e).high)) (λ e. fair_unexpected)

module _ (s : List ℕ) (p : ℕ) where
  fair_token : (e : ℕ) → Within s p e → Fair s p 1 (token s p e)
  fair_token e h = fair_when s p 1 (unexpected s p) (to e) (eqb e p) (λ z. fair_unexpected s p 1) (λ z. (omega (arith, eqb-false e p z), h.high))

  fair_stays : (b : Bool) → Fair s p 0 (when b (to p) (unexpected s p))
  fair_stays b = fair_when s p 0 (to p) (unexpected s p) b (λ e. (omega arith, omega arith)) (λ e. fair_unexpected s p 0)

  fair_gap : (g : Gap) → p ≤ g.at → g.at ≤ p + (length s - p) → Fair s p 0 (gap_step g)
  fair_gap g h k = fair_when s p 0 (no 6 g.at) (to g.at) g.unclosed (λ e. (omega arith, omega arith, omega arith)) (λ e. (omega arith, omega arith))

  pub fair_skip : (lines : Bool) → Fair s p 0 (skip s lines p)
  fair_skip lines = fair_gap (gap_to lines s p) (gap_low s p lines) (gap_high s p lines)

-- the same from a place further on
fair_from : (s : List ℕ) (p q : ℕ) (st : Step) → Within s p q → Fair s q 0 st → Fair s p 0 st
fair_from s p q (to x) h g = (omega (arith, h.low), omega (arith, h.low, h.high))
fair_from s p q (no k x) h g = (g.0, omega (arith, h.low), omega (arith, h.low, h.high))

fair_refused : (s : List ℕ) (p n : ℕ) (st : Step) → Fair s p 0 st → Fair s p n (refused st)
fair_refused s p n (to x) g = (omega arith, omega arith, omega arith)
fair_refused s p n (no k x) g = g

-- ---- by a token's end, which is p where its test fails: the step is the one by the test
module _ (s : List ℕ) (p n : ℕ) {e : ℕ} where
  token_by : (b : Bool) → 1 ≤ n → e ≡ cond b (p + n) p → token s p e ≡ when b (to (p + n)) (unexpected s p)
  token_by true h z = rw (ne_eqb e p (λ y. omega arith)) (ap to z)
  token_by false h z = rw (eq-eqb e p z)

  pub opened_by : (left : ℕ) (b : Bool) → 1 ≤ n → e ≡ cond b (p + n) p → opened s left p e ≡ when b (level left p (to (p + n))) (unexpected s p)
  opened_by left true h z = rw (ne_eqb e p (λ y. omega arith)) (ap (λ (q : ℕ). level left p (to q)) z)
  opened_by left false h z = rw (eq-eqb e p z)

  stayed_by : (b : Bool) → 1 ≤ n → e ≡ cond b (p + n) p → stayed s p e ≡ when b (to p) (unexpected s p)
  stayed_by true h z = rw (ne_eqb e p (λ y. omega arith))
  stayed_by false h z = rw (eq-eqb e p z)

-- ---- trivia by its argument
space_by : (s : List ℕ) (b : Under) (σ p : ℕ) (x y : Bool) → atom s b σ (cond x (gap any) (cond y (gap line) (gap here))) p ≡ skip s (cond x true (cond y false b.lines)) p
unfolding atom
space_by s b σ p true y = refl
space_by s b σ p false true = refl
space_by s b σ p false false = refl

space_takes : (x y : Bool) → takes (cond x (gap any) (cond y (gap line) (gap here))) ≡ 0
space_takes true y = refl
space_takes false true = refl
space_takes false false = refl

word_long : (a b c d : Bool) → 1 ≤ length (cond a null (cond b yes (cond c words.no (cond d in' if'))))
word_long true b c d = omega arith
word_long false true c d = omega arith
word_long false false true d = omega arith
word_long false false false true = omega arith
word_long false false false false = omega arith

-- ---- each atom, as the code makes it
module _ (s : List ℕ) (left : ℕ) (lines : Bool) (p : ℕ) {r : Went} where
  pub made_gap : (x : ℕ) {l : Bool} → l ≡ lines_of x lines → Moved s p l r → Made s left lines (space_of x) p r
  made_gap x e h =
      does (skip s (lines_of x lines) p) (λ σ w. space_by s (under left lines w) σ p (eqb x 0) (eqb x 1))
      (rw (space_takes (eqb x 0) (eqb x 1)) (fair_skip s p (lines_of x lines)))
      (h.is ∙ ap (λ (m : Bool). went_of (skip s m p)) e)

  module _ {e : ℕ} where
    pub made_mark : (w : List ℕ) (longer : List (List ℕ)) → 1 ≤ length w → Ran s p (mark_to w longer s p) e → r ≡ went_of (token s p e) → Made s left lines (mark w longer) p r
    unfolding atom
    made_mark w longer l ran h =
        does (marks s w longer p) (λ σ u. refl) (fair_past s p (length w) (is_mark w longer s p) (mark_within s p w longer))
        (h ∙ ap went_of (token_by s p (length w) (is_mark w longer s p) l ran.is))

    pub made_opens : (w : List ℕ) (longer : List (List ℕ)) → 1 ≤ length w → Ran s p (mark_to w longer s p) e → r ≡ went_of (opened s left p e) → Made s left lines (opens w longer) p r
    unfolding atom
    made_opens w longer l ran h =
        does (opening s left w longer p) (λ σ u. refl) (fair_opens s p (length w) left (is_mark w longer s p) (mark_within s p w longer))
        (h ∙ ap went_of (opened_by s p (length w) left (is_mark w longer s p) l ran.is))

    pub made_word : (w : List ℕ) → 1 ≤ length w → Ran s p (word_to w s p) e → r ≡ went_of (token s p e) → Made s left lines (word w) p r
    unfolding atom
    made_word w l ran h =
        does (when (is_word w s p) (to (p + length w)) (unexpected s p)) (λ σ u. refl) (fair_past s p (length w) (is_word w s p) (word_within s p w))
        (h ∙ ap went_of (token_by s p (length w) (is_word w s p) l ran.is))

    pub made_ahead : (w : List ℕ) → 1 ≤ length w → Ran s p (word_to w s p) e → r ≡ went_of (stayed s p e) → Made s left lines (ahead w) p r
    unfolding atom
    made_ahead w l ran h =
        does (when (is_word w s p) (to p) (unexpected s p)) (λ σ u. refl) (fair_stays s p (is_word w s p))
        (h ∙ ap went_of (stayed_by s p (length w) (is_word w s p) l ran.is))

    pub made_for : Ran s p (for_to s p) e → r ≡ went_of (token s p e) → Made s left lines for p r
    unfolding atom
    made_for ran h =
        let b = stands (102 ∷ 111 ∷ 114 ∷ []) s p && ends_for (byte_at s (p + 3)) in
        does (when b (to (p + 3)) (unexpected s p)) (λ σ u. token_by s p 3 b (omega arith) refl)
        (fair_past s p 3 b (λ z. rw z at (for_within s p)))
        (h ∙ ap went_of (token_by s p 3 b (omega arith) ran.is))

    pub made_ident : Ran s p (ident_to s p) e → r ≡ went_of (token s p e) → Made s left lines ident p r
    unfolding atom
    made_ident ran h = does (token s p (ident_to s p)) (λ σ u. refl) (fair_token s p (ident_to s p) (ident_within s p)) (h ∙ ap (λ (q : ℕ). went_of (token s p q)) ran.is)

    pub made_number : Ran s p (number_to s p) e → r ≡ went_of (token s p e) → Made s left lines number p r
    unfolding atom
    made_number ran h = does (token s p (number_to s p)) (λ σ u. refl) (fair_token s p (number_to s p) (number_within s p)) (h ∙ ap (λ (q : ℕ). went_of (token s p q)) ran.is)

  -- where the step turns on nothing but the source, or on what is round the node
  plain : (x : Atom) → ((b : Under) (σ : ℕ) → Fair s p (takes x) (atom s b σ x p)) → Plain s x p r → ((b b' : Under) (σ σ' : ℕ) → atom s b σ x p ≡ atom s b' σ' x p) → Made s left lines x p r
  plain x f h e =
      let b : Under = under left lines an_expression in
      does (atom s b 0 x p) (λ σ w. e (under left lines w) b σ 0) (f b 0) (h.is b 0)

  pub made_index : Plain s index p r → Made s left lines index p r
  unfolding atom
  made_index h =
      plain index
      (λ b σ. fair_when s p 1 (unexpected s p) (when (index_at s p).over (no Index p) (to (index_to s p))) (eqb (index_to s p) p)
      (λ z. fair_unexpected s p 1)
      (λ z. fair_when s p 1 (no Index p) (to (index_to s p)) (index_at s p).over (λ y. (omega arith, omega arith, omega arith))
      (λ y. let k = index_within s p in (omega (arith, eqb-false (index_to s p) p z), k.high))))
      h (λ b b' σ σ'. refl)

  pub made_operator : (k : ℕ) → Plain s (operator k) p r → Made s left lines (operator k) p r
  unfolding atom
  made_operator k h =
      plain (operator k)
      (λ b σ. fair_when s p (takes (operator k)) (to (p + (op_at s p).width)) (unexpected s p) (eqb (op_at s p).kind k)
      (λ z. let o = op_wide s p in (op_takes (ltb 0 k) refl (eqb-true (op_at s p).kind k z) o.wide, omega (arith, o.inside)))
      (λ z. fair_unexpected s p (takes (operator k))))
      h (λ b b' σ σ'. refl)
    where
      op_takes : (t : Bool) → ltb 0 k ≡ t → (op_at s p).kind ≡ k → (op_at s p).kind ≤ 36 * (op_at s p).width → p + cond t 1 0 ≤ p + (op_at s p).width
      op_takes true e z o = omega (arith, ltb-true 0 k e)
      op_takes false e z o = omega arith

  pub made_parts : Plain s parts p r → Made s left lines parts p r
  unfolding atom
  made_parts h = plain parts (λ b σ. fair_stays s p (is_part s p)) h (λ b b' σ σ'. refl)

  pub made_unless : (x : ℕ) → Plain s (unless x) p r → Made s left lines (unless x) p r
  unfolding atom
  made_unless x h =
      plain (unless x)
      (λ b σ. fair_when s p 0 (unexpected s p) (to p) (eqb (byte_at s p) x) (λ z. fair_unexpected s p 0) (λ z. (omega arith, omega arith)))
      h (λ b b' σ σ'. refl)

  pub made_comma : Plain s comma p r → Made s left lines comma p r
  unfolding atom
  made_comma h =
      plain comma
      (λ b σ. fair_when s p 0 (skip s true (p + 1)) (to p) (eqb (byte_at s p) 44)
      (λ z.
      let i = inside (λ x. eqb x 44) s p refl z in
      fair_from s p (p + 1) (skip s true (p + 1)) (record { low = omega arith; high = omega arith }) (fair_skip s (p + 1) true))
      (λ z. (omega arith, omega arith)))
      h (λ b b' σ σ'. refl)

  pub made_call : Placed s left lines call p r → Made s left lines call p r
  unfolding atom
  made_call h =
      does (when (stands (58 ∷ 58 ∷ []) s p) (refused (skip s lines (p + 2))) (opening s left (40 ∷ []) [] p)) (λ σ w. refl)
      (fair_when s p 1 (refused (skip s lines (p + 2))) (opening s left (40 ∷ []) [] p) (stands (58 ∷ 58 ∷ []) s p)
      (λ z.
      let i = stands_inside (58 ∷ 58 ∷ []) s p z in
      fair_refused s p 1 (skip s lines (p + 2)) (fair_from s p (p + 2) (skip s lines (p + 2)) (record { low = omega arith; high = omega arith }) (fair_skip s (p + 2) lines)))
      (λ z. fair_opens s p 1 left (is_mark (40 ∷ []) [] s p) (mark_within s p (40 ∷ []) [])))
      (h.is 0 an_expression)

  -- ---- by the code

  -- the x-th word, which is not empty
  pub made_keyword : (x : ℕ) {e : ℕ} → Ran s p (word_to (word_of x) s p) e → r ≡ went_of (token s p e) → Made s left lines (word (word_of x)) p r
  made_keyword x ran h = made_word (word_of x) (word_long (eqb x 1) (eqb x 2) (eqb x 3) (eqb x 4)) ran h

  pub made_at : (k x : ℕ) {c : ℕ} → c ≡ k → Made s left lines (atom_of k x) p r → Made s left lines (atom_of c x) p r
  made_at k x e h = rw e h

  pub made_else : (c x : ℕ) → (c ≡ 1 → ⊥) → (c ≡ 2 → ⊥) → (c ≡ 3 → ⊥) → (c ≡ 4 → ⊥) → (c ≡ 5 → ⊥) → (c ≡ 6 → ⊥) → (c ≡ 7 → ⊥) → (c ≡ 8 → ⊥) → (c ≡ 9 → ⊥) → (c ≡ 10 → ⊥) → (c ≡ 11 → ⊥) → (c ≡ 12 → ⊥) → (c ≡ 13 → ⊥) → (c ≡ 14 → ⊥) → (c ≡ 15 → ⊥) → (c ≡ 16 → ⊥) → (c ≡ 17 → ⊥)
      → Made s left lines (opens (36 ∷ 123 ∷ []) []) p r → Made s left lines (atom_of c x) p r
  made_else c x n1 n2 n3 n4 n5 n6 n7 n8 n9 n10 n11 n12 n13 n14 n15 n16 n17 h =
      rw (ne_eqb c 1 n1, ne_eqb c 2 n2, ne_eqb c 3 n3, ne_eqb c 4 n4, ne_eqb c 5 n5, ne_eqb c 6 n6, ne_eqb c 7 n7, ne_eqb c 8 n8, ne_eqb c 9 n9, ne_eqb c 10 n10, ne_eqb c 11 n11, ne_eqb c 12 n12, ne_eqb c 13 n13, ne_eqb c 14 n14, ne_eqb c 15 n15, ne_eqb c 16 n16, ne_eqb c 17 n17) h
