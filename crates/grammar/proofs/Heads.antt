-- The answers of `head_at` and `next_at`.
use Prim.Native.Nat.{ℕ, ◌+◌, ◌≤◌}
use mathlib.Core.Path.{◌≡◌, refl, sym, ap, subst, ◌∙◌}
use mathlib.Core.List.{List, [], ◌∷◌}
use mathlib.Core.Bool.{Bool, true, false, cond, ◌&&◌, ◌||◌, and-false}
use native.Mathlib.Omega.{arith}
use lib.ListN.{length}
use lib.Dec.{T, eqb, leb}
use borrow.Author.Tests.{eq-eqb, ne_eqb, eqb-true, leb-true, lt-leb}
use Rattle.lexis.specs.declared.operator.Op.{Op}
use Rattle.lexis.specs.Bytes.{byte_at, is_digit, is_start, is_rest, stands, Byte, Ran}
use Rattle.lexis.specs.Trivia.{Gap, gap_to, Gapped}
use Rattle.lexis.specs.Word.{null, yes, is_word, ident_to, constant_at}
use Rattle.lexis.specs.Word as words
use Rattle.lexis.specs.Number.{number_to}
use Rattle.lexis.specs.Operator.{op_at, OpHere}
use Rattle.lexis.specs.TokenLaws.{op_all}
use Rattle.lexis.specs.RunLaws.{clash, stands_one}
use Rattle.engine.specs.Base.{has}
use Rattle.engine.specs.Layout.{fin, move}
use Rattle.grammar.specs.declared.picks.Head.{Head}
use Rattle.grammar.specs.Kinds.{tight_of}
use Rattle.grammar.specs.Moves.{Want, Under, to, no, unexpected, atom, walk, Move, gap, operator, here, line, mark, ident, number}
use Rattle.grammar.specs.Moves as moves
use Rattle.grammar.specs.Layouts.{layouts, layout_of, operator_lay, number_lay}
use Rattle.grammar.specs.Hcl.{under}
use Rattle.grammar.specs.KeyLaws.{word_ends}
use Rattle.grammar.specs.Said.{TermAt, Follow, calls_at}
use Rattle.grammar.specs.Alone.{head_of, Alone, word, digits, HeadAt, NextAt}
use Rattle.grammar.proofs.Callings.{term_digit, term_word, word_call, word_some, word_none, follow_operator}

-- ---- a token alone

walk_word : (w s : List ℕ) (p : ℕ) (b : Under) (σ : ℕ) → is_word w s p ≡ true → walk s b σ (moves.word w ∷ []) p ≡ to (p + length w)
unfolding walk atom
walk_word w s p b σ e = rw e

walk_ident : (s : List ℕ) (p : ℕ) (b : Under) (σ : ℕ) → (ident_to s p ≡ p → ⊥) → walk s b σ (ident ∷ []) p ≡ to (ident_to s p)
unfolding walk atom
walk_ident s p b σ n = rw (ne_eqb (ident_to s p) p n)

walk_number : (s : List ℕ) (p : ℕ) (b : Under) (σ : ℕ) → (number_to s p ≡ p → ⊥) → walk s b σ (number ∷ []) p ≡ to (number_to s p)
unfolding walk atom
walk_number s p b σ n = rw (ne_eqb (number_to s p) p n)

-- no minus stands where a digit does
walk_minus : (s : List ℕ) (p : ℕ) (b : Under) (σ : ℕ) → is_digit (byte_at s p) ≡ true → walk s b σ (mark (45 ∷ []) [] ∷ gap line ∷ []) p ≡ no 4 p
unfolding walk atom
walk_minus s p b σ e = rw (stands_one 45 s p refl, ne_eqb (byte_at s p) 45 (λ z. clash (sym e ∙ ap is_digit z)), native e)
  where
    native : is_digit (byte_at s p) ≡ true → Rattle.lexis.specs.Bytes.is_foreign (byte_at s p) ≡ false
    native e = go (leb 128 (byte_at s p)) refl
      where
        over : 128 ≤ byte_at s p → is_digit (byte_at s p) ≡ false
        over h = rw (lt-leb (byte_at s p) 57 (omega arith)) (and-false (leb 48 (byte_at s p)))

        go : (b : Bool) → leb 128 (byte_at s p) ≡ b → (b && leb (byte_at s p) 255) ≡ false
        go true z = clash (sym (rw (over (leb-true 128 (byte_at s p) z)) at e))
        go false z = refl

lay_null : layout_of 1 ≡ move (moves.word null ∷ []) (fin 0)
unfolding layouts
lay_null = refl

lay_yes : layout_of 2 ≡ move (moves.word yes ∷ []) (fin 0)
unfolding layouts
lay_yes = refl

lay_no : layout_of 3 ≡ move (moves.word words.no ∷ []) (fin 0)
unfolding layouts
lay_no = refl

lay_number : layout_of 4 ≡ number_lay
unfolding layouts
lay_number = refl

lay_ident : layout_of 5 ≡ move (ident ∷ []) (fin 0)
unfolding layouts
lay_ident = refl

module _ {s : List ℕ} {p : ℕ} (lines : Bool) where
  pub head_digits : {r : Head} {e : ℕ} → is_digit (byte_at s p) ≡ true → Ran s p (number_to s p) e → r ≡ head_of 4 e → HeadAt s p lines r
  head_digits d h q = rw q (record {
    kind = term_digit s p lines d;
    alone = λ n. digits (mark (45 ∷ []) [] ∷ gap line ∷ []) (number ∷ []) (move (number ∷ []) (fin 1)) 4 p lay_number (λ b σ. walk_minus s p b σ d)
        (λ b σ. walk_number s p b σ (λ z. n (h.is ∙ z)) ∙ ap to (sym h.is));
    some = λ n. omega arith;
    small = λ n. omega arith;
    low = h.low;
    high = h.high;
  })

  -- what is no token alone
  pub head_other : {r : Head} {k : ℕ} → TermAt s p lines k → r ≡ head_of k p → HeadAt s p lines r
  head_other t q = rw q (record { kind = t; alone = λ n. absurd (n refl); some = λ n. absurd (n refl); small = λ n. absurd (n refl); low = omega arith; high = omega arith })

  module _ {e : ℕ} (d : is_digit (byte_at s p) ≡ false) (st : is_start (byte_at s p) ≡ true) (h : Ran s p (ident_to s p) e) {c : Bool} (f : c ≡ calls_at s lines e) where
    pub head_call : {r : Head} → c ≡ true → r ≡ head_of 16 p → HeadAt s p lines r
    head_call z q = head_other (term_word s p lines d st (word_call lines h f z)) q

    module _ (z : c ≡ false) {k : ℕ} (g : k ≡ constant_at s p) where
      -- the constant's word is the whole identifier
      constant_alone : (k ≡ 0 → ⊥) → (e ≡ p → ⊥) → Alone s p k e × (k ≤ 5)
      constant_alone n m = go (is_word null s p) (is_word yes s p) (is_word words.no s p) refl refl refl (sym g)
        where
          by_word : (w : List ℕ) (j : ℕ) → T (Rattle.engine.specs.Base.all_of is_rest w) → layout_of j ≡ move (moves.word w ∷ []) (fin 0) → is_word w s p ≡ true → j ≡ k → j ≤ 5 → Alone s p k e × (k ≤ 5)
          by_word w j t l y v u =
              let e-is : e ≡ p + length w = h.is ∙ word_ends s w p t st y in
              (word (moves.word w ∷ []) (subst (λ (o : ℕ). layout_of o ≡ move (moves.word w ∷ []) (fin 0)) v l) (λ b σ. walk_word w s p b σ y ∙ ap to (sym e-is)), omega arith)

          go : (x y v : Bool) → is_word null s p ≡ x → is_word yes s p ≡ y → is_word words.no s p ≡ v → cond x 1 (cond y 2 (cond v 3 0)) ≡ k → Alone s p k e × (k ≤ 5)
          go true y v a b o i = by_word null 1 tt lay_null a i (omega arith)
          go false true v a b o i = by_word yes 2 tt lay_yes b i (omega arith)
          go false false true a b o i = by_word words.no 3 tt lay_no o i (omega arith)
          go false false false a b o i = absurd (n (sym i))

      pub head_constant : {r : Head} → (k ≡ 0 → ⊥) → r ≡ head_of k e → HeadAt s p lines r
      head_constant n q = rw q (record {
        kind = term_word s p lines d st (word_some lines h f z g n);
        alone = λ m. (constant_alone n m).0;
        some = λ m. omega (arith, n);
        small = λ m. (constant_alone n m).1;
        low = h.low;
        high = h.high;
      })

      pub head_variable : {r : Head} → k ≡ 0 → r ≡ head_of 5 e → HeadAt s p lines r
      head_variable n q = rw q (record {
        kind = term_word s p lines d st (word_none lines h f z g n);
        alone = λ m. word (ident ∷ []) lay_ident (λ b σ. walk_ident s p b σ (λ y. m (h.is ∙ y)) ∙ ap to (sym h.is));
        some = λ m. omega arith;
        small = λ m. omega arith;
        low = h.low;
        high = h.high;
      })

-- ---- what follows

walk_operator : (s : List ℕ) (p left : ℕ) (lines : Bool) (w : Want) (σ k e : ℕ) (g : Gap) → g ≡ gap_to lines s p → g.unclosed ≡ false → (op_at s g.at).kind ≡ k → g.at + (op_at s g.at).width ≡ e
    → walk s (under left lines w) σ (gap here ∷ operator k ∷ []) p ≡ to e
unfolding walk atom
walk_operator s p left lines w σ k e g i u f h = rw (sym i, u, eq-eqb (op_at s g.at).kind k f, h)

-- the layout of each binary operator, by its kind and level
abbrev Each : (ℕ → Type 0) → List ℕ → Type 0
Each P [] = Unit {0}
Each P (x ∷ xs) = P x × Each P xs

each_has : (P : ℕ → Type 0) (xs : List ℕ) → Each P xs → (k : ℕ) → T (has xs k) → P k
each_has P [] t k h = absurd h
each_has P (x ∷ xs) (a, t) k h = go (eqb x k) refl h (each_has P xs t k)
  where
    go : (b : Bool) → eqb x k ≡ b → T (b || has xs k) → (T (has xs k) → P k) → P k
    go true e u f = subst P (eqb-true x k e) a
    go false e u f = f u

abbrev binaries : List ℕ
binaries = 24 ∷ 25 ∷ 26 ∷ 27 ∷ 28 ∷ 29 ∷ 30 ∷ 31 ∷ 32 ∷ 33 ∷ 34 ∷ 35 ∷ 36 ∷ []

abbrev Laid : ℕ → Type 0
Laid k = (layout_of k ≡ operator_lay k (tight_of k)) × (tight_of k ≤ 7) × (k ≤ 36)

binary_lays : Each Laid binaries
unfolding layouts
binary_lays = ((refl, omega arith, omega arith), ((refl, omega arith, omega arith), ((refl, omega arith, omega arith), ((refl, omega arith, omega arith), ((refl, omega arith, omega arith), ((refl, omega arith, omega arith), ((refl, omega arith, omega arith), ((refl, omega arith, omega arith), ((refl, omega arith, omega arith), ((refl, omega arith, omega arith), ((refl, omega arith, omega arith), ((refl, omega arith, omega arith), ((refl, omega arith, omega arith), tt)))))))))))))

op_lays : (s : List ℕ) (q k : ℕ) → (op_at s q).kind ≡ k → (k ≡ 0 → ⊥) → Laid k
op_lays s q k e n =
    let t : T (eqb (op_at s q).kind 0 || has binaries (op_at s q).kind) = op_all (λ o. eqb o.kind 0 || has binaries o.kind) tt s q in
    let u : T (eqb k 0 || has binaries k) = subst (λ (o : ℕ). T (eqb o 0 || has binaries o)) e t in
    each_has Laid binaries binary_lays k (rw (ne_eqb k 0 n) at u)

module _ {s : List ℕ} {p : ℕ} {lines : Bool} {r : Head} where
  pub next_other : {k : ℕ} → Follow s p lines k → r ≡ head_of k p → NextAt s p lines r
  next_other t q = rw q (record { kind = t; operates = λ n. absurd (n refl); some = λ n. absurd (n refl); binary = λ n. absurd (n refl); loose = λ n. absurd (n refl); lays = λ n. absurd (n refl); low = omega arith; high = omega arith })

  pub next_operator : {g : Gap} {o : Op} → Gapped lines s p g → g.unclosed ≡ false → OpHere s g.at o → (o.kind ≡ 0 → ⊥) → r ≡ head_of o.kind (g.at + o.width) → NextAt s p lines r
  next_operator {g} {o} h u f n q = rw q (record {
    kind = follow_operator h u f n;
    operates = λ m left σ w. walk_operator s p left lines w σ o.kind (g.at + o.width) g h.is u (ap (λ (x : Op). x.kind) (sym f.is)) (ap (λ (x : Op). g.at + x.width) (sym f.is));
    some = λ m. omega (arith, n);
    binary = λ m. (op_lays s g.at o.kind (ap (λ (x : Op). x.kind) (sym f.is)) n).2;
    loose = λ m. (op_lays s g.at o.kind (ap (λ (x : Op). x.kind) (sym f.is)) n).1;
    lays = λ m. (op_lays s g.at o.kind (ap (λ (x : Op). x.kind) (sym f.is)) n).0;
    low = omega (arith, h.low);
    high = omega (arith, h.low, h.high, f.inside);
  })
