-- What a place calls for, by the byte that stands there.
use Rattle.lexis.specs.declared.string.Why.{Why}
use Rattle.lexis.specs.declared.string.Why.TheVariants as why
use Rattle.std.specs.Prelude.{unwrap_or, Option, None, Some}
use Rattle.lexis.specs.Word.{kind_or_none}
use Prim.Native.Nat.{ℕ, zero, suc, ◌+◌}
use mathlib.Core.Path.{◌≡◌, refl, sym, ap, ◌∙◌}
use mathlib.Core.List.{List, [], ◌∷◌}
use mathlib.Core.Bool.{Bool, true, false, cond, not, ◌&&◌, ◌||◌, or-false}
use mathlib.Core.Option.{none}
use native.Mathlib.Omega.{arith}
use lib.Dec.{eqb}
use borrow.Author.Tests.{eq-eqb, ne_eqb, lt-ltb}
use Rattle.lexis.specs.declared.operator.Op.{Op}
use Rattle.lexis.specs.declared.string.Run.{Run}
use Rattle.lexis.specs.Bytes.{byte_at, is_digit, is_start, is_rest, stands, Byte, Ran}
use Rattle.lexis.specs.Trivia.{Gap, gap_to, Gapped}
use Rattle.lexis.specs.Word.{null, yes, is_word, ident_to, for_to, constant_at}
use Rattle.lexis.specs.Word as words
use Rattle.lexis.specs.Operator.{op_at, OpHere, equals_to}
use Rattle.lexis.specs.String.{quoted, RunHere}
use Rattle.lexis.specs.RunLaws.{clash, stands_cons, stands_one, stands_two}
use Rattle.lexis.specs.Keys.{key_to}
use Rattle.engine.specs.Base.{choose}
use Rattle.grammar.specs.Moves.{an_expression, a_part, is_part, lone}
use Rattle.grammar.specs.Hcl.{beyond, is_for, is_broken, is_template, terms, pick_at, follows, follow_in, follow_at, under}
use Rattle.grammar.specs.Said.{kind_from, kind_of, TermAt, PartAt, Follow, byte_beyond, calls_at, word_kind, for_beyond, broken_at, colon_at, sign_at}

-- ---- behind trivia

-- a test of the byte behind trivia, which no byte at all does not pass
pub beyond_byte : (t : ℕ → Bool) → t 256 ≡ false → (s : List ℕ) (g : Gap) → beyond g (λ q. t (byte_at s q)) ≡ t (byte_beyond s g)
beyond_byte t n s g = go g.unclosed
  where
    go : (u : Bool) → (not u && t (byte_at s g.at)) ≡ t (cond u 256 (byte_at s g.at))
    go true = sym n
    go false = refl

module _ {s : List ℕ} {p : ℕ} {lines : Bool} {g : Gap} (h : Gapped lines s p g) where
  pub beyond_open : g.unclosed ≡ true → 256 ≡ byte_beyond s (gap_to lines s p)
  beyond_open u = sym (ap (byte_beyond s) (sym h.is) ∙ rw u)

  pub beyond_shut : {r : ℕ} → g.unclosed ≡ false → Byte s g.at r → r ≡ byte_beyond s (gap_to lines s p)
  beyond_shut u b = b.is ∙ sym (ap (byte_beyond s) (sym h.is) ∙ rw u)

  calls_by : calls_at s lines p ≡ (not g.unclosed && (eqb (byte_at s g.at) 40 || stands (58 ∷ 58 ∷ []) s g.at))
  calls_by = ap (λ (x : Gap). not x.unclosed && (eqb (byte_at s x.at) 40 || stands (58 ∷ 58 ∷ []) s x.at)) (sym h.is)

  pub calls_open : g.unclosed ≡ true → false ≡ calls_at s lines p
  calls_open u = sym (calls_by ∙ rw u)

  pub calls_paren : {b : ℕ} → g.unclosed ≡ false → Byte s g.at b → b ≡ 40 → true ≡ calls_at s lines p
  calls_paren u b e = sym (calls_by ∙ rw (u, eq-eqb (byte_at s g.at) 40 (sym b.is ∙ e)))

  pub calls_names : {b : ℕ} {r : Bool} → g.unclosed ≡ false → Byte s g.at b → (b ≡ 40 → ⊥) → r ≡ stands (58 ∷ 58 ∷ []) s g.at → r ≡ calls_at s lines p
  calls_names u b n e = e ∙ sym (calls_by ∙ rw (u, ne_eqb (byte_at s g.at) 40 (λ z. n (b.is ∙ z))))

module _ {s : List ℕ} {q : ℕ} {g : Gap} (h : Gapped true s q g) (x y : ℕ) where
  for_by : for_beyond s q ≡ (not g.unclosed && not (eqb (for_to s g.at) g.at))
  for_by = ap (λ (v : Gap). not v.unclosed && not (eqb (for_to s v.at) v.at)) (sym h.is)

  pub for_open : g.unclosed ≡ true → y ≡ cond (for_beyond s q) x y
  for_open u = sym (ap (λ (b : Bool). cond b x y) for_by ∙ rw u)

  module _ {e : ℕ} (u : g.unclosed ≡ false) (f : Ran s g.at (for_to s g.at) e) where
    pub for_none : e ≡ g.at → y ≡ cond (for_beyond s q) x y
    for_none z = sym (ap (λ (b : Bool). cond b x y) for_by ∙ rw (u, eq-eqb (for_to s g.at) g.at (sym f.is ∙ z)))

    pub for_some : (e ≡ g.at → ⊥) → x ≡ cond (for_beyond s q) x y
    for_some z = sym (ap (λ (b : Bool). cond b x y) for_by ∙ rw (u, ne_eqb (for_to s g.at) g.at (λ w. z (f.is ∙ w))))

-- ---- one number or another

pub first : (b : Bool) (x y : ℕ) → b ≡ true → x ≡ cond b x y
first b x y e = rw e

pub second : (b : Bool) (x y : ℕ) → b ≡ false → y ≡ cond b x y
second b x y e = rw e

-- quoted text: why its run ends
unbroken : (y : Why) → (y ≡ why.Interpolation → ⊥) → is_broken y ≡ false
unbroken why.Quote n = refl
unbroken why.Interpolation n = absurd (n refl)
unbroken why.Directive n = refl
unbroken why.Escape n = refl
unbroken why.Closing n = refl
unbroken why.Foreign n = refl
unbroken why.End n = refl

module _ {s : List ℕ} {q : ℕ} {t : Run} (h : RunHere quoted s q t) where
  broken_by : broken_at s q ≡ is_broken t.why
  broken_by = ap (λ (x : Run). is_broken x.why) (sym h.is)

  pub broken_yes : t.why ≡ why.Interpolation → broken_at s q ≡ true
  broken_yes e = broken_by ∙ ap is_broken e

  pub broken_no : (t.why ≡ why.Interpolation → ⊥) → broken_at s q ≡ false
  broken_no n = broken_by ∙ unbroken t.why n

-- ---- words

constant_some : (n y o : Bool) (k : ℕ) → k ≡ cond n 1 (cond y 2 (cond o 3 0)) → (k ≡ 0 → ⊥) → k ≡ cond n 1 (cond y 2 (cond o 3 5))
constant_some true y o k e z = e
constant_some false true o k e z = e
constant_some false false true k e z = e
constant_some false false false k e z = absurd (z e)

constant_none : (n y o : Bool) (k : ℕ) → k ≡ cond n 1 (cond y 2 (cond o 3 0)) → k ≡ 0 → ◌≡◌ {A = ℕ} 5 (cond n 1 (cond y 2 (cond o 3 5)))
constant_none true y o k e z = absurd (omega arith)
constant_none false true o k e z = absurd (omega arith)
constant_none false false true k e z = absurd (omega arith)
constant_none false false false k e z = refl

module _ {s : List ℕ} {p e : ℕ} (lines : Bool) {c : Bool} (h : Ran s p (ident_to s p) e) (f : c ≡ calls_at s lines e) where
  calls_is : {v : Bool} → c ≡ v → calls_at s lines (ident_to s p) ≡ v
  calls_is z = ap (calls_at s lines) (sym h.is) ∙ sym f ∙ z

  pub word_call : c ≡ true → 16 ≡ word_kind s lines p
  word_call z = rw (calls_is z)

  module _ {k : ℕ} (z : c ≡ false) (g : k ≡ constant_at s p) where
    pub word_some : (k ≡ 0 → ⊥) → k ≡ word_kind s lines p
    word_some n = rw (calls_is z) (constant_some (is_word null s p) (is_word yes s p) (is_word words.no s p) k g n)

    pub word_none : k ≡ 0 → 5 ≡ word_kind s lines p
    word_none n = rw (calls_is z) (constant_none (is_word null s p) (is_word yes s p) (is_word words.no s p) k g n)

-- the kind of a word by its constant: that, or a variable's
pub kind_by : (P : ℕ → Type 0) (n : ℕ) {o : Option ℕ} {k : ℕ} → o ≡ kind_or_none n → k ≡ unwrap_or o 5 → ((n ≡ 0 → ⊥) → P n) → (n ≡ 0 → P 5) → P k
kind_by P zero e f f₁ f₂ = rw (f, e) (f₂ refl)
kind_by P (suc n) e f f₁ f₂ = rw (f, e) (f₁ (λ z. omega arith))

-- a kind, 0 for none
pub kind_or : (o : Option ℕ) → unwrap_or o 0 ≡ kind_from o
kind_or None = refl
kind_or (Some k) = refl

-- ---- terms

two : (t : Bool) (x y : ℕ) → cond t x y ≡ kind_of (choose ((t, x) ∷ (true, y) ∷ []))
two true x y = refl
two false x y = refl

words_chosen : (c n y o : Bool) → cond c 16 (cond n 1 (cond y 2 (cond o 3 5))) ≡ kind_of (choose ((c, 16) ∷ (n, 1) ∷ (y, 2) ∷ (o, 3) ∷ (true, 5) ∷ []))
words_chosen true n y o = refl
words_chosen false true y o = refl
words_chosen false false true o = refl
words_chosen false false false true = refl
words_chosen false false false false = refl

-- what starts no identifier is none of the letters
no_start : (b n : ℕ) → is_start b ≡ false → is_start n ≡ true → eqb b n ≡ false
no_start b n e f = ne_eqb b n (λ z. clash (sym f ∙ ap is_start (sym z) ∙ e))

module _ (s : List ℕ) (p : ℕ) (lines : Bool) where
  -- the tests by the byte at p
  abbrev terms_from : ℕ → List (Bool × ℕ)
  terms_from b =
      (is_digit b, 4)
      ∷ (is_start b && calls_at s lines (ident_to s p), 16)
      ∷ ((eqb b 110 && stands (117 ∷ 108 ∷ 108 ∷ []) s (p + 1)) && not (is_rest (byte_at s (p + 4))), 1)
      ∷ ((eqb b 116 && stands (114 ∷ 117 ∷ 101 ∷ []) s (p + 1)) && not (is_rest (byte_at s (p + 4))), 2)
      ∷ ((eqb b 102 && stands (97 ∷ 108 ∷ 115 ∷ 101 ∷ []) s (p + 1)) && not (is_rest (byte_at s (p + 5))), 3)
      ∷ (is_start b, 5)
      ∷ (eqb b 45 && beyond (gap_to false s (p + 1)) (λ q. is_digit (byte_at s q)), 4)
      ∷ (eqb b 45, 22)
      ∷ (eqb b 33 && not ((eqb b 33 && eqb (byte_at s (p + 1)) 61) || false), 23)
      ∷ (eqb b 40, 15)
      ∷ (eqb b 91 && is_for s p, 18)
      ∷ (eqb b 91, 11)
      ∷ (eqb b 123 && is_for s p, 19)
      ∷ (eqb b 123, 12)
      ∷ (eqb b 34 && is_template s p, 7)
      ∷ (eqb b 34, 6)
      ∷ (eqb b 60 && eqb (byte_at s (p + 1)) 60, 8)
      ∷ []

  terms_is : terms s lines p ≡ terms_from (byte_at s p)
  terms_is =
      rw (
        stands_cons 110 (117 ∷ 108 ∷ 108 ∷ []) s p refl,
        stands_cons 116 (114 ∷ 117 ∷ 101 ∷ []) s p refl,
        stands_cons 102 (97 ∷ 108 ∷ 115 ∷ 101 ∷ []) s p refl,
        stands_one 33 s p refl,
        stands_two 33 61 s p refl refl,
        stands_two 60 60 s p refl refl,
      )

  picked : (left : ℕ) → kind_of (pick_at s (under left lines an_expression) p) ≡ kind_of (choose (terms s lines p))
  unfolding pick_at
  picked left = refl

  at : (k : ℕ) → byte_at s p ≡ k → (left : ℕ) → kind_of (pick_at s (under left lines an_expression) p) ≡ kind_of (choose (terms_from k))
  at k e left = picked left ∙ ap (λ (l : List (Bool × ℕ)). kind_of (choose l)) terms_is ∙ ap (λ (b : ℕ). kind_of (choose (terms_from b))) e

  pub term_digit : is_digit (byte_at s p) ≡ true → TermAt s p lines 4
  term_digit e left = sym (picked left ∙ rw e)

  pub term_word : {r : ℕ} → is_digit (byte_at s p) ≡ false → is_start (byte_at s p) ≡ true → r ≡ word_kind s lines p → TermAt s p lines r
  term_word d e h left =
      h
      ∙ words_chosen (calls_at s lines (ident_to s p)) (is_word null s p) (is_word yes s p) (is_word words.no s p)
      ∙ sym (picked left ∙ rw (d, e))

  pub term_minus : {r : ℕ} → byte_at s p ≡ 45 → r ≡ cond (is_digit (byte_beyond s (gap_to false s (p + 1)))) 4 22 → TermAt s p lines r
  term_minus e h left =
      h
      ∙ ap (λ (b : Bool). cond b 4 22) (sym (beyond_byte is_digit refl s (gap_to false s (p + 1))))
      ∙ two (beyond (gap_to false s (p + 1)) (λ q. is_digit (byte_at s q))) 4 22
      ∙ sym (at 45 e left)

  pub term_unequal : byte_at s p ≡ 33 → byte_at s (p + 1) ≡ 61 → TermAt s p lines 0
  term_unequal e f left = sym (at 33 e left ∙ rw (eq-eqb (byte_at s (p + 1)) 61 f))

  pub term_not : byte_at s p ≡ 33 → (byte_at s (p + 1) ≡ 61 → ⊥) → TermAt s p lines 23
  term_not e f left = sym (at 33 e left ∙ rw (ne_eqb (byte_at s (p + 1)) 61 f))

  pub term_parentheses : byte_at s p ≡ 40 → TermAt s p lines 15
  term_parentheses e left = sym (at 40 e left)

  pub term_array : {r : ℕ} → byte_at s p ≡ 91 → r ≡ cond (for_beyond s (p + 1)) 18 11 → TermAt s p lines r
  term_array e h left = h ∙ two (is_for s p) 18 11 ∙ sym (at 91 e left)

  pub term_object : {r : ℕ} → byte_at s p ≡ 123 → r ≡ cond (for_beyond s (p + 1)) 19 12 → TermAt s p lines r
  term_object e h left = h ∙ two (is_for s p) 19 12 ∙ sym (at 123 e left)

  pub term_quote : {r : ℕ} → byte_at s p ≡ 34 → r ≡ cond (broken_at s (p + 1)) 7 6 → TermAt s p lines r
  term_quote e h left = h ∙ two (is_template s p) 7 6 ∙ sym (at 34 e left)

  pub term_heredoc : byte_at s p ≡ 60 → byte_at s (p + 1) ≡ 60 → TermAt s p lines 8
  term_heredoc e f left = sym (at 60 e left ∙ rw (eq-eqb (byte_at s (p + 1)) 60 f))

  pub term_less : byte_at s p ≡ 60 → (byte_at s (p + 1) ≡ 60 → ⊥) → TermAt s p lines 0
  term_less e f left = sym (at 60 e left ∙ rw (ne_eqb (byte_at s (p + 1)) 60 f))

  module _ (d : is_digit (byte_at s p) ≡ false) (e : is_start (byte_at s p) ≡ false) where
    pub term_none : (byte_at s p ≡ 45 → ⊥) → (byte_at s p ≡ 33 → ⊥) → (byte_at s p ≡ 40 → ⊥) → (byte_at s p ≡ 91 → ⊥)
        → (byte_at s p ≡ 123 → ⊥) → (byte_at s p ≡ 34 → ⊥) → (byte_at s p ≡ 60 → ⊥) → TermAt s p lines 0
    term_none n45 n33 n40 n91 n123 n34 n60 left =
        sym (
        at (byte_at s p) refl left
        ∙ rw (
          d,
          e,
          no_start (byte_at s p) 110 e refl,
          no_start (byte_at s p) 116 e refl,
          no_start (byte_at s p) 102 e refl,
          ne_eqb (byte_at s p) 45 n45,
          ne_eqb (byte_at s p) 33 n33,
          ne_eqb (byte_at s p) 40 n40,
          ne_eqb (byte_at s p) 91 n91,
          ne_eqb (byte_at s p) 123 n123,
          ne_eqb (byte_at s p) 34 n34,
          ne_eqb (byte_at s p) 60 n60,
        )
        )

-- ---- parts

three : (t u : Bool) → cond t 40 (cond u 39 38) ≡ kind_of (choose ((t, 40) ∷ (u, 39) ∷ (true, 38) ∷ []))
three true u = refl
three false true = refl
three false false = refl

module _ (s : List ℕ) (p : ℕ) where
  abbrev portions_from : ℕ → List (Bool × ℕ)
  portions_from b =
      (eqb b 46 && beyond (gap_to true s (p + 1)) (λ q. eqb (byte_at s q) 42), 40)
      ∷ (eqb b 46 && beyond (gap_to true s (p + 1)) (λ q. is_digit (byte_at s q)), 39)
      ∷ (eqb b 46, 38)
      ∷ (eqb b 91 && beyond (gap_to true s (p + 1)) (λ q. eqb (byte_at s q) 42), 41)
      ∷ (eqb b 91, 42)
      ∷ []

  portioned : (k : ℕ) → byte_at s p ≡ k → (left : ℕ) (lines : Bool) → kind_of (pick_at s (under left lines a_part) p) ≡ kind_of (choose (portions_from k))
  unfolding pick_at
  portioned k e left lines = ap (λ (b : ℕ). kind_of (choose (portions_from b))) e

  star : (t : ℕ → Bool) → t 256 ≡ false → {c : ℕ} {v : Bool} → c ≡ byte_beyond s (gap_to true s (p + 1)) → t c ≡ v → beyond (gap_to true s (p + 1)) (λ q. t (byte_at s q)) ≡ v
  star t n e f = beyond_byte t n s (gap_to true s (p + 1)) ∙ ap t (sym e) ∙ f

  module _ {c : ℕ} (h : c ≡ byte_beyond s (gap_to true s (p + 1))) where
    pub part_full : byte_at s p ≡ 91 → c ≡ 42 → PartAt s p 41
    part_full e f left lines = sym (portioned 91 e left lines ∙ rw (star (λ x. eqb x 42) refl h (eq-eqb c 42 f)))

    pub part_index : byte_at s p ≡ 91 → (c ≡ 42 → ⊥) → PartAt s p 42
    part_index e f left lines = sym (portioned 91 e left lines ∙ rw (star (λ x. eqb x 42) refl h (ne_eqb c 42 f)))

    pub part_splat : byte_at s p ≡ 46 → c ≡ 42 → PartAt s p 40
    part_splat e f left lines = sym (portioned 46 e left lines ∙ rw (star (λ x. eqb x 42) refl h (eq-eqb c 42 f)))

    pub part_legacy : byte_at s p ≡ 46 → (c ≡ 42 → ⊥) → is_digit c ≡ true → PartAt s p 39
    part_legacy e f d left lines = sym (portioned 46 e left lines ∙ rw (star (λ x. eqb x 42) refl h (ne_eqb c 42 f), star is_digit refl h d))

    pub part_attribute : byte_at s p ≡ 46 → (c ≡ 42 → ⊥) → is_digit c ≡ false → PartAt s p 38
    part_attribute e f d left lines = sym (portioned 46 e left lines ∙ rw (star (λ x. eqb x 42) refl h (ne_eqb c 42 f), star is_digit refl h d))

  pub part_no : (byte_at s p ≡ 91 → ⊥) → (byte_at s p ≡ 46 → ⊥) → PartAt s p 0
  part_no m n left lines = sym (portioned (byte_at s p) refl left lines ∙ rw (ne_eqb (byte_at s p) 46 n, ne_eqb (byte_at s p) 91 m))

-- ---- what may follow

module _ {s : List ℕ} {p : ℕ} {lines : Bool} {g : Gap} (h : Gapped lines s p g) where
  followed : (left : ℕ) → kind_of (follow_at s (under left lines an_expression) p) ≡ kind_of (follow_in s g)
  unfolding follow_at
  followed left = ap (λ (x : Gap). kind_of (follow_in s x)) (sym h.is)

  pub follow_still : g.unclosed ≡ false → choose (follows s g.at) ≡ none → Follow s p lines 0
  follow_still u e left = sym (followed left ∙ rw (u, e))

  pub follow_open : g.unclosed ≡ true → Follow s p lines 0
  follow_open u left = sym (followed left ∙ rw u)

  module _ {o : Op} (u : g.unclosed ≡ false) (f : OpHere s g.at o) where
    pub follow_operator : (o.kind ≡ 0 → ⊥) → Follow s p lines o.kind
    follow_operator n left =
        let z : (op_at s g.at).kind ≡ o.kind = ap (λ (x : Op). x.kind) (sym f.is) in
        sym (followed left ∙ rw (u, z, lt-ltb 0 o.kind (omega (arith, n))))

    module _ {b : ℕ} (n : o.kind ≡ 0) (c : Byte s g.at b) where
      none_here : (op_at s g.at).kind ≡ 0
      none_here = ap (λ (x : Op). x.kind) (sym f.is) ∙ n

      pub follow_question : b ≡ 63 → Follow s p lines 21
      follow_question e left = sym (followed left ∙ rw (u, none_here, eq-eqb (byte_at s g.at) 63 (sym c.is ∙ e)))

      pub follow_part : {v : Bool} → (b ≡ 63 → ⊥) → v ≡ is_part s g.at → v ≡ true → Follow s p lines 37
      follow_part e i t left = sym (followed left ∙ rw (u, none_here, ne_eqb (byte_at s g.at) 63 (λ z. e (c.is ∙ z)), sym i ∙ t))

      pub follow_none : {v : Bool} → (b ≡ 63 → ⊥) → v ≡ is_part s g.at → v ≡ false → Follow s p lines 0
      follow_none e i t left = sym (followed left ∙ rw (u, none_here, ne_eqb (byte_at s g.at) 63 (λ z. e (c.is ∙ z)), sym i ∙ t))

-- ---- keys

module _ {s : List ℕ} {a : ℕ} {b : ℕ} (h : Byte s a b) where
  pub key_word : {r : ℕ} → (b ≡ 34 → ⊥) → Ran s a (ident_to s a) r → r ≡ key_to s a
  key_word n f = f.is ∙ rw (ne_eqb (byte_at s a) 34 (λ z. n (h.is ∙ z)))

  pub key_string : {t : Run} → b ≡ 34 → RunHere quoted s (a + 1) t → t.end + 1 ≡ key_to s a
  key_string e f = rw (eq-eqb (byte_at s a) 34 (sym h.is ∙ e)) (omega (arith, ap (λ (x : Run). x.end) f.is))

module _ (s : List ℕ) (q : ℕ) where
  colon_bytes : colon_at s q ≡ (eqb (byte_at s q) 58 && not ((eqb (byte_at s q) 58 && eqb (byte_at s (q + 1)) 58) || false))
  colon_bytes = rw (stands_one 58 s q refl, stands_two 58 58 s q refl refl)

  module _ {e : ℕ} (i : Ran s q (equals_to s q) e) where
    pub signs_equals : (e ≡ q → ⊥) → true ≡ sign_at s q
    signs_equals n = sym (rw (ne_eqb (equals_to s q) q (λ z. n (i.is ∙ z))))

    module _ {b : ℕ} (z : e ≡ q) (c : Byte s q b) where
      pub signs_none : (b ≡ 58 → ⊥) → false ≡ sign_at s q
      signs_none n = sym (rw (eq-eqb (equals_to s q) q (sym i.is ∙ z), colon_bytes, ne_eqb (byte_at s q) 58 (λ w. n (c.is ∙ w))))

      pub signs_colon : {d : ℕ} → b ≡ 58 → Byte s (q + 1) d → not (eqb d 58) ≡ sign_at s q
      signs_colon n m =
          ap (λ (x : ℕ). not (eqb x 58)) m.is
          ∙ sym (rw (eq-eqb (equals_to s q) q (sym i.is ∙ z), colon_bytes, eq-eqb (byte_at s q) 58 (sym c.is ∙ n), or-false (eqb (byte_at s (q + 1)) 58)))

-- a key alone, by the place behind its token's space
pub lone_by : (s : List ℕ) (a : ℕ) {k q : ℕ} → k ≡ key_to s a → q ≡ (gap_to false s k).at → sign_at s q ≡ lone s a
lone_by s a h f = ap (sign_at s) (f ∙ ap (λ (x : ℕ). (gap_to false s x).at) h)
