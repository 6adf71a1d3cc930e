-- Names and attributes: the turns of their programs, one by one.
use Prim.Native.Nat.{ℕ, ◌+◌}
use mathlib.Core.Path.{◌≡◌, refl, sym, ap, subst, ◌∙◌}
use mathlib.Core.Bool.{Bool, true, false, cond}
use mathlib.Core.List.{List, [], ◌∷◌}
use native.Mathlib.Omega.{arith}
use lib.Dec.{T}
use borrow.Author.Tests.{eqb-true}
use Rattle.lexis.specs.Bytes.{nothing, byte_at, is_start, stands, Ran}
use Rattle.lexis.specs.Trivia.{gap_to}
use Rattle.lexis.specs.RunLaws.{clash, and_left, stands_one}
use Rattle.lexis.proofs.Runs.{moved}
use Rattle.lexis.specs.Word.{ident_to}
use Rattle.lexis.specs.Operator.{is_mark, mark_to}
use Rattle.engine.specs.Base.{has}
use Rattle.grammar.specs.Kinds.{Unclosed}
use Rattle.grammar.specs.Moves.{Under, to, no, when, skip, gap, ident, mark, any}
use Rattle.grammar.specs.Hcl.{under}
use Rattle.grammar.specs.Said.{Went, Moved, byte_beyond}
use Rattle.grammar.specs.KeyLaws.{start_digit}
use Rattle.grammar.proofs.Callings.{part_attribute}
use Rattle.grammar.specs.Published.{want_of}
use Rattle.grammar.specs.Code.{atoms, move_of, program, begins, operation, argument}
use Rattle.checker.specs.Rows.{row_at}
use Rattle.checker.specs.Family.{Chain}
use Rattle.checker.specs.Program.{code_in, move_in, begin_in, laid_out}
use Rattle.checker.specs.Lay.{EndsAt, LaidBy}
use Rattle.checker.specs.Leaf.{FirstAt}
use Rattle.checker.specs.Token.{BareBy, DotBy}
use Rattle.checker.proofs.Callings.{first_part}
use Rattle.checker.proofs.Goings.{ident_on, ident_no, dot_on, dot_no, any_on, any_no}
use Rattle.checker.proofs.Lays.{known, Turn, turn_start}
use Rattle.checker.proofs.Directs.{direct_move, direct_stop, direct_end}

record Name-code : Type 0 where
  start : begin_in 17 ≡ 56
  move : operation (code_in 56) ≡ 2
  word : move_in (argument (code_in 56)) ≡ ident ∷ []
  fin : operation (code_in 57) ≡ 1
  flag : argument (code_in 57) ≡ 0

name_code : Name-code
unfolding atoms move_of program begins
name_code = record { start = refl; move = refl; word = refl; fin = refl; flag = refl }

record Dot-code : Type 0 where
  start : begin_in 38 ≡ 207
  move : operation (code_in 207) ≡ 2
  dot : move_in (argument (code_in 207)) ≡ mark (46 ∷ []) [] ∷ []
  next : operation (code_in 208) ≡ 2
  space : move_in (argument (code_in 208)) ≡ gap any ∷ []
  last : operation (code_in 209) ≡ 2
  word : move_in (argument (code_in 209)) ≡ ident ∷ []
  fin : operation (code_in 210) ≡ 1
  flag : argument (code_in 210) ≡ 0

dot_code : Dot-code
unfolding atoms move_of program begins
dot_code = record { start = refl; move = refl; dot = refl; next = refl; space = refl; last = refl; word = refl; fin = refl; flag = refl }

module _ (s t : List ℕ) (i left : ℕ) (lines : Bool) (m D js : List ℕ) (j p : ℕ) (c : Chain m i js j) where
  abbrev att : Under
  att = under left lines (want_of (row_at t i).kind)

  abbrev At : ℕ → ℕ → Type 0
  At pc q = Turn s t i left lines m D D [] j p pc q j 0

  abbrev Laid : Bool → Type 0
  Laid r = LaidBy s t i m D D j p left lines r

  begun : (k n : ℕ) → (row_at t i).kind ≡ k → T (has laid_out k) → begin_in k ≡ n → At n p
  begun k n is h e = turn_start s t i left lines (known (row_at t i).kind (subst (λ (o : ℕ). T (has laid_out o)) (sym is) h)) (sym e ∙ ap begin_in (sym is)) js c

  module _ (is : (row_at t i).kind ≡ 17) {e : ℕ} (h : Ran s p (ident_to s p) e) where
    name_not : e ≡ p → Laid false
    name_not z = direct_stop s t i left lines (begun 17 56 is tt name_code.start) name_code.move name_code.word (ident_no s att (row_at t i).start h z)

    name_is : {r : Bool} → ¬ (e ≡ p) → EndsAt t i j e 0 r → Laid r
    name_is n o = direct_end s t i left lines (direct_move s t i left lines (begun 17 56 is tt name_code.start) name_code.move name_code.word (ident_on s att (row_at t i).start h n)) 0 name_code.fin name_code.flag o

  module _ (is : (row_at t i).kind ≡ 38) {d : ℕ} (h : Ran s p (mark_to (46 ∷ []) [] s p) d) where
    dot_not : d ≡ p → Laid false
    dot_not z = direct_stop s t i left lines (begun 38 207 is tt dot_code.start) dot_code.move dot_code.dot (dot_no s att (row_at t i).start h z)

    module _ (n : ¬ (d ≡ p)) {g : Went} (sp : Moved s d true g) where
      behind_dot : At 208 d
      behind_dot = direct_move s t i left lines (begun 38 207 is tt dot_code.start) dot_code.move dot_code.dot (dot_on s att (row_at t i).start h n)

      gap_not : ¬ (g.kind ≡ 0) → Laid false
      gap_not z = direct_stop s t i left lines behind_dot dot_code.next dot_code.space (any_no s att (row_at t i).start sp [] z)

      module _ (z : g.kind ≡ 0) {e : ℕ} (f : Ran s g.at (ident_to s g.at) e) where
        behind_gap : At 209 g.at
        behind_gap = direct_move s t i left lines behind_dot dot_code.next dot_code.space (any_on s att (row_at t i).start sp z)

        word_not : e ≡ g.at → Laid false
        word_not v = direct_stop s t i left lines behind_gap dot_code.last dot_code.word (ident_no s att (row_at t i).start f v)

        word_is : {r : Bool} → ¬ (e ≡ g.at) → EndsAt t i j e 0 r → Laid r
        word_is v o = direct_end s t i left lines (direct_move s t i left lines behind_gap dot_code.last dot_code.word (ident_on s att (row_at t i).start f v)) 0 dot_code.fin dot_code.flag o

-- ---- what a dot and a word call for

-- past trivia that is closed
skip_to : (s : List ℕ) (q at : ℕ) (b : Bool) → when b (no Unclosed at) (to at) ≡ to q → cond b nothing (byte_at s at) ≡ byte_at s q
skip_to s q at true e = absurd (let y : ◌≡◌ {A = ℕ} 0 1 = cc in omega arith)
skip_to s q at false e = let y : at ≡ q = cc in ap (byte_at s) y

module _ (s : List ℕ) (p : ℕ) {d : ℕ} (h : Ran s p (mark_to (46 ∷ []) [] s p) d) (n : ¬ (d ≡ p)) {g : Went} (sp : Moved s d true g) (z : g.kind ≡ 0) {e : ℕ} (f : Ran s g.at (ident_to s g.at) e) (v : ¬ (e ≡ g.at)) where
  dot_here : stands (46 ∷ []) s p ≡ true
  dot_here = and_left (stands (46 ∷ []) s p) true (moved p (p + 1) (is_mark (46 ∷ []) [] s p) (λ y. n (h.is ∙ y)))

  dot_end : d ≡ p + 1
  dot_end = h.is ∙ rw dot_here

  word_here : is_start (byte_at s g.at) ≡ true
  word_here = go (is_start (byte_at s g.at)) refl
    where
      go : (b : Bool) → is_start (byte_at s g.at) ≡ b → b ≡ true
      go true y = refl
      go false y = absurd (v (f.is ∙ rw y))

  dot_calls : (lines : Bool) → FirstAt s 38 p lines true
  dot_calls lines =
      let b : byte_at s g.at ≡ byte_beyond s (gap_to true s (p + 1)) = sym (skip_to s g.at (gap_to true s (p + 1)).at (gap_to true s (p + 1)).unclosed (ap (λ (x : ℕ). skip s true x) (sym dot_end) ∙ sp.good z)) in
      first_part s p lines (omega arith) (omega arith)
      (part_attribute s p b (eqb-true (byte_at s p) 46 (sym (stands_one 46 s p refl) ∙ dot_here)) (λ y. clash (sym word_here ∙ ap is_start y)) (start_digit s (byte_at s g.at) word_here))

module _ {s t : List ℕ} {i j p : ℕ} where
  module _ (is : (row_at t i).kind ≡ 17) {e : ℕ} (h : Ran s p (ident_to s p) e) where
    pub name_no : e ≡ p → BareBy s t i j p false
    name_no z = record { laid = λ m D js left lines c. name_not s t i left lines m D js j p c is h z }

    pub name_by : {r : Bool} → ¬ (e ≡ p) → EndsAt t i j e 0 r → BareBy s t i j p r
    name_by n o = record { laid = λ m D js left lines c. name_is s t i left lines m D js j p c is h n o }

  module _ (is : (row_at t i).kind ≡ 38) {d : ℕ} (h : Ran s p (mark_to (46 ∷ []) [] s p) d) where
    dot_off : BareBy s t i j p false → DotBy s t i j p false
    dot_off x = record { bare = x; called = λ y. clash (sym y) }

    pub attribute_no : d ≡ p → DotBy s t i j p false
    attribute_no z = dot_off (record { laid = λ m D js left lines c. dot_not s t i left lines m D js j p c is h z })

    module _ (n : ¬ (d ≡ p)) {g : Went} (sp : Moved s d true g) where
      pub attribute_gap_no : ¬ (g.kind ≡ 0) → DotBy s t i j p false
      attribute_gap_no z = dot_off (record { laid = λ m D js left lines c. gap_not s t i left lines m D js j p c is h n sp z })

      module _ (z : g.kind ≡ 0) {e : ℕ} (f : Ran s g.at (ident_to s g.at) e) where
        pub attribute_word_no : e ≡ g.at → DotBy s t i j p false
        attribute_word_no v = dot_off (record { laid = λ m D js left lines c. word_not s t i left lines m D js j p c is h n sp z f v })

        pub attribute_by : {r : Bool} → ¬ (e ≡ g.at) → EndsAt t i j e 0 r → DotBy s t i j p r
        attribute_by v o = record { bare = record { laid = λ m D js left lines c. word_is s t i left lines m D js j p c is h n sp z f v o }; called = λ y lines. dot_calls s p h n sp z f v lines }
