-- What the code of this crate promises, in records with named parts.
use Rattle.std.specs.Prelude as prelude
use Rattle.std.specs.Prelude.{ℕ, zero, suc, ◌+◌, ◌-◌, ◌*◌, ◌≤◌, ◌≡◌, List, [], ◌∷◌, Bool, true, false, cond, not, ◌||◌, length, get_or, T, eqb, Result, Ok, Err}
use Rattle.std.proofs.Math.Option.{Option, none, some}
use Rattle.lexis.specs.Bytes.{nothing, byte_at, stands}
use Rattle.lexis.specs.Trivia.{Gap, gap_to}
use Rattle.lexis.specs.Word.{null, yes, ident_to, is_word, for_to}
use Rattle.lexis.specs.Word as words
use Rattle.lexis.specs.Operator.{is_mark, equals_to}
use Rattle.lexis.specs.String.{quoted, text_at}
use Rattle.engine.specs.Base.{Rec, has}
use Rattle.grammar.specs.declared.kinds.Refused.{Refused}
use Rattle.grammar.specs.Kinds.{number}
use Rattle.grammar.specs.declared.shape.Instr.{Instr}
use Rattle.grammar.specs.declared.shape.Child as code
use Rattle.grammar.specs.declared.shape.Want as code_want
use Rattle.grammar.specs.declared.shape.Want.TheVariants as wants
use Rattle.grammar.specs.Moves.{Want, an_expression, a_name, a_part, a_condition, Under, Step, to, no, when, unexpected, level, skip, Atom, atom, walk}
use Rattle.grammar.specs.Hcl.{beyond, is_broken, pick_at, follow_at, under, downs, bounds, styles}
use Rattle.grammar.specs.Code.{atoms, move_at, code, operation, argument, class, otherwise, class_of}
use Rattle.grammar.specs.Thrift.{takes, eaten}

-- ---- the program

-- the classes that the program names, as numbers: the right operands are 16 and the tightness of the operator
abbrev pub classes : List ℕ
classes = 0 ∷ 1 ∷ 4 ∷ 5 ∷ 9 ∷ 10 ∷ 12 ∷ 18 ∷ 19 ∷ 20 ∷ 21 ∷ 22 ∷ 23 ∷ []

-- `r` is the instruction at pc, as one number; past the program's end it is 0
pub record Worded (pc r : ℕ) : Type 0 where
  pub is : r ≡ code pc
  pub here : r ≤ 4294967295 * (228 - pc)

-- `r` is the instruction at pc. What is no 0 stands within the program, and every class is one of `classes`
pub record Instructed (pc : ℕ) (r : Instr) : Type 0 where
  pub op : r.op ≡ operation (code pc)
  pub arg : r.arg ≡ argument (code pc)
  pub class : r.class ≡ class (code pc)
  pub next : r.next ≡ otherwise (code pc)
  pub here : r.op ≤ 255 * (228 - pc)
  pub known : T (has classes r.class)
  pub short : r.arg ≤ 255
  pub near : r.next ≤ 255

-- what is wanted, as a number
abbrev pub want_of : ℕ → Want
want_of zero = an_expression
want_of (suc zero) = a_name
want_of (suc (suc zero)) = a_part
want_of (suc (suc (suc n))) = a_condition

-- what a child is under, with what is wanted as a number
pub record Child : Type 0 where
  pub left : ℕ
  pub lines : Bool
  pub bound : ℕ
  pub want : ℕ

-- the same as the code has it
abbrev pub wanted : code_want.Want → ℕ
wanted wants.Expression = 0
wanted wants.Name = 1
wanted wants.Part = 2
wanted wants.Condition = 3
wanted wants.Item = 4
wanted wants.Key = 5

abbrev pub child_from : code.Child → Child
child_from r = record { left = r.left; lines = r.lines; bound = r.bound; want = wanted r.want }

-- `r` is what a child of the class is under, in a node that is under `left` and `lines`
pub record ChildOf (c left : ℕ) (lines : Bool) (r : Child) : Type 0 where
  pub down : (s : List ℕ) (w : Want) (σ : ℕ) (ks : List (Rec ℕ)) → downs s (under left lines w) (class_of c) σ ks ≡ under r.left r.lines (want_of r.want)
  pub bound : bounds (class_of c) ≡ r.bound
  pub plain : styles (class_of c) ≡ 0
  pub fewer : r.left ≤ left
  pub small : T (has classes c) → r.bound ≤ 8
  pub loose : T (has classes c) → r.want ≡ 0 → r.bound ≤ 7
  pub known : r.want ≤ 3

-- ---- moves

-- a step in numbers: kind 0 and the place, or the refusal and its place
pub record Went : Type 0 where
  pub kind : ℕ
  pub at : ℕ

abbrev pub went : ℕ → ℕ → Went
went k q = record { kind = k; at = q }

-- the same of the code's answers
abbrev pub refused : Refused → Went
refused e = went (number e.kind) e.at

abbrev pub went_from : Result ℕ Refused → Went
went_from (Ok q) = went 0 q
went_from (Err e) = refused e

abbrev pub went_of : Step → Went
went_of (to q) = went 0 q
went_of (no k q) = went k q

-- `r` is the step from p, whatever the node's start and what is wanted. Kind 0 says that it can be made, and then it takes n bytes at least.
-- Its place is not before p, is within the source where p is, and is p itself where p is not
pub record Does (s : List ℕ) (p n : ℕ) (f : ℕ → Want → Step) (r : Went) : Type 0 where
  pub is : (σ : ℕ) (w : Want) → r ≡ went_of (f σ w)
  pub good : r.kind ≡ 0 → (σ : ℕ) (w : Want) → f σ w ≡ to r.at
  pub bad : (r.kind ≡ 0 → ⊥) → (σ : ℕ) (w : Want) → f σ w ≡ no r.kind r.at
  pub low : p ≤ r.at
  pub high : r.at ≤ p + (length s - p)
  pub ate : r.kind ≡ 0 → p + n ≤ r.at

-- `r` is an atom; the move whose atoms begin at a
abbrev pub Made : List ℕ → ℕ → Bool → Atom → ℕ → Went → Type 0
Made s left lines x p r = Does s p (takes x) (λ σ w. atom s (under left lines w) σ x p) r

abbrev pub Walked : List ℕ → ℕ → Bool → ℕ → ℕ → Went → Type 0
Walked s left lines a p r = Does s p (eaten (move_at a)) (λ σ w. walk s (under left lines w) σ (move_at a) p) r

-- `r` is the trivia from p
pub record Moved (s : List ℕ) (p : ℕ) (lines : Bool) (r : Went) : Type 0 where
  pub is : r ≡ went_of (skip s lines p)
  pub good : r.kind ≡ 0 → skip s lines p ≡ to r.at
  pub bad : (r.kind ≡ 0 → ⊥) → skip s lines p ≡ no r.kind r.at
  pub low : p ≤ r.at
  pub high : r.at ≤ p + (length s - p)

-- `r` is an atom that turns on nothing but the source
pub record Plain (s : List ℕ) (x : Atom) (p : ℕ) (r : Went) : Type 0 where
  pub is : (b : Under) (σ : ℕ) → r ≡ went_of (atom s b σ x p)

-- `r` is an atom that turns on the levels left and the mode too
pub record Placed (s : List ℕ) (left : ℕ) (lines : Bool) (x : Atom) (p : ℕ) (r : Went) : Type 0 where
  pub is : (σ : ℕ) (w : Want) → r ≡ went_of (atom s (under left lines w) σ x p)

-- by a token's end e, which is p where none stands: past it, where a level is left; or staying before it
abbrev pub opened : List ℕ → ℕ → ℕ → ℕ → Step
opened s left p e = when (eqb e p) (unexpected s p) (level left p (to e))

abbrev pub stayed : List ℕ → ℕ → ℕ → Step
stayed s p e = when (eqb e p) (unexpected s p) (to p)

-- the mode of the trivia that an argument names
abbrev pub lines_of : ℕ → Bool → Bool
lines_of x lines = cond (eqb x 0) true (cond (eqb x 1) false lines)

-- `r` is an atom's number; past the last of them it is 0
pub record Numbered (a r : ℕ) : Type 0 where
  pub is : r ≡ get_or atoms a 0
  pub here : r ≤ 65535 * (146 - a)

-- ---- picks

-- a kind as the code has it: 0 for none
abbrev pub kind_of : Option ℕ → ℕ
kind_of none = 0
kind_of (some k) = k

-- the same of the code's answer
abbrev pub kind_from : prelude.Option ℕ → ℕ
kind_from prelude.None = 0
kind_from (prelude.Some k) = k

-- `r` is the kind that a place calls for under a want; that may follow an operand. The levels left do not matter, nor does the mode for a part
abbrev pub TermAt : List ℕ → ℕ → Bool → ℕ → Type 0
TermAt s p lines r = (left : ℕ) → r ≡ kind_of (pick_at s (under left lines an_expression) p)

abbrev pub PartAt : List ℕ → ℕ → ℕ → Type 0
PartAt s p r = (left : ℕ) (lines : Bool) → r ≡ kind_of (pick_at s (under left lines a_part) p)

abbrev pub Follow : List ℕ → ℕ → Bool → ℕ → Type 0
Follow s p lines r = (left : ℕ) → r ≡ kind_of (follow_at s (under left lines an_expression) p)

-- the byte behind trivia; `nothing` where a comment in it is unclosed
abbrev pub byte_beyond : List ℕ → Gap → ℕ
byte_beyond s g = cond g.unclosed nothing (byte_at s g.at)

-- an identifier that ends at e is followed, past the trivia of a mode, by `(` or `::`
abbrev pub calls_at : List ℕ → Bool → ℕ → Bool
calls_at s lines e = beyond (gap_to lines s e) (λ q. eqb (byte_at s q) 40 || stands (58 ∷ 58 ∷ []) s q)

-- the kind that an identifier at p begins
abbrev pub word_kind : List ℕ → Bool → ℕ → ℕ
word_kind s lines p = cond (calls_at s lines (ident_to s p)) 16 (cond (is_word null s p) 1 (cond (is_word yes s p) 2 (cond (is_word words.no s p) 3 5)))

-- a `for` that commits stands behind the trivia from q
abbrev pub for_beyond : List ℕ → ℕ → Bool
for_beyond s q = beyond (gap_to true s q) (λ e. not (eqb (for_to s e) e))

-- quoted text from q ends at an interpolation
abbrev pub broken_at : List ℕ → ℕ → Bool
broken_at s q = is_broken (text_at quoted s q).why

-- `:`, but not `::`
abbrev pub colon_at : List ℕ → ℕ → Bool
colon_at s q = is_mark (58 ∷ []) ((58 ∷ 58 ∷ []) ∷ []) s q

-- a sign: `=`, but neither `=>` nor `==`; or `:`, but not `::`
abbrev pub sign_at : List ℕ → ℕ → Bool
sign_at s q = not (eqb (equals_to s q) q) || colon_at s q
