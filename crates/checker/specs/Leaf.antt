-- What the leaves of the checker promise: each tests one thing of the rule (grammar's Published).
use Rattle.grammar.specs.Said.{Child, Went}
use Rattle.std.specs.Prelude.{ℕ, zero, suc, ◌+◌, ◌≤◌, ◌<◌, ◌≡◌, List, [], ◌∷◌, Bool, true, false, cond, ◌&&◌, ◌||◌, length, take, drop, eqb, leb, Option, Some, None}
use Rattle.std.proofs.Math.Option.{none, some}
use Rattle.lexis.specs.Bytes.{stands}
use Rattle.lexis.specs.String.{Mode, quoted, text_at}
use Rattle.engine.specs.Base.{Rec}
use Rattle.engine.specs.Layout.{named}
use Rattle.engine.specs.Rule.{Local}
use Rattle.grammar.specs.declared.shape.Instr.{Instr}
use Rattle.grammar.specs.Moves.{Want, an_expression, Under, place, walk, keys_of}
use Rattle.grammar.specs.Layouts.{entry}
use Rattle.grammar.specs.Hcl.{hcl, under, downs, bounds, styles, pick_at}
use Rattle.grammar.specs.Code.{operation, argument, class, otherwise}
use Rattle.grammar.specs.Table.{Record, span}
use Rattle.grammar.specs.Published.{kinds_of, want_of, style_of, More, taken, row_of}
use Rattle.checker.specs.Program.{code_in, move_in, class_in}

-- ---- the program

-- `r` is the instruction at pc
pub record InstrAt (pc : ℕ) (r : Instr) : Type 0 where
  pub op : r.op ≡ operation (code_in pc)
  pub arg : r.arg ≡ argument (code_in pc)
  pub class : r.class ≡ class (code_in pc)
  pub next : r.next ≡ otherwise (code_in pc)
  pub near : r.next ≤ 255

-- the kinds that may stand where something is wanted, as a number: an expression, a name, a part, a condition, an item; 5 is a key
abbrev pub kinds_by : ℕ → List ℕ
kinds_by zero = kinds_of an_expression 0
kinds_by (suc zero) = 17 ∷ []
kinds_by (suc (suc zero)) = 38 ∷ 39 ∷ 40 ∷ 41 ∷ 42 ∷ []
kinds_by (suc (suc (suc zero))) = 20 ∷ []
kinds_by (suc (suc (suc (suc zero)))) = 13 ∷ []
kinds_by (suc (suc (suc (suc (suc n))))) = kinds_of an_expression 1

-- `r` is what a child of the class c is under, in a node with n levels left, where a line end may stand or not (l)
pub record ChildAt (c n : ℕ) (l : Bool) (r : Child) : Type 0 where
  pub left : (s : List ℕ) (w : Want) (σ : ℕ) (ks : List (Rec ℕ)) → (downs s (under n l w) (class_in c) σ ks).left ≡ r.left
  pub lines : (s : List ℕ) (w : Want) (σ : ℕ) (ks : List (Rec ℕ)) → (downs s (under n l w) (class_in c) σ ks).lines ≡ r.lines
  pub bound : bounds (class_in c) ≡ r.bound
  pub kinds : (s : List ℕ) (w : Want) (σ : ℕ) (ks : List (Rec ℕ)) → kinds_of (downs s (under n l w) (class_in c) σ ks).want (styles (class_in c)) ≡ kinds_by r.want
  -- only of an item more is asked than its kind
  pub item : r.want ≡ 4 → class_in c ≡ entry
  pub plain : ¬ (r.want ≡ 4) → (s : List ℕ) (w : Want) (σ : ℕ) (ks : List (Rec ℕ)) (x : Rec ℕ) → More s (downs s (under n l w) (class_in c) σ ks).want x
  pub fewer : r.left ≤ n

-- ---- moves

-- `r` is the move with the number a from p, in a node that is handed no keys; kind 0: it can be made
pub record GoneAt (s : List ℕ) (left : ℕ) (lines : Bool) (a p : ℕ) (r : Went) : Type 0 where
  pub good : r.kind ≡ 0 → (σ : ℕ) (w : Want) → keys_of w ≡ [] → place (walk s (under left lines w) σ (move_in a) p) ≡ some r.at
  pub bad : ¬ (r.kind ≡ 0) → (σ : ℕ) (w : Want) → keys_of w ≡ [] → place (walk s (under left lines w) σ (move_in a) p) ≡ none

-- ---- kinds

-- the kinds that grow from an operand
abbrev pub is_grown : ℕ → Bool
is_grown k = eqb k 21 || (leb 24 k && leb k 37)

-- a bare key is read as a variable
abbrev pub read_as : ℕ → ℕ
read_as k = cond (eqb k 14) 5 k

-- `r` says whether the bytes at p call for a node of the kind k, that does not grow from an operand
pub record FirstAt (s : List ℕ) (k p : ℕ) (lines : Bool) (r : Bool) : Type 0 where
  pub yes : r ≡ true → (left : ℕ) → pick_at s (under left lines (want_of k)) p ≡ some (read_as k)
  pub no : r ≡ false → (left x : ℕ) → named (hcl s) (style_of k) x ≡ k → pick_at s (under left lines (want_of k)) p ≡ some x → ⊥

-- ---- text

-- the text of a record with flag 1, of a run from p, stands in the text buffer where the record says
pub record Spelt (m : Mode) (s text : List ℕ) (p : ℕ) (r : Record) : Type 0 where
  pub long : r.flag ≡ 1 → r.length ≡ length (text_at m s p).bytes
  pub bytes : r.flag ≡ 1 → take r.length (drop r.from text) ≡ (text_at m s p).bytes

-- the text numbers of a record, u bytes of text being used before it
abbrev pub Placed : ℕ → Record → Type 0
Placed u r = (r.from, r.length) ≡ span r.kind r.flag r.start r.end u r.length

-- whether a record's text numbers are right, and how many bytes of text are used before it
pub record Used : Type 0 where
  pub good : Bool
  pub before : ℕ

abbrev pub used : Bool → ℕ → Used
used g v = record { good = g; before = v }

-- the same as the code has it
abbrev pub used_from : Option ℕ → Used
used_from None = used false 0
used_from (Some v) = used true v

-- `x` says whether the text numbers of the record r are right, u bytes of text being used up to it and with it; and how many before it
pub record Columns (r : Record) (u : ℕ) (x : Used) : Type 0 where
  pub yes : x.good ≡ true → (x.before + taken r ≡ u) × Placed x.before r
  pub no : x.good ≡ false → (v : ℕ) → v + taken r ≡ u → Placed v r → ⊥

-- a piece of the text round it: "a longest run of literal text, never empty"
pub record PieceBy (m : Mode) (s : List ℕ) (r : Record) : Type 0 where
  pub text : stands (36 ∷ 123 ∷ []) s r.start ≡ false
  pub some : r.start < r.end
  pub end : r.end ≡ r.start + (text_at m s r.start).width
  pub flag : r.flag ≡ cond (text_at m s r.start).escaped 1 0

-- `x` says whether the record r is such a piece, and its text stands where it says
pub record PieceAt (m : Mode) (s text : List ℕ) (r : Record) (x : Bool) : Type 0 where
  pub yes : x ≡ true → PieceBy m s r × Spelt m s text r.start r
  pub no : x ≡ false → PieceBy m s r → Spelt m s text r.start r → ⊥

-- `x` says whether the record r, of kind 6 and with no children, is the string at its start, and its text stands where it says
pub record StringAt (s text : List ℕ) (r : Record) (x : Bool) : Type 0 where
  pub yes : x ≡ true → (left : ℕ) (lines : Bool) → Local (hcl s) (under left lines an_expression, 0) (row_of r).rec [] []
  pub spelt : x ≡ true → Spelt quoted s text (r.start + 1) r
  pub no : x ≡ false → (left : ℕ) (lines : Bool) (bs : List (Under × ℕ)) → Local (hcl s) (under left lines an_expression, 0) (row_of r).rec [] bs → Spelt quoted s text (r.start + 1) r → ⊥
