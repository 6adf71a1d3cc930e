-- What the small functions behind the leaves promise.
use Rattle.std.specs.Prelude.{ℕ, zero, suc, ◌+◌, ◌-◌, ◌/◌, ◌%◌, ◌≤◌, ◌≡◌, Bool, false, cond, ◌&&◌, List, [], ◌∷◌, get_or, eqb, ltb, Option, Some, None}
use Rattle.std.specs.Bool.{then_some}
use Rattle.std.proofs.Math.Option.{none, some}
use Rattle.lexis.specs.declared.string.Run.{Run}
use Rattle.lexis.specs.Bytes.{stands}
use Rattle.lexis.specs.Trivia.{Stopping, Stopped}
use Rattle.lexis.specs.String.{text_at, mode_of}
use Rattle.grammar.specs.Moves.{Under, Step, to, place, keys_of, Move, walk}
use Rattle.grammar.specs.Said.{Went, went, Moved}
use Rattle.checker.specs.declared.moves.Signed.{Signed}
use Rattle.checker.specs.declared.moves.Onward.{Onward}
use Rattle.checker.specs.declared.moves.Onward.TheVariants.{Next, Closed}
use Rattle.checker.specs.declared.row.Row.{Row}
use Rattle.checker.specs.Rows.{row_at}
use Rattle.checker.specs.Program.{own, own_move}

-- ---- the program

-- the k-th instruction of the checker's own; 0 past the last
abbrev pub word_in : ℕ → ℕ
word_in k = get_or own k 0

-- by kind: how tightly it binds and, in the bits behind that, where it may stand: as an expression, a name, a part, a condition, an item, a key
abbrev pub seats : List ℕ
seats =
    0 ∷ 537 ∷ 537 ∷ 537 ∷ 537 ∷ 25 ∷ 537 ∷ 537 ∷ 537 ∷ 9 ∷ 9 ∷ 537 ∷ 537 ∷ 265 ∷ 521 ∷ 537 ∷ 537
    ∷ 41 ∷ 537 ∷ 537 ∷ 137 ∷ 529 ∷ 537 ∷ 537 ∷ 535 ∷ 535 ∷ 535 ∷ 534 ∷ 534 ∷ 533 ∷ 533 ∷ 533 ∷ 533
    ∷ 532 ∷ 532 ∷ 531 ∷ 530 ∷ 536 ∷ 73 ∷ 73 ∷ 73 ∷ 73 ∷ 73 ∷ []

-- 0 for what is no kind
abbrev pub seat_of : ℕ → ℕ
seat_of k = get_or seats k 0

-- the bit of a want's number
abbrev pub bit_of : ℕ → ℕ
bit_of zero = 16
bit_of (suc zero) = 32
bit_of (suc (suc zero)) = 64
bit_of (suc (suc (suc zero))) = 128
bit_of (suc (suc (suc (suc zero)))) = 256
bit_of (suc (suc (suc (suc (suc n))))) = 512

abbrev pub sits_as : ℕ → ℕ → Bool
sits_as w x = eqb (x / bit_of w % 2) 1

-- ---- moves

-- `r` is past a token from p to e, which is p where none stands
pub record Past (p e : ℕ) (r : Went) : Type 0 where
  pub good : r.kind ≡ 0 → ¬ (e ≡ p) × (r.at ≡ e)
  pub bad : ¬ (r.kind ≡ 0) → e ≡ p

-- `r` is what a step comes to; kind 0: it can be made
pub record Comes (x : Step) (r : Went) : Type 0 where
  pub good : r.kind ≡ 0 → x ≡ to r.at
  pub bad : ¬ (r.kind ≡ 0) → place x ≡ none

-- `r` is a move from p, in any node that is handed no keys
pub record Goes (s : List ℕ) (m : Move) (p : ℕ) (r : Went) : Type 0 where
  pub good : r.kind ≡ 0 → (b : Under) (σ : ℕ) → keys_of b.want ≡ [] → place (walk s b σ m p) ≡ some r.at
  pub bad : ¬ (r.kind ≡ 0) → (b : Under) (σ : ℕ) → keys_of b.want ≡ [] → place (walk s b σ m p) ≡ none

-- `r` is one of two moves from p: kind 0 for the first, 1 for the second where the first can't be made, more for neither
pub record OneBy (s : List ℕ) (m n : Move) (p : ℕ) (r : Went) : Type 0 where
  pub first : r.kind ≡ 0 → Goes s m p (went 0 r.at)
  pub second : r.kind ≡ 1 → Goes s m p (went 1 p) × Goes s n p (went 0 r.at)
  pub neither : ¬ (r.kind ≤ 1) → Goes s m p (went 1 p) × Goes s n p (went 1 p)

-- a sign behind p as a step, whose kind is the flag; 2 for none
abbrev pub sign_from : ℕ → Option Signed → Went
sign_from p None = went 2 p
sign_from p (Some x) = went x.flag x.at

-- what comes behind p as a step: kind 0 for the next item, 1 for past the `}`, 2 for neither
abbrev pub after_from : ℕ → Option Onward → Went
after_from p None = went 2 p
after_from p (Some (Next q)) = went 0 q
after_from p (Some (Closed q)) = went 1 q

-- past the sign of an item whose key ends at p: `=`, or `:`
abbrev pub SignBy : List ℕ → ℕ → Went → Type 0
SignBy s p r = OneBy s (own_move 2) (own_move 3) p r

-- behind an item that ends at p: to the next one, or past the `}`
abbrev pub AfterBy : List ℕ → ℕ → Went → Type 0
AfterBy s p r = OneBy s (own_move 4) (own_move 5) p r

-- behind the same-line space from p on no `}` stands but what ends an item, and q is behind that
pub record EndedTo (s : List ℕ) (p q : ℕ) : Type 0 where
  pub gap : Went
  pub moved : Moved s p false gap
  pub made : gap.kind ≡ 0
  pub opened : stands (125 ∷ []) s gap.at ≡ false
  pub stop : Stopping
  pub stopped : Stopped s gap.at stop
  pub ends : stop.how ≡ 1
  pub at : stop.at ≡ q

-- ---- rows

-- `r` is the number at a place of a table
pub record Cell (t : List ℕ) (i r : ℕ) : Type 0 where
  pub is : r ≡ get_or t i 0
  pub small : r ≤ 65535

-- `r` is the i-th row
pub record RowHere (t : List ℕ) (i : ℕ) (r : Row) : Type 0 where
  pub kind : r.kind ≡ (row_at t i).kind
  pub flag : r.flag ≡ (row_at t i).flag
  pub start : r.start ≡ (row_at t i).start
  pub end : r.end ≡ (row_at t i).end
  pub count : r.count ≡ (row_at t i).count
  pub from : r.from ≡ (row_at t i).from
  pub length : r.length ≡ (row_at t i).length
  -- its numbers have sixteen bits
  pub starts : r.start ≤ 65535
  pub ends : r.end ≤ 65535
  pub begins : r.from ≤ 65535
  pub short : r.length ≤ 65535

-- ---- text numbers

-- those of a string or a piece, whose text without an escape is the b bytes of the source from a on; with one it ends where u bytes are used
abbrev pub used_by : ℕ → ℕ → ℕ → ℕ → ℕ → ℕ → Option ℕ
used_by flag from n a b u = cond (eqb flag 1) (cond (ltb u n) None (then_some (eqb from (u - n)) (u - n))) (then_some (eqb from a && eqb n b) u)

-- ---- text

-- `r` says whether the unescaped text of the run from p, which ends at `end`, stands in a text from a place on; in quoted text (q), or in a heredoc
pub record Spells (s : List ℕ) (q : Bool) (p end : ℕ) (text : List ℕ) (at : ℕ) (r : Bool) : Type 0 where
  pub is : (d e : ℕ) → end ≡ p + (text_at (mode_of s q d e) s p).width → r ≡ stands (text_at (mode_of s q d e) s p).bytes text at

-- `x` says whether a row's flag says of the run t from p whether it is escaped, and where it is, its text stands in the text buffer where the row says
pub record Told (s text : List ℕ) (p : ℕ) (q : Bool) (t : Run) (r : Row) (x : Bool) : Type 0 where
  pub is : (d e : ℕ) → t.end ≡ p + (text_at (mode_of s q d e) s p).width
      → x ≡ cond t.escaped (eqb r.flag 1 && (eqb r.length t.length && stands (text_at (mode_of s q d e) s p).bytes text r.from)) (eqb r.flag 0)
