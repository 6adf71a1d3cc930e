-- The rule at one row: what the code of it promises.
use Rattle.std.specs.Prelude.{ℕ, suc, ◌+◌, ◌*◌, ◌%◌, ◌≤◌, ◌<◌, ◌≡◌, List, map, Bool, true, false, ◌⊎◌, length, get_or, T, eqb, Option, Some, None}
use Rattle.lexis.specs.String.{quoted}
use Rattle.engine.specs.Base.{has}
use Rattle.engine.specs.Rule.{Kids}
use Rattle.grammar.specs.Kinds.{tight_of, hold_of}
use Rattle.grammar.specs.Moves.{an_expression, round}
use Rattle.grammar.specs.Hcl.{under, follow_at}
use Rattle.grammar.specs.Said.{kind_of}
use Rattle.grammar.specs.Published.{Depth, Laid, Rule}
use Rattle.checker.specs.Rows.{row_at, rows, rec_at}
use Rattle.checker.specs.Family.{Chain}
use Rattle.checker.specs.Leaf.{kinds_by, read_as, Spelt}
use Rattle.checker.specs.Lay.{coded, depths_at, Operates}
use Rattle.checker.specs.Texts.{Sanes, Spelts}

-- what the code of a text asks for at the row i
pub record Heading (s t : List ℕ) (i : ℕ) (m D : List ℕ) : Type 0 where
  pub short : length s ≤ 65535
  pub within : 7 * i + 7 ≤ length t
  pub small : i ≤ 65535
  pub marked : i < length m
  pub deep : i < length D

-- what any other asks for, whose own depth is `own`: a slot for the keys of an object too
pub record Noding (s t : List ℕ) (i : ℕ) (m D K : List ℕ) (own : ℕ) : Type 0 where
  pub short : length s ≤ 65535
  pub within : 7 * i + 7 ≤ length t
  pub small : i ≤ 65535
  pub marked : i < length m
  pub deep : i < length D
  pub keyed : 4 * i + 4 ≤ length K

-- the kinds without literal text
abbrev pub NoText : ℕ → Type 0
NoText k = (k ≡ 6 → ⊥) × (k ≡ 7 → ⊥) × (k ≡ 8 → ⊥) × (k ≡ 9 → ⊥)

-- the text of a string
abbrev pub Worded : List ℕ → List ℕ → List ℕ → ℕ → Type 0
Worded s text t i = (row_at t i).kind ≡ 6 → Spelt quoted s text ((row_at t i).start + 1) (row_at t i)

-- `r` says whether the rule holds at the row i, of any kind but a piece, over the children that are linked from the row j on; then their depths
-- are put down
pub record RuleBy (s text t : List ℕ) (i : ℕ) (m D D' : List ℕ) (j own : ℕ) (r : Bool) : Type 0 where
  pub long : length D' ≡ length D
  pub same : (x : ℕ) → x < j → get_or D' x 0 ≡ get_or D x 0
  pub rule : r ≡ true → (js : List ℕ) → Chain m i js j → Laid s (coded own) (rec_at t i) (map (rec_at t) js) (depths_at D' js)
  pub spelt : r ≡ true → (js : List ℕ) → Chain m i js j → Spelts s text t (round s (row_at t i).start) js
  pub word : r ≡ true → Worded s text t i
  pub only : r ≡ true → (js : List ℕ) → Chain m i js j → (ds : List Depth) → Laid s (coded own) (rec_at t i) (map (rec_at t) js) ds → depths_at D' js ≡ ds
  pub no : r ≡ false → (js : List ℕ) → Chain m i js j → Sanes s text t (round s (row_at t i).start) js → Worded s text t i → (ds : List Depth) → Laid s (coded own) (rec_at t i) (map (rec_at t) js) ds → ⊥

-- a kind that may be a word's or a number's; a bare key is a word
abbrev pub Token : ℕ → Type 0
Token k = (k ≤ 5) ⊎ (k ≡ 14)

-- `r` says whether the row i is read as the kind k, ends at e and has the flag 0
pub record TokenAt (t : List ℕ) (i k e : ℕ) (r : Bool) : Type 0 where
  pub yes : r ≡ true → (read_as (row_at t i).kind ≡ k) × ((row_at t i).end ≡ e) × ((row_at t i).flag ≡ 0)
  pub no : r ≡ false → read_as (row_at t i).kind ≡ k → (row_at t i).end ≡ e → (row_at t i).flag ≡ 0 → ⊥

-- whether one look tells of a row, and what
pub record Look : Type 0 where
  pub sure : Bool
  pub yes : Bool

-- the same as the code has it
abbrev pub look_from : Option Bool → Look
look_from None = record { sure = false; yes = false }
look_from (Some y) = record { sure = true; yes = y }

-- `r` says of the row i, which has no children and is no piece, whether the rule holds at it, where it is sure
pub record SingleBy (s t : List ℕ) (i : ℕ) (lines : Bool) (r : Look) : Type 0 where
  pub other : r.sure ≡ true → (row_at t i).kind ≡ 9 → ⊥
  pub rule : r.sure ≡ true → (own : ℕ) → lines ≡ eqb (own % 2) 1 → (text m D : List ℕ) → RuleBy s text t i m D D i own r.yes

-- `r` says whether the row l may be the left operand of the row i, in a mode: it starts where that does, is an expression that holds against the
-- operator, and the operator follows it
pub record LeftAt (s t : List ℕ) (i l : ℕ) (lines : Bool) (r : Bool) : Type 0 where
  pub start : r ≡ true → (row_at t l).start ≡ (row_at t i).start
  pub follows : r ≡ true → (left : ℕ) → (row_at t i).kind ≡ kind_of (follow_at s (under left lines an_expression) (row_at t l).end)
  pub holds : r ≡ true → tight_of (row_at t i).kind ≤ hold_of (row_at t l).kind
  pub kind : r ≡ true → T (has (kinds_by 0) (row_at t l).kind)
  pub no : r ≡ false → (row_at t l).start ≡ (row_at t i).start → (row_at t l).start < (row_at t l).end → ((left : ℕ) → (row_at t i).kind ≡ kind_of (follow_at s (under left lines an_expression) (row_at t l).end))
      → tight_of (row_at t i).kind ≤ hold_of (row_at t l).kind → T (has (kinds_by 0) (row_at t l).kind) → ⊥

-- whether a row may be a left operand, and where the binary operator behind it ends
pub record Left : Type 0 where
  pub good : Bool
  pub end : ℕ

abbrev pub no_left : Left
no_left = record { good = false; end = 0 }

-- the same as the code has it
abbrev pub left_from : Option ℕ → Left
left_from None = no_left
left_from (Some e) = record { good = true; end = e }

-- `r` says the same; its end is that of the binary operator where one follows, else the operand's
pub record LeftTo (s t : List ℕ) (i l : ℕ) (lines : Bool) (r : Left) : Type 0 where
  pub left : LeftAt s t i l lines r.good
  pub operates : r.good ≡ true → ¬ (r.end ≡ (row_at t l).end) → Operates s t i lines (row_at t l).end r.end

-- `r` says whether the rule holds at the row i, of any kind, over the children that its counts give; then their depths are put down
pub record NodeBy (s text t : List ℕ) (i : ℕ) (D D' : List ℕ) (r : Bool) : Type 0 where
  pub long : length D' ≡ length D
  pub lo : ℕ
  pub kids : List ℕ
  pub tiles : r ≡ true → lo + (row_at t i).count ≡ suc i
  pub split : r ≡ true → Kids (rows t) lo i kids
  pub same : r ≡ true → (x : ℕ) → x < lo → get_or D' x 0 ≡ get_or D x 0
  pub rule : r ≡ true → Rule s (coded (get_or D i 0)) (rec_at t i) (map (rec_at t) kids) (depths_at D' kids)
  pub spelt : r ≡ true → Spelts s text t (round s (row_at t i).start) kids
  pub word : r ≡ true → Worded s text t i
  pub only : r ≡ true → (ds : List Depth) → Rule s (coded (get_or D i 0)) (rec_at t i) (map (rec_at t) kids) ds → depths_at D' kids ≡ ds
  pub no : r ≡ false → (lo' : ℕ) (js : List ℕ) → lo' + (row_at t i).count ≡ suc i → Kids (rows t) lo' i js → ((j : ℕ) → j < i → 1 ≤ (row_at t j).count) → Sanes s text t (round s (row_at t i).start) js → Worded s text t i
      → (ds : List Depth) → Rule s (coded (get_or D i 0)) (rec_at t i) (map (rec_at t) js) ds → ⊥
