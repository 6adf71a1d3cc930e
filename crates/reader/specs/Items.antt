-- What stands round an object's items: what ends one, the sign after a key, and the keys that may be compared.
use Rattle.std.specs.Prelude.{ℕ, suc, ◌+◌, ◌*◌, ◌-◌, ◌≤◌, ◌≡◌, Bool, true, false, cond, ◌&&◌, List, [], ◌∷◌, ◌++◌, length, take, eqb, Result, Ok, Err}
use Rattle.lexis.specs.Bytes.{byte_at, is_start}
use Rattle.lexis.specs.Word.{constant_at}
use Rattle.grammar.specs.Kinds.{Duplicate}
use Rattle.grammar.specs.Moves.{Step, to, no, then, when, skip, stopping, marks, behind_key, lone}
use Rattle.grammar.specs.Table.{record_of}
use Rattle.grammar.specs.declared.kinds.Refused.{Refused}
use Rattle.grammar.specs.Kinds.{number}
use Rattle.grammar.specs.Said.{Went, went_of}
use Rattle.lexis.specs.Keys.{among}
use Rattle.index.specs.Mark.{mark_at}
use Rattle.index.specs.Index.{starts, Indexed, Fits}
use Rattle.reader.specs.declared.items.Sign as code
use Rattle.reader.specs.Buffer.{put_at}

-- the key at p is equal to one of the slots from the first-th to before the k-th in y
abbrev pub met_in : List ℕ → List ℕ → ℕ → ℕ → ℕ → Bool
met_in s y first k p = among s (starts y first k) p

-- a key of n records at p is a lone identifier other than `null`, `true`, `false`
abbrev pub is_bare : List ℕ → ℕ → ℕ → Bool
is_bare s p n = eqb n 1 && (is_start (byte_at s p) && eqb (constant_at s p) 0)

-- its record, from p to e, is named 14
abbrev pub bared : List ℕ → List ℕ → ℕ → ℕ → ℕ → ℕ → List ℕ
bared s b i n p e = cond (is_bare s p n) (put_at b i (record_of 14 0 p e 1 (0, 0))) b

-- past what ends the item that ends at e, and any trivia: the next item or the `}`; a `}` may stand right behind an item
abbrev pub behind_item : List ℕ → ℕ → Step
behind_item s e = then (skip s false e) (λ q. when (eqb (byte_at s q) 125) (to q) (then (stopping s q) (skip s true)))

-- a mark after the key from p to e, past same-line space; `met` says whether an earlier key is equal to what the key begins with
abbrev pub sign_step : List ℕ → List (List ℕ) → Bool → List ℕ → ℕ → ℕ → Step
sign_step w longer met s p e = then (skip s false e) (λ q. then (when (eqb (behind_key s p) q && met) (no Duplicate p) (to q)) (marks s w longer))

-- `=`, and `:`
abbrev pub equals_step : Bool → List ℕ → ℕ → ℕ → Step
equals_step met s p e = sign_step (61 ∷ []) ((61 ∷ 61 ∷ []) ∷ (61 ∷ 62 ∷ []) ∷ []) met s p e

abbrev pub colon_step : Bool → List ℕ → ℕ → ℕ → Step
colon_step met s p e = sign_step (58 ∷ []) [] met s p e

-- what the sign after a key comes to, by what the two marks come to: `=`, flag 0; `:`, flag 1; or a refusal
pub data Signed (x y : Step) : ℕ → ℕ → ℕ → Type 0 where
  equals : {q : ℕ} → x ≡ to q → Signed x y 0 q 0
  colon : {k z q : ℕ} → x ≡ no k z → y ≡ to q → Signed x y 0 q 1
  neither : {k z m q : ℕ} → x ≡ no k z → y ≡ no (suc m) q → Signed x y (suc m) q 0

-- ---- what the functions say

-- a sign in numbers: kind 0, where it ends, and 1 for `:`; or the refusal and its place
pub record Sign : Type 0 where
  pub kind : ℕ
  pub at : ℕ
  pub flag : ℕ

-- the same of the code's answer
abbrev pub sign_from : Result code.Sign Refused → Sign
sign_from (Ok x) = record { kind = 0; at = x.at; flag = x.flag }
sign_from (Err e) = record { kind = number e.kind; at = e.at; flag = 0 }

-- `r` is what stands behind the item that ends at e; kind 0 says that it may stand there
pub record Behind (s : List ℕ) (e : ℕ) (r : Went) : Type 0 where
  pub is : r ≡ went_of (behind_item s e)
  pub good : r.kind ≡ 0 → behind_item s e ≡ to r.at
  pub bad : (r.kind ≡ 0 → ⊥) → behind_item s e ≡ no r.kind r.at
  pub low : e ≤ r.at
  pub high : r.at ≤ e + (length s - e)

-- `r` is the sign after the key from p to e; the earlier keys stand in the slots from the first-th to before the k-th of y
pub record SignedAt (s y : List ℕ) (first k p e : ℕ) (r : Sign) : Type 0 where
  pub is : Signed (equals_step (met_in s y first k p) s p e) (colon_step (met_in s y first k p) s p e) r.kind r.at r.flag
  pub ate : r.kind ≡ 0 → e + 1 ≤ r.at
  pub low : p ≤ e → p ≤ r.at
  pub high : p ≤ e → e ≤ length s → r.at ≤ length s
  pub small : r.flag ≤ 1

-- a key that starts at q, whose mark is m, can be put into the slot `top`; where `alone` it is one that may be compared
pub record Keeping (s y : List ℕ) (first top q m : ℕ) (alone : Bool) : Type 0 where
  pub indexed : Indexed s y first top
  pub fits : Fits y top q
  pub mark : m ≡ mark_at s q
  pub lone : alone ≡ true → lone s q ≡ true

-- the item at q is the next: its key is put into the slot `top` where it may be compared, and the slots before the first-th are as they were
pub record Keeps (s y y' : List ℕ) (first top q r : ℕ) : Type 0 where
  pub indexed : Indexed s y' first r
  pub keys : starts y' first r ≡ cond (lone s q) (starts y first top ++ q ∷ []) (starts y first top)
  pub next : r ≡ cond (lone s q) (top + 1) top
  pub same : take (4 * first) y' ≡ take (4 * first) y
  pub long : length y' ≡ length y

pub record Baring (p e : ℕ) : Type 0 where
  pub from : p ≤ 65535
  pub to : e ≤ 65535
