-- What `head_at` and `next_at` promise: besides the kind, the end of a token that is a whole node, and the end of a binary operator.
use Rattle.std.specs.Prelude.{ℕ, ◌+◌, ◌-◌, ◌≤◌, ◌<◌, ◌≡◌, List, [], ◌∷◌, Bool, true, false, cond, length, eqb, None, Some, IfSome, Option}
use Rattle.lexis.specs.Bytes.{is_start, byte_at}
use Rattle.lexis.specs.Word.{constant_at}
use Rattle.lexis.specs.Operator.{equals_to, is_mark}
use Rattle.lexis.specs.Keys.{key_to}
use Rattle.engine.specs.Layout.{fin, move, fork}
use Rattle.grammar.specs.declared.picks.Head.{Head}
use Rattle.grammar.specs.declared.picks.Key.{Key}
use Rattle.grammar.specs.Kinds.{tight_of}
use Rattle.grammar.specs.Moves.{Want, Under, to, no, walk, skip, behind_key, lone, Move, gap, operator, here}
use Rattle.grammar.specs.Layouts.{Layout, layout_of, operator_lay}
use Rattle.grammar.specs.Hcl.{under}
use Rattle.grammar.specs.Said.{TermAt, Follow}

abbrev pub head_of : ℕ → ℕ → Head
head_of k e = record { kind = k; end = e }

-- the production of the kind k goes from p to e by bytes alone and ends there with flag 0, whatever it is under: by one move, or by one where another can't be made
pub data Alone (s : List ℕ) (p k e : ℕ) : Type 0 where
  word : (m : Move) → layout_of k ≡ move m (fin 0) → ((b : Under) (σ : ℕ) → walk s b σ m p ≡ to e) → Alone s p k e
  digits : (m n : Move) (l : Layout) (y z : ℕ) → layout_of k ≡ fork m l (move n (fin 0)) → ((b : Under) (σ : ℕ) → walk s b σ m p ≡ no y z) → ((b : Under) (σ : ℕ) → walk s b σ n p ≡ to e) → Alone s p k e

-- `r` is the term that p calls for, and where its end is not p it is a token alone, which ends there
pub record HeadAt (s : List ℕ) (p : ℕ) (lines : Bool) (r : Head) : Type 0 where
  pub kind : TermAt s p lines r.kind
  pub alone : (r.end ≡ p → ⊥) → Alone s p r.kind r.end
  pub some : (r.end ≡ p → ⊥) → 1 ≤ r.kind
  pub small : (r.end ≡ p → ⊥) → r.kind ≤ 5
  pub low : p ≤ r.end
  pub high : r.end ≤ p + (length s - p)

-- `r` is what may follow an operand that ends at p, and where its end is not p it is a binary operator, which ends there
pub record NextAt (s : List ℕ) (p : ℕ) (lines : Bool) (r : Head) : Type 0 where
  pub kind : Follow s p lines r.kind
  pub operates : (r.end ≡ p → ⊥) → (left σ : ℕ) (w : Want) → walk s (under left lines w) σ (gap here ∷ operator r.kind ∷ []) p ≡ to r.end
  pub some : (r.end ≡ p → ⊥) → 1 ≤ r.kind
  pub binary : (r.end ≡ p → ⊥) → r.kind ≤ 36
  pub loose : (r.end ≡ p → ⊥) → tight_of r.kind ≤ 7
  pub lays : (r.end ≡ p → ⊥) → layout_of r.kind ≡ operator_lay r.kind (tight_of r.kind)
  pub low : p ≤ r.end
  pub high : r.end ≤ p + (length s - p)

-- where `r` is true nothing follows an operand that ends at p
pub record Lasting (s : List ℕ) (p : ℕ) (lines r : Bool) : Type 0 where
  pub none : r ≡ true → Follow s p lines 0

-- `r` is the sign at q: 1 `=`, but neither `=>` nor `==`; 2 `:`, but not `::`
pub record SignOf (s : List ℕ) (q r : ℕ) : Type 0 where
  pub equals : r ≡ 1 → equals_to s q ≡ q + 1
  pub colon : r ≡ 2 → (equals_to s q ≡ q) × (is_mark (58 ∷ []) ((58 ∷ 58 ∷ []) ∷ []) s q ≡ true)
  pub few : r ≤ 2

-- the same of the code's answer, which is the sign's flag
abbrev pub sign_from : Option ℕ → ℕ
sign_from None = 0
sign_from (Some φ) = φ + 1

abbrev pub key_of : ℕ → ℕ → ℕ → ℕ → Key
key_of k e q φ = record { kind = k; end = e; at = q; flag = φ }

-- `r` is the key at p: a word that is a whole expression, behind which no operator stands but, past same-line space, a sign
pub record Word (s : List ℕ) (p : ℕ) (r : Key) : Type 0 where
  pub starts : is_start (byte_at s p) ≡ true
  pub head : HeadAt s p false (head_of r.kind r.end)
  pub still : Follow s r.end false 0
  pub ends : r.end ≡ key_to s p
  pub constant : constant_at s p ≡ cond (eqb r.kind 5) 0 r.kind
  pub alone : lone s p ≡ true
  pub behind : behind_key s p ≡ r.at
  pub gap : skip s false r.end ≡ to r.at
  pub sign : SignOf s r.at (r.flag + 1)
  pub some : 1 ≤ r.kind
  pub past : p < r.end
  pub low : r.end ≤ r.at
  pub high : r.at + 1 ≤ length s

-- a key that is no such word is not told
abbrev pub KeyAt : List ℕ → ℕ → Option Key → Type 0
KeyAt s p r = IfSome r (Word s p)
