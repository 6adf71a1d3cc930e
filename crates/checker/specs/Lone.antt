-- Whether a key stands alone, with what was found of comments behind earlier keys: what the code of it promises.
use Rattle.std.specs.Prelude.{ℕ, ◌+◌, ◌-◌, ◌≤◌, ◌<◌, ◌≡◌, List, [], ◌∷◌, Bool, true, false, not, ◌||◌, ◌⊎◌, length, eqb}
use Rattle.lexis.specs.Bytes.{byte_at, is_space, stands}
use Rattle.lexis.specs.Trivia.{closes, gap_to}
use Rattle.lexis.specs.RunLaws.{reach}
use Rattle.lexis.specs.Operator.{is_mark, equals_to}
use Rattle.checker.specs.declared.lone.Memo.{Memo}
use Rattle.checker.specs.declared.lone.Lone.{Lone}

-- `=` or `:` stands at q
abbrev pub sign_at : List ℕ → ℕ → Bool
sign_at s q = not (eqb (equals_to s q) q) || is_mark (58 ∷ []) ((58 ∷ 58 ∷ []) ∷ []) s q

-- it stands behind the same-line space from p on; so `lone` is this, from the end of the key's first token
abbrev pub signed : List ℕ → ℕ → Bool
signed s p = sign_at s (gap_to false s p).at

-- of each `/*` whose text starts from one place to another, but not with `/`, it is known whether a sign stands behind the space that it starts
pub record Known (s : List ℕ) (m : Memo) : Type 0 where
  pub told : (c : ℕ) → stands (47 ∷ 42 ∷ []) s c ≡ true → ¬ (byte_at s (c + 2) ≡ 47) → m.from ≤ c + 2 → c + 2 ≤ m.to → signed s c ≡ m.yes

-- `r` is past the spaces from p on
pub record SpacesTo (s : List ℕ) (p r : ℕ) : Type 0 where
  pub low : p ≤ r
  pub high : r ≤ p + (length s - p)
  pub same : gap_to false s r ≡ gap_to false s p
  pub are : (x : ℕ) → p ≤ x → x < r → is_space (byte_at s x) ≡ true
  pub ends : is_space (byte_at s r) ≡ false

-- `r` is the first `*/` from p on, or the source's length
pub record CloserAt (s : List ℕ) (p r : ℕ) : Type 0 where
  pub is : reach closes s p ≡ r
  pub low : p ≤ r
  pub high : r ≤ length s
  pub here : r < length s → stands (42 ∷ 47 ∷ []) s r ≡ true

-- `r` says that what is known tells of the `/*` at c
pub record Covered (s : List ℕ) (c : ℕ) (m : Memo) (r : Bool) : Type 0 where
  pub low : r ≡ true → m.from ≤ c + 2
  pub high : r ≡ true → c + 2 ≤ m.to
  pub plain : r ≡ true → ¬ (byte_at s (c + 2) ≡ 47)

abbrev pub OneOf : Memo → Memo → Memo → Type 0
OneOf a b r = (r ≡ a) ⊎ (r ≡ b)

-- `r` says whether a sign stands behind the same-line space from p on; what it knows is so
pub record Behind (s : List ℕ) (p : ℕ) (r : Lone) : Type 0 where
  pub yes : r.yes ≡ signed s p
  pub known : Known s r.memo
