-- What the functions that read by bytes alone say.
use Rattle.std.specs.Prelude.{ℕ, ◌+◌, ◌-◌, ◌≤◌, ◌≡◌, List, [], ◌∷◌, Bool, true, false, cond, length}
use Rattle.lexis.specs.Bytes.{stands}
use Rattle.grammar.specs.Said.{Went}
use Rattle.grammar.specs.Moves.{Under, Move, to, no, walk}
use Rattle.grammar.specs.Layouts.{layout_of, between, closing}
use Rattle.reader.specs.Said.{Step, Any, under_any, any_before, SaidMade}

-- 1 where a `~` stands at p
abbrev pub tilde_at : List ℕ → ℕ → ℕ
tilde_at s p = cond (stands (126 ∷ []) s p) 1 0

-- what they ask: a place in a source of at most 65,535 bytes, with no more records before it than bytes
pub record Naming (s : List ℕ) (i p : ℕ) : Type 0 where
  pub small : length s ≤ 65535
  pub inside : p ≤ length s
  pub few : i ≤ p

-- the answer of a production of the kind k at p, wherever it is called for; it has no text and does not look at the keys
pub record SaidBare (k : ℕ) (s : List ℕ) (i p : ℕ) (b b' : List ℕ) (r : Step) : Type 0 where
  pub made : (left : ℕ) (lines : Bool) (u K : ℕ) (x y : List ℕ) → SaidMade Any s (under_any k left lines) p any_before k (layout_of k) p i u 0 p K b b' x x y y r

-- ---- behind an item of an array

-- a move that can't be made, whatever it is made under
pub record Halts (s : List ℕ) (m : Move) (p : ℕ) : Type 0 where
  pub kind : ℕ
  pub place : ℕ
  pub is : (b : Under) (σ : ℕ) → walk s b σ m p ≡ no kind place

-- `r` is where the next item starts behind one that ends at e, or where the `]` stands
pub record Beyond (s : List ℕ) (e : ℕ) (r : Went) : Type 0 where
  pub bad : (r.kind ≡ 0 → ⊥) → Halts s (between 93) e × ((b : Under) (σ : ℕ) → walk s b σ (closing 93) e ≡ no r.kind r.at)
  pub last : r.kind ≡ 0 → stands (93 ∷ []) s r.at ≡ true → Halts s (between 93) e × ((b : Under) (σ : ℕ) → walk s b σ (closing 93) e ≡ to (r.at + 1))
  pub more : r.kind ≡ 0 → stands (93 ∷ []) s r.at ≡ false → (b : Under) (σ : ℕ) → walk s b σ (between 93) e ≡ to r.at
  pub low : e ≤ r.at
  pub high : r.at ≤ e + (length s - e)
