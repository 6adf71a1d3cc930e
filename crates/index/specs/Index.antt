-- The keys of an object in slots of four numbers: where the key starts, its mark, and its two children, 0 for none.
use Rattle.std.specs.Prelude.{ℕ, zero, suc, ◌+◌, ◌-◌, ◌*◌, ◌/◌, ◌%◌, ◌≤◌, ◌<◌, ◌≡◌, List, [], ◌∷◌, ◌++◌, length, get_or, take}
use Rattle.index.specs.Mark.{mark_at}

-- where the key of the slot j starts, its mark, and the child on the path that goes on with h
abbrev pub start_in : List ℕ → ℕ → ℕ
start_in y j = get_or y (4 * j) 0

abbrev pub mark_in : List ℕ → ℕ → ℕ
mark_in y j = get_or y (4 * j + 1) 0

abbrev pub child_in : List ℕ → ℕ → ℕ → ℕ
child_in y j h = get_or y (4 * j + 2 + h % 2) 0

-- where the keys of n slots from the j-th on start
unfoldable pub starts_of : List ℕ → ℕ → ℕ → List ℕ
starts_of y j zero = []
starts_of y j (suc n) = start_in y j ∷ starts_of y (suc j) n

-- the same from the first-th to before the k-th
abbrev pub starts : List ℕ → ℕ → ℕ → List ℕ
starts y first k = starts_of y first (k - first)

-- from the slot j with the mark h the path comes to the slot j' with the mark h': the lowest bit says which child is next, and the mark is halved
pub data Path (y : List ℕ) : ℕ → ℕ → ℕ → ℕ → Type 0 where
  here : {h j : ℕ} → Path y h j h j
  on : {h j h' j' : ℕ} → ¬ (child_in y j h ≡ 0) → Path y (h / 2) (child_in y j h) h' j' → Path y h j h' j'

-- the slot j has a key's mark and is on its path from the first slot; its children are behind it
pub record Slot (s y : List ℕ) (first k j : ℕ) : Type 0 where
  pub marked : mark_in y j ≡ mark_at s (start_in y j)
  pub rest : ℕ
  pub path : Path y (mark_at s (start_in y j)) first rest j
  pub behind : (h : ℕ) → ¬ (child_in y j h ≡ 0) → (j < child_in y j h) × (child_in y j h < k)

-- the slots from the first-th to before the k-th are those of one object
pub record Indexed (s y : List ℕ) (first k : ℕ) : Type 0 where
  pub low : first ≤ k
  pub room : 4 * k ≤ length y
  pub slots : (j : ℕ) → first ≤ j → j < k → Slot s y first k j

-- a key that starts at p can go into the k-th slot
pub record Fits (y : List ℕ) (k p : ℕ) : Type 0 where
  pub room : 4 * k + 4 ≤ length y
  pub few : k ≤ 65535
  pub small : p ≤ 65535

-- the key at p is the last of its object, and nothing before the first slot is changed
pub record Inserted (s y y' : List ℕ) (first k p : ℕ) : Type 0 where
  pub indexed : Indexed s y' first (k + 1)
  pub starts : starts y' first (k + 1) ≡ starts y first k ++ p ∷ []
  pub same : take (4 * first) y' ≡ take (4 * first) y
  pub long : length y' ≡ length y
