-- A layout laid over the children of a row: what the code of it promises.
use Rattle.std.specs.Prelude.{ℕ, ◌+◌, ◌*◌, ◌/◌, ◌%◌, ◌≤◌, ◌<◌, ◌≡◌, List, [], ◌∷◌, map, Bool, true, false, not, ◌&&◌, length, get_or, set, T, eqb, Option, Some, None}
use Rattle.lexis.specs.Keys.{among}
use Rattle.index.specs.Index.{Indexed}
use Rattle.index.specs.Index as index
use Rattle.index.specs.Mark.{mark_at}
use Rattle.engine.specs.Base.{Rec, has}
use Rattle.engine.specs.Rule.{Runs}
use Rattle.grammar.specs.Kinds.{tight_of}
use Rattle.grammar.specs.Moves.{Want, Under, to, gap, here, operator, walk, lone, lones}
use Rattle.grammar.specs.Layouts.{Class, entry, Layout, layout_of, operator_lay}
use Rattle.grammar.specs.Hcl.{hcl, under, downs, bounds, styles, starts}
use Rattle.grammar.specs.Published.{Depth, depth, depth_of, want_of, Suits}
use Rattle.checker.specs.declared.pass.Passed.{Passed as Right}
use Rattle.checker.specs.Rows.{row_at, rec_at}
use Rattle.checker.specs.Family.{Chain}
use Rattle.checker.specs.Program.{class_in, laid_out}
use Rattle.checker.specs.Leaf.{kinds_by}

-- ---- what a row is under, as the code keeps it: twice the levels left, and 1 where a line end may stand

abbrev pub coded : ℕ → Depth
coded v = depth (v / 2) (eqb (v % 2) 1)

-- of the rows js
abbrev pub depths_at : List ℕ → List ℕ → List Depth
depths_at D js = map (λ j. coded (get_or D j 0)) js

-- ---- a child in its place

-- tight enough, and what its parent asks of it
abbrev pub Both : List ℕ → Under → Class → Rec ℕ → Type 0
Both s d c r = (bounds c < tight_of r.kind) × Suits s (d.want, styles c) r

-- the keys in the first n slots of K are those of some items whose keys may be compared, as far as a search can tell
abbrev pub KeysOf : List ℕ → List ℕ → ℕ → List (Rec ℕ) → Type 0
KeysOf s K n ks = (p : ℕ) → among s (index.starts K 0 n) p ≡ among s (lones s (starts ks)) p

-- `r` says whether the row j starts at `at`, is not empty, binds tighter than n and is of a kind that is wanted
pub record SuitsAt (t : List ℕ) (j at n w : ℕ) (r : Bool) : Type 0 where
  pub start : r ≡ true → (row_at t j).start ≡ at
  pub bound : r ≡ true → n < tight_of (row_at t j).kind
  pub kind : r ≡ true → T (has (kinds_by w) (row_at t j).kind)
  pub no : r ≡ false → (row_at t j).start ≡ at → (row_at t j).start < (row_at t j).end → n < tight_of (row_at t j).kind → T (has (kinds_by w) (row_at t j).kind) → ⊥

-- what `kid` asks for: a row up to the i-th
pub record Seating (t : List ℕ) (i : ℕ) (D : List ℕ) (j : ℕ) : Type 0 where
  pub within : 7 * i + 7 ≤ length t
  pub deep : i < length D
  pub linked : j ≤ i

-- `r` says whether the row j is before the row i and suits its place; then the depth v is put down for it
pub record KidBy (t : List ℕ) (i : ℕ) (D D' : List ℕ) (j at n w v : ℕ) (r : Bool) : Type 0 where
  pub inside : r ≡ true → j < i
  pub suits : r ≡ true → SuitsAt t j at n w true
  pub put : r ≡ true → D' ≡ set D j v
  pub still : r ≡ false → D' ≡ D
  pub no : r ≡ false → j < i → SuitsAt t j at n w false
  pub long : length D' ≡ length D

-- what `meet` asks for: n slots with the keys so far, and room for one more
pub record Meeting (s K : List ℕ) (n : ℕ) : Type 0 where
  pub indexed : Indexed s K 0 n
  pub room : 4 * n + 4 ≤ length K
  pub few : n ≤ 65535

-- whether a key was met before, and how many are kept with it
pub record Met : Type 0 where
  pub met : Bool
  pub keys : ℕ

-- the same as the code has it, after n keys
abbrev pub met_from : ℕ → Option ℕ → Met
met_from n None = record { met = true; keys = n }
met_from n (Some k) = record { met = false; keys = k }

-- `r` says whether the key at p, of an item, was met in the first n slots of K; where it may be compared it is kept
pub record MetAt (s K K' : List ℕ) (n p w : ℕ) (r : Met) : Type 0 where
  pub long : length K' ≡ length K
  pub few : r.keys ≤ n + 1
  pub indexed : r.met ≡ false → Indexed s K' 0 r.keys
  pub new : r.met ≡ false → w ≡ 4 → (ks : List (Rec ℕ)) → KeysOf s K n ks → T (not (lone s p && among s (lones s (starts ks)) p))
  pub old : r.met ≡ true → (w ≡ 4) × ((ks : List (Rec ℕ)) → KeysOf s K n ks → T (not (lone s p && among s (lones s (starts ks)) p)) → ⊥)
  pub kept : r.met ≡ false → w ≡ 4 → (ks : List (Rec ℕ)) (x : Rec ℕ) → x.start ≡ p → KeysOf s K n ks → KeysOf s K' r.keys (x ∷ ks)

-- whether a child is right in its place; where it ends, the row of the next one, and how many keys are kept
pub record Passed : Type 0 where
  pub good : Bool
  pub end : ℕ
  pub next : ℕ
  pub keys : ℕ

abbrev pub no_pass : ℕ → Passed
no_pass n = record { good = false; end = 0; next = 0; keys = n }

-- the same as the code has it, after n keys
abbrev pub passed_from : ℕ → Option Right → Passed
passed_from n None = no_pass n
passed_from n (Some r) = record { good = true; end = r.end; next = r.next; keys = r.keys }

-- what `pass` asks for
pub record Passing (s t : List ℕ) (i : ℕ) (m D K : List ℕ) (j n c left at h : ℕ) (alone : Bool) : Type 0 where
  pub within : 7 * i + 7 ≤ length t
  pub linked : (j < i → get_or m j 0 ≤ i) × (j ≤ i)
  pub marked : i < length m
  pub deep : i < length D
  pub keyed : 4 * i + 4 ≤ length K
  pub small : i ≤ 65535
  pub indexed : Indexed s K 0 n
  pub fewer : n ≤ j
  pub few : left ≤ 127
  pub key : class_in c ≡ entry → h ≡ mark_at s at
  pub told : class_in c ≡ entry → alone ≡ lone s at

-- `r` says whether the row j is a child of the class c at the place `at`; then its depth is put down
pub record PassedBy (s t : List ℕ) (i : ℕ) (m D D' K K' : List ℕ) (j n c left : ℕ) (lines : Bool) (at : ℕ) (r : Passed) : Type 0 where
  pub long : length D' ≡ length D
  pub room : length K' ≡ length K
  pub few : r.keys ≤ n + 1
  pub indexed : r.good ≡ true → Indexed s K' 0 r.keys
  pub still : r.good ≡ false → D' ≡ D
  pub inside : r.good ≡ true → j < i
  pub start : r.good ≡ true → (row_at t j).start ≡ at
  pub end : r.good ≡ true → (row_at t j).end ≡ r.end
  pub next : r.good ≡ true → get_or m j 0 ≡ r.next
  pub value : ℕ
  pub put : r.good ≡ true → D' ≡ set D j value
  pub told : r.good ≡ true → (w : Want) (σ x : ℕ) (ks : List (Rec ℕ)) → coded value ≡ depth_of (downs s (under left lines w) (class_in c) σ ks, x)
  pub both : r.good ≡ true → (w : Want) (σ : ℕ) (ks : List (Rec ℕ)) → (class_in c ≡ entry → KeysOf s K n ks) → Both s (downs s (under left lines w) (class_in c) σ ks) (class_in c) (rec_at t j)
  pub kept : r.good ≡ true → (ks : List (Rec ℕ)) → class_in c ≡ entry → KeysOf s K n ks → KeysOf s K' r.keys (rec_at t j ∷ ks)
  pub no : r.good ≡ false → j < i → (row_at t j).start ≡ at → (row_at t j).start < (row_at t j).end
      → (w : Want) (σ : ℕ) (ks : List (Rec ℕ)) → (class_in c ≡ entry → KeysOf s K n ks) → Both s (downs s (under left lines w) (class_in c) σ ks) (class_in c) (rec_at t j) → ⊥

-- ---- a layout

-- no row of js is empty
abbrev pub Filled : List ℕ → List ℕ → Type 0
Filled t [] = Unit {0}
Filled t (j ∷ js) = ((row_at t j).start < (row_at t j).end) × Filled t js

-- the layout l goes from p to the end of the row i, over children with the records rs; ks are those before them, the nearest first
abbrev pub Over : List ℕ → List ℕ → ℕ → ℕ → Bool → List (Rec ℕ) → Layout → ℕ → List (Rec ℕ) → List (Under × ℕ) → Type 0
Over s t i left lines ks l p rs bs = Runs (hcl s) (Both s) (under left lines (want_of (row_at t i).kind)) (row_at t i).start ks l p (row_at t i).end (row_at t i).flag rs bs

-- `r` says whether the row i ends at q, with the flag φ, and no child is left
pub record EndsAt (t : List ℕ) (i j q φ : ℕ) (r : Bool) : Type 0 where
  pub yes : r ≡ true → (j ≡ i) × (q ≡ (row_at t i).end) × (φ ≡ (row_at t i).flag)
  pub no : r ≡ false → j ≡ i → q ≡ (row_at t i).end → φ ≡ (row_at t i).flag → ⊥

-- what `lay` asks for
pub record Laying (t : List ℕ) (i : ℕ) (m D K : List ℕ) (j left : ℕ) : Type 0 where
  pub within : 7 * i + 7 ≤ length t
  pub marked : i < length m
  pub deep : i < length D
  pub keyed : 4 * i + 4 ≤ length K
  pub small : i ≤ 65535
  pub few : left ≤ 127
  pub js : List ℕ
  pub chain : Chain m i js j
  pub known : T (has laid_out (row_at t i).kind)

-- what a layout asks for that is gone through with no program: children that are linked from the row j on
pub record Direct (t : List ℕ) (i : ℕ) (m D : List ℕ) (j : ℕ) : Type 0 where
  pub within : 7 * i + 7 ≤ length t
  pub marked : i < length m
  pub deep : i < length D
  pub js : List ℕ
  pub chain : Chain m i js j

-- the same of a kind that has a layout, and no items
pub record Itemless (t : List ℕ) (i : ℕ) (m D : List ℕ) (j : ℕ) : Type 0 where
  pub direct : Direct t i m D j
  pub known : T (has laid_out (row_at t i).kind)
  pub other : (row_at t i).kind ≡ 12 → ⊥
  pub small : i ≤ 65535

-- the children js of the row i, and those before them, of an object none
pub record Children (t : List ℕ) (i : ℕ) (m : List ℕ) (j : ℕ) (ks : List (Rec ℕ)) (js : List ℕ) : Type 0 where
  pub chain : Chain m i js j
  pub object : (row_at t i).kind ≡ 12 → ks ≡ []

-- `r` says whether the layout of the row's kind goes from p over the children from the row j on; then their depths are put down
pub record LaidBy (s t : List ℕ) (i : ℕ) (m D D' : List ℕ) (j p left : ℕ) (lines : Bool) (r : Bool) : Type 0 where
  pub long : length D' ≡ length D
  pub same : (x : ℕ) → x < j → get_or D' x 0 ≡ get_or D x 0
  pub yes : r ≡ true → (ks : List (Rec ℕ)) (js : List ℕ) → Children t i m j ks js → (bs : List (Under × ℕ)) × Over s t i left lines ks (layout_of (row_at t i).kind) p (map (rec_at t) js) bs
  pub only : r ≡ true → (ks : List (Rec ℕ)) (js : List ℕ) → Children t i m j ks js → (bs : List (Under × ℕ)) → Over s t i left lines ks (layout_of (row_at t i).kind) p (map (rec_at t) js) bs → depths_at D' js ≡ map depth_of bs
  pub no : r ≡ false → (ks : List (Rec ℕ)) (js : List ℕ) → Children t i m j ks js → Filled t js → (bs : List (Under × ℕ)) → Over s t i left lines ks (layout_of (row_at t i).kind) p (map (rec_at t) js) bs → ⊥

-- a binary operator, that of the row i, stands behind the trivia from p on, and ends at e
pub record Operates (s t : List ℕ) (i : ℕ) (lines : Bool) (p e : ℕ) : Type 0 where
  pub goes : (left σ : ℕ) (w : Want) → walk s (under left lines w) σ (gap here ∷ operator (row_at t i).kind ∷ []) p ≡ to e
  pub lays : layout_of (row_at t i).kind ≡ operator_lay (row_at t i).kind (tight_of (row_at t i).kind)

-- `r` says the same for a binary operator that ends at e, wherever its trivia starts
pub record OperatorBy (s t : List ℕ) (i : ℕ) (m D D' : List ℕ) (j e own : ℕ) (r : Bool) : Type 0 where
  pub laid : (p : ℕ) → Operates s t i (eqb (own % 2) 1) p e → LaidBy s t i m D D' j p (own / 2) (eqb (own % 2) 1) r
