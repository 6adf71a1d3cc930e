-- The children of a row, found from the right.
use Prim.Native.Nat.{ℕ, suc, ◌+◌, ◌*◌, ◌-◌, ◌≤◌, ◌<◌}
use mathlib.Core.Path.{◌≡◌, refl, sym, ap, subst, ◌∙◌}
use mathlib.Core.List.{List, [], ◌∷◌}
use native.Mathlib.Omega.{arith}
use lib.ListN.{length, get_or, set, length-set}
use lib.Seq.{get_or-set_same, get_or-set_other}
use Rattle.engine.specs.Rule.{Kids, knil, kcons}
use Rattle.engine.specs.Forest.{Walk, there, over, walk_le}
use Rattle.grammar.specs.Published.{Rule}
use Rattle.grammar.specs.RuleTable.{kids_walk}
use Rattle.checker.specs.Rows.{row_at, rows}
use Rattle.checker.specs.Family.{Chain, Family}

-- the children from hi up to i are found, and the first stands in the row `next`
pub record Found (t : List ℕ) (i lo hi next : ℕ) (m₀ m : List ℕ) : Type 0 where
  pub js : List ℕ
  pub kids : Kids (rows t) hi i js
  pub chain : Chain m i js next
  pub tiles : lo + (row_at t i).count ≡ suc i
  pub low : lo ≤ hi
  pub near : hi ≤ next
  pub far : next ≤ i
  pub long : length m ≡ length m₀
  -- who finds them all goes on from hi
  pub goes : (js' : List ℕ) → Kids (rows t) lo i js' → ((j : ℕ) → j < i → 1 ≤ (row_at t j).count) → Walk (Rule []) (rows t) lo hi js js'

pub found_start : {t m : List ℕ} {i lo : ℕ} → lo + (row_at t i).count ≡ suc i → lo ≤ i → Found t i lo i i m m
found_start {t} e l = record { js = []; kids = knil; chain = refl; tiles = e; low = l; near = omega arith; far = omega arith; long = refl; goes = λ js' k pos. kids_walk [] (rows t) k pos }

-- a mark before them changes none of theirs
chain_set : (m : List ℕ) (i x v : ℕ) (js : List ℕ) (j : ℕ) → x < j → Chain m i js j → Chain (set m x v) i js j
chain_set m i x v [] j l c = c
chain_set m i x v (y ∷ js) j l (e, up, far, c) =
    let same : get_or (set m x v) j 0 ≡ get_or m j 0 = get_or-set_other m x j v 0 (λ (z : j ≡ x). omega arith) in
    (e, omega arith, omega arith, subst (λ (z : ℕ). Chain (set m x v) i js z) (sym same) (chain_set m i x v js (get_or m j 0) (omega arith) c))

-- the count of the row before hi
last_count : (t : List ℕ) (hi c : ℕ) → 1 ≤ hi → c ≡ get_or t (7 * hi - 3) 0 → c ≡ (row_at t (hi - 1)).count
last_count t hi c p e = e ∙ ap (λ (x : ℕ). get_or t x 0) (omega arith)

pub found_more : {t m₀ m : List ℕ} {i lo hi next : ℕ} (c : ℕ) → Found t i lo hi next m₀ m → lo < hi → c ≡ get_or t (7 * hi - 3) 0 → ¬ (c ≡ 0) → c ≤ hi - lo → i < length m₀ → Found t i lo (hi - c) (hi - 1) m₀ (set m (hi - 1) next)
found_more {t} {m₀} {m} {i} {lo} {hi} {next} c w l e n few room =
    let q : c ≡ (row_at t (hi - 1)).count = last_count t hi c (omega arith) e in
    let up : suc (hi - 1) ≡ hi = omega arith in
    let far = w.far in
    let near = w.near in
    let new : get_or (set m (hi - 1) next) (hi - 1) 0 ≡ next = get_or-set_same m (hi - 1) next 0 (omega (arith, w.long)) in
    record {
      js = (hi - 1) ∷ w.js;
      kids = kcons {lo = hi - c} (hi - 1) (omega arith) (subst (λ (x : ℕ). Kids (rows t) x i w.js) (sym up) w.kids);
      chain = (refl, omega arith, omega arith, subst (λ (x : ℕ). Chain (set m (hi - 1) next) i w.js x) (sym new) (chain_set m i (hi - 1) next w.js next (omega arith) w.chain));
      tiles = w.tiles;
      low = omega arith;
      near = omega arith;
      far = omega arith;
      long = length-set m (hi - 1) next ∙ w.long;
      goes = λ js' k pos. on lo hi refl refl w.js js' (w.goes js' k pos) q;
    }
  where
    on : (a h : ℕ) → a ≡ lo → h ≡ hi → (ks js' : List ℕ) → Walk (Rule []) (rows t) a h ks js' → c ≡ (row_at t (hi - 1)).count → Walk (Rule []) (rows t) a (hi - c) ((hi - 1) ∷ ks) js'
    on a h ea eh ks js' there q = absurd (omega arith)
    on a h ea eh ks js' (over x mid z d u v) q =
        let same : x ≡ hi - 1 = omega arith in
        let d' : mid + (row_at t (hi - 1)).count ≡ h = subst (λ (y : ℕ). mid + (row_at t y).count ≡ h) same d in
        let to : mid ≡ hi - c = omega arith in
        subst (λ (y : ℕ). Walk (Rule []) (rows t) a y ((hi - 1) ∷ ks) js') to (subst (λ (y : ℕ). Walk (Rule []) (rows t) a mid (y ∷ ks) js') same v)

-- a count that is 0 or too many
pub found_no : {t m₀ m : List ℕ} {i lo hi next : ℕ} (c : ℕ) → Found t i lo hi next m₀ m → lo < hi → c ≡ get_or t (7 * hi - 3) 0 → (1 ≤ c → hi - lo < c) → Family t i m₀ m (i + 1)
found_no {t} {m₀} {m} {i} {lo} {hi} {next} c w l e bad = record {
  long = w.long;
  lo = 0;
  kids = [];
  tiles = λ z. absurd (omega arith);
  split = λ z. absurd (omega arith);
  chain = λ z. absurd (omega arith);
  low = λ z. absurd (omega arith);
  no = λ z lo' js tiles k pos.
      let same : lo' ≡ lo = omega (arith, w.tiles) in
      on lo hi refl refl w.js js (w.goes js (subst (λ (y : ℕ). Kids (rows t) y i js) same k) pos) (last_count t hi c (omega arith) e);
}
  where
    on : (a h : ℕ) → a ≡ lo → h ≡ hi → (ks js' : List ℕ) → Walk (Rule []) (rows t) a h ks js' → c ≡ (row_at t (hi - 1)).count → ⊥
    on a h ea eh ks js' there q = absurd (omega arith)
    on a h ea eh ks js' (over x mid z d u v) q =
        let same : x ≡ hi - 1 = omega arith in
        let d' : mid + (row_at t (hi - 1)).count ≡ h = subst (λ (y : ℕ). mid + (row_at t y).count ≡ h) same d in
        let le = walk_le (Rule []) (rows t) v in
        let many = bad (omega arith) in
        omega arith

-- all are found
pub family_yes : {t m₀ m : List ℕ} {i lo hi next : ℕ} → Found t i lo hi next m₀ m → hi ≤ lo → Family t i m₀ m next
family_yes {t} {m₀} {m} {i} {lo} {hi} {next} w l =
    let same : hi ≡ lo = omega (arith, w.low) in
    record {
      long = w.long;
      lo = lo;
      kids = w.js;
      tiles = λ z. w.tiles;
      split = λ z. subst (λ (x : ℕ). Kids (rows t) x i w.js) same w.kids;
      chain = λ z. w.chain;
      low = λ z. omega (arith, w.near);
      no = λ z lo' js tiles k pos. absurd (z w.far);
    }

-- it has none
pub family_none : (t m : List ℕ) (i : ℕ) → (row_at t i).count ≡ 1 → Family t i m m i
family_none t m i e = let f : Found t i i i i m m = found_start (omega arith) (omega arith) in family_yes f (omega arith)

-- its own count is 0, or more than there are
pub family_no : {t m : List ℕ} {i : ℕ} → ((lo : ℕ) → lo + (row_at t i).count ≡ suc i → (js : List ℕ) → Kids (rows t) lo i js → ⊥) → Family t i m m (i + 1)
family_no f = record {
  long = refl;
  lo = 0;
  kids = [];
  tiles = λ z. absurd (omega arith);
  split = λ z. absurd (omega arith);
  chain = λ z. absurd (omega arith);
  low = λ z. absurd (omega arith);
  no = λ z lo' js tiles k pos. f lo' tiles js k;
}
