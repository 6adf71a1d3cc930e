-- Laws on the search: each equal key that is left is on the path that is left.
use Prim.Native.Nat.{ℕ, zero, suc, ◌+◌, ◌-◌, ◌*◌, ◌/◌, ◌≤◌, ◌<◌}
use mathlib.Core.Path.{◌≡◌, refl, sym, ap, ◌∙◌}
use mathlib.Core.List.{List}
use mathlib.Core.Bool.{Bool, true, false, ◌||◌}
use native.Mathlib.Omega.{arith}
use lib.ListN.{length}
use lib.Dec.{eqb}
use borrow.Author.Tests.{eqb-false}
use Rattle.std.specs.Prelude.{Option, Some, None, is_none, unwrap_or}
use Rattle.lexis.specs.Bytes.{nonzero}
use Rattle.lexis.specs.Keys.{among, same_key}
use Rattle.lexis.proofs.Sequences.{nonzero_none, nonzero_some}
use Rattle.lexis.specs.RunLaws.{clash}
use Rattle.index.specs.Mark.{mark_at}
use Rattle.index.specs.MarkLaws.{same_mark}
use Rattle.index.specs.Index.{start_in, mark_in, child_in, starts_of, starts, Path, here, on, Indexed}

-- a key among some, and none
or_here : (x y : Bool) → x ≡ true → (x || y) ≡ true
or_here true y e = refl
or_here false y e = clash (sym e)

or_there : (x y : Bool) → y ≡ true → (x || y) ≡ true
or_there true y e = refl
or_there false y e = e

among_yes : (s y : List ℕ) (p n j i : ℕ) → j ≤ i → i < j + n → same_key s (start_in y i) p ≡ true → among s (starts_of y j n) p ≡ true
unfolding among starts_of
among_yes s y p zero j i a b e = absurd (omega arith)
among_yes s y p (suc n) j i a b e = go (i - j) refl (λ h. among_yes s y p n (suc j) i h (omega arith) e)
  where
    go : (d : ℕ) → i - j ≡ d → (suc j ≤ i → among s (starts_of y (suc j) n) p ≡ true) → among s (starts_of y j (suc n)) p ≡ true
    go zero f r = let z : i ≡ j = omega arith in or_here (same_key s (start_in y j) p) (among s (starts_of y (suc j) n) p) (rw z at e)
    go (suc d) f r = or_there (same_key s (start_in y j) p) (among s (starts_of y (suc j) n) p) (r (omega arith))

among_no : (s y : List ℕ) (p n j : ℕ) → ((i : ℕ) → j ≤ i → i < j + n → same_key s (start_in y i) p ≡ false) → among s (starts_of y j n) p ≡ false
unfolding among starts_of
among_no s y p zero j h = refl
among_no s y p (suc n) j h = rw (h j (omega arith) (omega arith)) (among_no s y p n (suc j) (λ i a b. h i (omega arith) (omega arith)))

-- the slot j can be asked about the key at p, whose mark is m
pub record Asks (s y : List ℕ) (j m p : ℕ) : Type 0 where
  pub room : 4 * j + 4 ≤ length y
  pub slot : mark_in y j ≡ mark_at s (start_in y j)
  pub key : m ≡ mark_at s p

-- another mark, and so another key
pub asks_other : {s y : List ℕ} {j m p : ℕ} → Asks s y j m p → ¬ (mark_in y j ≡ m) → false ≡ same_key s (start_in y j) p
asks_other {s} {y} {j} {m} {p} g n = go (same_key s (start_in y j) p) refl
  where
    go : (x : Bool) → same_key s (start_in y j) p ≡ x → false ≡ same_key s (start_in y j) p
    go false f = sym f
    go true f = absurd (n (g.slot ∙ same_mark s (start_in y j) p f ∙ sym g.key))

-- the search for the key at p, at the slot j with h left of its mark: each equal key is ahead
pub record Seeking (s y : List ℕ) (first k p h j : ℕ) : Type 0 where
  pub low : first ≤ j
  pub high : j < k
  pub ahead : (i : ℕ) → first ≤ i → i < k → same_key s (start_in y i) p ≡ true → (r : ℕ) × Path y h j r i

module _ {s y : List ℕ} {first k : ℕ} (g : Indexed s y first k) where
  pub seek_none : (p : ℕ) → k ≤ first → false ≡ among s (starts y first k) p
  unfolding among starts_of
  seek_none p h = let z : k - first ≡ 0 = omega arith in rw z

  pub seek_start : (p : ℕ) {m : ℕ} → first < k → m ≡ mark_at s p → Seeking s y first k p m first
  seek_start p h e = record {
    low = omega arith;
    high = h;
    ahead = λ i a b f.
        let t = g.slots i a b in
        let z : mark_at s (start_in y i) ≡ mark_at s p = same_mark s (start_in y i) p f in
        (t.rest, rw (e, ← z) t.path);
  }

  -- the key of a slot is equal
  pub seek_met : {p h j : ℕ} → Seeking s y first k p h j → same_key s (start_in y j) p ≡ true → true ≡ among s (starts y first k) p
  seek_met {p} {h} {j} w e = sym (among_yes s y p (k - first) first j w.low (omega (arith, w.high)) e)

  pub seek_asks : {p h j m : ℕ} → Seeking s y first k p h j → m ≡ mark_at s p → Asks s y j m p
  seek_asks w e = record { room = omega (arith, w.high, g.room); slot = (g.slots _ w.low w.high).marked; key = e }

  module _ {p h j : ℕ} (w : Seeking s y first k p h j) (e : same_key s (start_in y j) p ≡ false) where
    -- the path that is left of one of the keys
    left : {i r : ℕ} → same_key s (start_in y i) p ≡ true → Path y h j r i → (¬ (child_in y j h ≡ 0)) × Path y (h / 2) (child_in y j h) r i
    left f here = clash (sym f ∙ e)
    left f (on n q) = (n, q)

    pub seek_end : child_in y j h ≡ 0 → false ≡ among s (starts y first k) p
    seek_end z = sym (among_no s y p (k - first) first (λ i a b. go i (omega arith) (omega arith) (same_key s (start_in y i) p) refl))
      where
        go : (i : ℕ) → first ≤ i → i < k → (x : Bool) → same_key s (start_in y i) p ≡ x → same_key s (start_in y i) p ≡ false
        go i a b false f = f
        go i a b true f = absurd ((left f (w.ahead i a b f).1).0 z)

    pub seek_less : {c : ℕ} → c ≡ child_in y j h → ¬ (c ≡ 0) → (j < c) × (c < k)
    seek_less d n = let b = (g.slots j w.low w.high).behind h (λ z. n (d ∙ z)) in (omega arith, omega arith)

    pub seek_more : {c : ℕ} → c ≡ child_in y j h → ¬ (c ≡ 0) → Seeking s y first k p (h / 2) c
    seek_more {c} d n =
        let b = seek_less d n in
        record {
          low = omega (arith, w.low);
          high = omega arith;
          ahead = λ i a b f. let v = w.ahead i a b f in (v.0, rw d (left f v.1).1);
        }

-- the search under way, at a slot or at none: each equal key is ahead, or no key is equal
pub record Searching (s y : List ℕ) (first k p h : ℕ) (slot : Option ℕ) : Type 0 where
  pub ahead : (j : ℕ) → slot ≡ Some j → Seeking s y first k p h j
  pub over : slot ≡ None → false ≡ among s (starts y first k) p

-- how many slots are left at most
abbrev pub left_of : ℕ → Option ℕ → ℕ
left_of k None = 0
left_of k (Some j) = k - j

module _ {s y : List ℕ} {first k : ℕ} (g : Indexed s y first k) where
  pub search_some : (p : ℕ) {m : ℕ} → first < k → m ≡ mark_at s p → Searching s y first k p m (Some first)
  search_some p h e = record { ahead = λ j z. let v : first ≡ j = ap (λ (o : Option ℕ). unwrap_or o 0) z in rw (← v) (seek_start g p h e); over = λ z. clash (sym (ap is_none z)) }

  pub search_none : (p : ℕ) {m : ℕ} → k ≤ first → Searching s y first k p m None
  search_none p h = record { ahead = λ j z. clash (ap is_none z); over = λ z. seek_none g p h }

  module _ {p h j : ℕ} (w : Seeking s y first k p h j) (e : same_key s (start_in y j) p ≡ false) {o : Option ℕ} (d : o ≡ nonzero (child_in y j h)) where
    pub search_next : Searching s y first k p (h / 2) o
    search_next = record {
      ahead = λ c z. let v = nonzero_some (sym d ∙ z) in seek_more g w e v.0 v.1;
      over = λ z. seek_end g w e (nonzero_none (sym d ∙ z));
    }

    pub search_less : {slot : Option ℕ} → slot ≡ Some j → left_of k o < left_of k slot
    search_less f = rw f (go o refl)
      where
        go : (x : Option ℕ) → o ≡ x → left_of k x < k - j
        go None z = omega (arith, w.high)
        go (Some c) z = let v = nonzero_some (sym d ∙ z) in let b = seek_less g w e v.0 v.1 in omega (arith, b.0, b.1)

  pub other_mark : {p h j m : ℕ} {same : Bool} → Seeking s y first k p h j → m ≡ mark_at s p → same ≡ eqb (mark_in y j) m → same ≡ false → same_key s (start_in y j) p ≡ false
  other_mark {j = j} {m} w e f z = sym (asks_other (seek_asks g w e) (eqb-false (mark_in y j) m (sym f ∙ z)))

-- the start that the code has read
pub of_start : (s : List ℕ) (p : ℕ) {a b : ℕ} {r : Bool} → a ≡ b → same_key s a p ≡ r → same_key s b p ≡ r
of_start s p e f = ap (λ (x : ℕ). same_key s x p) (sym e) ∙ f
