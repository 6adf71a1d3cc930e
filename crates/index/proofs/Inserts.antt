-- Laws on a key more: its slot is put behind the others, and one child that was none is linked to it.
use Prim.Native.Nat.{ℕ, zero, suc, ◌+◌, ◌-◌, ◌*◌, ◌/◌, ◌%◌, ◌≤◌, ◌<◌}
use mathlib.Core.Path.{◌≡◌, refl, sym, ap, subst, ◌∙◌}
use mathlib.Core.List.{List, [], ◌∷◌, ◌++◌}
use mathlib.Core.Logic.{◌⊎◌, inl, inr}
use native.Mathlib.Omega.{arith}
use lib.ListN.{length, get_or, take, set, length-set}
use lib.Seq.{get_or-set_same, get_or-set_other, take-set-le}
use Rattle.index.specs.Mark.{mark_at}
use Rattle.index.specs.Index.{start_in, mark_in, child_in, starts_of, Path, here, Slot, Indexed, Fits, Inserted}
use Rattle.index.specs.IndexLaws.{starts_same, path_same, path_more, indexed_kept}

-- the four numbers of a slot, one after the other
abbrev pub slot_at : List ℕ → ℕ → ℕ → ℕ → List ℕ
slot_at y k p m = set (set (set (set y (4 * k) p) (4 * k + 1) m) (4 * k + 2) 0) (4 * k + 3) 0

starts_snoc : (y : List ℕ) (n j : ℕ) → starts_of y j (suc n) ≡ starts_of y j n ++ start_in y (j + n) ∷ []
unfolding starts_of
starts_snoc y zero j = let z : j + 0 ≡ j = omega arith in rw z
starts_snoc y (suc n) j = let z : suc j + n ≡ j + suc n = omega arith in ap (λ (l : List ℕ). start_in y j ∷ l) (starts_snoc y n (suc j) ∙ rw z)

module _ (y : List ℕ) (k p m : ℕ) (room : 4 * k + 4 ≤ length y) where
  slot_long : length (slot_at y k p m) ≡ length y
  slot_long =
      length-set (set (set (set y (4 * k) p) (4 * k + 1) m) (4 * k + 2) 0) (4 * k + 3) 0
      ∙ length-set (set (set y (4 * k) p) (4 * k + 1) m) (4 * k + 2) 0 ∙ length-set (set y (4 * k) p) (4 * k + 1) m ∙ length-set y (4 * k) p

  -- the other numbers are as they were
  slot_other : (i : ℕ) → i < 4 * k → get_or (slot_at y k p m) i 0 ≡ get_or y i 0
  slot_other i h =
      get_or-set_other (set (set (set y (4 * k) p) (4 * k + 1) m) (4 * k + 2) 0) (4 * k + 3) i 0 0 (λ z. omega arith)
      ∙ get_or-set_other (set (set y (4 * k) p) (4 * k + 1) m) (4 * k + 2) i 0 0 (λ z. omega arith)
      ∙ get_or-set_other (set y (4 * k) p) (4 * k + 1) i m 0 (λ z. omega arith) ∙ get_or-set_other y (4 * k) i p 0 (λ z. omega arith)

  slot_take : (n : ℕ) → n ≤ 4 * k → take n (slot_at y k p m) ≡ take n y
  slot_take n h =
      take-set-le n (set (set (set y (4 * k) p) (4 * k + 1) m) (4 * k + 2) 0) (4 * k + 3) 0 (omega arith)
      ∙ take-set-le n (set (set y (4 * k) p) (4 * k + 1) m) (4 * k + 2) 0 (omega arith)
      ∙ take-set-le n (set y (4 * k) p) (4 * k + 1) m (omega arith) ∙ take-set-le n y (4 * k) p h

  slot_start : start_in (slot_at y k p m) k ≡ p
  slot_start =
      get_or-set_other (set (set (set y (4 * k) p) (4 * k + 1) m) (4 * k + 2) 0) (4 * k + 3) (4 * k) 0 0 (λ z. omega arith)
      ∙ get_or-set_other (set (set y (4 * k) p) (4 * k + 1) m) (4 * k + 2) (4 * k) 0 0 (λ z. omega arith)
      ∙ get_or-set_other (set y (4 * k) p) (4 * k + 1) (4 * k) m 0 (λ z. omega arith) ∙ get_or-set_same y (4 * k) p 0 (omega arith)

  slot_mark : mark_in (slot_at y k p m) k ≡ m
  slot_mark =
      get_or-set_other (set (set (set y (4 * k) p) (4 * k + 1) m) (4 * k + 2) 0) (4 * k + 3) (4 * k + 1) 0 0 (λ z. omega arith)
      ∙ get_or-set_other (set (set y (4 * k) p) (4 * k + 1) m) (4 * k + 2) (4 * k + 1) 0 0 (λ z. omega arith)
      ∙ get_or-set_same (set y (4 * k) p) (4 * k + 1) m 0 (omega (arith, length-set y (4 * k) p))

  slot_low : get_or (slot_at y k p m) (4 * k + 2) 0 ≡ 0
  slot_low =
      get_or-set_other (set (set (set y (4 * k) p) (4 * k + 1) m) (4 * k + 2) 0) (4 * k + 3) (4 * k + 2) 0 0 (λ z. omega arith)
      ∙ get_or-set_same (set (set y (4 * k) p) (4 * k + 1) m) (4 * k + 2) 0 0 (omega (arith, length-set y (4 * k) p, length-set (set y (4 * k) p) (4 * k + 1) m))

  slot_high : get_or (slot_at y k p m) (4 * k + 3) 0 ≡ 0
  slot_high =
      get_or-set_same (set (set (set y (4 * k) p) (4 * k + 1) m) (4 * k + 2) 0) (4 * k + 3) 0 0
      (omega (arith, length-set y (4 * k) p, length-set (set y (4 * k) p) (4 * k + 1) m, length-set (set (set y (4 * k) p) (4 * k + 1) m) (4 * k + 2) 0))

  slot_child : (h : ℕ) → child_in (slot_at y k p m) k h ≡ 0
  slot_child h = go (h % 2) refl
    where
      go : (b : ℕ) → h % 2 ≡ b → get_or (slot_at y k p m) (4 * k + 2 + h % 2) 0 ≡ 0
      go zero e = let z : 4 * k + 2 + h % 2 ≡ 4 * k + 2 = omega arith in rw z slot_low
      go (suc zero) e = let z : 4 * k + 2 + h % 2 ≡ 4 * k + 3 = omega arith in rw z slot_high
      go (suc (suc b)) e = absurd (omega arith)

-- the numbers of y' beside those of y: one slot more, and perhaps one child that was none is the new slot
pub record Grown (s y y' : List ℕ) (first k p : ℕ) : Type 0 where
  long : length y' ≡ length y
  before : take (4 * first) y' ≡ take (4 * first) y
  start : start_in y' k ≡ p
  mark : mark_in y' k ≡ mark_at s p
  leaf : (h : ℕ) → child_in y' k h ≡ 0
  starts : (j : ℕ) → j < k → start_in y' j ≡ start_in y j
  marks : (j : ℕ) → j < k → mark_in y' j ≡ mark_in y j
  kept : (j h : ℕ) → j < k → ¬ (child_in y j h ≡ 0) → child_in y' j h ≡ child_in y j h
  linked : (j h : ℕ) → j < k → child_in y j h ≡ 0 → (child_in y' j h ≡ 0) ⊎ (child_in y' j h ≡ k)
  rest : ℕ
  path : Path y' (mark_at s p) first rest k

module _ {s y y' : List ℕ} {first k p : ℕ} (g : Indexed s y first k) (fits : Fits y k p) (w : Grown s y y' first k p) where
  old : (j : ℕ) → first ≤ j → j < k → Slot s y' first (k + 1) j
  old j a b =
      let t = g.slots j a b in
      let f : start_in y' j ≡ start_in y j = w.starts j b in
      record {
        marked = w.marks j b ∙ t.marked ∙ ap (mark_at s) (sym f);
        rest = t.rest;
        path = rw f (path_same s y y' first k g.slots (λ i h c d n. w.kept i h d n) (omega arith) (omega arith) t.path);
        behind = λ h n. go h n (child_in y j h) refl;
      }
    where
      linked_behind : (h : ℕ) → ¬ (child_in y' j h ≡ 0) → (child_in y' j h ≡ 0) ⊎ (child_in y' j h ≡ k) → (j < child_in y' j h) × (child_in y' j h < k + 1)
      linked_behind h n (inl z) = absurd (n z)
      linked_behind h n (inr z) = (omega arith, omega arith)

      go : (h : ℕ) → ¬ (child_in y' j h ≡ 0) → (c : ℕ) → child_in y j h ≡ c → (j < child_in y' j h) × (child_in y' j h < k + 1)
      go h n zero e = linked_behind h n (w.linked j h b e)
      go h n (suc c) e =
          let v : ¬ (child_in y j h ≡ 0) = (λ z. omega arith) in
          let x = (g.slots j a b).behind h v in
          let d : child_in y' j h ≡ child_in y j h = w.kept j h b v in
          (omega arith, omega arith)

  new : Slot s y' first (k + 1) k
  new = record {
    marked = w.mark ∙ ap (mark_at s) (sym w.start);
    rest = w.rest;
    path = rw w.start w.path;
    behind = λ h n. absurd (n (w.leaf h));
  }

  grown_slots : (j : ℕ) → first ≤ j → j < k + 1 → Slot s y' first (k + 1) j
  grown_slots j a b = go (k - j) refl
    where
      go : (d : ℕ) → k - j ≡ d → Slot s y' first (k + 1) j
      go zero e = let z : j ≡ k = omega arith in rw z new
      go (suc d) e = old j a (omega arith)

  pub grown : Inserted s y y' first k p
  grown =
      let z : k + 1 - first ≡ suc (k - first) = omega (arith, g.low) in
      let v : first + (k - first) ≡ k = omega (arith, g.low) in
      record {
        indexed = record { low = omega (arith, g.low); room = omega (arith, w.long, fits.room); slots = grown_slots };
        starts = rw z (starts_snoc y' (k - first) first ∙ rw (v, w.start, starts_same y y' (k - first) first (λ i a b. w.starts i (omega arith))));
        same = w.before;
        long = w.long;
      }

-- ---- as the code goes

-- the walk to where the path ends: y₁ has the new slot already, and the slot j is met with h left of the mark m
pub record Walking (y₁ y' : List ℕ) (first k m h j : ℕ) : Type 0 where
  pub is : y' ≡ y₁
  pub low : first ≤ j
  pub high : j < k
  pub path : Path y₁ m first h j

module _ {s y : List ℕ} {first k p m : ℕ} (g : Indexed s y first k) (fits : Fits y k p) (e : m ≡ mark_at s p) where
  -- the first key of its object
  pub insert_first : {y' : List ℕ} → y' ≡ slot_at y k p m → k ≤ first → Inserted s y y' first k p
  insert_first f h =
      let z : first ≡ k = omega (arith, g.low) in
      rw f
      (grown g fits
      (record {
        long = slot_long y k p m fits.room;
        before = slot_take y k p m fits.room (4 * first) (omega arith);
        start = slot_start y k p m fits.room;
        mark = slot_mark y k p m fits.room ∙ e;
        leaf = slot_child y k p m fits.room;
        starts = λ j b. slot_other y k p m fits.room (4 * j) (omega arith);
        marks = λ j b. slot_other y k p m fits.room (4 * j + 1) (omega arith);
        kept = λ j h b n. slot_other y k p m fits.room (4 * j + 2 + h % 2) (omega arith);
        linked = λ j h b n. inl (slot_other y k p m fits.room (4 * j + 2 + h % 2) (omega arith) ∙ n);
        rest = mark_at s p;
        path = rw z here;
      }))

  pub walk_start : first < k → Walking (slot_at y k p m) (slot_at y k p m) first k m m first
  walk_start h = record { is = refl; low = omega arith; high = h; path = here }

  put : Indexed s (slot_at y k p m) first k
  put = indexed_kept y (slot_at y k p m) k (slot_take y k p m fits.room (4 * k) (omega arith)) s first g

  module _ {y' : List ℕ} {h j : ℕ} (w : Walking (slot_at y k p m) y' first k m h j) where
    -- the number that the code reads is the child
    child_is : child_in y' j h ≡ child_in y j h
    child_is = rw w.is (slot_other y k p m fits.room (4 * j + 2 + h % 2) (omega (arith, w.high)))

    pub walk_long : length y' ≡ length y
    walk_long = rw w.is (slot_long y k p m fits.room)

    module _ {c : ℕ} (d : c ≡ child_in y' j h) (n : ¬ (c ≡ 0)) where
      met_is : c ≡ child_in (slot_at y k p m) j h
      met_is = rw w.is at d

      pub walk_less : (j < c) × (c < k)
      walk_less =
          let z = met_is in
          let b = (put.slots j w.low w.high).behind h (λ v. n (met_is ∙ v)) in
          (omega arith, omega arith)

      pub walk_more : Walking (slot_at y k p m) y' first k m (h / 2) c
      walk_more =
          let b = walk_less in
          record { is = w.is; low = omega (arith, w.low); high = omega arith; path = rw met_is (path_more w.path (λ v. n (met_is ∙ v))) }

    -- the path ends: the new slot is its child
    module _ (none : child_in y' j h ≡ 0) where
      was_none : child_in y j h ≡ 0
      was_none = sym child_is ∙ none

      abbrev linked_to : List ℕ
      linked_to = set (slot_at y k p m) (4 * j + 2 + h % 2) k

      link_other : (i : ℕ) → ¬ (i ≡ 4 * j + 2 + h % 2) → get_or linked_to i 0 ≡ get_or (slot_at y k p m) i 0
      link_other i n = get_or-set_other (slot_at y k p m) (4 * j + 2 + h % 2) i k 0 n

      link_same : child_in linked_to j h ≡ k
      link_same = get_or-set_same (slot_at y k p m) (4 * j + 2 + h % 2) k 0 (omega (arith, slot_long y k p m fits.room, w.high, fits.room))

      -- a child of an old slot: it is the place that is linked, or as it was
      link_child : (i a : ℕ) → i < k → ((child_in linked_to i a ≡ k) × (child_in y i a ≡ 0)) ⊎ (child_in linked_to i a ≡ child_in y i a)
      link_child i a b = go (i - j) (j - i) (a % 2) (h % 2) refl refl refl refl
        where
          same : ¬ (4 * i + 2 + a % 2 ≡ 4 * j + 2 + h % 2) → ((child_in linked_to i a ≡ k) × (child_in y i a ≡ 0)) ⊎ (child_in linked_to i a ≡ child_in y i a)
          same n = inr (link_other (4 * i + 2 + a % 2) n ∙ slot_other y k p m fits.room (4 * i + 2 + a % 2) (omega arith))

          met : 4 * i + 2 + a % 2 ≡ 4 * j + 2 + h % 2 → ((child_in linked_to i a ≡ k) × (child_in y i a ≡ 0)) ⊎ (child_in linked_to i a ≡ child_in y i a)
          met z = inl (rw z link_same, rw z was_none)

          go : (u v c d : ℕ) → i - j ≡ u → j - i ≡ v → a % 2 ≡ c → h % 2 ≡ d → ((child_in linked_to i a ≡ k) × (child_in y i a ≡ 0)) ⊎ (child_in linked_to i a ≡ child_in y i a)
          go (suc u) v c d eu ev ec ed = same (λ z. omega arith)
          go zero (suc v) c d eu ev ec ed = same (λ z. omega arith)
          go zero zero zero zero eu ev ec ed = met (omega arith)
          go zero zero (suc c) zero eu ev ec ed = same (λ z. omega arith)
          go zero zero zero (suc d) eu ev ec ed = same (λ z. omega arith)
          go zero zero (suc c) (suc d) eu ev ec ed = met (omega arith)

      link_kept : (i a : ℕ) → i < k → ¬ (child_in y i a ≡ 0) → child_in linked_to i a ≡ child_in y i a
      link_kept i a b n = go (link_child i a b)
        where
          go : ((child_in linked_to i a ≡ k) × (child_in y i a ≡ 0)) ⊎ (child_in linked_to i a ≡ child_in y i a) → child_in linked_to i a ≡ child_in y i a
          go (inl z) = absurd (n z.1)
          go (inr z) = z

      link_linked : (i a : ℕ) → i < k → child_in y i a ≡ 0 → (child_in linked_to i a ≡ 0) ⊎ (child_in linked_to i a ≡ k)
      link_linked i a b n = go (link_child i a b)
        where
          go : ((child_in linked_to i a ≡ k) × (child_in y i a ≡ 0)) ⊎ (child_in linked_to i a ≡ child_in y i a) → (child_in linked_to i a ≡ 0) ⊎ (child_in linked_to i a ≡ k)
          go (inl z) = inr z.0
          go (inr z) = inl (z ∙ n)

      link_path : Path linked_to (mark_at s p) first (h / 2) k
      link_path =
          let was : (i a : ℕ) → i < k → child_in (slot_at y k p m) i a ≡ child_in y i a = (λ i a b. slot_other y k p m fits.room (4 * i + 2 + a % 2) (omega arith)) in
          let old : Path linked_to m first h j =
          path_same s (slot_at y k p m) linked_to first k put.slots (λ i a b c n. link_kept i a c (λ z. n (was i a c ∙ z)) ∙ sym (was i a c)) (omega arith) (omega (arith, w.low, w.high)) w.path in
          let some : ¬ (child_in linked_to j h ≡ 0) = (λ z. omega (arith, link_same, w.high)) in
          let more : Path linked_to m first (h / 2) (child_in linked_to j h) = path_more old some in
          rw (← e) (subst (λ (x : ℕ). Path linked_to m first (h / 2) x) link_same more)

      linked_slot : Grown s y linked_to first k p
      linked_slot = record {
        long = length-set (slot_at y k p m) (4 * j + 2 + h % 2) k ∙ slot_long y k p m fits.room;
        before = take-set-le (4 * first) (slot_at y k p m) (4 * j + 2 + h % 2) k (omega (arith, w.low)) ∙ slot_take y k p m fits.room (4 * first) (omega (arith, g.low));
        start = link_other (4 * k) (λ z. omega (arith, w.high)) ∙ slot_start y k p m fits.room;
        mark = link_other (4 * k + 1) (λ z. omega (arith, w.high)) ∙ slot_mark y k p m fits.room ∙ e;
        leaf = λ a. link_other (4 * k + 2 + a % 2) (λ z. omega (arith, w.high)) ∙ slot_child y k p m fits.room a;
        starts = λ i b. link_other (4 * i) (λ z. omega arith) ∙ slot_other y k p m fits.room (4 * i) (omega arith);
        marks = λ i b. link_other (4 * i + 1) (λ z. omega arith) ∙ slot_other y k p m fits.room (4 * i + 1) (omega arith);
        kept = link_kept;
        linked = link_linked;
        rest = h / 2;
        path = link_path;
      }

      pub insert_linked : (a : ℕ) → a ≡ h % 2 → Inserted s y (set y' (4 * j + 2 + a) k) first k p
      insert_linked a f = rw (f, w.is) (grown g fits linked_slot)
