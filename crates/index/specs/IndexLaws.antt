-- What holds of an object's slots: they turn only on the numbers before the k-th slot, and no slots are the slots of an object without keys.
use Rattle.std.specs.Prelude.{ℕ, zero, suc, ◌+◌, ◌-◌, ◌*◌, ◌/◌, ◌%◌, ◌≤◌, ◌<◌, ◌≡◌, refl, List, length, get_or, take}
use Rattle.std.proofs.Common.{sym, ap, ◌∙◌, arith, length-take, get_or-take}
use Rattle.index.specs.Mark.{mark_at}
use Rattle.index.specs.Index.{start_in, child_in, starts_of, starts, Path, here, on, Slot, Indexed}

-- the starts of slots that are the same
pub starts_same : (y y' : List ℕ) (n j : ℕ) → ((i : ℕ) → j ≤ i → i < j + n → start_in y' i ≡ start_in y i) → starts_of y' j n ≡ starts_of y j n
unfolding starts_of
starts_same y y' zero j h = refl
starts_same y y' (suc n) j h = rw (h j (omega arith) (omega arith), starts_same y y' n (suc j) (λ i a b. h i (omega arith) (omega arith)))

-- a path stays where each child of its slots does
pub path_same : (s y y' : List ℕ) (first k : ℕ) → ((j : ℕ) → first ≤ j → j < k → Slot s y first k j)
    → ((j h : ℕ) → first ≤ j → j < k → ¬ (child_in y j h ≡ 0) → child_in y' j h ≡ child_in y j h)
    → {h j h' j' : ℕ} → first ≤ j → j < k → Path y h j h' j' → Path y' h j h' j'
path_same s y y' first k slots same low high here = here
path_same s y y' first k slots same {h} {j} {h'} {j'} low high (on n p) =
    let b = (slots j low high).behind h n in
    let e : child_in y' j h ≡ child_in y j h = same j h low high n in
    let r : Path y' (h / 2) (child_in y j h) h' j' = path_same s y y' first k slots same (omega arith) b.1 p in
    let r' : Path y' (h / 2) (child_in y' j h) h' j' = rw e r in
    on (λ z. n (sym e ∙ z)) r'

-- a path, and a slot more
pub path_more : {y : List ℕ} {h j h' j' : ℕ} → Path y h j h' j' → ¬ (child_in y j' h' ≡ 0) → Path y h j (h' / 2) (child_in y j' h')
path_more here n = on n here
path_more (on m p) n = on m (path_more p n)

-- the same numbers before the k-th slot
module _ (y y' : List ℕ) (k : ℕ) (e : take (4 * k) y' ≡ take (4 * k) y) where
  number_same : (i : ℕ) → i < 4 * k → get_or y' i 0 ≡ get_or y i 0
  number_same i h = sym (get_or-take (4 * k) y' i 0 h) ∙ ap (λ (l : List ℕ). get_or l i 0) e ∙ get_or-take (4 * k) y i 0 h

  start_same : (j : ℕ) → j < k → start_in y' j ≡ start_in y j
  start_same j h = number_same (4 * j) (omega arith)

  child_same : (j h : ℕ) → j < k → child_in y' j h ≡ child_in y j h
  child_same j h l = number_same (4 * j + 2 + h % 2) (omega arith)

  pub starts_kept : (first : ℕ) → starts y' first k ≡ starts y first k
  starts_kept first = starts_same y y' (k - first) first (λ i a b. start_same i (omega arith))

  pub indexed_kept : (s : List ℕ) (first : ℕ) → Indexed s y first k → Indexed s y' first k
  indexed_kept s first g = record {
    low = g.low;
    room = omega (arith, g.room, length-take (4 * k) y', length-take (4 * k) y, ap (λ (l : List ℕ). length l) e);
    slots = λ j a b.
        let t = g.slots j a b in
        let f : start_in y' j ≡ start_in y j = start_same j b in
        record {
          marked = number_same (4 * j + 1) (omega arith) ∙ t.marked ∙ ap (mark_at s) (sym f);
          rest = t.rest;
          path = rw f (path_same s y y' first k g.slots (λ i h c d n. child_same i h d) (omega arith) (omega arith) t.path);
          behind = λ h n. rw (child_same j h b) (t.behind h (λ z. n (child_same j h b ∙ z)));
        };
  }

-- no slots
pub indexed_none : (s y : List ℕ) (k : ℕ) → 4 * k ≤ length y → Indexed s y k k
indexed_none s y k h = record { low = omega arith; room = h; slots = λ j a b. absurd (omega arith) }
