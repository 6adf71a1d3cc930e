-- Laws on trivia: what stands at a place, from the bytes that the code looks at.
use Prim.Native.Nat.{ℕ, zero, suc, ◌+◌, ◌-◌, ◌≤◌, ◌<◌}
use mathlib.Core.Path.{◌≡◌, refl, sym, ap, ◌∙◌}
use mathlib.Core.List.{List, [], ◌∷◌}
use mathlib.Core.Bool.{Bool, true, false, cond, ◌&&◌, ◌||◌, and-false}
use native.Mathlib.Nat.{add-zero}
use native.Mathlib.Decide.{dec_lt}
use native.Mathlib.Omega.{arith}
use lib.ListN.{length, get_or, drop}
use lib.Dec.{eqb, ltb}
use lib.Seq.{drop-drop}
use borrow.Author.Tests.{ne_eqb, lt-ltb, eqb-true}
use Rattle.std.specs.Prelude.{Result, Ok, Err}
use Rattle.std.specs.Result.{IsErrAnd}
use Rattle.lexis.specs.declared.trivia.Unclosed.{Unclosed}
use Rattle.lexis.specs.Bytes.{byte_at, is_space, begins, stands, up_to}
use Rattle.lexis.specs.Trivia.{ending, ends_line, opens_comment, comment, Item, none, wide, endless, block_as, closes, block, line_item, item, Gap, ends_at, open_at, gap_of, placed, gap, gap_to, Ending, Gapped, Stopping, stop_at, stop_comment, line_comment, stop_to}
use Rattle.lexis.specs.RunLaws.{default, clash, and_right, stands_cons, stands_one, stands_two, stands_inside, here, reach, reach_on, reach_stop, front, next, empty, left}
use Rattle.lexis.specs.TriviaLaws.{item_nil, comment_end, gap_low, gap_high, gap_inside}

-- the width of a line comment with its ending
abbrev width : List ℕ → ℕ
width xs = comment xs + ending (drop (comment xs) xs)

cond_same : {A : Type 0} (b : Bool) (x : A) → cond b x x ≡ x
cond_same true x = refl
cond_same false x = refl

module _ (s : List ℕ) (p : ℕ) where
  -- a line ending, byte by byte
  ending_is : ending (drop p s) ≡ cond (eqb (byte_at s p) 10) 1 (cond (eqb (byte_at s p) 13 && stands (10 ∷ []) s (p + 1)) 2 0)
  ending_is = rw (stands_one 10 s p refl, stands_cons 13 (10 ∷ []) s p refl)

  pub ending_lf : byte_at s p ≡ 10 → ending (drop p s) ≡ 1
  ending_lf e = ending_is ∙ rw e

  pub ending_cr : byte_at s p ≡ 13 → ending (drop p s) ≡ cond (stands (10 ∷ []) s (p + 1)) 2 0
  ending_cr e = ending_is ∙ rw e

  pub ending_none : (byte_at s p ≡ 10 → ⊥) → (byte_at s p ≡ 13 → ⊥) → ending (drop p s) ≡ 0
  ending_none n m = ending_is ∙ rw (ne_eqb (byte_at s p) 10 n, ne_eqb (byte_at s p) 13 m)

  -- a line comment whose text ends at i
  pub comment_at : {i : ℕ} → reach ends_line s p ≡ i → line_comment p (drop p s) ≡ stop_comment i (ending (drop i s))
  comment_at e = rw (drop-drop (comment (drop p s)) p s, e)

  -- where `#` or a slash stands no line ends
  pub past_hash : byte_at s p ≡ 35 → reach ends_line s (p + 1) ≡ reach ends_line s p
  past_hash e = let f : ends_line (drop p s) ≡ false = rw (ending_is, e) in reach_on ends_line s p (omega (arith, here s p)) f

  pub past_slash : byte_at s p ≡ 47 → reach ends_line s (p + 1) ≡ reach ends_line s p
  past_slash e = let f : ends_line (drop p s) ≡ false = rw (ending_is, e) in reach_on ends_line s p (omega (arith, here s p)) f

-- so a line comment may be read from behind its mark
module _ (s : List ℕ) (p : ℕ) where
  comment_same : (q : ℕ) → reach ends_line s q ≡ reach ends_line s p → line_comment q (drop q s) ≡ line_comment p (drop p s)
  comment_same q e = comment_at s q e ∙ sym (comment_at s p refl)

  pub comment_hash : byte_at s p ≡ 35 → line_comment (p + 1) (drop (p + 1) s) ≡ line_comment p (drop p s)
  comment_hash e = comment_same (p + 1) (past_hash s p e)

  pub comment_slashes : byte_at s p ≡ 47 → byte_at s (p + 1) ≡ 47 → line_comment (p + 2) (drop (p + 2) s) ≡ line_comment p (drop p s)
  comment_slashes e f =
      let g : p + 1 + 1 ≡ p + 2 = omega arith in
      comment_same (p + 2) (ap (reach ends_line s) (sym g) ∙ past_slash s (p + 1) f ∙ past_slash s p e)

-- a line comment, byte by byte: it ends behind the first LF. Before that LF a CR may stand, with which the line ending begins
module _ (s : List ℕ) (i : ℕ) where
  pub comment_lf : byte_at s i ≡ 10 → stop_at 1 (i + 1) ≡ line_comment i (drop i s)
  comment_lf e =
      let f : ends_line (drop i s) ≡ true = rw (ending_lf s i e) in
      sym (comment_at s i (reach_stop ends_line s i f) ∙ ap (stop_comment i) (ending_lf s i e))

  comment_crlf : ending (drop i s) ≡ 2 → stop_at 1 (i + 2) ≡ line_comment i (drop i s)
  comment_crlf e =
      let f : ends_line (drop i s) ≡ true = rw e in
      sym (comment_at s i (reach_stop ends_line s i f) ∙ ap (stop_comment i) e)

module _ (s : List ℕ) (i : ℕ) where
  pub comment_step : i < length s → (byte_at s i ≡ 10 → ⊥) → line_comment (i + 1) (drop (i + 1) s) ≡ line_comment i (drop i s)
  comment_step h n = go (eqb (byte_at s i) 13 && stands (10 ∷ []) s (i + 1)) refl
    where
      go : (b : Bool) → (eqb (byte_at s i) 13 && stands (10 ∷ []) s (i + 1)) ≡ b → line_comment (i + 1) (drop (i + 1) s) ≡ line_comment i (drop i s)
      go false e =
          let f : ends_line (drop i s) ≡ false = rw (ending_is s i, ne_eqb (byte_at s i) 10 n, e) in
          comment_same s i (i + 1) (reach_on ends_line s i h f)
      go true e =
          let f : ending (drop i s) ≡ 2 = ending_is s i ∙ rw (ne_eqb (byte_at s i) 10 n, e) in
          let g : byte_at s (i + 1) ≡ 10 = eqb-true (byte_at s (i + 1)) 10 (sym (stands_one 10 s (i + 1) refl) ∙ and_right (eqb (byte_at s i) 13) (stands (10 ∷ []) s (i + 1)) e) in
          sym (comment_lf s (i + 1) g) ∙ ap (stop_at 1) (omega arith) ∙ comment_crlf s i f

module _ (s : List ℕ) (p : ℕ) where
  pub comment_cut : {i : ℕ} → length s ≤ i → reach ends_line s p ≡ i → stop_at 2 i ≡ line_comment p (drop p s)
  unfolding begins
  comment_cut {i} h e = sym (comment_at s p e ∙ rw (empty s i))

  comment_ends : {e : Stopping} → e ≡ line_comment p (drop p s) → e.at ≡ p + width (drop p s)
  comment_ends h = rw h (comment_end p (drop p s) ∙ omega arith)

  -- the code's width of a line ending, as a test
  pub line_ends : {w : ℕ} → Ending s p w → (w ≡ 0 → ⊥) → ends_line (drop p s) ≡ true
  line_ends {w} h n = rw (← h.is) (lt-ltb 0 w (omega arith))

  pub line_on : {w : ℕ} → Ending s p w → w ≡ 0 → ends_line (drop p s) ≡ false
  line_on h e = rw (← h.is, e)

  -- whether a block comment ends with the byte at p, by that byte and the one before it; nothing closes it from the source's last byte on
  module _ (l : 1 ≤ p) (h : p < length s) where
    closes_is : closes (drop (p - 1) s) ≡ (eqb (get_or s (p - 1) 0) 42 && eqb (get_or s p 0) 47)
    closes_is =
        let e : p - 1 + 1 ≡ p = omega arith in
        stands_two 42 47 s (p - 1) refl refl ∙ rw (default s (p - 1) 256 0 (omega arith), e, default s p 256 0 h)

    pub closes_here : get_or s (p - 1) 0 ≡ 42 → get_or s p 0 ≡ 47 → closes (drop (p - 1) s) ≡ true
    closes_here e f = closes_is ∙ rw (e, f)

    pub closes_half : (get_or s (p - 1) 0 ≡ 42 → ⊥) → closes (drop (p - 1) s) ≡ false
    closes_half n = closes_is ∙ rw (ne_eqb (get_or s (p - 1) 0) 42 n)

    pub closes_not : (get_or s p 0 ≡ 47 → ⊥) → closes (drop (p - 1) s) ≡ false
    closes_not n = closes_is ∙ rw (ne_eqb (get_or s p 0) 47 n) (and-false (eqb (get_or s (p - 1) 0) 42))

  pub closes_late : length s ≤ p + 1 → length s ≤ reach closes s p
  closes_late h = go (dec_lt p (length s)) (closes (drop p s)) refl
    where
      go : Dec (p < length s) → (b : Bool) → closes (drop p s) ≡ b → length s ≤ reach closes s p
      go (no l) b e = omega arith
      go (yes l) true e = absurd (omega (arith, stands_inside (42 ∷ 47 ∷ []) s p e))
      go (yes l) false e = omega (arith, reach_on closes s p l e)

  -- a block comment whose text ends at i
  block_at : {i : ℕ} → reach closes s (p + 2) ≡ i → block (drop (p + 2) s) ≡ block_as (up_to closes (drop (p + 2) s)) (drop i s)
  block_at e = rw (drop-drop (up_to closes (drop (p + 2) s)) (p + 2) s, e)

  pub block_found : {i : ℕ} → i < length s → reach closes s (p + 2) ≡ i → placed p (block (drop (p + 2) s)) ≡ ends_at (i + 2)
  block_found {i} h e = ap (placed p) (block_at e) ∙ rw (next s i) (ap ends_at (omega arith))

  pub block_endless : {i : ℕ} → length s ≤ i → reach closes s (p + 2) ≡ i → placed p (block (drop (p + 2) s)) ≡ open_at p
  block_endless {i} h e = ap (placed p) (block_at e) ∙ rw (empty s i)

  -- what only the trivia of several lines has, byte by byte
  line_is : line_item (drop p s)
      ≡ cond (ltb 0 (ending (drop p s))) (wide (ending (drop p s)))
      (cond (eqb (byte_at s p) 35 || (eqb (byte_at s p) 47 && eqb (byte_at s (p + 1)) 47)) (wide (width (drop p s))) none)
  line_is = rw (stands_one 35 s p refl, stands_two 47 47 s p refl refl)

  module _ (lines : Bool) where
    item_is : item lines (drop p s)
        ≡ cond (is_space (byte_at s p)) (wide 1)
        (cond (eqb (byte_at s p) 47 && eqb (byte_at s (p + 1)) 42) (block (drop (p + 2) s)) (cond lines (line_item (drop p s)) none))
    unfolding item
    item_is = rw (front s p, stands_two 47 42 s p refl refl, drop-drop 2 p s)

    pub item_space : is_space (byte_at s p) ≡ true → item lines (drop p s) ≡ wide 1
    item_space e = item_is ∙ rw e

    pub item_block : byte_at s p ≡ 47 → byte_at s (p + 1) ≡ 42 → item lines (drop p s) ≡ block (drop (p + 2) s)
    item_block e f = item_is ∙ rw (e, f)

    pub item_slash : byte_at s p ≡ 47 → (byte_at s (p + 1) ≡ 42 → ⊥) → (byte_at s (p + 1) ≡ 47 → ⊥) → item lines (drop p s) ≡ none
    item_slash e n m =
        item_is ∙ rw (line_is, ending_is s p, e, ne_eqb (byte_at s (p + 1)) 42 n, ne_eqb (byte_at s (p + 1)) 47 m) (cond_same lines none)

    -- trivia of one line has no line comment, and nothing but space and what starts with a slash
    module _ (l : lines ≡ false) where
      pub item_single : is_space (byte_at s p) ≡ false → (byte_at s p ≡ 47 → ⊥) → item lines (drop p s) ≡ none
      item_single e n = item_is ∙ rw (e, ne_eqb (byte_at s p) 47 n, l)

      pub item_slashes : byte_at s p ≡ 47 → byte_at s (p + 1) ≡ 47 → item lines (drop p s) ≡ none
      item_slashes e f = item_is ∙ rw (e, f, l)

    -- trivia of several lines has line comments and line endings
    module _ (l : lines ≡ true) where
      slashes_comment : byte_at s p ≡ 47 → byte_at s (p + 1) ≡ 47 → item lines (drop p s) ≡ wide (width (drop p s))
      slashes_comment e f = item_is ∙ rw (line_is, ending_is s p, e, f, l)

      hash_comment : byte_at s p ≡ 35 → item lines (drop p s) ≡ wide (width (drop p s))
      hash_comment e = item_is ∙ rw (line_is, ending_is s p, e, l)

      pub item_comment : {e : Stopping} → e ≡ line_comment p (drop p s) → byte_at s p ≡ 47 → byte_at s (p + 1) ≡ 47
          → ends_at e.at ≡ placed p (item lines (drop p s))
      item_comment h f g = rw (slashes_comment f g, comment_ends h)

      pub item_hash : {e : Stopping} → e ≡ line_comment p (drop p s) → byte_at s p ≡ 35 → ends_at e.at ≡ placed p (item lines (drop p s))
      item_hash h f = rw (hash_comment f, comment_ends h)

      pub item_ending : {w : ℕ} → is_space (byte_at s p) ≡ false → (byte_at s p ≡ 47 → ⊥) → (byte_at s p ≡ 35 → ⊥) → w ≡ ending (drop p s)
          → ends_at (p + w) ≡ placed p (item lines (drop p s))
      item_ending {w} e n m h = sym (ap (placed p) ends ∙ widths w)
        where
          ends : item lines (drop p s) ≡ cond (ltb 0 w) (wide w) none
          ends = item_is ∙ rw (e, ne_eqb (byte_at s p) 47 n, l, line_is, ne_eqb (byte_at s p) 47 n, ne_eqb (byte_at s p) 35 m, ← h)

          widths : (k : ℕ) → placed p (cond (ltb 0 k) (wide k) none) ≡ ends_at (p + k)
          widths zero = ap ends_at (omega arith)
          widths (suc k) = rw (lt-ltb 0 (suc k) (omega arith))

  -- a byte over the space that is neither `#` nor a slash starts no trivia
  pub item_other : (lines : Bool) → 32 < byte_at s p → (byte_at s p ≡ 47 → ⊥) → (byte_at s p ≡ 35 → ⊥) → ends_at p ≡ placed p (item lines (drop p s))
  item_other true h n m = ap ends_at (omega arith) ∙ item_ending true refl {w = 0} unspaced n m (sym (ending_none s p (λ z. omega arith) (λ z. omega arith)))
    where
      unspaced : is_space (byte_at s p) ≡ false
      unspaced = rw (ne_eqb (byte_at s p) 32 (λ z. omega arith), ne_eqb (byte_at s p) 9 (λ z. omega arith))
  item_other false h n m = sym (ap (placed p) (item_single false refl unspaced n))
    where
      unspaced : is_space (byte_at s p) ≡ false
      unspaced = rw (ne_eqb (byte_at s p) 32 (λ z. omega arith), ne_eqb (byte_at s p) 9 (λ z. omega arith))

  pub item_beyond : (lines : Bool) → 47 < byte_at s p → ends_at p ≡ placed p (item lines (drop p s))
  item_beyond lines h = item_other lines (omega arith) (λ z. omega arith) (λ z. omega arith)

  -- what ends an object's item, byte by byte
  stop_is : stop_to s p
      ≡ cond (eqb (byte_at s p) 44) (stop_at 1 (p + 1))
      (cond (ends_line (drop p s)) (stop_at 1 (p + ending (drop p s)))
      (cond (eqb (byte_at s p) 35 || (eqb (byte_at s p) 47 && stands (47 ∷ []) s (p + 1))) (line_comment p (drop p s)) (stop_at 0 p)))
  stop_is = rw (stands_one 44 s p refl, stands_one 35 s p refl, stands_cons 47 (47 ∷ []) s p refl)

  pub stop_comma : byte_at s p ≡ 44 → stop_to s p ≡ stop_at 1 (p + 1)
  stop_comma e = stop_is ∙ rw e

  pub stop_hash : byte_at s p ≡ 35 → stop_to s p ≡ line_comment p (drop p s)
  stop_hash e = stop_is ∙ rw (ending_is s p, e)

  pub stop_slashes : {b : Bool} → b ≡ stands (47 ∷ []) s (p + 1) → b ≡ true → byte_at s (p + 1) ≡ 47
  stop_slashes f g = eqb-true (byte_at s (p + 1)) 47 (sym (stands_one 47 s (p + 1) refl) ∙ sym f ∙ g)

  pub stop_slash : {b : Bool} → byte_at s p ≡ 47 → b ≡ stands (47 ∷ []) s (p + 1) → stop_to s p ≡ cond b (line_comment p (drop p s)) (stop_at 0 p)
  stop_slash e f = stop_is ∙ rw (ending_is s p, e, ← f)

  module _ (n : byte_at s p ≡ 44 → ⊥) (m : byte_at s p ≡ 35 → ⊥) (k : byte_at s p ≡ 47 → ⊥) {w : ℕ} (h : Ending s p w) where
    pub stop_line : (w ≡ 0 → ⊥) → stop_to s p ≡ stop_at 1 (p + w)
    stop_line f = stop_is ∙ rw (ne_eqb (byte_at s p) 44 n, line_ends h f, ← h.is)

    pub stop_none : w ≡ 0 → stop_to s p ≡ stop_at 0 p
    stop_none f = stop_is ∙ rw (ne_eqb (byte_at s p) 44 n, line_on h f, ne_eqb (byte_at s p) 35 m, ne_eqb (byte_at s p) 47 k)

-- trivia goes on past the bytes that are left of an item
gap_pass : (lines : Bool) (p n : ℕ) (xs : List ℕ) → n ≤ length xs → gap lines p n xs ≡ gap lines (p + n) 0 (drop n xs)
unfolding gap
gap_pass lines p zero xs h = rw add-zero
gap_pass lines p (suc n) [] h = absurd (omega arith)
gap_pass lines p (suc n) (x ∷ xs) h = gap_pass lines (suc p) n xs (omega arith) ∙ ap (λ (q : ℕ). gap lines q 0 (drop n xs)) (omega arith)

-- where the item at i ends at i, trivia ends there; where it ends behind i, trivia goes on from its end
stop_as : (lines : Bool) (i : ℕ) (xs : List ℕ) (x : Item) → item lines xs ≡ x → (placed i x).at ≡ i → gap lines i 0 xs ≡ placed i x
unfolding gap
stop_as lines i [] x e h = ap (placed i) (sym (item_nil lines) ∙ e)
stop_as lines i (y ∷ ys) none e h = rw e
stop_as lines i (y ∷ ys) (wide zero) e h = rw e (ap ends_at (omega arith))
stop_as lines i (y ∷ ys) (wide (suc n)) e h = absurd (omega arith)
stop_as lines i (y ∷ ys) endless e h = rw e

on_as : (lines : Bool) (i : ℕ) (xs : List ℕ) (x : Item) → item lines xs ≡ x → ((placed i x).at ≡ i → ⊥) → (placed i x).at ≤ i + length xs
    → gap lines (placed i x).at 0 (drop ((placed i x).at - i) xs) ≡ gap lines i 0 xs
unfolding gap
on_as lines i xs none e n h = absurd (n refl)
on_as lines i xs endless e n h = absurd (n refl)
on_as lines i xs (wide zero) e n h = absurd (n (omega arith))
on_as lines i [] (wide (suc k)) e n h = absurd (omega arith)
on_as lines i (y ∷ ys) (wide (suc k)) e n h =
    let g : i + suc k - i ≡ suc k = omega arith in
    rw (e, g) (ap (λ (q : ℕ). gap lines q 0 (drop k ys)) (omega arith) ∙ sym (gap_pass lines (suc i) k ys (omega arith)))

-- a block comment that nothing closes is an item where it starts
opened : (i : ℕ) (x : Item) {a : ℕ} → open_at a ≡ placed i x → a ≡ i
opened i none e = clash (ap (λ (g : Gap). g.unclosed) e)
opened i (wide n) e = clash (ap (λ (g : Gap). g.unclosed) e)
opened i endless e = ap (λ (g : Gap). g.at) e

module _ (lines : Bool) (s : List ℕ) (i : ℕ) {g : Gap} (is : g ≡ placed i (item lines (drop i s))) where
  pub gap_stop : g.at ≡ i → g ≡ gap_to lines s i
  gap_stop h = is ∙ sym (stop_as lines i (drop i s) (item lines (drop i s)) refl (sym (ap (λ (x : Gap). x.at) is) ∙ h))

  pub gap_on : (g.at ≡ i → ⊥) → i ≤ g.at → g.at ≤ i + (length s - i) → gap_to lines s g.at ≡ gap_to lines s i
  gap_on n l h =
      let at : (placed i (item lines (drop i s))).at ≡ g.at = ap (λ (x : Gap). x.at) (sym is) in
      let back : i + (g.at - i) ≡ g.at = omega arith in
      rw (at, drop-drop (g.at - i) i s, back) at
      (on_as lines i (drop i s) (item lines (drop i s)) refl (λ f. n (sym at ∙ f)) (omega (arith, left s i, at)))

-- what a `?` hands on
pub gap_open : (lines : Bool) (s : List ℕ) (i : ℕ) (r : Result ℕ Unclosed) (e : Unclosed) → IsErrAnd r (λ y. y ≡ e)
    → open_at e.at ≡ placed i (item lines (drop i s)) → gap_of r ≡ gap_to lines s i
gap_open lines s i (Ok q) e h is = absurd h
gap_open lines s i (Err y) e h is = ap gap_of (ap Err h) ∙ gap_stop lines s i is (opened i (item lines (drop i s)) is)

-- past a space, and where a byte starts no trivia
module _ (lines : Bool) (s : List ℕ) (i : ℕ) where
  pub gap_space : byte_at s i ≡ 32 → gap_to lines s (i + 1) ≡ gap_to lines s i
  gap_space e =
      let f : is_space (byte_at s i) ≡ true = rw e in
      gap_on lines s i {g = ends_at (i + 1)} (sym (ap (placed i) (item_space s i lines f))) (λ z. omega arith) (omega arith) (omega (arith, here s i))

  pub gap_other : 32 < byte_at s i → opens_comment (byte_at s i) ≡ false → ends_at i ≡ gap_to lines s i
  gap_other h e =
      let n : (k : ℕ) → opens_comment k ≡ true → byte_at s i ≡ k → ⊥ = λ k t z. clash (sym t ∙ ap opens_comment (sym z) ∙ e) in
      gap_stop lines s i (item_other s i lines h (n 47 refl) (n 35 refl)) refl

pub gapped : {lines : Bool} {s : List ℕ} {p : ℕ} (g : Gap) → g ≡ gap_to lines s p → Gapped lines s p g
gapped {lines} {s} {p} g e =
    record { is = e; low = rw e (gap_low s p lines); high = rw e (gap_high s p lines); inside = rw e (gap_inside s p lines) }
