-- Laws on trivia: its bounds, that it ends where no item of it stands, and that more trivia goes on from where less ends.
use Rattle.std.specs.Prelude.{ℕ, zero, suc, ◌+◌, ◌-◌, ◌≤◌, ◌<◌, ◌≡◌, refl, List, [], ◌∷◌, Bool, true, false, cond, not, ◌&&◌, ◌||◌, ◌⊎◌, length, drop, eqb, T}
use Rattle.std.proofs.Common.{sym, ap, ◌∙◌, inl, inr, add-zero, arith, length-drop, drop-drop, ltb-true}
use Rattle.lexis.specs.Bytes.{byte_at, is_space, begins, up_to}
use Rattle.lexis.specs.Trivia.{ending, ends_line, starts_comment, comment, Item, none, wide, endless, closes, block, block_as, line_item, item, Gap, gap, gap_to, Stopping, stop, stop_at, stop_comment, line_comment}
use Rattle.lexis.specs.RunLaws.{clash, left, other, begins_most, up_most}

-- two items that differ
none_wide : {A : Type 0} {m : ℕ} → none ≡ wide m → A
none_wide e = let z : ◌≡◌ {A = ℕ} 0 1 = cc in absurd (omega arith)

endless_wide : {A : Type 0} {m : ℕ} → endless ≡ wide m → A
endless_wide e = let z : ◌≡◌ {A = ℕ} 0 1 = cc in absurd (omega arith)

endless_none : {A : Type 0} → endless ≡ none → A
endless_none e = let z : ◌≡◌ {A = ℕ} 0 1 = cc in absurd (omega arith)

-- ---- items

pub item_nil : (lines : Bool) → item lines [] ≡ none
unfolding item begins up_to
item_nil true = refl
item_nil false = refl

-- a line comment begins with no line ending, so it has a byte
either : (a b c : Bool) → ((a && true) || (b && c)) ≡ true → (a || b) ≡ true
either true b c e = refl
either false true c e = refl
either false false c e = e

comment_pos : (xs : List ℕ) → starts_comment xs ≡ true → 1 ≤ comment xs
unfolding begins up_to
comment_pos [] e = clash (sym e)
comment_pos (x ∷ xs) e =
    let t : (eqb x 35 || eqb x 47) ≡ true = either (eqb x 35) (eqb x 47) (begins (47 ∷ []) xs) e in
    rw (other (λ y. eqb y 35 || eqb y 47) x 10 t refl, other (λ y. eqb y 35 || eqb y 47) x 13 t refl) (omega arith)

-- so has a block comment, and it is an item
block_as_lem : (n : ℕ) (xs : List ℕ) {m : ℕ} → block_as n xs ≡ wide m → 1 ≤ m
block_as_lem n [] e = endless_wide e
block_as_lem n (x ∷ xs) {m} e = let z : n + 4 ≡ m = cc in omega arith

block_wide : (xs : List ℕ) {m : ℕ} → block xs ≡ wide m → 1 ≤ m
block_wide xs e = block_as_lem (up_to closes xs) (drop (up_to closes xs) xs) e

not_as : (n : ℕ) (xs : List ℕ) {A : Type 0} → block_as n xs ≡ none → A
not_as n [] e = endless_none e
not_as n (x ∷ xs) e = none_wide (sym e)

block_not : (xs : List ℕ) {A : Type 0} → block xs ≡ none → A
block_not xs e = not_as (up_to closes xs) (drop (up_to closes xs) xs) e

-- what only the trivia of several lines has is a line ending or a line comment, and has a byte
pub record Line (xs : List ℕ) (m : ℕ) : Type 0 where
  pub stands : (ends_line xs ≡ true) ⊎ (starts_comment xs ≡ true)
  pub pos : 1 ≤ m

line_as_lem : (xs : List ℕ) (a b : Bool) {m : ℕ} → ends_line xs ≡ a → starts_comment xs ≡ b
    → cond a (wide (ending xs)) (cond b (wide (comment xs + ending (drop (comment xs) xs))) none) ≡ wide m → Line xs m
line_as_lem xs true b {m} p q e = let z : ending xs ≡ m = cc in record { stands = inl p; pos = omega (arith, ltb-true 0 (ending xs) p) }
line_as_lem xs false true {m} p q e =
    let z : comment xs + ending (drop (comment xs) xs) ≡ m = cc in
    record { stands = inr q; pos = omega (arith, comment_pos xs q) }
line_as_lem xs false false p q e = none_wide e

pub line_wide : (xs : List ℕ) {m : ℕ} → line_item xs ≡ wide m → Line xs m
line_wide xs e = line_as_lem xs (ends_line xs) (starts_comment xs) refl refl e

-- an item by its tests: space, a block comment, and the rest where line endings count
item_by : Bool → Bool → Bool → List ℕ → Item
item_by space slash lines xs = cond space (wide 1) (cond slash (block (drop 2 xs)) (cond lines (line_item xs) none))

wide_by : (a b l : Bool) (xs : List ℕ) {m : ℕ} → item_by a b l xs ≡ wide m → 1 ≤ m
unfolding item_by
wide_by true b l xs {m} e = let z : 1 ≡ m = cc in omega arith
wide_by false true l xs e = block_wide (drop 2 xs) e
wide_by false false true xs e = (line_wide xs e).pos
wide_by false false false xs e = none_wide e

more_by : (a b k l : Bool) (xs : List ℕ) {m : ℕ} → T (l || not k) → item_by a b k xs ≡ wide m → item_by a b l xs ≡ wide m
unfolding item_by
more_by true b k l xs t e = e
more_by false true k l xs t e = e
more_by false false true true xs t e = e
more_by false false true false xs t e = absurd t
more_by false false false l xs t e = none_wide e

rest_by : (a b k l : Bool) (xs : List ℕ) {m : ℕ} → item_by a b k xs ≡ none → item_by a b l xs ≡ wide m → Line xs m
unfolding item_by
rest_by true b k l xs f e = none_wide (sym f)
rest_by false true k l xs f e = block_not (drop 2 xs) f
rest_by false false k true xs f e = line_wide xs e
rest_by false false k false xs f e = none_wide e

module _ (xs : List ℕ) where
  -- an item has a byte
  pub item_wide : (l : Bool) {m : ℕ} → item l xs ≡ wide m → 1 ≤ m
  unfolding item item_by
  item_wide l e = wide_by (is_space (byte_at xs 0)) (begins (47 ∷ 42 ∷ []) xs) l xs e

  -- what is trivia of one line is trivia of several
  pub item_more : (k l : Bool) {m : ℕ} → T (l || not k) → item k xs ≡ wide m → item l xs ≡ wide m
  unfolding item item_by
  item_more k l t e = more_by (is_space (byte_at xs 0)) (begins (47 ∷ 42 ∷ []) xs) k l xs t e

  -- where less trivia has no item, more has but line endings and line comments
  pub item_rest : (k l : Bool) {m : ℕ} → item k xs ≡ none → item l xs ≡ wide m → Line xs m
  unfolding item item_by
  item_rest k l f e = rest_by (is_space (byte_at xs 0)) (begins (47 ∷ 42 ∷ []) xs) k l xs f e

-- ---- trivia

-- the trivia at the front of a list: its width; it is within the list; where it is closed no item stands at its end; and trivia that has all
-- of its items goes on from there
pub record Passed (lines : Bool) (p n : ℕ) (xs : List ℕ) : Type 0 where
  pub width : ℕ
  pub is : (gap lines p n xs).at ≡ p + width
  pub high : width ≤ length xs
  pub inside : (gap lines p n xs).unclosed ≡ true → width < length xs
  pub ends : (gap lines p n xs).unclosed ≡ false → item lines (drop width xs) ≡ none
  pub goes : (l : Bool) → T (l || not lines) → gap l p n xs ≡ gap l (p + width) 0 (drop width xs)

gap_nil : (l : Bool) (p n : ℕ) → gap l p n [] ≡ gap l (p + 0) 0 []
unfolding gap
gap_nil l p n = rw add-zero

-- one byte further
one : {lines : Bool} {p n m : ℕ} {x : ℕ} {xs : List ℕ} → gap lines p m (x ∷ xs) ≡ gap lines (suc p) n xs
    → ((l : Bool) → T (l || not lines) → gap l p m (x ∷ xs) ≡ gap l (suc p) n xs) → Passed lines (suc p) n xs → Passed lines p m (x ∷ xs)
one {lines} {p} {n} {m} {x} {xs} e f h = record {
  width = suc h.width;
  is = ap (λ (g : Gap). g.at) e ∙ h.is ∙ omega arith;
  high = omega (arith, h.high);
  inside = λ u. omega (arith, h.inside (ap (λ (g : Gap). g.unclosed) (sym e) ∙ u));
  ends = λ u. h.ends (ap (λ (g : Gap). g.unclosed) (sym e) ∙ u);
  goes = λ l t. f l t ∙ h.goes l t ∙ ap (λ (q : ℕ). gap l q 0 (drop h.width xs)) (omega arith);
}

-- an item that is none or endless: trivia is there
here : (lines : Bool) (p x : ℕ) (xs : List ℕ) → (gap lines p 0 (x ∷ xs)).at ≡ p → ((gap lines p 0 (x ∷ xs)).unclosed ≡ false → item lines (x ∷ xs) ≡ none) → Passed lines p 0 (x ∷ xs)
here lines p x xs e f = record {
  width = 0;
  is = e ∙ omega arith;
  high = omega arith;
  inside = λ u. omega arith;
  ends = f;
  goes = λ l t. rw add-zero;
}

pub passed : (lines : Bool) (p n : ℕ) (xs : List ℕ) → Passed lines p n xs
unfolding gap
passed lines p n [] = record {
  width = 0;
  is = omega arith;
  high = omega arith;
  inside = λ u. clash (sym u);
  ends = λ u. item_nil lines;
  goes = λ l t. gap_nil l p n;
}
passed lines p (suc n) (x ∷ xs) = one refl (λ l t. refl) (passed lines (suc p) n xs)
passed lines p zero (x ∷ xs) = go (item lines (x ∷ xs)) refl (λ n. passed lines (suc p) n xs)
  where
    go : (i : Item) → item lines (x ∷ xs) ≡ i → ((n : ℕ) → Passed lines (suc p) n xs) → Passed lines p 0 (x ∷ xs)
    go none e h = here lines p x xs (rw e) (λ u. e)
    go endless e h = here lines p x xs (rw e) (λ u. clash (rw e at u))
    go (wide zero) e h = absurd (omega (arith, item_wide (x ∷ xs) lines e))
    go (wide (suc n)) e h = one (rw e) (λ l t. rw (item_more (x ∷ xs) lines l t e)) (h n)

module _ (s : List ℕ) (p : ℕ) where
  pub gap_low : (k : Bool) → p ≤ (gap_to k s p).at
  gap_low k = omega (arith, (passed k p 0 (drop p s)).is)

  pub gap_high : (k : Bool) → (gap_to k s p).at ≤ p + (length s - p)
  gap_high k = let h = passed k p 0 (drop p s) in omega (arith, h.is, h.high, left s p)

  -- an unclosed comment starts within the source
  pub gap_inside : (k : Bool) → (gap_to k s p).unclosed ≡ true → (gap_to k s p).at < length s
  gap_inside k u = let h = passed k p 0 (drop p s) in omega (arith, h.is, h.inside u, left s p)

  behind : (k : Bool) → drop (passed k p 0 (drop p s)).width (drop p s) ≡ drop (gap_to k s p).at s
  behind k = drop-drop (passed k p 0 (drop p s)).width p s ∙ ap (λ (q : ℕ). drop q s) (sym (passed k p 0 (drop p s)).is)

  -- at the end of trivia no item of it stands
  pub gap_ends : (k : Bool) → (gap_to k s p).unclosed ≡ false → item k (drop (gap_to k s p).at s) ≡ none
  gap_ends k u = ap (item k) (sym (behind k)) ∙ (passed k p 0 (drop p s)).ends u

  -- trivia goes on from the end of trivia that has no more items
  pub gap_goes : (k l : Bool) → T (l || not k) → gap_to l s p ≡ gap_to l s (gap_to k s p).at
  gap_goes k l t =
      let h = passed k p 0 (drop p s) in
      h.goes l t ∙ ap (λ (q : ℕ). gap l q 0 (drop h.width (drop p s))) (sym h.is) ∙ ap (gap l (gap_to k s p).at 0) (behind k)

-- where less trivia has no item, more that is closed ends there too, or has a line ending or a line comment there
next_as : (k l : Bool) (p : ℕ) (xs : List ℕ) (i : Item) → item l xs ≡ i → item k xs ≡ none → (gap l p 0 xs).unclosed ≡ false
    → ((gap l p 0 xs).at ≡ p) ⊎ ((ends_line xs ≡ true) ⊎ (starts_comment xs ≡ true))
unfolding gap
next_as k l p [] i e f u = inl refl
next_as k l p (x ∷ xs) none e f u = inl (rw e)
next_as k l p (x ∷ xs) (wide m) e f u = inr (item_rest (x ∷ xs) k l f e).stands
next_as k l p (x ∷ xs) endless e f u = clash (rw e at u)

pub gap_next : (k l : Bool) (s : List ℕ) (p : ℕ) → item k (drop p s) ≡ none → (gap_to l s p).unclosed ≡ false
    → ((gap_to l s p).at ≡ p) ⊎ ((ends_line (drop p s) ≡ true) ⊎ (starts_comment (drop p s) ≡ true))
gap_next k l s p f u = next_as k l p (drop p s) (item l (drop p s)) refl f u

-- ---- what ends an object's item

ending_as : (xs : List ℕ) (a b : Bool) → begins (10 ∷ []) xs ≡ a → begins (13 ∷ 10 ∷ []) xs ≡ b → cond a 1 (cond b 2 0) ≤ length xs
ending_as xs true b e f = begins_most (10 ∷ []) xs e
ending_as xs false true e f = begins_most (13 ∷ 10 ∷ []) xs f
ending_as xs false false e f = omega arith

pub ending_most : (xs : List ℕ) → ending xs ≤ length xs
ending_most xs = ending_as xs (begins (10 ∷ []) xs) (begins (13 ∷ 10 ∷ []) xs) refl refl

comment_place : (a n : ℕ) → (stop_comment a n).at ≡ a + n
comment_place a zero = omega arith
comment_place a (suc n) = refl

-- where a line comment ends, with its line ending
pub comment_end : (p : ℕ) (xs : List ℕ) → (line_comment p xs).at ≡ p + comment xs + ending (drop (comment xs) xs)
comment_end p xs = comment_place (p + comment xs) (ending (drop (comment xs) xs))

-- a comma, a line ending or a line comment stands there
abbrev pub Stops : List ℕ → Type 0
Stops xs = (begins (44 ∷ []) xs ≡ true) ⊎ ((ends_line xs ≡ true) ⊎ (starts_comment xs ≡ true))

-- where an item's end is: within the source; and past p, with what ends it, where one stands there
pub record StopBy (p : ℕ) (xs : List ℕ) (r : Stopping) : Type 0 where
  pub low : p ≤ r.at
  pub high : r.at ≤ p + length xs
  pub past : r.how ≡ 1 → p < r.at
  pub stops : r.how ≡ 1 → Stops xs

stop_as : (p : ℕ) (xs : List ℕ) (a b c : Bool) → begins (44 ∷ []) xs ≡ a → ends_line xs ≡ b → starts_comment xs ≡ c
    → StopBy p xs (cond a (stop_at 1 (p + 1)) (cond b (stop_at 1 (p + ending xs)) (cond c (line_comment p xs) (stop_at 0 p))))
stop_as p xs true b c e f g = record {
  low = omega arith;
  high = omega (arith, begins_most (44 ∷ []) xs e);
  past = λ h. omega arith;
  stops = λ h. inl e;
}
stop_as p xs false true c e f g = record {
  low = omega arith;
  high = omega (arith, ending_most xs);
  past = λ h. omega (arith, ltb-true 0 (ending xs) f);
  stops = λ h. inr (inl f);
}
stop_as p xs false false true e f g =
    let z = comment_end p xs in
    let y = ending_most (drop (comment xs) xs) in
    record {
      low = omega arith;
      high = omega (arith, up_most ends_line xs, length-drop (comment xs) xs);
      past = λ h. omega (arith, comment_pos xs g);
      stops = λ h. inr (inr g);
    }
stop_as p xs false false false e f g = record {
  low = omega arith;
  high = omega arith;
  past = λ (h : ◌≡◌ {A = ℕ} 0 1). absurd (omega arith);
  stops = λ (h : ◌≡◌ {A = ℕ} 0 1). absurd (omega arith);
}

pub stop_ends : (p : ℕ) (xs : List ℕ) → StopBy p xs (stop p xs)
stop_ends p xs = stop_as p xs (begins (44 ∷ []) xs) (ends_line xs) (starts_comment xs) refl refl refl
