-- Laws on bytes and runs: where a test holds the run goes on, and where it fails or the source ends the run ends.
use Rattle.std.specs.Prelude.{ℕ, zero, suc, ◌+◌, ◌*◌, ◌-◌, ◌≤◌, ◌<◌, ◌≡◌, refl, List, [], ◌∷◌, Bool, true, cond, ◌&&◌, ◌||◌, length, get_or, eqb}
use Rattle.std.proofs.Common.{sym, ◌∙◌, add-one, add-zero, arith, length-drop, drop_of_length-le, ne_eqb, drop-cons, get_or-drop, drop-drop}
use Rattle.std.proofs.Math.Path.{ap}
use Rattle.std.proofs.Math.Bool.{false, and-true}
use Rattle.std.proofs.Math.ListN.{drop}
use Rattle.lexis.specs.Bytes.{run, run_to, byte_at, begins, stands, up_to}

-- a test made of two by `||`
pub or_yes : {r x : Bool} (y : Bool) → r ≡ x → r ≡ true → r ≡ (x || y)
or_yes y e f = rw (← e, f)

pub or_no : {l x r y : Bool} → l ≡ x → l ≡ false → r ≡ y → r ≡ (x || y)
or_no e f g = rw (← e, f) g

-- what a place within a list has does not turn on what stands past its end
pub default : (s : List ℕ) (p a b : ℕ) → p < length s → get_or s p a ≡ get_or s p b
default [] p a b h = absurd (omega arith)
default (x ∷ xs) zero a b h = refl
default (x ∷ xs) (suc p) a b h = default xs p a b (omega arith)

-- a test cannot hold and fail
pub clash : {A : Type 0} → true ≡ false → A
clash e = let z : ◌≡◌ {A = ℕ} 0 1 = cc in absurd (omega arith)

-- what passes a test is no number that does not
pub other : (t : ℕ → Bool) (x n : ℕ) → t x ≡ true → t n ≡ false → eqb x n ≡ false
other t x n e f = ne_eqb x n (λ g. clash (sym e ∙ ap t g ∙ f))

-- a byte less than 256 stands within the source, in a way that arithmetic reads
pub here : (s : List ℕ) (i : ℕ) → 256 ≤ byte_at s i + 256 * (length s - i)
here [] i = omega arith
here (x ∷ xs) zero = omega arith
here (x ∷ xs) (suc i) = omega (arith, here xs i)

-- a byte that passes a test that nothing passes stands within the source
pub inside : (t : ℕ → Bool) (s : List ℕ) (i : ℕ) → t 256 ≡ false → t (byte_at s i) ≡ true → i < length s
inside t [] i n e = clash (sym e ∙ n)
inside t (x ∷ xs) zero n e = omega arith
inside t (x ∷ xs) (suc i) n e = let h : i < length xs = inside t xs i n e in omega arith

module _ (s : List ℕ) (i : ℕ) where
  -- the source from i on: its first byte is the one at i, and its tail is the source from i + 1 on
  pub front : byte_at (drop i s) 0 ≡ byte_at s i
  front = get_or-drop i s 0 256 ∙ ap (byte_at s) (add-zero i)

  pub next : i < length s → drop i s ≡ byte_at s i ∷ drop (i + 1) s
  next h = rw add-one (drop-cons s i 256 h)

  pub empty : length s ≤ i → drop i s ≡ []
  empty h = drop_of_length-le s h

  pub left : length (drop i s) ≡ length s - i
  left = length-drop i s

cond_most : (b : Bool) {m n k : ℕ} → m ≤ k → n ≤ k → cond b m n ≤ k
cond_most true h g = h
cond_most false h g = g

-- runs of bytes that pass a test
run_front : (t : ℕ → Bool) (xs : List ℕ) → t (byte_at xs 0) ≡ false → run t xs ≡ 0
unfolding run
run_front t [] e = refl
run_front t (x ∷ xs) e = rw e

pub run_most : (t : ℕ → Bool) (xs : List ℕ) → run t xs ≤ length xs
unfolding run
run_most t [] = omega arith
run_most t (x ∷ xs) = cond_most (t x) (omega (arith, run_most t xs)) (omega arith)

module _ (t : ℕ → Bool) (s : List ℕ) (i : ℕ) where
  pub run_on : i < length s → t (byte_at s i) ≡ true → run_to t s (i + 1) ≡ run_to t s i
  unfolding run
  run_on h e = rw (next s i, e) (omega arith)

  pub run_stop : t (byte_at s i) ≡ false → run_to t s i ≡ i
  run_stop e = rw (run_front t (drop i s) (ap t (front s i) ∙ e)) (omega arith)

  pub run_end : length s ≤ i → run_to t s i ≡ i
  unfolding run
  run_end h = rw (empty s i) (omega arith)

  pub run_high : run_to t s i ≤ i + (length s - i)
  run_high = omega (arith, run_most t (drop i s), left s i)

-- bytes that stand at a place, one by one
begins_cons : (b : ℕ) (bs xs : List ℕ) → eqb 256 b ≡ false → begins (b ∷ bs) xs ≡ (eqb (byte_at xs 0) b && begins bs (drop 1 xs))
unfolding begins
begins_cons b bs [] n = rw n
begins_cons b bs (x ∷ xs) n = refl

pub stands_none : (s : List ℕ) (p : ℕ) → stands [] s p ≡ true
unfolding begins
stands_none s p = refl

pub stands_cons : (b : ℕ) (bs s : List ℕ) (p : ℕ) → eqb 256 b ≡ false → stands (b ∷ bs) s p ≡ (eqb (byte_at s p) b && stands bs s (p + 1))
stands_cons b bs s p n = begins_cons b bs (drop p s) n ∙ rw (front s p, drop-drop 1 p s)

pub and_left : (x y : Bool) → (x && y) ≡ true → x ≡ true
and_left true y e = refl
and_left false y e = e

pub and_right : (x y : Bool) → (x && y) ≡ true → y ≡ true
and_right true y e = e
and_right false y e = clash (sym e)

pub stands_one : (b : ℕ) (s : List ℕ) (p : ℕ) → eqb 256 b ≡ false → stands (b ∷ []) s p ≡ eqb (byte_at s p) b
stands_one b s p n = stands_cons b [] s p n ∙ rw (stands_none s (p + 1)) (and-true (eqb (byte_at s p) b))

pub stands_two : (b c : ℕ) (s : List ℕ) (p : ℕ) → eqb 256 b ≡ false → eqb 256 c ≡ false
    → stands (b ∷ c ∷ []) s p ≡ (eqb (byte_at s p) b && eqb (byte_at s (p + 1)) c)
stands_two b c s p n m = stands_cons b (c ∷ []) s p n ∙ rw (stands_one c s (p + 1) m)

pub stands_past : (b : ℕ) (bs s : List ℕ) (p : ℕ) → length s ≤ p → stands (b ∷ bs) s p ≡ false
unfolding begins
stands_past b bs s p h = rw (empty s p)

pub stands_here : (b : ℕ) (s : List ℕ) (p : ℕ) → p < length s → b < 256 → eqb (get_or s p 0) b ≡ stands (b ∷ []) s p
stands_here b s p h l = sym (stands_one b s p (ne_eqb 256 b (λ e. omega arith)) ∙ ap (λ (x : ℕ). eqb x b) (default s p 256 0 h))

-- whether more bytes stand turns on the first, and on those after it
module _ (b : ℕ) (bs s : List ℕ) (p : ℕ) (l : b < 256) where
  split : stands (b ∷ bs) s p ≡ (stands (b ∷ []) s p && stands bs s (p + 1))
  split = let n : eqb 256 b ≡ false = ne_eqb 256 b (λ e. omega arith) in stands_cons b bs s p n ∙ rw (stands_one b s p n)

  pub stands_on : {r : Bool} → stands (b ∷ []) s p ≡ true → r ≡ stands bs s (p + 1) → r ≡ stands (b ∷ bs) s p
  stands_on e f = f ∙ sym (split ∙ rw e)

  pub stands_off : stands (b ∷ []) s p ≡ false → stands (b ∷ bs) s p ≡ false
  stands_off e = split ∙ rw e

pub begins_most : (bs xs : List ℕ) → begins bs xs ≡ true → length bs ≤ length xs
unfolding begins
begins_most [] xs e = omega arith
begins_most (b ∷ bs) [] e = clash (sym e)
begins_most (b ∷ bs) (x ∷ xs) e = let h : length bs ≤ length xs = begins_most bs xs (and_right (eqb x b) (begins bs xs) e) in omega arith

-- bytes that stand at a place stand within the source
pub stands_inside : (bs s : List ℕ) (p : ℕ) → stands bs s p ≡ true → length bs ≤ length s - p
stands_inside bs s p e = omega (arith, begins_most bs (drop p s) e, left s p)

-- the first place at or after p from which a test of tails holds
abbrev pub reach : (List ℕ → Bool) → List ℕ → ℕ → ℕ
reach t s p = p + up_to t (drop p s)

pub up_most : (t : List ℕ → Bool) (xs : List ℕ) → up_to t xs ≤ length xs
unfolding up_to
up_most t [] = omega arith
up_most t (x ∷ xs) = cond_most (t (x ∷ xs)) (omega arith) (omega (arith, up_most t xs))

up_front : (t : List ℕ → Bool) (xs : List ℕ) → t xs ≡ true → up_to t xs ≡ 0
unfolding up_to
up_front t [] e = refl
up_front t (x ∷ xs) e = rw e

module _ (t : List ℕ → Bool) (s : List ℕ) (i : ℕ) where
  pub reach_on : i < length s → t (drop i s) ≡ false → reach t s (i + 1) ≡ reach t s i
  unfolding up_to
  reach_on h e = let e' : t (byte_at s i ∷ drop (i + 1) s) ≡ false = ap t (sym (next s i h)) ∙ e in rw (next s i, e') (omega arith)

  pub reach_stop : t (drop i s) ≡ true → reach t s i ≡ i
  reach_stop e = rw (up_front t (drop i s) e) (omega arith)

  pub reach_end : length s ≤ i → reach t s i ≡ i
  unfolding up_to
  reach_end h = rw (empty s i) (omega arith)

  pub reach_high : reach t s i ≤ i + (length s - i)
  reach_high = omega (arith, up_most t (drop i s), left s i)
