-- Whether a key stands alone, with what was found of comments behind earlier keys.
use Prim.Native.Nat.{ℕ, zero, suc, ◌+◌, ◌-◌, ◌≤◌, ◌<◌, max}
use mathlib.Core.Path.{◌≡◌, refl, sym, ap, subst, ◌∙◌}
use mathlib.Core.List.{List, [], ◌∷◌}
use mathlib.Core.Bool.{Bool, true, false, cond, not}
use mathlib.Core.Logic.{inl, inr}
use native.Mathlib.Omega.{arith}
use lib.ListN.{length, drop}
use lib.Dec.{eqb, leb}
use lib.Seq.{drop-drop}
use borrow.Author.Tests.{eqb-true, eqb-false, eq-eqb, leb-true, leb-false}
use Rattle.lexis.specs.Bytes.{byte_at, is_space, stands, up_to}
use Rattle.lexis.specs.Trivia.{Gap, none, closes, block, item, ends_at, open_at, placed, gap_to}
use Rattle.lexis.specs.Operator.{equals_to}
use Rattle.lexis.specs.RunLaws.{clash, front, and_left, and_right, stands_one, stands_two, stands_inside, reach, reach_on, reach_stop, reach_end}
use Rattle.lexis.proofs.Runs.{past}
use Rattle.lexis.proofs.Trivias.{block_found, block_endless, item_space, item_block, gap_stop, gap_on}
use Rattle.checker.specs.declared.lone.Memo.{Memo}
use Rattle.checker.specs.declared.lone.Lone.{Lone}
use Rattle.checker.specs.Lone.{sign_at, signed, Known, SpacesTo, CloserAt, Covered, OneOf, Behind}

-- ---- two bytes, one by one

opens_first : (s : List ℕ) (c : ℕ) → stands (47 ∷ 42 ∷ []) s c ≡ true → byte_at s c ≡ 47
opens_first s c e = eqb-true (byte_at s c) 47 (and_left (eqb (byte_at s c) 47) (eqb (byte_at s (c + 1)) 42) (sym (stands_two 47 42 s c refl refl) ∙ e))

opens_second : (s : List ℕ) (c : ℕ) → stands (47 ∷ 42 ∷ []) s c ≡ true → byte_at s (c + 1) ≡ 42
opens_second s c e = eqb-true (byte_at s (c + 1)) 42 (and_right (eqb (byte_at s c) 47) (eqb (byte_at s (c + 1)) 42) (sym (stands_two 47 42 s c refl refl) ∙ e))

shuts_first : (s : List ℕ) (c : ℕ) → stands (42 ∷ 47 ∷ []) s c ≡ true → byte_at s c ≡ 42
shuts_first s c e = eqb-true (byte_at s c) 42 (and_left (eqb (byte_at s c) 42) (eqb (byte_at s (c + 1)) 47) (sym (stands_two 42 47 s c refl refl) ∙ e))

shuts_second : (s : List ℕ) (c : ℕ) → stands (42 ∷ 47 ∷ []) s c ≡ true → byte_at s (c + 1) ≡ 47
shuts_second s c e = eqb-true (byte_at s (c + 1)) 47 (and_right (eqb (byte_at s c) 42) (eqb (byte_at s (c + 1)) 47) (sym (stands_two 42 47 s c refl refl) ∙ e))

-- ---- the first place that passes a test is the same from each place before it

up_mid : (t : List ℕ → Bool) (xs : List ℕ) (d : ℕ) → d ≤ up_to t xs → d + up_to t (drop d xs) ≡ up_to t xs
unfolding up_to
up_mid t xs zero h = omega arith
up_mid t [] (suc d) h = absurd (omega arith)
up_mid t (x ∷ xs) (suc d) h = go (t (x ∷ xs)) (up_mid t xs d) h
  where
    go : (b : Bool) → (d ≤ up_to t xs → d + up_to t (drop d xs) ≡ up_to t xs) → suc d ≤ cond b 0 (suc (up_to t xs)) → suc d + up_to t (drop d xs) ≡ cond b 0 (suc (up_to t xs))
    go true g h = absurd (omega arith)
    go false g h = omega (arith, g (omega arith))

reach_mid : (t : List ℕ → Bool) (s : List ℕ) (p x e : ℕ) → reach t s p ≡ e → p ≤ x → x ≤ e → reach t s x ≡ e
reach_mid t s p x e r l h =
    let b : p + (x - p) ≡ x = omega arith in
    let d : drop (x - p) (drop p s) ≡ drop x s = drop-drop (x - p) p s ∙ ap (λ (y : ℕ). drop y s) b in
    let u = up_mid t (drop p s) (x - p) (omega arith) in
    let v : x - p + up_to t (drop x s) ≡ up_to t (drop p s) = ap (λ (ys : List ℕ). x - p + up_to t ys) (sym d) ∙ u in
    omega arith

-- ---- same-line space goes on

module _ (s : List ℕ) (c : ℕ) (o : stands (47 ∷ 42 ∷ []) s c ≡ true) where
  opened : item false (drop c s) ≡ block (drop (c + 2) s)
  opened = item_block s c false (opens_first s c o) (opens_second s c o)

  -- behind a comment
  past_comment : (e : ℕ) → reach closes s (c + 2) ≡ e → stands (42 ∷ 47 ∷ []) s e ≡ true → c + 2 ≤ e → gap_to false s (e + 2) ≡ gap_to false s c
  past_comment e r z l =
      let i : 2 ≤ length s - e = stands_inside (42 ∷ 47 ∷ []) s e z in
      let is : ends_at (e + 2) ≡ placed c (item false (drop c s)) = sym (ap (placed c) opened ∙ block_found s c (omega arith) r) in
      gap_on false s c is (λ f. omega arith) (omega arith) (omega arith)

  -- a comment that nothing closes is where it ends
  past_none : reach closes s (c + 2) ≡ length s → gap_to false s c ≡ open_at c
  past_none r =
      let is : open_at c ≡ placed c (item false (drop c s)) = sym (ap (placed c) opened ∙ block_endless s c (omega arith) r) in
      sym (gap_stop false s c is refl)

  slash_equals : equals_to s c ≡ c
  slash_equals = rw (stands_one 61 s c refl, opens_first s c o)

  slash_sign : sign_at s c ≡ false
  slash_sign = rw (slash_equals, eq-eqb c c refl, stands_one 58 s c refl, opens_first s c o)

  none_signed : reach closes s (c + 2) ≡ length s → signed s c ≡ false
  none_signed r = ap (λ (g : Gap). sign_at s g.at) (past_none r) ∙ slash_sign

past_space : (s : List ℕ) (p : ℕ) → p < length s → is_space (byte_at s p) ≡ true → gap_to false s (p + 1) ≡ gap_to false s p
past_space s p l e =
    let is : ends_at (p + 1) ≡ placed p (item false (drop p s)) = sym (ap (placed p) (item_space s p false e)) in
    gap_on false s p is (λ f. omega arith) (omega arith) (omega arith)

-- it ends where neither space nor a comment is
item_no : (s : List ℕ) (p : ℕ) → is_space (byte_at s p) ≡ false → stands (47 ∷ 42 ∷ []) s p ≡ false → item false (drop p s) ≡ none
unfolding item
item_no s p e f = rw (front s p, e, f)

pub gap_here : (s : List ℕ) (p : ℕ) → is_space (byte_at s p) ≡ false → stands (47 ∷ 42 ∷ []) s p ≡ false → gap_to false s p ≡ ends_at p
gap_here s p e f =
    let is : ends_at p ≡ placed p (item false (drop p s)) = sym (ap (placed p) (item_no s p e f)) in
    sym (gap_stop false s p is refl)

-- ---- spaces

pub record Blank (s : List ℕ) (p i : ℕ) : Type 0 where
  pub low : p ≤ i
  pub high : i ≤ p + (length s - p)
  pub same : gap_to false s i ≡ gap_to false s p
  pub are : (x : ℕ) → p ≤ x → x < i → is_space (byte_at s x) ≡ true

module _ {s : List ℕ} {p i : ℕ} (h : Blank s p i) where
  pub blank_on : i < length s → is_space (byte_at s i) ≡ true → Blank s p (i + 1)
  blank_on l e = record {
    low = omega (arith, h.low);
    high = omega (arith, h.low);
    same = past_space s i l e ∙ h.same;
    are = λ x a c. by x a c (eqb x i) refl;
  }
    where
      by : (x : ℕ) → p ≤ x → x < i + 1 → (q : Bool) → eqb x i ≡ q → is_space (byte_at s x) ≡ true
      by x a c true f = ap (λ (y : ℕ). is_space (byte_at s y)) (eqb-true x i f) ∙ e
      by x a c false f = let n = eqb-false x i f in h.are x a (omega (arith, n))

  pub blank_ends : is_space (byte_at s i) ≡ false → SpacesTo s p i
  blank_ends e = record { low = h.low; high = h.high; same = h.same; are = h.are; ends = e }

-- the spaces may go on to the end of the source
pub blank_end : {s : List ℕ} {p i : ℕ} → Blank s p i → length s ≤ i → {r : ℕ} → r ≡ max p (length s) → SpacesTo s p r
blank_end {s} {p} {i} h l {r} e = subst (SpacesTo s p) (let f : i ≡ r = omega (arith, h.low, h.high) in f) (blank_ends h (past is_space s i refl l))

-- ---- the end of a comment

module _ (s : List ℕ) (p i : ℕ) where
  pub closer_here : p ≤ i → i < length s → reach closes s i ≡ reach closes s p → {r : Bool} → r ≡ stands (42 ∷ 47 ∷ []) s i → r ≡ true → CloserAt s p i
  closer_here l h f a e = record { is = sym f ∙ reach_stop closes s i (sym a ∙ e); low = l; high = omega arith; here = λ z. sym a ∙ e }

  pub closer_on : i < length s → reach closes s i ≡ reach closes s p → {r : Bool} → r ≡ stands (42 ∷ 47 ∷ []) s i → r ≡ false → reach closes s (i + 1) ≡ reach closes s p
  closer_on h f a e = reach_on closes s i h (sym a ∙ e) ∙ f

  pub closer_none : p ≤ i → i ≤ length s → length s ≤ i → reach closes s i ≡ reach closes s p → CloserAt s p i
  closer_none l h g f = record { is = sym f ∙ reach_end closes s i g; low = l; high = h; here = λ z. absurd (omega arith) }

-- ---- what is known

abbrev pub memo : ℕ → ℕ → Bool → Memo
memo a b y = record { from = a; to = b; yes = y }

not_is : (b : Bool) → not b ≡ true → b ≡ false
not_is true e = sym e
not_is false e = refl

pub covers_by : {s : List ℕ} {c : ℕ} {m : Memo} {b : Bool} → m.from ≤ c + 2 → c + 2 ≤ m.to → b ≡ stands (47 ∷ []) s (c + 2) → Covered s c m (not b)
covers_by {s} {c} {m} {b} l h e = record {
  low = λ z. l;
  high = λ z. h;
  plain = λ z f. clash (sym (eq-eqb (byte_at s (c + 2)) 47 f) ∙ sym (stands_one 47 s (c + 2) refl) ∙ sym e ∙ not_is b z);
}

pub known_nothing : (s : List ℕ) (y : Bool) → Known s (memo 1 0 y)
known_nothing s y = record { told = λ c e n l h. absurd (omega arith) }

pub known_one : {s : List ℕ} {a b r : Memo} → Known s a → Known s b → OneOf a b r → Known s r
known_one {s} h g (inl e) = subst (Known s) (sym e) h
known_one {s} h g (inr e) = subst (Known s) (sym e) g

-- ---- from comment to comment

-- the `/*` at `at` is met on the way from c; of each `/*` between the same is known
pub record Trail (s : List ℕ) (c at : ℕ) : Type 0 where
  pub low : c ≤ at
  pub opens : stands (47 ∷ 42 ∷ []) s at ≡ true
  pub same : signed s c ≡ signed s at
  pub told : (x : ℕ) → stands (47 ∷ 42 ∷ []) s x ≡ true → ¬ (byte_at s (x + 2) ≡ 47) → c ≤ x → x < at → signed s x ≡ signed s at

module _ {s : List ℕ} {c at : ℕ} (t : Trail s c at) where
  pub trail_inside : at + 2 ≤ length s
  trail_inside = omega (arith, stands_inside (47 ∷ 42 ∷ []) s at t.opens)

  -- what is known tells of it
  pub trail_known : {m : Memo} {r : Bool} → Known s m → Covered s at m r → r ≡ true → Behind s c (record { yes = m.yes; memo = m })
  trail_known h g e = record { yes = sym (t.same ∙ h.told at t.opens (g.plain e) (g.low e) (g.high e)); known = h }

  module _ {e : ℕ} (z : CloserAt s (at + 2) e) where
    -- each of the places from `at` on
    upto : (x : ℕ) → at ≤ x → x + 2 ≤ e → reach closes s (x + 2) ≡ e
    upto x l h = reach_mid closes s (at + 2) (x + 2) e z.is (omega arith) h

    -- no comment is closed
    pub trail_none : e ≡ length s → Behind s c (record { yes = false; memo = memo (c + 2) e false })
    trail_none f = record {
      yes = sym (t.same ∙ none_signed s at t.opens (z.is ∙ f));
      known = record { told = λ x o n l h. by x o n (omega arith) h (leb at x) refl };
    }
      where
        by : (x : ℕ) → stands (47 ∷ 42 ∷ []) s x ≡ true → ¬ (byte_at s (x + 2) ≡ 47) → c ≤ x → x + 2 ≤ e → (b : Bool) → leb at x ≡ b → signed s x ≡ false
        by x o n l h true g = none_signed s x o (upto x (leb-true at x g) h ∙ f)
        by x o n l h false g = t.told x o n l (leb-false at x g) ∙ none_signed s at t.opens (z.is ∙ f)

    module _ (f : ¬ (e ≡ length s)) where
      shut : stands (42 ∷ 47 ∷ []) s e ≡ true
      shut = z.here (omega (arith, z.high, f))

    module _ (f : ¬ (e ≡ length s)) {q : ℕ} (p : SpacesTo s (e + 2) q) where
      -- behind the comment, from each `/*` in it
      beyond : (x : ℕ) → stands (47 ∷ 42 ∷ []) s x ≡ true → at ≤ x → x + 2 ≤ e → signed s x ≡ signed s q
      beyond x o l h = ap (λ (g : Gap). sign_at s g.at) (sym (p.same ∙ past_comment s x o e (upto x l h) (shut f) h))

      -- all that starts with `/*` before q is in it
      within : (x : ℕ) → stands (47 ∷ 42 ∷ []) s x ≡ true → ¬ (byte_at s (x + 2) ≡ 47) → stands (47 ∷ 42 ∷ []) s q ≡ true → x < q → x + 2 ≤ e
      within x o n w l = go (leb (x + 2) e) refl
        where
          star : (y : ℕ) → byte_at s y ≡ 42 → y ≡ e + 2 → ⊥
          star y a b = bad (leb q (e + 2)) refl
            where
              bad : (u : Bool) → leb q (e + 2) ≡ u → ⊥
              bad true g = let k : q ≡ y = omega (arith, leb-true q (e + 2) g, p.low) in let m : ◌≡◌ {A = ℕ} 47 42 = sym (opens_first s q w) ∙ ap (byte_at s) k ∙ a in absurd (omega arith)
              bad false g = clash (sym (p.are y (omega arith) (omega (arith, leb-false q (e + 2) g))) ∙ ap is_space a)

          by : (b d : Bool) → eqb (x + 1) e ≡ b → eqb x e ≡ d → leb (x + 2) e ≡ false → ⊥
          by true d g h k = n (ap (byte_at s) (let y : x + 2 ≡ e + 1 = omega (arith, eqb-true (x + 1) e g) in y) ∙ shuts_second s e (shut f))
          by false true g h k =
              let m : ◌≡◌ {A = ℕ} 47 42 = sym (opens_first s x o) ∙ ap (byte_at s) (eqb-true x e h) ∙ shuts_first s e (shut f) in absurd (omega arith)
          by false false g h k = far (eqb x (e + 1)) refl
            where
              far : (u : Bool) → eqb x (e + 1) ≡ u → ⊥
              far true y = star (x + 1) (opens_second s x o) (omega (arith, eqb-true x (e + 1) y))
              far false y =
                  let a = leb-false (x + 2) e k in
                  let v = p.are x (omega (arith, a, eqb-false (x + 1) e g, eqb-false x e h, eqb-false x (e + 1) y)) l in
                  clash (sym v ∙ ap is_space (opens_first s x o))

          go : (b : Bool) → leb (x + 2) e ≡ b → x + 2 ≤ e
          go true g = leb-true (x + 2) e g
          go false g = absurd (by (eqb (x + 1) e) (eqb x e) refl refl g)

      -- the next one
      pub trail_on : {r : Bool} → r ≡ stands (47 ∷ 42 ∷ []) s q → r ≡ true → Trail s c q
      trail_on a b = record {
        low = omega (arith, t.low, z.low, p.low);
        opens = sym a ∙ b;
        same = t.same ∙ beyond at t.opens (omega arith) z.low;
        told = λ x o n l h. by x o n l h (leb at x) refl;
      }
        where
          by : (x : ℕ) → stands (47 ∷ 42 ∷ []) s x ≡ true → ¬ (byte_at s (x + 2) ≡ 47) → c ≤ x → x < q → (b : Bool) → leb at x ≡ b → signed s x ≡ signed s q
          by x o n l h true g = beyond x o (leb-true at x g) (within x o n (sym a ∙ b) h)
          by x o n l h false g = t.told x o n l (leb-false at x g) ∙ beyond at t.opens (omega arith) z.low

      -- there is none: the sign stands here, or does not
      module _ {r : Bool} (a : r ≡ stands (47 ∷ 42 ∷ []) s q) (b : r ≡ false) where
        ends_here : signed s q ≡ sign_at s q
        ends_here = ap (λ (g : Gap). sign_at s g.at) (gap_here s q p.ends (sym a ∙ b))

        known_here : {y : Bool} → y ≡ sign_at s q → Known s (memo (c + 2) e y)
        known_here {y} i = record { told = λ x o n l h. by x o n (omega arith) h (leb at x) refl }
          where
            by : (x : ℕ) → stands (47 ∷ 42 ∷ []) s x ≡ true → ¬ (byte_at s (x + 2) ≡ 47) → c ≤ x → x + 2 ≤ e → (u : Bool) → leb at x ≡ u → signed s x ≡ y
            by x o n l h true g = beyond x o (leb-true at x g) h ∙ ends_here ∙ sym i
            by x o n l h false g = t.told x o n l (leb-false at x g) ∙ beyond at t.opens (omega arith) z.low ∙ ends_here ∙ sym i

        pub trail_sign : {y : Bool} {m m' : Memo} → y ≡ sign_at s q → Known s m → OneOf m (memo (c + 2) e y) m' → Behind s c (record { yes = y; memo = m' })
        trail_sign {y} i h o = record {
          yes = i ∙ sym (t.same ∙ beyond at t.opens (omega arith) z.low ∙ ends_here);
          known = known_one h (known_here i) o;
        }

-- ---- a key

module _ (s : List ℕ) {k q : ℕ} (p : SpacesTo s k q) where
  from_key : signed s q ≡ signed s k
  from_key = ap (λ (g : Gap). sign_at s g.at) p.same

  pub item_behind : {r : Lone} → Behind s q r → Behind s k r
  item_behind h = record { yes = h.yes ∙ from_key; known = h.known }

  pub item_here : {b y : Bool} {m : Memo} → b ≡ stands (47 ∷ 42 ∷ []) s q → b ≡ false → y ≡ sign_at s q → Known s m → Behind s k (record { yes = y; memo = m })
  item_here f g i h = record { yes = i ∙ sym (ap (λ (g : Gap). sign_at s g.at) (gap_here s q p.ends (sym f ∙ g))) ∙ from_key; known = h }
