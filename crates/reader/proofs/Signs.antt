-- What the functions round an object's items find.
use Prim.Native.Nat.{ℕ, zero, suc, ◌+◌, ◌-◌, ◌≤◌, ◌<◌}
use mathlib.Core.Path.{◌≡◌, refl, sym, ap, subst, ◌∙◌}
use mathlib.Core.Bool.{Bool, true, false, cond, not, ◌&&◌, ◌||◌, and-true, and-false}
use mathlib.Core.List.{List, [], ◌∷◌}
use native.Mathlib.Omega.{arith}
use lib.ListN.{length, drop}
use lib.Dec.{eqb}
use borrow.Author.Tests.{eq-eqb, ne_eqb}
use Rattle.lexis.specs.Bytes.{Byte, Ran, byte_at, begins, stands, is_start, is_foreign}
use Rattle.lexis.specs.Trivia.{Stopping, Gap, Gapped, Stopped, gap_to, stop, stop_at, stop_comment, line_comment, comment, ending, ends_line, starts_comment}
use Rattle.lexis.specs.Operator.{is_mark, equals_to}
use Rattle.lexis.specs.Word.{constant_at}
use Rattle.lexis.specs.RunLaws.{clash, stands_one, stands_inside}
use Rattle.lexis.specs.Keys.{key_to}
use Rattle.std.specs.Prelude.{Option, Some}
use Rattle.index.specs.Mark.{WordTo}
use Rattle.grammar.specs.declared.picks.Key.{Key}
use Rattle.grammar.specs.Alone.{Word, KeyAt}
use Rattle.grammar.specs.Kinds.{Unexpected, Foreign}
use Rattle.grammar.specs.Moves.{Step, to, no, then, when, unexpected, skip, stop_step, marks, behind_key}
use Rattle.grammar.specs.Said.{Went, went, went_of, Moved}
use Rattle.reader.specs.Items.{Sign, met_in, behind_item, sign_step, equals_step, Signed, equals, colon, neither, Behind, SignedAt, is_bare, bared}

-- ---- behind an item

behind_yes : {s : List ℕ} {e : ℕ} {r : Went} → r.kind ≡ 0 → behind_item s e ≡ to r.at → e ≤ r.at → r.at ≤ e + (length s - e) → Behind s e r
behind_yes {s} {e} {r} z h low high = record { is = ap (λ (k : ℕ). went k r.at) z ∙ ap went_of (sym h); good = λ _. h; bad = λ f. absurd (f z); low = low; high = high }

behind_not : {s : List ℕ} {e : ℕ} {r : Went} → ¬ (r.kind ≡ 0) → behind_item s e ≡ no r.kind r.at → e ≤ r.at → r.at ≤ e + (length s - e) → Behind s e r
behind_not f h low high = record { is = ap went_of (sym h); good = λ z. absurd (f z); bad = λ _. h; low = low; high = high }

-- what no rule takes, as the code has it
unexpected_went : (s : List ℕ) (p : ℕ) {r : Went} → r ≡ went_of (unexpected s p) → (unexpected s p ≡ no r.kind r.at) × ¬ (r.kind ≡ 0) × (r.at ≡ p)
unexpected_went s p {r} e = go (is_foreign (byte_at s p)) e
  where
    go : (x : Bool) → r ≡ went_of (when x (no Foreign p) (no Unexpected p)) → (when x (no Foreign p) (no Unexpected p) ≡ no r.kind r.at) × ¬ (r.kind ≡ 0) × (r.at ≡ p)
    go true e = (rw e, λ z. (let f : r.kind ≡ 3 = ap (λ (w : Went). w.kind) e in omega arith), ap (λ (w : Went). w.at) e)
    go false e = (rw e, λ z. (let f : r.kind ≡ 4 = ap (λ (w : Went). w.kind) e in omega arith), ap (λ (w : Went). w.at) e)

-- what ends an item has a number up to 2
stop_how : (p : ℕ) (xs : List ℕ) → (stop p xs).how ≤ 2
stop_how p xs = go (begins (44 ∷ []) xs) (ends_line xs) (starts_comment xs)
  where
    line : (e n : ℕ) → (stop_comment e n).how ≤ 2
    line e zero = omega arith
    line e (suc n) = omega arith

    go : (a b c : Bool) → (cond a (stop_at 1 (p + 1)) (cond b (stop_at 1 (p + ending xs)) (cond c (line_comment p xs) (stop_at 0 p)))).how ≤ 2
    go true b c = omega arith
    go false true c = omega arith
    go false false true = line (p + comment xs) (ending (drop (comment xs) xs))
    go false false false = omega arith

module _ {s : List ℕ} {e : ℕ} {g : Went} (sp : Moved s e false g) where
  pub behind_refused : ¬ (g.kind ≡ 0) → Behind s e g
  behind_refused f = behind_not f (rw (sp.bad f)) sp.low sp.high

  module _ (z : g.kind ≡ 0) where
    pub behind_brace : stands (125 ∷ []) s g.at ≡ true → Behind s e g
    behind_brace h = let f : eqb (byte_at s g.at) 125 ≡ true = sym (stands_one 125 s g.at refl) ∙ h in behind_yes z (rw (sp.good z, f)) sp.low sp.high

    module _ {x : Stopping} (h : stands (125 ∷ []) s g.at ≡ false) (st : Stopped s g.at x) where
      stop_here : behind_item s e ≡ then (stop_step s g.at x.how x) (skip s true)
      stop_here =
          let f : eqb (byte_at s g.at) 125 ≡ false = sym (stands_one 125 s g.at refl) ∙ h in
          rw (sp.good z, f, ← st.is)

      pub behind_none : {r : Went} → x.how ≡ 0 → r ≡ went_of (unexpected s g.at) → Behind s e r
      behind_none {r} n q =
          let (a, b, c) = unexpected_went s g.at q in
          behind_not b (stop_here ∙ rw (n, a)) (omega (arith, sp.low)) (omega (arith, sp.high))

      pub behind_cut : {r : Went} → x.how ≡ 2 → r ≡ went 4 x.at → Behind s e r
      behind_cut {r} n q =
          let k : r.kind ≡ 4 = ap (λ (w : Went). w.kind) q in
          let a : r.at ≡ x.at = ap (λ (w : Went). w.at) q in
          behind_not (λ f. omega arith) (stop_here ∙ rw (n, q)) (omega (arith, sp.low, st.low)) (omega (arith, sp.high, st.high))

      pub behind_space : {r : Went} → ¬ (x.how ≡ 0) → ¬ (x.how ≡ 2) → Moved s x.at true r → Behind s e r
      behind_space {r} n m q =
          let one : x.how ≡ 1 = omega (arith, stop_how g.at (drop g.at s), ap (λ (y : Stopping). y.how) st.is) in
          let t : behind_item s e ≡ skip s true x.at = stop_here ∙ rw one in
          record {
            is = rw t q.is;
            good = λ f. t ∙ q.good f;
            bad = λ f. t ∙ q.bad f;
            low = omega (arith, sp.low, st.low, q.low);
            high = omega (arith, sp.high, st.high, q.high);
          }

-- ---- keys that were met

key_place : {s : List ℕ} (p : ℕ) {e : ℕ} {w : Gap} → e ≡ key_to s p → Gapped false s e w → w.at ≡ behind_key s p
key_place {s} p key gap = ap (λ (x : Gap). x.at) gap.is ∙ ap (λ (x : ℕ). (gap_to false s x).at) key

module _ (s y : List ℕ) (first k p g : ℕ) {r : Bool} (f : r ≡ met_in s y first k p) where
  pub not_met : r ≡ false → false ≡ (eqb (behind_key s p) g && met_in s y first k p)
  not_met n = let h : met_in s y first k p ≡ false = sym f ∙ n in sym (rw h (and-false (eqb (behind_key s p) g)))

  pub met_here : {e : ℕ} {w : Gap} → r ≡ true → e ≡ key_to s p → Gapped false s e w → eqb w.at g ≡ (eqb (behind_key s p) g && met_in s y first k p)
  met_here {w = w} n key gap =
      let h : met_in s y first k p ≡ true = sym f ∙ n in
      let j : w.at ≡ behind_key s p = key_place p key gap in
      rw (h, j) (sym (and-true (eqb (behind_key s p) g)))

-- ---- the sign after a key

abbrev pub sign_of : ℕ → ℕ → ℕ → Sign
sign_of k q φ = record { kind = k; at = q; flag = φ }

mark_swap : (a b c : Bool) → (a && not (b || (c || false))) ≡ (a && not (c || (b || false)))
mark_swap a true true = refl
mark_swap a true false = refl
mark_swap a false true = refl
mark_swap a false false = refl

module _ (s : List ℕ) (p : ℕ) {q : ℕ} (h : q ≡ equals_to s p) where
  abbrev sign : Bool
  sign = is_mark (61 ∷ []) ((61 ∷ 62 ∷ []) ∷ (61 ∷ 61 ∷ []) ∷ []) s p

  equals_as : (x : Bool) → sign ≡ x → marks s (61 ∷ []) ((61 ∷ 61 ∷ []) ∷ (61 ∷ 62 ∷ []) ∷ []) p ≡ when x (to (p + 1)) (unexpected s p)
  equals_as x e = rw (mark_swap (stands (61 ∷ []) s p) (stands (61 ∷ 61 ∷ []) s p) (stands (61 ∷ 62 ∷ []) s p), e)

  equals_yes : ¬ (q ≡ p) → marks s (61 ∷ []) ((61 ∷ 61 ∷ []) ∷ (61 ∷ 62 ∷ []) ∷ []) p ≡ to q
  equals_yes n = go sign refl h
    where
      go : (x : Bool) → sign ≡ x → q ≡ cond x (p + 1) p → marks s (61 ∷ []) ((61 ∷ 61 ∷ []) ∷ (61 ∷ 62 ∷ []) ∷ []) p ≡ to q
      go true e f = equals_as true e ∙ ap to (sym f)
      go false e f = absurd (n f)

  equals_no : q ≡ p → marks s (61 ∷ []) ((61 ∷ 61 ∷ []) ∷ (61 ∷ 62 ∷ []) ∷ []) p ≡ unexpected s p
  equals_no n = go sign refl h
    where
      go : (x : Bool) → sign ≡ x → q ≡ cond x (p + 1) p → marks s (61 ∷ []) ((61 ∷ 61 ∷ []) ∷ (61 ∷ 62 ∷ []) ∷ []) p ≡ unexpected s p
      go true e f = absurd (omega (arith, f, n))
      go false e f = equals_as false e

neither_of : {x y : Step} (k z m q : ℕ) → x ≡ no k z → y ≡ no m q → ¬ (m ≡ 0) → Signed x y m q 0
neither_of k z zero q e f n = absurd (n refl)
neither_of k z (suc m) q e f n = neither e f

module _ {s : List ℕ} {e : ℕ} (y : List ℕ) (first k p : ℕ) {g : Went} (sp : Moved s e false g) where
  pub signed_gap : ¬ (g.kind ≡ 0) → SignedAt s y first k p e (sign_of g.kind g.at 0)
  signed_gap n = record {
    is = neither_of g.kind g.at g.kind g.at (rw (sp.bad n)) (rw (sp.bad n)) n;
    ate = λ f. absurd (n f);
    low = λ f. omega (arith, sp.low);
    high = λ f h. omega (arith, sp.high);
    small = omega arith;
  }

  module _ {met : Bool} (z : g.kind ≡ 0) (m : met ≡ (eqb (behind_key s p) g.at && met_in s y first k p)) where
    pub signed_met : met ≡ true → SignedAt s y first k p e (sign_of 7 p 0)
    signed_met f =
        let t : (eqb (behind_key s p) g.at && met_in s y first k p) ≡ true = sym m ∙ f in
        record {
          is = neither_of 7 p 7 p (rw (sp.good z, t)) (rw (sp.good z, t)) (λ x. omega arith);
          ate = λ x. omega arith;
          low = λ x. omega arith;
          high = λ x h. omega arith;
          small = omega arith;
        }

    module _ {q : ℕ} (f : met ≡ false) (eq : Ran s g.at (equals_to s g.at) q) where
      on_sign : (w : List ℕ) (longer : List (List ℕ)) → sign_step w longer (met_in s y first k p) s p e ≡ marks s w longer g.at
      on_sign w longer =
          let t : (eqb (behind_key s p) g.at && met_in s y first k p) ≡ false = sym m ∙ f in
          rw (sp.good z, t)

      pub signed_equals : ¬ (q ≡ g.at) → SignedAt s y first k p e (sign_of 0 q 0)
      signed_equals n = record {
        is = equals (on_sign (61 ∷ []) ((61 ∷ 61 ∷ []) ∷ (61 ∷ 62 ∷ []) ∷ []) ∙ equals_yes s g.at eq.is n);
        ate = λ x. omega (arith, sp.low, eq.low);
        low = λ x. omega (arith, sp.low, eq.low);
        high = λ x h. omega (arith, sp.high, eq.high);
        small = omega arith;
      }

      module _ (n : q ≡ g.at) where
        no_equals : equals_step (met_in s y first k p) s p e ≡ unexpected s g.at
        no_equals = on_sign (61 ∷ []) ((61 ∷ 61 ∷ []) ∷ (61 ∷ 62 ∷ []) ∷ []) ∙ equals_no s g.at eq.is n

        pub signed_colon : stands (58 ∷ []) s g.at ≡ true → SignedAt s y first k p e (sign_of 0 (g.at + 1) 1)
        signed_colon h =
            let w : g.at < length s = (let i = stands_inside (58 ∷ []) s g.at h in omega arith) in
            let u = unexpected_went s g.at refl in
            record {
              is = colon {q = g.at + 1} (no_equals ∙ u.0) (on_sign (58 ∷ []) [] ∙ rw h);
              ate = λ x. omega (arith, sp.low);
              low = λ x. omega (arith, sp.low);
              high = λ x h. omega arith;
              small = omega arith;
            }

        pub signed_none : {w : Went} → stands (58 ∷ []) s g.at ≡ false → w ≡ went_of (unexpected s g.at) → SignedAt s y first k p e (sign_of w.kind w.at 0)
        signed_none {w} h i =
            let u = unexpected_went s g.at i in
            record {
              is = neither_of w.kind w.at w.kind w.at (no_equals ∙ u.0) (on_sign (58 ∷ []) [] ∙ rw h u.0) u.1;
              ate = λ x. absurd (u.1 x);
              low = λ x. omega (arith, sp.low, u.2);
              high = λ x h. omega (arith, sp.high, u.2);
              small = omega arith;
            }

-- ---- a lone variable

pub bared_not : (s b : List ℕ) (i n p e : ℕ) → is_bare s p n ≡ false → b ≡ bared s b i n p e
bared_not s b i n p e h = rw h

pub bare_many : (s : List ℕ) (p n : ℕ) → ¬ (n ≡ 1) → is_bare s p n ≡ false
bare_many s p n h = rw (ne_eqb n 1 h)

module _ {s : List ℕ} {p b : ℕ} (n : ℕ) (h : Byte s p b) where
  pub bare_none : is_start b ≡ false → is_bare s p n ≡ false
  bare_none f = let e : is_start (byte_at s p) ≡ false = rw (← h.is) f in rw e (and-false (eqb n 1))

  module _ {c : ℕ} (k : c ≡ constant_at s p) where
    pub bare_constant : ¬ (c ≡ 0) → is_bare s p n ≡ false
    bare_constant f = let e : eqb (constant_at s p) 0 ≡ false = rw (← k) (ne_eqb c 0 f) in rw (e, and-false (is_start (byte_at s p))) (and-false (eqb n 1))

    pub bare_yes : n ≡ 1 → is_start b ≡ true → c ≡ 0 → is_bare s p n ≡ true
    bare_yes one f g =
        let e : eqb (constant_at s p) 0 ≡ true = rw (← k) (eq-eqb c 0 g) in
        let e' : is_start (byte_at s p) ≡ true = rw (← h.is) f in
        rw (eq-eqb n 1 one, e', e)

-- ---- the mark of a key

-- a key that is a word, as its mark wants it
pub named_marks : {s : List ℕ} {p : ℕ} {o : Option Key} {r : Key} → o ≡ Some r → KeyAt s p o → WordTo s p r.end
named_marks {s} {p} {r = r} e h =
    let w : Word s p r = subst (KeyAt s p) e h in
    record { starts = w.starts; ends = w.ends ∙ rw (ne_eqb (byte_at s p) 34 (λ z. clash (sym w.starts ∙ ap is_start z))) }
