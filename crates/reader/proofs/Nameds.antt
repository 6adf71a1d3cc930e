-- An item whose key is a word alone: the laws of any item, with what is known of such a key.
use Prim.Native.Nat.{ℕ, zero, suc, ◌+◌}
use mathlib.Core.Path.{◌≡◌, refl, sym, ap, subst, ◌∙◌}
use mathlib.Core.Bool.{Bool, true, false, cond, ◌&&◌}
use mathlib.Core.List.{List, [], ◌∷◌}
use native.Mathlib.Omega.{arith}
use lib.Dec.{eqb}
use borrow.Author.Tests.{eq-eqb, ne_eqb}
use Rattle.lexis.specs.Bytes.{stands}
use Rattle.lexis.specs.Word.{constant_at}
use Rattle.lexis.specs.RunLaws.{and_left}
use Rattle.grammar.specs.Moves.{an_expression, behind_key}
use Rattle.grammar.specs.Hcl.{under, bare}
use Rattle.grammar.specs.Table.{record_of}
use Rattle.grammar.specs.Said.{Went, Moved, went}
use Rattle.grammar.specs.Alone.{key_of, Word}
use Rattle.reader.specs.Buffer.{put_at}
use Rattle.reader.specs.Said.{Step, step_of, Climbs, Said, SaidItem, Asked}
use Rattle.reader.specs.Items.{met_in, is_bare, bared, equals_step, colon_step, Signed}
use Rattle.reader.proofs.Answers.{good, kept_same, turning_start}
use Rattle.reader.proofs.Exprs.{expr_stop}
use Rattle.reader.proofs.Firsts.{first_leaf}
use Rattle.reader.proofs.Bares.{put_put}
use Rattle.reader.proofs.Signs.{signed_met, signed_equals, signed_colon}
use Rattle.reader.proofs.Entries.{no_sign, no_space, no_value, item_done}

module _ {s y : List ℕ} {i u K p k e q φ : ℕ} (w : Word s p (key_of k e q φ)) (asked : Asked s y i u K p) where
  -- the key as a term's record, which stands nowhere: its own is put at once
  abbrev Before : List ℕ → List ℕ
  Before b = put_at b (i + 0) (record_of k 0 p e (0 + 0 + 1) (0, 0))

  far : e ≡ p → ⊥
  far z = omega (arith, w.past)

  leaf : (left : ℕ) (b x : List ℕ) → Said (Climbs s (under left false an_expression) 0 p) s i u K p b (Before b) x x y y (step_of 0 e 1 0)
  leaf left b x =
      let f = first_leaf w.head far asked left b x {r = step_of 0 e 1 0} {b' = Before b} {K' = K} (refl, refl) (kept_same y) in
      expr_stop (turning_start (omega (arith, w.past)) (omega (arith, w.past)) (omega (arith, w.low, w.high))) (good f refl) (omega arith) w.still (omega arith) refl (kept_same y)

  bare_by : (x : Bool) → eqb k 5 ≡ x → constant_at s p ≡ cond x 0 k → is_bare s p 1 ≡ x
  bare_by true z c = rw (w.starts, c)
  bare_by false z c = rw (w.starts, c, ne_eqb k 0 (λ v. omega (arith, w.some)))

  pub named_bared : (b : List ℕ) {b' : List ℕ} → b' ≡ put_at b i (record_of (bare k) 0 p e 1 (0, 0)) → b' ≡ bared s (Before b) i 1 p e
  named_bared b {b'} h = h ∙ go (eqb k 5) refl (bare_by (eqb k 5) refl w.constant)
    where
      same : Before b ≡ put_at b i (record_of k 0 p e 1 (0, 0))
      same = ap (λ (j : ℕ). put_at b j (record_of k 0 p e 1 (0, 0))) (omega arith)

      go : (x : Bool) → eqb k 5 ≡ x → is_bare s p 1 ≡ x → put_at b i (record_of (cond x 14 k) 0 p e 1 (0, 0)) ≡ bared s (Before b) i 1 p e
      go true z f = sym (rw (f, same) (put_put b i (record_of k 0 p e 1 (0, 0)) (record_of 14 0 p e 1 (0, 0))))
      go false z f = sym (rw (f, same))

  -- ---- the sign

  there : Moved s e false (went 0 q)
  there = record { is = rw w.gap; good = λ _. w.gap; bad = λ n. absurd (n refl); low = w.low; high = omega (arith, w.low, w.high) }

  module _ (first : ℕ) {met : Bool} (m : met ≡ met_in s y first K p) where
    met_is : met ≡ (eqb (behind_key s p) q && met_in s y first K p)
    met_is = m ∙ sym (rw (eq-eqb (behind_key s p) q w.behind))

    pub named_met : (left : ℕ) (b : List ℕ) {b' x : List ℕ} {r : Step} → met ≡ true → b' ≡ put_at b i (record_of (bare k) 0 p e 1 (0, 0)) → r ≡ step_of 7 p 0 0 → SaidItem s left i u K first p b b' x x y y r
    named_met left b {x = x} f put z = no_sign first (leaf left b x) asked.inside refl (named_bared b put) (signed_met y first K p there refl met_is f).is (λ v. omega arith) z (omega arith) asked.inside

    module _ (f : met ≡ false) where
      sign_by : (j : ℕ) → j ≡ φ → Signed (equals_step (met_in s y first K p) s p e) (colon_step (met_in s y first K p) s p e) 0 (q + 1) j
      sign_by zero z = (signed_equals y first K p there refl met_is f (record { is = sym (w.sign.equals (omega arith)); low = omega arith; high = omega (arith, w.high) }) (λ v. omega arith)).is
      sign_by (suc zero) z =
          let c = w.sign.colon (omega arith) in
          (signed_colon y first K p there refl met_is f (record { is = sym c.0; low = omega arith; high = omega arith }) refl (and_left (stands (58 ∷ []) s q) _ c.1)).is
      sign_by (suc (suc j)) z = absurd (omega (arith, w.sign.few))

      module _ (left : ℕ) (b : List ℕ) {b' : List ℕ} (x : List ℕ) (put : b' ≡ put_at b i (record_of (bare k) 0 p e 1 (0, 0))) {g : Went} (sp : Moved s (q + 1) false g) where
        pub named_space : {r : Step} → ¬ (g.kind ≡ 0) → r ≡ step_of g.kind g.at 0 0 → SaidItem s left i u K first p b b' x x y y r
        named_space n z =
            no_space first (leaf left b x) asked.inside refl (named_bared b put) (sign_by φ refl) refl (omega (arith, w.low)) w.high (sp.bad n) n z sp.low (omega (arith, sp.high, w.high))

        module _ (n : g.kind ≡ 0) {b'' x' y' : List ℕ} {v : Step} (c : Said (Climbs s (under left false an_expression) 0 g.at) s (i + 1) u K g.at b' b'' x x' y y' v) where
          value : Said (Climbs s (under left false an_expression) 0 g.at) s (i + 1) (u + 0) K g.at b' b'' x x' y y' v
          value = subst (λ (o : ℕ). Said (Climbs s (under left false an_expression) 0 g.at) s (i + 1) o K g.at b' b'' x x' y y' v) (omega arith) c

          pub named_value : ¬ (v.kind ≡ 0) → SaidItem s left i u K first p b b'' x x' y y' v
          named_value h =
              no_value first (leaf left b x) asked.inside refl (named_bared b put) (sign_by φ refl) refl (omega (arith, w.low)) w.high (sp.good n) sp.low (omega (arith, sp.high, w.high)) value h

          pub named_done : {b''' : List ℕ} {r : Step} → v.kind ≡ 0 → (r ≡ step_of 0 v.end (1 + v.count + 1) v.text) × (b''' ≡ put_at b'' (i + (1 + v.count)) (record_of 13 φ p v.end (0 + (1 + v.count) + 1) (0, 0)))
              → SaidItem s left i u K first p b b''' x x' y y' r
          named_done h (z, o) =
              item_done first (leaf left b x) asked.inside refl (named_bared b put) (sign_by φ refl) refl (omega (arith, w.low)) w.high (sp.good n) sp.low (omega (arith, sp.high, w.high)) value h
              (z ∙ ap (step_of 0 v.end (1 + v.count + 1)) (omega arith)) o
