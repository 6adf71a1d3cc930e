-- Reading and derivation agree, whatever the grammar.
use Rattle.std.specs.Prelude.{◌≡◌, refl, ℕ, zero, suc, ◌+◌, ◌-◌, ◌≤◌, ◌<◌}
use Rattle.std.proofs.Common.{ap, sym, ◌∙◌, subst}
use Rattle.std.proofs.Math.Option.{Option, none, some}
use native.Mathlib.Omega.{arith}
use Rattle.engine.specs.Base.{Outcome, ok, bind, Tree, node, Trees, cons, rec_of, size, sizes, rename}
use Rattle.engine.specs.Engine.{View, done, stop, ask, Grammar, Body, top, on_top, with_kid, act, run, on, loop, climb, read, Good, leads, grows, Fits, ends, asks, Whole}
use Rattle.engine.specs.BaseLaws.{bind_ok, bind_is, ok_inj, halt_ok, stuck_ok, size_pos, size_rename}

module _ {P A S : Type 0} (G : Grammar P A S) where
  -- ---- reading ⟹ derivation

  abbrev Sound : (A → P → Outcome P (Tree P)) → Type 0
  Sound R = (a : A) (p : P) (t : Tree P) → R a p ≡ ok t → Whole G a p t

  pub run_sound : (R : A → P → Outcome P (Tree P)) → Sound R → (m : ℕ) (s : S) (x : Body P) → run G m R s ≡ ok x → Fits G s x.kind x.flag x.end x.kids
  run_sound R h zero s x q = stuck_ok q
  run_sound R h (suc m) s x q = go (G.view s) refl q (run_sound R h m)
    where
      go : (v : View P A S) → G.view s ≡ v → act G R (run G m R) v ≡ ok x
          → ((s : S) (y : Body P) → run G m R s ≡ ok y → Fits G s y.kind y.flag y.end y.kids) → Fits G s x.kind x.flag x.end x.kids
      go (done k φ e) v q ih = subst (λ (y : Body P). Fits G s y.kind y.flag y.end y.kids) (ok_inj q) (ends v)
      go (stop k p) v q ih = halt_ok q
      go (ask a p nm f) v q ih =
          let (t, qt, q1) = bind_ok (R a p) _ x q in
          let (y, qy, q2) = bind_ok (run G m R (f (rec_of t))) _ x q1 in
          let (b, g, n) = h a p t qt in
          subst (λ (z : Body P). Fits G s z.kind z.flag z.end z.kids) (ok_inj q2) (asks a p nm f v refl b g n (ih (f (rec_of t)) y qy))

  loop_sound : (n : ℕ) (R : A → P → Outcome P (Tree P)) → Sound R → (m : ℕ) (a : A) (p : P) (t u : Tree P)
      → (rec_of t).start ≡ p → Good G a t → loop G m n R a t ≡ ok u → Whole G a p u
  loop_sound n R h zero a p t u s g q = stuck_ok q
  loop_sound n R h (suc m) a p t u s g q = go (G.next a (rec_of t)) refl q (λ x. loop_sound n R h m a p (on_top G t x) u s)
    where
      go : (o : Option S) → G.next a (rec_of t) ≡ o → on G o t (λ g. bind (run G n R g) (λ x. loop G m n R a (on_top G t x))) ≡ ok u
          → ((x : Body P) → Good G a (on_top G t x) → loop G m n R a (on_top G t x) ≡ ok u → Whole G a p u) → Whole G a p u
      go none e q ih = subst (λ (v : Tree P). Whole G a p v) (ok_inj q) (s, g, e)
      go (some c) e q ih =
          let (x, qx, q1) = bind_ok (run G n R c) _ u q in
          ih x (grows c g refl e (run_sound R h n c x qx)) q1

  pub read_sound : (n : ℕ) (a : A) (p : P) (t : Tree P) → read G n a p ≡ ok t → Whole G a p t
  read_sound zero a p t q = stuck_ok q
  read_sound (suc n) a p t q =
      let (x, qx, q1) = bind_ok (run G (suc n) (read G n) (G.lead a p)) _ t q in
      loop_sound (suc n) (read G n) (read_sound n) (suc n) a p (top G p x) t refl (leads (run_sound (read G n) (read_sound n) (suc n) (G.lead a p) x qx)) q1

  -- ---- derivation ⟹ reading, by any fuel that is no less than the tree's size

  -- how often the tree grew on G its left side
  spine : {a : A} {t : Tree P} → Good G a t → ℕ
  spine (leads f) = zero
  spine (grows g l s e f) = suc (spine l)

  spine_size : {a : A} {t : Tree P} (g : Good G a t) → spine g < size t
  unfolding spine
  spine_size (leads f) = omega arith
  spine_size (grows g l s e f) = let h = spine_size l in omega arith

  pub act_is : {v w : View P A S} (R : A → P → Outcome P (Tree P)) (more : S → Outcome P (Body P)) → v ≡ w → act G R more v ≡ act G R more w
  act_is R more e = rw e

  on_none : {o : Option S} (t : Tree P) (f : S → Outcome P (Tree P)) → o ≡ none → on G o t f ≡ ok t
  on_none t f e = rw e

  on_some : {o : Option S} {g : S} (t : Tree P) (f : S → Outcome P (Tree P)) → o ≡ some g → on G o t f ≡ f g
  on_some t f e = rw e

  size_of : (nm : ℕ → ℕ) (t : Tree P) {u : Tree P} → rename nm t ≡ u → size t ≡ size u
  size_of nm t i = sym (size_rename nm t) ∙ ap size i

  with_is : (nm : ℕ → ℕ) (t : Tree P) {u : Tree P} {k φ : ℕ} {e : P} {ts : Trees P} → rename nm t ≡ u
      → ◌≡◌ {A = Outcome P (Body P)} (ok (with_kid G (rename nm t) (record { kind = k; flag = φ; end = e; kids = ts }))) (ok (record { kind = k; flag = φ; end = e; kids = cons u ts }))
  with_is nm t {k = k} {φ} {e} {ts} i = ap (λ (y : Tree P). ok (record { kind = k; flag = φ; end = e; kids = cons y ts })) i

  mutual
    unfolding spine

    fits_run : {s : S} {k φ : ℕ} {e : P} {ts : Trees P} → Fits G s k φ e ts → (n m : ℕ) → sizes ts ≤ n → sizes ts < m → run G m (read G n) s ≡ ok (record { kind = k; flag = φ; end = e; kids = ts })
    fits_run (ends v) n zero h w = absurd (omega arith)
    fits_run (ends v) n (suc m) h w = act_is (read G n) (run G m (read G n)) v
    fits_run (asks {t = t} {u} a p nm f v i s g q c) n zero h w = absurd (omega arith)
    fits_run (asks {t = t} {u} a p nm f v i s g q c) zero (suc m) h w = absurd (omega (arith, size_pos t, size_of nm t i))
    fits_run (asks {t = t} {u} a p nm f v i s g q c) (suc n) (suc m) h w =
        act_is (read G (suc n)) (run G m (read G (suc n))) v
        ∙ bind_is (λ (x : Tree P). bind (run G m (read G (suc n)) (f (rec_of x))) (λ (y : Body P). ok (with_kid G (rename nm x) y)))
        (subst (λ (x : P). climb G (suc n) (suc n) (read G n) a x ≡ ok t) s
        (good_climb g n (omega (arith, size_of nm t i)) (suc (n - spine g)) (suc n) (omega (arith, spine_size g, size_of nm t i)) ∙ on_none t _ q))
        ∙ bind_is (λ (y : Body P). ok (with_kid G (rename nm t) y)) (fits_run c (suc n) m (omega (arith, size_of nm t i)) (omega (arith, size_pos t, size_of nm t i))) ∙ with_is nm t i

    good_climb : {a : A} {t : Tree P} (g : Good G a t) (n : ℕ) → size t ≤ suc n → (m m' : ℕ) → m' ≡ m + spine g
        → climb G m' (suc n) (read G n) a (rec_of t).start ≡ loop G m (suc n) (read G n) a t
    good_climb (leads {a} {b = b} f) n h m m' w = let q : m' ≡ m = omega arith in rw q (bind_is _ (fits_run f n (suc n) (omega arith) (omega arith)))
    good_climb (grows {a} {l = l} {k} {φ} {b} {e} {ts} g gl s x f) n h m m' w =
        subst (λ (y : P). climb G m' (suc n) (read G n) a y ≡ loop G m (suc n) (read G n) a (node k φ y e (cons l ts))) s
        (good_climb gl n (omega arith) (suc m) m' (omega arith) ∙ on_some l _ x ∙ bind_is _ (fits_run f n (suc n) (omega arith) (omega arith)))

  pub whole_read : (a : A) (p : P) (t : Tree P) (n : ℕ) → size t ≤ n → Whole G a p t → read G n a p ≡ ok t
  whole_read a p t zero h w = absurd (omega (arith, size_pos t))
  whole_read a p t (suc n) h (s, g, q) =
      subst (λ (x : P). climb G (suc n) (suc n) (read G n) a x ≡ ok t) s
      (good_climb g n h (suc (n - spine g)) (suc n) (omega (arith, spine_size g)) ∙ on_none t _ q)

  -- the left part of what is read G, with the loop G still to go on G
  pub good_loop : (a : A) (p : P) (t : Tree P) (n : ℕ) → size t ≤ suc n → (rec_of t).start ≡ p → Good G a t
      → (m : ℕ) × (climb G (suc n) (suc n) (read G n) a p ≡ loop G (suc m) (suc n) (read G n) a t)
  good_loop a p t n h s g = (
    n - spine g,
    subst (λ (x : P). climb G (suc n) (suc n) (read G n) a x ≡ loop G (suc (n - spine g)) (suc n) (read G n) a t) s
        (good_climb g n h (suc (n - spine g)) (suc n) (omega (arith, spine_size g))),
  )
