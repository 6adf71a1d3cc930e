-- A refusal of the reading has its reason, and what has a reason is refused.
-- a refused bind: the first half was refused, or it was accepted and the second refused
use Rattle.std.specs.Prelude.{◌≡◌, refl, ℕ, zero, suc, ◌+◌, ◌≤◌}
use Rattle.std.proofs.Common.{sym, ◌∙◌, arith}
use Rattle.std.proofs.Math.Option.{Option, none, some}
use Rattle.engine.specs.Base.{Outcome, ok, halt, stuck, bind, Tree, rec_of, size, rename}
use Rattle.engine.specs.Engine.{View, done, stop, ask, Grammar, Body, top, on_top, with_kid, act, run, on, loop, read, full, Good, leads, grows, Whole, FailAt, fails_first, fails_later, FailIn, fails_here, fails_kid, fails_rest}
use Rattle.engine.specs.BaseLaws.{bind_is, halt_is}
use Rattle.engine.specs.EngineLaws.{run_sound, read_sound, act_is, whole_read, good_loop}
use Rattle.engine.specs.Total.{Moves, read_full, equal_by}

pub data Halted {P X Y : Type 0} (o : Outcome P X) (f : X → Outcome P Y) (k : ℕ) (q : P) : Type 0 where
  sooner : o ≡ halt k q → Halted o f k q
  afterwards : (x : X) → o ≡ ok x → f x ≡ halt k q → Halted o f k q

bind_halt : {P X Y : Type 0} (o : Outcome P X) (f : X → Outcome P Y) (k : ℕ) (q : P) → bind o f ≡ halt k q → Halted o f k q
bind_halt (ok x) f k q e = afterwards x refl e
bind_halt (halt j p) f k q e = sooner (let z : j ≡ k = cc in let w : p ≡ q = cc in cc)
bind_halt stuck f k q e = absurd (let z : ◌≡◌ {A = ℕ} 0 1 = cc in omega arith)

module _ {P A S : Type 0} (G : Grammar P A S) where
  -- ---- a refusal has its reason

  abbrev Blames : (A → P → Outcome P (Tree P)) → Type 0
  Blames R = (a : A) (p : P) (k : ℕ) (q : P) → R a p ≡ halt k q → FailAt G a p k q

  abbrev Sound : (A → P → Outcome P (Tree P)) → Type 0
  Sound R = (a : A) (p : P) (t : Tree P) → R a p ≡ ok t → Whole G a p t

  run_fails : (R : A → P → Outcome P (Tree P)) → Sound R → Blames R → (m : ℕ) (s : S) (k : ℕ) (q : P) → run G m R s ≡ halt k q → FailIn G s k q
  run_fails R h b zero s k q e = absurd (let z : ◌≡◌ {A = ℕ} 0 1 = cc in omega arith)
  run_fails R h b (suc m) s k q e = go (G.view s) refl e (λ s. run_fails R h b m s k q)
    where
      go : (v : View P A S) → G.view s ≡ v → act G R (run G m R) v ≡ halt k q → ((s : S) → run G m R s ≡ halt k q → FailIn G s k q) → FailIn G s k q
      go (done j φ e) v x ih = absurd (let z : ◌≡◌ {A = ℕ} 0 1 = cc in omega arith)
      go (stop j p) v x ih = let z : j ≡ k = cc in let w : p ≡ q = cc in let y : ◌≡◌ {A = View P A S} (stop j p) (stop k q) = cc in fails_here (v ∙ y)
      go (ask a p nm f) v x ih = by (bind_halt (R a p) _ k q x)
        where
          rest : (t : Tree P) → R a p ≡ ok t → Halted (run G m R (f (rec_of t))) (λ y. ok (with_kid G (rename nm t) y)) k q → FailIn G s k q
          rest t y (sooner z) = fails_rest a p nm f t v (h a p t y) (ih (f (rec_of t)) z)
          rest t y (afterwards z w u) = absurd (let z : ◌≡◌ {A = ℕ} 0 1 = cc in omega arith)

          by : Halted (R a p) (λ t. bind (run G m R (f (rec_of t))) (λ x. ok (with_kid G (rename nm t) x))) k q → FailIn G s k q
          by (sooner y) = fails_kid a p nm f v (b a p k q y)
          by (afterwards t y z) = rest t y (bind_halt (run G m R (f (rec_of t))) _ k q z)

  loop_fails : (n : ℕ) (R : A → P → Outcome P (Tree P)) → Sound R → Blames R → (m : ℕ) (a : A) (p : P) (t : Tree P) (k : ℕ) (q : P)
      → (rec_of t).start ≡ p → Good G a t → loop G m n R a t ≡ halt k q → FailAt G a p k q
  loop_fails n R h b zero a p t k q s g e = absurd (let z : ◌≡◌ {A = ℕ} 0 1 = cc in omega arith)
  loop_fails n R h b (suc m) a p t k q s g e = go (G.next a (rec_of t)) refl e (λ x. loop_fails n R h b m a p (on_top G t x) k q s)
    where
      go : (o : Option S) → G.next a (rec_of t) ≡ o → on G o t (λ g. bind (run G n R g) (λ x. loop G m n R a (on_top G t x))) ≡ halt k q
          → ((x : Body P) → Good G a (on_top G t x) → loop G m n R a (on_top G t x) ≡ halt k q → FailAt G a p k q) → FailAt G a p k q
      go none v x ih = absurd (let z : ◌≡◌ {A = ℕ} 0 1 = cc in omega arith)
      go (some c) v x ih = by (bind_halt (run G n R c) _ k q x)
        where
          by : Halted (run G n R c) (λ x. loop G m n R a (on_top G t x)) k q → FailAt G a p k q
          by (sooner y) = fails_later t c s g v (run_fails R h b n c k q y)
          by (afterwards y w z) = ih y (grows c g refl v (run_sound G R h n c y w)) z

  pub read_fails : (n : ℕ) (a : A) (p : P) (k : ℕ) (q : P) → read G n a p ≡ halt k q → FailAt G a p k q
  read_fails zero a p k q e = absurd (let z : ◌≡◌ {A = ℕ} 0 1 = cc in omega arith)
  read_fails (suc n) a p k q e = go (bind_halt (run G (suc n) (read G n) (G.lead a p)) _ k q e) (read_fails n)
    where
      go : Halted (run G (suc n) (read G n) (G.lead a p)) (λ x. loop G (suc n) (suc n) (read G n) a (top G p x)) k q → Blames (read G n) → FailAt G a p k q
      go (sooner y) b = fails_first (run_fails (read G n) (read_sound G n) b (suc n) (G.lead a p) k q y)
      go (afterwards x y z) b =
          loop_fails (suc n) (read G n) (read_sound G n) b (suc n) a p (top G p x) k q refl (leads (run_sound G (read G n) (read_sound G n) (suc n) (G.lead a p) x y)) z

  -- ---- what has a reason is refused, by all fuel from some on

  on_some' : {o : Option S} {g : S} (t : Tree P) (f : S → Outcome P (Tree P)) → o ≡ some g → on G o t f ≡ f g
  on_some' t f e = rw e

  mutual
    fails_read : {a : A} {p : P} {k : ℕ} {q : P} → FailAt G a p k q → (N : ℕ) × ((n : ℕ) → N ≤ n → read G n a p ≡ halt k q)
    fails_read (fails_first {a} {p} {k} {q} x) = let (N, h) = fails_run x in (suc N, first_step N h)
      where
        first_step : (N : ℕ) → ((m n : ℕ) → N ≤ m → N ≤ n → run G m (read G n) (G.lead a p) ≡ halt k q) → (n : ℕ) → suc N ≤ n → read G n a p ≡ halt k q
        first_step N h zero w = absurd (omega arith)
        first_step N h (suc n) w = halt_is _ (h (suc n) n (omega arith) (omega arith))
    fails_read (fails_later {a} {p} {k} {q} t g s x v y) = let (N, h) = fails_run y in (suc (N + size t), later_step N h)
      where
        later_step : (N : ℕ) → ((m n : ℕ) → N ≤ m → N ≤ n → run G m (read G n) g ≡ halt k q) → (n : ℕ) → suc (N + size t) ≤ n → read G n a p ≡ halt k q
        later_step N h zero w = absurd (omega arith)
        later_step N h (suc n) w = let (m, e) = good_loop G a p t n (omega arith) s x in e ∙ on_some' t _ v ∙ halt_is _ (h (suc n) n (omega arith) (omega arith))

    fails_run : {s : S} {k : ℕ} {q : P} → FailIn G s k q → (N : ℕ) × ((m n : ℕ) → N ≤ m → N ≤ n → run G m (read G n) s ≡ halt k q)
    fails_run (fails_here {s} {k} {q} v) = (1, step)
      where
        step : (m n : ℕ) → 1 ≤ m → 1 ≤ n → run G m (read G n) s ≡ halt k q
        step zero n w u = absurd (omega arith)
        step (suc m) n w u = act_is G (read G n) (run G m (read G n)) v
    fails_run (fails_kid {s} {k} {q} a p nm f v x) = let (N, h) = fails_read x in (suc N, step N h)
      where
        step : (N : ℕ) → ((n : ℕ) → N ≤ n → read G n a p ≡ halt k q) → (m n : ℕ) → suc N ≤ m → suc N ≤ n → run G m (read G n) s ≡ halt k q
        step N h zero n w u = absurd (omega arith)
        step N h (suc m) n w u =
            act_is G (read G n) (run G m (read G n)) v
            ∙ halt_is (λ (t : Tree P). bind (run G m (read G n) (f (rec_of t))) (λ (y : Body P). ok (with_kid G (rename nm t) y))) (h n (omega arith))
    fails_run (fails_rest {s} {k} {q} a p nm f t v y x) = let (N, h) = fails_run x in (suc (N + size t), step N h)
      where
        step : (N : ℕ) → ((m n : ℕ) → N ≤ m → N ≤ n → run G m (read G n) (f (rec_of t)) ≡ halt k q) → (m n : ℕ) → suc (N + size t) ≤ m → suc (N + size t) ≤ n
            → run G m (read G n) s ≡ halt k q
        step N h zero n w u = absurd (omega arith)
        step N h (suc m) n w u =
            act_is G (read G n) (run G m (read G n)) v
            ∙ bind_is (λ (x : Tree P). bind (run G m (read G n) (f (rec_of x))) (λ (y : Body P). ok (with_kid G (rename nm x) y))) (whole_read G a p t n (omega arith) y)
            ∙ halt_is (λ (y : Body P). ok (with_kid G (rename nm t) y)) (h m n (omega arith) (omega arith))

  pub fails_full : (π : P → ℕ) (ν : S → ℕ) (μ : A → P → ℕ) → Moves G π ν μ → {a : A} {p : P} {k : ℕ} {q : P} → FailAt G a p k q → full G μ a p ≡ halt k q
  fails_full π ν μ W {a} {p} x =
      let (N, h) = fails_read x in
      let e = h N (omega arith) in
      sym (equal_by G π ν μ W (read G N a p) (full G μ a p) (read_full G π ν μ W N a p) (λ z. let v : ◌≡◌ {A = ℕ} 0 1 = cc in absurd (omega arith))) ∙ e
