-- More fuel changes no answer; and where each step moves on, the rest of the source is fuel enough.
-- no answer, or the same
use Rattle.std.specs.Prelude.{◌≡◌, refl, ◌⊎◌, ℕ, zero, suc, ◌+◌, ◌≤◌, ◌<◌}
use Rattle.std.proofs.Common.{sym, ◌∙◌, subst, inl, inr, arith}
use Rattle.std.proofs.Math.Option.{Option, none, some}
use Rattle.engine.specs.Base.{Outcome, ok, halt, stuck, bind, Rec, Tree, rec_of, size}
use Rattle.engine.specs.Engine.{View, done, stop, ask, Grammar, Body, top, on_top, act, run, on, loop, climb, read, full, Whole}
use Rattle.engine.specs.EngineLaws.{read_sound, whole_read}

abbrev pub Under : {P X : Type 0} → Outcome P X → Outcome P X → Type 0
Under o o' = (o ≡ stuck) ⊎ (o ≡ o')

bind_under : {P X Y : Type 0} (o o' : Outcome P X) (f f' : X → Outcome P Y) → Under o o' → ((x : X) → Under (f x) (f' x)) → Under (bind o f) (bind o' f')
bind_under o o' f f' (inl q) h = inl (rw q)
bind_under {P} {X} {Y} o o' f f' (inr q) h = subst (λ (z : Outcome P X). Under (bind o f) (bind z f')) q (go o)
  where
    go : (o : Outcome P X) → Under (bind o f) (bind o f')
    go (ok x) = h x
    go (halt k p) = inr refl
    go stuck = inr refl

module _ {P A S : Type 0} (G : Grammar P A S) where
  act_under : (R R' : A → P → Outcome P (Tree P)) → ((a : A) (p : P) → Under (R a p) (R' a p)) → (u u' : S → Outcome P (Body P)) → ((s : S) → Under (u s) (u' s))
      → (v : View P A S) → Under (act G R u v) (act G R' u' v)
  act_under R R' h u u' w (done k φ e) = inr refl
  act_under R R' h u u' w (stop k p) = inr refl
  act_under R R' h u u' w (ask a p nm f) = bind_under _ _ _ _ (h a p) (λ t. bind_under _ _ _ _ (w (f (rec_of t))) (λ x. inr refl))

  run_under : (R R' : A → P → Outcome P (Tree P)) → ((a : A) (p : P) → Under (R a p) (R' a p)) → (m m' : ℕ) → m ≤ m' → (s : S) → Under (run G m R s) (run G m' R' s)
  run_under R R' h zero m' w s = inl refl
  run_under R R' h (suc m) zero w s = absurd (omega arith)
  run_under R R' h (suc m) (suc m') w s = act_under R R' h (run G m R) (run G m' R') (run_under R R' h m m' (omega arith)) (G.view s)

  loop_under : (R R' : A → P → Outcome P (Tree P)) → ((a : A) (p : P) → Under (R a p) (R' a p)) → (n n' : ℕ) → n ≤ n' → (m m' : ℕ) → m ≤ m'
      → (a : A) (t : Tree P) → Under (loop G m n R a t) (loop G m' n' R' a t)
  loop_under R R' h n n' v zero m' w a t = inl refl
  loop_under R R' h n n' v (suc m) zero w a t = absurd (omega arith)
  loop_under R R' h n n' v (suc m) (suc m') w a t = go (G.next a (rec_of t)) (loop_under R R' h n n' v m m' (omega arith) a)
    where
      go : (o : Option S) → ((t : Tree P) → Under (loop G m n R a t) (loop G m' n' R' a t))
          → Under (on G o t (λ g. bind (run G n R g) (λ x. loop G m n R a (on_top G t x)))) (on G o t (λ g. bind (run G n' R' g) (λ x. loop G m' n' R' a (on_top G t x))))
      go none ih = inr refl
      go (some g) ih = bind_under _ _ _ _ (run_under R R' h n n' v g) (λ x. ih (on_top G t x))

  climb_under : (R R' : A → P → Outcome P (Tree P)) → ((a : A) (p : P) → Under (R a p) (R' a p)) → (m m' : ℕ) → m ≤ m' → (a : A) (p : P)
      → Under (climb G m m R a p) (climb G m' m' R' a p)
  climb_under R R' h m m' w a p = bind_under _ _ _ _ (run_under R R' h m m' w (G.lead a p)) (λ x. loop_under R R' h m m' w m m' w a (top G p x))

  -- more fuel changes no answer
  pub read_under : (n n' : ℕ) → n ≤ n' → (a : A) (p : P) → Under (read G n a p) (read G n' a p)
  read_under zero n' w a p = inl refl
  read_under (suc n) zero w a p = absurd (omega arith)
  read_under (suc n) (suc n') w a p = climb_under (read G n) (read G n') (read_under n n' (omega arith)) (suc n) (suc n') w a p

  -- how much is left at a place and in a state, and that each step moves on, or at least goes down by μ
  pub record Moves (π : P → ℕ) (ν : S → ℕ) (μ : A → P → ℕ) : Type 0 where
    pub fuel_left : (a : A) (p : P) → π p ≤ μ a p
    pub fuel_less : (a a' : A) (p q : P) → π q < π p → μ a' q < μ a p
    pub done_less : (s : S) (k φ : ℕ) (e : P) → G.view s ≡ done k φ e → π e ≤ ν s
    pub ask_less : (s : S) (a : A) (q : P) (nm : ℕ → ℕ) (f : Rec P → S) → G.view s ≡ ask a q nm f → (π q ≤ ν s) × ((r : Rec P) → ν (f r) ≤ π r.end)
    pub lead_done : (a : A) (p : P) (k φ : ℕ) (e : P) → G.view (G.lead a p) ≡ done k φ e → π e < π p
    pub lead_ask : (a : A) (p : P) (a' : A) (q : P) (nm : ℕ → ℕ) (f : Rec P → S) → G.view (G.lead a p) ≡ ask a' q nm f → (π q ≤ π p) × (μ a' q < μ a p)
    pub next_less : (a : A) (r : Rec P) (s : S) → G.next a r ≡ some s → ν s ≤ π r.end
    pub next_done : (a : A) (r : Rec P) (s : S) (k φ : ℕ) (e : P) → G.next a r ≡ some s → G.view s ≡ done k φ e → π e < π r.end

  module _ (π : P → ℕ) (ν : S → ℕ) (μ : A → P → ℕ) (W : Moves π ν μ) where
    -- an answer, and what is accepted leaves less than lim
    abbrev Fine : ℕ → Outcome P (Tree P) → Type 0
    Fine lim (ok t) = π (rec_of t).end < lim
    Fine lim (halt k p) = Unit {0}
    Fine lim stuck = ⊥

    abbrev Ends : ℕ → Outcome P (Body P) → Type 0
    Ends lim (ok x) = π x.end < lim
    Ends lim (halt k p) = Unit {0}
    Ends lim stuck = ⊥

    tree_ends : (l lim : ℕ) (o : Outcome P (Tree P)) (f : Tree P → Outcome P (Body P)) → Fine l o → ((t : Tree P) → π (rec_of t).end < l → Ends lim (f t)) → Ends lim (bind o f)
    tree_ends l lim (ok t) f x h = h t x
    tree_ends l lim (halt k p) f x h = tt
    tree_ends l lim stuck f x h = absurd x

    body_ends : (l lim : ℕ) (o : Outcome P (Body P)) (f : Body P → Outcome P (Body P)) → Ends l o → ((x : Body P) → π x.end < l → Ends lim (f x)) → Ends lim (bind o f)
    body_ends l lim (ok t) f x h = h t x
    body_ends l lim (halt k p) f x h = tt
    body_ends l lim stuck f x h = absurd x

    body_fine : (l lim : ℕ) (o : Outcome P (Body P)) (f : Body P → Outcome P (Tree P)) → Ends l o → ((x : Body P) → π x.end < l → Fine lim (f x)) → Fine lim (bind o f)
    body_fine l lim (ok t) f x h = h t x
    body_fine l lim (halt k p) f x h = tt
    body_fine l lim stuck f x h = absurd x

    -- a step leaves less than lim, and asks where the fuel is enough
    abbrev Step : ℕ → ℕ → ℕ → ℕ → View P A S → Type 0
    Step n c lim m (done k φ e) = π e < lim
    Step n c lim m (stop k p) = Unit {0}
    Step n c lim m (ask a q nm f) = (μ a q < n) × (π q ≤ lim) × (π q ≤ c) × (π q ≤ m) × ((r : Rec P) → ν (f r) ≤ π r.end)

    -- below c, fuel n is enough for R
    module _ (n c : ℕ) (low : (a : A) (q : P) → π q < c → μ a q < n) (R : A → P → Outcome P (Tree P)) (good : (a : A) (q : P) → μ a q < n → Fine (π q) (R a q)) where
      act_ends : (m lim : ℕ) (u : S → Outcome P (Body P)) → ((s : S) → ν s < c → ν s < m → Ends (suc (ν s)) (u s)) → (v : View P A S) → Step n c lim m v → Ends lim (act G R u v)
      act_ends m lim u h (done k φ e) x = x
      act_ends m lim u h (stop k p) x = tt
      act_ends m lim u h (ask a q nm f) (x, y, z, z', w) =
          tree_ends (π q) lim (R a q) _ (good a q x) (λ t v.
          body_ends (suc (ν (f (rec_of t)))) lim (u (f (rec_of t))) _ (h (f (rec_of t)) (omega (arith, w (rec_of t))) (omega (arith, w (rec_of t))))
          (λ b v'. omega (arith, w (rec_of t))))

      run_ends : (m : ℕ) (s : S) → ν s < c → ν s < m → Ends (suc (ν s)) (run G m R s)
      run_ends zero s x y = absurd (omega arith)
      run_ends (suc m) s x y = act_ends m (suc (ν s)) (run G m R) (run_ends m) (G.view s) (step (G.view s) refl)
        where
          step : (v : View P A S) → G.view s ≡ v → Step n c (suc (ν s)) m v
          step (done k φ e) q = omega (arith, W.done_less s k φ e q)
          step (stop k p) q = tt
          step (ask a p nm f) q = let (i, j) = W.ask_less s a p nm f q in (low a p (omega arith), omega arith, omega arith, omega arith, j)

      loop_fine : c ≤ n → (a : A) (m : ℕ) (t : Tree P) → π (rec_of t).end < m → π (rec_of t).end < c → Fine c (loop G m (suc n) R a t)
      loop_fine w a zero t x y = absurd (omega arith)
      loop_fine w a (suc m) t x y = go (G.next a (rec_of t)) refl (λ b. loop_fine w a m (on_top G t b))
        where
          go : (o : Option S) → G.next a (rec_of t) ≡ o → ((b : Body P) → π b.end < m → π b.end < c → Fine c (loop G m (suc n) R a (on_top G t b)))
              → Fine c (on G o t (λ g. bind (run G (suc n) R g) (λ x. loop G m (suc n) R a (on_top G t x))))
          go none q ih = y
          go (some s) q ih =
              body_fine (π (rec_of t).end) c (run G (suc n) R s) _
              (act_ends n (π (rec_of t).end) (run G n R) (run_ends n) (G.view s) (step (G.view s) refl))
              (λ b v. ih b (omega arith) (omega arith))
            where
              step : (v : View P A S) → G.view s ≡ v → Step n c (π (rec_of t).end) n v
              step (done k φ e) v = W.next_done a (rec_of t) s k φ e q v
              step (stop k p) v = tt
              step (ask a' p nm f) v =
                  let (i, j) = W.ask_less s a' p nm f v in
                  let h = W.next_less a (rec_of t) s q in
                  (low a' p (omega arith), omega arith, omega arith, omega arith, j)

    pub read_fine : (n : ℕ) (a : A) (p : P) → μ a p < n → Fine (π p) (read G n a p)
    read_fine zero a p h = absurd (omega arith)
    read_fine (suc n) a p h =
        let w = W.fuel_left a p in
        let low : (a : A) (q : P) → π q < π p → μ a q < n = λ a' q v. omega (arith, W.fuel_less a a' p q v) in
        body_fine (π p) (π p) (run G (suc n) (read G n) (G.lead a p)) _
        (act_ends n (π p) low (read G n) (read_fine n) n (π p) (run G n (read G n)) (run_ends n (π p) low (read G n) (read_fine n) n)
        (G.view (G.lead a p)) (step (G.view (G.lead a p)) refl))
        (λ b v. loop_fine n (π p) low (read G n) (read_fine n) (omega arith) a (suc n) (top G p b) (omega arith) (omega arith))
      where
        step : (v : View P A S) → G.view (G.lead a p) ≡ v → Step n (π p) (π p) n v
        step (done k φ e) q = W.lead_done a p k φ e q
        step (stop k p) q = tt
        step (ask a' q nm f) v =
            let (i, i') = W.lead_ask a p a' q nm f v in
            let w = W.fuel_left a p in
            let (j, k) = W.ask_less (G.lead a p) a' q nm f v in
            (omega arith, omega arith, omega arith, omega arith, k)

    fine_not : (lim : ℕ) (o : Outcome P (Tree P)) → Fine lim o → ¬ (o ≡ stuck)
    fine_not lim (ok t) x q = let z : ◌≡◌ {A = ℕ} 0 1 = cc in absurd (omega arith)
    fine_not lim (halt k p) x q = let z : ◌≡◌ {A = ℕ} 0 1 = cc in absurd (omega arith)
    fine_not lim stuck x q = x

    pub full_not : (a : A) (p : P) → ¬ (full G μ a p ≡ stuck)
    full_not a p = fine_not (π p) (full G μ a p) (read_fine (suc (μ a p)) a p (omega arith))

    under_by : (x y z : Outcome P (Tree P)) → Under x z → Under y z → ¬ (y ≡ stuck) → Under x y
    under_by x y z (inl q) v h = inl q
    under_by x y z (inr q) (inl r) h = absurd (h r)
    under_by x y z (inr q) (inr r) h = inr (q ∙ sym r)

    -- what any fuel answers, the reading answers
    pub read_full : (n : ℕ) (a : A) (p : P) → Under (read G n a p) (full G μ a p)
    read_full n a p =
        under_by (read G n a p) (full G μ a p) (read G (n + suc (μ a p)) a p) (read_under n (n + suc (μ a p)) (omega arith) a p)
        (read_under (suc (μ a p)) (n + suc (μ a p)) (omega arith) a p) (full_not a p)

    pub equal_by : (x y : Outcome P (Tree P)) → Under x y → ¬ (x ≡ stuck) → x ≡ y
    equal_by x y (inl q) h = absurd (h q)
    equal_by x y (inr q) h = q

    -- it is its own step
    pub full_is : (a : A) (p : P) → full G μ a p ≡ climb G (suc (μ a p)) (suc (μ a p)) (full G μ) a p
    full_is a p = equal_by _ _ (climb_under (read G (μ a p)) (full G μ) (read_full (μ a p)) (suc (μ a p)) (suc (μ a p)) (omega arith) a p) (full_not a p)

    pub whole_full : (a : A) (p : P) (t : Tree P) → Whole G a p t → full G μ a p ≡ ok t
    whole_full a p t w =
        let q = whole_read G a p t (size t) (omega arith) w in
        sym (equal_by (read G (size t) a p) (full G μ a p) (read_full (size t) a p) (λ z. let v : ◌≡◌ {A = ℕ} 0 1 = cc in absurd (omega arith))) ∙ q

    pub full_whole : (a : A) (p : P) (t : Tree P) → full G μ a p ≡ ok t → Whole G a p t
    full_whole a p t q = read_sound G (suc (μ a p)) a p t q
