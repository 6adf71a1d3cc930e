-- A language that goes on is read with no fuel.
use Rattle.std.specs.Prelude.{◌≡◌, refl, Bool, ◌||◌, ◌⊎◌, ◌↔◌, List, [], ◌∷◌, ℕ, suc, ◌≤◌, ◌<◌, leb, T}
use Rattle.std.proofs.Common.{ap, sym, ◌∙◌, subst, inl, inr, arith, leb→le}
use Rattle.std.proofs.Math.Option.{Option, none, some}
use Rattle.engine.specs.Base.{ok, stuck, Rec, Tree, size, renamed, halt}
use Rattle.engine.specs.Engine.{done, stop, ask, Whole, FailAt}
use Rattle.engine.specs.Layout.{Lay, bad, fin, move, kid, fork, rep, Lang, State, Sight, hop, dive, turn, alias, seen, from, fit, after, grammar, read_at}
use Rattle.engine.specs.Rule.{Ruled}
use Rattle.engine.specs.Tables.{Sane}
use Rattle.engine.specs.Progress.{Pace, ate, Going, reads}
use Rattle.engine.specs.BaseLaws.{and_t, or_t, unless_some}
use Rattle.engine.specs.EngineLaws.{read_sound}
use Rattle.engine.specs.Total.{Moves, full_not, whole_full, equal_by, read_full, read_under, full_whole}
use Rattle.engine.specs.LayoutLaws.{ruled_read, read_ruled}
use Rattle.engine.specs.Fails.{fails_full, read_fails}

module _ {P B M C : Type 0} (N : Lang P B M C) (pace : Pace P B M C) where
  abbrev eats : M → Bool
  eats = pace.eats

  abbrev rankC : C → ℕ
  rankC = pace.rankC

  abbrev π : P → ℕ
  π = pace.rest

  abbrev rank : B → ℕ
  rank = pace.rank

  abbrev fuel : B → P → ℕ
  fuel = pace.fuel

  abbrev pub left : State P B M C → ℕ
  left s = π s.place

  module _ (W : Going N pace) where
    abbrev Within : ℕ → Sight N → Type 0
    Within lim (done k φ e) = π e < lim
    Within lim (stop k p) = Unit {0}
    Within lim (ask a q nm f) = (π q < lim) × ((r : Rec P) → left (f r) ≤ π r.end)

    module _ (b : B) (σ : P) (ks : List (Rec P)) (k lim : ℕ) where
      dived : (o : Option B) (z : ℕ × P) (j : ℕ) (p : P) (nm : ℕ → ℕ) (g : Rec P → Rec P) (l : Lay M C) → π p < lim
          → Within lim (dive N o z j p nm (λ r. record { att = b; start = σ; kids = g r ∷ ks; kind = k; lay = l; place = r.end }))
      dived none z j p nm g l h = tt
      dived (some d) z j p nm g l h = (h, λ r. omega arith)

      within : (l : Lay M C) (p : P) → π p < lim → Within lim (seen N b σ ks k l p)
      within bad p h = tt
      within (fin φ) p h = h
      within (move m l) p h = go (N.go b m σ p) refl (within l)
        where
          go : (o : Option P) → N.go b m σ p ≡ o → ((q : P) → π q < lim → Within lim (seen N b σ ks k l q)) → Within lim (hop N o (N.no_move b m σ p) (seen N b σ ks k l))
          go none q ih = tt
          go (some x) q ih = ih x (omega (arith, W.go_less b m σ p x q))
      within (kid c l) p h = dived (N.down b c σ ks) _ _ p _ _ l h
      within (fork m l l') p h = go (N.go b m σ p) refl (within l) (within l' p h)
        where
          go : (o : Option P) → N.go b m σ p ≡ o → ((q : P) → π q < lim → Within lim (seen N b σ ks k l q)) → Within lim (seen N b σ ks k l' p)
              → Within lim (turn N o (seen N b σ ks k l) (seen N b σ ks k l' p))
          go none q ih y = y
          go (some x) q ih y = ih x (omega (arith, W.go_less b m σ p x q))
      within (rep m c l) p h = go (N.go b m σ p) refl (within l p h)
        where
          go : (o : Option P) → N.go b m σ p ≡ o → Within lim (seen N b σ ks k l p)
              → Within lim (turn N o (λ q. dive N (N.down b c σ ks) (N.no_level b c ks q) (N.bound c) q (alias N c) (λ r. record { att = b; start = σ; kids = renamed (alias N c) r ∷ ks; kind = k; lay = rep m c l; place = r.end })) (seen N b σ ks k l p))
          go none q y = y
          go (some x) q y = dived (N.down b c σ ks) _ _ x _ _ (rep m c l) (omega (arith, W.go_less b m σ p x q))

    -- a first step from b and p
    abbrev Begun : B → P → Sight N → Type 0
    Begun b p (done k φ e) = π e < π p
    Begun b p (stop k q) = Unit {0}
    Begun b p (ask a q nm f) = (π q ≤ π p) × (fuel a.0 q < fuel b p)

    begun_by : (b : B) (p : P) (v : Sight N) → Within (π p) v → Begun b p v
    begun_by b p (done k φ e) x = x
    begun_by b p (stop k q) x = tt
    begun_by b p (ask a q nm f) (x, y) = (omega arith, W.fuel_less b a.0 p q x)

    module _ (b : B) (p₀ σ : P) (ks : List (Rec P)) (k : ℕ) where
      begun_dive : (c : C) (o : Option B) → N.down b c σ ks ≡ o → (z : ℕ × P) (j : ℕ) (p : P) (nm : ℕ → ℕ) (g : Rec P → Rec P) (l : Lay M C) → π p ≤ π p₀ → rankC c < rank b
          → Begun b p₀ (dive N o z j p nm (λ r. record { att = b; start = σ; kids = g r ∷ ks; kind = k; lay = l; place = r.end }))
      begun_dive c none q z j p nm g l h w = tt
      begun_dive c (some d) q z j p nm g l h w = (h, W.fuel_rank b d p₀ p h (omega (arith, W.down_rank b d c σ ks q)))

      begun : (l : Lay M C) (p : P) → π p ≤ π p₀ → T (ate pace (rank b) l) → Begun b p₀ (seen N b σ ks k l p)
      begun bad p h t = tt
      begun (fin φ) p h t = absurd t
      begun (move m l) p h t = go (N.go b m σ p) refl (or_t (eats m) (ate pace (rank b) l) t) (λ q v u. begun l q v u)
        where
          go : (o : Option P) → N.go b m σ p ≡ o → T (eats m) ⊎ T (ate pace (rank b) l)
              → ((q : P) → π q ≤ π p₀ → T (ate pace (rank b) l) → Begun b p₀ (seen N b σ ks k l q)) → Begun b p₀ (hop N o (N.no_move b m σ p) (seen N b σ ks k l))
          go none q u ih = tt
          go (some x) q (inl u) ih = begun_by b p₀ (seen N b σ ks k l x) (within b σ ks k (π p₀) l x (omega (arith, W.go_eats b m σ p x u q)))
          go (some x) q (inr u) ih = ih x (omega (arith, W.go_less b m σ p x q)) u
      begun (kid c l) p h t = begun_dive c (N.down b c σ ks) refl _ _ p _ _ l h (leb→le (suc (rankC c)) (rank b) t)
      begun (fork m l l') p h t =
          let (t1, t2) = and_t (eats m || ate pace (rank b) l) (ate pace (rank b) l') t in
          go (N.go b m σ p) refl (or_t (eats m) (ate pace (rank b) l) t1) (λ q v u. begun l q v u) (begun l' p h t2)
        where
          go : (o : Option P) → N.go b m σ p ≡ o → T (eats m) ⊎ T (ate pace (rank b) l)
              → ((q : P) → π q ≤ π p₀ → T (ate pace (rank b) l) → Begun b p₀ (seen N b σ ks k l q)) → Begun b p₀ (seen N b σ ks k l' p)
              → Begun b p₀ (turn N o (seen N b σ ks k l) (seen N b σ ks k l' p))
          go none q u ih y = y
          go (some x) q (inl u) ih y = begun_by b p₀ (seen N b σ ks k l x) (within b σ ks k (π p₀) l x (omega (arith, W.go_eats b m σ p x u q)))
          go (some x) q (inr u) ih y = ih x (omega (arith, W.go_less b m σ p x q)) u
      begun (rep m c l) p h t =
          let (t1, t2) = and_t (eats m || leb (suc (rankC c)) (rank b)) (ate pace (rank b) l) t in
          go (N.go b m σ p) refl (or_t (eats m) (leb (suc (rankC c)) (rank b)) t1) (begun l p h t2)
        where
          go : (o : Option P) → N.go b m σ p ≡ o → T (eats m) ⊎ T (leb (suc (rankC c)) (rank b)) → Begun b p₀ (seen N b σ ks k l p)
              → Begun b p₀ (turn N o (λ q. dive N (N.down b c σ ks) (N.no_level b c ks q) (N.bound c) q (alias N c) (λ r. record { att = b; start = σ; kids = renamed (alias N c) r ∷ ks; kind = k; lay = rep m c l; place = r.end })) (seen N b σ ks k l p))
          go none q u y = y
          go (some x) q (inl u) y = begun_by b p₀ (dive N (N.down b c σ ks) (N.no_level b c ks x) (N.bound c) x (alias N c) (λ r. record { att = b; start = σ; kids = renamed (alias N c) r ∷ ks; kind = k; lay = rep m c l; place = r.end })) (dived b σ ks k (π p₀) (N.down b c σ ks) (N.no_level b c ks x) (N.bound c) x (alias N c) (renamed (alias N c)) (rep m c l) (omega (arith, W.go_eats b m σ p x u q)))
          go (some x) q (inr u) y = begun_dive c (N.down b c σ ks) refl (N.no_level b c ks x) (N.bound c) x (alias N c) (renamed (alias N c)) (rep m c l) (omega (arith, W.go_less b m σ p x q)) (leb→le (suc (rankC c)) (rank b) u)

    lead_begun : (j : ℕ) (b : B) (p : P) → Begun b p ((grammar N).view (from N (fit N j (N.pick b p)) b p [] p))
    lead_begun j b p = go (N.pick b p) refl
      where
        put : (k : ℕ) → N.pick b p ≡ some k → (o : Option ℕ) → ((i : ℕ) → o ≡ some i → k ≡ i) → Begun b p ((grammar N).view (from N o b p [] p))
        put k q none e = tt
        put k q (some i) e = begun b p p [] i (N.layout i) p (omega arith) (W.pick_ate b p i (q ∙ ap some (e i refl)))

        go : (o : Option ℕ) → N.pick b p ≡ o → Begun b p ((grammar N).view (from N (fit N j o) b p [] p))
        go none q = tt
        go (some k) q = put k q (fit N j (some k)) (λ i e. (unless_some (N.tight k) j k i e).1)

    more_begun : (b : B) (σ : P) (ks : List (Rec P)) (p : P) → Begun b p ((grammar N).view (from N (N.op_at b p) b σ ks p))
    more_begun b σ ks p = go (N.op_at b p) refl
      where
        go : (o : Option ℕ) → N.op_at b p ≡ o → Begun b p ((grammar N).view (from N o b σ ks p))
        go none q = tt
        go (some k) q = begun b p σ ks k (N.layout k) p (omega arith) (W.op_ate b p k q)

    from_place : (o : Option ℕ) (b : B) (σ : P) (ks : List (Rec P)) (p : P) → (from N o b σ ks p).place ≡ p
    from_place none b σ ks p = refl
    from_place (some k) b σ ks p = refl

    abbrev pub fuels : B × ℕ → P → ℕ
    fuels a p = fuel a.0 p

    pub moves : Moves (grammar N) π left fuels
    moves = record {
      fuel_left = λ a p. W.fuel_left a.0 p;
      fuel_less = λ a a' p q h. W.fuel_less a.0 a'.0 p q h;
      done_less = λ s k φ e q. let h = subst (λ (v : Sight N). Within (suc (π s.place)) v) q (within s.att s.start s.kids s.kind (suc (π s.place)) s.lay s.place (omega arith)) in omega arith;
      ask_less = λ s a p nm f q.
          let (i, j) = subst (λ (v : Sight N). Within (suc (π s.place)) v) q (within s.att s.start s.kids s.kind (suc (π s.place)) s.lay s.place (omega arith)) in
          (omega arith, j);
      lead_done = λ a p k φ e q. subst (λ (v : Sight N). Begun a.0 p v) q (lead_begun a.1 a.0 p);
      lead_ask = λ a p a' x nm f q. subst (λ (v : Sight N). Begun a.0 p v) q (lead_begun a.1 a.0 p);
      next_less = λ a r s q.
          let (h, e) = unless_some (after N a.0 r.end) a.1 (from N (N.op_at a.0 r.end) a.0 r.start (r ∷ []) r.end) s q in
          let z : left s ≡ π r.end = ap left (sym e) ∙ ap π (from_place (N.op_at a.0 r.end) a.0 r.start (r ∷ []) r.end) in
          omega arith;
      next_done = λ a r s k φ e q v.
          let (h, w) = unless_some (after N a.0 r.end) a.1 (from N (N.op_at a.0 r.end) a.0 r.start (r ∷ []) r.end) s q in
          let x : Begun a.0 r.end ((grammar N).view s) = subst (λ (y : State P B M C). Begun a.0 r.end ((grammar N).view y)) w (more_begun a.0 r.start (r ∷ []) r.end) in
          subst (λ (y : Sight N). Begun a.0 r.end y) v x;
    }

  -- ---- the theorem, with no fuel

  module _ (W : Going N pace) (U : Sane N) where
    pub ruled_reads : (b : B) (p : P) (t : Tree P) → Ruled N b p t → reads N pace b p ≡ ok t
    ruled_reads b p t x = whole_full (grammar N) π left (fuels W) (moves W) (b, 0) p t (read_sound (grammar N) (size t) (b, 0) p t (ruled_read N U b p t (size t) (omega arith) x))

    pub reads_ruled : (b : B) (p : P) (t : Tree P) → reads N pace b p ≡ ok t → Ruled N b p t
    reads_ruled b p t q = read_ruled N U b p t (suc (fuel b p)) q

    pub reads_answers : (b : B) (p : P) → ¬ (reads N pace b p ≡ stuck)
    reads_answers b p = full_not (grammar N) π left (fuels W) (moves W) (b, 0) p

  -- ---- no fuel, and the derivations

  module _ (W : Going N pace) where
    pub reads_any : (n : ℕ) (b : B) (p : P) → ¬ (read_at N n b p ≡ stuck) → read_at N n b p ≡ reads N pace b p
    reads_any n b p h = equal_by (grammar N) π left (fuels W) (moves W) _ _ (read_full (grammar N) π left (fuels W) (moves W) n (b, 0) p) h

    pub reads_enough : (n : ℕ) (b : B) (p : P) → fuel b p < n → read_at N n b p ≡ reads N pace b p
    reads_enough n b p h = sym (equal_by (grammar N) π left (fuels W) (moves W) _ _ (read_under (grammar N) (suc (fuel b p)) n h (b, 0) p) (full_not (grammar N) π left (fuels W) (moves W) (b, 0) p))

    pub reads_whole : (b : B) (p : P) (t : Tree P) → (reads N pace b p ≡ ok t) ↔ Whole (grammar N) (b, 0) p t
    reads_whole b p t = (full_whole (grammar N) π left (fuels W) (moves W) (b, 0) p t, whole_full (grammar N) π left (fuels W) (moves W) (b, 0) p t)

    pub reads_fails : (b : B) (p : P) (k : ℕ) (q : P) → (reads N pace b p ≡ halt k q) ↔ FailAt (grammar N) (b, 0) p k q
    reads_fails b p k q = (read_fails (grammar N) (suc (fuel b p)) (b, 0) p k q, fails_full (grammar N) π left (fuels W) (moves W))
