-- The check of the tables is sound, and with it the theorem on trees: the rule holds at every node of a tree exactly when the reading
-- returns that tree.
use Rattle.std.specs.Prelude.{◌≡◌, refl, ◌&&◌, ◌⊎◌, List, [], ◌∷◌, ℕ, zero, suc, ◌≤◌, ◌<◌, leb, T}
use Rattle.std.proofs.Common.{ap, sym, ◌∙◌, subst, inl, inr, arith, leb→le}
use Rattle.std.proofs.Math.Option.{Option, none, some}
use Rattle.engine.specs.Base.{ok, Rec, Tree, node, Trees, nil, cons, rec_of, size, rename, renamed}
use Rattle.engine.specs.Engine.{done, ask, Good, leads, grows, Fits, ends, asks, FailIn, fails_here, fails_kid, fails_rest}
use Rattle.engine.specs.Layout.{Lay, bad, fin, move, kid, fork, rep, Lang, State, Sight, refuse, hop, dive, turn, named, alias, seen, from, level, fit, after, grammar, read_at}
use Rattle.engine.specs.Rule.{Runs, rfin, rmove, rkid, ryes, rno, rrep, rend, Firm, Local, first, later, Every, every, Everys, enil, econs, Ruled}
use Rattle.engine.specs.Tables.{shutK, close, shut, tail, open', opens, ok_kind, Called, Sane}
use Rattle.engine.specs.BaseLaws.{rec_rename, rename_id, and_t, or_t, t_and, unless_none, unless_some, unless_le, unless_lt}
use Rattle.engine.specs.EngineLaws.{read_sound, whole_read}

module _ {P B M C : Type 0} (N : Lang P B M C) where
  -- ---- one step of a production

  pub fits_same : {s s' : State P B M C} {k φ : ℕ} {e : P} {ts : Trees P} → (grammar N).view s ≡ (grammar N).view s' → Fits (grammar N) s' k φ e ts → Fits (grammar N) s k φ e ts
  fits_same q (ends v) = ends (q ∙ v)
  fits_same q (asks a p nm f v i s g n x) = asks a p nm f (q ∙ v) i s g n x

  pub fails_same : {s s' : State P B M C} {x : ℕ} {p : P} → (grammar N).view s ≡ (grammar N).view s' → FailIn (grammar N) s' x p → FailIn (grammar N) s x p
  fails_same q (fails_here v) = fails_here (q ∙ v)
  fails_same q (fails_kid a p nm f v g) = fails_kid a p nm f (q ∙ v) g
  fails_same q (fails_rest a p nm f t v g h) = fails_rest a p nm f t (q ∙ v) g h

  pub hop_is : {o : Option P} {q : P} (z : ℕ × P) (f : P → Sight N) → o ≡ some q → hop N o z f ≡ f q
  hop_is z f e = rw e

  pub hop_not : {o : Option P} (z : ℕ × P) (f : P → Sight N) → o ≡ none → hop N o z f ≡ refuse N z
  hop_not z f e = rw e

  pub dive_is : {o : Option B} {b : B} (z : ℕ × P) (j : ℕ) (p : P) (nm : ℕ → ℕ) (f : Rec P → State P B M C) → o ≡ some b → dive N o z j p nm f ≡ ask (b, j) p nm f
  dive_is z j p nm f e = rw e

  pub dive_not : {o : Option B} (z : ℕ × P) (j : ℕ) (p : P) (nm : ℕ → ℕ) (f : Rec P → State P B M C) → o ≡ none → dive N o z j p nm f ≡ refuse N z
  dive_not z j p nm f e = rw e

  pub turn_is : {o : Option P} {q : P} (f : P → Sight N) (v : Sight N) → o ≡ some q → turn N o f v ≡ f q
  turn_is f v e = rw e

  pub turn_not : {o : Option P} (f : P → Sight N) (v : Sight N) → o ≡ none → turn N o f v ≡ v
  turn_not f v e = rw e

  -- ---- the check is sound

  -- what follows a child stops the child's reading
  abbrev Shut : B → C → Rec P → Type 0
  Shut d c r = after N d r.end ≤ N.bound c

  abbrev Both : B → C → Rec P → Type 0
  Both d c r = Firm N d c r × Shut d c r

  abbrev Calm : B → C → Rec P → Type 0
  Calm d c r = Firm N d c r × (after N d r.end ≤ N.slack c)

  runs_map : {Z Y : B → C → Rec P → Type 0} → ((d : B) (c : C) (r : Rec P) → Z d c r → Y d c r)
      → {b : B} {σ : P} {ks : List (Rec P)} {l : Lay M C} {p e : P} {φ : ℕ} {rs : List (Rec P)} {bs : List (B × ℕ)} → Runs N Z b σ ks l p e φ rs bs → Runs N Y b σ ks l p e φ rs bs
  runs_map h rfin = rfin
  runs_map h (rmove q g x) = rmove q g (runs_map h x)
  runs_map h (rkid {c} {r = r} {d = d} w s y x) = rkid w s (h d c r y) (runs_map h x)
  runs_map h (ryes q g x) = ryes q g (runs_map h x)
  runs_map h (rno g x) = rno g (runs_map h x)
  runs_map h (rrep {c = c} {r = r} {d = d} q g w s y x) = rrep q g w s (h d c r y) (runs_map h x)
  runs_map h (rend g x) = rend g (runs_map h x)

  module _ (W : Sane N) where
    -- what is known of a kind that passes
    record Kind (k : ℕ) : Type 0 where
      tight_pos : 0 < N.tight k
      hold_le : N.hold k ≤ N.tight k
      is_shut : T (shut N (N.hold k) (N.layout k))
      is_open : T (opens N (N.hold k) (N.layout k))

    kind_ok : (k : ℕ) → T (ok_kind N k) → Kind k
    kind_ok k t =
        let (x, y) = and_t (leb 1 (N.tight k) && leb (N.hold k) (N.tight k)) (shut N (N.hold k) (N.layout k) && opens N (N.hold k) (N.layout k)) t in
        let (u, v) = and_t (leb 1 (N.tight k)) (leb (N.hold k) (N.tight k)) x in
        let (c, o) = and_t (shut N (N.hold k) (N.layout k)) (opens N (N.hold k) (N.layout k)) y in
        record {
          tight_pos = leb→le _ _ u;
          hold_le = leb→le _ _ v;
          is_shut = c;
          is_open = o;
        }

    pick_kind : (b : B) (p : P) (k : ℕ) → N.pick b p ≡ some k → Kind k
    pick_kind b p k q = kind_ok k (W.pick_ok b p k q)

    op_kind : (b : B) (p : P) (k : ℕ) → N.op_at b p ≡ some k → (N.tight k < N.cap) × Kind k
    op_kind b p k q = let (x, y) = and_t (leb (suc (N.tight k)) N.cap) (ok_kind N k) (W.op_ok b p k q) in (leb→le _ _ x, kind_ok k y)

    pub op_tight : (b : B) (p : P) (k : ℕ) → N.op_at b p ≡ some k → 0 < N.tight k
    op_tight b p k q = (op_kind b p k q).1.tight_pos

    pub after_cap : (b : B) (p : P) → after N b p < N.cap
    after_cap b p = go (N.op_at b p) refl
      where
        go : (o : Option ℕ) → N.op_at b p ≡ o → level N o < N.cap
        go none e = W.cap_pos
        go (some k) e = (op_kind b p k e).0

    shutK_ok : {Z : B → C → Rec P → Type 0} {b d : B} {σ : P} {ks hs : List (Rec P)} {l : Lay M C} {p e : P} {φ : ℕ} {rs : List (Rec P)} {bs : List (B × ℕ)} (lim : ℕ) (c : C)
        → Runs N Z b σ ks l p e φ rs bs → T (shutK N lim c l) → N.down b c σ hs ≡ some d → after N b e ≤ lim → after N d p ≤ N.slack c
    shutK_ok {b = b} {d} lim c (rfin {p}) t w h =
        let (t1, t2) = and_t (N.keeps c) (leb lim (N.slack c)) t in
        let q = W.keeps_ok c t1 b d _ _ p w in
        let v = leb→le lim (N.slack c) t2 in
        omega arith
    shutK_ok {b = b} {d} lim c (rmove {m} {p = p} q g x) t w h = W.stops_ok m c t b d _ _ p q w g
    shutK_ok lim c (rkid v s y x) t w h = absurd t
    shutK_ok {b = b} {d} lim c (ryes {m} {l' = l'} {p = p} q g x) t w h = W.stops_ok m c (and_t (N.stops m c) (shutK N lim c l') t).0 b d _ _ p q w g
    shutK_ok lim c (rno {m} {l' = l'} g x) t w h = shutK_ok lim c x (and_t (N.stops m c) (shutK N lim c l') t).1 w h
    shutK_ok {b = b} {d} lim c (rrep {m} {l = l} {p = p} q g v s y x) t w h = W.stops_ok m c (and_t (N.stops m c) (shutK N lim c l) t).0 b d _ _ p q w g
    shutK_ok lim c (rend {m} {l = l} g x) t w h = shutK_ok lim c x (and_t (N.stops m c) (shutK N lim c l) t).1 w h

    close_ok : {Z : B → C → Rec P → Type 0} {b d : B} {σ : P} {ks hs : List (Rec P)} {l : Lay M C} {p e : P} {φ : ℕ} {rs : List (Rec P)} {bs : List (B × ℕ)} (lim : ℕ) (c : C)
        → Runs N Z b σ ks l p e φ rs bs → T (close N lim c l) → N.down b c σ hs ≡ some d → after N b e ≤ lim → after N d p ≤ N.slack c
    close_ok {d = d} {l = l} {p} lim c x t w h = go (or_t (leb N.cap (suc (N.slack c))) (shutK N lim c l) t)
      where
        go : T (leb N.cap (suc (N.slack c))) ⊎ T (shutK N lim c l) → after N d p ≤ N.slack c
        go (inl u) = let v = leb→le N.cap (suc (N.slack c)) u in omega (arith, after_cap d p)
        go (inr u) = shutK_ok lim c x u w h

    shut_ok : {b : B} {σ : P} {ks : List (Rec P)} {l : Lay M C} {p e : P} {φ : ℕ} {rs : List (Rec P)} {bs : List (B × ℕ)} (lim : ℕ)
        → Runs N (Firm N) b σ ks l p e φ rs bs → T (shut N lim l) → after N b e ≤ lim → Runs N Calm b σ ks l p e φ rs bs
    shut_ok lim rfin t h = rfin
    shut_ok lim (rmove q g x) t h = rmove q g (shut_ok lim x t h)
    shut_ok lim (rkid {c} {l} w s y x) t h =
        let (t1, t2) = and_t (close N lim c l) (shut N lim l) t in
        rkid w s (y, close_ok lim c x t1 w h) (shut_ok lim x t2 h)
    shut_ok lim (ryes {l = l} {l'} q g x) t h = ryes q g (shut_ok lim x (and_t (shut N lim l) (shut N lim l') t).0 h)
    shut_ok lim (rno {l = l} {l'} g x) t h = rno g (shut_ok lim x (and_t (shut N lim l) (shut N lim l') t).1 h)
    shut_ok lim (rrep {m} {c} {l} q g w s y x) t h =
        rrep q g w s (y, close_ok lim c x (and_t (close N lim c (rep m c l)) (shut N lim l) t).0 w h) (shut_ok lim x t h)
    shut_ok lim (rend {m} {c} {l} g x) t h = rend g (shut_ok lim x (and_t (close N lim c (rep m c l)) (shut N lim l) t).1 h)

    -- the child that was read last stands N before the place
    abbrev Last : B → Option C → P → Type 0
    Last b none p = Unit {0}
    Last b (some c) p = (d : B) × (σ : P) × (ks : List (Rec P)) × (N.down b c σ ks ≡ some d) × (after N d p ≤ N.bound c)

    tail_ok : (b : B) (lim : ℕ) (p : P) (o : Option C) → Last b o p → T (tail N lim o) → after N b p ≤ lim
    tail_ok b lim p none z t = absurd t
    tail_ok b lim p (some c) (d, σ, ks, w, h) t =
        let (t1, t2) = and_t (N.keeps c) (leb (N.bound c) lim) t in
        let q = W.keeps_ok c t1 b d _ _ p w in
        let v = leb→le (N.bound c) lim t2 in
        omega arith

    open_ok : {b : B} {σ : P} {ks : List (Rec P)} {l : Lay M C} {p e : P} {φ : ℕ} {rs : List (Rec P)} {bs : List (B × ℕ)} (lim : ℕ) (o : Option C)
        → Runs N Both b σ ks l p e φ rs bs → Last b o p → T (open' N lim o l) → after N b e ≤ lim
    open_ok {b} lim o (rfin {p}) z t = tail_ok b lim p o z t
    open_ok lim o (rmove q g x) z t = open_ok lim none x tt t
    open_ok lim o (rkid {c} {d = d} w s y x) z t = open_ok lim (some c) x (d, _, _, w, y.1) t
    open_ok lim o (ryes {l = l} {l'} q g x) z t = open_ok lim none x tt (and_t (open' N lim none l) (open' N lim o l') t).0
    open_ok lim o (rno {l = l} {l'} g x) z t = open_ok lim o x z (and_t (open' N lim none l) (open' N lim o l') t).1
    open_ok lim o (rrep {c = c} {l} {d = d} q g w s y x) z t =
        let u = (and_t (open' N lim o l) (open' N lim (some c) l) t).1 in
        open_ok lim (some c) x (d, _, _, w, y.1) (t_and (open' N lim (some c) l) (open' N lim (some c) l) u u)
    open_ok lim o (rend {c = c} {l} g x) z t = open_ok lim o x z (and_t (open' N lim o l) (open' N lim (some c) l) t).0

    opens_ok : {b : B} {σ : P} {ks : List (Rec P)} {l : Lay M C} {p e : P} {φ : ℕ} {rs : List (Rec P)} {bs : List (B × ℕ)} (lim : ℕ) → Runs N Both b σ ks l p e φ rs bs → T (opens N lim l) → after N b e ≤ lim
    opens_ok {b} {l = l} {e = e} lim x t = go (or_t (leb N.cap (suc lim)) (open' N lim none l) t)
      where
        go : T (leb N.cap (suc lim)) ⊎ T (open' N lim none l) → after N b e ≤ lim
        go (inl u) = let v = leb→le N.cap (suc lim) u in omega (arith, after_cap b e)
        go (inr u) = open_ok lim none x tt u

    -- ---- the rule at every node ⟹ derivation

    abbrev at : B → P → List (Rec P) → ℕ → Lay M C → P → State P B M C
    at b σ ks k l p = record { att = b; start = σ; kids = ks; kind = k; lay = l; place = p }

    -- a tree that may be read under each bound that it holds against
    abbrev Reads : B → Tree P → Type 0
    Reads b t = (k : ℕ) → k < N.tight (rec_of t).kind → after N b (rec_of t).end ≤ N.hold (rec_of t).kind → Good (grammar N) (b, k) t

    -- trees, each renamed by its style
    data Readss : List (B × ℕ) → List (Rec P) → Trees P → Type 0 where
      dnil : Readss [] [] nil
      dcons : {b : B} {n : ℕ} {bs : List (B × ℕ)} {rs : List (Rec P)} {t : Tree P} {ts : Trees P} → Reads b t → Kind (rec_of t).kind → Called N b (rec_of t).kind → Readss bs rs ts
          → Readss ((b, n) ∷ bs) (renamed (named N n) (rec_of t) ∷ rs) (cons (rename (named N n) t) ts)

    named_tight : (n k : ℕ) → N.tight (named N n k) ≡ N.tight k
    named_tight zero k = refl
    named_tight (suc n) k = W.name_tight n k

    stands_le : (c : C) (b d : B) (σ : P) (ks : List (Rec P)) (k : ℕ) → N.down b c σ ks ≡ some d → Called N d k → N.bound c < N.tight k → N.slack c ≤ N.hold k
    stands_le c b d σ ks k w m h = go (or_t (leb (N.tight k) (N.bound c)) (leb (N.slack c) (N.hold k)) (W.stands_ok c b d σ ks k w m))
      where
        go : T (leb (N.tight k) (N.bound c)) ⊎ T (leb (N.slack c) (N.hold k)) → N.slack c ≤ N.hold k
        go (inl u) = absurd (omega (arith, leb→le (N.tight k) (N.bound c) u))
        go (inr u) = leb→le (N.slack c) (N.hold k) u

    runs_fits : {b : B} {σ : P} {ks : List (Rec P)} {l : Lay M C} {p e : P} {φ : ℕ} {rs : List (Rec P)} {bs : List (B × ℕ)} {ts : Trees P} (k : ℕ) → Runs N Calm b σ ks l p e φ rs bs → Readss bs rs ts → Fits (grammar N) (at b σ ks k l p) k φ e ts
    runs_fits k rfin dnil = ends refl
    runs_fits k (rmove q g x) ts = fits_same (hop_is _ _ g) (runs_fits k x ts)
    runs_fits k (rkid {c} {d = d} w s (y, z) x) (dcons {t = t} g o m ts) =
        let y' : N.bound c < N.tight (rec_of t).kind = omega (arith, named_tight (N.style c) (rec_of t).kind) in
        let v = stands_le c _ d _ _ (rec_of t).kind w m y' in
        let v' = W.slack_le c in
        asks (d, N.bound c) _ _ _ (dive_is _ _ _ _ _ w) refl s (g (N.bound c) y' (omega arith)) (unless_le (after N d (rec_of t).end) (N.bound c) _ (omega arith)) (runs_fits k x ts)
    runs_fits k (ryes q g x) ts = fits_same (turn_is _ _ g) (runs_fits k x ts)
    runs_fits k (rno g x) ts = fits_same (turn_not _ _ g) (runs_fits k x ts)
    runs_fits k (rrep {c = c} {d = d} q n w s (y, z) x) (dcons {t = t} g o m ts) =
        let y' : N.bound c < N.tight (rec_of t).kind = omega (arith, named_tight (N.style c) (rec_of t).kind) in
        let v = stands_le c _ d _ _ (rec_of t).kind w m y' in
        let v' = W.slack_le c in
        asks (d, N.bound c) _ _ _ (turn_is _ _ n ∙ dive_is _ _ _ _ _ w) refl s (g (N.bound c) y' (omega arith)) (unless_le (after N d (rec_of t).end) (N.bound c) _ (omega arith)) (runs_fits k x ts)
    runs_fits k (rend g x) ts = fits_same (turn_not _ _ g) (runs_fits k x ts)

    fit_is : (j k : ℕ) {o : Option ℕ} → o ≡ some k → j < N.tight k → fit N j o ≡ some k
    fit_is j k q h = rw q (unless_lt (N.tight k) j k h)

    -- what a tree was before its root was renamed
    record Origin (b : B) (n : ℕ) (t : Tree P) : Type 0 where
      tree : Tree P
      is : rename (named N n) tree ≡ t
      reads : Reads b tree
      kind : Kind (rec_of tree).kind
      called : Called N b (rec_of tree).kind

    first_reads : {b : B} {k φ : ℕ} {s e : P} {rs : List (Rec P)} {bs : List (B × ℕ)} {ts : Trees P} → N.pick b s ≡ some k → Runs N (Firm N) b s [] (N.layout k) s e φ rs bs
        → Readss bs rs ts → Reads b (node k φ s e ts)
    first_reads {b} {k} {φ} {s} {e} {ts = ts} q x gs j h w =
        leads (subst (λ (o : Option ℕ). Fits (grammar N) (from N o b s [] s) k φ e ts) (sym (fit_is j k q h))
        (runs_fits k (shut_ok (N.hold k) x (pick_kind b s k q).is_shut w) gs))

    later_reads : {b : B} {k φ : ℕ} {s e : P} {l : Rec P} {rs : List (Rec P)} {bs : List (B × ℕ)} {ts : Trees P} → l.start ≡ s → N.op_at b l.end ≡ some k → N.tight k ≤ N.hold l.kind
        → Runs N (Firm N) b l.start (l ∷ []) (N.layout k) l.end e φ rs bs → Readss ((b, 0) ∷ bs) (l ∷ rs) ts → Reads b (node k φ s e ts)
    later_reads {b} {k} {φ} {s} {e} {l} st q v x (dcons {t = t} {ts} g o n gs) j h w =
        let m : after N b l.end ≡ N.tight k = ap (level N) q in
        let c = (op_kind b l.end k q).1 in
        subst (λ (y : Tree P). Good (grammar N) (b, j) (node k φ s e (cons y ts))) (sym (rename_id t))
        (grows (from N (N.op_at b l.end) b l.start (l ∷ []) l.end) (g j (omega (arith, o.hold_le)) (omega arith)) st (unless_lt (after N b l.end) j _ (omega arith))
        (subst (λ (o : Option ℕ). Fits (grammar N) (from N o b l.start (l ∷ []) l.end) k φ e ts) (sym q)
        (runs_fits k (shut_ok (N.hold k) x c.is_shut w) gs)))

    local_reads : {a : B × ℕ} {r : Rec P} {rs : List (Rec P)} {bs : List (B × ℕ)} {ts : Trees P} → Local N a r rs bs → Readss bs rs ts → Origin a.0 a.1 (node r.kind r.flag r.start r.end ts)
    local_reads {r = r} {ts = ts} (first {b} k i q x) gs = record {
      tree = node k r.flag r.start r.end ts;
      is = ap (λ (y : ℕ). node y r.flag r.start r.end ts) i;
      reads = first_reads q x gs;
      kind = pick_kind b r.start k q;
      called = (r.start, inl q);
    }
    local_reads {r = r} {ts = ts} (later {b} {l = l} k i s q v x) gs = record {
      tree = node k r.flag r.start r.end ts;
      is = ap (λ (y : ℕ). node y r.flag r.start r.end ts) i;
      reads = later_reads s q v x gs;
      kind = (op_kind b l.end k q).1;
      called = (l.end, inr q);
    }

    readss_cons : {a : B × ℕ} {bs : List (B × ℕ)} {r : Rec P} {rs : List (Rec P)} {t : Tree P} {ts : Trees P} → rec_of t ≡ r → Origin a.0 a.1 t → Readss bs rs ts → Readss (a ∷ bs) (r ∷ rs) (cons t ts)
    readss_cons {a} {bs} {r} {rs} {t} {ts} q o gs =
        let z : renamed (named N a.1) (rec_of o.tree) ≡ r = sym (rec_rename (named N a.1) o.tree) ∙ ap rec_of o.is ∙ q in
        subst (λ (y : Rec P). Readss (a ∷ bs) (y ∷ rs) (cons t ts)) z
        (subst (λ (y : Tree P). Readss (a ∷ bs) (renamed (named N a.1) (rec_of o.tree) ∷ rs) (cons y ts)) o.is (dcons {b = a.0} {n = a.1} o.reads o.kind o.called gs))

    mutual
      every_reads : {a : B × ℕ} {t : Tree P} → Every (Local N) a t → Origin a.0 a.1 t
      every_reads (every x es) = local_reads x (everys_readss es)

      everys_readss : {bs : List (B × ℕ)} {rs : List (Rec P)} {ts : Trees P} → Everys (Local N) bs rs ts → Readss bs rs ts
      everys_readss enil = dnil
      everys_readss (econs {b} {bs} {r} {rs} {t} {ts} q e es) = readss_cons q (every_reads e) (everys_readss es)

    -- ---- derivation ⟹ the rule at every node

    data Chain : State P B M C → ℕ → ℕ → P → Trees P → Type 0 where
      cends : {s : State P B M C} {k φ : ℕ} {e : P} → (grammar N).view s ≡ done k φ e → Chain s k φ e nil
      casks : {s : State P B M C} {k φ : ℕ} {e : P} {u : Tree P} {ts : Trees P} (t : Tree P) (d : B) (j : ℕ) (p : P) (nm : ℕ → ℕ) (f : Rec P → State P B M C)
          → (grammar N).view s ≡ ask (d, j) p nm f → rename nm t ≡ u → (rec_of t).start ≡ p → (j < N.tight (rec_of t).kind) × ((n : ℕ) → Every (Local N) (d, n) (rename (named N n) t))
          → after N d (rec_of t).end ≤ j → Chain (f (rec_of t)) k φ e ts → Chain s k φ e (cons u ts)

    -- a production that was read, as its layout has it
    abbrev Laid : State P B M C → ℕ → ℕ → P → Trees P → Type 0
    Laid s k φ e ts = (s.kind ≡ k) × ((bs : List (B × ℕ)) × (rs : List (Rec P)) × Runs N Both s.att s.start s.kids s.lay s.place e φ rs bs × Everys (Local N) bs rs ts)

    -- a view that is no refusal
    abbrev Live : Sight N → Type 0
    Live v = (z : ℕ × P) → ¬ (refuse N z ≡ v)

    hop_inv : (o : Option P) (z : ℕ × P) (f : P → Sight N) (v : Sight N) → Live v → hop N o z f ≡ v → (q : P) × (o ≡ some q) × (f q ≡ v)
    hop_inv none z f v h e = absurd (h z e)
    hop_inv (some q) z f v h e = (q, refl, e)

    dive_inv : (o : Option B) (z : ℕ × P) (j : ℕ) (p : P) (nm : ℕ → ℕ) (f : Rec P → State P B M C) (v : Sight N) → Live v
        → dive N o z j p nm f ≡ v → (d : B) × (o ≡ some d) × (ask (d, j) p nm f ≡ v)
    dive_inv none z j p nm f v h e = absurd (h z e)
    dive_inv (some d) z j p nm f v h e = (d, refl, e)

    turn_inv : (o : Option P) (f : P → Sight N) (u v : Sight N) → turn N o f u ≡ v → ((q : P) × (o ≡ some q) × (f q ≡ v)) ⊎ ((o ≡ none) × (u ≡ v))
    turn_inv none f u v e = inr (refl, e)
    turn_inv (some q) f u v e = inl (q, refl, e)

    module _ (b : B) (σ : P) (ks : List (Rec P)) (k' k φ : ℕ) (e : P) (ts : Trees P) (v : Sight N) (live : Live v)
        (at_fin : (ψ : ℕ) (p : P) → done k' ψ p ≡ v → Laid (at b σ ks k' (fin ψ) p) k φ e ts)
        (at_kid : (c : C) (l : Lay M C) (p : P) (d : B) → N.down b c σ ks ≡ some d → ask (d, N.bound c) p (alias N c) (λ r. at b σ (renamed (alias N c) r ∷ ks) k' l r.end) ≡ v → Laid (at b σ ks k' (kid c l) p) k φ e ts)
        (at_rep : (m : M) (c : C) (l : Lay M C) (p q : P) (d : B) → N.go b m σ p ≡ some q → N.down b c σ ks ≡ some d
        → ask (d, N.bound c) q (alias N c) (λ r. at b σ (renamed (alias N c) r ∷ ks) k' (rep m c l) r.end) ≡ v → Laid (at b σ ks k' (rep m c l) p) k φ e ts) where
      peel : (l : Lay M C) (p : P) → seen N b σ ks k' l p ≡ v → Laid (at b σ ks k' l p) k φ e ts
      peel bad p q = absurd (live _ q)
      peel (fin ψ) p q = at_fin ψ p q
      peel (move m l) p q =
          let (x, g, y) = hop_inv (N.go b m σ p) _ _ v live q in
          let (i, (bs, rs, r, es)) = peel l x y in
          (i, (bs, rs, rmove x g r, es))
      peel (kid c l) p q =
          let (d, w, y) = dive_inv (N.down b c σ ks) _ _ _ _ _ v live q in
          at_kid c l p d w y
      peel (fork m l l') p q = go (turn_inv (N.go b m σ p) _ _ v q) (peel l) (peel l' p)
        where
          go : ((x : P) × (N.go b m σ p ≡ some x) × (seen N b σ ks k' l x ≡ v)) ⊎ ((N.go b m σ p ≡ none) × (seen N b σ ks k' l' p ≡ v))
              → ((x : P) → seen N b σ ks k' l x ≡ v → Laid (at b σ ks k' l x) k φ e ts) → (seen N b σ ks k' l' p ≡ v → Laid (at b σ ks k' l' p) k φ e ts) → Laid (at b σ ks k' (fork m l l') p) k φ e ts
          go (inl (x, g, y)) f h = let (i, (bs, rs, r, es)) = f x y in (i, (bs, rs, ryes x g r, es))
          go (inr (g, y)) f h = let (i, (bs, rs, r, es)) = h y in (i, (bs, rs, rno g r, es))
      peel (rep m c l) p q = go (turn_inv (N.go b m σ p) _ _ v q) (peel l p)
        where
          go : ((x : P) × (N.go b m σ p ≡ some x) × (dive N (N.down b c σ ks) (N.no_level b c ks x) (N.bound c) x (alias N c) (λ r. at b σ (renamed (alias N c) r ∷ ks) k' (rep m c l) r.end) ≡ v)) ⊎ ((N.go b m σ p ≡ none) × (seen N b σ ks k' l p ≡ v))
              → (seen N b σ ks k' l p ≡ v → Laid (at b σ ks k' l p) k φ e ts) → Laid (at b σ ks k' (rep m c l) p) k φ e ts
          go (inl (x, g, y)) h = let (d, w, z) = dive_inv (N.down b c σ ks) _ _ _ _ _ v live y in at_rep m c l p x d g w z
          go (inr (g, y)) h = let (i, (bs, rs, r, es)) = h y in (i, (bs, rs, rend g r, es))

    ask_inj : {d d' : B} {j j' : ℕ} {p p' : P} {g g' : ℕ → ℕ} {f f' : Rec P → State P B M C} → ◌≡◌ {A = Sight N} (ask (d, j) p g f) (ask (d', j') p' g' f')
        → (d ≡ d') × (j ≡ j') × (p ≡ p') × (g ≡ g') × (f ≡ f')
    ask_inj {d} {d'} {j} {j'} q =
        let pq : ◌≡◌ {A = B × ℕ} (d, j) (d', j') = cc in
        (ap (λ x. x.0) pq, ap (λ x. x.1) pq, cc, cc, cc)

    done_inj : {k k' φ φ' : ℕ} {p p' : P} → ◌≡◌ {A = Sight N} (done k φ p) (done k' φ' p') → (k ≡ k') × (φ ≡ φ') × (p ≡ p')
    done_inj q = (cc, cc, cc)

    chain_laid : {s : State P B M C} {k φ : ℕ} {e : P} {ts : Trees P} → Chain s k φ e ts → Laid s k φ e ts
    chain_laid {s} (cends {k = k} {φ} {e} v) = peel s.att s.start s.kids s.kind k φ e nil (done k φ e) (λ z q. absurd (let z : ◌≡◌ {A = ℕ} 0 1 = cc in omega arith)) at_fin at_kid at_rep s.lay s.place v
      where
        at_fin : (ψ : ℕ) (p : P) → ◌≡◌ {A = Sight N} (done s.kind ψ p) (done k φ e) → Laid (at s.att s.start s.kids s.kind (fin ψ) p) k φ e nil
        at_fin ψ p q = let (i, j, x) = done_inj q in (i, ([], [], subst (λ (z : ℕ). Runs N Both s.att s.start s.kids (fin ψ) p e z [] []) j (subst (λ (y : P). Runs N Both s.att s.start s.kids (fin ψ) p y ψ [] []) x rfin), enil))

        at_kid : (c : C) (l : Lay M C) (p : P) (d : B) → N.down s.att c s.start s.kids ≡ some d → ◌≡◌ {A = Sight N} (ask (d, N.bound c) p (alias N c) (λ r. at s.att s.start (renamed (alias N c) r ∷ s.kids) s.kind l r.end)) (done k φ e)
            → Laid (at s.att s.start s.kids s.kind (kid c l) p) k φ e nil
        at_kid c l p d w q = absurd (let z : ◌≡◌ {A = ℕ} 0 1 = cc in omega arith)

        at_rep : (m : M) (c : C) (l : Lay M C) (p q : P) (d : B) → N.go s.att m s.start p ≡ some q → N.down s.att c s.start s.kids ≡ some d
            → ◌≡◌ {A = Sight N} (ask (d, N.bound c) q (alias N c) (λ r. at s.att s.start (renamed (alias N c) r ∷ s.kids) s.kind (rep m c l) r.end)) (done k φ e) → Laid (at s.att s.start s.kids s.kind (rep m c l) p) k φ e nil
        at_rep m c l p x d g w q = absurd (let z : ◌≡◌ {A = ℕ} 0 1 = cc in omega arith)
    chain_laid {s} (casks {k = k} {φ} {e} {u} {ts} t d j p nm f v iu st h z x) =
        build (chain_laid x)
      where
        at_fin : (ψ : ℕ) (p' : P) → ◌≡◌ {A = Sight N} (done s.kind ψ p') (ask (d, j) p nm f) → Laid (at s.att s.start s.kids s.kind (fin ψ) p') k φ e (cons u ts)
        at_fin ψ p' q = absurd (let z : ◌≡◌ {A = ℕ} 0 1 = cc in omega arith)

        at_kid : Laid (f (rec_of t)) k φ e ts → (c : C) (l : Lay M C) (p' : P) (d' : B) → N.down s.att c s.start s.kids ≡ some d'
            → ◌≡◌ {A = Sight N} (ask (d', N.bound c) p' (alias N c) (λ r. at s.att s.start (renamed (alias N c) r ∷ s.kids) s.kind l r.end)) (ask (d, j) p nm f) → Laid (at s.att s.start s.kids s.kind (kid c l) p') k φ e (cons u ts)
        at_kid ih c l p' d' w q =
            let (qd, qj, qp, qn, qf) = ask_inj q in
            let (i, (bs, rs, r, es)) = subst (λ (g : Rec P → State P B M C). Laid (g (rec_of t)) k φ e ts) (sym qf) ih in
            let (y, ev) = h in
            let v = named_tight (N.style c) (rec_of t).kind in
            subst (λ (y : Tree P). Laid (at s.att s.start s.kids s.kind (kid c l) p') k φ e (cons y ts)) (ap (λ (g : ℕ → ℕ). rename g t) qn ∙ iu)
            (i, ((d, N.style c) ∷ bs, renamed (alias N c) (rec_of t) ∷ rs, rkid {r = renamed (alias N c) (rec_of t)} (w ∙ ap some qd) (st ∙ sym qp) (omega arith, omega arith) r, econs (rec_rename (alias N c) t) (ev (N.style c)) es))

        at_rep : Laid (f (rec_of t)) k φ e ts → (m : M) (c : C) (l : Lay M C) (p' q : P) (d' : B) → N.go s.att m s.start p' ≡ some q → N.down s.att c s.start s.kids ≡ some d'
            → ◌≡◌ {A = Sight N} (ask (d', N.bound c) q (alias N c) (λ r. at s.att s.start (renamed (alias N c) r ∷ s.kids) s.kind (rep m c l) r.end)) (ask (d, j) p nm f) → Laid (at s.att s.start s.kids s.kind (rep m c l) p') k φ e (cons u ts)
        at_rep ih m c l p' n d' g w q =
            let (qd, qj, qp, qn, qf) = ask_inj q in
            let (i, (bs, rs, r, es)) = subst (λ (g : Rec P → State P B M C). Laid (g (rec_of t)) k φ e ts) (sym qf) ih in
            let (y, ev) = h in
            let v = named_tight (N.style c) (rec_of t).kind in
            subst (λ (y : Tree P). Laid (at s.att s.start s.kids s.kind (rep m c l) p') k φ e (cons y ts)) (ap (λ (g : ℕ → ℕ). rename g t) qn ∙ iu)
            (i, ((d, N.style c) ∷ bs, renamed (alias N c) (rec_of t) ∷ rs, rrep {r = renamed (alias N c) (rec_of t)} n g (w ∙ ap some qd) (st ∙ sym qp) (omega arith, omega arith) r, econs (rec_rename (alias N c) t) (ev (N.style c)) es))

        build : Laid (f (rec_of t)) k φ e ts → Laid s k φ e (cons u ts)
        build ih = peel s.att s.start s.kids s.kind k φ e (cons u ts) (ask (d, j) p nm f) (λ z q. absurd (let z : ◌≡◌ {A = ℕ} 0 1 = cc in omega arith)) at_fin (at_kid ih) (at_rep ih) s.lay s.place v

    no_bad : {Z : B → C → Rec P → Type 0} {b : B} {σ p e : P} {ks : List (Rec P)} {φ : ℕ} {rs : List (Rec P)} {bs : List (B × ℕ)} → Runs N Z b σ ks bad p e φ rs bs → ⊥
    no_bad x = elim x [ ]

    -- what is known of a tree that was read under a
    abbrev Known : B → ℕ → Tree P → Type 0
    Known b j t = (j < N.tight (rec_of t).kind) × (after N b (rec_of t).end ≤ N.hold (rec_of t).kind) × ((n : ℕ) → Every (Local N) (b, n) (rename (named N n) t))

    fit_inv : (j : ℕ) (o : Option ℕ) (k : ℕ) → fit N j o ≡ some k → (o ≡ some k) × (j < N.tight k)
    fit_inv j none k q = absurd (let z : ◌≡◌ {A = ℕ} 0 1 = cc in omega arith)
    fit_inv j (some k') k q =
        let (h, e) = unless_some (N.tight k') j k' k q in
        (ap some e, subst (λ (y : ℕ). j < N.tight y) e h)

    lead_known : (b : B) (j k φ : ℕ) (s e : P) (ts : Trees P) → Laid (from N (fit N j (N.pick b s)) b s [] s) k φ e ts → Known b j (node k φ s e ts)
    lead_known b j k φ s e ts x = go (fit N j (N.pick b s)) refl x
      where
        go : (o : Option ℕ) → fit N j (N.pick b s) ≡ o → Laid (from N o b s [] s) k φ e ts → Known b j (node k φ s e ts)
        go none q (i, (bs, rs, r, es)) = absurd (no_bad r)
        go (some k') q (i, (bs, rs, r, es)) =
            let (q', h) = fit_inv j (N.pick b s) k (q ∙ ap some i) in
            let r' : Runs N Both b s [] (N.layout k) s e φ rs bs = subst (λ (y : ℕ). Runs N Both b s [] (N.layout y) s e φ rs bs) i r in
            (h, opens_ok (N.hold k) r' (pick_kind b s k q').is_open, λ n. every (first k refl q' (runs_map (λ d c r z. z.0) r')) es)

    more_known : (b : B) (j k φ : ℕ) (s e : P) (l : Tree P) (ts : Trees P) → j < after N b (rec_of l).end → (rec_of l).start ≡ s
        → after N b (rec_of l).end ≤ N.hold (rec_of l).kind → Every (Local N) (b, 0) l
        → Laid (from N (N.op_at b (rec_of l).end) b (rec_of l).start (rec_of l ∷ []) (rec_of l).end) k φ e ts → Known b j (node k φ s e (cons l ts))
    more_known b j k φ s e l ts h st w el x = go (N.op_at b (rec_of l).end) refl x
      where
        go : (o : Option ℕ) → N.op_at b (rec_of l).end ≡ o → Laid (from N o b (rec_of l).start (rec_of l ∷ []) (rec_of l).end) k φ e ts → Known b j (node k φ s e (cons l ts))
        go none q (i, (bs, rs, r, es)) = absurd (no_bad r)
        go (some k') q (i, (bs, rs, r, es)) =
            let q' : N.op_at b (rec_of l).end ≡ some k = q ∙ ap some i in
            let m : after N b (rec_of l).end ≡ N.tight k = ap (level N) q' in
            let r' : Runs N Both b (rec_of l).start (rec_of l ∷ []) (N.layout k) (rec_of l).end e φ rs bs = subst (λ (y : ℕ). Runs N Both b (rec_of l).start (rec_of l ∷ []) (N.layout y) (rec_of l).end e φ rs bs) i r in (
              omega arith,
              opens_ok (N.hold k) r' (op_kind b (rec_of l).end k q').1.is_open,
              λ n. every (later {l = rec_of l} k refl st q' (omega arith) (runs_map (λ d c r z. z.0) r')) (econs refl el es),
            )

    mutual
      good_known : {a : B × ℕ} {t : Tree P} → Good (grammar N) a t → Known a.0 a.1 t
      good_known (leads {a} {k} {φ} {b = s} {e} {ts} f) = lead_known a.0 a.1 k φ s e ts (chain_laid (fits_chain f))
      good_known (grows {a} {l} {k} {φ} {b = s} {e} {ts} g gl q n f) =
          let (lo, v) = unless_some _ _ _ g n in
          let (i1, i2, i3) = good_known gl in
          more_known a.0 a.1 k φ s e l ts lo q i2 (subst (λ (y : Tree P). Every (Local N) (a.0, 0) y) (rename_id l) (i3 0)) (subst (λ (y : State P B M C). Laid y k φ e ts) (sym v) (chain_laid (fits_chain f)))

      fits_chain : {s : State P B M C} {k φ : ℕ} {e : P} {ts : Trees P} → Fits (grammar N) s k φ e ts → Chain s k φ e ts
      fits_chain (ends v) = cends v
      fits_chain (asks {t = t} a p nm f v i q g n x) =
          casks t a.0 a.1 p nm f v i q (let (i1, i2, i3) = good_known g in (i1, i3)) (unless_none _ _ _ n) (fits_chain x)

    -- ---- the theorem

    pub ruled_read : (b : B) (p : P) (t : Tree P) (n : ℕ) → size t ≤ n → Ruled N b p t → read_at N n b p ≡ ok t
    ruled_read b p t n h (s, x, z) =
        let o = every_reads x in
        let i : o.tree ≡ t = sym (rename_id o.tree) ∙ o.is in
        let g : Good (grammar N) (b, 0) t = subst (λ (y : Tree P). after N b (rec_of y).end ≡ 0 → Good (grammar N) (b, 0) y) i (λ w. o.reads 0 o.kind.tight_pos (omega arith)) z in
        whole_read (grammar N) (b, 0) p t n h (s, g, unless_le (after N b (rec_of t).end) 0 _ (omega arith))

    pub read_ruled : (b : B) (p : P) (t : Tree P) (n : ℕ) → read_at N n b p ≡ ok t → Ruled N b p t
    read_ruled b p t n q =
        let (s, g, e) = read_sound (grammar N) n (b, 0) p t q in
        let (i1, i2, i3) = good_known g in
        let z = unless_none (after N b (rec_of t).end) 0 _ e in
        (s, subst (λ (y : Tree P). Every (Local N) (b, 0) y) (rename_id t) (i3 0), omega arith)
