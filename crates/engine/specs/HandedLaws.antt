-- The published rule holds at every node exactly when the language's rule does.
use Rattle.std.specs.Prelude.{◌≡◌, refl, Bool, true, false, not, ◌&&◌, ◌⊎◌, ◌↔◌, List, ◌∷◌, map, [], ℕ, suc, ◌≤◌, T, eqb, length}
use Rattle.std.proofs.Common.{sym, ◌∙◌, subst, ap, inl, inr, arith, eqb→eq}
use Rattle.std.proofs.Math.Option.{some, Option}
use Rattle.engine.specs.Base.{Rec, Tree, Trees, rec_of, has}
use Rattle.engine.specs.Flat.{Row, row_in}
use Rattle.engine.specs.Layout.{Lay, Lang, named}
use Rattle.engine.specs.Rule.{Local, first, later, Runs, rfin, rmove, rkid, ryes, rno, rrep, rend, Firm, Every, every, Everys, enil, econs, Table}
use Rattle.engine.specs.Tables.{Called, Sane}
use Rattle.engine.specs.Source.{Source, blank, Holds}
use Rattle.engine.specs.Handed.{Tests, tnil, tcons, Found, Moved, carries, hands, Hands, post_as, Posted, free, Blind, Posts, go_as, untested, sober, meets, Pure, test_as, Passes, RootOwn}
use Rattle.engine.specs.FlatLaws.{table_tree, tree_table, last_rec}
use Rattle.engine.specs.BaseLaws.{and_t, or_t, has_all, is_t, is_f, given_t, t_given, t_or_not}
use Rattle.engine.specs.LayoutLaws.{op_tight}

module _ {P A D X : Type 0} (carried : A → D) (handed : A → X) (Test : X → Rec P → Type 0) (Local : A → Rec P → List (Rec P) → List A → Type 0)
    (Post : D → Rec P → List (Rec P) → List D → Type 0) (W : Moved carried handed Test Local Post) where
  -- ---- on trees

  mutual
    every_post : {a : A} {t : Tree P} → Every Local a t → Every Post (carried a) t × Test (handed a) (rec_of t)
    every_post (every {b = a} {k} {φ} {s} {e} {bs} {rs} x es) =
        let (fs, ts) = everys_post es in
        let (y, t) = W.to a (record { kind = k; flag = φ; start = s; end = e }) rs bs x ts in
        (every y fs, t)

    everys_post : {bs : List A} {rs : List (Rec P)} {ts : Trees P} → Everys Local bs rs ts → Everys Post (map carried bs) rs ts × Tests Test (map handed bs) rs
    everys_post enil = (enil, tnil)
    everys_post (econs {b = a} q e es) =
        let (x, y) = every_post e in
        let (xs, ys) = everys_post es in
        (econs q x xs, tcons (subst (λ (z : Rec P). Test (handed a) z) q y) ys)

  list_cons : {Y : Type 0} {x y : Y} {xs ys : List Y} → ◌≡◌ {A = List Y} (x ∷ xs) (y ∷ ys) → (x ≡ y) × (xs ≡ ys)
  list_cons q = (cc, cc)

  mutual
    post_every : {d : D} {t : Tree P} → Every Post d t → (a : A) → carried a ≡ d → Test (handed a) (rec_of t) → Every Local a t
    post_every (every {b = d} {k} {φ} {s} {e} {bs = ds} {rs} x es) a q t =
        let f = W.from a (record { kind = k; flag = φ; start = s; end = e }) rs ds (subst (λ (y : D). Post y (record { kind = k; flag = φ; start = s; end = e }) rs ds) (sym q) x) t in
        every f.local (posts_every es f.atts f.carry f.tests)

    posts_every : {ds : List D} {rs : List (Rec P)} {ts : Trees P} → Everys Post ds rs ts → (bs : List A) → map carried bs ≡ ds → Tests Test (map handed bs) rs → Everys Local bs rs ts
    posts_every enil [] q t = enil
    posts_every enil (b ∷ bs) q t = absurd (let z : ◌≡◌ {A = ℕ} 0 1 = cc in omega arith)
    posts_every (econs i e es) [] q t = absurd (let z : ◌≡◌ {A = ℕ} 0 1 = cc in omega arith)
    posts_every (econs i e es) (b ∷ bs) q (tcons u ts) =
        let (q1, q2) = list_cons q in
        econs i (post_every e b q1 (subst (λ (z : Rec P). Test (handed b) z) (sym i) u)) (posts_every es bs q2 ts)

  pub trees_agree : (a : A) (t : Tree P) → Every Local a t ↔ (Every Post (carried a) t × Test (handed a) (rec_of t))
  trees_agree a t = (every_post, λ x. post_every x.0 a refl x.1)

  -- ---- on tables

  pub table_post : (f : ℕ → Row P) (a : A) (n : ℕ) → Table Local f a n → Table Post f (carried a) n × ((i : ℕ) → suc i ≡ n → Test (handed a) (f i).rec)
  table_post f a n x =
      let (t, h, z, e) = table_tree Local f a n x in
      let (y, u) = every_post e in
      (tree_table Post f (carried a) n t h z y, λ i w. subst (λ (r : Rec P). Test (handed a) r) (sym (last_rec f t i h (w ∙ sym z))) u)

  pub post_table : (f : ℕ → Row P) (a : A) (n : ℕ) → Table Post f (carried a) n → ((i : ℕ) → suc i ≡ n → Test (handed a) (f i).rec) → Table Local f a n
  post_table f a n x u =
      let (t, h, z, e) = table_tree Post f (carried a) n x in
      tree_table Local f a n t h z (post_every e a refl (subst (λ (r : Rec P). Test (handed a) r) (last_rec f t x.last h (sym x.size_is ∙ sym z)) (u x.last (sym x.size_is))))

-- ---- a language

module _ {P B X M C : Type 0} (N : Lang P (B × X) M C) (H : Hands N) (W : Blind N H) (U : Sane N) where
  runs_free : {b : B} {x : X} {σ : P} {ks : List (Rec P)} {l : Lay M C} {p e : P} {φ : ℕ} {rs : List (Rec P)} {bs : List ((B × X) × ℕ)} (y : X) → Runs N (Firm N) (b, x) σ ks l p e φ rs bs → T (free N H l) → Runs N (Firm N) (b, y) σ ks l p e φ rs bs
  runs_free y rfin t = rfin
  runs_free {b} {x} {σ} y (rmove {m} {l} {p} q g r) t =
      let (t1, t2) = and_t (not (H.uses m)) (free N H l) t in
      rmove q (sym (W.go_blind b x y m σ p t1) ∙ g) (runs_free y r t2)
  runs_free {b} {x} {σ} y (rkid {c} {ks = ks} w s f r) t = rkid (sym (W.down_blind b x y c σ ks) ∙ w) s f (runs_free y r t)
  runs_free {b} {x} {σ} y (ryes {m} {l} {l'} {p} q g r) t =
      let (t1, t2) = and_t (not (H.uses m)) (free N H l && free N H l') t in
      ryes q (sym (W.go_blind b x y m σ p t1) ∙ g) (runs_free y r (and_t (free N H l) (free N H l') t2).0)
  runs_free {b} {x} {σ} y (rno {m} {l} {l'} {p} g r) t =
      let (t1, t2) = and_t (not (H.uses m)) (free N H l && free N H l') t in
      rno (sym (W.go_blind b x y m σ p t1) ∙ g) (runs_free y r (and_t (free N H l) (free N H l') t2).1)
  runs_free {b} {x} {σ} y (rrep {m} {c} {l} {p} {ks = ks} q g w s f r) t =
      let (t1, t2) = and_t (not (H.uses m)) (free N H l) t in
      rrep q (sym (W.go_blind b x y m σ p t1) ∙ g) (sym (W.down_blind b x y c σ ks) ∙ w) s f (runs_free y r t)
  runs_free {b} {x} {σ} y (rend {m} {c} {l} {p} g r) t =
      let (t1, t2) = and_t (not (H.uses m)) (free N H l) t in
      rend (sym (W.go_blind b x y m σ p t1) ∙ g) (runs_free y r t2)

  -- a layout of a kind that is not tested
  free_of : (a : B × X) (n k : ℕ) → Called N a k → T (not (has H.tested (named N n k))) → T (free N H (N.layout k))
  free_of a n k c t = go (has H.tested (named N n k)) t (or_t (has H.tested (named N n k)) (free N H (N.layout k)) (W.free_ok a n k c))
    where
      go : (h : Bool) → T (not h) → T h ⊎ T (free N H (N.layout k)) → T (free N H (N.layout k))
      go true u v = absurd u
      go false u (inl v) = absurd v
      go false u (inr v) = v

  plain : (x : X) (r : Rec P) → T (not (has H.tested r.kind)) → Passes H.tested H.Test x r
  plain x r t = go (has H.tested r.kind) t
    where
      go : (h : Bool) → T (not h) → test_as H.Test h x r
      go true t = absurd t
      go false t = tt

  -- a left operand is not tested
  left_free : (a : B × X) (p : P) (k : ℕ) (r : Rec P) → N.op_at a p ≡ some k → N.tight k ≤ N.hold r.kind → T (not (has H.tested r.kind))
  left_free a p k r q h = go (has H.tested r.kind) (λ t. eqb→eq (N.hold r.kind) 0 (has_all (λ k. eqb (N.hold k) 0) H.tested W.left_ok r.kind t))
    where
      go : (t : Bool) → (T t → N.hold r.kind ≡ 0) → T (not t)
      go true f = absurd (let v = f tt in omega (arith, op_tight N U a p k q))
      go false f = tt

  local_free : {b : B} {x : X} {n : ℕ} {r : Rec P} {rs : List (Rec P)} {bs : List ((B × X) × ℕ)} (y : X) → T (not (has H.tested r.kind)) → Local N ((b, x), n) r rs bs → Tests (Passes H.tested H.Test) (map hands bs) rs
      → Found carries hands (Passes H.tested H.Test) (Local N) ((b, y), n) r rs (map carries bs)
  local_free {b} {x} {n} {r} {bs = bs} y t (first k i q v) ts =
      let u : T (not (has H.tested (named N n k))) = subst (λ (z : ℕ). T (not (has H.tested z))) (sym i) t in
      record { atts = bs; carry = refl; local = first k i (sym (W.pick_blind b x y r.start) ∙ q) (runs_free y v (free_of (b, x) n k (r.start, inl q) u)); tests = ts }
  local_free {b} {x} {n} {r} y t (later {l = l} {bs = bs} k i st q h v) (tcons a ts) =
      let u : T (not (has H.tested (named N n k))) = subst (λ (z : ℕ). T (not (has H.tested z))) (sym i) t in
      record {
        atts = ((b, y), 0) ∷ bs;
        carry = refl;
        local = later {l = l} k i st (sym (W.op_blind b x y l.end) ∙ q) h (runs_free y v (free_of (b, x) n k (l.end, inr q) u));
        tests = tcons (plain y l (left_free (b, x) l.end k l q h)) ts;
      }

  posted_to : (a : (B × X) × ℕ) (r : Rec P) (rs : List (Rec P)) (bs : List ((B × X) × ℕ)) → Local N a r rs bs → Tests (Passes H.tested H.Test) (map hands bs) rs → (h : Bool) → has H.tested r.kind ≡ h
      → post_as N H h (carries a) r rs (map carries bs) × test_as H.Test h (hands a) r
  posted_to a r rs bs x ts true q = W.own_to a r rs bs (is_t (has H.tested r.kind) q) x ts
  posted_to a r rs bs x ts false q = (local_free H.nothing (is_f (has H.tested r.kind) q) x ts, tt)

  posted_from : (a : (B × X) × ℕ) (r : Rec P) (rs : List (Rec P)) (ds : List (B × ℕ)) → (h : Bool) → has H.tested r.kind ≡ h → post_as N H h (carries a) r rs ds → test_as H.Test h (hands a) r
      → Found carries hands (Passes H.tested H.Test) (Local N) a r rs ds
  posted_from a r rs ds true q x t = W.own_from a r rs ds (is_t (has H.tested r.kind) q) x t
  posted_from a r rs ds false q x t =
      let f = local_free a.0.1 (is_f (has H.tested r.kind) q) x.local x.tests in
      record { atts = f.atts; carry = f.carry ∙ x.carry; local = f.local; tests = f.tests }

  pub moved : Moved carries hands (Passes H.tested H.Test) (Local N) (Posted N H)
  moved = record {
    to = λ a r rs bs x ts. posted_to a r rs bs x ts (has H.tested r.kind) refl;
    from = λ a r rs ds x t. posted_from a r rs ds (has H.tested r.kind) refl x t;
  }

-- ---- a kind whose layout has a move that only tests

go_as_is : {P : Type 0} (u : Bool) (p : P) (o : Option P) → T u → go_as u p o ≡ some p
go_as_is true p o t = refl
go_as_is false p o t = absurd t

go_as_not : {P : Type 0} (u : Bool) (p : P) (o : Option P) → T (not u) → go_as u p o ≡ o
go_as_not true p o t = absurd t
go_as_not false p o t = refl

module _ {P B X M C : Type 0} (N : Lang P (B × X) M C) (uses : M → Bool) (passes : X → P → Bool) (W : Pure N uses passes) where
  go_both : (b : B) (x y : X) (m : M) (σ p : P) → T (not (uses m)) → (untested N uses).go (b, y) m σ p ≡ N.go (b, x) m σ p
  go_both b x y m σ p t = go_as_not (uses m) p (N.go (b, y) m σ p) t ∙ W.others b y x m σ p t

  go_to : (b : B) (x y : X) (m : M) (σ p q : P) → N.go (b, x) m σ p ≡ some q → (untested N uses).go (b, y) m σ p ≡ some q
  go_to b x y m σ p q g = go (t_or_not (uses m))
    where
      go : T (uses m) ⊎ T (not (uses m)) → go_as (uses m) p (N.go (b, y) m σ p) ≡ some q
      go (inl t) = go_as_is (uses m) p (N.go (b, y) m σ p) t ∙ (given_t (passes x σ) (some p) q (sym (W.tests b x m σ p t) ∙ g)).1
      go (inr t) = go_both b x y m σ p t ∙ g

  go_from : (b : B) (x y : X) (m : M) (σ p q : P) → T (passes x σ) → (untested N uses).go (b, y) m σ p ≡ some q → N.go (b, x) m σ p ≡ some q
  go_from b x y m σ p q v g = go (t_or_not (uses m))
    where
      go : T (uses m) ⊎ T (not (uses m)) → N.go (b, x) m σ p ≡ some q
      go (inl t) = W.tests b x m σ p t ∙ t_given (passes x σ) (some p) v ∙ sym (go_as_is (uses m) p (N.go (b, y) m σ p) t) ∙ g
      go (inr t) = sym (go_both b x y m σ p t) ∙ g

  runs_to : {b : B} {x : X} {σ : P} {ks : List (Rec P)} {l : Lay M C} {p e : P} {φ : ℕ} {rs : List (Rec P)} {bs : List ((B × X) × ℕ)} (y : X) → Runs N (Firm N) (b, x) σ ks l p e φ rs bs → T (sober N uses l)
      → Runs (untested N uses) (Firm (untested N uses)) (b, y) σ ks l p e φ rs bs
  runs_to y rfin t = rfin
  runs_to {b} {x} {σ} y (rmove {m} {p = p} q g r) t = rmove q (go_to b x y m σ p q g) (runs_to y r t)
  runs_to {b} {x} {σ} y (rkid {c} {ks = ks} w s f r) t = rkid (sym (W.downs b x y c σ ks) ∙ w) s f (runs_to y r t)
  runs_to {b} {x} {σ} y (ryes {m} {l} {l'} {p} q g r) t =
      let (t1, t2) = and_t (not (uses m)) (sober N uses l && sober N uses l') t in
      ryes q (go_both b x y m σ p t1 ∙ g) (runs_to y r (and_t (sober N uses l) (sober N uses l') t2).0)
  runs_to {b} {x} {σ} y (rno {m} {l} {l'} {p} g r) t =
      let (t1, t2) = and_t (not (uses m)) (sober N uses l && sober N uses l') t in
      rno (go_both b x y m σ p t1 ∙ g) (runs_to y r (and_t (sober N uses l) (sober N uses l') t2).1)
  runs_to {b} {x} {σ} y (rrep {m} {c} {l} {p} {ks = ks} q g w s f r) t =
      let (t1, t2) = and_t (not (uses m)) (sober N uses l) t in
      rrep q (go_both b x y m σ p t1 ∙ g) (sym (W.downs b x y c σ ks) ∙ w) s f (runs_to y r t)
  runs_to {b} {x} {σ} y (rend {m} {c} {l} {p} g r) t =
      let (t1, t2) = and_t (not (uses m)) (sober N uses l) t in
      rend (go_both b x y m σ p t1 ∙ g) (runs_to y r t2)

  runs_from : {b : B} {y : X} {σ : P} {ks : List (Rec P)} {l : Lay M C} {p e : P} {φ : ℕ} {rs : List (Rec P)} {bs : List ((B × X) × ℕ)} (x : X) → T (passes x σ)
      → Runs (untested N uses) (Firm (untested N uses)) (b, y) σ ks l p e φ rs bs → T (sober N uses l) → Runs N (Firm N) (b, x) σ ks l p e φ rs bs
  runs_from x v rfin t = rfin
  runs_from {b} {y} {σ} x v (rmove {m} {p = p} q g r) t = rmove q (go_from b x y m σ p q v g) (runs_from x v r t)
  runs_from {b} {y} {σ} x v (rkid {c} {ks = ks} w s f r) t = rkid (W.downs b x y c σ ks ∙ w) s f (runs_from x v r t)
  runs_from {b} {y} {σ} x v (ryes {m} {l} {l'} {p} q g r) t =
      let (t1, t2) = and_t (not (uses m)) (sober N uses l && sober N uses l') t in
      ryes q (sym (go_both b x y m σ p t1) ∙ g) (runs_from x v r (and_t (sober N uses l) (sober N uses l') t2).0)
  runs_from {b} {y} {σ} x v (rno {m} {l} {l'} {p} g r) t =
      let (t1, t2) = and_t (not (uses m)) (sober N uses l && sober N uses l') t in
      rno (sym (go_both b x y m σ p t1) ∙ g) (runs_from x v r (and_t (sober N uses l) (sober N uses l') t2).1)
  runs_from {b} {y} {σ} x v (rrep {m} {c} {l} {p} {ks = ks} q g w s f r) t =
      let (t1, t2) = and_t (not (uses m)) (sober N uses l) t in
      rrep q (sym (go_both b x y m σ p t1) ∙ g) (W.downs b x y c σ ks ∙ w) s f (runs_from x v r t)
  runs_from {b} {y} {σ} x v (rend {m} {c} {l} {p} g r) t =
      let (t1, t2) = and_t (not (uses m)) (sober N uses l) t in
      rend (sym (go_both b x y m σ p t1) ∙ g) (runs_from x v r t2)

  runs_met : {b : B} {x : X} {σ : P} {ks : List (Rec P)} {l : Lay M C} {p e : P} {φ : ℕ} {rs : List (Rec P)} {bs : List ((B × X) × ℕ)} → Runs N (Firm N) (b, x) σ ks l p e φ rs bs → T (meets N uses l) → T (passes x σ)
  runs_met rfin t = absurd t
  runs_met {b} {x} {σ} (rmove {m} {l} {p} q g r) t = go (or_t (uses m) (meets N uses l) t) (λ u. runs_met r u)
    where
      go : T (uses m) ⊎ T (meets N uses l) → (T (meets N uses l) → T (passes x σ)) → T (passes x σ)
      go (inl u) ih = (given_t (passes x σ) (some p) q (sym (W.tests b x m σ p u) ∙ g)).0
      go (inr u) ih = ih u
  runs_met (rkid w s f r) t = runs_met r t
  runs_met (ryes {l = l} {l'} q g r) t = runs_met r (and_t (meets N uses l) (meets N uses l') t).0
  runs_met (rno {l = l} {l'} g r) t = runs_met r (and_t (meets N uses l) (meets N uses l') t).1
  runs_met (rrep q g w s f r) t = runs_met r t
  runs_met (rend g r) t = runs_met r t

  -- a record of such a kind, which is no operator's
  pub record Tests-in (a : B × X) (n k : ℕ) : Type 0 where
    pub no_op_lem : (j : ℕ) → named N n j ≡ k → (p : P) → ¬ (N.op_at a p ≡ some j)
    pub is_sober : (j : ℕ) → named N n j ≡ k → T (sober N uses (N.layout j))
    pub is_met : (j : ℕ) → named N n j ≡ k → T (meets N uses (N.layout j))

  pub local_untested : {b : B} {x : X} {n : ℕ} {r : Rec P} {rs : List (Rec P)} {bs : List ((B × X) × ℕ)} (y : X) → Tests-in (b, x) n r.kind → Local N ((b, x), n) r rs bs
      → Local (untested N uses) ((b, y), n) r rs bs × T (passes x r.start)
  local_untested {b} {x} {r = r} y U (first k i q v) = (first k i (sym (W.picks b x y r.start) ∙ q) (runs_to y v (U.is_sober k i)), runs_met v (U.is_met k i))
  local_untested y U (later {l = l} k i st q h v) = absurd (U.no_op_lem k i l.end q)

  pub untested_local : {b : B} {y : X} {n : ℕ} {r : Rec P} {rs : List (Rec P)} {bs : List ((B × X) × ℕ)} (x : X) → Tests-in (b, y) n r.kind → Local (untested N uses) ((b, y), n) r rs bs → T (passes x r.start)
      → Local N ((b, x), n) r rs bs
  untested_local {b} {y} {r = r} x U (first k i q v) t = first k i (W.picks b x y r.start ∙ q) (runs_from x t v (U.is_sober k i))
  untested_local x U (later {l = l} k i st q h v) t = absurd (U.no_op_lem k i l.end q)

  -- so for `own_to` and `own_from`
  pub own_untested : {Z : X → Rec P → Type 0} (a : (B × X) × ℕ) (r : Rec P) (rs : List (Rec P)) (bs : List ((B × X) × ℕ)) (y : X) → Tests-in a.0 a.1 r.kind → Local N a r rs bs → Tests Z (map hands bs) rs
      → Found carries hands Z (Local (untested N uses)) ((a.0.0, y), a.1) r rs (map carries bs) × T (passes (hands a) r.start)
  own_untested a r rs bs y U x ts = let (v, t) = local_untested y U x in (record { atts = bs; carry = refl; local = v; tests = ts }, t)

  pub untested_own : {Z : X → Rec P → Type 0} (a : (B × X) × ℕ) (r : Rec P) (rs : List (Rec P)) (ds : List (B × ℕ)) (y : X) → Tests-in (a.0.0, y) a.1 r.kind
      → Found carries hands Z (Local (untested N uses)) ((a.0.0, y), a.1) r rs ds → T (passes (hands a) r.start) → Found carries hands Z (Local N) a r rs ds
  untested_own a r rs ds y U f t = record { atts = f.atts; carry = f.carry; local = untested_local a.0.1 U f.local t; tests = f.tests }

-- ---- a source

module _ {P B X M C : Type 0} (s : Source P (B × X) M C) (H : Hands s.lang) (W : Blind s.lang H) (U : Sane s.lang) where
  root_passes : RootOwn s H → (f : ℕ → Row P) (n : ℕ) → Table (Posted s.lang H) f (s.root.0, 0) n → (i : ℕ) → suc i ≡ n → Passes H.tested H.Test s.root.1 (f i).rec
  root_passes ro f n x i z =
      let o = x.nodes i (omega arith) in
      let q : x.last ≡ i = omega (arith, x.size_is) in
      let e : x.att i ≡ (s.root.0, 0) = sym (ap x.att q) ∙ x.root_att in
      go (map (λ j. (f j).rec) o.kids) (map x.att o.kids) (has H.tested (f i).rec.kind) refl (subst (λ (d : B × ℕ). Posted s.lang H d (f i).rec (map (λ j. (f j).rec) o.kids) (map x.att o.kids)) e o.local)
    where
      go : (rs : List (Rec P)) (ds : List (B × ℕ)) (h : Bool) → has H.tested (f i).rec.kind ≡ h → post_as s.lang H h (s.root.0, 0) (f i).rec rs ds → test_as H.Test h s.root.1 (f i).rec
      go rs ds true q y = ro (f i).rec rs ds (is_t (has H.tested (f i).rec.kind) q) y
      go rs ds false q y = tt

  pub posts_holds : RootOwn s H → (rows : List (Row P)) → Posts s H rows → Holds s rows
  posts_holds ro rows h =
      let x = post_table carries hands (Passes H.tested H.Test) (Local s.lang) (Posted s.lang H) (moved s.lang H W U) (row_in (blank s) rows) (s.root, 0) (length rows) h.rule (root_passes ro (row_in (blank s) rows) (length rows) h.rule) in
      let q : h.rule.last ≡ x.last = omega (arith, h.rule.size_is, x.size_is) in
      record { rule = x; from_start = rw q at h.from_start; to_end = rw q at h.to_end }

  pub holds_posts : (rows : List (Row P)) → Holds s rows → Posts s H rows
  holds_posts rows h =
      let (x, u) = table_post carries hands (Passes H.tested H.Test) (Local s.lang) (Posted s.lang H) (moved s.lang H W U) (row_in (blank s) rows) (s.root, 0) (length rows) h.rule in
      let q : h.rule.last ≡ x.last = omega (arith, h.rule.size_is, x.size_is) in
      record { rule = x; from_start = rw q at h.from_start; to_end = rw q at h.to_end }
