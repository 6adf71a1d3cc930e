-- Where the rule holds, operands are grouped by their operators' levels.
use Rattle.std.specs.Prelude.{◌≡◌, refl, Bool, ◌&&◌, List, ◌∷◌, map, [], ℕ, zero, suc, ◌≤◌, ◌<◌, leb, eqb, T}
use Rattle.std.proofs.Common.{ap, sym, ◌∙◌, subst, arith, leb→le, eqb→eq}
use Rattle.std.proofs.Math.Option.{some}
use Rattle.engine.specs.Base.{all_of, Rec}
use Rattle.engine.specs.Flat.{Row}
use Rattle.engine.specs.Layout.{Lay, Lang, named}
use Rattle.engine.specs.Rule.{Kids, Runs, rfin, rmove, rkid, ryes, rno, rrep, rend, Firm, Local, first, later, Node}
use Rattle.engine.specs.Levels.{level_as, level_in, Grouped, Operands, bare, lone, graded, Graded}
use Rattle.engine.specs.BaseLaws.{and_t, EqCase, same, other, eq_case}

module _ {P B M C : Type 0} (N : Lang P B M C) where
  -- a layout with no child
  pub runs_bare : {Z : B → C → Rec P → Type 0} {b : B} {σ : P} {ks : List (Rec P)} {l : Lay M C} {p e : P} {φ : ℕ} {rs : List (Rec P)} {bs : List (B × ℕ)} → Runs N Z b σ ks l p e φ rs bs → T (bare N l) → rs ≡ []
  runs_bare rfin t = refl
  runs_bare (rmove q g x) t = runs_bare x t
  runs_bare (rkid w s y x) t = absurd t
  runs_bare (ryes {l = l} {l'} q g x) t = runs_bare x (and_t (bare N l) (bare N l') t).0
  runs_bare (rno {l = l} {l'} g x) t = runs_bare x (and_t (bare N l) (bare N l') t).1
  runs_bare (rrep q g w s y x) t = absurd t
  runs_bare (rend g x) t = absurd t

  runs_lone : {b : B} {σ : P} {ks : List (Rec P)} {l : Lay M C} {p e : P} {φ : ℕ} {rs : List (Rec P)} {bs : List (B × ℕ)} (t : ℕ) → Runs N (Firm N) b σ ks l p e φ rs bs → T (lone N t l)
      → (r : Rec P) × (rs ≡ r ∷ []) × (t < N.tight r.kind)
  runs_lone t rfin u = absurd u
  runs_lone t (rmove q g x) u = runs_lone t x u
  runs_lone t (rkid {c} {l} {r = r} w s y x) u =
      let (u1, u2) = and_t (leb t (N.bound c)) (bare N l) u in
      (r, ap (λ ys. r ∷ ys) (runs_bare x u2), omega (arith, leb→le t (N.bound c) u1))
  runs_lone t (ryes {l = l} {l'} q g x) u = runs_lone t x (and_t (lone N t l) (lone N t l') u).0
  runs_lone t (rno {l = l} {l'} g x) u = runs_lone t x (and_t (lone N t l) (lone N t l') u).1
  runs_lone t (rrep q g w s y x) u = absurd u
  runs_lone t (rend g x) u = absurd u

  level_test : (levels : List (ℕ × ℕ)) → T (all_of (graded N) levels) → (k t : ℕ) → level_in levels k ≡ some t → T (graded N (k, t))
  level_test [] u k t q = absurd (let z : ◌≡◌ {A = ℕ} 0 1 = cc in omega arith)
  level_test (x ∷ xs) u k t q = go (eq_case x.0 k) q (level_test xs (and_t (graded N x) (all_of (graded N) xs) u).1 k t)
    where
      go : {b : Bool} → EqCase x.0 k b → level_as b x.1 (level_in xs k) ≡ some t → (level_in xs k ≡ some t → T (graded N (k, t))) → T (graded N (k, t))
      go (same e) q ih =
          let z : x.1 ≡ t = cc in
          subst (λ (y : ℕ). T (graded N (k, y))) z (subst (λ (y : ℕ). T (graded N (y, x.1))) e (and_t (graded N x) (all_of (graded N) xs) u).0)
      go (other e) q ih = ih q

  record Level (k t : ℕ) : Type 0 where
    tight_is : N.tight k ≡ t
    hold_le : N.hold k ≤ t
    right : T (lone N t (N.layout k))

  module _ (levels : List (ℕ × ℕ)) (G : Graded N levels) where
    level_ok : (k t : ℕ) → level_in levels k ≡ some t → Level k t
    level_ok k t q =
        let (u, v) = and_t (eqb (N.tight k) t && leb (N.hold k) t) (lone N t (N.layout k)) (level_test levels G.tests k t q) in
        let (w, x) = and_t (eqb (N.tight k) t) (leb (N.hold k) t) u in
        record { tight_is = eqb→eq (N.tight k) t w; hold_le = leb→le (N.hold k) t x; right = v }

    named_own : (n k t : ℕ) → level_in levels (named N n k) ≡ some t → named N n k ≡ k
    named_own zero k t q = refl
    named_own (suc n) k t q = G.own_name n k t q

    -- at a node
    pub record Pair (t : ℕ) (rs : List (Rec P)) : Type 0 where
      pub left : Rec P
      pub right : Rec P
      pub are : rs ≡ left ∷ right ∷ []
      pub grouped : Grouped levels t left.kind right.kind

    pub local_pair : {a : B × ℕ} {r : Rec P} {rs : List (Rec P)} {bs : List (B × ℕ)} (t : ℕ) → Local N a r rs bs → level_in levels r.kind ≡ some t → Pair t rs
    local_pair {r = r} t (first {b} {n} k i p x) q =
        let o : named N n k ≡ k = named_own n k t (ap (level_in levels) i ∙ q) in
        let y : level_in levels k ≡ some t = ap (level_in levels) (sym o ∙ i) ∙ q in
        absurd (let z = G.not_first b r.start k p in let v : ◌≡◌ {A = ℕ} 0 1 = cc in omega arith)
    local_pair {r = r} t (later {b} {n} {l = l} k i st p h x) q =
        let o : named N n k ≡ k = named_own n k t (ap (level_in levels) i ∙ q) in
        let y : level_in levels k ≡ some t = ap (level_in levels) (sym o ∙ i) ∙ q in
        let z = level_ok k t y in
        let (m, e, w) = runs_lone t x z.right in
        record {
          left = l;
          right = m;
          are = ap (λ ys. l ∷ ys) e;
          grouped = record {
            as_tight = λ u v. omega (arith, z.tight_is, (level_ok l.kind u v).hold_le);
            tighter = λ u v. omega (arith, (level_ok m.kind u v).tight_is);
          };
        }

    pairs : (f : ℕ → Row P) (t : ℕ) (js : List ℕ) (l r : Rec P) → map (λ j. (f j).rec) js ≡ l ∷ r ∷ [] → (i : ℕ) × (j : ℕ) × (js ≡ i ∷ j ∷ []) × ((f i).rec ≡ l) × ((f j).rec ≡ r)
    pairs f t [] l r q = absurd (let z : ◌≡◌ {A = ℕ} 0 1 = cc in omega arith)
    pairs f t (i ∷ []) l r q = absurd (let w : ◌≡◌ {A = List (Rec P)} [] (r ∷ []) = cc in let z : ◌≡◌ {A = ℕ} 0 1 = cc in omega arith)
    pairs f t (i ∷ j ∷ []) l r q =
        let w : ◌≡◌ {A = List (Rec P)} ((f j).rec ∷ []) (r ∷ []) = cc in
        (i, j, refl, cc, cc)
    pairs f t (i ∷ j ∷ k ∷ js) l r q = absurd (let w : ◌≡◌ {A = List (Rec P)} ((f j).rec ∷ (f k).rec ∷ map (λ j. (f j).rec) js) (r ∷ []) = cc in let w' : ◌≡◌ {A = List (Rec P)} ((f k).rec ∷ map (λ j. (f j).rec) js) [] = cc in let z : ◌≡◌ {A = ℕ} 0 1 = cc in omega arith)

    -- at an index of a table
    pub node_operands : (f : ℕ → Row P) (att : ℕ → B × ℕ) (i t : ℕ) → Node (Local N) f att i → level_in levels (f i).rec.kind ≡ some t → Operands levels f i t
    node_operands f att i t o q =
        let y = local_pair t o.local q in
        let (l, r, js, el, er) = pairs f t o.kids y.left y.right y.are in
        record {
          lo = o.lo;
          left = l;
          right = r;
          tiles = o.tiles;
          split = subst (λ (ks : List ℕ). Kids f o.lo i ks) js o.split;
          grouped = rw (el, er) y.grouped;
        }
