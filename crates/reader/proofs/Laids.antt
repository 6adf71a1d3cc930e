-- The program of a kind under way: what holds whenever its loop begins a turn, and what each instruction does.
use Prim.Native.Nat.{ℕ, suc, ◌+◌, ◌≤◌, ◌<◌}
use mathlib.Core.Path.{◌≡◌, refl, sym, ap, subst, ◌∙◌}
use mathlib.Core.Bool.{Bool, true, false, ◌&&◌, ◌||◌}
use mathlib.Core.Logic.{◌⊎◌, inl, inr}
use mathlib.Core.List.{List}
use native.Mathlib.Omega.{arith}
use lib.ListN.{length}
use lib.Dec.{leb→le, ltb, ltb→lt, T}
use Rattle.engine.specs.BaseLaws.{and_t, or_t}
use Rattle.engine.specs.Engine.{FailIn, FailAt}
use Rattle.engine.specs.Layout.{bad, fin, move, kid, fork, rep, grammar}
use Rattle.engine.specs.Way.{mid}
use Rattle.grammar.specs.Moves.{Under, to, no, walk, Move}
use Rattle.grammar.specs.Moves as moves
use Rattle.grammar.specs.Layouts.{Class, Layout, layout_of}
use Rattle.grammar.specs.Hcl.{hcl, bounds, styles}
use Rattle.grammar.specs.Code.{Codes, begin, code, operation, argument, class, otherwise, class_of, move_at}
use Rattle.grammar.specs.Thrift.{thrift, eaten, bonus, spare, leads}
use Rattle.grammar.specs.Programmed.{Programmed, ahead, instructions}
use Rattle.grammar.specs.Wants.{fits_in, suited, below, down_below, class_steady, by_class}
use Rattle.reader.specs.Said.{Climbs, Good, Any, under_any, any_before}
use Rattle.reader.proofs.Stages.{Stage, stage_start, stage_lay, stage_move, stage_yes, stage_no, stage_end, stage_stop, stage_kid, stage_rep, stage_kid_no, stage_rep_no}

-- at pc, at the place q, n records and t text bytes since p
pub record Turn (s : List ℕ) (left : ℕ) (lines : Bool) (σ k p i u : ℕ) (b b' x x' : List ℕ) (pc q n t : ℕ) : Type 0 where
  pub lay : Layout
  pub own : ℕ
  pub moved : Bool
  pub codes : Codes pc lay
  pub thrifty : T (thrift k moved own lay)
  pub fitting : T (suited k lay)
  pub forward : T (ahead pc lay)
  pub far : T moved → p < q
  pub stage : Stage Any s (λ ξ. mid (hcl s) (under_any k left lines ξ) σ (any_before ξ) k (layout_of k) p) (under_any k left lines) σ k p i u b b' x x' lay q n t own
  pub low : p + n ≤ q
  pub spent : p + t ≤ q
  pub high : q ≤ length s

pub turn_start : {s : List ℕ} {left : ℕ} {lines : Bool} {σ k p i u : ℕ} {b x : List ℕ} {pc : ℕ} → Programmed k → pc ≡ begin k → p ≤ length s → Turn s left lines σ k p i u b b x x pc p 0 0
turn_start {k = k} {pc = pc} known e inside = record {
  lay = layout_of k;
  own = 0;
  moved = false;
  codes = subst (λ (o : ℕ). Codes o (layout_of k)) (sym e) known.codes;
  thrifty = known.thrifty;
  fitting = known.suited;
  forward = subst (λ (o : ℕ). T (ahead o (layout_of k))) (sym e) known.ahead;
  far = λ z. absurd z;
  stage = stage_start any_before (omega arith) inside;
  low = omega arith;
  spent = omega arith;
  high = inside;
}

-- ---- which layout an instruction is of

apart : {A : Type 0} (x m n : ℕ) → x ≡ m → x ≡ n → ¬ (m ≡ n) → A
apart x m n e f h = absurd (h (sym e ∙ f))

class_plain : (c : ℕ) → styles (class_of c) ≡ 0
class_plain c = by_class (λ (z : Class). styles z ≡ 0) refl refl refl refl refl refl refl (λ n. refl) c

abbrev op : ℕ → ℕ
op pc = operation (code pc)

abbrev pub step : ℕ → Move
step pc = move_at (argument (code pc))

abbrev pub sort : ℕ → Class
sort pc = class_of (class (code pc))

abbrev pub On : List ℕ → ℕ → Bool → ℕ → ℕ → ℕ → ℕ → ℕ → List ℕ → List ℕ → List ℕ → List ℕ → Layout → ℕ → ℕ → ℕ → ℕ → Type 0
On s left lines σ k p i u b b' x x' l q n t w =
    Stage Any s (λ ξ. mid (hcl s) (under_any k left lines ξ) σ (any_before ξ) k (layout_of k) p) (under_any k left lines) σ k p i u b b' x x' l q n t w

-- the end of a production, with its flag
pub record Ended (s : List ℕ) (left : ℕ) (lines : Bool) (σ k p i u : ℕ) (b b' x x' : List ℕ) (φ q n t : ℕ) : Type 0 where
  pub own : ℕ
  pub stage : Stage Any s (λ ξ. mid (hcl s) (under_any k left lines ξ) σ (any_before ξ) k (layout_of k) p) (under_any k left lines) σ k p i u b b' x x' (fin φ) q n t own
  pub room : p + n + suc (spare k) ≤ q

module _ (s : List ℕ) (left : ℕ) (lines : Bool) (σ k p i u : ℕ) (b b' x x' : List ℕ) (pc q n t : ℕ) where
  -- ---- the end

  fin_as : (l : Layout) (f : Bool) (w : ℕ) → Codes pc l → T (thrift k f w l) → On s left lines σ k p i u b b' x x' l q n t w → op pc ≡ 1
      → Ended s left lines σ k p i u b b' x x' (argument (code pc)) q n t
  fin_as bad f w c h g e = absurd c
  fin_as (fin φ) f w (c, d) h g e = let m = leb→le (suc (spare k)) w h in record { own = w; stage = stage_lay (ap fin (sym d)) g; room = omega (arith, g.room) }
  fin_as (move m l) f w c h g e = apart (op pc) 2 1 c.0 e (omega arith)
  fin_as (kid z l) f w c h g e = apart (op pc) 3 1 c.0 e (omega arith)
  fin_as (fork m l r) f w c h g e = apart (op pc) 4 1 c.0 e (omega arith)
  fin_as (rep m z l) f w c h g e = apart (op pc) 5 1 c.0 e (omega arith)

  -- ---- a move, by what it comes to

  went : (m : Move) (o : moves.Step) → step pc ≡ m → ((ξ : Any) → walk s (under_any k left lines ξ) σ (step pc) q ≡ o) → (ξ : Any) → walk s (under_any k left lines ξ) σ m q ≡ o
  went m o e r ξ = subst (λ (v : Move). walk s (under_any k left lines ξ) σ v q ≡ o) e (r ξ)

  -- a move that must be made is refused
  stop_as : (l : Layout) (w y z : ℕ) → Codes pc l → On s left lines σ k p i u b b' x x' l q n t w → op pc ≡ 2 → ((ξ : Any) → walk s (under_any k left lines ξ) σ (step pc) q ≡ no y z)
      → (ξ : Any) → FailIn (grammar (hcl s)) (mid (hcl s) (under_any k left lines ξ) σ (any_before ξ) k (layout_of k) p) y z
  stop_as bad w y z c g e r = absurd c
  stop_as (fin φ) w y z c g e r = apart (op pc) 1 2 c.0 e (omega arith)
  stop_as (move m l) w y z c g e r = stage_stop g (went m (no y z) c.1 r)
  stop_as (kid v l) w y z c g e r = apart (op pc) 3 2 c.0 e (omega arith)
  stop_as (fork m l o) w y z c g e r = apart (op pc) 4 2 c.0 e (omega arith)
  stop_as (rep m v l) w y z c g e r = apart (op pc) 5 2 c.0 e (omega arith)

  abbrev At : List ℕ → List ℕ → ℕ → ℕ → ℕ → ℕ → Type 0
  At b'' x'' c q' n' t' = Turn s left lines σ k p i u b b'' x x'' c q' n' t'

  -- one that may be made is not: the other way
  other_as : (l : Layout) (f : Bool) (w y z : ℕ) → Codes pc l → T (thrift k f w l) → T (suited k l) → T (ahead pc l) → (T f → p < q) → On s left lines σ k p i u b b' x x' l q n t w → ¬ (op pc ≡ 1) → ¬ (op pc ≡ 2) → ¬ (op pc ≡ 3)
      → ((ξ : Any) → walk s (under_any k left lines ξ) σ (step pc) q ≡ no y z) → At b' x' (otherwise (code pc)) q n t
  other_as bad f w y z c h v a far g e₁ e₂ e₃ r = absurd c
  other_as (fin φ) f w y z c h v a far g e₁ e₂ e₃ r = absurd (e₁ c.0)
  other_as (move m l) f w y z c h v a far g e₁ e₂ e₃ r = absurd (e₂ c.0)
  other_as (kid o l) f w y z c h v a far g e₁ e₂ e₃ r = absurd (e₃ c.0)
  other_as (fork m l o) f w y z c h v a far g e₁ e₂ e₃ r = record {
    lay = o;
    own = w;
    moved = f;
    codes = c.3;
    thrifty = (and_t (thrift k (f || ltb 0 (eaten m)) (w + eaten m) l) (thrift k f w o) h).1;
    fitting = (and_t (suited k l) (suited k o) v).1;
    forward = (and_t (ahead (pc + 1) l) (ahead (otherwise (code pc)) o) (and_t (ltb pc instructions && ltb pc (otherwise (code pc))) (ahead (pc + 1) l && ahead (otherwise (code pc)) o) a).1).1;
    far = far;
    stage = stage_no g (went m (no y z) c.1 r);
    low = omega (arith, g.room);
    spent = g.spent;
    high = g.high;
  }
  other_as (rep m o l) f w y z c h v a far g e₁ e₂ e₃ r = record {
    lay = l;
    own = w;
    moved = f;
    codes = c.4;
    thrifty = (and_t (f || ltb 0 (eaten m)) (thrift k f w l) h).1;
    fitting = (and_t (fits_in k o) (suited k l) v).1;
    forward = (and_t (ltb pc instructions && ltb pc (otherwise (code pc))) (ahead (otherwise (code pc)) l) a).1;
    far = far;
    stage = stage_end g (went m (no y z) c.1 r);
    low = omega (arith, g.room);
    spent = g.spent;
    high = g.high;
  }

  -- something is taken
  farther : (f : Bool) (m q' : ℕ) → (T f → p < q) → p ≤ q → q + m ≤ q' → T (f || ltb 0 m) → p < q'
  farther f m q' far low more h = go (or_t f (ltb 0 m) h)
    where
      go : T f ⊎ T (ltb 0 m) → p < q'
      go (inl a) = omega (arith, far a)
      go (inr a) = omega (arith, ltb→lt 0 m a)

  -- a move is made
  on_as : (l : Layout) (f : Bool) (w q' : ℕ) → Codes pc l → T (thrift k f w l) → T (suited k l) → T (ahead pc l) → (T f → p < q) → On s left lines σ k p i u b b' x x' l q n t w → ¬ (op pc ≡ 1) → ¬ (op pc ≡ 3) → ¬ (op pc ≡ 5)
      → ((ξ : Any) → walk s (under_any k left lines ξ) σ (step pc) q ≡ to q') → q + eaten (step pc) ≤ q' → q' ≤ length s → At b' x' (pc + 1) q' n t
  on_as bad f w q' c h v a far g e₁ e₂ e₃ r more high = absurd c
  on_as (fin φ) f w q' c h v a far g e₁ e₂ e₃ r more high = absurd (e₁ c.0)
  on_as (move m l) f w q' c h v a far g e₁ e₂ e₃ r more high =
      let ate : q + eaten m ≤ q' = subst (λ (o : Move). q + eaten o ≤ q') c.1 more in
      let st = stage_move (eaten m) g (went m (to q') c.1 r) ate high in
      record {
        lay = l;
        own = w + eaten m;
        moved = f || ltb 0 (eaten m);
        codes = c.2;
        thrifty = h;
        fitting = v;
        forward = (and_t (ltb pc instructions) (ahead (pc + 1) l) a).1;
        far = farther f (eaten m) q' far (omega (arith, g.room)) ate;
        stage = st;
        low = omega (arith, g.room);
        spent = st.spent;
        high = high;
      }
  on_as (kid o l) f w q' c h v a far g e₁ e₂ e₃ r more high = absurd (e₂ c.0)
  on_as (fork m l o) f w q' c h v a far g e₁ e₂ e₃ r more high =
      let ate : q + eaten m ≤ q' = subst (λ (o : Move). q + eaten o ≤ q') c.1 more in
      let st = stage_yes (eaten m) g (went m (to q') c.1 r) ate high in
      record {
        lay = l;
        own = w + eaten m;
        moved = f || ltb 0 (eaten m);
        codes = c.2;
        thrifty = (and_t (thrift k (f || ltb 0 (eaten m)) (w + eaten m) l) (thrift k f w o) h).0;
        fitting = (and_t (suited k l) (suited k o) v).0;
        forward = (and_t (ahead (pc + 1) l) (ahead (otherwise (code pc)) o) (and_t (ltb pc instructions && ltb pc (otherwise (code pc))) (ahead (pc + 1) l && ahead (otherwise (code pc)) o) a).1).0;
        far = farther f (eaten m) q' far (omega (arith, g.room)) ate;
        stage = st;
        low = omega (arith, g.room);
        spent = st.spent;
        high = high;
      }
  on_as (rep m o l) f w q' c h v a far g e₁ e₂ e₃ r more high = absurd (e₃ c.0)

  -- ---- a child

  abbrev Child : ℕ → ℕ → ℕ → List ℕ → List ℕ → ℕ → ℕ → ℕ → Type 0
  Child q i' u' b'' x'' e m y = Good (Climbs s (below left lines (sort pc)) (bounds (sort pc)) q) s i' u' q b' b'' x' x'' e m y

  kid_as : (l : Layout) (f : Bool) (w e m y : ℕ) (b'' x'' : List ℕ) → Codes pc l → T (thrift k f w l) → T (suited k l) → T (ahead pc l) → On s left lines σ k p i u b b' x x' l q n t w → op pc ≡ 3
      → Child q (i + n) (u + t) b'' x'' e m y → q + m + bonus (sort pc) ≤ e → 1 ≤ m → At b'' x'' (pc + 1) e (n + m) (t + y)
  kid_as bad f w e m y b'' x'' c h v a g z child more pos = absurd c
  kid_as (fin φ) f w e m y b'' x'' c h v a g z child more pos = apart (op pc) 1 3 c.0 z (omega arith)
  kid_as (move o l) f w e m y b'' x'' c h v a g z child more pos = apart (op pc) 2 3 c.0 z (omega arith)
  kid_as (kid o l) f w e m y b'' x'' c h v a g z child more pos =
      let fit = subst (λ (r : Class). T (fits_in k r)) (sym c.1) (and_t (fits_in k o) (suited k l) v).0 in
      let st = stage_kid (bonus (sort pc)) (stage_lay (ap (λ (r : Class). kid r l) (sym c.1)) g) (class_plain (class (code pc)))
      (λ ξ. down_below s k ξ.0 left lines (sort pc) σ _ fit (class_steady (class (code pc)))) refl child more refl refl refl refl in
      record {
        lay = l;
        own = w + bonus (sort pc);
        moved = true;
        codes = c.3;
        thrifty = subst (λ (r : Class). T (thrift k true (w + bonus r) l)) (sym c.1) (and_t (f || leads k o) (thrift k true (w + bonus o) l) h).1;
        fitting = (and_t (fits_in k o) (suited k l) v).1;
        forward = (and_t (ltb pc instructions) (ahead (pc + 1) l) a).1;
        far = λ _. omega (arith, g.room);
        stage = st;
        low = omega (arith, st.room);
        spent = st.spent;
        high = st.high;
      }
  kid_as (fork o l r) f w e m y b'' x'' c h v a g z child more pos = apart (op pc) 4 3 c.0 z (omega arith)
  kid_as (rep o r l) f w e m y b'' x'' c h v a g z child more pos = apart (op pc) 5 3 c.0 z (omega arith)

  kid_no_as : (l : Layout) (w y z : ℕ) → Codes pc l → T (suited k l) → On s left lines σ k p i u b b' x x' l q n t w → op pc ≡ 3 → FailAt (grammar (hcl s)) (below left lines (sort pc), bounds (sort pc)) q y z
      → (ξ : Any) → FailIn (grammar (hcl s)) (mid (hcl s) (under_any k left lines ξ) σ (any_before ξ) k (layout_of k) p) y z
  kid_no_as bad w y z c v g e r = absurd c
  kid_no_as (fin φ) w y z c v g e r = apart (op pc) 1 3 c.0 e (omega arith)
  kid_no_as (move o l) w y z c v g e r = apart (op pc) 2 3 c.0 e (omega arith)
  kid_no_as (kid o l) w y z c v g e r =
      let fit = subst (λ (r : Class). T (fits_in k r)) (sym c.1) (and_t (fits_in k o) (suited k l) v).0 in
      stage_kid_no (stage_lay (ap (λ (r : Class). kid r l) (sym c.1)) g) (λ ξ. down_below s k ξ.0 left lines (sort pc) σ _ fit (class_steady (class (code pc)))) refl r
  kid_no_as (fork o l m) w y z c v g e r = apart (op pc) 4 3 c.0 e (omega arith)
  kid_no_as (rep o m l) w y z c v g e r = apart (op pc) 5 3 c.0 e (omega arith)

  -- a further child, after its move
  rep_as : (l : Layout) (f : Bool) (w q' e m y : ℕ) (b'' x'' : List ℕ) → Codes pc l → T (thrift k f w l) → T (suited k l) → T (ahead pc l) → On s left lines σ k p i u b b' x x' l q n t w → op pc ≡ 5
      → ((ξ : Any) → walk s (under_any k left lines ξ) σ (step pc) q ≡ to q') → q ≤ q' → Child q' (i + n) (u + t) b'' x'' e m y → 1 ≤ m → At b'' x'' pc e (n + m) (t + y)
  rep_as bad f w q' e m y b'' x'' c h v fw g z r low child pos = absurd c
  rep_as (fin φ) f w q' e m y b'' x'' c h v fw g z r low child pos = apart (op pc) 1 5 c.0 z (omega arith)
  rep_as (move o l) f w q' e m y b'' x'' c h v fw g z r low child pos = apart (op pc) 2 5 c.0 z (omega arith)
  rep_as (kid o l) f w q' e m y b'' x'' c h v fw g z r low child pos = apart (op pc) 3 5 c.0 z (omega arith)
  rep_as (fork o l a) f w q' e m y b'' x'' c h v fw g z r low child pos = apart (op pc) 4 5 c.0 z (omega arith)
  rep_as (rep o a l) f w q' e m y b'' x'' c h v fw g z r low child pos =
      let fit = subst (λ (r : Class). T (fits_in k r)) (sym c.2) (and_t (fits_in k a) (suited k l) v).0 in
      let st = stage_rep (stage_lay (ap (λ (r : Class). rep o r l) (sym c.2)) g) (went o (to q') c.1 r) (class_plain (class (code pc)))
      (λ ξ. down_below s k ξ.0 left lines (sort pc) σ _ fit (class_steady (class (code pc)))) refl child low refl refl refl refl in
      record {
        lay = rep o a l;
        own = w;
        moved = f;
        codes = c;
        thrifty = h;
        fitting = v;
        forward = fw;
        far = λ _. omega (arith, g.room, child.room);
        stage = stage_lay (ap (λ (r : Class). rep o r l) c.2) st;
        low = omega (arith, st.room);
        spent = st.spent;
        high = st.high;
      }

  rep_no_as : (l : Layout) (w q' y z : ℕ) → Codes pc l → T (suited k l) → On s left lines σ k p i u b b' x x' l q n t w → op pc ≡ 5 → ((ξ : Any) → walk s (under_any k left lines ξ) σ (step pc) q ≡ to q')
      → FailAt (grammar (hcl s)) (below left lines (sort pc), bounds (sort pc)) q' y z → (ξ : Any) → FailIn (grammar (hcl s)) (mid (hcl s) (under_any k left lines ξ) σ (any_before ξ) k (layout_of k) p) y z
  rep_no_as bad w q' y z c v g e r h = absurd c
  rep_no_as (fin φ) w q' y z c v g e r h = apart (op pc) 1 5 c.0 e (omega arith)
  rep_no_as (move o l) w q' y z c v g e r h = apart (op pc) 2 5 c.0 e (omega arith)
  rep_no_as (kid o l) w q' y z c v g e r h = apart (op pc) 3 5 c.0 e (omega arith)
  rep_no_as (fork o l a) w q' y z c v g e r h = apart (op pc) 4 5 c.0 e (omega arith)
  rep_no_as (rep o a l) w q' y z c v g e r h =
      let fit = subst (λ (r : Class). T (fits_in k r)) (sym c.2) (and_t (fits_in k a) (suited k l) v).0 in
      stage_rep_no (stage_lay (ap (λ (r : Class). rep o r l) (sym c.2)) g) (went o (to q') c.1 r) (λ ξ. down_below s k ξ.0 left lines (sort pc) σ _ fit (class_steady (class (code pc)))) refl h

  -- ---- where a child starts: past the start of its node, save the first name of a call and the first part of a traversal

  lead_as : (l : Layout) (f : Bool) (w : ℕ) → Codes pc l → T (thrift k f w l) → (T f → p < q) → op pc ≡ 3 → ((p < q) ⊎ T (leads k (sort pc))) × (class (code pc) ≤ 23)
  lead_as bad f w c h far e = absurd c
  lead_as (fin φ) f w c h far e = apart (op pc) 1 3 c.0 e (omega arith)
  lead_as (move m l) f w c h far e = apart (op pc) 2 3 c.0 e (omega arith)
  lead_as (kid o l) f w c h far e = (go (or_t f (leads k o) (and_t (f || leads k o) (thrift k true (w + bonus o) l) h).0), leb→le (class (code pc)) 23 c.2)
    where
      go : T f ⊎ T (leads k o) → (p < q) ⊎ T (leads k (sort pc))
      go (inl a) = inl (far a)
      go (inr a) = inr (subst (λ (r : Class). T (leads k r)) (sym c.1) a)
  lead_as (fork m l r) f w c h far e = apart (op pc) 4 3 c.0 e (omega arith)
  lead_as (rep m r l) f w c h far e = apart (op pc) 5 3 c.0 e (omega arith)

  again_as : (l : Layout) (f : Bool) (w q' : ℕ) → Codes pc l → T (thrift k f w l) → (T f → p < q) → p ≤ q → op pc ≡ 5 → q + eaten (step pc) ≤ q' → (p < q') × (class (code pc) ≤ 23)
  again_as bad f w q' c h far low e more = absurd c
  again_as (fin φ) f w q' c h far low e more = apart (op pc) 1 5 c.0 e (omega arith)
  again_as (move m l) f w q' c h far low e more = apart (op pc) 2 5 c.0 e (omega arith)
  again_as (kid o l) f w q' c h far low e more = apart (op pc) 3 5 c.0 e (omega arith)
  again_as (fork m l r) f w q' c h far low e more = apart (op pc) 4 5 c.0 e (omega arith)
  again_as (rep m r l) f w q' c h far low e more =
      (farther f (eaten m) q' far low (subst (λ (o : Move). q + eaten o ≤ q') c.1 more) (and_t (f || ltb 0 (eaten m)) (thrift k f w l) h).0, leb→le (class (code pc)) 23 c.3)

-- ---- the same, of a turn

module _ {s : List ℕ} {left : ℕ} {lines : Bool} {σ k p i u : ℕ} {b b' x x' : List ℕ} {pc q n t : ℕ} (w : Turn s left lines σ k p i u b b' x x' pc q n t) where
  pub turn_fin : op pc ≡ 1 → Ended s left lines σ k p i u b b' x x' (argument (code pc)) q n t
  turn_fin = fin_as s left lines σ k p i u b b' x x' pc q n t w.lay w.moved w.own w.codes w.thrifty w.stage

  pub turn_stop : (y z : ℕ) → op pc ≡ 2 → ((ξ : Any) → walk s (under_any k left lines ξ) σ (step pc) q ≡ no y z)
      → (ξ : Any) → FailIn (grammar (hcl s)) (mid (hcl s) (under_any k left lines ξ) σ (any_before ξ) k (layout_of k) p) y z
  turn_stop y z = stop_as s left lines σ k p i u b b' x x' pc q n t w.lay w.own y z w.codes w.stage

  pub turn_other : (y z : ℕ) → ¬ (op pc ≡ 1) → ¬ (op pc ≡ 2) → ¬ (op pc ≡ 3) → ((ξ : Any) → walk s (under_any k left lines ξ) σ (step pc) q ≡ no y z) → Turn s left lines σ k p i u b b' x x' (otherwise (code pc)) q n t
  turn_other y z = other_as s left lines σ k p i u b b' x x' pc q n t w.lay w.moved w.own y z w.codes w.thrifty w.fitting w.forward w.far w.stage

  pub turn_on : (q' : ℕ) → ¬ (op pc ≡ 1) → ¬ (op pc ≡ 3) → ¬ (op pc ≡ 5) → ((ξ : Any) → walk s (under_any k left lines ξ) σ (step pc) q ≡ to q') → q + eaten (step pc) ≤ q' → q' ≤ length s
      → Turn s left lines σ k p i u b b' x x' (pc + 1) q' n t
  turn_on q' = on_as s left lines σ k p i u b b' x x' pc q n t w.lay w.moved w.own q' w.codes w.thrifty w.fitting w.forward w.far w.stage

  pub turn_kid : {e m y : ℕ} {b'' x'' : List ℕ} → op pc ≡ 3 → Good (Climbs s (below left lines (sort pc)) (bounds (sort pc)) q) s (i + n) (u + t) q b' b'' x' x'' e m y → q + m + bonus (sort pc) ≤ e → 1 ≤ m
      → Turn s left lines σ k p i u b b'' x x'' (pc + 1) e (n + m) (t + y)
  turn_kid {e} {m} {y} {b''} {x''} = kid_as s left lines σ k p i u b b' x x' pc q n t w.lay w.moved w.own e m y b'' x'' w.codes w.thrifty w.fitting w.forward w.stage

  pub turn_kid_no : (y z : ℕ) → op pc ≡ 3 → FailAt (grammar (hcl s)) (below left lines (sort pc), bounds (sort pc)) q y z
      → (ξ : Any) → FailIn (grammar (hcl s)) (mid (hcl s) (under_any k left lines ξ) σ (any_before ξ) k (layout_of k) p) y z
  turn_kid_no y z = kid_no_as s left lines σ k p i u b b' x x' pc q n t w.lay w.own y z w.codes w.fitting w.stage

  pub turn_rep : {q' e m y : ℕ} {b'' x'' : List ℕ} → op pc ≡ 5 → ((ξ : Any) → walk s (under_any k left lines ξ) σ (step pc) q ≡ to q') → q ≤ q'
      → Good (Climbs s (below left lines (sort pc)) (bounds (sort pc)) q') s (i + n) (u + t) q' b' b'' x' x'' e m y → 1 ≤ m → Turn s left lines σ k p i u b b'' x x'' pc e (n + m) (t + y)
  turn_rep {q'} {e} {m} {y} {b''} {x''} = rep_as s left lines σ k p i u b b' x x' pc q n t w.lay w.moved w.own q' e m y b'' x'' w.codes w.thrifty w.fitting w.forward w.stage

  pub turn_rep_no : (q' y z : ℕ) → op pc ≡ 5 → ((ξ : Any) → walk s (under_any k left lines ξ) σ (step pc) q ≡ to q') → FailAt (grammar (hcl s)) (below left lines (sort pc), bounds (sort pc)) q' y z
      → (ξ : Any) → FailIn (grammar (hcl s)) (mid (hcl s) (under_any k left lines ξ) σ (any_before ξ) k (layout_of k) p) y z
  turn_rep_no q' y z = rep_no_as s left lines σ k p i u b b' x x' pc q n t w.lay w.own q' y z w.codes w.fitting w.stage

  pub turn_lead : op pc ≡ 3 → ((p < q) ⊎ T (leads k (sort pc))) × (class (code pc) ≤ 23)
  turn_lead = lead_as s left lines σ k p i u b b' x x' pc q n t w.lay w.moved w.own w.codes w.thrifty w.far

  pub turn_again : (q' : ℕ) → op pc ≡ 5 → q + eaten (step pc) ≤ q' → (p < q') × (class (code pc) ≤ 23)
  turn_again q' = again_as s left lines σ k p i u b b' x x' pc q n t w.lay w.moved w.own q' w.codes w.thrifty w.far (omega (arith, w.low))

-- ---- forward: for the loop's measure

within_as : (pc : ℕ) (l : Layout) → Codes pc l → T (ahead pc l) → pc < instructions
within_as pc bad c a = absurd c
within_as pc (fin φ) c a = ltb→lt pc instructions a
within_as pc (move m l) c a = ltb→lt pc instructions (and_t (ltb pc instructions) (ahead (pc + 1) l) a).0
within_as pc (kid z l) c a = ltb→lt pc instructions (and_t (ltb pc instructions) (ahead (pc + 1) l) a).0
within_as pc (fork m l r) c a =
    ltb→lt pc instructions (and_t (ltb pc instructions) (ltb pc (otherwise (code pc))) (and_t (ltb pc instructions && ltb pc (otherwise (code pc))) (ahead (pc + 1) l && ahead (otherwise (code pc)) r) a).0).0
within_as pc (rep m z l) c a =
    ltb→lt pc instructions (and_t (ltb pc instructions) (ltb pc (otherwise (code pc))) (and_t (ltb pc instructions && ltb pc (otherwise (code pc))) (ahead (otherwise (code pc)) l) a).0).0

later_as : (pc : ℕ) (l : Layout) → Codes pc l → T (ahead pc l) → ¬ (op pc ≡ 1) → ¬ (op pc ≡ 2) → ¬ (op pc ≡ 3) → pc < otherwise (code pc)
later_as pc bad c a e₁ e₂ e₃ = absurd c
later_as pc (fin φ) c a e₁ e₂ e₃ = absurd (e₁ c.0)
later_as pc (move m l) c a e₁ e₂ e₃ = absurd (e₂ c.0)
later_as pc (kid z l) c a e₁ e₂ e₃ = absurd (e₃ c.0)
later_as pc (fork m l r) c a e₁ e₂ e₃ =
    ltb→lt pc (otherwise (code pc)) (and_t (ltb pc instructions) (ltb pc (otherwise (code pc))) (and_t (ltb pc instructions && ltb pc (otherwise (code pc))) (ahead (pc + 1) l && ahead (otherwise (code pc)) r) a).0).1
later_as pc (rep m z l) c a e₁ e₂ e₃ =
    ltb→lt pc (otherwise (code pc)) (and_t (ltb pc instructions) (ltb pc (otherwise (code pc))) (and_t (ltb pc instructions && ltb pc (otherwise (code pc))) (ahead (otherwise (code pc)) l) a).0).1

module _ {s : List ℕ} {left : ℕ} {lines : Bool} {σ k p i u : ℕ} {b b' x x' : List ℕ} {pc q n t : ℕ} (w : Turn s left lines σ k p i u b b' x x' pc q n t) where
  pub turn_within : pc < instructions
  turn_within = within_as pc w.lay w.codes w.forward

  pub turn_later : ¬ (op pc ≡ 1) → ¬ (op pc ≡ 2) → ¬ (op pc ≡ 3) → pc < otherwise (code pc)
  turn_later = later_as pc w.lay w.codes w.forward
