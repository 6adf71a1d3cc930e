-- What is left of a layout, by what it begins with.
use Rattle.grammar.specs.Said.{Child}
use Prim.Native.Nat.{ℕ, ◌+◌, ◌/◌, ◌%◌, ◌<◌}
use mathlib.Core.Path.{◌≡◌, refl, sym, ap, subst, ◌∙◌}
use mathlib.Core.Bool.{Bool, true, false, cond}
use mathlib.Core.Option.{none, some}
use mathlib.Core.List.{List, [], ◌∷◌, map}
use native.Mathlib.Omega.{arith}
use lib.ListN.{get_or, set}
use lib.Seq.{get_or-set_same, get_or-set_other}
use lib.Dec.{eqb, T}
use Rattle.lexis.specs.RunLaws.{clash}
use Rattle.index.specs.IndexLaws.{indexed_none}
use Rattle.engine.specs.Base.{Rec}
use Rattle.engine.specs.BaseLaws.{some_is}
use Rattle.engine.specs.Layout.{fin, move, kid, fork, rep}
use Rattle.engine.specs.Rule.{rfin, rmove, rkid, ryes, rno, rrep, rend}
use Rattle.grammar.specs.Moves.{Under, Move, place, walk}
use Rattle.grammar.specs.Layouts.{Class, entry, Layout, layout_of}
use Rattle.grammar.specs.Hcl.{hcl, under, downs, fits, styles}
use Rattle.grammar.specs.Published.{Depth, depth_of, want_of}
use Rattle.checker.specs.Rows.{row_at, rec_at}
use Rattle.checker.specs.Family.{Chain}
use Rattle.checker.specs.Program.{class_in, is_entry}
use Rattle.checker.specs.Leaf.{ChildAt}
use Rattle.checker.specs.Child.{kidded}
use Rattle.checker.specs.Lay.{coded, depths_at, Both, KidBy, Direct, PassedBy, Filled, Over, EndsAt, LaidBy}
use Rattle.checker.specs.Rest.{Goes, RestBy, StepBy}
use Rattle.checker.proofs.Overs.{over_fin, over_kid, over_move, over_yes, over_no, over_end}
use Rattle.checker.proofs.Lays.{fit_any, next_of, none_left}
use Rattle.checker.proofs.Directs.{kid_passed}
use Rattle.checker.proofs.Atoms.{To, Not}

none_some : {A X : Type 0} {x : X} → none ≡ some x → A
none_some {x = x} e = absurd (let z : ◌≡◌ {A = ℕ} 0 1 = cc in omega arith)

head_of : {A : Type 0} {x y : A} {xs ys : List A} → x ∷ xs ≡ y ∷ ys → x ≡ y
head_of {x = x} {y} {xs} {ys} e = cc

tail_of_lem : {A : Type 0} {x y : A} {xs ys : List A} → x ∷ xs ≡ y ∷ ys → xs ≡ ys
tail_of_lem {x = x} {y} {xs} {ys} e = cc

module _ (s t : List ℕ) (i v : ℕ) (m : List ℕ) where
  abbrev kind : ℕ
  kind = (row_at t i).kind

  abbrev pub att : Under
  att = under (v / 2) (eqb (v % 2) 1) (want_of kind)

  abbrev start : ℕ
  start = (row_at t i).start

  abbrev Rest : List ℕ → List ℕ → Layout → ℕ → ℕ → Bool → Type 0
  Rest D D' l j p r = RestBy s t i v m D D' l j p r

  -- no way on: no
  never : {D : List ℕ} {l : Layout} {j p : ℕ} → ((ks : List (Rec ℕ)) (js : List ℕ) → Chain m i js j → Filled t js → (bs : List (Under × ℕ)) → Goes s t i v ks l p js bs → ⊥) → Rest D D l j p false
  never f = record { long = refl; same = λ x u. refl; yes = λ z. clash (sym z); only = λ z. clash (sym z); no = λ z. f }

  -- on with another layout, from another place, over the same children
  same_kids : {D D' : List ℕ} {l l' : Layout} {j p q : ℕ} {r : Bool}
      → ((ks rs : List (Rec ℕ)) (bs : List (Under × ℕ)) → Over s t i (v / 2) (eqb (v % 2) 1) ks l q rs bs → Over s t i (v / 2) (eqb (v % 2) 1) ks l' p rs bs)
      → ((ks rs : List (Rec ℕ)) (bs : List (Under × ℕ)) → Over s t i (v / 2) (eqb (v % 2) 1) ks l' p rs bs → Over s t i (v / 2) (eqb (v % 2) 1) ks l q rs bs)
      → Rest D D' l j q r → Rest D D' l' j p r
  same_kids f g h = record {
    long = h.long;
    same = h.same;
    yes = λ z ks js c. let (bs, o) = h.yes z ks js c in (bs, f ks (map (rec_at t) js) bs o);
    only = λ z ks js c bs o. h.only z ks js c bs (g ks (map (rec_at t) js) bs o);
    no = λ z ks js c full bs o. h.no z ks js c full bs (g ks (map (rec_at t) js) bs o);
  }

  pub rest_stop : {D : List ℕ} {l : Layout} {j p : ℕ} {x : Move} → Not s att start x p → Rest D D (move x l) j p false
  rest_stop g = never (λ ks js c full bs o. let (y, h, u) = over_move (hcl s) (Both s) o in none_some (sym g.is ∙ h))

  pub rest_move : {D D' : List ℕ} {l : Layout} {j p q : ℕ} {x : Move} {r : Bool} → To s att start x p q → Rest D D' l j q r → Rest D D' (move x l) j p r
  rest_move {l = l} {q = q} g h =
      same_kids (λ ks rs bs o. rmove q g.is o)
      (λ ks rs bs o. let (y, f, u) = over_move (hcl s) (Both s) o in subst (λ (z : ℕ). Over s t i (v / 2) (eqb (v % 2) 1) ks l z rs bs) (some_is (sym f ∙ g.is)) u) h

  -- a move that comes to the same
  pub rest_swap : {D D' : List ℕ} {l : Layout} {j p q : ℕ} {x y : Move} {r : Bool} → place (walk s att start x p) ≡ place (walk s att start y q) → Rest D D' (move x l) j p r → Rest D D' (move y l) j q r
  rest_swap e h =
      same_kids (λ ks rs bs o. let (q, f, u) = over_move (hcl s) (Both s) o in rmove q (sym e ∙ f) u)
      (λ ks rs bs o. let (q, f, u) = over_move (hcl s) (Both s) o in rmove q (e ∙ f) u) h

  pub rest_fork : {D D' : List ℕ} {l l' : Layout} {j p q : ℕ} {x : Move} {r : Bool} → To s att start x p q → Rest D D' l j q r → Rest D D' (fork x l l') j p r
  rest_fork {q = q} g h = same_kids (λ ks rs bs o. ryes q g.is o) (λ ks rs bs o. over_yes (hcl s) (Both s) g.is o) h

  pub rest_other : {D D' : List ℕ} {l l' : Layout} {j p : ℕ} {x : Move} {r : Bool} → Not s att start x p → Rest D D' l' j p r → Rest D D' (fork x l l') j p r
  rest_other g h = same_kids (λ ks rs bs o. rno g.is o) (λ ks rs bs o. over_no (hcl s) (Both s) g.is o) h

  again : {ks rs : List (Rec ℕ)} {bs : List (Under × ℕ)} {x : Move} {c : Class} {l : Layout} {p q : ℕ} → To s att start x p q → Over s t i (v / 2) (eqb (v % 2) 1) ks (kid c (rep x c l)) q rs bs → Over s t i (v / 2) (eqb (v % 2) 1) ks (rep x c l) p rs bs
  again {q = q} g (rkid d e z w) = rrep q g.is d e z w

  once : {ks rs : List (Rec ℕ)} {bs : List (Under × ℕ)} {x : Move} {c : Class} {l : Layout} {p q : ℕ} → To s att start x p q → Over s t i (v / 2) (eqb (v % 2) 1) ks (rep x c l) p rs bs → Over s t i (v / 2) (eqb (v % 2) 1) ks (kid c (rep x c l)) q rs bs
  once g (rrep q h d e z w) = rkid d (e ∙ some_is (sym h ∙ g.is)) z w
  once g (rend h w) = none_some (sym h ∙ g.is)

  pub rest_again : {D D' : List ℕ} {l : Layout} {c : Class} {j p q : ℕ} {x : Move} {r : Bool} → To s att start x p q → Rest D D' (kid c (rep x c l)) j q r → Rest D D' (rep x c l) j p r
  rest_again g h = same_kids (λ ks rs bs o. again g o) (λ ks rs bs o. once g o) h

  pub rest_done : {D D' : List ℕ} {l : Layout} {c : Class} {j p : ℕ} {x : Move} {r : Bool} → Not s att start x p → Rest D D' l j p r → Rest D D' (rep x c l) j p r
  rest_done g h = same_kids (λ ks rs bs o. rend g.is o) (λ ks rs bs o. over_end (hcl s) (Both s) g.is o) h

  -- ---- the end

  map_none : (js : List ℕ) → map (rec_at t) js ≡ [] → js ≡ []
  map_none [] e = refl
  map_none (x ∷ xs) e = absurd (let z : ◌≡◌ {A = ℕ} 0 1 = cc in omega arith)

  left_none : (js : List ℕ) (j : ℕ) → Chain m i js j → js ≡ [] → j ≡ i
  left_none [] x c e = c
  left_none (y ∷ js) x c e = absurd (let z : ◌≡◌ {A = ℕ} 0 1 = cc in omega arith)

  pub rest_fin : {D : List ℕ} {φ j p : ℕ} (r : Bool) → EndsAt t i j p φ r → Rest D D (fin φ) j p r
  rest_fin {D} {φ} {j} {p} true h =
      let (a, b, e) = h.yes refl in
      record {
        long = refl;
        same = λ x u. refl;
        yes = λ z ks js c. (
          [],
          subst (λ (o : List ℕ). Goes s t i v ks (fin φ) p o []) (sym (none_left m i js j c a))
              (subst (λ (o : ℕ). Goes s t i v ks (fin o) p [] []) (sym e) (subst (λ (o : ℕ). Goes s t i v ks (fin (row_at t i).flag) o [] []) (sym b) rfin)),
        );
        only = λ z ks js c bs o. let u = over_fin (hcl s) (Both s) o in ap (depths_at D) (none_left m i js j c a) ∙ ap (map depth_of) (sym u.atts);
        no = λ z. clash z;
      }
  rest_fin {j = j} false h = never (λ ks js c full bs o. let u = over_fin (hcl s) (Both s) o in h.no refl (left_none js j c (map_none js u.rest)) u.end u.flag)

  -- ---- a child

  module _ (k : ℕ) {y : Child} (h : ChildAt k (v / 2) (eqb (v % 2) 1) y) (other : ¬ (y.want ≡ 4)) (plain : is_entry (class_in k) ≡ false) (fit : T (fits (under 0 true (want_of kind)) (class_in k))) {w : ℕ} (packed : w ≡ y.left + y.left + cond y.lines 1 0) where
    abbrev low : List (Rec ℕ) → Under
    low ks = downs s att (class_in k) start ks

    down_is : (ks : List (Rec ℕ)) → (hcl s).down att (class_in k) start ks ≡ some (low ks)
    down_is ks = rw (fit_any (class_in k) (want_of kind) (v / 2) (eqb (v % 2) 1) fit)

    no_entry : class_in k ≡ entry → ⊥
    no_entry e = clash (sym (ap is_entry e) ∙ plain)

    module _ {D D₁ : List ℕ} {j p : ℕ} where
      passed : (b : Bool) → KidBy t i D D₁ j p y.bound y.want w b → PassedBy s t i m D D₁ [] [] j 0 k (v / 2) (eqb (v % 2) 1) p (kidded t m j 0 b)
      passed b x = kid_passed s t i (v / 2) (eqb (v % 2) 1) b h other packed (indexed_none s [] 0 (omega arith)) x

      pub rest_kid_no : {l : Layout} {b : Bool} → KidBy t i D D₁ j p y.bound y.want w b → b ≡ false → Rest D D₁ (kid (class_in k) l) j p false
      rest_kid_no {l} {b} x z =
          let x' = passed false (subst (λ (o : Bool). KidBy t i D D₁ j p y.bound y.want w o) z x) in
          subst (λ (o : List ℕ). Rest D o (kid (class_in k) l) j p false) (sym (x.still z))
          (never (λ ks js c full bs o.
          let u = over_kid (hcl s) (Both s) o in
          let n = next_of m i js j c (some_left js c u.child u.rest u.are) in
          let e : rec_at t j ∷ map (rec_at t) n.rest ≡ u.child ∷ u.rest = sym (ap (map (rec_at t)) n.are) ∙ u.are in
          let d : rec_at t j ≡ u.child = head_of e in
          let g : u.att ≡ low ks = some_is (sym u.down ∙ down_is ks) in
          let b : Both s (low ks) (class_in k) (rec_at t j) = subst (λ (a : Rec ℕ). Both s (low ks) (class_in k) a) (sym d) (subst (λ (a : Under). Both s a (class_in k) u.child) g u.test) in
          let f : Filled t (j ∷ n.rest) = subst (Filled t) n.are full in
          x'.no refl (some_left js c u.child u.rest u.are) (ap (λ (a : Rec ℕ). a.start) d ∙ u.start) f.0 (want_of kind) start ks (λ a. absurd (no_entry a)) b))
        where
          some_left : (js : List ℕ) → Chain m i js j → (a : Rec ℕ) (ys : List (Rec ℕ)) → map (rec_at t) js ≡ a ∷ ys → j < i
          some_left [] c a ys e = absurd (let z : ◌≡◌ {A = ℕ} 0 1 = cc in omega arith)
          some_left (q ∷ js) (e', up, far, c) a ys e = omega arith

      pub rest_kid : {D' : List ℕ} {l : Layout} {b r : Bool} → Direct t i m D j → KidBy t i D D₁ j p y.bound y.want w b → b ≡ true → Rest D₁ D' l (get_or m j 0) (row_at t j).end r → Rest D D' (kid (class_in k) l) j p r
      rest_kid {D'} {l} {b} {r} h₀ x z o =
          let x' = passed true (subst (λ (o : Bool). KidBy t i D D₁ j p y.bound y.want w o) z x) in
          let put : D₁ ≡ set D j x'.value = x'.put refl in
          let up = (next_of m i h₀.js j h₀.chain (x.inside z)).up in
          let own : get_or D' j 0 ≡ x'.value = o.same j up ∙ ap (λ (a : List ℕ). get_or a j 0) put ∙ get_or-set_same D j x'.value 0 (omega (arith, h₀.deep, x.inside z)) in
          let both : (ks : List (Rec ℕ)) → Both s (low ks) (class_in k) (rec_at t j) = λ ks. x'.both refl (want_of kind) start ks (λ a. absurd (no_entry a)) in
          record {
            long = o.long ∙ x.long;
            same = λ a u. o.same a (omega arith) ∙ ap (λ (q : List ℕ). get_or q a 0) put ∙ get_or-set_other D j a x'.value 0 (λ (e : a ≡ j). omega arith);
            yes = λ u ks js c.
                let n = next_of m i js j c (x.inside z) in
                let (bs, q) = o.yes u (rec_at t j ∷ ks) n.rest n.chain in
                ((low ks, styles (class_in k)) ∷ bs, subst (λ (a : List ℕ). Goes s t i v ks (kid (class_in k) l) p a ((low ks, styles (class_in k)) ∷ bs)) (sym n.are) (rkid (down_is ks) (x'.start refl) (both ks) q));
            only = λ u ks js c bs q.
                let n = next_of m i js j c (x.inside z) in
                let a = at_kid ks js c bs q in
                ap (depths_at D') n.are
                ∙ ap (λ (d : Depth). d ∷ depths_at D' n.rest) (ap coded own ∙ x'.told refl (want_of kind) start (styles (class_in k)) ks)
                ∙ ap (λ (ds : List Depth). depth_of (low ks, styles (class_in k)) ∷ ds) (o.only u (rec_at t j ∷ ks) n.rest n.chain a.0 a.2)
                ∙ ap (map depth_of) (sym a.1);
            no = λ u ks js c full bs q.
                let n = next_of m i js j c (x.inside z) in
                let f : Filled t (j ∷ n.rest) = subst (Filled t) n.are full in
                let a = at_kid ks js c bs q in
                o.no u (rec_at t j ∷ ks) n.rest n.chain f.1 a.0 a.2;
          }
        where
          at_kid : (ks : List (Rec ℕ)) (js : List ℕ) (c : Chain m i js j) (bs : List (Under × ℕ)) → Goes s t i v ks (kid (class_in k) l) p js bs
              → (bs' : List (Under × ℕ)) × (bs ≡ (low ks, styles (class_in k)) ∷ bs') × Goes s t i v (rec_at t j ∷ ks) l (row_at t j).end (next_of m i js j c (x.inside z)).rest bs'
          at_kid ks js c bs q =
              let n = next_of m i js j c (x.inside z) in
              let u = over_kid (hcl s) (Both s) q in
              let e : rec_at t j ∷ map (rec_at t) n.rest ≡ u.child ∷ u.rest = sym (ap (map (rec_at t)) n.are) ∙ u.are in
              let d : u.child ≡ rec_at t j = sym (head_of e) in
              let f : u.rest ≡ map (rec_at t) n.rest = sym (tail_of_lem e) in
              let g : u.att ≡ low ks = some_is (sym u.down ∙ down_is ks) in
              let o₁ = subst (λ (a : Rec ℕ). Over s t i (v / 2) (eqb (v % 2) 1) (a ∷ ks) l a.end u.rest u.atts) d u.on in
              (u.atts, u.from ∙ ap (λ (a : Under). (a, styles (class_in k)) ∷ u.atts) g, subst (λ (a : List (Rec ℕ)). Over s t i (v / 2) (eqb (v % 2) 1) (rec_at t j ∷ ks) l (row_at t j).end a u.atts) f o₁)

  -- ---- a whole layout

  pub rest_laid : {D D' : List ℕ} {l : Layout} {j p : ℕ} {r : Bool} → l ≡ layout_of kind → Rest D D' l j p r → LaidBy s t i m D D' j p (v / 2) (eqb (v % 2) 1) r
  rest_laid {D} {D'} {l} {j} {p} {r} e h =
      let g = subst (λ (o : Layout). Rest D D' o j p r) e h in
      record {
        long = g.long;
        same = g.same;
        yes = λ z ks js c. g.yes z ks js c.chain;
        only = λ z ks js c bs o. g.only z ks js c.chain bs o;
        no = λ z ks js c full bs o. g.no z ks js c.chain full bs o;
      }

-- ---- up to a child

module _ {s t : List ℕ} {i v : ℕ} where
  pub step_stop : {D : List ℕ} {f : Layout → Layout} {j p : ℕ} {x : Move} → Not s (att s t i v []) (row_at t i).start x p → StepBy s t i v D D (λ l. move x (f l)) j p false
  step_stop g = record { long = refl; inside = λ z. clash (sym z); on = λ z. clash (sym z); no = λ z m l. rest_stop s t i v m g }

  pub step_move : {D D' : List ℕ} {f : Layout → Layout} {j p q : ℕ} {x : Move} {r : Bool} → To s (att s t i v []) (row_at t i).start x p q → StepBy s t i v D D' f j q r → StepBy s t i v D D' (λ l. move x (f l)) j p r
  step_move g h = record { long = h.long; inside = h.inside; on = λ z m a l D'' x o. rest_move s t i v m g (h.on z m a l D'' x o); no = λ z m l. rest_move s t i v m g (h.no z m l) }

  pub step_kid : {D D' : List ℕ} {j p w : ℕ} {y : Child} {r : Bool} (k : ℕ) → ChildAt k (v / 2) (eqb (v % 2) 1) y → ¬ (y.want ≡ 4) → is_entry (class_in k) ≡ false → T (fits (under 0 true (want_of (row_at t i).kind)) (class_in k)) → w ≡ y.left + y.left + cond y.lines 1 0
      → KidBy t i D D' j p y.bound y.want w r → StepBy s t i v D D' (λ l. kid (class_in k) l) j p r
  step_kid k h n e f g x = record {
    long = x.long;
    inside = x.inside;
    on = λ z m a l D'' u o. rest_kid s t i v m k h n e f g a x z o;
    no = λ z m l. rest_kid_no s t i v m k h n e f g x z;
  }
