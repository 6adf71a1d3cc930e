-- The rule at a row that grows from its left operand.
use Prim.Native.Nat.{ℕ, ◌/◌, ◌%◌, ◌≤◌, ◌<◌}
use mathlib.Core.Path.{◌≡◌, refl, sym, ap, subst, ◌∙◌}
use mathlib.Core.Bool.{Bool, true, false, cond, not, ◌&&◌}
use mathlib.Core.Option.{none, some}
use mathlib.Core.List.{List, [], ◌∷◌, map}
use native.Mathlib.Omega.{arith}
use lib.ListN.{length, get_or, set, length-set}
use lib.Seq.{get_or-set_same, get_or-set_other}
use lib.Dec.{eqb, leb, leb→le, T}
use borrow.Author.Tests.{eqb-true, eq-eqb, lt-leb}
use Rattle.lexis.specs.RunLaws.{clash}
use Rattle.engine.specs.Base.{Rec, has, all_of}
use Rattle.engine.specs.BaseLaws.{has_all, and_t}
use Rattle.engine.specs.Layout.{named}
use Rattle.engine.specs.Rule.{Runs, Firm, Local, first, later}
use Rattle.engine.specs.Handed.{Tests, tcons}
use Rattle.grammar.specs.Kinds.{tight_of, hold_of}
use Rattle.grammar.specs.Moves.{Want, an_expression, Under, round}
use Rattle.grammar.specs.Layouts.{layout_of}
use Rattle.grammar.specs.Hcl.{hcl, under, pick_at, follow_at}
use Rattle.grammar.specs.Said.{kind_of}
use Rattle.grammar.specs.PickLaws.{listed, followers, followed, kind_some}
use Rattle.grammar.specs.Published.{Depth, depth_of, wanted, kinds_of, want_as, want_of, style_of, Suits, Laid}
use Rattle.checker.specs.Rows.{row_at, rec_at}
use Rattle.checker.specs.Family.{Chain}
use Rattle.checker.specs.Program.{laid_out, pieceless, all_pieceless}
use Rattle.checker.specs.Leaf.{kinds_by, is_grown}
use Rattle.checker.specs.Lay.{coded, depths_at, Both, Over, Children, LaidBy}
use Rattle.checker.specs.Texts.{Sanes, Spelts}
use Rattle.checker.specs.Node.{RuleBy, LeftAt}
use Rattle.checker.proofs.Callings.{follow_grown, pick_grown}
use Rattle.checker.proofs.Overs.{both_apart, both_joined}
use Rattle.checker.proofs.Lays.{Next, next_of, none_left}
use Rattle.checker.proofs.Heads.{over_plain, nine_spelts, sanes_filled, rule_no, grown_named}

-- ---- the kinds that grow

record Follower (k : ℕ) : Type 0 where
  want : want_of k ≡ an_expression
  style : style_of k ≡ 0
  known : T (has laid_out k)
  object : k ≡ 12 → ⊥
  string : k ≡ 6 → ⊥
  pos : k ≡ 0 → ⊥

-- the same as a test that computes
abbrev grows : ℕ → Bool
grows k = has laid_out k && all_of (λ x. not (eqb k x)) (17 ∷ 13 ∷ 38 ∷ 39 ∷ 40 ∷ 41 ∷ 42 ∷ 20 ∷ 10 ∷ 14 ∷ 12 ∷ 6 ∷ 0 ∷ [])

follower : (k : ℕ) → T (has followers k) → Follower k
follower k h = record {
  want = none_of (eqb k 17) (eqb k 13) (leb 38 k && leb k 42) (eqb k 20) (eqb k 10) (off 17 tt) (off 13 tt) (apart k (listed (λ k. leb k 37) followers tt k h)) (off 20 tt) (off 10 tt);
  style = ap (λ (b : Bool). cond b 1 0) (off 14 tt);
  known = (and_t (has laid_out k) _ test).0;
  object = λ e. clash (sym (eq-eqb k 12 e) ∙ off 12 tt);
  string = λ e. clash (sym (eq-eqb k 6 e) ∙ off 6 tt);
  pos = λ e. clash (sym (eq-eqb k 0 e) ∙ off 0 tt);
}
  where
    others : List ℕ
    others = 17 ∷ 13 ∷ 38 ∷ 39 ∷ 40 ∷ 41 ∷ 42 ∷ 20 ∷ 10 ∷ 14 ∷ 12 ∷ 6 ∷ 0 ∷ []

    test : T (grows k)
    test = listed grows followers tt k h

    is_f : (b : Bool) → T (not b) → b ≡ false
    is_f true z = absurd z
    is_f false z = refl

    off : (x : ℕ) → T (has others x) → eqb k x ≡ false
    off x z = is_f (eqb k x) (has_all (λ x. not (eqb k x)) others (and_t (has laid_out k) _ test).1 x z)

    apart : (k : ℕ) → T (leb k 37) → (leb 38 k && leb k 42) ≡ false
    apart k z = let l = leb→le k 37 z in ap (λ (b : Bool). b && leb k 42) (lt-leb 38 k (omega arith))

    none_of : (a b c d e : Bool) → a ≡ false → b ≡ false → c ≡ false → d ≡ false → e ≡ false → want_as a b c d e ≡ an_expression
    none_of true b c d e p q r s u = clash p
    none_of false true c d e p q r s u = clash q
    none_of false false true d e p q r s u = clash r
    none_of false false false true e p q r s u = clash s
    none_of false false false false true p q r s u = clash u
    none_of false false false false false p q r s u = refl

module _ (s t : List ℕ) (i own : ℕ) where
  abbrev kind : ℕ
  kind = (row_at t i).kind

  abbrev start : ℕ
  start = (row_at t i).start

  abbrev att : Under
  att = under (own / 2) (eqb (own % 2) 1) (want_of kind)

  abbrev Lays : List (Rec ℕ) → ℕ → List (Rec ℕ) → List (Under × ℕ) → Type 0
  Lays ks p rs bs = Over s t i (own / 2) (eqb (own % 2) 1) ks (layout_of kind) p rs bs

  -- what the rule says of it
  record Grown (rs : List (Rec ℕ)) (ds : List Depth) : Type 0 where
    l : Rec ℕ
    rest : List (Rec ℕ)
    below : List (Under × ℕ)
    are : rs ≡ l ∷ rest
    told : coded own ∷ map depth_of below ≡ ds
    starts : l.start ≡ start
    follows : follow_at s att l.end ≡ some kind
    holds : tight_of kind ≤ hold_of l.kind
    suits : Suits s (want_of kind, 0) l
    over : Lays (l ∷ []) l.end rest below

  style_0 : (k : ℕ) → named (hcl s) (style_of kind) k ≡ kind → style_of kind ≡ 0 → k ≡ kind
  style_0 k n e = subst (λ (x : ℕ). named (hcl s) x k ≡ kind) e n

  -- what does not grow is called for by its bytes
  pick_not : (k : ℕ) → is_grown kind ≡ true → named (hcl s) (style_of kind) k ≡ kind → pick_at s att start ≡ some k → ⊥
  pick_not k g n p = go (eqb kind 14) refl
    where
      go : (b : Bool) → eqb kind 14 ≡ b → ⊥
      go true e = clash (sym (sym (ap is_grown (eqb-true kind 14 e)) ∙ g))
      go false e = clash (sym g ∙ sym (ap is_grown (style_0 k n (ap (λ (b : Bool). cond b 1 0) e))) ∙ pick_grown s att start k p)

  grown_of : {rs : List (Rec ℕ)} {ds : List Depth} → is_grown kind ≡ true → Laid s (coded own) (rec_at t i) rs ds → Grown rs ds
  grown_of {rs} {ds} g h = by rs h.below h.local h.suits h.depths
    where
      by : (rs : List (Rec ℕ)) (bs : List (Under × ℕ)) → Local (hcl s) (att, style_of kind) (rec_at t i) rs bs → Tests (Suits s) (map wanted bs) rs → map depth_of bs ≡ ds → Grown rs ds
      by rs bs (first k n p w) x e = absurd (pick_not k g n p)
      by rs bs (later {l = l} {rs = rest} {bs = below} k n st p hd w) (tcons u x) e =
          let f = follower k (followed s l.end att k p) in
          let same : k ≡ kind = grown_named s kind k n (follow_grown s att l.end k p) in
          let w₁ = both_joined s w x in
          let w₂ = subst (λ (o : ℕ). Runs (hcl s) (Both s) att o (l ∷ []) (layout_of k) l.end (row_at t i).end (row_at t i).flag rest below) st w₁ in
          record {
            l = l;
            rest = rest;
            below = below;
            are = refl;
            told = e;
            starts = st;
            follows = p ∙ ap some same;
            holds = subst (λ (o : ℕ). tight_of o ≤ hold_of l.kind) same hd;
            suits = u;
            over = subst (λ (o : ℕ). Over s t i (own / 2) (eqb (own % 2) 1) (l ∷ []) (layout_of o) l.end rest below) same w₂;
          }

  of_grown : {rs : List (Rec ℕ)} {ds : List Depth} → Grown rs ds → Laid s (coded own) (rec_at t i) rs ds
  of_grown {rs} {ds} h =
      let f = follower kind (followed s h.l.end att kind h.follows) in
      let (w, x) = both_apart s h.over in
      let w₂ = subst (λ (o : ℕ). Runs (hcl s) (Firm (hcl s)) att o (h.l ∷ []) (layout_of kind) h.l.end (row_at t i).end (row_at t i).flag h.rest h.below) (sym h.starts) w in
      let name : named (hcl s) (style_of kind) kind ≡ kind = ap (λ (o : ℕ). named (hcl s) o kind) f.style in
      record {
        below = (att, 0) ∷ h.below;
        depths = h.told;
        local = subst (λ (o : List (Rec ℕ)). Local (hcl s) (att, style_of kind) (rec_at t i) o ((att, 0) ∷ h.below)) (sym h.are) (later kind name h.starts h.follows h.holds w₂);
        suits = subst (λ (o : List (Rec ℕ)). Tests (Suits s) ((want_of kind, 0) ∷ map wanted h.below) o) (sym h.are) (tcons h.suits x);
      }

  none_some : {A : Type 0} {x : ℕ} → none ≡ some x → A
  none_some {x = x} f = absurd (let z : ◌≡◌ {A = ℕ} 0 1 = cc in omega arith)

  cons_nil : {A : Type 0} {x : Rec ℕ} {xs : List (Rec ℕ)} → x ∷ xs ≡ [] → A
  cons_nil {x = x} {xs} f = absurd (let z : ◌≡◌ {A = ℕ} 0 1 = cc in omega arith)

  head_of : {x y : Rec ℕ} {xs ys : List (Rec ℕ)} → x ∷ xs ≡ y ∷ ys → x ≡ y
  head_of {x = x} {y} {xs} {ys} e = cc

  tail_of_lem : {x y : Rec ℕ} {xs ys : List (Rec ℕ)} → x ∷ xs ≡ y ∷ ys → xs ≡ ys
  tail_of_lem {x = x} {y} {xs} {ys} e = cc

  module _ (text m D : List ℕ) (j : ℕ) (g : is_grown kind ≡ true) where
    -- it has no left operand
    pub grown_none : j ≡ i → RuleBy s text t i m D D j own false
    grown_none e = rule_no s t i own text m D j refl (λ x l. refl) (λ js c sane wd ds l.
        let x = grown_of g l in
        cons_nil (sym x.are ∙ ap (map (rec_at t)) (none_left m i js j c e)))

    -- the left operand is none
    follow_left : (l : Rec ℕ) → follow_at s att l.end ≡ some kind → (n : ℕ) → kind ≡ kind_of (follow_at s (under n (eqb (own % 2) 1) an_expression) l.end)
    unfolding follow_at
    follow_left l e n =
        let f = follower kind (followed s l.end att kind e) in
        let e' : follow_at s (under n (eqb (own % 2) 1) an_expression) l.end ≡ some kind = subst (λ (o : Want). follow_at s (under n (eqb (own % 2) 1) o) l.end ≡ some kind) f.want e in
        sym (ap kind_of e')

    suits_left : (l : Rec ℕ) → follow_at s att l.end ≡ some kind → Suits s (want_of kind, 0) l → T (has (kinds_by 0) l.kind)
    suits_left l e x =
        let f = follower kind (followed s l.end att kind e) in
        subst (λ (o : Want). T (has (kinds_of o 0) l.kind)) f.want x.kind

    pub grown_left_no : ¬ (j ≡ i) → j ≤ i → {r : Bool} → r ≡ false → LeftAt s t i j (eqb (own % 2) 1) r → RuleBy s text t i m D D j own false
    grown_left_no n l z h = rule_no s t i own text m D j refl (λ x l. refl) (λ js c sane wd ds lay.
        let x = grown_of g lay in
        let y = next_of m i js j c (omega arith) in
        let e : rec_at t j ∷ map (rec_at t) y.rest ≡ x.l ∷ x.rest = sym (ap (map (rec_at t)) y.are) ∙ x.are in
        let same : x.l ≡ rec_at t j = sym (head_of e) in
        let full = subst (Sanes s text t (round s start)) y.are sane in
        let fo : follow_at s att (row_at t j).end ≡ some kind = subst (λ (o : Rec ℕ). follow_at s att o.end ≡ some kind) same x.follows in
        h.no z (subst (λ (o : Rec ℕ). o.start ≡ start) same x.starts) full.0.some (follow_left (rec_at t j) fo) (subst (λ (o : Rec ℕ). tight_of kind ≤ hold_of o.kind) same x.holds)
        (suits_left (rec_at t j) fo (subst (λ (o : Rec ℕ). Suits s (want_of kind, 0) o) same x.suits)))

    module _ (n : ¬ (j ≡ i)) (le : j ≤ i) {b : Bool} (yes : b ≡ true) (h : LeftAt s t i j (eqb (own % 2) 1) b) where
      -- the operator follows it
      fo_any : (n : ℕ) → follow_at s (under n (eqb (own % 2) 1) an_expression) (row_at t j).end ≡ some kind
      fo_any n = kind_some (follow_at s (under n (eqb (own % 2) 1) an_expression) (row_at t j).end) kind (sym (h.follows yes n)) (λ e. clash (sym (sym (ap is_grown e) ∙ g)))

      fact : Follower kind
      fact = follower kind (followed s (row_at t j).end (under 0 (eqb (own % 2) 1) an_expression) kind (fo_any 0))

      pub left_known : T (has laid_out kind)
      left_known = fact.known

      fo_own : follow_at s att (row_at t j).end ≡ some kind
      fo_own = subst (λ (o : Want). follow_at s (under (own / 2) (eqb (own % 2) 1) o) (row_at t j).end ≡ some kind) (sym fact.want) (fo_any (own / 2))

      suit : Suits s (want_of kind, 0) (rec_at t j)
      suit = subst (λ (o : Want). Suits s (o, 0) (rec_at t j)) (sym fact.want) (record { kind = h.kind yes; more = tt })

      nine_left : (row_at t j).kind ≡ 9 → ⊥
      nine_left e = go (subst (λ (k : ℕ). T (has (kinds_by 0) k)) e (h.kind yes))
        where
          go : T (has (kinds_by 0) 9) → ⊥
          go x = x

      module _ {D' : List ℕ} {r : Bool} {q p : ℕ} (deep : j < length D) (up : j < get_or m j 0) (next : q ≡ get_or m j 0) (from : p ≡ (row_at t j).end) (w₀ : LaidBy s t i m (set D j own) D' q p (own / 2) (eqb (own % 2) 1) r) where
        w : LaidBy s t i m (set D j own) D' (get_or m j 0) (row_at t j).end (own / 2) (eqb (own % 2) 1) r
        w = subst (λ (o : ℕ). LaidBy s t i m (set D j own) D' o (row_at t j).end (own / 2) (eqb (own % 2) 1) r) next (subst (λ (o : ℕ). LaidBy s t i m (set D j own) D' q o (own / 2) (eqb (own % 2) 1) r) from w₀)

        kids : (js : List ℕ) → Chain m i js j → Next m i js j
        kids js c = next_of m i js j c (omega arith)

        abbrev Rest : List ℕ → Type 0
        Rest rest = Children t i m (get_or m j 0) (rec_at t j ∷ []) rest

        rest_of : (js : List ℕ) (c : Chain m i js j) → Rest (kids js c).rest
        rest_of js c = record { chain = (kids js c).chain; object = λ e. absurd (fact.object e) }

        -- its own depth is the left operand's
        own_depth : (js : List ℕ) (c : Chain m i js j) → coded (get_or D' j 0) ≡ coded own
        own_depth js c = ap coded (w.same j (kids js c).up ∙ get_or-set_same D j own 0 deep)

        depths_are : (js : List ℕ) (c : Chain m i js j) → depths_at D' js ≡ coded own ∷ depths_at D' (kids js c).rest
        depths_are js c = ap (depths_at D') (kids js c).are ∙ ap (λ (o : Depth). o ∷ depths_at D' (kids js c).rest) (own_depth js c)

        -- what the rule says of the rest
        inner : (js : List ℕ) (c : Chain m i js j) {ds : List Depth} (x : Grown (map (rec_at t) js) ds) → Lays (rec_at t j ∷ []) (row_at t j).end (map (rec_at t) (kids js c).rest) x.below
        inner js c x =
            let e : rec_at t j ∷ map (rec_at t) (kids js c).rest ≡ x.l ∷ x.rest = sym (ap (map (rec_at t)) (kids js c).are) ∙ x.are in
            subst (λ (o : List (Rec ℕ)). Lays (rec_at t j ∷ []) (row_at t j).end o x.below) (sym (tail_of_lem e)) (subst (λ (o : Rec ℕ). Lays (o ∷ []) o.end x.rest x.below) (sym (head_of e)) x.over)

        pub grown_by : RuleBy s text t i m D D' j own r
        grown_by = record {
          long = w.long ∙ length-set D j own;
          same = λ x l. w.same x (low x l) ∙ get_or-set_other D j x own 0 (λ (e : x ≡ j). omega arith);
          rule = λ z js c.
              let (bs, o) = w.yes z (rec_at t j ∷ []) (kids js c).rest (rest_of js c) in
              of_grown (record {
                l = rec_at t j;
                rest = map (rec_at t) (kids js c).rest;
                below = bs;
                are = ap (map (rec_at t)) (kids js c).are;
                told = ap (λ (o : List Depth). coded own ∷ o) (sym (w.only z (rec_at t j ∷ []) (kids js c).rest (rest_of js c) bs o)) ∙ sym (depths_are js c);
                starts = h.start yes;
                follows = fo_own;
                holds = h.holds yes;
                suits = suit;
                over = o;
              });
          spelt = λ z js c.
              let (bs, o) = w.yes z (rec_at t j ∷ []) (kids js c).rest (rest_of js c) in
              let plain = over_plain s o (has_all (λ k. pieceless (layout_of k)) laid_out all_pieceless kind left_known) in
              subst (Spelts s text t (round s start)) (sym (kids js c).are) (λ e. absurd (nine_left e), nine_spelts s text t (round s start) (kids js c).rest plain);
          word = λ z e. absurd (fact.string e);
          only = λ z js c ds l.
              let x = grown_of g l in
              depths_are js c ∙ ap (λ (o : List Depth). coded own ∷ o) (w.only z (rec_at t j ∷ []) (kids js c).rest (rest_of js c) x.below (inner js c x)) ∙ x.told;
          no = λ z js c sane wd ds l.
              let x = grown_of g l in
              let full = subst (Sanes s text t (round s start)) (kids js c).are sane in
              w.no z (rec_at t j ∷ []) (kids js c).rest (rest_of js c) (sanes_filled s text t (round s start) (kids js c).rest full.1) x.below (inner js c x);
        }
          where
            low : (x : ℕ) → x < j → x < get_or m j 0
            low x l = omega arith
