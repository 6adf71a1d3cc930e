-- The rule at a row that does not grow from an operand, and over which no text goes.
use Prim.Native.Nat.{ℕ, ◌/◌, ◌%◌, ◌<◌}
use mathlib.Core.Path.{◌≡◌, refl, sym, ap, subst, ◌∙◌}
use mathlib.Core.Bool.{Bool, true, false, cond, ◌||◌}
use mathlib.Core.Option.{none, some}
use mathlib.Core.List.{List, [], ◌∷◌, map}
use native.Mathlib.Omega.{arith}
use lib.ListN.{length, get_or}
use lib.Dec.{eqb, T}
use borrow.Author.Tests.{eqb-true, ne_eqb}
use Rattle.lexis.specs.String.{Mode}
use Rattle.lexis.specs.RunLaws.{clash}
use Rattle.engine.specs.Base.{Rec, has, all_of}
use Rattle.engine.specs.BaseLaws.{and_t, has_all, some_is}
use Rattle.engine.specs.Layout.{named}
use Rattle.engine.specs.Rule.{Runs, rfin, rmove, rkid, ryes, rno, rrep, rend, Local, first, later}
use Rattle.engine.specs.Handed.{Tests}
use Rattle.grammar.specs.Moves.{Want, an_expression, a_name, an_item, a_part, a_piece, a_condition, Under, round, same}
use Rattle.grammar.specs.Layouts.{Class, inside, single, key, value, test, branch, term, right, entry, called, portion, piecewise, filter, Layout, layout_of, layouts}
use Rattle.grammar.specs.Hcl.{hcl, under, downs, fits, styles, pick_at}
use Rattle.grammar.specs.KindLaws.{heads, pick_all}
use Rattle.grammar.specs.Published.{Depth, depth_of, wanted, kinds_of, want_of, style_of, Suits, Laid}
use Rattle.checker.specs.Rows.{row_at, rec_at}
use Rattle.checker.specs.Family.{Chain}
use Rattle.checker.specs.Program.{laid_out, is_piece, pieceless, all_pieceless, kidless}
use Rattle.checker.specs.Leaf.{is_grown, read_as, FirstAt}
use Rattle.checker.specs.Lay.{coded, Both, Filled, Over, Children, LaidBy}
use Rattle.checker.specs.Texts.{Sanes, Spelts}
use Rattle.checker.specs.Node.{NoText, Worded, RuleBy}
use Rattle.checker.proofs.Callings.{follow_grown}
use Rattle.checker.proofs.Overs.{both_apart, both_joined}

-- ---- children that are no pieces, and no children

abbrev pub NoNine : List (Rec ℕ) → Type 0
NoNine [] = Unit {0}
NoNine (r ∷ rs) = (r.kind ≡ 9 → ⊥) × NoNine rs

nine_out : (xs : List ℕ) → (T (has xs 9) → ⊥) → (k : ℕ) → T (has xs k) → k ≡ 9 → ⊥
nine_out xs f k h e = f (subst (λ (x : ℕ). T (has xs x)) e h)

want_plain : (s : List ℕ) (b : Under) (c : Class) (σ : ℕ) (ks : List (Rec ℕ)) → T (same false (is_piece c)) → (k : ℕ) → T (has (kinds_of (downs s b c σ ks).want (styles c)) k) → k ≡ 9 → ⊥
want_plain s b inside σ ks z k h e = nine_out (kinds_of an_expression 0) (λ x. x) k h e
want_plain s b single σ ks z k h e = nine_out (kinds_of an_expression 0) (λ x. x) k h e
want_plain s b key σ ks z k h e = nine_out (kinds_of an_expression 1) (λ x. x) k h e
want_plain s b value σ ks z k h e = nine_out (kinds_of an_expression 0) (λ x. x) k h e
want_plain s b test σ ks z k h e = nine_out (kinds_of an_expression 0) (λ x. x) k h e
want_plain s b branch σ ks z k h e = nine_out (kinds_of an_expression 0) (λ x. x) k h e
want_plain s b term σ ks z k h e = nine_out (kinds_of an_expression 0) (λ x. x) k h e
want_plain s b (right n) σ ks z k h e = nine_out (kinds_of an_expression 0) (λ x. x) k h e
want_plain s b entry σ ks z k h e = nine_out (13 ∷ []) (λ x. x) k h e
want_plain s b called σ ks z k h e = nine_out (17 ∷ []) (λ x. x) k h e
want_plain s b portion σ ks z k h e = nine_out (38 ∷ 39 ∷ 40 ∷ 41 ∷ 42 ∷ []) (λ x. x) k h e
want_plain s b piecewise σ ks z k h e = absurd z
want_plain s b filter σ ks z k h e = nine_out (20 ∷ []) (λ x. x) k h e

-- a child is under what the tables say
down_some : (s : List ℕ) (b : Under) (c : Class) (σ : ℕ) (ks : List (Rec ℕ)) (d : Under) → (hcl s).down b c σ ks ≡ some d → d ≡ downs s b c σ ks
down_some s b c σ ks d = go (fits b c)
  where
    go : (x : Bool) → cond x (some (downs s b c σ ks)) none ≡ some d → d ≡ downs s b c σ ks
    go true e = sym (some_is e)
    go false e = absurd (let z : ◌≡◌ {A = ℕ} 0 1 = cc in omega arith)

module _ (s : List ℕ) where
  both_plain : (b : Under) (σ : ℕ) (ks : List (Rec ℕ)) (c : Class) {d : Under} {r : Rec ℕ} → T (same false (is_piece c)) → (hcl s).down b c σ ks ≡ some d → Both s d c r → r.kind ≡ 9 → ⊥
  both_plain b σ ks c {d} {r} z e x = want_plain s b c σ ks z r.kind (subst (λ (o : Under). T (has (kinds_of o.want (styles c)) r.kind)) (down_some s b c σ ks d e) x.1.kind)

  pub over_plain : {b : Under} {σ : ℕ} {ks : List (Rec ℕ)} {l : Layout} {p e φ : ℕ} {rs : List (Rec ℕ)} {bs : List (Under × ℕ)} → Runs (hcl s) (Both s) b σ ks l p e φ rs bs → T (pieceless l) → NoNine rs
  over_plain rfin h = tt
  over_plain (rmove q g w) h = over_plain w h
  over_plain {b} {σ} {ks} (rkid {c = c} {l} d q z w) h = (both_plain b σ ks c (and_t (same false (is_piece c)) (pieceless l) h).0 d z, over_plain w (and_t (same false (is_piece c)) (pieceless l) h).1)
  over_plain (ryes {l = l} {l'} q g w) h = over_plain w (and_t (pieceless l) (pieceless l') h).0
  over_plain (rno {l = l} {l'} g w) h = over_plain w (and_t (pieceless l) (pieceless l') h).1
  over_plain {b} {σ} {ks} (rrep {c = c} {l} q g d st z w) h = (both_plain b σ ks c (and_t (same false (is_piece c)) (pieceless l) h).0 d z, over_plain w h)
  over_plain (rend {c = c} {l} g w) h = over_plain w (and_t (same false (is_piece c)) (pieceless l) h).1

  pub over_kidless : {b : Under} {σ : ℕ} {ks : List (Rec ℕ)} {l : Layout} {p e φ : ℕ} {rs : List (Rec ℕ)} {bs : List (Under × ℕ)} → Runs (hcl s) (Both s) b σ ks l p e φ rs bs → T (kidless l) → rs ≡ []
  over_kidless rfin h = refl
  over_kidless (rmove q g w) h = over_kidless w h
  over_kidless (rkid d q z w) h = absurd h
  over_kidless (ryes {l = l} {l'} q g w) h = over_kidless w (and_t (kidless l) (kidless l') h).0
  over_kidless (rno {l = l} {l'} g w) h = over_kidless w (and_t (kidless l) (kidless l') h).1
  over_kidless (rrep q g d st z w) h = absurd h
  over_kidless (rend g w) h = absurd h

pub nine_spelts : (s text t : List ℕ) (m : Mode) (js : List ℕ) → NoNine (map (rec_at t) js) → Spelts s text t m js
nine_spelts s text t m [] n = tt
nine_spelts s text t m (j ∷ js) (a, n) = (λ e. absurd (a e), nine_spelts s text t m js n)

pub sanes_filled : (s text t : List ℕ) (m : Mode) (js : List ℕ) → Sanes s text t m js → Filled t js
sanes_filled s text t m [] h = tt
sanes_filled s text t m (j ∷ js) (a, h) = (a.some, sanes_filled s text t m js h)

-- ---- the kinds' names

layout_as : (k : ℕ) → layout_of (read_as k) ≡ layout_of k
unfolding layouts
layout_as k = go (eqb k 14) refl
  where
    go : (b : Bool) → eqb k 14 ≡ b → layout_of (cond b 5 k) ≡ layout_of k
    go true e = ap layout_of (sym (eqb-true k 14 e))
    go false e = refl

pub named_as : (s : List ℕ) (k : ℕ) → named (hcl s) (style_of k) (read_as k) ≡ k
named_as s k = go (eqb k 14) refl
  where
    go : (b : Bool) → eqb k 14 ≡ b → named (hcl s) (cond b 1 0) (cond b 5 k) ≡ k
    go true e = sym (eqb-true k 14 e)
    go false e = refl

-- what grows has its own name
pub grown_named : (s : List ℕ) (k x : ℕ) → named (hcl s) (style_of k) x ≡ k → is_grown x ≡ true → x ≡ k
grown_named s k x e g = go (eqb k 14) (eqb x 5) refl e
  where
    go : (a b : Bool) → eqb x 5 ≡ b → named (hcl s) (cond a 1 0) x ≡ k → x ≡ k
    go false b f e = e
    go true b f e = lone b f (ap (λ (o : Bool). cond o 14 x) (sym f) ∙ e)
      where
        lone : (b : Bool) → eqb x 5 ≡ b → cond b 14 x ≡ k → x ≡ k
        lone true f e = clash (sym (sym (ap is_grown (eqb-true x 5 f)) ∙ g))
        lone false f e = e

-- ---- a row that begins with its own bytes

module _ (s t : List ℕ) (i own : ℕ) where
  abbrev kind : ℕ
  kind = (row_at t i).kind

  abbrev start : ℕ
  start = (row_at t i).start

  abbrev att : Under
  att = under (own / 2) (eqb (own % 2) 1) (want_of kind)

  -- what the rule says of it
  pub record Headed (rs : List (Rec ℕ)) (ds : List Depth) : Type 0 where
    pub below : List (Under × ℕ)
    pub told : map depth_of below ≡ ds
    pub sort : ℕ
    pub name : named (hcl s) (style_of kind) sort ≡ kind
    pub pick : pick_at s att start ≡ some sort
    pub over : Over s t i (own / 2) (eqb (own % 2) 1) [] (layout_of sort) start rs below

  pub headed_of : {rs : List (Rec ℕ)} {ds : List Depth} → is_grown kind ≡ false → Laid s (coded own) (rec_at t i) rs ds → Headed rs ds
  headed_of {rs} {ds} g h = go h.local h.suits
    where
      go : Local (hcl s) (att, style_of kind) (rec_at t i) rs h.below → Tests (Suits s) (map wanted h.below) rs → Headed rs ds
      go l x = by rs h.below l x h.depths
        where
          by : (rs : List (Rec ℕ)) (bs : List (Under × ℕ)) → Local (hcl s) (att, style_of kind) (rec_at t i) rs bs → Tests (Suits s) (map wanted bs) rs → map depth_of bs ≡ ds → Headed rs ds
          by rs bs (first k n p w) x e = record { below = bs; told = e; sort = k; name = n; pick = p; over = both_joined s w x }
          by rs bs (later k n st p hd w) x e = clash (sym (sym (ap is_grown (grown_named s kind k n (follow_grown s att _ k p))) ∙ follow_grown s att _ k p) ∙ g)

  pub of_headed : {rs : List (Rec ℕ)} {ds : List Depth} → Headed rs ds → Laid s (coded own) (rec_at t i) rs ds
  of_headed h = let (w, x) = both_apart s h.over in record { below = h.below; depths = h.told; local = first h.sort h.name h.pick w; suits = x }

  module _ (text m D : List ℕ) (j : ℕ) where
    -- the rule does not hold
    pub rule_no : {D' : List ℕ} → length D' ≡ length D → ((x : ℕ) → x < j → get_or D' x 0 ≡ get_or D x 0)
        → ((js : List ℕ) → Chain m i js j → Sanes s text t (round s start) js → Worded s text t i → (ds : List Depth) → Laid s (coded own) (rec_at t i) (map (rec_at t) js) ds → ⊥) → RuleBy s text t i m D D' j own false
    rule_no l e f = record {
      long = l;
      same = e;
      rule = λ z. clash (sym z);
      spelt = λ z. clash (sym z);
      word = λ z. clash (sym z);
      only = λ z. clash (sym z);
      no = λ z. f;
    }

    -- its bytes do not call for it
    pub head_no : is_grown kind ≡ false → {r : Bool} → r ≡ false → FirstAt s kind start (eqb (own % 2) 1) r → RuleBy s text t i m D D j own false
    head_no g z h = rule_no refl (λ x l. refl) (λ js c sane wd ds l. let x = headed_of g l in h.no z (own / 2) x.sort x.name x.pick)

  -- its own name
  pub sort_is : {rs : List (Rec ℕ)} {ds : List Depth} → ¬ (kind ≡ 14) → (x : Headed rs ds) → x.sort ≡ kind
  sort_is n x = subst (λ (b : Bool). named (hcl s) (cond b 1 0) x.sort ≡ kind) (ne_eqb kind 14 n) x.name

  module _ (text m D : List ℕ) (j : ℕ) (g : is_grown kind ≡ false) (nt : NoText kind) where
    -- a kind that is called for has a program
    listed : (w : Want) → T (all_of (λ k. eqb k 6 || (eqb k 7 || (eqb k 8 || (eqb k 9 || has laid_out k)))) (heads w))
    listed an_expression = tt
    listed a_name = tt
    listed (an_item ks) = tt
    listed a_part = tt
    listed (a_piece x) = tt
    listed a_condition = tt

    or_off : (a b : Bool) → T (a || b) → a ≡ false → T b
    or_off true b h e = clash e
    or_off false b h e = h

    pub head_known : {r : Bool} → r ≡ true → FirstAt s kind start (eqb (own % 2) 1) r → T (has laid_out kind)
    unfolding pick_at
    head_known y h = go (eqb kind 14) refl
      where
        test : ℕ → Bool
        test k = eqb k 6 || (eqb k 7 || (eqb k 8 || (eqb k 9 || has laid_out k)))

        go : (b : Bool) → eqb kind 14 ≡ b → T (has laid_out kind)
        go true e = subst (λ (k : ℕ). T (has laid_out k)) (sym (eqb-true kind 14 e)) tt
        go false e =
            let p : pick_at s att start ≡ some kind = h.yes y (own / 2) ∙ ap (λ (b : Bool). some (cond b 5 kind)) e in
            let x : T (test kind) = pick_all test (want_of kind) (listed (want_of kind)) s (eqb (own % 2) 1) start kind p in
            let x₁ = or_off (eqb kind 6) _ x (ne_eqb kind 6 nt.0) in
            let x₂ = or_off (eqb kind 7) _ x₁ (ne_eqb kind 7 nt.1) in
            let x₃ = or_off (eqb kind 8) _ x₂ (ne_eqb kind 8 nt.2) in
            or_off (eqb kind 9) _ x₃ (ne_eqb kind 9 nt.3)

    -- they do, and its layout is laid over its children
    pub head_by : {D' : List ℕ} {r a : Bool} → a ≡ true → FirstAt s kind start (eqb (own % 2) 1) a → LaidBy s t i m D D' j start (own / 2) (eqb (own % 2) 1) r → RuleBy s text t i m D D' j own r
    head_by {D'} {r} {a} y f h = record {
      long = h.long;
      same = h.same;
      rule = λ z js c.
          let k : Children t i m j [] js = record { chain = c; object = λ e. refl } in
          let (bs, o) = h.yes z [] js k in
          of_headed (record {
            below = bs;
            told = sym (h.only z [] js k bs o);
            sort = read_as kind;
            name = named_as s kind;
            pick = f.yes y (own / 2);
            over = subst (λ (l : Layout). Over s t i (own / 2) (eqb (own % 2) 1) [] l start (map (rec_at t) js) bs) (sym (layout_as kind)) o;
          });
      spelt = λ z js c.
          let (bs, o) = h.yes z [] js (record { chain = c; object = λ e. refl }) in
          nine_spelts s text t (round s start) js (over_plain s o (has_all (λ k. pieceless (layout_of k)) laid_out all_pieceless kind (head_known y f)));
      word = λ z e. absurd (nt.0 e);
      only = λ z js c ds l.
          let x = headed_of g l in
          h.only z [] js (record { chain = c; object = λ e. refl }) x.below (as_own x) ∙ x.told;
      no = λ z js c sane wd ds l.
          let x = headed_of g l in
          h.no z [] js (record { chain = c; object = λ e. refl }) (sanes_filled s text t (round s start) js sane) x.below (as_own x);
    }
      where
        as_own : {rs : List (Rec ℕ)} {ds : List Depth} → (x : Headed rs ds) → Over s t i (own / 2) (eqb (own % 2) 1) [] (layout_of kind) start rs x.below
        as_own {rs} x =
            let e : x.sort ≡ read_as kind = some_is (sym x.pick ∙ f.yes y (own / 2)) in
            subst (λ (l : Layout). Over s t i (own / 2) (eqb (own % 2) 1) [] l start rs x.below) (ap layout_of e ∙ layout_as kind) x.over

    -- its layout is not
    head_off : {D' : List ℕ} → ¬ (kind ≡ 14) → LaidBy s t i m D D' j start (own / 2) (eqb (own % 2) 1) false → RuleBy s text t i m D D' j own false
    head_off n h =
        rule_no text m D j h.long h.same
        (λ js c sane wd ds l.
        let x = headed_of g l in
        h.no refl [] js (record { chain = c; object = λ e. refl }) (sanes_filled s text t (round s start) js sane) x.below
        (subst (λ (o : ℕ). Over s t i (own / 2) (eqb (own % 2) 1) [] (layout_of o) start (map (rec_at t) js) x.below) (sort_is n x) x.over))

    -- a layout that is laid only where the bytes call for it
    pub head_called : {D' : List ℕ} (r : Bool) → ¬ (kind ≡ 14) → (r ≡ true → FirstAt s kind start (eqb (own % 2) 1) true) → LaidBy s t i m D D' j start (own / 2) (eqb (own % 2) 1) r → RuleBy s text t i m D D' j own r
    head_called true n f h = head_by refl (f refl) h
    head_called false n f h = head_off n h
