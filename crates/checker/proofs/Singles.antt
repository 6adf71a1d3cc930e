-- The rule at a row that is a token alone: of the kind, the end and the flag that one look tells, and of no other.
use Prim.Native.Nat.{ℕ, ◌/◌, ◌%◌, ◌≤◌}
use mathlib.Core.Path.{◌≡◌, refl, sym, ap, subst, ◌∙◌}
use mathlib.Core.Bool.{Bool, true, false, cond}
use mathlib.Core.Logic.{inl, inr}
use mathlib.Core.Option.{some}
use mathlib.Core.List.{List, [], map}
use native.Mathlib.Omega.{arith}
use lib.Dec.{eqb}
use borrow.Author.Tests.{eqb-true, eqb-false, eq-eqb, ne_eqb, lt-leb}
use Rattle.lexis.specs.RunLaws.{clash}
use Rattle.engine.specs.Base.{Rec}
use Rattle.engine.specs.BaseLaws.{some_is}
use Rattle.engine.specs.Layout.{fin, named}
use Rattle.engine.specs.Rule.{Runs, rfin, rmove, rno}
use Rattle.grammar.specs.declared.picks.Head.{Head}
use Rattle.grammar.specs.Moves.{Want, an_expression, Under, place}
use Rattle.grammar.specs.Layouts.{Layout, layout_of}
use Rattle.grammar.specs.Hcl.{hcl, under, pick_at}
use Rattle.grammar.specs.Said.{kind_of}
use Rattle.grammar.specs.PickLaws.{kind_some}
use Rattle.grammar.specs.Alone.{Alone, word, digits, HeadAt}
use Rattle.grammar.specs.Published.{Depth, depth_of, want_of, style_of, Laid}
use Rattle.checker.specs.Rows.{row_at, rec_at}
use Rattle.checker.specs.Family.{Chain}
use Rattle.checker.specs.Leaf.{is_grown, read_as}
use Rattle.checker.specs.Lay.{coded, Both, depths_at}
use Rattle.checker.specs.Texts.{Spelts}
use Rattle.checker.specs.Node.{RuleBy, Token, TokenAt, SingleBy}
use Rattle.checker.proofs.Overs.{AtEnd, over_fin, over_move, over_no}
use Rattle.checker.proofs.Lays.{none_left}
use Rattle.checker.proofs.Heads.{named_as, headed_of, of_headed}

-- ---- its layout, forth and back

abbrev Goes : List ℕ → Under → ℕ → List (Rec ℕ) → Layout → ℕ → ℕ → ℕ → List (Rec ℕ) → List (Under × ℕ) → Type 0
Goes s = Runs (hcl s) (Both s)

module _ (s : List ℕ) {p k e : ℕ} where
  alone_on : (b : Under) (σ : ℕ) → Alone s p k e → Goes s b σ [] (layout_of k) p e 0 [] []
  alone_on b σ (word m l w) = subst (λ (x : Layout). Goes s b σ [] x p e 0 [] []) (sym l) (rmove e (ap place (w b σ)) rfin)
  alone_on b σ (digits m n l y z lay no' w) = subst (λ (x : Layout). Goes s b σ [] x p e 0 [] []) (sym lay) (rno (ap place (no' b σ)) (rmove e (ap place (w b σ)) rfin))

  alone_back : {b : Under} {σ : ℕ} {e' φ : ℕ} {rs : List (Rec ℕ)} {bs : List (Under × ℕ)} → Alone s p k e → Goes s b σ [] (layout_of k) p e' φ rs bs → AtEnd (hcl s) (Both s) e e' 0 φ rs bs
  alone_back {b} {σ} {e'} {φ} {rs} {bs} (word m l w) o =
      let (q, g, v) = over_move (hcl s) (Both s) (subst (λ (x : Layout). Goes s b σ [] x p e' φ rs bs) l o) in
      over_fin (hcl s) (Both s) (subst (λ (x : ℕ). Goes s b σ [] (fin 0) x e' φ rs bs) (some_is (sym g ∙ ap place (w b σ))) v)
  alone_back {b} {σ} {e'} {φ} {rs} {bs} (digits m n l y z lay no' w) o =
      let (q, g, v) = over_move (hcl s) (Both s) (over_no (hcl s) (Both s) (ap place (no' b σ)) (subst (λ (x : Layout). Goes s b σ [] x p e' φ rs bs) lay o)) in
      over_fin (hcl s) (Both s) (subst (λ (x : ℕ). Goes s b σ [] (fin 0) x e' φ rs bs) (some_is (sym g ∙ ap place (w b σ))) v)

-- ---- its kind

-- what goes by the name k is read as it
read_is : (s : List ℕ) (k x : ℕ) → x ≤ 5 → named (hcl s) (style_of k) x ≡ k → read_as k ≡ x
read_is s k x small = go (eqb k 14) refl
  where
    five : (b : Bool) → eqb x 5 ≡ b → k ≡ 14 → cond b 14 x ≡ k → 5 ≡ x
    five true f e h = sym (eqb-true x 5 f)
    five false f e h = absurd (omega arith)

    go : (b : Bool) → eqb k 14 ≡ b → named (hcl s) (cond b 1 0) x ≡ k → cond b 5 k ≡ x
    go true e h = five (eqb x 5) refl (eqb-true k 14 e) h
    go false e h = sym h

want_is : (k : ℕ) → Token k → want_of k ≡ an_expression
want_is k (inl l) = rw (ne_eqb k 17 (λ z. omega arith), ne_eqb k 13 (λ z. omega arith), lt-leb 38 k (omega arith), ne_eqb k 20 (λ z. omega arith), ne_eqb k 10 (λ z. omega arith))
want_is k (inr e) = rw e

grown_is : (k : ℕ) → Token k → is_grown k ≡ false
grown_is k (inl l) = rw (ne_eqb k 21 (λ z. omega arith), lt-leb 24 k (omega arith))
grown_is k (inr e) = rw e

nine_not : (k : ℕ) → Token k → k ≡ 9 → ⊥
nine_not k (inl l) e = omega arith
nine_not k (inr l) e = omega arith

six_not : (k : ℕ) → Token k → k ≡ 6 → ⊥
six_not k (inl l) e = omega arith
six_not k (inr l) e = omega arith

-- ---- as the code says it

pub read_key : (k : ℕ) → k ≡ 14 → 5 ≡ read_as k
read_key k e = rw (eq-eqb k 14 e)

pub read_other : (k : ℕ) → ¬ (k ≡ 14) → k ≡ read_as k
read_other k n = rw (ne_eqb k 14 n)

module _ {t : List ℕ} {i k e : ℕ} where
  pub token_no : (read_as (row_at t i).kind ≡ k → (row_at t i).end ≡ e → (row_at t i).flag ≡ 0 → ⊥) → TokenAt t i k e false
  token_no f = record { yes = λ z. clash (sym z); no = λ z. f }

  pub token_by : {x : ℕ} → x ≡ (row_at t i).flag → read_as (row_at t i).kind ≡ k → (row_at t i).end ≡ e → TokenAt t i k e (eqb x 0)
  token_by {x} f a b = record { yes = λ z. (a, b, sym f ∙ eqb-true x 0 z); no = λ z _ _ c. eqb-false x 0 z (f ∙ c) }

pub unsure : {s t : List ℕ} {i : ℕ} {lines : Bool} → SingleBy s t i lines (record { sure = false; yes = false })
unsure = record { other = λ z. clash (sym z); rule = λ z. clash (sym z) }

-- ---- the rule

module _ {s t : List ℕ} {i : ℕ} {h : Head} {r : Bool} (tok : Token (row_at t i).kind) (own : ℕ) (at : HeadAt s (row_at t i).start (eqb (own % 2) 1) h) (far : h.end ≡ (row_at t i).start → ⊥)
    (is : TokenAt t i h.kind h.end r) (text m D : List ℕ) where
  abbrev kind : ℕ
  kind = (row_at t i).kind

  abbrev start : ℕ
  start = (row_at t i).start

  abbrev att : Under
  att = under (own / 2) (eqb (own % 2) 1) (want_of kind)

  pick : pick_at s att start ≡ some h.kind
  pick =
      kind_some (pick_at s att start) h.kind
      (sym (subst (λ (w : Want). h.kind ≡ kind_of (pick_at s (under (own / 2) (eqb (own % 2) 1) w) start)) (sym (want_is kind tok)) (at.kind (own / 2))))
      (λ z. omega (arith, at.some far))

  forth : read_as kind ≡ h.kind → (row_at t i).end ≡ h.end → (row_at t i).flag ≡ 0 → Laid s (coded own) (rec_at t i) [] []
  forth k e f = of_headed s t i own (record {
    below = [];
    told = refl;
    sort = h.kind;
    name = ap (named (hcl s) (style_of kind)) (sym k) ∙ named_as s kind;
    pick = pick;
    over = subst (λ (x : ℕ). Goes s att start [] (layout_of h.kind) start x (row_at t i).flag [] []) (sym e) (subst (λ (x : ℕ). Goes s att start [] (layout_of h.kind) start h.end x [] []) (sym f) (alone_on s att start (at.alone far)));
  })

  record Back (ds : List Depth) : Type 0 where
    sort : read_as kind ≡ h.kind
    end : (row_at t i).end ≡ h.end
    flag : (row_at t i).flag ≡ 0
    none : ds ≡ []

  back : {rs : List (Rec ℕ)} {ds : List Depth} → Laid s (coded own) (rec_at t i) rs ds → Back ds
  back {rs} {ds} l =
      let x = headed_of s t i own (grown_is kind tok) l in
      let e : x.sort ≡ h.kind = some_is (sym x.pick ∙ pick) in
      let v = alone_back s (at.alone far) (subst (λ (k : ℕ). Goes s att start [] (layout_of k) start (row_at t i).end (row_at t i).flag rs x.below) e x.over) in
      record {
        sort = read_is s kind h.kind (at.small far) (subst (λ (k : ℕ). named (hcl s) (style_of kind) k ≡ kind) e x.name);
        end = sym v.end;
        flag = sym v.flag;
        none = sym x.told ∙ ap (map depth_of) v.atts;
      }

  no_kids : (js : List ℕ) → Chain m i js i → js ≡ []
  no_kids js c = none_left m i js i c refl

  pub single_by : RuleBy s text t i m D D i own r
  single_by = record {
    long = refl;
    same = λ x l. refl;
    rule = λ z js c. let (k, e, f) = is.yes z in subst (λ (x : List ℕ). Laid s (coded own) (rec_at t i) (map (rec_at t) x) (depths_at D x)) (sym (no_kids js c)) (forth k e f);
    spelt = λ z js c. subst (Spelts s text t _) (sym (no_kids js c)) tt;
    word = λ z e. absurd (six_not kind tok e);
    only = λ z js c ds l. ap (depths_at D) (no_kids js c) ∙ sym (back l).none;
    no = λ z js c sane wd ds l. let b = back l in is.no z b.sort b.end b.flag;
  }

pub sure : {s t : List ℕ} {i p : ℕ} {lines : Bool} {h : Head} {r : Bool} → Token (row_at t i).kind → p ≡ (row_at t i).start → HeadAt s p lines h → (h.end ≡ p → ⊥) → TokenAt t i h.kind h.end r → SingleBy s t i lines (record { sure = true; yes = r })
sure {s} {t} {i} {p} {lines} {h} tok a at far is = record {
  other = λ z. nine_not (row_at t i).kind tok;
  rule = λ z own e text m D.
      single_by tok own (subst (λ (l : Bool). HeadAt s (row_at t i).start l h) e (subst (λ (x : ℕ). HeadAt s x lines h) a at)) (λ f. far (f ∙ sym a)) is text m D;
}
