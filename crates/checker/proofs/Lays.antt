-- A layout under way over a row's children: what holds whenever the loop of `lay` begins a turn, and what each instruction does.
use Rattle.grammar.specs.Said.{Went}
use Prim.Native.Nat.{ℕ, ◌+◌, ◌≤◌, ◌<◌}
use mathlib.Core.Path.{◌≡◌, refl, sym, ap, subst, ◌∙◌}
use mathlib.Core.Bool.{Bool, true, false, ◌&&◌}
use mathlib.Core.Logic.{◌⊎◌, inl, inr}
use mathlib.Core.Option.{Option, none, some}
use mathlib.Core.List.{List, [], ◌∷◌, ◌++◌, map, append_assoc, append-nil}
use native.Mathlib.Omega.{arith}
use lib.ListN.{length, get_or, set}
use lib.Seq.{get_or-set_same, get_or-set_other}
use lib.Dec.{eqb, eqb→eq, ltb, ltb→lt, T}
use borrow.Author.Tests.{eqb-true, eq-eqb, ne_eqb}
use Rattle.lexis.specs.RunLaws.{clash}
use Rattle.index.specs.Index.{Indexed}
use Rattle.index.specs.Index as index
use Rattle.index.specs.IndexLaws.{indexed_none}
use Rattle.engine.specs.Base.{Rec, has}
use Rattle.engine.specs.BaseLaws.{and_t, or_t, has_all, some_is}
use Rattle.engine.specs.Layout.{bad, fin, move, kid, fork, rep}
use Rattle.engine.specs.Rule.{rfin, rmove, rkid, ryes, rno, rrep, rend}
use Rattle.grammar.specs.declared.shape.Instr.{Instr}
use Rattle.grammar.specs.Moves.{Want, Under, Move, place, walk, keys_of, lones, same}
use Rattle.grammar.specs.Layouts.{Class, inside, single, key, value, test, branch, term, right, entry, called, portion, piecewise, filter, Layout, layout_of}
use Rattle.grammar.specs.Hcl.{hcl, under, downs, fits, styles}
use Rattle.grammar.specs.Published.{Depth, depth_of, want_of, want_as}
use Rattle.grammar.specs.Code.{operation, argument, class, otherwise}
use Rattle.checker.specs.Rows.{row_at, rec_at}
use Rattle.checker.specs.Family.{Chain, Linked}
use Rattle.checker.specs.Program.{code_in, move_in, class_in, Codes, All, begin_in, laid_out, right_coded, instructions, ahead, all_ahead, fitting, all_fitting, is_entry, itemed, all_itemed}
use Rattle.checker.specs.Leaf.{InstrAt, GoneAt}
use Rattle.checker.specs.declared.lone.Lone.{Lone}
use Rattle.index.specs.declared.mark.Token.{Token}
use Rattle.index.specs.Mark.{TokenHere}
use Rattle.checker.specs.Lone.{signed, Behind}
use Rattle.checker.specs.Child.{kidded, ChildBy}
use Rattle.checker.specs.Lay.{coded, depths_at, Both, KeysOf, Passing, Passed, PassedBy, Filled, Over, EndsAt, Laying, Children, LaidBy}
use Rattle.checker.proofs.Overs.{AtKid, over_fin, over_kid, over_move, over_yes, over_no, over_rep, over_end}

-- ---- small laws

-- no kind is handed keys at its own node
pub no_keys : (k : ℕ) → keys_of (want_of k) ≡ []
no_keys k = go (eqb k 17) (eqb k 13) _ (eqb k 20) (eqb k 10)
  where
    go : (a b c d e : Bool) → keys_of (want_as a b c d e) ≡ []
    go true b c d e = refl
    go false true c d e = refl
    go false false true d e = refl
    go false false false true e = refl
    go false false false false true = refl
    go false false false false false = refl

-- what fits does not turn on levels and mode
pub fit_any : (c : Class) (w : Want) (n : ℕ) (l : Bool) → T (fits (under 0 true w) c) → fits (under n l w) c ≡ true
fit_any c w n l h = go c
  where
    t_is : (b : Bool) → T b → b ≡ true
    t_is true z = refl
    t_is false z = absurd z

    same : (c : Class) → fits (under 0 true w) c ≡ fits (under n l w) c
    same inside = refl
    same single = refl
    same key = refl
    same value = refl
    same test = refl
    same branch = refl
    same term = refl
    same (right m) = refl
    same entry = refl
    same called = refl
    same portion = refl
    same piecewise = refl
    same filter = refl

    go : (d : Class) → fits (under n l w) c ≡ true
    go d = sym (same c) ∙ t_is (fits (under 0 true w) c) h

-- all of a list are below a number
abbrev pub Below : List ℕ → ℕ → Type 0
Below [] j = Unit {0}
Below (x ∷ xs) j = (x < j) × Below xs j

below_up : (xs : List ℕ) (j k : ℕ) → j ≤ k → Below xs j → Below xs k
below_up [] j k l b = tt
below_up (x ∷ xs) j k l (a, b) = (omega arith, below_up xs j k l b)

pub below_snoc : (xs : List ℕ) (j k : ℕ) → j < k → Below xs j → Below (xs ++ j ∷ []) k
below_snoc [] j k l b = (l, tt)
below_snoc (x ∷ xs) j k l (a, b) = (omega arith, below_snoc xs j k l b)

pub depths_set : (D : List ℕ) (j v : ℕ) (xs : List ℕ) → Below xs j → depths_at (set D j v) xs ≡ depths_at D xs
depths_set D j v [] b = refl
depths_set D j v (x ∷ xs) (a, b) =
    let same : get_or (set D j v) x 0 ≡ get_or D x 0 = get_or-set_other D j x v 0 (λ (z : x ≡ j). omega arith) in
    let rest = depths_set D j v xs b in
    rw (same, rest)

pub depths_snoc : (D : List ℕ) (xs : List ℕ) (j : ℕ) → depths_at D (xs ++ j ∷ []) ≡ depths_at D xs ++ coded (get_or D j 0) ∷ []
depths_snoc D [] j = refl
depths_snoc D (x ∷ xs) j = ap (λ (l : List Depth). coded (get_or D x 0) ∷ l) (depths_snoc D xs j)

pub told_snoc : (xs : List (Under × ℕ)) (a : Under × ℕ) → map depth_of (xs ++ a ∷ []) ≡ map depth_of xs ++ depth_of a ∷ []
told_snoc [] a = refl
told_snoc (x ∷ xs) a = ap (λ (l : List Depth). depth_of x ∷ l) (told_snoc xs a)

-- one chain has one list
pub chain_same : (m : List ℕ) (i : ℕ) (js ks : List ℕ) (j : ℕ) → Chain m i js j → Chain m i ks j → js ≡ ks
chain_same m i [] [] j c d = refl
chain_same m i [] (y ∷ ks) j c (e, up, far, d) = absurd (omega arith)
chain_same m i (x ∷ js) [] j (e, up, far, c) d = absurd (omega arith)
chain_same m i (x ∷ js) (y ∷ ks) j (e, up, far, c) (e', up', far', d) = let z = chain_same m i js ks (get_or m j 0) c d in let y : x ≡ y = e ∙ sym e' in cc

pub chain_le : (m : List ℕ) (i : ℕ) (js : List ℕ) (j : ℕ) → Chain m i js j → j ≤ i
chain_le m i [] j c = omega arith
chain_le m i (x ∷ js) j (e, up, far, c) = omega arith

pub linked_low : {m : List ℕ} {i j : ℕ} → Linked m i j → ¬ (j ≡ i) → j < i
linked_low {m} {i} {j} h n = omega (arith, n, chain_le m i h.js j h.chain)

-- a chain that goes on has a row
pub record Next (m : List ℕ) (i : ℕ) (js : List ℕ) (j : ℕ) : Type 0 where
  pub rest : List ℕ
  pub are : js ≡ j ∷ rest
  pub up : j < get_or m j 0
  pub far : get_or m j 0 ≤ i
  pub chain : Chain m i rest (get_or m j 0)

pub next_of : (m : List ℕ) (i : ℕ) (js : List ℕ) (j : ℕ) → Chain m i js j → j < i → Next m i js j
next_of m i [] j c l = absurd (omega arith)
next_of m i (x ∷ js) j (e, up, far, c) l = record { rest = js; are = ap (λ (y : ℕ). y ∷ js) e; up = up; far = far; chain = c }

pub none_left : (m : List ℕ) (i : ℕ) (js : List ℕ) (j : ℕ) → Chain m i js j → j ≡ i → js ≡ []
none_left m i [] j c e = refl
none_left m i (x ∷ js) j (a, up, far, c) e = absurd (omega arith)

some_left : (m : List ℕ) (i : ℕ) (js : List ℕ) (j : ℕ) → Chain m i js j → ¬ (j ≡ i) → ¬ (js ≡ [])
some_left m i [] j c n = λ e. n c
some_left m i (x ∷ js) j c n = λ e. absurd (let z : ◌≡◌ {A = ℕ} 0 1 = cc in omega arith)

pub keys_none : (s K : List ℕ) → KeysOf s K 0 []
unfolding lones index.starts_of
keys_none s K p = refl

-- ---- what the prover computed of a kind

pub record Known (k : ℕ) : Type 0 where
  pub codes : Codes (begin_in k) (layout_of k)
  pub ahead : T (ahead (begin_in k) (layout_of k))
  pub fitting : T (fitting k (layout_of k))
  pub itemed : T (itemed k (layout_of k))

codes_all : (ks : List ℕ) → All ks → (k : ℕ) → T (has ks k) → Codes (begin_in k) (layout_of k)
codes_all [] t k h = absurd h
codes_all (x ∷ xs) (t, ts) k h = go (or_t (eqb x k) (has xs k) h) (codes_all xs ts k)
  where
    go : T (eqb x k) ⊎ T (has xs k) → (T (has xs k) → Codes (begin_in k) (layout_of k)) → Codes (begin_in k) (layout_of k)
    go (inl e) f = subst (λ (z : ℕ). Codes (begin_in z) (layout_of z)) (eqb→eq x k e) t
    go (inr e) f = f e

pub known : (k : ℕ) → T (has laid_out k) → Known k
known k h = record {
  codes = codes_all laid_out right_coded k h;
  ahead = has_all (λ k. ahead (begin_in k) (layout_of k)) laid_out all_ahead k h;
  fitting = has_all (λ k. fitting k (layout_of k)) laid_out all_fitting k h;
  itemed = has_all (λ k. itemed k (layout_of k)) laid_out all_itemed k h;
}

-- ---- under way

module _ (s t : List ℕ) (i left : ℕ) (lines : Bool) where
  abbrev kind : ℕ
  kind = (row_at t i).kind

  abbrev att : Under
  att = under left lines (want_of kind)

  abbrev start : ℕ
  start = (row_at t i).start

  -- from ks₀, p₀ and the children js₀ to the layout l at q, the children `past` being passed and js left
  pub record Way (ks₀ : List (Rec ℕ)) (p₀ : ℕ) (js₀ D K : List ℕ) (l : Layout) (q n : ℕ) (past js : List ℕ) : Type 0 where
    pub done : List (Under × ℕ)
    pub ks : List (Rec ℕ)
    pub told : depths_at D past ≡ map depth_of done
    pub keyed : kind ≡ 12 → KeysOf s K n ks
    pub on : (bs : List (Under × ℕ)) → Over s t i left lines ks l q (map (rec_at t) js) bs → Over s t i left lines ks₀ (layout_of kind) p₀ (map (rec_at t) js₀) (done ++ bs)
    pub back : (bs : List (Under × ℕ)) → Over s t i left lines ks₀ (layout_of kind) p₀ (map (rec_at t) js₀) bs → (bs' : List (Under × ℕ)) × (bs ≡ done ++ bs') × Over s t i left lines ks l q (map (rec_at t) js) bs'

  pub record Turn (m D₀ D K : List ℕ) (j₀ p₀ pc q j n : ℕ) : Type 0 where
    pub js₀ : List ℕ
    pub past : List ℕ
    pub js : List ℕ
    pub first : Chain m i js₀ j₀
    pub chain : Chain m i js j
    pub are : js₀ ≡ past ++ js
    pub below : Below past j
    pub up : j₀ ≤ j
    pub few : n ≤ j
    pub indexed : Indexed s K 0 n
    pub long : length D ≡ length D₀
    pub same : (x : ℕ) → x < j₀ → get_or D x 0 ≡ get_or D₀ x 0
    pub lay : Layout
    pub codes : Codes pc lay
    pub forward : T (ahead pc lay)
    pub fits : T (fitting kind lay)
    pub items : T (itemed kind lay)
    pub way : (ks₀ : List (Rec ℕ)) → (kind ≡ 12 → ks₀ ≡ []) → Way ks₀ p₀ js₀ D K lay q n past js

  pub turn_start : {m D K : List ℕ} {j p pc : ℕ} → Known kind → pc ≡ begin_in kind → (js : List ℕ) → Chain m i js j → Turn m D D K j p pc p j 0
  turn_start {m} {D} {K} {j} {p} {pc} k e js c = record {
    js₀ = js;
    past = [];
    js = js;
    first = c;
    chain = c;
    are = refl;
    below = tt;
    up = omega arith;
    few = omega arith;
    indexed = indexed_none s K 0 (omega arith);
    long = refl;
    same = λ x l. refl;
    lay = layout_of kind;
    codes = subst (λ (o : ℕ). Codes o (layout_of kind)) (sym e) k.codes;
    forward = subst (λ (o : ℕ). T (ahead o (layout_of kind))) (sym e) k.ahead;
    fits = k.fitting;
    items = k.itemed;
    way = λ ks₀ z. record {
      done = [];
      ks = ks₀;
      told = refl;
      keyed = λ x. subst (λ (o : List (Rec ℕ)). KeysOf s K 0 o) (sym (z x)) (keys_none s K);
      on = λ bs w. w;
      back = λ bs w. (bs, refl, w);
    };
  }

  -- ---- which layout an instruction is of

  apart : {A : Type 0} (x m n : ℕ) → x ≡ m → x ≡ n → ¬ (m ≡ n) → A
  apart x m n e f h = absurd (h (sym e ∙ f))

  abbrev op : ℕ → ℕ
  op pc = operation (code_in pc)

  abbrev step : ℕ → Move
  step pc = move_in (argument (code_in pc))

  abbrev sort : ℕ → Class
  sort pc = class_in (class (code_in pc))

  -- a move of this node
  abbrev gone : Move → ℕ → Option ℕ
  gone m q = place (walk s att start m q)

  module _ {m D₀ D K : List ℕ} {j₀ p₀ pc q j n : ℕ} (w : Turn m D₀ D K j₀ p₀ pc q j n) where
    -- no way on: no
    pub lay_no : ((ks : List (Rec ℕ)) (bs : List (Under × ℕ)) → (kind ≡ 12 → KeysOf s K n ks) → Filled t w.js → Over s t i left lines ks w.lay q (map (rec_at t) w.js) bs → ⊥) → LaidBy s t i m D₀ D j₀ p₀ left lines false
    lay_no f = record {
      long = w.long;
      same = w.same;
      yes = λ z. clash (sym z);
      only = λ z. clash (sym z);
      no = λ z ks js c full bs o.
          let e : js ≡ w.js₀ = chain_same m i js w.js₀ j₀ c.chain w.first in
          let y = w.way ks c.object in
          let (bs', g, x) = y.back bs (subst (λ (l : List ℕ). Over s t i left lines ks (layout_of kind) p₀ (map (rec_at t) l) bs) e o) in
          f y.ks bs' y.keyed (rest_filled w.past w.js (subst (Filled t) (e ∙ w.are) full)) x;
    }
      where
        rest_filled : (xs ys : List ℕ) → Filled t (xs ++ ys) → Filled t ys
        rest_filled [] ys h = h
        rest_filled (x ∷ xs) ys (a, h) = rest_filled xs ys h

    -- it ends here: yes
    pub lay_yes : w.lay ≡ fin (row_at t i).flag → q ≡ (row_at t i).end → w.js ≡ [] → LaidBy s t i m D₀ D j₀ p₀ left lines true
    lay_yes e f g = record {
      long = w.long;
      same = w.same;
      yes = λ z ks js c. let y = w.way ks c.object in (y.done ++ [], subst (λ (l : List ℕ). Over s t i left lines ks (layout_of kind) p₀ (map (rec_at t) l) (y.done ++ [])) (sym (list js c)) (y.on [] (end y.ks)));
      only = λ z ks js c bs o.
          let y = w.way ks c.object in
          let (bs', h, x) = y.back bs (subst (λ (l : List ℕ). Over s t i left lines ks (layout_of kind) p₀ (map (rec_at t) l) bs) (list js c) o) in
          let v = over_fin (hcl s) (Both s) (subst (λ (l : Layout). Over s t i left lines y.ks l q (map (rec_at t) w.js) bs') e x) in
          let k : bs ≡ y.done = h ∙ ap (λ (l : List (Under × ℕ)). y.done ++ l) v.atts ∙ append-nil y.done in
          ap (depths_at D) (list js c ∙ w.are ∙ ap (λ (l : List ℕ). w.past ++ l) g ∙ append-nil w.past) ∙ y.told ∙ ap (map depth_of) (sym k);
      no = λ z. clash z;
    }
      where
        list : (js : List ℕ) {ks : List (Rec ℕ)} → Children t i m j₀ ks js → js ≡ w.js₀
        list js c = chain_same m i js w.js₀ j₀ c.chain w.first

        end : (ks : List (Rec ℕ)) → Over s t i left lines ks w.lay q (map (rec_at t) w.js) []
        end ks =
            subst (λ (l : Layout). Over s t i left lines ks l q (map (rec_at t) w.js) []) (sym e)
            (subst (λ (l : List ℕ). Over s t i left lines ks (fin (row_at t i).flag) q (map (rec_at t) l) []) (sym g)
            (subst (λ (x : ℕ). Over s t i left lines ks (fin (row_at t i).flag) x [] []) (sym f) rfin))

    -- ---- the end

    fin_lay : (l : Layout) → Codes pc l → op pc ≡ 1 → l ≡ fin (argument (code_in pc))
    fin_lay bad c e = absurd c
    fin_lay (fin φ) c e = ap fin (sym c.1)
    fin_lay (move x l) c e = apart (op pc) 2 1 c.0 e (omega arith)
    fin_lay (kid x l) c e = apart (op pc) 3 1 c.0 e (omega arith)
    fin_lay (fork x l r) c e = apart (op pc) 4 1 c.0 e (omega arith)
    fin_lay (rep x z l) c e = apart (op pc) 5 1 c.0 e (omega arith)

    map_none : (js : List ℕ) → map (rec_at t) js ≡ [] → js ≡ []
    map_none [] e = refl
    map_none (x ∷ xs) e = absurd (let z : ◌≡◌ {A = ℕ} 0 1 = cc in omega arith)

    left_none : (js : List ℕ) (x : ℕ) → Chain m i js x → js ≡ [] → x ≡ i
    left_none [] x c e = c
    left_none (y ∷ js) x c e = absurd (let z : ◌≡◌ {A = ℕ} 0 1 = cc in omega arith)

    pub lay_fin : (r : Bool) → op pc ≡ 1 → EndsAt t i j q (argument (code_in pc)) r → LaidBy s t i m D₀ D j₀ p₀ left lines r
    lay_fin true e h =
        let (a, b, c) = h.yes refl in
        lay_yes (fin_lay w.lay w.codes e ∙ ap fin c) b (none_left m i w.js j w.chain a)
    lay_fin false e h = lay_no (λ ks bs k full o.
        let v = over_fin (hcl s) (Both s) (subst (λ (l : Layout). Over s t i left lines ks l q (map (rec_at t) w.js) bs) (fin_lay w.lay w.codes e) o) in
        h.no refl (left_none w.js j w.chain (map_none w.js v.rest)) v.end v.flag)

    -- ---- a move

    none_some : {A X : Type 0} {x : X} → none ≡ some x → A
    none_some {x = x} e = absurd (let z : ◌≡◌ {A = ℕ} 0 1 = cc in omega arith)

    -- it must be made, and can't
    stop_as : (l : Layout) (ks : List (Rec ℕ)) (rs : List (Rec ℕ)) (bs : List (Under × ℕ)) → Codes pc l → op pc ≡ 2 → gone (step pc) q ≡ none → Over s t i left lines ks l q rs bs → ⊥
    stop_as bad ks rs bs c e g o = absurd c
    stop_as (fin φ) ks rs bs c e g o = apart (op pc) 1 2 c.0 e (omega arith)
    stop_as (move x l) ks rs bs c e g o = let (y, h, v) = over_move (hcl s) (Both s) o in none_some (sym (subst (λ (z : Move). gone z q ≡ none) c.1 g) ∙ h)
    stop_as (kid x l) ks rs bs c e g o = apart (op pc) 3 2 c.0 e (omega arith)
    stop_as (fork x l r) ks rs bs c e g o = apart (op pc) 4 2 c.0 e (omega arith)
    stop_as (rep x z l) ks rs bs c e g o = apart (op pc) 5 2 c.0 e (omega arith)

    pub lay_stop : op pc ≡ 2 → gone (step pc) q ≡ none → LaidBy s t i m D₀ D j₀ p₀ left lines false
    lay_stop e g = lay_no (λ ks bs k full o. stop_as w.lay ks (map (rec_at t) w.js) bs w.codes e g o)

    -- on with another layout, from another place, over the same children
    go_on : (l : Layout) (pc' q' : ℕ) → Codes pc' l → T (ahead pc' l) → T (fitting kind l) → T (itemed kind l)
        → ((ks rs : List (Rec ℕ)) (bs : List (Under × ℕ)) → Over s t i left lines ks l q' rs bs → Over s t i left lines ks w.lay q rs bs)
        → ((ks rs : List (Rec ℕ)) (bs : List (Under × ℕ)) → Over s t i left lines ks w.lay q rs bs → Over s t i left lines ks l q' rs bs) → Turn m D₀ D K j₀ p₀ pc' q' j n
    go_on l pc' q' c a f v on back = record {
      js₀ = w.js₀;
      past = w.past;
      js = w.js;
      first = w.first;
      chain = w.chain;
      are = w.are;
      below = w.below;
      up = w.up;
      few = w.few;
      indexed = w.indexed;
      long = w.long;
      same = w.same;
      lay = l;
      codes = c;
      forward = a;
      fits = f;
      items = v;
      way = λ ks₀ z. let y = w.way ks₀ z in record {
        done = y.done;
        ks = y.ks;
        told = y.told;
        keyed = y.keyed;
        on = λ bs o. y.on bs (on y.ks _ bs o);
        back = λ bs o. let (bs', e, x) = y.back bs o in (bs', e, back y.ks _ bs' x);
      };
    }

    -- it may be made, and can't
    other_as : (l : Layout) → w.lay ≡ l → Codes pc l → T (ahead pc l) → T (fitting kind l) → T (itemed kind l) → ¬ (op pc ≡ 1) → ¬ (op pc ≡ 2) → ¬ (op pc ≡ 3) → gone (step pc) q ≡ none → Turn m D₀ D K j₀ p₀ (otherwise (code_in pc)) q j n
    other_as bad is c a f v e₁ e₂ e₃ g = absurd c
    other_as (fin φ) is c a f v e₁ e₂ e₃ g = absurd (e₁ c.0)
    other_as (move x l) is c a f v e₁ e₂ e₃ g = absurd (e₂ c.0)
    other_as (kid x l) is c a f v e₁ e₂ e₃ g = absurd (e₃ c.0)
    other_as (fork x l r) is c a f v e₁ e₂ e₃ g =
        let no : gone x q ≡ none = subst (λ (z : Move). gone z q ≡ none) c.1 g in
        go_on r (otherwise (code_in pc)) q c.3
        (and_t (ahead (pc + 1) l) (ahead (otherwise (code_in pc)) r) (and_t (ltb pc instructions && ltb pc (otherwise (code_in pc))) (ahead (pc + 1) l && ahead (otherwise (code_in pc)) r) a).1).1
        (and_t (fitting kind l) (fitting kind r) f).1
        (and_t (itemed kind l) (itemed kind r) v).1
        (λ ks rs bs o. subst (λ (z : Layout). Over s t i left lines ks z q rs bs) (sym is) (rno no o))
        (λ ks rs bs o. over_no (hcl s) (Both s) no (subst (λ (z : Layout). Over s t i left lines ks z q rs bs) is o))
    other_as (rep x z l) is c a f v e₁ e₂ e₃ g =
        let no : gone x q ≡ none = subst (λ (y : Move). gone y q ≡ none) c.1 g in
        go_on l (otherwise (code_in pc)) q c.3
        (and_t (ltb pc instructions && ltb pc (otherwise (code_in pc))) (ahead (otherwise (code_in pc)) l) a).1
        (and_t (fits (under 0 true (want_of kind)) z) (fitting kind l) f).1
        (and_t (same (eqb kind 12) (is_entry z)) (itemed kind l) v).1
        (λ ks rs bs o. subst (λ (y : Layout). Over s t i left lines ks y q rs bs) (sym is) (rend no o))
        (λ ks rs bs o. over_end (hcl s) (Both s) no (subst (λ (y : Layout). Over s t i left lines ks y q rs bs) is o))

    pub turn_other : ¬ (op pc ≡ 1) → ¬ (op pc ≡ 2) → ¬ (op pc ≡ 3) → gone (step pc) q ≡ none → Turn m D₀ D K j₀ p₀ (otherwise (code_in pc)) q j n
    turn_other e₁ e₂ e₃ g = other_as w.lay refl w.codes w.forward w.fits w.items e₁ e₂ e₃ g

    -- it is made
    on_as : (l : Layout) → w.lay ≡ l → Codes pc l → T (ahead pc l) → T (fitting kind l) → T (itemed kind l) → ¬ (op pc ≡ 1) → ¬ (op pc ≡ 3) → ¬ (op pc ≡ 5) → (q' : ℕ) → gone (step pc) q ≡ some q' → Turn m D₀ D K j₀ p₀ (pc + 1) q' j n
    on_as bad is c a f v e₁ e₃ e₅ q' g = absurd c
    on_as (fin φ) is c a f v e₁ e₃ e₅ q' g = absurd (e₁ c.0)
    on_as (move x l) is c a f v e₁ e₃ e₅ q' g =
        let yes : gone x q ≡ some q' = subst (λ (z : Move). gone z q ≡ some q') c.1 g in
        go_on l (pc + 1) q' c.2 (and_t (ltb pc instructions) (ahead (pc + 1) l) a).1 f v
        (λ ks rs bs o. subst (λ (z : Layout). Over s t i left lines ks z q rs bs) (sym is) (rmove q' yes o))
        (λ ks rs bs o.
        let (y, h, u) = over_move (hcl s) (Both s) (subst (λ (z : Layout). Over s t i left lines ks z q rs bs) is o) in
        subst (λ (z : ℕ). Over s t i left lines ks l z rs bs) (some_is (sym h ∙ yes)) u)
    on_as (kid x l) is c a f v e₁ e₃ e₅ q' g = absurd (e₃ c.0)
    on_as (fork x l r) is c a f v e₁ e₃ e₅ q' g =
        let yes : gone x q ≡ some q' = subst (λ (z : Move). gone z q ≡ some q') c.1 g in
        go_on l (pc + 1) q' c.2
        (and_t (ahead (pc + 1) l) (ahead (otherwise (code_in pc)) r) (and_t (ltb pc instructions && ltb pc (otherwise (code_in pc))) (ahead (pc + 1) l && ahead (otherwise (code_in pc)) r) a).1).0
        (and_t (fitting kind l) (fitting kind r) f).0
        (and_t (itemed kind l) (itemed kind r) v).0
        (λ ks rs bs o. subst (λ (z : Layout). Over s t i left lines ks z q rs bs) (sym is) (ryes q' yes o))
        (λ ks rs bs o. over_yes (hcl s) (Both s) yes (subst (λ (z : Layout). Over s t i left lines ks z q rs bs) is o))
    on_as (rep x z l) is c a f v e₁ e₃ e₅ q' g = absurd (e₅ c.0)

    pub turn_on : ¬ (op pc ≡ 1) → ¬ (op pc ≡ 3) → ¬ (op pc ≡ 5) → (q' : ℕ) → gone (step pc) q ≡ some q' → Turn m D₀ D K j₀ p₀ (pc + 1) q' j n
    turn_on e₁ e₃ e₅ q' g = on_as w.lay refl w.codes w.forward w.fits w.items e₁ e₃ e₅ q' g

    -- ---- how far the program is

    within_as : (l : Layout) → Codes pc l → T (ahead pc l) → pc < instructions
    within_as bad c a = absurd c
    within_as (fin φ) c a = ltb→lt pc instructions a
    within_as (move x l) c a = ltb→lt pc instructions (and_t (ltb pc instructions) (ahead (pc + 1) l) a).0
    within_as (kid x l) c a = ltb→lt pc instructions (and_t (ltb pc instructions) (ahead (pc + 1) l) a).0
    within_as (fork x l r) c a = ltb→lt pc instructions (and_t (ltb pc instructions) (ltb pc (otherwise (code_in pc))) (and_t (ltb pc instructions && ltb pc (otherwise (code_in pc))) (ahead (pc + 1) l && ahead (otherwise (code_in pc)) r) a).0).0
    within_as (rep x z l) c a = ltb→lt pc instructions (and_t (ltb pc instructions) (ltb pc (otherwise (code_in pc))) (and_t (ltb pc instructions && ltb pc (otherwise (code_in pc))) (ahead (otherwise (code_in pc)) l) a).0).0

    pub turn_within : pc < instructions
    turn_within = within_as w.lay w.codes w.forward

    later_as : (l : Layout) → Codes pc l → T (ahead pc l) → ¬ (op pc ≡ 1) → ¬ (op pc ≡ 2) → ¬ (op pc ≡ 3) → pc < otherwise (code_in pc)
    later_as bad c a e₁ e₂ e₃ = absurd c
    later_as (fin φ) c a e₁ e₂ e₃ = absurd (e₁ c.0)
    later_as (move x l) c a e₁ e₂ e₃ = absurd (e₂ c.0)
    later_as (kid x l) c a e₁ e₂ e₃ = absurd (e₃ c.0)
    later_as (fork x l r) c a e₁ e₂ e₃ = ltb→lt pc (otherwise (code_in pc)) (and_t (ltb pc instructions) (ltb pc (otherwise (code_in pc))) (and_t (ltb pc instructions && ltb pc (otherwise (code_in pc))) (ahead (pc + 1) l && ahead (otherwise (code_in pc)) r) a).0).1
    later_as (rep x z l) c a e₁ e₂ e₃ = ltb→lt pc (otherwise (code_in pc)) (and_t (ltb pc instructions) (ltb pc (otherwise (code_in pc))) (and_t (ltb pc instructions && ltb pc (otherwise (code_in pc))) (ahead (otherwise (code_in pc)) l) a).0).1

    pub turn_later : ¬ (op pc ≡ 1) → ¬ (op pc ≡ 2) → ¬ (op pc ≡ 3) → pc < otherwise (code_in pc)
    turn_later e₁ e₂ e₃ = later_as w.lay w.codes w.forward e₁ e₂ e₃

    -- ---- a child

    by_same : (a b : Bool) → T (same a b) → a ≡ b
    by_same true true h = refl
    by_same true false h = absurd h
    by_same false true h = absurd h
    by_same false false h = refl

    is_entry_lem : (c : Class) → is_entry c ≡ true → c ≡ entry
    is_entry_lem inside e = clash (sym e)
    is_entry_lem single e = clash (sym e)
    is_entry_lem key e = clash (sym e)
    is_entry_lem value e = clash (sym e)
    is_entry_lem test e = clash (sym e)
    is_entry_lem branch e = clash (sym e)
    is_entry_lem term e = clash (sym e)
    is_entry_lem (right n) e = clash (sym e)
    is_entry_lem entry e = refl
    is_entry_lem called e = clash (sym e)
    is_entry_lem portion e = clash (sym e)
    is_entry_lem piecewise e = clash (sym e)
    is_entry_lem filter e = clash (sym e)

    -- an object's children are items, and no others are
    object_entry : (c : Class) → T (same (eqb kind 12) (is_entry c)) → kind ≡ 12 → c ≡ entry
    object_entry c h e = is_entry_lem c (sym (by_same (eqb kind 12) (is_entry c) h) ∙ eq-eqb kind 12 e)

    entry_object : (c : Class) → T (same (eqb kind 12) (is_entry c)) → c ≡ entry → kind ≡ 12
    entry_object c h e = eqb-true kind 12 (by_same (eqb kind 12) (is_entry c) h ∙ ap is_entry e)

    head_of : {A : Type 0} {x y : A} {xs ys : List A} → x ∷ xs ≡ y ∷ ys → x ≡ y
    head_of {x = x} {y} {xs} {ys} e = cc

    tail_of_lem : {A : Type 0} {x y : A} {xs ys : List A} → x ∷ xs ≡ y ∷ ys → xs ≡ ys
    tail_of_lem {x = x} {y} {xs} {ys} e = cc

    -- what a child of the class c is under
    abbrev under' : Class → List (Rec ℕ) → Under
    under' c ks = downs s att c start ks

    down_is : (c : Class) (ks : List (Rec ℕ)) → T (fits (under 0 true (want_of kind)) c) → (hcl s).down att c start ks ≡ some (under' c ks)
    down_is c ks h = rw (fit_any c (want_of kind) left lines h)

    -- a layout that begins with a child of the class c at `at`, and goes on with l
    record Begins (c : Class) (l : Layout) (at : ℕ) : Type 0 where
      con : (ks rs : List (Rec ℕ)) (bs : List (Under × ℕ)) (r : Rec ℕ) → (hcl s).down att c start ks ≡ some (under' c ks) → r.start ≡ at → Both s (under' c ks) c r → Over s t i left lines (r ∷ ks) l r.end rs bs
          → Over s t i left lines ks w.lay q (r ∷ rs) ((under' c ks, styles c) ∷ bs)
      inv : (ks rs : List (Rec ℕ)) (bs : List (Under × ℕ)) → Over s t i left lines ks w.lay q rs bs → AtKid (hcl s) (Both s) att start ks (row_at t i).end (row_at t i).flag rs bs c l at

    module _ {K' D' : List ℕ} {at : ℕ} {r : Passed} (deep : i < length D) (h : PassedBy s t i m D D' K K' j n (class (code_in pc)) left lines at r)
        (fit : T (fits (under 0 true (want_of kind)) (sort pc))) (itm : T (same (eqb kind 12) (is_entry (sort pc)))) (l : Layout) (b : Begins (sort pc) l at) where
      child_no : r.good ≡ false → LaidBy s t i m D₀ D j₀ p₀ left lines false
      child_no z = lay_no (λ ks bs k full o.
          let v = b.inv ks (map (rec_at t) w.js) bs o in
          let y = next_of m i w.js j w.chain (left_some w.js w.chain v.child v.rest v.are) in
          let e : rec_at t j ∷ map (rec_at t) y.rest ≡ v.child ∷ v.rest = sym (ap (map (rec_at t)) y.are) ∙ v.are in
          let c : rec_at t j ≡ v.child = head_of e in
          let d : v.att ≡ under' (sort pc) ks = some_is (sym v.down ∙ down_is (sort pc) ks fit) in
          let g : Both s (under' (sort pc) ks) (sort pc) (rec_at t j) = subst (λ (x : Rec ℕ). Both s (under' (sort pc) ks) (sort pc) x) (sym c) (subst (λ (x : Under). Both s x (sort pc) v.child) d v.test) in
          let f : Filled t (j ∷ y.rest) = subst (Filled t) y.are full in
          h.no z (left_some w.js w.chain v.child v.rest v.are) (ap (λ (x : Rec ℕ). x.start) c ∙ v.start) f.0 (want_of kind) start ks (λ x. k (entry_object (sort pc) itm x)) g)
        where
          left_some : (js : List ℕ) → Chain m i js j → (x : Rec ℕ) (xs : List (Rec ℕ)) → map (rec_at t) js ≡ x ∷ xs → j < i
          left_some [] c x xs e = absurd (let z : ◌≡◌ {A = ℕ} 0 1 = cc in omega arith)
          left_some (y ∷ js) (e', up, far, c) x xs e = omega arith

      child_on : (pc' : ℕ) → Codes pc' l → T (ahead pc' l) → T (fitting kind l) → T (itemed kind l) → r.good ≡ true → Turn m D₀ D' K' j₀ p₀ pc' r.end r.next r.keys
      child_on pc' c a f v z =
          let y = next_of m i w.js j w.chain (h.inside z) in
          let up = y.up in
          let far = y.far in
          let few = h.few in
          let next = h.next z in
          let put : D' ≡ set D j h.value = h.put z in
          record {
            js₀ = w.js₀;
            past = w.past ++ j ∷ [];
            js = y.rest;
            first = w.first;
            chain = subst (Chain m i y.rest) next y.chain;
            are = w.are ∙ ap (λ (x : List ℕ). w.past ++ x) y.are ∙ sym (append_assoc w.past (j ∷ []) y.rest);
            below = below_snoc w.past j r.next (omega arith) w.below;
            up = omega (arith, w.up);
            few = omega (arith, w.few);
            indexed = h.indexed z;
            long = h.long ∙ w.long;
            same = λ x u. ap (λ (o : List ℕ). get_or o x 0) put ∙ get_or-set_other D j x h.value 0 (λ (e : x ≡ j). omega (arith, w.up)) ∙ w.same x u;
            lay = l;
            codes = c;
            forward = a;
            fits = f;
            items = v;
            way = λ ks₀ u.
                let g = w.way ks₀ u in
                let d = under' (sort pc) g.ks in
                let keys : sort pc ≡ entry → KeysOf s K n g.ks = λ x. g.keyed (entry_object (sort pc) itm x) in
                record {
                  done = g.done ++ (d, styles (sort pc)) ∷ [];
                  ks = rec_at t j ∷ g.ks;
                  told =
                      depths_snoc D' w.past j
                      ∙ ap (λ (o : List Depth). o ++ coded (get_or D' j 0) ∷ []) (ap (λ (o : List ℕ). depths_at o w.past) put ∙ depths_set D j h.value w.past w.below ∙ g.told)
                      ∙ ap (λ (o : Depth). map depth_of g.done ++ o ∷ []) (ap (λ (o : List ℕ). coded (get_or o j 0)) put ∙ ap coded (get_or-set_same D j h.value 0 (omega (arith, deep, h.inside z))) ∙ h.told z (want_of kind) start (styles (sort pc)) g.ks)
                      ∙ sym (told_snoc g.done (d, styles (sort pc)));
                  keyed = λ x. h.kept z g.ks (object_entry (sort pc) itm x) (g.keyed x);
                  on = λ bs o.
                      let o' : Over s t i left lines (rec_at t j ∷ g.ks) l (row_at t j).end (map (rec_at t) y.rest) bs = subst (λ (x : ℕ). Over s t i left lines (rec_at t j ∷ g.ks) l x (map (rec_at t) y.rest) bs) (sym (h.end z)) o in
                      let n' = b.con g.ks (map (rec_at t) y.rest) bs (rec_at t j) (down_is (sort pc) g.ks fit) (h.start z) (h.both z (want_of kind) start g.ks keys) o' in
                      let n'' = subst (λ (x : List ℕ). Over s t i left lines g.ks w.lay q (map (rec_at t) x) ((d, styles (sort pc)) ∷ bs)) (sym y.are) n' in
                      subst (λ (x : List (Under × ℕ)). Over s t i left lines ks₀ (layout_of kind) p₀ (map (rec_at t) w.js₀) x) (sym (append_assoc g.done ((d, styles (sort pc)) ∷ []) bs)) (g.on ((d, styles (sort pc)) ∷ bs) n'');
                  back = λ bs o.
                      let (bs', e, x) = g.back bs o in
                      let k = b.inv g.ks (map (rec_at t) w.js) bs' x in
                      let e' : rec_at t j ∷ map (rec_at t) y.rest ≡ k.child ∷ k.rest = sym (ap (map (rec_at t)) y.are) ∙ k.are in
                      let c' : k.child ≡ rec_at t j = sym (head_of e') in
                      let r' : k.rest ≡ map (rec_at t) y.rest = sym (tail_of_lem e') in
                      let d' : k.att ≡ d = some_is (sym k.down ∙ down_is (sort pc) g.ks fit) in
                      let b' : bs' ≡ (d, styles (sort pc)) ∷ k.atts = k.from ∙ ap (λ (o : Under). (o, styles (sort pc)) ∷ k.atts) d' in
                      let on₁ = subst (λ (o : Rec ℕ). Over s t i left lines (o ∷ g.ks) l o.end k.rest k.atts) c' k.on in
                      let on₂ = subst (λ (o : List (Rec ℕ)). Over s t i left lines (rec_at t j ∷ g.ks) l (row_at t j).end o k.atts) r' on₁ in
                      (k.atts, e ∙ ap (λ (o : List (Under × ℕ)). g.done ++ o) b' ∙ sym (append_assoc g.done ((d, styles (sort pc)) ∷ []) k.atts), subst (λ (o : ℕ). Over s t i left lines (rec_at t j ∷ g.ks) l o (map (rec_at t) y.rest) k.atts) (h.end z) on₂);
                };
          }

    -- the layout at a `kid`, and at a `rep` whose move is made
    record KidHere : Type 0 where
      l : Layout
      fit : T (fits (under 0 true (want_of kind)) (sort pc))
      itm : T (same (eqb kind 12) (is_entry (sort pc)))
      begins : Begins (sort pc) l q
      codes : Codes (pc + 1) l
      forward : T (ahead (pc + 1) l)
      fitted : T (fitting kind l)
      items : T (itemed kind l)

    kid_as : (x : Layout) → w.lay ≡ x → Codes pc x → T (ahead pc x) → T (fitting kind x) → T (itemed kind x) → op pc ≡ 3 → KidHere
    kid_as bad is c a f v e = absurd c
    kid_as (fin φ) is c a f v e = apart (op pc) 1 3 c.0 e (omega arith)
    kid_as (move x l) is c a f v e = apart (op pc) 2 3 c.0 e (omega arith)
    kid_as (kid z l) is c a f v e =
        let same' : z ≡ sort pc = sym c.1 in
        let is' : w.lay ≡ kid (sort pc) l = is ∙ ap (λ (o : Class). kid o l) same' in
        record {
          l = l;
          fit = subst (λ (o : Class). T (fits (under 0 true (want_of kind)) o)) same' (and_t (fits (under 0 true (want_of kind)) z) (fitting kind l) f).0;
          itm = subst (λ (o : Class). T (same (eqb kind 12) (is_entry o))) same' (and_t (same (eqb kind 12) (is_entry z)) (itemed kind l) v).0;
          begins = record {
            con = λ ks rs bs r d g b o. subst (λ (y : Layout). Over s t i left lines ks y q (r ∷ rs) ((under' (sort pc) ks, styles (sort pc)) ∷ bs)) (sym is') (rkid d g b o);
            inv = λ ks rs bs o. over_kid (hcl s) (Both s) (subst (λ (y : Layout). Over s t i left lines ks y q rs bs) is' o);
          };
          codes = c.2;
          forward = (and_t (ltb pc instructions) (ahead (pc + 1) l) a).1;
          fitted = (and_t (fits (under 0 true (want_of kind)) z) (fitting kind l) f).1;
          items = (and_t (same (eqb kind 12) (is_entry z)) (itemed kind l) v).1;
        }
    kid_as (fork x l r) is c a f v e = apart (op pc) 4 3 c.0 e (omega arith)
    kid_as (rep x z l) is c a f v e = apart (op pc) 5 3 c.0 e (omega arith)

    pub lay_kid : {K' D' : List ℕ} {r : Passed} → i < length D → PassedBy s t i m D D' K K' j n (class (code_in pc)) left lines q r → op pc ≡ 3 → r.good ≡ true → Turn m D₀ D' K' j₀ p₀ (pc + 1) r.end r.next r.keys
    lay_kid deep h e z =
        let x = kid_as w.lay refl w.codes w.forward w.fits w.items e in
        child_on deep h x.fit x.itm x.l x.begins (pc + 1) x.codes x.forward x.fitted x.items z

    pub lay_kid_no : {K' D' : List ℕ} {r : Passed} → i < length D → PassedBy s t i m D D' K K' j n (class (code_in pc)) left lines q r → op pc ≡ 3 → r.good ≡ false → LaidBy s t i m D₀ D j₀ p₀ left lines false
    lay_kid_no deep h e z =
        let x = kid_as w.lay refl w.codes w.forward w.fits w.items e in
        child_no deep h x.fit x.itm x.l x.begins z

    record RepHere (at : ℕ) : Type 0 where
      fit : T (fits (under 0 true (want_of kind)) (sort pc))
      itm : T (same (eqb kind 12) (is_entry (sort pc)))
      begins : Begins (sort pc) w.lay at

    rep_as : (x : Layout) → w.lay ≡ x → Codes pc x → T (fitting kind x) → T (itemed kind x) → op pc ≡ 5 → (at : ℕ) → gone (step pc) q ≡ some at → RepHere at
    rep_as bad is c f v e at g = absurd c
    rep_as (fin φ) is c f v e at g = apart (op pc) 1 5 c.0 e (omega arith)
    rep_as (move x l) is c f v e at g = apart (op pc) 2 5 c.0 e (omega arith)
    rep_as (kid z l) is c f v e at g = apart (op pc) 3 5 c.0 e (omega arith)
    rep_as (fork x l r) is c f v e at g = apart (op pc) 4 5 c.0 e (omega arith)
    rep_as (rep x z l) is c f v e at g =
        let same' : z ≡ sort pc = sym c.2 in
        let is' : w.lay ≡ rep x (sort pc) l = is ∙ ap (λ (o : Class). rep x o l) same' in
        let yes : gone x q ≡ some at = subst (λ (o : Move). gone o q ≡ some at) c.1 g in
        record {
          fit = subst (λ (o : Class). T (fits (under 0 true (want_of kind)) o)) same' (and_t (fits (under 0 true (want_of kind)) z) (fitting kind l) f).0;
          itm = subst (λ (o : Class). T (same (eqb kind 12) (is_entry o))) same' (and_t (same (eqb kind 12) (is_entry z)) (itemed kind l) v).0;
          begins = record {
            con = λ ks rs bs r d g b o.
                subst (λ (y : Layout). Over s t i left lines ks y q (r ∷ rs) ((under' (sort pc) ks, styles (sort pc)) ∷ bs)) (sym is')
                (rrep at yes d g b (subst (λ (y : Layout). Over s t i left lines (r ∷ ks) y r.end rs bs) is' o));
            inv = λ ks rs bs o.
                subst (λ (y : Layout). AtKid (hcl s) (Both s) att start ks (row_at t i).end (row_at t i).flag rs bs (sort pc) y at) (sym is')
                (over_rep (hcl s) (Both s) yes (subst (λ (y : Layout). Over s t i left lines ks y q rs bs) is' o));
          };
        }

    pub lay_rep : {K' D' : List ℕ} {at : ℕ} {r : Passed} → i < length D → PassedBy s t i m D D' K K' j n (class (code_in pc)) left lines at r → op pc ≡ 5 → gone (step pc) q ≡ some at → r.good ≡ true
        → Turn m D₀ D' K' j₀ p₀ pc r.end r.next r.keys
    lay_rep {at = at} deep h e g z =
        let x = rep_as w.lay refl w.codes w.fits w.items e at g in
        child_on deep h x.fit x.itm w.lay x.begins pc w.codes w.forward w.fits w.items z

    pub lay_rep_no : {K' D' : List ℕ} {at : ℕ} {r : Passed} → i < length D → PassedBy s t i m D D' K K' j n (class (code_in pc)) left lines at r → op pc ≡ 5 → gone (step pc) q ≡ some at → r.good ≡ false → LaidBy s t i m D₀ D j₀ p₀ left lines false
    lay_rep_no {at = at} deep h e g z =
        let x = rep_as w.lay refl w.codes w.fits w.items e at g in
        child_no deep h x.fit x.itm w.lay x.begins z

    -- a child is an item only in an object
    no_entry : (kind ≡ 12 → ⊥) → (x : Class) → T (same (eqb kind 12) (is_entry x)) → x ≡ entry → ⊥
    no_entry n x h e = subst (λ (b : Bool). T (same b true)) (ne_eqb kind 12 n) (subst (λ (o : Class). T (same (eqb kind 12) (is_entry o))) e h)

    pub kid_plain : (kind ≡ 12 → ⊥) → op pc ≡ 3 → sort pc ≡ entry → ⊥
    kid_plain n e f = no_entry n (sort pc) (kid_as w.lay refl w.codes w.forward w.fits w.items e).itm f

    pub rep_plain : (kind ≡ 12 → ⊥) → op pc ≡ 5 → (at : ℕ) → gone (step pc) q ≡ some at → sort pc ≡ entry → ⊥
    rep_plain n e at g f = no_entry n (sort pc) (rep_as w.lay refl w.codes w.fits w.items e at g).itm f

    -- what `pass` asks for
    pub turn_passing : {K₀ : List ℕ} {c at : ℕ} {k : Token} {r : Lone} → Laying t i m D₀ K₀ j₀ left → length K ≡ length K₀ → TokenHere s at k → Behind s k.end r → Passing s t i m D K j n c left at k.mark r.yes
    turn_passing a e f h = record {
      within = a.within;
      linked = (λ l. (next_of m i w.js j w.chain l).far, chain_le m i w.js j w.chain);
      marked = a.marked;
      deep = omega (arith, a.deep, w.long);
      keyed = omega (arith, a.keyed, e);
      small = a.small;
      indexed = w.indexed;
      fewer = w.few;
      few = a.few;
      key = λ z. f.mark;
      told = λ z. h.yes ∙ ap (signed s) f.end;
    }

  -- ---- as the code says it

  module _ {m D₀ D K : List ℕ} {j₀ p₀ pc q j n : ℕ} (w : Turn m D₀ D K j₀ p₀ pc q j n) {x : Instr} (at : InstrAt pc x) where
    is_op : (n : ℕ) → x.op ≡ n → op pc ≡ n
    is_op n e = sym at.op ∙ e

    not_op : (n : ℕ) → ¬ (x.op ≡ n) → ¬ (op pc ≡ n)
    not_op n f e = f (at.op ∙ e)

    went_to : {g : Went} → GoneAt s left lines x.arg q g → g.kind ≡ 0 → gone (step pc) q ≡ some g.at
    went_to {g} h z = subst (λ (o : ℕ). gone (move_in o) q ≡ some g.at) at.arg (h.good z start (want_of kind) (no_keys kind))

    went_no : {g : Went} → GoneAt s left lines x.arg q g → ¬ (g.kind ≡ 0) → gone (step pc) q ≡ none
    went_no h z = subst (λ (o : ℕ). gone (move_in o) q ≡ none) at.arg (h.bad z start (want_of kind) (no_keys kind))

    passed : {K' D' : List ℕ} {p : ℕ} {r : Passed} → PassedBy s t i m D D' K K' j n x.class left lines p r → PassedBy s t i m D D' K K' j n (class (code_in pc)) left lines p r
    passed {K'} {D'} {p} {r} h = subst (λ (o : ℕ). PassedBy s t i m D D' K K' j n o left lines p r) at.class h

    pub do_fin : (r : Bool) → x.op ≡ 1 → EndsAt t i j q x.arg r → LaidBy s t i m D₀ D j₀ p₀ left lines r
    do_fin r e h = lay_fin w r (is_op 1 e) (subst (λ (o : ℕ). EndsAt t i j q o r) at.arg h)

    pub do_kid : {K' D' : List ℕ} {r : Passed} → i < length D → x.op ≡ 3 → PassedBy s t i m D D' K K' j n x.class left lines q r → r.good ≡ true → Turn m D₀ D' K' j₀ p₀ (pc + 1) r.end r.next r.keys
    do_kid deep e h z = lay_kid w deep (passed h) (is_op 3 e) z

    pub do_kid_no : {K' D' : List ℕ} {r : Passed} → i < length D → x.op ≡ 3 → PassedBy s t i m D D' K K' j n x.class left lines q r → r.good ≡ false → LaidBy s t i m D₀ D' j₀ p₀ left lines false
    do_kid_no deep e h z = subst (λ (o : List ℕ). LaidBy s t i m D₀ o j₀ p₀ left lines false) (sym (h.still z)) (lay_kid_no w deep (passed h) (is_op 3 e) z)

    pub do_stop : {g : Went} → x.op ≡ 2 → GoneAt s left lines x.arg q g → ¬ (g.kind ≡ 0) → LaidBy s t i m D₀ D j₀ p₀ left lines false
    do_stop e h z = lay_stop w (is_op 2 e) (went_no h z)

    pub do_other : {g : Went} → ¬ (x.op ≡ 1) → ¬ (x.op ≡ 2) → ¬ (x.op ≡ 3) → GoneAt s left lines x.arg q g → ¬ (g.kind ≡ 0) → Turn m D₀ D K j₀ p₀ x.next q j n
    do_other e₁ e₂ e₃ h z = subst (λ (o : ℕ). Turn m D₀ D K j₀ p₀ o q j n) (sym at.next) (turn_other w (not_op 1 e₁) (not_op 2 e₂) (not_op 3 e₃) (went_no h z))

    pub do_later : ¬ (x.op ≡ 1) → ¬ (x.op ≡ 2) → ¬ (x.op ≡ 3) → pc < x.next
    do_later e₁ e₂ e₃ = omega (arith, turn_later w (not_op 1 e₁) (not_op 2 e₂) (not_op 3 e₃), at.next)

    pub do_rep : {g : Went} {K' D' : List ℕ} {r : Passed} → i < length D → x.op ≡ 5 → GoneAt s left lines x.arg q g → g.kind ≡ 0 → PassedBy s t i m D D' K K' j n x.class left lines g.at r → r.good ≡ true → Turn m D₀ D' K' j₀ p₀ pc r.end r.next r.keys
    do_rep deep e h k p z = lay_rep w deep (passed p) (is_op 5 e) (went_to h k) z

    pub do_rep_no : {g : Went} {K' D' : List ℕ} {r : Passed} → i < length D → x.op ≡ 5 → GoneAt s left lines x.arg q g → g.kind ≡ 0 → PassedBy s t i m D D' K K' j n x.class left lines g.at r → r.good ≡ false → LaidBy s t i m D₀ D' j₀ p₀ left lines false
    do_rep_no deep e h k p z = subst (λ (o : List ℕ). LaidBy s t i m D₀ o j₀ p₀ left lines false) (sym (p.still z)) (lay_rep_no w deep (passed p) (is_op 5 e) (went_to h k) z)

    pub do_on : {g : Went} → ¬ (x.op ≡ 1) → ¬ (x.op ≡ 3) → ¬ (x.op ≡ 5) → GoneAt s left lines x.arg q g → g.kind ≡ 0 → Turn m D₀ D K j₀ p₀ (pc + 1) g.at j n
    do_on e₁ e₃ e₅ h z = turn_on w (not_op 1 e₁) (not_op 3 e₃) (not_op 5 e₅) _ (went_to h z)

    -- a child in a node without items
    class_is : sort pc ≡ class_in x.class
    class_is = ap class_in (sym at.class)

    abbrev child_passed : List ℕ → ℕ → Bool → Type 0
    child_passed D' p b = PassedBy s t i m D D' K K j n x.class left lines p (kidded t m j n b)

    behind : {D' : List ℕ} {q' j' pc' : ℕ} → q' ≡ (row_at t j).end → j' ≡ get_or m j 0 → Turn m D₀ D' K j₀ p₀ pc' (row_at t j).end (get_or m j 0) n → Turn m D₀ D' K j₀ p₀ pc' q' j' n
    behind {D'} {q'} {j'} {pc'} e f z = subst (λ (o : ℕ). Turn m D₀ D' K j₀ p₀ pc' q' o n) (sym f) (subst (λ (o : ℕ). Turn m D₀ D' K j₀ p₀ pc' o (get_or m j 0) n) (sym e) z)

    module _ (n₁₂ : kind ≡ 12 → ⊥) (deep : i < length D) where
      module _ (e : x.op ≡ 3) {D' : List ℕ} {r : Bool} (h : ChildBy t i D D' j x.class left lines q r) where
        as_kid : PassedBy s t i m D D' K K j n x.class left lines q (kidded t m j n r)
        as_kid = h.passed s m K n (λ f. kid_plain w n₁₂ (is_op 3 e) (class_is ∙ f)) w.indexed

        pub plain_kid : {q' j' : ℕ} → r ≡ true → q' ≡ (row_at t j).end → j' ≡ get_or m j 0 → Turn m D₀ D' K j₀ p₀ (pc + 1) q' j' n
        plain_kid z a b = behind a b (do_kid deep e (subst (child_passed D' q) z as_kid) refl)

        pub plain_kid_no : r ≡ false → LaidBy s t i m D₀ D' j₀ p₀ left lines false
        plain_kid_no z = do_kid_no deep e (subst (child_passed D' q) z as_kid) refl

      module _ (e : x.op ≡ 5) {g : Went} (o : GoneAt s left lines x.arg q g) (k : g.kind ≡ 0) {D' : List ℕ} {r : Bool} (h : ChildBy t i D D' j x.class left lines g.at r) where
        as_rep : PassedBy s t i m D D' K K j n x.class left lines g.at (kidded t m j n r)
        as_rep = h.passed s m K n (λ f. rep_plain w n₁₂ (is_op 5 e) g.at (went_to o k) (class_is ∙ f)) w.indexed

        pub plain_rep : {q' j' : ℕ} → r ≡ true → q' ≡ (row_at t j).end → j' ≡ get_or m j 0 → Turn m D₀ D' K j₀ p₀ pc q' j' n
        plain_rep z a b = behind a b (do_rep deep e o k (subst (child_passed D' g.at) z as_rep) refl)

        pub plain_rep_no : r ≡ false → LaidBy s t i m D₀ D' j₀ p₀ left lines false
        plain_rep_no z = do_rep_no deep e o k (subst (child_passed D' g.at) z as_rep) refl

    -- the row behind a child
    pub plain_up : {j' : ℕ} → j < i → j' ≡ get_or m j 0 → (j < j') × (j' ≤ i)
    plain_up l e = let y = next_of m i w.js j w.chain l in (omega (arith, y.up, e), omega (arith, y.far, e))
