-- The walk over the rows, from the last one backwards: what holds whenever its loop begins a turn, and what each row does.
use Prim.Native.Nat.{ℕ, suc, ◌+◌, ◌*◌, ◌-◌, ◌≤◌, ◌<◌}
use mathlib.Core.Path.{◌≡◌, refl, sym, ap, subst, ◌∙◌}
use mathlib.Core.Bool.{Bool, true, false, cond}
use mathlib.Core.Option.{some}
use mathlib.Core.Logic.{◌⊎◌, inl, inr}
use mathlib.Core.List.{List, [], ◌∷◌, map}
use native.Mathlib.Omega.{arith}
use lib.ListN.{length, get_or, set}
use lib.Seq.{get_or-set_same}
use lib.Dec.{eqb, eqb→eq, T}
use borrow.Author.Tests.{eqb-true, eqb-false, eq-eqb, ne_eqb}
use Rattle.lexis.specs.Bytes.{stands}
use Rattle.lexis.specs.Utf8.{Formed}
use Rattle.lexis.specs.String.{Mode}
use Rattle.lexis.specs.RunLaws.{clash}
use Rattle.engine.specs.Base.{Rec, has, choose}
use Rattle.engine.specs.BaseLaws.{or_t, t_or, some_is}
use Rattle.engine.specs.Rule.{Kids, knil, kcons, Local, first, later, Node}
use Rattle.grammar.specs.Kinds.{most}
use Rattle.grammar.specs.Moves.{an_expression, a_piece, Under, round}
use Rattle.grammar.specs.Hcl.{hcl, under, pick_at}
use Rattle.grammar.specs.Published.{Depth, depth, kinds_of, want_of, style_of, Laid, rule_as, Rule, taken, used, Texted, Holds}
use Rattle.grammar.specs.RuleTable.{kids_same, count_pos}
use Rattle.checker.specs.Rows.{row_at, rows, rec_at}
use Rattle.checker.specs.Leaf.{Used, is_grown, Spelt, Placed, Columns}
use Rattle.checker.specs.Lay.{coded, depths_at}
use Rattle.checker.specs.Texts.{Sane, Sanes, Spelts}
use Rattle.checker.specs.Node.{Worded, NodeBy}
use Rattle.checker.proofs.Texteds.{placed_of, spelt_word, spelt_piece, texted_of}
use Rattle.checker.proofs.Tabled.{Full, full_of, of_full, ordered_of}
use Rattle.checker.proofs.Callings.{follow_grown}

-- ---- the rows that are still to be visited are trees one after the other, by their counts, whose roots are listed, the last first

pub data Pend (t : List ℕ) : ℕ → List ℕ → Type 0 where
  pnil : Pend t 0 []
  pmore : {mid : ℕ} {js : List ℕ} (i : ℕ) → mid + (row_at t i).count ≡ suc i → Pend t mid js → Pend t (suc i) (i ∷ js)

abbrev onto : List ℕ → List ℕ → List ℕ
onto [] a = a
onto (k ∷ ks) a = onto ks (k ∷ a)

pend_kids : (t : List ℕ) {lo hi : ℕ} {js ks : List ℕ} → Pend t lo js → Kids (rows t) lo hi ks → Pend t hi (onto ks js)
pend_kids t p knil = p
pend_kids t p (kcons i q ks) = pend_kids t (pmore i q p) ks

pend_low : (t : List ℕ) {hi : ℕ} {js : List ℕ} → Pend t hi js → (j : ℕ) → T (has js j) → j < hi
pend_low t pnil j h = absurd h
pend_low t (pmore {mid} {js} i q p) j h = go (pend_low t p j) (or_t (eqb i j) (has js j) h)
  where
    go : (T (has js j) → j < mid) → T (eqb i j) ⊎ T (has js j) → j < suc i
    go f (inl e) = let z = eqb→eq i j e in omega arith
    go f (inr e) = let z = f e in omega arith

kids_low : (t : List ℕ) {lo hi : ℕ} {js : List ℕ} → Kids (rows t) lo hi js → lo ≤ hi
kids_low t knil = omega arith
kids_low t (kcons i q ks) = let z = kids_low t ks in omega arith

kids_below : (t : List ℕ) {lo hi : ℕ} {js : List ℕ} → Kids (rows t) lo hi js → (j : ℕ) → T (has js j) → j < hi
kids_below t knil j h = absurd h
kids_below t (kcons {hi = hi} {js = js} i q ks) j h = go (kids_below t ks j) (or_t (eqb i j) (has js j) h)
  where
    go : (T (has js j) → j < hi) → T (eqb i j) ⊎ T (has js j) → j < hi
    go f (inl e) = let z = eqb→eq i j e in let y = kids_low t ks in omega arith
    go f (inr e) = f e

eqb_refl : (j : ℕ) → T (eqb j j)
eqb_refl j = subst T (sym (eq-eqb j j refl)) tt

-- who is listed in the end
onto_old : (ks js : List ℕ) (j : ℕ) → T (has js j) → T (has (onto ks js) j)
onto_old [] js j h = h
onto_old (k ∷ ks) js j h = onto_old ks (k ∷ js) j (t_or (eqb k j) (has js j) (inr h))

onto_new : (ks js : List ℕ) (j : ℕ) → T (has ks j) → T (has (onto ks js) j)
onto_new [] js j h = absurd h
onto_new (k ∷ ks) js j h = go (onto_new ks (k ∷ js) j) (or_t (eqb k j) (has ks j) h)
  where
    go : (T (has ks j) → T (has (onto ks (k ∷ js)) j)) → T (eqb k j) ⊎ T (has ks j) → T (has (onto ks (k ∷ js)) j)
    go f (inl e) = onto_old ks (k ∷ js) j (t_or (eqb k j) (has js j) (inl e))
    go f (inr e) = f e

onto_from : (ks js : List ℕ) (j : ℕ) → T (has (onto ks js) j) → T (has ks j) ⊎ T (has js j)
onto_from [] js j h = inr h
onto_from (k ∷ ks) js j h = go (onto_from ks (k ∷ js) j h)
  where
    go : T (has ks j) ⊎ T (has (k ∷ js) j) → T (has (k ∷ ks) j) ⊎ T (has js j)
    go (inl e) = inl (t_or (eqb k j) (has ks j) (inr e))
    go (inr e) = by (or_t (eqb k j) (has js j) e)
      where
        by : T (eqb k j) ⊎ T (has js j) → T (has (k ∷ ks) j) ⊎ T (has js j)
        by (inl z) = inl (t_or (eqb k j) (has ks j) (inl z))
        by (inr z) = inr z

-- the same of all that are listed
map_same : (f g : ℕ → Depth) (js : List ℕ) → ((j : ℕ) → T (has js j) → f j ≡ g j) → map f js ≡ map g js
map_same f g [] h = refl
map_same f g (j ∷ js) h =
    let a = h j (t_or (eqb j j) (has js j) (inl (eqb_refl j))) in
    let b = map_same f g js (λ k z. h k (t_or (eqb j k) (has js k) (inr z))) in
    rw (a, b)

map_at : (f g : ℕ → Depth) (js : List ℕ) → map f js ≡ map g js → (j : ℕ) → T (has js j) → f j ≡ g j
map_at f g [] e j h = absurd h
map_at f g (k ∷ js) e j h = let rest : map f js ≡ map g js = cc in go (map_at f g js rest j) (or_t (eqb k j) (has js j) h)
  where
    first : f k ≡ g k
    first = cc

    go : (T (has js j) → f j ≡ g j) → T (eqb k j) ⊎ T (has js j) → f j ≡ g j
    go v (inl z) = subst (λ (x : ℕ). f x ≡ g x) (eqb→eq k j z) first
    go v (inr z) = v z

-- an interpolation is called for by `${`
dollar_of : (s : List ℕ) (d : Depth) (r : Rec ℕ) {rs : List (Rec ℕ)} {bs : List (Under × ℕ)} → r.kind ≡ 10 → Local (hcl s) (under d.left d.lines (want_of r.kind), style_of r.kind) r rs bs → stands (36 ∷ 123 ∷ []) s r.start ≡ true
unfolding pick_at
dollar_of s d r {rs} {bs} e l = go (subst (λ (k : ℕ). Local (hcl s) (under d.left d.lines (want_of k), style_of k) r rs bs) e l)
  where
    by : (b : Bool) → choose ((b, 10) ∷ (true, 9) ∷ []) ≡ some 10 → b ≡ true
    by true z = refl
    by false z = absurd (let y : ◌≡◌ {A = ℕ} 9 10 = some_is z in omega arith)

    go : {rs : List (Rec ℕ)} {bs : List (Under × ℕ)} → Local (hcl s) (under d.left d.lines (a_piece 0), 0) r rs bs → stands (36 ∷ 123 ∷ []) s r.start ≡ true
    go (first k n p w) = by (stands (36 ∷ 123 ∷ []) s r.start) (p ∙ ap some (n ∙ e))
    go (later k n st p hd w) = clash (sym (sym (ap is_grown (n ∙ e)) ∙ follow_grown s (under d.left d.lines (a_piece 0)) _ k p))

module _ (s text t : List ℕ) (n : ℕ) where
  -- the rule at a row, with the texts of its pieces and its own
  pub record Fit (att : ℕ → Depth) (k : ℕ) : Type 0 where
    pub lo : ℕ
    pub kids : List ℕ
    pub tiles : lo + (row_at t k).count ≡ suc k
    pub split : Kids (rows t) lo k kids
    pub rule : Rule s (att k) (rec_at t k) (map (rec_at t) kids) (map att kids)
    pub spelt : Spelts s text t (round s (row_at t k).start) kids
    pub word : Worded s text t k

  fit_same : (a b : ℕ → Depth) (k : ℕ) → ((j : ℕ) → j ≤ k → a j ≡ b j) → Fit a k → Fit b k
  fit_same a b k e f = record {
    lo = f.lo;
    kids = f.kids;
    tiles = f.tiles;
    split = f.split;
    rule =
        subst (λ (x : Depth). Rule s x (rec_at t k) (map (rec_at t) f.kids) (map b f.kids)) (e k (omega arith))
        (subst (λ (x : List Depth). Rule s (a k) (rec_at t k) (map (rec_at t) f.kids) x) (map_same a b f.kids (λ j h. e j (let z = kids_below t f.split j h in omega arith))) f.rule);
    spelt = f.spelt;
    word = f.word;
  }

  pub record Goal : Type 0 where
    pub att : ℕ → Depth
    pub root : att (n - 1) ≡ depth 64 false
    pub fits : (k : ℕ) → k < n → Fit att k

  -- what was found of the text numbers of a row
  pub record Told (k : ℕ) : Type 0 where
    pub before : ℕ
    pub sum : before + used (row_at t) n ≡ length text + used (row_at t) k
    pub placed : Placed before (row_at t k)

  -- before the row i - 1, u bytes of text being used
  pub record Walked (D : List ℕ) (i u : ℕ) : Type 0 where
    pub js : List ℕ
    pub pend : Pend t i js
    pub few : i ≤ n
    pub sound : (att : ℕ → Depth) → ((j : ℕ) → T (has js j) → att j ≡ coded (get_or D j 0)) → ((k : ℕ) → k < i → Fit att k) → Goal
    pub told : (k : ℕ) → i ≤ k → k < n → Told k
    pub sum : u + used (row_at t) n ≡ length text + used (row_at t) i
    pub back : (h : Full s t text n) → (j : ℕ) → T (has js j) → h.rule.att j ≡ coded (get_or D j 0)
    -- a piece is one of a template
    pub homed : (h : Full s t text n) → (j : ℕ) → T (has js j) → (row_at t j).kind ≡ 9 → (σ : ℕ) × Texted s text σ (used (row_at t) j) (row_at t j)

  -- ---- at the start: the last row is to be visited, with all levels left, single-line

  pub walk_start : (D : List ℕ) (v : ℕ) → 1 ≤ n → (row_at t (n - 1)).count ≡ n → n ≤ length D → v ≡ 128 → Walked (set D (n - 1) v) n (length text)
  walk_start D v pos c deep e =
      let up : suc (n - 1) ≡ n = omega arith in
      let here : get_or (set D (n - 1) v) (n - 1) 0 ≡ 128 = get_or-set_same D (n - 1) v 0 (omega arith) ∙ e in
      record {
        js = (n - 1) ∷ [];
        pend = subst (λ (x : ℕ). Pend t x ((n - 1) ∷ [])) up (pmore {mid = 0} (n - 1) (omega arith) pnil);
        few = omega arith;
        sound = λ att a f. record { att = att; root = a (n - 1) (t_or (eqb (n - 1) (n - 1)) false (inl (eqb_refl (n - 1)))) ∙ ap coded here; fits = f };
        told = λ k a b. absurd (omega arith);
        sum = omega arith;
        back = λ h j m.
            let z : h.rule.last ≡ n - 1 = omega (arith, h.rule.size_is) in
            let k : n - 1 ≡ j = only_one j m in
            subst (λ (x : ℕ). h.rule.att x ≡ coded (get_or (set D (n - 1) v) x 0)) k (subst (λ (x : ℕ). h.rule.att x ≡ coded (get_or (set D (n - 1) v) (n - 1) 0)) z (h.rule.root_att ∙ ap coded (sym here)));
        homed = λ h j m e.
            let z : h.rule.last ≡ n - 1 = omega (arith, h.rule.size_is) in
            let k : h.rule.last ≡ j = z ∙ only_one j m in
            absurd (no_nine (subst (λ (x : ℕ). T (has (kinds_of an_expression 0) x)) (ap (λ (x : ℕ). (row_at t x).kind) k ∙ e) h.kind));
      }
    where
      no_nine : T (has (kinds_of an_expression 0) 9) → ⊥
      no_nine x = x

      only_one : (j : ℕ) → T (has ((n - 1) ∷ []) j) → n - 1 ≡ j
      only_one j m = go (or_t (eqb (n - 1) j) false m)
        where
          go : T (eqb (n - 1) j) ⊎ T false → n - 1 ≡ j
          go (inl e) = eqb→eq (n - 1) j e
          go (inr e) = absurd e

  -- ---- at a row

  -- the row before i is the last that is to be visited
  record Last (i : ℕ) (js : List ℕ) : Type 0 where
    mid : ℕ
    rest : List ℕ
    are : js ≡ (i - 1) ∷ rest
    tiles : mid + (row_at t (i - 1)).count ≡ i
    pend : Pend t mid rest

  last_of : {i : ℕ} {js : List ℕ} → Pend t i js → 1 ≤ i → Last i js
  last_of pnil l = absurd (omega arith)
  last_of (pmore {mid} {js} i q p) l =
      let z : suc i - 1 ≡ i = omega arith in
      record { mid = mid; rest = js; are = ap (λ (x : ℕ). x ∷ js) (sym z); tiles = subst (λ (x : ℕ). mid + (row_at t x).count ≡ suc i) (sym z) q; pend = p }

  -- no count is 0 where the rule holds
  counts : (h : Full s t text n) → (j : ℕ) → j < n → 1 ≤ (row_at t j).count
  counts h j l = let o = h.rule.nodes j l in count_pos s (rows t) {lo = o.lo} o.tiles o.split

  module _ {D : List ℕ} {i u : ℕ} (w : Walked D i u) (pos : 1 ≤ i) where
    last : Last i w.js
    last = last_of w.pend pos

    abbrev r : ℕ
    r = i - 1

    mine : T (has w.js r)
    mine = subst (λ (l : List ℕ). T (has l r)) (sym last.are) (t_or (eqb r r) (has last.rest r) (inl (eqb_refl r)))

    others : (j : ℕ) → T (has last.rest j) → T (has w.js j)
    others j m = subst (λ (l : List ℕ). T (has l j)) (sym last.are) (t_or (eqb r j) (has last.rest j) (inr m))

    -- the rule at the row, where it holds everywhere
    there : (h : Full s t text n) → Node (Rule s) (rows t) h.rule.att r
    there h = h.rule.nodes r (omega (arith, w.few))

    -- an interpolation begins with `${`
    dollar : (h : Full s t text n) → (j : ℕ) → j < n → (row_at t j).kind ≡ 10 → stands (36 ∷ 123 ∷ []) s (row_at t j).start ≡ true
    dollar h j l e =
        let o = h.rule.nodes j l in
        let d = h.rule.att j in
        let laid : Laid s d (rec_at t j) (map (rec_at t) o.kids) (map h.rule.att o.kids) = subst (λ (b : Bool). rule_as b s d (rec_at t j) (map (rec_at t) o.kids) (map h.rule.att o.kids)) (ne_eqb (row_at t j).kind 9 (λ z. omega arith)) o.local in
        dollar_of s d (rec_at t j) e laid.local

    -- what the rule asks of the row's children beside its own part
    sanes : (h : Holds s t text) (f : Full s t text n) → length t ≡ 7 * n → (lo : ℕ) (js : List ℕ) → lo + (row_at t r).count ≡ suc r → Kids (rows t) lo r js → Sanes s text t (round s (row_at t r).start) js
    sanes h f long lo js e ks = go js (λ j m. sane j (kids_below t ks j m) (λ z. f.pieces r lo js (omega (arith, w.few)) e ks j m z))
      where
        sane : (j : ℕ) → j < r → ((row_at t j).kind ≡ 9 → Texted s text (row_at t r).start (used (row_at t) j) (row_at t j)) → Sane s text t (round s (row_at t r).start) j
        sane j l p = record {
          some = ordered_of s t text n long h j (omega (arith, w.few));
          dollar = λ z. dollar f j (omega (arith, w.few)) z;
          spelt = λ z. spelt_piece s text (row_at t r).start (used (row_at t) j) (row_at t j) (p z) z;
        }

        go : (js : List ℕ) → ((j : ℕ) → T (has js j) → Sane s text t (round s (row_at t r).start) j) → Sanes s text t (round s (row_at t r).start) js
        go [] g = tt
        go (j ∷ js) g = (g j (t_or (eqb j j) (has js j) (inl (eqb_refl j))), go js (λ k m. g k (t_or (eqb j k) (has js k) (inr m))))

    own_word : (f : Full s t text n) → Worded s text t r
    own_word f e = spelt_word s text 0 (used (row_at t) r) (row_at t r) (f.words r (omega (arith, w.few)) (λ z. omega arith)) e

    -- the depth that it was given
    own_depth : (f : Full s t text n) → f.rule.att r ≡ coded (get_or D r 0)
    own_depth f = w.back f r mine

    -- the rule does not hold there: no
    pub row_no : length t ≡ 7 * n → {D' : List ℕ} {b : Bool} → b ≡ false → NodeBy s text t r D D' b → Holds s t text → ⊥
    row_no long z x h =
        let f = full_of s t text n long h in
        let o = there f in
        x.no z o.lo o.kids o.tiles o.split (λ j l. counts f j (omega (arith, w.few))) (sanes h f long o.lo o.kids o.tiles o.split) (own_word f) (map f.rule.att o.kids)
        (subst (λ (d : Depth). Rule s d (rec_at t r) (map (rec_at t) o.kids) (map f.rule.att o.kids)) (own_depth f) o.local)

    -- its text numbers are wrong: no
    pub columns_no : length t ≡ 7 * n → {x : Used} → x.good ≡ false → Columns (row_at t r) u x → Holds s t text → ⊥
    columns_no long z x h =
        let f = full_of s t text n long h in
        let up : suc r ≡ i = omega arith in
        let all = f.all_used in
        let next : used (row_at t) i ≡ used (row_at t) r + taken (row_at t r) = ap (used (row_at t)) (sym up) in
        x.no z (used (row_at t) r) (omega (arith, w.sum)) (placed f)
      where
        placed : Full s t text n → Placed (used (row_at t) r) (row_at t r)
        placed f = go (eqb (row_at t r).kind 9) refl
          where
            -- a piece has a parent, but its numbers do not turn on it
            go : (b : Bool) → eqb (row_at t r).kind 9 ≡ b → Placed (used (row_at t) r) (row_at t r)
            go false e = placed_of s text 0 (used (row_at t) r) (row_at t r) (f.words r (omega (arith, w.few)) (eqb-false (row_at t r).kind 9 e))
            go true e = let (σ, y) = w.homed f r mine (eqb-true (row_at t r).kind 9 e) in placed_of s text σ (used (row_at t) r) (row_at t r) y

    -- both are right: on
    module _ (long : length t ≡ 7 * n) {D' : List ℕ} {b : Bool} (yes : b ≡ true) (x : NodeBy s text t r D D' b) {c : Used} (good : c.good ≡ true) (v : Columns (row_at t r) u c) where
      split : Kids (rows t) x.lo r x.kids
      split = x.split yes

      mid_is : x.lo ≡ last.mid
      mid_is = omega (arith, x.tiles yes, last.tiles)

      old_low : (j : ℕ) → T (has last.rest j) → j < x.lo
      old_low j m = let z = pend_low t last.pend j m in omega (arith, mid_is)

      low_r : x.lo ≤ r
      low_r = kids_low t split

      -- the depths with that of the row put in
      abbrev with_own : (ℕ → Depth) → ℕ → Depth
      with_own att k = cond (eqb k r) (coded (get_or D r 0)) (att k)

      at_own : (att : ℕ → Depth) → with_own att r ≡ coded (get_or D r 0)
      at_own att = ap (λ (o : Bool). cond o (coded (get_or D r 0)) (att r)) (eq-eqb r r refl)

      off_own : (att : ℕ → Depth) (k : ℕ) → ¬ (k ≡ r) → with_own att k ≡ att k
      off_own att k e = ap (λ (o : Bool). cond o (coded (get_or D r 0)) (att k)) (ne_eqb k r e)

      row_fit : (att : ℕ → Depth) → ((j : ℕ) → T (has x.kids j) → att j ≡ coded (get_or D' j 0)) → Fit (with_own att) r
      row_fit att a = record {
        lo = x.lo;
        kids = x.kids;
        tiles = x.tiles yes;
        split = split;
        rule =
            subst (λ (o : List Depth). Rule s (with_own att r) (rec_at t r) (map (rec_at t) x.kids) o)
            (sym (map_same (with_own att) (λ j. coded (get_or D' j 0)) x.kids (λ j m. let l = kids_below t split j m in off_own att j (λ e. omega arith) ∙ a j m)))
            (subst (λ (o : Depth). Rule s o (rec_at t r) (map (rec_at t) x.kids) (depths_at D' x.kids)) (sym (at_own att)) (x.rule yes));
        spelt = x.spelt yes;
        word = x.word yes;
      }

      pub row_on : Walked D' r c.before
      row_on =
          let up : suc r ≡ i = omega arith in
          let few = w.few in
          let next : used (row_at t) i ≡ used (row_at t) r + taken (row_at t r) = ap (used (row_at t)) (sym up) in
          let (before, placed) = v.yes good in
          let sum : c.before + used (row_at t) n ≡ length text + used (row_at t) r = omega (arith, w.sum) in
          record {
            js = onto x.kids last.rest;
            pend = pend_kids t (subst (λ (o : ℕ). Pend t o last.rest) (sym mid_is) last.pend) split;
            few = omega arith;
            sound = λ att a f.
                w.sound (with_own att)
                (λ j m. by_row att a j (or_t (eqb r j) (has last.rest j) (subst (λ (l : List ℕ). T (has l j)) last.are m)))
                (λ k l. by_place att a f k (eqb k r) refl l);
            told = λ k a l. told_at k (eqb k r) refl a l (record { before = c.before; sum = sum; placed = placed });
            sum = sum;
            back = λ h j m. back_at h j (onto_from x.kids last.rest j m);
            homed = λ h j m e. homed_at h j e (onto_from x.kids last.rest j m);
          }
        where
          by_row : (att : ℕ → Depth) → ((j : ℕ) → T (has (onto x.kids last.rest) j) → att j ≡ coded (get_or D' j 0)) → (j : ℕ) → T (eqb r j) ⊎ T (has last.rest j) → with_own att j ≡ coded (get_or D j 0)
          by_row att a j (inl e) = subst (λ (o : ℕ). with_own att o ≡ coded (get_or D o 0)) (eqb→eq r j e) (at_own att)
          by_row att a j (inr m) =
              let l = old_low j m in
              off_own att j (λ e. omega (arith, low_r)) ∙ a j (onto_old x.kids last.rest j m) ∙ ap coded (x.same yes j l)

          by_place : (att : ℕ → Depth) → ((j : ℕ) → T (has (onto x.kids last.rest) j) → att j ≡ coded (get_or D' j 0)) → ((k : ℕ) → k < r → Fit att k) → (k : ℕ) (o : Bool) → eqb k r ≡ o → k < i → Fit (with_own att) k
          by_place att a f k true e l = subst (Fit (with_own att)) (sym (eqb-true k r e)) (row_fit att (λ j m. a j (onto_new x.kids last.rest j m)))
          by_place att a f k false e l =
              let n = eqb-false k r e in
              fit_same att (with_own att) k (λ j z. sym (off_own att j (λ y. n (omega arith)))) (f k (other k n l))
            where
              other : (k : ℕ) → ¬ (k ≡ r) → k < i → k < r
              other k n l = omega arith

          told_at : (k : ℕ) (o : Bool) → eqb k r ≡ o → r ≤ k → k < n → Told r → Told k
          told_at k true e a l y = subst Told (sym (eqb-true k r e)) y
          told_at k false e a l y = let z = eqb-false k r e in w.told k (omega arith) l

          back_at : (h : Full s t text n) (j : ℕ) → T (has x.kids j) ⊎ T (has last.rest j) → h.rule.att j ≡ coded (get_or D' j 0)
          back_at h j (inr m) = w.back h j (others j m) ∙ ap coded (sym (x.same yes j (old_low j m)))
          back_at h j (inl m) =
              let o = there h in
              let lo-is : o.lo ≡ x.lo = omega (arith, o.tiles, x.tiles yes) in
              let ks : Kids (rows t) x.lo r o.kids = subst (λ (y : ℕ). Kids (rows t) y r o.kids) lo-is o.split in
              let same : o.kids ≡ x.kids = kids_same s (rows t) ks split (λ k l. counts h k (omega (arith, w.few))) in
              let rule : Rule s (coded (get_or D r 0)) (rec_at t r) (map (rec_at t) x.kids) (map h.rule.att x.kids) = subst (λ (l : List ℕ). Rule s (coded (get_or D r 0)) (rec_at t r) (map (rec_at t) l) (map h.rule.att l)) same (subst (λ (d : Depth). Rule s d (rec_at t r) (map (rec_at t) o.kids) (map h.rule.att o.kids)) (own_depth h) o.local) in
              sym (map_at (λ j. coded (get_or D' j 0)) h.rule.att x.kids (x.only yes (map h.rule.att x.kids) rule) j m)

          homed_at : (h : Full s t text n) (j : ℕ) → (row_at t j).kind ≡ 9 → T (has x.kids j) ⊎ T (has last.rest j) → (σ : ℕ) × Texted s text σ (used (row_at t) j) (row_at t j)
          homed_at h j e (inl m) = ((row_at t r).start, h.pieces r x.lo x.kids (omega (arith, w.few)) (x.tiles yes) split j m e)
          homed_at h j e (inr m) = w.homed h j (others j m) e

  -- ---- at the end

  -- a text that is not wholly used
  pub end_no : length t ≡ 7 * n → {D : List ℕ} {u : ℕ} → Walked D 0 u → ¬ (u ≡ 0) → Holds s t text → ⊥
  end_no long w z h =
      let f = full_of s t text n long h in
      z (omega (arith, w.sum, f.all_used))

  pub end_yes : length t ≡ 7 * n → {D : List ℕ} {u : ℕ} → Walked D 0 u → u ≡ 0 → length s ≤ most → Formed s → 1 ≤ n → (row_at t (n - 1)).count ≡ n → T (has (kinds_of an_expression 0) (row_at t (n - 1)).kind) → (row_at t (n - 1)).start ≡ 0 → (row_at t (n - 1)).end ≡ length s → Holds s t text
  end_yes long w z short formed pos count kind start end =
      let g = w.sound (λ k. depth 0 false) (λ j m. absurd (let l = pend_low t w.pend j m in omega arith)) (λ k l. absurd (omega arith)) in
      let all : used (row_at t) n ≡ length text = omega (arith, w.sum) in
      let up : n ≡ suc (n - 1) = omega arith in
      of_full s t text n long (record {
        short = short;
        formed = formed;
        rule = record {
          att = g.att;
          last = n - 1;
          size_is = up;
          root_att = g.root;
          root_count = count;
          nodes = λ i l. let f = g.fits i l in record { lo = f.lo; kids = f.kids; tiles = f.tiles; split = f.split; local = f.rule };
        };
        kind = kind;
        start = start;
        end = end;
        words = λ i l e. texted_of s text 0 (used (row_at t) i) (row_at t i) (placed_at all i l) (g.fits i l).word (λ z. absurd (e z));
        pieces = λ i lo js l e ks j m k.
            let f = g.fits i l in
            let lo-is : f.lo ≡ lo = omega (arith, f.tiles) in
            let same : js ≡ f.kids = kids_same s (rows t) ks (subst (λ (y : ℕ). Kids (rows t) y i f.kids) lo-is f.split) (λ k z. positive g k (omega arith)) in
            let below = kids_below t ks j m in
            texted_of s text (row_at t i).start (used (row_at t) j) (row_at t j) (placed_at all j (omega arith)) (λ z. absurd (omega arith)) (λ z. spelt_at f.kids f.spelt j (subst (λ (o : List ℕ). T (has o j)) same m) z);
        all_used = all;
      })
    where
      placed_at : used (row_at t) n ≡ length text → (i : ℕ) → i < n → Placed (used (row_at t) i) (row_at t i)
      placed_at all i l = let y = w.told i (omega arith) l in subst (λ (o : ℕ). Placed o (row_at t i)) (omega (arith, y.sum)) y.placed

      positive : Goal → (k : ℕ) → k < n → 1 ≤ (row_at t k).count
      positive g k l = let f = g.fits k l in count_pos s (rows t) {lo = f.lo} f.tiles f.split

      spelt_at : {m : Mode} (js : List ℕ) → Spelts s text t m js → (j : ℕ) → T (has js j) → (row_at t j).kind ≡ 9 → Spelt m s text (row_at t j).start (row_at t j)
      spelt_at [] h j x k = absurd x
      spelt_at {m} (y ∷ js) (a, h) j x k = go (spelt_at js h j) (or_t (eqb y j) (has js j) x)
        where
          go : (T (has js j) → (row_at t j).kind ≡ 9 → Spelt m s text (row_at t j).start (row_at t j)) → T (eqb y j) ⊎ T (has js j) → Spelt m s text (row_at t j).start (row_at t j)
          go f (inl z) = subst (λ (o : ℕ). (row_at t o).kind ≡ 9 → Spelt m s text (row_at t o).start (row_at t o)) (eqb→eq y j z) a k
          go f (inr z) = f z k
