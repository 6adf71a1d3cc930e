-- The rule at a string, a template and a heredoc.
use Prim.Native.Nat.{ℕ, ◌+◌, ◌/◌, ◌%◌}
use mathlib.Core.Path.{◌≡◌, refl, sym, ap, subst, ◌∙◌}
use mathlib.Core.Bool.{Bool, true, false, cond, ◌&&◌}
use mathlib.Core.Option.{none, some}
use mathlib.Core.List.{List, [], ◌∷◌, map}
use native.Mathlib.Omega.{arith}
use lib.Dec.{eqb, T}
use borrow.Author.Tests.{eqb-true, eq-eqb, ne_eqb}
use mir.Val.{bool_byte}
use Rattle.lexis.specs.Bytes.{byte_at, stands, is_foreign}
use Rattle.lexis.specs.Heredoc.{Opener, opener_at, opener_word, Opened}
use Rattle.lexis.specs.String.{mode_of}
use Rattle.lexis.specs.RunLaws.{stands_one, stands_two, and_left}
use Rattle.engine.specs.Base.{Rec}
use Rattle.engine.specs.BaseLaws.{some_is}
use Rattle.engine.specs.Layout.{move, named}
use Rattle.engine.specs.Rule.{Runs, rfin, rmove, ryes, rno, rrep, rend, Local}
use Rattle.engine.specs.Handed.{Tests, tnil, tcons}
use Rattle.grammar.specs.Moves.{Want, an_expression, Under, Move, to, no, place, round, ident, ending, walk}
use Rattle.grammar.specs.Kinds.{Foreign, Unexpected}
use Rattle.grammar.specs.Layouts.{Layout, layout_of, layouts, plain, text_lay, template_lay, heredoc_lay}
use Rattle.grammar.specs.Hcl.{hcl, under, pick_at}
use Rattle.grammar.specs.TextLaws.{pick_template, pick_heredoc, plain_yes, plain_no, quote_stands, unexpected_is, Worded as Opens, word_opened}
use Rattle.grammar.specs.Published.{Depth, depth_of, wanted, want_of, style_of, Suits, Laid}
use Rattle.checker.specs.Rows.{row_at, rec_at}
use Rattle.checker.specs.Family.{Chain}
use Rattle.checker.specs.Program.{kidless}
use Rattle.checker.specs.Leaf.{is_grown, FirstAt, StringAt}
use Rattle.checker.specs.Lay.{coded, depths_at, Both, Over}
use Rattle.checker.specs.Texts.{Sanes, Spelts, Text, TextBy}
use Rattle.checker.specs.Node.{RuleBy}
use Rattle.checker.proofs.Overs.{over_move, over_yes, over_no}
use Rattle.checker.proofs.Heads.{Headed, headed_of, of_headed, rule_no, sort_is, over_kidless}

-- a dash as a number
pub byte_is : (b : Bool) {x : ℕ} → x ≡ bool_byte b → x ≡ cond b 1 0
byte_is true e = e
byte_is false e = e

-- a text comes to the flag of its layout
text_flag : (s : List ℕ) {b : Under} {σ : ℕ} {ks : List (Rec ℕ)} {n p e φ : ℕ} {rs : List (Rec ℕ)} {bs : List (Under × ℕ)} → Runs (hcl s) (Both s) b σ ks (text_lay n) p e φ rs bs → n ≡ φ
text_flag s (rrep q g d st z w) = text_flag s w
text_flag s (rend g (rmove q h rfin)) = refl

module _ (s text t : List ℕ) (i own : ℕ) (m D : List ℕ) (j : ℕ) where
  abbrev kind : ℕ
  kind = (row_at t i).kind

  abbrev start : ℕ
  start = (row_at t i).start

  abbrev flag : ℕ
  flag = (row_at t i).flag

  abbrev att : Under
  att = under (own / 2) (eqb (own % 2) 1) (want_of kind)

  -- the layout of its kind, and the text behind what stands before it
  pub record Before (k p : ℕ) : Type 0 where
    pub down : (rs : List (Rec ℕ)) (bs : List (Under × ℕ)) → Over s t i (own / 2) (eqb (own % 2) 1) [] (layout_of k) start rs bs → Over s t i (own / 2) (eqb (own % 2) 1) [] (text_lay flag) p rs bs
    pub up : (rs : List (Rec ℕ)) (bs : List (Under × ℕ)) → Over s t i (own / 2) (eqb (own % 2) 1) [] (text_lay flag) p rs bs → Over s t i (own / 2) (eqb (own % 2) 1) [] (layout_of k) start rs bs

  pub text_by : {D' : List ℕ} {p : ℕ} {plain : Bool} {d e : ℕ} {r : Bool} (k : ℕ) → kind ≡ k → ¬ (k ≡ 14) → ¬ (k ≡ 6) → is_grown k ≡ false → pick_at s att start ≡ some k → Before k p → mode_of s plain d e ≡ round s start
      → TextBy s text t i m D D' j p own plain d e r → RuleBy s text t i m D D' j own r
  text_by {D'} {p} {plain} {d} {e} {r} k is n n₆ g pk b mode h = record {
    long = h.long;
    same = h.same;
    rule = λ z js c.
        let (bs, o) = h.yes z js c in
        of_headed s t i own (record {
          below = bs;
          told = sym (h.only z js c bs o);
          sort = k;
          name = ap (λ (x : Bool). name_as x) (ne_eqb kind 14 (λ f. n (sym is ∙ f))) ∙ sym is;
          pick = pk;
          over = b.up (map (rec_at t) js) bs o;
        });
    spelt = λ z js c. subst (λ o. Spelts s text t o js) mode (h.spelt z js c);
    word = λ z f. absurd (n₆ (sym is ∙ f));
    only = λ z js c ds l. let x = headed_of s t i own grown l in h.only z js c x.below (inner js x) ∙ x.told;
    no = λ z js c sane wd ds l. let x = headed_of s t i own grown l in h.no z js c (subst (λ o. Sanes s text t o js) (sym mode) sane) x.below (inner js x);
  }
    where
      name_as : Bool → ℕ
      name_as b = named (hcl s) (cond b 1 0) k

      grown : is_grown kind ≡ false
      grown = ap is_grown is ∙ g

      inner : (js : List ℕ) {ds : List Depth} (x : Headed s t i own (map (rec_at t) js) ds) → Text s t i own p js x.below
      inner js x = b.down (map (rec_at t) js) x.below (subst (λ (o : ℕ). Over s t i (own / 2) (eqb (own % 2) 1) [] (layout_of o) start (map (rec_at t) js) x.below) (sort_is s t i own (λ f. n (sym is ∙ f)) x ∙ is) x.over)

  abbrev Lays : Layout → ℕ → List (Rec ℕ) → List (Under × ℕ) → Type 0
  Lays l p rs bs = Over s t i (own / 2) (eqb (own % 2) 1) [] l p rs bs

  -- a move that is made, and the rest
  past_move : {x : Move} {l : Layout} {p q : ℕ} {rs : List (Rec ℕ)} {bs : List (Under × ℕ)} → place (walk s att start x p) ≡ some q → Lays (move x l) p rs bs → Lays l q rs bs
  past_move {l = l} {rs = rs} {bs} e o = let (y, g, v) = over_move (hcl s) (Both s) o in subst (λ (z : ℕ). Lays l z rs bs) (some_is (sym g ∙ e)) v

  layout_7 : layout_of 7 ≡ template_lay
  unfolding layouts
  layout_7 = refl

  layout_8 : layout_of 8 ≡ heredoc_lay
  unfolding layouts
  layout_8 = refl

  -- ---- a template

  module _ (is : kind ≡ 7) where
    first_7 : {r : Bool} → r ≡ true → FirstAt s 7 start (eqb (own % 2) 1) r → pick_at s (under (own / 2) (eqb (own % 2) 1) an_expression) start ≡ some 7
    first_7 z f = f.yes z (own / 2)

    pick_7 : {r : Bool} → r ≡ true → FirstAt s 7 start (eqb (own % 2) 1) r → pick_at s att start ≡ some 7
    pick_7 z f = subst (λ (k : ℕ). pick_at s (under (own / 2) (eqb (own % 2) 1) (want_of k)) start ≡ some 7) (sym is) (first_7 z f)

    pub template_first_no : {r : Bool} → r ≡ false → FirstAt s 7 start (eqb (own % 2) 1) r → RuleBy s text t i m D D j own false
    template_first_no z f = rule_no s t i own text m D j refl (λ x l. refl) (λ js c sane wd ds l.
        let x = headed_of s t i own (ap is_grown is) l in
        let e : x.sort ≡ 7 = sort_is s t i own (λ g. absurd (omega arith)) x ∙ is in
        f.no z (own / 2) 7 refl (subst (λ (k : ℕ). pick_at s (under (own / 2) (eqb (own % 2) 1) (want_of k)) start ≡ some 7) is (x.pick ∙ ap some e)))

    pub template_flag_no : ¬ (flag ≡ 0) → RuleBy s text t i m D D j own false
    template_flag_no n = rule_no s t i own text m D j refl (λ x l. refl) (λ js c sane wd ds l.
        let x = headed_of s t i own (ap is_grown is) l in
        let e : x.sort ≡ 7 = sort_is s t i own (λ g. absurd (omega arith)) x ∙ is in
        let o = subst (λ (y : Layout). Lays y start (map (rec_at t) js) x.below) (ap layout_of e ∙ layout_7) x.over in
        let (y, g, v) = over_move (hcl s) (Both s) o in
        n (sym (text_flag s v)))

    quote_7 : {r : Bool} → r ≡ true → FirstAt s 7 start (eqb (own % 2) 1) r → byte_at s start ≡ 34
    quote_7 z f = pick_template s (own / 2) (eqb (own % 2) 1) start (first_7 z f)

    pub template_mode : {r : Bool} → r ≡ true → FirstAt s 7 start (eqb (own % 2) 1) r → mode_of s true 0 0 ≡ round s start
    template_mode z f = rw (eq-eqb (byte_at s start) 34 (quote_7 z f))

    pub template_by : {D' : List ℕ} {a r : Bool} → a ≡ true → FirstAt s 7 start (eqb (own % 2) 1) a → flag ≡ 0 → TextBy s text t i m D D' j (start + 1) own true 0 0 r → RuleBy s text t i m D D' j own r
    template_by z f e h =
        let gone : place (walk s att start (plain (34 ∷ [])) start) ≡ some (start + 1) = ap place (plain_yes s att start start (34 ∷ []) (quote_stands s start (quote_7 z f))) in
        text_by 7 is (λ x. omega arith) (λ x. omega arith) refl (pick_7 z f)
        (record {
          down = λ rs bs o. subst (λ (n : ℕ). Lays (text_lay n) (start + 1) rs bs) (sym e) (past_move gone (subst (λ (y : Layout). Lays y start rs bs) layout_7 o));
          up = λ rs bs o. subst (λ (y : Layout). Lays y start rs bs) (sym layout_7) (rmove (start + 1) gone (subst (λ (n : ℕ). Lays (text_lay n) (start + 1) rs bs) e o));
        })
        (template_mode z f) h

  -- ---- a heredoc

  none_some : {A : Type 0} {x : ℕ} → none ≡ some x → A
  none_some {x = x} f = absurd (let z : ◌≡◌ {A = ℕ} 0 1 = cc in omega arith)

  module _ (is : kind ≡ 8) {a : Bool} (yes : a ≡ true) (f : FirstAt s 8 start (eqb (own % 2) 1) a) where
    first_8 : pick_at s (under (own / 2) (eqb (own % 2) 1) an_expression) start ≡ some 8
    first_8 = f.yes yes (own / 2)

    pick_8 : pick_at s att start ≡ some 8
    pick_8 = subst (λ (k : ℕ). pick_at s (under (own / 2) (eqb (own % 2) 1) (want_of k)) start ≡ some 8) (sym is) first_8

    angles : stands (60 ∷ 60 ∷ []) s start ≡ true
    angles = pick_heredoc s (own / 2) (eqb (own % 2) 1) start first_8

    marked : (eqb (byte_at s start) 60 && eqb (byte_at s (start + 1)) 60) ≡ true
    marked = sym (stands_two 60 60 s start refl refl) ∙ angles

    opener_is : opener_at s start ≡ cond (eqb (byte_at s (start + 2)) 45) (opener_word s true (start + 3)) (opener_word s false (start + 2))
    unfolding opener_at
    opener_is = rw marked

    -- the delimiter and its line ending from d on, and the text behind them
    record Opening (o : Opener) : Type 0 where
      dash : Bool
      from : ℕ
      word : Opens s att start dash from o
      down : (rs : List (Rec ℕ)) (bs : List (Under × ℕ)) → Lays heredoc_lay start rs bs → Lays (move (ident ∷ ending ∷ []) (text_lay (cond dash 1 0))) from rs bs
      up : (rs : List (Rec ℕ)) (bs : List (Under × ℕ)) → Lays (move (ident ∷ ending ∷ []) (text_lay (cond dash 1 0))) from rs bs → Lays heredoc_lay start rs bs

    two : place (walk s att start (plain (60 ∷ 60 ∷ [])) start) ≡ some (start + 2)
    two = ap place (plain_yes s att start start (60 ∷ 60 ∷ []) angles)

    opening : Opening (opener_at s start)
    opening = subst (λ (o : Opener). Opening o) (sym opener_is) (go (eqb (byte_at s (start + 2)) 45) refl)
      where
        go : (b : Bool) → eqb (byte_at s (start + 2)) 45 ≡ b → Opening (cond b (opener_word s true (start + 3)) (opener_word s false (start + 2)))
        go true e =
            let z : start + 2 + 1 ≡ start + 3 = omega arith in
            let g : place (walk s att start (plain (45 ∷ [])) (start + 2)) ≡ some (start + 3) = ap place (plain_yes s att start (start + 2) (45 ∷ []) (stands_one 45 s (start + 2) refl ∙ e)) ∙ ap some z in
            record {
              dash = true;
              from = start + 3;
              word = word_opened s att start true (start + 3);
              down = λ rs bs o. over_yes (hcl s) (Both s) g (past_move two o);
              up = λ rs bs o. rmove (start + 2) two (ryes (start + 3) g o);
            }
        go false e =
            let g : place (walk s att start (plain (45 ∷ [])) (start + 2)) ≡ none = ap place (plain_no s att start (start + 2) (45 ∷ []) (stands_one 45 s (start + 2) refl ∙ e) ∙ unexpected_is s (start + 2)) in
            record {
              dash = false;
              from = start + 2;
              word = word_opened s att start false (start + 2);
              down = λ rs bs o. over_no (hcl s) (Both s) g (past_move two o);
              up = λ rs bs o. rmove (start + 2) two (rno g o);
            }

    module _ {o : Opener} (h : Opened (opener_at s start) s start o) where
      here : Opening o
      here = subst (λ (o : Opener). Opening o) (sym h.is) opening

      -- what the rule says of it
      inner : (js : List ℕ) {ds : List Depth} → Laid s (coded own) (rec_at t i) (map (rec_at t) js) ds → (bs : List (Under × ℕ)) × Lays (move (ident ∷ ending ∷ []) (text_lay (cond here.dash 1 0))) here.from (map (rec_at t) js) bs
      inner js l =
          let x = headed_of s t i own (ap is_grown is) l in
          let e : x.sort ≡ 8 = sort_is s t i own (λ g. absurd (omega arith)) x ∙ is in
          (x.below, here.down (map (rec_at t) js) x.below (subst (λ (y : Layout). Lays y start (map (rec_at t) js) x.below) (ap layout_of e ∙ layout_8) x.over))

      pub heredoc_no : o.good ≡ false → RuleBy s text t i m D D j own false
      heredoc_no b = rule_no s t i own text m D j refl (λ x l. refl) (λ js c sane wd ds l.
          let (bs, v) = inner js l in
          let (y, g, w) = over_move (hcl s) (Both s) v in
          let stuck : walk s att start (ident ∷ ending ∷ []) here.from ≡ no (cond (is_foreign (byte_at s o.at)) Foreign Unexpected) o.at = here.word.walks ∙ rw b (unexpected_is s o.at) in
          none_some (sym (ap place stuck) ∙ g))

      pub heredoc_flag_no : o.good ≡ true → ¬ (flag ≡ cond o.dash 1 0) → RuleBy s text t i m D D j own false
      heredoc_flag_no b n = rule_no s t i own text m D j refl (λ x l. refl) (λ js c sane wd ds l.
          let (bs, v) = inner js l in
          let (y, g, w) = over_move (hcl s) (Both s) v in
          n (sym (text_flag s w) ∙ ap (λ (d : Bool). cond d 1 0) (sym (here.word.dash b))))

      pub heredoc_mode : mode_of s false o.from o.to ≡ round s start
      heredoc_mode =
          let c = eqb-true (byte_at s start) 60 (and_left (eqb (byte_at s start) 60) (eqb (byte_at s (start + 1)) 60) marked) in
          rw (ne_eqb (byte_at s start) 34 (λ z. omega arith), h.is)

      pub heredoc_by : {D' : List ℕ} {r : Bool} → o.good ≡ true → flag ≡ cond o.dash 1 0 → TextBy s text t i m D D' j o.at own false o.from o.to r → RuleBy s text t i m D D' j own r
      heredoc_by b e w =
          let φ : cond here.dash 1 0 ≡ flag = ap (λ (d : Bool). cond d 1 0) (sym (here.word.dash b)) ∙ sym e in
          let to-text : walk s att start (ident ∷ ending ∷ []) here.from ≡ to o.at = here.word.walks ∙ rw b in
          let gone : place (walk s att start (ident ∷ ending ∷ []) here.from) ≡ some o.at = ap place to-text in
          text_by 8 is (λ x. omega arith) (λ x. omega arith) refl pick_8
          (record {
            down = λ rs bs v. subst (λ (n : ℕ). Lays (text_lay n) o.at rs bs) φ (past_move gone (here.down rs bs (subst (λ (y : Layout). Lays y start rs bs) layout_8 v)));
            up = λ rs bs v. subst (λ (y : Layout). Lays y start rs bs) (sym layout_8) (here.up rs bs (rmove o.at gone (subst (λ (n : ℕ). Lays (text_lay n) o.at rs bs) (sym φ) v)));
          })
          heredoc_mode w

  pub heredoc_first_no : kind ≡ 8 → {r : Bool} → r ≡ false → FirstAt s 8 start (eqb (own % 2) 1) r → RuleBy s text t i m D D j own false
  heredoc_first_no is z f = rule_no s t i own text m D j refl (λ x l. refl) (λ js c sane wd ds l.
      let x = headed_of s t i own (ap is_grown is) l in
      let e : x.sort ≡ 8 = sort_is s t i own (λ g. absurd (omega arith)) x ∙ is in
      f.no z (own / 2) 8 refl (subst (λ (k : ℕ). pick_at s (under (own / 2) (eqb (own % 2) 1) (want_of k)) start ≡ some 8) is (x.pick ∙ ap some e)))

  -- ---- a string

  layout_6 : T (kidless (layout_of 6))
  unfolding layouts
  layout_6 = tt

  nil_map : (js : List ℕ) → map (rec_at t) js ≡ [] → js ≡ []
  nil_map [] e = refl
  nil_map (x ∷ js) e = absurd (let z : ◌≡◌ {A = ℕ} 0 1 = cc in omega arith)

  chain_end : (js : List ℕ) → js ≡ [] → Chain m i js j → j ≡ i
  chain_end [] e c = c
  chain_end (x ∷ js) e c = absurd (let z : ◌≡◌ {A = ℕ} 0 1 = cc in omega arith)

  chain_none : (js : List ℕ) → Chain m i js j → j ≡ i → js ≡ []
  chain_none [] c e = refl
  chain_none (x ∷ js) (a, up, far, c) e = absurd (omega arith)

  -- it has no children
  pub string_kids : kind ≡ 6 → ¬ (j ≡ i) → RuleBy s text t i m D D j own false
  string_kids is n = rule_no s t i own text m D j refl (λ x l. refl) (λ js c sane wd ds l.
      let x = headed_of s t i own (ap is_grown is) l in
      let e : x.sort ≡ 6 = sort_is s t i own (λ g. absurd (omega arith)) x ∙ is in
      let o = subst (λ (y : ℕ). Lays (layout_of y) start (map (rec_at t) js) x.below) e x.over in
      n (chain_end js (nil_map js (over_kidless s o layout_6)) c))

  pub string_by : {r : Bool} → kind ≡ 6 → j ≡ i → StringAt s text (row_at t i) r → RuleBy s text t i m D D j own r
  string_by {r} is e h = record {
    long = refl;
    same = λ x l. refl;
    rule = λ z js c. subst (λ (l : List ℕ). Laid s (coded own) (rec_at t i) (map (rec_at t) l) (depths_at D l)) (sym (chain_none js c e)) (record {
      below = [];
      depths = refl;
      local = subst (λ (k : ℕ). Local (hcl s) (under (own / 2) (eqb (own % 2) 1) (want_of k), style_of k) (rec_at t i) [] []) (sym is) (h.yes z (own / 2) (eqb (own % 2) 1));
      suits = tnil;
    });
    spelt = λ z js c. subst (Spelts s text t (round s start)) (sym (chain_none js c e)) tt;
    word = λ z f. h.spelt z;
    only = λ z js c ds l.
        let l' = subst (λ (x : List ℕ). Laid s (coded own) (rec_at t i) (map (rec_at t) x) ds) (chain_none js c e) l in
        ap (depths_at D) (chain_none js c e) ∙ ap (map depth_of) (sym (none_below l')) ∙ l'.depths;
    no = λ z js c sane wd ds l.
        let l' = subst (λ (x : List ℕ). Laid s (coded own) (rec_at t i) (map (rec_at t) x) ds) (chain_none js c e) l in
        h.no z (own / 2) (eqb (own % 2) 1) l'.below (subst (λ (k : ℕ). Local (hcl s) (under (own / 2) (eqb (own % 2) 1) (want_of k), style_of k) (rec_at t i) [] l'.below) is l'.local) (wd is);
  }
    where
      none_tests : {xs : List (Want × ℕ)} {rs : List (Rec ℕ)} → rs ≡ [] → Tests (Suits s) xs rs → xs ≡ []
      none_tests e tnil = refl
      none_tests e (tcons x y) = absurd (let z : ◌≡◌ {A = ℕ} 0 1 = cc in omega arith)

      none_map : (bs : List (Under × ℕ)) → map wanted bs ≡ [] → bs ≡ []
      none_map [] e = refl
      none_map (b ∷ bs) e = absurd (let z : ◌≡◌ {A = ℕ} 0 1 = cc in omega arith)

      none_below : {ds : List Depth} (l : Laid s (coded own) (rec_at t i) [] ds) → l.below ≡ []
      none_below l = none_map l.below (none_tests refl l.suits)
