-- The rule at a row, over the children that its counts give.
use Prim.Native.Nat.{ℕ, ◌+◌, ◌%◌, ◌≤◌}
use mathlib.Core.Path.{◌≡◌, refl, sym, ap, subst, ◌∙◌}
use mathlib.Core.Bool.{Bool, true, false}
use mathlib.Core.List.{List, [], ◌∷◌, map}
use native.Mathlib.Omega.{arith}
use lib.ListN.{get_or}
use lib.Dec.{eqb, T}
use borrow.Author.Tests.{eqb-true, eqb-false, eq-eqb, ne_eqb}
use Rattle.lexis.specs.Heredoc.{Opener, opener_at, Opened}
use Rattle.lexis.specs.RunLaws.{clash}
use Rattle.engine.specs.Base.{Rec, has}
use Rattle.engine.specs.Rule.{Kids, knil, kcons}
use Rattle.grammar.specs.Kinds.{tight_of, hold_of}
use Rattle.grammar.specs.declared.picks.Head.{Head}
use Rattle.grammar.specs.Moves.{an_expression, round, to, gap, here, operator, walk}
use Rattle.grammar.specs.Layouts.{layout_of, operator_lay}
use Rattle.grammar.specs.Alone.{NextAt}
use Rattle.grammar.specs.Hcl.{under, follow_at}
use Rattle.grammar.specs.Said.{kind_of, Follow}
use Rattle.grammar.specs.Published.{Depth, Laid, rule_as, Rule}
use Rattle.grammar.specs.RuleTable.{kids_same}
use Rattle.checker.specs.Rows.{row_at, rows, rec_at}
use Rattle.checker.specs.Family.{Linked, Family}
use Rattle.checker.specs.Leaf.{kinds_by, FirstAt}
use Rattle.checker.specs.Lay.{coded, depths_at, LaidBy}
use Rattle.checker.specs.Texts.{Sanes, TextBy}
use Rattle.checker.specs.Node.{RuleBy, SingleBy, LeftAt, Left, no_left, LeftTo, NodeBy}
use Rattle.checker.proofs.Families.{family_none}

-- ---- a left operand

pub is_t : (b : Bool) → b ≡ true → T b
is_t true e = tt
is_t false e = clash (sym e)

pub not_t : (b : Bool) → b ≡ false → T b → ⊥
not_t true e h = clash e
not_t false e h = h

module _ {s t : List ℕ} {i l : ℕ} {lines : Bool} where
  pub left_by : {x : ℕ} {b : Bool} → b ≡ has (kinds_by 0) (row_at t l).kind → b ≡ true → (row_at t l).start ≡ (row_at t i).start → tight_of (row_at t i).kind ≤ hold_of (row_at t l).kind → {p : ℕ} → p ≡ (row_at t l).end → Follow s p lines x → LeftAt s t i l lines (eqb x (row_at t i).kind)
  left_by {x} e y a h {p} q f = record {
    start = λ z. a;
    follows = λ z n. sym (eqb-true x (row_at t i).kind z) ∙ follow n;
    holds = λ z. h;
    kind = λ z. is_t _ (sym e ∙ y);
    no = λ z b c d g k. eqb-false x (row_at t i).kind z (follow 0 ∙ sym (d 0));
  }
    where
      follow : (n : ℕ) → x ≡ kind_of (follow_at s (under n lines an_expression) (row_at t l).end)
      follow n = f n ∙ ap (λ (o : ℕ). kind_of (follow_at s (under n lines an_expression) o)) q

  pub left_to_no : LeftAt s t i l lines false → LeftTo s t i l lines no_left
  left_to_no h = record { left = h; operates = λ z. clash (sym z) }

  -- another operator follows, or none
  pub left_other : {x : ℕ} → ¬ (x ≡ (row_at t i).kind) → LeftAt s t i l lines (eqb x (row_at t i).kind) → LeftTo s t i l lines no_left
  left_other n f = left_to_no (subst (LeftAt s t i l lines) (ne_eqb _ _ n) f)

  pub left_to : {x : Head} {p : ℕ} → x.kind ≡ (row_at t i).kind → p ≡ (row_at t l).end → NextAt s p lines x → LeftAt s t i l lines (eqb x.kind (row_at t i).kind) → LeftTo s t i l lines (record { good = true; end = x.end })
  left_to {x} {p} e q h f = record {
    left = subst (LeftAt s t i l lines) (eq-eqb _ _ e) f;
    operates = λ z n.
        let m : x.end ≡ p → ⊥ = λ y. n (y ∙ q) in
        record {
          goes = λ left σ w. subst (λ (o : ℕ). walk s (under left lines w) σ (gap here ∷ operator o ∷ []) (row_at t l).end ≡ to x.end) e (subst (λ (o : ℕ). walk s (under left lines w) σ (gap here ∷ operator x.kind ∷ []) o ≡ to x.end) q (h.operates m left σ w));
          lays = subst (λ (o : ℕ). layout_of o ≡ operator_lay o (tight_of o)) e (h.lays m);
        };
  }

-- ---- a piece

nil_map : (t js : List ℕ) → map (rec_at t) js ≡ [] → js ≡ []
nil_map t [] e = refl
nil_map t (x ∷ js) e = absurd (let z : ◌≡◌ {A = ℕ} 0 1 = cc in omega arith)

kids_none : (t : List ℕ) {lo hi : ℕ} {js : List ℕ} → js ≡ [] → Kids (rows t) lo hi js → lo ≡ hi
kids_none t e knil = refl
kids_none t e (kcons x q ks) = absurd (let z : ◌≡◌ {A = ℕ} 0 1 = cc in omega arith)

module _ (s text t : List ℕ) (i : ℕ) (D : List ℕ) where
  abbrev kind : ℕ
  kind = (row_at t i).kind

  piece_rule : (rs : List (Rec ℕ)) (ds : List Depth) (d : Depth) → kind ≡ 9 → Rule s d (rec_at t i) rs ds → (rs ≡ []) × (ds ≡ [])
  piece_rule rs ds d e r = subst (λ (b : Bool). rule_as b s d (rec_at t i) rs ds) (eq-eqb kind 9 e) r

  pub node_piece : (x : ℕ) → x ≡ (row_at t i).count → kind ≡ 9 → NodeBy s text t i D D (eqb x 1)
  node_piece x c k = record {
    long = refl;
    lo = i;
    kids = [];
    tiles = λ z. omega (arith, eqb-true x 1 z, c);
    split = λ z. knil;
    same = λ z y l. refl;
    rule = λ z. subst (λ (b : Bool). rule_as b s (coded (get_or D i 0)) (rec_at t i) [] []) (sym (eq-eqb kind 9 k)) (refl, refl);
    spelt = λ z. tt;
    word = λ z e. absurd (omega arith);
    only = λ z ds r. sym (piece_rule [] ds (coded (get_or D i 0)) k r).1;
    no = λ z lo' js e ks pos sane wd ds r.
        let n = kids_none t (nil_map t js (piece_rule (map (rec_at t) js) ds (coded (get_or D i 0)) k r).0) ks in
        eqb-false x 1 z (omega (arith, n, e, c));
  }

  -- ---- any other

  laid_of : (rs : List (Rec ℕ)) (ds : List Depth) (d : Depth) → ¬ (kind ≡ 9) → Rule s d (rec_at t i) rs ds → Laid s d (rec_at t i) rs ds
  laid_of rs ds d n r = subst (λ (b : Bool). rule_as b s d (rec_at t i) rs ds) (ne_eqb kind 9 n) r

  of_laid : (rs : List (Rec ℕ)) (ds : List Depth) (d : Depth) → ¬ (kind ≡ 9) → Laid s d (rec_at t i) rs ds → Rule s d (rec_at t i) rs ds
  of_laid rs ds d n r = subst (λ (b : Bool). rule_as b s d (rec_at t i) rs ds) (sym (ne_eqb kind 9 n)) r

  pub node_lost : {m m' : List ℕ} → Family t i m m' (i + 1) → NodeBy s text t i D D false
  node_lost f = record {
    long = refl;
    lo = 0;
    kids = [];
    tiles = λ z. clash (sym z);
    split = λ z. clash (sym z);
    same = λ z. clash (sym z);
    rule = λ z. clash (sym z);
    spelt = λ z. clash (sym z);
    word = λ z. clash (sym z);
    only = λ z. clash (sym z);
    no = λ z lo' js e ks pos sane wd ds r. f.no (λ y. omega (arith, y)) lo' js e ks pos;
  }

  pub node_by : {m m' D' : List ℕ} {x own : ℕ} {r : Bool} → ¬ (kind ≡ 9) → Family t i m m' x → x ≤ i → own ≡ get_or D i 0 → RuleBy s text t i m' D D' x own r → NodeBy s text t i D D' r
  node_by {m} {m'} {D'} {x} {own} {r} n f le o h =
      let h' : RuleBy s text t i m' D D' x (get_or D i 0) r = subst (λ (y : ℕ). RuleBy s text t i m' D D' x y r) o h in
      record {
        long = h'.long;
        lo = f.lo;
        kids = f.kids;
        tiles = λ z. f.tiles le;
        split = λ z. f.split le;
        same = λ z y u. h'.same y (omega (arith, f.low le));
        rule = λ z. of_laid (map (rec_at t) f.kids) (depths_at D' f.kids) (coded (get_or D i 0)) n (h'.rule z f.kids (f.chain le));
        spelt = λ z. h'.spelt z f.kids (f.chain le);
        word = λ z. h'.word z;
        only = λ z ds r. h'.only z f.kids (f.chain le) ds (laid_of (map (rec_at t) f.kids) ds (coded (get_or D i 0)) n r);
        no = λ z lo' js e ks pos sane wd ds r.
            let lo-same : lo' ≡ f.lo = omega (arith, f.tiles le) in
            let same : js ≡ f.kids = kids_same [] (rows t) ks (subst (λ (y : ℕ). Kids (rows t) y i f.kids) (sym lo-same) (f.split le)) pos in
            h'.no z f.kids (f.chain le) (subst (Sanes s text t (round s (row_at t i).start)) same sane) wd ds (laid_of (map (rec_at t) f.kids) ds (coded (get_or D i 0)) n (subst (λ (y : List ℕ). Rule s (coded (get_or D i 0)) (rec_at t i) (map (rec_at t) y) ds) same r));
      }

  -- a row that one look tells
  pub node_single : (m : List ℕ) {own : ℕ} {lines y : Bool} → (row_at t i).count ≡ 1 → own ≡ get_or D i 0 → lines ≡ eqb (own % 2) 1 → SingleBy s t i lines (record { sure = true; yes = y }) → NodeBy s text t i D D y
  node_single m {own} e o l h = node_by (h.other refl) (family_none t m i e) (omega arith) o (h.rule refl own l text m D)

  pub family_linked : {m m' : List ℕ} {x : ℕ} → Family t i m m' x → x ≤ i → Linked m' i x
  family_linked f l = record { js = f.kids; chain = f.chain l }

-- ---- what was asked with numbers that are equal

pub first_as : {s : List ℕ} {k p p' : ℕ} {l l' r : Bool} → p ≡ p' → l ≡ l' → FirstAt s k p l r → FirstAt s k p' l' r
first_as {s} {k} {p} {p'} {l} {l'} {r} a b h = subst (λ (x : Bool). FirstAt s k p' x r) b (subst (λ (x : ℕ). FirstAt s k x l r) a h)

pub left_as : {s t : List ℕ} {i j : ℕ} {l l' : Bool} {r : Left} → l ≡ l' → LeftTo s t i j l r → LeftTo s t i j l' r
left_as {s} {t} {i} {j} {l} {l'} {r} a h = subst (λ (x : Bool). LeftTo s t i j x r) a h

pub laid_as : {s t : List ℕ} {i : ℕ} {m D D' : List ℕ} {j p p' n n' : ℕ} {l l' r : Bool} → p ≡ p' → n ≡ n' → l ≡ l' → LaidBy s t i m D D' j p n l r → LaidBy s t i m D D' j p' n' l' r
laid_as {s} {t} {i} {m} {D} {D'} {j} {p} {p'} {n} {n'} {l} {l'} {r} a b c h =
    subst (λ (x : Bool). LaidBy s t i m D D' j p' n' x r) c (subst (λ (x : ℕ). LaidBy s t i m D D' j p' x l r) b (subst (λ (x : ℕ). LaidBy s t i m D D' j x n l r) a h))

pub text_as_lem : {s text t : List ℕ} {i : ℕ} {m D D' : List ℕ} {j p p' own : ℕ} {plain : Bool} {d e : ℕ} {r : Bool} → p ≡ p' → TextBy s text t i m D D' j p own plain d e r → TextBy s text t i m D D' j p' own plain d e r
text_as_lem {s} {text} {t} {i} {m} {D} {D'} {j} {p} {p'} {own} {plain} {d} {e} {r} a h = subst (λ (x : ℕ). TextBy s text t i m D D' j x own plain d e r) a h

pub opened_as : {s : List ℕ} {p p' : ℕ} {o : Opener} → p ≡ p' → Opened (opener_at s p) s p o → Opened (opener_at s p') s p' o
opened_as {s} {p} {p'} {o} a h = subst (λ (x : ℕ). Opened (opener_at s x) s x o) a h
