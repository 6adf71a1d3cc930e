-- The text of a template or heredoc under way: what holds whenever the loop of `texts` begins a turn, and what each child does.
use Prim.Native.Nat.{ℕ, ◌/◌, ◌%◌, ◌≤◌, ◌<◌}
use mathlib.Core.Path.{◌≡◌, refl, sym, ap, subst, ◌∙◌}
use mathlib.Core.Bool.{Bool, true, false}
use mathlib.Core.Option.{Option, none, some}
use mathlib.Core.List.{List, [], ◌∷◌, ◌++◌, map, append_assoc, append-nil}
use native.Mathlib.Omega.{arith}
use lib.ListN.{length, get_or, set, length-set}
use lib.Seq.{get_or-set_same, get_or-set_other}
use lib.Dec.{eqb, ltb, ltb→lt, T}
use Rattle.lexis.specs.String.{mode_of}
use Rattle.lexis.specs.RunLaws.{clash}
use Rattle.engine.specs.Base.{Rec, has}
use Rattle.engine.specs.BaseLaws.{some_is, has_all}
use Rattle.engine.specs.Rule.{rfin, rmove, rrep, rend}
use Rattle.grammar.specs.Kinds.{tight_of}
use Rattle.grammar.specs.Moves.{a_piece, Under, place, more, close, round, walk}
use Rattle.grammar.specs.Layouts.{piecewise, text_lay}
use Rattle.grammar.specs.Hcl.{hcl, under}
use Rattle.grammar.specs.TextLaws.{more_stays}
use Rattle.grammar.specs.Published.{Depth, depth_of, want_of, Suits}
use Rattle.checker.specs.Rows.{row_at, rec_at}
use Rattle.checker.specs.Family.{Chain}
use Rattle.checker.specs.Lay.{coded, depths_at, Both, Over}
use Rattle.checker.specs.Texts.{ShutsAt, StrandAt, Sanes, Spelts, Text, TextBy}
use Rattle.checker.proofs.Overs.{over_fin, over_move, over_rep, over_end}
use Rattle.checker.proofs.Lays.{Below, below_snoc, depths_set, depths_snoc, told_snoc, chain_same, next_of, none_left}

tight_two : (k : ℕ) → T (has (9 ∷ 10 ∷ []) k) → 8 < tight_of k
tight_two k h = ltb→lt 8 (tight_of k) (has_all (λ k. ltb 8 (tight_of k)) (9 ∷ 10 ∷ []) tt k h)

module _ (s text t : List ℕ) (i own : ℕ) (plain : Bool) (d e : ℕ) where
  abbrev start : ℕ
  start = (row_at t i).start

  abbrev att : Under
  att = under (own / 2) (eqb (own % 2) 1) (want_of (row_at t i).kind)

  -- the text from q on, over children, after others
  abbrev Rest : List (Rec ℕ) → ℕ → List (Rec ℕ) → List (Under × ℕ) → Type 0
  Rest ks q rs bs = Over s t i (own / 2) (eqb (own % 2) 1) ks (text_lay (row_at t i).flag) q rs bs

  -- what a child is under
  abbrev inner : Under
  inner = under (own / 2) (eqb (own % 2) 1) (a_piece start)

  pub record Turn (m D₀ D : List ℕ) (j₀ p₀ q j : ℕ) : Type 0 where
    pub js₀ : List ℕ
    pub past : List ℕ
    pub js : List ℕ
    pub first : Chain m i js₀ j₀
    pub chain : Chain m i js j
    pub are : js₀ ≡ past ++ js
    pub below : Below past j
    pub up : j₀ ≤ j
    pub long : length D ≡ length D₀
    pub same : (x : ℕ) → x < j₀ → get_or D x 0 ≡ get_or D₀ x 0
    pub spelt : Spelts s text t (mode_of s plain d e) past
    pub done : List (Under × ℕ)
    pub ks : List (Rec ℕ)
    pub told : depths_at D past ≡ map depth_of done
    pub on : (bs : List (Under × ℕ)) → Rest ks q (map (rec_at t) js) bs → Text s t i own p₀ js₀ (done ++ bs)
    pub back : (bs : List (Under × ℕ)) → Text s t i own p₀ js₀ bs → (bs' : List (Under × ℕ)) × (bs ≡ done ++ bs') × Rest ks q (map (rec_at t) js) bs'

  pub turn_start : {m D : List ℕ} {j p : ℕ} (js : List ℕ) → Chain m i js j → Turn m D D j p p j
  turn_start js c = record {
    js₀ = js;
    past = [];
    js = js;
    first = c;
    chain = c;
    are = refl;
    below = tt;
    up = omega arith;
    long = refl;
    same = λ x l. refl;
    spelt = tt;
    done = [];
    ks = [];
    told = refl;
    on = λ bs w. w;
    back = λ bs w. (bs, refl, w);
  }

  spelts_snoc : (xs : List ℕ) (j : ℕ) → Spelts s text t (mode_of s plain d e) xs → Spelts s text t (mode_of s plain d e) (j ∷ []) → Spelts s text t (mode_of s plain d e) (xs ++ j ∷ [])
  spelts_snoc [] j a b = b
  spelts_snoc (x ∷ xs) j (a, r) b = (a, spelts_snoc xs j r b)

  sanes_rest : (xs ys : List ℕ) → Sanes s text t (mode_of s plain d e) (xs ++ ys) → Sanes s text t (mode_of s plain d e) ys
  sanes_rest [] ys h = h
  sanes_rest (x ∷ xs) ys (a, h) = sanes_rest xs ys h

  none_some : {A : Type 0} {x : ℕ} → none ≡ some x → A
  none_some {x = x} f = absurd (let z : ◌≡◌ {A = ℕ} 0 1 = cc in omega arith)

  nil_cons : {A : Type 0} {x : Rec ℕ} {xs : List (Rec ℕ)} → x ∷ xs ≡ [] → A
  nil_cons {x = x} {xs} f = absurd (let z : ◌≡◌ {A = ℕ} 0 1 = cc in omega arith)

  head_of : {x y : Rec ℕ} {xs ys : List (Rec ℕ)} → x ∷ xs ≡ y ∷ ys → x ≡ y
  head_of {x = x} {y} {xs} {ys} e = cc

  tail_of_lem : {x y : Rec ℕ} {xs ys : List (Rec ℕ)} → x ∷ xs ≡ y ∷ ys → xs ≡ ys
  tail_of_lem {x = x} {y} {xs} {ys} e = cc

  abbrev gone : ℕ → Option ℕ
  gone q = place (walk s att start (more ∷ []) q)

  -- over no children the text ends at once
  record AtShut (q : ℕ) (bs : List (Under × ℕ)) : Type 0 where
    no_more : gone q ≡ none
    closed : place (walk s att start (close ∷ []) q) ≡ some (row_at t i).end
    atts : bs ≡ []

  shut_of : (ks : List (Rec ℕ)) (q : ℕ) (bs : List (Under × ℕ)) → Rest ks q [] bs → AtShut q bs
  shut_of ks q bs o = go (gone q) refl
    where
      go : (x : Option ℕ) → gone q ≡ x → AtShut q bs
      go none f =
          let (p, g, v) = over_move (hcl s) (Both s) (over_end (hcl s) (Both s) f o) in
          let z = over_fin (hcl s) (Both s) v in
          record { no_more = f; closed = g ∙ ap some z.end; atts = z.atts }
      go (some p) f = let v = over_rep (hcl s) (Both s) f o in nil_cons (sym v.are)

  module _ {m D₀ D : List ℕ} {j₀ p₀ q j : ℕ} (w : Turn m D₀ D j₀ p₀ q j) (mode : mode_of s plain d e ≡ round s start) where
    text_no : ((bs : List (Under × ℕ)) → Sanes s text t (mode_of s plain d e) w.js → Rest w.ks q (map (rec_at t) w.js) bs → ⊥) → TextBy s text t i m D₀ D j₀ p₀ own plain d e false
    text_no f = record {
      long = w.long;
      same = w.same;
      yes = λ z. clash (sym z);
      spelt = λ z. clash (sym z);
      only = λ z. clash (sym z);
      no = λ z js c sane bs o.
          let e' : js ≡ w.js₀ = chain_same m i js w.js₀ j₀ c w.first in
          let (bs', g, x) = w.back bs (subst (λ (l : List ℕ). Text s t i own p₀ l bs) e' o) in
          f bs' (sanes_rest w.past w.js (subst (Sanes s text t (mode_of s plain d e)) (e' ∙ w.are) sane)) x;
    }

    -- no child is left
    pub text_shut : (r : Bool) → j ≡ i → ShutsAt s q plain d e (row_at t i).end r → TextBy s text t i m D₀ D j₀ p₀ own plain d e r
    text_shut false a h = text_no (λ bs sane o.
        let v = shut_of w.ks q bs (subst (λ (l : List ℕ). Rest w.ks q (map (rec_at t) l) bs) (none_left m i w.js j w.chain a) o) in
        h.no refl att start mode v.no_more v.closed)
    text_shut true a h =
        let none-are : w.js ≡ [] = none_left m i w.js j w.chain a in
        let all : w.js₀ ≡ w.past = w.are ∙ ap (λ (l : List ℕ). w.past ++ l) none-are ∙ append-nil w.past in
        let (n, c) = h.yes refl att start mode in
        let end : Rest w.ks q [] [] = rend n (rmove (row_at t i).end c rfin) in
        let whole : Text s t i own p₀ w.js₀ (w.done ++ []) = w.on [] (subst (λ (l : List ℕ). Rest w.ks q (map (rec_at t) l) []) (sym none-are) end) in
        record {
          long = w.long;
          same = w.same;
          yes = λ z js x. (w.done ++ [], subst (λ (l : List ℕ). Text s t i own p₀ l (w.done ++ [])) (sym (chain_same m i js w.js₀ j₀ x w.first)) whole);
          spelt = λ z js x. subst (Spelts s text t (mode_of s plain d e)) (sym (chain_same m i js w.js₀ j₀ x w.first ∙ all)) w.spelt;
          only = λ z js x bs o.
              let e' : js ≡ w.js₀ = chain_same m i js w.js₀ j₀ x w.first in
              let (bs', g, y) = w.back bs (subst (λ (l : List ℕ). Text s t i own p₀ l bs) e' o) in
              let v = shut_of w.ks q bs' (subst (λ (l : List ℕ). Rest w.ks q (map (rec_at t) l) bs') none-are y) in
              let k : bs ≡ w.done = g ∙ ap (λ (l : List (Under × ℕ)). w.done ++ l) v.atts ∙ append-nil w.done in
              ap (depths_at D) (e' ∙ all) ∙ w.told ∙ ap (map depth_of) (sym k);
          no = λ z. clash z;
        }

    -- a child that is none
    pub text_strand_no : ¬ (j ≡ i) → j ≤ i → StrandAt s text t j q plain d e false → TextBy s text t i m D₀ D j₀ p₀ own plain d e false
    text_strand_no a l h = text_no (λ bs sane o.
        let y = next_of m i w.js j w.chain (omega arith) in
        let full = subst (Sanes s text t (mode_of s plain d e)) y.are sane in
        let o' = subst (λ (l : List ℕ). Rest w.ks q (map (rec_at t) l) bs) y.are o in
        go y.rest full bs o' (gone q) refl)
      where
        go : (rest : List ℕ) → Sanes s text t (mode_of s plain d e) (j ∷ rest) → (bs : List (Under × ℕ)) → Rest w.ks q (rec_at t j ∷ map (rec_at t) rest) bs → (x : Option ℕ) → gone q ≡ x → ⊥
        go rest full bs o none f =
            let (p, g, v) = over_move (hcl s) (Both s) (over_end (hcl s) (Both s) f o) in
            nil_cons (over_fin (hcl s) (Both s) v).rest
        go rest full bs o (some p) f =
            let v = over_rep (hcl s) (Both s) f o in
            let c : rec_at t j ≡ v.child = head_of v.are in
            let u : v.att ≡ inner = sym (some_is v.down) in
            let st : (row_at t j).start ≡ q = ap (λ (x : Rec ℕ). x.start) c ∙ v.start ∙ more_stays s att start q p f in
            let su : Suits s (a_piece start, 0) (rec_at t j) = subst (λ (x : Rec ℕ). Suits s (a_piece start, 0) x) (sym c) (subst (λ (x : Under). Suits s (x.want, 0) v.child) u v.test.1) in
            h.no refl st full.0 att start mode su p f

    -- a piece or an interpolation
    pub text_strand : ¬ (j ≡ i) → j ≤ i → i < length D → StrandAt s text t j q plain d e true → Turn m D₀ (set D j own) j₀ p₀ (row_at t j).end (get_or m j 0)
    text_strand a l deep h =
        let y = next_of m i w.js j w.chain (omega arith) in
        let up = y.up in
        let su = h.suits refl start mode in
        let both : Both s inner piecewise (rec_at t j) = (tight_two (row_at t j).kind su.kind, su) in
        let yes = h.goes refl att start mode in
        record {
          js₀ = w.js₀;
          past = w.past ++ j ∷ [];
          js = y.rest;
          first = w.first;
          chain = y.chain;
          are = w.are ∙ ap (λ (x : List ℕ). w.past ++ x) y.are ∙ sym (append_assoc w.past (j ∷ []) y.rest);
          below = below_snoc w.past j (get_or m j 0) up w.below;
          up = omega (arith, w.up);
          long = length-set D j own ∙ w.long;
          same = λ x u. get_or-set_other D j x own 0 (λ (e : x ≡ j). omega (arith, w.up)) ∙ w.same x u;
          spelt = spelts_snoc w.past j w.spelt (λ k. h.spelt refl k, tt);
          done = w.done ++ (inner, 0) ∷ [];
          ks = rec_at t j ∷ w.ks;
          told =
              depths_snoc (set D j own) w.past j
              ∙ ap (λ (o : List Depth). o ++ coded (get_or (set D j own) j 0) ∷ []) (depths_set D j own w.past w.below ∙ w.told)
              ∙ ap (λ (o : ℕ). map depth_of w.done ++ coded o ∷ []) (get_or-set_same D j own 0 (omega arith))
              ∙ sym (told_snoc w.done (inner, 0));
          on = λ bs o.
              let n : Rest w.ks q (rec_at t j ∷ map (rec_at t) y.rest) ((inner, 0) ∷ bs) = rrep q yes refl (h.start refl) both o in
              subst (λ (x : List (Under × ℕ)). Text s t i own p₀ w.js₀ x) (sym (append_assoc w.done ((inner, 0) ∷ []) bs)) (w.on ((inner, 0) ∷ bs) (subst (λ (x : List ℕ). Rest w.ks q (map (rec_at t) x) ((inner, 0) ∷ bs)) (sym y.are) n));
          back = λ bs o.
              let (bs', g, x) = w.back bs o in
              let k = over_rep (hcl s) (Both s) yes (subst (λ (x : List ℕ). Rest w.ks q (map (rec_at t) x) bs') y.are x) in
              let c : k.child ≡ rec_at t j = sym (head_of k.are) in
              let r : k.rest ≡ map (rec_at t) y.rest = sym (tail_of_lem k.are) in
              let u : k.att ≡ inner = sym (some_is k.down) in
              let b : bs' ≡ (inner, 0) ∷ k.atts = k.from ∙ ap (λ (o : Under). (o, 0) ∷ k.atts) u in
              let on₁ = subst (λ (o : Rec ℕ). Rest (o ∷ w.ks) o.end k.rest k.atts) c k.on in
              (k.atts, g ∙ ap (λ (o : List (Under × ℕ)). w.done ++ o) b ∙ sym (append_assoc w.done ((inner, 0) ∷ []) k.atts), subst (λ (o : List (Rec ℕ)). Rest (rec_at t j ∷ w.ks) (row_at t j).end o k.atts) r on₁);
        }

    -- as the code says it
    pub do_shut : {r : Bool} (x : ℕ) → x ≡ (row_at t i).end → j ≡ i → ShutsAt s q plain d e x r → TextBy s text t i m D₀ D j₀ p₀ own plain d e r
    do_shut {r} x f a h = text_shut r a (subst (λ (y : ℕ). ShutsAt s q plain d e y r) f h)

    pub do_strand_no : {r : Bool} → r ≡ false → ¬ (j ≡ i) → j ≤ i → StrandAt s text t j q plain d e r → TextBy s text t i m D₀ D j₀ p₀ own plain d e false
    do_strand_no f a l h = text_strand_no a l (subst (λ (y : Bool). StrandAt s text t j q plain d e y) f h)

    pub do_strand : {r : Bool} {x y : ℕ} → r ≡ true → ¬ (j ≡ i) → j ≤ i → i < length D → StrandAt s text t j q plain d e r → x ≡ (row_at t j).end → y ≡ get_or m j 0 → Turn m D₀ (set D j own) j₀ p₀ x y
    do_strand {x = x} {y} f a l deep h u v =
        subst (λ (o : ℕ). Turn m D₀ (set D j own) j₀ p₀ o y) (sym u)
        (subst (λ (o : ℕ). Turn m D₀ (set D j own) j₀ p₀ (row_at t j).end o) (sym v) (text_strand a l deep (subst (λ (y : Bool). StrandAt s text t j q plain d e y) f h)))
