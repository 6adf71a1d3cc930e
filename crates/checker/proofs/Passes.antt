-- A child in its place.
use denote.Enum.Bare.{sameb}
use Rattle.grammar.specs.declared.shape.Want as code
use Rattle.grammar.specs.declared.shape.Want.TheVariants as wants
use Rattle.grammar.specs.contracts.shape.Want.{the_type}
use Rattle.grammar.specs.Said.{Child, wanted}
use Prim.Native.Nat.{ℕ, zero, suc, ◌+◌, ◌/◌, ◌%◌, ◌<◌}
use mathlib.Core.Path.{◌≡◌, refl, sym, ap, subst, ◌∙◌}
use mathlib.Core.Bool.{Bool, true, false, cond, not, or-false, ◌&&◌, ◌||◌}
use mathlib.Core.List.{List, [], ◌∷◌, ◌++◌}
use native.Mathlib.Omega.{arith}
use lib.ListN.{length, get_or, set, length-set}
use lib.Dec.{eqb, T}
use borrow.Author.Tests.{eqb-true, eqb-false, not-false}
use Rattle.lexis.specs.Keys.{among, same_key}
use Rattle.index.specs.Index.{Indexed, Inserted}
use Rattle.index.specs.Index as index
use Rattle.lexis.specs.RunLaws.{clash}
use Rattle.engine.specs.Base.{Rec, has}
use Rattle.grammar.specs.Kinds.{tight_of}
use Rattle.grammar.specs.Moves.{Want, an_expression, lone, lones}
use Rattle.grammar.specs.Layouts.{Class, entry}
use Rattle.grammar.specs.Hcl.{under, downs, styles, starts}
use Rattle.grammar.specs.Published.{depth, kinds_of, More}
use Rattle.checker.specs.Rows.{row_at, rec_at}
use Rattle.checker.specs.Program.{class_in}
use Rattle.checker.specs.Leaf.{kinds_by, ChildAt}
use Rattle.checker.specs.Lay.{coded, Both, KeysOf, SuitsAt, Met, MetAt, no_pass, PassedBy, EndsAt}

-- ---- the end of a row

module _ {t : List ℕ} {i j q φ : ℕ} where
  pub ends_no : (j ≡ i → q ≡ (row_at t i).end → φ ≡ (row_at t i).flag → ⊥) → EndsAt t i j q φ false
  ends_no f = record { yes = λ z. clash (sym z); no = λ z. f }

  pub ends_by_lem : (x : ℕ) → x ≡ (row_at t i).flag → j ≡ i → q ≡ (row_at t i).end → EndsAt t i j q φ (eqb φ x)
  ends_by_lem x e a b = record { yes = λ z. (a, b, eqb-true φ x z ∙ e); no = λ z c d f. eqb-false φ x z (f ∙ sym e) }

-- ---- its place and kind

is_t : (b : Bool) → b ≡ true → T b
is_t true e = tt
is_t false e = clash (sym e)

not_t : (b : Bool) → b ≡ false → T b → ⊥
not_t true e h = clash e
not_t false e h = h

module _ {t : List ℕ} {j at n w : ℕ} where
  pub suits_by : {r : Bool} → r ≡ has (kinds_by w) (row_at t j).kind → (row_at t j).start ≡ at → n < tight_of (row_at t j).kind → SuitsAt t j at n w r
  suits_by e a b = record { start = λ z. a; bound = λ z. b; kind = λ z. is_t _ (sym e ∙ z); no = λ z c d f g. not_t _ (sym e ∙ z) g }

  -- it binds too loosely
  pub suits_loose : (n < tight_of (row_at t j).kind → ⊥) → SuitsAt t j at n w false
  suits_loose h = record { start = λ z. clash (sym z); bound = λ z. clash (sym z); kind = λ z. clash (sym z); no = λ z c d f g. h f }

-- ---- its key

or_swap : (a b : Bool) → (a || b) ≡ (b || a)
or_swap true true = refl
or_swap true false = refl
or_swap false true = refl
or_swap false false = refl

or_apart : (a b c : Bool) → (a || (b || c)) ≡ ((a || b) || c)
or_apart true b c = refl
or_apart false b c = refl

among_snoc : (s xs : List ℕ) (a p : ℕ) → among s (xs ++ a ∷ []) p ≡ (among s xs p || same_key s a p)
unfolding among
among_snoc s [] a p = or-false (same_key s a p)
among_snoc s (x ∷ xs) a p = ap (λ (o : Bool). same_key s x p || o) (among_snoc s xs a p) ∙ or_apart (same_key s x p) (among s xs p) (same_key s a p)

among_cons : (s xs : List ℕ) (a p : ℕ) → among s (a ∷ xs) p ≡ (same_key s a p || among s xs p)
unfolding among
among_cons s xs a p = refl

lones_yes : (s : List ℕ) (x : Rec ℕ) (ks : List (Rec ℕ)) → lone s x.start ≡ true → lones s (starts (x ∷ ks)) ≡ x.start ∷ lones s (starts ks)
unfolding lones
lones_yes s x ks e = rw e

lones_no : (s : List ℕ) (x : Rec ℕ) (ks : List (Rec ℕ)) → lone s x.start ≡ false → lones s (starts (x ∷ ks)) ≡ lones s (starts ks)
unfolding lones
lones_no s x ks e = rw e

abbrev met : Bool → ℕ → Met
met b n = record { met = b; keys = n }

-- what a derived `!=` says of an item's want
item_as : (w : code.Want) → not (sameb the_type w wants.Item) ≡ not (eqb (wanted w) 4)
item_as wants.Expression = refl
item_as wants.Name = refl
item_as wants.Part = refl
item_as wants.Condition = refl
item_as wants.Item = refl
item_as wants.Key = refl

module _ {b : Bool} (w : code.Want) (e : b ≡ not (sameb the_type w wants.Item)) where
  pub item_no : b ≡ true → ¬ (wanted w ≡ 4)
  item_no f g = clash (sym f ∙ e ∙ item_as w ∙ ap (λ (x : ℕ). not (eqb x 4)) g)

  pub item_yes : b ≡ false → wanted w ≡ 4
  item_yes f = eqb-true (wanted w) 4 (not-false _ (sym (item_as w) ∙ sym e ∙ f))

module _ (s K : List ℕ) (n p w : ℕ) (ix : Indexed s K 0 n) where
  pub met_other : ¬ (w ≡ 4) → MetAt s K K n p w (met false n)
  met_other f = record { long = refl; few = omega arith; indexed = λ z. ix; new = λ z e. absurd (f e); old = λ z. clash (sym z); kept = λ z e. absurd (f e) }

  pub met_loose : lone s p ≡ false → MetAt s K K n p w (met false n)
  met_loose e = record {
    long = refl;
    few = omega arith;
    indexed = λ z. ix;
    new = λ z f ks k. rw e tt;
    old = λ z. clash (sym z);
    kept = λ z f ks x g k y. k y ∙ ap (λ (o : List ℕ). among s o y) (sym (lones_no s x ks (ap (lone s) g ∙ e)));
  }

  no_both : (a b : Bool) → b ≡ false → T (not (a && b))
  no_both true true e = clash e
  no_both true false e = tt
  no_both false b e = tt

  pub met_new : {K' : List ℕ} → Inserted s K K' 0 n p → lone s p ≡ true → among s (index.starts K 0 n) p ≡ false → MetAt s K K' n p w (met false (n + 1))
  met_new l e g = record {
    long = l.long;
    few = omega arith;
    indexed = λ z. l.indexed;
    new = λ z f ks k. no_both (lone s p) (among s (lones s (starts ks)) p) (sym (k p) ∙ g);
    old = λ z. clash (sym z);
    kept = λ z f ks x h k y.
        ap (λ (o : List ℕ). among s o y) l.starts ∙ among_snoc s (index.starts K 0 n) p y ∙ ap (λ (o : Bool). o || same_key s p y) (k y) ∙ or_swap (among s (lones s (starts ks)) y) (same_key s p y)
        ∙ ap (λ (o : ℕ). same_key s o y || among s (lones s (starts ks)) y) (sym h) ∙ sym (among_cons s (lones s (starts ks)) x.start y) ∙ ap (λ (o : List ℕ). among s o y) (sym (lones_yes s x ks (ap (lone s) h ∙ e)));
  }

-- ---- a depth in one number

pub coded_packed : (v n : ℕ) (l : Bool) → v ≡ n + n + cond l 1 0 → coded v ≡ depth n l
coded_packed v n true e = let a : v / 2 ≡ n = omega arith in let b : v % 2 ≡ 1 = omega arith in rw (a, b)
coded_packed v n false e = let a : v / 2 ≡ n = omega arith in let b : v % 2 ≡ 0 = omega arith in rw (a, b)

-- ---- all together

-- where an item is wanted
item_want : (w : ℕ) → T (has (kinds_by w) 13) → w ≡ 4
item_want zero h = absurd h
item_want (suc zero) h = absurd h
item_want (suc (suc zero)) h = absurd h
item_want (suc (suc (suc zero))) h = absurd h
item_want (suc (suc (suc (suc zero)))) h = refl
item_want (suc (suc (suc (suc (suc n))))) h = absurd h

-- what a child is under, by numbers that are equal
pub child_as : {c n n' : ℕ} {l l' : Bool} {y : Child} → n ≡ n' → l ≡ l' → ChildAt c n l y → ChildAt c n' l' y
child_as {c} {n} {n'} {l} {l'} {y} a b h = subst (λ (x : Bool). ChildAt c n' x y) b (subst (λ (x : ℕ). ChildAt c x l y) a h)

module _ (s t : List ℕ) (i : ℕ) (m D K : List ℕ) (j n c left : ℕ) (lines : Bool) (at : ℕ) where
  -- it is not one
  pub pass_no : {K' : List ℕ} → length K' ≡ length K
      → (j < i → (row_at t j).start ≡ at → (row_at t j).start < (row_at t j).end → (w : Want) (σ : ℕ) (ks : List (Rec ℕ)) → (class_in c ≡ entry → KeysOf s K n ks) → Both s (downs s (under left lines w) (class_in c) σ ks) (class_in c) (rec_at t j) → ⊥)
      → PassedBy s t i m D D K K' j n c left lines at (no_pass n)
  pass_no l f = record {
    long = refl;
    room = l;
    few = omega arith;
    indexed = λ z. clash (sym z);
    still = λ z. refl;
    inside = λ z. clash (sym z);
    start = λ z. clash (sym z);
    end = λ z. clash (sym z);
    next = λ z. clash (sym z);
    value = 0;
    put = λ z. clash (sym z);
    told = λ z. clash (sym z);
    both = λ z. clash (sym z);
    kept = λ z. clash (sym z);
    no = λ z. f;
  }

  module _ {y : Child} (h : ChildAt c left lines y) where
    -- what is tested of its kind, and what is asked
    pub kinds_in : (w : Want) (σ : ℕ) (ks : List (Rec ℕ)) (x : Rec ℕ) → Both s (downs s (under left lines w) (class_in c) σ ks) (class_in c) x → (y.bound < tight_of x.kind) × T (has (kinds_by y.want) x.kind)
    kinds_in w σ ks x (b, u) = (omega (arith, b, h.bound), subst (λ (o : List ℕ). T (has o x.kind)) (h.kinds s w σ ks) u.kind)

    pub pass_suits : {b : Bool} → SuitsAt t j at y.bound y.want b → b ≡ false → PassedBy s t i m D D K K j n c left lines at (no_pass n)
    pass_suits v z = pass_no refl (λ l a f w σ ks k b. let (p, q) = kinds_in w σ ks (rec_at t j) b in v.no z a f p q)

    -- more is asked of an item alone
    more_in : {K' : List ℕ} {x : Met} → MetAt s K K' n (row_at t j).start y.want x → x.met ≡ false → (w : Want) (σ : ℕ) (ks : List (Rec ℕ)) → (class_in c ≡ entry → KeysOf s K n ks) → More s (downs s (under left lines w) (class_in c) σ ks).want (rec_at t j)
    more_in {x = x} v z w σ ks k = go (eqb y.want 4) refl
      where
        go : (b : Bool) → eqb y.want 4 ≡ b → More s (downs s (under left lines w) (class_in c) σ ks).want (rec_at t j)
        go true e =
            let f = eqb-true y.want 4 e in
            let g = h.item f in
            subst (λ (o : Class). More s (downs s (under left lines w) o σ ks).want (rec_at t j)) (sym g) (v.new z f ks (k g))
        go false e = h.plain (eqb-false y.want 4 e) s w σ ks (rec_at t j)

    pub pass_met : {K' : List ℕ} → MetAt s K K' n (row_at t j).start y.want (met true n) → PassedBy s t i m D D K K' j n c left lines at (no_pass n)
    pass_met v =
        pass_no v.long
        (λ l a f w σ ks k b.
        let (q, f') = v.old refl in
        let g = h.item q in
        f' ks (k g) (subst (λ (o : Class). More s (downs s (under left lines w) o σ ks).want (rec_at t j)) g b.1.more))

    pub pass_yes : {b : Bool} {K' : List ℕ} {o v e q : ℕ} → SuitsAt t j at y.bound y.want b → b ≡ true → MetAt s K K' n (row_at t j).start y.want (met false o) → j < i → v ≡ y.left + y.left + cond y.lines 1 0
        → (row_at t j).end ≡ e → get_or m j 0 ≡ q → PassedBy s t i m D (set D j v) K K' j n c left lines at (record { good = true; end = e; next = q; keys = o })
    pass_yes {v = v} u z k l p a b = record {
      long = length-set D j v;
      room = k.long;
      few = k.few;
      indexed = λ z. k.indexed refl;
      still = λ z. clash z;
      inside = λ z. l;
      start = λ o. u.start z;
      end = λ z. a;
      next = λ z. b;
      value = v;
      put = λ z. refl;
      told = λ o w σ n ks. coded_packed v y.left y.lines p ∙ rw (h.left s w σ ks, h.lines s w σ ks);
      both = λ o w σ ks e. (omega (arith, u.bound z, h.bound), record { kind = subst (λ (o : List ℕ). T (has o (row_at t j).kind)) (sym (h.kinds s w σ ks)) (u.kind z); more = more_in k refl w σ ks e });
      kept = λ o ks e c. k.kept refl (want_item e) ks (rec_at t j) refl c;
      no = λ z. clash z;
    }
      where
        want_item : class_in c ≡ entry → y.want ≡ 4
        want_item e = item_want y.want (subst (λ (o : List ℕ). T (has o 13)) (sym (ap (λ (o : Class). kinds_of (downs s (under left lines an_expression) o 0 []).want (styles o)) e) ∙ h.kinds s an_expression 0 []) tt)
