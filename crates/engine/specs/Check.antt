-- For code that checks one node: the rule as a function, `lays`, that goes through a layout over the children's records and finds where the node
-- ends, its flag and the children's attributes. `runs_lays` and `lays_runs`: it is the rule.
use Rattle.std.specs.Prelude.{◌≡◌, refl, Bool, ◌&&◌, List, [], ◌∷◌, ℕ, suc, leb, T}
use Rattle.std.proofs.Common.{ap, sym, ◌∙◌, subst, arith, leb→le, le→leb}
use Rattle.std.proofs.Math.Option.{Option, none, some}
use Rattle.engine.specs.Base.{Rec, given}
use Rattle.engine.specs.Layout.{Lay, bad, fin, move, kid, fork, rep, Lang}
use Rattle.engine.specs.Rule.{Runs, rfin, rmove, rkid, ryes, rno, rrep, rend, Firm}
use Rattle.engine.specs.BaseLaws.{and_t, t_and, some_is, given_t, t_given}

module _ {P B M C : Type 0} (N : Lang P B M C) (eqP : P → P → Bool) where
  abbrev pub Answer : Type 0
  Answer = Option ((P × ℕ) × List (B × ℕ))

  -- a child at a place, and the answer for the rest
  abbrev pub fits : B → C → P → List (Rec P) → P → Rec P → Option B
  fits b c σ ks p r = given (eqP r.start p && leb (suc (N.bound c)) (N.tight r.kind)) (N.down b c σ ks)

  abbrev pub push : B × ℕ → Answer → Answer
  push d none = none
  push d (some x) = some (x.0, d ∷ x.1)

  abbrev pub join : C → Option B → Answer → Answer
  join c none x = none
  join c (some d) x = push (d, N.style c) x

  abbrev pub finish : ℕ → P → List (Rec P) → Answer
  finish φ p [] = some ((p, φ), [])
  finish φ p (r ∷ rs) = none

  abbrev pub onto : Option P → Answer → (P → Answer) → Answer
  onto none x f = x
  onto (some q) x f = f q

  abbrev pub take_kid : B → C → P → List (Rec P) → P → List (Rec P) → (List (Rec P) → P → List (Rec P) → Answer) → Answer
  take_kid b c σ ks p [] f = none
  take_kid b c σ ks p (r ∷ rs) f = join c (fits b c σ ks p r) (f (r ∷ ks) r.end rs)

  abbrev pub again : (List (Rec P) → P → List (Rec P) → Answer) → B → P → List (Rec P) → M → C → List (Rec P) → P → Answer
  again f b σ ks m c [] p = onto (N.go b m σ p) (f ks p []) (λ q. none)
  again f b σ ks m c (r ∷ rs) p = onto (N.go b m σ p) (f ks p (r ∷ rs)) (λ q. join c (fits b c σ ks q r) (again f b σ (r ∷ ks) m c rs r.end))

  abbrev pub lays : B → P → List (Rec P) → Lay M C → P → List (Rec P) → Answer
  lays b σ ks bad p rs = none
  lays b σ ks (fin φ) p rs = finish φ p rs
  lays b σ ks (move m l) p rs = onto (N.go b m σ p) none (λ q. lays b σ ks l q rs)
  lays b σ ks (kid c l) p rs = take_kid b c σ ks p rs (λ hs. lays b σ hs l)
  lays b σ ks (fork m l l') p rs = onto (N.go b m σ p) (lays b σ ks l' p rs) (λ q. lays b σ ks l q rs)
  lays b σ ks (rep m c l) p rs = again (λ hs. lays b σ hs l) b σ ks m c rs p

  module _ (eqP-ok : (p q : P) → T (eqP p q) → p ≡ q) (eqP-refl : (p : P) → T (eqP p p)) where
    onto_is : {o : Option P} {q : P} (x : Answer) (f : P → Answer) → o ≡ some q → onto o x f ≡ f q
    onto_is x f e = rw e

    onto_not : {o : Option P} (x : Answer) (f : P → Answer) → o ≡ none → onto o x f ≡ x
    onto_not x f e = rw e

    fits_is : {b d : B} {σ : P} {ks : List (Rec P)} (c : C) {p : P} (r : Rec P) → N.down b c σ ks ≡ some d → r.start ≡ p → Firm N d c r → fits b c σ ks p r ≡ some d
    fits_is {b} {d} {σ} {ks} c {p} r w s f =
        t_given (eqP r.start p && leb (suc (N.bound c)) (N.tight r.kind)) (N.down b c σ ks) (t_and (eqP r.start p) (leb (suc (N.bound c)) (N.tight r.kind)) (subst (λ (x : P). T (eqP r.start x)) s (eqP-refl r.start))
        (le→leb (suc (N.bound c)) (N.tight r.kind) f)) ∙ w

    joined : {c : C} {o : Option B} {d : B} {x : Answer} {e : P × ℕ} {bs : List (B × ℕ)} → o ≡ some d → x ≡ some (e, bs) → join c o x ≡ some (e, (d, N.style c) ∷ bs)
    joined {d = d} q y = rw (q, y)

    pub runs_lays : {b : B} {σ : P} {ks : List (Rec P)} {l : Lay M C} {p e : P} {φ : ℕ} {rs : List (Rec P)} {bs : List (B × ℕ)} → Runs N (Firm N) b σ ks l p e φ rs bs → lays b σ ks l p rs ≡ some ((e, φ), bs)
    runs_lays rfin = refl
    runs_lays (rmove q g x) = onto_is _ _ g ∙ runs_lays x
    runs_lays (rkid {c} {r = r} w s f x) = joined (fits_is c r w s f) (runs_lays x)
    runs_lays (ryes q g x) = onto_is _ _ g ∙ runs_lays x
    runs_lays (rno g x) = onto_not _ _ g ∙ runs_lays x
    runs_lays (rrep {c = c} {r = r} q g w s f x) = onto_is _ _ g ∙ joined (fits_is c r w s f) (runs_lays x)
    runs_lays {rs = []} (rend g x) = onto_not _ _ g ∙ runs_lays x
    runs_lays {rs = r ∷ rs} (rend g x) = onto_not _ _ g ∙ runs_lays x

    -- ---- and what it answers is laid out so

    fits_inv : (b : B) (c : C) (σ : P) (ks : List (Rec P)) (p : P) (r : Rec P) (d : B) → fits b c σ ks p r ≡ some d → (N.down b c σ ks ≡ some d) × (r.start ≡ p) × Firm N d c r
    fits_inv b c σ ks p r d e =
        let (t, w) = given_t (eqP r.start p && leb (suc (N.bound c)) (N.tight r.kind)) (N.down b c σ ks) d e in
        let (t1, t2) = and_t (eqP r.start p) (leb (suc (N.bound c)) (N.tight r.kind)) t in
        (w, eqP-ok r.start p t1, leb→le (suc (N.bound c)) (N.tight r.kind) t2)

    record Joined (c : C) (o : Option B) (x : Answer) (e : P × ℕ) (bs : List (B × ℕ)) : Type 0 where
      head : B
      tail : List (B × ℕ)
      is : bs ≡ (head, N.style c) ∷ tail
      head_is : o ≡ some head
      tail_is : x ≡ some (e, tail)

    join_inv : (c : C) (o : Option B) (x : Answer) (e : P × ℕ) (bs : List (B × ℕ)) → join c o x ≡ some (e, bs) → Joined c o x e bs
    join_inv c none x e bs q = absurd (let z : ◌≡◌ {A = ℕ} 0 1 = cc in omega arith)
    join_inv c (some d) none e bs q = absurd (let z : ◌≡◌ {A = ℕ} 0 1 = cc in omega arith)
    join_inv c (some d) (some (y, ds)) e bs q =
        let z : ◌≡◌ {A = (P × ℕ) × List (B × ℕ)} (y, (d, N.style c) ∷ ds) (e, bs) = cc in
        let u : y ≡ e = ap (λ (w : (P × ℕ) × List (B × ℕ)). w.0) z in
        record { head = d; tail = ds; is = ap (λ (w : (P × ℕ) × List (B × ℕ)). w.1) (sym z); head_is = refl; tail_is = ap (λ (w : P × ℕ). some (w, ds)) u }

    finish_runs : (b : B) (σ : P) (ks : List (Rec P)) (φ : ℕ) (p e : P) (ψ : ℕ) (rs : List (Rec P)) (bs : List (B × ℕ)) → finish φ p rs ≡ some ((e, ψ), bs) → Runs N (Firm N) b σ ks (fin φ) p e ψ rs bs
    finish_runs b σ ks φ p e ψ [] bs q =
        let z : ◌≡◌ {A = (P × ℕ) × List (B × ℕ)} ((p, φ), []) ((e, ψ), bs) = cc in
        subst (λ (w : (P × ℕ) × List (B × ℕ)). Runs N (Firm N) b σ ks (fin φ) p w.0.0 w.0.1 [] w.1) z rfin
    finish_runs b σ ks φ p e ψ (r ∷ rs) bs q = absurd (let z : ◌≡◌ {A = ℕ} 0 1 = cc in omega arith)

    again_runs : (b : B) (σ : P) (m : M) (c : C) (l : Lay M C)
        → ((ks : List (Rec P)) (p e : P) (φ : ℕ) (rs : List (Rec P)) (bs : List (B × ℕ)) → lays b σ ks l p rs ≡ some ((e, φ), bs) → Runs N (Firm N) b σ ks l p e φ rs bs)
        → (ks rs : List (Rec P)) (p e : P) (φ : ℕ) (bs : List (B × ℕ)) → again (λ hs. lays b σ hs l) b σ ks m c rs p ≡ some ((e, φ), bs) → Runs N (Firm N) b σ ks (rep m c l) p e φ rs bs
    again_runs b σ m c l h ks [] p e φ bs q = go (N.go b m σ p) refl q
      where
        go : (o : Option P) → N.go b m σ p ≡ o → onto o (lays b σ ks l p []) (λ q. none) ≡ some ((e, φ), bs) → Runs N (Firm N) b σ ks (rep m c l) p e φ [] bs
        go none g q = rend g (h ks p e φ [] bs q)
        go (some x) g q = absurd (let z : ◌≡◌ {A = ℕ} 0 1 = cc in omega arith)
    again_runs b σ m c l h ks (r ∷ rs) p e φ bs q = go (N.go b m σ p) refl q (again_runs b σ m c l h (r ∷ ks) rs r.end e φ)
      where
        go : (o : Option P) → N.go b m σ p ≡ o → onto o (lays b σ ks l p (r ∷ rs)) (λ q. join c (fits b c σ ks q r) (again (λ hs. lays b σ hs l) b σ (r ∷ ks) m c rs r.end)) ≡ some ((e, φ), bs)
            → ((bs : List (B × ℕ)) → again (λ hs. lays b σ hs l) b σ (r ∷ ks) m c rs r.end ≡ some ((e, φ), bs) → Runs N (Firm N) b σ (r ∷ ks) (rep m c l) r.end e φ rs bs) → Runs N (Firm N) b σ ks (rep m c l) p e φ (r ∷ rs) bs
        go none g q ih = rend g (h ks p e φ (r ∷ rs) bs q)
        go (some x) g q ih =
            let j = join_inv c (fits b c σ ks x r) (again (λ hs. lays b σ hs l) b σ (r ∷ ks) m c rs r.end) (e, φ) bs q in
            let (w, s, f) = fits_inv b c σ ks x r j.head j.head_is in
            subst (λ (y : List (B × ℕ)). Runs N (Firm N) b σ ks (rep m c l) p e φ (r ∷ rs) y) (sym j.is) (rrep x g w s f (ih j.tail j.tail_is))

    pub lays_runs : (b : B) (σ : P) (ks : List (Rec P)) (l : Lay M C) (p e : P) (φ : ℕ) (rs : List (Rec P)) (bs : List (B × ℕ)) → lays b σ ks l p rs ≡ some ((e, φ), bs) → Runs N (Firm N) b σ ks l p e φ rs bs
    lays_runs b σ ks bad p e φ rs bs q = absurd (let z : ◌≡◌ {A = ℕ} 0 1 = cc in omega arith)
    lays_runs b σ ks (fin ψ) p e φ rs bs q = finish_runs b σ ks ψ p e φ rs bs q
    lays_runs b σ ks (move m l) p e φ rs bs q = go (N.go b m σ p) refl q (λ x. lays_runs b σ ks l x e φ rs bs)
      where
        go : (o : Option P) → N.go b m σ p ≡ o → onto o none (λ q. lays b σ ks l q rs) ≡ some ((e, φ), bs) → ((x : P) → lays b σ ks l x rs ≡ some ((e, φ), bs) → Runs N (Firm N) b σ ks l x e φ rs bs)
            → Runs N (Firm N) b σ ks (move m l) p e φ rs bs
        go none g q ih = absurd (let z : ◌≡◌ {A = ℕ} 0 1 = cc in omega arith)
        go (some x) g q ih = rmove x g (ih x q)
    lays_runs b σ ks (kid c l) p e φ [] bs q = absurd (let z : ◌≡◌ {A = ℕ} 0 1 = cc in omega arith)
    lays_runs b σ ks (kid c l) p e φ (r ∷ rs) bs q =
        let j = join_inv c (fits b c σ ks p r) (lays b σ (r ∷ ks) l r.end rs) (e, φ) bs q in
        let (w, s, f) = fits_inv b c σ ks p r j.head j.head_is in
        subst (λ (y : List (B × ℕ)). Runs N (Firm N) b σ ks (kid c l) p e φ (r ∷ rs) y) (sym j.is) (rkid w s f (lays_runs b σ (r ∷ ks) l r.end e φ rs j.tail j.tail_is))
    lays_runs b σ ks (fork m l l') p e φ rs bs q = go (N.go b m σ p) refl q (λ x. lays_runs b σ ks l x e φ rs bs) (lays_runs b σ ks l' p e φ rs bs)
      where
        go : (o : Option P) → N.go b m σ p ≡ o → onto o (lays b σ ks l' p rs) (λ q. lays b σ ks l q rs) ≡ some ((e, φ), bs) → ((x : P) → lays b σ ks l x rs ≡ some ((e, φ), bs) → Runs N (Firm N) b σ ks l x e φ rs bs)
            → (lays b σ ks l' p rs ≡ some ((e, φ), bs) → Runs N (Firm N) b σ ks l' p e φ rs bs) → Runs N (Firm N) b σ ks (fork m l l') p e φ rs bs
        go none g q ih ih' = rno g (ih' q)
        go (some x) g q ih ih' = ryes x g (ih x q)
    lays_runs b σ ks (rep m c l) p e φ rs bs q = again_runs b σ m c l (λ hs. lays_runs b σ hs l) ks rs p e φ bs q

    -- so where a layout ends, its flag and the children's attributes are known from the records
    pub runs_same : {b : B} {σ : P} {ks : List (Rec P)} {l : Lay M C} {p e e' : P} {φ φ' : ℕ} {rs : List (Rec P)} {bs bs' : List (B × ℕ)} → Runs N (Firm N) b σ ks l p e φ rs bs → Runs N (Firm N) b σ ks l p e' φ' rs bs'
        → ◌≡◌ {A = (P × ℕ) × List (B × ℕ)} ((e, φ), bs) ((e', φ'), bs')
    runs_same {e = e} {e'} {φ} {φ'} {bs = bs} {bs'} x y = some_is (sym (runs_lays x) ∙ runs_lays y)
