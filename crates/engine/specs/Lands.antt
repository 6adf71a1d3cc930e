-- For code that checks one node with no case split at each step: the place moves on through the layout, or is none, and stays none. `lands` is
-- the rule at a node as such straight code computes it; a kind whose layout has no option is one equation of it.
--
--     lands_runs, runs_lands          it is the rule
--     first_local, local_first        the rule at a node that stands first; later_local, local_later: at an operator
--     Same, runs_only, local_only     all children have one attribute
--     only, lands_only                how many children a layout with no option has, by computation
use Rattle.std.specs.Prelude.{◌≡◌, refl, Bool, true, false, ◌&&◌, ◌⊎◌, List, [], ◌∷◌, ℕ, zero, suc, ◌≤◌, leb, T, length}
use Rattle.std.proofs.Common.{ap, sym, ◌∙◌, subst, inl, inr, arith}
use Rattle.std.proofs.Math.Option.{Option, none, some}
use Rattle.engine.specs.Base.{Rec, via, given}
use Rattle.engine.specs.Layout.{Lay, bad, fin, move, kid, fork, rep, Lang, named}
use Rattle.engine.specs.Rule.{Runs, rfin, rmove, rkid, ryes, rno, rrep, rend, Firm, Local, first, later}
use Rattle.engine.specs.Check.{Answer, push, join, onto, lays, runs_lays, lays_runs}
use Rattle.engine.specs.Forest.{Only, none_but, and_on}

abbrev pub is_some : {B : Type 0} → Option B → Bool
is_some none = false
is_some (some b) = true

module _ {P B M C : Type 0} (N : Lang P B M C) where
  -- each child that the layout has, in a node that starts at σ, gets the attribute v
  abbrev pub Same : B → B × ℕ → P → Lay M C → Type 0
  Same b v σ bad = Unit {0}
  Same b v σ (fin φ) = Unit {0}
  Same b v σ (move m l) = Same b v σ l
  Same b v σ (kid c l) = ((ks : List (Rec P)) (d : B) → N.down b c σ ks ≡ some d → (d, N.style c) ≡ v) × Same b v σ l
  Same b v σ (fork m l l') = Same b v σ l × Same b v σ l'
  Same b v σ (rep m c l) = ((ks : List (Rec P)) (d : B) → N.down b c σ ks ≡ some d → (d, N.style c) ≡ v) × Same b v σ l

  pub runs_only : {Z : B → C → Rec P → Type 0} {b : B} {v : B × ℕ} {σ : P} {ks : List (Rec P)} {l : Lay M C} {p e : P} {φ : ℕ} {rs : List (Rec P)} {bs : List (B × ℕ)} → Runs N Z b σ ks l p e φ rs bs → Same b v σ l → Only v bs
  runs_only rfin s = none_but
  runs_only (rmove q g x) s = runs_only x s
  runs_only (rkid {d = d} w st z x) s = and_on (s.0 _ d w) (runs_only x s.1)
  runs_only (ryes q g x) s = runs_only x s.0
  runs_only (rno g x) s = runs_only x s.1
  runs_only (rrep {d = d} q g w st z x) s = and_on (s.0 _ d w) (runs_only x s)
  runs_only (rend g x) s = runs_only x s.1

  runs_length : {Z : B → C → Rec P → Type 0} {b : B} {σ : P} {ks : List (Rec P)} {l : Lay M C} {p e : P} {φ : ℕ} {rs : List (Rec P)} {bs : List (B × ℕ)} → Runs N Z b σ ks l p e φ rs bs → length bs ≡ length rs
  runs_length rfin = refl
  runs_length (rmove q g x) = runs_length x
  runs_length (rkid w st z x) = omega (arith, runs_length x)
  runs_length (ryes q g x) = runs_length x
  runs_length (rno g x) = runs_length x
  runs_length (rrep q g w st z x) = omega (arith, runs_length x)
  runs_length (rend g x) = runs_length x

  pub local_length : {a : B × ℕ} {r : Rec P} {rs : List (Rec P)} {bs : List (B × ℕ)} → Local N a r rs bs → length bs ≡ length rs
  local_length (first k i q x) = runs_length x
  local_length (later k i s q h x) = omega (arith, runs_length x)

  -- no operator's kind has this name in the style n; no first kind has
  abbrev pub NoOp : B → ℕ → ℕ → Type 0
  NoOp b n x = (k : ℕ) → named N n k ≡ x → (p : P) → ¬ (N.op_at b p ≡ some k)

  abbrev pub NoPick : B → ℕ → ℕ → Type 0
  NoPick b n x = (k : ℕ) → named N n k ≡ x → (p : P) → ¬ (N.pick b p ≡ some k)

  pub local_only : {b : B} {n : ℕ} {r : Rec P} {rs : List (Rec P)} {bs : List (B × ℕ)} (v : B × ℕ) → Local N (b, n) r rs bs → NoOp b n r.kind ⊎ ((b, 0) ≡ v)
      → ((k : ℕ) → named N n k ≡ r.kind → Same b v r.start (N.layout k)) → Only v bs
  local_only v (first k i q x) o s = runs_only x (s k i)
  local_only v (later {l = l} k i st q h x) (inl f) s = absurd (f k i l.end q)
  local_only {b} v (later k i st q h x) (inr e) s = and_on e (runs_only x (subst (λ (σ : P). Same b v σ (N.layout k)) (sym st) (s k i)))

  module _ (eqP : P → P → Bool) where
    abbrev pub takes : B → C → P → List (Rec P) → Option P → Rec P → Option P
    takes b c σ ks o r = via o (λ p. given (is_some (N.down b c σ ks)) (given (eqP r.start p && leb (suc (N.bound c)) (N.tight r.kind)) (some r.end)))

    abbrev pub firstO : Answer N eqP → Option (P × ℕ)
    firstO none = none
    firstO (some x) = some x.0

    abbrev pub lands : B → P → List (Rec P) → Lay M C → Option P → List (Rec P) → Option (P × ℕ)
    lands b σ ks bad o rs = none
    lands b σ ks (fin φ) o [] = via o (λ p. some (p, φ))
    lands b σ ks (fin φ) o (r ∷ rs) = none
    lands b σ ks (move m l) o rs = lands b σ ks l (via o (N.go b m σ)) rs
    lands b σ ks (kid c l) o [] = none
    lands b σ ks (kid c l) o (r ∷ rs) = lands b σ (r ∷ ks) l (takes b c σ ks o r) rs
    lands b σ ks (fork m l l') o rs = via o (λ p. firstO (lays N eqP b σ ks (fork m l l') p rs))
    lands b σ ks (rep m c l) o rs = via o (λ p. firstO (lays N eqP b σ ks (rep m c l) p rs))

    lands_none : (b : B) (σ : P) (ks : List (Rec P)) (l : Lay M C) (rs : List (Rec P)) → lands b σ ks l none rs ≡ none
    lands_none b σ ks bad rs = refl
    lands_none b σ ks (fin φ) [] = refl
    lands_none b σ ks (fin φ) (r ∷ rs) = refl
    lands_none b σ ks (move m l) rs = lands_none b σ ks l rs
    lands_none b σ ks (kid c l) [] = refl
    lands_none b σ ks (kid c l) (r ∷ rs) = lands_none b σ (r ∷ ks) l rs
    lands_none b σ ks (fork m l l') rs = refl
    lands_none b σ ks (rep m c l) rs = refl

    -- how many children a layout with no option has
    abbrev pub only : ℕ → Lay M C → Bool
    only n bad = true
    only zero (fin φ) = true
    only (suc n) (fin φ) = false
    only n (move m l) = only n l
    only zero (kid c l) = false
    only (suc n) (kid c l) = only n l
    only n (fork m l l') = false
    only n (rep m c l) = false

    pub lands_only : (n : ℕ) (b : B) (σ : P) (ks : List (Rec P)) (l : Lay M C) (o : Option P) (rs : List (Rec P)) (e : P × ℕ) → T (only n l) → lands b σ ks l o rs ≡ some e → length rs ≡ n
    lands_only n b σ ks bad o rs e t q = absurd (let z : ◌≡◌ {A = ℕ} 0 1 = cc in omega arith)
    lands_only zero b σ ks (fin φ) o [] e t q = refl
    lands_only zero b σ ks (fin φ) o (r ∷ rs) e t q = absurd (let z : ◌≡◌ {A = ℕ} 0 1 = cc in omega arith)
    lands_only (suc n) b σ ks (fin φ) o rs e t q = absurd t
    lands_only zero b σ ks (move m l) o rs e t q = lands_only zero b σ ks l (via o (N.go b m σ)) rs e t q
    lands_only (suc n) b σ ks (move m l) o rs e t q = lands_only (suc n) b σ ks l (via o (N.go b m σ)) rs e t q
    lands_only zero b σ ks (kid c l) o rs e t q = absurd t
    lands_only (suc n) b σ ks (kid c l) o [] e t q = absurd (let z : ◌≡◌ {A = ℕ} 0 1 = cc in omega arith)
    lands_only (suc n) b σ ks (kid c l) o (r ∷ rs) e t q = omega (arith, lands_only n b σ (r ∷ ks) l (takes b c σ ks o r) rs e t q)
    lands_only zero b σ ks (fork m l l') o rs e t q = absurd t
    lands_only (suc n) b σ ks (fork m l l') o rs e t q = absurd t
    lands_only zero b σ ks (rep m c l) o rs e t q = absurd t
    lands_only (suc n) b σ ks (rep m c l) o rs e t q = absurd t

    first_push : (d : B × ℕ) (x : Answer N eqP) → firstO (push N eqP d x) ≡ firstO x
    first_push d none = refl
    first_push d (some x) = refl

    lands_lays : (b : B) (σ : P) (ks : List (Rec P)) (l : Lay M C) (p : P) (rs : List (Rec P)) → lands b σ ks l (some p) rs ≡ firstO (lays N eqP b σ ks l p rs)
    lands_lays b σ ks bad p rs = refl
    lands_lays b σ ks (fin φ) p [] = refl
    lands_lays b σ ks (fin φ) p (r ∷ rs) = refl
    lands_lays b σ ks (move m l) p rs = go (N.go b m σ p) (λ q. lands_lays b σ ks l q rs)
      where
        go : (o : Option P) → ((q : P) → lands b σ ks l (some q) rs ≡ firstO (lays N eqP b σ ks l q rs)) → lands b σ ks l o rs ≡ firstO (onto N eqP o none (λ q. lays N eqP b σ ks l q rs))
        go none h = lands_none b σ ks l rs
        go (some q) h = h q
    lands_lays b σ ks (kid c l) p [] = refl
    lands_lays b σ ks (kid c l) p (r ∷ rs) = go (eqP r.start p && leb (suc (N.bound c)) (N.tight r.kind)) (N.down b c σ ks) (lands_lays b σ (r ∷ ks) l r.end rs)
      where
        go : (t : Bool) (o : Option B) → lands b σ (r ∷ ks) l (some r.end) rs ≡ firstO (lays N eqP b σ (r ∷ ks) l r.end rs)
            → lands b σ (r ∷ ks) l (given (is_some o) (given t (some r.end))) rs ≡ firstO (join N eqP c (given t o) (lays N eqP b σ (r ∷ ks) l r.end rs))
        go true none h = lands_none b σ (r ∷ ks) l rs
        go true (some d) h = h ∙ sym (first_push (d, N.style c) (lays N eqP b σ (r ∷ ks) l r.end rs))
        go false none h = lands_none b σ (r ∷ ks) l rs
        go false (some d) h = lands_none b σ (r ∷ ks) l rs
    lands_lays b σ ks (fork m l l') p rs = refl
    lands_lays b σ ks (rep m c l) p rs = refl

    module _ (eqP-ok : (p q : P) → T (eqP p q) → p ≡ q) (eqP-refl : (p : P) → T (eqP p p)) where
      first_inv : (x : Answer N eqP) (e : P × ℕ) → firstO x ≡ some e → (bs : List (B × ℕ)) × (x ≡ some (e, bs))
      first_inv none e q = absurd (let z : ◌≡◌ {A = ℕ} 0 1 = cc in omega arith)
      first_inv (some (y, bs)) e q = let z : y ≡ e = cc in (bs, ap (λ (w : P × ℕ). some (w, bs)) z)

      pub lands_runs : (b : B) (σ : P) (ks : List (Rec P)) (l : Lay M C) (p e : P) (φ : ℕ) (rs : List (Rec P)) → lands b σ ks l (some p) rs ≡ some (e, φ) → (bs : List (B × ℕ)) × Runs N (Firm N) b σ ks l p e φ rs bs
      lands_runs b σ ks l p e φ rs q =
          let (bs, z) = first_inv (lays N eqP b σ ks l p rs) (e, φ) (sym (lands_lays b σ ks l p rs) ∙ q) in
          (bs, lays_runs N eqP eqP-ok eqP-refl b σ ks l p e φ rs bs z)

      pub runs_lands : {b : B} {σ : P} {ks : List (Rec P)} {l : Lay M C} {p e : P} {φ : ℕ} {rs : List (Rec P)} {bs : List (B × ℕ)} → Runs N (Firm N) b σ ks l p e φ rs bs → lands b σ ks l (some p) rs ≡ some (e, φ)
      runs_lands {b} {σ} {ks} {l} {p} {rs = rs} x = lands_lays b σ ks l p rs ∙ ap firstO (runs_lays N eqP eqP-ok eqP-refl x)

      -- ---- the rule at a node

      pub first_local : {b : B} {n : ℕ} {r : Rec P} {rs : List (Rec P)} (k : ℕ) → named N n k ≡ r.kind → N.pick b r.start ≡ some k
          → lands b r.start [] (N.layout k) (some r.start) rs ≡ some (r.end, r.flag) → (bs : List (B × ℕ)) × Local N (b, n) r rs bs
      first_local {b} {n} {r} {rs} k i q h = let (bs, x) = lands_runs b r.start [] (N.layout k) r.start r.end r.flag rs h in (bs, first k i q x)

      pub local_first : {b : B} {n : ℕ} {r : Rec P} {rs : List (Rec P)} {bs : List (B × ℕ)} → Local N (b, n) r rs bs → NoOp b n r.kind
          → (k : ℕ) × (named N n k ≡ r.kind) × (N.pick b r.start ≡ some k) × (lands b r.start [] (N.layout k) (some r.start) rs ≡ some (r.end, r.flag))
      local_first (first k i q x) f = (k, i, q, runs_lands x)
      local_first (later {l = l} k i st q h x) f = absurd (f k i l.end q)

      pub later_local : {b : B} {n : ℕ} {r : Rec P} {rs : List (Rec P)} (k : ℕ) (l : Rec P) → named N n k ≡ r.kind → l.start ≡ r.start → N.op_at b l.end ≡ some k → N.tight k ≤ N.hold l.kind
          → lands b l.start (l ∷ []) (N.layout k) (some l.end) rs ≡ some (r.end, r.flag) → (bs : List (B × ℕ)) × Local N (b, n) r (l ∷ rs) bs
      later_local {b} {n} {r} {rs} k l i s q h e = let (bs, x) = lands_runs b l.start (l ∷ []) (N.layout k) l.end r.end r.flag rs e in ((b, 0) ∷ bs, later k i s q h x)

      pub record Later (b : B) (n : ℕ) (r : Rec P) (rs : List (Rec P)) : Type 0 where
        pub kind : ℕ
        pub left : Rec P
        pub right : List (Rec P)
        pub is : named N n kind ≡ r.kind
        pub are : rs ≡ left ∷ right
        pub starts : left.start ≡ r.start
        pub called : N.op_at b left.end ≡ some kind
        pub holds : N.tight kind ≤ N.hold left.kind
        pub ends : lands b left.start (left ∷ []) (N.layout kind) (some left.end) right ≡ some (r.end, r.flag)

      pub local_later : {b : B} {n : ℕ} {r : Rec P} {rs : List (Rec P)} {bs : List (B × ℕ)} → Local N (b, n) r rs bs → NoPick b n r.kind → Later b n r rs
      local_later {r = r} (first k i q x) f = absurd (f k i r.start q)
      local_later (later {l = l} {rs} k i s q h x) f = record { kind = k; left = l; right = rs; is = i; are = refl; starts = s; called = q; holds = h; ends = runs_lands x }
