-- A layout that goes over children, taken apart from the left.
use Prim.Native.Nat.{ℕ}
use mathlib.Core.Path.{◌≡◌, refl, sym, subst, ◌∙◌}
use mathlib.Core.Option.{none, some}
use mathlib.Core.List.{List, [], ◌∷◌, map}
use native.Mathlib.Omega.{arith}
use Rattle.engine.specs.Base.{Rec}
use Rattle.engine.specs.BaseLaws.{some_is}
use Rattle.engine.specs.Layout.{Lay, fin, move, kid, fork, rep, Lang}
use Rattle.engine.specs.Rule.{Runs, rfin, rmove, rkid, ryes, rno, rrep, rend, Firm}
use Rattle.engine.specs.Handed.{Tests, tnil, tcons}
use Rattle.grammar.specs.Moves.{Under, Move}
use Rattle.grammar.specs.Layouts.{Class}
use Rattle.grammar.specs.Hcl.{hcl}
use Rattle.grammar.specs.Published.{wanted, Suits}
use Rattle.checker.specs.Lay.{Both}

none_some : {A X : Type 0} {x : X} → none ≡ some x → A
none_some {x = x} e = absurd (let z : ◌≡◌ {A = ℕ} 0 1 = cc in omega arith)

module _ {P B M C : Type 0} (N : Lang P B M C) (Z : B → C → Rec P → Type 0) where
  -- at its end
  pub record AtEnd (p e : P) (n φ : ℕ) (rs : List (Rec P)) (bs : List (B × ℕ)) : Type 0 where
    pub end : p ≡ e
    pub flag : n ≡ φ
    pub rest : rs ≡ []
    pub atts : bs ≡ []

  -- a child comes first, at q
  pub record AtKid (b : B) (σ : P) (ks : List (Rec P)) (e : P) (φ : ℕ) (rs : List (Rec P)) (bs : List (B × ℕ)) (c : C) (l : Lay M C) (q : P) : Type 0 where
    pub child : Rec P
    pub rest : List (Rec P)
    pub att : B
    pub atts : List (B × ℕ)
    pub are : rs ≡ child ∷ rest
    pub from : bs ≡ (att, N.style c) ∷ atts
    pub down : N.down b c σ ks ≡ some att
    pub start : child.start ≡ q
    pub test : Z att c child
    pub on : Runs N Z b σ (child ∷ ks) l child.end e φ rest atts

  pub over_fin : {b : B} {σ : P} {ks : List (Rec P)} {p e : P} {φ : ℕ} {rs : List (Rec P)} {bs : List (B × ℕ)} {n : ℕ} → Runs N Z b σ ks (fin n) p e φ rs bs → AtEnd p e n φ rs bs
  over_fin rfin = record { end = refl; flag = refl; rest = refl; atts = refl }

  pub over_kid : {b : B} {σ : P} {ks : List (Rec P)} {p e : P} {φ : ℕ} {rs : List (Rec P)} {c : C} {l : Lay M C} {bs : List (B × ℕ)} → Runs N Z b σ ks (kid c l) p e φ rs bs → AtKid b σ ks e φ rs bs c l p
  over_kid (rkid d s z w) = record { child = _; rest = _; att = _; atts = _; are = refl; from = refl; down = d; start = s; test = z; on = w }

  pub over_move : {b : B} {σ : P} {ks : List (Rec P)} {p e : P} {φ : ℕ} {rs : List (Rec P)} {bs : List (B × ℕ)} {m : M} {l : Lay M C} → Runs N Z b σ ks (move m l) p e φ rs bs → (q : P) × (N.go b m σ p ≡ some q) × Runs N Z b σ ks l q e φ rs bs
  over_move (rmove q g w) = (q, g, w)

  pub over_yes : {b : B} {σ : P} {ks : List (Rec P)} {p e : P} {φ : ℕ} {rs : List (Rec P)} {bs : List (B × ℕ)} {m : M} {l l' : Lay M C} {q : P} → N.go b m σ p ≡ some q → Runs N Z b σ ks (fork m l l') p e φ rs bs → Runs N Z b σ ks l q e φ rs bs
  over_yes {b} {σ} {ks} {p} {e} {φ} {rs} {bs} {l = l} g (ryes q h w) = subst (λ (x : P). Runs N Z b σ ks l x e φ rs bs) (some_is (sym h ∙ g)) w
  over_yes g (rno h w) = none_some (sym h ∙ g)

  pub over_no : {b : B} {σ : P} {ks : List (Rec P)} {p e : P} {φ : ℕ} {rs : List (Rec P)} {bs : List (B × ℕ)} {m : M} {l l' : Lay M C} → N.go b m σ p ≡ none → Runs N Z b σ ks (fork m l l') p e φ rs bs → Runs N Z b σ ks l' p e φ rs bs
  over_no g (ryes q h w) = none_some (sym g ∙ h)
  over_no g (rno h w) = w

  pub over_rep : {b : B} {σ : P} {ks : List (Rec P)} {p e : P} {φ : ℕ} {rs : List (Rec P)} {m : M} {c : C} {l : Lay M C} {bs : List (B × ℕ)} {q : P} → N.go b m σ p ≡ some q → Runs N Z b σ ks (rep m c l) p e φ rs bs → AtKid b σ ks e φ rs bs c (rep m c l) q
  over_rep g (rrep q h d s z w) = record { child = _; rest = _; att = _; atts = _; are = refl; from = refl; down = d; start = s ∙ some_is (sym h ∙ g); test = z; on = w }
  over_rep g (rend h w) = none_some (sym h ∙ g)

  pub over_end : {b : B} {σ : P} {ks : List (Rec P)} {p e : P} {φ : ℕ} {rs : List (Rec P)} {m : M} {c : C} {l : Lay M C} {bs : List (B × ℕ)} → N.go b m σ p ≡ none → Runs N Z b σ ks (rep m c l) p e φ rs bs → Runs N Z b σ ks l p e φ rs bs
  over_end g (rrep q h d s z w) = none_some (sym g ∙ h)
  over_end g (rend h w) = w

-- ---- the tests of the rule at one node and those of its parent, together

module _ (s : List ℕ) where
  pub both_apart : {b : Under} {σ : ℕ} {ks : List (Rec ℕ)} {l : Lay Move Class} {p e φ : ℕ} {rs : List (Rec ℕ)} {bs : List (Under × ℕ)}
      → Runs (hcl s) (Both s) b σ ks l p e φ rs bs → Runs (hcl s) (Firm (hcl s)) b σ ks l p e φ rs bs × Tests (Suits s) (map wanted bs) rs
  both_apart rfin = (rfin, tnil)
  both_apart (rmove q g w) = let (x, y) = both_apart w in (rmove q g x, y)
  both_apart (rkid d q z w) = let (x, y) = both_apart w in (rkid d q z.0 x, tcons z.1 y)
  both_apart (ryes q g w) = let (x, y) = both_apart w in (ryes q g x, y)
  both_apart (rno g w) = let (x, y) = both_apart w in (rno g x, y)
  both_apart (rrep q g d h z w) = let (x, y) = both_apart w in (rrep q g d h z.0 x, tcons z.1 y)
  both_apart (rend g w) = let (x, y) = both_apart w in (rend g x, y)

  pub both_joined : {b : Under} {σ : ℕ} {ks : List (Rec ℕ)} {l : Lay Move Class} {p e φ : ℕ} {rs : List (Rec ℕ)} {bs : List (Under × ℕ)}
      → Runs (hcl s) (Firm (hcl s)) b σ ks l p e φ rs bs → Tests (Suits s) (map wanted bs) rs → Runs (hcl s) (Both s) b σ ks l p e φ rs bs
  both_joined rfin tnil = rfin
  both_joined (rmove q g w) t = rmove q g (both_joined w t)
  both_joined (rkid d q z w) (tcons u t) = rkid d q (z, u) (both_joined w t)
  both_joined (ryes q g w) t = ryes q g (both_joined w t)
  both_joined (rno g w) t = rno g (both_joined w t)
  both_joined (rrep q g d h z w) (tcons u t) = rrep q g d h (z, u) (both_joined w t)
  both_joined (rend g w) t = rend g (both_joined w t)
