-- The kinds of the program: what each is wanted as, and that its children fit there.
use Rattle.std.specs.Prelude.{ℕ, ◌≡◌, refl, List, [], Bool, true, false, cond, ◌&&◌, eqb, leb, T}
use Rattle.std.proofs.Math.Option.{some}
use Rattle.engine.specs.Base.{Rec, all_of}
use Rattle.engine.specs.Layout.{bad, fin, move, kid, fork, rep}
use Rattle.grammar.specs.Moves.{Want, an_expression, a_name, a_part, a_piece, a_condition, Under}
use Rattle.grammar.specs.Layouts.{Class, inside, single, key, value, test, branch, term, right, entry, called, portion, piecewise, filter, Layout, layout_of, layouts}
use Rattle.grammar.specs.Hcl.{hcl, fits, grows, downs, under}
use Rattle.grammar.specs.Code.{class_of, coded}

abbrev pub want_as : Bool → Bool → Bool → Bool → ℕ → Want
want_as true p c i t = a_name
want_as false true c i t = a_part
want_as false false true i t = a_condition
want_as false false false true t = a_piece t
want_as false false false false t = an_expression

-- a name, a part, a condition, an interpolation of the template that starts at t, or an expression
abbrev pub want_in : ℕ → ℕ → Want
want_in k t = want_as (eqb k 17) (leb 38 k && leb k 42) (eqb k 20) (eqb k 10) t

abbrev pub fits_in : ℕ → Class → Bool
fits_in k c = fits (under 0 false (want_in k 0)) c

-- each child of a layout fits
abbrev pub suited : ℕ → Layout → Bool
suited k bad = true
suited k (fin φ) = true
suited k (move m l) = suited k l
suited k (kid c l) = fits_in k c && suited k l
suited k (fork m l l') = suited k l && suited k l'
suited k (rep m c l) = fits_in k c && suited k l

pub all_suited : T (all_of (λ k. suited k (layout_of k)) coded)
unfolding layouts
all_suited = tt

grows_as : (n p c i : Bool) (t : ℕ) → grows (want_as n p c i t) ≡ grows (want_as n p c i 0)
grows_as true p c i t = refl
grows_as false true c i t = refl
grows_as false false true i t = refl
grows_as false false false true t = refl
grows_as false false false false t = refl

grows_in : (k t : ℕ) → T (grows (want_in k 0)) → grows (want_in k t) ≡ true
grows_in k t h = go (grows (want_in k t)) (grows (want_in k 0)) (grows_as (eqb k 17) (leb 38 k && leb k 42) (eqb k 20) (eqb k 10) t) h
  where
    go : (x y : Bool) → x ≡ y → T y → x ≡ true
    go x true e u = e
    go x false e u = absurd u

fit_as : (c : Class) (k t left : ℕ) (lines : Bool) → T (fits_in k c) → fits (under left lines (want_in k t)) c ≡ true
fit_as inside k t left lines h = refl
fit_as single k t left lines h = refl
fit_as key k t left lines h = refl
fit_as value k t left lines h = grows_in k t h
fit_as test k t left lines h = grows_in k t h
fit_as branch k t left lines h = grows_in k t h
fit_as term k t left lines h = grows_in k t h
fit_as (right n) k t left lines h = grows_in k t h
fit_as entry k t left lines h = refl
fit_as called k t left lines h = refl
fit_as portion k t left lines h = refl
fit_as piecewise k t left lines h = refl
fit_as filter k t left lines h = refl

-- ---- what a child of a class of the program is under depends on levels and mode alone

abbrev pub steady : Class → Bool
steady inside = true
steady single = true
steady key = true
steady value = true
steady test = true
steady branch = true
steady term = true
steady (right n) = true
steady entry = false
steady called = true
steady portion = true
steady piecewise = false
steady filter = true

abbrev pub below : ℕ → Bool → Class → Under
below left lines c = downs [] (under left lines an_expression) c 0 []

down_steady : (s : List ℕ) (c : Class) (left : ℕ) (lines : Bool) (w : Want) (σ : ℕ) (ks : List (Rec ℕ)) → T (steady c) → downs s (under left lines w) c σ ks ≡ below left lines c
down_steady s inside left lines w σ ks h = refl
down_steady s single left lines w σ ks h = refl
down_steady s key left lines w σ ks h = refl
down_steady s value left lines w σ ks h = refl
down_steady s test left lines w σ ks h = refl
down_steady s branch left lines w σ ks h = refl
down_steady s term left lines w σ ks h = refl
down_steady s (right n) left lines w σ ks h = refl
down_steady s entry left lines w σ ks h = absurd h
down_steady s called left lines w σ ks h = refl
down_steady s portion left lines w σ ks h = refl
down_steady s piecewise left lines w σ ks h = absurd h
down_steady s filter left lines w σ ks h = refl

-- a child of the program's kinds, as the language hands it down
pub down_below : (s : List ℕ) (k t left : ℕ) (lines : Bool) (c : Class) (σ : ℕ) (ks : List (Rec ℕ)) → T (fits_in k c) → T (steady c)
    → (hcl s).down (under left lines (want_in k t)) c σ ks ≡ some (below left lines c)
down_below s k t left lines c σ ks h z = rw (fit_as c k t left lines h, down_steady s c left lines (want_in k t) σ ks z)

-- by the number of a class
pub by_class : (P : Class → Type 0) → P inside → P single → P test → P branch → P called → P portion → P filter → ((n : ℕ) → P (right n)) → (c : ℕ) → P (class_of c)
by_class P a b d e f g h i c =
    one (eqb c 0) a (one (eqb c 1) b (one (eqb c 4) d (one (eqb c 5) e (one (eqb c 9) f (one (eqb c 10) g (one (eqb c 12) h (i _)))))))
  where
    one : (t : Bool) {x y : Class} → P x → P y → P (cond t x y)
    one true u v = u
    one false u v = v

pub class_steady : (c : ℕ) → T (steady (class_of c))
class_steady c = by_class (λ (x : Class). T (steady x)) tt tt tt tt tt tt tt (λ n. tt) c
