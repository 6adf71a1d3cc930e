-- Expressions between brackets: their layouts, part by part.
use Prim.Native.Nat.{ℕ, ◌+◌, ◌-◌, ◌*◌, ◌/◌, ◌≤◌, ◌<◌}
use mathlib.Core.Path.{◌≡◌, refl, sym, subst, ◌∙◌}
use mathlib.Core.Bool.{Bool, true, false, cond, not}
use mathlib.Core.List.{List, [], ◌∷◌}
use native.Mathlib.Omega.{arith}
use lib.ListN.{get_or}
use lib.Dec.{eqb}
use Rattle.lexis.specs.Bytes.{Ran}
use Rattle.lexis.specs.Operator.{mark_to}
use borrow.Author.Tests.{eqb-true, eqb-false}
use Rattle.engine.specs.Layout.{move, fork}
use Rattle.grammar.specs.Layouts.{Layout, opening, past, plain, strip_lay}
use Rattle.grammar.specs.Said.{Went, Moved}
use Rattle.checker.specs.Rows.{row_at}
use Rattle.checker.specs.Lay.{KidBy, Direct, Seating, EndsAt}
use Rattle.checker.specs.Rest.{RestBy, StepBy, TailBy, inside_lay, stripped_lay}
use Rattle.checker.proofs.Lays.{chain_le}
use Rattle.checker.proofs.Atoms.{to_end, to_any, past_any, not_any, to_mark, not_mark, to_open, not_open, deep_open}
use Rattle.checker.proofs.Rests.{rest_stop, rest_move, rest_fork, rest_other, rest_fin, step_stop, step_move}
use Rattle.checker.proofs.Seats.{seat_inside}

-- what `kid` and the steps ask for
pub seated : {t : List ℕ} {i : ℕ} {m D : List ℕ} {j : ℕ} → Direct t i m D j → Seating t i D j
seated {i = i} {m} {j = j} a = record { within = a.within; deep = a.deep; linked = chain_le m i a.js j a.chain }

-- behind a child
pub step_on : {s t : List ℕ} {i v : ℕ} {m D D' D'' : List ℕ} {f : Layout → Layout} {l : Layout} {j p n q : ℕ} {r x : Bool} → StepBy s t i v D D' f j p r → r ≡ true → Direct t i m D j → n ≡ get_or m j 0 → q ≡ (row_at t j).end → RestBy s t i v m D' D'' l n q x → RestBy s t i v m D D'' (f l) j p x
step_on {s} {t} {i} {v} {m} {D} {D'} {D''} {f} {l} {j} {p} {n} {q} {r} {x} h z a e g o =
    h.on z m a l D'' x (subst (λ (o : ℕ). RestBy s t i v m D' D'' l o (row_at t j).end x) e (subst (λ (o : ℕ). RestBy s t i v m D' D'' l n o x) g o))

module _ {s t : List ℕ} {i v : ℕ} {D : List ℕ} {j p : ℕ} where
  -- any trivia, and an expression
  module _ {g : Went} (h : Moved s p true g) where
    pub inside_gap_no : ¬ (g.kind ≡ 0) → StepBy s t i v D D inside_lay j p false
    inside_gap_no n = step_stop (not_any h n)

    pub inside_by : {D' : List ℕ} {w : ℕ} {r : Bool} → g.kind ≡ 0 → 2 ≤ v → w ≡ v / 2 * 2 - 1 → KidBy t i D D' j g.at 0 0 w r → StepBy s t i v D D' inside_lay j p r
    inside_by z l e x = step_move (to_any h z to_end) (seat_inside l e x)

module _ {s t : List ℕ} {i v : ℕ} {m : List ℕ} {l : Layout} {j p : ℕ} where
  -- an opener
  pub opener_deep : {D w : List ℕ} → v < 2 → RestBy s t i v m D D (move (opening w) l) j p false
  opener_deep h = rest_stop s t i v m (deep_open (omega (arith, h)))

  module _ (deep : 2 ≤ v) {a : ℕ} {as' : List ℕ} {b : ℕ} (h : Ran s p (mark_to (a ∷ as') [] s p) b) where
    pub opener_no : {D : List ℕ} → b ≡ p → RestBy s t i v m D D (move (opening (a ∷ as')) l) j p false
    opener_no z = rest_stop s t i v m (not_open h (λ e. omega (arith, e, deep)) z)

    pub opener_on : {D D' : List ℕ} {r : Bool} → ¬ (b ≡ p) → RestBy s t i v m D D' l j b r → RestBy s t i v m D D' (move (opening (a ∷ as')) l) j p r
    opener_on n o = rest_move s t i v m (to_open h (λ e. omega (arith, e, deep)) n to_end) o

  -- any trivia, and a closer
  module _ {g : Went} (h : Moved s p true g) {c : ℕ} where
    pub closer_gap_no : {D : List ℕ} → ¬ (g.kind ≡ 0) → RestBy s t i v m D D (move (past (c ∷ [])) l) j p false
    closer_gap_no n = rest_stop s t i v m (not_any h n)

    module _ (z : g.kind ≡ 0) {e : ℕ} (f : Ran s g.at (mark_to (c ∷ []) [] s g.at) e) where
      pub closer_no : {D : List ℕ} → e ≡ g.at → RestBy s t i v m D D (move (past (c ∷ [])) l) j p false
      closer_no y = rest_stop s t i v m (past_any h z (not_mark f y))

      pub closer_on : {D D' : List ℕ} {r : Bool} → ¬ (e ≡ g.at) → RestBy s t i v m D D' l j e r → RestBy s t i v m D D' (move (past (c ∷ [])) l) j p r
      closer_on n o = rest_move s t i v m (to_any h z (to_mark f n to_end)) o

-- ---- an interpolation

-- behind its expression
module _ {s t : List ℕ} {i φ j p : ℕ} {g : Went} (h : Moved s p true g) where
  pub strip_gap_no : ¬ (g.kind ≡ 0) → TailBy s t i (stripped_lay φ) j p false
  strip_gap_no n = record { rest = λ v m D. rest_other s t i v m (not_any h n) (rest_stop s t i v m (not_any h n)) }

  module _ (z : g.kind ≡ 0) {r e : ℕ} (f : Ran s g.at (mark_to (126 ∷ []) [] s g.at) r) (k : Ran s r (mark_to (125 ∷ []) [] s r) e) where
    pub strip_no : e ≡ r → TailBy s t i (stripped_lay φ) j p false
    strip_no y = record { rest = λ v m D. go v m D (eqb r g.at) refl }
      where
        go : (v : ℕ) (m D : List ℕ) (b : Bool) → eqb r g.at ≡ b → RestBy s t i v m D D (stripped_lay φ) j p false
        go v m D true a =
            let q : r ≡ g.at = eqb-true r g.at a in
            rest_other s t i v m (past_any h z (not_mark f q)) (rest_stop s t i v m (past_any h z (not_mark (subst (λ (o : ℕ). Ran s o (mark_to (125 ∷ []) [] s o) e) q k) (y ∙ q))))
        go v m D false a = rest_fork s t i v m (to_any h z (to_mark f (eqb-false r g.at a) to_end)) (rest_stop s t i v m (not_mark k y))

    pub strip_by : {ψ : ℕ} {x : Bool} → ¬ (e ≡ r) → ψ ≡ φ + cond (not (eqb r g.at)) 2 0 → EndsAt t i j e ψ x → TailBy s t i (stripped_lay φ) j p x
    strip_by {ψ} {x} n w o = record { rest = λ v m D. go v m D (eqb r g.at) refl w }
      where
        go : (v : ℕ) (m D : List ℕ) (b : Bool) → eqb r g.at ≡ b → ψ ≡ φ + cond (not b) 2 0 → RestBy s t i v m D D (stripped_lay φ) j p x
        go v m D true a u =
            let q : r ≡ g.at = eqb-true r g.at a in
            rest_other s t i v m (past_any h z (not_mark f q))
            (rest_move s t i v m (to_any h z (to_mark (subst (λ (o : ℕ). Ran s o (mark_to (125 ∷ []) [] s o) e) q k) (λ c. n (c ∙ sym q)) to_end))
            (rest_fin s t i v m x (subst (λ (c : ℕ). EndsAt t i j e c x) (u ∙ omega arith) o)))
        go v m D false a u = rest_fork s t i v m (to_any h z (to_mark f (eqb-false r g.at a) to_end)) (rest_move s t i v m (to_mark k n to_end) (rest_fin s t i v m x (subst (λ (c : ℕ). EndsAt t i j e c x) u o)))

-- before it
pub tilde_on : {s t : List ℕ} {i v : ℕ} {m D D' : List ℕ} {j b l : ℕ} {r : Bool} → Ran s b (mark_to (126 ∷ []) [] s b) l → RestBy s t i v m D D' (strip_lay (cond (not (eqb l b)) 1 0)) j l r → RestBy s t i v m D D' (fork (plain (126 ∷ [])) (strip_lay 1) (strip_lay 0)) j b r
tilde_on {s} {t} {i} {v} {m} {D} {D'} {j} {b} {l} {r} h o = go (eqb l b) refl o
  where
    go : (x : Bool) → eqb l b ≡ x → RestBy s t i v m D D' (strip_lay (cond (not x) 1 0)) j l r → RestBy s t i v m D D' (fork (plain (126 ∷ [])) (strip_lay 1) (strip_lay 0)) j b r
    go true e o = rest_other s t i v m (not_mark h (eqb-true l b e)) (subst (λ (q : ℕ). RestBy s t i v m D D' (strip_lay 0) j q r) (eqb-true l b e) o)
    go false e o = rest_fork s t i v m (to_mark h (eqb-false l b e) to_end) o
