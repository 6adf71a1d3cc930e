-- A delimiter by its first bytes, and what is left of it by the library's comparison.
use Prim.Native.Nat.{ℕ, ◌+◌, ◌-◌, ◌≤◌}
use mathlib.Core.Path.{◌≡◌, refl, sym, ap, ◌∙◌}
use mathlib.Core.List.{List, [], ◌∷◌}
use mathlib.Core.Bool.{Bool, true, false}
use native.Mathlib.Omega.{arith}
use borrow.Author.Tests.{eq-eqb, ne_eqb, eqb-true, eqb-false}
use borrow.Author.Rules.{rules}
use lib.Dec.{eqb}
use lib.ListN.{length, take, drop, length-drop}
use lib.Pointwise.{pointwise}
use lib.Seq.{take-length}
use Rattle.std.proofs.lemmas.List.{length-take-le}
use Rattle.lexis.specs.Bytes.{begins}
use Rattle.lexis.specs.RunLaws.{stands_inside}
use Rattle.lexis.proofs.Lines.{split_miss, split_hit}
use Rattle.lexis.proofs.heredoc.delimits.Goals as goal

swapped : (b x : ℕ) → eqb b x ≡ eqb x b
swapped b x = go (eqb x b) refl
  where
    go : (r : Bool) → eqb x b ≡ r → eqb b x ≡ r
    go true e = eq-eqb b x (sym (eqb-true x b e))
    go false e = ne_eqb b x (λ z. eqb-false x b e (sym z))

begins_by : (w l : List ℕ) → pointwise eqb w (take (length w) l) ≡ begins w l
unfolding begins
begins_by [] l = refl
begins_by (b ∷ w) [] = refl
begins_by (b ∷ w) (x ∷ l) = rw (swapped b x, begins_by w l)

whole : (s : List ℕ) (p : ℕ) → take (length s - p) (drop p s) ≡ drop p s
whole s p = rw (← length-drop p s) (take-length (drop p s))

pub returns-then-not-all_at : goal.returns-then-not-all_at
returns-then-not-all_at c = let a = c.args in
    sym (split_miss a.w.now a.s.now a.p 8 (sym c.all_at-2.ensures ∙ c.if-not-all_at.true))

pub overflow_add-p : goal.overflow_add-p
overflow_add-p c = let a = c.args in
    record { fits = omega (arith, stands_inside (take 8 a.w.now) a.s.now a.p (sym c.all_at-2.ensures ∙ c.if-not-all_at.false), length-take-le 8 a.w.now (omega (arith, c.if-w-le-NEAR.false))) }

pub slice_bounds-starts_with-count : goal.slice_bounds-starts_with-count
slice_bounds-starts_with-count c = let a = c.args in
    omega (arith, stands_inside (take 8 a.w.now) a.s.now a.p (sym c.all_at-2.ensures ∙ c.if-not-all_at.false), length-take-le 8 a.w.now (omega (arith, c.if-w-le-NEAR.false)))

pub slice_bounds-starts_with-start : goal.slice_bounds-starts_with-start
slice_bounds-starts_with-start c = let a = c.args in
    let inside : a.p + 8 ≤ length a.s.now = omega (arith, stands_inside (take 8 a.w.now) a.s.now a.p (sym c.all_at-2.ensures ∙ c.if-not-all_at.false), length-take-le 8 a.w.now (omega (arith, c.if-w-le-NEAR.false))) in
    search rules

pub returns : goal.returns
returns c =
    let w = c.args.w.now in let s = c.args.s.now in let p = c.args.p in
    c.starts_with.ensures.value
    ∙ ap (λ x. pointwise eqb x (take (length x) (take (length s - (p + 8)) (drop (p + 8) s)))) (whole w 8)
    ∙ ap (λ l. pointwise eqb (drop 8 w) (take (length (drop 8 w)) l)) (whole s (p + 8))
    ∙ begins_by (drop 8 w) (drop (p + 8) s)
    ∙ split_hit w s p 8 (sym c.all_at-2.ensures ∙ c.if-not-all_at.false)
