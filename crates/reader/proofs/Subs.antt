-- The answers of `sub` and `prim`, from those of the functions that they call.
use Prim.Native.Nat.{ℕ, ◌≤◌}
use mathlib.Core.Path.{◌≡◌, refl, sym, ap, subst, subst₂, ◌∙◌}
use mathlib.Core.Bool.{Bool, true, false, ◌&&◌, ◌||◌}
use mathlib.Core.Option.{some}
use mathlib.Core.List.{List, []}
use native.Mathlib.Omega.{arith}
use lib.ListN.{length}
use lib.Dec.{eqb, leb}
use borrow.Author.Tests.{ne_eqb, le-leb}
use Rattle.lexis.specs.RunLaws.{clash}
use Rattle.grammar.specs.Kinds.{tight_of}
use Rattle.grammar.specs.Moves.{Want, Under, an_expression, a_name, a_part, a_condition, unexpected}
use Rattle.grammar.specs.Layouts.{layout_of}
use Rattle.grammar.specs.Hcl.{pick_at, under, bounds}
use Rattle.grammar.specs.Code.{class_of}
use Rattle.grammar.specs.Thrift.{spare, bonus}
use Rattle.grammar.specs.Wants.{want_in, below}
use Rattle.grammar.specs.Said.{Child, Went, ChildOf, PartAt, went_of}
use Rattle.grammar.specs.PickLaws.{kind_some, pick_none, part_kind, picked_name, picked_condition, picked_term, term_of, Term}
use Rattle.reader.specs.Said.{Step, step_of, Climbs, Heads, Kept, Any, under_any, any_before, Said, SaidMade, SaidSub, Primary}
use Rattle.reader.proofs.Answers.{refused}
use Rattle.reader.proofs.Exprs.{made_head, head_climb, none_as, unexpected_is}

-- ---- parts of a traversal

part_bounds : (k : ℕ) → 38 ≤ k → k ≤ 42 → (leb 38 k && leb k 42) ≡ true
part_bounds k l h = rw (le-leb 38 k l, le-leb k 42 h)

part_want : (k : ℕ) → 38 ≤ k → k ≤ 42 → want_in k 0 ≡ a_part
part_want k l h = rw (ne_eqb k 17 (omega arith), part_bounds k l h)

part_spare : (k : ℕ) → 38 ≤ k → k ≤ 42 → 1 ≤ spare k
part_spare k l h = let z : spare k ≡ 1 = rw (part_bounds k l h) in omega arith

-- ---- a child whose kind is settled

module _ {c left : ℕ} {lines : Bool} {o : Child} (h : ChildOf c left lines o) where
  child_under : (w : Want) → (below left lines (class_of c)).want ≡ w → below left lines (class_of c) ≡ under o.left o.lines w
  child_under w e = let d = h.down [] an_expression 0 [] in d ∙ ap (λ (v : Want). under o.left o.lines v) (sym (ap (λ (a : Under). a.want) d) ∙ e)

  module _ {s : List ℕ} {k p i u K : ℕ} {b b' x x' y y' : List ℕ} {r : Step}
      (m : SaidMade Any s (under_any k o.left o.lines) p any_before k (layout_of k) p i u 0 p K b b' x x' y y' r) where
    sub_made : (below left lines (class_of c)).want ≡ want_in k 0 → bounds (class_of c) ≡ 8 → bonus (class_of c) ≤ spare k → eqb k 6 ≡ false → eqb k 9 ≡ false → tight_of k ≡ 9
        → pick_at s (under o.left o.lines (want_in k 0)) p ≡ some k → SaidSub c left lines s i u K p b b' x x' y y' r
    sub_made w e f six nine tight q = record {
      said = subst₂ (λ (a : Under) (j : ℕ). Said (Climbs s a j p) s i u K p b b' x x' y y' r) (sym (child_under (want_in k 0) w)) (sym e) (head_climb q (omega arith) (made_head m six nine q));
      over = λ z. omega (arith, m.over z);
    }

  pub sub_name : {s : List ℕ} {p i u K : ℕ} {b b' x x' y y' : List ℕ} {r : Step} → c ≡ 9 → SaidMade Any s (under_any 17 o.left o.lines) p any_before 17 (layout_of 17) p i u 0 p K b b' x x' y y' r
      → SaidSub c left lines s i u K p b b' x x' y y' r
  sub_name {s} {p} e m =
      sub_made m (subst (λ (n : ℕ). (below left lines (class_of n)).want ≡ a_name) (sym e) refl) (ap (λ (n : ℕ). bounds (class_of n)) e)
      (subst (λ (n : ℕ). bonus (class_of n) ≤ spare 17) (sym e) (omega arith)) refl refl refl (picked_name s p o.left o.lines)

  pub sub_condition : {s : List ℕ} {p i u K : ℕ} {b b' x x' y y' : List ℕ} {r : Step} → c ≡ 12 → SaidMade Any s (under_any 20 o.left o.lines) p any_before 20 (layout_of 20) p i u 0 p K b b' x x' y y' r
      → SaidSub c left lines s i u K p b b' x x' y y' r
  sub_condition {s} {p} e m =
      sub_made m (subst (λ (n : ℕ). (below left lines (class_of n)).want ≡ a_condition) (sym e) refl) (ap (λ (n : ℕ). bounds (class_of n)) e)
      (subst (λ (n : ℕ). bonus (class_of n) ≤ spare 20) (sym e) (omega arith)) refl refl refl (picked_condition s p o.left o.lines)

  -- ---- a part of a traversal

  pub sub_part_none : {s : List ℕ} {p i u K k : ℕ} {b b' x x' y y' : List ℕ} {w : Went} {r : Step} → c ≡ 10 → PartAt s p k → k ≡ 0 → w ≡ went_of (unexpected s p) → r ≡ step_of w.kind w.at 0 0 → p ≤ length s → Kept K y y'
      → SaidSub c left lines s i u K p b b' x x' y y' r
  sub_part_none {s} {p} {w = w} e at z f q low kept =
      let a = child_under a_part (subst (λ (n : ℕ). (below left lines (class_of n)).want ≡ a_part) (sym e) refl) in
      let n = pick_none s (under o.left o.lines a_part) p (sym (at o.left o.lines) ∙ z) in
      let (pos, place) = unexpected_is s p f in
      record {
        said = refused w.kind w.at q (none_as s (below left lines (class_of c)) p (bounds (class_of c)) (ap (λ (v : Under). pick_at s v p) a ∙ n) f) pos (omega arith) (omega arith) kept;
        over = λ v. absurd (omega (arith, sym (ap (λ (t : Step). t.kind) q) ∙ v));
      }

  part_is : (s : List ℕ) (p k : ℕ) → PartAt s p k → ¬ (k ≡ 0) → pick_at s (under o.left o.lines a_part) p ≡ some k
  part_is s p k at z = kind_some (pick_at s (under o.left o.lines a_part) p) k (sym (at o.left o.lines)) z

  pub sub_part : {s : List ℕ} {p i u K k : ℕ} {b b' x x' y y' : List ℕ} {r : Step} → c ≡ 10 → PartAt s p k → ¬ (k ≡ 0)
      → SaidMade Any s (under_any k o.left o.lines) p any_before k (layout_of k) p i u 0 p K b b' x x' y y' r → SaidSub c left lines s i u K p b b' x x' y y' r
  sub_part {s} {p} {k = k} e at z m =
      let n = part_kind s p o.left o.lines k (at o.left o.lines) z in
      sub_made m (subst (λ (v : ℕ). (below left lines (class_of v)).want ≡ want_in k 0) (sym e) (sym (part_want k n.low n.high))) (ap (λ (v : ℕ). bounds (class_of v)) e)
      (subst (λ (v : ℕ). bonus (class_of v) ≤ spare k) (sym e) (part_spare k n.low n.high)) (ne_eqb k 6 (omega (arith, n.low))) (ne_eqb k 9 (omega (arith, n.low))) n.tight
      (subst (λ (v : Want). pick_at s (under o.left o.lines v) p ≡ some k) (sym (part_want k n.low n.high)) (part_is s p k at z))

-- ---- what stands first, of the program

module _ (s : List ℕ) (left : ℕ) (lines : Bool) (p k : ℕ) (w : Primary s left lines p k) (n6 : ¬ (k ≡ 6)) (n7 : ¬ (k ≡ 7)) (n8 : ¬ (k ≡ 8)) (n12 : ¬ (k ≡ 12)) where
  pub prim_term : Term k
  prim_term = term_of k (picked_term s p left lines k (w.picked n6)) n6 n7 n8 n12 (λ e. clash (sym (ap (λ (n : ℕ). eqb n 22 || eqb n 23) e) ∙ w.binary)) (λ e. clash (sym (ap (λ (n : ℕ). eqb n 22 || eqb n 23) e) ∙ w.binary))

  pub prim_laid : {i u K : ℕ} {b b' x x' y y' : List ℕ} {r : Step} → SaidMade Any s (under_any k left lines) p any_before k (layout_of k) p i u 0 p K b b' x x' y y' r
      → Said (Heads s (under left lines an_expression) p) s i u K p b b' x x' y y' r
  prim_laid {i} {u} {K} {b} {b'} {x} {x'} {y} {y'} {r} m =
      subst (λ (v : Want). Said (Heads s (under left lines v) p) s i u K p b b' x x' y y' r) prim_term.want
      (made_head m (ne_eqb k 6 n6) (ne_eqb k 9 prim_term.nine) (subst (λ (v : Want). pick_at s (under left lines v) p ≡ some k) (sym prim_term.want) (w.picked n6)))

-- ---- a kind of no quote

module _ (k : ℕ) (h : (eqb k 6 || eqb k 7) ≡ false) where
  pub no_string : ¬ (k ≡ 6)
  no_string e = clash (sym (ap (λ (n : ℕ). eqb n 6 || eqb n 7) e) ∙ h)

  pub no_template : ¬ (k ≡ 7)
  no_template e = clash (sym (ap (λ (n : ℕ). eqb n 6 || eqb n 7) e) ∙ h)
