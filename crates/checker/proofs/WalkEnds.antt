-- The end of the walk.
use Prim.Native.Nat.{ℕ}
use mathlib.Core.Path.{◌≡◌, subst}
use mathlib.Core.List.{List}
use lib.Dec.{eqb}
use borrow.Author.Tests.{eqb-true, eqb-false}
use Rattle.checker.specs.Check.{Walking, Checks}
use Rattle.checker.proofs.Walks.{Walked, end_no, end_yes}

pub ended : (s text t : List ℕ) (n : ℕ) {m D₀ K D : List ℕ} {i u : ℕ} → Walking s t n m D₀ K → Walked s text t n D i u → i ≡ 0 → Checks s t text (eqb u 0)
ended s text t n {D = D} {i} {u} a w e =
    let w₀ : Walked s text t n D 0 u = subst (λ (x : ℕ). Walked s text t n D x u) e w in
    record {
      yes = λ z. end_yes s text t n a.ready.rows w₀ (eqb-true u 0 z) a.ready.short a.ready.formed a.ready.root.some a.ready.root.count a.ready.root.kind a.ready.root.start a.ready.root.end;
      no = λ z. end_no s text t n a.ready.rows w₀ (eqb-false u 0 z);
    }
