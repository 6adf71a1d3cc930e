use Prim.Native.Nat.{◌+◌}
use mathlib.Core.Path.{refl, sym}
use Rattle.grammar.specs.Moves as moves
use Rattle.std.proofs.Common.{add-zero}
use lib.Dec.{eqb}
use borrow.Author.Tests.{eq-eqb, ne_eqb}
use Rattle.grammar.proofs.Leaves.{one, other, operator_is}
use Rattle.grammar.proofs.moves.operator.Goals as goal

pub returns-then-kind-eq-NONE : goal.returns-then-kind-eq-NONE
returns-then-kind-eq-NONE c = operator_is c.args.kind c.in_default.ensures.here (one (eqb 0 c.args.kind) (moves.to (c.args.p + 0)) (moves.unexpected c.args.s.now c.args.p) (eq-eqb _ _ (sym c.if-kind-eq-NONE.true)) (rw (add-zero c.args.p) refl))

pub returns-else-kind-eq-NONE : goal.returns-else-kind-eq-NONE
returns-else-kind-eq-NONE c = operator_is c.args.kind c.in_default.ensures.here (other (eqb 0 c.args.kind) (moves.to (c.args.p + 0)) (moves.unexpected c.args.s.now c.args.p) (ne_eqb _ _ (λ e. c.if-kind-eq-NONE.false (sym e))) c.unexpected.ensures)

pub returns-then-o-kind : goal.returns-then-o-kind
returns-then-o-kind c = operator_is c.args.kind c.in-Some.ensures.here (one (eqb c.in-Some.o.kind c.args.kind) (moves.to (c.args.p + c.in-Some.o.width)) (moves.unexpected c.args.s.now c.args.p) (eq-eqb _ _ c.if-o-kind.true) refl)

pub returns-else-o-kind : goal.returns-else-o-kind
returns-else-o-kind c = operator_is c.args.kind c.in-Some.ensures.here (other (eqb c.in-Some.o.kind c.args.kind) (moves.to (c.args.p + c.in-Some.o.width)) (moves.unexpected c.args.s.now c.args.p) (ne_eqb _ _ c.if-o-kind.false) c.unexpected-else-o-kind.ensures)
