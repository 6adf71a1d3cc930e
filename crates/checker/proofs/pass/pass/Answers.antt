use native.Mathlib.Omega.{arith}
use mathlib.Core.Path.{refl, sym}
use Rattle.checker.proofs.Passes.{child_as, pass_no, pass_suits, pass_met, pass_yes}
use Rattle.checker.proofs.pass.pass.Goals as goal

pub returns-then-j-site : goal.returns-then-j-site
returns-then-j-site c = pass_no _ _ _ _ _ _ _ _ _ _ _ _ refl (λ l. absurd (omega (arith, c.if-j-site.true)))

pub returns-then-not-suits : goal.returns-then-not-suits
returns-then-not-suits c = pass_suits _ _ _ _ _ _ _ _ _ _ _ _ (child_as c.left.ensures.0 c.lines.ensures c.child-y.ensures) c.suits.ensures c.if-not-suits.true

pub returns-in_err-kept : goal.returns-in_err-kept
returns-in_err-kept c = rw c.from_residual.ensures (pass_met _ _ _ _ _ _ _ _ _ _ _ _ (child_as c.left.ensures.0 c.lines.ensures c.child-y.ensures) c.in_err-kept.ensures)

pub returns : goal.returns
returns c = pass_yes _ _ _ _ _ _ _ _ _ _ _ _ (child_as c.left.ensures.0 c.lines.ensures c.child-y.ensures) c.suits.ensures c.if-not-suits.false c.in_ok-kept.ensures (omega (arith, c.if-j-site.false, c.requires.linked.1)) c.packed.ensures (sym c.end.ensures.0) (sym c.next.ensures)
