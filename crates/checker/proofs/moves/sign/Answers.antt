use mathlib.Core.Path.{refl}
use native.Mathlib.Omega.{arith}
use Rattle.grammar.proofs.Refusals.{numbered}
use Rattle.checker.proofs.Goings.{sign_no, sign_equals, sign_colon, sign_none}
use Rattle.checker.proofs.moves.sign.Goals as goal

pub returns-in_default : goal.returns-in_default
returns-in_default c = (sign_no c.in_default.ensures (numbered _), tt)

pub returns-then-e-at : goal.returns-then-e-at
returns-then-e-at c = (sign_equals c.in-Ok.ensures refl c.equals_end-e.ensures c.if-e-at.true, omega arith)

pub returns-then-c-at : goal.returns-then-c-at
returns-then-c-at c = (sign_colon c.in-Ok.ensures refl c.equals_end-e.ensures c.if-e-at.false c.mark_end-c.ensures c.if-c-at.true, omega arith)

pub returns : goal.returns
returns c = (sign_none c.in-Ok.ensures refl c.equals_end-e.ensures c.if-e-at.false c.mark_end-c.ensures c.if-c-at.false, tt)
