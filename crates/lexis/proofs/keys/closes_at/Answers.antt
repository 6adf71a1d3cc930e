-- No unit stands there, and the quote is why.
use mathlib.Core.Path.{sym, ◌∙◌}
use native.Mathlib.Omega.{arith}
use Rattle.lexis.proofs.SameTexts.{quote_as, closes_not, closes_by}
use Rattle.lexis.proofs.keys.closes_at.Goals as goal

pub returns-in-Ok : goal.returns-in-Ok
returns-in-Ok c = sym (closes_not c.in-Ok.ensures (λ k. omega (arith, c.type_inv.s k)))

pub returns-in-Err : goal.returns-in-Err
returns-in-Err c = c.eq.ensures ∙ quote_as c.in-Err.why ∙ sym (closes_by c.in-Err.ensures)
