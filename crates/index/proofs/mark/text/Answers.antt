-- What is left of the text has the same mark.
use native.Mathlib.Omega.{arith}
use Rattle.index.proofs.Marks.{text_end, text_more}
use Rattle.index.proofs.mark.text.Goals as goal

pub loop-u-preserved : goal.loop-u-preserved
loop-u-preserved c = text_more c.loop-u.invariant (λ k. omega (arith, c.type_inv.s k)) c.in-Ok.ensures c.unit-m.ensures

pub returns : goal.returns
returns c = text_end c.loop-u.invariant c.in_default.ensures
