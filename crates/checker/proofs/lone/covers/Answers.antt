use native.Mathlib.Omega.{arith}
use Rattle.checker.proofs.Lones.{covers_by}
use Rattle.checker.proofs.lone.covers.Goals as goal

pub returns : goal.returns
returns c = covers_by (omega (arith, c.if-c-memo.false)) (omega (arith, c.if-memo-c.false)) c.one_at.ensures
