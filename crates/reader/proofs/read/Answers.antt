use native.Mathlib.Omega.{arith}
use Rattle.reader.proofs.Wholly.{read_long, read_bad}
use Rattle.reader.proofs.read.Goals as goal

pub returns-then-source-gt-SOURCE : goal.returns-then-source-gt-SOURCE
returns-then-source-gt-SOURCE c = read_long (omega (arith, c.if-source-gt-SOURCE.true)) c.refused.ensures

pub returns-then-bad-source : goal.returns-then-bad-source
returns-then-bad-source c = read_bad (omega (arith, c.if-source-gt-SOURCE.false)) (c.first_bad-bad.ensures.is) c.if-bad-source.true (c.first_bad-bad.ensures.high) c.refused-then-bad-source.ensures
