use mathlib.Core.Path.{◌≡◌}
use Rattle.lexis.specs.Trivia.{closes}
use Rattle.lexis.specs.RunLaws.{reach}
use Rattle.checker.proofs.lone.closer.Given as goal

abbrev pub invariant-loop-i : goal.invariant-loop-i
invariant-loop-i l = reach closes l.s l.i ≡ reach closes l.s l.p
