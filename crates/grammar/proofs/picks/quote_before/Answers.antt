use Rattle.grammar.specs.Said.{broken_at}
use Rattle.grammar.proofs.Callings.{first, second, broken_yes, broken_no}
use Rattle.grammar.proofs.picks.quote_before.Goals as goal

pub returns-in-Interpolation : goal.returns-in-Interpolation
returns-in-Interpolation c = first (broken_at c.args.s.now c.args.q) 7 6 (broken_yes c.run_at.ensures c.in-Interpolation.is)

pub returns-in_default : goal.returns-in_default
returns-in_default c = second (broken_at c.args.s.now c.args.q) 7 6 (broken_no c.run_at.ensures c.in_default.not-Interpolation)
