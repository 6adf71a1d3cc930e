use mathlib.Core.Path.{sym, ap, ◌∙◌}
use mathlib.Core.Bool.{false}
use Rattle.lexis.specs.Bytes.{is_digit}
use Rattle.lexis.specs.Trivia.{gap_to}
use Rattle.grammar.specs.Said.{byte_beyond}
use Rattle.grammar.proofs.Callings.{first, second}
use Rattle.grammar.proofs.picks.minus_before.Goals as goal

pub returns-then-is_digit : goal.returns-then-is_digit
returns-then-is_digit c = first (is_digit (byte_beyond c.args.s.now (gap_to false c.args.s.now c.args.q))) 4 22 (ap is_digit (sym c.beyond-b.ensures) ∙ sym c.is_digit.ensures ∙ c.if-is_digit.true)

pub returns-else-is_digit : goal.returns-else-is_digit
returns-else-is_digit c = second (is_digit (byte_beyond c.args.s.now (gap_to false c.args.s.now c.args.q))) 4 22 (ap is_digit (sym c.beyond-b.ensures) ∙ sym c.is_digit.ensures ∙ c.if-is_digit.false)
