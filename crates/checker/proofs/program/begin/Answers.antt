use mathlib.Core.Path.{sym, ◌∙◌}
use Rattle.checker.proofs.Programs.{begin_rest}
use Rattle.checker.proofs.program.begin.Goals as goal

pub returns-in_default : goal.returns-in_default
returns-in_default c = c.begin.ensures ∙ sym (begin_rest _ c.in_default.in_default-own.rest.0.0.0.0.1 c.in_default.in_default-own.rest.0.0.0.1 c.in_default.in_default-own.rest.0.0.1 c.in_default.in_default-own.rest.0.1 c.in_default.in_default-own.rest.1)
