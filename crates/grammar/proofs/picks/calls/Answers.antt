use mathlib.Core.Path.{refl}
use Rattle.grammar.proofs.Callings.{calls_open, calls_paren, calls_names}
use Rattle.grammar.proofs.picks.calls.Goals as goal

pub returns-in_default : goal.returns-in_default
returns-in_default c = calls_open c.in_default.ensures refl

pub returns-then-byte_at-eq40 : goal.returns-then-byte_at-eq40
returns-then-byte_at-eq40 c = calls_paren c.in-Ok.ensures refl c.byte_at.ensures c.if-byte_at-eq40.true

pub returns : goal.returns
returns c = calls_names c.in-Ok.ensures refl c.byte_at.ensures c.if-byte_at-eq40.false c.two_at.ensures
