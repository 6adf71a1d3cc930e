use mathlib.Core.Path.{refl}
use Rattle.grammar.proofs.Callings.{beyond_open, beyond_shut}
use Rattle.grammar.proofs.picks.beyond.Goals as goal

pub returns-in-Ok : goal.returns-in-Ok
returns-in-Ok c = beyond_shut c.in-Ok.ensures refl c.byte_at.ensures

pub returns-in-Err : goal.returns-in-Err
returns-in-Err c = beyond_open c.in-Err.ensures refl
