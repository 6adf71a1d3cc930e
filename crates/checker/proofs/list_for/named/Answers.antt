use mathlib.Core.Path.{refl}
use Rattle.grammar.proofs.Refusals.{numbered}
use Rattle.checker.proofs.ListFors.{named_no, named_by}
use Rattle.checker.proofs.list_for.named.Goals as goal

pub returns-in_default : goal.returns-in_default
returns-in_default c = named_no c.in_default.ensures (numbered _)

pub returns : goal.returns
returns c = named_by c.in-Ok.ensures refl c.kid.ensures
