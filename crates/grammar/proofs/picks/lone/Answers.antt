use mathlib.Core.Path.{◌∙◌}
use Rattle.grammar.proofs.Callings.{lone_by}
use Rattle.grammar.proofs.picks.lone.Goals as goal

pub returns : goal.returns
returns c = c.signs.ensures ∙ lone_by c.args.s.now c.args.a c.key_end-k.ensures c.space_end.ensures
