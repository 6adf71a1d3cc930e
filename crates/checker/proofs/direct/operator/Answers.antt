use mathlib.Core.Path.{refl, ◌∙◌}
use Rattle.grammar.proofs.Refusals.{numbered}
use Rattle.checker.proofs.Lays.{chain_le}
use Rattle.checker.proofs.Directs.{operator_gap_no, operator_no, operator_by}
use Rattle.checker.proofs.direct.operator.Goals as goal

pub returns-in_default : goal.returns-in_default
returns-in_default c = operator_gap_no _ _ _ _ _ _ c.args.site.own c.requires.0 c.requires.1 c.lines.ensures c.in_default.ensures (numbered _)

pub kid-requires : goal.kid-requires
kid-requires c = record { within = c.requires.0.within; deep = c.requires.0.deep; linked = chain_le _ _ c.requires.0.js _ c.requires.0.chain }

pub returns-then-not-kid : goal.returns-then-not-kid
returns-then-not-kid c = operator_no _ _ _ _ _ _ c.args.site.own c.requires.0 c.requires.1 c.lines.ensures c.in-Ok.ensures refl (c.from-bound.ensures ∙ c.tight.ensures) c.kid.ensures c.if-not-kid.true

pub returns : goal.returns
returns c = operator_by _ _ _ _ _ _ c.args.site.own c.requires.0 c.requires.1 c.lines.ensures c.in-Ok.ensures refl (c.from-bound.ensures ∙ c.tight.ensures) c.kid.ensures c.if-not-kid.false c.next.ensures c.end.ensures.0 c.ends.ensures
