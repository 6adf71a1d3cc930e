use mathlib.Core.Path.{refl}
use Rattle.grammar.proofs.Refusals.{numbered}
use Rattle.checker.proofs.Conditionals.{branch_gap_no, branch_mark_no, branch_round_no, branch_by}
use Rattle.checker.proofs.conditional.branch.Goals as goal

pub returns-in_default : goal.returns-in_default
returns-in_default c = branch_gap_no c.lines-lines.ensures c.in_default.ensures (numbered _)

pub returns-then-e-at : goal.returns-then-e-at
returns-then-e-at c = branch_mark_no c.lines-lines.ensures c.in-Ok.ensures refl c.mark_end-e.ensures c.if-e-at.true

pub returns-in_default-space : goal.returns-in_default-space
returns-in_default-space c = branch_round_no c.lines-lines.ensures c.in-Ok.ensures refl c.mark_end-e.ensures c.if-e-at.false c.in_default-space.ensures (numbered _)

pub returns : goal.returns
returns c = branch_by c.lines-lines.ensures c.in-Ok.ensures refl c.mark_end-e.ensures c.if-e-at.false c.in-Ok-space.ensures refl c.requires.1 refl c.requires.2 c.kid.ensures
