use mathlib.Core.Path.{refl}
use Rattle.grammar.proofs.Refusals.{numbered}
use Rattle.checker.proofs.Elements.{last_closer, last_no, dots_no, dots_gap_no, dots_open, dots_by}
use Rattle.checker.proofs.list.last.Goals as goal

pub returns-then-c-at : goal.returns-then-c-at
returns-then-c-at c = last_closer c.requires.0 c.mark_end-c.ensures c.if-c-at.true c.ends.ensures

pub returns-then-closer-ne-CALL : goal.returns-then-closer-ne-CALL
returns-then-closer-ne-CALL c = last_no c.requires.0 c.mark_end-c.ensures c.requires.1 c.if-c-at.false c.if-closer-ne-CALL.true

pub returns-then-d-at : goal.returns-then-d-at
returns-then-d-at c = dots_no c.requires.0 c.mark_end-c.ensures c.requires.1 c.if-c-at.false c.dots_end-d.ensures c.if-d-at.true

pub returns-in_default : goal.returns-in_default
returns-in_default c = dots_gap_no c.requires.0 c.mark_end-c.ensures c.requires.1 c.if-c-at.false c.dots_end-d.ensures c.if-d-at.false c.if-closer-ne-CALL.false c.in_default.ensures (numbered _)

pub returns-then-e-q : goal.returns-then-e-q
returns-then-e-q c = dots_open c.requires.0 c.mark_end-c.ensures c.requires.1 c.if-c-at.false c.dots_end-d.ensures c.if-d-at.false c.if-closer-ne-CALL.false c.in-Ok.ensures refl c.mark_end-e.ensures c.if-e-q.true

pub returns : goal.returns
returns c = dots_by c.requires.0 c.mark_end-c.ensures c.requires.1 c.if-c-at.false c.dots_end-d.ensures c.if-d-at.false c.if-closer-ne-CALL.false c.in-Ok.ensures refl c.mark_end-e.ensures c.if-e-q.false c.ends-2.ensures
