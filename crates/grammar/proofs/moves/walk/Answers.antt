use Rattle.grammar.proofs.Refusals.{numbered, handed_on}
use Rattle.grammar.proofs.Walks.{walking_start, walking_end, walking_no, walking_more}
use mathlib.Core.Path.{refl}
use Rattle.grammar.proofs.moves.walk.Goals as goal

pub loop-left-init : goal.loop-left-init
loop-left-init c = walking_start _ _ _ _ _

pub returns-then-x-eq0 : goal.returns-then-x-eq0
returns-then-x-eq0 c = walking_end c.loop-left.invariant c.number-x.ensures c.if-x-eq0.true refl

pub returns-in_err-q : goal.returns-in_err-q
returns-in_err-q c = rw (handed_on c.from_residual.result c.in_err-q.field-0.0 c.from_residual.ensures.1) (walking_no c.loop-left.invariant c.number-x.ensures c.if-x-eq0.false c.in_err-q.ensures (numbered _))

pub loop-left-preserved : goal.loop-left-preserved
loop-left-preserved c = walking_more c.loop-left.invariant c.number-x.ensures c.if-x-eq0.false c.in_ok-q.ensures refl
