use Rattle.grammar.proofs.Callings.{signs_equals, signs_none, signs_colon}
use Rattle.grammar.proofs.picks.signs.Goals as goal

pub returns-then-equals_end-q : goal.returns-then-equals_end-q
returns-then-equals_end-q c = signs_equals c.args.s.now c.args.q c.equals_end.ensures c.if-equals_end-q.true

pub returns-then-byte_at-ne58 : goal.returns-then-byte_at-ne58
returns-then-byte_at-ne58 c = signs_none c.args.s.now c.args.q c.equals_end.ensures c.if-equals_end-q.false c.byte_at.ensures c.if-byte_at-ne58.true

pub returns : goal.returns
returns c = signs_colon c.args.s.now c.args.q c.equals_end.ensures c.if-equals_end-q.false c.byte_at.ensures c.if-byte_at-ne58.false c.byte_at-2.ensures
