use Rattle.grammar.proofs.Keys.{sign_equals, sign_colon, sign_none}
use Rattle.grammar.proofs.picks.sign_of.Goals as goal

pub returns-then-equals_end-q : goal.returns-then-equals_end-q
returns-then-equals_end-q c = sign_equals c.equals_end.ensures c.if-equals_end-q.true

pub returns-then-byte_at-ne58 : goal.returns-then-byte_at-ne58
returns-then-byte_at-ne58 c = sign_none c.args.s.now c.args.q

pub returns-then-byte_at-eq58 : goal.returns-then-byte_at-eq58
returns-then-byte_at-eq58 c = sign_none c.args.s.now c.args.q

pub returns-else-byte_at-eq58 : goal.returns-else-byte_at-eq58
returns-else-byte_at-eq58 c = sign_colon c.equals_end.ensures c.if-equals_end-q.false c.byte_at.ensures c.if-byte_at-ne58.false c.byte_at-2.ensures c.if-byte_at-eq58.false
