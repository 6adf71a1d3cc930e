use Rattle.grammar.proofs.Leaves.{word_by, word_if}
use Rattle.grammar.proofs.moves.keyword_end.Goals as goal

pub returns-in-1 : goal.returns-in-1
returns-in-1 c = word_by c.args.s.now c.args.p c.args.x 1 c.in-1.is c.word_end.ensures

pub returns-in-2 : goal.returns-in-2
returns-in-2 c = word_by c.args.s.now c.args.p c.args.x 2 c.in-2.is c.word_end-in-2.ensures

pub returns-in-3 : goal.returns-in-3
returns-in-3 c = word_by c.args.s.now c.args.p c.args.x 3 c.in-3.is c.word_end-in-3.ensures

pub returns-in-4 : goal.returns-in-4
returns-in-4 c = word_by c.args.s.now c.args.p c.args.x 4 c.in-4.is c.in_end.ensures

pub returns-in_default : goal.returns-in_default
returns-in_default c = word_if c.args.s.now c.args.p c.args.x c.in_default.in_default-own.rest.0.0.0.1 c.in_default.in_default-own.rest.0.0.1 c.in_default.in_default-own.rest.0.1 c.in_default.in_default-own.rest.1 c.if_end.ensures
