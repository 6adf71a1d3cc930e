-- `is_last` meets its contract.
use Rattle.grammar.proofs.Lasts.{last_not, last_line, last_round, last_comma, last_square, last_brace}
use Rattle.grammar.proofs.picks.is_last.Goals as goal

pub returns-then-b-eq32 : goal.returns-then-b-eq32
returns-then-b-eq32 c = last_not _ _ _

pub returns-then-b-eq10 : goal.returns-then-b-eq10
returns-then-b-eq10 c = last_line _ _ _ c.byte_at-b.ensures c.if-b-eq10.true

pub returns-in-41 : goal.returns-in-41
returns-in-41 c = last_round _ _ _ c.byte_at-b.ensures c.in-41.is

pub returns-in-44 : goal.returns-in-44
returns-in-44 c = last_comma _ _ _ c.byte_at-b.ensures c.in-44.is

pub returns-in-93 : goal.returns-in-93
returns-in-93 c = last_square _ _ _ c.byte_at-b.ensures c.in-93.is

pub returns-in-125 : goal.returns-in-125
returns-in-125 c = last_brace _ _ _ c.byte_at-b.ensures c.in-125.is

pub returns-in_default : goal.returns-in_default
returns-in_default c = last_not _ _ _
