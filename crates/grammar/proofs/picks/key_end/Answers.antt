use Rattle.grammar.proofs.Callings.{key_word, key_string}
use Rattle.grammar.proofs.picks.key_end.Goals as goal

pub returns-then-byte_at-ne34 : goal.returns-then-byte_at-ne34
returns-then-byte_at-ne34 c = key_word c.byte_at.ensures c.if-byte_at-ne34.true c.ident_end.ensures

pub returns : goal.returns
returns c = key_string c.byte_at.ensures c.if-byte_at-ne34.false c.run_at-t.ensures
