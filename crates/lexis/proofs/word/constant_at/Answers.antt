use Rattle.lexis.proofs.Words.{no_word, word_test, last_constant}
use Rattle.lexis.specs.Word.{null, yes, no}
use native.Mathlib.Omega.{arith}
use mathlib.Core.Path.{◌∙◌}
use Rattle.lexis.proofs.word.constant_at.Goals as goal

pub returns : goal.returns
returns c = let a = c.args in
    c.then_some.ensures ∙ last_constant a.s.now a.p (no_word null a.s.now a.p c.word_end.ensures (omega arith) c.if-word_end-p.false) (no_word yes a.s.now a.p c.word_end-2.ensures (omega arith) c.if-word_end-p-2.false) (word_test no a.s.now a.p c.word_end-3.ensures (omega arith))
