use Rattle.lexis.specs.Word.{ident_to}
use Rattle.index.proofs.Marks.{Wording}
use Rattle.index.proofs.mark.word_at.Given as goal

abbrev pub invariant-loop-i : goal.invariant-loop-i
invariant-loop-i l = Wording l.s l.p (ident_to l.s l.p) l.m l.i
