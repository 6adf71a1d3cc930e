use Rattle.lexis.specs.RunLaws.{stands_inside}
use Rattle.lexis.proofs.Runs.{tested}
use Rattle.lexis.proofs.Words.{word_on}
use Rattle.lexis.specs.Bytes.{is_rest}
use borrow.Author.Tests.{not-false}
use mathlib.Core.Path.{sym, ◌∙◌}
use native.Mathlib.Omega.{arith}
use Rattle.lexis.proofs.word.word_end.Goals as goal

pub overflow_add-e : goal.overflow_add-e
overflow_add-e c = let a = c.args in
    omega (arith, stands_inside a.w.now a.s.now a.p (sym c.all_at.ensures ∙ not-false _ c.if-not-all_at.false-raw))

pub returns-else-is_rest : goal.returns-else-is_rest
returns-else-is_rest c = let a = c.args in
    record {
      is = sym (word_on a.w.now a.s.now a.p (sym c.all_at.ensures ∙ not-false _ c.if-not-all_at.false-raw) (tested is_rest c.byte_at-b.ensures c.is_rest.ensures c.if-is_rest.false));
      low = omega arith;
      high = omega (arith, stands_inside a.w.now a.s.now a.p (sym c.all_at.ensures ∙ not-false _ c.if-not-all_at.false-raw));
    }
