use Rattle.index.specs.Mark.{mixed}
-- What is left of the word has the same mark and the same end.
use mathlib.Core.Path.{ap, sym, ◌∙◌}
use native.Mathlib.Omega.{arith}
use Rattle.lexis.specs.Word.{ident_to}
use Rattle.lexis.proofs.Runs.{small_rest}
use Rattle.index.proofs.Marks.{wording_start, wording_on, word_to_lem, token_stop, token_last, word_within}
use Rattle.index.proofs.mark.word_at.Goals as goal
use Rattle.index.proofs.mark.word_at.Goals.{else-not-within-via-then-not-within+else-not-is_rest, else-not-within-via-else-not-within}

pub loop-i-init : goal.loop-i-init
loop-i-init c = wording_start c.args.s.now c.args.p (ident_to c.args.s.now c.args.p) (word_to_lem c.args.s.now c.args.p c.requires)

pub returns-then-not-is_rest : goal.returns-then-not-is_rest
returns-then-not-is_rest c = token_stop c.loop-i.invariant c.requires c.byte_at-b.ensures (sym c.is_rest.ensures ∙ c.if-not-is_rest.true)

pub loop-i-preserved : goal.loop-i-preserved
loop-i-preserved c = wording_on c.loop-i.invariant c.byte_at-b.ensures
    (elim c.else-not-within.branch [
      | else-not-within-via-then-not-within+else-not-is_rest w ↦ sym w.is_rest.ensures ∙ w.if-not-is_rest.false
      | else-not-within-via-else-not-within w ↦ small_rest c.byte_at-b.result (sym c.within.ensures ∙ w.if-not-within.false)
    ])
    (c.mix-m.ensures.0 ∙ ap (mixed c.loop-i.m) c.from.ensures, c.mix-m.ensures.1)

pub returns : goal.returns
returns c = token_last c.loop-i.invariant c.requires c.loop-i-test.false (omega (arith, word_within (word_to_lem c.args.s.now c.args.p c.requires)))
