-- The loop keeps the end of the run of identifier characters.
use Rattle.lexis.proofs.Runs.{tested, small_rest, running_on, running_stop, running_end}
use Rattle.lexis.proofs.Words.{ident_on}
use Rattle.lexis.specs.Bytes.{byte_at, is_within, is_start, is_rest}
use native.Mathlib.Omega.{arith}
use mathlib.Core.Path.{refl}
use Rattle.lexis.specs.RunLaws.{inside}
use Rattle.lexis.proofs.word.ident_end.Goals as goal
use Rattle.lexis.proofs.word.ident_end.Goals.{else-not-within-via-then-not-within+else-not-is_rest, else-not-within-via-else-not-within}

pub returns-then-not-is_rest : goal.returns-then-not-is_rest
returns-then-not-is_rest c = ident_on (tested is_start c.byte_at-b.ensures c.is_start.ensures c.if-not-is_start.false) (running_stop c.loop-i.invariant (tested is_rest c.byte_at-c.ensures c.is_rest.ensures c.if-not-is_rest.true))

pub loop-i-preserved : goal.loop-i-preserved
loop-i-preserved c = running_on c.loop-i.invariant c.loop-i-test.true (elim c.else-not-within.branch [ else-not-within-via-then-not-within+else-not-is_rest w ↦ tested is_rest c.byte_at-c.ensures w.is_rest.ensures w.if-not-is_rest.false | else-not-within-via-else-not-within w ↦ small_rest (byte_at c.args.s.now c.loop-i.i) (tested (is_within 97 122) c.byte_at-c.ensures c.within.ensures w.if-not-within.false) ])

pub returns : goal.returns
returns c = let e = tested is_start c.byte_at-b.ensures c.is_start.ensures c.if-not-is_start.false in
    ident_on e (running_end c.loop-i.invariant c.loop-i-test.false (omega (arith, inside is_start c.args.s.now c.args.p refl e)))
