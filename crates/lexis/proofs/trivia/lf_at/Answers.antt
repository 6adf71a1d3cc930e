-- The loop keeps what the comment is, read from the place on.
use Rattle.lexis.specs.RunLaws.{default}
use Rattle.lexis.proofs.Trivias.{comment_step}
use mathlib.Core.Path.{◌∙◌}
use native.Mathlib.Omega.{arith}
use Rattle.lexis.proofs.trivia.lf_at.Goals as goal

pub loop-i-preserved : goal.loop-i-preserved
loop-i-preserved c = let s = c.args.s.now in
    let i = c.loop-i.i in
    let h = c.loop-i-test.true in
    (omega arith, omega arith, comment_step s i h (λ e. c.if-s-i-eq10.false (default s i 0 256 h ∙ e)) ∙ c.loop-i.invariant.2)
