-- A line comment, from the first LF behind its text.
use Rattle.lexis.specs.RunLaws.{reach_end}
use Rattle.lexis.proofs.Trivias.{comment_lf, comment_cut}
use Rattle.lexis.specs.Trivia.{ends_line}
use mathlib.Core.Path.{◌∙◌}
use native.Mathlib.Omega.{arith}
use Rattle.lexis.proofs.trivia.line_comment.Goals as goal

pub returns-then-i-s : goal.returns-then-i-s
returns-then-i-s c = let s = c.args.s.now in
    record {
      is = comment_lf s _ (c.lf_at-i.ensures.lf c.if-i-s.true) ∙ c.lf_at-i.ensures.is;
      low = omega arith;
      high = omega arith;
    }

pub returns-else-i-s : goal.returns-else-i-s
returns-else-i-s c = let s = c.args.s.now in
    record {
      is = comment_cut s _ c.if-i-s.false (reach_end ends_line s _ c.if-i-s.false) ∙ c.lf_at-i.ensures.is;
      low = omega arith;
      high = omega arith;
    }
