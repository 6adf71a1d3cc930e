-- What starts with a slash, from the byte after it.
use Rattle.lexis.proofs.Trivias.{item_block, item_slash, item_slashes, item_comment, comment_slashes}
use Rattle.lexis.specs.Trivia.{placed}
use mathlib.Core.Path.{sym, ap, ◌∙◌}
use native.Mathlib.Omega.{arith}
use Rattle.lexis.proofs.trivia.slash.Goals as goal

pub returns-then-c-eq42 : goal.returns-then-c-eq42
returns-then-c-eq42 c = let a = c.args in
    record {
      is = c.block_comment.ensures.is ∙ sym (ap (placed a.p) (item_block a.s.now a.p a.lines c.requires (sym c.byte_at-c.ensures.is ∙ c.if-c-eq42.true)));
      low = omega arith;
      high = omega arith;
    }

pub returns-then-c-ne47 : goal.returns-then-c-ne47
returns-then-c-ne47 c = let a = c.args in
    record {
      is = sym (ap (placed a.p) (item_slash a.s.now a.p a.lines c.requires (λ e. c.if-c-eq42.false (c.byte_at-c.ensures.is ∙ e)) (λ e. c.if-c-ne47.true (c.byte_at-c.ensures.is ∙ e))));
      low = omega arith;
      high = omega arith;
    }

pub returns-then-not-lines : goal.returns-then-not-lines
returns-then-not-lines c = let a = c.args in
    record {
      is = sym (ap (placed a.p) (item_slashes a.s.now a.p a.lines (c.if-not-lines.true) c.requires (sym c.byte_at-c.ensures.is ∙ c.if-c-ne47.false)));
      low = omega arith;
      high = omega arith;
    }

pub returns-in-Ok : goal.returns-in-Ok
returns-in-Ok c = let a = c.args in
    record {
      is = item_comment a.s.now a.p a.lines (c.if-not-lines.false) (c.in-Ok.ensures.is ∙ comment_slashes a.s.now a.p c.requires (sym c.byte_at-c.ensures.is ∙ c.if-c-ne47.false)) c.requires (sym c.byte_at-c.ensures.is ∙ c.if-c-ne47.false);
      low = omega (arith, c.in-Ok.ensures.low);
      high = omega (arith, c.in-Ok.ensures.high);
    }

pub returns-in-Ok-2 : goal.returns-in-Ok-2
returns-in-Ok-2 c = let a = c.args in
    record {
      is = item_comment a.s.now a.p a.lines (c.if-not-lines.false) (c.in-Ok.ensures.is ∙ comment_slashes a.s.now a.p c.requires (sym c.byte_at-c.ensures.is ∙ c.if-c-ne47.false)) c.requires (sym c.byte_at-c.ensures.is ∙ c.if-c-ne47.false);
      low = omega (arith, c.in-Ok.ensures.low);
      high = omega (arith, c.in-Ok.ensures.high);
    }
