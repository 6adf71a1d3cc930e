-- What ends an item, from its first byte.
use Prim.Native.Nat.{◌+◌}
use Rattle.lexis.specs.RunLaws.{here}
use Rattle.lexis.proofs.Trivias.{stop_comma, stop_hash, stop_slash, stop_slashes, comment_hash, comment_slashes, stop_line, stop_none}
use mathlib.Core.Path.{sym, ◌∙◌}
use native.Mathlib.Omega.{arith}
use Rattle.lexis.proofs.trivia.terminator.Goals as goal

pub returns-then-b-eq44 : goal.returns-then-b-eq44
returns-then-b-eq44 c = let a = c.args in
    record {
      is = sym (stop_comma a.s.now a.p (sym c.byte_at-b.ensures.is ∙ c.if-b-eq44.true));
      low = omega arith;
      high = omega arith;
    }

pub returns-then-b-eq35 : goal.returns-then-b-eq35
returns-then-b-eq35 c = let a = c.args in
    record {
      is = (c.comment_stop.ensures a.p).is ∙ comment_hash a.s.now a.p (sym c.byte_at-b.ensures.is ∙ c.if-b-eq35.true) ∙ sym (stop_hash a.s.now a.p (sym c.byte_at-b.ensures.is ∙ c.if-b-eq35.true));
      low = omega (arith, (c.comment_stop.ensures a.p).low);
      high = omega (arith, (c.comment_stop.ensures a.p).high);
    }

pub returns-then-one_at : goal.returns-then-one_at
returns-then-one_at c = let a = c.args in
    record {
      is = (c.comment_stop-then-one_at.ensures a.p).is ∙ comment_slashes a.s.now a.p (sym c.byte_at-b.ensures.is ∙ c.if-b-eq47.true) (stop_slashes a.s.now a.p c.one_at.ensures c.if-one_at.true) ∙ sym (stop_slash a.s.now a.p (sym c.byte_at-b.ensures.is ∙ c.if-b-eq47.true) c.one_at.ensures ∙ rw c.if-one_at.true);
      low = omega (arith, (c.comment_stop-then-one_at.ensures a.p).low);
      high = omega (arith, (c.comment_stop-then-one_at.ensures a.p).high, here a.s.now (a.p + 1), stop_slashes a.s.now a.p c.one_at.ensures c.if-one_at.true);
    }

pub returns-then-b-eq47 : goal.returns-then-b-eq47
returns-then-b-eq47 c = let a = c.args in
    record {
      is = sym (stop_slash a.s.now a.p (sym c.byte_at-b.ensures.is ∙ c.if-b-eq47.true) c.one_at.ensures ∙ rw c.if-one_at.false);
      low = omega arith;
      high = omega arith;
    }

pub returns-then-w-ne0 : goal.returns-then-w-ne0
returns-then-w-ne0 c = let a = c.args in
    record {
      is = sym (stop_line a.s.now a.p (λ e. c.if-b-eq44.false (c.byte_at-b.ensures.is ∙ e)) (λ e. c.if-b-eq35.false (c.byte_at-b.ensures.is ∙ e)) (λ e. c.if-b-eq47.false (c.byte_at-b.ensures.is ∙ e)) c.ending_of-w.ensures c.if-w-ne0.true);
      low = omega arith;
      high = omega arith;
    }

pub returns : goal.returns
returns c = let a = c.args in
    record {
      is = sym (stop_none a.s.now a.p (λ e. c.if-b-eq44.false (c.byte_at-b.ensures.is ∙ e)) (λ e. c.if-b-eq35.false (c.byte_at-b.ensures.is ∙ e)) (λ e. c.if-b-eq47.false (c.byte_at-b.ensures.is ∙ e)) c.ending_of-w.ensures c.if-w-ne0.false);
      low = omega arith;
      high = omega arith;
    }
