use Rattle.lexis.specs.RunLaws.{inside}
use Rattle.lexis.proofs.Runs.{tested}
use Rattle.lexis.proofs.Trivias.{item_space, item_single, item_hash, item_ending, item_beyond, comment_hash}
use Rattle.lexis.specs.Bytes.{is_space}
use Rattle.lexis.specs.Trivia.{placed}
use mathlib.Core.Path.{refl, sym, ap, ◌∙◌}
use native.Mathlib.Omega.{arith}
use Rattle.lexis.proofs.trivia.item_at.Goals as goal

pub returns-then-b-gt47 : goal.returns-then-b-gt47
returns-then-b-gt47 c = record { is = item_beyond c.args.s.now c.args.p c.args.lines (omega (arith, c.if-b-gt47.true, c.byte_at-b.ensures.is)); low = omega arith; high = omega arith }

pub returns-then-is_space : goal.returns-then-is_space
returns-then-is_space c = record { is = sym (ap (placed c.args.p) (item_space c.args.s.now c.args.p c.args.lines (tested is_space c.byte_at-b.ensures c.is_space.ensures c.if-is_space.true))); low = omega arith; high = omega (arith, inside is_space c.args.s.now c.args.p refl (tested is_space c.byte_at-b.ensures c.is_space.ensures c.if-is_space.true)) }

pub returns-then-not-lines : goal.returns-then-not-lines
returns-then-not-lines c = record { is = sym (ap (placed c.args.p) (item_single c.args.s.now c.args.p c.args.lines (c.if-not-lines.true) (tested is_space c.byte_at-b.ensures c.is_space.ensures c.if-is_space.false) (λ e. c.if-b-eq47.false (c.byte_at-b.ensures.is ∙ e)))); low = omega arith; high = omega arith }

pub returns-in-Ok : goal.returns-in-Ok
returns-in-Ok c = record { is = item_hash c.args.s.now c.args.p c.args.lines (c.if-not-lines.false) (c.in-Ok.ensures.is ∙ comment_hash c.args.s.now c.args.p (sym c.byte_at-b.ensures.is ∙ c.if-b-eq35.true)) (sym c.byte_at-b.ensures.is ∙ c.if-b-eq35.true); low = omega (arith, c.in-Ok.ensures.low); high = omega (arith, c.in-Ok.ensures.high) }

pub returns-in-Ok-2 : goal.returns-in-Ok-2
returns-in-Ok-2 c = record { is = item_hash c.args.s.now c.args.p c.args.lines (c.if-not-lines.false) (c.in-Ok.ensures.is ∙ comment_hash c.args.s.now c.args.p (sym c.byte_at-b.ensures.is ∙ c.if-b-eq35.true)) (sym c.byte_at-b.ensures.is ∙ c.if-b-eq35.true); low = omega (arith, c.in-Ok.ensures.low); high = omega (arith, c.in-Ok.ensures.high) }

pub returns : goal.returns
returns c = record { is = item_ending c.args.s.now c.args.p c.args.lines (c.if-not-lines.false) (tested is_space c.byte_at-b.ensures c.is_space.ensures c.if-is_space.false) (λ e. c.if-b-eq47.false (c.byte_at-b.ensures.is ∙ e)) (λ e. c.if-b-eq35.false (c.byte_at-b.ensures.is ∙ e)) c.ending_of-w.ensures.is; low = omega arith; high = omega arith }
