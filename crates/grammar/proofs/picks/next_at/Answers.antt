use mathlib.Core.Path.{refl}
use native.Mathlib.Omega.{arith}
use Rattle.grammar.proofs.Callings.{follow_open, follow_question, follow_part, follow_none}
use Rattle.grammar.proofs.Heads.{next_other, next_operator}
use Rattle.grammar.proofs.picks.next_at.Goals as goal

pub returns-then-is_last : goal.returns-then-is_last
returns-then-is_last c = next_other (c.is_last.ensures.none c.if-is_last.true) c.headed.ensures

pub returns-in_default : goal.returns-in_default
returns-in_default c = next_other (follow_open c.in_default.ensures refl) c.headed-in_default.ensures

pub returns-in-Some : goal.returns-in-Some
returns-in-Some c = next_operator c.in-Ok.ensures refl c.in-Some.ensures.here (λ e. omega (arith, c.in-Some.ensures.named)) c.headed-in-Some.ensures

pub returns-then-byte_at-eq63 : goal.returns-then-byte_at-eq63
returns-then-byte_at-eq63 c = next_other (follow_question c.in-Ok.ensures refl c.in_default-op_at.ensures.here refl c.byte_at.ensures c.if-byte_at-eq63.true) c.headed-then-byte_at-eq63.ensures

pub returns-then-is_part : goal.returns-then-is_part
returns-then-is_part c = next_other (follow_part c.in-Ok.ensures refl c.in_default-op_at.ensures.here refl c.byte_at.ensures c.if-byte_at-eq63.false c.is_part.ensures c.if-is_part.true) c.headed-then-is_part.ensures

pub returns : goal.returns
returns c = next_other (follow_none c.in-Ok.ensures refl c.in_default-op_at.ensures.here refl c.byte_at.ensures c.if-byte_at-eq63.false c.is_part.ensures c.if-is_part.false) c.headed-2.ensures
