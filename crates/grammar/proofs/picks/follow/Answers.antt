use mathlib.Core.Path.{refl}
use native.Mathlib.Omega.{arith}
use Rattle.grammar.proofs.Callings.{follow_open, follow_operator, follow_question, follow_part, follow_none}
use Rattle.grammar.proofs.picks.follow.Goals as goal

pub returns-in_default-clause-kind : goal.returns-in_default-clause-kind
returns-in_default-clause-kind c = follow_open c.in_default.ensures refl

pub returns-in-Some-clause-kind : goal.returns-in-Some-clause-kind
returns-in-Some-clause-kind c = follow_operator c.in-Ok.ensures refl c.in-Some.ensures.here (λ e. omega (arith, c.in-Some.ensures.named))

pub returns-then-byte_at-eq63-clause-kind : goal.returns-then-byte_at-eq63-clause-kind
returns-then-byte_at-eq63-clause-kind c = follow_question c.in-Ok.ensures refl c.in_default-op_at.ensures.here refl c.byte_at.ensures c.if-byte_at-eq63.true

pub returns-then-is_part-clause-kind : goal.returns-then-is_part-clause-kind
returns-then-is_part-clause-kind c = follow_part c.in-Ok.ensures refl c.in_default-op_at.ensures.here refl c.byte_at.ensures c.if-byte_at-eq63.false c.is_part.ensures c.if-is_part.true

pub returns-else-is_part-clause-kind : goal.returns-else-is_part-clause-kind
returns-else-is_part-clause-kind c = follow_none c.in-Ok.ensures refl c.in_default-op_at.ensures.here refl c.byte_at.ensures c.if-byte_at-eq63.false c.is_part.ensures c.if-is_part.false
