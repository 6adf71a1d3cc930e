-- The operator at p, by its first byte and, where it matters, the one behind it.
use Rattle.std.specs.Prelude.{None}
use Rattle.lexis.proofs.Operators.{answer, answer_by, answer_slash, op_by, op_none, chosen}
use mathlib.Core.Path.{refl, sym, ◌∙◌}
use native.Mathlib.Omega.{arith}
use Rattle.lexis.proofs.operator.op_at.Goals as goal

pub returns-in-42 : goal.returns-in-42
returns-in-42 c = let a = c.args in
    answer a.s.now a.p _ c.some.ensures (op_by a.s.now a.p 42 (sym c.byte_at-a.ensures.is ∙ c.in-42.is)) (omega arith)

pub returns-in-37 : goal.returns-in-37
returns-in-37 c = let a = c.args in
    answer a.s.now a.p _ c.some-in-37.ensures (op_by a.s.now a.p 37 (sym c.byte_at-a.ensures.is ∙ c.in-37.is)) (omega arith)

pub returns-in-43 : goal.returns-in-43
returns-in-43 c = let a = c.args in
    answer a.s.now a.p _ c.some-in-43.ensures (op_by a.s.now a.p 43 (sym c.byte_at-a.ensures.is ∙ c.in-43.is)) (omega arith)

pub returns-in-45 : goal.returns-in-45
returns-in-45 c = let a = c.args in
    answer a.s.now a.p _ c.some-in-45.ensures (op_by a.s.now a.p 45 (sym c.byte_at-a.ensures.is ∙ c.in-45.is)) (omega arith)

pub returns-in-62 : goal.returns-in-62
returns-in-62 c = let a = c.args in
    answer_by a.s.now a.p 61 _ _ (chosen a.s.now a.p 61 c.followed-in-62.ensures c.some-in-62.ensures c.some-in-62-2.ensures) (op_by a.s.now a.p 62 (sym c.byte_at-a.ensures.is ∙ c.in-62.is)) (omega arith) (omega arith)

pub returns-in-60 : goal.returns-in-60
returns-in-60 c = let a = c.args in
    answer_by a.s.now a.p 61 _ _ (chosen a.s.now a.p 61 c.followed-in-60.ensures c.some-in-60.ensures c.some-in-60-2.ensures) (op_by a.s.now a.p 60 (sym c.byte_at-a.ensures.is ∙ c.in-60.is)) (omega arith) (omega arith)

pub returns-in-61 : goal.returns-in-61
returns-in-61 c = let a = c.args in
    answer_by a.s.now a.p 61 _ _ (chosen a.s.now a.p 61 c.followed-in-61.ensures c.some-in-61.ensures refl) (op_by a.s.now a.p 61 (sym c.byte_at-a.ensures.is ∙ c.in-61.is)) (omega arith) tt

pub returns-in-33 : goal.returns-in-33
returns-in-33 c = let a = c.args in
    answer_by a.s.now a.p 61 _ _ (chosen a.s.now a.p 61 c.followed-in-33.ensures c.some-in-33.ensures refl) (op_by a.s.now a.p 33 (sym c.byte_at-a.ensures.is ∙ c.in-33.is)) (omega arith) tt

pub returns-in-38 : goal.returns-in-38
returns-in-38 c = let a = c.args in
    answer_by a.s.now a.p 38 _ _ (chosen a.s.now a.p 38 c.followed-in-38.ensures c.some-in-38.ensures refl) (op_by a.s.now a.p 38 (sym c.byte_at-a.ensures.is ∙ c.in-38.is)) (omega arith) tt

pub returns-in-124 : goal.returns-in-124
returns-in-124 c = let a = c.args in
    answer_by a.s.now a.p 124 _ _ (chosen a.s.now a.p 124 c.followed-in-124.ensures c.some-in-124.ensures refl) (op_by a.s.now a.p 124 (sym c.byte_at-a.ensures.is ∙ c.in-124.is)) (omega arith) tt

pub returns-in-47 : goal.returns-in-47
returns-in-47 c = let a = c.args in
    answer_slash a.s.now a.p _ (chosen a.s.now a.p 47 c.followed.ensures refl (chosen a.s.now a.p 42 c.followed-slash.ensures refl c.some-in-47.ensures)) (op_by a.s.now a.p 47 (sym c.byte_at-a.ensures.is ∙ c.in-47.is)) (omega arith)

pub returns-in_default : goal.returns-in_default
returns-in_default c = let a = c.args in
    answer a.s.now a.p None refl (op_none a.s.now a.p (λ e. c.in_default.in_default-own.rest.0.0.0.0.0.0.0.0.0.0.1 (c.byte_at-a.ensures.is ∙ e)) (λ e. c.in_default.in_default-own.rest.0.0.0.0.0.0.0.0.0.1 (c.byte_at-a.ensures.is ∙ e)) (λ e. c.in_default.in_default-own.rest.0.0.0.0.0.0.0.0.1 (c.byte_at-a.ensures.is ∙ e)) (λ e. c.in_default.in_default-own.rest.0.0.0.0.0.0.0.1 (c.byte_at-a.ensures.is ∙ e)) (λ e. c.in_default.in_default-own.rest.0.0.0.0.0.0.1 (c.byte_at-a.ensures.is ∙ e)) (λ e. c.in_default.in_default-own.rest.0.0.0.0.0.1 (c.byte_at-a.ensures.is ∙ e)) (λ e. c.in_default.in_default-own.rest.0.0.0.0.1 (c.byte_at-a.ensures.is ∙ e)) (λ e. c.in_default.in_default-own.rest.0.0.0.1 (c.byte_at-a.ensures.is ∙ e)) (λ e. c.in_default.in_default-own.rest.0.0.1 (c.byte_at-a.ensures.is ∙ e)) (λ e. c.in_default.in_default-own.rest.0.1 (c.byte_at-a.ensures.is ∙ e)) (λ e. c.in_default.in_default-own.rest.1 (c.byte_at-a.ensures.is ∙ e))) tt
