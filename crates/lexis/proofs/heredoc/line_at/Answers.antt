-- A line, by whether its delimiter stands behind the spaces, and what stands behind that.
use mathlib.Core.Path.{refl, sym, ap, ◌∙◌}
use native.Mathlib.Omega.{arith}
use Rattle.lexis.specs.RunLaws.{stands_inside}
use Rattle.lexis.specs.Heredoc.{part, ends_by}
use Rattle.lexis.proofs.Lines.{part_slice, part_miss, line_by, line_text, line_ends, ends_text, ends_foreign, ends_closes}
use Rattle.lexis.proofs.heredoc.line_at.Goals as goal

pub returns-then-byte_at : goal.returns-then-byte_at
returns-then-byte_at c = let a = c.args in
    sym (line_text (part a.s.now a.d a.e) a.s.now a.p c.spaces_end-from.result c.spaces_end-from.ensures.is
    (part_miss a.s.now a.e a.d c.spaces_end-from.result (omega (arith, c.min-to.ensures, c.if-d-to.true)) (λ x. c.if-byte_at.true (c.byte_at.ensures.is ∙ x ∙ sym c.byte_at-then-d-to.ensures.is))))

pub returns-then-not-delimits : goal.returns-then-not-delimits
returns-then-not-delimits c = let a = c.args in
    line_by a.s.now a.p (part_slice a.s.now a.d a.e c.min-to.ensures c.min.ensures)
    (line_text _ a.s.now a.p c.spaces_end-from.result c.spaces_end-from.ensures.is (sym c.delimits.ensures ∙ c.if-not-delimits.true))

pub overflow_add-j : goal.overflow_add-j
overflow_add-j c = omega (arith, stands_inside _ c.args.s.now c.spaces_end-from.result (sym c.delimits.ensures ∙ c.if-not-delimits.false))

pub returns-then-is_rest : goal.returns-then-is_rest
returns-then-is_rest c = let a = c.args in
    line_by a.s.now a.p (part_slice a.s.now a.d a.e c.min-to.ensures c.min.ensures)
    (line_ends _ a.s.now a.p c.spaces_end-from.result c.spaces_end-from.ensures.is _ (sym c.delimits.ensures ∙ c.if-not-delimits.false) refl
    ∙ ap (ends_by _) (sym c.byte_at-b.ensures.is) ∙ ends_text _ c.byte_at-b.result (sym c.is_rest.ensures ∙ c.if-is_rest.true))

pub returns-then-is_foreign : goal.returns-then-is_foreign
returns-then-is_foreign c = let a = c.args in
    line_by a.s.now a.p (part_slice a.s.now a.d a.e c.min-to.ensures c.min.ensures)
    (line_ends _ a.s.now a.p c.spaces_end-from.result c.spaces_end-from.ensures.is _ (sym c.delimits.ensures ∙ c.if-not-delimits.false) refl
    ∙ ap (ends_by _) (sym c.byte_at-b.ensures.is) ∙ ends_foreign _ c.byte_at-b.result (sym c.is_rest.ensures ∙ c.if-is_rest.false) (sym c.is_foreign.ensures ∙ c.if-is_foreign.true))

pub returns-else-is_foreign : goal.returns-else-is_foreign
returns-else-is_foreign c = let a = c.args in
    line_by a.s.now a.p (part_slice a.s.now a.d a.e c.min-to.ensures c.min.ensures)
    (line_ends _ a.s.now a.p c.spaces_end-from.result c.spaces_end-from.ensures.is _ (sym c.delimits.ensures ∙ c.if-not-delimits.false) refl
    ∙ ap (ends_by _) (sym c.byte_at-b.ensures.is) ∙ ends_closes _ c.byte_at-b.result (sym c.is_rest.ensures ∙ c.if-is_rest.false) (sym c.is_foreign.ensures ∙ c.if-is_foreign.false))
