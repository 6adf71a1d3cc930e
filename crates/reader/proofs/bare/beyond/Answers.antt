-- `beyond` meets its contract.
use mathlib.Core.Path.{refl, sym, ◌∙◌}
use native.Mathlib.Omega.{arith}
use Rattle.grammar.proofs.Refusals.{numbered, handed_on}
use Rattle.reader.proofs.Arrays.{beyond_gap, beyond_comma, beyond_last, beyond_else, beyond_inside}
use Rattle.reader.proofs.bare.beyond.Goals as goal

pub returns-in_err-c : goal.returns-in_err-c
returns-in_err-c c = rw (handed_on c.from_residual.result c.in_err-c.field-0.0 c.from_residual.ensures.1) (beyond_gap c.in_err-c.ensures (numbered _))

pub overflow_add-c : goal.overflow_add-c
overflow_add-c c = omega (arith, beyond_inside c.in_ok-c.ensures refl (sym c.one_at.ensures ∙ c.if-one_at.true))

pub returns-then-one_at : goal.returns-then-one_at
returns-then-one_at c = beyond_comma c.in_ok-c.ensures refl (sym c.one_at.ensures ∙ c.if-one_at.true) c.space-then-one_at.ensures

pub returns-then-one_at-2 : goal.returns-then-one_at-2
returns-then-one_at-2 c = beyond_last c.in_ok-c.ensures refl (sym c.one_at.ensures ∙ c.if-one_at.false) (sym c.one_at-2.ensures ∙ c.if-one_at-2.true)

pub returns : goal.returns
returns c = beyond_else c.in_ok-c.ensures refl (sym c.one_at.ensures ∙ c.if-one_at.false) (sym c.one_at-2.ensures ∙ c.if-one_at-2.false) c.unexpected.ensures
