use mathlib.Core.Path.{refl, sym, ap, ◌∙◌}
use native.Mathlib.Omega.{arith}
use Rattle.grammar.specs.Said.{refused}
use Rattle.grammar.proofs.Refusals.{numbered, handed_on}
use Rattle.reader.proofs.Signs.{behind_refused, behind_brace, behind_none, behind_cut, behind_space}
use Rattle.reader.proofs.items.behind.Goals as goal

pub returns-in_err-at : goal.returns-in_err-at
returns-in_err-at c = rw (handed_on c.from_residual.result c.in_err-at.field-0.0 c.from_residual.ensures.1) (behind_refused c.in_err-at.ensures (numbered _))

pub returns-then-one_at : goal.returns-then-one_at
returns-then-one_at c = behind_brace c.in_ok-at.ensures refl (sym c.one_at.ensures ∙ c.if-one_at.true)

pub returns-in-Nothing : goal.returns-in-Nothing
returns-in-Nothing c = behind_none c.in_ok-at.ensures refl (sym c.one_at.ensures ∙ c.if-one_at.false) c.in-Nothing.ensures refl c.unexpected.ensures

pub returns-in-Cut : goal.returns-in-Cut
returns-in-Cut c = behind_cut c.in_ok-at.ensures refl (sym c.one_at.ensures ∙ c.if-one_at.false) c.in-Cut.ensures refl (ap refused c.at.ensures)

pub returns-in-End : goal.returns-in-End
returns-in-End c = behind_space c.in_ok-at.ensures refl (sym c.one_at.ensures ∙ c.if-one_at.false) c.in-End.ensures (λ e. omega arith) (λ e. omega arith) c.space-in-End.ensures
