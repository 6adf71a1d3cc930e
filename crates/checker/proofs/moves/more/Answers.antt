use mathlib.Core.Path.{refl, ap, sym, ◌∙◌}
use Rattle.grammar.specs.Said.{refused}
use Rattle.grammar.proofs.Refusals.{numbered, handed_on}
use Rattle.checker.proofs.Goings.{more_no, more_stuck, more_brace, more_here}
use Rattle.checker.proofs.moves.more.Goals as goal

pub returns-in_err-at : goal.returns-in_err-at
returns-in_err-at c = rw (handed_on c.from_residual.result c.in_err-at.field-0.0 c.from_residual.ensures.1) (more_no c.in_err-at.ensures (numbered _))

pub returns-in_err-w : goal.returns-in_err-w
returns-in_err-w c = rw (handed_on c.from_residual-in_err-w.result c.in_err-w.field-0.0 c.from_residual-in_err-w.ensures.1) (more_stuck c.in_ok-at.ensures refl c.in_err-w.ensures (numbered _))

pub returns-then-one_at : goal.returns-then-one_at
returns-then-one_at c = more_brace c.in_ok-at.ensures refl c.in_ok-w.ensures refl (sym c.one_at.ensures ∙ c.if-one_at.true) (ap refused c.at.ensures)

pub returns : goal.returns
returns c = more_here c.in_ok-at.ensures refl c.in_ok-w.ensures refl (sym c.one_at.ensures ∙ c.if-one_at.false)
