use mathlib.Core.Path.{refl}
use Rattle.grammar.proofs.Refusals.{numbered, handed_on}
use Rattle.reader.proofs.Wholly.{whole_no, whole_ok, whole_space, whole_left}
use Rattle.reader.proofs.whole.whole.Goals as goal

pub returns-in_err-m : goal.returns-in_err-m
returns-in_err-m c = rw (handed_on c.from_residual.result c.in_err-m.field-0.0 c.from_residual.ensures.1) (whole_no c.in_err-m.ensures (numbered _))

pub returns-then-m-s : goal.returns-then-m-s
returns-then-m-s c = whole_ok c.in_ok-m.ensures refl c.if-m-s.true

pub returns-in_err-g : goal.returns-in_err-g
returns-in_err-g c = rw (handed_on c.from_residual-in_err-g.result c.in_err-g.field-0.0 c.from_residual-in_err-g.ensures.1) (whole_space c.in_ok-m.ensures refl c.if-m-s.false c.in_err-g.ensures (numbered _) refl)

pub returns : goal.returns
returns c = whole_left c.in_ok-m.ensures refl c.if-m-s.false c.in_ok-g.ensures refl c.unexpected.ensures refl
