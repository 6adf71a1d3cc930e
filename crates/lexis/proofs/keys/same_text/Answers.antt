-- Each turn reads a unit of one side or compares a byte of both; the units that are unread, and then the bytes that are left, grow fewer.
use mathlib.Core.Path.{sym, ◌∙◌}
use native.Mathlib.Omega.{arith}
use borrow.Author.Tests.{ne_eqb}
use Rattle.lexis.proofs.SameTexts.{quote_as, left_start, take_here, take_there, ends_before, ends_open, ends_closed, ends_after, bytes_differ, bytes_more}
use Rattle.lexis.specs.RunLaws.{clash}
use Rattle.lexis.proofs.keys.same_text.Goals as goal
use Rattle.lexis.proofs.keys.same_text.Goals.{then-m-eq0, else-m-eq0}

pub loop-n-init : goal.loop-n-init
loop-n-init c = left_start c.args.s.now c.args.a c.args.b

pub returns-then-eq : goal.returns-then-eq
returns-then-eq c = elim c.if-m-eq0.branch [
  | then-m-eq0 w ↦ c.closes_at.ensures ∙ sym (ends_closed c.loop-n.invariant c.if-n-eq0.true c.in-Err.ensures w.if-m-eq0.true (sym (quote_as c.in-Err.why) ∙ sym w.eq.ensures ∙ sym w.value-is ∙ c.if-eq.true))
  | else-m-eq0 w ↦ clash (sym c.if-eq.true ∙ w.value-is ∙ ne_eqb c.loop-n.m 0 w.if-m-eq0.false)
]

pub returns-else-eq : goal.returns-else-eq
returns-else-eq c = elim c.if-m-eq0.branch [
  | then-m-eq0 w ↦ c.if-eq.false ∙ sym (ends_open c.loop-n.invariant c.if-n-eq0.true c.in-Err.ensures (sym (quote_as c.in-Err.why) ∙ sym w.eq.ensures ∙ sym w.value-is ∙ c.if-eq.false))
  | else-m-eq0 w ↦ c.if-eq.false ∙ sym (ends_before c.loop-n.invariant c.if-n-eq0.true c.in-Err.ensures w.if-m-eq0.false)
]

pub loop-n-preserved-then-n-eq0 : goal.loop-n-preserved-then-n-eq0
loop-n-preserved-then-n-eq0 c = take_here c.loop-n.invariant (λ k. omega (arith, c.type_inv.s k)) c.if-n-eq0.true c.in-Ok.ensures

pub returns-in_default : goal.returns-in_default
returns-in_default c = sym (ends_after c.loop-n.invariant c.if-n-eq0.false c.if-m-eq0-2.true c.in_default.ensures)

pub loop-n-preserved-then-m-eq0-2 : goal.loop-n-preserved-then-m-eq0-2
loop-n-preserved-then-m-eq0-2 c = take_there c.loop-n.invariant (λ k. omega (arith, c.type_inv.s k)) c.if-m-eq0-2.true c.in-Ok-key_unit.ensures

pub returns-then-u-v : goal.returns-then-u-v
returns-then-u-v c = sym (bytes_differ c.loop-n.invariant c.if-n-eq0.false c.if-m-eq0-2.false c.if-u-v.true)

pub loop-n-preserved : goal.loop-n-preserved
loop-n-preserved c = bytes_more c.loop-n.invariant c.if-n-eq0.false c.if-m-eq0-2.false c.if-u-v.false
