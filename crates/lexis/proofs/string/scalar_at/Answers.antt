use mathlib.Core.Path.{sym, ap, ◌∙◌}
use native.Mathlib.Omega.{arith}
use Rattle.lexis.specs.String.{answer_of}
use Rattle.lexis.proofs.Spelling.{digit_of, turn_end, turn_off, turn_on, turn_over}
use Rattle.lexis.proofs.string.scalar_at.Goals as goal

pub returns-in_default : goal.returns-in_default
returns-in_default c = ap answer_of (sym (turn_off c.args.s.now c.args.p c.args.n c.loop-k.k c.loop-k.v c.loop-k.invariant.1 _ (c.hex_value.ensures.value ∙ ap digit_of c.byte_at.ensures.is) c.loop-k-test.true c.in_default.is))

pub returns-then-v-gt-LAST_SCALAR : goal.returns-then-v-gt-LAST_SCALAR
returns-then-v-gt-LAST_SCALAR c = ap answer_of (sym (turn_over c.args.s.now c.args.p c.args.n c.loop-k.k c.loop-k.v c.loop-k.invariant.1 _ (c.hex_value.ensures.value ∙ ap digit_of c.byte_at.ensures.is) c.loop-k-test.true c.in-Some.d c.in-Some.is (omega (arith, c.from.ensures, c.if-v-gt-LAST_SCALAR.true))))

pub loop-k-preserved : goal.loop-k-preserved
loop-k-preserved c = (omega arith, rw c.from.ensures (turn_on c.args.s.now c.args.p c.args.n c.loop-k.k c.loop-k.v c.loop-k.invariant.1 _ (c.hex_value.ensures.value ∙ ap digit_of c.byte_at.ensures.is) c.loop-k-test.true c.in-Some.d c.in-Some.is))

pub returns : goal.returns
returns c = c.encode.ensures ∙ ap answer_of (sym (turn_end c.args.s.now c.args.p c.args.n c.loop-k.k c.loop-k.v c.loop-k.invariant.1 c.loop-k-test.false))
