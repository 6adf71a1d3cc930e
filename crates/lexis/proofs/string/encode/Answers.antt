use mathlib.Core.Path.{sym, ap, ◌∙◌}
use Rattle.std.specs.Prelude.{Ok}
use Rattle.lexis.proofs.Spelling.{scalar_one, scalar_two, scalar_three, scalar_four}
use Rattle.lexis.proofs.string.encode.Goals as goal

pub returns-then-v-lt128 : goal.returns-then-v-lt128
returns-then-v-lt128 c = ap Ok c.made.ensures ∙ scalar_one c.args.width c.args.v (sym c.is_scalar.ensures ∙ c.if-not-is_scalar.false) c.if-v-lt128.true

pub returns-then-v-lt2048 : goal.returns-then-v-lt2048
returns-then-v-lt2048 c = ap Ok c.made-then-v-lt2048.ensures ∙ scalar_two c.args.width c.args.v (sym c.is_scalar.ensures ∙ c.if-not-is_scalar.false) c.if-v-lt128.false c.if-v-lt2048.true

pub returns-then-v-lt65536 : goal.returns-then-v-lt65536
returns-then-v-lt65536 c = ap Ok c.made-then-v-lt65536.ensures ∙ scalar_three c.args.width c.args.v (sym c.is_scalar.ensures ∙ c.if-not-is_scalar.false) c.if-v-lt2048.false c.if-v-lt65536.true

pub returns : goal.returns
returns c = ap Ok c.made-2.ensures ∙ scalar_four c.args.width c.args.v (sym c.is_scalar.ensures ∙ c.if-not-is_scalar.false) c.if-v-lt65536.false
