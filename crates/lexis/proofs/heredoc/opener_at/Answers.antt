-- The two bytes of the opener, then perhaps a dash, then the delimiter.
use Prim.Native.Nat.{◌+◌}
use mathlib.Core.Path.{refl, sym, ◌∙◌}
use mathlib.Core.List.{[], ◌∷◌}
use native.Mathlib.Omega.{arith}
use Rattle.lexis.specs.RunLaws.{stands_inside}
use Rattle.lexis.proofs.Openers.{open_none, open_plain, open_dash}
use Rattle.lexis.proofs.heredoc.opener_at.Goals as goal

pub returns-then-not-two_at : goal.returns-then-not-two_at
returns-then-not-two_at c = open_none c.args.s.now c.args.p (sym c.two_at.ensures ∙ c.if-not-two_at.true) refl

pub overflow_add-p : goal.overflow_add-p
overflow_add-p c = omega (arith, stands_inside (60 ∷ 60 ∷ []) c.args.s.now c.args.p (sym c.two_at.ensures ∙ c.if-not-two_at.false))

pub overflow_add-p-then-one_at : goal.overflow_add-p-then-one_at
overflow_add-p-then-one_at c = omega (arith, stands_inside (45 ∷ []) c.args.s.now (c.args.p + 2) (sym c.one_at.ensures ∙ c.if-one_at.true))

pub returns-then-one_at : goal.returns-then-one_at
returns-then-one_at c = open_dash c.args.s.now c.args.p (sym c.two_at.ensures ∙ c.if-not-two_at.false) (sym c.one_at.ensures ∙ c.if-one_at.true) c.delimiter_at.ensures

pub overflow_add-p-2 : goal.overflow_add-p-2
overflow_add-p-2 c = omega (arith, stands_inside (60 ∷ 60 ∷ []) c.args.s.now c.args.p (sym c.two_at.ensures ∙ c.if-not-two_at.false))

pub returns : goal.returns
returns c = open_plain c.args.s.now c.args.p (sym c.two_at.ensures ∙ c.if-not-two_at.false) (sym c.one_at.ensures ∙ c.if-one_at.false) c.delimiter_at-2.ensures
