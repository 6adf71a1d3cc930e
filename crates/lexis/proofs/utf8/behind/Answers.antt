use mathlib.Core.Path.{sym, ap}
use Rattle.lexis.specs.Bytes.{nonzero}
use mathlib.Core.Bool.{true, false}
use Rattle.lexis.proofs.Sequences.{tested, behind_no, behind_one, behind_two_no, behind_two, behind_three}
use Rattle.lexis.proofs.utf8.behind.Goals as goal

pub returns-then-not-within : goal.returns-then-not-within
returns-then-not-within c = ap nonzero (sym (behind_no c.args.s.now c.args.p c.args.low c.args.high c.args.n (c.requires.1) (tested _ _ c.byte_at.ensures.is c.within.ensures (c.if-not-within.true))))

pub returns-then-n-eq1 : goal.returns-then-n-eq1
returns-then-n-eq1 c = ap nonzero (sym (behind_one c.args.s.now c.args.p c.args.low c.args.high c.args.n (c.requires.1) (tested _ _ c.byte_at.ensures.is c.within.ensures (c.if-not-within.false)) c.if-n-eq1.true))

pub returns-then-not-within-2 : goal.returns-then-not-within-2
returns-then-not-within-2 c = ap nonzero (sym (behind_two_no c.args.s.now c.args.p c.args.low c.args.high c.args.n (c.requires.1) (tested _ _ c.byte_at.ensures.is c.within.ensures (c.if-not-within.false)) c.if-n-eq1.false (c.requires.2) (tested _ _ c.byte_at-2.ensures.is c.within-2.ensures (c.if-not-within-2.true))))

pub returns-then-n-eq2 : goal.returns-then-n-eq2
returns-then-n-eq2 c = ap nonzero (sym (behind_two c.args.s.now c.args.p c.args.low c.args.high c.args.n (c.requires.1) (tested _ _ c.byte_at.ensures.is c.within.ensures (c.if-not-within.false)) (tested _ _ c.byte_at-2.ensures.is c.within-2.ensures (c.if-not-within-2.false)) c.if-n-eq2.true))

pub returns-then-within : goal.returns-then-within
returns-then-within c = ap nonzero (sym (behind_three c.args.s.now c.args.p c.args.low c.args.high c.args.n (c.requires.1) (tested _ _ c.byte_at.ensures.is c.within.ensures (c.if-not-within.false)) c.if-n-eq1.false c.if-n-eq2.false (c.requires.2) (c.requires.3) (tested _ _ c.byte_at-2.ensures.is c.within-2.ensures (c.if-not-within-2.false)) true (tested _ _ c.byte_at-3.ensures.is c.within-3.ensures c.if-within.true)))

pub returns-else-within : goal.returns-else-within
returns-else-within c = ap nonzero (sym (behind_three c.args.s.now c.args.p c.args.low c.args.high c.args.n (c.requires.1) (tested _ _ c.byte_at.ensures.is c.within.ensures (c.if-not-within.false)) c.if-n-eq1.false c.if-n-eq2.false (c.requires.2) (c.requires.3) (tested _ _ c.byte_at-2.ensures.is c.within-2.ensures (c.if-not-within-2.false)) false (tested _ _ c.byte_at-3.ensures.is c.within-3.ensures c.if-within.false)))
