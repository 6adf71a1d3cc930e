use mathlib.Core.Path.{refl}
use native.Mathlib.Omega.{arith}
use Rattle.grammar.proofs.Refusals.{numbered}
use Rattle.checker.proofs.Directs.{direct_low}
use Rattle.checker.proofs.Lays.{known, turn_start, turn_within, do_fin, do_stop, do_other, do_later, do_on, plain_kid, plain_kid_no, plain_rep, plain_rep_no, plain_up}
use Rattle.checker.proofs.Goings.{gone_as}
use Rattle.checker.proofs.lay.lay.Goals as goal

pub loop-site-init : goal.loop-site-init
loop-site-init c = turn_start _ _ _ _ _ (known _ c.requires.known) c.begin-pc.ensures c.requires.direct.js c.requires.direct.chain

pub returns-then-x-eq-FIN : goal.returns-then-x-eq-FIN
returns-then-x-eq-FIN c = do_fin _ _ _ _ _ c.loop-site.invariant c.instr-x.ensures _ c.if-x-eq-FIN.true c.ends.ensures

pub child_at-requires : goal.child_at-requires
child_at-requires c = record { within = c.requires.direct.within; deep = omega (arith, c.requires.direct.deep, c.loop-site.invariant.long); linked = direct_low _ _ _ _ _ c.loop-site.invariant }

pub returns-then-not-child_at : goal.returns-then-not-child_at
returns-then-not-child_at c = plain_kid_no _ _ _ _ _ c.loop-site.invariant c.instr-x.ensures c.requires.other (omega (arith, c.requires.direct.deep, c.loop-site.invariant.long)) c.if-x-eq-KID.true c.child_at.ensures c.if-not-child_at.true

pub overflow_add-pc : goal.overflow_add-pc
overflow_add-pc c = omega (arith, turn_within _ _ _ _ _ c.loop-site.invariant)

pub loop-site-smaller-then-x-eq-KID : goal.loop-site-smaller-then-x-eq-KID
loop-site-smaller-then-x-eq-KID c = let u = plain_up _ _ _ _ _ c.loop-site.invariant c.instr-x.ensures (c.child_at.ensures.inside c.if-not-child_at.false) c.next-j.ensures in omega (arith, u.0, u.1)

pub loop-site-preserved-then-x-eq-KID : goal.loop-site-preserved-then-x-eq-KID
loop-site-preserved-then-x-eq-KID c = plain_kid _ _ _ _ _ c.loop-site.invariant c.instr-x.ensures c.requires.other (omega (arith, c.requires.direct.deep, c.loop-site.invariant.long)) c.if-x-eq-KID.true c.child_at.ensures c.if-not-child_at.false c.end-q.ensures.0 c.next-j.ensures

pub returns-then-x-eq-MOVE : goal.returns-then-x-eq-MOVE
returns-then-x-eq-MOVE c = do_stop _ _ _ _ _ c.loop-site.invariant c.instr-x.ensures c.if-x-eq-MOVE.true (gone_as c.left-left.ensures.0 c.lines-lines.ensures c.in_default.ensures) (numbered _)

pub loop-site-smaller-in_default : goal.loop-site-smaller-in_default
loop-site-smaller-in_default c = omega (arith, turn_within _ _ _ _ _ c.loop-site.invariant, do_later _ _ _ _ _ c.loop-site.invariant c.instr-x.ensures c.if-x-eq-FIN.false c.if-x-eq-MOVE.false c.if-x-eq-KID.false)

pub loop-site-preserved-in_default : goal.loop-site-preserved-in_default
loop-site-preserved-in_default c = do_other _ _ _ _ _ c.loop-site.invariant c.instr-x.ensures c.if-x-eq-FIN.false c.if-x-eq-MOVE.false c.if-x-eq-KID.false (gone_as c.left-left.ensures.0 c.lines-lines.ensures c.in_default.ensures) (numbered _)

pub child_at-requires-then-x-eq-REP : goal.child_at-requires-then-x-eq-REP
child_at-requires-then-x-eq-REP c = record { within = c.requires.direct.within; deep = omega (arith, c.requires.direct.deep, c.loop-site.invariant.long); linked = direct_low _ _ _ _ _ c.loop-site.invariant }

pub returns-then-not-child_at-2 : goal.returns-then-not-child_at-2
returns-then-not-child_at-2 c = plain_rep_no _ _ _ _ _ c.loop-site.invariant c.instr-x.ensures c.requires.other (omega (arith, c.requires.direct.deep, c.loop-site.invariant.long)) c.if-x-eq-REP.true (gone_as c.left-left.ensures.0 c.lines-lines.ensures c.in-Ok.ensures) refl c.child_at-then-x-eq-REP.ensures c.if-not-child_at-2.true

pub loop-site-smaller-then-x-eq-REP : goal.loop-site-smaller-then-x-eq-REP
loop-site-smaller-then-x-eq-REP c = let u = plain_up _ _ _ _ _ c.loop-site.invariant c.instr-x.ensures (c.child_at-then-x-eq-REP.ensures.inside c.if-not-child_at-2.false) c.next-j-then-x-eq-REP.ensures in omega (arith, u.0, u.1)

pub loop-site-preserved-then-x-eq-REP : goal.loop-site-preserved-then-x-eq-REP
loop-site-preserved-then-x-eq-REP c = plain_rep _ _ _ _ _ c.loop-site.invariant c.instr-x.ensures c.requires.other (omega (arith, c.requires.direct.deep, c.loop-site.invariant.long)) c.if-x-eq-REP.true (gone_as c.left-left.ensures.0 c.lines-lines.ensures c.in-Ok.ensures) refl c.child_at-then-x-eq-REP.ensures c.if-not-child_at-2.false c.end-q-then-x-eq-REP.ensures.0 c.next-j-then-x-eq-REP.ensures

pub overflow_add-pc-in-loop-site : goal.overflow_add-pc-in-loop-site
overflow_add-pc-in-loop-site c = omega (arith, turn_within _ _ _ _ _ c.loop-site.invariant)

pub loop-site-smaller : goal.loop-site-smaller
loop-site-smaller c = omega (arith, turn_within _ _ _ _ _ c.loop-site.invariant)

pub loop-site-preserved : goal.loop-site-preserved
loop-site-preserved c = do_on _ _ _ _ _ c.loop-site.invariant c.instr-x.ensures c.if-x-eq-FIN.false c.if-x-eq-KID.false c.if-x-eq-REP.false (gone_as c.left-left.ensures.0 c.lines-lines.ensures c.in-Ok.ensures) refl
