use mathlib.Core.Path.{refl}
use Rattle.grammar.proofs.Refusals.{numbered}
use Rattle.checker.proofs.Rests.{rest_fin}
use Rattle.checker.proofs.Enclosures.{seated, step_on, opener_deep, opener_no, opener_on, closer_gap_no, closer_no, closer_on}
use Rattle.checker.proofs.bracket.enclosed.Goals as goal

pub returns-then-site-lt2 : goal.returns-then-site-lt2
returns-then-site-lt2 c = opener_deep c.if-site-lt2.true

pub returns-then-b-p : goal.returns-then-b-p
returns-then-b-p c = opener_no c.if-site-lt2.false c.mark_end-b.ensures c.if-b-p.true

pub inside-requires : goal.inside-requires
inside-requires c = (seated c.requires, c.if-site-lt2.false)

pub returns-then-not-inside : goal.returns-then-not-inside
returns-then-not-inside c = opener_on c.if-site-lt2.false c.mark_end-b.ensures c.if-b-p.false (c.inside.ensures.no c.if-not-inside.true _ _)

pub returns-in_default : goal.returns-in_default
returns-in_default c = opener_on c.if-site-lt2.false c.mark_end-b.ensures c.if-b-p.false (step_on c.inside.ensures c.if-not-inside.false c.requires refl c.end.ensures.0 (closer_gap_no c.in_default.ensures (numbered _)))

pub returns-then-e-w : goal.returns-then-e-w
returns-then-e-w c = opener_on c.if-site-lt2.false c.mark_end-b.ensures c.if-b-p.false (step_on c.inside.ensures c.if-not-inside.false c.requires refl c.end.ensures.0 (closer_no c.in-Ok.ensures refl c.mark_end-e.ensures c.if-e-w.true))

pub returns : goal.returns
returns c = opener_on c.if-site-lt2.false c.mark_end-b.ensures c.if-b-p.false (step_on c.inside.ensures c.if-not-inside.false c.requires c.next.ensures c.end.ensures.0 (closer_on c.in-Ok.ensures refl c.mark_end-e.ensures c.if-e-w.false (rest_fin _ _ _ _ _ _ c.ends.ensures)))
