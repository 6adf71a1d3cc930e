use Rattle.checker.proofs.Enclosures.{seated, step_on, opener_deep, opener_no, opener_on, tilde_on}
use Rattle.checker.proofs.bracket.interpolation.Goals as goal

pub returns-then-site-lt2 : goal.returns-then-site-lt2
returns-then-site-lt2 c = opener_deep c.if-site-lt2.true

pub returns-then-b-p : goal.returns-then-b-p
returns-then-b-p c = opener_no c.if-site-lt2.false c.pair_end-b.ensures c.if-b-p.true

pub inside-requires : goal.inside-requires
inside-requires c = (seated c.requires, c.if-site-lt2.false)

pub returns-then-not-inside : goal.returns-then-not-inside
returns-then-not-inside c = opener_on c.if-site-lt2.false c.pair_end-b.ensures c.if-b-p.false (tilde_on c.mark_end-l.ensures (c.inside.ensures.no c.if-not-inside.true _ _))

pub returns : goal.returns
returns c = opener_on c.if-site-lt2.false c.pair_end-b.ensures c.if-b-p.false (tilde_on c.mark_end-l.ensures (step_on c.inside.ensures c.if-not-inside.false c.requires c.next.ensures c.end.ensures.0 (c.stripped.ensures.rest _ _ _)))
