use mathlib.Core.Path.{refl, ◌∙◌}
use Rattle.grammar.proofs.Refusals.{numbered}
use Rattle.checker.proofs.Enclosures.{seated, step_on, opener_deep, opener_no, opener_on}
use Rattle.checker.proofs.Onwards.{direct_next, direct_after}
use Rattle.checker.proofs.ListFors.{pair_gap_no, pair_one, pair_two}
use Rattle.checker.proofs.list_for.list_for.Goals as goal

pub returns-then-site-lt2 : goal.returns-then-site-lt2
returns-then-site-lt2 c = opener_deep c.if-site-lt2.true

pub returns-then-b-p : goal.returns-then-b-p
returns-then-b-p c = opener_no c.if-site-lt2.false c.mark_end-b.ensures c.if-b-p.true

pub intro-requires : goal.intro-requires
intro-requires c = (seated c.requires, c.if-site-lt2.false)

pub returns-then-not-intro : goal.returns-then-not-intro
returns-then-not-intro c = opener_on c.if-site-lt2.false c.mark_end-b.ensures c.if-b-p.false (c.intro.ensures.no c.if-not-intro.true _ _)

pub returns-in_default : goal.returns-in_default
returns-in_default c = opener_on c.if-site-lt2.false c.mark_end-b.ensures c.if-b-p.false (step_on c.intro.ensures c.if-not-intro.false c.requires c.next-k.ensures c.end-q.ensures.0 (pair_gap_no c.in_default.ensures (numbered _)))

pub ranged-requires : goal.ranged-requires
ranged-requires c = ((direct_next c.requires (c.intro.ensures.inside c.if-not-intro.false) c.intro.ensures.long c.next-k.ensures), c.if-site-lt2.false)

pub returns-then-c-at : goal.returns-then-c-at
returns-then-c-at c = opener_on c.if-site-lt2.false c.mark_end-b.ensures c.if-b-p.false (step_on c.intro.ensures c.if-not-intro.false c.requires c.next-k.ensures c.end-q.ensures.0 (pair_one c.in-Ok.ensures refl c.mark_end-c.ensures c.if-c-at.true c.ranged.ensures))

pub named-requires : goal.named-requires
named-requires c = (seated (direct_next c.requires (c.intro.ensures.inside c.if-not-intro.false) c.intro.ensures.long c.next-k.ensures), c.if-site-lt2.false)

pub returns-then-not-named : goal.returns-then-not-named
returns-then-not-named c = opener_on c.if-site-lt2.false c.mark_end-b.ensures c.if-b-p.false (step_on c.intro.ensures c.if-not-intro.false c.requires c.next-k.ensures c.end-q.ensures.0 (pair_two c.in-Ok.ensures refl c.mark_end-c.ensures c.if-c-at.false (c.named.ensures.no c.if-not-named.true _ _)))

pub ranged-requires-2 : goal.ranged-requires-2
ranged-requires-2 c = ((direct_after c.requires (c.intro.ensures.inside c.if-not-intro.false) c.next-k.ensures (c.named.ensures.inside c.if-not-named.false) (c.named.ensures.long ∙ c.intro.ensures.long) c.next.ensures), c.if-site-lt2.false)

pub returns : goal.returns
returns c = opener_on c.if-site-lt2.false c.mark_end-b.ensures c.if-b-p.false (step_on c.intro.ensures c.if-not-intro.false c.requires c.next-k.ensures c.end-q.ensures.0 (pair_two c.in-Ok.ensures refl c.mark_end-c.ensures c.if-c-at.false (step_on c.named.ensures c.if-not-named.false (direct_next c.requires (c.intro.ensures.inside c.if-not-intro.false) c.intro.ensures.long c.next-k.ensures) c.next.ensures c.end-e.ensures.0 c.ranged-2.ensures)))
