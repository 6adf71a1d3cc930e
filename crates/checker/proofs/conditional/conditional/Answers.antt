use Rattle.checker.proofs.Rests.{rest_fin}
use Rattle.checker.proofs.Enclosures.{seated, step_on}
use Rattle.checker.proofs.Onwards.{direct_next}
use Rattle.checker.proofs.Conditionals.{conditional_deep, conditional_open}
use Rattle.checker.proofs.conditional.conditional.Goals as goal

pub returns-then-site-lt2 : goal.returns-then-site-lt2
returns-then-site-lt2 c = conditional_deep c.if-site-lt2.true

pub branch-site-requires : goal.branch-site-requires
branch-site-requires c = (seated c.requires.0, c.if-site-lt2.false, c.requires.1)

pub returns-then-not-branch : goal.returns-then-not-branch
returns-then-not-branch c = conditional_open c.if-site-lt2.false (c.branch-site.ensures.no c.if-not-branch.true _ _)

pub branch-site-requires-2 : goal.branch-site-requires-2
branch-site-requires-2 c = (seated (direct_next c.requires.0 (c.branch-site.ensures.inside c.if-not-branch.false) c.branch-site.ensures.long c.next-k.ensures), c.if-site-lt2.false, c.requires.1)

pub returns-then-not-branch-2 : goal.returns-then-not-branch-2
returns-then-not-branch-2 c = conditional_open c.if-site-lt2.false (step_on c.branch-site.ensures c.if-not-branch.false c.requires.0 c.next-k.ensures c.end-q.ensures.0 (c.branch-site-2.ensures.no c.if-not-branch-2.true _ _))

pub returns : goal.returns
returns c = conditional_open c.if-site-lt2.false (step_on c.branch-site.ensures c.if-not-branch.false c.requires.0 c.next-k.ensures c.end-q.ensures.0 (step_on c.branch-site-2.ensures c.if-not-branch-2.false (direct_next c.requires.0 (c.branch-site.ensures.inside c.if-not-branch.false) c.branch-site.ensures.long c.next-k.ensures) c.next.ensures c.end.ensures.0 (rest_fin _ _ _ _ _ _ c.ends.ensures)))
