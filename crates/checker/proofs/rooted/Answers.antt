use native.Mathlib.Omega.{arith}
use mathlib.Core.Path.{sym, ◌∙◌}
use Rattle.checker.proofs.Checks.{rooted_no, root_at, root_count, root_start, root_end, rooted_by}
use Rattle.checker.proofs.rooted.Goals as goal

pub returns-then-n-eq0 : goal.returns-then-n-eq0
returns-then-n-eq0 c = rooted_no (λ text long f. let z = (root_at text f).1 in omega (arith, z, c.if-n-eq0.true))

pub returns-then-table-n : goal.returns-then-table-n
returns-then-table-n c = rooted_no (λ text long f. omega (arith, long, c.if-table-n.true))

pub returns-then-wide-n : goal.returns-then-wide-n
returns-then-wide-n c = rooted_no (λ text long f. c.if-wide-n.true (c.wide.ensures.0 ∙ root_count text f))

pub returns-then-table-at-ne0 : goal.returns-then-table-at-ne0
returns-then-table-at-ne0 c = rooted_no (λ text long f. c.if-table-at-ne0.true (root_start text f))

pub returns-then-wide-source : goal.returns-then-wide-source
returns-then-wide-source c = rooted_no (λ text long f. c.if-wide-source.true (c.wide-2.ensures.0 ∙ root_end text f))

pub returns : goal.returns
returns c = rooted_by (c.fits.ensures) (omega (arith, c.if-n-eq0.false)) (sym (c.wide.ensures.0) ∙ c.if-wide-n.false) (omega (arith, c.wide.ensures.1, c.if-wide-n.false)) (c.if-table-at-ne0.false) (sym (c.wide-2.ensures.0) ∙ c.if-wide-source.false)
