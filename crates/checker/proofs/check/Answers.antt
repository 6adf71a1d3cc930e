use native.Mathlib.Omega.{arith}
use mathlib.Core.Path.{sym, ◌∙◌}
use Rattle.checker.proofs.Checks.{checks_no, checks_long, checks_unformed}
use Rattle.checker.proofs.Tabled.{sevens}
use Rattle.lexis.proofs.Wellformed.{good_formed}
use Rattle.checker.proofs.check.Goals as goal

pub returns-then-source-gt-SOURCE : goal.returns-then-source-gt-SOURCE
returns-then-source-gt-SOURCE c = checks_long c.if-source-gt-SOURCE.true

pub returns-then-table-ne0 : goal.returns-then-table-ne0
returns-then-table-ne0 c = checks_no (λ h. c.if-table-ne0.true (sevens h))

pub returns-then-not-rooted : goal.returns-then-not-rooted
returns-then-not-rooted c = checks_no (c.rooted.ensures.no c.if-not-rooted.true (omega (arith, c.if-table-ne0.false)) _)

pub returns-then-first_bad-source : goal.returns-then-first_bad-source
returns-then-first_bad-source c = checks_unformed (λ e. c.if-first_bad-source.true (c.first_bad.ensures.is ∙ e))

pub roomed-requires : goal.roomed-requires
roomed-requires c = record { short = omega (arith, c.if-source-gt-SOURCE.false); formed = good_formed _ (sym c.first_bad.ensures.is ∙ c.if-first_bad-source.false); rows = omega (arith, c.if-table-ne0.false); root = c.rooted.ensures.yes c.if-not-rooted.false }
