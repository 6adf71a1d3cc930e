use native.Mathlib.Omega.{arith}
use mathlib.Core.Path.{refl, ap}
use mathlib.Core.Logic.{inl}
use Rattle.checker.specs.Leaf.{is_grown}
use Rattle.checker.proofs.Callings.{first_always}
use Rattle.checker.proofs.Heads.{head_by}
use Rattle.checker.proofs.Nodes.{laid_as}
use Rattle.checker.proofs.Looks.{no_text}
use Rattle.checker.proofs.TextHeads.{string_kids, string_by}
use Rattle.checker.proofs.node.ruled.Goals as goal

pub returns-then-kind-eq-ITEM : goal.returns-then-kind-eq-ITEM
returns-then-kind-eq-ITEM c = (head_by _ _ _ _ _ _ _ _ (ap is_grown c.if-kind-eq-ITEM.true) (no_text c.if-kind-eq-ITEM.true (omega arith)) refl (first_always _ _ _ (inl c.if-kind-eq-ITEM.true)) (laid_as c.start.ensures.0 refl refl c.item.ensures), c.requires.3.key)

pub returns-then-first-site : goal.returns-then-first-site
returns-then-first-site c = (string_kids _ _ _ _ _ _ _ _ c.if-kind-eq-STRING.true c.if-first-site.true, c.requires.3.key)

pub returns-then-kind-eq-STRING : goal.returns-then-kind-eq-STRING
returns-then-kind-eq-STRING c = (string_by _ _ _ _ _ _ _ _ c.if-kind-eq-STRING.true c.if-first-site.false c.string.ensures, c.requires.3.key)
