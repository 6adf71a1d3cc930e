use mathlib.Core.Path.{◌∙◌}
use Rattle.checker.proofs.Precedences.{left_yes}
use Rattle.checker.proofs.Nodes.{left_by, left_other, left_as}
use Rattle.checker.proofs.node.left_at.Goals as goal

pub returns-then-h-kind : goal.returns-then-h-kind
returns-then-h-kind c = left_as c.lines.ensures (left_other c.if-h-kind.true (left_by c.fits.ensures c.if-not-fits.false c.if-start-site.false (left_yes _ _ c.groups.ensures (c.from.ensures ∙ c.tight.ensures) (c.from-2.ensures ∙ c.hold.ensures) c.if-not-groups.false) c.end.ensures.0 c.next_at-h.ensures.kind))
