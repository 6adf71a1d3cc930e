use native.Mathlib.Omega.{arith}
use mathlib.Core.List.{[]}
use mathlib.Core.Path.{refl}
use Rattle.checker.proofs.Nodes.{node_single, node_piece, node_lost, node_by, family_linked}
use Rattle.checker.proofs.node.node.Goals as goal

pub returns-in-Some : goal.returns-in-Some
returns-in-Some c = (node_single _ _ _ _ _ [] c.if-table-i-eq1.true refl c.multi_line.ensures c.in-Some.ensures, c.requires.1.key)

pub returns-then-table-i-eq-PIECE : goal.returns-then-table-i-eq-PIECE
returns-then-table-i-eq-PIECE c = (node_piece _ _ _ _ _ _ refl c.if-table-i-eq-PIECE.true, c.requires.1.key)

pub returns-in_default-family : goal.returns-in_default-family
returns-in_default-family c = (node_lost _ _ _ _ _ c.in_default-family.ensures.0, c.requires.1.key)

pub ruled-requires : goal.ruled-requires
ruled-requires c = (record { short = c.requires.0.short; within = c.requires.0.within; small = c.requires.0.small; marked = omega (arith, c.requires.0.marked, c.in-Some-family.ensures.0.long); deep = c.requires.0.deep; keyed = c.requires.0.keyed }, family_linked [] [] _ _ [] c.in-Some-family.ensures.0 c.in-Some-family.ensures.1, c.if-table-i-eq-PIECE.false, c.requires.1)

pub returns : goal.returns
returns c = (node_by _ _ _ _ _ c.if-table-i-eq-PIECE.false c.in-Some-family.ensures.0 c.in-Some-family.ensures.1 refl c.ruled.ensures.0, c.ruled.ensures.1)
