use Prim.Native.Nat.{◌-◌}
use Rattle.grammar.specs.Layouts.{traversal_lay}
use Rattle.checker.proofs.Onwards.{Onward}
use Rattle.checker.proofs.Traversals.{parts_lay}
use Rattle.checker.proofs.traversal.traversal.Given as goal

abbrev pub invariant-loop-first : goal.invariant-loop-first
invariant-loop-first l = Onward l.site.s.now l.site.table.now l.site.i l.site.own l.site.marks.now l.initial.depths traversal_lay l.first l.p l.depths parts_lay l.j l.at

abbrev pub decreases-loop-first : goal.decreases-loop-first
decreases-loop-first l = l.site.i - l.j
