use Prim.Native.Nat.{◌-◌}
use Rattle.checker.specs.Elements.{elements_lay}
use Rattle.checker.proofs.Onwards.{Onward}
use Rattle.checker.proofs.list.elements.Given as goal

abbrev pub invariant-loop-first : goal.invariant-loop-first
invariant-loop-first l = Onward l.site.s.now l.site.table.now l.site.i l.site.own l.site.marks.now l.initial.depths (elements_lay l.closer) l.first l.p l.depths (elements_lay l.closer) l.j l.at

abbrev pub decreases-loop-first : goal.decreases-loop-first
decreases-loop-first l = l.site.i - l.j
