use Prim.Native.Nat.{◌-◌, ◌+◌, ◌*◌, ◌/◌, ◌%◌}
use mathlib.Core.List.{[]}
use lib.Dec.{eqb}
use Rattle.checker.proofs.Lays.{Turn}
use Rattle.checker.proofs.lay.lay.Given as goal

abbrev pub invariant-loop-site : goal.invariant-loop-site
invariant-loop-site l = Turn l.site.s.now l.site.table.now l.site.i (l.site.own / 2) (eqb (l.site.own % 2) 1) l.site.marks.now l.initial.depths l.depths [] l.first l.p l.pc l.q l.j 0

abbrev pub decreases-loop-site : goal.decreases-loop-site
decreases-loop-site l = 256 * (l.site.i - l.j) + (253 - l.pc)
