use Rattle.lexis.specs.String.{quoted_of, from_of, to_of}
use Prim.Native.Nat.{◌-◌, ◌≤◌}
use Rattle.checker.specs.Texts.{Texting}
use Rattle.checker.proofs.TextTurns.{Turn}
use Rattle.checker.proofs.texts.texts.Given as goal

abbrev pub invariant-loop-j : goal.invariant-loop-j
invariant-loop-j l = Texting l.site.s.now l.site.table.now l.site.i l.site.marks.now l.initial.depths l.first (quoted_of l.round) (from_of l.round) (to_of l.round) × (l.q ≤ 65536) × Turn l.site.s.now l.text l.site.table.now l.site.i l.site.own (quoted_of l.round) (from_of l.round) (to_of l.round) l.site.marks.now l.initial.depths l.depths l.first l.p l.q l.j × (l.j ≤ l.site.i)

abbrev pub decreases-loop-j : goal.decreases-loop-j
decreases-loop-j l = l.site.i - l.j
