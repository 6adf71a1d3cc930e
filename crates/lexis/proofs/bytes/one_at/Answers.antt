use Rattle.lexis.specs.RunLaws.{stands_here, stands_past}
use borrow.Author.Tests.{le-ltb}
use mathlib.Core.List.{[]}
use mathlib.Core.Path.{sym, ◌∙◌}
use native.Mathlib.Omega.{arith}
use Rattle.lexis.proofs.bytes.one_at.Goals as goal

pub returns-then-p-s : goal.returns-then-p-s
returns-then-p-s c = let a = c.args in
    stands_here a.a a.s.now a.p c.if-p-s.true (omega (arith, c.ranges.a))

pub returns-else-p-s : goal.returns-else-p-s
returns-else-p-s c = let a = c.args in
    le-ltb _ _ c.if-p-s.false ∙ sym (stands_past a.a [] a.s.now a.p c.if-p-s.false)
