use native.Mathlib.Omega.{arith}
use Rattle.grammar.proofs.Children.{inside, single, test, branch, called, portion, filter, operand}
use Rattle.grammar.proofs.program.child.Goals as goal

pub returns-in-0 : goal.returns-in-0
returns-in-0 c = inside _ _ c.saturating_sub.ensures c.in-0.is

pub returns-in-1 : goal.returns-in-1
returns-in-1 c = single _ _ c.saturating_sub-in-1.ensures c.in-1.is

pub returns-in-4 : goal.returns-in-4
returns-in-4 c = test _ _ c.in-4.is

pub returns-in-5 : goal.returns-in-5
returns-in-5 c = branch _ _ c.saturating_sub-in-5.ensures c.in-5.is

pub returns-in-9 : goal.returns-in-9
returns-in-9 c = called _ _ c.in-9.is

pub returns-in-10 : goal.returns-in-10
returns-in-10 c = portion _ _ c.in-10.is

pub returns-in-12 : goal.returns-in-12
returns-in-12 c = filter _ _ c.saturating_sub-in-12.ensures c.in-12.is

pub returns-in_default : goal.returns-in_default
returns-in_default c = rw c.from.ensures (operand c.args.class (λ e. omega arith) (λ e. omega arith) (λ e. omega arith) (λ e. omega arith) (λ e. omega arith) (λ e. omega arith) (λ e. omega arith) _ _)
