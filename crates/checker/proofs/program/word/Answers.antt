-- Each arm is an entry of the program, and the last is what lies behind it.
use lib.ListN.{get_or-eq_default}
use Prim.Native.Nat.{ℕ}
use mathlib.Core.Path.{◌≡◌, sym, ap}
use Rattle.grammar.proofs.Tables.{Others, behind}
use Rattle.checker.specs.Program.{own}
use Rattle.checker.specs.LeafMore.{word_in}
use Rattle.checker.proofs.program.word.Goals as goal

row : (k n : ℕ) → n ≡ k → word_in k ≡ word_in n
row k n e = sym (ap word_in e)

pub returns-in-0 : goal.returns-in-0
unfolding own Others
returns-in-0 c = row 0 _ c.in-0.is

pub returns-in-1 : goal.returns-in-1
unfolding own Others
returns-in-1 c = row 1 _ c.in-1.is

pub returns-in-2 : goal.returns-in-2
unfolding own Others
returns-in-2 c = row 2 _ c.in-2.is

pub returns-in-3 : goal.returns-in-3
unfolding own Others
returns-in-3 c = row 3 _ c.in-3.is

pub returns-in-4 : goal.returns-in-4
unfolding own Others
returns-in-4 c = row 4 _ c.in-4.is

pub returns-in-5 : goal.returns-in-5
unfolding own Others
returns-in-5 c = row 5 _ c.in-5.is

pub returns-in-6 : goal.returns-in-6
unfolding own Others
returns-in-6 c = row 6 _ c.in-6.is

pub returns-in-7 : goal.returns-in-7
unfolding own Others
returns-in-7 c = row 7 _ c.in-7.is

pub returns-in-8 : goal.returns-in-8
unfolding own Others
returns-in-8 c = row 8 _ c.in-8.is

pub returns-in-9 : goal.returns-in-9
unfolding own Others
returns-in-9 c = row 9 _ c.in-9.is

pub returns-in-10 : goal.returns-in-10
unfolding own Others
returns-in-10 c = row 10 _ c.in-10.is

pub returns-in-11 : goal.returns-in-11
unfolding own Others
returns-in-11 c = row 11 _ c.in-11.is

pub returns-in-12 : goal.returns-in-12
unfolding own Others
returns-in-12 c = row 12 _ c.in-12.is

pub returns-in-13 : goal.returns-in-13
unfolding own Others
returns-in-13 c = row 13 _ c.in-13.is

pub returns-in-14 : goal.returns-in-14
unfolding own Others
returns-in-14 c = row 14 _ c.in-14.is

pub returns-in-15 : goal.returns-in-15
unfolding own Others
returns-in-15 c = row 15 _ c.in-15.is

pub returns-in-16 : goal.returns-in-16
unfolding own Others
returns-in-16 c = row 16 _ c.in-16.is

pub returns-in-17 : goal.returns-in-17
unfolding own Others
returns-in-17 c = row 17 _ c.in-17.is

pub returns-in-18 : goal.returns-in-18
unfolding own Others
returns-in-18 c = row 18 _ c.in-18.is

pub returns-in-19 : goal.returns-in-19
unfolding own Others
returns-in-19 c = row 19 _ c.in-19.is

pub returns-in-20 : goal.returns-in-20
unfolding own Others
returns-in-20 c = row 20 _ c.in-20.is

pub returns-in-21 : goal.returns-in-21
unfolding own Others
returns-in-21 c = row 21 _ c.in-21.is

pub returns-in-22 : goal.returns-in-22
unfolding own Others
returns-in-22 c = row 22 _ c.in-22.is

pub returns-in-23 : goal.returns-in-23
unfolding own Others
returns-in-23 c = row 23 _ c.in-23.is

pub returns-in-24 : goal.returns-in-24
unfolding own Others
returns-in-24 c = row 24 _ c.in-24.is

pub returns-in_default : goal.returns-in_default
unfolding own Others
returns-in_default c = sym (get_or-eq_default own 0 (behind 25 _ c.in_default.in_default-own.rest))
