-- Each arm is a kind's entry, and the last is for what is no kind.
use lib.ListN.{get_or-eq_default}
use Prim.Native.Nat.{ℕ}
use mathlib.Core.Path.{◌≡◌, sym, ap}
use Rattle.grammar.proofs.Tables.{Others, behind}
use Rattle.grammar.specs.Kinds.{holds, hold_of}
use Rattle.checker.proofs.kinds.hold.Goals as goal

row : (k kind : ℕ) → kind ≡ k → hold_of k ≡ hold_of kind
row k kind e = sym (ap hold_of e)

pub returns-in-0 : goal.returns-in-0
unfolding Others
returns-in-0 c = row 0 _ c.in-0.is

pub returns-in-1 : goal.returns-in-1
unfolding Others
returns-in-1 c = row 1 _ c.in-1.is

pub returns-in-2 : goal.returns-in-2
unfolding Others
returns-in-2 c = row 2 _ c.in-2.is

pub returns-in-3 : goal.returns-in-3
unfolding Others
returns-in-3 c = row 3 _ c.in-3.is

pub returns-in-4 : goal.returns-in-4
unfolding Others
returns-in-4 c = row 4 _ c.in-4.is

pub returns-in-5 : goal.returns-in-5
unfolding Others
returns-in-5 c = row 5 _ c.in-5.is

pub returns-in-6 : goal.returns-in-6
unfolding Others
returns-in-6 c = row 6 _ c.in-6.is

pub returns-in-7 : goal.returns-in-7
unfolding Others
returns-in-7 c = row 7 _ c.in-7.is

pub returns-in-8 : goal.returns-in-8
unfolding Others
returns-in-8 c = row 8 _ c.in-8.is

pub returns-in-9 : goal.returns-in-9
unfolding Others
returns-in-9 c = row 9 _ c.in-9.is

pub returns-in-10 : goal.returns-in-10
unfolding Others
returns-in-10 c = row 10 _ c.in-10.is

pub returns-in-11 : goal.returns-in-11
unfolding Others
returns-in-11 c = row 11 _ c.in-11.is

pub returns-in-12 : goal.returns-in-12
unfolding Others
returns-in-12 c = row 12 _ c.in-12.is

pub returns-in-13 : goal.returns-in-13
unfolding Others
returns-in-13 c = row 13 _ c.in-13.is

pub returns-in-14 : goal.returns-in-14
unfolding Others
returns-in-14 c = row 14 _ c.in-14.is

pub returns-in-15 : goal.returns-in-15
unfolding Others
returns-in-15 c = row 15 _ c.in-15.is

pub returns-in-16 : goal.returns-in-16
unfolding Others
returns-in-16 c = row 16 _ c.in-16.is

pub returns-in-17 : goal.returns-in-17
unfolding Others
returns-in-17 c = row 17 _ c.in-17.is

pub returns-in-18 : goal.returns-in-18
unfolding Others
returns-in-18 c = row 18 _ c.in-18.is

pub returns-in-19 : goal.returns-in-19
unfolding Others
returns-in-19 c = row 19 _ c.in-19.is

pub returns-in-20 : goal.returns-in-20
unfolding Others
returns-in-20 c = row 20 _ c.in-20.is

pub returns-in-21 : goal.returns-in-21
unfolding Others
returns-in-21 c = row 21 _ c.in-21.is

pub returns-in-22 : goal.returns-in-22
unfolding Others
returns-in-22 c = row 22 _ c.in-22.is

pub returns-in-23 : goal.returns-in-23
unfolding Others
returns-in-23 c = row 23 _ c.in-23.is

pub returns-in-24 : goal.returns-in-24
unfolding Others
returns-in-24 c = row 24 _ c.in-24.is

pub returns-in-25 : goal.returns-in-25
unfolding Others
returns-in-25 c = row 25 _ c.in-25.is

pub returns-in-26 : goal.returns-in-26
unfolding Others
returns-in-26 c = row 26 _ c.in-26.is

pub returns-in-27 : goal.returns-in-27
unfolding Others
returns-in-27 c = row 27 _ c.in-27.is

pub returns-in-28 : goal.returns-in-28
unfolding Others
returns-in-28 c = row 28 _ c.in-28.is

pub returns-in-29 : goal.returns-in-29
unfolding Others
returns-in-29 c = row 29 _ c.in-29.is

pub returns-in-30 : goal.returns-in-30
unfolding Others
returns-in-30 c = row 30 _ c.in-30.is

pub returns-in-31 : goal.returns-in-31
unfolding Others
returns-in-31 c = row 31 _ c.in-31.is

pub returns-in-32 : goal.returns-in-32
unfolding Others
returns-in-32 c = row 32 _ c.in-32.is

pub returns-in-33 : goal.returns-in-33
unfolding Others
returns-in-33 c = row 33 _ c.in-33.is

pub returns-in-34 : goal.returns-in-34
unfolding Others
returns-in-34 c = row 34 _ c.in-34.is

pub returns-in-35 : goal.returns-in-35
unfolding Others
returns-in-35 c = row 35 _ c.in-35.is

pub returns-in-36 : goal.returns-in-36
unfolding Others
returns-in-36 c = row 36 _ c.in-36.is

pub returns-in-37 : goal.returns-in-37
unfolding Others
returns-in-37 c = row 37 _ c.in-37.is

pub returns-in-38 : goal.returns-in-38
unfolding Others
returns-in-38 c = row 38 _ c.in-38.is

pub returns-in-39 : goal.returns-in-39
unfolding Others
returns-in-39 c = row 39 _ c.in-39.is

pub returns-in-40 : goal.returns-in-40
unfolding Others
returns-in-40 c = row 40 _ c.in-40.is

pub returns-in-41 : goal.returns-in-41
unfolding Others
returns-in-41 c = row 41 _ c.in-41.is

pub returns-in-42 : goal.returns-in-42
unfolding Others
returns-in-42 c = row 42 _ c.in-42.is

pub returns-in_default : goal.returns-in_default
unfolding Others
returns-in_default c = sym (get_or-eq_default holds 0 (behind 43 _ c.in_default.in_default-own.rest))
