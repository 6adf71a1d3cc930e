-- The measure of the calls of the cycle, and the ranks of children at the place where their node starts.
use Prim.Native.Nat.{ℕ, ◌+◌, ◌*◌, ◌-◌, ◌≤◌, ◌<◌}
use mathlib.Core.Path.{◌≡◌}
use mathlib.Core.Bool.{Bool, true, false, cond}
use native.Mathlib.Omega.{arith}
use lib.Dec.{eqb, eqb→eq, T}
use lib.ListN.{length}
use mathlib.Core.List.{List}
use Rattle.grammar.specs.Layouts.{inside, single, test, branch, right, called, portion, filter}
use Rattle.grammar.specs.Code.{class_of}
use Rattle.grammar.specs.Thrift.{leads}
use Rattle.reader.specs.declared.at.At.{At}

-- the measure of the cycle's calls: the levels left, then what is left of the source, then a rank for calls at one place
abbrev pub ranked : ℕ → List ℕ → At → ℕ → ℕ
ranked left s a rank = 8388608 * left + 128 * (length s - a.place) + rank

-- by the number of the class: a name, a part, a condition, an expression
abbrev pub sub_rank : ℕ → ℕ
sub_rank c = cond (eqb c 9) 53 (cond (eqb c 10) 11 (cond (eqb c 12) 47 101))

pub rank_part : (c : ℕ) → c ≡ 10 → sub_rank c ≡ 11
rank_part c e = rw e

pub rank_condition : (c : ℕ) → c ≡ 12 → sub_rank c ≡ 47
rank_condition c e = rw e

pub rank_most : (c : ℕ) → sub_rank c ≤ 101
rank_most c = go (eqb c 9) (eqb c 10) (eqb c 12)
  where
    go : (x y z : Bool) → cond x 53 (cond y 11 (cond z 47 101)) ≤ 101
    go true y z = omega arith
    go false true z = omega arith
    go false false true = omega arith
    go false false false = omega arith

-- a child that may start where its node starts ranks below it
lead_as : (k : ℕ) (a b d e f g h : Bool) (n : ℕ) → T (leads k (cond a inside (cond b single (cond d test (cond e branch (cond f called (cond g portion (cond h filter (right n)))))))))
    → cond f 53 (cond g 11 (cond h 47 101)) < 2 * (43 - k)
lead_as k true b d e f g h n t = absurd t
lead_as k false true d e f g h n t = absurd t
lead_as k false false true e f g h n t = absurd t
lead_as k false false false true f g h n t = absurd t
lead_as k false false false false true g h n t = let z : k ≡ 16 = eqb→eq k 16 t in omega arith
lead_as k false false false false false true h n t = let z : k ≡ 37 = eqb→eq k 37 t in omega arith
lead_as k false false false false false false true n t = absurd t
lead_as k false false false false false false false n t = absurd t

pub lead_rank : (k c : ℕ) → T (leads k (class_of c)) → sub_rank c < 2 * (43 - k)
lead_rank k c t = lead_as k (eqb c 0) (eqb c 1) (eqb c 4) (eqb c 5) (eqb c 9) (eqb c 10) (eqb c 12) _ t
