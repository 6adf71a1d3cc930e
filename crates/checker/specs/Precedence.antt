-- The precedence test: which operands an operator takes, by levels alone.
use Rattle.std.specs.Prelude.{ℕ, Bool, true, false, leb, ltb}

-- an operand may stand beside an operator of the level n: right of it where it is tighter, m being how tightly it binds (true); left of it where an operator of
-- this level may follow it, m being the tightest that may (false). So equal levels group from the left
abbrev pub grouped : ℕ → ℕ → Bool → Bool
grouped n m true = ltb n m
grouped n m false = leb n m
