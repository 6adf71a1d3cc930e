-- A table of numbers from anyone, row by row.
use Rattle.std.specs.Prelude.{ℕ, ◌+◌, ◌*◌, List, get_or}
use Rattle.engine.specs.Base.{Rec}
use Rattle.engine.specs.Flat.{Row}
use Rattle.grammar.specs.Table.{Record}
use Rattle.grammar.specs.Published.{row_of}

-- the i-th row: its seven numbers
abbrev pub row_at : List ℕ → ℕ → Record
row_at t i = record {
  kind = get_or t (7 * i) 0;
  flag = get_or t (7 * i + 1) 0;
  start = get_or t (7 * i + 2) 0;
  end = get_or t (7 * i + 3) 0;
  count = get_or t (7 * i + 4) 0;
  from = get_or t (7 * i + 5) 0;
  length = get_or t (7 * i + 6) 0;
}

-- the same as the rule has it
abbrev pub rows : List ℕ → ℕ → Row ℕ
rows t i = row_of (row_at t i)

abbrev pub rec_at : List ℕ → ℕ → Rec ℕ
rec_at t i = (rows t i).rec
