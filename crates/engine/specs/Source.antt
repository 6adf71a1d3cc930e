-- A whole source: its reading, and the rule at every node of its table.
use Rattle.std.specs.Prelude.{◌≡◌, Bool, true, false, List, ℕ, T, length}
use Rattle.engine.specs.Base.{Outcome, ok, halt, bind, Tree, rec_of}
use Rattle.engine.specs.Flat.{Row, flat, row_in}
use Rattle.engine.specs.Layout.{Lang, after}
use Rattle.engine.specs.Rule.{Local, Table}
use Rattle.engine.specs.Tables.{Sane}
use Rattle.engine.specs.Progress.{Pace, Going, reads}

-- a source: the language at its bytes, the root's attribute and start, the test that a place is the source's end, the refusal where what
-- was read ends before it, and the fuel
pub record Source (P B M C : Type 0) : Type 0 where
  pub lang : Lang P B M C
  pub pace : Pace P B M C
  pub root : B
  pub begin : P
  pub ended : P → Bool
  pub left : P → ℕ × P

module _ {P B M C : Type 0} (s : Source P B M C) where
  -- ---- the reading: a table, or a refusal

  abbrev pub ending : Bool → Tree P → Outcome P (List (Row P))
  ending true t = ok (flat t)
  ending false t = halt (s.left (rec_of t).end).0 (s.left (rec_of t).end).1

  abbrev pub reading : Outcome P (List (Row P))
  reading = bind (reads s.lang s.pace s.root s.begin) (λ t. ending (s.ended (rec_of t).end) t)

  -- ---- the rule, at each index of a table; the root, which is the last row, spans the source

  -- a row where a table has none
  abbrev pub blank : Row P
  blank = record { rec = record { kind = 0; flag = 0; start = s.begin; end = s.begin }; count = 0 }

  pub record Holds (rows : List (Row P)) : Type 0 where
    pub rule : Table (Local s.lang) (row_in blank rows) (s.root, 0) (length rows)
    pub from_start : (row_in blank rows rule.last).rec.start ≡ s.begin
    pub to_end : T (s.ended (row_in blank rows rule.last).rec.end)

  -- ---- what is asked of it: the checks of its language, and that no operator follows the source's end

  pub record Checked : Type 0 where
    pub sane : Sane s.lang
    pub going : Going s.lang s.pace
    pub quiet : (e : P) → T (s.ended e) → after s.lang s.root e ≡ 0
