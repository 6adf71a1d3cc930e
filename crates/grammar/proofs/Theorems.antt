-- What is proved of HCL, each statement on its own. `source s` is the bytes s as a source of HCL's tables (Answer); `Holds (source s) rows` says
-- that the rule holds at every node of a table from anyone, and `reading (source s)` is what reading s from the left comes to.
use Rattle.std.specs.Prelude.{ℕ, ◌<◌, ◌≡◌, List, ◌↔◌, length}
use Rattle.std.proofs.Math.Option.{some}
use Rattle.engine.specs.Base.{ok, stuck}
use Rattle.engine.specs.Flat.{Row, row_in}
use Rattle.engine.specs.Source.{reading, Holds, blank}
use Rattle.engine.specs.Levels.{level_in, Operands}
use Rattle.engine.specs.Theorem.{agree, only_one, answered, precedence}
use Rattle.grammar.specs.Answer.{source}
use Rattle.grammar.proofs.Checked.{checked}
use Rattle.grammar.specs.Precedence.{thirteen, Binds}
use Rattle.grammar.proofs.PrecedenceLaws.{graded, pair_binds}

module _ (s : List ℕ) where
  -- 1. The rule holds at every node of a table exactly when reading the source gives that very table.
  pub agrees : (rows : List (Row ℕ)) → Holds (source s) rows ↔ (reading (source s) ≡ ok rows)
  agrees = agree (source s) (checked s)

  -- 2. A source has at most one table at which the rule holds.
  pub one_table : (rows rows' : List (Row ℕ)) → Holds (source s) rows → Holds (source s) rows' → rows ≡ rows'
  one_table = only_one (source s) (checked s)

  -- 3. Every source is answered: with a table, or with a refusal.
  pub always_answered : ¬ (reading (source s) ≡ stuck)
  always_answered = answered (source s) (checked s)

  -- 4. Precedence, once over all thirteen operators: in a table at which the rule holds, each of them has two operands; of those that are
  -- among the thirteen, the left binds as tightly or tighter, and the right tighter. So no right operand binds as loosely as its operator,
  -- and no left operand more loosely, unless it stands in parentheses.
  module _ (rows : List (Row ℕ)) where
    abbrev pub row : ℕ → Row ℕ
    row = row_in (blank (source s)) rows

    pub grouped : Holds (source s) rows → (i t : ℕ) → i < length rows → level_in thirteen (row i).rec.kind ≡ some t → Operands thirteen row i t
    grouped h = precedence (source s) thirteen (graded s) rows h

    -- and of operands of any kind: the conditional, which is looser than all, is none without parentheses
    pub binds : Holds (source s) rows → (i t : ℕ) → i < length rows → level_in thirteen (row i).rec.kind ≡ some t → Binds row i t
    binds h i t w q = let o = h.rule.nodes i w in pair_binds s row h.rule.att i o.lo t o.kids o.tiles o.split o.local q
