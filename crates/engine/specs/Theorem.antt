-- What is proved, each statement on its own. A source is any source of any language (Layout, Source); `Checked s` says that the language's
-- tables pass the check (Tables, Progress).
use Rattle.std.specs.Prelude.{◌≡◌, refl, ◌⊎◌, ◌↔◌, List, ℕ, ◌<◌, length}
use Rattle.std.proofs.Common.{ap, sym, ◌∙◌, inl, inr, arith}
use Rattle.std.proofs.Math.Option.{Option, none, some}
use Rattle.engine.specs.Base.{ok, halt, stuck, Tree, Trees}
use Rattle.engine.specs.Flat.{Row, flats, grow, row_in}
use Rattle.engine.specs.Engine.{FailAt, Whole}
use Rattle.engine.specs.Layout.{grammar, read_at}
use Rattle.engine.specs.Progress.{reads}
use Rattle.engine.specs.Source.{Source, Checked, reading, Holds, blank}
use Rattle.engine.specs.SourceLaws.{holds_reading, reading_holds, unique, answers}
use Rattle.engine.specs.ProgressLaws.{reads_any, reads_enough, reads_whole, reads_fails}
use Rattle.engine.specs.GrowLaws.{grow_rows, flats_grow}
use Rattle.engine.specs.Levels.{level_in, Operands, Graded}
use Rattle.engine.specs.LevelsLaws.{node_operands}
use Rattle.engine.specs.Handed.{Hands, Blind, Posts, RootOwn}
use Rattle.engine.specs.HandedLaws.{posts_holds, holds_posts}

module _ {P B M C : Type 0} (s : Source P B M C) (W : Checked s) where
  -- 1. The theorem: of a table from anyone, the rule holds at every node exactly when the reading of the source gives that very table.
  pub agree : (rows : List (Row P)) → Holds s rows ↔ (reading s ≡ ok rows)
  agree rows = (holds_reading s W rows, reading_holds s W rows)

  -- 2. A source has at most one table at which the rule holds.
  pub only_one : (rows rows' : List (Row P)) → Holds s rows → Holds s rows' → rows ≡ rows'
  only_one = unique s W

  -- 3. The reading answers every source: with a table, or with a refusal.
  pub answered : ¬ (reading s ≡ stuck)
  answered = answers s W

  -- 4. It does not depend on fuel: whatever any fuel answers, under any attribute and at any place, is the reading; and enough fuel answers.
  pub no_fuel : (n : ℕ) (b : B) (p : P) → ¬ (read_at s.lang n b p ≡ stuck) → read_at s.lang n b p ≡ reads s.lang s.pace b p
  no_fuel = reads_any s.lang s.pace W.going

  pub enough : (n : ℕ) (b : B) (p : P) → s.pace.fuel b p < n → read_at s.lang n b p ≡ reads s.lang s.pace b p
  enough = reads_enough s.lang s.pace W.going

  -- 5. What is accepted is what has a derivation of acceptance, and what is refused what has one of refusal, with that number and place; neither
  -- knows of fuel.
  pub accepts : (b : B) (p : P) (t : Tree P) → (reads s.lang s.pace b p ≡ ok t) ↔ Whole (grammar s.lang) (b, 0) p t
  accepts = reads_whole s.lang s.pace W.going

  pub refuses : (b : B) (p : P) (k : ℕ) (q : P) → (reads s.lang s.pace b p ≡ halt k q) ↔ FailAt (grammar s.lang) (b, 0) p k q
  refuses = reads_fails s.lang s.pace W.going

-- 6. A table from anyone lists trees, by its counts, or it does not; flattening and growing are inverse.
pub listed : {P : Type 0} (rows : List (Row P)) (ts : Trees P) → (grow rows ≡ some ts) ↔ (flats ts ≡ rows)
listed rows ts = (grow_rows rows ts, λ q. ap grow (sym q) ∙ flats_grow ts)

pub shaped : {P : Type 0} (rows : List (Row P)) → ((ts : Trees P) × (flats ts ≡ rows)) ⊎ ((ts : Trees P) → ¬ (flats ts ≡ rows))
shaped {P} rows = go (grow rows) refl
  where
    go : (o : Option (Trees P)) → grow rows ≡ o → ((ts : Trees P) × (flats ts ≡ rows)) ⊎ ((ts : Trees P) → ¬ (flats ts ≡ rows))
    go none q = inr (λ ts e. let z : none ≡ some ts = sym q ∙ (listed rows ts).1 e in let v : ◌≡◌ {A = ℕ} 0 1 = cc in absurd (omega arith))
    go (some ts) q = inl (ts, grow_rows rows ts q)

-- 7. Precedence: in a table at which the rule holds, each operator of the list has two operands; a left operand that is an operator of the
-- list binds as tightly or tighter, a right one tighter. So no operand binds more loosely than its operator, and no right operand as
-- loosely, unless it stands in parentheses or is otherwise no operator of the list.
pub precedence : {P B M C : Type 0} (s : Source P B M C) (levels : List (ℕ × ℕ)) → Graded s.lang levels → (rows : List (Row P)) → Holds s rows
    → (i t : ℕ) → i < length rows → level_in levels (row_in (blank s) rows i).rec.kind ≡ some t → Operands levels (row_in (blank s) rows) i t
precedence s levels G rows h i t w q = node_operands s.lang levels G (row_in (blank s) rows) h.rule.att i t (h.rule.nodes i w) q

-- 8. A rule that is published with the tests of children at their parent (Handed) holds at every node exactly when the reading gives that
-- very table.
pub agree_posted : {P B X M C : Type 0} (s : Source P (B × X) M C) → Checked s → (H : Hands s.lang) → Blind s.lang H → RootOwn s H → (rows : List (Row P)) → Posts s H rows ↔ (reading s ≡ ok rows)
agree_posted s W H K u rows = (λ h. holds_reading s W rows (posts_holds s H K W.sane u rows h), λ q. holds_posts s H K W.sane rows (reading_holds s W rows q))
