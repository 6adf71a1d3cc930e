-- The text of a template or heredoc over its pieces and interpolations: what the code of it promises.
use Rattle.std.specs.Prelude.{ℕ, ◌+◌, ◌*◌, ◌/◌, ◌%◌, ◌≤◌, ◌<◌, ◌≡◌, List, [], ◌∷◌, map, Bool, true, false, length, get_or, eqb}
use Rattle.std.proofs.Math.Option.{none, some}
use Rattle.lexis.specs.declared.string.Why.{Why}
use Rattle.lexis.specs.Bytes.{stands}
use Rattle.lexis.specs.Heredoc.{part, opener_at, line_at}
use Rattle.lexis.specs.String.{Mode, mode_of}
use Rattle.grammar.specs.Moves.{a_piece, Under, to, place, more, close, round, closes_as, close_by, walk}
use Rattle.grammar.specs.Layouts.{text_lay}
use Rattle.grammar.specs.UnitLaws.{is_line}
use Rattle.grammar.specs.Published.{depth_of, Suits}
use Rattle.checker.specs.Rows.{row_at, rec_at}
use Rattle.checker.specs.Family.{Chain}
use Rattle.checker.specs.Leaf.{Spelt}
use Rattle.checker.specs.Lay.{depths_at, Over}

-- ---- how a text ends at q

-- `r` says whether the line at q closes a heredoc with the delimiter w, at `end`
pub record LineEnds (s w : List ℕ) (q end : ℕ) (r : Bool) : Type 0 where
  pub yes : r ≡ true → closes_as (line_at w s q) q ≡ to end
  pub no : r ≡ false → closes_as (line_at w s q) q ≡ to end → ⊥

-- the delimiter of the text that starts at σ stands from d to e
abbrev pub Delimited : List ℕ → ℕ → ℕ → ℕ → Type 0
Delimited s σ d e = part s (opener_at s σ).from (opener_at s σ).to ≡ part s d e

-- `r` says whether the text that starts at σ ends at q, by why no unit of text stands there, and goes on at `end`
pub record ClosesBy (s : List ℕ) (d e q : ℕ) (why : Why) (end : ℕ) (r : Bool) : Type 0 where
  pub yes : r ≡ true → (σ : ℕ) → (is_line why ≡ true → Delimited s σ d e) → close_by s σ q why ≡ to end
  pub no : r ≡ false → (σ : ℕ) → (is_line why ≡ true → Delimited s σ d e) → close_by s σ q why ≡ to end → ⊥

-- `r` says whether no text goes on at q, and it is closed there up to `end`
pub record ShutsAt (s : List ℕ) (q : ℕ) (plain : Bool) (d e end : ℕ) (r : Bool) : Type 0 where
  pub yes : r ≡ true → (a : Under) (σ : ℕ) → mode_of s plain d e ≡ round s σ → (place (walk s a σ (more ∷ []) q) ≡ none) × (place (walk s a σ (close ∷ []) q) ≡ some end)
  pub no : r ≡ false → (a : Under) (σ : ℕ) → mode_of s plain d e ≡ round s σ → place (walk s a σ (more ∷ []) q) ≡ none → place (walk s a σ (close ∷ []) q) ≡ some end → ⊥

-- ---- a piece or an interpolation at q

-- `r` says whether an interpolation of the text begins at q
pub record OpensAt (s : List ℕ) (q : ℕ) (plain : Bool) (d e : ℕ) (r : Bool) : Type 0 where
  pub yes : r ≡ true → (a : Under) (σ : ℕ) → mode_of s plain d e ≡ round s σ → place (walk s a σ (more ∷ []) q) ≡ some q
  pub no : r ≡ false → stands (36 ∷ 123 ∷ []) s q ≡ true → (a : Under) (σ : ℕ) → mode_of s plain d e ≡ round s σ → (p : ℕ) → place (walk s a σ (more ∷ []) q) ≡ some p → ⊥

-- what a piece asks of its text, and an interpolation of its place, beside what its parent's rule asks
pub record Sane (s text t : List ℕ) (m : Mode) (j : ℕ) : Type 0 where
  pub some : (row_at t j).start < (row_at t j).end
  pub dollar : (row_at t j).kind ≡ 10 → stands (36 ∷ 123 ∷ []) s (row_at t j).start ≡ true
  pub spelt : (row_at t j).kind ≡ 9 → Spelt m s text (row_at t j).start (row_at t j)

-- `r` says whether the row j is a piece or an interpolation of the text at q
pub record StrandAt (s text t : List ℕ) (j q : ℕ) (plain : Bool) (d e : ℕ) (r : Bool) : Type 0 where
  pub start : r ≡ true → (row_at t j).start ≡ q
  pub suits : r ≡ true → (σ : ℕ) → mode_of s plain d e ≡ round s σ → Suits s (a_piece σ, 0) (rec_at t j)
  pub goes : r ≡ true → (a : Under) (σ : ℕ) → mode_of s plain d e ≡ round s σ → place (walk s a σ (more ∷ []) q) ≡ some q
  pub spelt : r ≡ true → (row_at t j).kind ≡ 9 → Spelt (mode_of s plain d e) s text (row_at t j).start (row_at t j)
  pub no : r ≡ false → (row_at t j).start ≡ q → Sane s text t (mode_of s plain d e) j → (a : Under) (σ : ℕ) → mode_of s plain d e ≡ round s σ → Suits s (a_piece σ, 0) (rec_at t j) → (p : ℕ) → place (walk s a σ (more ∷ []) q) ≡ some p → ⊥

-- ---- all of them

abbrev pub Sanes : List ℕ → List ℕ → List ℕ → Mode → List ℕ → Type 0
Sanes s text t m [] = Unit {0}
Sanes s text t m (j ∷ js) = Sane s text t m j × Sanes s text t m js

-- the texts of the pieces among them
abbrev pub Spelts : List ℕ → List ℕ → List ℕ → Mode → List ℕ → Type 0
Spelts s text t m [] = Unit {0}
Spelts s text t m (j ∷ js) = ((row_at t j).kind ≡ 9 → Spelt m s text (row_at t j).start (row_at t j)) × Spelts s text t m js

-- what `texts` asks for
pub record Texting (s t : List ℕ) (i : ℕ) (m D : List ℕ) (j : ℕ) (plain : Bool) (d e : ℕ) : Type 0 where
  pub within : 7 * i + 7 ≤ length t
  pub marked : i < length m
  pub deep : i < length D
  pub js : List ℕ
  pub chain : Chain m i js j
  pub mode : mode_of s plain d e ≡ round s (row_at t i).start

-- the text from p on, over the children js
abbrev pub Text : List ℕ → List ℕ → ℕ → ℕ → ℕ → List ℕ → List (Under × ℕ) → Type 0
Text s t i own p js bs = Over s t i (own / 2) (eqb (own % 2) 1) [] (text_lay (row_at t i).flag) p (map (rec_at t) js) bs

-- `r` says whether the children from the row j on are the text from p on, and it ends where the row i does; then their depths are put down
pub record TextBy (s text t : List ℕ) (i : ℕ) (m D D' : List ℕ) (j p own : ℕ) (plain : Bool) (d e : ℕ) (r : Bool) : Type 0 where
  pub long : length D' ≡ length D
  pub same : (x : ℕ) → x < j → get_or D' x 0 ≡ get_or D x 0
  pub yes : r ≡ true → (js : List ℕ) → Chain m i js j → (bs : List (Under × ℕ)) × Text s t i own p js bs
  pub spelt : r ≡ true → (js : List ℕ) → Chain m i js j → Spelts s text t (mode_of s plain d e) js
  pub only : r ≡ true → (js : List ℕ) → Chain m i js j → (bs : List (Under × ℕ)) → Text s t i own p js bs → depths_at D' js ≡ map depth_of bs
  pub no : r ≡ false → (js : List ℕ) → Chain m i js j → Sanes s text t (mode_of s plain d e) js → (bs : List (Under × ℕ)) → Text s t i own p js bs → ⊥
