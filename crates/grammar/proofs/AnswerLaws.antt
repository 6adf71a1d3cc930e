-- The reading of a source is the engine's reading with its tree, and every source has an outcome.
use Rattle.std.specs.Prelude.{ℕ, ◌≡◌, refl, List, Bool, true, false, length, eqb, ltb}
use Rattle.std.proofs.Common.{ap, ◌∙◌, arith}
use Rattle.lexis.specs.Utf8.{first_bad}
use Rattle.engine.specs.Base.{Outcome, ok, halt, stuck, bind, Tree, rec_of}
use Rattle.engine.specs.Flat.{Row, flat}
use Rattle.engine.specs.Progress.{reads}
use Rattle.engine.specs.Source as engine
use Rattle.engine.specs.Theorem.{answered}
use Rattle.grammar.specs.Kinds.{most}
use Rattle.grammar.specs.Hcl.{hcl}
use Rattle.grammar.specs.Answer.{pace, root, source, whole, reading, formed_as, long_as, outcome}
use Rattle.grammar.proofs.Checked.{checked}

-- the table of a tree that was read
abbrev pub rows_of : Outcome ℕ (Tree ℕ) → Outcome ℕ (List (Row ℕ))
rows_of o = bind o (λ t. ok (flat t))

pub reading_rows : (s : List ℕ) → engine.reading (source s) ≡ rows_of (reading s)
unfolding reading
reading_rows s = go (reads (hcl s) (pace s) root 0)
  where
    ends : (b : Bool) (t : Tree ℕ) → engine.ending (source s) b t ≡ rows_of (whole s b t)
    ends true t = refl
    ends false t = refl

    go : (o : Outcome ℕ (Tree ℕ)) → bind o (λ t. engine.ending (source s) (eqb (rec_of t).end (length s)) t) ≡ rows_of (bind o (λ t. whole s (eqb (rec_of t).end (length s)) t))
    go (ok t) = ends (eqb (rec_of t).end (length s)) t
    go (halt k p) = refl
    go stuck = refl

-- every source is read or refused
pub reading_answers : (s : List ℕ) → ¬ (reading s ≡ stuck)
reading_answers s e = answered (source s) (checked s) (reading_rows s ∙ ap rows_of e)

formed_answers : (s : List ℕ) (f : Bool) → ¬ (formed_as s f ≡ stuck)
formed_answers s true e = reading_answers s e
formed_answers s false e = absurd (let z : ◌≡◌ {A = ℕ} 0 1 = cc in omega arith)

long_answers : (s : List ℕ) (l : Bool) → ¬ (long_as s l ≡ stuck)
long_answers s true e = absurd (let z : ◌≡◌ {A = ℕ} 0 1 = cc in omega arith)
long_answers s false e = formed_answers s (eqb (first_bad s) (length s)) e

pub outcome_answers : (s : List ℕ) → ¬ (outcome s ≡ stuck)
unfolding outcome
outcome_answers s = long_answers s (ltb most (length s))
