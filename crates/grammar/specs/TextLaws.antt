-- The moves of strings, pieces, templates and heredocs, by what the text at a place is.
use Rattle.std.specs.Prelude.{ℕ, ◌+◌, ◌<◌, ◌≡◌, Bool, cond, ◌&&◌, ◌||◌, List, [], ◌∷◌, length, drop, eqb}
use Rattle.std.proofs.Math.Path.{refl, sym, ap}
use Rattle.std.proofs.Common.{◌∙◌}
use Rattle.std.proofs.Math.Bool.{true, false}
use Rattle.std.proofs.Math.Option.{none, some}
use native.Mathlib.Omega.{arith}
use borrow.Author.Tests.{eqb-true, eqb-false, eq-eqb, ne_eqb}
use Rattle.lexis.specs.declared.string.Why.{Why}
use Rattle.lexis.specs.declared.string.Why.TheVariants as why
use Rattle.lexis.specs.Bytes.{byte_at, stands, is_start, is_foreign}
use Rattle.lexis.specs.Word.{ident_to}
use Rattle.lexis.specs.Heredoc.{Opener, fresh_at, line_end, fails, opens, opener_end, opener_word}
use Rattle.lexis.specs.String.{Unit, is, not, text_at}
use Rattle.lexis.specs.RunLaws.{stands_one, and_left, clash}
use Rattle.engine.specs.Base.{choose}
use Rattle.engine.specs.BaseLaws.{some_is}
use Rattle.grammar.specs.Kinds.{Foreign, Unexpected}
use Rattle.grammar.specs.Moves.{an_expression, a_piece, Under, Step, to, no, then, when, place, unexpected, Atom, mark, ident, ending, piece, run, more, close, round, unit_at, close_by, goes_as, atom, walk}
use Rattle.grammar.specs.Layouts.{plain}
use Rattle.grammar.specs.Hcl.{under, pick_at, terms, is_template}
use Rattle.grammar.specs.UnitLaws.{Stands, marks}

-- ---- atoms

module _ (s : List ℕ) (a : Under) (σ : ℕ) where
  pub walk_one : (x : Atom) (p : ℕ) → walk s a σ (x ∷ []) p ≡ atom s a σ x p
  unfolding walk
  walk_one x p = go (atom s a σ x p)
    where
      go : (o : Step) → then o (walk s a σ []) ≡ o
      go (to q) = refl
      go (no k q) = refl

  module _ (p : ℕ) where
    -- text goes on where a unit stands, or an interpolation
    pub more_unit : Stands (unit_at s σ p) → walk s a σ (more ∷ []) p ≡ to p
    unfolding atom
    more_unit h = walk_one more p ∙ ap (goes_as p) h.is

    pub more_dollar : unit_at s σ p ≡ not why.Interpolation → walk s a σ (more ∷ []) p ≡ to p
    unfolding atom
    more_dollar e = walk_one more p ∙ ap (goes_as p) e

    pub more_not : (y : Why) → unit_at s σ p ≡ not y → ¬ (y ≡ why.Interpolation) → walk s a σ (more ∷ []) p ≡ no Unexpected p
    unfolding atom
    more_not y e n = walk_one more p ∙ ap (goes_as p) e ∙ go y n
      where
        go : (y : Why) → ¬ (y ≡ why.Interpolation) → goes_as p (not y) ≡ no Unexpected p
        go why.Quote n = refl
        go why.Interpolation n = absurd (n refl)
        go why.Directive n = refl
        go why.Escape n = refl
        go why.Closing n = refl
        go why.Foreign n = refl
        go why.End n = refl

    -- to look whether it goes on is to stay
    pub more_stays : (q : ℕ) → place (walk s a σ (more ∷ []) p) ≡ some q → q ≡ p
    unfolding atom
    more_stays q e = go (unit_at s σ p) (ap place (sym (walk_one more p)) ∙ e)
      where
        stays : place (to p) ≡ some q → q ≡ p
        stays f = sym (some_is f)

        never : none ≡ some q → q ≡ p
        never f = absurd (let z : ◌≡◌ {A = ℕ} 0 1 = cc in omega arith)

        by : (y : Why) → place (goes_as p (not y)) ≡ some q → q ≡ p
        by why.Quote f = never f
        by why.Interpolation f = stays f
        by why.Directive f = never f
        by why.Escape f = never f
        by why.Closing f = never f
        by why.Foreign f = never f
        by why.End f = never f

        go : (u : Unit) → place (goes_as p u) ≡ some q → q ≡ p
        go (is w bs x) f = stays f
        go (not y) f = by y f

    -- where none stands, the text ends, by why
    pub close_by_lem : (y : Why) → unit_at s σ p ≡ not y → walk s a σ (close ∷ []) p ≡ close_by s σ p y
    unfolding atom
    close_by_lem y e = walk_one close p ∙ rw e

    -- a run, which is escaped or not
    pub run_yes : (φ : Bool) → (text_at (round s σ) s p).escaped ≡ φ → walk s a σ (run φ ∷ []) p ≡ to (p + (text_at (round s σ) s p).width)
    unfolding atom
    run_yes true e = walk_one (run true) p ∙ rw e
    run_yes false e = walk_one (run false) p ∙ rw e

    pub run_no : (text_at (round s σ) s p).escaped ≡ true → walk s a σ (run false ∷ []) p ≡ no Unexpected p
    unfolding atom
    run_no e = walk_one (run false) p ∙ rw e

-- a piece of the text that starts at t
module _ (s : List ℕ) (left : ℕ) (lines : Bool) (t σ p : ℕ) where
  pub piece_yes : (φ : Bool) (e : ℕ) → (text_at (round s t) s p).escaped ≡ φ → p + (text_at (round s t) s p).width ≡ e → ¬ (e ≡ p) → walk s (under left lines (a_piece t)) σ (piece φ ∷ []) p ≡ to e
  unfolding atom
  piece_yes true e f g n = walk_one s (under left lines (a_piece t)) σ (piece true) p ∙ rw (f, g, ne_eqb e p n)
  piece_yes false e f g n = walk_one s (under left lines (a_piece t)) σ (piece false) p ∙ rw (f, g, ne_eqb e p n)

  pub piece_no : (text_at (round s t) s p).escaped ≡ true → walk s (under left lines (a_piece t)) σ (piece false ∷ []) p ≡ no Unexpected p
  unfolding atom
  piece_no e = walk_one s (under left lines (a_piece t)) σ (piece false) p ∙ rw e

-- ---- what the place of a piece calls for

module _ (s : List ℕ) (left : ℕ) (lines : Bool) (t p : ℕ) where
  pub pick_piece : Stands (unit_at s t p) → pick_at s (under left lines (a_piece t)) p ≡ some 9
  unfolding pick_at
  pick_piece h = rw ((marks (round s t) (fresh_at s p) (drop p s)).no h)

  pub pick_dollar : unit_at s t p ≡ not why.Interpolation → pick_at s (under left lines (a_piece t)) p ≡ some 10
  unfolding pick_at
  pick_dollar e = rw ((marks (round s t) (fresh_at s p) (drop p s)).yes e)

-- ---- the kind that a place calls for passed its test

abbrev chosen : ℕ → List (Bool × ℕ) → Bool
chosen k [] = false
chosen k (x ∷ xs) = (eqb x.1 k && x.0) || chosen k xs

choose_chosen : (k : ℕ) (xs : List (Bool × ℕ)) → choose xs ≡ some k → chosen k xs ≡ true
choose_chosen k [] e = absurd (let z : ◌≡◌ {A = ℕ} 0 1 = cc in omega arith)
choose_chosen k ((true, n) ∷ xs) e = let z : n ≡ k = cc in rw (eq-eqb n k z)
choose_chosen k ((false, n) ∷ xs) e = go (eqb n k) (choose_chosen k xs e)
  where
    go : (b : Bool) → chosen k xs ≡ true → ((b && false) || chosen k xs) ≡ true
    go true h = h
    go false h = h

pub or_none : (b : Bool) → (b || false) ≡ true → b ≡ true
or_none true e = e
or_none false e = e

module _ (s : List ℕ) (left : ℕ) (lines : Bool) (p : ℕ) where
  pub pick_chosen : (k : ℕ) → pick_at s (under left lines an_expression) p ≡ some k → chosen k (terms s lines p) ≡ true
  unfolding pick_at
  pick_chosen k e = choose_chosen k (terms s lines p) e

  -- a quote stands before a string and a template, and `<<` before a heredoc
  pub pick_string : pick_at s (under left lines an_expression) p ≡ some 6 → byte_at s p ≡ 34
  pick_string e = eqb-true (byte_at s p) 34 (or_none (eqb (byte_at s p) 34) (pick_chosen 6 e))

  pub pick_template : pick_at s (under left lines an_expression) p ≡ some 7 → byte_at s p ≡ 34
  pick_template e = eqb-true (byte_at s p) 34 (and_left (eqb (byte_at s p) 34) (is_template s p) (or_none (eqb (byte_at s p) 34 && is_template s p) (pick_chosen 7 e)))

  pub pick_heredoc : pick_at s (under left lines an_expression) p ≡ some 8 → stands (60 ∷ 60 ∷ []) s p ≡ true
  pick_heredoc e = or_none (stands (60 ∷ 60 ∷ []) s p) (pick_chosen 8 e)

-- bytes that stand
pub plain_yes : (s : List ℕ) (a : Under) (σ p : ℕ) (w : List ℕ) → stands w s p ≡ true → walk s a σ (plain w) p ≡ to (p + length w)
unfolding atom
plain_yes s a σ p w e = walk_one s a σ (mark w []) p ∙ rw e

pub plain_no : (s : List ℕ) (a : Under) (σ p : ℕ) (w : List ℕ) → stands w s p ≡ false → walk s a σ (plain w) p ≡ unexpected s p
unfolding atom
plain_no s a σ p w e = walk_one s a σ (mark w []) p ∙ rw e

pub quote_stands : (s : List ℕ) (p : ℕ) → byte_at s p ≡ 34 → stands (34 ∷ []) s p ≡ true
quote_stands s p e = stands_one 34 s p refl ∙ eq-eqb (byte_at s p) 34 e

-- an opener as a move: to where the text begins, or refused where something else stands
abbrev pub opened : List ℕ → Opener → Step
opened s o = cond o.good (to o.at) (unexpected s o.at)

pub unexpected_is : (s : List ℕ) (p : ℕ) → unexpected s p ≡ no (cond (is_foreign (byte_at s p)) Foreign Unexpected) p
unexpected_is s p = go (is_foreign (byte_at s p))
  where
    go : (b : Bool) → when b (no Foreign p) (no Unexpected p) ≡ no (cond b Foreign Unexpected) p
    go true = refl
    go false = refl

then_unexpected : (s : List ℕ) (p : ℕ) (f : ℕ → Step) → then (unexpected s p) f ≡ unexpected s p
then_unexpected s p f = rw (unexpected_is s p)

-- the delimiter and its line ending
pub record Worded (s : List ℕ) (a : Under) (σ : ℕ) (f : Bool) (d : ℕ) (o : Opener) : Type 0 where
  pub walks : walk s a σ (ident ∷ ending ∷ []) d ≡ opened s o
  pub dash : o.good ≡ true → o.dash ≡ f
  pub past : o.good ≡ true → d < o.at

module _ (s : List ℕ) (a : Under) (σ : ℕ) (f : Bool) (d : ℕ) where
  two : (x y : Atom) → walk s a σ (x ∷ y ∷ []) d ≡ then (atom s a σ x d) (walk s a σ (y ∷ []))
  unfolding walk
  two x y = refl

  word_ended : (e n : ℕ) (b : Bool) → eqb n 0 ≡ b → line_end s e ≡ n → d < e → atom s a σ ident d ≡ to e → Worded s a σ f d (cond b (fails e) (opens f d e (e + n)))
  unfolding atom
  word_ended e n true k h low g = record {
    walks = two ident ending ∙ rw g (walk_one s a σ ending e ∙ rw (h, eq-eqb (e + n) e (omega (arith, eqb-true n 0 k))));
    dash = λ z. clash (sym z);
    past = λ z. clash (sym z);
  }
  word_ended e n false k h low g =
      let long = eqb-false n 0 k in
      record {
        walks = two ident ending ∙ rw g (walk_one s a σ ending e ∙ rw (h, ne_eqb (e + n) e (λ z. omega arith)));
        dash = λ z. refl;
        past = λ z. omega arith;
      }

  pub word_opened : Worded s a σ f d (opener_word s f d)
  unfolding atom
  word_opened = go (is_start (byte_at s d)) refl
    where
      go : (b : Bool) → is_start (byte_at s d) ≡ b → Worded s a σ f d (cond b (opener_end s f d (ident_to s d)) (fails d))
      go true e =
          let n : d < ident_to s d = rw e (omega arith) in
          word_ended (ident_to s d) (line_end s (ident_to s d)) (eqb (line_end s (ident_to s d)) 0) refl refl n (let z : ¬ (ident_to s d ≡ d) = λ z. omega arith in rw (ne_eqb (ident_to s d) d z))
      go false e = record {
        walks = two ident ending ∙ rw (e, eq-eqb d d refl) (then_unexpected s d (walk s a σ (ending ∷ [])));
        dash = λ z. clash (sym z);
        past = λ z. clash (sym z);
      }
