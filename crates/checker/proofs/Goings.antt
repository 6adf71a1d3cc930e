-- Moves of the checker's own: atom by atom.
use Prim.Native.Nat.{ℕ, zero, suc, ◌+◌, ◌≤◌}
use mathlib.Core.Path.{◌≡◌, refl, sym, ap, subst, ◌∙◌}
use mathlib.Core.List.{List, [], ◌∷◌}
use mathlib.Core.Bool.{Bool, true, false, cond, not, ◌&&◌, ◌||◌}
use mathlib.Core.Option.{none, some}
use native.Mathlib.Omega.{arith}
use lib.ListN.{length, drop}
use lib.Dec.{eqb}
use borrow.Author.Tests.{eq-eqb, ne_eqb, eqb-true}
use Rattle.lexis.specs.Bytes.{byte_at, is_foreign, begins, stands, Ran}
use Rattle.lexis.specs.declared.trivia.Stop.{Stop}
use Rattle.lexis.specs.declared.trivia.Stop.TheVariants as stops
use Rattle.lexis.specs.Trivia.{Stopping, stop_at, stop_of, Stopped}
use Rattle.lexis.specs.Trivia as trivia
use Rattle.lexis.specs.Word.{ident_to}
use Rattle.lexis.specs.Operator.{is_mark, mark_to, equals_to}
use Rattle.lexis.specs.Keys.{among}
use Rattle.lexis.specs.RunLaws.{clash, and_left, stands_one, stands_inside}
use Rattle.grammar.specs.Kinds.{Foreign, Unexpected}
use Rattle.grammar.specs.Moves.{Under, Step, to, no, then, place, when, unexpected, token, Atom, gap, ident, mark, opens, unless, stop, ended, fresh, any, line, here, Want, keys_of, behind_key, skip, marks, level, opening, stop_step, stopping, atom, Move, walk}
use Rattle.grammar.specs.Hcl.{under}
use Rattle.grammar.specs.Said.{Went, went, Moved, Made}
use Rattle.checker.specs.Program.{own_move}
use Rattle.checker.specs.Leaf.{GoneAt}
use Rattle.checker.specs.LeafMore.{Past, Comes, Goes, OneBy, SignBy, AfterBy}

-- ---- steps

pub unexpected_none : (s : List ℕ) (p : ℕ) → place (unexpected s p) ≡ none
unexpected_none s p = go (is_foreign (byte_at s p))
  where
    go : (b : Bool) → place (when b (no Foreign p) (no Unexpected p)) ≡ none
    go true = refl
    go false = refl

pub then_none : (x : Step) (f : ℕ → Step) → place x ≡ none → place (then x f) ≡ none
then_none (to q) f e = absurd (let z : ◌≡◌ {A = ℕ} 0 1 = cc in omega arith)
then_none (no k q) f e = refl

then_then : (x : Step) (f g : ℕ → Step) → then x (λ q. then (f q) g) ≡ then (then x f) g
then_then (to q) f g = refl
then_then (no k q) f g = refl

-- a refusal as the code has it
pub refused_kind : {k p : ℕ} {r : Went} → r ≡ went (suc k) p → ¬ (r.kind ≡ 0)
refused_kind {k} {p} {r} e f = omega (arith, ap (λ (w : Went). w.kind) e)

-- ---- a token

pub past_none : {p e : ℕ} {r : Went} → e ≡ p → r ≡ went 4 p → Past p e r
past_none h f = record { good = λ z. absurd (refused_kind f z); bad = λ z. h }

pub past_some : {p e : ℕ} {r : Went} → ¬ (e ≡ p) → r ≡ went 0 e → Past p e r
past_some h f = record { good = λ z. (h, ap (λ (w : Went). w.at) f); bad = λ z. absurd (z (ap (λ (w : Went). w.kind) f)) }

token_comes : (s : List ℕ) (b : Bool) (n : ℕ) {p e : ℕ} {r : Went} → 1 ≤ n → e ≡ cond b (p + n) p → Past p e r → Comes (when b (to (p + n)) (unexpected s p)) r
token_comes s true n l h f = record { good = λ z. ap to (sym h ∙ sym (f.good z).1); bad = λ z. absurd (omega (arith, f.bad z)) }
token_comes s false n {p} l h f = record { good = λ z. absurd ((f.good z).0 h); bad = λ z. unexpected_none s p }

pub mark_comes : {s : List ℕ} (w : List ℕ) (longer : List (List ℕ)) {p e : ℕ} {r : Went} → 1 ≤ length w → Ran s p (mark_to w longer s p) e → Past p e r → Comes (marks s w longer p) r
mark_comes {s} w longer {p} l h f = token_comes s (is_mark w longer s p) (length w) l h.is f

mark_swap : (a b c : Bool) → (a && not (b || (c || false))) ≡ (a && not (c || (b || false)))
mark_swap a true true = refl
mark_swap a true false = refl
mark_swap a false true = refl
mark_swap a false false = refl

equals_comes : {s : List ℕ} {p e : ℕ} {r : Went} → Ran s p (equals_to s p) e → Past p e r → Comes (marks s (61 ∷ []) ((61 ∷ 61 ∷ []) ∷ (61 ∷ 62 ∷ []) ∷ []) p) r
equals_comes {s} {p} h f =
    rw (mark_swap (stands (61 ∷ []) s p) (stands (61 ∷ 61 ∷ []) s p) (stands (61 ∷ 62 ∷ []) s p))
    (token_comes s (is_mark (61 ∷ []) ((61 ∷ 62 ∷ []) ∷ (61 ∷ 61 ∷ []) ∷ []) s p) 1 (omega arith) h.is f)

-- a level

pub level_none : (s w : List ℕ) (longer : List (List ℕ)) (p : ℕ) → place (opening s 0 w longer p) ≡ none
level_none s w longer p = go (is_mark w longer s p)
  where
    go : (b : Bool) → place (when b (level 0 p (to (p + length w))) (unexpected s p)) ≡ none
    go true = refl
    go false = unexpected_none s p

pub level_some : (s : List ℕ) (left : ℕ) (w : List ℕ) (longer : List (List ℕ)) (p : ℕ) → ¬ (left ≡ 0) → opening s left w longer p ≡ marks s w longer p
level_some s zero w longer p n = absurd (n refl)
level_some s (suc d) w longer p n = refl

-- ---- what ends an item, and any trivia

stop_none : (s : List ℕ) (p n : ℕ) (x : Stopping) → ¬ (n ≡ 1) → place (stop_step s p n x) ≡ none
stop_none s p zero x h = unexpected_none s p
stop_none s p (suc zero) x h = absurd (h refl)
stop_none s p (suc (suc n)) x h = refl

-- what is no end
pub stop_other : (p : ℕ) (t : Stop) → ((q : ℕ) → t ≡ stops.End q → ⊥) → ¬ ((stop_of p t).how ≡ 1)
stop_other p stops.Nothing n e = omega (arith, e)
stop_other p (stops.End q) n e = n q refl
stop_other p (stops.Cut q) n e = omega (arith, e)

module _ {s : List ℕ} {p : ℕ} {x : Stopping} (st : Stopped s p x) where
  stopped : stopping s p ≡ stop_step s p x.how x
  stopped = rw (← st.is)

  pub ended_not : {r : Went} → ¬ (x.how ≡ 1) → r ≡ went 4 x.at → Comes (then (stopping s p) (skip s true)) r
  ended_not n f = record { good = λ z. absurd (refused_kind f z); bad = λ z. then_none (stopping s p) (skip s true) (rw stopped (stop_none s p x.how x n)) }

  pub ended_past : {r : Went} → x.how ≡ 1 → Moved s x.at true r → Comes (then (stopping s p) (skip s true)) r
  ended_past {r} n m =
      let e : stopping s p ≡ to x.at = stopped ∙ rw n in
      record { good = λ z. rw e (m.good z); bad = λ z. rw (e, m.bad z) }

-- ---- moves, atom by atom

module _ {s : List ℕ} where
  -- an atom that is made, and one that is not
  on : {m : Move} {p : ℕ} {r : Went} (a : Atom) (q : ℕ) → ((b : Under) (σ : ℕ) → keys_of b.want ≡ [] → atom s b σ a p ≡ to q) → Goes s m q r → Goes s (a ∷ m) p r
  unfolding walk
  on a q f g = record { good = λ z b σ k. rw (f b σ k) (g.good z b σ k); bad = λ z b σ k. rw (f b σ k) (g.bad z b σ k) }

  stuck : {p : ℕ} {r : Went} (m : Move) (a : Atom) → ((b : Under) (σ : ℕ) → keys_of b.want ≡ [] → place (atom s b σ a p) ≡ none) → ¬ (r.kind ≡ 0) → Goes s (a ∷ m) p r
  unfolding walk
  stuck {p} m a f n = record { good = λ z. absurd (n z); bad = λ z b σ k. then_none (atom s b σ a p) (walk s b σ m) (f b σ k) }

  last : {p : ℕ} {r : Went} {x : Step} (a : Atom) → ((b : Under) (σ : ℕ) → atom s b σ a p ≡ x) → Comes x r → Goes s (a ∷ []) p r
  unfolding walk
  last {x = x} a f g = record { good = λ z b σ k. rw (f b σ, g.good z); bad = λ z b σ k. rw (f b σ) (then_none x to (g.bad z)) }

  done : {p q : ℕ} {r : Went} → r ≡ went 0 q → q ≡ p → Goes s [] p r
  unfolding walk
  done {p} {q} {r} e f = record { good = λ z b σ k. ap some (sym (ap (λ (w : Went). w.at) e ∙ f)); bad = λ z. absurd (z (ap (λ (w : Went). w.kind) e)) }

module _ (s : List ℕ) where
  new : (b : Under) (σ p : ℕ) → keys_of b.want ≡ [] → atom s b σ fresh p ≡ to p
  unfolding atom among
  new b σ p k = rw k (go (eqb (behind_key s σ) p))
    where
      go : (x : Bool) → when (x && false) (no 7 σ) (to p) ≡ to p
      go true = refl
      go false = refl

  brace : (q : ℕ) {b : Bool} → stands (125 ∷ []) s q ≡ b → eqb (byte_at s q) 125 ≡ b
  brace q h = sym (stands_one 125 s q refl) ∙ h

module _ {s : List ℕ} {p : ℕ} {g : Went} (sp : Moved s p false g) where
  gap_no : (m : Move) → ¬ (g.kind ≡ 0) → Goes s (gap line ∷ m) p g
  unfolding atom
  gap_no m n = stuck m (gap line) (λ b σ k. rw (sp.bad n)) n

  gap_on : {m : Move} {r : Went} → g.kind ≡ 0 → Goes s m g.at r → Goes s (gap line ∷ m) p r
  unfolding atom
  gap_on z h = on (gap line) g.at (λ b σ k. sp.good z) h

  -- `=` and `:`
  pub equals_no : ¬ (g.kind ≡ 0) → Goes s (own_move 2) p g
  equals_no n = gap_no _ n

  pub colon_no : ¬ (g.kind ≡ 0) → Goes s (own_move 3) p g
  colon_no n = gap_no _ n

  pub more_no : ¬ (g.kind ≡ 0) → Goes s (own_move 4) p g
  more_no n = gap_no _ n

  pub closing_no : ¬ (g.kind ≡ 0) → Goes s (own_move 5) p g
  closing_no n = gap_no _ n

  module _ (z : g.kind ≡ 0) where
    pub equals_past : {e : ℕ} {r : Went} → Ran s g.at (equals_to s g.at) e → Past g.at e r → Goes s (own_move 2) p r
    unfolding atom
    equals_past h f =
        gap_on z (on fresh g.at (λ b σ k. new s b σ g.at k) (last (mark (61 ∷ []) ((61 ∷ 61 ∷ []) ∷ (61 ∷ 62 ∷ []) ∷ [])) (λ b σ. refl) (equals_comes h f)))

    pub colon_past : {e : ℕ} {r : Went} → Ran s g.at (mark_to (58 ∷ []) [] s g.at) e → Past g.at e r → Goes s (own_move 3) p r
    unfolding atom
    colon_past h f = gap_on z (on fresh g.at (λ b σ k. new s b σ g.at k) (last (mark (58 ∷ []) []) (λ b σ. refl) (mark_comes (58 ∷ []) [] (omega arith) h f)))

    -- the `}` behind the last item
    pub closing_here : {r : Went} → stands (125 ∷ []) s g.at ≡ true → r ≡ went 0 (g.at + 1) → Goes s (own_move 5) p r
    unfolding atom
    closing_here h f =
        gap_on z (on ended g.at (λ b σ k. rw (brace s g.at h)) (on (mark (125 ∷ []) []) (g.at + 1) (λ b σ k. rw h) (done f refl)))

    module _ {w : Went} (c : Comes (then (stopping s g.at) (skip s true)) w) where
      pub closing_stuck : stands (125 ∷ []) s g.at ≡ false → ¬ (w.kind ≡ 0) → Goes s (own_move 5) p w
      unfolding atom
      closing_stuck h n = gap_on z (stuck (mark (125 ∷ []) [] ∷ []) ended (λ b σ k. rw (brace s g.at h) (c.bad n)) n)

      pub closing_past : {e : ℕ} {r : Went} → stands (125 ∷ []) s g.at ≡ false → w.kind ≡ 0 → Ran s w.at (mark_to (125 ∷ []) [] s w.at) e → Past w.at e r → Goes s (own_move 5) p r
      unfolding atom
      closing_past h y i f =
          gap_on z (on ended w.at (λ b σ k. rw (brace s g.at h) (c.good y)) (last (mark (125 ∷ []) []) (λ b σ. refl) (mark_comes (125 ∷ []) [] (omega arith) i f)))

      -- the next item
      stop_no : ¬ (w.kind ≡ 0) → Goes s (stop ∷ gap any ∷ unless 125 ∷ []) g.at w
      unfolding atom walk
      stop_no n = record {
        good = λ y. absurd (n y);
        bad = λ y b σ k. ap place (then_then (stopping s g.at) (skip s true) (walk s b σ (unless 125 ∷ []))) ∙ then_none (then (stopping s g.at) (skip s true)) (walk s b σ (unless 125 ∷ [])) (c.bad n);
      }

      pub more_stuck : ¬ (w.kind ≡ 0) → Goes s (own_move 4) p w
      more_stuck n = gap_on z (stop_no n)

      stop_on : {m : Move} {r : Went} → w.kind ≡ 0 → Goes s m w.at r → Goes s (stop ∷ gap any ∷ m) g.at r
      unfolding atom walk
      stop_on {m} y h = record {
        good = λ x b σ k. ap place (then_then (stopping s g.at) (skip s true) (walk s b σ m)) ∙ rw (c.good y) (h.good x b σ k);
        bad = λ x b σ k. ap place (then_then (stopping s g.at) (skip s true) (walk s b σ m)) ∙ rw (c.good y) (h.bad x b σ k);
      }

      pub more_brace : {r : Went} → w.kind ≡ 0 → stands (125 ∷ []) s w.at ≡ true → r ≡ went 4 w.at → Goes s (own_move 4) p r
      unfolding atom
      more_brace y h f = gap_on z (stop_on y (stuck [] (unless 125) (λ b σ k. rw (brace s w.at h) (unexpected_none s w.at)) (refused_kind f)))

      pub more_here : w.kind ≡ 0 → stands (125 ∷ []) s w.at ≡ false → Goes s (own_move 4) p w
      unfolding atom
      more_here y h = gap_on z (stop_on y (on (unless 125) w.at (λ b σ k. rw (brace s w.at h)) (done (ap (λ (x : ℕ). went x w.at) y) refl)))

-- ---- trivia alone

module _ {s : List ℕ} {p : ℕ} {lines : Bool} {g : Went} (sp : Moved s p lines g) where
  pub here_on : g.kind ≡ 0 → (left σ : ℕ) (w : Want) → place (walk s (under left lines w) σ (gap here ∷ []) p) ≡ some g.at
  unfolding walk atom
  here_on z left σ w = rw (sp.good z)

  pub here_no : ¬ (g.kind ≡ 0) → (left σ : ℕ) (w : Want) → place (walk s (under left lines w) σ (gap here ∷ []) p) ≡ none
  unfolding walk atom
  here_no n left σ w = rw (sp.bad n)

module _ {s : List ℕ} {p : ℕ} {g : Went} (sp : Moved s p false g) where
  pub line_on : g.kind ≡ 0 → (b : Under) (σ : ℕ) → place (walk s b σ (gap line ∷ []) p) ≡ some g.at
  unfolding walk atom
  line_on z b σ = rw (sp.good z)

  pub line_no : ¬ (g.kind ≡ 0) → (b : Under) (σ : ℕ) → place (walk s b σ (gap line ∷ []) p) ≡ none
  unfolding walk atom
  line_no n b σ = rw (sp.bad n)

-- ---- the braces of an object

module _ {s : List ℕ} {p e : ℕ} (c : ℕ) (h : Ran s p (mark_to (c ∷ []) [] s p) e) where
  mark_on : ¬ (e ≡ p) → marks s (c ∷ []) [] p ≡ to e
  mark_on n = (mark_comes (c ∷ []) [] (omega arith) h (past_some n refl)).good refl

  mark_no : e ≡ p → place (marks s (c ∷ []) [] p) ≡ none
  mark_no z = (mark_comes (c ∷ []) [] (omega arith) h (past_none z refl)).bad (λ y. omega (arith, y))

module _ (s : List ℕ) (b : Under) (σ : ℕ) where
  pub open_deep : (p : ℕ) → b.left ≡ 0 → place (walk s b σ (opens (123 ∷ []) [] ∷ []) p) ≡ none
  unfolding walk atom
  open_deep p z = then_none (opening s b.left (123 ∷ []) [] p) to (rw z (level_none s (123 ∷ []) [] p))

  pub open_on : {p e : ℕ} → ¬ (b.left ≡ 0) → Ran s p (mark_to (123 ∷ []) [] s p) e → ¬ (e ≡ p) → place (walk s b σ (opens (123 ∷ []) [] ∷ []) p) ≡ some e
  unfolding walk atom
  open_on {p} {e} n h z = ap (λ (x : Step). place (then x to)) (level_some s b.left (123 ∷ []) [] p n ∙ mark_on 123 h z)

  pub open_no : {p e : ℕ} → ¬ (b.left ≡ 0) → Ran s p (mark_to (123 ∷ []) [] s p) e → e ≡ p → place (walk s b σ (opens (123 ∷ []) [] ∷ []) p) ≡ none
  unfolding walk atom
  open_no {p} n h z = then_none (opening s b.left (123 ∷ []) [] p) to (ap place (level_some s b.left (123 ∷ []) [] p n) ∙ mark_no 123 h z)

  module _ {p : ℕ} {g : Went} (sp : Moved s p true g) where
    pub any_no : (m : Move) → ¬ (g.kind ≡ 0) → place (walk s b σ (gap any ∷ m) p) ≡ none
    unfolding walk atom
    any_no m n = ap (λ (x : Step). place (then x (walk s b σ m))) (sp.bad n)

    any_to : (m : Move) → g.kind ≡ 0 → place (walk s b σ (gap any ∷ m) p) ≡ place (walk s b σ m g.at)
    unfolding walk atom
    any_to m z = ap (λ (x : Step). place (then x (walk s b σ m))) (sp.good z)

    pub any_on : g.kind ≡ 0 → place (walk s b σ (gap any ∷ []) p) ≡ some g.at
    unfolding walk
    any_on z = any_to [] z

    pub shut_on : {e : ℕ} → g.kind ≡ 0 → Ran s g.at (mark_to (125 ∷ []) [] s g.at) e → ¬ (e ≡ g.at) → place (walk s b σ (gap any ∷ mark (125 ∷ []) [] ∷ []) p) ≡ some e
    unfolding walk atom
    shut_on z h n = any_to (mark (125 ∷ []) [] ∷ []) z ∙ ap (λ (x : Step). place (then x to)) (mark_on 125 h n)

    pub shut_no : {e : ℕ} → g.kind ≡ 0 → Ran s g.at (mark_to (125 ∷ []) [] s g.at) e → e ≡ g.at → place (walk s b σ (gap any ∷ mark (125 ∷ []) [] ∷ []) p) ≡ none
    unfolding walk atom
    shut_no z h n = any_to (mark (125 ∷ []) [] ∷ []) z ∙ then_none (marks s (125 ∷ []) [] g.at) to (mark_no 125 h n)

-- ---- an identifier, and a dot

module _ (s : List ℕ) (b : Under) (σ : ℕ) where
  pub ident_on : {p e : ℕ} → Ran s p (ident_to s p) e → ¬ (e ≡ p) → place (walk s b σ (ident ∷ []) p) ≡ some e
  unfolding walk atom
  ident_on {p} {e} h n = subst (λ (o : ℕ). place (then (token s p o) to) ≡ some e) h.is (rw (ne_eqb e p n))

  pub ident_no : {p e : ℕ} → Ran s p (ident_to s p) e → e ≡ p → place (walk s b σ (ident ∷ []) p) ≡ none
  unfolding walk atom
  ident_no {p} {e} h z = subst (λ (o : ℕ). place (then (token s p o) to) ≡ none) h.is (rw (eq-eqb e p z) (then_none (unexpected s p) to (unexpected_none s p)))

  pub dot_on : {p e : ℕ} → Ran s p (mark_to (46 ∷ []) [] s p) e → ¬ (e ≡ p) → place (walk s b σ (mark (46 ∷ []) [] ∷ []) p) ≡ some e
  unfolding walk atom
  dot_on h n = ap (λ (x : Step). place (then x to)) (mark_on 46 h n)

  pub dot_no : {p e : ℕ} → Ran s p (mark_to (46 ∷ []) [] s p) e → e ≡ p → place (walk s b σ (mark (46 ∷ []) [] ∷ []) p) ≡ none
  unfolding walk atom
  dot_no {p} h z = then_none (marks s (46 ∷ []) [] p) to (mark_no 46 h z)

-- ---- one of two moves

module _ {s : List ℕ} {m : Move} {p : ℕ} {r : Went} (g : Goes s m p r) where
  goes_yes : r.kind ≡ 0 → Goes s m p (went 0 r.at)
  goes_yes z = record { good = λ y. g.good z; bad = λ n. absurd (n refl) }

  goes_no : ¬ (r.kind ≡ 0) → Goes s m p (went 1 p)
  goes_no n = record { good = λ y. absurd (omega arith); bad = λ y. g.bad n }

module _ {s : List ℕ} {m n : Move} {p : ℕ} {e : Went} (g : Goes s m p e) where
  one_first : e.kind ≡ 0 → OneBy s m n p (went 0 e.at)
  one_first z = record { first = λ y. goes_yes g z; second = λ y. absurd (omega arith); neither = λ n. absurd (n (omega arith)) }

  module _ (no : ¬ (e.kind ≡ 0)) {c : Went} (h : Goes s n p c) where
    one_second : c.kind ≡ 0 → OneBy s m n p (went 1 c.at)
    one_second z = record { first = λ y. absurd (omega (arith, y)); second = λ y. (goes_no g no, goes_yes h z); neither = λ y. absurd (y (omega arith)) }

    one_neither : ¬ (c.kind ≡ 0) → OneBy s m n p (went 2 p)
    one_neither z = record { first = λ y. absurd (omega (arith, y)); second = λ y. absurd (omega (arith, y)); neither = λ y. (goes_no g no, goes_no h z) }

-- ---- the sign of an item, and what stands behind it

four : ¬ (◌≡◌ {A = ℕ} 4 0)
four e = omega (arith, e)

module _ {s : List ℕ} {p : ℕ} {g : Went} (sp : Moved s p false g) where
  pub sign_no : ¬ (g.kind ≡ 0) → SignBy s p (went 2 p)
  sign_no n = one_neither (equals_no sp n) n (colon_no sp n) n

  module _ (z : g.kind ≡ 0) {e : ℕ} (h : Ran s g.at (equals_to s g.at) e) where
    pub sign_equals : ¬ (e ≡ g.at) → SignBy s p (went 0 e)
    sign_equals n = one_first (equals_past sp z h (past_some n refl)) refl

    module _ (y : e ≡ g.at) {d : ℕ} (i : Ran s g.at (mark_to (58 ∷ []) [] s g.at) d) where
      pub sign_colon : ¬ (d ≡ g.at) → SignBy s p (went 1 d)
      sign_colon n = one_second (equals_past sp z h (past_none y refl)) four (colon_past sp z i (past_some n refl)) refl

      pub sign_none : d ≡ g.at → SignBy s p (went 2 p)
      sign_none n = one_neither (equals_past sp z h (past_none y refl)) four (colon_past sp z i (past_none n refl)) four

-- nothing ends an item where a `}` stands
brace_stop : (p : ℕ) (xs : List ℕ) → begins (125 ∷ []) xs ≡ true → trivia.stop p xs ≡ stop_at 0 p
unfolding begins
brace_stop p [] e = clash (sym e)
brace_stop p (x ∷ xs) e = rw (eqb-true x 125 (and_left (eqb x 125) true e))

brace_none : (s : List ℕ) (p : ℕ) → stands (125 ∷ []) s p ≡ true → place (stopping s p) ≡ none
brace_none s p e = rw (brace_stop p (drop p s) e) (unexpected_none s p)

brace_past : (s : List ℕ) (p : ℕ) → stands (125 ∷ []) s p ≡ true → Ran s p (mark_to (125 ∷ []) [] s p) (p + 1)
brace_past s p e = record { is = rw e; low = omega arith; high = omega (arith, stands_inside (125 ∷ []) s p e) }

module _ {s : List ℕ} {p : ℕ} {g : Went} (sp : Moved s p false g) where
  pub after_no : ¬ (g.kind ≡ 0) → AfterBy s p (went 2 p)
  after_no n = one_neither (more_no sp n) n (closing_no sp n) n

  module _ (z : g.kind ≡ 0) where
    pub after_brace : stands (125 ∷ []) s g.at ≡ true → AfterBy s p (went 1 (g.at + 1))
    after_brace h =
        let c : Comes (then (stopping s g.at) (skip s true)) (went 4 g.at) = record { good = λ y. absurd (four y); bad = λ y. then_none (stopping s g.at) (skip s true) (brace_none s g.at h) } in
        one_second (more_stuck sp z c four) four (closing_here sp z h refl) refl

    module _ (h : stands (125 ∷ []) s g.at ≡ false) {x : Stopping} (st : Stopped s g.at x) where
      pub after_none : ¬ (x.how ≡ 1) → AfterBy s p (went 2 p)
      after_none n = let c = ended_not st n refl in one_neither (more_stuck sp z c four) four (closing_stuck sp z c h four) four

      module _ (e : x.how ≡ 1) {w : Went} (m : Moved s x.at true w) where
        pub after_gap : ¬ (w.kind ≡ 0) → AfterBy s p (went 2 p)
        after_gap n = let c = ended_past st e m in one_neither (more_stuck sp z c n) n (closing_stuck sp z c h n) n

        module _ (y : w.kind ≡ 0) where
          pub after_shut : stands (125 ∷ []) s w.at ≡ true → AfterBy s p (went 1 (w.at + 1))
          after_shut b =
              let c = ended_past st e m in
              one_second (more_brace sp z c y b refl) four (closing_past sp z c h y (brace_past s w.at b) (past_some (λ q. omega (arith, q)) refl)) refl

          pub after_more : stands (125 ∷ []) s w.at ≡ false → AfterBy s p (went 0 w.at)
          after_more b = one_first (more_here sp z (ended_past st e m) y b) y

-- ---- by its number

-- a move with numbers that are equal
pub gone_as : {s : List ℕ} {n n' : ℕ} {l l' : Bool} {a p : ℕ} {r : Went} → n ≡ n' → l ≡ l' → GoneAt s n l a p r → GoneAt s n' l' a p r
gone_as {s} {n} {n'} {l} {l'} {a} {p} {r} e f h = subst (λ (x : Bool). GoneAt s n' x a p r) f (subst (λ (x : ℕ). GoneAt s x l a p r) e h)

module _ {s : List ℕ} {left : ℕ} {lines : Bool} {a p : ℕ} {r : Went} where
  at : (n : ℕ) → a ≡ n → GoneAt s left lines n p r → GoneAt s left lines a p r
  at n e h = rw e h

  pub gone_minus : a ≡ 200 → Made s left lines (opens (45 ∷ []) []) p r → GoneAt s left lines a p r
  unfolding walk
  gone_minus e w = at 200 e (record { good = λ y σ v k. rw (w.good y σ v); bad = λ y σ v k. rw (w.bad y σ v) })

  pub gone_bang : a ≡ 201 → Comes (opening s left (33 ∷ []) ((33 ∷ 61 ∷ []) ∷ []) p) r → GoneAt s left lines a p r
  unfolding walk atom
  gone_bang e w = at 201 e (record { good = λ y σ v k. rw (w.good y); bad = λ y σ v k. then_none (opening s left (33 ∷ []) ((33 ∷ 61 ∷ []) ∷ []) p) to (w.bad y) })
