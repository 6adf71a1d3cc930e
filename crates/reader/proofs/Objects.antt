-- Objects and their items: what their moves come to.
use Prim.Native.Nat.{ℕ, ◌+◌}
use mathlib.Core.Path.{◌≡◌, refl, sym, ap, ◌∙◌}
use mathlib.Core.Bool.{Bool, true, false, ◌&&◌}
use mathlib.Core.List.{List, [], ◌∷◌}
use native.Mathlib.Omega.{arith}
use lib.ListN.{drop}
use lib.Dec.{eqb}
use borrow.Author.Tests.{eqb-true}
use Rattle.lexis.specs.Bytes.{byte_at, begins}
use Rattle.lexis.specs.Trivia.{stop}
use Rattle.lexis.specs.Keys.{among}
use Rattle.lexis.specs.RunLaws.{inside, next, clash}
use Rattle.grammar.specs.Kinds.{Unexpected, Duplicate}
use Rattle.grammar.specs.Moves.{Under, Step, to, no, then, when, unexpected, skip, stopping, stop_step, marks, keys_of, gap, mark, unless, ended, fresh, any, line, Move, walk, atom}
use Rattle.grammar.specs.Moves as moves
use Rattle.reader.specs.Items.{behind_item, sign_step}

-- ---- one step after another

no_to : {A : Type 0} {k p q : ℕ} → no k p ≡ to q → A
no_to e = absurd (let z : ◌≡◌ {A = ℕ} 0 1 = cc in omega arith)

then_no : (x : Step) (f g : ℕ → Step) {k q : ℕ} → then x f ≡ no k q → then x (λ r. then (f r) g) ≡ no k q
then_no (to p) f g e = rw e
then_no (no k q) f g e = e

then_to : (x : Step) (f g : ℕ → Step) {q : ℕ} → then x f ≡ to q → then x (λ r. then (f r) g) ≡ g q
then_to (to p) f g e = rw e
then_to (no k p) f g e = no_to e

then_end : (x : Step) (f : ℕ → Step) → ((q : ℕ) → f q ≡ to q) → then x f ≡ x
then_end (to p) f h = h p
then_end (no k p) f h = refl

-- ---- where an object's `}` stands

module _ (s : List ℕ) (q : ℕ) (h : eqb (byte_at s q) 125 ≡ true) where
  brace : byte_at s q ≡ 125
  brace = eqb-true (byte_at s q) 125 h

  brace_here : drop q s ≡ 125 ∷ drop (q + 1) s
  brace_here = next s q (inside (λ x. eqb x 125) s q refl h) ∙ ap (λ (x : ℕ). x ∷ drop (q + 1) s) brace

  -- it is nothing that any other rule takes, and ends no item
  brace_else : unexpected s q ≡ no Unexpected q
  brace_else = rw brace

  brace_stop : stopping s q ≡ no Unexpected q
  unfolding begins
  brace_stop = ap (λ (x : List ℕ). stop_step s q (stop q x).how (stop q x)) brace_here ∙ brace_else

-- ---- behind an item: either another or the end

-- the move to a further item, and to the `}`
abbrev pub further : Move
further = gap line ∷ moves.stop ∷ gap any ∷ unless 125 ∷ []

abbrev pub closer : Move
closer = gap line ∷ ended ∷ mark (125 ∷ []) [] ∷ []

module _ (s : List ℕ) (b : Under) (σ : ℕ) where
  goes : ℕ → Step
  goes c = walk s b σ (unless 125 ∷ []) c

  further_is : (e : ℕ) → walk s b σ further e ≡ then (skip s false e) (λ q. then (stopping s q) (λ r. then (skip s true r) goes))
  unfolding walk atom goes
  further_is e = refl

  closer_is : (e : ℕ) → walk s b σ closer e ≡ then (skip s false e) (λ q. then (when (eqb (byte_at s q) 125) (to q) (then (stopping s q) (skip s true))) (walk s b σ (mark (125 ∷ []) [] ∷ [])))
  unfolding walk atom
  closer_is e = refl

  goes_no : (c : ℕ) → eqb (byte_at s c) 125 ≡ true → goes c ≡ no Unexpected c
  unfolding walk atom goes
  goes_no c h = rw (h, brace_else s c h)

  goes_to : (c : ℕ) → eqb (byte_at s c) 125 ≡ false → goes c ≡ to c
  unfolding walk atom goes
  goes_to c h = rw h

  closes_to : (c : ℕ) → eqb (byte_at s c) 125 ≡ true → walk s b σ (mark (125 ∷ []) [] ∷ []) c ≡ to (c + 1)
  unfolding walk atom begins
  closes_to c h = rw (brace_here s c h)

  -- refused
  pub behind_no : (e : ℕ) {k q : ℕ} → behind_item s e ≡ no k q → (walk s b σ further e ≡ no k q) × (walk s b σ closer e ≡ no k q)
  behind_no e {k} {q} h = (further_is e ∙ go (skip s false e) h, closer_is e ∙ then_no (skip s false e) _ _ h)
    where
      turn : (r : ℕ) (t : Bool) → when t (to r) (then (stopping s r) (skip s true)) ≡ no k q → then (stopping s r) (λ x. then (skip s true x) goes) ≡ no k q
      turn r true h = no_to (sym h)
      turn r false h = then_no (stopping s r) (skip s true) goes h

      go : (x : Step) → then x (λ r. when (eqb (byte_at s r) 125) (to r) (then (stopping s r) (skip s true))) ≡ no k q → then x (λ r. then (stopping s r) (λ y. then (skip s true y) goes)) ≡ no k q
      go (to r) h = turn r (eqb (byte_at s r) 125) h
      go (no y z) h = h

  -- the `}`
  pub behind_last : (e : ℕ) {q : ℕ} → behind_item s e ≡ to q → eqb (byte_at s q) 125 ≡ true → (walk s b σ further e ≡ no Unexpected q) × (walk s b σ closer e ≡ to (q + 1))
  behind_last e {q} h last = (further_is e ∙ go (skip s false e) h, closer_is e ∙ then_to (skip s false e) _ _ h ∙ closes_to q last)
    where
      turn : (r : ℕ) (t : Bool) → eqb (byte_at s r) 125 ≡ t → when t (to r) (then (stopping s r) (skip s true)) ≡ to q → then (stopping s r) (λ x. then (skip s true x) goes) ≡ no Unexpected q
      turn r true f h = let z : r ≡ q = cc in rw (brace_stop s r f) (ap (no Unexpected) z)
      turn r false f h = then_to (stopping s r) (skip s true) goes h ∙ goes_no q last

      go : (x : Step) → then x (λ r. when (eqb (byte_at s r) 125) (to r) (then (stopping s r) (skip s true))) ≡ to q → then x (λ r. then (stopping s r) (λ y. then (skip s true y) goes)) ≡ no Unexpected q
      go (to r) h = turn r (eqb (byte_at s r) 125) refl h
      go (no y z) h = no_to h

  -- another item
  pub behind_more : (e : ℕ) {q : ℕ} → behind_item s e ≡ to q → eqb (byte_at s q) 125 ≡ false → walk s b σ further e ≡ to q
  behind_more e {q} h more = further_is e ∙ go (skip s false e) h
    where
      turn : (r : ℕ) (t : Bool) → eqb (byte_at s r) 125 ≡ t → when t (to r) (then (stopping s r) (skip s true)) ≡ to q → then (stopping s r) (λ x. then (skip s true x) goes) ≡ to q
      turn r true f h = let z : r ≡ q = cc in clash (sym f ∙ ap (λ (x : ℕ). eqb (byte_at s x) 125) z ∙ more)
      turn r false f h = then_to (stopping s r) (skip s true) goes h ∙ goes_to q more

      go : (x : Step) → then x (λ r. when (eqb (byte_at s r) 125) (to r) (then (stopping s r) (skip s true))) ≡ to q → then x (λ r. then (stopping s r) (λ y. then (skip s true y) goes)) ≡ to q
      go (to r) h = turn r (eqb (byte_at s r) 125) refl h
      go (no y z) h = no_to h

  -- ---- the sign after a key

  pub sign_walk : (w : List ℕ) (longer : List (List ℕ)) (met : Bool) (e : ℕ) → among s (keys_of b.want) σ ≡ met → walk s b σ (gap line ∷ fresh ∷ mark w longer ∷ []) e ≡ sign_step w longer met s σ e
  unfolding walk atom
  sign_walk w longer met e h = go (skip s false e)
    where
      go : (x : Step) → then x (walk s b σ (fresh ∷ mark w longer ∷ [])) ≡ then x (λ q. then (when (eqb (moves.behind_key s σ) q && met) (no Duplicate σ) (to q)) (marks s w longer))
      go (to q) = rw h (turn (when (eqb (moves.behind_key s σ) q && met) (no Duplicate σ) (to q)))
        where
          turn : (y : Step) → then y (walk s b σ (mark w longer ∷ [])) ≡ then y (marks s w longer)
          turn (to r) = then_end (marks s w longer r) (walk s b σ []) (λ x. refl)
          turn (no k r) = refl
      go (no k q) = refl
