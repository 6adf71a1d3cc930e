-- Moves, by the atoms that they begin with.
use Prim.Native.Nat.{ℕ, ◌+◌, ◌≤◌}
use mathlib.Core.Path.{◌≡◌, refl, sym, ap, subst, ◌∙◌}
use mathlib.Core.List.{List, [], ◌∷◌}
use mathlib.Core.Bool.{Bool, true, false, cond, ◌&&◌}
use mathlib.Core.Option.{none, some}
use native.Mathlib.Omega.{arith}
use lib.ListN.{length}
use lib.Dec.{eqb}
use borrow.Author.Tests.{eqb-true, eqb-false, eq-eqb, ne_eqb}
use Rattle.lexis.specs.Bytes.{byte_at, stands, Ran}
use Rattle.lexis.specs.Operator.{mark_to}
use Rattle.lexis.specs.Word.{is_word, word_to, for_to}
use Rattle.lexis.specs.RunLaws.{stands_one, stands_cons}
use Rattle.grammar.specs.Moves.{Under, Step, to, no, then, place, Atom, gap, mark, opens, any, here, skip, when, unexpected, token, word, ahead, for, parts, is_part, unless, comma, call, refused, marks, opening, atom, Move, walk}
use Rattle.grammar.specs.Said.{Went, Moved}
use Rattle.checker.proofs.Goings.{unexpected_none, then_none, past_none, past_some, mark_comes, level_none, level_some}

-- the move m goes from p to q; it can't be made
pub record To (s : List ℕ) (b : Under) (σ : ℕ) (m : Move) (p q : ℕ) : Type 0 where
  pub is : place (walk s b σ m p) ≡ some q

pub record Not (s : List ℕ) (b : Under) (σ : ℕ) (m : Move) (p : ℕ) : Type 0 where
  pub is : place (walk s b σ m p) ≡ none

as_mode : {s : List ℕ} {p : ℕ} {a b : Bool} {g : Went} → a ≡ b → Moved s p a g → Moved s p b g
as_mode {s} {p} {a} {b} {g} e h = subst (λ (o : Bool). Moved s p o g) e h

marked : {s : List ℕ} (c : ℕ) (cs : List ℕ) {p e : ℕ} → Ran s p (mark_to (c ∷ cs) [] s p) e → ¬ (e ≡ p) → marks s (c ∷ cs) [] p ≡ to e
marked c cs h n = (mark_comes (c ∷ cs) [] (omega arith) h (past_some n refl)).good refl

unmarked : {s : List ℕ} (c : ℕ) (cs : List ℕ) {p e : ℕ} → Ran s p (mark_to (c ∷ cs) [] s p) e → e ≡ p → place (marks s (c ∷ cs) [] p) ≡ none
unmarked c cs h z = (mark_comes (c ∷ cs) [] (omega arith) h (past_none z refl)).bad (λ y. omega (arith, y))

-- a word, by where it ends
worded : (s : List ℕ) (b : Bool) (n : ℕ) {p e : ℕ} → e ≡ cond b (p + n) p → ¬ (e ≡ p) → when b (to (p + n)) (unexpected s p) ≡ to e
worded s true n h z = ap to (sym h)
worded s false n h z = absurd (z h)

before : (s : List ℕ) (b : Bool) (n : ℕ) {p e : ℕ} → e ≡ cond b (p + n) p → ¬ (e ≡ p) → when b (to p) (unexpected s p) ≡ to p
before s true n h z = refl
before s false n h z = absurd (z h)

unworded : (s : List ℕ) (b : Bool) (n q : ℕ) {p e : ℕ} → 1 ≤ n → e ≡ cond b (p + n) p → e ≡ p → place (when b (to q) (unexpected s p)) ≡ none
unworded s true n q l h z = absurd (omega (arith, l, h, z))
unworded s false n q {p} l h z = unexpected_none s p

pub to_end : {s : List ℕ} {b : Under} {σ p : ℕ} → To s b σ [] p p
unfolding walk
to_end = record { is = refl }

module _ {s : List ℕ} {b : Under} {σ p : ℕ} {m : Move} where
  -- an atom that is made, and then the others are, or not; and one that is not
  on : {q e : ℕ} (a : Atom) → atom s b σ a p ≡ to e → To s b σ m e q → To s b σ (a ∷ m) p q
  unfolding walk
  on a e h = record { is = ap (λ (x : Step). place (then x (walk s b σ m))) e ∙ h.is }

  off : {e : ℕ} (a : Atom) → atom s b σ a p ≡ to e → Not s b σ m e → Not s b σ (a ∷ m) p
  unfolding walk
  off a e h = record { is = ap (λ (x : Step). place (then x (walk s b σ m))) e ∙ h.is }

  stuck : (a : Atom) → place (atom s b σ a p) ≡ none → Not s b σ (a ∷ m) p
  unfolding walk
  stuck a e = record { is = then_none (atom s b σ a p) (walk s b σ m) e }

  -- any trivia
  module _ {g : Went} (h : Moved s p true g) where
    pub to_any : {q : ℕ} → g.kind ≡ 0 → To s b σ m g.at q → To s b σ (gap any ∷ m) p q
    unfolding atom
    to_any z x = on (gap any) (h.good z) x

    pub past_any : g.kind ≡ 0 → Not s b σ m g.at → Not s b σ (gap any ∷ m) p
    unfolding atom
    past_any z x = off (gap any) (h.good z) x

    pub not_any : ¬ (g.kind ≡ 0) → Not s b σ (gap any ∷ m) p
    unfolding atom
    not_any n = stuck (gap any) (ap place (h.bad n))

  -- that of the mode
  module _ {g : Went} {lines : Bool} (e : lines ≡ b.lines) (h : Moved s p lines g) where
    pub to_here : {q : ℕ} → g.kind ≡ 0 → To s b σ m g.at q → To s b σ (gap here ∷ m) p q
    unfolding atom
    to_here z x = on (gap here) ((as_mode e h).good z) x

    pub past_here : g.kind ≡ 0 → Not s b σ m g.at → Not s b σ (gap here ∷ m) p
    unfolding atom
    past_here z x = off (gap here) ((as_mode e h).good z) x

    pub not_here : ¬ (g.kind ≡ 0) → Not s b σ (gap here ∷ m) p
    unfolding atom
    not_here n = stuck (gap here) (ap place ((as_mode e h).bad n))

  -- some bytes
  module _ {c : ℕ} {cs : List ℕ} {e : ℕ} (h : Ran s p (mark_to (c ∷ cs) [] s p) e) where
    pub to_mark : {q : ℕ} → ¬ (e ≡ p) → To s b σ m e q → To s b σ (mark (c ∷ cs) [] ∷ m) p q
    unfolding atom
    to_mark n x = on (mark (c ∷ cs) []) (marked c cs h n) x

    pub past_mark : ¬ (e ≡ p) → Not s b σ m e → Not s b σ (mark (c ∷ cs) [] ∷ m) p
    unfolding atom
    past_mark n x = off (mark (c ∷ cs) []) (marked c cs h n) x

    pub not_mark : e ≡ p → Not s b σ (mark (c ∷ cs) [] ∷ m) p
    unfolding atom
    not_mark z = stuck (mark (c ∷ cs) []) (unmarked c cs h z)

    -- that open a level
    pub to_open : {q : ℕ} → ¬ (b.left ≡ 0) → ¬ (e ≡ p) → To s b σ m e q → To s b σ (opens (c ∷ cs) [] ∷ m) p q
    unfolding atom
    to_open n z x = on (opens (c ∷ cs) []) (level_some s b.left (c ∷ cs) [] p n ∙ marked c cs h z) x

    pub not_open : ¬ (b.left ≡ 0) → e ≡ p → Not s b σ (opens (c ∷ cs) [] ∷ m) p
    unfolding atom
    not_open n z = stuck (opens (c ∷ cs) []) (ap place (level_some s b.left (c ∷ cs) [] p n) ∙ unmarked c cs h z)

  pub deep_open : {w : List ℕ} → b.left ≡ 0 → Not s b σ (opens w [] ∷ m) p
  unfolding atom
  deep_open {w} z = stuck (opens w []) (rw z (level_none s w [] p))

  -- a part of a traversal
  pub to_part : {q : ℕ} → is_part s p ≡ true → To s b σ m p q → To s b σ (parts ∷ m) p q
  unfolding atom
  to_part e x = on parts (rw e) x

  pub not_part : is_part s p ≡ false → Not s b σ (parts ∷ m) p
  unfolding atom
  not_part e = stuck parts (rw e (unexpected_none s p))

  -- any trivia, that ends at a place
  pub to_gap : {e q : ℕ} → skip s true p ≡ to e → To s b σ m e q → To s b σ (gap any ∷ m) p q
  unfolding atom
  to_gap h x = on (gap any) h x

  pub past_gap : {e : ℕ} → skip s true p ≡ to e → Not s b σ m e → Not s b σ (gap any ∷ m) p
  unfolding atom
  past_gap h x = off (gap any) h x

  -- one byte, by what it is
  module _ {c : ℕ} (l : c ≤ 255) where
    pub to_byte : {q : ℕ} → byte_at s p ≡ c → To s b σ m (p + 1) q → To s b σ (mark (c ∷ []) [] ∷ m) p q
    unfolding atom
    to_byte e x = let z : stands (c ∷ []) s p ≡ true = stands_one c s p (ne_eqb 256 c (λ e. omega arith)) ∙ eq-eqb (byte_at s p) c e in on (mark (c ∷ []) []) (rw z) x

    pub past_byte : byte_at s p ≡ c → Not s b σ m (p + 1) → Not s b σ (mark (c ∷ []) [] ∷ m) p
    unfolding atom
    past_byte e x = let z : stands (c ∷ []) s p ≡ true = stands_one c s p (ne_eqb 256 c (λ e. omega arith)) ∙ eq-eqb (byte_at s p) c e in off (mark (c ∷ []) []) (rw z) x

    pub not_byte : {cs : List ℕ} → ¬ (byte_at s p ≡ c) → Not s b σ (mark (c ∷ cs) [] ∷ m) p
    unfolding atom
    not_byte {cs} n = let z : stands (c ∷ cs) s p ≡ false = stands_cons c cs s p (ne_eqb 256 c (λ e. omega arith)) ∙ rw (ne_eqb (byte_at s p) c n) in stuck (mark (c ∷ cs) []) (rw z (unexpected_none s p))

  -- any but one
  pub to_unless : {c q : ℕ} → ¬ (byte_at s p ≡ c) → To s b σ m p q → To s b σ (unless c ∷ m) p q
  unfolding atom
  to_unless {c} n x = on (unless c) (rw (ne_eqb (byte_at s p) c n)) x

  pub not_unless : {c : ℕ} → byte_at s p ≡ c → Not s b σ (unless c ∷ m) p
  unfolding atom
  not_unless {c} e = stuck (unless c) (rw (eq-eqb (byte_at s p) c e) (unexpected_none s p))

  -- a comma and any trivia, or nothing
  pub to_bare : {q : ℕ} → ¬ (byte_at s p ≡ 44) → To s b σ m p q → To s b σ (comma ∷ m) p q
  unfolding atom
  to_bare n x = on comma (rw (ne_eqb (byte_at s p) 44 n)) x

  pub past_bare : ¬ (byte_at s p ≡ 44) → Not s b σ m p → Not s b σ (comma ∷ m) p
  unfolding atom
  past_bare n x = off comma (rw (ne_eqb (byte_at s p) 44 n)) x

  module _ (e : byte_at s p ≡ 44) {g : Went} (h : Moved s (p + 1) true g) where
    pub to_comma : {q : ℕ} → g.kind ≡ 0 → To s b σ m g.at q → To s b σ (comma ∷ m) p q
    unfolding atom
    to_comma z x = on comma (rw (eq-eqb (byte_at s p) 44 e) (h.good z)) x

    pub not_comma : ¬ (g.kind ≡ 0) → Not s b σ (comma ∷ m) p
    unfolding atom
    not_comma n = stuck comma (rw (eq-eqb (byte_at s p) 44 e) (ap place (h.bad n)))

  -- the `(` of a call
  pub not_call : stands (58 ∷ 58 ∷ []) s p ≡ true → Not s b σ (call ∷ m) p
  unfolding atom
  not_call e = stuck call (rw e (never (skip s b.lines (p + 2))))
    where
      never : (x : Step) → place (refused x) ≡ none
      never (to q) = refl
      never (no k q) = refl

  -- `for`
  module _ {e : ℕ} (h : Ran s p (for_to s p) e) where
    pub to_for : {q : ℕ} → ¬ (e ≡ p) → To s b σ m e q → To s b σ (for ∷ m) p q
    unfolding atom
    to_for n x = on for (ap (token s p) (sym h.is) ∙ rw (ne_eqb e p n)) x

    pub not_for : e ≡ p → Not s b σ (for ∷ m) p
    unfolding atom
    not_for z = stuck for (ap (λ (o : ℕ). place (token s p o)) (sym h.is) ∙ rw (eq-eqb e p z) (unexpected_none s p))

  -- a word; and one that it stays before
  module _ {c : ℕ} {cs : List ℕ} {e : ℕ} (h : Ran s p (word_to (c ∷ cs) s p) e) where
    pub to_word : {q : ℕ} → ¬ (e ≡ p) → To s b σ m e q → To s b σ (word (c ∷ cs) ∷ m) p q
    unfolding atom
    to_word n x = on (word (c ∷ cs)) (worded s (is_word (c ∷ cs) s p) (length (c ∷ cs)) h.is n) x

    pub not_word : e ≡ p → Not s b σ (word (c ∷ cs) ∷ m) p
    unfolding atom
    not_word z = stuck (word (c ∷ cs)) (unworded s (is_word (c ∷ cs) s p) (length (c ∷ cs)) (p + length (c ∷ cs)) (omega arith) h.is z)

    pub to_ahead : {q : ℕ} → ¬ (e ≡ p) → To s b σ m p q → To s b σ (ahead (c ∷ cs) ∷ m) p q
    unfolding atom
    to_ahead n x = on (ahead (c ∷ cs)) (before s (is_word (c ∷ cs) s p) (length (c ∷ cs)) h.is n) x

    pub not_ahead : e ≡ p → Not s b σ (ahead (c ∷ cs) ∷ m) p
    unfolding atom
    not_ahead z = stuck (ahead (c ∷ cs)) (unworded s (is_word (c ∷ cs) s p) (length (c ∷ cs)) p (omega arith) h.is z)

  -- nothing behind it can be made
  pub blocked : (a : Atom) → ((q : ℕ) → Not s b σ m q) → Not s b σ (a ∷ m) p
  unfolding walk
  blocked a f = record { is = go (atom s b σ a p) }
    where
      go : (x : Step) → place (then x (walk s b σ m)) ≡ none
      go (to q) = (f q).is
      go (no k q) = refl

-- which byte stands, by where a mark of one byte ends
module _ {s : List ℕ} {c p e : ℕ} (l : c ≤ 255) (h : Ran s p (mark_to (c ∷ []) [] s p) e) where
  by_byte : stands (c ∷ []) s p ≡ eqb (byte_at s p) c
  by_byte = stands_one c s p (ne_eqb 256 c (λ e. omega arith))

  pub byte_is : ¬ (e ≡ p) → byte_at s p ≡ c
  byte_is n = go (stands (c ∷ []) s p) refl h.is
    where
      go : (b : Bool) → stands (c ∷ []) s p ≡ b → e ≡ cond (b && true) (p + 1) p → byte_at s p ≡ c
      go true z a = eqb-true (byte_at s p) c (sym by_byte ∙ z)
      go false z a = absurd (n a)

  pub byte_not : e ≡ p → ¬ (byte_at s p ≡ c)
  byte_not z = go (stands (c ∷ []) s p) refl h.is
    where
      go : (b : Bool) → stands (c ∷ []) s p ≡ b → e ≡ cond (b && true) (p + 1) p → ¬ (byte_at s p ≡ c)
      go true y a = absurd (omega (arith, a, z))
      go false y a = eqb-false (byte_at s p) c (sym by_byte ∙ y)

-- where levels are left, a mark that opens one is as any other
pub open_same : (s : List ℕ) (b : Under) (σ : ℕ) (a : Atom) (w : List ℕ) (p : ℕ) → ¬ (b.left ≡ 0) → place (walk s b σ (a ∷ mark w [] ∷ []) p) ≡ place (walk s b σ (a ∷ opens w [] ∷ []) p)
unfolding walk atom
open_same s b σ a w p n = go (atom s b σ a p)
  where
    go : (x : Step) → place (then x (λ q. then (marks s w [] q) to)) ≡ place (then x (λ q. then (opening s b.left w [] q) to))
    go (to q) = ap (λ (y : Step). place (then y to)) (sym (level_some s b.left w [] q n))
    go (no k q) = refl

-- where no `::` stands behind the trivia, the `(` of a call is as any other opener
pub call_same : (s : List ℕ) (b : Under) (σ : ℕ) {p : ℕ} {lines : Bool} {g : Went} → lines ≡ b.lines → Moved s p lines g → g.kind ≡ 0 → stands (58 ∷ 58 ∷ []) s g.at ≡ false → place (walk s b σ (gap here ∷ call ∷ []) p) ≡ place (walk s b σ (opens (40 ∷ []) [] ∷ []) g.at)
unfolding walk atom
call_same s b σ {p} {lines} {g} e h z n = rw ((as_mode e h).good z, n)
