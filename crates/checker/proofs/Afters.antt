-- Behind an item: what ends it, and what stands there.
use Prim.Native.Nat.{ℕ, ◌+◌}
use mathlib.Core.Path.{◌≡◌, refl, sym, subst, ◌∙◌}
use mathlib.Core.List.{List, [], ◌∷◌}
use mathlib.Core.Bool.{true, false}
use native.Mathlib.Omega.{arith}
use lib.ListN.{drop}
use lib.Dec.{eqb}
use borrow.Author.Tests.{eqb-true}
use Rattle.lexis.specs.Bytes.{byte_at, begins, stands}
use Rattle.lexis.specs.Trivia.{gap_to, stop_at}
use Rattle.lexis.specs.Trivia as trivia
use Rattle.lexis.specs.RunLaws.{clash, and_left, stands_one, stands_two, stands_inside}
use Rattle.grammar.specs.Said.{Went, went, Moved}
use Rattle.checker.specs.LeafMore.{AfterBy, EndedTo}
use Rattle.checker.proofs.Goings.{after_gap, after_shut, after_more}
use Rattle.checker.proofs.Lones.{gap_here}

-- ---- from what ends it on

module _ {s : List ℕ} {p q : ℕ} (x : EndedTo s p q) {w : Went} (m : Moved s q true w) where
  behind : Moved s x.stop.at true w
  behind = subst (λ (o : ℕ). Moved s o true w) (sym x.at) m

  pub over_gap : ¬ (w.kind ≡ 0) → AfterBy s p (went 2 p)
  over_gap n = after_gap x.moved x.made x.opened x.stopped x.ends behind n

  module _ (y : w.kind ≡ 0) where
    pub over_shut : stands (125 ∷ []) s w.at ≡ true → AfterBy s p (went 1 (w.at + 1))
    over_shut b = after_shut x.moved x.made x.opened x.stopped x.ends behind y b

    pub over_more : stands (125 ∷ []) s w.at ≡ false → AfterBy s p (went 0 w.at)
    over_more b = after_more x.moved x.made x.opened x.stopped x.ends behind y b

-- ---- a line's end

line_stop : (p : ℕ) (xs : List ℕ) → begins (10 ∷ []) xs ≡ true → trivia.stop p xs ≡ stop_at 1 (p + 1)
unfolding begins
line_stop p [] e = clash (sym e)
line_stop p (x ∷ xs) e = rw (eqb-true x 10 (and_left (eqb x 10) true e))

module _ (s : List ℕ) (p : ℕ) (h : stands (10 ∷ []) s p ≡ true) where
  feed : byte_at s p ≡ 10
  feed = eqb-true (byte_at s p) 10 (sym (stands_one 10 s p refl) ∙ h)

  uncommented : stands (47 ∷ 42 ∷ []) s p ≡ false
  uncommented = stands_two 47 42 s p refl refl ∙ rw feed

  still : gap_to false s p ≡ record { at = p; unclosed = false }
  still = gap_here s p (rw feed) uncommented

  pub line_ended : EndedTo s p (p + 1)
  line_ended = record {
    gap = went 0 p;
    moved = record { is = rw still; good = λ z. rw still; bad = λ n. absurd (n refl); low = omega arith; high = omega arith };
    made = refl;
    opened = stands_one 125 s p refl ∙ rw feed;
    stop = stop_at 1 (p + 1);
    stopped = record { is = sym (line_stop p (drop p s) h); low = omega arith; high = omega (arith, stands_inside (10 ∷ []) s p h) };
    ends = refl;
    at = refl;
  }
