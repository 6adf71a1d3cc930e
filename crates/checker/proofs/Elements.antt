-- Elements with commas between them, up to a closer: one after the other.
use Prim.Native.Nat.{ℕ, ◌+◌, ◌-◌, ◌*◌, ◌/◌, ◌≤◌}
use mathlib.Core.Path.{◌≡◌, sym, subst, ◌∙◌}
use mathlib.Core.Bool.{Bool, true, false}
use mathlib.Core.List.{List, [], ◌∷◌}
use native.Mathlib.Omega.{arith}
use lib.ListN.{get_or}
use lib.Dec.{eqb}
use borrow.Author.Tests.{eq-eqb, ne_eqb}
use Rattle.lexis.specs.Bytes.{byte_at, Ran}
use Rattle.lexis.specs.Operator.{mark_to}
use Rattle.engine.specs.Layout.{fin, move, rep}
use Rattle.grammar.specs.Moves.{to, skip}
use Rattle.grammar.specs.Layouts.{inside, Layout, past, between, closing}
use Rattle.grammar.specs.Said.{Went, Moved}
use Rattle.checker.specs.Rows.{row_at}
use Rattle.checker.specs.Lay.{KidBy, EndsAt}
use Rattle.checker.specs.Rest.{RestBy}
use Rattle.checker.specs.Elements.{Closer, After, LastBy, tail_of, tail_lay, elements_lay, listed_lay}
use Rattle.checker.proofs.Atoms.{Not, to_end, to_any, past_any, not_any, to_gap, past_gap, to_mark, not_mark, to_byte, past_byte, not_byte, to_unless, not_unless, to_bare, past_bare, to_comma, not_comma, byte_is, byte_not}
use Rattle.checker.proofs.Rests.{att, rest_stop, rest_move, rest_fork, rest_other, rest_again, rest_done, rest_fin}
use Rattle.checker.proofs.Seats.{seat_inside}
use Rattle.checker.proofs.Enclosures.{step_on}
use Rattle.checker.proofs.Onwards.{Onward, direct_next, onward_on}

-- ---- behind the last element

-- where no `...` can be made, and in an array
module _ {s t : List ℕ} {i v : ℕ} {m D : List ℕ} {c j q : ℕ} {r : Bool} where
  pub tail_plain : (b : Bool) → Not s (att s t i v m) (row_at t i).start (past (46 ∷ 46 ∷ 46 ∷ [])) q → RestBy s t i v m D D (move (closing c) (fin 0)) j q r → RestBy s t i v m D D (tail_of b c) j q r
  tail_plain true n o = rest_other s t i v m n o
  tail_plain false n o = o

module _ {s t : List ℕ} {i c j at : ℕ} (k : Closer c) {b : ℕ} (c₁ : Ran s at (mark_to (c ∷ []) [] s at) b) where
  pub last_closer : {r : Bool} → ¬ (b ≡ at) → EndsAt t i j b 0 r → LastBy s t i c j at r
  last_closer {r} n o =
      let e : byte_at s at ≡ c = byte_is k.0 c₁ n in
      record {
        tail = λ q h. record {
          rest = λ v m D.
              tail_plain (eqb c 41) (past_gap h (not_byte (omega arith) (λ z. k.2 (sym e ∙ z))))
              (rest_move s t i v m (to_gap h (to_bare (λ z. k.1 (sym e ∙ z)) (to_mark c₁ n to_end))) (rest_fin s t i v m r o));
        };
      }

  module _ (a : After s at) (n : b ≡ at) where
    closing_no : {v : ℕ} {m D : List ℕ} {q : ℕ} → skip s true q ≡ to at → RestBy s t i v m D D (move (closing c) (fin 0)) j q false
    closing_no {v} {m} h = rest_stop s t i v m (past_gap h (past_bare a (not_mark c₁ n)))

    pub last_no : ¬ (c ≡ 41) → LastBy s t i c j at false
    last_no z = record { tail = λ q h. record { rest = λ v m D. subst (λ (o : Bool). RestBy s t i v m D D (tail_of o c) j q false) (sym (ne_eqb c 41 z)) (closing_no h) } }

    module _ {d : ℕ} (f : Ran s at (mark_to (46 ∷ 46 ∷ 46 ∷ []) [] s at) d) where
      pub dots_no : d ≡ at → LastBy s t i c j at false
      dots_no z = record { tail = λ q h. record { rest = λ v m D. tail_plain (eqb c 41) (past_gap h (not_mark f z)) (closing_no h) } }

      module _ (z : ¬ (d ≡ at)) (is : c ≡ 41) {g : Went} (w : Moved s d true g) where
        dotted : {v : ℕ} {m D : List ℕ} {q : ℕ} {r : Bool} → skip s true q ≡ to at → RestBy s t i v m D D (move (past (c ∷ [])) (fin 1)) j d r → RestBy s t i v m D D (tail_lay c) j q r
        dotted {v} {m} {D} {q} {r} h o = subst (λ (b : Bool). RestBy s t i v m D D (tail_of b c) j q r) (sym (eq-eqb c 41 is)) (rest_fork s t i v m (to_gap h (to_mark f z to_end)) o)

        pub dots_gap_no : ¬ (g.kind ≡ 0) → LastBy s t i c j at false
        dots_gap_no y = record { tail = λ q h. record { rest = λ v m D. dotted h (rest_stop s t i v m (not_any w y)) } }

        module _ (y : g.kind ≡ 0) {e : ℕ} (c₂ : Ran s g.at (mark_to (c ∷ []) [] s g.at) e) where
          pub dots_open : e ≡ g.at → LastBy s t i c j at false
          dots_open o = record { tail = λ q h. record { rest = λ v m D. dotted h (rest_stop s t i v m (past_any w y (not_mark c₂ o))) } }

          pub dots_by : {r : Bool} → ¬ (e ≡ g.at) → EndsAt t i j e 1 r → LastBy s t i c j at r
          dots_by {r} o ends = record { tail = λ q h. record { rest = λ v m D. dotted h (rest_move s t i v m (to_any w y (to_mark c₂ o to_end)) (rest_fin s t i v m r ends)) } }

-- ---- an element, and what stands behind it

module _ {s t : List ℕ} {i v : ℕ} {m D₀ : List ℕ} {l₀ : Layout} {j₀ p₀ : ℕ} {D : List ℕ} {c j p : ℕ} (w : Onward s t i v m D₀ l₀ j₀ p₀ D (elements_lay c) j p) {D₁ : List ℕ} {u : ℕ} {b : Bool} (deep : 2 ≤ v) (pack : u ≡ v / 2 * 2 - 1) (k : KidBy t i D D₁ j p 0 0 u b) where
  pub element_no : b ≡ false → RestBy s t i v m D₀ D₁ l₀ j₀ p₀ false
  element_no z = w.on D₁ false ((seat_inside deep pack k).no z m (rep (between c) inside (tail_lay c)))

  module _ (z : b ≡ true) {n q : ℕ} (f : n ≡ get_or m j 0) (a : q ≡ (row_at t j).end) {g : Went} (h : Moved s q true g) where
    behind : {D' : List ℕ} {r : Bool} → RestBy s t i v m D₁ D' (rep (between c) inside (tail_lay c)) n q r → RestBy s t i v m D D' (elements_lay c) j p r
    behind o = step_on (seat_inside deep pack k) z w.direct f a o

    ended : {r : Bool} → Not s (att s t i v m) (row_at t i).start (between c) q → RestBy s t i v m D₁ D₁ (tail_lay c) n q r → RestBy s t i v m D₀ D₁ l₀ j₀ p₀ r
    ended {r} x o = w.on D₁ r (behind (rest_done s t i v m x o))

    pub element_gap_no : ¬ (g.kind ≡ 0) → RestBy s t i v m D₀ D₁ l₀ j₀ p₀ false
    element_gap_no y = ended (not_any h y) (tail_plain (eqb c 41) (not_any h y) (rest_stop s t i v m (not_any h y)))

    module _ (y : g.kind ≡ 0) where
      pub element_last : {r : Bool} → ¬ (byte_at s g.at ≡ 44) → LastBy s t i c n g.at r → RestBy s t i v m D₀ D₁ l₀ j₀ p₀ r
      element_last x o = ended (past_any h y (not_byte (omega arith) x)) ((o.tail q (h.good y)).rest v m D₁)

      module _ (e : byte_at s g.at ≡ 44) {x : Went} (y' : Moved s (g.at + 1) true x) where
        no_dots : Not s (att s t i v m) (row_at t i).start (past (46 ∷ 46 ∷ 46 ∷ [])) q
        no_dots = past_any h y (not_byte (omega arith) (λ o. omega (arith, o, e)))

        pub comma_gap_no : ¬ (x.kind ≡ 0) → RestBy s t i v m D₀ D₁ l₀ j₀ p₀ false
        comma_gap_no o = ended (past_any h y (past_byte (omega arith) e (not_any y' o))) (tail_plain (eqb c 41) no_dots (rest_stop s t i v m (past_any h y (not_comma e y' o))))

        module _ (cl : Closer c) (o : x.kind ≡ 0) {d : ℕ} (c₁ : Ran s x.at (mark_to (c ∷ []) [] s x.at) d) where
          pub comma_last : {r : Bool} → ¬ (d ≡ x.at) → EndsAt t i n d 0 r → RestBy s t i v m D₀ D₁ l₀ j₀ p₀ r
          comma_last {r} y'' ends = ended (past_any h y (past_byte (omega arith) e (past_any y' o (not_unless (byte_is cl.0 c₁ y''))))) (tail_plain (eqb c 41) no_dots (rest_move s t i v m (to_any h y (to_comma e y' o (to_mark c₁ y'' to_end))) (rest_fin s t i v m r ends)))

          pub comma_next : d ≡ x.at → Onward s t i v m D₀ l₀ j₀ p₀ D₁ (elements_lay c) n x.at
          comma_next y'' = onward_on w (direct_next w.direct (k.inside z) k.long f) k.long (λ D' r r'. behind (rest_again s t i v m (to_any h y (to_byte (omega arith) e (to_any y' o (to_unless (byte_not cl.0 c₁ y'') to_end)))) r'))

-- ---- behind the opener

module _ {s t : List ℕ} {i v : ℕ} {m D : List ℕ} {c j p : ℕ} {g : Went} (h : Moved s p true g) where
  pub listed_gap_no : ¬ (g.kind ≡ 0) → RestBy s t i v m D D (listed_lay c) j p false
  listed_gap_no n = rest_other s t i v m (not_any h n) (rest_stop s t i v m (not_any h n))

  module _ (z : g.kind ≡ 0) {e : ℕ} (f : Ran s g.at (mark_to (c ∷ []) [] s g.at) e) where
    pub listed_none : {r : Bool} → ¬ (e ≡ g.at) → EndsAt t i j e 0 r → RestBy s t i v m D D (listed_lay c) j p r
    listed_none {r} n o = rest_fork s t i v m (to_any h z (to_mark f n to_end)) (rest_fin s t i v m r o)

    pub listed_some : {D' : List ℕ} {r : Bool} → e ≡ g.at → RestBy s t i v m D D' (elements_lay c) j g.at r → RestBy s t i v m D D' (listed_lay c) j p r
    listed_some n o = rest_other s t i v m (past_any h z (not_mark f n)) (rest_move s t i v m (to_any h z to_end) o)
