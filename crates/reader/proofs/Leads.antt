-- What stands first where a quote is told by its byte alone, and what its first run says of it.
use Prim.Native.Nat.{ℕ, ◌+◌}
use mathlib.Core.Path.{◌≡◌, refl, sym, ap, ◌∙◌}
use mathlib.Core.Bool.{Bool, true, false, cond, ◌||◌}
use mathlib.Core.Option.{some}
use mathlib.Core.List.{List, [], ◌∷◌}
use native.Mathlib.Omega.{arith}
use lib.Dec.{eqb}
use borrow.Author.Tests.{eqb-true, eqb-false, eq-eqb}
use Rattle.lexis.specs.declared.string.Why.{Why}
use Rattle.lexis.specs.declared.string.Why.TheVariants as why
use Rattle.lexis.specs.declared.string.Run.{Run}
use Rattle.lexis.specs.Bytes.{byte_at}
use Rattle.lexis.specs.String.{quoted, RunHere}
use Rattle.lexis.specs.RunLaws.{stands_one, stands_two, stands_cons}
use Rattle.engine.specs.Base.{choose}
use Rattle.grammar.specs.Kinds.{tight_of}
use Rattle.grammar.specs.Moves.{an_expression}
use Rattle.grammar.specs.Hcl.{under, pick_at, is_template, is_broken}
use Rattle.grammar.specs.Alone.{head_of, HeadAt}
use Rattle.reader.specs.Said.{Step, Firsts, Heads, Said, Primary, LeadAt}
use Rattle.reader.proofs.Terms.{term_picked, quote_by}
use Rattle.reader.proofs.Firsts.{said_as, head_first, first_head}

-- ---- a quote's byte

chosen_quote : (t : Bool) → choose ((t, 7) ∷ (true, 6) ∷ []) ≡ some (cond t 7 6)
chosen_quote true = refl
chosen_quote false = refl

module _ (s : List ℕ) (left : ℕ) (lines : Bool) (p : ℕ) (q : byte_at s p ≡ 34) where
  pub pick_quote : pick_at s (under left lines an_expression) p ≡ some (cond (is_template s p) 7 6)
  unfolding pick_at
  pick_quote =
      rw (
        stands_cons 110 (117 ∷ 108 ∷ 108 ∷ []) s p refl,
        stands_cons 116 (114 ∷ 117 ∷ 101 ∷ []) s p refl,
        stands_cons 102 (97 ∷ 108 ∷ 115 ∷ 101 ∷ []) s p refl,
        stands_one 33 s p refl,
        stands_two 33 61 s p refl refl,
        stands_two 60 60 s p refl refl,
        q,
      )
      (chosen_quote (is_template s p))

  firm : (t : Bool) → tight_of (cond t 7 6) ≡ 9
  firm true = refl
  firm false = refl

  pub quote_first : {i u K : ℕ} {b b' x x' y y' : List ℕ} {r : Step} → Said (Heads s (under left lines an_expression) p) s i u K p b b' x x' y y' r → Said (Firsts s (under left lines an_expression) p) s i u K p b b' x x' y y' r
  quote_first w = said_as (head_first s (under left lines an_expression) (cond (is_template s p) 7 6) p pick_quote (firm (is_template s p))) w

  -- ---- its first run

  module _ {r : Run} (h : RunHere quoted s (p + 1) r) where
    broken : is_template s p ≡ is_broken r.why
    broken = ap (λ (x : Run). is_broken x.why) (sym h.is)

    pub run_template : r.why ≡ why.Interpolation → pick_at s (under left lines an_expression) p ≡ some 7
    run_template e = pick_quote ∙ rw (broken, e)

    pub run_string : ¬ (r.why ≡ why.Interpolation) → pick_at s (under left lines an_expression) p ≡ some 6
    run_string n = pick_quote ∙ rw (broken, whole r.why n)
      where
        whole : (y : Why) → ¬ (y ≡ why.Interpolation) → is_broken y ≡ false
        whole why.Quote n = refl
        whole why.Interpolation n = absurd (n refl)
        whole why.Directive n = refl
        whole why.Escape n = refl
        whole why.Closing n = refl
        whole why.Foreign n = refl
        whole why.End n = refl

-- ---- what stands first

pub lead_quote : {s : List ℕ} {p : ℕ} {lines : Bool} → byte_at s p ≡ 34 → LeadAt s p lines (head_of 6 p)
lead_quote e = record { alone = λ n. absurd (n refl); head = λ n. absurd (n refl); quote = λ _. e }

module _ {s : List ℕ} {lines : Bool} {p k e : ℕ} where
  pub lead_head : HeadAt s p lines (head_of k e) → LeadAt s p lines (head_of k e)
  lead_head h = record {
    alone = λ _. h;
    head = λ _. h;
    quote = λ z. quote_by s 0 lines p k (term_picked s lines p k h.kind (λ n. absurd (let w : ◌≡◌ {A = ℕ} 0 6 = sym n ∙ z in omega arith)) 0) (rw (eq-eqb k 6 z));
  }

  module _ (h : LeadAt s p lines (head_of k e)) where
    -- what is no quote is told
    pub lead_none : k ≡ 0 → HeadAt s p lines (head_of k e)
    lead_none z = h.head (λ n. absurd (let w : ◌≡◌ {A = ℕ} 0 6 = sym z ∙ n in omega arith))

    module _ (n : ¬ (k ≡ 0)) (left : ℕ) where
      pub lead_primary : (eqb k 22 || eqb k 23) ≡ false → Primary s left lines p k
      lead_primary b = record {
        picked = λ z. term_picked s lines p k (h.head z).kind n left;
        quote = go (eqb k 6) refl;
        binary = b;
      }
        where
          go : (t : Bool) → eqb k 6 ≡ t → (t || eqb k 7) ≡ true → byte_at s p ≡ 34
          go true z v = h.quote (eqb-true k 6 z)
          go false z v = quote_by s left lines p k (term_picked s lines p k (h.head (eqb-false k 6 z)).kind n left) (rw z v)

      pub lead_first : {i u K : ℕ} {b b' x x' y y' : List ℕ} {r : Step} → Said (Heads s (under left lines an_expression) p) s i u K p b b' x x' y y' r → Said (Firsts s (under left lines an_expression) p) s i u K p b b' x x' y y' r
      lead_first {i} {u} {K} {b} {b'} {x} {x'} {y} {y'} {r} w = go (eqb k 6) refl
        where
          go : (t : Bool) → eqb k 6 ≡ t → Said (Firsts s (under left lines an_expression) p) s i u K p b b' x x' y y' r
          go true z = quote_first s left lines p (h.quote (eqb-true k 6 z)) w
          go false z = first_head (h.head (eqb-false k 6 z)) n w
