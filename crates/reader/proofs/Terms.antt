-- The kind of a term, and the answers of `term` for a unary operator.
use Prim.Native.Nat.{ℕ, ◌+◌, ◌-◌, ◌<◌}
use mathlib.Core.Path.{◌≡◌, refl, sym, ap, ◌∙◌}
use mathlib.Core.Bool.{Bool, true, false, ◌||◌}
use mathlib.Core.Option.{some}
use mathlib.Core.List.{List, []}
use native.Mathlib.Omega.{arith}
use lib.ListN.{length}
use lib.Dec.{eqb, eqb→eq}
use borrow.Author.Tests.{eqb-true}
use Rattle.lexis.specs.Bytes.{byte_at}
use Rattle.grammar.specs.Kinds.{tight_of, Deep}
use Rattle.grammar.specs.Moves.{an_expression}
use Rattle.grammar.specs.Hcl.{pick_at, under}
use Rattle.grammar.specs.Table.{record_of}
use Rattle.grammar.specs.Said.{Went, TermAt, Moved}
use Rattle.grammar.specs.TextLaws.{pick_string, pick_template}
use Rattle.grammar.specs.PickLaws.{listed, kind_some, picked_term, termed}
use Rattle.reader.specs.Buffer.{put_at}
use Rattle.reader.specs.Said.{Step, step_of, Terms, Kept, Said, Primary}
use Rattle.reader.proofs.Answers.{good, refused, pass}
use Rattle.reader.proofs.Unaries.{Unary, unary, unary_inside, unary_deep, unary_space, unary_high, unary_no, unary_ok}

-- a string or a template stands behind a quote
pub quote_by : (s : List ℕ) (left : ℕ) (lines : Bool) (p k : ℕ) → pick_at s (under left lines an_expression) p ≡ some k → (eqb k 6 || eqb k 7) ≡ true → byte_at s p ≡ 34
quote_by s left lines p k q = go (eqb k 6) refl
  where
    go : (t : Bool) → eqb k 6 ≡ t → (t || eqb k 7) ≡ true → byte_at s p ≡ 34
    go true e h = pick_string s left lines p (q ∙ ap some (eqb-true k 6 e))
    go false e h = pick_template s left lines p (q ∙ ap some (eqb-true k 7 h))

-- ---- the kind of a term

module _ (s : List ℕ) (lines : Bool) (p k : ℕ) (at : TermAt s p lines k) (some_kind : ¬ (k ≡ 0)) where
  pub term_picked : (left : ℕ) → pick_at s (under left lines an_expression) p ≡ some k
  term_picked left = kind_some (pick_at s (under left lines an_expression) p) k (sym (at left)) some_kind

  pub term_firm : tight_of k ≡ 9
  term_firm = eqb→eq (tight_of k) 9 (listed (λ n. eqb (tight_of n) 9) termed tt k (picked_term s p 0 lines k (term_picked 0)))

  pub term_primary : (left : ℕ) → (eqb k 22 || eqb k 23) ≡ false → Primary s left lines p k
  term_primary left h = record { picked = λ _. term_picked left; quote = quote_by s left lines p k (term_picked left); binary = h }

  -- ---- a unary operator

  module _ (h : (eqb k 22 || eqb k 23) ≡ true) (left : ℕ) where
    mark : Unary s p k
    mark = unary s left lines p k (term_picked left) h

    pub term_inside : p < length s
    term_inside = unary_inside mark

    pub term_deep : {i u K : ℕ} {b b' x x' y y' : List ℕ} {r : Step} → left ≡ 0 → r ≡ step_of Deep p 0 0 → Kept K y y' → Said (Terms s (under left lines an_expression) p) s i u K p b b' x x' y y' r
    term_deep z e kept = refused Deep p e (unary_deep s left lines 0 0 p k [] [] mark (term_picked left) z) (omega arith) (omega arith) (omega (arith, term_inside)) kept

    module _ (z : ¬ (left ≡ 0)) {g : Went} (sp : Moved s (p + 1) false g) where
      pub term_space : {i u K : ℕ} {b b' x x' y y' : List ℕ} {r : Step} → ¬ (g.kind ≡ 0) → r ≡ step_of g.kind g.at 0 0 → Kept K y y' → Said (Terms s (under left lines an_expression) p) s i u K p b b' x x' y y' r
      term_space f e kept =
          refused g.kind g.at e (unary_space s left lines 0 0 p k [] [] mark (term_picked left) z sp f) (omega arith) (omega (arith, sp.low)) (unary_high s left lines 0 0 p k [] [] mark (term_picked left) z sp) kept

      module _ (f : g.kind ≡ 0) {i u K : ℕ} {b b' x x' y y' : List ℕ} {m : Step} (w : Said (Terms s (under (left - 1) lines an_expression) g.at) s i u K g.at b b' x x' y y' m) where
        pub term_under_no : {K' : ℕ} {c c' v v' o o' : List ℕ} → ¬ (m.kind ≡ 0) → Kept K' o o' → Said (Terms s (under left lines an_expression) p) s i u K' p c c' v v' o o' m
        term_under_no n kept = pass w n (omega (arith, sp.low)) (λ o q d. unary_no s left lines 0 0 p k [] [] mark (term_picked left) z sp f o q d) kept

        pub term_under : {b'' : List ℕ} {r : Step} {K' : ℕ} {o o' : List ℕ} → m.kind ≡ 0 → (r ≡ step_of 0 m.end (m.count + 1) m.text) × (b'' ≡ put_at b' (i + m.count) (record_of k 0 p m.end (0 + m.count + 1) (0, 0))) → Kept K' o o'
            → Said (Terms s (under left lines an_expression) p) s i u K' p b b'' x x' o o' r
        term_under n e kept = unary_ok s left lines i u p k b x mark (term_picked left) z sp f (good w n) e kept
