-- An expression in brackets: the answers of `within`.
use Prim.Native.Nat.{ℕ, ◌+◌, ◌-◌, ◌≤◌, ◌<◌}
use mathlib.Core.Path.{◌≡◌, refl, sym, ap, subst, ◌∙◌}
use mathlib.Core.Bool.{Bool, true, false}
use mathlib.Core.Option.{some}
use mathlib.Core.List.{List, [], ◌∷◌}
use native.Mathlib.Omega.{arith}
use lib.ListN.{length}
use lib.Dec.{eqb}
use borrow.Author.Tests.{eq-eqb}
use Rattle.lexis.specs.Bytes.{byte_at, stands}
use Rattle.lexis.specs.RunLaws as runs
use Rattle.engine.specs.Base.{Outcome, Tree}
use Rattle.engine.specs.Layout.{fin, move, kid}
use Rattle.grammar.specs.Kinds.{Deep}
use Rattle.grammar.specs.Moves.{an_expression, unexpected}
use Rattle.grammar.specs.Layouts.{layouts, layout_of, inside, opening, space, past}
use Rattle.grammar.specs.Hcl.{under, pick_at}
use Rattle.grammar.specs.Table.{record_of}
use Rattle.grammar.specs.Said.{Went, went_of, Moved}
use Rattle.grammar.specs.TextLaws.{pick_chosen, or_none}
use Rattle.reader.specs.Buffer.{put_at}
use Rattle.reader.specs.Said.{Step, step_of, Climbs, Kept, Any, under_any, any_before, Said, SaidMade, Asked, Closing, Bracketed}
use Rattle.reader.proofs.Stages.{stage_move}
use Rattle.reader.proofs.Laids.{On}
use Rattle.reader.proofs.Ons.{open_to, open_deep, space_to, space_no, past_to, past_gap, past_no, spare_most, on_start, on_stop, on_else, on_fin, on_inside_no, on_inside}

-- ---- which brackets

round_lays : layout_of 15 ≡ move (opening (40 ∷ [])) (move space (kid inside (move (past (41 ∷ [])) (fin 0))))
unfolding layouts
round_lays = refl

square_lays : layout_of 42 ≡ move (opening (91 ∷ [])) (move space (kid inside (move (past (93 ∷ [])) (fin 0))))
unfolding layouts
square_lays = refl

pub bracketed_round : (s : List ℕ) (left : ℕ) (lines : Bool) (p k : ℕ) → k ≡ 15 → pick_at s (under left lines an_expression) p ≡ some k → Bracketed s p k 41
bracketed_round s left lines p k f q =
    let e = or_none (eqb (byte_at s p) 40) (pick_chosen s left lines p 15 (q ∙ ap some f)) in
    subst (λ (n : ℕ). Bracketed s p n 41) (sym f)
    (record { opener = 40; stands = runs.stands_one 40 s p refl ∙ e; there = runs.inside (λ x. eqb x 40) s p refl e; lays = round_lays })

pub bracketed_square : (s : List ℕ) (p k : ℕ) → k ≡ 42 → byte_at s p ≡ 91 → Bracketed s p k 93
bracketed_square s p k f q =
    let e = eq-eqb (byte_at s p) 91 q in
    subst (λ (n : ℕ). Bracketed s p n 93) (sym f)
    (record { opener = 91; stands = runs.stands_one 91 s p refl ∙ e; there = runs.inside (λ x. eqb x 91) s p refl e; lays = square_lays })

-- ---- places

module _ {s : List ℕ} {p k c : ℕ} (w : Bracketed s p k c) {g : Went} (m : Moved s (p + 1) true g) where
  pub within_there : g.at ≤ length s
  within_there = omega (arith, m.high, w.there)

  module _ {Z : Outcome ℕ (Tree ℕ) → Type 0} {i u K : ℕ} {b b' x x' y y' : List ℕ} {z : Step} (h : Said Z s i u K g.at b b' x x' y y' z) {t : Went} (o : Moved s z.end true t) where
    pub within_end : t.at ≤ length s
    within_end = omega (arith, o.high, h.high)

    module _ (yes : stands (c ∷ []) s t.at ≡ true) where
      pub within_high : t.at < length s
      within_high = let n = runs.stands_inside (c ∷ []) s t.at yes in omega arith

      pub within_closing : {u₀ K₀ : ℕ} {y₀ : List ℕ} → Asked s y₀ i u₀ K₀ p → Closing i z.count 0 p (t.at + 1) 0
      within_closing a = record { few = omega (arith, a.few, a.inside, a.small); some = omega arith; low = omega (arith, o.low, m.low, h.room); room = omega (arith, o.low, m.low, h.room); small = omega (arith, within_high, a.small) }

-- ---- the way through them

module _ {s : List ℕ} {p k c : ℕ} (w : Bracketed s p k c) {left : ℕ} {lines : Bool} {i u K₀ : ℕ} {y₀ : List ℕ} (a : Asked s y₀ i u K₀ p) {b x : List ℕ} where
  start : On s left lines p k p i u b b x x (move (opening (w.opener ∷ [])) (move space (kid inside (move (past (c ∷ [])) (fin 0))))) p 0 0 0
  start = on_start w.lays a.inside

  pub within_deep : {K : ℕ} {d d' v v' : List ℕ} {r : Step} → left ≡ 0 → r ≡ step_of Deep p 0 0 → Kept K v v' → SaidMade Any s (under_any k left lines) p any_before k (layout_of k) p i u 0 p K b d x d' v v' r
  within_deep n q kept = on_stop Deep p start (λ ξ. open_deep s (under_any k left lines ξ) p (w.opener ∷ []) p w.stands n) (omega arith) (omega arith) a.inside q kept

  module _ (n : ¬ (left ≡ 0)) where
    opened : On s left lines p k p i u b b x x (move space (kid inside (move (past (c ∷ [])) (fin 0)))) (p + 1) 0 0 (0 + 1)
    opened = stage_move 1 start (λ ξ. open_to s (under_any k left lines ξ) p (w.opener ∷ []) p w.stands n) (omega arith) (omega (arith, w.there))

    module _ {g : Went} (m : Moved s (p + 1) true g) where
      pub within_gap : {K : ℕ} {d d' v v' : List ℕ} {r : Step} → ¬ (g.kind ≡ 0) → r ≡ step_of g.kind g.at 0 0 → Kept K v v' → SaidMade Any s (under_any k left lines) p any_before k (layout_of k) p i u 0 p K b d x d' v v' r
      within_gap f q kept = on_stop g.kind g.at opened (λ ξ. space_no s (under_any k left lines ξ) p (p + 1) g.kind g.at (m.bad f)) (omega (arith, f)) (omega (arith, m.low)) (within_there w m) q kept

      module _ (f : g.kind ≡ 0) {K' : ℕ} {b' x' y y' : List ℕ} {z : Step} (h : Said (Climbs s (under (left - 1) true an_expression) 0 g.at) s i u K' g.at b b' x x' y y' z) where
        before : On s left lines p k p i u b b x x (kid inside (move (past (c ∷ [])) (fin 0))) g.at 0 0 (0 + 1 + 0)
        before = stage_move 0 opened (λ ξ. space_to s (under_any k left lines ξ) p (p + 1) g.at (m.good f)) (omega (arith, m.low)) (within_there w m)

        pub within_no : {K : ℕ} {d d' v v' : List ℕ} → ¬ (z.kind ≡ 0) → Kept K v v' → SaidMade Any s (under_any k left lines) p any_before k (layout_of k) p i u 0 p K b d x d' v v' z
        within_no e kept = on_inside_no before h e kept

        module _ (e : z.kind ≡ 0) {t : Went} (o : Moved s z.end true t) where
          behind : On s left lines p k p i u b b' x x' (move (past (c ∷ [])) (fin 0)) z.end z.count z.text (0 + 1 + 0 + 0)
          behind = on_inside before h e (omega arith) (omega arith) (omega arith) (omega arith)

          pub within_open : {K : ℕ} {d d' v v' : List ℕ} {r : Step} → ¬ (t.kind ≡ 0) → r ≡ step_of t.kind t.at 0 0 → Kept K v v' → SaidMade Any s (under_any k left lines) p any_before k (layout_of k) p i u 0 p K b d x d' v v' r
          within_open l q kept = on_stop t.kind t.at behind (λ ξ. past_gap s (under_any k left lines ξ) p (c ∷ []) z.end t.kind t.at (o.bad l)) (omega (arith, l)) (omega (arith, o.low, behind.room)) (within_end w m h o) q kept

          module _ (l : t.kind ≡ 0) where
            pub within_else : {K : ℕ} {d d' v v' : List ℕ} {j : Went} {r : Step} → stands (c ∷ []) s t.at ≡ false → j ≡ went_of (unexpected s t.at) → r ≡ step_of j.kind j.at 0 0 → Kept K v v'
                → SaidMade Any s (under_any k left lines) p any_before k (layout_of k) p i u 0 p K b d x d' v v' r
            within_else nope f' q kept = on_else t.at behind (λ ξ. past_no s (under_any k left lines ξ) p (c ∷ []) z.end t.at (o.good l) nope) f' (omega (arith, o.low, behind.room)) (within_end w m h o) q kept

            module _ (yes : stands (c ∷ []) s t.at ≡ true) where
              pub within_ok : {K : ℕ} {b'' v v' : List ℕ} {r : Step} → (r ≡ step_of 0 (t.at + 1) (z.count + 1) z.text) × (b'' ≡ put_at b' (i + z.count) (record_of k 0 p (t.at + 1) (0 + z.count + 1) (0, 0))) → Kept K v v'
                  → SaidMade Any s (under_any k left lines) p any_before k (layout_of k) p i u 0 p K b b'' x x' v v' r
              within_ok q kept =
                  on_fin (stage_move 1 behind (λ ξ. past_to s (under_any k left lines ξ) p (c ∷ []) z.end t.at (o.good l) yes) (omega (arith, o.low)) (omega (arith, (within_high w m h o yes)))) (omega (arith, spare_most k)) q kept
