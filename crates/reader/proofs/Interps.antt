-- An interpolation: the answers of `interp`.
use Prim.Native.Nat.{ℕ, ◌+◌, ◌*◌, ◌-◌, ◌≤◌, ◌<◌}
use mathlib.Core.Path.{◌≡◌, refl, sym, subst, ◌∙◌}
use mathlib.Core.Bool.{Bool, true, false, cond}
use mathlib.Core.List.{List, [], ◌∷◌}
use native.Mathlib.Omega.{arith}
use lib.ListN.{length}
use Rattle.lexis.specs.Bytes.{stands}
use Rattle.lexis.specs.RunLaws.{stands_inside}
use Rattle.engine.specs.Layout.{fin, move, kid, fork}
use Rattle.grammar.specs.Kinds.{Deep}
use Rattle.grammar.specs.Moves.{an_expression, unexpected}
use Rattle.grammar.specs.Layouts.{Layout, layouts, layout_of, inside, plain, past, strip_lay, interpolation_lay}
use Rattle.grammar.specs.Hcl.{under}
use Rattle.grammar.specs.Table.{record_of}
use Rattle.grammar.specs.Said.{Went, went_of, Moved}
use Rattle.grammar.specs.TextLaws.{plain_yes, plain_no, unexpected_is}
use Rattle.reader.specs.Buffer.{put_at}
use Rattle.reader.specs.Said.{Step, step_of, Climbs, Kept, Any, under_any, any_before, Said, SaidMade, Asked}
use Rattle.reader.specs.Bare.{tilde_at}
use Rattle.reader.proofs.Stages.{stage_move, stage_yes, stage_no}
use Rattle.reader.proofs.Laids.{On}
use Rattle.reader.proofs.Ons.{open_to, open_deep, open_no, space_to, space_no, past_to, past_gap, past_no, on_start, on_stop, on_else, on_fin, on_inside_no, on_inside}

interp_lays : layout_of 10 ≡ interpolation_lay
unfolding layouts
interp_lays = refl

-- ---- places

-- one byte or none
pub tilde_few : (s : List ℕ) (p : ℕ) → tilde_at s p ≤ 1
tilde_few s p = go (stands (126 ∷ []) s p)
  where
    go : (t : Bool) → cond t 1 0 ≤ 1
    go true = omega arith
    go false = omega arith

-- within the source where p is
pub tilde_high : (s : List ℕ) (p : ℕ) → p ≤ length s → p + tilde_at s p ≤ length s
tilde_high s p h = go (stands (126 ∷ []) s p) refl
  where
    go : (t : Bool) → stands (126 ∷ []) s p ≡ t → p + cond t 1 0 ≤ length s
    go true e = let n = stands_inside (126 ∷ []) s p e in omega arith
    go false e = omega arith

pub interp_two : (s : List ℕ) (p : ℕ) → stands (36 ∷ 123 ∷ []) s p ≡ true → p + 2 ≤ length s
interp_two s p e = let n = stands_inside (36 ∷ 123 ∷ []) s p e in omega arith

pub brace_high : (s : List ℕ) (p : ℕ) → stands (125 ∷ []) s p ≡ true → p < length s
brace_high s p e = let n = stands_inside (125 ∷ []) s p e in omega arith

-- ---- the way through it

module _ {s : List ℕ} {i u p K₀ : ℕ} {y₀ : List ℕ} (a : Asked s y₀ i u K₀ p) (left : ℕ) (lines : Bool) (b x : List ℕ) where
  abbrev Saying : ℕ → List ℕ → List ℕ → List ℕ → List ℕ → Step → Type 0
  Saying K d d' v v' r = SaidMade Any s (under_any 10 left lines) p any_before 10 (layout_of 10) p i u 0 p K b d x d' v v' r

  start : On s left lines p 10 p i u b b x x interpolation_lay p 0 0 0
  start = on_start interp_lays a.inside

  pub interp_none : {K : ℕ} {d d' v v' : List ℕ} {w : Went} {r : Step} → stands (36 ∷ 123 ∷ []) s p ≡ false → w ≡ went_of (unexpected s p) → r ≡ step_of w.kind w.at 0 0 → Kept K v v' → Saying K d d' v v' r
  interp_none nope f q kept = on_else p start (λ ξ. open_no s (under_any 10 left lines ξ) p (36 ∷ 123 ∷ []) p nope) f (omega arith) a.inside q kept

  module _ (two : stands (36 ∷ 123 ∷ []) s p ≡ true) where
    pub interp_deep : {K : ℕ} {d d' v v' : List ℕ} {r : Step} → left ≡ 0 → r ≡ step_of Deep p 0 0 → Kept K v v' → Saying K d d' v v' r
    interp_deep n q kept = on_stop Deep p start (λ ξ. open_deep s (under_any 10 left lines ξ) p (36 ∷ 123 ∷ []) p two n) (omega arith) (omega arith) a.inside q kept

    module _ (n : ¬ (left ≡ 0)) {φ : ℕ} (f : φ ≡ tilde_at s (p + 2)) where
      opened : On s left lines p 10 p i u b b x x (fork (plain (126 ∷ [])) (strip_lay 1) (strip_lay 0)) (p + 2) 0 0 2
      opened = stage_move 2 start (λ ξ. open_to s (under_any 10 left lines ξ) p (36 ∷ 123 ∷ []) p two n) (omega arith) (interp_two s p two)

      stripped : (t : Bool) → stands (126 ∷ []) s (p + 2) ≡ t → On s left lines p 10 p i u b b x x (strip_lay (cond t 1 0)) (p + 2 + cond t 1 0) 0 0 2
      stripped true e = stage_yes 0 opened (λ ξ. plain_yes s (under_any 10 left lines ξ) p (p + 2) (126 ∷ []) e) (omega arith) (let m = stands_inside (126 ∷ []) s (p + 2) e in omega (arith, interp_two s p two))
      stripped false e = subst (λ (q : ℕ). On s left lines p 10 p i u b b x x (strip_lay 0) q 0 0 2) (omega arith) (stage_no opened (λ ξ. plain_no s (under_any 10 left lines ξ) p (p + 2) (126 ∷ []) e ∙ unexpected_is s (p + 2)))

      strip : On s left lines p 10 p i u b b x x (strip_lay φ) (p + 2 + φ) 0 0 2
      strip = subst (λ (o : ℕ). On s left lines p 10 p i u b b x x (strip_lay o) (p + 2 + o) 0 0 2) (sym f) (stripped (stands (126 ∷ []) s (p + 2)) refl)

      module _ {g : Went} (m : Moved s (p + 2 + φ) true g) where
        there : g.at ≤ length s
        there = omega (arith, m.high, strip.high)

        pub interp_gap : {K : ℕ} {d d' v v' : List ℕ} {r : Step} → ¬ (g.kind ≡ 0) → r ≡ step_of g.kind g.at 0 0 → Kept K v v' → Saying K d d' v v' r
        interp_gap e q kept = on_stop g.kind g.at strip (λ ξ. space_no s (under_any 10 left lines ξ) p (p + 2 + φ) g.kind g.at (m.bad e)) (omega (arith, e)) (omega (arith, m.low)) there q kept

        module _ (e : g.kind ≡ 0) {K' : ℕ} {b' x' y y' : List ℕ} {z : Step} (h : Said (Climbs s (under (left - 1) true an_expression) 0 g.at) s i u K' g.at b b' x x' y y' z) where
          abbrev tail : Layout
          tail = fork (past (126 ∷ [])) (move (plain (125 ∷ [])) (fin (φ + 2))) (move (past (125 ∷ [])) (fin φ))

          before : On s left lines p 10 p i u b b x x (kid inside tail) g.at 0 0 2
          before = stage_move 0 strip (λ ξ. space_to s (under_any 10 left lines ξ) p (p + 2 + φ) g.at (m.good e)) (omega (arith, m.low)) there

          pub interp_no : {K : ℕ} {d d' v v' : List ℕ} → ¬ (z.kind ≡ 0) → Kept K v v' → Saying K d d' v v' z
          interp_no l kept = on_inside_no before h l kept

          module _ (l : z.kind ≡ 0) {t : Went} (o : Moved s z.end true t) where
            behind : On s left lines p 10 p i u b b' x x' tail z.end z.count z.text 2
            behind = on_inside before h l (omega arith) (omega arith) (omega arith) (omega arith)

            end : t.at ≤ length s
            end = omega (arith, o.high, h.high)

            low : p ≤ t.at
            low = omega (arith, o.low, h.room, m.low)

            pub interp_open : {K : ℕ} {d d' v v' : List ℕ} {r : Step} → ¬ (t.kind ≡ 0) → r ≡ step_of t.kind t.at 0 0 → Kept K v v' → Saying K d d' v v' r
            interp_open k q kept =
                on_stop t.kind t.at (stage_no behind (λ ξ. past_gap s (under_any 10 left lines ξ) p (126 ∷ []) z.end t.kind t.at (o.bad k)))
                (λ ξ. past_gap s (under_any 10 left lines ξ) p (125 ∷ []) z.end t.kind t.at (o.bad k)) (omega (arith, k)) low end q kept

            module _ (k : t.kind ≡ 0) where
              -- a right `~` or none
              marked : stands (126 ∷ []) s t.at ≡ true → On s left lines p 10 p i u b b' x x' (move (plain (125 ∷ [])) (fin (φ + 2))) (t.at + 1) z.count z.text 2
              marked d = stage_yes 0 behind (λ ξ. past_to s (under_any 10 left lines ξ) p (126 ∷ []) z.end t.at (o.good k) d) (omega (arith, o.low)) (let n = stands_inside (126 ∷ []) s t.at d in omega arith)

              bare : stands (126 ∷ []) s t.at ≡ false → On s left lines p 10 p i u b b' x x' (move (past (125 ∷ [])) (fin φ)) z.end z.count z.text 2
              bare d = stage_no behind (λ ξ. past_no s (under_any 10 left lines ξ) p (126 ∷ []) z.end t.at (o.good k) d ∙ unexpected_is s t.at)

              else_as : (v : Bool) → stands (126 ∷ []) s t.at ≡ v → stands (125 ∷ []) s (t.at + cond v 1 0) ≡ false → {K : ℕ} {d d' y y' : List ℕ} {j : Went} {r : Step} → j ≡ went_of (unexpected s (t.at + cond v 1 0)) → r ≡ step_of j.kind j.at 0 0 → Kept K y y'
                  → Saying K d d' y y' r
              else_as true d nope w q kept = on_else (t.at + 1) (marked d) (λ ξ. plain_no s (under_any 10 left lines ξ) p (t.at + 1) (125 ∷ []) nope) w (omega (arith, low)) (marked d).high q kept
              else_as false d nope {j = j} w q kept =
                  let z₀ : t.at + 0 ≡ t.at = omega arith in
                  on_else t.at (bare d) (λ ξ. past_no s (under_any 10 left lines ξ) p (125 ∷ []) z.end t.at (o.good k) (subst (λ (c : ℕ). stands (125 ∷ []) s c ≡ false) z₀ nope)) (subst (λ (c : ℕ). j ≡ went_of (unexpected s c)) z₀ w) low end q kept

              fin_as : (v : Bool) → stands (126 ∷ []) s t.at ≡ v → stands (125 ∷ []) s (t.at + cond v 1 0) ≡ true → On s left lines p 10 p i u b b' x x' (fin (φ + 2 * cond v 1 0)) (t.at + cond v 1 0 + 1) z.count z.text 2
              fin_as true d shut = stage_move 0 (marked d) (λ ξ. plain_yes s (under_any 10 left lines ξ) p (t.at + 1) (125 ∷ []) shut) (omega arith) (omega (arith, brace_high s (t.at + 1) shut))
              fin_as false d shut =
                  let z₀ : t.at + 0 ≡ t.at = omega arith in
                  let here = subst (λ (c : ℕ). stands (125 ∷ []) s c ≡ true) z₀ shut in
                  let done : On s left lines p 10 p i u b b' x x' (fin φ) (t.at + 1) z.count z.text 2 = stage_move 0 (bare d) (λ ξ. past_to s (under_any 10 left lines ξ) p (125 ∷ []) z.end t.at (o.good k) here) (omega (arith, o.low)) (omega (arith, brace_high s t.at here)) in
                  let φ₀ : φ + 2 * 0 ≡ φ = omega arith in
                  subst (λ (c : ℕ). On s left lines p 10 p i u b b' x x' (fin (φ + 2 * 0)) (c + 1) z.count z.text 2) (sym z₀) (subst (λ (c : ℕ). On s left lines p 10 p i u b b' x x' (fin c) (t.at + 1) z.count z.text 2) (sym φ₀) done)

              module _ {ρ : ℕ} (r-is : ρ ≡ tilde_at s t.at) where
                pub interp_else : stands (125 ∷ []) s (t.at + ρ) ≡ false → {K : ℕ} {d d' y y' : List ℕ} {j : Went} {r : Step} → j ≡ went_of (unexpected s (t.at + ρ)) → r ≡ step_of j.kind j.at 0 0 → Kept K y y' → Saying K d d' y y' r
                interp_else nope {j = j} w q kept =
                    else_as (stands (126 ∷ []) s t.at) refl (subst (λ (c : ℕ). stands (125 ∷ []) s (t.at + c) ≡ false) r-is nope) (subst (λ (c : ℕ). j ≡ went_of (unexpected s (t.at + c))) r-is w) q kept

                ended : stands (125 ∷ []) s (t.at + ρ) ≡ true → On s left lines p 10 p i u b b' x x' (fin (φ + 2 * ρ)) (t.at + ρ + 1) z.count z.text 2
                ended shut =
                    subst (λ (c : ℕ). On s left lines p 10 p i u b b' x x' (fin (φ + 2 * c)) (t.at + c + 1) z.count z.text 2) (sym r-is)
                    (fin_as (stands (126 ∷ []) s t.at) refl (subst (λ (c : ℕ). stands (125 ∷ []) s (t.at + c) ≡ true) r-is shut))

                pub interp_ok : stands (125 ∷ []) s (t.at + ρ) ≡ true → {K : ℕ} {b'' y y' : List ℕ} {r : Step}
                    → (r ≡ step_of 0 (t.at + ρ + 1) (z.count + 1) z.text) × (b'' ≡ put_at b' (i + z.count) (record_of 10 (φ + 2 * ρ) p (t.at + ρ + 1) (0 + z.count + 1) (0, 0))) → Kept K y y' → Saying K b'' x' y y' r
                interp_ok shut put kept = on_fin (ended shut) (omega arith) put kept
