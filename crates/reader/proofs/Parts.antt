-- The parts of a traversal, one after the other: the answers of `part` and `parts`.
use Prim.Native.Nat.{ℕ, ◌+◌, ◌≤◌, ◌<◌}
use mathlib.Core.Path.{◌≡◌, refl, sym, ap, subst, ◌∙◌}
use mathlib.Core.Bool.{Bool, true, false, ◌&&◌, ◌||◌}
use mathlib.Core.Logic.{◌⊎◌, inl, inr}
use mathlib.Core.Option.{some}
use mathlib.Core.List.{List, [], ◌∷◌}
use native.Mathlib.Omega.{arith}
use lib.ListN.{length}
use lib.Dec.{eqb}
use borrow.Author.Tests.{eqb-true, eq-eqb}
use Rattle.lexis.specs.Bytes.{byte_at}
use Rattle.engine.specs.Base.{choose}
use Rattle.engine.specs.Layout.{fin, kid, rep}
use Rattle.grammar.specs.Moves.{Under, Move, gap, parts, here, to, no, walk, atom, skip, is_part, a_part, unexpected}
use Rattle.grammar.specs.Layouts.{layouts, layout_of, portion, traversal_lay}
use Rattle.grammar.specs.Hcl.{under, pick_at, portions}
use Rattle.grammar.specs.Table.{record_of}
use Rattle.grammar.specs.Wants.{down_below}
use Rattle.grammar.specs.Said.{Went, ChildOf, went_of, Moved, PartAt}
use Rattle.grammar.specs.PickLaws.{kind_some}
use Rattle.grammar.specs.TextLaws as text
use Rattle.reader.specs.Buffer.{put_at}
use Rattle.reader.specs.Said.{Step, step_of, Kept, Any, under_any, any_before, SaidMade, SaidSub, Asked, Laying, Closing}
use Rattle.reader.specs.Bare.{SaidBare}
use Rattle.reader.proofs.Answers.{good}
use Rattle.reader.proofs.Stages.{stage_move, stage_kid, stage_kid_no, stage_rep, stage_rep_no, stage_end}
use Rattle.reader.proofs.Laids.{On}
use Rattle.reader.proofs.Laidings.{pass_made, good_pos}
use Rattle.reader.proofs.Subs.{sub_part_none, sub_part}
use Rattle.reader.proofs.Ons.{on_start, on_stop, on_else, on_fin}

-- ---- the byte that a part begins with

abbrev chosen : ℕ → List (Bool × ℕ) → Bool
chosen k [] = false
chosen k (x ∷ xs) = (eqb x.1 k && x.0) || chosen k xs

choose_chosen : (k : ℕ) (xs : List (Bool × ℕ)) → choose xs ≡ some k → chosen k xs ≡ true
choose_chosen k [] e = absurd (let z : ◌≡◌ {A = ℕ} 0 1 = cc in omega arith)
choose_chosen k ((true, n) ∷ xs) e = let z : n ≡ k = cc in rw (eq-eqb n k z)
choose_chosen k ((false, n) ∷ xs) e = go (eqb n k) (choose_chosen k xs e)
  where
    go : (b : Bool) → chosen k xs ≡ true → ((b && false) || chosen k xs) ≡ true
    go true h = h
    go false h = h

module _ (s : List ℕ) (p : ℕ) where
  picked : {k : ℕ} → PartAt s p k → ¬ (k ≡ 0) → chosen k (portions s p) ≡ true
  unfolding pick_at
  picked {k} at n = choose_chosen k (portions s p) (kind_some (pick_at s (under 0 true a_part) p) k (sym (at 0 true)) n)

  pub part_dot : {k : ℕ} → PartAt s p k → k ≡ 38 → byte_at s p ≡ 46
  part_dot {k} at e = eqb-true (byte_at s p) 46 (text.or_none (eqb (byte_at s p) 46) (ap (λ (n : ℕ). chosen n (portions s p)) (sym e) ∙ picked at (λ z. absurd (let w : ◌≡◌ {A = ℕ} 0 38 = sym z ∙ e in omega arith))))

  pub part_square : {k : ℕ} → PartAt s p k → k ≡ 42 → byte_at s p ≡ 91
  part_square {k} at e = eqb-true (byte_at s p) 91 (text.or_none (eqb (byte_at s p) 91) (ap (λ (n : ℕ). chosen n (portions s p)) (sym e) ∙ picked at (λ z. absurd (let w : ◌≡◌ {A = ℕ} 0 42 = sym z ∙ e in omega arith))))

-- ---- a part

-- a part is under what its traversal is under
part_child : (left : ℕ) (lines : Bool) → ChildOf 10 left lines (record { left = left; lines = lines; bound = 8; want = 2 })
part_child left lines = record { down = λ s w σ ks. refl; bound = refl; plain = refl; fewer = omega arith; small = λ _. omega arith; loose = λ _ e. absurd (omega arith); known = omega arith }

module _ {s : List ℕ} {p k : ℕ} (at : PartAt s p k) {left : ℕ} {lines : Bool} {i u K : ℕ} where
  pub part_none : {b b' x x' y y' : List ℕ} {w : Went} {r : Step} → k ≡ 0 → w ≡ went_of (unexpected s p) → r ≡ step_of w.kind w.at 0 0 → p ≤ length s → Kept K y y' → SaidSub 10 left lines s i u K p b b' x x' y y' r
  part_none z f q low kept = sub_part_none (part_child left lines) refl at z f q low kept

  pub part_made : {b b' x x' y y' : List ℕ} {r : Step} → ¬ (k ≡ 0) → SaidMade Any s (under_any k left lines) p any_before k (layout_of k) p i u 0 p K b b' x x' y y' r → SaidSub 10 left lines s i u K p b b' x x' y y' r
  part_made z m = sub_part (part_child left lines) refl at z m

  pub part_bare : {b b' x y : List ℕ} {r : Step} → k ≡ 38 → SaidBare 38 s i p b b' r → SaidSub 10 left lines s i u K p b b' x x y y r
  part_bare {x = x} {y} e m = sub_part (part_child left lines) refl (subst (λ (n : ℕ). PartAt s p n) e at) (λ z. absurd (omega arith)) (m.made left lines u K x y)

-- ---- a traversal by its kind

module _ {k : ℕ} (e : k ≡ 37) {s : List ℕ} {left : ℕ} {lines : Bool} {σ p i u before K : ℕ} where
  pub parts_as : {b b' x x' y y' : List ℕ} {r : Step} → SaidMade Any s (under_any 37 left lines) σ any_before 37 (layout_of 37) p i u before p K b b' x x' y y' r → SaidMade Any s (under_any k left lines) σ any_before k (layout_of k) p i u before p K b b' x x' y y' r
  parts_as {b} {b'} {x} {x'} {y} {y'} {r} m = subst (λ (n : ℕ). SaidMade Any s (under_any n left lines) σ any_before n (layout_of n) p i u before p K b b' x x' y y' r) (sym e) m

pub parts_laying : {σ p before k : ℕ} → k ≡ 37 → Laying σ p before k → Laying σ p before 37
parts_laying {σ} {p} {before} e l = subst (λ (n : ℕ). Laying σ p before n) e l

-- ---- the move to a part

abbrev onward : Move
onward = gap here ∷ parts ∷ []

module _ (s : List ℕ) (a : Under) (σ p : ℕ) where
  onward_to : (q : ℕ) → skip s a.lines p ≡ to q → is_part s q ≡ true → walk s a σ onward p ≡ to q
  unfolding walk atom
  onward_to q e f = rw (e, f)

  onward_gap : (y z : ℕ) → skip s a.lines p ≡ no y z → walk s a σ onward p ≡ no y z
  unfolding walk atom
  onward_gap y z e = rw e

  onward_no : (q : ℕ) → skip s a.lines p ≡ to q → is_part s q ≡ false → walk s a σ onward p ≡ unexpected s q
  unfolding walk atom
  onward_no q e f = rw (e, f, text.unexpected_is s q)

-- ---- the loop

traversal_lays : layout_of 37 ≡ traversal_lay
unfolding layouts
traversal_lays = refl

-- at q, with n records and t text bytes of parts since p
pub record Parting (s : List ℕ) (left : ℕ) (lines : Bool) (σ p i u : ℕ) (b b' x x' : List ℕ) (q n t : ℕ) : Type 0 where
  pub way : ((n ≡ 0) × On s left lines σ 37 p i u b b' x x' traversal_lay q n t 0) ⊎ ((1 ≤ n) × On s left lines σ 37 p i u b b' x x' (rep onward portion (fin 0)) q n t 1)
  pub low : p + n ≤ q
  pub spent : p + t ≤ q
  pub high : q ≤ length s

pub parting_start : {s : List ℕ} {left : ℕ} {lines : Bool} {σ p i u : ℕ} {b x : List ℕ} → p ≤ length s → Parting s left lines σ p i u b b x x p 0 0
parting_start h = record { way = inl (refl, on_start traversal_lays h); low = omega arith; spent = omega arith; high = h }

module _ {s : List ℕ} {left : ℕ} {lines : Bool} {σ p i u : ℕ} {b b' x x' : List ℕ} {q n t : ℕ} (w : Parting s left lines σ p i u b b' x x' q n t) where
  abbrev Saying : ℕ → ℕ → List ℕ → List ℕ → List ℕ → List ℕ → Step → Type 0
  Saying before K d d' v v' r = SaidMade Any s (under_any 37 left lines) σ any_before 37 (layout_of 37) p i u before p K b d x d' v v' r

  -- no part, and none before
  none_as : {y z : ℕ} → ((ξ : Any) → walk s (under_any 37 left lines ξ) σ onward q ≡ no y z) → n ≡ 0 → 1 ≤ y → p ≤ z → z ≤ length s → {before K : ℕ} {d d' v v' : List ℕ} {r : Step} → r ≡ step_of y z 0 0 → Kept K v v' → Saying before K d d' v v' r
  none_as {y} {z} f e pos low high {before} {K} {d} {d'} {v} {v'} {r} g kept = go w.way
    where
      go : ((n ≡ 0) × On s left lines σ 37 p i u b b' x x' traversal_lay q n t 0) ⊎ ((1 ≤ n) × On s left lines σ 37 p i u b b' x x' (rep onward portion (fin 0)) q n t 1) → Saying before K d d' v v' r
      go (inl (_, o)) = on_stop y z o f pos low high g kept
      go (inr (l, _)) = absurd (omega (arith, l, e))

  -- no part: the end
  last_as : {y z : ℕ} → ((ξ : Any) → walk s (under_any 37 left lines ξ) σ onward q ≡ no y z) → ¬ (n ≡ 0) → On s left lines σ 37 p i u b b' x x' (fin 0) q n t 1
  last_as f e = go w.way
    where
      go : ((n ≡ 0) × On s left lines σ 37 p i u b b' x x' traversal_lay q n t 0) ⊎ ((1 ≤ n) × On s left lines σ 37 p i u b b' x x' (rep onward portion (fin 0)) q n t 1) → On s left lines σ 37 p i u b b' x x' (fin 0) q n t 1
      go (inl (z, _)) = absurd (e z)
      go (inr (_, o)) = stage_end o f

  module _ (e : ¬ (n ≡ 0)) where
    room : p + n + 1 ≤ q
    room = go w.way
      where
        go : ((n ≡ 0) × On s left lines σ 37 p i u b b' x x' traversal_lay q n t 0) ⊎ ((1 ≤ n) × On s left lines σ 37 p i u b b' x x' (rep onward portion (fin 0)) q n t 1) → p + n + 1 ≤ q
        go (inl (z, _)) = absurd (e z)
        go (inr (_, o)) = o.room

    pub parts_closing : {before K : ℕ} {y : List ℕ} → Asked s y i u K p → Laying σ p before 37 → Closing i n 0 σ q before
    parts_closing a l = record { few = omega (arith, a.few, a.inside, a.small); some = omega arith; low = omega (arith, l.room, room); room = omega (arith, l.room, room); small = omega (arith, w.high, a.small) }

  module _ {g : Went} (m : Moved s q lines g) where
    pub parts_there : g.at ≤ length s
    parts_there = omega (arith, m.high, w.high)

    module _ (f : ¬ (g.kind ≡ 0)) where
      stuck : (ξ : Any) → walk s (under_any 37 left lines ξ) σ onward q ≡ no g.kind g.at
      stuck ξ = onward_gap s (under_any 37 left lines ξ) σ q g.kind g.at (m.bad f)

      pub parts_gap : {before K : ℕ} {d d' v v' : List ℕ} {r : Step} → n ≡ 0 → r ≡ step_of g.kind g.at 0 0 → Kept K v v' → Saying before K d d' v v' r
      parts_gap e q' kept = none_as stuck e (omega (arith, f)) (omega (arith, m.low, w.low)) parts_there q' kept

      pub parts_cut : {before K : ℕ} {b'' v v' : List ℕ} {r : Step} → ¬ (n ≡ 0) → (r ≡ step_of 0 q (n + 1) t) × (b'' ≡ put_at b' (i + n) (record_of 37 0 σ q (before + n + 1) (0, 0))) → Kept K v v' → Saying before K b'' x' v v' r
      parts_cut e put kept = on_fin (last_as stuck e) (omega arith) put kept

    module _ (f : g.kind ≡ 0) where
      module _ (nope : is_part s g.at ≡ false) where
        other : (ξ : Any) → walk s (under_any 37 left lines ξ) σ onward q ≡ unexpected s g.at
        other ξ = onward_no s (under_any 37 left lines ξ) σ q g.at (m.good f) nope

        pub parts_else : {before K : ℕ} {d d' v v' : List ℕ} {j : Went} {r : Step} → n ≡ 0 → j ≡ went_of (unexpected s g.at) → r ≡ step_of j.kind j.at 0 0 → Kept K v v' → Saying before K d d' v v' r
        parts_else {before} {K} {d} {d'} {v} {v'} {r = r} e h q' kept = go w.way
          where
            go : ((n ≡ 0) × On s left lines σ 37 p i u b b' x x' traversal_lay q n t 0) ⊎ ((1 ≤ n) × On s left lines σ 37 p i u b b' x x' (rep onward portion (fin 0)) q n t 1) → Saying before K d d' v v' r
            go (inl (_, o)) = on_else g.at o other h (omega (arith, m.low, w.low)) parts_there q' kept
            go (inr (l, _)) = absurd (omega (arith, l, e))

        pub parts_end : {before K : ℕ} {b'' v v' : List ℕ} {r : Step} → ¬ (n ≡ 0) → (r ≡ step_of 0 q (n + 1) t) × (b'' ≡ put_at b' (i + n) (record_of 37 0 σ q (before + n + 1) (0, 0))) → Kept K v v' → Saying before K b'' x' v v' r
        parts_end e put kept = on_fin (last_as (λ ξ. other ξ ∙ text.unexpected_is s g.at) e) (omega arith) put kept

      module _ (yes : is_part s g.at ≡ true) {K' : ℕ} {b'' x'' y' y'' : List ℕ} {z : Step} (h : SaidSub 10 left lines s (i + n) (u + t) K' g.at b' b'' x' x'' y' y'' z) where
        moved : (ξ : Any) → walk s (under_any 37 left lines ξ) σ onward q ≡ to g.at
        moved ξ = onward_to s (under_any 37 left lines ξ) σ q g.at (m.good f) yes

        before : On s left lines σ 37 p i u b b' x x' traversal_lay q n t 0 → On s left lines σ 37 p i u b b' x x' (kid portion (rep onward portion (fin 0))) g.at n t (0 + 0)
        before o = stage_move 0 o moved (omega (arith, m.low)) parts_there

        pub parts_no : {B K : ℕ} {d d' v v' : List ℕ} → ¬ (z.kind ≡ 0) → Kept K v v' → Saying B K d d' v v' z
        parts_no {B} {K} {d} {d'} {v} {v'} e kept = go w.way
          where
            go : ((n ≡ 0) × On s left lines σ 37 p i u b b' x x' traversal_lay q n t 0) ⊎ ((1 ≤ n) × On s left lines σ 37 p i u b b' x x' (rep onward portion (fin 0)) q n t 1) → Saying B K d d' v v' z
            go (inl (_, o)) = pass_made h.said e (omega (arith, m.low, w.low)) kept (λ y y₂ d₂. stage_kid_no (before o) (λ ξ. down_below s 37 ξ.0 left lines portion σ ((before o).recs ξ) tt tt) refl d₂)
            go (inr (_, o)) = pass_made h.said e (omega (arith, m.low, w.low)) kept (λ y y₂ d₂. stage_rep_no o moved (λ ξ. down_below s 37 ξ.0 left lines portion σ (o.recs ξ) tt tt) refl d₂)

        module _ (e : z.kind ≡ 0) where
          pub parts_far : q < z.end
          parts_far = omega (arith, m.low, h.said.room, good_pos (good h.said e))

          pub parts_more : Parting s left lines σ p i u b b'' x x'' z.end (n + z.count) (t + z.text)
          parts_more = record { way = inr (omega (arith, good_pos (good h.said e)), on); low = omega (arith, w.low, m.low, h.said.room); spent = omega (arith, w.spent, m.low, h.said.spent); high = h.said.high }
            where
              go : ((n ≡ 0) × On s left lines σ 37 p i u b b' x x' traversal_lay q n t 0) ⊎ ((1 ≤ n) × On s left lines σ 37 p i u b b' x x' (rep onward portion (fin 0)) q n t 1)
                  → On s left lines σ 37 p i u b b'' x x'' (rep onward portion (fin 0)) z.end (n + z.count) (t + z.text) 1
              go (inl (_, o)) = stage_kid 1 (before o) refl (λ ξ. down_below s 37 ξ.0 left lines portion σ ((before o).recs ξ) tt tt) refl (good h.said e) (h.over e) refl refl refl refl
              go (inr (_, o)) = stage_rep o moved refl (λ ξ. down_below s 37 ξ.0 left lines portion σ (o.recs ξ) tt tt) refl (good h.said e) m.low refl refl refl refl

              on : On s left lines σ 37 p i u b b'' x x'' (rep onward portion (fin 0)) z.end (n + z.count) (t + z.text) 1
              on = go w.way
