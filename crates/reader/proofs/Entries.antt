-- An object's item: its key, its sign and its value.
use Prim.Native.Nat.{ℕ, ◌+◌, ◌≤◌}
use mathlib.Core.Path.{◌≡◌, refl, sym, ap, ◌∙◌}
use mathlib.Core.Bool.{Bool, false}
use mathlib.Core.Option.{some}
use mathlib.Core.List.{List, [], ◌∷◌}
use native.Mathlib.Omega.{arith}
use lib.ListN.{length}
use Rattle.engine.specs.Base.{Outcome, halt, Tree, rename}
use Rattle.engine.specs.BaseLaws.{size_pos}
use Rattle.engine.specs.Engine.{FailIn}
use Rattle.engine.specs.Layout.{fin, move, kid, fork, grammar}
use Rattle.engine.specs.Way.{mid, way_kid}
use Rattle.lexis.specs.Keys.{among}
use Rattle.index.specs.Index.{starts, Indexed}
use Rattle.index.specs.IndexLaws.{starts_kept, indexed_kept}
use Rattle.grammar.specs.Moves.{Under, to, no, skip, an_expression, an_item, gap, mark, fresh, line, walk, atom}
use Rattle.grammar.specs.Layouts.{key, value, same_line, Layout, layouts, layout_of, item_lay}
use Rattle.grammar.specs.Hcl.{hcl, under, bare, pick_at}
use Rattle.grammar.proofs.Sane.{sane}
use Rattle.grammar.specs.Table.{record_of}
use Rattle.reader.specs.Buffer.{put_at}
use Rattle.reader.specs.Said.{Step, step_of, Climbs, Good, Kept, Said, SaidItem, One}
use Rattle.reader.specs.Items.{met_in, bared, equals_step, colon_step, Signed, equals, colon, neither}
use Rattle.reader.proofs.Stages.{put_of, Stage, stage_start, stage_take, stage_move, stage_yes, stage_no, stage_stop, stage_kid, stage_kid_no}
use Rattle.reader.proofs.Answers.{good, from_good, refused, pass, done, Done, stage_made, done_head, head_no, head_whole, head_whole_no, kept_join}
use Rattle.reader.proofs.Bares.{bare_is, put_bare}
use Rattle.reader.proofs.Objects.{sign_walk}

-- ---- what is not changed of the keys is met as before

pub still_indexed : {s y y' : List ℕ} {first k : ℕ} → Kept k y y' → Indexed s y first k → Indexed s y' first k
still_indexed {s} {y} {y'} {first} {k} h g = indexed_kept y y' k h.same s first g

pub gap_walk : (s : List ℕ) (b : Under) (σ p : ℕ) {q : ℕ} → skip s false p ≡ to q → walk s b σ same_line p ≡ to q
unfolding walk atom
gap_walk s b σ p e = rw e

pub gap_stop : (s : List ℕ) (b : Under) (σ p : ℕ) {k q : ℕ} → skip s false p ≡ no k q → walk s b σ same_line p ≡ no k q
unfolding walk atom
gap_stop s b σ p e = rw e

-- ---- the item's production

-- after the key; after the sign with a flag
abbrev sign_lay : Layout
sign_lay =
    fork (gap line ∷ fresh ∷ mark (61 ∷ []) ((61 ∷ 61 ∷ []) ∷ (61 ∷ 62 ∷ []) ∷ []) ∷ []) (move same_line (kid value (fin 0)))
    (move (gap line ∷ fresh ∷ mark (58 ∷ []) [] ∷ []) (move same_line (kid value (fin 1))))

abbrev value_lay : ℕ → Layout
value_lay φ = move same_line (kid value (fin φ))

module _ (s : List ℕ) (left : ℕ) (ks : List ℕ) (i u p : ℕ) where
  abbrev in_item : Under
  in_item = under left false (an_item ks)

  -- the item under way
  abbrev Item : List ℕ → List ℕ → List ℕ → List ℕ → Layout → ℕ → ℕ → ℕ → ℕ → Type 0
  Item b b' x x' l q n t w = Stage One s (λ _. mid (hcl s) in_item p [] 13 (layout_of 13) p) (λ _. in_item) p 13 p i u b b' x x' l q n t w

  picked : pick_at s in_item p ≡ some 13
  unfolding pick_at
  picked = refl

  pub item_start : (b x : List ℕ) → p ≤ length s → Item b b x x item_lay p 0 0 0
  unfolding layouts
  item_start b x h = stage_start (λ _. []) (omega arith) h

  pub item_fails : {z q : ℕ} → FailIn (grammar (hcl s)) (mid (hcl s) in_item p [] 13 (layout_of 13) p) z q → Climbs s in_item 8 p (halt z q)
  item_fails f = head_whole_no s picked (omega arith) (head_no s picked f)

  -- the key, its record named anew
  pub item_key : {b b' b'' x x' : List ℕ} {e n t : ℕ} → Good (Climbs s (under left false an_expression) 0 p) s i u p b b' x x' e n t → b'' ≡ bared s b' i n p e → p ≤ length s → Item b b'' x x' sign_lay e n t 0
  item_key {b} {x = x} g q h =
      let z = g.tree in
      stage_take 0 key z (rename bare z) refl (item_start b x h) (λ ξ ts y. way_kid (hcl s) y refl g.gives) (put_bare (bare_is s left false 0 p z g.gives) (put_of g) q) g.end (omega arith) (omega (arith, g.room)) (omega arith) (omega arith) (omega arith) (omega arith)

  -- the sign
  module _ {b b' x x' : List ℕ} {e n t : ℕ} (met : Bool) (same : among s ks p ≡ met) (g : Item b b' x x' sign_lay e n t 0) where
    pub item_sign : {q φ : ℕ} → Signed (equals_step met s p e) (colon_step met s p e) 0 q φ → e + 1 ≤ q → q ≤ length s → Item b b' x x' (value_lay φ) q n t 1
    item_sign (equals h) low high = stage_yes 1 g (λ ξ. sign_walk s in_item p _ _ met e same ∙ h) low high
    item_sign (colon h k) low high = stage_move 1 (stage_no g (λ ξ. sign_walk s in_item p _ _ met e same ∙ h)) (λ ξ. sign_walk s in_item p _ _ met e same ∙ k) low high

    pub item_sign_no : {z q φ : ℕ} → Signed (equals_step met s p e) (colon_step met s p e) z q φ → ¬ (z ≡ 0) → Climbs s in_item 8 p (halt z q)
    item_sign_no (equals h) pos = absurd (pos refl)
    item_sign_no (colon h k) pos = absurd (pos refl)
    item_sign_no (neither h k) pos = item_fails (stage_stop (stage_no g (λ ξ. sign_walk s in_item p _ _ met e same ∙ h)) (λ ξ. sign_walk s in_item p _ _ met e same ∙ k) tt)

-- ---- the answers

said_item : {s : List ℕ} {left i u k first p : ℕ} {b b' x x' y y' : List ℕ} {r : Step}
    → ((ks : List ℕ) → among s ks p ≡ met_in s y first k p → Said (Climbs s (under left false (an_item ks)) 8 p) s i u k p b b' x x' y y' r) → (r.kind ≡ 0 → p + 3 ≤ r.end) → SaidItem s left i u k first p b b' x x' y y' r
said_item {k = k} {first} {y = y} f long =
    let h = f (starts y first k) refl in
    record { said = f; room = h.room; spent = h.spent; high = h.high; kept = h.kept; long = long }

no_length : {A : Type 0} {z q : ℕ} {r : Step} → r ≡ step_of z q 0 0 → ¬ (z ≡ 0) → r.kind ≡ 0 → A
no_length e pos h = absurd (pos (sym (ap (λ (x : Step). x.kind) e) ∙ h))

-- what was read has a byte at least
pub read_long : {Z : Outcome ℕ (Tree ℕ) → Type 0} {s : List ℕ} {i u k p : ℕ} {b b' x x' y y' : List ℕ} {r : Step} → Said Z s i u k p b b' x x' y y' r → r.kind ≡ 0 → p + 1 ≤ r.end
read_long a ok = let g = good a ok in omega (arith, g.room, g.count, size_pos g.tree)

-- after the key: m is what was answered of it
module _ (first : ℕ) {s : List ℕ} {left i u k p : ℕ} {b b₁ x x₁ y y₁ : List ℕ} {m : Step} (a : Said (Climbs s (under left false an_expression) 0 p) s i u k p b b₁ x x₁ y y₁ m) (within : p ≤ length s) where
  pub no_key : ¬ (m.kind ≡ 0) → SaidItem s left i u k first p b b₁ x x₁ y y₁ m
  no_key pos = said_item (λ ks same. pass a pos (omega arith) (λ z q h. item_fails s left ks i u p (stage_kid_no (item_start s left ks i u p b x within) (λ ξ. refl) refl h tt)) a.kept) (λ z. absurd (pos z))

  met_same : (ks : List ℕ) → among s ks p ≡ met_in s y first k p → among s ks p ≡ met_in s y₁ first k p
  met_same ks h = h ∙ ap (λ (l : List ℕ). among s l p) (sym (starts_kept y y₁ k a.kept.same first))

  module _ {b₂ : List ℕ} (ok : m.kind ≡ 0) (put : b₂ ≡ bared s b₁ i m.count p m.end) where
    module _ {z q φ : ℕ} (sign : Signed (equals_step (met_in s y₁ first k p) s p m.end) (colon_step (met_in s y₁ first k p) s p m.end) z q φ) where
      pub no_sign : {r : Step} → ¬ (z ≡ 0) → r ≡ step_of z q 0 0 → p ≤ q → q ≤ length s → SaidItem s left i u k first p b b₂ x x₁ y y₁ r
      no_sign pos e low high =
          said_item (λ ks same. refused z q e (item_sign_no s left ks i u p (met_in s y₁ first k p) (met_same ks same) (item_key s left ks i u p (good a ok) put within) sign pos) (omega arith) low high a.kept) (no_length e pos)

      module _ (zero-kind : z ≡ 0) (low : m.end + 1 ≤ q) (high : q ≤ length s) where
        signed : (ks : List ℕ) → among s ks p ≡ met_in s y first k p → Item s left ks i u p b b₂ x x₁ (value_lay φ) q m.count m.text 1
        signed ks same = item_sign s left ks i u p (met_in s y₁ first k p) (met_same ks same) (item_key s left ks i u p (good a ok) put within) (rw zero-kind at sign) low high

        pub no_space : {w e : ℕ} {r : Step} → skip s false q ≡ no w e → ¬ (w ≡ 0) → r ≡ step_of w e 0 0 → q ≤ e → e ≤ length s → SaidItem s left i u k first p b b₂ x x₁ y y₁ r
        no_space {w} {e} h pos f low' high' =
            said_item (λ ks same. refused w e f (item_fails s left ks i u p (stage_stop (signed ks same) (λ ξ. gap_stop s (under left false (an_item ks)) p q h) tt)) (omega arith) (omega (arith, read_long a ok)) high' a.kept) (no_length f pos)

        module _ {e : ℕ} (sp : skip s false q ≡ to e) (low' : q ≤ e) (high' : e ≤ length s) {b₃ x₂ y₂ : List ℕ} {v : Step}
            (c : Said (Climbs s (under left false an_expression) 0 e) s (i + m.count) (u + m.text) k e b₂ b₃ x₁ x₂ y₁ y₂ v) where
          spaced : (ks : List ℕ) → among s ks p ≡ met_in s y first k p → Item s left ks i u p b b₂ x x₁ (kid value (fin φ)) e m.count m.text (1 + 0)
          spaced ks same = stage_move 0 (signed ks same) (λ ξ. gap_walk s (under left false (an_item ks)) p q sp) (omega arith) high'

          pub no_value : ¬ (v.kind ≡ 0) → SaidItem s left i u k first p b b₃ x x₂ y y₂ v
          no_value pos =
              said_item (λ ks same. pass c pos (omega (arith, read_long a ok)) (λ z q h. item_fails s left ks i u p (stage_kid_no (spaced ks same) (λ ξ. refl) refl h tt)) (kept_join a.kept c.kept)) (λ z. absurd (pos z))

          module _ (done-value : v.kind ≡ 0) {b₄ : List ℕ} {r : Step} (answer : r ≡ step_of 0 v.end (m.count + v.count + 1) (m.text + v.text))
              (laid : b₄ ≡ put_at b₃ (i + (m.count + v.count)) (record_of 13 φ p v.end (0 + (m.count + v.count) + 1) (0, 0))) where
            whole : (ks : List ℕ) → among s ks p ≡ met_in s y first k p → Good (Climbs s (under left false (an_item ks)) 8 p) s i u p b b₄ x x₂ v.end (m.count + v.count + 1) (m.text + v.text)
            whole ks same =
                let st = stage_kid 0 (spaced ks same) refl (λ ξ. refl) refl (good c done-value) (omega (arith, c.room)) refl refl refl refl in
                let d = done (stage_made 0 st answer laid) (ap (λ (x : Step). x.kind) answer) in
                let d' : Done One s (λ _. under left false (an_item ks)) p (λ _. []) 13 (layout_of 13) p i u 0 b b₄ x x₂ v.end (m.count + v.count + 1) (m.text + v.text) = rw answer at d in
                head_whole (sane s) (picked s left ks i u p) (omega arith) (done_head refl refl (picked s left ks i u p) tt refl refl d' (omega (arith, st.room)) (omega (arith, st.spent)) st.high)

            pub item_done : SaidItem s left i u k first p b b₄ x x₂ y y₂ r
            item_done = said_item (λ ks same. from_good (whole ks same) answer (kept_join a.kept c.kept)) (λ z. rw answer (omega (arith, read_long a ok, read_long c done-value)))
