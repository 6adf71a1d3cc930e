-- The answers of `first` and `grow`: a token alone, and a binary operator with what stands to its right.
use Prim.Native.Nat.{ℕ, ◌+◌, ◌≤◌, ◌<◌}
use mathlib.Core.Path.{◌≡◌, refl, sym, ap, ◌∙◌}
use mathlib.Core.Bool.{Bool}
use mathlib.Core.Option.{some}
use mathlib.Core.List.{List, []}
use native.Mathlib.Omega.{arith}
use lib.ListN.{length}
use lib.Dec.{T}
use borrow.Author.Tests.{ne_eqb, lt-leb}
use Rattle.engine.specs.Base.{Outcome, ok, halt, stuck, Rec, Tree}
use Rattle.engine.specs.Layout.{fin, move, kid}
use Rattle.engine.specs.Way.{mid, part_led, part_led_no}
use Rattle.grammar.specs.Kinds.{tight_of}
use Rattle.grammar.specs.Moves.{Under, an_expression, to, no, walk, atom, skip, unexpected}
use Rattle.grammar.specs.Layouts.{Layout, layout_of, round, right}
use Rattle.grammar.specs.Hcl.{hcl, pick_at, under, grows}
use Rattle.grammar.specs.Table.{record_of}
use Rattle.grammar.specs.Thrift.{spare}
use Rattle.grammar.specs.Wants.{want_in, down_below}
use Rattle.grammar.specs.Said.{Went, Moved, went_of}
use Rattle.grammar.specs.PickLaws.{Following, kind_some, pick_none, follow_kind}
use Rattle.grammar.specs.Alone.{head_of, Alone, word, digits, HeadAt, NextAt}
use Rattle.reader.specs.Buffer.{put_at}
use Rattle.reader.specs.Said.{Step, step_of, Climbs, Firsts, Heads, Kept, Any, under_any, any_before, One, Said, SaidMade, Asked, Laying}
use Rattle.reader.proofs.Answers.{good, from_good, refused, done, done_head, stage_made, made_no, fits_all}
use Rattle.reader.proofs.Stages.{Stage, stage_start, stage_lay, stage_move, stage_no, stage_stop, stage_kid, stage_kid_no}
use Rattle.reader.proofs.Laidings.{pass_made}
use Rattle.reader.proofs.Exprs.{none_as, unexpected_is}
use Rattle.reader.proofs.Terms.{term_firm}

-- ---- an answer to another question

pub said_as : {Z Y : Outcome ℕ (Tree ℕ) → Type 0} {s : List ℕ} {i u k p : ℕ} {b b' x x' y y' : List ℕ} {r : Step} → ((o : Outcome ℕ (Tree ℕ)) → Z o → Y o) → Said Z s i u k p b b' x x' y y' r → Said Y s i u k p b b' x x' y y' r
said_as f w = record { out = w.out; gives = f w.out w.gives; told = w.told; room = w.room; spent = w.spent; high = w.high; kept = w.kept }

pub head_first : (s : List ℕ) (a : Under) (k p : ℕ) → pick_at s a p ≡ some k → tight_of k ≡ 9 → (o : Outcome ℕ (Tree ℕ)) → Heads s a p o → Firsts s a p o
head_first s a k p q tight (ok t) h = λ j low. part_led (hcl s) (fits_all s a k p j q (omega arith)) h
head_first s a k p q tight (halt x z) h = λ j low. part_led_no (hcl s) (fits_all s a k p j q (omega arith)) h
head_first s a k p q tight stuck h = h

module _ {s : List ℕ} {lines : Bool} {p k e : ℕ} (h : HeadAt s p lines (head_of k e)) where
  -- what else stands first
  pub first_head : {left i u K : ℕ} {b b' x x' y y' : List ℕ} {r : Step} → ¬ (k ≡ 0) → Said (Heads s (under left lines an_expression) p) s i u K p b b' x x' y y' r → Said (Firsts s (under left lines an_expression) p) s i u K p b b' x x' y y' r
  first_head {left} n w =
      said_as (head_first s (under left lines an_expression) k p (kind_some (pick_at s (under left lines an_expression) p) k (sym (h.kind left)) n) (term_firm s lines p k h.kind n)) w

  -- nothing may start here
  pub first_none : {left i u K : ℕ} {b b' x x' y y' : List ℕ} {w : Went} {r : Step} → k ≡ 0 → w ≡ went_of (unexpected s p) → r ≡ step_of w.kind w.at 0 0 → p ≤ length s → Kept K y y'
      → Said (Firsts s (under left lines an_expression) p) s i u K p b b' x x' y y' r
  first_none {left} {w = w} z f q inside kept =
      let n = pick_none s (under left lines an_expression) p (sym (h.kind left) ∙ z) in
      let (pos, place) = unexpected_is s p f in
      refused w.kind w.at q (λ j low. none_as s (under left lines an_expression) p j n f) pos (omega arith) (omega arith) kept

  -- ---- a token alone

  module _ (far : e ≡ p → ⊥) {i u K : ℕ} {y : List ℕ} (asked : Asked s y i u K p) where
    module _ (left : ℕ) (b x : List ℕ) where
      abbrev Here : Under
      Here = under left lines an_expression

      high : e ≤ length s
      high = omega (arith, h.high, asked.inside)

      start : Stage One s (λ _. mid (hcl s) Here p [] k (layout_of k) p) (λ _. Here) p k p i u b b x x (layout_of k) p 0 0 0
      start = stage_start (λ _. []) (omega arith) asked.inside

      ended : Alone s p k e → Stage One s (λ _. mid (hcl s) Here p [] k (layout_of k) p) (λ _. Here) p k p i u b b x x (fin 0) e 0 0 (0 + 1)
      ended (word m l w) = stage_move 1 (stage_lay l start) (λ _. w Here p) (omega (arith, h.low, far)) high
      ended (digits m n l v z lay no' w) = stage_move 1 (stage_no (stage_lay lay start) (λ _. no' Here p)) (λ _. w Here p) (omega (arith, h.low, far)) high

      pub first_leaf : {r : Step} {b' : List ℕ} {K' : ℕ} {v v' : List ℕ} → (r ≡ step_of 0 e (0 + 1) 0) × (b' ≡ put_at b (i + 0) (record_of k 0 p e (0 + 0 + 1) (0, 0))) → Kept K' v v'
          → Said (Firsts s Here p) s i u K' p b b' x x v v' r
      first_leaf {r} (q, put) kept =
          let pos = h.some far in
          let most = h.small far in
          let some_kind : ¬ (k ≡ 0) = λ z. omega arith in
          let made = stage_made 0 (ended (h.alone far)) q put in
          let d = done made (ap (λ (v : Step). v.kind) q) in
          let pick = kind_some (pick_at s Here p) k (sym (h.kind left)) some_kind in
          let hd = done_head (ne_eqb k 6 (λ z. omega arith)) (ne_eqb k 9 (λ z. omega arith)) pick tt refl refl d (rw q (omega (arith, h.low, far))) (rw q (omega (arith, h.low))) (rw q high) in
          first_head some_kind (from_good hd (q ∙ rw q) kept)

-- ---- a binary operator

spare_none : (k : ℕ) → k ≤ 36 → spare k ≡ 0
spare_none k h = rw (lt-leb 38 k (omega arith))

round_on : (s : List ℕ) (a : Under) (σ p q : ℕ) → skip s a.lines p ≡ to q → walk s a σ round p ≡ to q
unfolding walk atom
round_on s a σ p q e = rw e

round_off : (s : List ℕ) (a : Under) (σ p x y : ℕ) → skip s a.lines p ≡ no x y → walk s a σ round p ≡ no x y
unfolding walk atom
round_off s a σ p x y e = rw e

module _ {s : List ℕ} {lines : Bool} {p k e : ℕ} (h : NextAt s p lines (head_of k e)) (far : e ≡ p → ⊥) {start before : ℕ} (lays : Laying start p before k) (left : ℕ) {i u K : ℕ} {y : List ℕ} (asked : Asked s y i u K p) (b x : List ℕ) where
  abbrev On : List ℕ → List ℕ → Layout → ℕ → ℕ → ℕ → ℕ → Type 0
  On b' x' l q m t w = Stage Any s (λ ξ. mid (hcl s) (under_any k left lines ξ) start (any_before ξ) k (layout_of k) p) (under_any k left lines) start k p i u b b' x x' l q m t w

  pub grow_high : e ≤ length s
  grow_high = omega (arith, h.high, asked.inside)

  pub grow_low : p < e
  grow_low = omega (arith, h.low, far)

  signed : On b x (move round (kid (right (tight_of k)) (fin 0))) e 0 0 (0 + 1)
  signed = stage_move 1 (stage_lay (h.lays far) (stage_start any_before (omega arith) asked.inside)) (λ ξ. h.operates far left start (want_in k ξ.0)) (omega (arith, grow_low)) grow_high

  module _ {g : Went} (sp : Moved s e lines g) where
    pub grow_space : {r : Step} {K' : ℕ} {v v' b' x' : List ℕ} → ¬ (g.kind ≡ 0) → r ≡ step_of g.kind g.at 0 0 → Kept K' v v'
        → SaidMade Any s (under_any k left lines) start any_before k (layout_of k) p i u before p K' b b' x x' v v' r
    grow_space f q kept = record {
      made = made_no g.kind g.at q (omega arith) (stage_stop signed (λ ξ. round_off s (under_any k left lines ξ) start e g.kind g.at (sp.bad f)));
      room = rw q (omega (arith, sp.low, h.low));
      spent = rw q (omega (arith, sp.low, h.low));
      high = rw q inside;
      kept = kept;
      over = λ z. absurd (f (sym (ap (λ (a : Step). a.kind) q) ∙ z));
    }
      where
        inside : g.at ≤ length s
        inside = omega (arith, sp.high, grow_high)

    module _ (f : g.kind ≡ 0) where
      pub grow_inside : g.at ≤ length s
      grow_inside = omega (arith, sp.high, grow_high)

      behind : On b x (kid (right (tight_of k)) (fin 0)) g.at 0 0 (0 + 1 + 0)
      behind = stage_move 0 signed (λ ξ. round_on s (under_any k left lines ξ) start e g.at (sp.good f)) (omega (arith, sp.low)) grow_inside

      follower : Following k
      follower = follow_kind s p left lines k (h.kind left) (λ z. omega (arith, h.some far))

      fit : T (grows (want_in k 0))
      fit = rw follower.want tt

      down : (ξ : Any) (ks : List (Rec ℕ)) → (hcl s).down (under_any k left lines ξ) (right (tight_of k)) start ks ≡ some (under left lines an_expression)
      down ξ ks = down_below s k ξ.0 left lines (right (tight_of k)) start ks fit tt

      module _ {K'' : ℕ} {b' x' y'' y''' : List ℕ} {m : Step} (w : Said (Climbs s (under left lines an_expression) (tight_of k) g.at) s i u K'' g.at b b' x x' y'' y''' m) where
        pub grow_no : {K' : ℕ} {v v' c c' : List ℕ} → ¬ (m.kind ≡ 0) → Kept K' v v' → SaidMade Any s (under_any k left lines) start any_before k (layout_of k) p i u before p K' b c x c' v v' m
        grow_no n kept = pass_made w n (omega (arith, sp.low, h.low)) kept (λ a o d. stage_kid_no behind (λ ξ. down ξ (behind.recs ξ)) refl d)

        module _ (n : m.kind ≡ 0) where
          whole : On b' x' (fin 0) m.end m.count m.text (0 + 1 + 0 + 0)
          whole = stage_kid 0 behind refl (λ ξ. down ξ (behind.recs ξ)) refl (good w n) (omega (arith, w.room)) (omega arith) (omega arith) (omega arith) (omega arith)

          pub grow_room : p + m.count + 1 ≤ m.end
          grow_room = omega (arith, whole.room)

          pub grow_ok : {r : Step} {b'' : List ℕ} {K' : ℕ} {v v' : List ℕ} → (r ≡ step_of 0 m.end (m.count + 1) m.text) × (b'' ≡ put_at b' (i + m.count) (record_of k 0 start m.end (before + m.count + 1) (0, 0))) → Kept K' v v'
              → SaidMade Any s (under_any k left lines) start any_before k (layout_of k) p i u before p K' b b'' x x' v v' r
          grow_ok (q, put) kept = record {
            made = stage_made before whole q put;
            room = rw q (omega (arith, grow_room));
            spent = rw q whole.spent;
            high = rw q w.high;
            kept = kept;
            over = λ _. rw q (omega (arith, grow_room, spare_none k (h.binary far)));
          }
