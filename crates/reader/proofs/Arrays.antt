-- An array: what stands behind an item, and the answers of `array`.
use Prim.Native.Nat.{ℕ, ◌+◌, ◌-◌, ◌≤◌, ◌<◌}
use mathlib.Core.Path.{◌≡◌, refl, sym, ap, subst, ◌∙◌}
use mathlib.Core.Bool.{Bool, true, false, cond}
use mathlib.Core.Logic.{◌⊎◌, inl, inr}
use mathlib.Core.Option.{some}
use mathlib.Core.List.{List, [], ◌∷◌}
use native.Mathlib.Omega.{arith}
use lib.ListN.{length}
use lib.Dec.{eqb}
use borrow.Author.Tests.{eqb-true, eq-eqb}
use Rattle.lexis.specs.Bytes.{byte_at, stands, is_foreign}
use Rattle.lexis.specs.RunLaws.{stands_one, stands_inside}
use Rattle.lexis.specs.RunLaws as runs
use Rattle.engine.specs.Layout.{fin, move, kid, fork, rep}
use Rattle.grammar.specs.Kinds.{Foreign, Unexpected, Deep}
use Rattle.grammar.specs.Moves.{Under, to, no, walk, atom, skip, unexpected, an_expression}
use Rattle.grammar.specs.Layouts.{Layout, layouts, layout_of, inside, space, past, between, closing, array_lay}
use Rattle.grammar.specs.Hcl.{under, pick_at}
use Rattle.grammar.specs.Table.{record_of}
use Rattle.grammar.specs.Wants.{down_below}
use Rattle.grammar.specs.Said.{Went, went_of, Moved}
use Rattle.grammar.specs.TextLaws as text
use Rattle.reader.specs.Buffer.{put_at}
use Rattle.reader.specs.Said.{Step, step_of, Climbs, Kept, Any, under_any, any_before, Said, SaidMade, Asked, Closing}
use Rattle.reader.specs.Bare.{Halts, Beyond}
use Rattle.reader.proofs.Answers.{good}
use Rattle.reader.proofs.Stages.{stage_move, stage_yes, stage_no, stage_end, stage_rep, stage_rep_no}
use Rattle.reader.proofs.Laids.{On}
use Rattle.reader.proofs.Laidings.{pass_made, good_pos}
use Rattle.reader.proofs.Exprs.{unexpected_is}
use Rattle.reader.proofs.Ons.{unexpected_as, open_to, open_deep, space_to, space_no, past_to, past_gap, past_no, on_start, on_stop, on_fin, on_inside_no, on_inside}

-- ---- behind an item

module _ (s : List ℕ) (e : ℕ) where
  square : (q : ℕ) (t : Bool) → stands (93 ∷ []) s q ≡ t → eqb (byte_at s q) 93 ≡ t
  square q t f = sym (stands_one 93 s q refl) ∙ f

  comma : (q : ℕ) (t : Bool) → stands (44 ∷ []) s q ≡ t → eqb (byte_at s q) 44 ≡ t
  comma q t f = sym (stands_one 44 s q refl) ∙ f

  module _ (y z : ℕ) (f : skip s true e ≡ no y z) where
    gap_between : Halts s (between 93) e
    unfolding walk atom
    gap_between = record { kind = y; place = z; is = λ b σ. rw f }

    gap_closing : (b : Under) (σ : ℕ) → walk s b σ (closing 93) e ≡ no y z
    unfolding walk atom
    gap_closing b σ = rw f

  module _ {q : ℕ} (f : skip s true e ≡ to q) where
    -- no comma
    module _ (n : stands (44 ∷ []) s q ≡ false) where
      bare_between : Halts s (between 93) e
      unfolding walk atom
      bare_between = record { kind = cond (is_foreign (byte_at s q)) Foreign Unexpected; place = q; is = λ b σ. rw (f, n, text.unexpected_is s q) }

      bare_to : stands (93 ∷ []) s q ≡ true → (b : Under) (σ : ℕ) → walk s b σ (closing 93) e ≡ to (q + 1)
      unfolding walk atom
      bare_to h b σ = rw (f, comma q false n, h)

      bare_no : stands (93 ∷ []) s q ≡ false → (b : Under) (σ : ℕ) → walk s b σ (closing 93) e ≡ unexpected s q
      unfolding walk atom
      bare_no h b σ = rw (f, comma q false n, h, text.unexpected_is s q)

    -- a comma
    module _ (m : stands (44 ∷ []) s q ≡ true) where
      module _ (y z : ℕ) (g : skip s true (q + 1) ≡ no y z) where
        cut_between : Halts s (between 93) e
        unfolding walk atom
        cut_between = record { kind = y; place = z; is = λ b σ. rw (f, m, g) }

        cut_closing : (b : Under) (σ : ℕ) → walk s b σ (closing 93) e ≡ no y z
        unfolding walk atom
        cut_closing b σ = rw (f, comma q true m, g)

      module _ {r : ℕ} (g : skip s true (q + 1) ≡ to r) where
        more_between : stands (93 ∷ []) s r ≡ false → (b : Under) (σ : ℕ) → walk s b σ (between 93) e ≡ to r
        unfolding walk atom
        more_between h b σ = rw (f, m, g, square r false h)

        last_between : stands (93 ∷ []) s r ≡ true → Halts s (between 93) e
        unfolding walk atom
        last_between h = record { kind = cond (is_foreign (byte_at s r)) Foreign Unexpected; place = r; is = λ b σ. rw (f, m, g, square r true h, text.unexpected_is s r) }

        last_closing : stands (93 ∷ []) s r ≡ true → (b : Under) (σ : ℕ) → walk s b σ (closing 93) e ≡ to (r + 1)
        unfolding walk atom
        last_closing h b σ = rw (f, comma q true m, g, h)

differ : {A : Type 0} {t : Bool} → t ≡ true → t ≡ false → A
differ e f = runs.clash (sym e ∙ f)

module _ {s : List ℕ} {e : ℕ} {c : Went} (m : Moved s e true c) where
  pub beyond_gap : ¬ (c.kind ≡ 0) → Beyond s e c
  beyond_gap n = record {
    bad = λ _. (gap_between s e c.kind c.at (m.bad n), gap_closing s e c.kind c.at (m.bad n));
    last = λ z h. absurd (n z);
    more = λ z h. absurd (n z);
    low = m.low;
    high = m.high;
  }

  module _ (z : c.kind ≡ 0) where
    -- a comma is within the source
    pub beyond_inside : stands (44 ∷ []) s c.at ≡ true → c.at < length s
    beyond_inside k = let n = stands_inside (44 ∷ []) s c.at k in omega arith

    pub beyond_comma : {d : Went} → stands (44 ∷ []) s c.at ≡ true → Moved s (c.at + 1) true d → Beyond s e d
    beyond_comma {d} k o = record {
      bad = λ n. (cut_between s e (m.good z) k d.kind d.at (o.bad n), cut_closing s e (m.good z) k d.kind d.at (o.bad n));
      last = λ y h. (last_between s e (m.good z) k (o.good y) h, last_closing s e (m.good z) k (o.good y) h);
      more = λ y h. more_between s e (m.good z) k (o.good y) h;
      low = omega (arith, m.low, o.low);
      high = let n = stands_inside (44 ∷ []) s c.at k in omega (arith, m.low, o.high);
    }

    module _ (k : stands (44 ∷ []) s c.at ≡ false) where
      pub beyond_last : stands (93 ∷ []) s c.at ≡ true → Beyond s e c
      beyond_last h = record {
        bad = λ n. absurd (n z);
        last = λ _ _. (bare_between s e (m.good z) k, bare_to s e (m.good z) k h);
        more = λ _ g. differ h g;
        low = m.low;
        high = m.high;
      }

      pub beyond_else : {w : Went} → stands (93 ∷ []) s c.at ≡ false → w ≡ went_of (unexpected s c.at) → Beyond s e w
      beyond_else {w} h g =
          let (pos, place) = unexpected_is s c.at g in
          record {
            bad = λ _. (bare_between s e (m.good z) k, λ b σ. bare_no s e (m.good z) k h b σ ∙ unexpected_as s c.at g);
            last = λ y _. absurd (omega (arith, y, pos));
            more = λ y _. absurd (omega (arith, y, pos));
            low = omega (arith, m.low, place);
            high = omega (arith, m.high, place);
          }

-- ---- the loop

abbrev Rest : Layout
Rest = rep (between 93) inside (move (closing 93) (fin 0))

abbrev Head : Layout
Head = fork (past (93 ∷ [])) (fin 0) (move space (kid inside Rest))

array_lays : layout_of 11 ≡ array_lay
unfolding layouts
array_lays = refl

-- at q, past the opener or past an item
pub record Opened (s : List ℕ) (left : ℕ) (lines : Bool) (p i u : ℕ) (b b' x x' : List ℕ) (q n t : ℕ) : Type 0 where
  pub skips : skip s true (p + 1) ≡ to q
  pub on : On s left lines p 11 p i u b b' x x' Head (p + 1) n t 1

pub record Further (s : List ℕ) (left : ℕ) (lines : Bool) (p i u : ℕ) (b b' x x' : List ℕ) (q n t : ℕ) : Type 0 where
  pub from : ℕ
  pub went : Went
  pub beyond : Beyond s from went
  pub good : went.kind ≡ 0
  pub there : q ≡ went.at
  pub on : On s left lines p 11 p i u b b' x x' Rest from n t 1

pub record Arraying (s : List ℕ) (left : ℕ) (lines : Bool) (p i u : ℕ) (b b' x x' : List ℕ) (q n t : ℕ) : Type 0 where
  pub way : Opened s left lines p i u b b' x x' q n t ⊎ Further s left lines p i u b b' x x' q n t
  pub low : p + 1 + n ≤ q
  pub spent : p + 1 + t ≤ q
  pub high : q ≤ length s

pub array_inside : (s : List ℕ) (p : ℕ) → byte_at s p ≡ 91 → p < length s
array_inside s p e = runs.inside (λ x. eqb x 91) s p refl (eq-eqb (byte_at s p) 91 e)

module _ {s : List ℕ} {i u p K₀ : ℕ} {y₀ : List ℕ} (a : Asked s y₀ i u K₀ p) (e : byte_at s p ≡ 91) (left : ℕ) (lines : Bool) (b x : List ℕ) where
  stood : stands (91 ∷ []) s p ≡ true
  stood = stands_one 91 s p refl ∙ eq-eqb (byte_at s p) 91 e

  pub array_deep : {K : ℕ} {d d' v v' : List ℕ} {r : Step} → left ≡ 0 → r ≡ step_of Deep p 0 0 → Kept K v v' → SaidMade Any s (under_any 11 left lines) p any_before 11 (layout_of 11) p i u 0 p K b d x d' v v' r
  array_deep n q kept = on_stop Deep p (on_start {b = b} {x = x} array_lays a.inside) (λ ξ. open_deep s (under_any 11 left lines ξ) p (91 ∷ []) p stood n) (omega arith) (omega arith) a.inside q kept

  module _ (n : ¬ (left ≡ 0)) where
    opened : On s left lines p 11 p i u b b x x Head (p + 1) 0 0 1
    opened = stage_move 1 (on_start array_lays a.inside) (λ ξ. open_to s (under_any 11 left lines ξ) p (91 ∷ []) p stood n) (omega arith) (omega (arith, array_inside s p e))

    module _ {g : Went} (m : Moved s (p + 1) true g) where
      pub array_gap : {K : ℕ} {d d' v v' : List ℕ} {r : Step} → ¬ (g.kind ≡ 0) → r ≡ step_of g.kind g.at 0 0 → Kept K v v' → SaidMade Any s (under_any 11 left lines) p any_before 11 (layout_of 11) p i u 0 p K b d x d' v v' r
      array_gap f q kept =
          on_stop g.kind g.at (stage_no opened (λ ξ. past_gap s (under_any 11 left lines ξ) p (93 ∷ []) (p + 1) g.kind g.at (m.bad f)))
          (λ ξ. space_no s (under_any 11 left lines ξ) p (p + 1) g.kind g.at (m.bad f)) (omega (arith, f)) (omega (arith, m.low)) (omega (arith, m.high, array_inside s p e)) q kept

      pub arraying_start : g.kind ≡ 0 → Arraying s left lines p i u b b x x g.at 0 0
      arraying_start f = record { way = inl (record { skips = m.good f; on = opened }); low = omega (arith, m.low); spent = omega (arith, m.low); high = omega (arith, m.high, array_inside s p e) }

module _ {s : List ℕ} {left : ℕ} {lines : Bool} {p i u : ℕ} {b b' x x' : List ℕ} {q n t : ℕ} (w : Arraying s left lines p i u b b' x x' q n t) where
  -- the `]`
  module _ (h : stands (93 ∷ []) s q ≡ true) where
    pub array_high : q < length s
    array_high = let o = stands_inside (93 ∷ []) s q h in omega arith

    ended : On s left lines p 11 p i u b b' x x' (fin 0) (q + 1) n t 1
    ended = go w.way
      where
        go : Opened s left lines p i u b b' x x' q n t ⊎ Further s left lines p i u b b' x x' q n t → On s left lines p 11 p i u b b' x x' (fin 0) (q + 1) n t 1
        go (inl o) = stage_yes 0 o.on (λ ξ. past_to s (under_any 11 left lines ξ) p (93 ∷ []) (p + 1) q o.skips h) (omega (arith, w.low)) (omega (arith, array_high))
        go (inr o) =
            let (halts, shut) = o.beyond.last o.good (subst (λ (c : ℕ). stands (93 ∷ []) s c ≡ true) o.there h) in
            stage_move 0 (stage_end o.on (λ ξ. halts.is (under_any 11 left lines ξ) p)) (λ ξ. shut (under_any 11 left lines ξ) p ∙ ap (λ (c : ℕ). to (c + 1)) (sym o.there)) (omega (arith, o.beyond.low, o.there)) (omega (arith, array_high))

    pub array_closing : {K₀ : ℕ} {y₀ : List ℕ} → Asked s y₀ i u K₀ p → Closing i n 0 p (q + 1) 0
    array_closing a = record { few = omega (arith, a.few, a.inside, a.small); some = omega arith; low = omega (arith, w.low); room = omega (arith, w.low); small = omega (arith, array_high, a.small) }

    pub array_ok : {K : ℕ} {b'' v v' : List ℕ} {r : Step} → (r ≡ step_of 0 (q + 1) (n + 1) t) × (b'' ≡ put_at b' (i + n) (record_of 11 0 p (q + 1) (0 + n + 1) (0, 0))) → Kept K v v'
        → SaidMade Any s (under_any 11 left lines) p any_before 11 (layout_of 11) p i u 0 p K b b'' x x' v v' r
    array_ok put kept = on_fin ended (omega arith) put kept

  -- an item
  module _ (h : stands (93 ∷ []) s q ≡ false) {K' : ℕ} {b'' x'' y' y'' : List ℕ} {z : Step} (j : Said (Climbs s (under (left - 1) true an_expression) 0 q) s (i + n) (u + t) K' q b' b'' x' x'' y' y'' z) where
    before : Opened s left lines p i u b b' x x' q n t → On s left lines p 11 p i u b b' x x' (kid inside Rest) q n t (1 + 0)
    before o =
        stage_move 0 (stage_no o.on (λ ξ. past_no s (under_any 11 left lines ξ) p (93 ∷ []) (p + 1) q o.skips h ∙ text.unexpected_is s q))
        (λ ξ. space_to s (under_any 11 left lines ξ) p (p + 1) q o.skips) (omega (arith, w.low)) w.high

    onto : (o : Further s left lines p i u b b' x x' q n t) (ξ : Any) → walk s (under_any 11 left lines ξ) p (between 93) o.from ≡ to q
    onto o ξ = o.beyond.more o.good (subst (λ (c : ℕ). stands (93 ∷ []) s c ≡ false) o.there h) (under_any 11 left lines ξ) p ∙ ap to (sym o.there)

    pub array_no : {K : ℕ} {d d' v v' : List ℕ} → ¬ (z.kind ≡ 0) → Kept K v v' → SaidMade Any s (under_any 11 left lines) p any_before 11 (layout_of 11) p i u 0 p K b d x d' v v' z
    array_no {K} {d} {d'} {v} {v'} f kept = go w.way
      where
        go : Opened s left lines p i u b b' x x' q n t ⊎ Further s left lines p i u b b' x x' q n t → SaidMade Any s (under_any 11 left lines) p any_before 11 (layout_of 11) p i u 0 p K b d x d' v v' z
        go (inl o) = on_inside_no (before o) j f kept
        go (inr o) = pass_made j f (omega (arith, w.low)) kept (λ y k g. stage_rep_no o.on (onto o) (λ ξ. down_below s 11 ξ.0 left lines inside p (o.on.recs ξ) tt tt) refl g)

    module _ (f : z.kind ≡ 0) where
      pub array_far : q < z.end
      array_far = omega (arith, j.room, good_pos (good j f))

      item : On s left lines p 11 p i u b b'' x x'' Rest z.end (n + z.count) (t + z.text) 1
      item = go w.way
        where
          go : Opened s left lines p i u b b' x x' q n t ⊎ Further s left lines p i u b b' x x' q n t → On s left lines p 11 p i u b b'' x x'' Rest z.end (n + z.count) (t + z.text) 1
          go (inl o) = on_inside (before o) j f refl refl refl refl
          go (inr o) = stage_rep o.on (onto o) refl (λ ξ. down_below s 11 ξ.0 left lines inside p (o.on.recs ξ) tt tt) refl (good j f) (omega (arith, o.beyond.low, o.there)) refl refl refl refl

      module _ {c : Went} (m : Beyond s z.end c) where
        pub array_else : {K : ℕ} {d d' v v' : List ℕ} {r : Step} → ¬ (c.kind ≡ 0) → r ≡ step_of c.kind c.at 0 0 → Kept K v v' → SaidMade Any s (under_any 11 left lines) p any_before 11 (layout_of 11) p i u 0 p K b d x d' v v' r
        array_else g q' kept =
            let (halts, stop) = m.bad g in
            on_stop c.kind c.at (stage_end item (λ ξ. halts.is (under_any 11 left lines ξ) p)) (λ ξ. stop (under_any 11 left lines ξ) p) (omega (arith, g)) (omega (arith, m.low, array_far, w.low)) (omega (arith, m.high, j.high)) q' kept

        pub array_more : c.kind ≡ 0 → Arraying s left lines p i u b b'' x x'' c.at (n + z.count) (t + z.text)
        array_more g = record {
          way = inr (record { from = z.end; went = c; beyond = m; good = g; there = refl; on = item });
          low = omega (arith, m.low, j.room, w.low);
          spent = omega (arith, m.low, j.spent, w.spent);
          high = omega (arith, m.high, j.high);
        }

-- ---- an array by its kind

pub array_square : (s : List ℕ) (left : ℕ) (lines : Bool) (p k : ℕ) → k ≡ 11 → pick_at s (under left lines an_expression) p ≡ some k → byte_at s p ≡ 91
array_square s left lines p k f q = eqb-true (byte_at s p) 91 (text.or_none (eqb (byte_at s p) 91) (text.pick_chosen s left lines p 11 (q ∙ ap some f)))

module _ {k : ℕ} (e : k ≡ 11) {s : List ℕ} {left : ℕ} {lines : Bool} {p i u K : ℕ} where
  pub array_as : {b b' x x' y y' : List ℕ} {r : Step} → SaidMade Any s (under_any 11 left lines) p any_before 11 (layout_of 11) p i u 0 p K b b' x x' y y' r → SaidMade Any s (under_any k left lines) p any_before k (layout_of k) p i u 0 p K b b' x x' y y' r
  array_as {b} {b'} {x} {x'} {y} {y'} {r} m = subst (λ (n : ℕ). SaidMade Any s (under_any n left lines) p any_before n (layout_of n) p i u 0 p K b b' x x' y y' r) (sym e) m
