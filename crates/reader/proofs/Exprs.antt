-- The answers of `sub`, `prim`, `term` and `expr`, from those of the functions that they call.
use Prim.Native.Nat.{ℕ, ◌+◌, ◌≤◌, ◌<◌}
use mathlib.Core.Path.{◌≡◌, refl, sym, ap, subst, subst₂, ◌∙◌}
use mathlib.Core.Bool.{Bool, true, false, ◌||◌}
use mathlib.Core.Option.{Option, none, some}
use mathlib.Core.List.{List, []}
use native.Mathlib.Omega.{arith}
use lib.ListN.{length}
use lib.Dec.{eqb, leb, leb→le, T}
use borrow.Author.Tests.{ne_eqb, eqb-true, eqb-false}
use Rattle.engine.specs.Base.{Outcome, ok, halt, stuck, Rec, Tree, has}
use Rattle.engine.specs.BaseLaws.{has_all}
use Rattle.engine.specs.Engine.{Body, FailIn, FailAt}
use Rattle.engine.specs.Layout.{grammar, after, level, fit, from}
use Rattle.engine.specs.Way.{mid, Part, part_led, part_led_no, part_stop}
use Rattle.engine.specs.Way as way
use Rattle.lexis.specs.Bytes.{byte_at, is_foreign}
use Rattle.grammar.specs.Kinds.{tight_of}
use Rattle.grammar.specs.Moves.{Want, Under, an_expression, no, when, unexpected, refusal}
use Rattle.grammar.specs.Layouts.{Layout, layout_of}
use Rattle.grammar.specs.Hcl.{hcl, pick_at, follow_at, under}
use Rattle.grammar.proofs.Sane.{sane}
use Rattle.grammar.specs.Wants.{want_in}
use Rattle.grammar.specs.Said.{Went, kind_of, TermAt, Follow, went_of}
use Rattle.grammar.specs.PickLaws.{Following, kind_some, pick_none, follow_kind, followed, followers}
use Rattle.reader.specs.Said.{Step, step_of, Climbs, Firsts, Terms, Heads, Good, Kept, Any, under_any, any_before, told_as, Said, Makes, made_as, Made, SaidMade}
use Rattle.reader.proofs.Answers.{good, from_good, refused, pass, done, done_head, head_no, head_whole, head_whole_no, fits_all, Turning, turned, turning_more, turning_no}

-- ---- a production that stands first, as an answer

pub step_is : (r : Step) {e n t : ℕ} → r ≡ step_of 0 e n t → r ≡ step_of 0 r.end r.count r.text
step_is r e = e ∙ rw e

module _ {s : List ℕ} {left : ℕ} {lines : Bool} {k p i u K : ℕ} {b b' x x' y y' : List ℕ} {r : Step}
    (m : SaidMade Any s (under_any k left lines) p any_before k (layout_of k) p i u 0 p K b b' x x' y y' r) (f : eqb k 6 ≡ false) (g : eqb k 9 ≡ false)
    (q : pick_at s (under left lines (want_in k 0)) p ≡ some k) where
  head_as : (o : Outcome ℕ (Body ℕ)) → ((ξ : Any) → Makes s (under_any k left lines ξ) p (any_before ξ) k (layout_of k) p o) → made_as s p k i u 0 b b' x x' r o
      → Said (Heads s (under left lines (want_in k 0)) p) s i u K p b b' x x' y y' r
  head_as (ok z) h (e, t, v) =
      from_good (done_head f g q (0, []) refl refl (done m.made (ap (λ (w : Step). w.kind) e)) m.room m.spent m.high) (step_is r e) m.kept
  head_as (halt n o) h (e, pos) = refused n o e (head_no s q (h (0, []))) pos (omega (arith, m.room, ap (λ (w : Step). w.end) e)) (omega (arith, m.high, ap (λ (w : Step). w.end) e)) m.kept
  head_as stuck h t = absurd t

  pub made_head : Said (Heads s (under left lines (want_in k 0)) p) s i u K p b b' x x' y y' r
  made_head = head_as m.made.out m.made.gives m.made.told

-- what stands first, where no operator is taken
climb_as : (s : List ℕ) (a : Under) (k p i u K : ℕ) (b b' x x' y y' : List ℕ) (r : Step) → pick_at s a p ≡ some k → 8 < tight_of k → (w : Said (Heads s a p) s i u K p b b' x x' y y' r) (o : Outcome ℕ (Tree ℕ))
    → Heads s a p o → told_as s i u b b' x x' r o → Said (Climbs s a 8 p) s i u K p b b' x x' y y' r
climb_as s a k p i u K b b' x x' y y' r q tight w (ok t) h (e, f₁, f₂, f₃) = from_good (head_whole (sane s) q tight (good w (ap (λ (z : Step). z.kind) e))) (step_is r e) w.kept
climb_as s a k p i u K b b' x x' y y' r q tight w (halt n o) h (e, pos) =
    refused n o e (head_whole_no s q tight h) pos (omega (arith, w.room, ap (λ (z : Step). z.end) e)) (omega (arith, w.high, ap (λ (z : Step). z.end) e)) w.kept
climb_as s a k p i u K b b' x x' y y' r q tight w stuck h t = absurd t

pub head_climb : {s : List ℕ} {a : Under} {k p i u K : ℕ} {b b' x x' y y' : List ℕ} {r : Step} → pick_at s a p ≡ some k → 8 < tight_of k → Said (Heads s a p) s i u K p b b' x x' y y' r
    → Said (Climbs s a 8 p) s i u K p b b' x x' y y' r
head_climb {s} {a} {k} {p} {i} {u} {K} {b} {b'} {x} {x'} {y} {y'} {r} q tight w = climb_as s a k p i u K b b' x x' y y' r q tight w w.out w.gives w.told

-- ---- what follows an operand

after_as : (s : List ℕ) (o : Option ℕ) → level (hcl s) o ≡ tight_of (kind_of o)
after_as s none = refl
after_as s (some k) = refl

-- the level of what follows, as the code has it
pub after_is : (s : List ℕ) (left : ℕ) (lines : Bool) (e f : ℕ) → Follow s e lines f → after (hcl s) (under left lines an_expression) e ≡ tight_of f
after_is s left lines e f h = after_as s (follow_at s (under left lines an_expression) e) ∙ ap tight_of (sym (h left))

-- ---- the loop over operators

-- what an answer of a production is, if it is a refusal
pub record No (X : Type 0) (s : List ℕ) (a : X → Under) (σ : ℕ) (ks : X → List (Rec ℕ)) (k : ℕ) (l : Layout) (p : ℕ) (r : Step) : Type 0 where
  pub kind : ℕ
  pub place : ℕ
  pub is : r ≡ step_of kind place 0 0
  pub pos : 1 ≤ kind
  pub fails : (ξ : X) → FailIn (grammar (hcl s)) (mid (hcl s) (a ξ) σ (ks ξ) k l p) kind place

no_as : (X : Type 0) (s : List ℕ) (a : X → Under) (σ : ℕ) (ks : X → List (Rec ℕ)) (k : ℕ) (l : Layout) (p i u before : ℕ) (b b' x x' : List ℕ) (r : Step) (o : Outcome ℕ (Body ℕ)) → ((ξ : X) → Makes s (a ξ) σ (ks ξ) k l p o)
    → made_as s σ k i u before b b' x x' r o → ¬ (r.kind ≡ 0) → No X s a σ ks k l p r
no_as X s a σ ks k l p i u before b b' x x' r (ok z) h (e, t, v) f = absurd (f (ap (λ (w : Step). w.kind) e))
no_as X s a σ ks k l p i u before b b' x x' r (halt z q) h (e, pos) f = record { kind = z; place = q; is = e; pos = pos; fails = h }
no_as X s a σ ks k l p i u before b b' x x' r stuck h t f = absurd t

pub made_refused : {X : Type 0} {s : List ℕ} {a : X → Under} {σ : ℕ} {ks : X → List (Rec ℕ)} {k : ℕ} {l : Layout} {p i u before : ℕ} {b b' x x' : List ℕ} {r : Step} → Made X s a σ ks k l p i u before b b' x x' r → ¬ (r.kind ≡ 0)
    → No X s a σ ks k l p r
made_refused {X} {s} {a} {σ} {ks} {k} {l} {p} {i} {u} {before} {b} {b'} {x} {x'} {r} m f = no_as X s a σ ks k l p i u before b b' x x' r m.out m.gives m.told f

module _ {s : List ℕ} {left : ℕ} {lines : Bool} {i u p e₀ n₀ t₀ : ℕ} {b x b' x' : List ℕ} {e n t : ℕ} {J : ℕ → Type 0} (w : Turning J s (under left lines an_expression) i u p e₀ n₀ t₀ b b' x x' e n t)
    {k : ℕ} (q : follow_at s (under left lines an_expression) e ≡ some k) (want : want_in k 0 ≡ an_expression) (tight : (j : ℕ) → J j → j < tight_of k) where
  under_all : (ks : List (Rec ℕ)) → (ξ : Any) × (under_any k left lines ξ ≡ under left lines an_expression) × (any_before ξ ≡ ks)
  under_all ks = ((0, ks), ap (λ (v : Want). under left lines v) want, refl)

  module _ {K : ℕ} {b'' x'' y y' : List ℕ} {r : Step} (m : SaidMade Any s (under_any k left lines) p any_before k (layout_of k) e (i + n) (u + t) n e K b' b'' x' x'' y y' r) where
    -- its production was refused
    pub grows_no : {Y : Outcome ℕ (Tree ℕ) → Type 0} {b₀ x₀ : List ℕ} (l : Good Y s i u p b₀ b x₀ x e₀ n₀ t₀) → ((j : ℕ) → J j → Part (hcl s) (under left lines an_expression, j) p l.tree) → (f : ¬ (r.kind ≡ 0))
        → (j : ℕ) → J j → FailAt (grammar (hcl s)) (under left lines an_expression, j) p (made_refused m.made f).kind (made_refused m.made f).place
    grows_no l part f j here =
        let z = made_refused m.made f in
        turning_no w l part q (λ ks. subst (λ (v : Want). FailIn (grammar (hcl s)) (mid (hcl s) (under left lines v) p ks k (layout_of k) e) z.kind z.place) want (z.fails (0, ks))) j here (tight j here)

    -- its production was read
    pub grows_more : eqb k 6 ≡ false → eqb k 9 ≡ false → r.kind ≡ 0 → Turning J s (under left lines an_expression) i u p e₀ n₀ t₀ b b'' x x'' r.end (n + r.count) (t + r.text)
    grows_more f g z = turning_more w under_all f g q tight (done m.made z) m.room m.spent m.high

-- ---- an expression

abbrev pub Only : ℕ → ℕ → Type 0
Only j o = o ≡ j

firsts_part : {s : List ℕ} {a : Under} {p i u : ℕ} {b b' x x' : List ℕ} {e n t j : ℕ} (g : Good (Firsts s a p) s i u p b b' x x' e n t) → j ≤ 7 → (o : ℕ) → Only j o → Part (hcl s) (a, o) p g.tree
firsts_part {j = j} g h o z = g.gives o (omega arith)

module _ {s : List ℕ} {left : ℕ} {lines : Bool} {i u p j e₀ n₀ t₀ : ℕ} {b₀ x₀ b x b' x' : List ℕ} {e n t : ℕ} (w : Turning (Only j) s (under left lines an_expression) i u p e₀ n₀ t₀ b b' x x' e n t)
    (l : Good (Firsts s (under left lines an_expression) p) s i u p b₀ b x₀ x e₀ n₀ t₀) (low : j ≤ 7) {f : ℕ} (next : Follow s e lines f) where
  pub expr_stop : tight_of f ≤ j → {r : Step} {K : ℕ} {y y' : List ℕ} → r ≡ step_of 0 e n t → Kept K y y' → Said (Climbs s (under left lines an_expression) j p) s i u K p b₀ b' x₀ x' y y' r
  expr_stop h q kept =
      from_good (turned w l (firsts_part l low) (λ z part end. part_stop (hcl s) (part j refl) (subst (λ (o : ℕ). after (hcl s) (under left lines an_expression) o ≤ j) (sym end) (omega (arith, after_is s left lines e f next))))) q kept

  module _ (h : j < tight_of f) where
    some_kind : ¬ (f ≡ 0)
    some_kind z = let v : tight_of f ≡ 0 = rw z in omega arith

    follower : Following f
    follower = follow_kind s e left lines f (next left) some_kind

    is_next : follow_at s (under left lines an_expression) e ≡ some f
    is_next = kind_some (follow_at s (under left lines an_expression) e) f (sym (next left)) some_kind

    above : (o : ℕ) → Only j o → o < tight_of f
    above o z = omega arith

    pub expr_known : Following f
    expr_known = follower

    module _ {K : ℕ} {b'' x'' y y' : List ℕ} {r : Step} (m : SaidMade Any s (under_any f left lines) p any_before f (layout_of f) e (i + n) (u + t) n e K b' b'' x' x'' y y' r) where
      pub expr_no : ¬ (r.kind ≡ 0) → {K' : ℕ} {v v' : List ℕ} {c c' : List ℕ} → Kept K' v v' → Said (Climbs s (under left lines an_expression) j p) s i u K' p b₀ c x₀ c' v v' r
      expr_no z kept =
          let o = made_refused m.made z in
          refused o.kind o.place o.is (grows_no w is_next follower.want above m l (firsts_part l low) z j refl) o.pos
          (omega (arith, w.room, m.room, ap (λ (v : Step). v.end) o.is)) (omega (arith, m.high, ap (λ (v : Step). v.end) o.is)) kept

      pub expr_more : r.kind ≡ 0 → Turning (Only j) s (under left lines an_expression) i u p e₀ n₀ t₀ b b'' x x'' r.end (n + r.count) (t + r.text)
      expr_more z = grows_more w is_next follower.want above m (ne_eqb f 6 follower.six) (ne_eqb f 9 follower.nine) z

-- ---- nothing that may start stands at p

pub unexpected_both : (s : List ℕ) (p : ℕ) {w : Went} → w ≡ went_of (unexpected s p) → (w.kind ≡ (refusal (unexpected s p)).0) × (w.at ≡ (refusal (unexpected s p)).1)
unexpected_both s p {w} h = go (is_foreign (byte_at s p)) h
  where
    go : (x : Bool) → w ≡ went_of (when x (no 3 p) (no 4 p)) → (w.kind ≡ (refusal (when x (no 3 p) (no 4 p))).0) × (w.at ≡ (refusal (when x (no 3 p) (no 4 p))).1)
    go true z = (ap (λ (v : Went). v.kind) z, ap (λ (v : Went). v.at) z)
    go false z = (ap (λ (v : Went). v.kind) z, ap (λ (v : Went). v.at) z)

pub none_as : (s : List ℕ) (a : Under) (p j : ℕ) {w : Went} → pick_at s a p ≡ none → w ≡ went_of (unexpected s p) → FailAt (grammar (hcl s)) (a, j) p w.kind w.at
none_as s a p j {w} e h =
    let f = way.pick_none (hcl s) e in
    let (is-kind, is-place) = unexpected_both s p h in
    part_led_no (hcl s) (subst (λ (o : Option ℕ). fit (hcl s) j o ≡ o) (sym e) refl)
    (subst₂ (λ (o : ℕ) (v : ℕ). FailIn (grammar (hcl s)) (from (hcl s) (pick_at s a p) a p [] p) o v) (sym is-kind) (sym is-place) f)

pub unexpected_is : (s : List ℕ) (p : ℕ) {w : Went} → w ≡ went_of (unexpected s p) → (1 ≤ w.kind) × (w.at ≡ p)
unexpected_is s p {w} h = go (is_foreign (byte_at s p)) h
  where
    go : (x : Bool) → w ≡ went_of (when x (no 3 p) (no 4 p)) → (1 ≤ w.kind) × (w.at ≡ p)
    go true z = (omega (arith, ap (λ (v : Went). v.kind) z), ap (λ (v : Went). v.at) z)
    go false z = (omega (arith, ap (λ (v : Went). v.kind) z), ap (λ (v : Went). v.at) z)

-- all that follows but a traversal is looser
looser : (f : ℕ) → T (has followers f) → ¬ (f ≡ 37) → tight_of f ≤ 7
looser f t h = leb→le (tight_of f) 7 (rw (ne_eqb f 37 h) at (has_all (λ (k : ℕ). eqb k 37 || leb (tight_of k) 7) followers tt f t))

not_traversal : (s : List ℕ) (left : ℕ) (lines : Bool) (e f : ℕ) → Follow s e lines f → ¬ (f ≡ 37) → tight_of f ≤ 7
not_traversal s left lines e f next h = go (eqb f 0) refl
  where
    go : (b : Bool) → eqb f 0 ≡ b → tight_of f ≤ 7
    go true z = let v : tight_of f ≡ 0 = ap tight_of (eqb-true f 0 z) in omega arith
    go false z = looser f (followed s e (under left lines an_expression) f (kind_some (follow_at s (under left lines an_expression) e) f (sym (next left)) (eqb-false f 0 z))) h

-- ---- a term

abbrev pub Low : ℕ → Type 0
Low j = j ≤ 7

-- what stands first is a part for every level
head_part : {s : List ℕ} {a : Under} {k p i u : ℕ} {b b' x x' : List ℕ} {e n t : ℕ} → pick_at s a p ≡ some k → tight_of k ≡ 9 → (g : Good (Heads s a p) s i u p b b' x x' e n t) → (j : ℕ) → Low j → Part (hcl s) (a, j) p g.tree
head_part {s} {a} {k} {p} q tight g j h = part_led (hcl s) (fits_all s a k p j q (omega arith)) g.gives

pub term_none : {s : List ℕ} {left : ℕ} {lines : Bool} {i u K p : ℕ} {b b' x x' y y' : List ℕ} {k : ℕ} {w : Went} {r : Step} → TermAt s p lines k → k ≡ 0 → w ≡ went_of (unexpected s p) → r ≡ step_of w.kind w.at 0 0 → p ≤ length s → Kept K y y'
    → Said (Terms s (under left lines an_expression) p) s i u K p b b' x x' y y' r
term_none {s} {left} {lines} {p = p} {w = w} at z h q inside kept =
    let e = pick_none s (under left lines an_expression) p (sym (at left) ∙ z) in
    let (pos, place) = unexpected_is s p h in
    refused w.kind w.at q (λ j low. none_as s (under left lines an_expression) p j e h) pos (omega arith) (omega arith) kept

-- a refusal of what stands first
pub term_head_no : {s : List ℕ} {a : Under} {k i u i' u' K K' p : ℕ} {b b' x x' c c' v v' y y' z z' : List ℕ} {r : Step} → pick_at s a p ≡ some k → tight_of k ≡ 9 → Said (Heads s a p) s i' u' K' p c c' v v' z z' r → ¬ (r.kind ≡ 0) → Kept K y y'
    → Said (Terms s a p) s i u K p b b' x x' y y' r
term_head_no {s} {a} {k} {p = p} q tight w f kept = pass w f (omega arith) (λ o h g j low. part_led_no (hcl s) (fits_all s a k p j q (omega arith)) g) kept

module _ {s : List ℕ} {left : ℕ} {lines : Bool} {i u p e₀ n₀ t₀ : ℕ} {b₀ x₀ b x b' x' : List ℕ} {e n t k : ℕ} (w : Turning Low s (under left lines an_expression) i u p e₀ n₀ t₀ b b' x x' e n t)
    (picked : pick_at s (under left lines an_expression) p ≡ some k) (firm : tight_of k ≡ 9) (l : Good (Heads s (under left lines an_expression) p) s i u p b₀ b x₀ x e₀ n₀ t₀) {f : ℕ} (next : Follow s e lines f) where
  -- no traversal follows
  pub term_stop : ¬ (f ≡ 37) → {r : Step} {K : ℕ} {y y' : List ℕ} → r ≡ step_of 0 e n t → Kept K y y' → Said (Terms s (under left lines an_expression) p) s i u K p b₀ b' x₀ x' y y' r
  term_stop h q kept = from_good (turned w l (head_part picked firm l) (λ z part end. (part, subst (λ (o : ℕ). after (hcl s) (under left lines an_expression) o ≤ 7) (sym end) (omega (arith, after_is s left lines e f next, loose f h next))))) q kept
    where
      loose : (f : ℕ) → ¬ (f ≡ 37) → Follow s e lines f → tight_of f ≤ 7
      loose f h next = not_traversal s left lines e f next h

  module _ (h : f ≡ 37) where
    is_part_lem : follow_at s (under left lines an_expression) e ≡ some 37
    is_part_lem = kind_some (follow_at s (under left lines an_expression) e) 37 (sym (next left) ∙ h) (λ z. absurd (omega arith))

    module _ {K : ℕ} {b'' x'' y y' : List ℕ} {r : Step} (m : SaidMade Any s (under_any f left lines) p any_before f (layout_of f) e (i + n) (u + t) n e K b' b'' x' x'' y y' r) where
      of_part : SaidMade Any s (under_any 37 left lines) p any_before 37 (layout_of 37) e (i + n) (u + t) n e K b' b'' x' x'' y y' r
      of_part = subst (λ (o : ℕ). SaidMade Any s (under_any o left lines) p any_before o (layout_of o) e (i + n) (u + t) n e K b' b'' x' x'' y y' r) h m

      pub term_no : ¬ (r.kind ≡ 0) → {K' : ℕ} {v v' c c' : List ℕ} → Kept K' v v' → Said (Terms s (under left lines an_expression) p) s i u K' p b₀ c x₀ c' v v' r
      term_no z kept =
          let o = made_refused of_part.made z in
          refused o.kind o.place o.is (grows_no w is_part_lem refl (λ j low. omega arith) of_part l (head_part picked firm l) z) o.pos
          (omega (arith, w.room, m.room, ap (λ (v : Step). v.end) o.is)) (omega (arith, m.high, ap (λ (v : Step). v.end) o.is)) kept

      pub term_more : r.kind ≡ 0 → Turning Low s (under left lines an_expression) i u p e₀ n₀ t₀ b b'' x x'' r.end (n + r.count) (t + r.text)
      term_more z = grows_more w is_part_lem refl (λ j low. omega arith) of_part refl refl z
