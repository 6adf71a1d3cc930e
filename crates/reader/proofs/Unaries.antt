-- A unary operator: its level, the same-line space behind it, and its term.
use Prim.Native.Nat.{ℕ, zero, suc, ◌+◌, ◌-◌, ◌≤◌, ◌<◌}
use mathlib.Core.Path.{◌≡◌, refl, sym, ap, subst, ◌∙◌}
use mathlib.Core.Bool.{Bool, true, false, not, ◌||◌}
use mathlib.Core.Option.{some}
use mathlib.Core.List.{List, [], ◌∷◌}
use native.Mathlib.Omega.{arith}
use lib.ListN.{length}
use lib.Dec.{eqb}
use borrow.Author.Tests.{eqb-true}
use Rattle.engine.specs.Base.{halt, rec_of, choose}
use Rattle.engine.specs.Engine.{FailIn}
use Rattle.engine.specs.Layout.{fin, move, kid, grammar, after}
use Rattle.engine.specs.Way.{mid, part_stop, part_led, part_led_no}
use Rattle.lexis.specs.Bytes.{byte_at, stands}
use Rattle.lexis.specs.Operator.{is_mark, any_of}
use Rattle.lexis.specs.RunLaws.{stands_one, stands_inside, and_left}
use Rattle.grammar.specs.Kinds.{tight_of, Deep}
use Rattle.grammar.specs.Moves.{Under, an_expression, to, no, when, level, atom, walk, skip, opens, gap, line, Move}
use Rattle.grammar.specs.Layouts.{Layout, layout_of, layouts, unary_lay, same_line, term}
use Rattle.grammar.specs.Hcl.{hcl, pick_at, terms, follow_at, under}
use Rattle.grammar.specs.Table.{record_of}
use Rattle.grammar.specs.Said.{Went, Moved}
use Rattle.reader.specs.Buffer.{put_at}
use Rattle.reader.specs.Said.{Step, step_of, Climbs, Terms, Good, Kept, One, Said}
use Rattle.reader.proofs.Answers.{from_good, done, done_head, head_no, stage_made, fits_all}
use Rattle.reader.proofs.Stages.{Stage, stage_start, stage_lay, stage_move, stage_stop, stage_kid, stage_kid_no}

-- ---- what a choice says of its test

abbrev Tested : (ℕ → Type 0) → List (Bool × ℕ) → Type 0
Tested Q [] = Unit {0}
Tested Q (x ∷ xs) = (x.0 ≡ true → Q x.1) × Tested Q xs

choose_test : (Q : ℕ → Type 0) (xs : List (Bool × ℕ)) → Tested Q xs → (k : ℕ) → choose xs ≡ some k → Q k
choose_test Q [] t k e = absurd (let z : ◌≡◌ {A = ℕ} 0 1 = cc in omega arith)
choose_test Q (x ∷ xs) (t, ts) k e = go x.0 refl e (choose_test Q xs ts k)
  where
    go : (b : Bool) → x.0 ≡ b → elim b [ true ↦ some x.1 | false ↦ choose xs ] ≡ some k → (choose xs ≡ some k → Q k) → Q k
    go true y e ih = let z : x.1 ≡ k = cc in subst Q z (t y)
    go false y e ih = ih e

-- the mark of a unary operator, and its layout
pub record Unary (s : List ℕ) (p k : ℕ) : Type 0 where
  pub byte : ℕ
  pub longer : List (List ℕ)
  pub stands : is_mark (byte ∷ []) longer s p ≡ true
  pub laid : layout_of k ≡ unary_lay byte longer
  pub firm : tight_of k ≡ 9
  pub six : eqb k 6 ≡ false
  pub nine : eqb k 9 ≡ false

minus : (s : List ℕ) (p : ℕ) → eqb (byte_at s p) 45 ≡ true → Unary s p 22
unfolding layouts
minus s p e = record { byte = 45; longer = []; stands = rw (stands_one 45 s p refl, e); laid = refl; firm = refl; six = refl; nine = refl }

bang : (s : List ℕ) (p : ℕ) → is_mark (33 ∷ []) ((33 ∷ 61 ∷ []) ∷ []) s p ≡ true → Unary s p 23
unfolding layouts
bang s p e = record { byte = 33; longer = (33 ∷ 61 ∷ []) ∷ []; stands = e; laid = refl; firm = refl; six = refl; nine = refl }

abbrev Signed : List ℕ → ℕ → ℕ → Type 0
Signed s p k = (k ≡ 22 → eqb (byte_at s p) 45 ≡ true) × (k ≡ 23 → is_mark (33 ∷ []) ((33 ∷ 61 ∷ []) ∷ []) s p ≡ true)

other : (s : List ℕ) (p k : ℕ) → ¬ (k ≡ 22) → ¬ (k ≡ 23) → Signed s p k
other s p k f g = (λ e. absurd (f e), λ e. absurd (g e))

signed : (s : List ℕ) (left : ℕ) (lines : Bool) (p k : ℕ) → pick_at s (under left lines an_expression) p ≡ some k → Signed s p k
unfolding pick_at
signed s left lines p k e =
    choose_test (Signed s p) (terms s lines p) (
      λ z. other s p 4 (omega arith) (omega arith),
      (
        λ z. other s p 16 (omega arith) (omega arith),
        (
          λ z. other s p 1 (omega arith) (omega arith),
          (
            λ z. other s p 2 (omega arith) (omega arith),
            (
              λ z. other s p 3 (omega arith) (omega arith),
              (
                λ z. other s p 5 (omega arith) (omega arith),
                (
                  λ z. other s p 4 (omega arith) (omega arith),
                  (
                    λ z. (λ y. z, λ y. absurd (omega arith)),
                    (
                      λ z. (λ y. absurd (omega arith), λ y. z),
                      (
                        λ z. other s p 15 (omega arith) (omega arith),
                        (
                          λ z. other s p 18 (omega arith) (omega arith),
                          (
                            λ z. other s p 11 (omega arith) (omega arith),
                            (
                              λ z. other s p 19 (omega arith) (omega arith),
                              (
                                λ z. other s p 12 (omega arith) (omega arith),
                                (
                                  λ z. other s p 7 (omega arith) (omega arith),
                                  (
                                    λ z. other s p 6 (omega arith) (omega arith),
                                    (λ z. other s p 8 (omega arith) (omega arith), tt),
                                  ),
                                ),
                              ),
                            ),
                          ),
                        ),
                      ),
                    ),
                  ),
                ),
              ),
            ),
          ),
        ),
      ),
    )
    k e

pub unary : (s : List ℕ) (left : ℕ) (lines : Bool) (p k : ℕ) → pick_at s (under left lines an_expression) p ≡ some k → (eqb k 22 || eqb k 23) ≡ true → Unary s p k
unary s left lines p k q h = go (eqb k 22) refl h
  where
    g : Signed s p k
    g = signed s left lines p k q

    go : (b : Bool) → eqb k 22 ≡ b → (b || eqb k 23) ≡ true → Unary s p k
    go true e h = let z : k ≡ 22 = eqb-true k 22 e in subst (Unary s p) (sym z) (minus s p (g.0 z))
    go false e h = let z : k ≡ 23 = eqb-true k 23 h in subst (Unary s p) (sym z) (bang s p (g.1 z))

-- ---- its moves

level_some : (left p : ℕ) (x : Rattle.grammar.specs.Moves.Step) → ¬ (left ≡ 0) → level left p x ≡ x
level_some zero p x h = absurd (h refl)
level_some (suc n) p x h = refl

level_none : (left p : ℕ) (x : Rattle.grammar.specs.Moves.Step) → left ≡ 0 → level left p x ≡ no Deep p
level_none left p x e = rw e

module _ {s : List ℕ} {p k : ℕ} (n : Unary s p k) (a : Under) (σ : ℕ) where
  opens_on : ¬ (a.left ≡ 0) → walk s a σ (opens (n.byte ∷ []) n.longer ∷ []) p ≡ to (p + 1)
  unfolding walk atom
  opens_on h = rw (n.stands, level_some a.left p (to (p + 1)) h)

  opens_deep : a.left ≡ 0 → walk s a σ (opens (n.byte ∷ []) n.longer ∷ []) p ≡ no Deep p
  unfolding walk atom
  opens_deep h = rw (n.stands, level_none a.left p (to (p + 1)) h)

pub unary_inside : {s : List ℕ} {p k : ℕ} → Unary s p k → p < length s
unary_inside {s} {p} n = omega (arith, stands_inside (n.byte ∷ []) s p (and_left (stands (n.byte ∷ []) s p) (not (any_of n.longer s p)) n.stands))

space_on : (s : List ℕ) (a : Under) (σ p q : ℕ) → skip s false p ≡ to q → walk s a σ same_line p ≡ to q
unfolding walk atom
space_on s a σ p q e = rw e

space_off : (s : List ℕ) (a : Under) (σ p x y : ℕ) → skip s false p ≡ no x y → walk s a σ same_line p ≡ no x y
unfolding walk atom
space_off s a σ p x y e = rw e

-- what follows does not turn on the levels left
after_left : (s : List ℕ) (d d' : ℕ) (lines : Bool) (p : ℕ) → after (hcl s) (under d lines an_expression) p ≡ after (hcl s) (under d' lines an_expression) p
unfolding follow_at
after_left s d d' lines p = refl

module _ (s : List ℕ) (left : ℕ) (lines : Bool) (i u p k : ℕ) (b x : List ℕ) (n : Unary s p k) (q : pick_at s (under left lines an_expression) p ≡ some k) where
  abbrev Here : Under
  Here = under left lines an_expression

  abbrev On : List ℕ → List ℕ → Layout → ℕ → ℕ → ℕ → ℕ → Type 0
  On b' x' l e m t w = Stage One s (λ _. mid (hcl s) Here p [] k (layout_of k) p) (λ _. Here) p k p i u b b' x x' l e m t w

  start : On b x (unary_lay n.byte n.longer) p 0 0 0
  start = stage_lay n.laid (stage_start (λ _. []) (omega arith) (omega (arith, unary_inside n)))

  -- all of Terms from FailIn
  failing : {x y : ℕ} → FailIn (grammar (hcl s)) (mid (hcl s) Here p [] k (layout_of k) p) x y → Terms s Here p (halt x y)
  failing f j low = part_led_no (hcl s) (fits_all s Here k p j q (omega (arith, n.firm))) (head_no s q f)

  pub unary_deep : left ≡ 0 → Terms s Here p (halt Deep p)
  unary_deep z = failing (stage_stop start (λ _. opens_deep n Here p z) tt)

  module _ (z : ¬ (left ≡ 0)) {g : Went} (sp : Moved s (p + 1) false g) where
    opened : On b x (move same_line (kid term (fin 0))) (p + 1) 0 0 (0 + 1)
    opened = stage_move 1 start (λ _. opens_on n Here p z) (omega arith) (omega (arith, unary_inside n))

    pub unary_space : ¬ (g.kind ≡ 0) → Terms s Here p (halt g.kind g.at)
    unary_space f = failing (stage_stop opened (λ _. space_off s Here p (p + 1) g.kind g.at (sp.bad f)) tt)

    pub unary_high : g.at ≤ length s
    unary_high = omega (arith, sp.high, unary_inside n)

    module _ (f : g.kind ≡ 0) where
      behind : On b x (kid term (fin 0)) g.at 0 0 (0 + 1 + 0)
      behind = stage_move 0 opened (λ _. space_on s Here p (p + 1) g.at (sp.good f)) (omega (arith, sp.low)) unary_high

      pub unary_no : (y v : ℕ) → Terms s (under (left - 1) lines an_expression) g.at (halt y v) → Terms s Here p (halt y v)
      unary_no y v h = failing (stage_kid_no behind (λ _. refl) refl (h 7 (omega arith)) tt)

      module _ {b' x' : List ℕ} {e m t : ℕ} (o : Good (Terms s (under (left - 1) lines an_expression) g.at) s i u g.at b b' x x' e m t) where
        operand : Good (Climbs s (under (left - 1) lines an_expression) 7 g.at) s i u g.at b b' x x' e m t
        operand = record {
          tree = o.tree;
          gives = part_stop (hcl s) (o.gives.0 7 (omega arith)) o.gives.1;
          end = o.end;
          count = o.count;
          text = o.text;
          laid = o.laid;
          written = o.written;
          whole = o.whole;
          room = o.room;
          spent = o.spent;
          high = o.high;
        }

        whole : On b' x' (fin 0) e m t (0 + 1 + 0 + 0)
        whole = stage_kid 0 behind refl (λ _. refl) refl operand (omega (arith, o.room)) (omega arith) (omega arith) (omega arith) (omega arith)

        pub unary_ok : {r : Step} {b'' : List ℕ} {K : ℕ} {y y' : List ℕ} → (r ≡ step_of 0 e (m + 1) t) × (b'' ≡ put_at b' (i + m) (record_of k 0 p e (0 + m + 1) (0, 0))) → Kept K y y'
            → Said (Terms s Here p) s i u K p b b'' x x' y y' r
        unary_ok {r} {b''} (h, put) kept =
            let made = stage_made 0 whole h put in
            let kind-is : r.kind ≡ 0 = ap (λ (v : Step). v.kind) h in
            let end_is : r.end ≡ e = ap (λ (v : Step). v.end) h in
            let d = done made kind-is in
            let hd = done_head n.six n.nine q tt refl refl d (rw h unary_room') (rw h whole.spent) (rw h whole.high) in
            from_good (record {
              tree = hd.tree;
              gives = (
                λ j low. part_led (hcl s) (fits_all s Here k p j q (omega (arith, n.firm))) hd.gives,
                subst (λ (v : ℕ). after (hcl s) Here v ≤ 7) (sym hd.end) (subst (λ (v : ℕ). after (hcl s) Here v ≤ 7) (sym end_is)
                    (subst (λ (v : ℕ). after (hcl s) Here v ≤ 7) o.end (omega (arith, after_left s left (left - 1) lines (rec_of o.tree).end, o.gives.1)))),
              );
              end = hd.end;
              count = hd.count;
              text = hd.text;
              laid = hd.laid;
              written = hd.written;
              whole = hd.whole;
              room = hd.room;
              spent = hd.spent;
              high = hd.high;
            }) (h ∙ rw h) kept
          where
            unary_room' : p + (m + 1) ≤ e
            unary_room' = omega (arith, whole.room)
