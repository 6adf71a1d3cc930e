-- What stands first and holds text: strings, templates and heredocs.
use mir.Val.{bool_byte}
use Prim.Native.Nat.{ℕ, zero, suc, ◌+◌, ◌≤◌, ◌<◌}
use mathlib.Core.Path.{◌≡◌, refl, sym, ap, subst, ◌∙◌}
use mathlib.Core.Bool.{Bool, true, false, cond, ◌&&◌}
use mathlib.Core.Logic.{inl, inr}
use mathlib.Core.Option.{some}
use mathlib.Core.List.{List, [], ◌∷◌}
use native.Mathlib.Omega.{arith}
use lib.ListN.{length}
use lib.Dec.{eqb}
use borrow.Author.Tests.{eqb-true, eq-eqb, ne_eqb}
use Rattle.lexis.specs.Bytes.{byte_at, is_foreign}
use Rattle.lexis.specs.Heredoc.{Opener, opener_word, opener_at, Opened}
use Rattle.lexis.specs.RunLaws.{stands_one, stands_two, inside, and_left}
use Rattle.engine.specs.Base.{Outcome, ok, halt, stuck, Rec, nil}
use Rattle.engine.specs.Engine.{Body}
use Rattle.engine.specs.Layout.{move, fork}
use Rattle.engine.specs.Way.{mid, Way, way_start, way_move, way_stop, way_yes, way_no}
use Rattle.grammar.specs.Moves.{an_expression, Under, to, no, place, unexpected, ident, ending, walk}
use Rattle.grammar.specs.Kinds.{Foreign, Unexpected}
use Rattle.grammar.specs.Layouts.{Layout, layouts, layout_of, plain, text_lay, template_lay, heredoc_lay}
use Rattle.grammar.specs.Hcl.{hcl, under, pick_at}
use Rattle.grammar.specs.Said.{Went, went, went_of}
use Rattle.reader.specs.Said.{Step, step_of, Asked, Heads, Said, Kept, Makes, Made, SaidMade, One, Texting}
use Rattle.reader.specs.Text.{flag_of}
use Rattle.grammar.specs.TextLaws.{pick_template, pick_heredoc, plain_yes, plain_no, quote_stands, unexpected_is, Worded, word_opened}
use Rattle.reader.proofs.Answers.{from_good, refused, done, done_head, head_no, kept_same}
use Rattle.reader.proofs.Pieces.{halted}

-- the number of a dash
pub flag_byte : (b : Bool) → bool_byte b ≡ flag_of b
flag_byte true = refl
flag_byte false = refl

pub flag_few : (b : Bool) {r : ℕ} → r ≡ bool_byte b → r ≤ 255
flag_few true e = omega arith
flag_few false e = omega arith

-- ---- a production that stands first, told

pub head_said : {s : List ℕ} {a : Under} {k p i u κ : ℕ} {b b' x x' y y' : List ℕ} {r : Step} → eqb k 6 ≡ false → eqb k 9 ≡ false → pick_at s a p ≡ some k → Made One s (λ _. a) p (λ _. []) k (layout_of k) p i u 0 b b' x x' r
    → p + r.count ≤ r.end → p + r.text ≤ r.end → r.end ≤ length s → Kept κ y y' → Said (Heads s a p) s i u κ p b b' x x' y y' r
head_said {s} {a} {k} {p} {i} {u} {κ} {b} {b'} {x} {x'} {y} {y'} {r} f g q made room spent high kept = go r.kind refl
  where
    go : (n : ℕ) → r.kind ≡ n → Said (Heads s a p) s i u κ p b b' x x' y y' r
    go zero e = from_good (done_head f g q tt refl refl (done made e) room spent high) (ap (λ (n : ℕ). step_of n r.end r.count r.text) e) kept
    go (suc n) e =
        let h = halted made (λ z. omega arith) in
        let none : r.count ≡ 0 = ap (λ (o : Step). o.count) h.is in
        refused r.kind r.end h.is (head_no s q (h.fails tt)) h.kind (omega arith) high kept

-- ---- what stands before the text

-- the bytes before the text are moves of the same production
module _ {X : Type 0} (s : List ℕ) {a : X → Under} {σ : ℕ} {ks : X → List (Rec ℕ)} {k : ℕ} {l l' : Layout} {p q : ℕ} where
  made_as_lem : ((ξ : X) → Way (hcl s) (mid (hcl s) (a ξ) σ (ks ξ) k l p) nil (a ξ) σ (ks ξ) k l' q) → (o : Outcome ℕ (Body ℕ)) → ((ξ : X) → Makes s (a ξ) σ (ks ξ) k l' q o) → (ξ : X) → Makes s (a ξ) σ (ks ξ) k l p o
  made_as_lem w (ok y) g ξ = (w ξ).fits y.flag y.end y.kids (g ξ)
  made_as_lem w (halt n v) g ξ = (w ξ).fails n v (g ξ)
  made_as_lem w stuck g ξ = g ξ

  pub made_before : {i u before : ℕ} {b b' x x' : List ℕ} {r : Step} → ((ξ : X) → Way (hcl s) (mid (hcl s) (a ξ) σ (ks ξ) k l p) nil (a ξ) σ (ks ξ) k l' q) → Made X s a σ ks k l' q i u before b b' x x' r → Made X s a σ ks k l p i u before b b' x x' r
  made_before w m = record { out = m.out; gives = made_as_lem w m.out m.gives; told = m.told }

-- ---- a template

module _ (s : List ℕ) (left : ℕ) (lines : Bool) (p : ℕ) (q : pick_at s (under left lines an_expression) p ≡ some 7) where
  pub quoted_texting : Texting s p (p + 1) 7 0 true 0 0
  quoted_texting = record {
    round = rw (eq-eqb (byte_at s p) 34 (pick_template s left lines p q));
    closes = inl refl;
    string = refl;
    piece = refl;
    owes = refl;
    low = omega arith;
    small = omega arith;
  }

  pub quoted_asked : {y : List ℕ} {i u κ : ℕ} → Asked s y i u κ p → Asked s y i u κ (p + 1)
  quoted_asked a =
      let n = inside (λ x. eqb x 34) s p refl (eq-eqb (byte_at s p) 34 (pick_template s left lines p q)) in
      record { small = a.small; inside = omega arith; few = omega (arith, a.few); used = omega (arith, a.used); opened = omega (arith, a.opened); wide = a.wide }

  pub quoted_said : {i u κ : ℕ} {b b' x x' y y' : List ℕ} {r : Step} → SaidMade One s (λ _. under left lines an_expression) p (λ _. []) 7 (text_lay 0) (p + 1) i u 0 p κ b b' x x' y y' r
      → Said (Heads s (under left lines an_expression) p) s i u κ p b b' x x' y y' r
  unfolding layouts
  quoted_said m =
      let a = under left lines an_expression in
      head_said refl refl q
      (made_before s (λ ξ. way_move (hcl s) (way_start (hcl s) a p [] 7 template_lay p) (ap place (plain_yes s a p p (34 ∷ []) (quote_stands s p (pick_template s left lines p q))))) m.made)
      m.room m.spent m.high m.kept

-- ---- a heredoc

-- `<<` and perhaps `-` before it
module _ (s : List ℕ) (left : ℕ) (lines : Bool) (p : ℕ) (q : pick_at s (under left lines an_expression) p ≡ some 8) where
  abbrev a₀ : Under
  a₀ = under left lines an_expression

  marked : (eqb (byte_at s p) 60 && eqb (byte_at s (p + 1)) 60) ≡ true
  marked = sym (stands_two 60 60 s p refl refl) ∙ pick_heredoc s left lines p q

  opener_is : opener_at s p ≡ cond (eqb (byte_at s (p + 2)) 45) (opener_word s true (p + 3)) (opener_word s false (p + 2))
  unfolding opener_at
  opener_is = rw marked

  abbrev before : Layout
  before = fork (plain (45 ∷ [])) (move (ident ∷ ending ∷ []) (text_lay 1)) (move (ident ∷ ending ∷ []) (text_lay 0))

  way_mark : Way (hcl s) (mid (hcl s) a₀ p [] 8 heredoc_lay p) nil a₀ p [] 8 before (p + 2)
  way_mark = way_move (hcl s) (way_start (hcl s) a₀ p [] 8 heredoc_lay p) (ap place (plain_yes s a₀ p p (60 ∷ 60 ∷ []) (pick_heredoc s left lines p q)))

  -- the opener's place in the production: the delimiter with its line ending, and then the text
  pub record Opening (o : Opener) : Type 0 where
    pub from : ℕ
    pub dash : Bool
    pub way : Way (hcl s) (mid (hcl s) a₀ p [] 8 heredoc_lay p) nil a₀ p [] 8 (move (ident ∷ ending ∷ []) (text_lay (flag_of dash))) from
    pub word : Worded s a₀ p dash from o
    pub low : p < from

  opening : Opening (opener_at s p)
  opening = subst (λ (o : Opener). Opening o) (sym opener_is) (go (eqb (byte_at s (p + 2)) 45) refl)
    where
      go : (b : Bool) → eqb (byte_at s (p + 2)) 45 ≡ b → Opening (cond b (opener_word s true (p + 3)) (opener_word s false (p + 2)))
      go true e =
          let z : p + 2 + 1 ≡ p + 3 = omega arith in
          record {
            from = p + 3;
            dash = true;
            way = subst (λ (v : ℕ). Way (hcl s) (mid (hcl s) a₀ p [] 8 heredoc_lay p) nil a₀ p [] 8 (move (ident ∷ ending ∷ []) (text_lay 1)) v) z
                (way_yes (hcl s) way_mark (ap place (plain_yes s a₀ p (p + 2) (45 ∷ []) (stands_one 45 s (p + 2) refl ∙ e))));
            word = word_opened s a₀ p true (p + 3);
            low = omega arith;
          }
      go false e = record {
        from = p + 2;
        dash = false;
        way = way_no (hcl s) way_mark (ap place (plain_no s a₀ p (p + 2) (45 ∷ []) (stands_one 45 s (p + 2) refl ∙ e) ∙ unexpected_is s (p + 2)));
        word = word_opened s a₀ p false (p + 2);
        low = omega arith;
      }

  module _ {o : Opener} (h : Opened (opener_at s p) s p o) where
    here : Opening o
    here = subst (λ (o : Opener). Opening o) (sym h.is) opening

    -- no opener
    heredoc_as : {i u κ : ℕ} {b b' x x' y y' : List ℕ} {r : Step} (z v : ℕ) → o.good ≡ false → unexpected s o.at ≡ no z v → r ≡ step_of z v 0 0 → p ≤ length s → Kept κ y y'
        → Said (Heads s (under left lines an_expression) p) s i u κ p b b' x x' y y' r
    unfolding layouts
    heredoc_as {r = r} z v bad f e inside kept =
        let stuck : walk s a₀ p (ident ∷ ending ∷ []) here.from ≡ no z v = here.word.walks ∙ rw bad f in
        let same : no (cond (is_foreign (byte_at s o.at)) Foreign Unexpected) o.at ≡ no z v = sym (unexpected_is s o.at) ∙ f in
        let at : o.at ≡ v = cc in
        let kind : cond (is_foreign (byte_at s o.at)) Foreign Unexpected ≡ z = cc in
        refused z v e (head_no s q (rw stuck at (way_stop (hcl s) here.way (ap place stuck)))) (positive (is_foreign (byte_at s o.at)) z kind) (omega (arith, h.low)) (omega (arith, h.high)) kept
      where
        positive : (b : Bool) (z : ℕ) → cond b Foreign Unexpected ≡ z → 1 ≤ z
        positive true z e = omega arith
        positive false z e = omega arith

    pub heredoc_no : {i u κ : ℕ} {b b' x x' y : List ℕ} {r : Step} {w : Went} → o.good ≡ false → w ≡ went_of (unexpected s o.at) → r ≡ step_of w.kind w.at 0 0 → p ≤ length s
        → Said (Heads s (under left lines an_expression) p) s i u κ p b b' x x' y y r
    heredoc_no {y = y} {w = w} bad e f inside =
        let k = cond (is_foreign (byte_at s o.at)) Foreign Unexpected in
        let is : w ≡ went k o.at = e ∙ ap went_of (unexpected_is s o.at) in
        heredoc_as k o.at bad (unexpected_is s o.at) (f ∙ ap (λ (v : Went). step_of v.kind v.at 0 0) is) inside (kept_same y)

    -- where the text begins
    pub heredoc_asked : {y : List ℕ} {i u κ : ℕ} → Asked s y i u κ p → Asked s y i u κ o.at
    heredoc_asked a = record {
      small = a.small;
      inside = omega (arith, h.high, a.inside);
      few = omega (arith, h.low, a.few);
      used = omega (arith, h.low, a.used);
      opened = omega (arith, h.low, a.opened);
      wide = a.wide;
    }

    module _ (good : o.good ≡ true) where
      pub heredoc_texting : (flag : ℕ) → flag ≤ 255 → Texting s p o.at 8 flag false o.from o.to
      heredoc_texting flag small = record {
        round =
            let c = eqb-true (byte_at s p) 60 (and_left (eqb (byte_at s p) 60) (eqb (byte_at s (p + 1)) 60) marked) in
            rw (ne_eqb (byte_at s p) 34 (λ z. omega arith), h.is);
        closes = inr (ap (λ (v : Opener). v.from) (sym h.is), ap (λ (v : Opener). v.to) (sym h.is));
        string = refl;
        piece = refl;
        owes = refl;
        low = omega (arith, here.low, here.word.past good);
        small = small;
      }

      pub heredoc_said : {i u κ : ℕ} {b b' x x' y y' : List ℕ} {r : Step} (flag : ℕ) → flag_of o.dash ≡ flag → SaidMade One s (λ _. under left lines an_expression) p (λ _. []) 8 (text_lay flag) o.at i u 0 p κ b b' x x' y y' r
          → Said (Heads s (under left lines an_expression) p) s i u κ p b b' x x' y y' r
      unfolding layouts
      heredoc_said flag f m =
          let d : flag_of here.dash ≡ flag = ap flag_of (sym (here.word.dash good)) ∙ f in
          let gone : walk s a₀ p (ident ∷ ending ∷ []) here.from ≡ to o.at = here.word.walks ∙ rw good in
          head_said refl refl q
          (made_before s (λ ξ. way_move (hcl s) (subst (λ (v : ℕ). Way (hcl s) (mid (hcl s) a₀ p [] 8 heredoc_lay p) nil a₀ p [] 8 (move (ident ∷ ending ∷ []) (text_lay v)) here.from) d here.way)
          (ap place gone)) m.made)
          m.room m.spent m.high m.kept
