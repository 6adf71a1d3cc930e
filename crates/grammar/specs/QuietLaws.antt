-- Laws on quiet moves: where one can be made, nothing follows an operand, past the operand's own trivia too.
use Rattle.std.specs.Prelude.{ℕ, ◌+◌, ◌≡◌, Bool, cond, not, ◌&&◌, ◌||◌, ◌⊎◌, drop, eqb, T}
use Rattle.std.proofs.Math.Path.{refl}
use Rattle.std.proofs.Common.{sym, ap, ◌∙◌, subst, inl, inr, eqb-true}
use mathlib.Core.List.{List, [], ◌∷◌, ◌++◌}
use Rattle.std.proofs.Math.Bool.{true, false}
use Rattle.std.proofs.Math.Bool as bool
use Rattle.std.proofs.Math.Option.{none}
use Rattle.std.proofs.Math.ListN.{length}
use Rattle.lexis.specs.Bytes.{byte_at, is_start, is_rest, begins, stands}
use Rattle.lexis.specs.Trivia.{Gap, ends_line, starts_comment, gap_to, stop_to}
use Rattle.lexis.specs.Word.{is_word}
use Rattle.lexis.specs.Operator.{any_of, is_mark}
use Rattle.lexis.specs.Keys.{among}
use Rattle.lexis.specs.RunLaws.{clash, front, and_left, and_right}
use Rattle.lexis.specs.TriviaLaws.{gap_ends, gap_goes, gap_next, stop_ends}
use Rattle.engine.specs.Base.{Rec, choose}
use Rattle.engine.specs.BaseLaws.{and_t}
use Rattle.engine.specs.Layout.{after, level}
use Rattle.grammar.specs.Moves.{Under, to, Space, any, line, here, gap, mark, opens, word, ahead, for, ident, number, index, operator, parts, unless, comma, stop, ended, call, fresh, ending, run, piece, more, close, behind_key, keys_of, lines_in, skip, stopping, atom, Move, walk}
use Rattle.grammar.specs.Layouts.{Class, inside, single, key, value, test, branch, term, right, entry, called, portion, piecewise, filter}
use Rattle.grammar.specs.Hcl.{hcl, follows, follow_in, follow_at, grows, downs, is_quiet, quiet_mark, quiet, reaches, stilled}
use Rattle.grammar.specs.MoveLaws.{to_is, no_to, by_test, by_then, not_made, stopping_to}
use Rattle.grammar.specs.StillLaws.{Still, still_at, still_by, still_line, still_comment, still_stop, still_equals, still_two, still_test, or-true}

-- ---- where a quiet move can be made, nothing follows

is_true : (b : Bool) → T b → b ≡ true
is_true true t = refl
is_true false t = absurd t

-- tokens that begin with tokens
begins_on : (w u xs : List ℕ) → begins w u ≡ true → begins u xs ≡ true → begins w xs ≡ true
unfolding begins
begins_on [] u xs e f = refl
begins_on (b ∷ w) [] xs e f = clash (sym e)
begins_on (b ∷ w) (c ∷ u) [] e f = clash (sym f)
begins_on (b ∷ w) (c ∷ u) (x ∷ xs) e f =
    let y : c ≡ b = eqb-true c b (and_left (eqb c b) (begins w u) e) in
    let z : eqb x b ≡ true = subst (λ (n : ℕ). eqb x n ≡ true) y (and_left (eqb x c) (begins u xs) f) in
    rw z (begins_on w u xs (and_right (eqb c b) (begins w u) e) (and_right (eqb x c) (begins u xs) f))

any_on : (l : List (List ℕ)) (u s : List ℕ) (p : ℕ) → any_of l u 0 ≡ true → stands u s p ≡ true → any_of l s p ≡ true
any_on [] u s p e f = e
any_on (w ∷ l) u s p e f = go (or-true (begins w u) (any_of l u 0) e) (any_on l u s p)
  where
    go : (begins w u ≡ true) ⊎ (any_of l u 0 ≡ true) → (any_of l u 0 ≡ true → stands u s p ≡ true → any_of l s p ≡ true) → (stands w s p || any_of l s p) ≡ true
    go (inl g) ih = rw (begins_on w u (drop p s) g f)
    go (inr g) ih = rw (ih g f) (bool.or-true (stands w s p))

module _ (s : List ℕ) where
  -- a word
  word_still : (w : List ℕ) (p : ℕ) → T (is_start (byte_at w 0)) → stands w s p ≡ true → Still (drop p s)
  unfolding begins
  word_still [] p t e = absurd t
  word_still (b ∷ w) p t e =
      still_by (b ∷ w) (drop p s) (λ ys. still_test is_start (b ∷ w ++ ys) (is_true (is_start b) t) refl tt refl refl refl) e

  -- a mark
  mark_still : (w : List ℕ) (l : List (List ℕ)) (p : ℕ) → T (quiet_mark w l) → is_mark w l s p ≡ true → Still (drop p s)
  unfolding begins
  mark_still [] l p t e = absurd t
  mark_still (c ∷ []) l p t e = go (or-true (is_quiet c) (eqb c 61 && any_of l (61 ∷ 61 ∷ []) 0) (is_true (is_quiet c || (eqb c 61 && any_of l (61 ∷ 61 ∷ []) 0)) t))
    where
      here : stands (c ∷ []) s p ≡ true
      here = and_left (stands (c ∷ []) s p) (not (any_of l s p)) e

      go : (is_quiet c ≡ true) ⊎ ((eqb c 61 && any_of l (61 ∷ 61 ∷ []) 0) ≡ true) → Still (drop p s)
      go (inl q) = still_by (c ∷ []) (drop p s) (λ ys. still_test is_quiet (c ∷ ys) q refl tt refl refl refl) here
      go (inr q) = equals (stands (61 ∷ 61 ∷ []) s p) refl
        where
          equals : (b : Bool) → stands (61 ∷ 61 ∷ []) s p ≡ b → Still (drop p s)
          equals true f =
              let g = any_on l (61 ∷ 61 ∷ []) s p (and_right (eqb c 61) (any_of l (61 ∷ 61 ∷ []) 0) q) f in
              clash (sym (and_right (stands (c ∷ []) s p) (not (any_of l s p)) e) ∙ ap not g)
          equals false f = still_equals (drop p s) (subst (λ (x : ℕ). stands (x ∷ []) s p ≡ true) (eqb-true c 61 (and_left (eqb c 61) (any_of l (61 ∷ 61 ∷ []) 0) q)) here) f
  mark_still (c ∷ d ∷ w) l p t e =
      still_by (c ∷ d ∷ w) (drop p s) (λ ys. still_two c d (w ++ ys) (is_true ((eqb c 61 && eqb d 62) || (eqb c 46 && eqb d 46)) t))
      (and_left (stands (c ∷ d ∷ w) s p) (not (any_of l s p)) e)

  -- what ends an item, and a byte that does
  stop_still : (p q : ℕ) → stopping s p ≡ to q → Still (drop p s)
  stop_still p q e = still_stop (drop p s) ((stop_ends p (drop p s)).stops (stopping_to s p q (stop_to s p).how (stop_to s p) e).0)

  byte_still : (c p : ℕ) → T (is_quiet c) → eqb (byte_at s p) c ≡ true → Still (drop p s)
  byte_still c p t e =
      still_test is_quiet (drop p s) (ap is_quiet (front s p ∙ eqb-true (byte_at s p) c e) ∙ is_true (is_quiet c) t) refl tt refl refl refl

  module _ (b : Under) (σ : ℕ) where
    quiet_still : (m : Move) (p q : ℕ) → T (quiet m) → walk s b σ m p ≡ to q → Still (drop p s)
    unfolding walk atom
    quiet_still [] p q t e = absurd t
    quiet_still (gap g ∷ m) p q t e = absurd t
    quiet_still (mark w l ∷ m) p q t e =
        by_then (atom s b σ (mark w l) p) (walk s b σ m) e (λ r f g. by_test (is_mark w l s p) f (λ u h. mark_still w l p t u) (λ u h. not_made s p h))
    quiet_still (opens w l ∷ m) p q t e = absurd t
    quiet_still (word w ∷ m) p q t e =
        by_then (atom s b σ (word w) p) (walk s b σ m) e
        (λ r f g. by_test (is_word w s p) f (λ u h. word_still w p t (and_left (stands w s p) (not (is_rest (byte_at s (p + length w)))) u)) (λ u h. not_made s p h))
    quiet_still (ahead w ∷ m) p q t e =
        by_then (atom s b σ (ahead w) p) (walk s b σ m) e
        (λ r f g. by_test (is_word w s p) f (λ u h. word_still w p t (and_left (stands w s p) (not (is_rest (byte_at s (p + length w)))) u)) (λ u h. not_made s p h))
    quiet_still (for ∷ m) p q t e = absurd t
    quiet_still (ident ∷ m) p q t e = absurd t
    quiet_still (number ∷ m) p q t e = absurd t
    quiet_still (index ∷ m) p q t e = absurd t
    quiet_still (operator k ∷ m) p q t e = absurd t
    quiet_still (parts ∷ m) p q t e = absurd t
    quiet_still (unless c ∷ m) p q t e = absurd t
    quiet_still (comma ∷ m) p q t e =
        by_then (atom s b σ comma p) (walk s b σ m) e
        (λ r f g. by_test (eqb (byte_at s p) 44) f (λ u h. byte_still 44 p tt u) (λ u h. quiet_still m p q t (ap (walk s b σ m) (to_is h) ∙ g)))
    quiet_still (stop ∷ m) p q t e = by_then (stopping s p) (walk s b σ m) e (λ r f g. stop_still p r f)
    quiet_still (ended ∷ m) p q t e =
        by_then (atom s b σ ended p) (walk s b σ m) e
        (λ r f g. by_test (eqb (byte_at s p) 125) f (λ u h. byte_still 125 p tt u) (λ u h. by_then (stopping s p) (skip s true) h (λ x i j. stop_still p x i)))
    quiet_still (call ∷ m) p q t e = absurd t
    quiet_still (fresh ∷ m) p q t e =
        by_then (atom s b σ fresh p) (walk s b σ m) e
        (λ r f g. by_test (eqb (behind_key s σ) p && among s (keys_of b.want) σ) f (λ u h. no_to h) (λ u h. quiet_still m p q t (ap (walk s b σ m) (to_is h) ∙ g)))
    quiet_still (ending ∷ m) p q t e = absurd t
    quiet_still (run f ∷ m) p q t e = absurd t
    quiet_still (piece f ∷ m) p q t e = absurd t
    quiet_still (more ∷ m) p q t e = absurd t
    quiet_still (close ∷ m) p q t e = absurd t

  -- ---- past the child's own trivia, too: the trivia before the move reaches at least as far

  -- k is the child's mode, l the move's
  past_still : (k l : Bool) (p : ℕ) → T (l || not k) → (gap_to l s p).unclosed ≡ false → Still (drop (gap_to l s p).at s) → follow_in s (gap_to k s p) ≡ none
  past_still k l p t u h = go (gap_to k s p).unclosed refl
    where
      q : ℕ
      q = (gap_to k s p).at

      goes : gap_to l s p ≡ gap_to l s q
      goes = gap_goes s p k l t

      still : ((gap_to l s q).at ≡ q) ⊎ ((ends_line (drop q s) ≡ true) ⊎ (starts_comment (drop q s) ≡ true)) → Still (drop q s)
      still (inl e) = subst (λ (x : ℕ). Still (drop x s)) (ap (λ (g : Gap). g.at) goes ∙ e) h
      still (inr (inl e)) = still_line (drop q s) e
      still (inr (inr e)) = still_comment (drop q s) e

      go : (b : Bool) → (gap_to k s p).unclosed ≡ b → cond b none (choose (follows s q)) ≡ none
      go true v = refl
      go false v = still_at s q (still (gap_next k l s q (gap_ends s p k v) (ap (λ (g : Gap). g.unclosed) (sym goes) ∙ u)))

  own : (l : Bool) → T (l || not l)
  own true = tt
  own false = tt

  reach_lines : (g : Space) (c : Class) → T (reaches g c) → (b : Under) (σ : ℕ) (ks : List (Rec ℕ)) → T (lines_in b g || not (downs s b c σ ks).lines)
  reach_lines any c t b σ ks = tt
  reach_lines line inside t b σ ks = absurd t
  reach_lines line single t b σ ks = tt
  reach_lines line key t b σ ks = tt
  reach_lines line value t b σ ks = absurd t
  reach_lines line test t b σ ks = absurd t
  reach_lines line branch t b σ ks = absurd t
  reach_lines line term t b σ ks = absurd t
  reach_lines line (right n) t b σ ks = absurd t
  reach_lines line entry t b σ ks = tt
  reach_lines line called t b σ ks = absurd t
  reach_lines line portion t b σ ks = absurd t
  reach_lines line piecewise t b σ ks = absurd t
  reach_lines line filter t b σ ks = absurd t
  reach_lines here inside t b σ ks = absurd t
  reach_lines here single t b σ ks = absurd t
  reach_lines here key t b σ ks = absurd t
  reach_lines here value t b σ ks = own b.lines
  reach_lines here test t b σ ks = own b.lines
  reach_lines here branch t b σ ks = own b.lines
  reach_lines here term t b σ ks = own b.lines
  reach_lines here (right n) t b σ ks = own b.lines
  reach_lines here entry t b σ ks = absurd t
  reach_lines here called t b σ ks = absurd t
  reach_lines here portion t b σ ks = absurd t
  reach_lines here piecewise t b σ ks = absurd t
  reach_lines here filter t b σ ks = absurd t

  -- nothing follows the child
  pub follow_none : (d : Under) (p : ℕ) → follow_in s (gap_to d.lines s p) ≡ none → after (hcl s) d p ≡ 0
  unfolding follow_at
  follow_none d p e = go (grows d.want)
    where
      go : (g : Bool) → level (hcl s) (cond g (follow_in s (gap_to d.lines s p)) none) ≡ 0
      go true = rw e
      go false = refl

  gap_still : (g : Space) (m : Move) (c : Class) → T (reaches g c && quiet m) → (b : Under) (σ : ℕ) (ks : List (Rec ℕ)) (p q : ℕ)
      → walk s b σ (gap g ∷ m) p ≡ to q → after (hcl s) (downs s b c σ ks) p ≡ 0
  unfolding walk atom
  gap_still g m c t b σ ks p q e =
      let (u, v) = and_t (reaches g c) (quiet m) t in
      let l = lines_in b g in
      let d = downs s b c σ ks in
      by_then (skip s l p) (walk s b σ m) e
      (λ r f h. by_test (gap_to l s p).unclosed f (λ w i. no_to i)
      (λ w i. follow_none d p (past_still d.lines l p (reach_lines g c u b σ ks) w (quiet_still b σ m (gap_to l s p).at q v (ap (walk s b σ m) (to_is i) ∙ h)))))

  pub stilled_after : (m : Move) (c : Class) → T (stilled m c) → (b : Under) (σ : ℕ) (ks : List (Rec ℕ)) (p q : ℕ) → walk s b σ m p ≡ to q → after (hcl s) (downs s b c σ ks) p ≡ 0
  stilled_after [] c t b σ ks p q e = absurd t
  stilled_after (gap g ∷ m) c t b σ ks p q e = gap_still g m c t b σ ks p q e
  stilled_after (mark w l ∷ m) c t b σ ks p q e = absurd t
  stilled_after (opens w l ∷ m) c t b σ ks p q e = absurd t
  stilled_after (word w ∷ m) c t b σ ks p q e = absurd t
  stilled_after (ahead w ∷ m) c t b σ ks p q e = absurd t
  stilled_after (for ∷ m) c t b σ ks p q e = absurd t
  stilled_after (ident ∷ m) c t b σ ks p q e = absurd t
  stilled_after (number ∷ m) c t b σ ks p q e = absurd t
  stilled_after (index ∷ m) c t b σ ks p q e = absurd t
  stilled_after (operator k ∷ m) c t b σ ks p q e = absurd t
  stilled_after (parts ∷ m) c t b σ ks p q e = absurd t
  stilled_after (unless x ∷ m) c t b σ ks p q e = absurd t
  stilled_after (comma ∷ m) c t b σ ks p q e = absurd t
  stilled_after (stop ∷ m) c t b σ ks p q e = absurd t
  stilled_after (ended ∷ m) c t b σ ks p q e = absurd t
  stilled_after (call ∷ m) c t b σ ks p q e = absurd t
  stilled_after (fresh ∷ m) c t b σ ks p q e = absurd t
  stilled_after (ending ∷ m) c t b σ ks p q e = absurd t
  stilled_after (run f ∷ m) c t b σ ks p q e = absurd t
  stilled_after (piece f ∷ m) c t b σ ks p q e = absurd t
  stilled_after (more ∷ m) c t b σ ks p q e = absurd t
  stilled_after (close ∷ m) c t b σ ks p q e = absurd t
