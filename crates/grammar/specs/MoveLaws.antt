-- Laws on moves: none goes back or out of the source, and one that eats goes on.
use Rattle.std.specs.Prelude.{ℕ, zero, suc, ◌+◌, ◌≤◌, ◌<◌, ◌≡◌, Bool, false, ◌&&◌, ◌⊎◌, length, drop}
use Rattle.std.proofs.Math.Path.{refl, subst}
use Rattle.std.proofs.Common.{ap, arith}
use mathlib.Core.List.{List, [], ◌∷◌}
use Rattle.std.proofs.Math.Bool.{true}
use Rattle.std.proofs.Math.Logic.{inl, inr}
use borrow.Author.Tests.{eqb-true, eqb-false}
use Rattle.std.proofs.Math.Dec.{eqb, ltb→lt, T}
use Rattle.lexis.specs.declared.heredoc.Line.{Line}
use Rattle.lexis.specs.declared.heredoc.Line.TheVariants as heredoc_line
use Rattle.lexis.specs.declared.string.Why.TheVariants as why
use Rattle.lexis.specs.Bytes.{byte_at, is_foreign, stands}
use Rattle.lexis.specs.Trivia.{Stopping, gap_to, stop_to}
use Rattle.lexis.specs.Word.{ident_to, is_word, for_to}
use Rattle.lexis.specs.Number.{number_to, index_to, index_at}
use Rattle.lexis.specs.Operator.{op_at, is_mark}
use Rattle.lexis.specs.Heredoc.{opener_at, line_at, line_end, fresh_at, part}
use Rattle.lexis.specs.String.{Mode, unit_in, text_at}
use Rattle.lexis.specs.String as string
use Rattle.lexis.specs.RunLaws.{inside, left}
use Rattle.lexis.specs.TriviaLaws.{gap_low, gap_high, stop_ends}
use Rattle.lexis.specs.TokenLaws.{Within, stays, further, takes, ident_within, number_within, index_within, for_within, line_within, word_within, mark_within, op_wide}
use Rattle.lexis.specs.TextLaws.{text_within, closes_within}
use Rattle.lexis.specs.Keys.{among}
use Rattle.grammar.specs.Moves.{Under, Step, to, no, then, when, unexpected, token, Atom, gap, mark, opens, word, ahead, for, ident, number, index, operator, parts, unless, comma, stop, ended, call, fresh, ending, run, piece, more, close, round, unit_at, closes_as, closes, close_as, goes_as, same, runs, text_start, keys_of, behind_key, lines_in, skip, marks, level, opening, is_part, stop_step, stopping, refused, atom, Move, walk}
use Rattle.grammar.specs.Answer.{eating}

-- ---- a step that is made

pub no_to : {A : Type 0} {k p q : ℕ} → no k p ≡ to q → A
no_to e = absurd (let z : ◌≡◌ {A = ℕ} 0 1 = cc in omega arith)

pub to_is : {p q : ℕ} → to p ≡ to q → p ≡ q
to_is e = cc

-- by a test, one of two
pub by_test : {A : Type 0} (b : Bool) {x y : Step} {q : ℕ} → when b x y ≡ to q → (b ≡ true → x ≡ to q → A) → (b ≡ false → y ≡ to q → A) → A
by_test true e f g = f refl e
by_test false e f g = g refl e

pub by_then : {A : Type 0} {q : ℕ} (x : Step) (f : ℕ → Step) → then x f ≡ to q → ((r : ℕ) → x ≡ to r → f r ≡ to q → A) → A
by_then (to r) f e g = g r refl e
by_then (no k p) f e g = no_to e

pub not_made : (s : List ℕ) (p : ℕ) {q : ℕ} {A : Type 0} → unexpected s p ≡ to q → A
not_made s p e = by_test (is_foreign (byte_at s p)) e (λ t f. no_to f) (λ t f. no_to f)

-- ---- what a step takes is within the source

module _ (s : List ℕ) where
  at : {p q r : ℕ} → Within s p q → to q ≡ to r → Within s p r
  at {p} h e = subst (λ (x : ℕ). Within s p x) (to_is e) h

  pub skip_within : (l : Bool) (p q : ℕ) → skip s l p ≡ to q → Within s p q
  skip_within l p q e =
      by_test (gap_to l s p).unclosed e (λ t f. no_to f) (λ t f. at (record { low = gap_low s p l; high = gap_high s p l }) f)

  token_within : (p x q : ℕ) → Within s p x → token s p x ≡ to q → Within s p q
  token_within p x q h e = by_test (eqb x p) e (λ t f. not_made s p f) (λ t f. at h f)

  marks_within : (w : List ℕ) (l : List (List ℕ)) (p q : ℕ) → marks s w l p ≡ to q → Within s p q
  marks_within w l p q e = by_test (is_mark w l s p) e (λ t f. at (mark_within s p w l t) f) (λ t f. not_made s p f)

  level_to : (n p q : ℕ) (x : Step) → level n p x ≡ to q → x ≡ to q
  level_to zero p q x e = no_to e
  level_to (suc n) p q x e = e

  opening_within : (n : ℕ) (w : List ℕ) (l : List (List ℕ)) (p q : ℕ) → opening s n w l p ≡ to q → Within s p q
  opening_within n w l p q e =
      by_test (is_mark w l s p) e (λ t f. at (mark_within s p w l t) (level_to n p q (to (p + length w)) f)) (λ t f. not_made s p f)

  stop_within : (p : ℕ) → Within s p (stop_to s p).at
  stop_within p = let h = stop_ends p (drop p s) in record { low = h.low; high = omega (arith, left s p, h.high) }

  pub stopping_to : (p q n : ℕ) (x : Stopping) → stop_step s p n x ≡ to q → (n ≡ 1) × (x.at ≡ q)
  stopping_to p q zero x e = not_made s p e
  stopping_to p q (suc zero) x e = (refl, to_is e)
  stopping_to p q (suc (suc n)) x e = no_to e

  pub stopping_within : (p q : ℕ) → stopping s p ≡ to q → Within s p q
  stopping_within p q e = subst (λ (x : ℕ). Within s p x) (stopping_to p q (stop_to s p).how (stop_to s p) e).1 (stop_within p)

  refused_not : {A : Type 0} (x : Step) (q : ℕ) → refused x ≡ to q → A
  refused_not (to r) q e = no_to e
  refused_not (no k r) q e = no_to e

  runs_within : (m : Mode) (f : Bool) (p q : ℕ) → runs f p (text_at m s p) ≡ to q → Within s p q
  runs_within m f p q e = by_test (same f (text_at m s p).escaped) e (λ t g. at (text_within m s p) g) (λ t g. no_to g)

  goes_to : (p q : ℕ) (u : string.Unit) → goes_as p u ≡ to q → p ≡ q
  goes_to p q (string.is w bs f) e = to_is e
  goes_to p q (string.not why.Quote) e = no_to e
  goes_to p q (string.not why.Interpolation) e = to_is e
  goes_to p q (string.not why.Directive) e = no_to e
  goes_to p q (string.not why.Escape) e = no_to e
  goes_to p q (string.not why.Closing) e = no_to e
  goes_to p q (string.not why.Foreign) e = no_to e
  goes_to p q (string.not why.End) e = no_to e

  -- a closing line, and a closing quote
  line_to : (p q : ℕ) (l : Line) → closes_as l p ≡ to q → l ≡ heredoc_line.Closes q
  line_to p q heredoc_line.Text e = no_to e
  line_to p q (heredoc_line.Closes x) e = ap heredoc_line.Closes (to_is e)
  line_to p q (heredoc_line.Foreign x) e = no_to e

  closes_to : (t p q : ℕ) → closes s t p ≡ to q → Within s p q
  closes_to t p q e = let d = part s (opener_at s t).from (opener_at s t).to in closes_within d s p q (line_to p q (line_at d s p) e)

  quote_inside : (m : Mode) (f : Bool) (p : ℕ) (xs : List ℕ) → unit_in m f xs ≡ string.not why.Quote → 1 ≤ length xs
  quote_inside m f p [] e = absurd (let z : ◌≡◌ {A = ℕ} 0 1 = cc in omega arith)
  quote_inside m f p (x ∷ xs) e = omega arith

  close_within : (t p q : ℕ) (u : string.Unit) → unit_at s t p ≡ u → close_as s t p u ≡ to q → Within s p q
  close_within t p q (string.is w bs f) i e = no_to e
  close_within t p q (string.not why.Quote) i e =
      let h = quote_inside (round s t) (fresh_at s p) p (drop p s) i in
      at (takes s p 1 (omega (arith, left s p))) e
  close_within t p q (string.not why.Interpolation) i e = no_to e
  close_within t p q (string.not why.Directive) i e = no_to e
  close_within t p q (string.not why.Escape) i e = no_to e
  close_within t p q (string.not why.Closing) i e = closes_to t p q e
  close_within t p q (string.not why.Foreign) i e = closes_to t p q e
  close_within t p q (string.not why.End) i e = no_to e

  -- the law over atoms
  module _ (b : Under) (σ : ℕ) where
    pub atom_within : (a : Atom) (p q : ℕ) → atom s b σ a p ≡ to q → Within s p q
    unfolding atom
    atom_within (gap g) p q e = skip_within (lines_in b g) p q e
    atom_within (mark w l) p q e = marks_within w l p q e
    atom_within (opens w l) p q e = opening_within b.left w l p q e
    atom_within (word w) p q e = by_test (is_word w s p) e (λ t f. at (word_within s p w t) f) (λ t f. not_made s p f)
    atom_within (ahead w) p q e = by_test (is_word w s p) e (λ t f. at (stays s p) f) (λ t f. not_made s p f)
    atom_within for p q e = token_within p (for_to s p) q (for_within s p) e
    atom_within ident p q e = token_within p (ident_to s p) q (ident_within s p) e
    atom_within number p q e = token_within p (number_to s p) q (number_within s p) e
    atom_within index p q e =
        by_test (eqb (index_to s p) p) e (λ t f. not_made s p f) (λ t f. by_test (index_at s p).over f (λ u g. no_to g) (λ u g. at (index_within s p) g))
    atom_within (operator k) p q e =
        by_test (eqb (op_at s p).kind k) e (λ t f. at (takes s p (op_at s p).width (op_wide s p).inside) f) (λ t f. not_made s p f)
    atom_within parts p q e = by_test (is_part s p) e (λ t f. at (stays s p) f) (λ t f. not_made s p f)
    atom_within (unless c) p q e = by_test (eqb (byte_at s p) c) e (λ t f. not_made s p f) (λ t f. at (stays s p) f)
    atom_within comma p q e =
        by_test (eqb (byte_at s p) 44) e
        (λ t f. let h = inside (λ x. eqb x 44) s p refl t in further s (takes s p 1 (omega arith)) (skip_within true (p + 1) q f))
        (λ t f. at (stays s p) f)
    atom_within stop p q e = stopping_within p q e
    atom_within ended p q e =
        by_test (eqb (byte_at s p) 125) e (λ t f. at (stays s p) f)
        (λ t f. by_then (stopping s p) (skip s true) f (λ r g h. further s (stopping_within p r g) (skip_within true r q h)))
    atom_within call p q e =
        by_test (stands (58 ∷ 58 ∷ []) s p) e (λ t f. refused_not (skip s b.lines (p + 2)) q f) (λ t f. opening_within b.left (40 ∷ []) [] p q f)
    atom_within fresh p q e = by_test (eqb (behind_key s σ) p && among s (keys_of b.want) σ) e (λ t f. no_to f) (λ t f. at (stays s p) f)
    atom_within ending p q e = token_within p (p + line_end s p) q (line_within s p) e
    atom_within (run f) p q e = runs_within (round s σ) f p q e
    atom_within (piece f) p q e =
        let m = round s (text_start b.want) in
        by_then (runs f p (text_at m s p)) (token s p) e (λ r g h. token_within p r q (runs_within m f p r g) h)
    atom_within more p q e = subst (λ (x : ℕ). Within s p x) (goes_to p q (unit_at s σ p) e) (stays s p)
    atom_within close p q e = close_within σ p q (unit_at s σ p) refl e

    -- a token that stands is past p
    token_on : (p x q : ℕ) → Within s p x → token s p x ≡ to q → p < q
    token_on p x q h e = by_test (eqb x p) e (λ t f. not_made s p f) (λ t f. let n = eqb-false x p t in let z = to_is f in omega arith)

    marks_on : (w : List ℕ) (l : List (List ℕ)) (p q : ℕ) → 0 < length w → marks s w l p ≡ to q → p < q
    marks_on w l p q h e = by_test (is_mark w l s p) e (λ t f. omega (arith, to_is f)) (λ t f. not_made s p f)

    opening_on : (n : ℕ) (w : List ℕ) (l : List (List ℕ)) (p q : ℕ) → 0 < length w → opening s n w l p ≡ to q → p < q
    opening_on n w l p q h e =
        by_test (is_mark w l s p) e (λ t f. omega (arith, to_is (level_to n p q (to (p + length w)) f))) (λ t f. not_made s p f)

    stopping_on : (p q : ℕ) → stopping s p ≡ to q → p < q
    stopping_on p q e = let (h, z) = stopping_to p q (stop_to s p).how (stop_to s p) e in omega (arith, (stop_ends p (drop p s)).past h)

    -- an atom that eats goes on; of a move that eats by another, the rest eats
    pub atom_eats : (a : Atom) (m : Move) (p q : ℕ) → T (eating (a ∷ m)) → atom s b σ a p ≡ to q → (p < q) ⊎ T (eating m)
    unfolding atom
    atom_eats (gap g) m p q t e = inr t
    atom_eats (mark w l) m p q t e = inl (marks_on w l p q (ltb→lt 0 (length w) t) e)
    atom_eats (opens w l) m p q t e = inl (opening_on b.left w l p q (ltb→lt 0 (length w) t) e)
    atom_eats (word w) m p q t e = inl (by_test (is_word w s p) e (λ u f. omega (arith, to_is f, ltb→lt 0 (length w) t)) (λ u f. not_made s p f))
    atom_eats (ahead w) m p q t e = inr t
    atom_eats for m p q t e = inl (token_on p (for_to s p) q (for_within s p) e)
    atom_eats ident m p q t e = inl (token_on p (ident_to s p) q (ident_within s p) e)
    atom_eats number m p q t e = inl (token_on p (number_to s p) q (number_within s p) e)
    atom_eats index m p q t e =
        let h = index_within s p in
        inl (by_test (eqb (index_to s p) p) e (λ u f. not_made s p f)
        (λ u f. by_test (index_at s p).over f (λ v g. no_to g) (λ v g. let n = eqb-false (index_to s p) p u in let z = to_is g in omega arith)))
    atom_eats (operator k) m p q t e =
        inl (by_test (eqb (op_at s p).kind k) e
        (λ u f. omega (arith, to_is f, ltb→lt 0 k t, eqb-true (op_at s p).kind k u, (op_wide s p).wide)) (λ u f. not_made s p f))
    atom_eats parts m p q t e = inr t
    atom_eats (unless c) m p q t e = inr t
    atom_eats comma m p q t e = inr t
    atom_eats stop m p q t e = inl (stopping_on p q e)
    atom_eats ended m p q t e = inr t
    atom_eats call m p q t e =
        inl (by_test (stands (58 ∷ 58 ∷ []) s p) e (λ u f. refused_not (skip s b.lines (p + 2)) q f) (λ u f. opening_on b.left (40 ∷ []) [] p q (omega arith) f))
    atom_eats fresh m p q t e = inr t
    atom_eats ending m p q t e = inl (token_on p (p + line_end s p) q (line_within s p) e)
    atom_eats (run f) m p q t e = inr t
    atom_eats (piece f) m p q t e =
        let n = round s (text_start b.want) in
        inl (by_then (runs f p (text_at n s p)) (token s p) e (λ r g h. token_on p r q (runs_within n f p r g) h))
    atom_eats more m p q t e = inr t
    atom_eats close m p q t e = inr t

    -- ---- over moves

    pub walk_within : (m : Move) (p q : ℕ) → walk s b σ m p ≡ to q → Within s p q
    unfolding walk
    walk_within [] p q e = at (stays s p) e
    walk_within (a ∷ m) p q e = by_then (atom s b σ a p) (walk s b σ m) e (λ r f g. further s (atom_within a p r f) (walk_within m r q g))

    pub walk_eats : (m : Move) (p q : ℕ) → T (eating m) → walk s b σ m p ≡ to q → p < q
    unfolding walk
    walk_eats [] p q t e = absurd t
    walk_eats (a ∷ m) p q t e =
        by_then (atom s b σ a p) (walk s b σ m) e (λ r f g. go r f g (atom_eats a m p r t f) (walk_eats m r q))
      where
        go : (r : ℕ) → atom s b σ a p ≡ to r → walk s b σ m r ≡ to q → (p < r) ⊎ T (eating m) → (T (eating m) → walk s b σ m r ≡ to q → r < q) → p < q
        go r f g (inl h) ih = omega (arith, (walk_within m r q g).low)
        go r f g (inr u) ih = omega (arith, (atom_within a p r f).low, ih u g)
