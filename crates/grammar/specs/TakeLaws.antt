-- Laws on moves: each atom takes at least the bytes that Thrift says, and so does each move.
use Rattle.std.specs.Prelude.{ℕ, zero, suc, ◌+◌, ◌≤◌, ◌<◌, ◌≡◌, refl, Bool, true, false, cond, ◌&&◌, ◌⊎◌, length, eqb, ltb, T}
use mathlib.Core.List.{List, [], ◌∷◌}
use Rattle.std.proofs.Common.{inl, inr, arith}
use Rattle.std.proofs.lemmas.Bool.{eqb-false}
use Rattle.lexis.specs.Bytes.{byte_at, stands}
use Rattle.lexis.specs.Word.{is_word, for', ends_for}
use Rattle.lexis.specs.Operator.{is_mark}
use Rattle.grammar.specs.Moves.{Under, to, token, opening, Atom, gap, mark, opens, word, ahead, for, ident, number, index, operator, parts, unless, comma, stop, ended, call, fresh, ending, run, piece, more, close, atom, Move, walk}
use Rattle.grammar.specs.Answer.{eating}
use Rattle.grammar.specs.Thrift.{takes, eaten}
use Rattle.grammar.specs.MoveLaws.{no_to, to_is, by_test, by_then, not_made, atom_within, atom_eats}

module _ (s : List ℕ) (b : Under) (σ : ℕ) where
  -- an atom that eats takes a byte
  takes_one : (a : Atom) (p q : ℕ) → T (eating (a ∷ [])) → atom s b σ a p ≡ to q → p < q
  takes_one a p q t e = go (atom_eats s b σ a [] p q t e)
    where
      go : (p < q) ⊎ T (eating []) → p < q
      go (inl h) = h
      go (inr u) = absurd u

  -- an atom that may take nothing
  takes_none : (a : Atom) (p q : ℕ) → atom s b σ a p ≡ to q → p + 0 ≤ q
  takes_none a p q e = omega (arith, (atom_within s b σ a p q e).low)

  opening_takes : (n : ℕ) (w : List ℕ) (l : List (List ℕ)) (p q : ℕ) → opening s n w l p ≡ to q → p + length w ≤ q
  opening_takes zero w l p q e = by_test (is_mark w l s p) e (λ t f. no_to f) (λ t f. not_made s p f)
  opening_takes (suc n) w l p q e = by_test (is_mark w l s p) e (λ t f. omega (arith, to_is f)) (λ t f. not_made s p f)

  for_takes : (p q : ℕ) (y : Bool) → token s p (cond y (p + 3) p) ≡ to q → p + 3 ≤ q
  for_takes p q true e = by_test (eqb (p + 3) p) e (λ t f. not_made s p f) (λ t f. omega (arith, to_is f))
  for_takes p q false e = by_test (eqb p p) e (λ t f. not_made s p f) (λ t f. absurd (eqb-false p p t refl))

  operator_takes : (k p q : ℕ) → atom s b σ (operator k) p ≡ to q → p + cond (ltb 0 k) 1 0 ≤ q
  operator_takes k p q e = go (ltb 0 k) (λ t. takes_one (operator k) p q t e)
    where
      go : (y : Bool) → (T y → p < q) → p + cond y 1 0 ≤ q
      go true f = omega (arith, f tt)
      go false f = takes_none (operator k) p q e

  pub atom_takes : (a : Atom) (p q : ℕ) → atom s b σ a p ≡ to q → p + takes a ≤ q
  unfolding atom
  atom_takes (gap g) p q e = takes_none (gap g) p q e
  atom_takes (mark w l) p q e = by_test (is_mark w l s p) e (λ t f. omega (arith, to_is f)) (λ t f. not_made s p f)
  atom_takes (opens w l) p q e = opening_takes b.left w l p q e
  atom_takes (word w) p q e = by_test (is_word w s p) e (λ t f. omega (arith, to_is f)) (λ t f. not_made s p f)
  atom_takes (ahead w) p q e = takes_none (ahead w) p q e
  atom_takes for p q e = for_takes p q (stands for' s p && ends_for (byte_at s (p + 3))) e
  atom_takes ident p q e = omega (arith, takes_one ident p q tt e)
  atom_takes number p q e = omega (arith, takes_one number p q tt e)
  atom_takes index p q e = omega (arith, takes_one index p q tt e)
  atom_takes (operator k) p q e = operator_takes k p q e
  atom_takes parts p q e = takes_none parts p q e
  atom_takes (unless c) p q e = takes_none (unless c) p q e
  atom_takes comma p q e = takes_none comma p q e
  atom_takes stop p q e = omega (arith, takes_one stop p q tt e)
  atom_takes ended p q e = takes_none ended p q e
  atom_takes call p q e = omega (arith, takes_one call p q tt e)
  atom_takes fresh p q e = takes_none fresh p q e
  atom_takes ending p q e = omega (arith, takes_one ending p q tt e)
  atom_takes (run f) p q e = takes_none (run f) p q e
  atom_takes (piece f) p q e = omega (arith, takes_one (piece f) p q tt e)
  atom_takes more p q e = takes_none more p q e
  atom_takes close p q e = takes_none close p q e

  pub walk_takes : (m : Move) (p q : ℕ) → walk s b σ m p ≡ to q → p + eaten m ≤ q
  unfolding walk
  walk_takes [] p q e = omega (arith, to_is e)
  walk_takes (a ∷ m) p q e =
      by_then (atom s b σ a p) (walk s b σ m) e (λ r f g. omega (arith, atom_takes a p r f, walk_takes m r q g))
