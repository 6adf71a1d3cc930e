-- Equal keys have one mark.
use Rattle.std.specs.Prelude.{ℕ, ◌+◌, ◌≡◌, refl, List, [], ◌∷◌, Bool, true, false, cond, ◌&&◌, drop, eqb}
use Rattle.std.proofs.Common.{sym, eqb-true}
use Rattle.lexis.specs.Bytes.{byte_at, is_start}
use Rattle.lexis.specs.String.{quoted, text_at}
use Rattle.lexis.specs.Keys.{Key, word, plain, other, is_quote, rest_of, key_at, alike, same_as, same_key}
use Rattle.lexis.specs.RunLaws.{clash}
use Rattle.index.specs.Mark.{mixed_all, mark_at}

and_left : (x y : Bool) → (x && y) ≡ true → x ≡ true
and_left true y e = refl
and_left false y e = e

and_right : (x y : Bool) → (x && y) ≡ true → y ≡ true
and_right true y e = e
and_right false y e = clash (sym e)

alike_same : (l k : List ℕ) → alike l k ≡ true → l ≡ k
unfolding alike
alike_same [] [] e = refl
alike_same [] (y ∷ k) e = clash (sym e)
alike_same (x ∷ l) [] e = clash (sym e)
alike_same (x ∷ l) (y ∷ k) e = rw (eqb-true x y (and_left (eqb x y) (alike l k) e), alike_same l k (and_right (eqb x y) (alike l k) e))

-- the mark of a key of two tests: a string's, a word's, or none
abbrev mark_by : Bool → Bool → List ℕ → List ℕ → ℕ
mark_by q w t l = cond q (mixed_all 0 t) (cond w (mixed_all 0 l) 0)

abbrev key_by : Bool → Bool → Bool → List ℕ → List ℕ → Key
key_by q w c t l = cond w (word l) (cond q (cond c (plain t) other) other)

-- nothing is both
abbrev Apart : Bool → Bool → Type 0
Apart q w = q ≡ true → w ≡ false

same_mark_by : (q w c q' w' c' : Bool) (t l t' l' : List ℕ) → Apart q w → Apart q' w' → same_as (key_by q w c t l) (key_by q' w' c' t' l') ≡ true → mark_by q w t l ≡ mark_by q' w' t' l'
same_mark_by true true c q' w' c' t l t' l' a b e = clash (a refl)
same_mark_by false false c q' w' c' t l t' l' a b e = clash (sym e)
same_mark_by true false false q' w' c' t l t' l' a b e = clash (sym e)
same_mark_by true false true true true c' t l t' l' a b e = clash (b refl)
same_mark_by true false true true false true t l t' l' a b e = rw (alike_same t t' e)
same_mark_by true false true true false false t l t' l' a b e = clash (sym e)
same_mark_by true false true false true c' t l t' l' a b e = clash (sym e)
same_mark_by true false true false false c' t l t' l' a b e = clash (sym e)
same_mark_by false true c true true c' t l t' l' a b e = clash (b refl)
same_mark_by false true c true false true t l t' l' a b e = clash (sym e)
same_mark_by false true c true false false t l t' l' a b e = clash (sym e)
same_mark_by false true c false true c' t l t' l' a b e = rw (alike_same l l' e)
same_mark_by false true c false false c' t l t' l' a b e = clash (sym e)

apart : (b : ℕ) → Apart (eqb b 34) (is_start b)
apart b e = rw (eqb-true b 34 e)

pub same_mark : (s : List ℕ) (a b : ℕ) → same_key s a b ≡ true → mark_at s a ≡ mark_at s b
unfolding mark_at key_at
same_mark s a b e =
    same_mark_by (eqb (byte_at s a) 34) (is_start (byte_at s a)) (is_quote (text_at quoted s (a + 1)).why) (eqb (byte_at s b) 34) (is_start (byte_at s b)) (is_quote (text_at quoted s (b + 1)).why)
    (text_at quoted s (a + 1)).bytes (rest_of (drop a s)) (text_at quoted s (b + 1)).bytes (rest_of (drop b s)) (apart (byte_at s a)) (apart (byte_at s b)) e
