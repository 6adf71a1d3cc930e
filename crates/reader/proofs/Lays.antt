-- The records and the texts in the lent buffers.
use Prim.Native.Nat.{ℕ, ◌+◌}
use mathlib.Core.Path.{◌≡◌, refl, sym, ◌∙◌}
use mathlib.Core.Bool.{Bool, true, false, ◌&&◌}
use mathlib.Core.List.{List, [], ◌∷◌, ◌++◌, append_assoc}
use native.Mathlib.Omega.{arith}
use lib.ListN.{length, length-append}
use lib.Dec.{eqb}
use Rattle.lexis.specs.String.{laid}
use Rattle.engine.specs.Base.{Tree, Trees, node, nil, cons, rec_of, size, sizes, join}
use Rattle.grammar.specs.Table.{Record, span, own_as, own, total, texts_of, texts_ofs, records_of, records_ofs}
use Rattle.reader.specs.Buffer.{put_at, lay, write}

-- ---- records

pub lay_none : (b : List ℕ) (i : ℕ) → b ≡ lay b i []
unfolding lay
lay_none b i = refl

pub lay_append : (b : List ℕ) (i : ℕ) (xs ys : List Record) → lay b i (xs ++ ys) ≡ lay (lay b i xs) (i + length xs) ys
unfolding lay
lay_append b i [] ys = let e : i + 0 ≡ i = omega arith in rw e
lay_append b i (x ∷ xs) ys = let e : i + length (x ∷ xs) ≡ i + 1 + length xs = omega arith in rw e (lay_append (put_at b i x) (i + 1) xs ys)

pub lay_one : (b : List ℕ) (i : ℕ) (x : Record) → put_at b i x ≡ lay b i (x ∷ [])
unfolding lay
lay_one b i x = refl

-- what was laid by two readings, one after the other, is laid by the one of both
pub lay_join : (b : List ℕ) (i : ℕ) (xs ys : List Record) {b' b'' : List ℕ} {n : ℕ} → b' ≡ lay b i xs → i + length xs ≡ n → b'' ≡ lay b' n ys → b'' ≡ lay b i (xs ++ ys)
lay_join b i xs ys e l f = f ∙ rw (e, ← l) (sym (lay_append b i xs ys))

-- ---- texts

pub write_none : (x : List ℕ) (u : ℕ) → x ≡ write x u []
unfolding write
write_none x u = refl

pub write_append : (x : List ℕ) (u : ℕ) (ts us : List (List ℕ)) → write x u (ts ++ us) ≡ write (write x u ts) (u + total ts) us
unfolding write
write_append x u [] us = let e : u + 0 ≡ u = omega arith in rw e
write_append x u (t ∷ ts) us = let e : u + (length t + total ts) ≡ u + length t + total ts = omega arith in rw e (write_append (laid x u t) (u + length t) ts us)

pub write_join : (x : List ℕ) (u : ℕ) (ts us : List (List ℕ)) {x' x'' : List ℕ} {n : ℕ} → x' ≡ write x u ts → u + total ts ≡ n → x'' ≡ write x' n us → x'' ≡ write x u (ts ++ us)
write_join x u ts us e l f = f ∙ rw (e, ← l) (sym (write_append x u ts us))

pub total_append : (ts us : List (List ℕ)) → total (ts ++ us) ≡ total ts + total us
total_append [] us = omega arith
total_append (t ∷ ts) us = let h = total_append ts us in omega arith

-- ---- of trees one after the other

pub texts_join : (s : List ℕ) (t : ℕ) (ts us : Trees ℕ) → texts_ofs s t (join ts us) ≡ texts_ofs s t ts ++ texts_ofs s t us
texts_join s t nil us = refl
texts_join s t (cons x ts) us = rw (texts_join s t ts us) (sym (append_assoc (texts_of s t x) (texts_ofs s t ts) (texts_ofs s t us)))

pub records_join : (s : List ℕ) (t u : ℕ) (ts us : Trees ℕ) → records_ofs s t u (join ts us) ≡ records_ofs s t u ts ++ records_ofs s t (u + total (texts_ofs s t ts)) us
records_join s t u nil us = let e : u + 0 ≡ u = omega arith in rw e
records_join s t u (cons x ts) us =
    let n = total (texts_of s t x) in
    let e : u + total (texts_of s t x ++ texts_ofs s t ts) ≡ u + n + total (texts_ofs s t ts) = omega (arith, total_append (texts_of s t x) (texts_ofs s t ts)) in
    rw (e, records_join s t (u + n) ts us) (sym (append_assoc (records_of s t u x) (records_ofs s t (u + n) ts) (records_ofs s t (u + n + total (texts_ofs s t ts)) us)))

mutual
  pub length_records : (s : List ℕ) (t u : ℕ) (x : Tree ℕ) → length (records_of s t u x) ≡ size x
  length_records s t u (node k φ b e ts) = simp length-append (omega (arith, lengths_records s b u ts))

  pub lengths_records : (s : List ℕ) (t u : ℕ) (ts : Trees ℕ) → length (records_ofs s t u ts) ≡ sizes ts
  lengths_records s t u nil = refl
  lengths_records s t u (cons x ts) = simp length-append (omega (arith, length_records s t u x, lengths_records s t (u + total (texts_of s t x)) ts))

-- ---- only a piece looks at where its parent starts

own_any : (s : List ℕ) (t t' k φ b : ℕ) (x : Bool) → eqb k 9 ≡ false → own_as s t b x (eqb k 9 && eqb φ 1) ≡ own_as s t' b x (eqb k 9 && eqb φ 1)
own_any s t t' k φ b true e = refl
own_any s t t' k φ b false e = rw e

pub own_same : (s : List ℕ) (t t' k φ b : ℕ) → eqb k 9 ≡ false → own s t k φ b ≡ own s t' k φ b
unfolding own
own_same s t t' k φ b e = own_any s t t' k φ b (eqb k 6 && eqb φ 1) e

pub texts_same : (s : List ℕ) (t t' : ℕ) (x : Tree ℕ) → eqb (rec_of x).kind 9 ≡ false → texts_of s t x ≡ texts_of s t' x
texts_same s t t' (node k φ b e ts) h = rw (own_same s t t' k φ b h)

pub records_same : (s : List ℕ) (t t' u : ℕ) (x : Tree ℕ) → eqb (rec_of x).kind 9 ≡ false → records_of s t u x ≡ records_of s t' u x
records_same s t t' u (node k φ b e ts) h = rw (own_same s t t' k φ b h)

-- a kind that is neither a string nor a piece has no text of its own
pub own_none : (s : List ℕ) (t k φ b : ℕ) → eqb k 6 ≡ false → eqb k 9 ≡ false → own s t k φ b ≡ []
unfolding own
own_none s t k φ b e f = rw (e, f)

pub span_none : (k φ b e u n : ℕ) → eqb k 6 ≡ false → eqb k 9 ≡ false → span k φ b e u n ≡ (0, 0)
span_none k φ b e u n f g = rw (f, g)
