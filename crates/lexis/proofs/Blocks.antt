-- Laws on blocks of ASCII: the greatest byte of a block, and the good bytes behind a block whose bytes are all ASCII.
use Prim.Native.Nat.{ℕ, zero, suc, ◌+◌, ◌-◌, ◌≤◌, ◌<◌, max}
use mathlib.Core.Path.{◌≡◌, ◌∙◌}
use mathlib.Core.List.{List, [], ◌∷◌}
use mathlib.Core.Bool.{true}
use native.Mathlib.Omega.{arith}
use lib.ListN.{length, get_or, take, drop, length-drop}
use lib.Dec.{leb, ltb}
use lib.Seq.{drop-cons, drop-drop, get_or-drop}
use Rattle.std.proofs.lemmas.List.{get_or-take, length-take-le}
use borrow.Author.Tests.{leb-true, ltb-true}
use Rattle.lexis.specs.RunLaws.{and_left, and_right}
use Rattle.lexis.specs.Utf8.{sequence, greatest, ascii_block, first_bad}
use Rattle.lexis.proofs.Sequences.{by_ascii, good_step}

-- a part of a source, gone over byte by byte
module _ (s : List ℕ) (p e k : ℕ) (h : e ≤ length s) where
  part_long : length (take (e - p) (drop p s)) ≡ e - p
  part_long = length-take-le (e - p) (drop p s) (omega (arith, length-drop p s))

  pub part_over : length (take (e - p) (drop p s)) ≤ k → e ≤ p + k
  part_over n = omega (arith, part_long)

  module _ (n : k < length (take (e - p) (drop p s))) where
    pub part_inside : p + k < e
    part_inside = omega (arith, part_long)

    pub part_read : get_or (take (e - p) (drop p s)) k 0 ≡ get_or s (p + k) 0
    part_read = get_or-take (e - p) (drop p s) k 0 (omega (arith, part_long)) ∙ get_or-drop p s k 0

-- the loop over a block: m and the greatest of what is left are the greatest of the block
module _ (s : List ℕ) (p : ℕ) where
  pub greatest_on : (i m : ℕ) → i < 64 → p + i < length s
      → max (max m (get_or s (p + i) 0)) (greatest (take (64 - (i + 1)) (drop (p + (i + 1)) s))) ≡ max m (greatest (take (64 - i) (drop (p + i) s)))
  unfolding greatest
  greatest_on i m h l =
      let e : 64 - i ≡ suc (64 - (i + 1)) = omega arith in
      let f : p + (i + 1) ≡ suc (p + i) = omega arith in
      rw (e, f, drop-cons s (p + i) 0 l) (omega arith)

  pub greatest_end : (i m : ℕ) → 64 ≤ i → max m (greatest (take (64 - i) (drop (p + i) s))) ≡ m
  unfolding greatest
  greatest_end i m h =
      let e : 64 - i ≡ 0 = omega arith in
      rw e (omega arith)

-- bytes that are all ASCII are good
ascii_pass : (n : ℕ) (l : List ℕ) → n ≤ length l → greatest (take n l) < 0x80 → first_bad l ≡ n + first_bad (drop n l)
unfolding greatest sequence
ascii_pass zero l h g = omega arith
ascii_pass (suc n) [] h g = absurd (omega arith)
ascii_pass (suc n) (b ∷ l) h g =
    let k : max b (greatest (take n l)) < 0x80 = g in
    let x : first_bad (b ∷ l) ≡ 1 + first_bad l = good_step (b ∷ l) 1 (by_ascii b l (omega arith)) (λ e. omega arith) in
    omega (arith, x, ascii_pass n l (omega arith) (omega arith))

-- past a block of ASCII
module _ (s : List ℕ) (i : ℕ) (e : ascii_block (drop i s) ≡ true) where
  long : 64 ≤ length (drop i s)
  long = leb-true _ _ (and_left (leb 64 (length (drop i s))) (ltb (greatest (take 64 (drop i s))) 0x80) e)

  pub block_inside : i + 64 ≤ length s
  block_inside = omega (arith, long, length-drop i s)

  pub block_on : (i + 64) + first_bad (drop (i + 64) s) ≡ i + first_bad (drop i s)
  block_on =
      let g : greatest (take 64 (drop i s)) < 0x80 = ltb-true _ _ (and_right (leb 64 (length (drop i s))) (ltb (greatest (take 64 (drop i s))) 0x80) e) in
      rw (← drop-drop 64 i s) (omega (arith, ascii_pass 64 (drop i s) long g))
