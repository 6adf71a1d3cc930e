-- What one more read leaves in a buffer of which the first n bytes were read before.
use Rattle.std.specs.Prelude.{Option, Some, None}
use Rattle.std.proofs.Common.{◌≡◌, ℕ, ◌+◌, ◌≤◌, List, ◌++◌, sym, ap, subst, ◌∙◌, append_assoc, arith, length, take, le_refl, length-take-le}
use Rattle.std.proofs.Math.Seq.{take-append-add, take-append-le}
use Rattle.std.proofs.lemmas.Slice.{take-put_mid_below}
use borrow.Rule.Slice.PartMut.{put_mid, post_of}
use Rattle.std.specs.Io.KnownBytes.{Consumes, Keeps}

both : (a b d : Option (List ℕ)) (xs ys : List ℕ) → Consumes a b xs → Consumes b d ys → Consumes a d (xs ++ ys)
both None b d xs ys p q = tt
both (Some x) None d xs ys p q = absurd p
both (Some x) (Some y) None xs ys p q = absurd q
both (Some x) (Some y) (Some z) xs ys p q = p ∙ ap (λ l. xs ++ l) q ∙ sym (append_assoc xs ys z)

same : (a b d : Option (List ℕ)) (xs : List ℕ) → Consumes a b xs → Keeps b d → Consumes a d xs
same None b d xs p q = tt
same (Some x) None d xs p q = absurd p
same (Some x) (Some y) None xs p q = absurd q
same (Some x) (Some y) (Some z) xs p q = p ∙ ap (λ l. xs ++ l) (sym q)

module _ (a b d : Option (List ℕ)) (n m : ℕ) (xs ys : List ℕ) (h : n ≤ length xs) (p : Consumes a b (take n xs)) where
  -- it gave k bytes
  pub more : (k : ℕ) → k ≤ length ys → Consumes b d (take k ys) → Consumes a d (take (n + k) (put_mid n m xs ys))
  more k fits q =
      let front : length (take n xs) ≡ n = length-take-le n xs h in
      let e : take (n + k) (put_mid n m xs ys) ≡ take n xs ++ take k ys =
      ap (λ i. take (i + k) (put_mid n m xs ys)) (sym front) ∙ take-append-add (take n xs) (ys ++ post_of n m xs) k ∙ ap (λ l. take n xs ++ l) (take-append-le k ys _ fits) in
      subst (Consumes a d) (sym e) (both a b d _ _ p q)

  -- it gave none
  pub none : (k : ℕ) → k ≡ 0 → Consumes b d (take k ys) → Consumes a d (take n (put_mid n m xs ys))
  none k z q =
      let e : n + k ≡ n = omega arith in
      subst (λ i. Consumes a d (take i (put_mid n m xs ys))) e (more k (omega (arith, z)) q)

  -- it failed
  pub failed : Keeps b d → Consumes a d (take n (put_mid n m xs ys))
  failed q = subst (Consumes a d) (sym (take-put_mid_below _ _ _ _ _ (le_refl _) h)) (same a b d _ p q)
