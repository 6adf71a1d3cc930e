-- Laws on words: the end of a word at a place tells whether the word stands there.
use Prim.Native.Nat.{ℕ, ◌+◌, ◌≤◌, ◌<◌}
use mathlib.Core.Path.{◌≡◌, refl, sym, ◌∙◌}
use mathlib.Core.List.{List}
use mathlib.Core.Bool.{Bool, true, false, cond, not}
use native.Mathlib.Omega.{arith}
use lib.ListN.{length}
use lib.Dec.{eqb}
use borrow.Author.Tests.{eq-eqb, ne_eqb}
use Rattle.std.specs.Bool.{then_some}
use Rattle.lexis.specs.Bytes.{byte_at, is_start, is_rest, run_to, stands, Ran}
use Rattle.lexis.specs.Word.{ident_to, is_word, word_to, constant_at, kind_or_none, null, yes, no}
use Rattle.lexis.specs.RunLaws.{inside}
use Rattle.lexis.proofs.Runs.{unmoved}

-- an identifier is its first byte and the run behind it
pub ident_on : {s : List ℕ} {p r : ℕ} → is_start (byte_at s p) ≡ true → Ran s (p + 1) (run_to is_rest s (p + 1)) r → Ran s p (ident_to s p) r
ident_on {s} {p} e h = let l : p < length s = inside is_start s p refl e in record { is = h.is ∙ sym (rw e); low = omega arith; high = omega arith }

module _ (w s : List ℕ) (p : ℕ) where
  pub word_on : {b : Bool} → stands w s p ≡ true → is_rest (byte_at s (p + length w)) ≡ b → word_to w s p ≡ cond (not b) (p + length w) p
  word_on e f = rw (e, f)

  module _ {r : ℕ} (h : Ran s p (word_to w s p) r) where
    pub no_word : 1 ≤ length w → r ≡ p → is_word w s p ≡ false
    no_word l e = unmoved p (p + length w) (is_word w s p) (omega arith) (sym h.is ∙ e)

    -- the test that the code makes
    pub word_test : 1 ≤ length w → not (eqb r p) ≡ is_word w s p
    word_test l = go (is_word w s p) refl
      where
        go : (b : Bool) → is_word w s p ≡ b → not (eqb r p) ≡ b
        go true e = let n : r ≡ p + length w = h.is ∙ rw e in rw (ne_eqb r p (λ z. omega arith))
        go false e = let n : r ≡ p = h.is ∙ rw e in rw (eq-eqb r p n)

-- the last of the constants, where the first two do not stand
pub last_constant : (s : List ℕ) (p : ℕ) {b : Bool} → is_word null s p ≡ false → is_word yes s p ≡ false → b ≡ is_word no s p
    → then_some b 3 ≡ kind_or_none (constant_at s p)
last_constant s p n m e = rw (n, m, ← e) (go _)
  where
    go : (b : Bool) → then_some b 3 ≡ kind_or_none (cond b 3 0)
    go true = refl
    go false = refl
