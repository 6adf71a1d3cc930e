-- The first bad sequence against well-formed sources: what stands before it is well formed and no sequence stands there, and it is the source's end
-- exactly where the source is well formed.
use Prim.Native.Nat.{ℕ, zero, suc, ◌+◌, ◌≤◌, ◌<◌}
use mathlib.Core.Path.{◌≡◌, refl, sym, ap, subst, ◌∙◌}
use mathlib.Core.List.{List, [], ◌∷◌, ◌++◌}
use mathlib.Core.Logic.{◌↔◌}
use native.Mathlib.Omega.{arith}
use lib.ListN.{length, take, drop, length-append, length-drop}
use lib.Seq.{drop-drop, drop-append_seam, length-take-le, take-add, take-length}
use Rattle.lexis.specs.Utf8.{sequence, first_bad, good_after, Formed, none, more}
use Rattle.lexis.proofs.Sequences.{sequence_long, sequence_front, sequence_alone, good_step, good_stop}

-- a source splits at its first bad sequence
pub record Split (s : List ℕ) (p : ℕ) : Type 0 where
  pub good : Formed (take p s)
  pub bad : sequence (drop p s) ≡ 0

-- a sequence at the front of a source that splits behind it
split_on : (s : List ℕ) (n p : ℕ) → sequence s ≡ suc n → Split (drop (suc n) s) p → Split s (suc n + p)
split_on s n p e h =
    let long : length (take (suc n) s) ≡ suc n = length-take-le (suc n) s (omega (arith, sequence_long s)) in
    record {
      good = rw (take-add (suc n) p s) (more (take (suc n) s) (take p (drop (suc n) s)) (omega arith) (sequence_alone s n e ∙ sym long) h.good);
      bad = rw (← drop-drop p (suc n) s) h.bad;
    }

split_by : (m : ℕ) (s : List ℕ) → length s ≤ m → Split s (first_bad s)
unfolding good_after sequence
split_by zero [] h = record { good = none; bad = refl }
split_by zero (b ∷ s) h = absurd (omega arith)
split_by (suc m) s h = go (sequence s) refl (split_by m)
  where
    go : (k : ℕ) → sequence s ≡ k → ((l : List ℕ) → length l ≤ m → Split l (first_bad l)) → Split s (first_bad s)
    go zero e ih = rw (good_stop s e) (record { good = none; bad = e })
    go (suc n) e ih =
        rw (good_step s (suc n) e (λ z. omega arith))
        (split_on s n (first_bad (drop (suc n) s)) e (ih (drop (suc n) s) (omega (arith, length-drop (suc n) s, sequence_long s))))

pub split : (s : List ℕ) → Split s (first_bad s)
split s = split_by (length s) s (omega arith)

joined : (w s : List ℕ) (n : ℕ) → sequence w ≡ n → n ≡ length w → 0 < n → first_bad s ≡ length s → first_bad (w ++ s) ≡ length (w ++ s)
joined w s zero e l h f = absurd (omega arith)
joined w s (suc n) e l h f =
    rw (good_step (w ++ s) (suc n) (sequence_front w s n e) (λ z. omega arith), l, drop-append_seam w s, length-append w s) (omega arith)

pub formed_good : {s : List ℕ} → Formed s → first_bad s ≡ length s
unfolding good_after
formed_good none = refl
formed_good (more w s pos e f) = joined w s (length w) e refl pos (formed_good f)

pub good_formed : (s : List ℕ) → first_bad s ≡ length s → Formed s
good_formed s e = subst Formed (ap (λ (n : ℕ). take n s) e ∙ take-length s) (split s).good

-- the first bad sequence is the end of the source exactly where the source is well formed
pub well_formed : (s : List ℕ) → (first_bad s ≡ length s) ↔ Formed s
well_formed s = (good_formed s, formed_good)
