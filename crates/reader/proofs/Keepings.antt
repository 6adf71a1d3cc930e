-- Laws on the keys of an object, with one more.
use Prim.Native.Nat.{ℕ, ◌+◌, ◌*◌, ◌≤◌}
use mathlib.Core.Path.{◌≡◌, refl, sym, ap, ◌∙◌}
use mathlib.Core.Bool.{Bool, true, false, cond, ◌||◌}
use mathlib.Core.List.{List, [], ◌∷◌, ◌++◌}
use native.Mathlib.Omega.{arith}
use lib.ListN.{take}
use lib.Seq.{take-take}
use Rattle.lexis.specs.Keys.{among, same_key}
use Rattle.index.specs.Index.{starts, Inserted}
use Rattle.index.specs.IndexLaws.{starts_kept}
use Rattle.grammar.specs.Moves.{lone, lones}
use Rattle.reader.specs.Items.{met_in, Keeping, Keeps}
use Rattle.reader.specs.Said.{Kept}

-- a key that may not be compared, and one that may
module _ {s y : List ℕ} {first top q m : ℕ} {alone : Bool} (g : Keeping s y first top q m alone) where
  pub keep_none : lone s q ≡ false → Keeps s y y first top q top
  keep_none f = record { indexed = g.indexed; keys = rw f; next = rw f; same = refl; long = refl }

  pub keep_one : {y' : List ℕ} → lone s q ≡ true → Inserted s y y' first top q → Keeps s y y' first top q (top + 1)
  keep_one f h = record { indexed = h.indexed; keys = rw f h.starts; next = rw f; same = h.same; long = h.long }

or_swap : (a b c : Bool) → (a || (b || c)) ≡ (b || (a || c))
or_swap true true c = refl
or_swap true false c = refl
or_swap false b c = refl

among_last : (s l : List ℕ) (q v : ℕ) → among s (l ++ q ∷ []) v ≡ (same_key s q v || among s l v)
unfolding among
among_last s [] q v = refl
among_last s (a ∷ l) q v = rw (among_last s l q v) (or_swap (same_key s a v) (same_key s q v) (among s l v))

pub met_more : (s l : List ℕ) (k top q v : ℕ) {y y' y'' : List ℕ} {r : ℕ} → among s (lones s l) v ≡ met_in s y k top v → Kept top y y' → Keeps s y' y'' k top q r
    → among s (lones s (q ∷ l)) v ≡ met_in s y'' k r v
unfolding lones among
met_more s l k top q v {y} {y'} {y''} {r} h kept g = go (lone s q) g.keys
  where
    same : among s (starts y' k top) v ≡ among s (lones s l) v
    same = ap (λ (x : List ℕ). among s x v) (starts_kept y y' top kept.same k) ∙ sym h

    go : (x : Bool) → starts y'' k r ≡ cond x (starts y' k top ++ q ∷ []) (starts y' k top) → among s (cond x (q ∷ lones s l) (lones s l)) v ≡ among s (starts y'' k r) v
    go true e = rw (e, among_last s (starts y' k top) q v, same)
    go false e = rw e (sym same)

pub kept_less : {k top : ℕ} {y y' : List ℕ} → k ≤ top → Kept top y y' → Kept k y y'
kept_less {k} {top} {y} {y'} low h = record { same = sym (take_less y') ∙ ap (take (4 * k)) h.same ∙ take_less y; long = h.long }
  where
    take_less : (l : List ℕ) → take (4 * k) (take (4 * top) l) ≡ take (4 * k) l
    take_less l = take-take (4 * k) (4 * top) l (omega arith)

pub kept_next : {s y y' : List ℕ} {k top q r : ℕ} → Keeps s y y' k top q r → Kept k y y'
kept_next g = record { same = g.same; long = g.long }
