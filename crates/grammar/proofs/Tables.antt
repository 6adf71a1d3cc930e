-- Laws on tables: a test that passes at every entry, which is computed once, passes at each.
use Prim.Native.Nat.{ℕ, zero, suc, ◌-◌, ◌*◌, ◌≤◌, ◌<◌}
use mathlib.Core.Path.{◌≡◌, refl}
use mathlib.Core.List.{List, [], ◌∷◌}
use mathlib.Core.Bool.{Bool, true, false, ◌&&◌}
use native.Mathlib.Omega.{arith}
use lib.ListN.{get_or, get_or-eq_default}
use lib.Dec.{T, leb, leb→le}
use borrow.Author.Tests.{leb-true, leb-false}
use Rattle.engine.specs.Base.{all_of, has}
use Rattle.grammar.specs.Code.{atoms, program, code, class, begins, begin}
use Rattle.grammar.specs.Said.{classes}

first : (a b : Bool) → T (a && b) → T a
first true b t = tt
first false b t = absurd t

second : (a b : Bool) → T (a && b) → T b
second true b t = t
second false b t = absurd t

-- what passes at every entry, and at the 0 past them, passes at any place
pub at : (q : ℕ → Bool) (xs : List ℕ) → T (all_of q xs) → T (q 0) → (k : ℕ) → T (q (get_or xs k 0))
at q [] t z k = z
at q (x ∷ xs) t z zero = first (q x) (all_of q xs) t
at q (x ∷ xs) t z (suc k) = at q xs (second (q x) (all_of q xs) t) z k

-- every start of a program is a byte
pub begin_byte : (k : ℕ) → begin k ≤ 255
unfolding begins
begin_byte k = leb→le (begin k) 255 (at (λ x. leb x 255) begins tt tt k)

-- every class of the program is known
pub class_known : (pc : ℕ) → T (has classes (class (code pc)))
unfolding program
class_known pc = at (λ x. has classes (class x)) program tt tt pc

-- what is no 0 stands within the program
pub code_within : (pc : ℕ) → code pc ≤ 4294967295 * (228 - pc)
unfolding program
code_within pc = go (leb 228 pc) refl
  where
    go : (b : Bool) → leb 228 pc ≡ b → code pc ≤ 4294967295 * (228 - pc)
    go true e = let h : 228 ≤ pc = leb-true 228 pc e in omega (arith, get_or-eq_default program 0 {n = pc} h)
    go false e = let h : pc < 228 = leb-false 228 pc e in omega (arith, leb→le (code pc) 4294967295 (at (λ x. leb x 4294967295) program tt tt pc))

-- nor any atom's number past the last
pub atom_within : (a : ℕ) → get_or atoms a 0 ≤ 65535 * (146 - a)
unfolding atoms
atom_within a = go (leb 146 a) refl
  where
    go : (b : Bool) → leb 146 a ≡ b → get_or atoms a 0 ≤ 65535 * (146 - a)
    go true e = let h : 146 ≤ a = leb-true 146 a e in omega (arith, get_or-eq_default atoms 0 {n = a} h)
    go false e = let h : a < 146 = leb-false 146 a e in omega (arith, leb→le (get_or atoms a 0) 65535 (at (λ x. leb x 65535) atoms tt tt a))

-- ---- tables as a match: an arm for each entry, and one for what lies behind

-- x is none of the first n numbers, as the last arm is told
unfoldable pub Others : ℕ → ℕ → Type 0
Others zero x = Unit {0}
Others (suc n) x = Others n x × (x ≡ n → ⊥)

pub behind : (n x : ℕ) → Others n x → n ≤ x
unfolding Others
behind zero x o = omega arith
behind (suc n) x o = let h = behind n x o.0 in let d = o.1 in omega (arith, h, d)
