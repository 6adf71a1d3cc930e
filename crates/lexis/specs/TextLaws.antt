-- Laws on literal text: a run of text and the line that closes a heredoc are within the source.
use Rattle.std.specs.Prelude.{ℕ, zero, suc, ◌+◌, ◌-◌, ◌≤◌, ◌≡◌, refl, List, [], ◌∷◌, Bool, true, false, cond, length, drop, eqb}
use Rattle.std.proofs.Common.{arith, length-drop}
use Rattle.lexis.specs.declared.heredoc.Line.{Line}
use Rattle.lexis.specs.declared.heredoc.Line.TheVariants.{Text, Closes, Foreign}
use Rattle.lexis.specs.Bytes.{byte_at, is_space, is_rest, is_foreign, run, begins}
use Rattle.lexis.specs.Heredoc.{ends_by, closing, line_as, line_at, fresh_at}
use Rattle.lexis.specs.String.{Mode, Unit, is, not, unit_in, added, unit_else, text_after, text_at}
use Rattle.lexis.specs.RunLaws.{left, run_most, begins_most}
use Rattle.lexis.specs.TokenLaws.{Within, takes}

-- a run is within the list
text_most : (m : Mode) (f : Bool) (n : ℕ) (xs : List ℕ) → (text_after m f n xs).width ≤ length xs
unfolding text_after
text_most m f n [] = omega arith
text_most m f (suc n) (b ∷ s) = omega (arith, text_most m (eqb b 10) n s)
text_most m f zero (b ∷ s) = go (unit_in m f (b ∷ s)) (λ w. text_most m (eqb b 10) (w - 1) s)
  where
    go : (u : Unit) → ((w : ℕ) → (text_after m (eqb b 10) (w - 1) s).width ≤ length s)
        → (unit_else u (λ w bs e. added bs e (text_after m (eqb b 10) (w - 1) s))).width ≤ suc (length s)
    go (is w bs e) h = omega (arith, h w)
    go (not y) h = omega arith

pub text_within : (m : Mode) (s : List ℕ) (p : ℕ) → Within s p (p + (text_at m s p).width)
text_within m s p = takes s p (text_at m s p).width (omega (arith, text_most m (fresh_at s p) 0 (drop p s), left s p))

-- the end of a closing line
ends_closes : (x y : Bool) (n e : ℕ) → cond x Text (cond y (Foreign n) (Closes n)) ≡ Closes e → n ≡ e
ends_closes true y n e h = absurd (let z : ◌≡◌ {A = ℕ} 0 1 = cc in omega arith)
ends_closes false true n e h = absurd (let z : ◌≡◌ {A = ℕ} 0 1 = cc in omega arith)
ends_closes false false n e h = cc

closing_most : (d xs : List ℕ) (e : ℕ) → closing d xs ≡ Closes e → e ≤ length xs
unfolding closing
closing_most d xs e = go (begins d (drop (run is_space xs) xs)) refl
  where
    go : (b : Bool) → begins d (drop (run is_space xs) xs) ≡ b
        → cond b (ends_by (run is_space xs + length d) (byte_at xs (run is_space xs + length d))) Text ≡ Closes e → e ≤ length xs
    go true f h =
        let n = run is_space xs + length d in
        omega (arith, ends_closes (is_rest (byte_at xs n)) (is_foreign (byte_at xs n)) n e h, begins_most d (drop (run is_space xs) xs) f, length-drop (run is_space xs) xs, run_most is_space xs)
    go false f h = absurd (let z : ◌≡◌ {A = ℕ} 0 1 = cc in omega arith)

pub closes_within : (d s : List ℕ) (p e : ℕ) → line_at d s p ≡ Closes e → Within s p e
closes_within d s p e = go (closing d (drop p s)) refl
  where
    go : (l : Line) → closing d (drop p s) ≡ l → line_as p l ≡ Closes e → Within s p e
    go Text f h = absurd (let z : ◌≡◌ {A = ℕ} 0 1 = cc in omega arith)
    go (Closes n) f h =
        let z : p + n ≡ e = cc in
        let m = closing_most d (drop p s) n f in
        record { low = omega arith; high = omega (arith, left s p) }
    go (Foreign n) f h = absurd (let z : ◌≡◌ {A = ℕ} 0 1 = cc in omega arith)
