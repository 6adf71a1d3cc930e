-- Well-formed UTF-8 and literal text: where a source is cut, escapes, and the text of a run.
use Prim.Native.Nat.{ℕ, zero, suc, ◌+◌, ◌*◌, ◌/◌, ◌≤◌, ◌<◌}
use mathlib.Core.Path.{◌≡◌, refl, sym, subst, ◌∙◌}
use mathlib.Core.List.{List, [], ◌∷◌, ◌++◌, append_assoc, append-nil}
use mathlib.Core.Bool.{Bool, true, false, cond, ◌&&◌, and-false}
use mathlib.Core.Option.{Option, none, some, none-ne-some}
use native.Mathlib.Decide.{dec_le, dec_lt}
use native.Mathlib.Omega.{arith}
use lib.ListN.{length, get_or, take, drop, length-drop, length-take, take-append-drop}
use lib.Dec.{leb, ltb, eqb}
use lib.Seq.{get_or-take, drop-drop, drop-append_seam, drop-append-le, take-append-le, length-take-le, take-add, get_or-append_seam}
use borrow.Author.Tests.{eqb-true, leb-true, ltb-true, lt-leb}
use Rattle.lexis.specs.Bytes.{byte_at, is_hex}
use Rattle.lexis.specs.Utf8.{Range, within, Row, table, fits, width_by, sequence, behind_of, Formed, is_scalar, six, encoded}
use Rattle.lexis.specs.Utf8 as utf8
use Rattle.lexis.specs.Heredoc.{closing, fresh_at}
use Rattle.lexis.specs.String.{Mode, quoted, heredoc, Unit, is, not, plain, short, hex_of, hexes, scalar_as, scalar, escape, marker, unit, line_or, unit_in, Text, text_at}
use Rattle.lexis.specs.declared.heredoc.Line.{Line}
use Rattle.lexis.specs.declared.heredoc.Line.TheVariants as line
use Rattle.lexis.specs.declared.string.Why.{Why}
use Rattle.lexis.specs.declared.string.Why.TheVariants.{Quote, Interpolation, Directive, Escape}
use Rattle.lexis.specs.RunLaws.{default, here, clash, and_left, and_right}
use Rattle.lexis.proofs.Spelling.{escape_none}
use Rattle.lexis.proofs.Units.{encoded_by, scalar_most, Fine}
use Rattle.lexis.proofs.Texts.{after, ind}
use Rattle.lexis.proofs.Sequences.{by_ascii, by_two, by_three, by_four, by-E0, by-ED, by-F0, by-F4, inside, sequence_front, sequence_alone}

-- well-formed sources join
pub formed_append : {a b : List ℕ} → Formed a → Formed b → Formed (a ++ b)
formed_append utf8.none g = g
formed_append {b} (utf8.more w s h e f) g = rw (append_assoc w s b) (utf8.more w (s ++ b) h e (formed_append f g))

-- one sequence
pub formed_one : (w : List ℕ) → 0 < length w → sequence w ≡ length w → Formed w
formed_one w h e = rw append-nil at (utf8.more w [] h e utf8.none)

pub formed_byte : (b : ℕ) → b < 0x80 → Formed (b ∷ [])
unfolding sequence
formed_byte b h = formed_one (b ∷ []) (omega arith) (by_ascii b [] h)

-- the first sequence of a well-formed source
record Peeled (l : List ℕ) : Type 0 where
  n : ℕ
  first : sequence l ≡ suc n
  rest : Formed (drop (suc n) l)

peeled_on : (w s : List ℕ) (k : ℕ) → sequence w ≡ k → k ≡ length w → 0 < k → Formed s → Peeled (w ++ s)
peeled_on w s zero e l h f = absurd (omega arith)
peeled_on w s (suc n) e l h f = record { n = n; first = sequence_front w s n e; rest = rw (l, drop-append_seam w s) f }

peeled : {l : List ℕ} → Formed l → 0 < length l → Peeled l
peeled utf8.none h = absurd (omega arith)
peeled (utf8.more w s h e f) k = peeled_on w s (length w) e refl h f

-- behind the first byte of a sequence no byte is less than 80
abbrev lows : List Range → Bool
lows [] = true
lows (r ∷ rs) = leb 0x80 r.low && lows rs

abbrev rows_low : List Row → Bool
rows_low [] = true
rows_low (r ∷ rs) = lows r.behind && rows_low rs

fits_high : (rs : List Range) (l : List ℕ) → lows rs ≡ true → fits rs l ≡ true → (i : ℕ) → i < length rs → 0x80 ≤ get_or l i 0
unfolding fits
fits_high [] l a e i h = absurd (omega arith)
fits_high (r ∷ rs) [] a e i h = clash (sym e)
fits_high (r ∷ rs) (b ∷ l) a e zero h =
    omega (
      arith,
      leb-true 0x80 r.low (and_left (leb 0x80 r.low) (lows rs) a),
      leb-true r.low b (and_left (leb r.low b) (leb b r.high) (and_left (within r b) (fits rs l) e)),
    )
fits_high (r ∷ rs) (b ∷ l) a e (suc i) h =
    fits_high rs l (and_right (leb 0x80 r.low) (lows rs) a) (and_right (within r b) (fits rs l) e) i (omega arith)

width_high : (rows : List Row) (b n : ℕ) (l : List ℕ) → rows_low rows ≡ true → width_by rows b l ≡ suc n → (i : ℕ) → i < n → 0x80 ≤ get_or l i 0
unfolding width_by
width_high [] b n l a e i h = absurd (omega arith)
width_high (r ∷ rs) b n l a e i h =
    go (within r.first b) (fits r.behind l) refl e (λ f. width_high rs b n l (and_right (lows r.behind) (rows_low rs) a) f i h)
  where
    go : (x y : Bool) → fits r.behind l ≡ y → cond x (cond y (suc (length r.behind)) 0) (width_by rs b l) ≡ suc n → (width_by rs b l ≡ suc n → 0x80 ≤ get_or l i 0) → 0x80 ≤ get_or l i 0
    go true true f e g = fits_high r.behind l (and_left (lows r.behind) (rows_low rs) a) f i (omega arith)
    go true false f e g = absurd (omega arith)
    go false y f e g = g e

sequence_high : (l : List ℕ) (n : ℕ) → sequence l ≡ suc n → (i : ℕ) → 1 ≤ i → i ≤ n → 0x80 ≤ get_or l i 0
unfolding sequence table
sequence_high [] n e i h k = absurd (omega arith)
sequence_high (b ∷ l) n e zero h k = absurd (omega arith)
sequence_high (b ∷ l) n e (suc i) h k = width_high table b n l refl e i (omega arith)

-- a well-formed source is cut before and behind a byte less than 80
cut_front : (b : ℕ) (r : List ℕ) → b < 0x80 → Formed (b ∷ r) → Formed r
unfolding sequence
cut_front b r h f =
    let p = peeled f (omega arith) in
    let z : p.n ≡ 0 = omega (arith, p.first, by_ascii b r h) in
    subst (λ (n : ℕ). Formed (drop (suc n) (b ∷ r))) z p.rest

cut_on : (v : List ℕ) (b : ℕ) (r : List ℕ) (n : ℕ) → sequence (v ++ b ∷ r) ≡ suc n → suc n ≤ length v → Formed (drop (suc n) v) → Formed v
cut_on v b r n e h f =
    let l : length (take (suc n) v) ≡ suc n = length-take-le (suc n) v h in
    let g : sequence (take (suc n) v) ≡ suc n = rw (take-append-le (suc n) v (b ∷ r) h) at (sequence_alone (v ++ b ∷ r) n e) in
    rw (take-append-drop (suc n) v) at (utf8.more (take (suc n) v) (drop (suc n) v) (omega arith) (g ∙ sym l) f)

cut_by : (m : ℕ) (u : List ℕ) (b : ℕ) (r : List ℕ) → length u ≤ m → b < 0x80 → Formed (u ++ b ∷ r) → Formed u × Formed r
cut_by zero [] b r h k f = (utf8.none, cut_front b r k f)
cut_by zero (c ∷ u) b r h k f = absurd (omega arith)
cut_by (suc m) [] b r h k f = (utf8.none, cut_front b r k f)
cut_by (suc m) (c ∷ u) b r h k f = go (peeled f (omega arith)) (λ u' b' r'. cut_by m u' b' r')
  where
    go : Peeled (c ∷ u ++ b ∷ r) → ((u' : List ℕ) (b' : ℕ) (r' : List ℕ) → length u' ≤ m → b' < 0x80 → Formed (u' ++ b' ∷ r') → Formed u' × Formed r') → Formed (c ∷ u) × Formed r
    go p ih = by (dec_le (suc p.n) (length (c ∷ u)))
      where
        by : Dec (suc p.n ≤ length (c ∷ u)) → Formed (c ∷ u) × Formed r
        by (yes l) =
            let x = ih (drop (suc p.n) (c ∷ u)) b r (omega (arith, length-drop (suc p.n) (c ∷ u))) k (rw (drop-append-le (suc p.n) (c ∷ u) (b ∷ r) l) at p.rest) in
            (cut_on (c ∷ u) b r p.n p.first l x.0, x.1)
        by (no l) =
            let x : 0x80 ≤ get_or (c ∷ u ++ b ∷ r) (length (c ∷ u)) 0 = sequence_high (c ∷ u ++ b ∷ r) p.n p.first (length (c ∷ u)) (omega arith) (omega arith) in
            let y : get_or (c ∷ u ++ b ∷ r) (length (c ∷ u)) 0 ≡ b = get_or-append_seam (c ∷ u) b r 0 in
            absurd (omega arith)

pub cut : (u : List ℕ) (b : ℕ) (r : List ℕ) → b < 0x80 → Formed (u ++ b ∷ r) → Formed u × Formed r
cut u b r = cut_by (length u) u b r (omega arith)

-- every byte is less than 80
abbrev pub Ascii : List ℕ → Type 0
Ascii a = (i : ℕ) → i < length a → get_or a i 0 < 0x80

ascii_off : (a r : List ℕ) → Ascii a → Formed (a ++ r) → Formed r
ascii_off [] r h f = f
ascii_off (b ∷ a) r h f = ascii_off a r (λ i k. h (suc i) (omega arith)) (cut_front b (a ++ r) (h 0 (omega arith)) f)

-- a well-formed source is cut before and behind such bytes
pub cut_ascii : (u a r : List ℕ) → 0 < length a → Ascii a → Formed (u ++ (a ++ r)) → Formed u × Formed r
cut_ascii u [] r h k f = absurd (omega arith)
cut_ascii u (b ∷ a) r h k f =
    let x = cut u b (a ++ r) (k 0 (omega arith)) f in
    (x.0, ascii_off a r (λ i l. k (suc i) (omega arith)) x.1)

-- the bytes behind a first byte, in one piece
module _ (low high t : ℕ) (a : low ≤ t) (b : t ≤ high) where
  behind_2 : behind_of (t ∷ []) low high 1 ≡ 2
  unfolding fits
  behind_2 = rw (inside low high t a b)

  module _ (u : ℕ) (c : 0x80 ≤ u) (d : u ≤ 0xBF) where
    behind_3 : behind_of (t ∷ u ∷ []) low high 2 ≡ 3
    unfolding fits
    behind_3 = rw (inside low high t a b, inside 0x80 0xBF u c d)

    behind_4 : (v : ℕ) → 0x80 ≤ v → v ≤ 0xBF → behind_of (t ∷ u ∷ v ∷ []) low high 3 ≡ 4
    unfolding fits
    behind_4 v e f = rw (inside low high t a b, inside 0x80 0xBF u c d, inside 0x80 0xBF v e f)

formed_two : (v : ℕ) → 0x80 ≤ v → v < 0x800 → Formed ((0xC0 + v / 64) ∷ six v ∷ [])
unfolding sequence
formed_two v h k =
    formed_one ((0xC0 + v / 64) ∷ six v ∷ []) (omega arith)
    (by_two (0xC0 + v / 64) (six v ∷ []) (omega arith) (omega arith) ∙ behind_2 0x80 0xBF (six v) (omega arith) (omega arith))

-- the first byte f and the second t, then a tail
module _ (f t u : ℕ) (c : 0x80 ≤ u) (d : u ≤ 0xBF) where
  three : (low high : ℕ) → low ≤ t → t ≤ high → width_by table f (t ∷ u ∷ []) ≡ behind_of (t ∷ u ∷ []) low high 2 → Formed (f ∷ t ∷ u ∷ [])
  unfolding sequence
  three low high a b e = formed_one (f ∷ t ∷ u ∷ []) (omega arith) (e ∙ behind_3 low high t a b u c d)

  four : (v low high : ℕ) → 0x80 ≤ v → v ≤ 0xBF → low ≤ t → t ≤ high → width_by table f (t ∷ u ∷ v ∷ []) ≡ behind_of (t ∷ u ∷ v ∷ []) low high 3 → Formed (f ∷ t ∷ u ∷ v ∷ [])
  unfolding sequence
  four v low high x y a b e = formed_one (f ∷ t ∷ u ∷ v ∷ []) (omega arith) (e ∙ behind_4 low high t a b u c d v x y)

no_surrogate : (v : ℕ) → is_scalar v ≡ true → v < 0xE000 → v < 0xD800
no_surrogate v e h = go (ltb v 0xD800) refl
  where
    go : (x : Bool) → ltb v 0xD800 ≡ x → v < 0xD800
    go true f = ltb-true v 0xD800 f
    go false f = absurd (omega (arith, ltb-true 0xDFFF v (and_left (ltb 0xDFFF v) (leb v 0x10FFFF) (rw f at e))))

formed_three : (v : ℕ) → is_scalar v ≡ true → 0x800 ≤ v → v < 0x10000 → Formed ((0xE0 + v / 4096) ∷ six (v / 64) ∷ six v ∷ [])
formed_three v s h k = go (dec_lt v 0x1000) (dec_lt v 0xD000) (dec_lt v 0xE000)
  where
    go : Dec (v < 0x1000) → Dec (v < 0xD000) → Dec (v < 0xE000) → Formed ((0xE0 + v / 4096) ∷ six (v / 64) ∷ six v ∷ [])
    go (yes a) y z =
        let f : 0xE0 + v / 4096 ≡ 0xE0 = omega arith in
        let t : 0xA0 ≤ six (v / 64) = omega arith in
        three (0xE0 + v / 4096) (six (v / 64)) (six v) (omega arith) (omega arith) 0xA0 0xBF t (omega arith) (rw f (by-E0 (six (v / 64) ∷ six v ∷ [])))
    go (no a) (yes b) z =
        three (0xE0 + v / 4096) (six (v / 64)) (six v) (omega arith) (omega arith) 0x80 0xBF (omega arith) (omega arith)
        (by_three (0xE0 + v / 4096) (six (v / 64) ∷ six v ∷ []) (omega arith) (λ x. omega arith) (omega arith))
    go (no a) (no b) (yes c) =
        let f : 0xE0 + v / 4096 ≡ 0xED = omega arith in
        let l : v < 0xD800 = no_surrogate v s c in
        let t : six (v / 64) ≤ 0x9F = omega arith in
        three (0xE0 + v / 4096) (six (v / 64)) (six v) (omega arith) (omega arith) 0x80 0x9F (omega arith) t (rw f (by-ED (six (v / 64) ∷ six v ∷ [])))
    go (no a) (no b) (no c) =
        three (0xE0 + v / 4096) (six (v / 64)) (six v) (omega arith) (omega arith) 0x80 0xBF (omega arith) (omega arith)
        (by_three (0xE0 + v / 4096) (six (v / 64) ∷ six v ∷ []) (omega arith) (λ x. omega arith) (omega arith))

formed_four : (v : ℕ) → v ≤ 0x10FFFF → 0x10000 ≤ v → Formed ((0xF0 + v / 262144) ∷ six (v / 4096) ∷ six (v / 64) ∷ six v ∷ [])
formed_four v k h = go (dec_lt v 0x40000) (dec_lt v 0x100000)
  where
    go : Dec (v < 0x40000) → Dec (v < 0x100000) → Formed ((0xF0 + v / 262144) ∷ six (v / 4096) ∷ six (v / 64) ∷ six v ∷ [])
    go (yes a) y =
        let f : 0xF0 + v / 262144 ≡ 0xF0 = omega arith in
        let t : 0x90 ≤ six (v / 4096) = omega arith in
        four (0xF0 + v / 262144) (six (v / 4096)) (six (v / 64)) (omega arith) (omega arith) (six v) 0x90 0xBF (omega arith) (omega arith) t (omega arith)
        (rw f (by-F0 (six (v / 4096) ∷ six (v / 64) ∷ six v ∷ [])))
    go (no a) (yes b) =
        four (0xF0 + v / 262144) (six (v / 4096)) (six (v / 64)) (omega arith) (omega arith) (six v) 0x80 0xBF (omega arith) (omega arith) (omega arith) (omega arith)
        (by_four (0xF0 + v / 262144) (six (v / 4096) ∷ six (v / 64) ∷ six v ∷ []) (omega arith) (omega arith))
    go (no a) (no b) =
        let f : 0xF0 + v / 262144 ≡ 0xF4 = omega arith in
        let t : six (v / 4096) ≤ 0x8F = omega arith in
        four (0xF0 + v / 262144) (six (v / 4096)) (six (v / 64)) (omega arith) (omega arith) (six v) 0x80 0x8F (omega arith) (omega arith) (omega arith) t
        (rw f (by-F4 (six (v / 4096) ∷ six (v / 64) ∷ six v ∷ [])))

-- a scalar in UTF-8 is well formed
pub encoded_formed : (v : ℕ) → is_scalar v ≡ true → Formed (encoded v)
encoded_formed v e = encoded_by Formed v (formed_byte v) (formed_two v) (formed_three v e) (formed_four v (scalar_most v e))

-- an escape and an escaped marker have only bytes less than 80, and their text is well formed
abbrev Low : List ℕ → ℕ → Type 0
Low l w = (i : ℕ) → i < w → byte_at l i < 0x80

abbrev Clean : List ℕ → Unit → Type 0
Clean l (is w bs e) = e ≡ true → Low l w × Formed bs
Clean l (not y) = Prim.Unit {0}

clean_plain : (b : ℕ) (l : List ℕ) → Clean (b ∷ l) (plain b)
clean_plain b l e = clash (sym e)

low_cons : (b n : ℕ) (l : List ℕ) → b < 0x80 → Low l n → Low (b ∷ l) (suc n)
low_cons b n l h k zero i = h
low_cons b n l h k (suc i) j = k i (omega arith)

low_none : (l : List ℕ) → Low l 0
low_none l i h = absurd (omega arith)

clean_marker : (y : Why) (b : ℕ) (l : List ℕ) → b < 0x80 → Clean (b ∷ l) (marker y b (byte_at l 0) (byte_at l 1))
clean_marker y b l h = go (eqb (byte_at l 0) b && eqb (byte_at l 1) 123) (eqb (byte_at l 0) 123) refl
  where
    two : byte_at l 0 ≡ b → byte_at l 1 ≡ 123 → Low l 2
    two c d zero i = omega arith
    two c d (suc zero) i = omega arith
    two c d (suc (suc j)) i = absurd (omega arith)

    go : (x z : Bool) → (eqb (byte_at l 0) b && eqb (byte_at l 1) 123) ≡ x → Clean (b ∷ l) (cond x (is 3 (b ∷ 123 ∷ []) true) (cond z (not y) (plain b)))
    go true z e = λ f.
        let c : byte_at l 0 ≡ b = eqb-true (byte_at l 0) b (and_left (eqb (byte_at l 0) b) (eqb (byte_at l 1) 123) e) in
        let d : byte_at l 1 ≡ 123 = eqb-true (byte_at l 1) 123 (and_right (eqb (byte_at l 0) b) (eqb (byte_at l 1) 123) e) in
        (low_cons b 2 l h (two c d), formed_append (formed_byte b h) (formed_byte 123 (omega arith)))
    go false true e = tt
    go false false e = clean_plain b l

hex_low : (b : ℕ) → is_hex b ≡ true → b < 0x80
hex_low b e = go (dec_lt b 0x80)
  where
    go : Dec (b < 0x80) → b < 0x80
    go (yes h) = h
    go (no h) = clash (sym e ∙ rw (lt-leb b 57 (omega arith), lt-leb b 70 (omega arith), lt-leb b 102 (omega arith), and-false (leb 48 b), and-false (leb 65 b), and-false (leb 97 b)))

hexes_low : (n v : ℕ) (l : List ℕ) (x : ℕ) → hexes v n l ≡ some x → Low l n
unfolding hexes
hexes_low zero v l x e = low_none l
hexes_low (suc n) v [] x e = absurd (none-ne-some x e)
hexes_low (suc n) v (b ∷ l) x e = go (is_hex b) refl (hexes_low n (v * 16 + hex_of b) l x) e
  where
    go : (y : Bool) → is_hex b ≡ y → (hexes (v * 16 + hex_of b) n l ≡ some x → Low l n) → cond y (hexes (v * 16 + hex_of b) n l) none ≡ some x → Low (b ∷ l) (suc n)
    go true f h e = low_cons b n l (hex_low b f) (h e)
    go false f h e = absurd (none-ne-some x e)

module _ (b c : ℕ) (l : List ℕ) (h : b < 0x80) (k : c < 0x80) where
  clean_short : (x : ℕ) → x < 0x80 → Clean (b ∷ c ∷ l) (short x)
  clean_short x g e = (low_cons b 1 (c ∷ l) h (low_cons c 0 l k (low_none l)), formed_byte x g)

  clean_scalar : (n : ℕ) → Clean (b ∷ c ∷ l) (scalar n l)
  clean_scalar n = go (hexes 0 n l) refl
    where
      value : (v : ℕ) (x : Bool) → is_scalar v ≡ x → Low l n → Clean (b ∷ c ∷ l) (cond x (is (n + 2) (encoded v) true) (not Escape))
      value v true f g = λ e.
          let z : suc (suc n) ≡ n + 2 = omega arith in
          (subst (Low (b ∷ c ∷ l)) z (low_cons b (suc n) (c ∷ l) h (low_cons c n l k g)), encoded_formed v f)
      value v false f g = tt

      go : (o : Option ℕ) → hexes 0 n l ≡ o → Clean (b ∷ c ∷ l) (scalar_as n o)
      go none f = tt
      go (some v) f = value v (is_scalar v) refl (hexes_low n 0 l v f)

  clean_letter : Clean (b ∷ c ∷ l) (escape c l)
  unfolding escape
  clean_letter = go (eqb c 110) (eqb c 114) (eqb c 116) (eqb c 92) (eqb c 34) (eqb c 117) (eqb c 85)
    where
      go : (x₁ x₂ x₃ x₄ x₅ x₆ x₇ : Bool)
          → Clean (b ∷ c ∷ l)
          (cond x₁ (short 10) (cond x₂ (short 13) (cond x₃ (short 9) (cond x₄ (short 92) (cond x₅ (short 34) (cond x₆ (scalar 4 l) (cond x₇ (scalar 8 l) (not Escape))))))))
      go true x₂ x₃ x₄ x₅ x₆ x₇ = clean_short 10 (omega arith)
      go false true x₃ x₄ x₅ x₆ x₇ = clean_short 13 (omega arith)
      go false false true x₄ x₅ x₆ x₇ = clean_short 9 (omega arith)
      go false false false true x₅ x₆ x₇ = clean_short 92 (omega arith)
      go false false false false true x₆ x₇ = clean_short 34 (omega arith)
      go false false false false false true x₇ = clean_scalar 4
      go false false false false false false true = clean_scalar 8
      go false false false false false false false = tt

clean_escape : (b : ℕ) (l : List ℕ) → b < 0x80 → Clean (b ∷ l) (escape (byte_at l 0) (drop 1 l))
unfolding escape
clean_escape b [] h = tt
clean_escape b (c ∷ l) h = go (dec_lt c 0x80)
  where
    go : Dec (c < 0x80) → Clean (b ∷ c ∷ l) (escape c l)
    go (yes k) = clean_letter b c l h k
    go (no k) =
        rw (escape_none c l (λ z. omega arith) (λ z. omega arith) (λ z. omega arith) (λ z. omega arith) (λ z. omega arith) (λ z. omega arith) (λ z. omega arith)) tt

unit_clean : (q : Bool) (l : List ℕ) → Clean l (unit q l)
unfolding unit
unit_clean q [] = tt
unit_clean q (b ∷ l) = go (eqb b 36) (eqb b 37) (q && eqb b 34) (q && eqb b 92) refl refl refl
  where
    go : (x₁ x₂ x₃ x₄ : Bool) → eqb b 36 ≡ x₁ → eqb b 37 ≡ x₂ → (q && eqb b 92) ≡ x₄
        → Clean (b ∷ l)
        (cond x₁ (marker Interpolation b (byte_at l 0) (byte_at l 1))
        (cond x₂ (marker Directive b (byte_at l 0) (byte_at l 1))
        (cond x₃ (not Quote) (cond x₄ (escape (byte_at l 0) (drop 1 l)) (plain b)))))
    go true x₂ x₃ x₄ e f g = clean_marker Interpolation b l (omega (arith, eqb-true b 36 e))
    go false true x₃ x₄ e f g = clean_marker Directive b l (omega (arith, eqb-true b 37 f))
    go false false true x₄ e f g = tt
    go false false false true e f g = clean_escape b l (omega (arith, eqb-true b 92 (and_right q (eqb b 92) g)))
    go false false false false e f g = clean_plain b l

-- a unit of a run is one of the text, so the same holds of it
line_clean : (l : List ℕ) (x : Line) (u : Unit) → Clean l u → Clean l (line_or x u)
line_clean l line.Text u h = h
line_clean l (line.Closes e) u h = tt
line_clean l (line.Foreign e) u h = tt

in_clean : (m : Mode) (f : Bool) (l : List ℕ) → Clean l (unit_in m f l)
in_clean m f [] = tt
in_clean quoted f (b ∷ l) = unit_clean true (b ∷ l)
in_clean (heredoc d) false (b ∷ l) = unit_clean false (b ∷ l)
in_clean (heredoc d) true (b ∷ l) = line_clean (b ∷ l) (closing d (b ∷ l)) (unit false (b ∷ l)) (unit_clean false (b ∷ l))

-- the bytes of a unit, as a list of their own
low_ascii : (l : List ℕ) (w : ℕ) → Low l w → Ascii (take w l)
low_ascii l w h i k =
    let j : i < w = omega (arith, length-take w l) in
    let n : i < length l = omega (arith, here l i, h i j) in
    rw (get_or-take w l i 0 j, default l i 0 256 n) (h i j)

-- the text of a run is well formed where the run is, with anything before both
abbrev Kept : List ℕ → ℕ → Text → Type 0
Kept s i t = (u : List ℕ) → Formed (u ++ take t.width (drop i s)) → Formed (u ++ t.bytes)

kept_more : (s : List ℕ) (i w : ℕ) (bs : List ℕ) (e : Bool) (t : Text) → Clean (drop i s) (is w bs e) → Fine (drop i s) w bs e → Kept s (i + w) t → Kept s i (after w bs e t)
kept_more s i w bs false t c g h u f =
    let a : take w (drop i s) ≡ bs = sym (g.same refl) in
    let k : Formed (u ++ (bs ++ take t.width (drop (i + w) s))) = rw (take-add w t.width (drop i s), drop-drop w i s, a) at f in
    rw (append_assoc u bs t.bytes) at (h (u ++ bs) (rw (append_assoc u bs (take t.width (drop (i + w) s))) k))
kept_more s i w bs true t c g h u f =
    let k : Formed (u ++ (take w (drop i s) ++ take t.width (drop (i + w) s))) = rw (take-add w t.width (drop i s), drop-drop w i s) at f in
    let n : 0 < length (take w (drop i s)) = omega (arith, length-take w (drop i s), g.wide, g.high) in
    let x = cut_ascii u (take w (drop i s)) (take t.width (drop (i + w) s)) n (low_ascii (drop i s) w (c refl).0) k in
    formed_append x.0 (formed_append (c refl).1 (h [] x.1))

-- the text of a run of a well-formed part of the source is well formed
pub text_formed : (m : Mode) (s : List ℕ) (p : ℕ) → Formed (take (text_at m s p).width (drop p s)) → Formed (text_at m s p).bytes
text_formed m s p f = ind m s (Kept s) (λ i y e u h. h) (λ i w bs e v g h. kept_more s i w bs e (text_at m s (i + w)) (subst (Clean (drop i s)) v (in_clean m (fresh_at s i) (drop i s))) g h) p [] f
