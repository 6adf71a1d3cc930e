-- Laws on text that is written: bytes out of one number, and text laid over a buffer piece by piece.
use Prim.Native.Nat.{ℕ, zero, suc, ◌+◌, ◌-◌, ◌*◌, ◌/◌, ◌%◌, ◌≤◌, ◌<◌}
use mathlib.Core.Path.{◌≡◌, refl, sym, ap, ◌∙◌}
use mathlib.Core.List.{List, [], ◌∷◌, ◌++◌, append_assoc}
use mathlib.Core.Bool.{Bool, true, false}
use native.Mathlib.Numerals.{add-one}
use native.Mathlib.Nat.{add-zero}
use native.Mathlib.Omega.{arith}
use lib.ListN.{length, get_or, take, drop, set, length-set, length-append, length-drop}
use lib.Seq.{paste, paste-zero, paste-suc, take-paste, drop-paste, drop-drop, get_or-drop, take-add, take-length, take-append_seam, drop-append_seam}
use borrow.Author.Tests.{le-leb, lt-leb}
use Rattle.lexis.specs.Heredoc.{fresh_at, part}
use Rattle.lexis.specs.String.{Mode, mode_of, Unit, is, not, unit, unit_in, Text, text_at, packed, unpacked, Piece, piece_of, piece_from, UnitAt, RunHere, fits_at, Wrote}
use Rattle.lexis.specs.declared.string.Why.TheVariants.{End}
use Rattle.lexis.specs.declared.string.Why.{Why}
use Rattle.lexis.specs.declared.string.Run.{Run}
use Rattle.lexis.specs.declared.string.Unit.{Unit as Made}
use Rattle.std.proofs.Common.{rules}
use Rattle.std.specs.Prelude.{Result, Ok, Err, IsOk}
use Rattle.lexis.proofs.Units.{Bytewise, Fine, Sound}
use Rattle.lexis.proofs.Texts.{after, step, stop, in_sound, facts, of_heredoc, not_is, bytewise_drop}

pub unpacked_long : (n v : ℕ) → length (unpacked n v) ≡ n
unfolding unpacked
unpacked_long zero v = refl
unpacked_long (suc n) v = ap suc (unpacked_long n (v / 256))

pub unpack : (bs : List ℕ) → Bytewise bs → unpacked (length bs) (packed bs) ≡ bs
unfolding unpacked packed
unpack [] h = refl
unpack (b ∷ bs) h =
    let k : b < 256 = h 0 in
    let d : (b + 256 * packed bs) / 256 ≡ packed bs = omega arith in
    let r : (b + 256 * packed bs) % 256 ≡ b = omega arith in
    rw (d, r) (ap (λ (l : List ℕ). b ∷ l) (unpack bs (λ i. h (suc i))))

-- the loop that writes the bytes of a unit: k of them are written, and the others are in `left`
pub record Putting (b₀ : List ℕ) (at bytes count : ℕ) (b : List ℕ) (left k : ℕ) : Type 0 where
  pub few : k ≤ count
  pub rest : unpacked (count - k) left ≡ drop k (unpacked count bytes)
  pub laid : b ≡ paste b₀ at (unpacked count bytes) k
  pub long : length b ≡ length b₀

module _ {b₀ : List ℕ} {at bytes count : ℕ} {b : List ℕ} {left k : ℕ} (g : Putting b₀ at bytes count b left k) where
  pub put_more : k < count → at + count ≤ length b₀ → Putting b₀ at bytes count (set b (at + k) (left % 256)) (left / 256) (k + 1)
  unfolding unpacked
  put_more h r =
      let z : count - k ≡ suc (count - (k + 1)) = omega arith in
      let e : (left % 256) ∷ unpacked (count - (k + 1)) (left / 256) ≡ drop k (unpacked count bytes) = rw z at g.rest in
      let x : left % 256 ≡ get_or (unpacked count bytes) k 0 = ap (λ (l : List ℕ). get_or l 0 0) e ∙ get_or-drop k (unpacked count bytes) 0 0 ∙ ap (λ (n : ℕ). get_or (unpacked count bytes) n 0) (add-zero k) in
      record {
        few = omega arith;
        rest = ap (drop 1) e ∙ drop-drop 1 k (unpacked count bytes);
        laid =
            ap (λ (l : List ℕ). set l (at + k) (left % 256)) g.laid
            ∙ ap (set (paste b₀ at (unpacked count bytes) k) (at + k)) x
            ∙ paste-suc b₀ at (unpacked count bytes) k 0 (omega arith) (omega (arith, unpacked_long count bytes))
            ∙ ap (paste b₀ at (unpacked count bytes)) (sym (add-one k));
        long = length-set b (at + k) (left % 256) ∙ g.long;
      }

-- a piece of a text, laid behind what is laid of it
pub paste_on : (b T : List ℕ) (at j : ℕ) (bs r : List ℕ) → drop j T ≡ bs ++ r → at ≤ length b → j ≤ length T
    → paste (paste b at T j) (at + j) bs (length bs) ≡ paste b at T (j + length bs)
paste_on b T at j bs r e h k =
    let n : at + j + length bs ≡ at + (j + length bs) = omega arith in
    let front : take (at + j) (paste b at T j) ≡ take at b ++ take j T = take-paste b at T j h k in
    let back : drop (at + j + length bs) (paste b at T j) ≡ drop (at + j + length bs) b =
    sym (drop-drop (length bs) (at + j) (paste b at T j)) ∙ ap (drop (length bs)) (drop-paste b at T j h k) ∙ drop-drop (length bs) (at + j) b in
    let mid : take (j + length bs) T ≡ take j T ++ bs = take-add j (length bs) T ∙ ap (λ (l : List ℕ). take j T ++ take (length bs) l) e ∙ ap (λ (l : List ℕ). take j T ++ l) (take-append_seam bs r) in
    rw (front, take-length bs, back, mid, ← append_assoc (take at b) (take j T) bs, n)

-- a unit of a run, as it stands in the source
pub of_mode : (s : List ℕ) (q : Bool) (d e : ℕ) (g : Bool) (l : List ℕ) (w : ℕ) (bs : List ℕ) (x : Bool) → unit_in (mode_of s q d e) g l ≡ is w bs x → unit q l ≡ is w bs x
of_mode s true d e g [] w bs x f = not_is End w bs x f
of_mode s true d e g (b ∷ l) w bs x f = f
of_mode s false d e g l w bs x f = of_heredoc w bs x (part s d e) g l f

-- the loop that writes a run: j bytes of its text are written, and the unit at i is the next
pub record Writing (m : Mode) (s : List ℕ) (p at : ℕ) (b₀ b : List ℕ) (i j : ℕ) : Type 0 where
  pub rest : drop j (text_at m s p).bytes ≡ (text_at m s i).bytes
  pub count : j + length (text_at m s i).bytes ≡ length (text_at m s p).bytes
  pub ends : p + (text_at m s p).width ≡ i + (text_at m s i).width
  pub laid : b ≡ paste b₀ at (text_at m s p).bytes j
  pub long : length b ≡ length b₀

pub write_start : (m : Mode) (s : List ℕ) (p at : ℕ) (b₀ : List ℕ) → Writing m s p at b₀ b₀ p 0
write_start m s p at b₀ = record { rest = refl; count = omega arith; ends = refl; laid = paste-zero b₀ at (text_at m s p).bytes; long = refl }

-- the unit at i, where the run goes on
pub record Ahead (q : Bool) (m : Mode) (s : List ℕ) (i : ℕ) : Type 0 where
  w : ℕ
  bs : List ℕ
  x : Bool
  stands : unit q (drop i s) ≡ is w bs x
  fine : Fine (drop i s) w bs x
  text : text_at m s i ≡ after w bs x (text_at m s (i + w))

ahead : (s : List ℕ) (q : Bool) (d e i : ℕ) → 0 < (text_at (mode_of s q d e) s i).width → Ahead q (mode_of s q d e) s i
ahead s q d e i h = go (unit_in (mode_of s q d e) (fresh_at s i) (drop i s)) refl (in_sound (mode_of s q d e) (fresh_at s i) (drop i s))
  where
    go : (u : Unit) → unit_in (mode_of s q d e) (fresh_at s i) (drop i s) ≡ u → Sound (drop i s) u → Ahead q (mode_of s q d e) s i
    go (not y) f g = absurd (omega (arith, ap (λ (t : Text). t.width) (stop (mode_of s q d e) s i y f)))
    go (is w bs x) f g = record { w = w; bs = bs; x = x; stands = of_mode s q d e (fresh_at s i) (drop i s) w bs x f; fine = g; text = step (mode_of s q d e) s i w bs x f g }

-- what a turn needs to know of the unit, as plain numbers
pub record Turn (s : List ℕ) (i j n : ℕ) (u : Made) : Type 0 where
  pub wide : 0 < u.width
  pub high : i + u.width ≤ length s
  pub room : j + u.count ≤ n

pub ahead_of : (s : List ℕ) (q : Bool) (d e : ℕ) {p at : ℕ} {b₀ b : List ℕ} {i j : ℕ} → Writing (mode_of s q d e) s p at b₀ b i j
    → i < p + (text_at (mode_of s q d e) s p).width → Ahead q (mode_of s q d e) s i
ahead_of s q d e {i} g h = ahead s q d e i (omega (arith, g.ends))

-- where the run goes on, a unit stands
pub ahead_ok : {q : Bool} {m : Mode} {s : List ℕ} {i : ℕ} → Ahead q m s i → (r : Result Made Why) → UnitAt s (unit q (drop i s)) i r → IsOk r
ahead_ok a (Ok u) k = search rules
ahead_ok a (Err y) k = absurd (omega (arith, a.fine.wide, ap (λ (v : Piece). v.width) (k.here.is ∙ ap piece_of a.stands)))

module _ {q : Bool} {m : Mode} {s : List ℕ} {p at : ℕ} {b₀ b : List ℕ} {i j : ℕ} (a : Ahead q m s i) (g : Writing m s p at b₀ b i j) {r : Result Made Why} {u : Made}
    (k : UnitAt s (unit q (drop i s)) i r) (o : r ≡ Ok u) where
  unit_is : piece_from (Ok u) ≡ piece_of (is a.w a.bs a.x)
  unit_is = ap piece_from (sym o) ∙ k.here.is ∙ ap piece_of a.stands

  wide_is : u.width ≡ a.w
  wide_is = ap (λ (v : Piece). v.width) unit_is

  count_is : u.count ≡ length a.bs
  count_is = ap (λ (v : Piece). v.count) unit_is

  bytes_is : u.bytes ≡ packed a.bs
  bytes_is = ap (λ (v : Piece). v.bytes) unit_is

  text_is : (text_at m s i).bytes ≡ a.bs ++ (text_at m s (i + u.width)).bytes
  text_is = rw wide_is (ap (λ (t : Text). t.bytes) a.text)

  width_is : (text_at m s i).width ≡ u.width + (text_at m s (i + u.width)).width
  width_is = rw wide_is (ap (λ (t : Text). t.width) a.text)

  long_is : length (text_at m s i).bytes ≡ u.count + length (text_at m s (i + u.width)).bytes
  long_is = ap (λ (l : List ℕ). length l) text_is ∙ length-append a.bs (text_at m s (i + u.width)).bytes ∙ rw count_is

  pub turn : Turn s i j (length (text_at m s p).bytes) u
  turn = record { wide = omega (arith, wide_is, a.fine.wide); high = omega (arith, wide_is, a.fine.wide, a.fine.high, length-drop i s); room = omega (arith, g.count, long_is) }

  pub write_more : Bytewise s → at + length (text_at m s p).bytes ≤ length b₀ → {b' : List ℕ} → b' ≡ paste b (at + j) (unpacked u.count u.bytes) u.count
      → length b' ≡ length b → Writing m s p at b₀ b' (i + u.width) (j + u.count)
  write_more low room f long =
      let v : unpacked u.count u.bytes ≡ a.bs = rw (count_is, bytes_is) (unpack a.bs (a.fine.low (bytewise_drop s i low))) in
      let y : drop j (text_at m s p).bytes ≡ a.bs ++ (text_at m s (i + u.width)).bytes = g.rest ∙ text_is in
      let z : drop u.count (a.bs ++ (text_at m s (i + u.width)).bytes) ≡ (text_at m s (i + u.width)).bytes =
      rw count_is (drop-append_seam a.bs (text_at m s (i + u.width)).bytes) in
      record {
        rest = sym (drop-drop u.count j (text_at m s p).bytes) ∙ ap (drop u.count) y ∙ z;
        count = omega (arith, g.count, long_is);
        ends = omega (arith, g.ends, width_is);
        laid =
            f
            ∙ rw (v, g.laid, count_is)
            (paste_on b₀ (text_at m s p).bytes at j a.bs (text_at m s (i + u.width)).bytes y (omega arith) (omega (arith, g.count)));
        long = long ∙ g.long;
      }

-- nothing is left to write
module _ {m : Mode} {s : List ℕ} {p at : ℕ} {b₀ b : List ℕ} {i j : ℕ} (g : Writing m s p at b₀ b i j) where
  pub write_end : at + length (text_at m s p).bytes ≤ length b₀ → p + (text_at m s p).width ≤ i → Wrote b₀ b at (text_at m s p).bytes true
  write_end h k =
      let z : j ≡ length (text_at m s p).bytes = omega (arith, g.count, g.ends, (facts m s i).short) in
      let e : fits_at b₀ at (text_at m s p).bytes ≡ true = le-leb (at + length (text_at m s p).bytes) (length b₀) h in
      record {
        is = sym e;
        laid = rw (e, g.laid, z, take-length (text_at m s p).bytes);
      }

pub write_none : (b : List ℕ) (at : ℕ) (text : List ℕ) → length b < at + length text → Wrote b b at text false
write_none b at text h =
    let e : fits_at b at text ≡ false = lt-leb (at + length text) (length b) h in
    record { is = sym e; laid = rw e }

-- where a run ends, and how long its text is
module _ {m : Mode} {s : List ℕ} {p : ℕ} {r : Run} (h : RunHere m s p r) where
  pub run_ends : r.end ≡ p + (text_at m s p).width
  run_ends = ap (λ (x : Run). x.end) h.is

  pub run_counts : r.length ≡ length (text_at m s p).bytes
  run_counts = ap (λ (x : Run). x.length) h.is
