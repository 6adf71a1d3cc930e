-- Laws on marks: a mark byte by byte, and unit by unit.
use Prim.Native.Nat.{ℕ, suc, ◌+◌, ◌-◌, ◌/◌, ◌%◌, ◌≤◌, ◌<◌}
use mathlib.Core.Path.{◌≡◌, refl, sym, ap, ◌∙◌}
use mathlib.Core.List.{List, [], ◌∷◌, ◌++◌}
use mathlib.Core.Bool.{Bool, true, false}
use native.Mathlib.Omega.{arith}
use lib.ListN.{length, get_or, take, drop}
use lib.Dec.{eqb}
use borrow.Author.Tests.{eq-eqb, ne_eqb}
use Rattle.lexis.specs.Bytes.{byte_at, is_start, is_rest, run, run_to, Byte}
use Rattle.lexis.specs.Word.{ident_to}
use Rattle.lexis.specs.Heredoc.{fresh_at}
use Rattle.lexis.specs.String.{Unit, is, not, quoted, Text, unit, unit_in, text_at, packed, unpacked, Piece, piece_of, piece_from, UnitAt, RunHere}
use Rattle.lexis.specs.Keys.{rest_of}
use Rattle.lexis.specs.RunLaws.{default, inside, clash, run_on, run_stop, run_end, run_high}
use Rattle.lexis.specs.declared.string.Unit.{Unit as Made}
use Rattle.lexis.specs.declared.string.Why.{Why}
use Rattle.std.specs.Prelude.{Ok, Err}
use Rattle.lexis.specs.declared.string.Run.{Run}
use Rattle.lexis.proofs.Blocks.{part_inside, part_read}
use Rattle.lexis.proofs.Units.{Bytewise, Sound, unit_sound}
use Rattle.lexis.proofs.Texts.{step, stop, bytewise_drop}
use Rattle.lexis.proofs.Writes.{unpack}
use Rattle.lexis.proofs.Sames.{rest_on, rest_off}
use Rattle.index.specs.Mark.{mixed, mixed_all, mark_at, Mixed, WordTo, TokenHere}

-- the bytes l are mixed into m₀; those of `rest` are left, and m is the mark of the others
pub record Mixing (m₀ : ℕ) (l rest : List ℕ) (m : ℕ) : Type 0 where
  pub same : mixed_all m rest ≡ mixed_all m₀ l
  pub small : m ≤ 65535

pub mix_start : (m : ℕ) (l : List ℕ) → m ≤ 65535 → Mixing m l l m
mix_start m l h = record { same = refl; small = h }

mix_append : (m : ℕ) (l k : List ℕ) → mixed_all m (l ++ k) ≡ mixed_all (mixed_all m l) k
unfolding mixed_all
mix_append m [] k = refl
mix_append m (b ∷ l) k = mix_append (mixed m b) l k

module _ {m₀ : ℕ} {l rest : List ℕ} {m : ℕ} (g : Mixing m₀ l rest m) where
  pub mix_end : rest ≡ [] → Mixed m₀ l m
  unfolding mixed_all
  mix_end e = record { is = sym (ap (mixed_all m) e) ∙ g.same; small = g.small }

  mix_more : {r : ℕ} (b : ℕ) (more : List ℕ) → rest ≡ b ∷ more → r ≡ mixed m b → r ≤ 65535 → Mixing m₀ l more r
  unfolding mixed_all
  mix_more b more e f h = record { same = ap (λ (x : ℕ). mixed_all x more) f ∙ sym (ap (mixed_all m) e) ∙ g.same; small = h }

  mix_piece : {r : ℕ} (bs more : List ℕ) → rest ≡ bs ++ more → Mixed m bs r → Mixing m₀ l more r
  mix_piece bs more e f = record { same = ap (λ (x : ℕ). mixed_all x more) f.is ∙ sym (mix_append m bs more) ∙ sym (ap (mixed_all m) e) ∙ g.same; small = f.small }

-- the bytes of a unit
pub unit_more : {m₀ : ℕ} {l : List ℕ} {m r : ℕ} (n k left : ℕ) → Mixing m₀ l (unpacked (n - k) left) m → k < n → (r ≡ mixed m (left % 256)) × (r ≤ 65535) → Mixing m₀ l (unpacked (n - (k + 1)) (left / 256)) r
unfolding unpacked
unit_more n k left g h f =
    let z : n - k ≡ suc (n - (k + 1)) = omega arith in
    mix_more g (left % 256) (unpacked (n - (k + 1)) (left / 256)) (rw z) f.0 f.1

pub unit_end : {m₀ : ℕ} {l : List ℕ} {m : ℕ} (n k left : ℕ) → Mixing m₀ l (unpacked (n - k) left) m → n ≤ k → Mixed m₀ l m
unfolding unpacked
unit_end n k left g h = let z : n - k ≡ 0 = omega arith in mix_end g (rw z)

-- identifier characters
module _ {s : List ℕ} {m₀ : ℕ} {l : List ℕ} {i m b : ℕ} (g : Mixing m₀ l (rest_of (drop i s)) m) (h : Byte s i b) where
  pub word_end : is_rest b ≡ false → Mixed m₀ l m
  word_end e = mix_end g (rest_off s i (rw h.is at e))

  module _ (e : is_rest b ≡ true) where
    pub word_more : {r : ℕ} → (r ≡ mixed m b) × (r ≤ 65535) → Mixing m₀ l (rest_of (drop (i + 1) s)) r
    word_more f = mix_more g b (rest_of (drop (i + 1) s)) (rw h.is (rest_on s i (rw h.is at e))) f.0 f.1

-- the source ends
-- a byte that stands within the source
pub byte_here : (s : List ℕ) (i : ℕ) → i < length s → get_or s i 0 ≤ 255 → Byte s i (get_or s i 0)
byte_here s i h l = record { is = default s i 0 256 h; low = omega arith; here = omega arith }

-- a byte of a part of the source
pub part_here : (s : List ℕ) (p e k : ℕ) → e ≤ length s → k < length (take (e - p) (drop p s)) → {b : ℕ} → b ≡ get_or (take (e - p) (drop p s)) k 0 → Bytewise s → Byte s (p + k) b
part_here s p e k h n f low = rw (f, part_read s p e k h n) (byte_here s (p + k) (omega (arith, part_inside s p e k h n)) (omega (arith, low (p + k))))

-- the same of a word whose end is known
pub record Wording (s : List ℕ) (p e m i : ℕ) : Type 0 where
  pub mixing : Mixing 0 (rest_of (drop p s)) (rest_of (drop i s)) m
  pub runs : run_to is_rest s i ≡ e

pub wording_start : (s : List ℕ) (p e : ℕ) → WordTo s p e → Wording s p e 0 p
wording_start s p e w =
    let r : is_rest (byte_at s p) ≡ true = rw w.starts in
    let z : ident_to s p ≡ run_to is_rest s (p + 1) = rw w.starts in
    record { mixing = mix_start 0 (rest_of (drop p s)) (omega arith); runs = sym (run_on is_rest s p (inside is_rest s p refl r) r) ∙ sym z ∙ sym w.ends }

-- a word is within the source
pub word_within : {s : List ℕ} {p e : ℕ} → WordTo s p e → (p ≤ e) × (e ≤ length s)
word_within {s} {p} {e} w =
    let r : is_rest (byte_at s p) ≡ true = rw w.starts in
    let h : p < length s = inside is_rest s p refl r in
    let f : run_to is_rest s p ≡ e = (wording_start s p e w).runs in
    (omega arith, omega (arith, run_high is_rest s p))

module _ {s : List ℕ} {p e m i : ℕ} (g : Wording s p e m i) where
  wording_rest : i < e → is_rest (byte_at s i) ≡ true
  wording_rest h = go (is_rest (byte_at s i)) refl
    where
      go : (x : Bool) → is_rest (byte_at s i) ≡ x → x ≡ true
      go true f = refl
      go false f = absurd (omega (arith, g.runs, run_stop is_rest s i f))

  pub wording_inside : i < e → i < length s
  wording_inside h = inside is_rest s i refl (wording_rest h)

  pub wording_more : {b r : ℕ} → i < e → Byte s i b → (r ≡ mixed m b) × (r ≤ 65535) → Wording s p e r (i + 1)
  wording_more h k f = record {
    mixing = word_more g.mixing k (ap is_rest k.is ∙ wording_rest h) f;
    runs = run_on is_rest s i (wording_inside h) (wording_rest h) ∙ g.runs;
  }

  pub wording_end : WordTo s p e → e ≤ i → m ≡ mark_at s p
  unfolding mark_at
  wording_end w h =
      let z : run is_rest (drop i s) ≡ 0 = omega (arith, g.runs) in
      let n : rest_of (drop i s) ≡ [] = rw z in
      (mix_end g.mixing n).is ∙ sym (rw (ne_eqb (byte_at s p) 34 (λ v. clash (sym w.starts ∙ ap is_start v)), w.starts))

-- a word, with its end
pub word_to_lem : (s : List ℕ) (p : ℕ) → is_start (byte_at s p) ≡ true → WordTo s p (ident_to s p)
word_to_lem s p e = record { starts = e; ends = refl }

module _ {s : List ℕ} {p m i : ℕ} (g : Wording s p (ident_to s p) m i) where
  pub wording_on : {b r : ℕ} → Byte s i b → is_rest b ≡ true → (r ≡ mixed m b) × (r ≤ 65535) → Wording s p (ident_to s p) r (i + 1)
  wording_on {b} h e f =
      let t : is_rest (byte_at s i) ≡ true = ap is_rest (sym h.is) ∙ e in
      record { mixing = word_more g.mixing h e f; runs = run_on is_rest s i (inside is_rest s i refl t) t ∙ g.runs }

  token_word : is_start (byte_at s p) ≡ true → run_to is_rest s i ≡ i → {e k : ℕ} → e ≡ i → k ≡ m → TokenHere s p (record { end = e; mark = k })
  token_word st z a b = record {
    end = a ∙ sym z ∙ g.runs ∙ sym (rw (ne_eqb (byte_at s p) 34 (λ v. clash (sym st ∙ ap is_start v))));
    mark = b ∙ wording_end g (word_to_lem s p st) (omega (arith, z, g.runs));
  }

  pub token_stop : {b : ℕ} → is_start (byte_at s p) ≡ true → Byte s i b → is_rest b ≡ false → TokenHere s p (record { end = i; mark = m })
  token_stop st h e = token_word st (run_stop is_rest s i (ap is_rest (sym h.is) ∙ e)) refl refl

  pub token_last : is_start (byte_at s p) ≡ true → length s ≤ i → {e : ℕ} → e ≡ i → TokenHere s p (record { end = e; mark = m })
  token_last st l a = token_word st (run_end is_rest s i l) a refl

-- quoted text, unit by unit
unit_in_lem : (f : Bool) (l : List ℕ) → unit_in quoted f l ≡ unit true l
unfolding unit
unit_in_lem f [] = refl
unit_in_lem f (b ∷ l) = refl

took_as : (s : List ℕ) (i : ℕ) → Bytewise s → (v : Unit) → unit true (drop i s) ≡ v → Sound (drop i s) v → (x : Made) → piece_from (Ok x) ≡ piece_of v → 1 ≤ x.width
    → (text_at quoted s i).bytes ≡ unpacked x.count x.bytes ++ (text_at quoted s (i + x.width)).bytes
took_as s i l (not y) h k x a n = absurd (omega (arith, n, ap (λ (p : Piece). p.width) a))
took_as s i l (is w bs e) h k x a n =
    let f : x.width ≡ w = ap (λ (p : Piece). p.width) a in
    let g : x.count ≡ length bs = ap (λ (p : Piece). p.count) a in
    let v : x.bytes ≡ packed bs = ap (λ (p : Piece). p.bytes) a in
    rw (f, g, v, unpack bs (k.low (bytewise_drop s i l))) (ap (λ (t : Text). t.bytes) (step quoted s i w bs e (unit_in_lem (fresh_at s i) (drop i s) ∙ h) k))

stop_as : (s : List ℕ) (i : ℕ) (v : Unit) → unit true (drop i s) ≡ v → Sound (drop i s) v → (y : Why) → piece_from (Err y) ≡ piece_of v → (text_at quoted s i).bytes ≡ []
stop_as s i (is w bs e) h k y a = absurd (omega (arith, k.wide, ap (λ (p : Piece). p.width) a))
stop_as s i (not z) h k y a = ap (λ (t : Text). t.bytes) (stop quoted s i z (unit_in_lem (fresh_at s i) (drop i s) ∙ h))

module _ {s : List ℕ} {m₀ : ℕ} {l : List ℕ} {i m : ℕ} (g : Mixing m₀ l (text_at quoted s i).bytes m) where
  pub text_end : {y : Why} → UnitAt s (unit true (drop i s)) i (Err y) → Mixed m₀ l m
  text_end {y} h = mix_end g (stop_as s i (unit true (drop i s)) refl (unit_sound true (drop i s)) y h.here.is)

  pub text_more : {x : Made} {r : ℕ} → Bytewise s → UnitAt s (unit true (drop i s)) i (Ok x) → Mixed m (unpacked x.count x.bytes) r → Mixing m₀ l (text_at quoted s (i + x.width)).bytes r
  text_more {x} low h f =
      mix_piece g (unpacked x.count x.bytes) (text_at quoted s (i + x.width)).bytes (took_as s i low (unit true (drop i s)) refl (unit_sound true (drop i s)) x h.here.is h.wide) f

-- the mark of a key, by its first byte
module _ {s : List ℕ} {p b : ℕ} (h : Byte s p b) where
  pub mark_text : {r : ℕ} → b ≡ 34 → Mixed 0 (text_at quoted s (p + 1)).bytes r → r ≡ mark_at s p
  unfolding mark_at
  mark_text e f = let z : eqb (byte_at s p) 34 ≡ true = eq-eqb (byte_at s p) 34 (sym h.is ∙ e) in f.is ∙ rw z

  module _ (n : ¬ (b ≡ 34)) where
    not_text : eqb (byte_at s p) 34 ≡ false
    not_text = ne_eqb (byte_at s p) 34 (λ z. n (h.is ∙ z))

    pub mark_none : is_start b ≡ false → 0 ≡ mark_at s p
    unfolding mark_at
    mark_none e = rw (not_text, rw h.is at e)

    pub token_none : is_start b ≡ false → TokenHere s p (record { end = p; mark = 0 })
    token_none e = record { end = sym (rw (not_text, rw h.is at e)); mark = mark_none e }

  pub token_text : {t : Run} {m : ℕ} → b ≡ 34 → RunHere quoted s (p + 1) t → Mixed 0 (text_at quoted s (p + 1)).bytes m → TokenHere s p (record { end = t.end + 1; mark = m })
  token_text {t} {m} e f g = record { end = rw (eq-eqb (byte_at s p) 34 (sym h.is ∙ e)) (omega (arith, ap (λ (x : Run). x.end) f.is)); mark = mark_text e g }
