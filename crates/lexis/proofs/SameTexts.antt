-- Laws on plain strings of equal text: units as they are read, and their bytes one by one.
use Prim.Native.Nat.{ℕ, suc, ◌+◌, ◌-◌, ◌*◌, ◌/◌, ◌%◌, ◌≤◌, ◌<◌}
use mathlib.Core.Path.{◌≡◌, refl, sym, ap, ◌∙◌}
use mathlib.Core.List.{List, [], ◌∷◌, ◌++◌}
use mathlib.Core.Bool.{Bool, true, false, cond, ◌&&◌, and-true}
use mathlib.Core.Option.{Option, none, some}
use native.Mathlib.Omega.{arith}
use lib.ListN.{length, drop}
use lib.Dec.{eqb}
use borrow.Author.Tests.{eq-eqb, ne_eqb}
use Rattle.lexis.specs.Bytes.{byte_at}
use Rattle.lexis.specs.Utf8.{is_scalar, encoded}
use Rattle.lexis.specs.Heredoc.{fresh_at}
use Rattle.lexis.specs.String.{Unit, is, not, quoted, Text, hexes, scalar_as, escape, marker, unit, unit_in, text_at, packed, Piece, piece_of, piece_from, UnitAt}
use Rattle.std.specs.Prelude.{Ok, Err}
use Rattle.lexis.specs.declared.string.Unit.{Unit as Made}
use Rattle.lexis.specs.Keys.{Key, plain, other, is_quote, plain_as, string_at, alike, same_as}
use Rattle.lexis.specs.declared.string.Why.{Why}
use Rattle.lexis.specs.declared.string.Why.TheVariants.{Quote, Interpolation, Directive, Escape, Closing, Foreign, End}
use denote.Enum.Bare.{sameb}
use Rattle.lexis.specs.contracts.string.Why.{the_type}
use Rattle.lexis.proofs.Units.{Bytewise, Sound, unit_sound, encoded_by}
use Rattle.lexis.proofs.Texts.{step, stop, bytewise_drop}

-- a list of bytes in one number, the first lowest
pub record Packs (xs : List ℕ) (u n : ℕ) : Type 0 where
  pub is : u ≡ packed xs
  pub long : n ≡ length xs
  pub low : Bytewise xs

packs_none : (xs : List ℕ) {u n : ℕ} → Packs xs u n → n ≡ 0 → xs ≡ []
packs_none [] p e = refl
packs_none (x ∷ xs) p e = absurd (omega (arith, p.long))

-- the first byte, and what is left
pub record Front (xs : List ℕ) (u n : ℕ) : Type 0 where
  pub rest : List ℕ
  pub first : xs ≡ u % 256 ∷ rest
  pub packs : Packs rest (u / 256) (n - 1)

packs_some : (xs : List ℕ) {u n : ℕ} → Packs xs u n → (n ≡ 0 → ⊥) → Front xs u n
unfolding packed
packs_some [] p e = absurd (e p.long)
packs_some (x ∷ xs) {u} {n} p e =
    let l : x < 256 = p.low 0 in
    let k : u ≡ x + 256 * packed xs = p.is in
    let f : u % 256 ≡ x = omega arith in
    let d : u / 256 ≡ packed xs = omega arith in
    record {
      rest = xs;
      first = rw f;
      packs = record { is = d; long = omega (arith, p.long); low = λ i. p.low (suc i) };
    }

-- two strings are the same if both are plain and their texts are equal
same_plain : (p q : Bool) (l k : List ℕ) → same_as (cond p (plain l) other) (cond q (plain k) other) ≡ (p && (q && alike l k))
same_plain true true l k = refl
same_plain true false l k = refl
same_plain false true l k = refl
same_plain false false l k = refl

and_none : (p q : Bool) → (p && (q && false)) ≡ false
and_none true true = refl
and_none true false = refl
and_none false q = refl

-- a string whose text is some bytes and then the text from i on
abbrev pub string_from : List ℕ → List ℕ → ℕ → Key
string_from xs s i = plain_as (text_at quoted s i).why (xs ++ (text_at quoted s i).bytes)

-- strings that start with different bytes, with the same byte, or of which one has no text
module _ (y z : Why) (l k : List ℕ) where
  strings_differ : (a b : ℕ) → (a ≡ b → ⊥) → same_as (plain_as y (a ∷ l)) (plain_as z (b ∷ k)) ≡ false
  unfolding alike
  strings_differ a b n = same_plain (is_quote y) (is_quote z) (a ∷ l) (b ∷ k) ∙ rw (ne_eqb a b n) (and_none (is_quote y) (is_quote z))

  strings_more : (a b : ℕ) → a ≡ b → same_as (plain_as y l) (plain_as z k) ≡ same_as (plain_as y (a ∷ l)) (plain_as z (b ∷ k))
  unfolding alike
  strings_more a b e = same_plain (is_quote y) (is_quote z) l k ∙ sym (same_plain (is_quote y) (is_quote z) (a ∷ l) (b ∷ k) ∙ rw (eq-eqb a b e))

strings_less : (y z : Why) (b : ℕ) (k : List ℕ) → same_as (plain_as y []) (plain_as z (b ∷ k)) ≡ false
unfolding alike
strings_less y z b k = same_plain (is_quote y) (is_quote z) [] (b ∷ k) ∙ and_none (is_quote y) (is_quote z)

strings_over : (y z : Why) (a : ℕ) (l : List ℕ) → same_as (plain_as y (a ∷ l)) (plain_as z []) ≡ false
unfolding alike
strings_over y z a l = same_plain (is_quote y) (is_quote z) (a ∷ l) [] ∙ and_none (is_quote y) (is_quote z)

strings_end : (y z : Why) → same_as (plain_as y []) (plain_as z []) ≡ (is_quote y && (is_quote z && true))
unfolding alike
strings_end y z = same_plain (is_quote y) (is_quote z) [] []

-- what a derived `==` says of the quote
pub quote_as : (y : Why) → sameb the_type y Quote ≡ is_quote y
quote_as Quote = refl
quote_as Interpolation = refl
quote_as Directive = refl
quote_as Escape = refl
quote_as Closing = refl
quote_as Foreign = refl
quote_as End = refl

-- in quoted text a unit is one wherever lines start
unit_in_lem : (f : Bool) (l : List ℕ) → unit_in quoted f l ≡ unit true l
unfolding unit
unit_in_lem f [] = refl
unit_in_lem f (b ∷ l) = refl

-- a unit has a byte of text at least
abbrev Filled : Unit → Type 0
Filled (is w bs e) = 1 ≤ length bs
Filled (not y) = Prim.Unit {0}

filled_marker : (y : Why) (b c d : ℕ) → Filled (marker y b c d)
filled_marker y b c d = go (eqb c b && eqb d 123) (eqb c 123)
  where
    go : (x z : Bool) → Filled (cond x (is 3 (b ∷ 123 ∷ []) true) (cond z (not y) (is 1 (b ∷ []) false)))
    go true z = omega arith
    go false true = tt
    go false false = omega arith

filled_scalar : (n : ℕ) (o : Option ℕ) → Filled (scalar_as n o)
filled_scalar n none = tt
filled_scalar n (some v) = go (is_scalar v)
  where
    go : (x : Bool) → Filled (cond x (is (n + 2) (encoded v) true) (not Escape))
    go true = encoded_by (λ bs. 1 ≤ length bs) v (λ a. omega arith) (λ a b. omega arith) (λ a b. omega arith) (λ a. omega arith)
    go false = tt

filled_or : (x : Bool) (u v : Unit) → Filled u → Filled v → Filled (cond x u v)
filled_or true u v f g = f
filled_or false u v f g = g

filled_escape : (b : ℕ) (l : List ℕ) → Filled (escape b l)
unfolding escape
filled_escape b l =
    filled_or (eqb b 110) _ _ (omega arith)
    (filled_or (eqb b 114) _ _ (omega arith)
    (filled_or (eqb b 116) _ _ (omega arith)
    (filled_or (eqb b 92) _ _ (omega arith)
    (filled_or (eqb b 34) _ _ (omega arith)
    (filled_or (eqb b 117) _ _ (filled_scalar 4 (hexes 0 4 l))
    (filled_or (eqb b 85) _ _ (filled_scalar 8 (hexes 0 8 l)) tt))))))

filled : (q : Bool) (l : List ℕ) → Filled (unit q l)
unfolding unit
filled q [] = tt
filled q (b ∷ l) =
    filled_or (eqb b 36) _ _ (filled_marker Interpolation b (byte_at l 0) (byte_at l 1))
    (filled_or (eqb b 37) _ _ (filled_marker Directive b (byte_at l 0) (byte_at l 1))
    (filled_or (q && eqb b 34) _ _ tt
    (filled_or (q && eqb b 92) _ _ (filled_escape (byte_at l 0) (drop 1 l)) (omega arith))))

-- the loop over two strings whose texts start at a and at b: the text from i on and from j on is unread, and of the last unit on each side some bytes are left
pub record Left (s : List ℕ) (a b i u n j v m : ℕ) : Type 0 where
  pub xs : List ℕ
  pub ys : List ℕ
  pub here : Packs xs u n
  pub there : Packs ys v m
  pub same : same_as (string_from xs s i) (string_from ys s j) ≡ same_as (string_at s a) (string_at s b)

packed_none : Packs [] 0 0
unfolding packed
packed_none = record { is = refl; long = refl; low = λ i. omega arith }

pub left_start : (s : List ℕ) (a b : ℕ) → Left s a b a 0 0 b 0 0
left_start s a b = record { xs = []; ys = []; here = packed_none; there = packed_none; same = refl }

-- a unit that stands at i
pub record Taken (s : List ℕ) (i : ℕ) (x : Made) : Type 0 where
  pub bytes : List ℕ
  pub packs : Packs bytes x.bytes x.count
  pub some : 1 ≤ length bytes
  pub goes : string_from [] s i ≡ string_from bytes s (i + x.width)

taken_as : (s : List ℕ) (i : ℕ) → Bytewise s → (v : Unit) → unit true (drop i s) ≡ v → Sound (drop i s) v → Filled v → (x : Made) → piece_from (Ok x) ≡ piece_of v
    → 1 ≤ x.width → Taken s i x
taken_as s i l (not y) h k f x a n = absurd (omega (arith, n, ap (λ (p : Piece). p.width) a))
taken_as s i l (is w bs e) h k f x a n =
    let t = step quoted s i w bs e (unit_in_lem (fresh_at s i) (drop i s) ∙ h) k in
    let d : x.width ≡ w = ap (λ (p : Piece). p.width) a in
    record {
      bytes = bs;
      packs = record { is = ap (λ (p : Piece). p.bytes) a; long = ap (λ (p : Piece). p.count) a; low = k.low (bytewise_drop s i l) };
      some = f;
      goes = rw d (ap (λ (p : Text). plain_as p.why p.bytes) t);
    }

stops_as : (s : List ℕ) (i : ℕ) (v : Unit) → unit true (drop i s) ≡ v → Sound (drop i s) v → (y : Why) → piece_from (Err y) ≡ piece_of v
    → string_from [] s i ≡ plain_as y []
stops_as s i (is w bs e) h k y a = absurd (omega (arith, k.wide, ap (λ (p : Piece). p.width) a))
stops_as s i (not z) h k y a =
    let d : y ≡ z = ap (λ (p : Piece). p.why) a in
    rw d (ap (λ (p : Text). plain_as p.why p.bytes) (stop quoted s i z (unit_in_lem (fresh_at s i) (drop i s) ∙ h)))

module _ {s : List ℕ} {i : ℕ} where
  pub taken : {x : Made} → UnitAt s (unit true (drop i s)) i (Ok x) → Bytewise s → Taken s i x
  taken {x} h l = taken_as s i l (unit true (drop i s)) refl (unit_sound true (drop i s)) (filled true (drop i s)) x h.here.is h.wide

  pub stops : {y : Why} → UnitAt s (unit true (drop i s)) i (Err y) → string_from [] s i ≡ plain_as y []
  stops {y} h = stops_as s i (unit true (drop i s)) refl (unit_sound true (drop i s)) y h.here.is

  -- a string with no text, beside the one at i
  pub closes_not : {x : Made} → UnitAt s (unit true (drop i s)) i (Ok x) → Bytewise s → same_as (plain []) (string_at s i) ≡ false
  closes_not {x} h l = let t = taken h l in rw t.goes (beside t.bytes t.some)
    where
      beside : (bs : List ℕ) → 1 ≤ length bs → same_as (plain []) (string_from bs s (i + x.width)) ≡ false
      beside [] k = absurd (omega arith)
      beside (b ∷ bs) k = strings_less Quote (text_at quoted s (i + x.width)).why b (bs ++ (text_at quoted s (i + x.width)).bytes)

  pub closes_by : {y : Why} → UnitAt s (unit true (drop i s)) i (Err y) → same_as (plain []) (string_at s i) ≡ is_quote y
  closes_by {y} h = rw (stops h) (strings_end Quote y ∙ and-true (is_quote y))

module _ {s : List ℕ} {a b i u n j v m : ℕ} (g : Left s a b i u n j v m) where
  -- nothing is left of the last unit
  none_here : n ≡ 0 → same_as (string_from [] s i) (string_from g.ys s j) ≡ same_as (string_at s a) (string_at s b)
  none_here e = rw (← packs_none g.xs g.here e) g.same

  none_there : m ≡ 0 → same_as (string_from g.xs s i) (string_from [] s j) ≡ same_as (string_at s a) (string_at s b)
  none_there e = rw (← packs_none g.ys g.there e) g.same

  -- a unit more
  pub take_here : {x : Made} → Bytewise s → n ≡ 0 → UnitAt s (unit true (drop i s)) i (Ok x) → Left s a b (i + x.width) x.bytes x.count j v m
  take_here l e h =
      let t = taken h l in
      record { xs = t.bytes; ys = g.ys; here = t.packs; there = g.there; same = rw (← t.goes) (none_here e) }

  pub take_there : {x : Made} → Bytewise s → m ≡ 0 → UnitAt s (unit true (drop j s)) j (Ok x) → Left s a b i u n (j + x.width) x.bytes x.count
  take_there l e h =
      let t = taken h l in
      record { xs = g.xs; ys = t.bytes; here = g.here; there = t.packs; same = rw (← t.goes) (none_there e) }

  -- the first text ends
  module _ {y : Why} (e : n ≡ 0) (h : UnitAt s (unit true (drop i s)) i (Err y)) where
    ends_here : same_as (plain_as y []) (string_from g.ys s j) ≡ same_as (string_at s a) (string_at s b)
    ends_here = rw (← stops h) (none_here e)

    pub ends_before : (m ≡ 0 → ⊥) → same_as (string_at s a) (string_at s b) ≡ false
    ends_before o =
        let f = packs_some g.ys g.there o in
        sym ends_here ∙ rw f.first (strings_less y (text_at quoted s j).why (v % 256) (f.rest ++ (text_at quoted s j).bytes))

    pub ends_open : is_quote y ≡ false → same_as (string_at s a) (string_at s b) ≡ false
    ends_open o = sym ends_here ∙ rw o

    pub ends_closed : m ≡ 0 → is_quote y ≡ true → same_as (string_at s a) (string_at s b) ≡ same_as (plain []) (string_at s j)
    ends_closed z o = sym ends_here ∙ rw (packs_none g.ys g.there z, o)

  -- the first text goes on
  module _ (e : n ≡ 0 → ⊥) where
    pub ends_after : {y : Why} → m ≡ 0 → UnitAt s (unit true (drop j s)) j (Err y) → same_as (string_at s a) (string_at s b) ≡ false
    ends_after {y} z h =
        let f = packs_some g.xs g.here e in
        sym (none_there z) ∙ rw (f.first, stops h) (strings_over (text_at quoted s i).why y (u % 256) (f.rest ++ (text_at quoted s i).bytes))

    module _ (o : m ≡ 0 → ⊥) where
      pub bytes_differ : (u % 256 ≡ v % 256 → ⊥) → same_as (string_at s a) (string_at s b) ≡ false
      bytes_differ d =
          let f = packs_some g.xs g.here e in
          let k = packs_some g.ys g.there o in
          sym g.same
          ∙ rw (f.first, k.first)
          (strings_differ (text_at quoted s i).why (text_at quoted s j).why (f.rest ++ (text_at quoted s i).bytes) (k.rest ++ (text_at quoted s j).bytes) (u % 256) (v % 256) d)

      pub bytes_more : u % 256 ≡ v % 256 → Left s a b i (u / 256) (n - 1) j (v / 256) (m - 1)
      bytes_more d =
          let f = packs_some g.xs g.here e in
          let k = packs_some g.ys g.there o in
          record {
            xs = f.rest;
            ys = k.rest;
            here = f.packs;
            there = k.packs;
            same = strings_more (text_at quoted s i).why (text_at quoted s j).why (f.rest ++ (text_at quoted s i).bytes) (k.rest ++ (text_at quoted s j).bytes) (u % 256) (v % 256) d
                ∙ (rw (f.first, k.first) at g.same);
          }
