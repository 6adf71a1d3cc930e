-- Laws on equal keys: identifiers byte by byte.
use Prim.Native.Nat.{ℕ, ◌+◌, ◌≤◌, ◌<◌, min}
use mathlib.Core.Path.{◌≡◌, refl, sym, ap, ◌∙◌}
use mathlib.Core.List.{List, [], ◌∷◌}
use mathlib.Core.Bool.{Bool, true, false, cond, not, ◌||◌}
use native.Mathlib.Omega.{arith}
use lib.ListN.{length, get_or, drop}
use lib.Dec.{eqb}
use borrow.Author.Tests.{eq-eqb, ne_eqb, eqb-true, eqb-false}
use Rattle.lexis.specs.Bytes.{byte_at, is_start, is_rest, run, Byte}
use Rattle.lexis.specs.Heredoc.{part}
use Rattle.lexis.specs.String.{quoted, text_at}
use Rattle.lexis.specs.Keys.{Key, word, plain, other, is_quote, rest_of, string_at, key_at, alike, same_as, same_key, among, met_before}
use Rattle.lexis.specs.RunLaws.{next, inside, run_stop, default}
use Rattle.lexis.proofs.Lines.{part_next, part_none}

-- the identifier characters from a place on: the first, and those behind it
module _ (s : List ℕ) (i : ℕ) where
  pub rest_on : is_rest (byte_at s i) ≡ true → rest_of (drop i s) ≡ byte_at s i ∷ rest_of (drop (i + 1) s)
  unfolding run
  rest_on e = rw (next s i (inside is_rest s i refl e), e)

  pub rest_off : is_rest (byte_at s i) ≡ false → rest_of (drop i s) ≡ []
  rest_off e = let z : run is_rest (drop i s) ≡ 0 = omega (arith, run_stop is_rest s i e) in rw z

-- two runs of identifier characters, by the bytes that the code read at i and at j
module _ {s : List ℕ} {i j x y : ℕ} (h : Byte s i x) (k : Byte s j y) where
  pub rests_end : is_rest x ≡ false → alike (rest_of (drop i s)) (rest_of (drop j s)) ≡ not (is_rest y)
  unfolding alike
  rests_end e = go (is_rest y) refl
    where
      go : (z : Bool) → is_rest y ≡ z → alike (rest_of (drop i s)) (rest_of (drop j s)) ≡ not (is_rest y)
      go true f = rw (rest_off s i (rw h.is at e), rest_on s j (rw k.is at f), f)
      go false f = rw (rest_off s i (rw h.is at e), rest_off s j (rw k.is at f), f)

  module _ (e : is_rest x ≡ true) where
    pub rests_differ : (x ≡ y → ⊥) → alike (rest_of (drop i s)) (rest_of (drop j s)) ≡ false
    unfolding alike
    rests_differ n = go (is_rest y) refl
      where
        go : (z : Bool) → is_rest y ≡ z → alike (rest_of (drop i s)) (rest_of (drop j s)) ≡ false
        go true f = rw (rest_on s i (rw h.is at e), rest_on s j (rw k.is at f), ne_eqb (byte_at s i) (byte_at s j) (λ z. n (h.is ∙ z ∙ sym k.is)))
        go false f = rw (rest_on s i (rw h.is at e), rest_off s j (rw k.is at f))

    pub rests_more : x ≡ y → alike (rest_of (drop (i + 1) s)) (rest_of (drop (j + 1) s)) ≡ alike (rest_of (drop i s)) (rest_of (drop j s))
    unfolding alike
    rests_more f =
        let g : byte_at s i ≡ byte_at s j = sym h.is ∙ f ∙ k.is in
        rw (rest_on s i (rw h.is at e), rest_on s j (ap is_rest (sym k.is ∙ sym f) ∙ e), eq-eqb (byte_at s i) (byte_at s j) g)

-- a word beside a string, and a string beside another key
word_string : (l t : List ℕ) (q : Bool) → same_as (word l) (cond q (plain t) other) ≡ false
word_string l t true = refl
word_string l t false = refl

string_word : (l t : List ℕ) (q : Bool) → same_as (cond q (plain t) other) (word l) ≡ false
string_word l t true = refl
string_word l t false = refl

beside_other : (k : Key) → same_as k other ≡ false
beside_other (word l) = refl
beside_other (plain l) = refl
beside_other other = refl

-- the key at a place, by its first byte
module _ {s : List ℕ} {p x : ℕ} (h : Byte s p x) where
  pub key_word : is_start x ≡ true → key_at s p ≡ word (x ∷ rest_of (drop (p + 1) s))
  unfolding key_at
  key_word e =
      let f : is_start (byte_at s p) ≡ true = rw h.is at e in
      let g : is_rest (byte_at s p) ≡ true = rw f in
      rw (f, rest_on s p g, h.is)

  pub key_string : x ≡ 34 → key_at s p ≡ string_at s (p + 1)
  unfolding key_at
  key_string e = let f : byte_at s p ≡ 34 = sym h.is ∙ e in rw f

  pub key_other : is_start x ≡ false → (x ≡ 34 → ⊥) → key_at s p ≡ other
  unfolding key_at
  key_other e n = rw (rw h.is at e, ne_eqb (byte_at s p) 34 (λ z. n (h.is ∙ z)))

-- two keys, by their first bytes
module _ {s : List ℕ} {a b x y : ℕ} (h : Byte s a x) (k : Byte s b y) where
  pub keys_differ : (x ≡ y → ⊥) → same_key s a b ≡ false
  unfolding alike
  keys_differ n = go (is_start x) (is_start y) (eqb x 34) (eqb y 34) refl refl refl refl
    where
      go : (p q r t : Bool) → is_start x ≡ p → is_start y ≡ q → eqb x 34 ≡ r → eqb y 34 ≡ t → same_key s a b ≡ false
      go true true r t e f d g = rw (key_word h e, key_word k f, ne_eqb x y n)
      go true false r true e f d g = rw (key_word h e, key_string k (eqb-true y 34 g)) (word_string (x ∷ rest_of (drop (a + 1) s)) (text_at quoted s (b + 1)).bytes (is_quote (text_at quoted s (b + 1)).why))
      go true false r false e f d g = rw (key_word h e, key_other k f (eqb-false y 34 g))
      go false true true t e f d g = rw (key_string h (eqb-true x 34 d), key_word k f) (string_word (y ∷ rest_of (drop (b + 1) s)) (text_at quoted s (a + 1)).bytes (is_quote (text_at quoted s (a + 1)).why))
      go false q false t e f d g = rw (key_other h e (eqb-false x 34 d))
      go false false true true e f d g = absurd (n (eqb-true x 34 d ∙ sym (eqb-true y 34 g)))
      go false false true false e f d g = rw (key_other k f (eqb-false y 34 g)) (beside_other (key_at s a))

  module _ (e : x ≡ y) where
    pub keys_string : x ≡ 34 → same_key s a b ≡ same_as (string_at s (a + 1)) (string_at s (b + 1))
    keys_string f = rw (key_string h f, key_string k (sym e ∙ f))

    pub keys_other : is_start x ≡ false → (x ≡ 34 → ⊥) → same_key s a b ≡ false
    keys_other f n = rw (key_other h f n)

    pub keys_word : is_start x ≡ true → same_key s a b ≡ alike (rest_of (drop (a + 1) s)) (rest_of (drop (b + 1) s))
    unfolding alike
    keys_word f = rw (key_word h f, key_word k (ap is_start (sym e) ∙ f), eq-eqb x y e)

-- the search over earlier keys: those from the k-th on are left
module _ (s starts : List ℕ) (from to p k : ℕ) (inv : among s (part starts k to) p ≡ met_before s starts from to p) where
  pub search_end : {end : ℕ} → end ≡ min to (length starts) → end ≤ k → met_before s starts from to p ≡ false
  unfolding among
  search_end e h = sym inv ∙ rw (part_none starts to k (omega arith))

  pub search_other : key_at s p ≡ other → met_before s starts from to p ≡ false
  unfolding among
  search_other e = none (part starts from to)
    where
      none : (l : List ℕ) → among s l p ≡ false
      none [] = refl
      none (a ∷ l) = rw (e, beside_other (key_at s a)) (none l)

  module _ {end : ℕ} (e : end ≡ min to (length starts)) (h : k < end) where
    search_next : {r : Bool} → same_key s (get_or starts k 0) p ≡ r → met_before s starts from to p ≡ (r || among s (part starts (k + 1) to) p)
    unfolding among
    search_next f = sym inv ∙ rw (part_next starts to k (omega arith), default starts k 256 0 (omega arith), f)

    pub search_on : {a : ℕ} → a ≡ get_or starts k 0 → same_key s a p ≡ false → among s (part starts (k + 1) to) p ≡ met_before s starts from to p
    search_on e f = sym (search_next (rw e at f))

    pub search_met : {a : ℕ} → a ≡ get_or starts k 0 → same_key s a p ≡ true → met_before s starts from to p ≡ true
    search_met e f = search_next (rw e at f)
