-- A record's text numbers and its text, apart and together.
use Prim.Native.Nat.{ℕ, ◌+◌}
use mathlib.Core.Path.{◌≡◌, refl, sym, ap, ◌∙◌}
use mathlib.Core.Bool.{Bool, true, false, or-true, ◌&&◌, ◌||◌}
use mathlib.Core.List.{List, [], ◌∷◌, append-nil}
use native.Mathlib.Omega.{arith}
use lib.ListN.{length, take, drop}
use lib.Dec.{eqb}
use borrow.Author.Tests.{eqb-true, eq-eqb, ne_eqb}
use Rattle.lexis.specs.String.{quoted, text_at}
use Rattle.lexis.specs.RunLaws.{clash}
use Rattle.grammar.specs.Moves.{round}
use Rattle.grammar.specs.Table.{Record, own_as, own, total, flatten, span_as, span}
use Rattle.grammar.specs.Published.{Texted}
use Rattle.checker.specs.Leaf.{Spelt, Placed}

-- ---- over the tests: a string (a), a piece (c), with flag 1 (f)

module _ (s : List ℕ) (t b e u : ℕ) where
  abbrev texts : Bool → Bool → Bool → List (List ℕ)
  texts a c f = own_as s t b (a && f) (c && f)

  abbrev spans : Bool → Bool → Bool → ℕ → ℕ × ℕ
  spans a c f n = span_as b e u n ((a && f) || (c && f)) a c

  to_placed : (a c f : Bool) (x : ℕ × ℕ) (n : ℕ) → x ≡ spans a c f n → x ≡ spans a c f x.1
  to_placed true c true x n h = ap (λ (o : ℕ). (o, x.1)) (ap (λ (y : ℕ × ℕ). y.0) h)
  to_placed true true false x n h = h
  to_placed true false false x n h = h
  to_placed false true true x n h = ap (λ (o : ℕ). (o, x.1)) (ap (λ (y : ℕ × ℕ). y.0) h)
  to_placed false true false x n h = h
  to_placed false false true x n h = h
  to_placed false false false x n h = h

  -- with a text of its own a record says where it begins and how long it is
  from_is : (a c f : Bool) (x : ℕ × ℕ) (n : ℕ) → ((a && f) || (c && f)) ≡ true → x ≡ spans a c f n → (x.0 ≡ u) × (x.1 ≡ n)
  from_is true c true x n z h = (ap (λ (y : ℕ × ℕ). y.0) h, ap (λ (y : ℕ × ℕ). y.1) h)
  from_is true true false x n z h = clash (sym z)
  from_is true false false x n z h = clash (sym z)
  from_is false true true x n z h = (ap (λ (y : ℕ × ℕ). y.0) h, ap (λ (y : ℕ × ℕ). y.1) h)
  from_is false true false x n z h = clash (sym z)
  from_is false false true x n z h = clash (sym z)
  from_is false false false x n z h = clash (sym z)

  -- and without one the length does not matter
  other_span : (a c f : Bool) (n m : ℕ) → ((a && f) || (c && f)) ≡ false → spans a c f n ≡ spans a c f m
  other_span true c true n m z = clash z
  other_span true true false n m z = refl
  other_span true false false n m z = refl
  other_span false true true n m z = clash z
  other_span false true false n m z = refl
  other_span false false true n m z = refl
  other_span false false false n m z = refl

  other_texts : (a c f : Bool) → ((a && f) || (c && f)) ≡ false → texts a c f ≡ []
  other_texts true c true z = clash z
  other_texts true true false z = refl
  other_texts true false false z = refl
  other_texts false true true z = clash z
  other_texts false true false z = refl
  other_texts false false true z = refl
  other_texts false false false z = refl

module _ (s text : List ℕ) (t u : ℕ) (r : Record) where
  abbrev a : Bool
  a = eqb r.kind 6

  abbrev c : Bool
  c = eqb r.kind 9

  abbrev f : Bool
  f = eqb r.flag 1

  own_is : own s t r.kind r.flag r.start ≡ texts s t r.start r.end u a c f
  unfolding own
  own_is = refl

  pub placed_of : Texted s text t u r → Placed u r
  placed_of h = to_placed s t r.start r.end u a c f (r.from, r.length) (total (own s t r.kind r.flag r.start)) h.columns

  one_total : (w : List ℕ) → total (w ∷ []) ≡ length w
  one_total w = omega arith

  -- its own text is w
  spelt_by : (w : List ℕ) → own s t r.kind r.flag r.start ≡ w ∷ [] → ((a && f) || (c && f)) ≡ true → Texted s text t u r → (r.length ≡ length w) × (take r.length (drop r.from text) ≡ w)
  spelt_by w o z h =
      let (x, y) = from_is s t r.start r.end u a c f (r.from, r.length) (total (own s t r.kind r.flag r.start)) z h.columns in
      let n : total (own s t r.kind r.flag r.start) ≡ length w = ap total o ∙ one_total w in
      let long : r.length ≡ length w = y ∙ n in
      (long, ap (λ (k : ℕ). take k (drop r.from text)) long ∙ ap (λ (k : ℕ). take (length w) (drop k text)) x ∙ ap (λ (k : ℕ). take k (drop u text)) (sym n) ∙ h.bytes ∙ ap flatten o ∙ append-nil w)

  string_on : r.kind ≡ 6 → r.flag ≡ 1 → own s t r.kind r.flag r.start ≡ (text_at quoted s (r.start + 1)).bytes ∷ []
  unfolding own
  string_on k g = rw (eq-eqb r.kind 6 k, eq-eqb r.flag 1 g)

  piece_on : r.kind ≡ 9 → r.flag ≡ 1 → own s t r.kind r.flag r.start ≡ (text_at (round s t) s r.start).bytes ∷ []
  unfolding own
  piece_on k g = let n : eqb r.kind 6 ≡ false = ne_eqb r.kind 6 (λ z. omega arith) in rw (n, eq-eqb r.kind 9 k, eq-eqb r.flag 1 g)

  string_yes : r.kind ≡ 6 → r.flag ≡ 1 → ((a && f) || (c && f)) ≡ true
  string_yes k g = rw (eq-eqb r.kind 6 k, eq-eqb r.flag 1 g)

  piece_yes : r.kind ≡ 9 → r.flag ≡ 1 → ((a && f) || (c && f)) ≡ true
  piece_yes k g = rw (eq-eqb r.kind 9 k, eq-eqb r.flag 1 g) (or-true (eqb r.kind 6 && true))

  pub spelt_word : Texted s text t u r → r.kind ≡ 6 → Spelt quoted s text (r.start + 1) r
  spelt_word h k = record { long = λ g. (spelt_by _ (string_on k g) (string_yes k g) h).0; bytes = λ g. (spelt_by _ (string_on k g) (string_yes k g) h).1 }

  pub spelt_piece : Texted s text t u r → r.kind ≡ 9 → Spelt (round s t) s text r.start r
  spelt_piece h k = record { long = λ g. (spelt_by _ (piece_on k g) (piece_yes k g) h).0; bytes = λ g. (spelt_by _ (piece_on k g) (piece_yes k g) h).1 }

  -- ---- together

  together : (w : List ℕ) → own s t r.kind r.flag r.start ≡ w ∷ [] → ((a && f) || (c && f)) ≡ true → Placed u r → r.length ≡ length w → take r.length (drop r.from text) ≡ w → Texted s text t u r
  together w o z p long bytes =
      let n : total (own s t r.kind r.flag r.start) ≡ r.length = ap total o ∙ one_total w ∙ sym long in
      let (x, y) = from_is s t r.start r.end u a c f (r.from, r.length) r.length z p in
      record {
        columns = p ∙ ap (λ (k : ℕ). span r.kind r.flag r.start r.end u k) (sym n);
        bytes = ap (λ (k : ℕ). take k (drop u text)) n ∙ ap (λ (k : ℕ). take r.length (drop k text)) (sym x) ∙ bytes ∙ sym (append-nil w) ∙ sym (ap flatten o);
      }

  pub texted_of : Placed u r → (r.kind ≡ 6 → Spelt quoted s text (r.start + 1) r) → (r.kind ≡ 9 → Spelt (round s t) s text r.start r) → Texted s text t u r
  texted_of p six nine = go (eqb r.flag 1) refl (eqb r.kind 6) refl (eqb r.kind 9) refl
    where
      none_on : ((a && f) || (c && f)) ≡ false → Texted s text t u r
      none_on z =
          let o : own s t r.kind r.flag r.start ≡ [] = own_is ∙ other_texts s t r.start r.end u a c f z in
          record { columns = p ∙ other_span s t r.start r.end u a c f r.length (total (own s t r.kind r.flag r.start)) z; bytes = rw o }

      go : (x : Bool) → eqb r.flag 1 ≡ x → (y : Bool) → eqb r.kind 6 ≡ y → (v : Bool) → eqb r.kind 9 ≡ v → Texted s text t u r
      go false g y h v k = none_on (rw g (off (eqb r.kind 6) (eqb r.kind 9)))
        where
          off : (x y : Bool) → ((x && false) || (y && false)) ≡ false
          off true true = refl
          off true false = refl
          off false true = refl
          off false false = refl
      go true g true h v k =
          let g' = eqb-true r.flag 1 g in
          let h' = eqb-true r.kind 6 h in
          together _ (string_on h' g') (string_yes h' g') p ((six h').long g') ((six h').bytes g')
      go true g false h true k =
          let g' = eqb-true r.flag 1 g in
          let k' = eqb-true r.kind 9 k in
          together _ (piece_on k' g') (piece_yes k' g') p ((nine k').long g') ((nine k').bytes g')
      go true g false h false k = none_on (rw (h, k))
