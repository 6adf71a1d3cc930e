-- The bytes that the three numbers name are the text of the node, and they are there.
use Rattle.std.specs.Prelude.{ℕ, ◌+◌, ◌*◌, ◌/◌, ◌≤◌, ◌<◌, ◌≡◌, refl, List, [], Bool, true, false, cond, length, take, drop, eqb, ltb}
use Rattle.std.proofs.Common.{sym, ap, subst, ◌∙◌, arith, ltb-true, leb-true, eqb-true, ne_eqb}
use Rattle.lexis.specs.RunLaws.{clash}
use Rattle.reader.specs.Node.{is_text, part, number_at, text_as, text_in, has_as, has_text, text_of_node, node_has_text}
use Rattle.capi.specs.Where.{sided, Stands}

-- a record that has a text is in the table
inside_as : (t h : Bool) → cond t h false ≡ true → t ≡ true
inside_as true h e = refl
inside_as false h e = e

pub inside : (s b x : List ℕ) (i : ℕ) → node_has_text s b x i ≡ true → i < length b / 7
inside s b x i h = ltb-true _ _ (inside_as (ltb i (length b / 7)) _ h)

-- what a record that has a text says: its flag is 0 or 1, and its part fits
flagged : (s x : List ℕ) (k φ a n : ℕ) → has_text s x k φ a n ≡ true → (φ ≡ 0 → ⊥) → φ ≡ 1
flagged s x k φ a n h z = eqb-true _ _ (one (is_text k) (eqb φ 1) (sym (ap (λ y. has_as s x a n (is_text k) y (eqb φ 1)) (ne_eqb _ _ z)) ∙ h))
  where
    one : (t o : Bool) → has_as s x a n t false o ≡ true → o ≡ true
    one true true e = refl
    one true false e = e
    one false o e = absurd o e
      where
        absurd : (o : Bool) → false ≡ true → o ≡ true
        absurd true e = refl
        absurd false e = e

module _ (s b x : List ℕ) (i : ℕ) where
  abbrev pub flag : ℕ
  flag = number_at b (i * 7 + 1)

  -- the numbers of a record that is in the table
  has_inside : node_has_text s b x i ≡ true → has_text s x (number_at b (i * 7)) flag (number_at b (i * 7 + 5)) (number_at b (i * 7 + 6)) ≡ true
  has_inside h = sym (ap (λ y. cond y (has_text s x (number_at b (i * 7)) flag (number_at b (i * 7 + 5)) (number_at b (i * 7 + 6))) false) (inside_as (ltb i (length b / 7)) _ h)) ∙ h

  pub none : node_has_text s b x i ≡ false → Stands s b x i 0 0 0
  none h = record {
    side = sym (ap (λ y. cond y (flag + 1) 0) h);
    from = sym (ap (λ y. cond y (number_at b (i * 7 + 5)) 0) h);
    length = sym (ap (λ y. cond y (number_at b (i * 7 + 6)) 0) h);
  }

  module _ {a n : ℕ} (has : node_has_text s b x i ≡ true) (from : a ≡ number_at b (i * 7 + 5)) (long : n ≡ number_at b (i * 7 + 6)) where
    stands : (r : ℕ) → r ≡ flag + 1 → Stands s b x i r a n
    stands r e = record {
      side = e ∙ sym (ap (λ y. cond y (flag + 1) 0) has);
      from = from ∙ sym (ap (λ y. cond y (number_at b (i * 7 + 5)) 0) has);
      length = long ∙ sym (ap (λ y. cond y (number_at b (i * 7 + 6)) 0) has);
    }

    pub in_source : flag ≡ 0 → Stands s b x i 1 a n
    in_source z = stands 1 (sym (ap (λ φ. φ + 1) z))

    pub in_text : (flag ≡ 0 → ⊥) → Stands s b x i 2 a n
    in_text z = stands 2 (sym (ap (λ φ. φ + 1) (flagged s x (number_at b (i * 7)) flag _ _ (has_inside has) z)))

-- ---- the bytes that are named

-- a side r with n bytes from a on: they are there, and are the list y
abbrev pub Named : List ℕ → List ℕ → ℕ → ℕ → ℕ → List ℕ → Type 0
Named s x r a n y = (a + n ≤ length (sided s x r)) × (take n (drop a (sided s x r)) ≡ y)

-- of a record that has a text
some_as : (s x : List ℕ) (a n φ : ℕ) (t z o : Bool) → z ≡ eqb φ 0 → o ≡ eqb φ 1 → has_as s x a n t z o ≡ true → Named s x (φ + 1) a n (text_as s x a n t z o)
some_as s x a n φ true true o e _ h = subst (λ y. Named s x (y + 1) a n (part s a n)) (sym (eqb-true φ 0 (sym e))) (leb-true _ _ h, sym (ap (λ w. cond w (take n (drop a s)) []) h))
some_as s x a n φ true false true _ e h = subst (λ y. Named s x (y + 1) a n (part x a n)) (sym (eqb-true φ 1 (sym e))) (leb-true _ _ h, sym (ap (λ w. cond w (take n (drop a x)) []) h))
some_as s x a n φ true false false _ _ h = clash (sym h)
some_as s x a n φ false z o _ _ h = clash (sym h)

-- of one that has none
none_as : (s x : List ℕ) (a n : ℕ) (u t z o : Bool) → cond u (has_as s x a n t z o) false ≡ false → cond u (text_as s x a n t z o) [] ≡ []
none_as s x a n true true true o h = ap (λ w. cond w (take n (drop a s)) []) h
none_as s x a n true true false true h = ap (λ w. cond w (take n (drop a x)) []) h
none_as s x a n true true false false h = refl
none_as s x a n true false z o h = refl
none_as s x a n false t z o h = refl

move : (s x : List ℕ) {r p a c n m : ℕ} {y z : List ℕ} → p ≡ r → c ≡ a → m ≡ n → y ≡ z → Named s x r a n y → Named s x p c m z
move s x {r} {p} {a} {c} {n} {m} {y} {z} e f g l h =
    subst (λ q. Named s x q c m z) {x = r} {y = p} (sym e)
    (subst (λ q. Named s x r q m z) {x = a} {y = c} (sym f)
    (subst (λ q. Named s x r a q z) {x = n} {y = m} (sym g)
    (subst (λ q. Named s x r a n q) {x = y} {y = z} l h)))

module _ (s b x : List ℕ) (i r a n : ℕ) (st : Stands s b x i r a n) where
  named : (q : Bool) → node_has_text s b x i ≡ q → Named s x r a n (text_of_node s b x i)
  named true h =
      move s x
      (st.side ∙ ap (λ y. cond y (flag s b x i + 1) 0) h)
      (st.from ∙ ap (λ y. cond y (number_at b (i * 7 + 5)) 0) h)
      (st.length ∙ ap (λ y. cond y (number_at b (i * 7 + 6)) 0) h)
      (sym (ap (λ y. cond y (text_in s x (number_at b (i * 7)) (flag s b x i) (number_at b (i * 7 + 5)) (number_at b (i * 7 + 6))) []) (inside_as (ltb i (length b / 7)) _ h)))
      (some_as s x (number_at b (i * 7 + 5)) (number_at b (i * 7 + 6)) (flag s b x i) (is_text (number_at b (i * 7))) (eqb (flag s b x i) 0) (eqb (flag s b x i) 1) refl refl (has_inside s b x i h))
  named false h =
      move s x
      (st.side ∙ ap (λ y. cond y (flag s b x i + 1) 0) h)
      (st.from ∙ ap (λ y. cond y (number_at b (i * 7 + 5)) 0) h)
      (st.length ∙ ap (λ y. cond y (number_at b (i * 7 + 6)) 0) h)
      (sym (none_as s x (number_at b (i * 7 + 5)) (number_at b (i * 7 + 6)) (ltb i (length b / 7)) (is_text (number_at b (i * 7))) (eqb (flag s b x i) 0) (eqb (flag s b x i) 1) h))
      (omega arith, refl)

  -- the three numbers name bytes that are there, and these are the text of the node
  pub shown : Named s x r a n (text_of_node s b x i)
  shown = named (node_has_text s b x i) refl
