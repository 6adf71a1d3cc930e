-- The text of each record of a reading's table is the reading's text, and a record has text exactly where its kind is 6 or 9.
use Rattle.std.specs.Prelude.{ℕ, zero, suc, ◌+◌, ◌-◌, ◌*◌, ◌/◌, ◌≤◌, ◌<◌, ◌≡◌, refl, List, [], ◌∷◌, ◌++◌, Bool, true, false, cond, ◌&&◌, ◌||◌, length, take, drop, get_or, eqb}
use Rattle.std.proofs.Common.{sym, ap, ◌∙◌, inl, inr, arith, length-append, le-leb, lt-ltb, eqb-true, eq-eqb, ne_eqb}
use Rattle.std.proofs.lemmas.Bool.{eqb-false}
use Rattle.lexis.specs.RunLaws.{clash}
use Rattle.engine.specs.Base.{Tree, Trees, node, nil, cons, sizes}
use Rattle.grammar.specs.Table.{Record, own, own_as, total, flatten, span_as, span, record_of, texts_of, texts_ofs, records_of, records_ofs, numbers, table_of, words_of}
use Rattle.grammar.specs.Published.{rows_in}
use Rattle.grammar.specs.Demands.{Derives}
use Rattle.grammar.proofs.OrderLaws.{Each, each_split, each_at}
use Rattle.grammar.proofs.FitLaws.{Worded, Fits, fits_source, reading_fits}
use Rattle.reader.specs.Node.{is_text, part, text_as, text_in, has_as, has_text, number_at, text_of_node, node_has_text}
use Rattle.reader.specs.NodeTexts.{read_as, read_text, read_texts, read_textss, shown}

-- ---- lists

right_empty : (w : List ℕ) → w ++ [] ≡ w
right_empty [] = refl
right_empty (y ∷ w) = ap (λ r. y ∷ r) (right_empty w)

pub assoc : (x y z : List ℕ) → (x ++ y) ++ z ≡ x ++ (y ++ z)
assoc [] y z = refl
assoc (a ∷ x) y z = ap (λ r. a ∷ r) (assoc x y z)

pub drop_before : (x y : List ℕ) → drop (length x) (x ++ y) ≡ y
drop_before [] y = refl
drop_before (a ∷ x) y = drop_before x y

pub take_before : (x y : List ℕ) → take (length x) (x ++ y) ≡ x
take_before [] y = refl
take_before (a ∷ x) y = ap (λ r. a ∷ r) (take_before x y)

three : (x y z : List ℕ) → length (x ++ (y ++ z)) ≡ length x + (length y + length z)
three x y z = length-append x (y ++ z) ∙ ap (λ n. length x + n) (length-append y z)

fits : (x y z : List ℕ) → length x + length y ≤ length (x ++ (y ++ z))
fits x y z = omega (arith, three x y z)

part_mid : (x y z : List ℕ) → part (x ++ (y ++ z)) (length x) (length y) ≡ y
part_mid x y z =
    ap (λ w. cond w (take (length y) (drop (length x) (x ++ (y ++ z)))) []) (le-leb _ _ (fits x y z))
    ∙ ap (λ l. take (length y) l) (drop_before x (y ++ z)) ∙ take_before y z

-- one text alone
part_one : (x y z : List ℕ) → part (x ++ ((y ++ []) ++ z)) (length x) (length y + 0) ≡ y
part_one x y z = ap (λ n. part (x ++ ((y ++ []) ++ z)) (length x) n) (plus_zero (length y)) ∙ ap (λ w. part (x ++ (w ++ z)) (length x) (length y)) (right_empty y) ∙ part_mid x y z
  where
    plus_zero : (n : ℕ) → n + 0 ≡ n
    plus_zero n = omega arith

flatten_both : (x y : List (List ℕ)) → flatten (x ++ y) ≡ flatten x ++ flatten y
flatten_both [] y = refl
flatten_both (a ∷ x) y = ap (λ r. a ++ r) (flatten_both x y) ∙ sym (assoc a (flatten x) (flatten y))

total_long : (x : List (List ℕ)) → length (flatten x) ≡ total x
total_long [] = refl
total_long (a ∷ x) = length-append a (flatten x) ∙ ap (λ n. length a + n) (total_long x)

part_fits : (s : List ℕ) (a n : ℕ) → a + n ≤ length s → part s a n ≡ take n (drop a s)
part_fits s a n h = ap (λ w. cond w (take n (drop a s)) []) (le-leb _ _ h)

-- ---- a node

-- its numbers fit: what that says by whether its kind is 6, 9 and its flag 0, 1
record Named (s : List ℕ) (b e : ℕ) (i j f o : Bool) : Type 0 where
  one : f ≡ true → o ≡ false
  other : (i || j) ≡ true → f ≡ false → o ≡ true
  string : i ≡ true → (b + 1) + (e - b - 2) ≤ length s
  piece : j ≡ true → b + (e - b) ≤ length s

shown_as_lem : (s x z : List ℕ) (t b e : ℕ) (i j f o : Bool) → Named s b e i j f o
    → text_as s (x ++ (flatten (own_as s t b (i && o) (j && o)) ++ z))
    (span_as b e (length x) (total (own_as s t b (i && o) (j && o))) ((i && o) || (j && o)) i j).0
    (span_as b e (length x) (total (own_as s t b (i && o) (j && o))) ((i && o) || (j && o)) i j).1 (i || j) f o
    ≡ read_as s t b e i j f
shown_as_lem s x z t b e true j true true h = clash (h.one refl)
shown_as_lem s x z t b e true true true false h = part_fits s (b + 1) (e - b - 2) (h.string refl)
shown_as_lem s x z t b e true false true false h = part_fits s (b + 1) (e - b - 2) (h.string refl)
shown_as_lem s x z t b e true j false true h = part_one x _ z
shown_as_lem s x z t b e true j false false h = clash (sym (h.other refl refl))
shown_as_lem s x z t b e false true true true h = clash (h.one refl)
shown_as_lem s x z t b e false true true false h = part_fits s b (e - b) (h.piece refl)
shown_as_lem s x z t b e false true false true h = part_one x _ z
shown_as_lem s x z t b e false true false false h = clash (sym (h.other refl refl))
shown_as_lem s x z t b e false false f o h = refl

worded : (k : ℕ) → is_text k ≡ true → Worded k
worded k = go (eqb k 6) refl
  where
    go : (y : Bool) → eqb k 6 ≡ y → (y || eqb k 9) ≡ true → Worded k
    go true e h = inl (eqb-true k 6 e)
    go false e h = inr (eqb-true k 9 h)

flag_one : (φ : ℕ) → φ ≤ 1 → eqb φ 0 ≡ false → φ ≡ 1
flag_one φ h e = let n = eqb-false φ 0 e in go φ h n
  where
    go : (φ : ℕ) → φ ≤ 1 → ¬ (φ ≡ 0) → φ ≡ 1
    go zero h n = absurd (n refl)
    go (suc φ) h n = omega arith

named : (s : List ℕ) (n : ℕ) (r : Record) → Fits (length s) n r → Named s r.start r.end (eqb r.kind 6) (eqb r.kind 9) (eqb r.flag 0) (eqb r.flag 1)
named s n r h = record {
  one = λ e. ne_eqb r.flag 1 (λ o. omega (arith, eqb-true r.flag 0 e, o));
  other = λ w e. eq-eqb r.flag 1 (flag_one r.flag (h.flag (worded r.kind w)) e);
  string = λ e. omega (arith, h.string (eqb-true r.kind 6 e), h.end);
  piece = λ e. omega (arith, h.some, h.end);
}

shown_node : (s x z : List ℕ) (t k φ b e u n c : ℕ) → u ≡ length x → Fits (length s) n (record_of k φ b e c (span k φ b e u (total (own s t k φ b))))
    → text_in s (x ++ (flatten (own s t k φ b) ++ z)) k φ (span k φ b e u (total (own s t k φ b))).0 (span k φ b e u (total (own s t k φ b))).1 ≡ read_text s t k φ b e
unfolding own
shown_node s x z t k φ b e u n c h g =
    ap (λ v. text_in s (x ++ (flatten (own s t k φ b) ++ z)) k φ (span k φ b e v (total (own s t k φ b))).0 (span k φ b e v (total (own s t k φ b))).1) h
    ∙ shown_as_lem s x z t b e (eqb k 6) (eqb k 9) (eqb φ 0) (eqb φ 1) (named s n _ g)

-- a record whose numbers fit has text where its kind has
has_record : (s x : List ℕ) (n : ℕ) (r : Record) → Fits (length s) n r → n ≤ length x → has_text s x r.kind r.flag r.from r.length ≡ is_text r.kind
has_record s x n r h l = go (is_text r.kind) (eqb r.flag 0) (eqb r.flag 1) refl refl refl
  where
    go : (t z o : Bool) → is_text r.kind ≡ t → eqb r.flag 0 ≡ z → eqb r.flag 1 ≡ o → has_as s x r.from r.length t z o ≡ t
    go false z o e f g = refl
    go true true o e f g = le-leb _ _ (fits_source h (worded r.kind e) (eqb-true r.flag 0 f))
    go true false true e f g = le-leb (r.from + r.length) (length x) (let w = h.words (worded r.kind e) (eqb-true r.flag 1 g) in omega arith)
    go true false false e f g = clash (sym ((named s n r h).other e f) ∙ g)

-- ---- a tree

shown_both : (s x : List ℕ) (p q : List Record) → shown s x (p ++ q) ≡ shown s x p ++ shown s x q
shown_both s x [] q = refl
shown_both s x (r ∷ p) q = ap (λ y. text_in s x r.kind r.flag r.from r.length ∷ y) (shown_both s x p q)

-- the text buffer with the texts of two parts, as the first sees it, and as the second does
first_sees : (x z : List ℕ) (p q : List (List ℕ)) → x ++ (flatten (p ++ q) ++ z) ≡ x ++ (flatten p ++ (flatten q ++ z))
first_sees x z p q = ap (λ w. x ++ w) (ap (λ w. w ++ z) (flatten_both p q) ∙ assoc (flatten p) (flatten q) z)

second_sees : (x z : List ℕ) (p q : List (List ℕ)) → x ++ (flatten (p ++ q) ++ z) ≡ (x ++ flatten p) ++ (flatten q ++ z)
second_sees x z p q = first_sees x z p q ∙ sym (assoc x (flatten p) (flatten q ++ z))

used : (x : List ℕ) (u : ℕ) (p : List (List ℕ)) → u ≡ length x → u + total p ≡ length (x ++ flatten p)
used x u p h = ap (λ n. n + total p) h ∙ ap (λ n. length x + n) (sym (total_long p)) ∙ sym (length-append x (flatten p))

mutual
  -- the records of a tree, its texts standing in the buffer w behind x
  pub shown_tree : (s x z w : List ℕ) (n t u : ℕ) (y : Tree ℕ) → u ≡ length x → w ≡ x ++ (flatten (texts_of s t y) ++ z) → Each (Fits (length s) n) (records_of s t u y)
      → shown s w (records_of s t u y) ≡ read_texts s t y
  shown_tree s x z w n t u (node k φ b e ts) h g f =
      let (f1, f2) = each_split (Fits (length s) n) (records_ofs s b u ts) _ f in
      shown_both s w (records_ofs s b u ts) _
      ∙ ap (λ l. l ++ shown s w (record_of k φ b e (suc (sizes ts)) (span k φ b e (u + total (texts_ofs s b ts)) (total (own s t k φ b))) ∷ []))
      (shown_trees s x (flatten (own s t k φ b) ++ z) w n b u ts h (g ∙ first_sees x z (texts_ofs s b ts) (own s t k φ b)) f1)
      ∙ ap (λ v. read_textss s b ts ++ text_in s v k φ (span k φ b e (u + total (texts_ofs s b ts)) (total (own s t k φ b))).0 (span k φ b e (u + total (texts_ofs s b ts)) (total (own s t k φ b))).1 ∷ [])
      (g ∙ second_sees x z (texts_ofs s b ts) (own s t k φ b))
      ∙ ap (λ v. read_textss s b ts ++ v ∷ [])
      (shown_node s (x ++ flatten (texts_ofs s b ts)) z t k φ b e (u + total (texts_ofs s b ts)) n (suc (sizes ts)) (used x u (texts_ofs s b ts) h) f2.0)

  pub shown_trees : (s x z w : List ℕ) (n t u : ℕ) (y : Trees ℕ) → u ≡ length x → w ≡ x ++ (flatten (texts_ofs s t y) ++ z) → Each (Fits (length s) n) (records_ofs s t u y)
      → shown s w (records_ofs s t u y) ≡ read_textss s t y
  shown_trees s x z w n t u nil h g f = refl
  shown_trees s x z w n t u (cons y ys) h g f =
      let (f1, f2) = each_split (Fits (length s) n) (records_of s t u y) _ f in
      shown_both s w (records_of s t u y) _
      ∙ ap (λ l. l ++ shown s w (records_ofs s t (u + total (texts_of s t y)) ys))
      (shown_tree s x (flatten (texts_ofs s t ys) ++ z) w n t u y h (g ∙ first_sees x z (texts_of s t y) (texts_ofs s t ys)) f1)
      ∙ ap (λ l. read_texts s t y ++ l)
      (shown_trees s (x ++ flatten (texts_of s t y)) z w n t (u + total (texts_of s t y)) ys (used x u (texts_of s t y) h) (g ∙ second_sees x z (texts_of s t y) (texts_ofs s t ys)) f2)

-- the table of a reading shows the reading's texts, whatever stands in the text buffer behind them
pub shown_table : (s z : List ℕ) (y : Tree ℕ) → Derives s y → shown s (words_of s y ++ z) (table_of s y) ≡ read_texts s 0 y
shown_table s z y d = shown_tree s [] z (words_of s y ++ z) (length (words_of s y)) 0 0 y refl refl (reading_fits s y d)

-- ---- a row of the table, as numbers

next_number : (r : Record) (rs : List Record) (z : List ℕ) (n m : ℕ) → n ≡ suc (suc (suc (suc (suc (suc (suc m)))))) → number_at (numbers (r ∷ rs) ++ z) n ≡ number_at (numbers rs ++ z) m
next_number r rs z n m h = ap (λ i. number_at (numbers (r ∷ rs) ++ z) i) h

-- whatever is made of them
row_at : {A : Type 0} (F : ℕ → ℕ → ℕ → ℕ → A) (z : List ℕ) (rs : List Record) (i : ℕ) → i < length rs
    → F (number_at (numbers rs ++ z) (i * 7)) (number_at (numbers rs ++ z) (i * 7 + 1)) (number_at (numbers rs ++ z) (i * 7 + 5)) (number_at (numbers rs ++ z) (i * 7 + 6))
    ≡ F (rows_in rs i).kind (rows_in rs i).flag (rows_in rs i).from (rows_in rs i).length
row_at F z [] i h = absurd (omega (arith, h))
row_at F z (r ∷ rs) zero h = refl
row_at F z (r ∷ rs) (suc i) h =
    let b : List ℕ = numbers (r ∷ rs) ++ z in
    let c : List ℕ = numbers rs ++ z in
    let e0 : suc i * 7 ≡ suc (suc (suc (suc (suc (suc (suc (i * 7))))))) = omega arith in
    let e1 : suc i * 7 + 1 ≡ suc (suc (suc (suc (suc (suc (suc (i * 7 + 1))))))) = omega arith in
    let e5 : suc i * 7 + 5 ≡ suc (suc (suc (suc (suc (suc (suc (i * 7 + 5))))))) = omega arith in
    let e6 : suc i * 7 + 6 ≡ suc (suc (suc (suc (suc (suc (suc (i * 7 + 6))))))) = omega arith in
    let lower : i < length rs = omega (arith, h) in
    ap (λ k. F k (number_at b (suc i * 7 + 1)) (number_at b (suc i * 7 + 5)) (number_at b (suc i * 7 + 6))) (next_number r rs z _ (i * 7) e0)
    ∙ ap (λ k. F (number_at c (i * 7)) k (number_at b (suc i * 7 + 5)) (number_at b (suc i * 7 + 6))) (next_number r rs z _ (i * 7 + 1) e1)
    ∙ ap (λ k. F (number_at c (i * 7)) (number_at c (i * 7 + 1)) k (number_at b (suc i * 7 + 6))) (next_number r rs z _ (i * 7 + 5) e5)
    ∙ ap (λ k. F (number_at c (i * 7)) (number_at c (i * 7 + 1)) (number_at c (i * 7 + 5)) k) (next_number r rs z _ (i * 7 + 6) e6)
    ∙ row_at F z rs i lower

shown_at : (s x : List ℕ) (rs : List Record) (i : ℕ) → i < length rs
    → text_in s x (rows_in rs i).kind (rows_in rs i).flag (rows_in rs i).from (rows_in rs i).length ≡ get_or (shown s x rs) i []
shown_at s x [] i h = absurd (omega (arith, h))
shown_at s x (r ∷ rs) zero h = refl
shown_at s x (r ∷ rs) (suc i) h = shown_at s x rs i (omega (arith, h))

long : (rs : List Record) (z : List ℕ) → length (numbers rs ++ z) ≡ length rs * 7 + length z
long [] z = omega arith
long (r ∷ rs) z = let e : length (numbers rs ++ z) ≡ length rs * 7 + length z = long rs z in omega (arith, e)

inside_table : (rs : List Record) (z : List ℕ) (i : ℕ) → i < length rs → i < length (numbers rs ++ z) / 7
inside_table rs z i h = omega (arith, long rs z, h)

-- ---- the i-th node of a reading, out of lent buffers that begin with its table and its text

module _ (s z v : List ℕ) (y : Tree ℕ) (d : Derives s y) (i : ℕ) (h : i < length (table_of s y)) where
  -- its text is the reading's
  pub text_of_reading : text_of_node s (numbers (table_of s y) ++ z) (words_of s y ++ v) i ≡ get_or (read_texts s 0 y) i []
  text_of_reading =
      let b : List ℕ = numbers (table_of s y) ++ z in
      let x : List ℕ = words_of s y ++ v in
      ap (λ w. cond w (text_in s x (number_at b (i * 7)) (number_at b (i * 7 + 1)) (number_at b (i * 7 + 5)) (number_at b (i * 7 + 6))) []) (lt-ltb _ _ (inside_table (table_of s y) z i h))
      ∙ row_at (text_in s x) z (table_of s y) i h ∙ shown_at s x (table_of s y) i h ∙ ap (λ l. get_or l i []) (shown_table s v y d)

  -- and it has text exactly where its kind is 6 or 9
  pub has_of_reading : node_has_text s (numbers (table_of s y) ++ z) (words_of s y ++ v) i ≡ is_text (rows_in (table_of s y) i).kind
  has_of_reading =
      let b : List ℕ = numbers (table_of s y) ++ z in
      let x : List ℕ = words_of s y ++ v in
      let n = length (words_of s y) in
      ap (λ w. cond w (has_text s x (number_at b (i * 7)) (number_at b (i * 7 + 1)) (number_at b (i * 7 + 5)) (number_at b (i * 7 + 6))) false) (lt-ltb _ _ (inside_table (table_of s y) z i h))
      ∙ row_at (has_text s x) z (table_of s y) i h
      ∙ has_record s x n (rows_in (table_of s y) i) (each_at (Fits (length s) n) (table_of s y) (reading_fits s y d) i h) (omega (arith, length-append (words_of s y) v))
