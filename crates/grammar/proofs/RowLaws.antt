-- A table at every node of which the published rule holds is the table of a tree, with its text; and the other way round.
use Rattle.std.specs.Prelude.{ℕ, zero, suc, ◌+◌, ◌≤◌, ◌<◌, ◌≡◌, refl, List, [], ◌∷◌, ◌++◌, map, Bool, true, false, cond, ◌&&◌, ◌||◌, ◌⊎◌, length, get_or, take, drop, eqb, T}
use Rattle.std.proofs.Common.{sym, ap, ◌∙◌, subst, append_assoc, inl, inr, arith, length-append, take-add, drop-drop, take-take, take_at, drop_at}
use Rattle.std.proofs.lemmas.List.{map-append}
use Rattle.std.proofs.Math.Seq.{take-length}
use Rattle.engine.specs.Base.{Rec, Tree, node, Trees, nil, cons, rec_of, size, sizes, has}
use Rattle.engine.specs.BaseLaws.{EqCase, same, other, eq_case, lt_or}
use Rattle.engine.specs.Flat.{flat, flats}
use Rattle.engine.specs.Rule.{Every, every, Everys, enil, econs, Kids, knil, kcons}
use Rattle.engine.specs.FlatLaws.{At, at_split, at_join, at_list}
use Rattle.grammar.specs.Table.{Record, own, own_as, total, flatten, span, span_as, record_of, texts_of, texts_ofs, records_of, records_ofs}
use Rattle.grammar.specs.BoundLaws.{total_append}
use Rattle.grammar.proofs.Bounds.{flatten_long}
use Rattle.grammar.specs.RuleTable.{kids_le}
use Rattle.grammar.specs.Published.{Depth, Rule, taken, used, Texted, row_of, rec_in, Node, no_row, rows_in}

-- ---- texts one after the other

flatten_append : (xs ys : List (List ℕ)) → flatten (xs ++ ys) ≡ flatten xs ++ flatten ys
flatten_append [] ys = refl
flatten_append (x ∷ xs) ys = rw (flatten_append xs ys) (sym (append_assoc x (flatten xs) (flatten ys)))

module _ (text : List ℕ) where
  -- the texts stand in the text buffer from u on
  abbrev pub Cut : ℕ → List (List ℕ) → Type 0
  Cut u xs = take (total xs) (drop u text) ≡ flatten xs

  cut_join : (u : ℕ) (xs ys : List (List ℕ)) → Cut u xs → Cut (u + total xs) ys → Cut u (xs ++ ys)
  cut_join u xs ys e f = rw (total_append xs ys, take-add (total xs) (total ys) (drop u text), drop-drop (total xs) u text, e, f) (sym (flatten_append xs ys))

  cut_split : (u : ℕ) (xs ys : List (List ℕ)) → Cut u (xs ++ ys) → Cut u xs × Cut (u + total xs) ys
  cut_split u xs ys e =
      let l = drop u text in
      let h : take (total xs + total ys) l ≡ flatten xs ++ flatten ys = rw (total_append xs ys, flatten_append xs ys) at e in
      let n : length (take (total xs + total ys) l) ≡ total xs + total ys = ap length h ∙ length-append (flatten xs) (flatten ys) ∙ (let a = flatten_long xs in let b = flatten_long ys in omega arith) in
      let a : take (total xs) l ≡ flatten xs = sym (take-take (total xs) (total xs + total ys) l (omega arith)) ∙ ap (take (total xs)) h ∙ take_at (flatten xs) (flatten ys) (total xs) (flatten_long xs) in
      let b : drop (total xs) (take (total xs + total ys) l) ≡ flatten ys = ap (drop (total xs)) h ∙ drop_at (flatten xs) (flatten ys) (total xs) (flatten_long xs) in
      let m : length (take (total xs) l) ≡ total xs = ap length a ∙ flatten_long xs in
      let c : drop (total xs) (take (total xs + total ys) l) ≡ take (total ys) (drop (total xs) l) = ap (drop (total xs)) (take-add (total xs) (total ys) l) ∙ drop_at (take (total xs) l) (take (total ys) (drop (total xs) l)) (total xs) m in
      (a, ap (take (total ys)) (sym (drop-drop (total xs) u text)) ∙ sym c ∙ b)

-- ---- a node's own text

-- only a piece's text turns on where its parent starts
own_same : (s : List ℕ) (t t' k φ b : ℕ) → ¬ (k ≡ 9) → own s t k φ b ≡ own s t' k φ b
unfolding own
own_same s t t' k φ b n = go (eq_case k 9) (eqb k 6 && eqb φ 1)
  where
    go : {z : Bool} → EqCase k 9 z → (y : Bool) → own_as s t b y (z && eqb φ 1) ≡ own_as s t' b y (z && eqb φ 1)
    go (same e) y = absurd (n e)
    go (other e) true = refl
    go (other e) false = refl

texted_same : (s text : List ℕ) (t t' u : ℕ) (r : Record) → ¬ (r.kind ≡ 9) → Texted s text t u r → Texted s text t' u r
texted_same s text t t' u r n x =
    let e = own_same s t t' r.kind r.flag r.start n in
    record {
      columns = x.columns ∙ ap (λ (y : List (List ℕ)). span r.kind r.flag r.start r.end u (total y)) e;
      bytes = subst (λ (y : List (List ℕ)). take (total y) (drop u text) ≡ flatten y) e x.bytes;
    }

-- what a record takes of the text buffer is its own text
taken_as : (s : List ℕ) (t b e u l f : ℕ) (y z p q : Bool) → (f, l) ≡ span_as b e u (total (own_as s t b y z)) (y || z) p q → cond (y || z) l 0 ≡ total (own_as s t b y z)
taken_as s t b e u l f true z p q h = ap (λ (x : ℕ × ℕ). x.1) h
taken_as s t b e u l f false true p q h = ap (λ (x : ℕ × ℕ). x.1) h
taken_as s t b e u l f false false p q h = refl

taken_is : (s : List ℕ) (t u : ℕ) (r : Record) → (r.from, r.length) ≡ span r.kind r.flag r.start r.end u (total (own s t r.kind r.flag r.start)) → taken r ≡ total (own s t r.kind r.flag r.start)
unfolding own
taken_is s t u r h = taken_as s t r.start r.end u r.length r.from (eqb r.kind 6 && eqb r.flag 1) (eqb r.kind 9 && eqb r.flag 1) (eqb r.kind 6) (eqb r.kind 9) h

-- a record by its numbers
record_is : (r : Record) (n : ℕ) (x : ℕ × ℕ) → r.count ≡ n → (r.from, r.length) ≡ x → r ≡ record_of r.kind r.flag r.start r.end n x
record_is r n x p q = rw (← p, ← q)

mutual
  pub length_records : (s : List ℕ) (x u : ℕ) (t : Tree ℕ) → length (records_of s x u t) ≡ size t
  length_records s x u (node k φ b e ts) = simp length-append (omega (arith, length_recordss s b u ts))

  length_recordss : (s : List ℕ) (x u : ℕ) (ts : Trees ℕ) → length (records_ofs s x u ts) ≡ sizes ts
  length_recordss s x u nil = refl
  length_recordss s x u (cons t ts) = simp length-append (omega (arith, length_records s x u t, length_recordss s x (u + total (texts_of s x t)) ts))

-- without their text numbers the records are the tree's rows
mutual
  pub plain_rows : (s : List ℕ) (x u : ℕ) (t : Tree ℕ) → map row_of (records_of s x u t) ≡ flat t
  plain_rows s x u (node k φ b e ts) = rw (map-append row_of (records_ofs s b u ts) (record_of k φ b e (suc (sizes ts)) (span k φ b e (u + total (texts_ofs s b ts)) (total (own s x k φ b))) ∷ []), plain_rowss s b u ts)

  plain_rowss : (s : List ℕ) (x u : ℕ) (ts : Trees ℕ) → map row_of (records_ofs s x u ts) ≡ flats ts
  plain_rowss s x u nil = refl
  plain_rowss s x u (cons t ts) = rw (map-append row_of (records_of s x u t) (records_ofs s x (u + total (texts_of s x t)) ts), plain_rows s x u t, plain_rowss s x (u + total (texts_of s x t)) ts)

pub plain_row : (rows : List Record) (i : ℕ) → row_of (rows_in rows i) ≡ get_or (map row_of rows) i (row_of no_row)
plain_row [] i = refl
plain_row (r ∷ rows) zero = refl
plain_row (r ∷ rows) (suc i) = plain_row rows i

-- ---- from the rows to a tree

module _ (s text : List ℕ) (f : ℕ → Record) where
  -- a tree's rows stand from lo on, and its text stands in the text buffer; its parent starts at x
  pub record Stands (x lo : ℕ) (t : Tree ℕ) : Type 0 where
    pub listed : At f lo (records_of s x (used f lo) t)
    pub next : used f (lo + size t) ≡ used f lo + total (texts_of s x t)
    pub cut : Cut text (used f lo) (texts_of s x t)

  record Standing (x lo hi : ℕ) (ts : Trees ℕ) : Type 0 where
    listed : At f lo (records_ofs s x (used f lo) ts)
    next : used f hi ≡ used f lo + total (texts_ofs s x ts)
    cut : Cut text (used f lo) (texts_ofs s x ts)

  module _ (att : ℕ → Depth) where
    record Built (i : ℕ) : Type 0 where
      tree : Tree ℕ
      from : ℕ
      tiled : from + (f i).count ≡ suc i
      sized : size tree ≡ (f i).count
      rooted : rec_of tree ≡ rec_in f i
      ruled : Every (Rule s) (att i) tree
      -- where its own text is right for a parent that starts at x
      stands : (x : ℕ) → Texted s text x (used f i) (f i) → Stands x from tree

    record Forest (x lo hi : ℕ) (js : List ℕ) : Type 0 where
      trees : Trees ℕ
      tiled : lo + sizes trees ≡ hi
      ruled : Everys (Rule s) (map att js) (map (rec_in f) js) trees
      stands : Standing x lo hi trees

    has_first : (i : ℕ) (js : List ℕ) → T (has (i ∷ js) i)
    has_first i js = go (eq_case i i)
      where
        go : {b : Bool} → EqCase i i b → T (b || has js i)
        go (same e) = tt
        go (other n) = absurd (n refl)

    has_later : (i j : ℕ) (js : List ℕ) → T (has js j) → T (has (i ∷ js) j)
    has_later i j js t = go (eqb i j)
      where
        go : (b : Bool) → T (b || has js j)
        go true = tt
        go false = t

    grow : {x lo hi : ℕ} {js : List ℕ} → Kids (λ j. row_of (f j)) lo hi js → ((j : ℕ) → j < hi → Built j) → ((j : ℕ) → j < hi → T (has js j) → Texted s text x (used f j) (f j)) → Forest x lo hi js
    grow knil g w = record { trees = nil; tiled = omega arith; ruled = enil; stands = record { listed = tt; next = omega arith; cut = refl } }
    grow {x} {lo} {hi} (kcons {js = js} i q ks) g w =
        let h = kids_le ks in
        let b = g i h in
        let t = b.tree in
        let fo = grow ks g (λ j l m. w j l (has_later i j js m)) in
        let z : b.from ≡ lo = omega (arith, b.tiled) in
        let st : Stands x lo t = subst (λ (y : ℕ). Stands x y t) z (b.stands x (w i h (has_first i js))) in
        let v : suc i ≡ lo + size t = omega (arith, b.sized) in
        let u : used f (suc i) ≡ used f lo + total (texts_of s x t) = ap (used f) v ∙ st.next in
        let n : lo + length (records_of s x (used f lo) t) ≡ suc i = omega (arith, length_records s x (used f lo) t) in
        record {
          trees = cons t fo.trees;
          tiled = omega (arith, fo.tiled);
          ruled = econs b.rooted b.ruled fo.ruled;
          stands = record {
            listed = at_join f lo (records_of s x (used f lo) t) _ st.listed
                (subst (λ (y : ℕ). At f y (records_ofs s x (used f lo + total (texts_of s x t)) fo.trees)) (sym n)
                (subst (λ (y : ℕ). At f (suc i) (records_ofs s x y fo.trees)) u fo.stands.listed));
            next = omega (arith, fo.stands.next, total_append (texts_of s x t) (texts_ofs s x fo.trees));
            cut = cut_join text (used f lo) (texts_of s x t) (texts_ofs s x fo.trees) st.cut (subst (λ (y : ℕ). Cut text y (texts_ofs s x fo.trees)) u fo.stands.cut);
          };
        }

    -- the text of a child: a piece's by its parent, any other's by itself
    child_text : (x j : ℕ) → (¬ ((f j).kind ≡ 9) → Texted s text 0 (used f j) (f j)) → ((f j).kind ≡ 9 → Texted s text x (used f j) (f j)) → Texted s text x (used f j) (f j)
    child_text x j a b = go (eq_case (f j).kind 9)
      where
        go : {y : Bool} → EqCase (f j).kind 9 y → Texted s text x (used f j) (f j)
        go (same e) = b e
        go (other n) = texted_same s text 0 x (used f j) (f j) n (a n)

    node_built : (i : ℕ) → Node s text f att i → ((j : ℕ) → j < i → Built j) → ((j : ℕ) → j < i → Node s text f att j) → Built i
    node_built i o g p =
        let r = f i in
        let fo = grow {x = r.start} o.split g (λ j h m. child_text r.start j (p j h).words (o.pieces j m)) in
        let ts = fo.trees in
        let c : r.count ≡ suc (sizes ts) = omega (arith, o.tiles, fo.tiled) in
        let lo = o.lo in
        let u = used f lo in
        record {
          tree = node r.kind r.flag r.start r.end ts;
          from = lo;
          tiled = o.tiles;
          sized = sym c;
          rooted = refl;
          ruled = every o.rule fo.ruled;
          stands = λ x w.
              let ws = own s x r.kind r.flag r.start in
              let n = fo.stands.next in
              let a : lo + length (records_ofs s r.start u ts) ≡ i = omega (arith, length_recordss s r.start u ts, fo.tiled) in
              let b : lo + suc (sizes ts) ≡ suc i = omega (arith, fo.tiled) in
              let e : f i ≡ record_of r.kind r.flag r.start r.end (suc (sizes ts)) (span r.kind r.flag r.start r.end (u + total (texts_ofs s r.start ts)) (total ws))
              = record_is r (suc (sizes ts)) _ c (subst (λ (y : ℕ). (r.from, r.length) ≡ span r.kind r.flag r.start r.end y (total ws)) n w.columns) in
              record {
                listed = at_join f lo (records_ofs s r.start u ts) _ fo.stands.listed (ap f a ∙ e, tt);
                next = ap (used f) b ∙ omega (arith, n, taken_is s x (used f i) r w.columns, total_append (texts_ofs s r.start ts) ws);
                cut = cut_join text u (texts_ofs s r.start ts) ws fo.stands.cut (subst (λ (y : ℕ). Cut text y ws) n w.bytes);
              };
        }

    build : (n : ℕ) → ((i : ℕ) → i < n → Node s text f att i) → (m i : ℕ) → i < m → i < n → Built i
    build n o zero i w h = absurd (omega arith)
    build n o (suc m) i w h = node_built i (o i h) (λ j v. build n o m j (omega arith) (omega arith)) (λ j v. o j (omega arith))

  -- a whole table: its last row's tree
  pub record Whole (att : ℕ → Depth) (i : ℕ) : Type 0 where
    pub tree : Tree ℕ
    pub sized : size tree ≡ (f i).count
    pub rooted : rec_of tree ≡ rec_in f i
    pub ruled : Every (Rule s) (att i) tree
    pub stands : Stands 0 0 tree

  pub rows_tree : (att : ℕ → Depth) (i : ℕ) → ((j : ℕ) → j < suc i → Node s text f att j) → (f i).count ≡ suc i → ¬ ((f i).kind ≡ 9) → Whole att i
  rows_tree att i o c n =
      let b = build att (suc i) o (suc i) i (omega arith) (omega arith) in
      let z : b.from ≡ 0 = omega (arith, b.tiled) in
      record { tree = b.tree; sized = b.sized; rooted = b.rooted; ruled = b.ruled; stands = subst (λ (y : ℕ). Stands 0 y b.tree) z (b.stands 0 ((o i (omega arith)).words n)) }

-- ---- from a tree to its rows

-- the rule of equal things
rule_as_lem : (s : List ℕ) {d d' : Depth} {r r' : Rec ℕ} {rs rs' : List (Rec ℕ)} {ds ds' : List Depth} → d ≡ d' → r ≡ r' → rs ≡ rs' → ds ≡ ds' → Rule s d r rs ds → Rule s d' r' rs' ds'
rule_as_lem s {d} {d'} {r} {r'} {rs} {rs'} {ds} {ds'} p q u v x =
    subst (λ (y : List Depth). Rule s d' r' rs' y) v
    (subst (λ (y : List (Rec ℕ)). Rule s d' r' y ds) u (subst (λ (y : Rec ℕ). Rule s d' y rs ds) q (subst (λ (y : Depth). Rule s y r rs ds) p x)))

-- the depths of a tree's nodes, in table order
module _ (s : List ℕ) where
  abbrev mutual
    depths_of : {d : Depth} {t : Tree ℕ} → Every (Rule s) d t → List Depth
    depths_of (every {b = d} x es) = depths_ofs es ++ d ∷ []

    depths_ofs : {ds : List Depth} {rs : List (Rec ℕ)} {ts : Trees ℕ} → Everys (Rule s) ds rs ts → List Depth
    depths_ofs enil = []
    depths_ofs (econs q e es) = depths_of e ++ depths_ofs es

  mutual
    length_depths : {d : Depth} {t : Tree ℕ} (e : Every (Rule s) d t) → length (depths_of e) ≡ size t
    length_depths (every {b = d} x es) = simp length-append (omega (arith, length_depthss es))

    length_depthss : {ds : List Depth} {rs : List (Rec ℕ)} {ts : Trees ℕ} (es : Everys (Rule s) ds rs ts) → length (depths_ofs es) ≡ sizes ts
    length_depthss enil = refl
    length_depthss (econs q e es) = simp length-append (omega (arith, length_depths e, length_depthss es))

module _ (s text : List ℕ) (f : ℕ → Record) where
  -- the text that a tree's rows use is its own
  record_takes : (x u k φ b e n : ℕ) → taken (record_of k φ b e n (span k φ b e u (total (own s x k φ b)))) ≡ total (own s x k φ b)
  record_takes x u k φ b e n = taken_is s x u (record_of k φ b e n (span k φ b e u (total (own s x k φ b)))) refl

  mutual
    pub used_tree : (x u lo : ℕ) (t : Tree ℕ) → At f lo (records_of s x u t) → used f (lo + size t) ≡ used f lo + total (texts_of s x t)
    used_tree x u lo (node k φ b e ts) h =
        let (h1, h2) = at_split f lo (records_ofs s b u ts) _ h in
        let n = used_trees b u lo ts h1 in
        let a : lo + length (records_ofs s b u ts) ≡ lo + sizes ts = omega (arith, length_recordss s b u ts) in
        let q = ap f (sym a) ∙ h2.0 in
        let c : lo + suc (sizes ts) ≡ suc (lo + sizes ts) = omega arith in
        ap (used f) c ∙ omega (arith, n, ap taken q, record_takes x (u + total (texts_ofs s b ts)) k φ b e (suc (sizes ts)), total_append (texts_ofs s b ts) (own s x k φ b))

    used_trees : (x u lo : ℕ) (ts : Trees ℕ) → At f lo (records_ofs s x u ts) → used f (lo + sizes ts) ≡ used f lo + total (texts_ofs s x ts)
    used_trees x u lo nil h = let c : lo + 0 ≡ lo = omega arith in ap (used f) c ∙ omega arith
    used_trees x u lo (cons t ts) h =
        let (h1, h2) = at_split f lo (records_of s x u t) _ h in
        let n = used_tree x u lo t h1 in
        let a : lo + length (records_of s x u t) ≡ lo + size t = omega (arith, length_records s x u t) in
        let m = used_trees x (u + total (texts_of s x t)) (lo + size t) ts (subst (λ (y : ℕ). At f y (records_ofs s x (u + total (texts_of s x t)) ts)) a h2) in
        let c : lo + (size t + sizes ts) ≡ lo + size t + sizes ts = omega arith in
        ap (used f) c ∙ omega (arith, n, m, total_append (texts_of s x t) (texts_ofs s x ts))

  module _ (att : ℕ → Depth) where
    -- the row of a tree's root
    record Top (x lo : ℕ) (d : Depth) (t : Tree ℕ) : Type 0 where
      at : ℕ
      place : suc at ≡ lo + size t
      its_rec : rec_in f at ≡ rec_of t
      its_count : (f at).count ≡ size t
      its_att : att at ≡ d
      its_text : Texted s text x (used f at) (f at)

    texted_record : (x u v k φ b e n : ℕ) (r : Record) → r ≡ record_of k φ b e n (span k φ b e u (total (own s x k φ b))) → v ≡ u → Cut text u (own s x k φ b) → Texted s text x v r
    texted_record x u v k φ b e n r q z c =
        subst (λ (y : ℕ). Texted s text x y r) (sym z) (subst (λ (y : Record). Texted s text x u y) (sym q) (record { columns = refl; bytes = c }))

    top : {d : Depth} {t : Tree ℕ} (e : Every (Rule s) d t) (x lo : ℕ) → At f lo (records_of s x (used f lo) t) → At att lo (depths_of s e) → Cut text (used f lo) (texts_of s x t) → Top x lo d t
    top (every {b = d} {k} {φ} {s = b} {e} {ts = ts} y es) x lo h g c =
        let u = used f lo in
        let (h1, h2) = at_split f lo (records_ofs s b u ts) _ h in
        let (g1, g2) = at_split att lo (depths_ofs s es) (d ∷ []) g in
        let a : lo + length (records_ofs s b u ts) ≡ lo + sizes ts = omega (arith, length_recordss s b u ts) in
        let v : lo + length (depths_ofs s es) ≡ lo + sizes ts = omega (arith, length_depthss s es) in
        let q = ap f (sym a) ∙ h2.0 in
        let n = used_trees b u lo ts h1 in
        record {
          at = lo + sizes ts;
          place = omega arith;
          its_rec = ap (λ (r : Record). (row_of r).rec) q;
          its_count = ap (λ (r : Record). r.count) q;
          its_att = ap att (sym v) ∙ g2.0;
          its_text = texted_record x (u + total (texts_ofs s b ts)) (used f (lo + sizes ts)) k φ b e (suc (sizes ts)) (f (lo + sizes ts)) q n (cut_split text u (texts_ofs s b ts) (own s x k φ b) c).1;
        }

    record Rowed (x lo hi : ℕ) (ds : List Depth) (rs : List (Rec ℕ)) : Type 0 where
      kids : List ℕ
      split : Kids (λ j. row_of (f j)) lo hi kids
      recs : map (rec_in f) kids ≡ rs
      atts : map att kids ≡ ds
      texts : (j : ℕ) → T (has kids j) → Texted s text x (used f j) (f j)

    kids_of_lem : {ds : List Depth} {rs : List (Rec ℕ)} {ts : Trees ℕ} (es : Everys (Rule s) ds rs ts) (x lo hi : ℕ) → lo + sizes ts ≡ hi → At f lo (records_ofs s x (used f lo) ts) → At att lo (depths_ofs s es) → Cut text (used f lo) (texts_ofs s x ts)
        → Rowed x lo hi ds rs
    kids_of_lem enil x lo hi z h g c =
        let q : lo ≡ hi = omega arith in
        record { kids = []; split = subst (λ (y : ℕ). Kids (λ j. row_of (f j)) lo y []) q knil; recs = refl; atts = refl; texts = λ j t. absurd t }
    kids_of_lem (econs {t = t} {ts} q e es) x lo hi z h g c =
        let u = used f lo in
        let (h1, h2) = at_split f lo (records_of s x u t) _ h in
        let (g1, g2) = at_split att lo (depths_of s e) (depths_ofs s es) g in
        let (c1, c2) = cut_split text u (texts_of s x t) (texts_ofs s x ts) c in
        let r = top e x lo h1 g1 c1 in
        let n : used f (suc r.at) ≡ u + total (texts_of s x t) = ap (used f) r.place ∙ used_tree x u lo t h1 in
        let w : lo + length (records_of s x u t) ≡ suc r.at = omega (arith, length_records s x u t, r.place) in
        let v : lo + length (depths_of s e) ≡ suc r.at = omega (arith, length_depths s e, r.place) in
        let o = kids_of_lem es x (suc r.at) hi (omega (arith, r.place))
        (subst (λ (y : ℕ). At f (suc r.at) (records_ofs s x y ts)) (sym n) (subst (λ (y : ℕ). At f y (records_ofs s x (u + total (texts_of s x t)) ts)) w h2))
        (subst (λ (y : ℕ). At att y (depths_ofs s es)) v g2)
        (subst (λ (y : ℕ). Cut text y (texts_ofs s x ts)) (sym n) c2) in
        record {
          kids = r.at ∷ o.kids;
          split = kcons {lo = lo} {js = o.kids} r.at (omega (arith, r.place, r.its_count)) o.split;
          recs = cc (r.its_rec, o.recs, q);
          atts = cc (r.its_att, o.atts);
          texts = λ j m. by j o.kids (eq_case r.at j) m r.its_text (o.texts j);
        }
      where
        by : {i : ℕ} (j : ℕ) (js : List ℕ) {b : Bool} → EqCase i j b → T (b || has js j) → Texted s text x (used f i) (f i) → (T (has js j) → Texted s text x (used f j) (f j)) → Texted s text x (used f j) (f j)
        by j js (same e) m a k = subst (λ (y : ℕ). Texted s text x (used f y) (f y)) e a
        by j js (other n) m a k = k m

    root_node : {d : Depth} {t : Tree ℕ} (e : Every (Rule s) d t) (x lo i : ℕ) → suc i ≡ lo + size t → At f lo (records_of s x (used f lo) t) → At att lo (depths_of s e) → Cut text (used f lo) (texts_of s x t) → Node s text f att i
    root_node (every {b = d} {k} {φ} {s = b} {e} {ts = ts} y es) x lo i w h g c =
        let u = used f lo in
        let r = top (every y es) x lo h g c in
        let q : r.at ≡ i = omega (arith, r.place) in
        let o = kids_of_lem es b lo r.at (omega (arith, r.place)) (at_split f lo (records_ofs s b u ts) _ h).0 (at_split att lo (depths_ofs s es) (d ∷ []) g).0 (cut_split text u (texts_ofs s b ts) (own s x k φ b) c).0 in
        let bs : (f r.at).start ≡ b = ap (λ (z : Rec ℕ). z.start) r.its_rec in
        subst (λ (i : ℕ). Node s text f att i) q (record {
          lo = lo;
          kids = o.kids;
          tiles = omega (arith, r.place, r.its_count);
          split = o.split;
          rule = rule_as_lem s (sym r.its_att) (sym r.its_rec) (sym o.recs) (sym o.atts) y;
          words = λ n. texted_same s text x 0 (used f r.at) (f r.at) n r.its_text;
          pieces = λ j m z. subst (λ (p : ℕ). Texted s text p (used f j) (f j)) (sym bs) (o.texts j m);
        })

    mutual
      node_ok : {d : Depth} {t : Tree ℕ} (e : Every (Rule s) d t) (x lo : ℕ) → At f lo (records_of s x (used f lo) t) → At att lo (depths_of s e) → Cut text (used f lo) (texts_of s x t) → (i : ℕ) → lo ≤ i → i < lo + size t → Node s text f att i
      node_ok (every {b = d} {k} {φ} {s = b} {e} {ts = ts} y es) x lo h g c i p v =
          go (lt_or i (lo + sizes ts))
          (λ w. nodes_ok es b lo (at_split f lo (records_ofs s b (used f lo) ts) _ h).0 (at_split att lo (depths_ofs s es) (d ∷ []) g).0 (cut_split text (used f lo) (texts_ofs s b ts) (own s x k φ b) c).0 i p w)
        where
          go : (i < lo + sizes ts) ⊎ (lo + sizes ts ≤ i) → (i < lo + sizes ts → Node s text f att i) → Node s text f att i
          go (inl w) ih = ih w
          go (inr w) ih = root_node (every y es) x lo i (omega arith) h g c

      nodes_ok : {ds : List Depth} {rs : List (Rec ℕ)} {ts : Trees ℕ} (es : Everys (Rule s) ds rs ts) (x lo : ℕ) → At f lo (records_ofs s x (used f lo) ts) → At att lo (depths_ofs s es) → Cut text (used f lo) (texts_ofs s x ts)
          → (i : ℕ) → lo ≤ i → i < lo + sizes ts → Node s text f att i
      nodes_ok enil x lo h g c i p v = absurd (omega arith)
      nodes_ok (econs {t = t} {ts} q e es) x lo h g c i p v =
          let u = used f lo in
          let (h1, h2) = at_split f lo (records_of s x u t) _ h in
          let (g1, g2) = at_split att lo (depths_of s e) (depths_ofs s es) g in
          let (c1, c2) = cut_split text u (texts_of s x t) (texts_ofs s x ts) c in
          let n : used f (lo + size t) ≡ u + total (texts_of s x t) = used_tree x u lo t h1 in
          let w : lo + length (records_of s x u t) ≡ lo + size t = omega (arith, length_records s x u t) in
          let m : lo + length (depths_of s e) ≡ lo + size t = omega (arith, length_depths s e) in
          go (lt_or i (lo + size t))
          (λ l. node_ok e x lo h1 g1 c1 i p l)
          (λ l. nodes_ok es x (lo + size t)
          (subst (λ (y : ℕ). At f (lo + size t) (records_ofs s x y ts)) (sym n) (subst (λ (y : ℕ). At f y (records_ofs s x (u + total (texts_of s x t)) ts)) w h2))
          (subst (λ (y : ℕ). At att y (depths_ofs s es)) m g2)
          (subst (λ (y : ℕ). Cut text y (texts_ofs s x ts)) (sym n) c2) i l (omega arith))
        where
          go : (i < lo + size t) ⊎ (lo + size t ≤ i) → (i < lo + size t → Node s text f att i) → (lo + size t ≤ i → Node s text f att i) → Node s text f att i
          go (inl w) a b = a w
          go (inr w) a b = b w

-- a whole tree's table and text
pub record Listed (s text : List ℕ) (d : Depth) (t : Tree ℕ) (rows : List Record) : Type 0 where
  pub att : ℕ → Depth
  pub nodes : (i : ℕ) → i < length rows → Node s text (rows_in rows) att i
  pub root : ℕ
  pub last : length rows ≡ suc root
  pub all : (rows_in rows root).count ≡ length rows
  pub top_att : att root ≡ d
  pub rec : rec_in (rows_in rows) root ≡ rec_of t
  pub all_used : used (rows_in rows) (length rows) ≡ length text

pub tree_rows : (s : List ℕ) (d : Depth) (t : Tree ℕ) → Every (Rule s) d t → Listed s (flatten (texts_of s 0 t)) d t (records_of s 0 0 t)
tree_rows s d t e =
    let rows = records_of s 0 0 t in
    let f = rows_in rows in
    let text = flatten (texts_of s 0 t) in
    let att : ℕ → Depth = λ i. get_or (depths_of s e) i d in
    let h : At f 0 rows = at_list no_row rows in
    let g : At att 0 (depths_of s e) = at_list d (depths_of s e) in
    let c : Cut text 0 (texts_of s 0 t) = ap (λ (n : ℕ). take n text) (sym (flatten_long (texts_of s 0 t))) ∙ take-length text in
    let n : length rows ≡ size t = length_records s 0 0 t in
    let r = top s text f att e 0 0 h g c in
    let u = used_tree s text f 0 0 0 t h in
    record {
      att = att;
      nodes = λ i w. node_ok s text f att e 0 0 h g c i (omega arith) (omega arith);
      root = r.at;
      last = omega (arith, r.place);
      all = r.its_count ∙ sym n;
      top_att = r.its_att;
      rec = r.its_rec;
      all_used = (let z : length rows ≡ 0 + size t = omega arith in ap (used f) z) ∙ u ∙ omega (arith, flatten_long (texts_of s 0 t));
    }
