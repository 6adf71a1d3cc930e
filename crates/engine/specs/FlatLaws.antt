-- Tables and trees: the rule at every index of a table from anyone is the rule at every node of a tree that the table lists.
use Rattle.std.specs.Prelude.{◌≡◌, refl, ◌⊎◌, List, [], ◌∷◌, ◌++◌, map, ℕ, zero, suc, ◌+◌, ◌≤◌, ◌<◌, length, get_or}
use Rattle.std.proofs.Common.{ap, sym, ◌∙◌, subst, inl, inr, append_assoc, arith, add-zero, add-suc, suc-add, length-append}
use Rattle.engine.specs.Base.{Rec, Tree, node, Trees, nil, cons, rec_of, size, sizes, join}
use Rattle.engine.specs.Flat.{Row, flat, flats, row_in}
use Rattle.engine.specs.Rule.{Every, every, Everys, enil, econs, Kids, knil, kcons, Node, Table}
use Rattle.engine.specs.BaseLaws.{lt_or}

mutual
  pub length_flat : {P : Type 0} (t : Tree P) → length (flat t) ≡ size t
  length_flat (node k φ s e ts) = simp length-append (omega (arith, length_flats ts))

  pub length_flats : {P : Type 0} (ts : Trees P) → length (flats ts) ≡ sizes ts
  length_flats nil = refl
  length_flats (cons t ts) = simp length-append (omega (arith, length_flat t, length_flats ts))

-- ---- trees one after the other

pub join_nil : {P : Type 0} (ts : Trees P) → join ts nil ≡ ts
join_nil nil = refl
join_nil (cons t ts) = rw (join_nil ts)

pub join_assoc : {P : Type 0} (ts us vs : Trees P) → join (join ts us) vs ≡ join ts (join us vs)
join_assoc nil us vs = refl
join_assoc (cons t ts) us vs = rw (join_assoc ts us vs)

pub flats_join : {P : Type 0} (ts us : Trees P) → flats (join ts us) ≡ flats ts ++ flats us
flats_join nil us = refl
flats_join (cons t ts) us = rw (flats_join ts us) (sym (append_assoc (flat t) (flats ts) (flats us)))

pub sizes_join : {P : Type 0} (ts us : Trees P) → sizes (join ts us) ≡ sizes ts + sizes us
sizes_join nil us = omega arith
sizes_join (cons t ts) us = omega (arith, sizes_join ts us)

-- ---- listing

-- a function lists xs from lo on
abbrev pub At : {X : Type 0} → (ℕ → X) → ℕ → List X → Type 0
At g lo [] = Unit {0}
At g lo (x ∷ xs) = (g lo ≡ x) × At g (suc lo) xs

pub at_split : {X : Type 0} (g : ℕ → X) (lo : ℕ) (xs ys : List X) → At g lo (xs ++ ys) → At g lo xs × At g (lo + length xs) ys
at_split g lo [] ys h = (tt, rw add-zero h)
at_split g lo (x ∷ xs) ys (q, h) = let (a, b) = at_split g (suc lo) xs ys h in ((q, a), rw (add-suc, ← suc-add) b)

pub at_join : {X : Type 0} (g : ℕ → X) (lo : ℕ) (xs ys : List X) → At g lo xs → At g (lo + length xs) ys → At g lo (xs ++ ys)
at_join g lo [] ys h k = rw add-zero at k
at_join g lo (x ∷ xs) ys (q, h) k = (q, at_join g (suc lo) xs ys h (rw (suc-add, ← add-suc) k))

at_up : {X : Type 0} (g : ℕ → X) (lo : ℕ) (xs : List X) → At (λ i. g (suc i)) lo xs → At g (suc lo) xs
at_up g lo [] h = tt
at_up g lo (x ∷ xs) (q, h) = (q, at_up g (suc lo) xs h)

pub at_list : {X : Type 0} (d : X) (xs : List X) → At (λ i. get_or xs i d) 0 xs
at_list d [] = tt
at_list d (x ∷ xs) = (refl, at_up (λ i. get_or (x ∷ xs) i d) 0 xs (at_list d xs))

at_down : {X : Type 0} (g : ℕ → X) (lo : ℕ) (xs : List X) → At g (suc lo) xs → At (λ i. g (suc i)) lo xs
at_down g lo [] h = tt
at_down g lo (x ∷ xs) (q, h) = (q, at_down g (suc lo) xs h)

-- a list that is listed as another of its length is that other
pub at_eq : {X : Type 0} (d : X) (xs ys : List X) → length xs ≡ length ys → At (λ i. get_or xs i d) 0 ys → xs ≡ ys
at_eq d [] [] z h = refl
at_eq d [] (y ∷ ys) z h = absurd (omega arith)
at_eq d (x ∷ xs) [] z h = absurd (omega arith)
at_eq d (x ∷ xs) (y ∷ ys) z (q, h) = let w = at_eq d xs ys (omega arith) (at_down (λ i. get_or (x ∷ xs) i d) 0 ys h) in cc

module _ {P B : Type 0} (Local : B → Rec P → List (Rec P) → List B → Type 0) (f : ℕ → Row P) where
  kids_le : {lo hi : ℕ} {js : List ℕ} → Kids f lo hi js → lo ≤ hi
  kids_le knil = omega arith
  kids_le (kcons i q ks) = let h = kids_le ks in omega arith

  -- ---- index ⟹ tree

  module _ (att : ℕ → B) where
    record Built (i : ℕ) : Type 0 where
      tree : Tree P
      from : ℕ
      tiled : from + (f i).count ≡ suc i
      listed : At f from (flat tree)
      sized : size tree ≡ (f i).count
      rooted : rec_of tree ≡ (f i).rec
      ruled : Every Local (att i) tree

    kids_built : {lo hi : ℕ} {js : List ℕ} → Kids f lo hi js → ((j : ℕ) → j < hi → Built j)
        → (ts : Trees P) × At f lo (flats ts) × (lo + sizes ts ≡ hi) × Everys Local (map att js) (map (λ j. (f j).rec) js) ts
    kids_built knil g = (nil, tt, omega arith, enil)
    kids_built {lo} (kcons i q ks) g =
        let h = kids_le ks in
        let x = g i h in
        let (ts, pl, s, es) = kids_built ks g in
        let w : x.from ≡ lo = omega (arith, x.tiled) in
        let v : suc i ≡ lo + length (flat x.tree) = omega (arith, x.sized, length_flat x.tree) in (
          cons x.tree ts,
          at_join f lo (flat x.tree) (flats ts) (subst (λ (y : ℕ). At f y (flat x.tree)) w x.listed) (subst (λ (y : ℕ). At f y (flats ts)) v pl),
          omega (arith, x.sized),
          econs x.rooted x.ruled es,
        )

    node_built : (i : ℕ) → Node Local f att i → ((j : ℕ) → j < i → Built j) → Built i
    node_built i o g =
        let (ts, pl, s, es) = kids_built o.split g in
        let c : (f i).count ≡ suc (sizes ts) = omega (arith, o.tiles) in
        let w : i ≡ o.lo + length (flats ts) = omega (arith, length_flats ts) in
        let r = (f i).rec in
        record {
          tree = node r.kind r.flag r.start r.end ts;
          from = o.lo;
          tiled = o.tiles;
          listed = at_join f o.lo (flats ts) _ pl (subst (λ (y : ℕ). f y ≡ record { rec = r; count = suc (sizes ts) }) w (ap (λ (y : ℕ). record { rec = r; count = y }) c), tt);
          sized = sym c;
          rooted = refl;
          ruled = every o.local es;
        }

    build : (n : ℕ) → ((i : ℕ) → i < n → Node Local f att i) → (m i : ℕ) → i < m → i < n → Built i
    build n o zero i w h = absurd (omega arith)
    build n o (suc m) i w h = node_built i (o i h) (λ j v. build n o m j (omega arith) (omega arith))

  pub table_tree : (b : B) (n : ℕ) → Table Local f b n → (t : Tree P) × At f 0 (flat t) × (size t ≡ n) × Every Local b t
  table_tree b n x =
      let y = build x.att n x.nodes n x.last (omega (arith, x.size_is)) (omega (arith, x.size_is)) in
      let z : y.from ≡ 0 = omega (arith, y.tiled, x.size_is, x.root_count) in
      (y.tree, subst (λ (v : ℕ). At f v (flat y.tree)) z y.listed, y.sized ∙ x.root_count, subst (λ (b : B). Every Local b y.tree) x.root_att y.ruled)

  -- ---- tree ⟹ index

  -- the attributes in postorder
  abbrev mutual
    atts_of : {b : B} {t : Tree P} → Every Local b t → List B
    atts_of (every {b} x es) = atts_ofs es ++ b ∷ []

    atts_ofs : {bs : List B} {rs : List (Rec P)} {ts : Trees P} → Everys Local bs rs ts → List B
    atts_ofs enil = []
    atts_ofs (econs q e es) = atts_of e ++ atts_ofs es

  mutual
    length_atts : {b : B} {t : Tree P} (e : Every Local b t) → length (atts_of e) ≡ size t
    length_atts (every {b} x es) = simp length-append (omega (arith, length_attss es))

    length_attss : {bs : List B} {rs : List (Rec P)} {ts : Trees P} (es : Everys Local bs rs ts) → length (atts_ofs es) ≡ sizes ts
    length_attss enil = refl
    length_attss (econs q e es) = simp length-append (omega (arith, length_atts e, length_attss es))

  module _ (att : ℕ → B) where
    record Root (lo : ℕ) (b : B) (t : Tree P) : Type 0 where
      at : ℕ
      place : suc at ≡ lo + size t
      its_rec : (f at).rec ≡ rec_of t
      its_count : (f at).count ≡ size t
      its_att : att at ≡ b

    root : {b : B} {t : Tree P} (e : Every Local b t) (lo : ℕ) → At f lo (flat t) → At att lo (atts_of e) → Root lo b t
    root (every {b} {k} {φ} {s} {e} {ts = ts} x es) lo h g =
        let (h1, h2) = at_split f lo (flats ts) _ h in
        let (g1, g2) = at_split att lo (atts_ofs es) (b ∷ []) g in
        let w : lo + length (flats ts) ≡ lo + sizes ts = omega (arith, length_flats ts) in
        let v : lo + length (atts_ofs es) ≡ lo + sizes ts = omega (arith, length_attss es) in
        let q : f (lo + sizes ts) ≡ record { rec = record { kind = k; flag = φ; start = s; end = e }; count = suc (sizes ts) } = rw w at h2.0 in
        record {
          at = lo + sizes ts;
          place = omega arith;
          its_rec = ap (λ r. r.rec) q;
          its_count = ap (λ r. r.count) q;
          its_att = rw v at g2.0;
        }

    kids_of_lem : {bs : List B} {rs : List (Rec P)} {ts : Trees P} (es : Everys Local bs rs ts) (lo hi : ℕ) → lo + sizes ts ≡ hi → At f lo (flats ts) → At att lo (atts_ofs es)
        → (js : List ℕ) × Kids f lo hi js × (map (λ j. (f j).rec) js ≡ rs) × (map att js ≡ bs)
    kids_of_lem enil lo hi z h g = let q : lo ≡ hi = omega arith in ([], subst (λ (y : ℕ). Kids f lo y []) q knil, refl, refl)
    kids_of_lem (econs {t = t} {ts} q e es) lo hi z h g =
        let (h1, h2) = at_split f lo (flat t) (flats ts) h in
        let (g1, g2) = at_split att lo (atts_of e) (atts_ofs es) g in
        let r = root e lo h1 g1 in
        let w : lo + length (flat t) ≡ suc r.at = omega (arith, length_flat t, r.place) in
        let v : lo + length (atts_of e) ≡ suc r.at = omega (arith, length_atts e, r.place) in
        let (js, ks, x, y) = kids_of_lem es (suc r.at) hi (omega (arith, r.place)) (rw w at h2) (rw v at g2) in
        (r.at ∷ js, kcons {lo = lo} {js = js} r.at (omega (arith, r.place, r.its_count)) ks, cc r.its_rec, cc r.its_att)

    root_node : {b : B} {t : Tree P} (e : Every Local b t) (lo i : ℕ) → suc i ≡ lo + size t → At f lo (flat t) → At att lo (atts_of e) → Node Local f att i
    root_node (every {b} {ts = ts} x es) lo i w h g =
        let r = root (every x es) lo h g in
        let q : r.at ≡ i = omega (arith, r.place) in
        let (js, ks, y, z) = kids_of_lem es lo r.at (omega (arith, r.place)) (at_split f lo (flats ts) _ h).0 (at_split att lo (atts_ofs es) (b ∷ []) g).0 in
        subst (λ (i : ℕ). Node Local f att i) q (record {
          lo = lo;
          kids = js;
          tiles = omega (arith, r.place, r.its_count);
          split = ks;
          local = rw (r.its_att, r.its_rec, y, z) x;
        })

    mutual
      node_ok : {b : B} {t : Tree P} (e : Every Local b t) (lo : ℕ) → At f lo (flat t) → At att lo (atts_of e) → (i : ℕ) → lo ≤ i → i < lo + size t → Node Local f att i
      node_ok (every {b} {ts = ts} x es) lo h g i u v =
          go (lt_or i (lo + sizes ts)) (λ w. nodes_ok es lo (at_split f lo (flats ts) _ h).0 (at_split att lo (atts_ofs es) (b ∷ []) g).0 i u w)
        where
          go : (i < lo + sizes ts) ⊎ (lo + sizes ts ≤ i) → (i < lo + sizes ts → Node Local f att i) → Node Local f att i
          go (inl w) ih = ih w
          go (inr w) ih = root_node (every x es) lo i (omega arith) h g

      nodes_ok : {bs : List B} {rs : List (Rec P)} {ts : Trees P} (es : Everys Local bs rs ts) (lo : ℕ) → At f lo (flats ts) → At att lo (atts_ofs es)
          → (i : ℕ) → lo ≤ i → i < lo + sizes ts → Node Local f att i
      nodes_ok enil lo h g i u v = absurd (omega arith)
      nodes_ok (econs {t = t} {ts} q e es) lo h g i u v =
          go (lt_or i (lo + size t)) (λ w. node_ok e lo (at_split f lo (flat t) (flats ts) h).0 (at_split att lo (atts_of e) (atts_ofs es) g).0 i u w)
          (λ w. nodes_ok es (lo + size t) (subst (λ (y : ℕ). At f (lo + y) (flats ts)) (length_flat t) (at_split f lo (flat t) (flats ts) h).1)
          (subst (λ (y : ℕ). At att (lo + y) (atts_ofs es)) (length_atts e) (at_split att lo (atts_of e) (atts_ofs es) g).1) i w (omega arith))
        where
          go : (i < lo + size t) ⊎ (lo + size t ≤ i) → (i < lo + size t → Node Local f att i) → (lo + size t ≤ i → Node Local f att i) → Node Local f att i
          go (inl w) a b = a w
          go (inr w) a b = b w

  pub tree_table : (b : B) (n : ℕ) (t : Tree P) → At f 0 (flat t) → size t ≡ n → Every Local b t → Table Local f b n
  tree_table b n t h z e =
      let att : ℕ → B = λ i. get_or (atts_of e) i b in
      let g : At att 0 (atts_of e) = at_list b (atts_of e) in
      let r = root att e 0 h g in
      record {
        att = att;
        last = r.at;
        size_is = omega (arith, r.place);
        root_att = r.its_att;
        root_count = r.its_count ∙ z;
        nodes = λ i w. node_ok att e 0 h g i (omega arith) (omega arith);
      }

-- the last row is the root's
pub last_rec : {P : Type 0} (f : ℕ → Row P) (t : Tree P) (i : ℕ) → At f 0 (flat t) → suc i ≡ size t → (f i).rec ≡ rec_of t
last_rec f (node k φ s e ts) i h z =
    let w : 0 + length (flats ts) ≡ i = omega (arith, length_flats ts) in
    let q : f i ≡ record { rec = record { kind = k; flag = φ; start = s; end = e }; count = suc (sizes ts) } = rw w at (at_split f 0 (flats ts) _ h).1.0 in
    ap (λ r. r.rec) q

module _ {P B : Type 0} (Local : B → Rec P → List (Rec P) → List B → Type 0) (d : Row P) where
  pub list_tree : (b : B) (xs : List (Row P)) (x : Table Local (row_in d xs) b (length xs))
      → (t : Tree P) × (xs ≡ flat t) × Every Local b t × ((row_in d xs x.last).rec ≡ rec_of t)
  list_tree b xs x =
      let (t, h, z, e) = table_tree Local (row_in d xs) b (length xs) x in
      (t, at_eq d xs (flat t) (sym z ∙ sym (length_flat t)) h, e, last_rec (row_in d xs) t x.last h (omega (arith, x.size_is)))

  pub tree_list : (b : B) (t : Tree P) → Every Local b t → (x : Table Local (row_in d (flat t)) b (length (flat t))) × ((row_in d (flat t) x.last).rec ≡ rec_of t)
  tree_list b t e =
      let x = tree_table Local (row_in d (flat t)) b (length (flat t)) t (at_list d (flat t)) (sym (length_flat t)) e in
      (x, last_rec (row_in d (flat t)) t x.last (at_list d (flat t)) (omega (arith, x.size_is, length_flat t)))

-- the rule at an index looks at no later row: a loop that appends rows keeps it for those that stand
module _ {P B : Type 0} (Local : B → Rec P → List (Rec P) → List B → Type 0) (f g : ℕ → Row P) (att att' : ℕ → B) where
  kids_ext : {lo hi : ℕ} {js : List ℕ} → Kids f lo hi js → ((j : ℕ) → j < hi → (f j ≡ g j) × (att j ≡ att' j))
      → Kids g lo hi js × (map (λ j. (f j).rec) js ≡ map (λ j. (g j).rec) js) × (map att js ≡ map att' js)
  kids_ext knil h = (knil, refl, refl)
  kids_ext {lo} (kcons i q ks) h =
      let (e, a) = h i (kids_le Local f ks) in
      let (ks', x, y) = kids_ext ks h in
      let w : (f i).rec ≡ (g i).rec = ap (λ r. r.rec) e in
      (kcons {lo = lo} i (omega (arith, ap (λ r. r.count) e)) ks', cc, cc)

  pub node_ext : (i : ℕ) → Node Local f att i → ((j : ℕ) → j ≤ i → (f j ≡ g j) × (att j ≡ att' j)) → Node Local g att' i
  node_ext i x h =
      let (e, a) = h i (omega arith) in
      let (ks, u, v) = kids_ext x.split (λ j w. h j (omega arith)) in
      let w : (f i).rec ≡ (g i).rec = ap (λ r. r.rec) e in
      record {
        lo = x.lo;
        kids = x.kids;
        tiles = omega (arith, x.tiles, ap (λ r. r.count) e);
        split = ks;
        local = rw (← a, ← w, ← u, ← v) x.local;
      }
