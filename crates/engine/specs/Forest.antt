-- For code that checks a table from the right. A `Wood` is rows that are trees one after the other, at all nodes of which the rule holds, with
-- one attribute at the roots. A `Walk` finds a node's children by their counts, from right to left. `Fine` is the rule at an index, whose
-- children are found by a walk.
--
--     wood_flat      a node whose children have its own attribute joins the wood in which they stand
--     wood_open      a node whose children have another attribute, and so stand in a wood of their own
--     wood_mixed     a node whose children have various attributes: they stand in groves, joined from left to right (grove_join, grove_wood)
--     wood_last      back: the last tree of a wood is fine, and its children stand in a grove
--
-- So a checker's loop over the rows keeps: the wood from lo up to here stands exactly when the wood up to the end does.
use Rattle.std.specs.Prelude.{◌≡◌, refl, List, [], ◌∷◌, ◌++◌, map, ℕ, suc, ◌+◌, ◌≤◌, ◌<◌, length}
use Rattle.std.proofs.Common.{ap, sym, ◌∙◌, subst, append_assoc, append-nil, arith, length-append}
use Rattle.engine.specs.Base.{Rec, Tree, node, Trees, nil, cons, rec_of, size, sizes}
use Rattle.engine.specs.Flat.{Row, flat, flats}
use Rattle.engine.specs.Rule.{Every, every, Everys, enil, econs, Table}
use Rattle.engine.specs.BaseLaws.{size_pos}
use Rattle.engine.specs.FlatLaws.{length_flat, length_flats, At, at_split, at_join, table_tree, tree_table}

-- all elements are v
pub data Only {B : Type 0} (v : B) : List B → Type 0 where
  none_but : Only v []
  and_on : {b : B} {bs : List B} → b ≡ v → Only v bs → Only v (b ∷ bs)

module _ {P B : Type 0} (Local : B → Rec P → List (Rec P) → List B → Type 0) (f : ℕ → Row P) where
  abbrev pub recs : List ℕ → List (Rec P)
  recs js = map (λ j. (f j).rec) js

  -- the rows from lo up to an index are trees one after the other, with the rule at every node and the attribute b at each root
  pub data Wood (b : B) (lo : ℕ) : ℕ → Type 0 where
    bare : Wood b lo lo
    grown : {hi : ℕ} (mid : ℕ) (t : Tree P) → Wood b lo mid → At f mid (flat t) → mid + size t ≡ hi → Every Local b t → Wood b lo hi

  -- from the index hi down to lo by counts; acc are the indices so far, js all of them, from left to right
  pub data Walk (lo : ℕ) : ℕ → List ℕ → List ℕ → Type 0 where
    there : {js : List ℕ} → Walk lo lo js js
    over : {hi : ℕ} {acc js : List ℕ} (i mid : ℕ) → suc i ≡ hi → mid + (f i).count ≡ hi → mid ≤ i → Walk lo mid (i ∷ acc) js → Walk lo hi acc js

  -- the rule at k under b, whose children stand at kids and have the attributes atts; its subtree starts at `from`, not before lo
  pub record Fine (lo k : ℕ) (b : B) : Type 0 where
    pub from : ℕ
    pub kids : List ℕ
    pub atts : List B
    pub tiles : from + (f k).count ≡ suc k
    pub low : lo ≤ from
    pub walk : Walk from k [] kids
    pub local : Local b (f k).rec (recs kids) atts

  wood_le : {b : B} {lo hi : ℕ} → Wood b lo hi → lo ≤ hi
  wood_le bare = omega arith
  wood_le (grown mid t w h z e) = let v = wood_le w in omega arith

  pub walk_le : {lo hi : ℕ} {acc js : List ℕ} → Walk lo hi acc js → lo ≤ hi
  walk_le there = omega arith
  walk_le (over i mid z c l w) = let v = walk_le w in omega arith

  -- the root's row
  pub top_row : (mid k : ℕ) (t : Tree P) → At f mid (flat t) → mid + size t ≡ suc k → ((f k).rec ≡ rec_of t) × ((f k).count ≡ size t)
  top_row mid k (node x φ s e ts) h z =
      let w : mid + length (flats ts) ≡ k = omega (arith, length_flats ts) in
      let q : f k ≡ record { rec = record { kind = x; flag = φ; start = s; end = e }; count = suc (sizes ts) } = rw w at (at_split f mid (flats ts) _ h).1.0 in
      (ap (λ r. r.rec) q, ap (λ r. r.count) q)

  -- ---- groves: trees one after the other from the left, of the roots listed, each with its own attribute

  pub data Grove : ℕ → ℕ → List ℕ → List B → Type 0 where
    cleared : {k : ℕ} → Grove k k [] []
    planted : {lo hi i : ℕ} {c : B} {js : List ℕ} {bs : List B} (t : Tree P) → At f lo (flat t) → lo + size t ≡ suc i → Every Local c t → Grove (suc i) hi js bs → Grove lo hi (i ∷ js) (c ∷ bs)

  pub grove_join : {lo mid hi : ℕ} {js ks : List ℕ} {ds bs : List B} → Grove lo mid js ds → Grove mid hi ks bs → Grove lo hi (js ++ ks) (ds ++ bs)
  grove_join cleared y = y
  grove_join (planted t h z e x) y = planted t h z e (grove_join x y)

  -- its trees
  grove_trees : {lo hi : ℕ} {js : List ℕ} {bs : List B} → Grove lo hi js bs → (ts : Trees P) × At f lo (flats ts) × (lo + sizes ts ≡ hi) × Everys Local bs (recs js) ts
  grove_trees cleared = (nil, tt, omega arith, enil)
  grove_trees (planted {lo} {hi} {i} t h z e x) =
      let (ts, l, n, es) = grove_trees x in
      let up : suc i ≡ lo + length (flat t) = omega (arith, length_flat t) in
      (cons t ts, at_join f lo (flat t) (flats ts) h (subst (λ (y : ℕ). At f y (flats ts)) up l), omega arith, econs (sym (top_row lo i t h z).0) e es)

  -- a walk goes over them
  grove_walk : {lo hi : ℕ} {js : List ℕ} {bs : List B} → Grove lo hi js bs → (from : ℕ) (acc all : List ℕ) → Walk from lo (js ++ acc) all → Walk from hi acc all
  grove_walk cleared from acc all w = w
  grove_walk (planted {lo} {i = i} t h z e x) from acc all w = grove_walk x from acc all (over i lo refl (omega (arith, (top_row lo i t h z).1)) (omega (arith, size_pos t)) w)

  -- and it splits where a walk stands
  pub record Parts (lo mid hi : ℕ) (acc js : List ℕ) (bs : List B) : Type 0 where
    pub ids : List ℕ
    pub these : List B
    pub those : List B
    pub are : bs ≡ these ++ those
    pub long : length these + length acc ≡ length js
    pub left : Grove lo mid ids these
    pub right : Grove mid hi acc those

  one_more : {lo mid top i : ℕ} {acc js ids : List ℕ} {these those bs : List B} → bs ≡ these ++ those → length these + suc (length acc) ≡ length js → Grove lo mid ids these → Grove mid top (i ∷ acc) those → Parts lo (suc i) top acc js bs
  one_more {i = i} {ids = ids} {these} q n l (planted {c = c} {bs = bs} t h z e x) = record {
    ids = ids ++ (i ∷ []);
    these = these ++ (c ∷ []);
    those = bs;
    are = q ∙ sym (append_assoc these (c ∷ []) bs);
    long = omega (arith, length-append these (c ∷ []));
    left = grove_join l (planted t h z e cleared);
    right = x;
  }

  pub grove_split : {lo mid top : ℕ} {acc js : List ℕ} {bs : List B} → Walk lo mid acc js → Grove lo top js bs → Parts lo mid top acc js bs
  grove_split there g = record { ids = []; these = []; those = _; are = refl; long = omega arith; left = cleared; right = g }
  grove_split {lo} {top = top} {acc} {js} {bs} (over i mid z q m k) g =
      let x = grove_split k g in
      subst (λ (y : ℕ). Parts lo y top acc js bs) z (one_more x.are x.long x.left x.right)

  -- ---- upwards: from woods to a node

  only_same : {c : B} {bs bs' : List B} → Only c bs → Only c bs' → length bs ≡ length bs' → bs ≡ bs'
  only_same none_but none_but z = refl
  only_same none_but (and_on q x) z = absurd (omega arith)
  only_same (and_on q x) none_but z = absurd (omega arith)
  only_same (and_on q x) (and_on q' x') z = let w = only_same x x' (omega arith) in cc (q, q')

  only_join : {c : B} {bs bs' : List B} → Only c bs → Only c bs' → Only c (bs ++ bs')
  only_join none_but y = y
  only_join (and_on q x) y = and_on q (only_join x y)

  -- a run of trees of one attribute, as a walk finds them at the end of a wood, before a grove
  record Run (c : B) (lo from top : ℕ) (acc js : List ℕ) (bs : List B) : Type 0 where
    before : Wood c lo from
    these : List B
    only : Only c these
    long : length these + length acc ≡ length js
    grove : Grove from top js (these ++ bs)

  run_of : {c : B} {lo from hi top : ℕ} {acc js : List ℕ} {bs : List B} → lo ≤ from → Walk from hi acc js → Wood c lo hi → Grove hi top acc bs → Run c lo from top acc js bs
  run_of l there w g = record { before = w; these = []; only = none_but; long = omega arith; grove = g }
  run_of l (over i mid z q m k) bare g = absurd (let v = walk_le k in omega arith)
  run_of {c} {lo} {from} {hi} {top} {acc} {js} {bs} l (over i mid z q m k) (grown mid' t w h y e) g =
      let (r, n) = top_row mid' i t h (y ∙ sym z) in
      let same : mid' ≡ mid = omega arith in
      let g' : Grove (suc i) top acc bs = subst (λ (x : ℕ). Grove x top acc bs) (sym z) g in
      let x = run_of l k (subst (λ (x : ℕ). Wood c lo x) same w) (planted t (subst (λ (x : ℕ). At f x (flat t)) same h) (omega arith) e g') in
      record {
        before = x.before;
        these = x.these ++ (c ∷ []);
        only = only_join x.only (and_on refl none_but);
        long = omega (arith, length-append x.these (c ∷ []), x.long);
        grove = subst (λ (ds : List B). Grove from top js ds) (sym (append_assoc x.these (c ∷ []) bs)) x.grove;
      }

  -- a run in a wood of its own
  pub grove_run : {c : B} {lo hi top : ℕ} {acc js : List ℕ} {ds bs : List B} → Walk lo hi acc js → Only c ds → length ds + length acc ≡ length js → Wood c lo hi → Grove hi top acc bs → Grove lo top js (ds ++ bs)
  grove_run {lo = lo} {top = top} {js = js} {ds} {bs} k o n w g =
      let x = run_of (omega arith) k w g in
      subst (λ (es : List B). Grove lo top js (es ++ bs)) (only_same x.only o (omega (arith, x.long))) x.grove

  -- a node whose children stand in a grove, after a wood
  pub wood_mixed : {b : B} {lo k : ℕ} (x : Fine lo k b) → Grove x.from k x.kids x.atts → Wood b lo x.from → Wood b lo (suc k)
  wood_mixed {b} {lo} {k} x g w =
      let r = (f k).rec in
      let (ts, l, n, es) = grove_trees g in
      let cnt : (f k).count ≡ suc (sizes ts) = omega (arith, x.tiles) in
      let at : k ≡ x.from + length (flats ts) = omega (arith, length_flats ts) in
      grown {hi = suc k} x.from (node r.kind r.flag r.start r.end ts) w
      (at_join f x.from (flats ts) _ l (subst (λ (y : ℕ). f y ≡ record { rec = r; count = suc (sizes ts) }) at (ap (λ (y : ℕ). record { rec = r; count = y }) cnt), tt))
      (omega arith) (every x.local es)

  -- a node whose first children, up to the index mid, have its own attribute and stand in its wood, and the others in a grove
  pub wood_left : {b : B} {lo k mid : ℕ} {acc : List ℕ} {ds bs : List B} (x : Fine lo k b) → Walk x.from mid acc x.kids → x.atts ≡ ds ++ bs → Only b ds → length ds + length acc ≡ length x.kids
      → Grove mid k acc bs → Wood b lo mid → Wood b lo (suc k)
  wood_left {b} {lo} {k} {bs = bs} x v q o n g w =
      let y = run_of x.low v w g in
      wood_mixed x (subst (λ (es : List B). Grove x.from k x.kids es) (ap (λ (es : List B). es ++ bs) (only_same y.only o (omega (arith, y.long))) ∙ sym q) y.grove) y.before

  -- a node whose children have its own attribute
  pub wood_flat : {b : B} {lo k : ℕ} (x : Fine lo k b) → Only b x.atts → length x.atts ≡ length x.kids → Wood b lo k → Wood b lo (suc k)
  wood_flat {k = k} x o n w = wood_left x x.walk (sym (append-nil x.atts)) o (omega arith) cleared w

  -- a node whose children have another
  pub wood_open : {b c : B} {lo k : ℕ} (x : Fine lo k b) → Only c x.atts → length x.atts ≡ length x.kids → Wood c x.from k → Wood b lo x.from → Wood b lo (suc k)
  wood_open {k = k} x o n w v = wood_mixed x (subst (λ (ds : List B). Grove x.from k x.kids ds) (append-nil x.atts) (grove_run x.walk o (omega arith) w cleared)) v

  -- ---- downwards: from a wood to its last node

  pub grove_wood : {c : B} {low lo hi : ℕ} {js : List ℕ} {bs : List B} → Grove lo hi js bs → Only c bs → Wood c low lo → Wood c low hi
  grove_wood cleared o w = w
  grove_wood {c} (planted {lo} t h z e x) (and_on q o) w = grove_wood x o (grown lo t w h z (subst (λ (y : B). Every Local y t) q e))

  root_at : (lo : ℕ) (t : Tree P) → (i : ℕ) × (lo + size t ≡ suc i)
  root_at lo (node k φ b e ts) = (lo + sizes ts, omega arith)

  grove_of : {bs : List B} {rs : List (Rec P)} {ts : Trees P} → Everys Local bs rs ts → (lo hi : ℕ) → At f lo (flats ts) → lo + sizes ts ≡ hi → (js : List ℕ) × (recs js ≡ rs) × Grove lo hi js bs
  grove_of enil lo hi h z = let q : lo ≡ hi = omega arith in ([], refl, subst (λ (x : ℕ). Grove lo x [] []) q cleared)
  grove_of (econs {b = c} {bs} {r} {rs} {t} {ts} q e es) lo hi h z =
      let (h1, h2) = at_split f lo (flat t) (flats ts) h in
      let (i, w) = root_at lo t in
      let up : lo + length (flat t) ≡ suc i = omega (arith, length_flat t) in
      let (js, a, g) = grove_of es (suc i) hi (subst (λ (y : ℕ). At f y (flats ts)) up h2) (omega arith) in
      let v = (top_row lo i t h1 w).0 in
      (i ∷ js, cc (v, q, a), planted t h1 w e g)

  -- the last tree of a wood: the rule at its root, its children as a grove, or under one attribute as a wood, and the wood before it
  pub record Last (b : B) (lo k : ℕ) : Type 0 where
    pub fine : Fine lo k b
    pub before : Wood b lo fine.from
    pub grove : Grove fine.from k fine.kids fine.atts
    pub under : (c : B) (low : ℕ) → Only c fine.atts → Wood c low fine.from → Wood c low k

  pub wood_last : {b : B} {lo k : ℕ} → lo ≤ k → Wood b lo (suc k) → Last b lo k
  wood_last l bare = absurd (omega arith)
  wood_last {b} {lo} {k} l (grown mid t w h z e) = go t h z e
    where
      go : (t : Tree P) → At f mid (flat t) → mid + size t ≡ suc k → Every Local b t → Last b lo k
      go (node x φ s y ts) h z (every {bs = bs} {rs = rs} v es) =
          let (r, c) = top_row mid k (node x φ s y ts) h z in
          let (js, q, g) = grove_of es mid k (at_split f mid (flats ts) _ h).0 (omega arith) in
          record {
            fine = record {
              from = mid;
              kids = js;
              atts = bs;
              tiles = omega arith;
              low = wood_le w;
              walk = grove_walk g mid [] js (subst (λ (ids : List ℕ). Walk mid mid ids js) (sym (append-nil js)) there);
              local = rw (r, q) v;
            };
            before = w;
            grove = g;
            under = λ c low o u. grove_wood g o u;
          }

  -- ---- a walk of a known length

  pub walk_long : {lo hi : ℕ} {acc js : List ℕ} → Walk lo hi acc js → length acc ≤ length js
  walk_long there = omega arith
  walk_long (over i mid z c l w) = let v = walk_long w in omega arith

  pub walk_none : {lo hi : ℕ} {acc js : List ℕ} → Walk lo hi acc js → length js ≡ length acc → (lo ≡ hi) × (js ≡ acc)
  walk_none there e = (refl, refl)
  walk_none (over i mid z c l w) e = absurd (let v = walk_long w in omega arith)

  pub record Stride (lo hi : ℕ) (acc js : List ℕ) : Type 0 where
    pub at : ℕ
    pub mid : ℕ
    pub next : suc at ≡ hi
    pub count : mid + (f at).count ≡ hi
    pub less : mid ≤ at
    pub rest : Walk lo mid (at ∷ acc) js

  pub walk_some : {lo hi : ℕ} {acc js : List ℕ} → Walk lo hi acc js → length acc < length js → Stride lo hi acc js
  walk_some there e = absurd (omega arith)
  walk_some (over i mid z c l w) e = record { at = i; mid = mid; next = z; count = c; less = l; rest = w }

  pub recs_length : (js : List ℕ) → length (recs js) ≡ length js
  recs_length [] = refl
  recs_length (j ∷ js) = omega (arith, recs_length js)

  -- the same rule at a later start
  pub fine_from : {lo k : ℕ} {b : B} (low : ℕ) (x : Fine lo k b) → low ≤ x.from → Fine low k b
  fine_from low x h = record { from = x.from; kids = x.kids; atts = x.atts; tiles = x.tiles; low = h; walk = x.walk; local = x.local }

  -- ---- a whole table: one tree

  pub table_wood : (b : B) (n : ℕ) → Table Local f b n → Wood b 0 n
  table_wood b n x = let (t, h, z, e) = table_tree Local f b n x in grown {hi = n} 0 t bare h (omega arith) e

  pub wood_table : (b : B) (k : ℕ) → Wood b 0 (suc k) → (f k).count ≡ suc k → Table Local f b (suc k)
  wood_table b k (grown mid t w h z e) c =
      let q : mid ≡ 0 = omega (arith, (top_row mid k t h z).1) in
      tree_table Local f b (suc k) t (subst (λ (x : ℕ). At f x (flat t)) q h) (omega arith) e
