-- For code: the published rule as the engine's rule at every row of a table (Rule, Forest), and the text beside it. A node's children are found by
-- their counts from the right, in one way only.
use Rattle.std.specs.Prelude.{ℕ, suc, ◌+◌, ◌≤◌, ◌<◌, ◌≡◌, refl, List, [], ◌∷◌, ◌++◌, false, length, T}
use Rattle.std.proofs.Common.{sym, subst, append-nil, arith}
use Rattle.lexis.specs.Utf8.{Formed}
use Rattle.engine.specs.Base.{has}
use Rattle.engine.specs.Flat.{Row}
use Rattle.engine.specs.Rule.{Kids, knil, kcons, Table}
use Rattle.engine.specs.Forest.{Walk, there, over, walk_le}
use Rattle.grammar.specs.Kinds.{most, levels}
use Rattle.grammar.specs.Moves.{an_expression}
use Rattle.grammar.specs.Table.{Record, numbers}
use Rattle.grammar.specs.Published.{depth, kinds_of, Rule, used, Texted, row_of, rows_in, Holds}

-- ---- a node's children are found in one way

pub kids_le : {f : ℕ → Row ℕ} {lo hi : ℕ} {js : List ℕ} → Kids f lo hi js → lo ≤ hi
kids_le knil = omega arith
kids_le (kcons i q ks) = let h = kids_le ks in omega arith

module _ (s : List ℕ) (f : ℕ → Row ℕ) where
  -- from the right
  kids_on : {lo hi : ℕ} {js : List ℕ} → Kids f lo hi js → ((j : ℕ) → j < hi → 1 ≤ (f j).count) → (from : ℕ) (acc all : List ℕ) → Walk (Rule s) f from lo (js ++ acc) all → Walk (Rule s) f from hi acc all
  kids_on knil g from acc all w = w
  kids_on (kcons {lo} i q ks) g from acc all w =
      let h = kids_le ks in
      kids_on ks g from acc all (over i lo refl q (omega (arith, g i h)) w)

  pub kids_walk : {lo hi : ℕ} {js : List ℕ} → Kids f lo hi js → ((j : ℕ) → j < hi → 1 ≤ (f j).count) → Walk (Rule s) f lo hi [] js
  kids_walk {lo} {js = js} ks g = kids_on ks g lo [] js (subst (λ (l : List ℕ). Walk (Rule s) f lo lo l js) (sym (append-nil js)) there)

  walk_here : {lo hi : ℕ} {acc ks : List ℕ} → Walk (Rule s) f lo hi acc ks → hi ≤ lo → acc ≡ ks
  walk_here there h = refl
  walk_here (over i mid z c l w) h = absurd (let v = walk_le (Rule s) f w in omega arith)

  walk_same : {lo hi : ℕ} {acc js ks : List ℕ} → Walk (Rule s) f lo hi acc js → Walk (Rule s) f lo hi acc ks → js ≡ ks
  walk_same there w = walk_here w (omega arith)
  walk_same (over i mid z c l w) there = absurd (let v = walk_le (Rule s) f w in omega arith)
  walk_same {lo} {hi} {acc} {js} {ks} (over i mid z c l w) (over i' mid' z' c' l' w') =
      let e : i' ≡ i = omega arith in
      let c'' : mid' + (f i).count ≡ hi = subst (λ (x : ℕ). mid' + (f x).count ≡ hi) e c' in
      let d : mid' ≡ mid = omega arith in
      walk_same w (subst (λ (x : ℕ). Walk (Rule s) f lo x (i ∷ acc) ks) d (subst (λ (x : ℕ). Walk (Rule s) f lo mid' (x ∷ acc) ks) e w'))

  pub kids_same : {lo hi : ℕ} {js ks : List ℕ} → Kids f lo hi js → Kids f lo hi ks → ((j : ℕ) → j < hi → 1 ≤ (f j).count) → js ≡ ks
  kids_same x y g = walk_same (kids_walk x g) (kids_walk y g)

  -- where a node stands in every row no count is 0
  pub count_pos : {lo i : ℕ} {js : List ℕ} → lo + (f i).count ≡ suc i → Kids f lo i js → 1 ≤ (f i).count
  count_pos t x = let h = kids_le x in omega arith

-- ---- the rule in parts: what the engine's tables say, and the text of each row

pub record Parts (s table text : List ℕ) : Type 0 where
  pub short : length s ≤ most
  pub formed : Formed s
  pub rows : List Record
  pub seven : numbers rows ≡ table
  pub rule : Table (Rule s) (λ i. row_of (rows_in rows i)) (depth levels false) (length rows)
  pub kind : T (has (kinds_of an_expression 0) (rows_in rows rule.last).kind)
  pub start : (rows_in rows rule.last).start ≡ 0
  pub end : (rows_in rows rule.last).end ≡ length s
  pub words : (i : ℕ) → i < length rows → ¬ ((rows_in rows i).kind ≡ 9) → Texted s text 0 (used (rows_in rows) i) (rows_in rows i)
  pub pieces : (i lo : ℕ) (js : List ℕ) → i < length rows → lo + (rows_in rows i).count ≡ suc i → Kids (λ i. row_of (rows_in rows i)) lo i js
      → (j : ℕ) → T (has js j) → (rows_in rows j).kind ≡ 9 → Texted s text (rows_in rows i).start (used (rows_in rows) j) (rows_in rows j)
  pub all_used : used (rows_in rows) (length rows) ≡ length text

pub parts_holds : (s table text : List ℕ) → Parts s table text → Holds s table text
parts_holds s table text x =
    let f = rows_in x.rows in
    record {
      short = x.short;
      formed = x.formed;
      rows = x.rows;
      seven = x.seven;
      att = x.rule.att;
      nodes = λ i w.
          let o = x.rule.nodes i w in
          record { lo = o.lo; kids = o.kids; tiles = o.tiles; split = o.split; rule = o.local; words = x.words i w; pieces = x.pieces i o.lo o.kids w o.tiles o.split };
      root = x.rule.last;
      last = x.rule.size_is;
      all = x.rule.root_count;
      top = x.rule.root_att;
      kind = x.kind;
      start = x.start;
      end = x.end;
      all_used = x.all_used;
    }

pub holds_parts : (s table text : List ℕ) → Holds s table text → Parts s table text
holds_parts s table text h =
    let f = rows_in h.rows in
    let g : ℕ → Row ℕ = λ i. row_of (f i) in
    let pos : (j : ℕ) → j < length h.rows → 1 ≤ (g j).count = λ j w. let o = h.nodes j w in count_pos s g {lo = o.lo} o.tiles o.split in
    record {
      short = h.short;
      formed = h.formed;
      rows = h.rows;
      seven = h.seven;
      rule = record {
        att = h.att;
        last = h.root;
        size_is = h.last;
        root_att = h.top;
        root_count = h.all;
        nodes = λ i w. let o = h.nodes i w in record { lo = o.lo; kids = o.kids; tiles = o.tiles; split = o.split; local = o.rule };
      };
      kind = h.kind;
      start = h.start;
      end = h.end;
      words = λ i w. (h.nodes i w).words;
      pieces = λ i lo js w t x j m.
          let o = h.nodes i w in
          let e : o.lo ≡ lo = omega (arith, o.tiles) in
          let ks : Kids g lo i o.kids = subst (λ (y : ℕ). Kids g y i o.kids) e o.split in
          let q : js ≡ o.kids = kids_same s g x ks (λ k v. pos k (omega arith)) in
          o.pieces j (subst (λ (l : List ℕ). T (has l j)) q m);
      all_used = h.all_used;
    }
