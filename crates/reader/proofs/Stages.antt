-- A production under way: how far the engine's way got, and what is laid in the buffers. One rule for each constructor of a layout.
use Prim.Native.Nat.{ℕ, ◌+◌, ◌≤◌}
use mathlib.Core.Path.{◌≡◌, refl, ap, subst, ◌∙◌}
use mathlib.Core.Bool.{false}
use mathlib.Core.Option.{some}
use mathlib.Core.List.{List, ◌∷◌, ◌++◌, append-nil}
use native.Mathlib.Omega.{arith}
use lib.ListN.{length}
use lib.Dec.{eqb}
use Rattle.engine.specs.Base.{Outcome, Rec, Tree, Trees, nil, rec_of, size, sizes, join, one, rename, renamed}
use Rattle.engine.specs.BaseLaws.{rename_id}
use Rattle.engine.specs.FlatLaws.{sizes_join}
use Rattle.engine.specs.Engine.{Whole, FailIn, FailAt}
use Rattle.engine.specs.Layout.{move, kid, fork, rep, State, grammar, alias, named}
use Rattle.engine.specs.Way.{mid, Way, way_start, way_move, way_stop, way_kid, way_kid_no, way_yes, way_no, way_rep, way_rep_no, way_end, way_join}
use Rattle.grammar.specs.Moves.{Under, to, no, walk, place, Move}
use Rattle.grammar.specs.Layouts.{Class, Layout}
use Rattle.grammar.specs.Hcl.{hcl, bounds, styles}
use Rattle.grammar.specs.Table.{records_of, records_ofs, texts_of, texts_ofs, total}
use Rattle.reader.specs.Buffer.{lay, write}
use Rattle.reader.specs.Said.{Climbs, Good}
use Rattle.reader.proofs.Lays.{lay_none, lay_join, write_none, write_join, total_append, texts_join, records_join, lengths_records, texts_same, records_same}

-- a tree stands in the buffers from the i-th record and the u-th text byte on: it ends at e, has n records and m text bytes
pub record Put (s : List ℕ) (i u p : ℕ) (b b' x x' : List ℕ) (t : Tree ℕ) (e n m : ℕ) : Type 0 where
  pub end : (rec_of t).end ≡ e
  pub count : size t ≡ n
  pub text : total (texts_of s 0 t) ≡ m
  pub laid : b' ≡ lay b i (records_of s 0 u t)
  pub written : x' ≡ write x u (texts_of s 0 t)
  pub whole : eqb (rec_of t).kind 9 ≡ false
  pub room : p + n ≤ e
  pub spent : p + m ≤ e
  pub high : e ≤ length s

pub put_of : {Z : Outcome ℕ (Tree ℕ) → Type 0} {s : List ℕ} {i u p : ℕ} {b b' x x' : List ℕ} {e n m : ℕ} (g : Good Z s i u p b b' x x' e n m) → Put s i u p b b' x x' g.tree e n m
put_of g = record { end = g.end; count = g.count; text = g.text; laid = g.laid; written = g.written; whole = g.whole; room = g.room; spent = g.spent; high = g.high }

-- X is what the production may be under without a difference: it goes the same way for each. w bytes are the node's own, at least
pub record Stage (X : Type 0) (s : List ℕ) (st : X → State ℕ Under Move Class) (a : X → Under) (σ k p₀ i u : ℕ) (b b' x x' : List ℕ) (l : Layout) (p n t w : ℕ) : Type 0 where
  pub kids : Trees ℕ
  pub recs : X → List (Rec ℕ)
  pub way : (ξ : X) → Way (hcl s) (st ξ) kids (a ξ) σ (recs ξ) k l p
  pub count : sizes kids ≡ n
  pub text : total (texts_ofs s σ kids) ≡ t
  pub laid : b' ≡ lay b i (records_ofs s σ u kids)
  pub written : x' ≡ write x u (texts_ofs s σ kids)
  pub room : p₀ + n + w ≤ p
  pub spent : p₀ + t ≤ p
  pub high : p ≤ length s

pub stage_start : {X : Type 0} {s : List ℕ} {a : X → Under} {σ k p₀ i u : ℕ} {b x : List ℕ} {l : Layout} {p : ℕ} (ks : X → List (Rec ℕ)) → p₀ ≤ p → p ≤ length s
    → Stage X s (λ ξ. mid (hcl s) (a ξ) σ (ks ξ) k l p) a σ k p₀ i u b b x x l p 0 0 0
stage_start {X} {s} {a} {σ} {k} {p₀} {i} {u} {b} {x} {l} {p} ks low h = record {
  kids = nil;
  recs = ks;
  way = λ ξ. way_start (hcl s) (a ξ) σ (ks ξ) k l p;
  count = refl;
  text = refl;
  laid = lay_none b i;
  written = write_none x u;
  room = omega arith;
  spent = omega arith;
  high = h;
}

-- the same layout by another name
pub stage_lay : {X : Type 0} {s : List ℕ} {st : X → State ℕ Under Move Class} {a : X → Under} {σ k p₀ i u : ℕ} {b b' x x' : List ℕ} {l l' : Layout} {p n t w : ℕ} → l ≡ l'
    → Stage X s st a σ k p₀ i u b b' x x' l p n t w → Stage X s st a σ k p₀ i u b b' x x' l' p n t w
stage_lay {X} {s} {st} {a} {σ} {k} {p₀} {i} {u} {b} {b'} {x} {x'} {p = p} {n} {t} {w} e g = subst (λ (y : Layout). Stage X s st a σ k p₀ i u b b' x x' y p n t w) e g

module _ {X : Type 0} {s : List ℕ} {st : X → State ℕ Under Move Class} {a : X → Under} {σ k p₀ i u : ℕ} {b b' x x' : List ℕ} {p n t w : ℕ} where
  -- no child: any rule of the engine that goes from one place to another
  stage_step : {l l' : Layout} {q : ℕ} (v : ℕ) → Stage X s st a σ k p₀ i u b b' x x' l p n t w
      → ((ξ : X) (ts : Trees ℕ) (ks : List (Rec ℕ)) → Way (hcl s) (st ξ) ts (a ξ) σ ks k l p → Way (hcl s) (st ξ) ts (a ξ) σ ks k l' q) → p + v ≤ q → q ≤ length s
      → Stage X s st a σ k p₀ i u b b' x x' l' q n t (w + v)
  stage_step v g f low high = record {
    kids = g.kids;
    recs = g.recs;
    way = λ ξ. f ξ g.kids (g.recs ξ) (g.way ξ);
    count = g.count;
    text = g.text;
    laid = g.laid;
    written = g.written;
    room = omega (arith, g.room);
    spent = omega (arith, g.spent);
    high = high;
  }

  -- a child z, which was read from q on, and by its class is named r
  pub stage_take : {l l' : Layout} {q i' u' n' t' e m y : ℕ} {b'' x'' : List ℕ} (v : ℕ) (c : Class) (z r : Tree ℕ) → rename (alias (hcl s) c) z ≡ r → (g : Stage X s st a σ k p₀ i u b b' x x' l p n t w)
      → ((ξ : X) (ts : Trees ℕ) → Way (hcl s) (st ξ) ts (a ξ) σ (g.recs ξ) k l p
      → Way (hcl s) (st ξ) (join ts (one (rename (alias (hcl s) c) z))) (a ξ) σ (renamed (alias (hcl s) c) (rec_of z) ∷ g.recs ξ) k l' (rec_of z).end)
      → Put s i' u' q b' b'' x' x'' r e m y → (rec_of z).end ≡ e → p ≤ q → q + m + v ≤ e → i + n ≡ i' → u + t ≡ u' → n + m ≡ n' → t + y ≡ t'
      → Stage X s st a σ k p₀ i u b b'' x x'' l' e n' t' (w + v)
  stage_take {l' = l'} {i' = i'} {u'} {e = e} {m} {y} {b'' = b''} {x''} v c z r named-r g f h end low more at used sum texts =
      let ks = g.kids in
      let tx : texts_ofs s σ (join ks (one r)) ≡ texts_ofs s σ ks ++ texts_of s 0 r = texts_join s σ ks (one r) ∙ rw (append-nil, texts_same s σ 0 r h.whole) in
      let rx : records_ofs s σ u (join ks (one r)) ≡ records_ofs s σ u ks ++ records_of s 0 (u + total (texts_ofs s σ ks)) r =
      records_join s σ u ks (one r) ∙ rw (append-nil, records_same s σ 0 (u + total (texts_ofs s σ ks)) r h.whole) in
      let uu : u + total (texts_ofs s σ ks) ≡ u' = omega (arith, g.text) in
      let wr : (ξ : X) → Way (hcl s) (st ξ) (join ks (one r)) (a ξ) σ (renamed (alias (hcl s) c) (rec_of z) ∷ g.recs ξ) k l' (rec_of z).end =
      λ ξ. subst (λ (o : Tree ℕ). Way (hcl s) (st ξ) (join ks (one o)) (a ξ) σ (renamed (alias (hcl s) c) (rec_of z) ∷ g.recs ξ) k l' (rec_of z).end) named-r (f ξ ks (g.way ξ)) in
      record {
        kids = join ks (one r);
        recs = λ ξ. renamed (alias (hcl s) c) (rec_of z) ∷ g.recs ξ;
        way = λ ξ. subst (λ (o : ℕ). Way (hcl s) (st ξ) (join ks (one r)) (a ξ) σ (renamed (alias (hcl s) c) (rec_of z) ∷ g.recs ξ) k l' o) end (wr ξ);
        count = sizes_join ks (one r) ∙ omega (arith, g.count, h.count);
        text = ap total tx ∙ total_append (texts_ofs s σ ks) (texts_of s 0 r) ∙ omega (arith, g.text, h.text);
        laid = rw (rx, uu) (lay_join b i (records_ofs s σ u ks) (records_of s 0 u' r) g.laid (omega (arith, lengths_records s σ u ks, g.count)) h.laid);
        written = rw tx (write_join x u (texts_ofs s σ ks) (texts_of s 0 r) g.written uu h.written);
        room = omega (arith, g.room, h.room);
        spent = omega (arith, g.spent, h.spent);
        high = h.high;
      }

  -- ---- bytes

  pub stage_move : {m : Move} {l : Layout} {q : ℕ} (v : ℕ) → Stage X s st a σ k p₀ i u b b' x x' (move m l) p n t w → ((ξ : X) → walk s (a ξ) σ m p ≡ to q) → p + v ≤ q → q ≤ length s
      → Stage X s st a σ k p₀ i u b b' x x' l q n t (w + v)
  stage_move v g e low high = stage_step v g (λ ξ ts ks y. way_move (hcl s) y (ap place (e ξ))) low high

  pub stage_yes : {m : Move} {l l' : Layout} {q : ℕ} (v : ℕ) → Stage X s st a σ k p₀ i u b b' x x' (fork m l l') p n t w → ((ξ : X) → walk s (a ξ) σ m p ≡ to q) → p + v ≤ q → q ≤ length s
      → Stage X s st a σ k p₀ i u b b' x x' l q n t (w + v)
  stage_yes v g e low high = stage_step v g (λ ξ ts ks y. way_yes (hcl s) y (ap place (e ξ))) low high

  -- the rest from where it stands
  stage_stay : {l l' : Layout} → Stage X s st a σ k p₀ i u b b' x x' l p n t w → ((ξ : X) (ts : Trees ℕ) (ks : List (Rec ℕ)) → Way (hcl s) (st ξ) ts (a ξ) σ ks k l p → Way (hcl s) (st ξ) ts (a ξ) σ ks k l' p)
      → Stage X s st a σ k p₀ i u b b' x x' l' p n t w
  stage_stay {l' = l'} g f = subst (λ (o : ℕ). Stage X s st a σ k p₀ i u b b' x x' l' p n t o) (omega arith) (stage_step 0 g f (omega arith) g.high)

  pub stage_no : {m : Move} {l l' : Layout} {y z : ℕ} → Stage X s st a σ k p₀ i u b b' x x' (fork m l l') p n t w → ((ξ : X) → walk s (a ξ) σ m p ≡ no y z) → Stage X s st a σ k p₀ i u b b' x x' l' p n t w
  stage_no g e = stage_stay g (λ ξ ts ks y. way_no (hcl s) y (ap place (e ξ)))

  pub stage_end : {m : Move} {c : Class} {l : Layout} {y z : ℕ} → Stage X s st a σ k p₀ i u b b' x x' (rep m c l) p n t w → ((ξ : X) → walk s (a ξ) σ m p ≡ no y z) → Stage X s st a σ k p₀ i u b b' x x' l p n t w
  stage_end g e = stage_stay g (λ ξ ts ks y. way_end (hcl s) y (ap place (e ξ)))

  -- a move that cannot be made is refused
  pub stage_stop : {m : Move} {l : Layout} {y z : ℕ} → Stage X s st a σ k p₀ i u b b' x x' (move m l) p n t w → ((ξ : X) → walk s (a ξ) σ m p ≡ no y z) → (ξ : X) → FailIn (grammar (hcl s)) (st ξ) y z
  stage_stop {y = y} {z} g e ξ = rw (e ξ) at (way_stop (hcl s) (g.way ξ) (ap place (e ξ)))

-- ---- a child that keeps its kind

plain : (s : List ℕ) (c : Class) (z : Tree ℕ) → styles c ≡ 0 → rename (alias (hcl s) c) z ≡ z
plain s c z e = ap (λ (o : ℕ). rename (named (hcl s) o) z) e ∙ rename_id z

module _ {X : Type 0} {s : List ℕ} {st : X → State ℕ Under Move Class} {a : X → Under} {σ k p₀ i u : ℕ} {b b' x x' : List ℕ} {p n t w : ℕ} where
  pub stage_kid : {c : Class} {l : Layout} {i' u' n' t' e m y : ℕ} {b'' x'' : List ℕ} {d : Under} {j : ℕ} (v : ℕ) (g : Stage X s st a σ k p₀ i u b b' x x' (kid c l) p n t w) → styles c ≡ 0
      → ((ξ : X) → (hcl s).down (a ξ) c σ (g.recs ξ) ≡ some d) → bounds c ≡ j → Good (Climbs s d j p) s i' u' p b' b'' x' x'' e m y → p + m + v ≤ e → i + n ≡ i' → u + t ≡ u' → n + m ≡ n' → t + y ≡ t'
      → Stage X s st a σ k p₀ i u b b'' x x'' l e n' t' (w + v)
  stage_kid {c} {l} {d = d} v g plainly down bound h more at used sum texts =
      let z = h.tree in
      let full : Whole (grammar (hcl s)) (d, bounds c) p z = rw bound h.gives in
      stage_take v c z z (plain s c z plainly) g (λ ξ ts y. way_kid (hcl s) y (down ξ) full) (put_of h) h.end (omega arith) more at used sum texts

  pub stage_rep : {c : Class} {l : Layout} {mv : Move} {q i' u' n' t' e m y : ℕ} {b'' x'' : List ℕ} {d : Under} {j : ℕ} (g : Stage X s st a σ k p₀ i u b b' x x' (rep mv c l) p n t w) → ((ξ : X) → walk s (a ξ) σ mv p ≡ to q) → styles c ≡ 0
      → ((ξ : X) → (hcl s).down (a ξ) c σ (g.recs ξ) ≡ some d) → bounds c ≡ j → Good (Climbs s d j q) s i' u' q b' b'' x' x'' e m y → p ≤ q → i + n ≡ i' → u + t ≡ u' → n + m ≡ n' → t + y ≡ t'
      → Stage X s st a σ k p₀ i u b b'' x x'' (rep mv c l) e n' t' w
  stage_rep {c} {l} {mv} {q} {n' = n'} {t'} {e = e} {b'' = b''} {x''} {d} g moved plainly down bound h low at used sum texts =
      let z = h.tree in
      let full : Whole (grammar (hcl s)) (d, bounds c) q z = rw bound h.gives in
      subst (λ (o : ℕ). Stage X s st a σ k p₀ i u b b'' x x'' (rep mv c l) e n' t' o) (omega arith)
      (stage_take 0 c z z (plain s c z plainly) g (λ ξ ts y. way_rep (hcl s) y (ap place (moved ξ)) (down ξ) full) (put_of h) h.end low (omega (arith, h.room)) at used sum texts)

  -- a child that is refused
  pub stage_kid_no : {c : Class} {l : Layout} {d : Under} {j y z : ℕ} (g : Stage X s st a σ k p₀ i u b b' x x' (kid c l) p n t w) → ((ξ : X) → (hcl s).down (a ξ) c σ (g.recs ξ) ≡ some d) → bounds c ≡ j
      → FailAt (grammar (hcl s)) (d, j) p y z → (ξ : X) → FailIn (grammar (hcl s)) (st ξ) y z
  stage_kid_no g down bound h ξ = way_kid_no (hcl s) (g.way ξ) (down ξ) (rw bound h)

  pub stage_rep_no : {c : Class} {l : Layout} {mv : Move} {q : ℕ} {d : Under} {j y z : ℕ} (g : Stage X s st a σ k p₀ i u b b' x x' (rep mv c l) p n t w) → ((ξ : X) → walk s (a ξ) σ mv p ≡ to q) → ((ξ : X) → (hcl s).down (a ξ) c σ (g.recs ξ) ≡ some d) → bounds c ≡ j
      → FailAt (grammar (hcl s)) (d, j) q y z → (ξ : X) → FailIn (grammar (hcl s)) (st ξ) y z
  stage_rep_no g moved down bound h ξ = way_rep_no (hcl s) (g.way ξ) (ap place (moved ξ)) (down ξ) (rw bound h)

  -- two stretches of one production
  pub stage_join : {l l' : Layout} {p₁ i' u' q m y n' t' v : ℕ} {b'' x'' : List ℕ} (g : Stage X s st a σ k p₀ i u b b' x x' l p n t w) → Stage X s (λ ξ. mid (hcl s) (a ξ) σ (g.recs ξ) k l p) a σ k p₁ i' u' b' b'' x' x'' l' q m y v
      → p ≡ p₁ → i + n ≡ i' → u + t ≡ u' → n + m ≡ n' → t + y ≡ t' → Stage X s st a σ k p₀ i u b b'' x x'' l' q n' t' (w + v)
  stage_join {i' = i'} {u'} {b'' = b''} {x''} g h same at used sum texts =
      let uu : u + total (texts_ofs s σ g.kids) ≡ u' = omega (arith, g.text) in
      record {
        kids = join g.kids h.kids;
        recs = h.recs;
        way = λ ξ. way_join (hcl s) (g.way ξ) (h.way ξ);
        count = sizes_join g.kids h.kids ∙ omega (arith, g.count, h.count);
        text = ap total (texts_join s σ g.kids h.kids) ∙ total_append (texts_ofs s σ g.kids) (texts_ofs s σ h.kids) ∙ omega (arith, g.text, h.text);
        laid = rw (records_join s σ u g.kids h.kids, uu)
            (lay_join b i (records_ofs s σ u g.kids) (records_ofs s σ u' h.kids) g.laid (omega (arith, lengths_records s σ u g.kids, g.count)) h.laid);
        written = rw (texts_join s σ g.kids h.kids) (write_join x u (texts_ofs s σ g.kids) (texts_ofs s σ h.kids) g.written uu h.written);
        room = omega (arith, g.room, h.room);
        spent = omega (arith, g.spent, h.spent);
        high = h.high;
      }
