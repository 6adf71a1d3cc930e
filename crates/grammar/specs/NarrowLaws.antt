-- Every number of a table that is read is at most 65,535: kinds and flags are small, and places, counts and text numbers are no more than the source's
-- length.
use Prim.Native.Nat.{ℕ, zero, suc, ◌+◌, ◌≤◌}
use Rattle.std.specs.Prelude.{◌≡◌, List, [], ◌∷◌, ◌++◌, Bool, true, false, ◌&&◌, ◌||◌, length, get_or, eqb, leb, T}
use Rattle.std.proofs.Common.{ap, subst, inl, inr, arith, leb→le}
use Rattle.std.proofs.Math.Option.{some}
use Rattle.engine.specs.Base.{Rec, Tree, node, Trees, nil, cons, rec_of, sizes, all_of}
use Rattle.engine.specs.BaseLaws.{and_t}
use Rattle.engine.specs.Layout.{bad, fin, move, kid, fork, rep, named}
use Rattle.engine.specs.Tables.{Called}
use Rattle.engine.specs.Rule.{Runs, rfin, rmove, rkid, ryes, rno, rrep, rend, Firm, Local, first, later, Every, every, Everys, enil, econs}
use Rattle.grammar.specs.Moves.{Want, an_expression, a_name, an_item, a_part, a_piece, a_condition, Under, Move}
use Rattle.grammar.specs.Layouts.{Layout, layouts, layout_of}
use Rattle.grammar.specs.Hcl.{hcl}
use Rattle.grammar.specs.Table.{Record, own, total, span, span_as, record_of, texts_of, texts_ofs, records_of, records_ofs, numbers}
use Rattle.grammar.specs.Going.{place_to, down_is}
use Rattle.grammar.specs.KindLaws.{heads, followers, follow_all, called_all}
use Rattle.grammar.specs.MoveLaws.{walk_within}
use Rattle.grammar.specs.BoundLaws.{Of, of_down, of_grows, total_append, every_bound}

-- a record whose numbers are at most m, but for kind and flag
pub record Narrow (m : ℕ) (r : Record) : Type 0 where
  pub kind : r.kind ≤ 42
  pub flag : r.flag ≤ 3
  pub start : r.start ≤ m
  pub end : r.end ≤ m
  pub count : r.count ≤ m
  pub from : r.from ≤ m
  pub length : r.length ≤ m

abbrev pub Narrows : ℕ → List Record → Type 0
Narrows m [] = Unit {0}
Narrows m (r ∷ rs) = Narrow m r × Narrows m rs

narrows_join : (m : ℕ) (xs ys : List Record) → Narrows m xs → Narrows m ys → Narrows m (xs ++ ys)
narrows_join m [] ys h g = g
narrows_join m (x ∷ xs) ys (a, h) g = (a, narrows_join m xs ys h g)

-- text numbers
span_low : (m b e u n : ℕ) (x y z : Bool) → suc b ≤ e → e ≤ m → u + n ≤ m → ((span_as b e u n x y z).0 ≤ m) × ((span_as b e u n x y z).1 ≤ m)
span_low m b e u n true y z h g k = (omega arith, omega arith)
span_low m b e u n false true z h g k = (omega arith, omega arith)
span_low m b e u n false false true h g k = (omega arith, omega arith)
span_low m b e u n false false false h g k = (omega arith, omega arith)

-- ---- the flags of a layout, and the kinds that are called for

abbrev flagged : Layout → Bool
flagged bad = true
flagged (fin φ) = leb φ 3
flagged (move m l) = flagged l
flagged (kid c l) = flagged l
flagged (fork m l l') = flagged l && flagged l'
flagged (rep m c l) = flagged l

module _ (s : List ℕ) where
  abbrev small : ℕ → ℕ → Bool
  small n k = flagged (layout_of k) && leb (named (hcl s) n k) 42

  heads_small : (w : Want) (n : ℕ) → T (all_of (small n) (heads w))
  unfolding layouts
  heads_small an_expression zero = tt
  heads_small an_expression (suc n) = tt
  heads_small a_name zero = tt
  heads_small a_name (suc n) = tt
  heads_small (an_item ks) zero = tt
  heads_small (an_item ks) (suc n) = tt
  heads_small a_part zero = tt
  heads_small a_part (suc n) = tt
  heads_small (a_piece t) zero = tt
  heads_small (a_piece t) (suc n) = tt
  heads_small a_condition zero = tt
  heads_small a_condition (suc n) = tt

  followers_small : (n : ℕ) → T (all_of (small n) followers)
  unfolding layouts
  followers_small zero = tt
  followers_small (suc n) = tt

  called_small : (b : Under) (n k : ℕ) → Called (hcl s) b k → T (flagged (layout_of k)) × (named (hcl s) n k ≤ 42)
  called_small b n k x =
      let (t, u) = and_t (flagged (layout_of k)) (leb (named (hcl s) n k) 42) (called_all s (small n) b (heads_small b.want n) (λ t. followers_small n) k x) in
      (t, leb→le (named (hcl s) n k) 42 u)

  -- ---- a tree that starts within the source

  abbrev Rows : Want → Tree ℕ → Type 0
  Rows w t = (x u : ℕ) → Of w x → u + total (texts_of s x t) ≤ length s → Narrows (length s) (records_of s x u t)

  record Inside (w : Want) (t : Tree ℕ) : Type 0 where
    end : (rec_of t).end ≤ length s
    rows : Rows w t

  data Insides : List (Under × ℕ) → List (Rec ℕ) → Trees ℕ → Type 0 where
    inil : Insides [] [] nil
    icons : {d : Under × ℕ} {ds : List (Under × ℕ)} {r : Rec ℕ} {rs : List (Rec ℕ)} {t : Tree ℕ} {ts : Trees ℕ}
        → rec_of t ≡ r → ((rec_of t).start ≤ length s → Inside d.0.want t) → Insides ds rs ts → Insides (d ∷ ds) (r ∷ rs) (cons t ts)

  record Ran (σ e φ : ℕ) (ts : Trees ℕ) : Type 0 where
    end : e ≤ length s
    flag : φ ≤ 3
    rows : (u : ℕ) → u + total (texts_ofs s σ ts) ≤ length s → Narrows (length s) (records_ofs s σ u ts)

  with_kid : {σ e φ : ℕ} {t : Tree ℕ} {ts : Trees ℕ} (w : Want) → Of w σ → Inside w t → Ran σ e φ ts → Ran σ e φ (cons t ts)
  with_kid {σ} {t = t} {ts} w o x y = record {
    end = y.end;
    flag = y.flag;
    rows = λ u h.
        let n = total_append (texts_of s σ t) (texts_ofs s σ ts) in
        narrows_join (length s) (records_of s σ u t) (records_ofs s σ (u + total (texts_of s σ t)) ts) (x.rows σ u o (omega arith)) (y.rows (u + total (texts_of s σ t)) (omega arith));
  }

  went : (b : Under) (σ : ℕ) (m : Move) (p q : ℕ) → p ≤ length s → (hcl s).go b m σ p ≡ some q → q ≤ length s
  went b σ m p q h g = let w = walk_within s b σ m p q (place_to q g) in omega (arith, w.high)

  runs_inside : {b : Under} {σ : ℕ} {ks : List (Rec ℕ)} {l : Layout} {p e φ : ℕ} {rs : List (Rec ℕ)} {bs : List (Under × ℕ)} {ts : Trees ℕ} → Runs (hcl s) (Firm (hcl s)) b σ ks l p e φ rs bs → Insides bs rs ts → T (flagged l) → p ≤ length s → Ran σ e φ ts
  runs_inside (rfin {φ = φ}) inil t h = record { end = h; flag = leb→le φ 3 t; rows = λ u k. tt }
  runs_inside {b} {σ} (rmove {m = m} {p = p} q g r) x t h = runs_inside r x t (went b σ m p q h g)
  runs_inside {b} {σ} (rkid {c = c} {d = d} {ks = ks} a z f r) (icons {t = u} i v x) t h =
      let j = (down_is s b d c σ ks a).1 in
      let o : Of d.want σ = subst (λ (y : Under). Of y.want σ) j (of_down s b c σ ks) in
      let y = v (omega (arith, ap (λ r. r.start) i)) in
      with_kid d.want o y (runs_inside r x t (omega (arith, y.end, ap (λ r. r.end) i)))
  runs_inside {b} {σ} (ryes {m = m} {l} {l'} {p} q g r) x t h = runs_inside r x (and_t (flagged l) (flagged l') t).0 (went b σ m p q h g)
  runs_inside (rno {l = l} {l'} g r) x t h = runs_inside r x (and_t (flagged l) (flagged l') t).1 h
  runs_inside {b} {σ} (rrep {m = m} {c = c} {p = p} {d = d} {ks = ks} q g a z f r) (icons {t = u} i v x) t h =
      let j = (down_is s b d c σ ks a).1 in
      let o : Of d.want σ = subst (λ (y : Under). Of y.want σ) j (of_down s b c σ ks) in
      let w = went b σ m p q h g in
      let y = v (omega (arith, ap (λ r. r.start) i)) in
      with_kid d.want o y (runs_inside r x t (omega (arith, y.end, ap (λ r. r.end) i)))
  runs_inside (rend g r) x t h = runs_inside r x t h

  -- ---- at a node

  -- its own record, after its children's
  node_narrow : (x u n : ℕ) (r : Rec ℕ) (ts : Trees ℕ) → r.kind ≤ 42 → suc r.start ≤ r.end → r.end ≤ length s → n ≤ length s → u + total (texts_ofs s r.start ts) + total (own s x r.kind r.flag r.start) ≤ length s → r.flag ≤ 3
      → Narrow (length s) (record_of r.kind r.flag r.start r.end n (span r.kind r.flag r.start r.end (u + total (texts_ofs s r.start ts)) (total (own s x r.kind r.flag r.start))))
  node_narrow x u n r ts k a b c d f =
      let (g, h) = span_low (length s) r.start r.end (u + total (texts_ofs s r.start ts)) (total (own s x r.kind r.flag r.start))
      ((eqb r.kind 6 && eqb r.flag 1) || (eqb r.kind 9 && eqb r.flag 1)) (eqb r.kind 6) (eqb r.kind 9) a b d in
      record { kind = k; flag = f; start = omega arith; end = b; count = c; from = g; length = h }

  -- the rows of a node whose children's rows and whose numbers are known
  node_inside : {d : Under × ℕ} {r : Rec ℕ} {ts : Trees ℕ} → r.kind ≤ 42 → r.flag ≤ 3 → r.end ≤ length s → Every (Local (hcl s)) d (node r.kind r.flag r.start r.end ts)
      → ((u : ℕ) → u + total (texts_ofs s r.start ts) ≤ length s → Narrows (length s) (records_ofs s r.start u ts)) → Inside d.0.want (node r.kind r.flag r.start r.end ts)
  node_inside {d} {r} {ts} k f e ev g = record {
    end = e;
    rows = λ x u o h.
        let b = every_bound s ev x o in
        let n = total_append (texts_ofs s r.start ts) (own s x r.kind r.flag r.start) in
        narrows_join (length s) (records_ofs s r.start u ts) _ (g u (omega arith)) (node_narrow x u (suc (sizes ts)) r ts k (omega (arith, b.nodes)) e (omega (arith, b.nodes)) (omega arith) f, tt);
  }

  local_inside : {d : Under × ℕ} {r : Rec ℕ} {rs : List (Rec ℕ)} {bs : List (Under × ℕ)} {ts : Trees ℕ} → Local (hcl s) d r rs bs → Insides bs rs ts → Every (Local (hcl s)) d (node r.kind r.flag r.start r.end ts) → r.start ≤ length s
      → Inside d.0.want (node r.kind r.flag r.start r.end ts)
  local_inside {r = r} (first {b = b} {n} k i q v) x ev h =
      let (t, u) = called_small b n k (r.start, inl q) in
      let y = runs_inside v x t h in
      node_inside {r = r} (omega (arith, i)) y.flag y.end ev y.rows
  local_inside {r = r} (later {b = b} {n} {l = l} k i st q hd v) (icons {t = w} {ts} j f x) ev h =
      let (t, u) = called_small b n k (l.end, inr q) in
      let gr = (follow_all (λ k. true) tt s b l.end k q).0 in
      let z = f (omega (arith, ap (λ c. c.start) j)) in
      let y = with_kid b.want (of_grows b.want l.start gr) z (runs_inside v x t (omega (arith, z.end, ap (λ c. c.end) j))) in
      node_inside {r = r} (omega (arith, i)) y.flag y.end ev
      (subst (λ (c : ℕ). (u : ℕ) → u + total (texts_ofs s c (cons w ts)) ≤ length s → Narrows (length s) (records_ofs s c u (cons w ts))) st y.rows)

  mutual
    every_inside : {d : Under × ℕ} {t : Tree ℕ} → Every (Local (hcl s)) d t → (rec_of t).start ≤ length s → Inside d.0.want t
    every_inside (every {k = k} {φ} {s = b} {e} v es) h = local_inside {r = record { kind = k; flag = φ; start = b; end = e }} v (everys_inside es) (every v es) h

    everys_inside : {ds : List (Under × ℕ)} {rs : List (Rec ℕ)} {ts : Trees ℕ} → Everys (Local (hcl s)) ds rs ts → Insides ds rs ts
    everys_inside enil = inil
    everys_inside (econs q e es) = icons q (λ h. every_inside e h) (everys_inside es)

  -- the rows of a tree that starts within the source
  pub rows_narrow : {d : Under × ℕ} {t : Tree ℕ} → Every (Local (hcl s)) d t → (rec_of t).start ≤ length s → (x u : ℕ) → Of d.0.want x → u + total (texts_of s x t) ≤ length s → Narrows (length s) (records_of s x u t)
  rows_narrow e h x u o g = (every_inside e h).rows x u o g

-- ---- the numbers of narrow records

pub numbers_narrow : (m : ℕ) (rows : List Record) → 42 ≤ m → Narrows m rows → (i : ℕ) → get_or (numbers rows) i 0 ≤ m
numbers_narrow m [] k h i = omega arith
numbers_narrow m (r ∷ rows) k (a, h) zero = omega (arith, a.kind)
numbers_narrow m (r ∷ rows) k (a, h) (suc zero) = omega (arith, a.flag)
numbers_narrow m (r ∷ rows) k (a, h) (suc (suc zero)) = a.start
numbers_narrow m (r ∷ rows) k (a, h) (suc (suc (suc zero))) = a.end
numbers_narrow m (r ∷ rows) k (a, h) (suc (suc (suc (suc zero)))) = a.count
numbers_narrow m (r ∷ rows) k (a, h) (suc (suc (suc (suc (suc zero))))) = a.from
numbers_narrow m (r ∷ rows) k (a, h) (suc (suc (suc (suc (suc (suc zero)))))) = a.length
numbers_narrow m (r ∷ rows) k (a, h) (suc (suc (suc (suc (suc (suc (suc i))))))) = numbers_narrow m rows k h i

pub narrow_most : (m n : ℕ) (rows : List Record) → m ≤ n → Narrows m rows → Narrows n rows
narrow_most m n [] h x = tt
narrow_most m n (r ∷ rows) h (a, x) =
    (record { kind = a.kind; flag = a.flag; start = omega (arith, a.start); end = omega (arith, a.end); count = omega (arith, a.count); from = omega (arith, a.from); length = omega (arith, a.length) }, narrow_most m n rows h x)
