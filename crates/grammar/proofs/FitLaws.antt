-- The text numbers of a reading's table fit: with flag 0 they name a part of the source, with flag 1 a part of the text.
use Rattle.std.specs.Prelude.{ℕ, suc, ◌+◌, ◌-◌, ◌≤◌, ◌<◌, ◌≡◌, not, ◌&&◌, ◌⊎◌, length, eqb, T}
use Rattle.std.proofs.Common.{sym, ap, ◌∙◌, inl, inr, arith}
use Rattle.std.proofs.Math.Path.{subst}
use mathlib.Core.List.{List, [], ◌∷◌}
use Rattle.engine.specs.Base.{Rec, Tree, Trees, sizes}
use Rattle.engine.specs.Layout.{named}
use Rattle.engine.specs.Rule.{Runs, rfin, rmove, ryes, rno, Firm, Local, first, later, Every, every, Everys, enil, econs}
use Rattle.grammar.specs.Moves.{Under, mark}
use Rattle.grammar.specs.Layouts.{layouts, layout_of, string_lay, piece_lay}
use Rattle.grammar.specs.Hcl.{hcl}
use Rattle.grammar.specs.Table.{Record, own, total, span, record_of, texts_of, texts_ofs, records_of, records_ofs, table_of, words_of}
use Rattle.grammar.specs.KindLaws.{follow_all}
use Rattle.grammar.specs.BoundLaws.{total_append, one_atom, quote_is, own_name}
use Rattle.grammar.proofs.Bounds.{flatten_long}
use Rattle.grammar.specs.KeyLaws.{key_is, string_end}
use Rattle.grammar.specs.NarrowLaws.{Narrows, rows_narrow}
use Rattle.grammar.specs.Published.{rows_in, Holds}
use Rattle.grammar.specs.Demands.{Derives}
use Rattle.grammar.proofs.DemandLaws.{small, holds_found}
use Rattle.grammar.proofs.OrderLaws.{Each, each_join, each_at, tree_ordered, derived_every, derived_start}

-- "Kinds 6 and 9 have text"
abbrev pub Worded : ℕ → Type 0
Worded k = (k ≡ 6) ⊎ (k ≡ 9)

-- a record of a source of m bytes, with n bytes of text
pub record Fits (m n : ℕ) (r : Record) : Type 0 where
  pub some : r.start < r.end
  pub end : r.end ≤ m
  -- a string has its two quotes
  pub string : r.kind ≡ 6 → r.start + 2 ≤ r.end
  pub flag : Worded r.kind → r.flag ≤ 1
  -- with flag 0 the text is the source itself, for 6 between the quotes
  pub quoted : r.kind ≡ 6 → r.flag ≡ 0 → (r.from ≡ r.start + 1) × (r.from + r.length + 1 ≡ r.end)
  pub piece : r.kind ≡ 9 → r.flag ≡ 0 → (r.from ≡ r.start) × (r.from + r.length ≡ r.end)
  -- with flag 1 it stands in the text
  pub words : Worded r.kind → r.flag ≡ 1 → r.from + r.length ≤ n

-- so with flag 0 the numbers name a part of the source
pub fits_source : {m n : ℕ} {r : Record} → Fits m n r → Worded r.kind → r.flag ≡ 0 → r.from + r.length ≤ m
fits_source f (inl e) z = omega (arith, (f.quoted e z).1, f.end)
fits_source f (inr e) z = omega (arith, (f.piece e z).1, f.end)

-- ---- what the rule at a node says of strings and pieces

record Lettered (r : Rec ℕ) : Type 0 where
  string : r.kind ≡ 6 → r.start + 2 ≤ r.end
  flag : Worded r.kind → r.flag ≤ 1

module _ (s : List ℕ) where
  string_low : {b : Under} {σ e φ : ℕ} {rs : List (Rec ℕ)} {bs : List (Under × ℕ)} → Runs (hcl s) (Firm (hcl s)) b σ [] string_lay σ e φ rs bs → φ ≤ 1
  string_low (rmove q g (ryes q' g' (rmove q'' g'' rfin))) = omega arith
  string_low (rmove q g (rno g' (rmove q' g'' (rmove q'' g''' rfin)))) = omega arith

  string_wide : {b : Under} {σ e φ : ℕ} {rs : List (Rec ℕ)} {bs : List (Under × ℕ)} → Runs (hcl s) (Firm (hcl s)) b σ [] string_lay σ e φ rs bs → σ + 2 ≤ e
  string_wide {b} {σ} (rmove q g r) =
      let (z, y) = quote_is s b σ σ q (one_atom s b σ (mark (34 ∷ []) []) σ q g) in
      omega (arith, string_end s b σ z (rmove q g r), key_is s b σ z)

  piece_low : {b : Under} {σ e φ : ℕ} {rs : List (Rec ℕ)} {bs : List (Under × ℕ)} → Runs (hcl s) (Firm (hcl s)) b σ [] piece_lay σ e φ rs bs → φ ≤ 1
  piece_low (ryes q g rfin) = omega arith
  piece_low (rno g (rmove q g' rfin)) = omega arith

  -- an operator is neither
  later_not : (n k j : ℕ) → named (hcl s) n k ≡ j → T (not (eqb k 6) && not (eqb k 9)) → ¬ (Worded j)
  later_not n k j i t (inl e) = subst (λ (y : ℕ). T (not (eqb y 6) && not (eqb y 9))) (own_name s n k 6 (λ u. omega arith) (i ∙ e)) t
  later_not n k j i t (inr e) = subst (λ (y : ℕ). T (not (eqb y 6) && not (eqb y 9))) (own_name s n k 9 (λ u. omega arith) (i ∙ e)) t

  local_lettered : {d : Under × ℕ} {r : Rec ℕ} {rs : List (Rec ℕ)} {bs : List (Under × ℕ)} → Local (hcl s) d r rs bs → Lettered r
  unfolding layouts
  local_lettered {r = r} {rs} {bs} (first {b = b} {n} k i q v) =
      record {
        string = λ e. string_wide (run_as 6 (own_name s n k 6 (λ u. omega arith) (i ∙ e)));
        flag = low;
      }
    where
      run_as : (j : ℕ) → k ≡ j → Runs (hcl s) (Firm (hcl s)) b r.start [] (layout_of j) r.start r.end r.flag rs bs
      run_as j z = subst (λ (y : ℕ). Runs (hcl s) (Firm (hcl s)) b r.start [] (layout_of y) r.start r.end r.flag rs bs) z v

      low : Worded r.kind → r.flag ≤ 1
      low (inl e) = string_low (run_as 6 (own_name s n k 6 (λ u. omega arith) (i ∙ e)))
      low (inr e) = piece_low (run_as 9 (own_name s n k 9 (λ u. omega arith) (i ∙ e)))
  local_lettered {r = r} (later {b = b} {n} {l = l} k i st q hd v) =
      let no = later_not n k r.kind i (follow_all (λ k. not (eqb k 6) && not (eqb k 9)) tt s b l.end k q).1 in
      record { string = λ e. absurd (no (inl e)); flag = λ w. absurd (no w) }

-- ---- the text numbers

span_string : (k φ b e u n : ℕ) → k ≡ 6 → φ ≡ 0 → span k φ b e u n ≡ (b + 1, e - b - 2)
span_string k φ b e u n i z = rw (i, z)

span_piece : (k φ b e u n : ℕ) → k ≡ 9 → φ ≡ 0 → span k φ b e u n ≡ (b, e - b)
span_piece k φ b e u n i z = rw (i, z)

span_words : (k φ b e u n : ℕ) → Worded k → φ ≡ 1 → span k φ b e u n ≡ (u, n)
span_words k φ b e u n (inl i) z = rw (i, z)
span_words k φ b e u n (inr i) z = rw (i, z)

module _ (m n : ℕ) where
  node_fits : (u c l : ℕ) (r : Rec ℕ) → Lettered r → r.start < r.end → u + l ≤ n → r.end ≤ m
      → Fits m n (record_of r.kind r.flag r.start r.end c (span r.kind r.flag r.start r.end u l))
  node_fits u c l r x o h g =
      let k = r.kind in
      let φ = r.flag in
      let b = r.start in
      let e = r.end in
      record {
        some = o;
        end = g;
        string = x.string;
        flag = x.flag;
        quoted = λ i z.
            let y = span_string k φ b e u l i z in
            let p = ap (λ (a : ℕ × ℕ). a.0) y in
            let q = ap (λ (a : ℕ × ℕ). a.1) y in
            let w = x.string i in
            (p, omega arith);
        piece = λ i z.
            let y = span_piece k φ b e u l i z in
            let p = ap (λ (a : ℕ × ℕ). a.0) y in
            let q = ap (λ (a : ℕ × ℕ). a.1) y in
            (p, omega arith);
        words = λ i z.
            let y = span_words k φ b e u l i z in
            let p = ap (λ (a : ℕ × ℕ). a.0) y in
            let q = ap (λ (a : ℕ × ℕ). a.1) y in
            omega arith;
      }

  -- of a record that ends within the source
  abbrev Ends : Record → Type 0
  Ends r = r.end ≤ m → Fits m n r

  ends_fit : (rows : List Record) → Narrows m rows → Each Ends rows → Each (Fits m n) rows
  ends_fit [] x y = tt
  ends_fit (r ∷ rows) (a, x) (f, y) = (f a.end, ends_fit rows x y)

  -- ---- a tree, whose text ends within n bytes

  module _ (s : List ℕ) where
    mutual
      every_ends : {d : Under × ℕ} {t : Tree ℕ} → Every (Local (hcl s)) d t → (x u : ℕ) → u + total (texts_of s x t) ≤ n → Each Ends (records_of s x u t)
      every_ends (every {k = k} {φ} {s = b} {e} {ts = ts} v es) x u h =
          let y = total_append (texts_ofs s b ts) (own s x k φ b) in
          let r : Rec ℕ = record { kind = k; flag = φ; start = b; end = e } in
          each_join Ends (records_ofs s b u ts) _ (everys_ends es b u (omega arith))
          (node_fits (u + total (texts_ofs s b ts)) (suc (sizes ts)) (total (own s x k φ b)) r (local_lettered s v) (tree_ordered s (every v es)) (omega arith), tt)

      everys_ends : {ds : List (Under × ℕ)} {rs : List (Rec ℕ)} {ts : Trees ℕ} → Everys (Local (hcl s)) ds rs ts → (x u : ℕ) → u + total (texts_ofs s x ts) ≤ n → Each Ends (records_ofs s x u ts)
      everys_ends enil x u h = tt
      everys_ends (econs {t = t} {ts} q e es) x u h =
          let y = total_append (texts_of s x t) (texts_ofs s x ts) in
          each_join Ends (records_of s x u t) _ (every_ends e x u (omega arith)) (everys_ends es x (u + total (texts_of s x t)) (omega arith))

-- ---- the table of a reading

pub reading_fits : (s : List ℕ) (t : Tree ℕ) → Derives s t → Each (Fits (length s) (length (words_of s t))) (table_of s t)
reading_fits s t d =
    let m = length s in
    let n = length (words_of s t) in
    let e = derived_every s t d in
    let l = flatten_long (texts_of s 0 t) in
    let z = derived_start s t d in
    let y = (small s t d).1 in
    ends_fit m n (table_of s t) (rows_narrow s e (omega arith) 0 0 tt (omega arith)) (every_ends m n s e 0 0 (omega arith))

-- and every table at which the rule holds
pub holds_fits : (s table text : List ℕ) (h : Holds s table text) (i : ℕ) → i < length h.rows → Fits (length s) (length text) (rows_in h.rows i)
holds_fits s table text h i w =
    let x = holds_found s table text h in
    let f = reading_fits s x.tree x.derives in
    let g : Each (Fits (length s) (length text)) h.rows
    = subst (λ (n : ℕ). Each (Fits (length s) n) h.rows) (ap length x.words_is) (subst (λ (rows : List Record). Each (Fits (length s) (length (words_of s x.tree))) rows) (sym x.rows_are) f) in
    each_at (Fits (length s) (length text)) h.rows g i w
