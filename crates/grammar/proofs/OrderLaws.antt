-- No row of a table at which the rule holds is empty.
use Rattle.std.specs.Prelude.{ℕ, zero, suc, ◌+◌, ◌<◌, ◌≡◌, refl, List, [], ◌∷◌, ◌++◌, length}
use Rattle.std.proofs.Common.{sym, subst, arith}
use Rattle.engine.specs.Base.{Rec, Tree, Trees, rec_of}
use Rattle.engine.specs.ProgressLaws.{reads_ruled, reads_whole}
use Rattle.engine.specs.Rule.{Local, Every, every, Everys, enil, econs}
use Rattle.grammar.specs.Moves.{Want, an_expression, a_name, an_item, a_part, a_piece, a_condition, Under}
use Rattle.grammar.specs.Hcl.{hcl}
use Rattle.grammar.specs.Table.{Record, total, texts_of, records_of, records_ofs}
use Rattle.grammar.specs.Answer.{pace, root}
use Rattle.grammar.specs.Going.{going}
use Rattle.grammar.proofs.Sane.{sane}
use Rattle.grammar.specs.BoundLaws.{Of, every_bound}
use Rattle.grammar.specs.Published.{rows_in, Holds}
use Rattle.grammar.specs.Demands.{Derives}
use Rattle.grammar.proofs.DemandLaws.{holds_found}

-- ---- a fact of every record

abbrev pub Each : (Record → Type 0) → List Record → Type 0
Each P [] = Unit {0}
Each P (r ∷ rs) = P r × Each P rs

pub each_join : (P : Record → Type 0) (xs ys : List Record) → Each P xs → Each P ys → Each P (xs ++ ys)
each_join P [] ys h g = g
each_join P (x ∷ xs) ys (a, h) g = (a, each_join P xs ys h g)

pub each_split : (P : Record → Type 0) (xs ys : List Record) → Each P (xs ++ ys) → Each P xs × Each P ys
each_split P [] ys h = (tt, h)
each_split P (x ∷ xs) ys (a, h) = let (b, c) = each_split P xs ys h in ((a, b), c)

pub each_at : (P : Record → Type 0) (rows : List Record) → Each P rows → (i : ℕ) → i < length rows → P (rows_in rows i)
each_at P [] h i w = absurd (omega arith)
each_at P (r ∷ rows) (a, h) zero w = a
each_at P (r ∷ rows) (a, h) (suc i) w = each_at P rows h i (omega arith)

-- ---- no tree at which the rule holds is empty

-- whatever is wanted, it may be of a text that starts somewhere
of_some : (w : Want) → (x : ℕ) × Of w x
of_some an_expression = (0, tt)
of_some a_name = (0, tt)
of_some (an_item ks) = (0, tt)
of_some a_part = (0, tt)
of_some (a_piece t) = (t, refl)
of_some a_condition = (0, tt)

abbrev pub Ordered : Record → Type 0
Ordered r = r.start < r.end

module _ (s : List ℕ) where
  pub tree_ordered : {d : Under × ℕ} {t : Tree ℕ} → Every (Local (hcl s)) d t → (rec_of t).start < (rec_of t).end
  tree_ordered {d} (every v es) =
      let (x, o) = of_some d.0.want in
      omega (arith, (every_bound s (every v es) x o).nodes)

  mutual
    pub every_ordered : {d : Under × ℕ} {t : Tree ℕ} → Every (Local (hcl s)) d t → (x u : ℕ) → Each Ordered (records_of s x u t)
    every_ordered (every {s = b} {ts = ts} v es) x u = each_join Ordered (records_ofs s b u ts) _ (everys_ordered es b u) (tree_ordered (every v es), tt)

    everys_ordered : {ds : List (Under × ℕ)} {rs : List (Rec ℕ)} {ts : Trees ℕ} → Everys (Local (hcl s)) ds rs ts → (x u : ℕ) → Each Ordered (records_ofs s x u ts)
    everys_ordered enil x u = tt
    everys_ordered (econs {t = t} q e es) x u = each_join Ordered (records_of s x u t) _ (every_ordered e x u) (everys_ordered es x (u + total (texts_of s x t)))

  -- the rule holds at every node of a reading
  pub derived_every : (t : Tree ℕ) → Derives s t → Every (Local (hcl s)) (root, 0) t
  derived_every t d = (reads_ruled (hcl s) (pace s) (going s) (sane s) root 0 t ((reads_whole (hcl s) (pace s) (going s) root 0 t).1 d.derived)).1

  -- which starts with the source
  pub derived_start : (t : Tree ℕ) → Derives s t → (rec_of t).start ≡ 0
  derived_start t d = (reads_ruled (hcl s) (pace s) (going s) (sane s) root 0 t ((reads_whole (hcl s) (pace s) (going s) root 0 t).1 d.derived)).0

-- ---- no row is empty

pub holds_ordered : (s table text : List ℕ) → (h : Holds s table text) → (i : ℕ) → i < length h.rows → (rows_in h.rows i).start < (rows_in h.rows i).end
holds_ordered s table text h i w =
    let x = holds_found s table text h in
    let o = every_ordered s (derived_every s x.tree x.derives) 0 0 in
    each_at Ordered h.rows (subst (λ (rows : List Record). Each Ordered rows) (sym x.rows_are) o) i w
