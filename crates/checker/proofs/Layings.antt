-- The layouts of the kinds that are gone through with no program.
use Prim.Native.Nat.{ℕ, ◌/◌, ◌%◌}
use mathlib.Core.Path.{◌≡◌, sym, ap}
use mathlib.Core.Bool.{Bool}
use mathlib.Core.List.{List, [], ◌∷◌}
use lib.Dec.{eqb}
use Rattle.engine.specs.Layout.{move}
use Rattle.grammar.specs.Layouts.{layouts, layout_of, interpolation_lay, traversal_lay, conditional_lay, call_lay, list_for_lay, filters_lay, opening}
use Rattle.checker.specs.Rows.{row_at}
use Rattle.checker.specs.Lay.{LaidBy}
use Rattle.checker.specs.Rest.{RestBy, enclosed_lay}
use Rattle.checker.specs.Elements.{listed_lay}
use Rattle.checker.proofs.Rests.{rest_laid}

module _ {s t : List ℕ} {i v : ℕ} {m D D' : List ℕ} {j p : ℕ} {r : Bool} where
  pub interpolation_laid : (row_at t i).kind ≡ 10 → RestBy s t i v m D D' interpolation_lay j p r → LaidBy s t i m D D' j p (v / 2) (eqb (v % 2) 1) r
  unfolding layouts
  interpolation_laid is h = rest_laid s t i v m (ap layout_of (sym is)) h

  pub parentheses_laid : (row_at t i).kind ≡ 15 → RestBy s t i v m D D' (enclosed_lay 40 41) j p r → LaidBy s t i m D D' j p (v / 2) (eqb (v % 2) 1) r
  unfolding layouts
  parentheses_laid is h = rest_laid s t i v m (ap layout_of (sym is)) h

  pub index_laid : (row_at t i).kind ≡ 42 → RestBy s t i v m D D' (enclosed_lay 91 93) j p r → LaidBy s t i m D D' j p (v / 2) (eqb (v % 2) 1) r
  unfolding layouts
  index_laid is h = rest_laid s t i v m (ap layout_of (sym is)) h

  pub traversal_laid : (row_at t i).kind ≡ 37 → RestBy s t i v m D D' traversal_lay j p r → LaidBy s t i m D D' j p (v / 2) (eqb (v % 2) 1) r
  unfolding layouts
  traversal_laid is h = rest_laid s t i v m (ap layout_of (sym is)) h

  pub conditional_laid : (row_at t i).kind ≡ 21 → RestBy s t i v m D D' conditional_lay j p r → LaidBy s t i m D D' j p (v / 2) (eqb (v % 2) 1) r
  unfolding layouts
  conditional_laid is h = rest_laid s t i v m (ap layout_of (sym is)) h

  pub array_laid : (row_at t i).kind ≡ 11 → RestBy s t i v m D D' (move (opening (91 ∷ [])) (listed_lay 93)) j p r → LaidBy s t i m D D' j p (v / 2) (eqb (v % 2) 1) r
  unfolding layouts
  array_laid is h = rest_laid s t i v m (ap layout_of (sym is)) h

  pub call_laid : (row_at t i).kind ≡ 16 → RestBy s t i v m D D' call_lay j p r → LaidBy s t i m D D' j p (v / 2) (eqb (v % 2) 1) r
  unfolding layouts
  call_laid is h = rest_laid s t i v m (ap layout_of (sym is)) h

  pub list_for_laid : (row_at t i).kind ≡ 18 → RestBy s t i v m D D' list_for_lay j p r → LaidBy s t i m D D' j p (v / 2) (eqb (v % 2) 1) r
  unfolding layouts
  list_for_laid is h = rest_laid s t i v m (ap layout_of (sym is)) h

  pub condition_laid : (row_at t i).kind ≡ 20 → RestBy s t i v m D D' filters_lay j p r → LaidBy s t i m D D' j p (v / 2) (eqb (v % 2) 1) r
  unfolding layouts
  condition_laid is h = rest_laid s t i v m (ap layout_of (sym is)) h
