-- Strings, pieces and texts: the moves of their layouts by what the run of text at a place is, and a piece as a child.
use Prim.Native.Nat.{ℕ, ◌+◌, ◌≤◌}
use mathlib.Core.Path.{◌≡◌, refl, sym, ap, subst, ◌∙◌}
use mathlib.Core.Bool.{Bool, true, false, cond}
use mathlib.Core.Option.{Option, some}
use mathlib.Core.List.{List, [], ◌∷◌, ◌++◌, append-nil}
use native.Mathlib.Omega.{arith}
use lib.ListN.{length}
use Rattle.lexis.specs.declared.string.Run.{Run}
use Rattle.lexis.specs.String.{Mode, quoted, text_at, mode_of, laid, RunHere}
use Rattle.engine.specs.Base.{Tree, node, nil, rec_of, join, one}
use Rattle.engine.specs.FlatLaws.{sizes_join}
use Rattle.engine.specs.Engine.{Whole, Fits}
use Rattle.engine.specs.Layout.{rep, State, grammar, from}
use Rattle.engine.specs.LayoutLaws.{after_cap}
use Rattle.engine.specs.Way.{mid, way_start, way_fin, way_move, way_yes, way_no, way_rep, led, part_led, part_stop}
use Rattle.grammar.specs.Moves.{a_piece, Under, place, more, round, Move}
use Rattle.grammar.specs.Layouts.{Class, piecewise, Layout, layouts, piece_lay}
use Rattle.grammar.specs.Hcl.{hcl, under, pick_at}
use Rattle.grammar.proofs.Sane.{sane}
use Rattle.grammar.specs.Table.{record_of, span, own, records_of, records_ofs, texts_of, texts_ofs, total}
use Rattle.reader.specs.Buffer.{write}
use Rattle.reader.specs.Text.{flag_of, Pieced}
use Rattle.grammar.specs.UnitLaws.{run_escaped, run_length, run_end, run_some}
use Rattle.grammar.specs.TextLaws.{more_unit, piece_yes, piece_no, pick_piece}
use Rattle.reader.proofs.Lays.{lay_join, lay_one, write_join, total_append, texts_join, records_join, lengths_records}
use Rattle.reader.proofs.Stages.{Stage}
use Rattle.reader.proofs.Answers.{fits_all}

-- ---- a piece is read

module _ (s : List ℕ) (left : ℕ) (lines : Bool) (t p e : ℕ) (φ : Bool) where
  module _ (f : (text_at (round s t) s p).escaped ≡ φ) (g : p + (text_at (round s t) s p).width ≡ e) (n : ¬ (e ≡ p)) where
    fits_piece : Fits (grammar (hcl s)) (mid (hcl s) (under left lines (a_piece t)) p [] 9 piece_lay p) 9 (flag_of φ) e nil
    fits_piece = go φ f
      where
        go : (φ : Bool) → (text_at (round s t) s p).escaped ≡ φ → Fits (grammar (hcl s)) (mid (hcl s) (under left lines (a_piece t)) p [] 9 piece_lay p) 9 (flag_of φ) e nil
        go false f = way_fin (hcl s) (way_yes (hcl s) (way_start (hcl s) (under left lines (a_piece t)) p [] 9 piece_lay p) (ap place (piece_yes s left lines t p p false e f g n)))
        go true f =
            way_fin (hcl s) (way_move (hcl s) (way_no (hcl s) (way_start (hcl s) (under left lines (a_piece t)) p [] 9 piece_lay p) (ap place (piece_no s left lines t p p f))) (ap place (piece_yes s left lines t p p true e f g n)))

    pub piece_whole : pick_at s (under left lines (a_piece t)) p ≡ some 9 → Whole (grammar (hcl s)) (under left lines (a_piece t), 8) p (node 9 (flag_of φ) p e nil)
    unfolding layouts
    piece_whole q =
        let a = under left lines (a_piece t) in
        let h : Fits (grammar (hcl s)) (from (hcl s) (pick_at s a p) a p [] p) 9 (flag_of φ) e nil =
        subst (λ (o : Option ℕ). Fits (grammar (hcl s)) (from (hcl s) o a p [] p) 9 (flag_of φ) e nil) (sym q) fits_piece in
        part_stop (hcl s) (part_led (hcl s) (fits_all s a 9 p 8 q (omega arith)) (led (hcl s) h)) (omega (arith, after_cap (hcl s) (sane s) a e))

-- ---- the record and the text of a node without children, which has a text where it is escaped

module _ (s : List ℕ) (σ k p e : ℕ) (said : List ℕ) where
  abbrev pub Leaf : Type 0
  Leaf = ((φ : Bool) → own s σ k (flag_of φ) p ≡ cond φ (said ∷ []) []) × ((φ : Bool) (u n u' n' : ℕ) → (φ ≡ true → (u ≡ u') × (n ≡ n')) → span k (flag_of φ) p e u n ≡ span k (flag_of φ) p e u' n')

  abbrev pub leaf : Bool → Tree ℕ
  leaf φ = node k (flag_of φ) p e nil

  module _ (has : Leaf) where
    pub total_leaf : (φ : Bool) (n : ℕ) → n ≡ length said → total (texts_of s σ (leaf φ)) ≡ cond φ n 0
    total_leaf true n h = ap total (has.0 true) ∙ omega arith
    total_leaf false n h = ap total (has.0 false)

    pub records_leaf : (φ : Bool) (u n : ℕ) → n ≡ length said → records_of s σ u (leaf φ) ≡ record_of k (flag_of φ) p e 1 (span k (flag_of φ) p e u n) ∷ []
    records_leaf φ u n h =
        let z : φ ≡ true → (u + 0 ≡ u) × (total (own s σ k (flag_of φ) p) ≡ n) = λ f. (omega arith, total_leaf φ n h ∙ rw f) in
        ap (λ (y : ℕ × ℕ). record_of k (flag_of φ) p e 1 y ∷ []) (has.1 φ (u + 0) (total (own s σ k (flag_of φ) p)) u n z)

    pub written_leaf : (φ : Bool) (x x' : List ℕ) (u : ℕ) → x' ≡ cond φ (laid x u said) x → x' ≡ write x u (texts_of s σ (leaf φ))
    unfolding write
    written_leaf true x x' u h = h ∙ rw (has.0 true)
    written_leaf false x x' u h = h ∙ rw (has.0 false)

leaf_piece : (s : List ℕ) (σ p e : ℕ) → Leaf s σ 9 p e (text_at (round s σ) s p).bytes
unfolding own
leaf_piece s σ p e = (has, spans)
  where
    has : (φ : Bool) → own s σ 9 (flag_of φ) p ≡ cond φ ((text_at (round s σ) s p).bytes ∷ []) []
    has true = refl
    has false = refl

    spans : (φ : Bool) (u n u' n' : ℕ) → (φ ≡ true → (u ≡ u') × (n ≡ n')) → span 9 (flag_of φ) p e u n ≡ span 9 (flag_of φ) p e u' n'
    spans true u n u' n' h = rw ((h refl).0, (h refl).1)
    spans false u n u' n' h = refl

pub leaf_string : (s : List ℕ) (σ p e : ℕ) → Leaf s σ 6 p e (text_at quoted s (p + 1)).bytes
unfolding own
leaf_string s σ p e = (has, spans)
  where
    has : (φ : Bool) → own s σ 6 (flag_of φ) p ≡ cond φ ((text_at quoted s (p + 1)).bytes ∷ []) []
    has true = refl
    has false = refl

    spans : (φ : Bool) (u n u' n' : ℕ) → (φ ≡ true → (u ≡ u') × (n ≡ n')) → span 6 (flag_of φ) p e u n ≡ span 6 (flag_of φ) p e u' n'
    spans true u n u' n' h = rw ((h refl).0, (h refl).1)
    spans false u n u' n' h = refl

-- a piece is a further child
module _ {X : Type 0} {s : List ℕ} {st : X → State ℕ Under Move Class} {a : X → Under} {σ k p₀ i u : ℕ} {b b' x x' : List ℕ} {q n t w : ℕ} {l : Layout} {plain : Bool} {d e : ℕ} {r : Run} where
  pub stage_piece : {b'' x'' : List ℕ} {v : ℕ} (g : Stage X s st a σ k p₀ i u b b' x x' (rep (more ∷ []) piecewise l) q n t w) → round s σ ≡ mode_of s plain d e → RunHere (mode_of s plain d e) s q r → ¬ (r.end ≡ q)
      → Pieced s (i + n) (u + t) q r.end r.escaped r.length plain d e b' b'' x' x'' v
      → Stage X s st a σ k p₀ i u b b'' x x'' (rep (more ∷ []) piecewise l) r.end (n + 1) (t + v) w
  stage_piece {b''} {x''} {v} g mode h long z =
      let φ = r.escaped in
      let to = r.end in
      let m = r.length in
      let ks = g.kids in
      let here : RunHere (round s σ) s q r = subst (λ (o : Mode). RunHere o s q r) (sym mode) h in
      let m-is = run_length here in
      let stands = run_some here long in
      let said = (text_at (round s σ) s q).bytes in
      let has = leaf_piece s σ q to in
      let y = leaf s σ 9 q to said φ in
      let whole : (ξ : X) → Whole (grammar (hcl s)) (under (a ξ).left (a ξ).lines (a_piece σ), 8) q y = λ ξ.
      piece_whole s (a ξ).left (a ξ).lines σ q to φ (sym (run_escaped here)) (run_end here) long (pick_piece s (a ξ).left (a ξ).lines σ q stands) in
      let tx : texts_ofs s σ (join ks (one y)) ≡ texts_ofs s σ ks ++ texts_of s σ y = texts_join s σ ks (one y) ∙ rw append-nil in
      let uu : u + total (texts_ofs s σ ks) ≡ u + t = omega (arith, g.text) in
      let rx : records_ofs s σ u (join ks (one y)) ≡ records_ofs s σ u ks ++ records_of s σ (u + t) y = records_join s σ u ks (one y) ∙ rw (append-nil, uu) in
      let ty : total (texts_of s σ y) ≡ v = total_leaf s σ 9 q to said has φ m m-is ∙ sym z.is in
      let at : i + length (records_ofs s σ u ks) ≡ i + n = omega (arith, lengths_records s σ u ks, g.count) in
      let most : v ≤ m = cond_low φ v m z.is in
      record {
        kids = join ks (one y);
        recs = λ ξ. rec_of y ∷ g.recs ξ;
        way = λ ξ. way_rep (hcl s) (g.way ξ) (ap place (more_unit s (a ξ) σ q stands)) refl (whole ξ);
        count = sizes_join ks (one y) ∙ omega (arith, g.count);
        text = ap total tx ∙ total_append (texts_ofs s σ ks) (texts_of s σ y) ∙ omega (arith, g.text);
        laid = rw rx (lay_join b i (records_ofs s σ u ks) (records_of s σ (u + t) y) g.laid at
            (z.laid ∙ rw (records_leaf s σ 9 q to said has φ (u + t) m m-is) (lay_one b' (i + n) (record_of 9 (flag_of φ) q to 1 (span 9 (flag_of φ) q to (u + t) m)))));
        written = rw tx (write_join x u (texts_ofs s σ ks) (texts_of s σ y) g.written uu
            (written_leaf s σ 9 q to said has φ x' x'' (u + t) (z.written ∙ rw (← mode))));
        room = omega (arith, g.room, h.low);
        spent = omega (arith, g.spent, h.short);
        high = omega (arith, g.high, h.high);
      }
    where
      cond_low : (φ : Bool) (v m : ℕ) → v ≡ cond φ m 0 → v ≤ m
      cond_low true v m e = omega arith
      cond_low false v m e = omega arith
