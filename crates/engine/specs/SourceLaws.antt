-- The theorem for any source: the rule holds at every node of a table from anyone exactly when the reading of the source returns that table.
use Rattle.std.specs.Prelude.{◌≡◌, refl, Bool, true, false, not, List, ℕ, T}
use Rattle.std.proofs.Common.{ap, sym, ◌∙◌, subst, arith}
use Rattle.engine.specs.Base.{Outcome, ok, halt, stuck, bind, Rec, Tree, rec_of}
use Rattle.engine.specs.Flat.{Row, flat}
use Rattle.engine.specs.Rule.{Local}
use Rattle.engine.specs.Progress.{reads}
use Rattle.engine.specs.Source.{Source, ending, reading, blank, Holds, Checked}
use Rattle.engine.specs.BaseLaws.{bind_ok, bind_is, ok_inj, halt_ok}
use Rattle.engine.specs.FlatLaws.{list_tree, tree_list}
use Rattle.engine.specs.ProgressLaws.{ruled_reads, reads_ruled, reads_answers}

module _ {P B M C : Type 0} (s : Source P B M C) where
  pub ending_is : (y : Bool) (t : Tree P) → T y → ending s y t ≡ ok (flat t)
  ending_is true t w = refl
  ending_is false t w = absurd w

  pub ending_not : (y : Bool) (t : Tree P) → T (not y) → ending s y t ≡ halt (s.left (rec_of t).end).0 (s.left (rec_of t).end).1
  ending_not true t w = absurd w
  ending_not false t w = refl

  ending_ok : (y : Bool) (t : Tree P) (rows : List (Row P)) → ending s y t ≡ ok rows → T y × (flat t ≡ rows)
  ending_ok true t rows q = (tt, ok_inj q)
  ending_ok false t rows q = halt_ok q

module _ {P B M C : Type 0} (s : Source P B M C) (W : Checked s) where
  pub holds_reading : (rows : List (Row P)) → Holds s rows → reading s ≡ ok rows
  holds_reading rows h =
      let (t, q, e, r) = list_tree (Local s.lang) (blank s) (s.root, 0) rows h.rule in
      let st : (rec_of t).start ≡ s.begin = sym (ap (λ x. x.start) r) ∙ h.from_start in
      let en : T (s.ended (rec_of t).end) = subst (λ (x : Rec P). T (s.ended x.end)) r h.to_end in
      bind_is _ (ruled_reads s.lang s.pace W.going W.sane s.root s.begin t (st, e, W.quiet (rec_of t).end en)) ∙ ending_is s (s.ended (rec_of t).end) t en ∙ ap ok (sym q)

  pub reading_holds : (rows : List (Row P)) → reading s ≡ ok rows → Holds s rows
  reading_holds rows q =
      let (t, u, v) = bind_ok (reads s.lang s.pace s.root s.begin) _ rows q in
      let (st, e, z) = reads_ruled s.lang s.pace W.going W.sane s.root s.begin t u in
      let (en, w) = ending_ok s (s.ended (rec_of t).end) t rows v in
      let (x, r) = tree_list (Local s.lang) (blank s) (s.root, 0) t e in
      subst (Holds s) w (record {
        rule = x;
        from_start = ap (λ x. x.start) r ∙ st;
        to_end = subst (λ (x : Rec P). T (s.ended x.end)) (sym r) en;
      })

  pub unique : (rows rows' : List (Row P)) → Holds s rows → Holds s rows' → rows ≡ rows'
  unique rows rows' h h' = ok_inj (sym (holds_reading rows h) ∙ holds_reading rows' h')

  pub answers : ¬ (reading s ≡ stuck)
  answers = go (reads s.lang s.pace s.root s.begin) (reads_answers s.lang s.pace W.going W.sane s.root s.begin)
    where
      last : (y : Bool) (t : Tree P) → ¬ (ending s y t ≡ stuck)
      last true t q = absurd (let z : ◌≡◌ {A = ℕ} 0 1 = cc in omega arith)
      last false t q = absurd (let z : ◌≡◌ {A = ℕ} 0 1 = cc in omega arith)

      go : (o : Outcome P (Tree P)) → ¬ (o ≡ stuck) → ¬ (bind o (λ t. ending s (s.ended (rec_of t).end) t) ≡ stuck)
      go (ok t) h q = last (s.ended (rec_of t).end) t q
      go (halt k p) h q = absurd (let z : ◌≡◌ {A = ℕ} 0 1 = cc in omega arith)
      go stuck h q = h refl
