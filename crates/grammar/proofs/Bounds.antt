-- An accepted source has no more nodes than bytes, and no more text than bytes: so a record's numbers fit 16 bits.
use Rattle.std.specs.Prelude.{ℕ, ◌≤◌, ◌≡◌, List, [], ◌∷◌, Bool, true, false, eqb, T}
use Rattle.std.proofs.Common.{arith, length-append}
use Rattle.std.proofs.Math.ListN.{length}
use Rattle.std.proofs.Math.Dec.{eqb→eq}
use Rattle.engine.specs.Base.{ok, Tree, rec_of, size}
use Rattle.engine.specs.BaseLaws.{bind_ok, ok_inj, halt_ok}
use Rattle.engine.specs.Engine.{Whole}
use Rattle.engine.specs.Layout.{grammar}
use Rattle.engine.specs.Progress.{reads}
use Rattle.engine.specs.ProgressLaws.{reads_ruled, reads_whole}
use Rattle.grammar.specs.Moves.{Under}
use Rattle.grammar.specs.Hcl.{hcl}
use Rattle.grammar.specs.Table.{total, flatten, texts_of, words_of}
use Rattle.grammar.specs.Answer.{pace, root, whole, reading}
use Rattle.grammar.specs.Going.{going}
use Rattle.grammar.proofs.Sane.{sane}
use Rattle.grammar.specs.BoundLaws.{Of, Bound, every_bound}

-- the texts one after the other are as long as they are together
pub flatten_long : (xs : List (List ℕ)) → length (flatten xs) ≡ total xs
flatten_long [] = omega arith
flatten_long (x ∷ xs) = omega (arith, length-append x (flatten xs), flatten_long xs)

module _ (s : List ℕ) where
  -- 1. A tree that is derived at p, where the text round it starts at x: it has no more nodes than bytes (a part of a traversal has one byte more),
  -- and no more text.
  pub derived_bound : (b : Under) (p : ℕ) (t : Tree ℕ) → Whole (grammar (hcl s)) (b, 0) p t → (x : ℕ) → Of b.want x → Bound s x b.want t
  derived_bound b p t h x o =
      every_bound s (reads_ruled (hcl s) (pace s) (going s) (sane s) b p t ((reads_whole (hcl s) (pace s) (going s) b p t).1 h)).1 x o

  -- 2. The tree of a source: it spans the source, so it has no more nodes than the source has bytes, and no more text.
  pub record Small (t : Tree ℕ) : Type 0 where
    pub start : (rec_of t).start ≡ 0
    pub end : (rec_of t).end ≡ length s
    pub nodes : size t ≤ length s
    pub text : length (words_of s t) ≤ length s

  whole_ok : (y : Bool) (t u : Tree ℕ) → whole s y t ≡ ok u → T y × (t ≡ u)
  whole_ok true t u e = (tt, ok_inj e)
  whole_ok false t u e = halt_ok e

  pub reading_small : (t : Tree ℕ) → reading s ≡ ok t → Small t
  unfolding reading
  reading_small t e =
      let (u, i, j) = bind_ok (reads (hcl s) (pace s) root 0) _ t e in
      let (y, z) = whole_ok (eqb (rec_of u).end (length s)) u t j in
      let (st, ev, af) = reads_ruled (hcl s) (pace s) (going s) (sane s) root 0 u i in
      let m = every_bound s ev 0 tt in
      let en : (rec_of u).end ≡ length s = eqb→eq (rec_of u).end (length s) y in
      rw (← z) (record { start = st; end = en; nodes = omega (arith, m.nodes); text = omega (arith, m.text, flatten_long (texts_of s 0 u)) })
