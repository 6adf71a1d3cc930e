-- The loop keeps the run: behind the bytes that are text as they stand, and behind each unit.
use mathlib.Core.Path.{sym, ◌∙◌}
use Rattle.lexis.specs.RunLaws.{clash}
use Rattle.lexis.specs.String.{quoted_of, from_of, to_of, mode_from}
use Rattle.lexis.proofs.Texts.{Going, going_stop, going_more, going_run, going_same, going_quote}
use Rattle.lexis.proofs.string.run_at.Goals as goal
use Rattle.lexis.proofs.string.run_at.Goals.{then-quoted, then-quoted-via-then-quoted, then-quoted-via-else-quoted+then-not-fresh, else-quoted+else-not-fresh}

pub returns-then-byte_at-eq34 : goal.returns-then-byte_at-eq34
returns-then-byte_at-eq34 c = let g : Going (mode_from c.args.s.now c.args.round) c.args.s.now c.args.p c.if-quoted.i c.if-quoted.n c.loop-k.fresh = (elim c.if-quoted.branch [
  | then-quoted w ↦ going_run c.args.s.now c.args.p (from_of c.args.round) (to_of c.args.round) (quoted_of c.args.round) c.loop-k.fresh
      (elim w.then-quoted.branch [ then-quoted-via-then-quoted t ↦ λ z. clash (sym t.if-quoted.true ∙ c.is_quoted-quoted.ensures ∙ z) | then-quoted-via-else-quoted+then-not-fresh t ↦ λ z. t.if-not-fresh.true ])
      c.loop-k.invariant (rw c.is_quoted-quoted.ensures at w.plain_end-k.ensures) w.i-is w.n-is
  | else-quoted+else-not-fresh w ↦ going_same c.loop-k.invariant w.i-is w.n-is
]) in
    going_quote (from_of c.args.round) (to_of c.args.round) g (sym c.is_quoted-quoted.ensures ∙ c.if-quoted-2.true) c.byte_at.ensures (c.if-byte_at-eq34.true)

pub returns-in-Err : goal.returns-in-Err
returns-in-Err c = let g : Going (mode_from c.args.s.now c.args.round) c.args.s.now c.args.p c.if-quoted.i c.if-quoted.n c.loop-k.fresh = (elim c.if-quoted.branch [
  | then-quoted w ↦ going_run c.args.s.now c.args.p (from_of c.args.round) (to_of c.args.round) (quoted_of c.args.round) c.loop-k.fresh
      (elim w.then-quoted.branch [ then-quoted-via-then-quoted t ↦ λ z. clash (sym t.if-quoted.true ∙ c.is_quoted-quoted.ensures ∙ z) | then-quoted-via-else-quoted+then-not-fresh t ↦ λ z. t.if-not-fresh.true ])
      c.loop-k.invariant (rw c.is_quoted-quoted.ensures at w.plain_end-k.ensures) w.i-is w.n-is
  | else-quoted+else-not-fresh w ↦ going_same c.loop-k.invariant w.i-is w.n-is
]) in
    going_stop g c.in-Err.ensures

pub loop-k-preserved : goal.loop-k-preserved
loop-k-preserved c = let g : Going (mode_from c.args.s.now c.args.round) c.args.s.now c.args.p c.if-quoted.i c.if-quoted.n c.loop-k.fresh = (elim c.if-quoted.branch [
  | then-quoted w ↦ going_run c.args.s.now c.args.p (from_of c.args.round) (to_of c.args.round) (quoted_of c.args.round) c.loop-k.fresh
      (elim w.then-quoted.branch [ then-quoted-via-then-quoted t ↦ λ z. clash (sym t.if-quoted.true ∙ c.is_quoted-quoted.ensures ∙ z) | then-quoted-via-else-quoted+then-not-fresh t ↦ λ z. t.if-not-fresh.true ])
      c.loop-k.invariant (rw c.is_quoted-quoted.ensures at w.plain_end-k.ensures) w.i-is w.n-is
  | else-quoted+else-not-fresh w ↦ going_same c.loop-k.invariant w.i-is w.n-is
]) in
    rw c.from-n.ensures (going_more g c.in-Ok.ensures)
