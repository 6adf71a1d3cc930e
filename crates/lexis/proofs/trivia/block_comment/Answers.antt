-- The loop keeps the place that the comment's text reaches.
use Prim.Native.Nat.{◌≤◌, ◌+◌, ◌-◌}
use Rattle.lexis.specs.RunLaws.{reach, reach_on, reach_stop}
use Rattle.lexis.proofs.Trivias.{closes_here, closes_not, closes_half, closes_late, block_found, block_endless}
use Rattle.lexis.specs.Trivia.{closes, ends_at}
use mathlib.Core.Path.{◌≡◌, refl, sym, ap, ◌∙◌}
use native.Mathlib.Omega.{arith}
use Rattle.lexis.proofs.trivia.block_comment.Goals as goal
use Rattle.lexis.proofs.trivia.block_comment.Goals.{else-s-i-eq47-via-then-s-i-eq47+else-s-i-eq42, else-s-i-eq47-via-else-s-i-eq47}

pub returns-then-s-i-eq42 : goal.returns-then-s-i-eq42
returns-then-s-i-eq42 c = let a = c.args in
    let i = c.loop-i.i in
    let h = c.loop-i-test.true in
    let l : 1 ≤ i = omega arith in
    let e : i - 1 + 2 ≡ i + 1 = omega arith in
    record {
      is = sym (block_found a.s.now a.p {i = i - 1} (omega (arith, h)) (sym c.loop-i.invariant.1 ∙ reach_stop closes a.s.now (i - 1) (closes_here a.s.now i l h c.if-s-i-eq42.true c.if-s-i-eq47.true)) ∙ ap ends_at e);
      low = omega arith;
      high = omega arith;
    }

pub loop-i-preserved : goal.loop-i-preserved
loop-i-preserved c = let s = c.args.s.now in
    let i = c.loop-i.i in
    let h = c.loop-i-test.true in
    let l : 1 ≤ i = omega arith in
    let e : i + 1 - 1 ≡ i - 1 + 1 = omega arith in
    (omega arith, ap (reach closes s) e ∙ reach_on closes s (i - 1) (omega (arith, h)) (elim c.else-s-i-eq47.branch [ else-s-i-eq47-via-then-s-i-eq47+else-s-i-eq42 w ↦ closes_half s i l h w.if-s-i-eq42.false | else-s-i-eq47-via-else-s-i-eq47 w ↦ closes_not s i l h w.if-s-i-eq47.false ]) ∙ c.loop-i.invariant.1)

pub returns : goal.returns
returns c = let a = c.args in
    record {
      is = sym (block_endless a.s.now a.p (omega (arith, closes_late a.s.now (c.loop-i.i - 1) (omega (arith, c.loop-i-test.false)), c.loop-i.invariant.1)) refl);
      low = omega arith;
      high = omega arith;
    }
