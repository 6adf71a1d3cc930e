use Prim.Native.Nat.{ℕ, ◌+◌}
use mathlib.Core.Path.{◌∙◌, ap}
use native.Mathlib.Omega.{arith}
use lib.ListN.{drop}
use Rattle.lexis.specs.Bytes.{nonzero}
use Rattle.lexis.specs.Utf8.{table, width_by}
use Rattle.lexis.proofs.Sequences.{wide_by, wide_none, by_ascii, by_none, by_two, by_three, by_four, by-E0, by-ED, by-F0, by-F4}
use Rattle.lexis.proofs.utf8.width.Goals as goal

pub returns-then-b-lt128 : goal.returns-then-b-lt128
returns-then-b-lt128 c = ap nonzero (wide_by c.args.s.now c.args.p c.byte_at-b.result _ c.byte_at-b.ensures.is (omega arith) (by_ascii c.byte_at-b.result (drop (c.args.p + 1) c.args.s.now) c.if-b-lt128.true)).is

pub returns-then-b-lt194 : goal.returns-then-b-lt194
returns-then-b-lt194 c = ap nonzero (wide_by c.args.s.now c.args.p c.byte_at-b.result _ c.byte_at-b.ensures.is (omega arith) (by_none c.byte_at-b.result (drop (c.args.p + 1) c.args.s.now) c.if-b-lt128.false c.if-b-lt194.true)).is

pub returns-then-b-lt224 : goal.returns-then-b-lt224
returns-then-b-lt224 c = c.behind.ensures ∙ ap nonzero (wide_by c.args.s.now c.args.p c.byte_at-b.result _ c.byte_at-b.ensures.is (omega arith) (by_two c.byte_at-b.result (drop (c.args.p + 1) c.args.s.now) c.if-b-lt194.false c.if-b-lt224.true)).is

pub returns-then-b-eq224 : goal.returns-then-b-eq224
returns-then-b-eq224 c = c.behind-then-b-eq224.ensures ∙ ap nonzero (wide_by c.args.s.now c.args.p c.byte_at-b.result _ c.byte_at-b.ensures.is (omega arith) (ap (λ (x : ℕ). width_by table x (drop (c.args.p + 1) c.args.s.now)) c.if-b-eq224.true ∙ by-E0 (drop (c.args.p + 1) c.args.s.now))).is

pub returns-then-b-eq237 : goal.returns-then-b-eq237
returns-then-b-eq237 c = c.behind-then-b-eq237.ensures ∙ ap nonzero (wide_by c.args.s.now c.args.p c.byte_at-b.result _ c.byte_at-b.ensures.is (omega arith) (ap (λ (x : ℕ). width_by table x (drop (c.args.p + 1) c.args.s.now)) c.if-b-eq237.true ∙ by-ED (drop (c.args.p + 1) c.args.s.now))).is

pub returns-then-b-lt240 : goal.returns-then-b-lt240
returns-then-b-lt240 c = c.behind-then-b-lt240.ensures ∙ ap nonzero (wide_by c.args.s.now c.args.p c.byte_at-b.result _ c.byte_at-b.ensures.is (omega arith) (by_three c.byte_at-b.result (drop (c.args.p + 1) c.args.s.now) (omega arith) c.if-b-eq237.false c.if-b-lt240.true)).is

pub returns-then-b-eq240 : goal.returns-then-b-eq240
returns-then-b-eq240 c = c.behind-then-b-eq240.ensures ∙ ap nonzero (wide_by c.args.s.now c.args.p c.byte_at-b.result _ c.byte_at-b.ensures.is (omega arith) (ap (λ (x : ℕ). width_by table x (drop (c.args.p + 1) c.args.s.now)) c.if-b-eq240.true ∙ by-F0 (drop (c.args.p + 1) c.args.s.now))).is

pub returns-then-b-lt244 : goal.returns-then-b-lt244
returns-then-b-lt244 c = c.behind-then-b-lt244.ensures ∙ ap nonzero (wide_by c.args.s.now c.args.p c.byte_at-b.result _ c.byte_at-b.ensures.is (omega arith) (by_four c.byte_at-b.result (drop (c.args.p + 1) c.args.s.now) (omega arith) c.if-b-lt244.true)).is

pub returns-then-b-eq244 : goal.returns-then-b-eq244
returns-then-b-eq244 c = c.behind-then-b-eq244.ensures ∙ ap nonzero (wide_by c.args.s.now c.args.p c.byte_at-b.result _ c.byte_at-b.ensures.is (omega arith) (ap (λ (x : ℕ). width_by table x (drop (c.args.p + 1) c.args.s.now)) c.if-b-eq244.true ∙ by-F4 (drop (c.args.p + 1) c.args.s.now))).is

pub returns : goal.returns
returns c = ap nonzero (wide_none c.args.s.now c.args.p c.byte_at-b.result c.byte_at-b.ensures.is (omega arith)).is
