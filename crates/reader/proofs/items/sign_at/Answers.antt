use mathlib.Core.Path.{refl, sym, ◌∙◌}
use mathlib.Core.List.{[], ◌∷◌}
use native.Mathlib.Omega.{arith}
use Rattle.lexis.specs.RunLaws.{stands_inside}
use Rattle.grammar.proofs.Refusals.{numbered, handed_on}
use Rattle.reader.proofs.Signs.{signed_gap, signed_met, signed_equals, signed_colon, signed_none}
use Rattle.reader.proofs.items.sign_at.Goals as goal

pub returns-in_err-g : goal.returns-in_err-g
returns-in_err-g c = rw (handed_on c.from_residual.result c.in_err-g.field-0.0 c.from_residual.ensures.1) (signed_gap c.args.keys.now c.args.first c.args.at.keys c.args.at.place c.in_err-g.ensures (numbered _))

pub returns-then-is_met : goal.returns-then-is_met
returns-then-is_met c = rw c.at.ensures (signed_met c.args.keys.now c.args.first c.args.at.keys c.args.at.place c.in_ok-g.ensures refl c.is_met.ensures c.if-is_met.true)

pub returns-then-q-g : goal.returns-then-q-g
returns-then-q-g c = signed_equals c.args.keys.now c.args.first c.args.at.keys c.args.at.place c.in_ok-g.ensures refl c.is_met.ensures c.if-is_met.false c.equals_end-q.ensures c.if-q-g.true

pub overflow_add-result : goal.overflow_add-result
overflow_add-result c = omega (arith, stands_inside (58 ∷ []) c.args.s.now _ (sym c.one_at.ensures ∙ c.if-one_at.true))

pub returns-then-one_at : goal.returns-then-one_at
returns-then-one_at c = signed_colon c.args.keys.now c.args.first c.args.at.keys c.args.at.place c.in_ok-g.ensures refl c.is_met.ensures c.if-is_met.false c.equals_end-q.ensures c.if-q-g.false (sym c.one_at.ensures ∙ c.if-one_at.true)

pub returns : goal.returns
returns c = signed_none c.args.keys.now c.args.first c.args.at.keys c.args.at.place c.in_ok-g.ensures refl c.is_met.ensures c.if-is_met.false c.equals_end-q.ensures c.if-q-g.false (sym c.one_at.ensures ∙ c.if-one_at.false) c.unexpected.ensures
