-- The loop keeps whether what is left on both sides is the same.
use mathlib.Core.Path.{sym, ap, ◌∙◌}
use mathlib.Core.Bool.{not}
use Rattle.lexis.proofs.Sames.{rests_end, rests_differ, rests_more}
use Rattle.lexis.proofs.keys.same_rest.Goals as goal

pub returns-then-not-is_rest : goal.returns-then-not-is_rest
returns-then-not-is_rest c = ap not c.is_rest-then-not-is_rest.ensures ∙ sym (rests_end c.byte_at-x.ensures c.byte_at-y.ensures (sym c.is_rest.ensures ∙ c.if-not-is_rest.true)) ∙ c.loop-a.invariant

pub returns-then-x-y : goal.returns-then-x-y
returns-then-x-y c = sym (rests_differ c.byte_at-x.ensures c.byte_at-y.ensures (sym c.is_rest.ensures ∙ c.if-not-is_rest.false) c.if-x-y.true) ∙ c.loop-a.invariant

pub loop-a-preserved : goal.loop-a-preserved
loop-a-preserved c = rests_more c.byte_at-x.ensures c.byte_at-y.ensures (sym c.is_rest.ensures ∙ c.if-not-is_rest.false) c.if-x-y.false ∙ c.loop-a.invariant
