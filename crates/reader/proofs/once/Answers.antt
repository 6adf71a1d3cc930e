-- A source is read into room of its own; what is copied of that is what reading would lay over the lent room.
use Prim.Native.Nat.{◌*◌}
use mathlib.Core.List.{◌++◌}
use mathlib.Core.Path.{refl, sym, ap, ◌∙◌}
use native.Mathlib.Omega.{arith}
use lib.ListN.{take, drop}
use Rattle.std.proofs.lemmas.List.{length-take-le}
use Rattle.grammar.proofs.Refusals.{numbered}
use Rattle.reader.proofs.Seen.{said_in}
use Rattle.reader.proofs.Wholly.{read_refused, read_slots, read_text_lem, fitting, read_copied}
use Rattle.reader.proofs.once.Goals as goal

pub returns-in-Err : goal.returns-in-Err
returns-in-Err c = read_refused c.requires.0.small (sym c.requires.0.whole) refl (said_in c.in-Err.is c.whole.ensures) (numbered _) c.refused.ensures

pub returns-then-m-nodes : goal.returns-then-m-nodes
returns-then-m-nodes c = read_slots c.requires.0.small (sym c.requires.0.whole) refl (said_in c.in-Ok.is c.whole.ensures) refl (omega (arith, c.if-m-nodes.true)) c.refused-then-m-nodes.ensures

pub returns-then-m-text : goal.returns-then-m-text
returns-then-m-text c = read_text_lem c.requires.0.small (sym c.requires.0.whole) refl (said_in c.in-Ok.is c.whole.ensures) refl (omega (arith, c.if-m-nodes.false)) (omega (arith, c.if-m-text.true)) c.refused-then-m-text.ensures

pub again-requires : goal.again-requires
again-requires c = (c.requires.0, omega (arith, c.requires.1, c.whole.ensures.kept.long), fitting c.requires.0.small (sym c.requires.0.whole) refl (said_in c.in-Ok.is c.whole.ensures) refl (omega (arith, c.if-m-nodes.false)) (omega (arith, c.if-m-text.false)))

pub again-requires-then-m-runs : goal.again-requires-then-m-runs
again-requires-then-m-runs c = (c.requires.0, omega (arith, c.requires.1, c.whole.ensures.kept.long), fitting c.requires.0.small (sym c.requires.0.whole) refl (said_in c.in-Ok.is c.whole.ensures) refl (omega (arith, c.if-m-nodes.false)) (omega (arith, c.if-m-text.false)))

pub overflow_mul-n : goal.overflow_mul-n
overflow_mul-n c = let w = said_in c.in-Ok.is c.whole.ensures in record { fits = omega (arith, c.if-m-nodes.false, w.room, w.high, c.requires.0.small) }

pub shape_of-rows : goal.shape_of-rows
shape_of-rows c = c.whole.auto.nodes

pub shape_of-runs : goal.shape_of-runs
shape_of-runs c = c.whole.auto.text

pub returns : goal.returns
returns c = read_copied c.requires.0.small (sym c.requires.0.whole) refl (said_in c.in-Ok.is c.whole.ensures) refl (omega (arith, c.if-m-nodes.false)) (omega (arith, c.if-m-text.false)) (omega (arith, c.if-m-rows.false, c.whole.auto.nodes)) (omega (arith, c.if-m-runs.false, c.whole.auto.text)) (c.front.ensures ∙ ap (λ k. take (7 * c.in-Ok.m.count) c.whole.new.nodes ++ drop k c.args.nodes.now) (length-take-le _ _ (omega (arith, c.if-m-rows.false, c.whole.auto.nodes)))) (c.front-2.ensures ∙ ap (λ k. take c.in-Ok.m.text c.whole.new.text ++ drop k c.args.text.now) (length-take-le _ _ (omega (arith, c.if-m-runs.false, c.whole.auto.text)))) c.front.auto.to c.front-2.auto.to c.accepted.ensures
