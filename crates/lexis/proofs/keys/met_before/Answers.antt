-- The outer loop keeps whether a key that is left is equal, the inner one whether the identifiers are.
use mathlib.Core.Path.{sym, ap, ◌∙◌}
use mathlib.Core.Bool.{not}
use Rattle.lexis.specs.Bytes.{is_start}
use Rattle.lexis.proofs.Sames.{rests_end, rests_differ, rests_more, key_other, keys_differ, keys_string, keys_word, search_end, search_other, search_on, search_met}
use Rattle.lexis.proofs.keys.met_before.Goals as goal

pub keys-preserved-then-byte_at-first : goal.keys-preserved-then-byte_at-first
keys-preserved-then-byte_at-first c = (c.keys.invariant.0, search_on c.args.s.now c.args.starts.now c.args.from c.args.to c.args.p c.keys.k c.keys.invariant.1 c.min-end.ensures c.keys-test.true c.from-a.ensures (keys_differ c.byte_at.ensures c.byte_at-first.ensures c.if-byte_at-first.true))

pub keys-preserved-then-first-eq-QUOTE : goal.keys-preserved-then-first-eq-QUOTE
keys-preserved-then-first-eq-QUOTE c = (c.keys.invariant.0, search_on c.args.s.now c.args.starts.now c.args.from c.args.to c.args.p c.keys.k c.keys.invariant.1 c.min-end.ensures c.keys-test.true c.from-a.ensures (keys_string c.byte_at.ensures c.byte_at-first.ensures c.if-byte_at-first.false (c.if-byte_at-first.false ∙ c.if-first-eq-QUOTE.true) ∙ sym c.same_text.ensures ∙ c.if-same_text.false))

pub returns-then-not-is_start : goal.returns-then-not-is_start
returns-then-not-is_start c = sym (search_other c.args.s.now c.args.starts.now c.args.from c.args.to c.args.p c.keys.k c.keys.invariant.1 (key_other c.byte_at-first.ensures (sym c.is_start.ensures ∙ c.if-not-is_start.true) c.if-first-eq-QUOTE.false))

pub loop-k-init : goal.loop-k-init
loop-k-init c = (c.keys.invariant.0, sym (keys_word c.byte_at.ensures c.byte_at-first.ensures c.if-byte_at-first.false (ap is_start c.if-byte_at-first.false ∙ sym c.is_start.ensures ∙ c.if-not-is_start.false)))

pub keys-preserved-then-is_rest : goal.keys-preserved-then-is_rest
keys-preserved-then-is_rest c = (c.loop-k.invariant.0, search_on c.args.s.now c.args.starts.now c.args.from c.args.to c.args.p c.keys.k c.keys.invariant.1 c.min-end.ensures c.keys-test.true c.from-a.ensures (sym c.loop-k.invariant.1 ∙ rests_end c.byte_at-x.ensures c.byte_at-y.ensures (sym c.is_rest.ensures ∙ c.if-not-is_rest.true) ∙ ap not (sym c.is_rest-then-not-is_rest.ensures ∙ c.if-is_rest.true)))

pub keys-preserved : goal.keys-preserved
keys-preserved c = (c.loop-k.invariant.0, search_on c.args.s.now c.args.starts.now c.args.from c.args.to c.args.p c.keys.k c.keys.invariant.1 c.min-end.ensures c.keys-test.true c.from-a.ensures (sym c.loop-k.invariant.1 ∙ rests_differ c.byte_at-x.ensures c.byte_at-y.ensures (sym c.is_rest.ensures ∙ c.if-not-is_rest.false) c.if-x-y.true))

pub loop-k-preserved : goal.loop-k-preserved
loop-k-preserved c = (c.loop-k.invariant.0, rests_more c.byte_at-x.ensures c.byte_at-y.ensures (sym c.is_rest.ensures ∙ c.if-not-is_rest.false) c.if-x-y.false ∙ c.loop-k.invariant.1)

pub returns-after-keys : goal.returns-after-keys
returns-after-keys c = c.keys.invariant.0 ∙ sym (search_end c.args.s.now c.args.starts.now c.args.from c.args.to c.args.p c.keys.k c.keys.invariant.1 c.min-end.ensures c.keys-test.false)

pub returns-then-same_text : goal.returns-then-same_text
returns-then-same_text c = sym (search_met c.args.s.now c.args.starts.now c.args.from c.args.to c.args.p c.keys.k c.keys.invariant.1 c.min-end.ensures c.keys-test.true c.from-a.ensures (keys_string c.byte_at.ensures c.byte_at-first.ensures c.if-byte_at-first.false (c.if-byte_at-first.false ∙ c.if-first-eq-QUOTE.true) ∙ sym c.same_text.ensures ∙ c.if-same_text.true))

pub returns-else-is_rest : goal.returns-else-is_rest
returns-else-is_rest c = sym (search_met c.args.s.now c.args.starts.now c.args.from c.args.to c.args.p c.keys.k c.keys.invariant.1 c.min-end.ensures c.keys-test.true c.from-a.ensures (sym c.loop-k.invariant.1 ∙ rests_end c.byte_at-x.ensures c.byte_at-y.ensures (sym c.is_rest.ensures ∙ c.if-not-is_rest.true) ∙ ap not (sym c.is_rest-then-not-is_rest.ensures ∙ c.if-is_rest.false)))
