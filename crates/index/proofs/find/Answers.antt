use mathlib.Core.Path.{sym, ap, ◌∙◌}
use mathlib.Core.Bool.{not}
use Rattle.lexis.specs.Bytes.{is_start}
use Rattle.lexis.proofs.Sames.{rests_end, rests_differ, rests_more, keys_differ, keys_word}
use Rattle.index.proofs.Finds.{search_some, search_none, search_next, search_less, other_mark, of_start, seek_met}
use Rattle.index.proofs.find.Goals as goal
use Rattle.index.proofs.find.Goals.{then-first-k, else-first-k, then-not-same-via-then-not-same, then-not-same-via-else-not-same+then-byte_at-b}

pub slots-init : goal.slots-init
slots-init c = elim c.if-first-k.branch [
  | then-first-k w ↦ rw w.slot-is (search_some c.requires.0 c.args.p w.if-first-k.true c.requires.1)
  | else-first-k w ↦ rw w.slot-is (search_none c.requires.0 c.args.p w.if-first-k.false)
]

pub slots-smaller-then-not-same : goal.slots-smaller-then-not-same
slots-smaller-then-not-same c = search_less c.requires.0 (c.slots.invariant.ahead c.in-Some.j c.in-Some.is) (elim c.then-not-same.branch [
  | then-not-same-via-then-not-same w ↦ other_mark c.requires.0 (c.slots.invariant.ahead c.in-Some.j c.in-Some.is) c.requires.1 c.has_mark-same.ensures w.if-not-same.true
  | then-not-same-via-else-not-same+then-byte_at-b w ↦ of_start c.args.s.now c.args.p c.start-a.ensures (keys_differ w.byte_at.ensures c.byte_at-b.ensures w.if-byte_at-b.true)
]) c.child-slot.ensures c.in-Some.is

pub slots-preserved-then-not-same : goal.slots-preserved-then-not-same
slots-preserved-then-not-same c = search_next c.requires.0 (c.slots.invariant.ahead c.in-Some.j c.in-Some.is) (elim c.then-not-same.branch [
  | then-not-same-via-then-not-same w ↦ other_mark c.requires.0 (c.slots.invariant.ahead c.in-Some.j c.in-Some.is) c.requires.1 c.has_mark-same.ensures w.if-not-same.true
  | then-not-same-via-else-not-same+then-byte_at-b w ↦ of_start c.args.s.now c.args.p c.start-a.ensures (keys_differ w.byte_at.ensures c.byte_at-b.ensures w.if-byte_at-b.true)
]) c.child-slot.ensures

pub slots-smaller-then-not-is_start : goal.slots-smaller-then-not-is_start
slots-smaller-then-not-is_start c = search_less c.requires.0 (c.slots.invariant.ahead c.in-Some.j c.in-Some.is) (of_start c.args.s.now c.args.p c.start-a.ensures (sym c.same_key.ensures ∙ c.if-same_key.false)) c.child-slot.ensures c.in-Some.is

pub slots-preserved-then-not-is_start : goal.slots-preserved-then-not-is_start
slots-preserved-then-not-is_start c = search_next c.requires.0 (c.slots.invariant.ahead c.in-Some.j c.in-Some.is) (of_start c.args.s.now c.args.p c.start-a.ensures (sym c.same_key.ensures ∙ c.if-same_key.false)) c.child-slot.ensures

pub loop-j-init : goal.loop-j-init
loop-j-init c = sym (keys_word c.byte_at.ensures c.byte_at-b.ensures c.if-byte_at-b.false (ap is_start c.if-byte_at-b.false ∙ sym c.is_start.ensures ∙ c.if-not-is_start.false))

pub slots-smaller-then-is_rest : goal.slots-smaller-then-is_rest
slots-smaller-then-is_rest c = search_less c.requires.0 (c.slots.invariant.ahead c.in-Some.j c.in-Some.is) (of_start c.args.s.now c.args.p c.start-a.ensures (sym c.loop-j.invariant ∙ rests_end c.byte_at-v.ensures c.byte_at-w.ensures (sym c.is_rest.ensures ∙ c.if-not-is_rest.true) ∙ ap not (sym c.is_rest-then-not-is_rest.ensures ∙ c.if-is_rest.true))) c.child-slot.ensures c.in-Some.is

pub slots-preserved-then-is_rest : goal.slots-preserved-then-is_rest
slots-preserved-then-is_rest c = search_next c.requires.0 (c.slots.invariant.ahead c.in-Some.j c.in-Some.is) (of_start c.args.s.now c.args.p c.start-a.ensures (sym c.loop-j.invariant ∙ rests_end c.byte_at-v.ensures c.byte_at-w.ensures (sym c.is_rest.ensures ∙ c.if-not-is_rest.true) ∙ ap not (sym c.is_rest-then-not-is_rest.ensures ∙ c.if-is_rest.true))) c.child-slot.ensures

pub slots-smaller : goal.slots-smaller
slots-smaller c = search_less c.requires.0 (c.slots.invariant.ahead c.in-Some.j c.in-Some.is) (of_start c.args.s.now c.args.p c.start-a.ensures (sym c.loop-j.invariant ∙ rests_differ c.byte_at-v.ensures c.byte_at-w.ensures (sym c.is_rest.ensures ∙ c.if-not-is_rest.false) c.if-v-w.true)) c.child-slot.ensures c.in-Some.is

pub slots-preserved : goal.slots-preserved
slots-preserved c = search_next c.requires.0 (c.slots.invariant.ahead c.in-Some.j c.in-Some.is) (of_start c.args.s.now c.args.p c.start-a.ensures (sym c.loop-j.invariant ∙ rests_differ c.byte_at-v.ensures c.byte_at-w.ensures (sym c.is_rest.ensures ∙ c.if-not-is_rest.false) c.if-v-w.true)) c.child-slot.ensures

pub loop-j-preserved : goal.loop-j-preserved
loop-j-preserved c = rests_more c.byte_at-v.ensures c.byte_at-w.ensures (sym c.is_rest.ensures ∙ c.if-not-is_rest.false) c.if-v-w.false ∙ c.loop-j.invariant

pub returns-then-same_key : goal.returns-then-same_key
returns-then-same_key c = seek_met c.requires.0 (c.slots.invariant.ahead c.in-Some.j c.in-Some.is) (of_start c.args.s.now c.args.p c.start-a.ensures (sym c.same_key.ensures ∙ c.if-same_key.true))

pub returns-else-is_rest : goal.returns-else-is_rest
returns-else-is_rest c = seek_met c.requires.0 (c.slots.invariant.ahead c.in-Some.j c.in-Some.is) (of_start c.args.s.now c.args.p c.start-a.ensures (sym c.loop-j.invariant ∙ rests_end c.byte_at-v.ensures c.byte_at-w.ensures (sym c.is_rest.ensures ∙ c.if-not-is_rest.true) ∙ ap not (sym c.is_rest-then-not-is_rest.ensures ∙ c.if-is_rest.false)))
