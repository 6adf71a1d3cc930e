-- The answers of each member of the cycle.
use Rattle.grammar.proofs.Callings.{kind_or}
use Prim.Native.Nat.{ℕ, ◌+◌}
use Rattle.grammar.proofs.Refusals.{numbered, handed_on}
use Rattle.reader.proofs.Views.{told, told_put}
use Rattle.reader.specs.Said.{halted}
use Rattle.grammar.specs.PickLaws.{condition_known, part_kind}
use Rattle.grammar.specs.Programmed.{Programmed, programmed}
use Rattle.reader.proofs.Answers.{good, kept_same, kept_join, turning_start}
use Rattle.reader.proofs.Arrays.{array_deep, array_gap, arraying_start, array_closing, array_ok, array_no, array_else, array_more, array_square, array_as}
use Rattle.reader.proofs.Entries.{still_indexed, no_key, no_sign, no_space, no_value, item_done}
use Rattle.reader.proofs.Exprs.{term_none, term_head_no, term_stop, term_no, term_more, expr_stop, expr_known, expr_no, expr_more}
use Rattle.reader.proofs.Firsts.{first_none, first_leaf, grow_space, grow_no, grow_ok}
use Rattle.reader.proofs.Interps.{tilde_few, tilde_high, interp_two, brace_high, interp_none, interp_deep, interp_gap, interp_no, interp_open, interp_else, interp_ok}
use Rattle.reader.proofs.Laidings.{Aim, laid_ok, laid_room, laid_stop, laid_other, laid_later, laid_on, laid_within, aim_kid, aim_past, aim_low, aim_high, aim_lead, aim_no, aim_yes, aim_far}
use Rattle.reader.proofs.Laids.{turn_start as turn_start_laids}
use Rattle.reader.proofs.Leads.{lead_none, lead_primary, lead_first, run_template, run_string}
use Rattle.reader.proofs.Nameds.{named_met, named_space, named_value, named_done}
use Rattle.reader.proofs.ObjectTurns.{stood, close_room, inside_brace, object_deep, object_open_no, object_empty, turn_start as turn_start_objectturns, turn_no, turn_keeping, object_end_no, object_end, turn_more}
use Rattle.reader.proofs.Parts.{parting_start, parts_gap, parts_cut, parts_else, parts_end, parts_no, parts_more, part_dot, part_square, part_none, part_made, part_bare}
use Rattle.reader.proofs.Pieces.{round_start, round_piece, round_interp, round_interp_no, round_ends_no, round_closes, round_closing}
use Rattle.reader.proofs.Quotes.{flag_byte, flag_few, heredoc_no, heredoc_asked, heredoc_texting, heredoc_said, quoted_said}
use Rattle.reader.proofs.Seen.{moved_in}
use Rattle.reader.proofs.Ranks.{rank_most, rank_part, rank_condition}
use Rattle.reader.proofs.Subs.{prim_term, prim_laid, no_string, no_template, sub_name, sub_condition, sub_part_none, sub_part}
use Rattle.reader.proofs.Terms.{term_picked, term_firm, term_primary, term_inside, term_deep, term_space, term_under_no, term_under}
use Rattle.reader.proofs.Withins.{bracketed_round, bracketed_square, within_closing, within_deep, within_gap, within_no, within_open, within_else, within_ok}
use mathlib.Core.Logic.{⊎_elim}
use mathlib.Core.Path.{ap, ◌∙◌, refl, subst, sym}
use native.Mathlib.Omega.{arith}
use Rattle.reader.proofs.tree.+tree.Goals as goal
use Rattle.reader.proofs.tree.+tree.Goals.{laid-Joined-x-ne-KID, laid-then-x-ne-KID+in-Ok+else-x-ne-REP, laid-else-x-ne-KID}

-- ---- expr

pub expr-loop-at-init : goal.expr-loop-at-init
expr-loop-at-init t c = (turning_start (c.in_ok-l.ensures.room) (c.in_ok-l.ensures.spent) (c.in_ok-l.ensures.high), kept_same _, refl, refl)

pub expr-returns-then-from-j : goal.expr-returns-then-from-j
expr-returns-then-from-j t c = expr_stop c.loop-at.invariant.0 (good c.in_ok-l.ensures refl) (c.requires.1) c.next_at-f.ensures.kind (omega (arith, c.if-from-j.true, c.from.ensures, c.tight.ensures)) (told c.accept.ensures) (kept_join (c.in_ok-l.ensures.kept) c.loop-at.invariant.1)

pub expr-grow-requires : goal.expr-grow-requires
expr-grow-requires t c = (omega (arith, c.loop-at.invariant.0.room), (omega (arith, c.requires.0, c.loop-at.invariant.0.room, c.loop-at.invariant.0.spent, c.loop-at.invariant.0.high, c.loop-at.invariant.1.long, c.in_ok-l.ensures.kept.long), record { known = (expr_known c.loop-at.invariant.0 (good c.in_ok-l.ensures refl) (c.requires.1) c.next_at-f.ensures.kind (omega (arith, c.if-from-j.false, c.from.ensures, c.tight.ensures))).known; room = c.loop-at.invariant.0.room }, c.next_at-f.ensures))

pub expr-returns-in_err-m : goal.expr-returns-in_err-m
expr-returns-in_err-m t c = rw (handed_on c.from_residual-in_err-m.result c.in_err-m.field-0.0 c.from_residual-in_err-m.ensures.1) (expr_no c.loop-at.invariant.0 (good c.in_ok-l.ensures refl) (c.requires.1) c.next_at-f.ensures.kind (omega (arith, c.if-from-j.false, c.from.ensures, c.tight.ensures)) c.in_err-m.ensures (numbered _) (kept_join (c.in_ok-l.ensures.kept) (kept_join c.loop-at.invariant.1 (c.in_err-m.ensures.kept))))

pub expr-loop-at-preserved : goal.expr-loop-at-preserved
expr-loop-at-preserved t c = (expr_more c.loop-at.invariant.0 (good c.in_ok-l.ensures refl) (c.requires.1) c.next_at-f.ensures.kind (omega (arith, c.if-from-j.false, c.from.ensures, c.tight.ensures)) c.in_ok-m.ensures refl, kept_join c.loop-at.invariant.1 (c.in_ok-m.ensures.kept), (c.grow.auto.nodes ∙ c.loop-at.invariant.2), (c.grow.auto.text ∙ c.loop-at.invariant.3))

-- ---- within

pub within-returns-in_err-under : goal.within-returns-in_err-under
within-returns-in_err-under t c = rw (handed_on c.from_residual.result c.in_err-under.field-0.0 c.from_residual.ensures.1) (within_deep c.requires.1 c.requires.0 c.in_err-under.ensures.0 (ap halted c.in_err-under.ensures.1) (kept_same _))

pub within-returns-in_err-g : goal.within-returns-in_err-g
within-returns-in_err-g t c = rw (handed_on c.from_residual-in_err-g.result c.in_err-g.field-0.0 c.from_residual-in_err-g.ensures.1) (within_gap c.requires.1 c.requires.0 c.in_ok-under.ensures.0 c.in_err-g.ensures (numbered _) refl (kept_same _))

pub within-returns-in_err-m : goal.within-returns-in_err-m
within-returns-in_err-m t c = rw (handed_on c.from_residual-in_err-m.result c.in_err-m.field-0.0 c.from_residual-in_err-m.ensures.1) (within_no c.requires.1 c.requires.0 c.in_ok-under.ensures.0 c.in_ok-g.ensures refl (rw c.in_ok-under.ensures.1 at c.in_err-m.ensures) (numbered _) c.in_err-m.ensures.kept)

pub within-returns-in_err-h : goal.within-returns-in_err-h
within-returns-in_err-h t c = rw (handed_on c.from_residual-in_err-h.result c.in_err-h.field-0.0 c.from_residual-in_err-h.ensures.1) (within_open c.requires.1 c.requires.0 c.in_ok-under.ensures.0 c.in_ok-g.ensures refl (rw c.in_ok-under.ensures.1 at c.in_ok-m.ensures) refl c.in_err-h.ensures (numbered _) refl c.in_ok-m.ensures.kept)

pub within-returns-then-not-one_at : goal.within-returns-then-not-one_at
within-returns-then-not-one_at t c = within_else c.requires.1 c.requires.0 c.in_ok-under.ensures.0 c.in_ok-g.ensures refl (rw c.in_ok-under.ensures.1 at c.in_ok-m.ensures) refl c.in_ok-h.ensures refl (sym c.one_at.ensures ∙ c.if-not-one_at.true) c.unexpected.ensures refl c.in_ok-m.ensures.kept

pub within-close_at-requires : goal.within-close_at-requires
within-close_at-requires t c = within_closing c.requires.1 c.in_ok-g.ensures c.in_ok-m.ensures c.in_ok-h.ensures (sym c.one_at.ensures ∙ c.if-not-one_at.false) c.requires.0

pub within-returns : goal.within-returns
within-returns t c = within_ok c.requires.1 c.requires.0 c.in_ok-under.ensures.0 c.in_ok-g.ensures refl (rw c.in_ok-under.ensures.1 at c.in_ok-m.ensures) refl c.in_ok-h.ensures refl (sym c.one_at.ensures ∙ c.if-not-one_at.false) (told_put c.close_at.ensures) c.in_ok-m.ensures.kept

-- ---- first

pub first-returns-then-head-at : goal.first-returns-then-head-at
first-returns-then-head-at t c = first_leaf (c.requires.1.alone c.if-head-at.true) c.if-head-at.true c.requires.0 c.args.level.left c.args.nodes.now c.args.text.now (told_put c.close_at.ensures) (kept_same _)

pub first-returns-then-head-eq-NONE : goal.first-returns-then-head-eq-NONE
first-returns-then-head-eq-NONE t c = first_none (lead_none c.requires.1 c.if-head-eq-NONE.true) c.if-head-eq-NONE.true c.unexpected.ensures refl c.requires.0.inside (kept_same _)

pub first-prim-requires : goal.first-prim-requires
first-prim-requires t c = (omega (arith), (c.requires.0, lead_primary c.requires.1 c.if-head-eq-NONE.false c.args.level.left (sym c.is_unary.ensures ∙ c.if-is_unary.false)))

pub first-returns : goal.first-returns
first-returns t c = lead_first c.requires.1 c.if-head-eq-NONE.false c.args.level.left c.prim.ensures

-- ---- grow

pub grow-returns-in_err-g : goal.grow-returns-in_err-g
grow-returns-in_err-g t c = rw (handed_on c.from_residual.result c.in_err-g.field-0.0 c.from_residual.ensures.1) (grow_space c.requires.2 c.if-end-at.false c.requires.1 c.args.level.left c.requires.0 c.args.nodes.now c.args.text.now c.in_err-g.ensures (numbered _) refl (kept_same _))

pub grow-returns-in_err-m : goal.grow-returns-in_err-m
grow-returns-in_err-m t c = rw (handed_on c.from_residual-in_err-m.result c.in_err-m.field-0.0 c.from_residual-in_err-m.ensures.1) (grow_no c.requires.2 c.if-end-at.false c.requires.1 c.args.level.left c.requires.0 c.args.nodes.now c.args.text.now c.in_ok-g.ensures refl (rw (c.from-h.ensures, c.tight.ensures) at c.in_err-m.ensures) (numbered _) c.in_err-m.ensures.kept)

pub grow-returns : goal.grow-returns
grow-returns t c = grow_ok c.requires.2 c.if-end-at.false c.requires.1 c.args.level.left c.requires.0 c.args.nodes.now c.args.text.now c.in_ok-g.ensures refl (rw (c.from-h.ensures, c.tight.ensures) at c.in_ok-m.ensures) refl (told_put c.close.ensures) c.in_ok-m.ensures.kept

-- ---- term

pub term-returns-in_default : goal.term-returns-in_default
term-returns-in_default t c = term_none c.in_default.ensures.kind refl c.unexpected.ensures refl (c.requires.inside) (kept_same _)

pub term-returns-in_err-under : goal.term-returns-in_err-under
term-returns-in_err-under t c = rw (handed_on c.from_residual.result c.in_err-under.field-0.0 c.from_residual.ensures.1) (term_deep (c.args.s.now) (c.args.level.lines) (c.args.at.place) (c.in-Some.kind) c.in-Some.ensures.kind (λ z. omega (arith, c.in-Some.ensures.some)) (sym c.is_unary.ensures ∙ c.if-is_unary.true) (c.args.level.left) c.in_err-under.ensures.0 (ap halted c.in_err-under.ensures.1) (kept_same _))

pub term-returns-in_err-g : goal.term-returns-in_err-g
term-returns-in_err-g t c = rw (handed_on c.from_residual-in_err-g.result c.in_err-g.field-0.0 c.from_residual-in_err-g.ensures.1) (term_space (c.args.s.now) (c.args.level.lines) (c.args.at.place) (c.in-Some.kind) c.in-Some.ensures.kind (λ z. omega (arith, c.in-Some.ensures.some)) (sym c.is_unary.ensures ∙ c.if-is_unary.true) (c.args.level.left) c.in_ok-under.ensures.0 c.in_err-g.ensures (numbered _) refl (kept_same _))

pub term-term-requires : goal.term-term-requires
term-term-requires t c = (omega (arith, c.in_ok-under.ensures.0, ap (λ w. w.left) c.in_ok-under.ensures.1, c.in_ok-g.ensures.low), omega (arith, c.requires, c.in_ok-g.ensures.low, c.in_ok-g.ensures.high, term_inside (c.args.s.now) (c.args.level.lines) (c.args.at.place) (c.in-Some.kind) c.in-Some.ensures.kind (λ z. omega (arith, c.in-Some.ensures.some)) (sym c.is_unary.ensures ∙ c.if-is_unary.true) (c.args.level.left)))

pub term-returns-in_err-m : goal.term-returns-in_err-m
term-returns-in_err-m t c = rw (handed_on c.from_residual-in_err-m.result c.in_err-m.field-0.0 c.from_residual-in_err-m.ensures.1) (term_under_no (c.args.s.now) (c.args.level.lines) (c.args.at.place) (c.in-Some.kind) c.in-Some.ensures.kind (λ z. omega (arith, c.in-Some.ensures.some)) (sym c.is_unary.ensures ∙ c.if-is_unary.true) (c.args.level.left) c.in_ok-under.ensures.0 c.in_ok-g.ensures refl (rw c.in_ok-under.ensures.1 at c.in_err-m.ensures) (numbered _) (c.in_err-m.ensures.kept))

pub term-returns-then-is_unary : goal.term-returns-then-is_unary
term-returns-then-is_unary t c = term_under (c.args.s.now) (c.args.level.lines) (c.args.at.place) (c.in-Some.kind) c.in-Some.ensures.kind (λ z. omega (arith, c.in-Some.ensures.some)) (sym c.is_unary.ensures ∙ c.if-is_unary.true) (c.args.level.left) c.in_ok-under.ensures.0 c.in_ok-g.ensures refl (rw c.in_ok-under.ensures.1 at c.in_ok-m.ensures) refl (told_put c.close_at.ensures) (c.in_ok-m.ensures.kept)

pub term-prim-requires : goal.term-prim-requires
term-prim-requires t c = (omega (arith), (c.requires, term_primary (c.args.s.now) (c.args.level.lines) (c.args.at.place) (c.in-Some.kind) c.in-Some.ensures.kind (λ z. omega (arith, c.in-Some.ensures.some)) (c.args.level.left) (sym c.is_unary.ensures ∙ c.if-is_unary.false)))

pub term-returns-in_err-l : goal.term-returns-in_err-l
term-returns-in_err-l t c = rw (handed_on c.from_residual-in_err-l.result c.in_err-l.field-0.0 c.from_residual-in_err-l.ensures.1) (term_head_no (term_picked (c.args.s.now) (c.args.level.lines) (c.args.at.place) (c.in-Some.kind) c.in-Some.ensures.kind (λ z. omega (arith, c.in-Some.ensures.some)) (c.args.level.left)) (term_firm (c.args.s.now) (c.args.level.lines) (c.args.at.place) (c.in-Some.kind) c.in-Some.ensures.kind (λ z. omega (arith, c.in-Some.ensures.some))) c.in_err-l.ensures (numbered _) (c.in_err-l.ensures.kept))

pub term-loop-at-init : goal.term-loop-at-init
term-loop-at-init t c = (turning_start (c.in_ok-l.ensures.room) (c.in_ok-l.ensures.spent) (c.in_ok-l.ensures.high), kept_same _, refl, refl)

pub term-returns-then-f-ne-TRAVERSAL : goal.term-returns-then-f-ne-TRAVERSAL
term-returns-then-f-ne-TRAVERSAL t c = term_stop c.loop-at.invariant.0 (term_picked (c.args.s.now) (c.args.level.lines) (c.args.at.place) (c.in-Some.kind) c.in-Some.ensures.kind (λ z. omega (arith, c.in-Some.ensures.some)) (c.args.level.left)) (term_firm (c.args.s.now) (c.args.level.lines) (c.args.at.place) (c.in-Some.kind) c.in-Some.ensures.kind (λ z. omega (arith, c.in-Some.ensures.some))) (good c.in_ok-l.ensures refl) (λ left. c.unwrap_or-f.ensures ∙ kind_or c.follow.result ∙ c.follow.ensures.kind left) c.if-f-ne-TRAVERSAL.true (told c.accept.ensures) (kept_join (c.in_ok-l.ensures.kept) c.loop-at.invariant.1)

pub term-laid-requires : goal.term-laid-requires
term-laid-requires t c = (omega (arith, c.loop-at.invariant.0.room, c.if-f-ne-TRAVERSAL.false), (omega (arith, c.requires, c.loop-at.invariant.0.room, c.loop-at.invariant.0.spent, c.loop-at.invariant.0.high, c.loop-at.invariant.1.long, c.in_ok-l.ensures.kept.long), record { known = subst Programmed (sym c.if-f-ne-TRAVERSAL.false) (programmed 37 tt); room = c.loop-at.invariant.0.room }))

pub term-returns-in_err-m-2 : goal.term-returns-in_err-m-2
term-returns-in_err-m-2 t c = rw (handed_on c.from_residual-in_err-m-2.result c.in_err-m-2.field-0.0 c.from_residual-in_err-m-2.ensures.1) (term_no c.loop-at.invariant.0 (term_picked (c.args.s.now) (c.args.level.lines) (c.args.at.place) (c.in-Some.kind) c.in-Some.ensures.kind (λ z. omega (arith, c.in-Some.ensures.some)) (c.args.level.left)) (term_firm (c.args.s.now) (c.args.level.lines) (c.args.at.place) (c.in-Some.kind) c.in-Some.ensures.kind (λ z. omega (arith, c.in-Some.ensures.some))) (good c.in_ok-l.ensures refl) (λ left. c.unwrap_or-f.ensures ∙ kind_or c.follow.result ∙ c.follow.ensures.kind left) c.if-f-ne-TRAVERSAL.false c.in_err-m-2.ensures (numbered _) (kept_join (c.in_ok-l.ensures.kept) (kept_join c.loop-at.invariant.1 (c.in_err-m-2.ensures.kept))))

pub term-loop-at-preserved : goal.term-loop-at-preserved
term-loop-at-preserved t c = (term_more c.loop-at.invariant.0 (term_picked (c.args.s.now) (c.args.level.lines) (c.args.at.place) (c.in-Some.kind) c.in-Some.ensures.kind (λ z. omega (arith, c.in-Some.ensures.some)) (c.args.level.left)) (term_firm (c.args.s.now) (c.args.level.lines) (c.args.at.place) (c.in-Some.kind) c.in-Some.ensures.kind (λ z. omega (arith, c.in-Some.ensures.some))) (good c.in_ok-l.ensures refl) (λ left. c.unwrap_or-f.ensures ∙ kind_or c.follow.result ∙ c.follow.ensures.kind left) c.if-f-ne-TRAVERSAL.false c.in_ok-m-2.ensures refl, kept_join c.loop-at.invariant.1 (c.in_ok-m-2.ensures.kept), (c.laid.auto.nodes ∙ c.loop-at.invariant.2), (c.laid.auto.text ∙ c.loop-at.invariant.3))

-- ---- prim

pub prim-array-requires : goal.prim-array-requires
prim-array-requires t c = (omega (arith), (c.requires.0, array_square c.args.s.now c.args.level.left c.args.level.lines c.args.at.place c.args.kind c.if-kind-eq-ARRAY.true (c.requires.1.picked (no_string c.args.kind (sym c.is_quoted.ensures ∙ c.if-is_quoted.false)))))

pub prim-returns-then-kind-eq-ARRAY : goal.prim-returns-then-kind-eq-ARRAY
prim-returns-then-kind-eq-ARRAY t c = prim_laid c.args.s.now c.args.level.left c.args.level.lines c.args.at.place c.args.kind c.requires.1 (no_string c.args.kind (sym c.is_quoted.ensures ∙ c.if-is_quoted.false)) (no_template c.args.kind (sym c.is_quoted.ensures ∙ c.if-is_quoted.false)) c.if-kind-eq-HEREDOC.false c.if-kind-eq-OBJECT.false (array_as c.if-kind-eq-ARRAY.true c.array.ensures)

pub prim-within-requires : goal.prim-within-requires
prim-within-requires t c = (omega (arith), (c.requires.0, bracketed_round c.args.s.now c.args.level.left c.args.level.lines c.args.at.place c.args.kind c.if-kind-eq-PARENTHESES.true (c.requires.1.picked (no_string c.args.kind (sym c.is_quoted.ensures ∙ c.if-is_quoted.false)))))

pub prim-returns-then-kind-eq-PARENTHESES : goal.prim-returns-then-kind-eq-PARENTHESES
prim-returns-then-kind-eq-PARENTHESES t c = prim_laid c.args.s.now c.args.level.left c.args.level.lines c.args.at.place c.args.kind c.requires.1 (no_string c.args.kind (sym c.is_quoted.ensures ∙ c.if-is_quoted.false)) (no_template c.args.kind (sym c.is_quoted.ensures ∙ c.if-is_quoted.false)) c.if-kind-eq-HEREDOC.false c.if-kind-eq-OBJECT.false c.within.ensures

pub prim-laid-requires : goal.prim-laid-requires
prim-laid-requires t c = (omega (arith), (c.requires.0, record { known = (prim_term (c.args.s.now) (c.args.level.left) (c.args.level.lines) (c.args.at.place) (c.args.kind) (c.requires.1) (no_string c.args.kind (sym c.is_quoted.ensures ∙ c.if-is_quoted.false)) (no_template c.args.kind (sym c.is_quoted.ensures ∙ c.if-is_quoted.false)) c.if-kind-eq-HEREDOC.false c.if-kind-eq-OBJECT.false).known; room = omega arith }))

pub prim-returns : goal.prim-returns
prim-returns t c = prim_laid (c.args.s.now) (c.args.level.left) (c.args.level.lines) (c.args.at.place) (c.args.kind) (c.requires.1) (no_string c.args.kind (sym c.is_quoted.ensures ∙ c.if-is_quoted.false)) (no_template c.args.kind (sym c.is_quoted.ensures ∙ c.if-is_quoted.false)) c.if-kind-eq-HEREDOC.false c.if-kind-eq-OBJECT.false c.laid.ensures

-- ---- sub

pub sub-returns-then-class-eq-CALLED : goal.sub-returns-then-class-eq-CALLED
sub-returns-then-class-eq-CALLED t c = sub_name c.child-y.ensures c.if-class-eq-CALLED.true (c.called.ensures.made _ _ _ _ _ _)

pub sub-laid-requires : goal.sub-laid-requires
sub-laid-requires t c = (omega (arith, rank_condition _ c.if-class-eq-FILTER.true, c.child-y.ensures.fewer), (c.requires.0, record { known = condition_known; room = omega arith }))

pub sub-returns-then-class-eq-FILTER : goal.sub-returns-then-class-eq-FILTER
sub-returns-then-class-eq-FILTER t c = sub_condition c.child-y.ensures c.if-class-eq-FILTER.true c.laid.ensures

pub sub-returns-in_default : goal.sub-returns-in_default
sub-returns-in_default t c = sub_part_none c.child-y.ensures c.if-class-eq-PORTION.true c.in_default.ensures.kind refl c.unexpected.ensures refl (c.requires.0.inside) (kept_same _)

pub sub-laid-requires-then-class-eq-PORTION : goal.sub-laid-requires-then-class-eq-PORTION
sub-laid-requires-then-class-eq-PORTION t c = (omega (arith, rank_part _ c.if-class-eq-PORTION.true, c.child-y.ensures.fewer, (part_kind (c.args.s.now) (c.args.at.place) (c.child-y.result.left) (c.child-y.result.lines) (c.in-Some.kind) (c.in-Some.ensures.kind (c.child-y.result.left) (c.child-y.result.lines)) (λ z. omega (arith, c.in-Some.ensures.some))).low), (c.requires.0, record { known = (part_kind (c.args.s.now) (c.args.at.place) (c.child-y.result.left) (c.child-y.result.lines) (c.in-Some.kind) (c.in-Some.ensures.kind (c.child-y.result.left) (c.child-y.result.lines)) (λ z. omega (arith, c.in-Some.ensures.some))).known; room = omega arith }))

pub sub-returns-then-class-eq-PORTION : goal.sub-returns-then-class-eq-PORTION
sub-returns-then-class-eq-PORTION t c = sub_part c.child-y.ensures c.if-class-eq-PORTION.true c.in-Some.ensures.kind (λ z. omega (arith, c.in-Some.ensures.some)) c.laid-then-class-eq-PORTION.ensures

-- ---- laid

-- the child of the instruction
aimed : {t : ℕ} (c : laid-Joined-x-ne-KID t) → Aim c.loop-level.invariant.2 c.instr-x.ensures c.if-x-ne-KID.place c.if-x-ne-KID.further
aimed c =
    elim c.if-x-ne-KID.branch [
      | laid-then-x-ne-KID+in-Ok+else-x-ne-REP w ↦ aim_past c.loop-level.invariant.2 c.instr-x.ensures w.if-x-ne-REP.false (rw w.in-Ok.is at w.walk.ensures) refl w.place-is w.further-is
      | laid-else-x-ne-KID w ↦ aim_kid c.loop-level.invariant.2 c.instr-x.ensures w.if-x-ne-KID.false w.place-is w.further-is
    ]

pub laid-loop-level-init : goal.laid-loop-level-init
laid-loop-level-init t c = (c.requires.0, c.requires.1, turn_start_laids c.requires.1.known c.begin-pc.ensures c.requires.0.inside, kept_same _, refl, refl)

pub laid-close-requires : goal.laid-close-requires
laid-close-requires t c = omega (arith, c.loop-level.invariant.0, c.loop-level.invariant.1.room, laid_room c.loop-level.invariant.2 c.instr-x.ensures c.if-x-eq-FIN.true, c.instr-x.ensures.short, c.loop-level.invariant.2.high)

pub laid-returns-then-x-eq-FIN : goal.laid-returns-then-x-eq-FIN
laid-returns-then-x-eq-FIN t c = laid_ok c.loop-level.invariant.2 c.instr-x.ensures c.loop-level.invariant.3 c.if-x-eq-FIN.true (told_put c.close.ensures)

pub laid-overflow_add-further : goal.laid-overflow_add-further
laid-overflow_add-further t c = omega (arith, laid_within c.loop-level.invariant.2 c.instr-x.ensures)

pub laid-returns-in-Err : goal.laid-returns-in-Err
laid-returns-in-Err t c = laid_stop c.loop-level.invariant.2 c.instr-x.ensures (rw c.in-Err.is at c.walk.ensures) c.if-x-eq-MOVE.true (numbered _) refl c.loop-level.invariant.3

pub laid-loop-level-smaller-in-Err-2 : goal.laid-loop-level-smaller-in-Err-2
laid-loop-level-smaller-in-Err-2 t c = omega (arith, laid_later c.loop-level.invariant.2 c.instr-x.ensures (rw c.in-Err-2.is at c.walk.ensures) c.if-x-eq-FIN.false c.if-x-ne-KID.true c.if-x-eq-MOVE.false, laid_within c.loop-level.invariant.2 c.instr-x.ensures)

pub laid-loop-level-preserved-in-Err-2 : goal.laid-loop-level-preserved-in-Err-2
laid-loop-level-preserved-in-Err-2 t c = (c.loop-level.invariant.0, c.loop-level.invariant.1, laid_other c.loop-level.invariant.2 c.instr-x.ensures (rw c.in-Err-2.is at c.walk.ensures) c.if-x-eq-FIN.false c.if-x-ne-KID.true c.if-x-eq-MOVE.false (numbered _), c.loop-level.invariant.3, c.loop-level.invariant.4, c.loop-level.invariant.5)

pub laid-overflow_add-pc : goal.laid-overflow_add-pc
laid-overflow_add-pc t c = omega (arith, laid_within c.loop-level.invariant.2 c.instr-x.ensures)

pub laid-loop-level-smaller-then-x-ne-REP : goal.laid-loop-level-smaller-then-x-ne-REP
laid-loop-level-smaller-then-x-ne-REP t c = omega (arith, laid_within c.loop-level.invariant.2 c.instr-x.ensures, (rw c.in-Ok.is at c.walk.ensures).low, (rw c.in-Ok.is at c.walk.ensures).high, c.loop-level.invariant.2.high)

pub laid-loop-level-preserved-then-x-ne-REP : goal.laid-loop-level-preserved-then-x-ne-REP
laid-loop-level-preserved-then-x-ne-REP t c = (c.loop-level.invariant.0, c.loop-level.invariant.1, laid_on c.loop-level.invariant.2 c.instr-x.ensures (rw c.in-Ok.is at c.walk.ensures) c.if-x-eq-FIN.false c.if-x-ne-KID.true c.if-x-ne-REP.true refl, c.loop-level.invariant.3, c.loop-level.invariant.4, c.loop-level.invariant.5)

pub laid-sub-requires : goal.laid-sub-requires
laid-sub-requires t c = let aim = aimed (goal.at.laid-sub-requires t c).Joined-x-ne-KID in (
  ⊎_elim (λ a. omega (arith, a, rank_most c.instr-x.result.class, aim_high c.loop-level.invariant.2 c.instr-x.ensures aim)) (λ a. omega (arith, a, c.loop-level.invariant.2.low, aim_low c.loop-level.invariant.2 c.instr-x.ensures aim)) (aim_lead c.loop-level.invariant.2 c.instr-x.ensures aim),
  (omega (arith, c.loop-level.invariant.0, c.loop-level.invariant.2.low, c.loop-level.invariant.2.spent, c.loop-level.invariant.3.long, aim_low c.loop-level.invariant.2 c.instr-x.ensures aim, aim_high c.loop-level.invariant.2 c.instr-x.ensures aim), c.instr-x.ensures.known),
)

pub laid-returns-in_err-m : goal.laid-returns-in_err-m
laid-returns-in_err-m t c = rw (handed_on c.from_residual.result c.in_err-m.field-0.0 c.from_residual.ensures.1) (let aim = aimed (goal.at.laid-returns-in_err-m t c).Joined-x-ne-KID in aim_no c.loop-level.invariant.2 c.instr-x.ensures aim c.in_err-m.ensures (numbered _) (kept_join c.loop-level.invariant.3 c.in_err-m.ensures.said.kept))

pub laid-overflow_add-n : goal.laid-overflow_add-n
laid-overflow_add-n t c = let aim = aimed (goal.at.laid-overflow_add-n t c).Joined-x-ne-KID in omega (arith, c.loop-level.invariant.0, c.loop-level.invariant.2.low, aim_low c.loop-level.invariant.2 c.instr-x.ensures aim, c.in_ok-m.ensures.said.room, c.in_ok-m.ensures.said.high)

pub laid-overflow_add-t : goal.laid-overflow_add-t
laid-overflow_add-t t c = let aim = aimed (goal.at.laid-overflow_add-t t c).Joined-x-ne-KID in omega (arith, c.loop-level.invariant.0, c.loop-level.invariant.2.spent, aim_low c.loop-level.invariant.2 c.instr-x.ensures aim, c.in_ok-m.ensures.said.spent, c.in_ok-m.ensures.said.high)

pub laid-loop-level-smaller : goal.laid-loop-level-smaller
laid-loop-level-smaller t c = let aim = aimed (goal.at.laid-loop-level-smaller t c).Joined-x-ne-KID in omega (arith, aim_far c.loop-level.invariant.2 c.instr-x.ensures aim c.in_ok-m.ensures refl, c.in_ok-m.ensures.said.high)

pub laid-loop-level-preserved : goal.laid-loop-level-preserved
laid-loop-level-preserved t c = let aim = aimed (goal.at.laid-loop-level-preserved t c).Joined-x-ne-KID in (c.loop-level.invariant.0, c.loop-level.invariant.1, aim_yes c.loop-level.invariant.2 c.instr-x.ensures aim c.in_ok-m.ensures refl, kept_join c.loop-level.invariant.3 c.in_ok-m.ensures.said.kept, (c.sub.auto.nodes ∙ c.loop-level.invariant.4), (c.sub.auto.text ∙ c.loop-level.invariant.5))

-- ---- part

pub part-returns-in_default : goal.part-returns-in_default
part-returns-in_default t c = part_none c.in_default.ensures.kind refl c.unexpected.ensures refl c.requires.inside (kept_same _)

pub part-attribute-requires : goal.part-attribute-requires
part-attribute-requires t c = (record { small = c.requires.small; inside = c.requires.inside; few = c.requires.few }, part_dot c.args.s.now c.args.at.place c.in-Some.ensures.kind c.if-kind-eq-ATTRIBUTE.true)

pub part-returns-then-kind-eq-ATTRIBUTE : goal.part-returns-then-kind-eq-ATTRIBUTE
part-returns-then-kind-eq-ATTRIBUTE t c = part_bare c.in-Some.ensures.kind c.if-kind-eq-ATTRIBUTE.true c.attribute.ensures

pub part-within-requires : goal.part-within-requires
part-within-requires t c = (omega (arith), (c.requires, bracketed_square c.args.s.now c.args.at.place c.in-Some.kind c.if-kind-eq-INDEX.true (part_square c.args.s.now c.args.at.place c.in-Some.ensures.kind c.if-kind-eq-INDEX.true)))

pub part-returns-then-kind-eq-INDEX : goal.part-returns-then-kind-eq-INDEX
part-returns-then-kind-eq-INDEX t c = part_made c.in-Some.ensures.kind (λ z. omega (arith, c.in-Some.ensures.some)) c.within.ensures

pub part-laid-requires : goal.part-laid-requires
part-laid-requires t c = (omega (arith, (part_kind c.args.s.now c.args.at.place c.args.level.left c.args.level.lines c.in-Some.kind (c.in-Some.ensures.kind c.args.level.left c.args.level.lines) (λ z. omega (arith, c.in-Some.ensures.some))).low), (c.requires, record { known = (part_kind c.args.s.now c.args.at.place c.args.level.left c.args.level.lines c.in-Some.kind (c.in-Some.ensures.kind c.args.level.left c.args.level.lines) (λ z. omega (arith, c.in-Some.ensures.some))).known; room = omega arith }))

pub part-returns : goal.part-returns
part-returns t c = part_made c.in-Some.ensures.kind (λ z. omega (arith, c.in-Some.ensures.some)) c.laid.ensures

-- ---- parts

pub parts-loop-g-init : goal.parts-loop-g-init
parts-loop-g-init t c = (c.requires.0, c.requires.1, parting_start c.requires.0.inside, kept_same _, refl, refl)

pub parts-returns-then-n-eq0 : goal.parts-returns-then-n-eq0
parts-returns-then-n-eq0 t c = parts_gap c.loop-g.invariant.2 (moved_in c.in-Err.is c.space.ensures) (numbered _) c.if-n-eq0.true refl c.loop-g.invariant.3

pub parts-returns-in-Err : goal.parts-returns-in-Err
parts-returns-in-Err t c = parts_cut c.loop-g.invariant.2 (moved_in c.in-Err.is c.space.ensures) (numbered _) c.if-n-eq0.false (told_put (rw c.requires.2 at c.close.ensures)) c.loop-g.invariant.3

pub parts-returns-then-n-eq0-2 : goal.parts-returns-then-n-eq0-2
parts-returns-then-n-eq0-2 t c = parts_else c.loop-g.invariant.2 (moved_in c.in-Ok.is c.space.ensures) refl (sym c.is_part.ensures ∙ c.if-not-is_part.true) c.if-n-eq0-2.true c.unexpected.ensures refl c.loop-g.invariant.3

pub parts-returns-then-not-is_part : goal.parts-returns-then-not-is_part
parts-returns-then-not-is_part t c = parts_end c.loop-g.invariant.2 (moved_in c.in-Ok.is c.space.ensures) refl (sym c.is_part.ensures ∙ c.if-not-is_part.true) c.if-n-eq0-2.false (told_put (rw c.requires.2 at c.close-then-not-is_part.ensures)) c.loop-g.invariant.3

pub parts-returns-in_err-m : goal.parts-returns-in_err-m
parts-returns-in_err-m t c = rw (handed_on c.from_residual.result c.in_err-m.field-0.0 c.from_residual.ensures.1) (parts_no c.loop-g.invariant.2 (moved_in c.in-Ok.is c.space.ensures) refl (sym c.is_part.ensures ∙ c.if-not-is_part.false) c.in_err-m.ensures (numbered _) (kept_join c.loop-g.invariant.3 c.in_err-m.ensures.said.kept))

pub parts-loop-g-preserved : goal.parts-loop-g-preserved
parts-loop-g-preserved t c = (c.loop-g.invariant.0, c.loop-g.invariant.1, parts_more c.loop-g.invariant.2 (moved_in c.in-Ok.is c.space.ensures) refl (sym c.is_part.ensures ∙ c.if-not-is_part.false) c.in_ok-m.ensures refl, kept_join c.loop-g.invariant.3 c.in_ok-m.ensures.said.kept, (c.part.auto.nodes ∙ c.loop-g.invariant.4), (c.part.auto.text ∙ c.loop-g.invariant.5))

-- ---- array

pub array-returns-in_err-under : goal.array-returns-in_err-under
array-returns-in_err-under t c = rw (handed_on c.from_residual.result c.in_err-under.field-0.0 c.from_residual.ensures.1) (array_deep c.requires.0 c.requires.1 c.args.level.left c.args.level.lines c.args.nodes.now c.args.text.now c.in_err-under.ensures.0 (ap halted c.in_err-under.ensures.1) (kept_same _))

pub array-returns-in_err-g : goal.array-returns-in_err-g
array-returns-in_err-g t c = rw (handed_on c.from_residual-in_err-g.result c.in_err-g.field-0.0 c.from_residual-in_err-g.ensures.1) (array_gap c.requires.0 c.requires.1 c.args.level.left c.args.level.lines c.args.nodes.now c.args.text.now c.in_ok-under.ensures.0 c.in_err-g.ensures (numbered _) refl (kept_same _))

pub array-loop-under-init : goal.array-loop-under-init
array-loop-under-init t c = (c.requires.0, arraying_start c.requires.0 c.requires.1 c.args.level.left c.args.level.lines c.args.nodes.now c.args.text.now c.in_ok-under.ensures.0 c.in_ok-g.ensures refl, kept_same _, refl, refl)

pub array-close_at-requires : goal.array-close_at-requires
array-close_at-requires t c = array_closing c.loop-under.invariant.1 (sym c.one_at.ensures ∙ c.if-one_at.true) c.loop-under.invariant.0

pub array-returns-then-one_at : goal.array-returns-then-one_at
array-returns-then-one_at t c = array_ok c.loop-under.invariant.1 (sym c.one_at.ensures ∙ c.if-one_at.true) (told_put c.close_at.ensures) c.loop-under.invariant.2

pub array-returns-in_err-m : goal.array-returns-in_err-m
array-returns-in_err-m t c = rw (handed_on c.from_residual-in_err-m.result c.in_err-m.field-0.0 c.from_residual-in_err-m.ensures.1) (array_no c.loop-under.invariant.1 (sym c.one_at.ensures ∙ c.if-one_at.false) (rw c.in_ok-under.ensures.1 at c.in_err-m.ensures) (numbered _) (kept_join c.loop-under.invariant.2 c.in_err-m.ensures.kept))

pub array-returns-in_err-c : goal.array-returns-in_err-c
array-returns-in_err-c t c = rw (handed_on c.from_residual-in_err-c.result c.in_err-c.field-0.0 c.from_residual-in_err-c.ensures.1) (array_else c.loop-under.invariant.1 (sym c.one_at.ensures ∙ c.if-one_at.false) (rw c.in_ok-under.ensures.1 at c.in_ok-m.ensures) refl c.in_err-c.ensures (numbered _) refl (kept_join c.loop-under.invariant.2 c.in_ok-m.ensures.kept))

pub array-loop-under-preserved : goal.array-loop-under-preserved
array-loop-under-preserved t c = (c.loop-under.invariant.0, array_more c.loop-under.invariant.1 (sym c.one_at.ensures ∙ c.if-one_at.false) (rw c.in_ok-under.ensures.1 at c.in_ok-m.ensures) refl c.in_ok-c.ensures refl, (kept_join c.loop-under.invariant.2 c.in_ok-m.ensures.kept), (c.expr.auto.nodes ∙ c.loop-under.invariant.3), (c.expr.auto.text ∙ c.loop-under.invariant.4))

-- ---- object

pub object-returns-in_err-under : goal.object-returns-in_err-under
object-returns-in_err-under t c = rw (handed_on c.from_residual.result c.in_err-under.field-0.0 c.from_residual.ensures.1) (object_deep c.args.s.now c.args.level.left c.args.level.lines c.args.at.records c.args.at.text c.args.at.place c.requires.1 c.requires.0.inside c.in_err-under.ensures.0 (ap halted c.in_err-under.ensures.1))

pub object-returns-in_err-g : goal.object-returns-in_err-g
object-returns-in_err-g t c = rw (handed_on c.from_residual-in_err-g.result c.in_err-g.field-0.0 c.from_residual-in_err-g.ensures.1) (object_open_no c.args.s.now c.args.level.left c.args.level.lines c.args.at.records c.args.at.text c.args.at.place c.requires.1 c.requires.0.inside c.in_ok-under.ensures.0 (c.in_err-g.ensures.bad (numbered _)) (numbered _) refl c.in_err-g.ensures.low (omega (arith, c.in_err-g.ensures.high, inside_brace c.args.s.now c.args.level.left c.args.level.lines c.args.at.records c.args.at.text c.args.at.place c.requires.1 c.requires.0.inside)))

pub object-close_at-requires : goal.object-close_at-requires
object-close_at-requires t c = omega (arith, c.requires.0, inside_brace c.args.s.now c.args.level.left c.args.level.lines c.args.at.records c.args.at.text c.args.at.place c.requires.1 c.requires.0.inside, c.in_ok-g.ensures.low, c.in_ok-g.ensures.high, close_room c.args.s.now _ (stood c.args.s.now _ c.one_at.ensures c.if-one_at.true))

pub object-returns-then-one_at : goal.object-returns-then-one_at
object-returns-then-one_at t c = object_empty c.args.s.now c.args.level.left c.args.level.lines c.args.at.records c.args.at.text c.args.at.place c.requires.1 c.requires.0.inside c.in_ok-under.ensures.0 (c.in_ok-g.ensures.good refl) c.in_ok-g.ensures.low (omega (arith, c.in_ok-g.ensures.high, inside_brace c.args.s.now c.args.level.left c.args.level.lines c.args.at.records c.args.at.text c.args.at.place c.requires.1 c.requires.0.inside)) (stood c.args.s.now _ c.one_at.ensures c.if-one_at.true) (told c.close_at.ensures.0) c.close_at.ensures.1

pub object-loop-m-init : goal.object-loop-m-init
object-loop-m-init t c = (turn_start_objectturns c.args.s.now c.args.level.left c.args.level.lines c.args.at.records c.args.at.text c.args.at.place c.requires.1 c.requires.0.inside c.in_ok-under.ensures.0 (c.in_ok-g.ensures.good refl) c.in_ok-g.ensures.low (omega (arith, c.in_ok-g.ensures.high, inside_brace c.args.s.now c.args.level.left c.args.level.lines c.args.at.records c.args.at.text c.args.at.place c.requires.1 c.requires.0.inside)) c.requires.0.opened c.requires.0.wide (stood c.args.s.now _ c.one_at.ensures c.if-one_at.false), refl, refl)

pub object-returns-in_err-m : goal.object-returns-in_err-m
object-returns-in_err-m t c = rw (handed_on c.from_residual-in_err-m.result c.in_err-m.field-0.0 c.from_residual-in_err-m.ensures.1) (turn_no c.args.s.now c.args.level.left c.args.level.lines c.args.at.records c.args.at.text c.args.at.place c.requires.1 c.requires.0.inside c.loop-m.invariant.0 (rw c.in_ok-under.ensures.1 at c.in_err-m.ensures) (numbered _))

pub object-returns-in_err-c : goal.object-returns-in_err-c
object-returns-in_err-c t c = rw (handed_on c.from_residual-in_err-c.result c.in_err-c.field-0.0 c.from_residual-in_err-c.ensures.1) (object_end_no c.args.s.now c.args.level.left c.args.level.lines c.args.at.records c.args.at.text c.args.at.place c.requires.1 c.requires.0.inside c.loop-m.invariant.0 (rw c.in_ok-under.ensures.1 at c.in_ok-m.ensures) refl (c.in_err-c.ensures.bad (numbered _)) (numbered _) refl c.in_err-c.ensures.low (omega (arith, c.in_err-c.ensures.high, c.in_ok-m.ensures.high)))

pub object-close_at-requires-then-one_at-2 : goal.object-close_at-requires-then-one_at-2
object-close_at-requires-then-one_at-2 t c = omega (arith, c.requires.0.small, c.requires.0.few, c.requires.0.used, c.requires.0.wide, c.loop-m.invariant.0.room, c.loop-m.invariant.0.spent, c.loop-m.invariant.0.high, c.loop-m.invariant.0.few, c.loop-m.invariant.0.low, c.loop-m.invariant.0.kept.long, c.in_ok-m.ensures.room, c.in_ok-m.ensures.spent, c.in_ok-m.ensures.high, c.in_ok-m.ensures.kept.long, c.in_ok-c.ensures.low, c.in_ok-c.ensures.high, close_room c.args.s.now _ (stood c.args.s.now _ c.one_at-in-loop-m.ensures c.if-one_at-2.true))

pub object-returns-then-one_at-2 : goal.object-returns-then-one_at-2
object-returns-then-one_at-2 t c = object_end c.args.s.now c.args.level.left c.args.level.lines c.args.at.records c.args.at.text c.args.at.place c.requires.1 c.requires.0.inside c.loop-m.invariant.0 (rw c.in_ok-under.ensures.1 at c.in_ok-m.ensures) refl (c.in_ok-c.ensures.good refl) c.in_ok-c.ensures.low (omega (arith, c.in_ok-c.ensures.high, c.in_ok-m.ensures.high)) (stood c.args.s.now _ c.one_at-in-loop-m.ensures c.if-one_at-2.true) (told c.close_at-then-one_at-2.ensures.0) c.close_at-then-one_at-2.ensures.1

pub object-keep-top-requires : goal.object-keep-top-requires
object-keep-top-requires t c = turn_keeping c.args.s.now c.args.level.left c.args.level.lines c.args.at.records c.args.at.text c.args.at.place c.requires.1 c.requires.0.inside c.loop-m.invariant.0 (rw c.in_ok-under.ensures.1 at c.in_ok-m.ensures) refl _ c.requires.0.small c.requires.0.wide c.marked-h.ensures c.key_at-word.ensures c.is_some.ensures

pub object-loop-m-preserved : goal.object-loop-m-preserved
object-loop-m-preserved t c = (turn_more c.args.s.now c.args.level.left c.args.level.lines c.args.at.records c.args.at.text c.args.at.place c.requires.1 c.requires.0.inside c.loop-m.invariant.0 (rw c.in_ok-under.ensures.1 at c.in_ok-m.ensures) refl (c.in_ok-c.ensures.good refl) c.in_ok-c.ensures.low (omega (arith, c.in_ok-c.ensures.high, c.in_ok-m.ensures.high)) (stood c.args.s.now _ c.one_at-in-loop-m.ensures c.if-one_at-2.false) c.keep-top.ensures, c.item.auto.nodes ∙ c.loop-m.invariant.1, c.item.auto.text ∙ c.loop-m.invariant.2)

-- ---- item

pub item-returns-in_err-m : goal.item-returns-in_err-m
item-returns-in_err-m t c = rw (handed_on c.from_residual.result c.in_err-m.field-0.0 c.from_residual.ensures.1) (no_key c.args.first c.in_err-m.ensures c.requires.0.inside (numbered _))

pub item-sign_at-requires : goal.item-sign_at-requires
item-sign_at-requires t c = (still_indexed c.in_ok-m.ensures.kept c.requires.1, c.requires.2)

pub item-returns-in_err-c : goal.item-returns-in_err-c
item-returns-in_err-c t c = rw (handed_on c.from_residual-in_err-c.result c.in_err-c.field-0.0 c.from_residual-in_err-c.ensures.1) (no_sign c.args.first c.in_ok-m.ensures c.requires.0.inside refl c.bare.ensures c.in_err-c.ensures.is (numbered _) refl (c.in_err-c.ensures.low (omega (arith, c.in_ok-m.ensures.room))) (c.in_err-c.ensures.high (omega (arith, c.in_ok-m.ensures.room)) c.in_ok-m.ensures.high))

pub item-returns-in_err-g : goal.item-returns-in_err-g
item-returns-in_err-g t c = rw (handed_on c.from_residual-in_err-g.result c.in_err-g.field-0.0 c.from_residual-in_err-g.ensures.1) (no_space c.args.first c.in_ok-m.ensures c.requires.0.inside refl c.bare.ensures c.in_ok-c.ensures.is refl (c.in_ok-c.ensures.ate refl) (c.in_ok-c.ensures.high (omega (arith, c.in_ok-m.ensures.room)) c.in_ok-m.ensures.high) (c.in_err-g.ensures.bad (numbered _)) (numbered _) refl c.in_err-g.ensures.low (omega (arith, c.in_err-g.ensures.high, c.in_ok-c.ensures.high (omega (arith, c.in_ok-m.ensures.room)) c.in_ok-m.ensures.high)))

pub item-returns-in_err-v : goal.item-returns-in_err-v
item-returns-in_err-v t c = rw (handed_on c.from_residual-in_err-v.result c.in_err-v.field-0.0 c.from_residual-in_err-v.ensures.1) (no_value c.args.first c.in_ok-m.ensures c.requires.0.inside refl c.bare.ensures c.in_ok-c.ensures.is refl (c.in_ok-c.ensures.ate refl) (c.in_ok-c.ensures.high (omega (arith, c.in_ok-m.ensures.room)) c.in_ok-m.ensures.high) (c.in_ok-g.ensures.good refl) c.in_ok-g.ensures.low (omega (arith, c.in_ok-g.ensures.high, c.in_ok-c.ensures.high (omega (arith, c.in_ok-m.ensures.room)) c.in_ok-m.ensures.high)) c.in_err-v.ensures (numbered _))

pub item-returns : goal.item-returns
item-returns t c = item_done c.args.first c.in_ok-m.ensures c.requires.0.inside refl c.bare.ensures c.in_ok-c.ensures.is refl (c.in_ok-c.ensures.ate refl) (c.in_ok-c.ensures.high (omega (arith, c.in_ok-m.ensures.room)) c.in_ok-m.ensures.high) (c.in_ok-g.ensures.good refl) c.in_ok-g.ensures.low (omega (arith, c.in_ok-g.ensures.high, c.in_ok-c.ensures.high (omega (arith, c.in_ok-m.ensures.room)) c.in_ok-m.ensures.high)) c.in_ok-v.ensures refl (told c.close_at.ensures.0) c.close_at.ensures.1

-- ---- named

pub named-returns-then-find : goal.named-returns-then-find
named-returns-then-find t c = named_met c.requires.3 c.requires.0 c.args.first c.find.ensures c.args.left c.args.nodes.now c.if-find.true c.name.ensures (ap halted c.at.ensures)

pub named-returns-in_err-g : goal.named-returns-in_err-g
named-returns-in_err-g t c = rw (handed_on c.from_residual.result c.in_err-g.field-0.0 c.from_residual.ensures.1) (named_space c.requires.3 c.requires.0 c.args.first c.find.ensures c.if-find.false c.args.left c.args.nodes.now c.args.text.now c.name.ensures c.in_err-g.ensures (numbered _) refl)

pub named-returns-in_err-v : goal.named-returns-in_err-v
named-returns-in_err-v t c = rw (handed_on c.from_residual-in_err-v.result c.in_err-v.field-0.0 c.from_residual-in_err-v.ensures.1) (named_value c.requires.3 c.requires.0 c.args.first c.find.ensures c.if-find.false c.args.left c.args.nodes.now c.args.text.now c.name.ensures c.in_ok-g.ensures refl c.in_err-v.ensures (numbered _))

pub named-returns : goal.named-returns
named-returns t c = named_done c.requires.3 c.requires.0 c.args.first c.find.ensures c.if-find.false c.args.left c.args.nodes.now c.args.text.now c.name.ensures c.in_ok-g.ensures refl c.in_ok-v.ensures refl (told_put c.close_at.ensures)

-- ---- quoted

pub quoted-returns-in_default : goal.quoted-returns-in_default
quoted-returns-in_default t c = c.string.ensures.said c.args.level.left c.args.level.lines (run_string c.args.s.now c.args.level.left c.args.level.lines c.args.at.place c.requires.1 c.run_at-r.ensures c.in_default.not-Interpolation) c.args.at.keys _

pub quoted-returns : goal.quoted-returns
quoted-returns t c = quoted_said c.args.s.now c.args.level.left c.args.level.lines c.args.at.place (run_template c.args.s.now c.args.level.left c.args.level.lines c.args.at.place c.requires.1 c.run_at-r.ensures c.in-Interpolation.is) c.pieces.ensures

-- ---- heredoc

pub heredoc-returns-in-Err : goal.heredoc-returns-in-Err
heredoc-returns-in-Err t c = heredoc_no c.args.s.now c.args.level.left c.args.level.lines c.args.at.place c.requires.1 c.in-Err.ensures refl c.unexpected.ensures refl c.requires.0.inside

pub heredoc-pieces-requires : goal.heredoc-pieces-requires
heredoc-pieces-requires t c = (omega (arith, c.in-Ok.ensures, c.requires.0), (heredoc_asked c.args.s.now c.args.level.left c.args.level.lines c.args.at.place c.requires.1 c.in-Ok.ensures c.requires.0, heredoc_texting c.args.s.now c.args.level.left c.args.level.lines c.args.at.place c.requires.1 c.in-Ok.ensures refl c.from-flag.result (flag_few c.in-Ok.o.dash c.from-flag.ensures), refl))

pub heredoc-returns : goal.heredoc-returns
heredoc-returns t c = heredoc_said c.args.s.now c.args.level.left c.args.level.lines c.args.at.place c.requires.1 c.in-Ok.ensures refl c.from-flag.result (sym (c.from-flag.ensures ∙ flag_byte c.in-Ok.o.dash)) c.pieces.ensures

-- ---- pieces

-- a run that ends for any reason but an interpolation
pub pieces-loop-q-init : goal.pieces-loop-q-init
pieces-loop-q-init t c = (c.requires.0, c.requires.1, round_start c.requires.0.inside, refl, refl)

pub pieces-loop-q-preserved-then-r-q : goal.pieces-loop-q-preserved-then-r-q
pieces-loop-q-preserved-then-r-q t c = (c.loop-q.invariant.0, c.loop-q.invariant.1, round_piece c.loop-q.invariant.2 c.loop-q.invariant.1 c.run_at-r.ensures c.if-r-q.true c.piece-v.ensures, c.piece-v.auto.nodes ∙ c.loop-q.invariant.3, c.piece-v.auto.text ∙ c.loop-q.invariant.4)

pub pieces-returns-in_err-c : goal.pieces-returns-in_err-c
pieces-returns-in_err-c t c = rw (handed_on c.from_residual.result c.in_err-c.field-0.0 c.from_residual.ensures.1) (round_ends_no c.loop-q.invariant.2 c.loop-q.invariant.1 c.run_at-r.ensures c.if-r-q.false c.in_default.not-Interpolation c.in_err-c.ensures (numbered _))

pub pieces-close-requires : goal.pieces-close-requires
pieces-close-requires t c = rw c.requires.2 (round_closing c.loop-q.invariant.2 c.loop-q.invariant.1 c.run_at-r.ensures c.if-r-q.false c.in_default.not-Interpolation c.in_ok-c.ensures c.loop-q.invariant.0.small (omega (arith, c.loop-q.invariant.0)) refl)

pub pieces-returns-in_default : goal.pieces-returns-in_default
pieces-returns-in_default t c = round_closes c.loop-q.invariant.2 c.loop-q.invariant.1 c.run_at-r.ensures c.if-r-q.false c.in_default.not-Interpolation c.in_ok-c.ensures refl (told c.close.ensures.0) (rw c.requires.2 at c.close.ensures.1)

pub pieces-returns-in_err-m : goal.pieces-returns-in_err-m
pieces-returns-in_err-m t c = rw (handed_on c.from_residual-in_err-m.result c.in_err-m.field-0.0 c.from_residual-in_err-m.ensures.1) (round_interp_no c.loop-q.invariant.2 c.loop-q.invariant.1 c.run_at-r.ensures c.if-r-q.false c.in-Interpolation.is c.in_err-m.ensures (numbered _))

pub pieces-loop-q-preserved : goal.pieces-loop-q-preserved
pieces-loop-q-preserved t c = (c.loop-q.invariant.0, c.loop-q.invariant.1, round_interp c.loop-q.invariant.2 c.loop-q.invariant.1 c.run_at-r.ensures c.if-r-q.false c.in-Interpolation.is c.in_ok-m.ensures refl, c.interp.auto.nodes ∙ c.loop-q.invariant.3, c.interp.auto.text ∙ c.loop-q.invariant.4)

-- ---- interp

pub interp-returns-then-not-two_at : goal.interp-returns-then-not-two_at
interp-returns-then-not-two_at t c = interp_none c.requires c.args.level.left c.args.level.lines c.args.nodes.now c.args.text.now (sym c.two_at.ensures ∙ c.if-not-two_at.true) c.unexpected.ensures refl (kept_same _)

pub interp-returns-in_err-under : goal.interp-returns-in_err-under
interp-returns-in_err-under t c = rw (handed_on c.from_residual.result c.in_err-under.field-0.0 c.from_residual.ensures.1) (interp_deep c.requires c.args.level.left c.args.level.lines c.args.nodes.now c.args.text.now (sym c.two_at.ensures ∙ c.if-not-two_at.false) c.in_err-under.ensures.0 (ap halted c.in_err-under.ensures.1) (kept_same _))

pub interp-returns-in_err-g : goal.interp-returns-in_err-g
interp-returns-in_err-g t c = rw (handed_on c.from_residual-in_err-g.result c.in_err-g.field-0.0 c.from_residual-in_err-g.ensures.1) (interp_gap c.requires c.args.level.left c.args.level.lines c.args.nodes.now c.args.text.now (sym c.two_at.ensures ∙ c.if-not-two_at.false) c.in_ok-under.ensures.0 c.tilde-f.ensures c.in_err-g.ensures (numbered _) refl (kept_same _))

pub interp-expr-requires : goal.interp-expr-requires
interp-expr-requires t c = (
  omega (arith, c.in_ok-under.ensures.0, ap (λ w. w.left) c.in_ok-under.ensures.1, c.requires.small),
  (
    record {
      small = c.requires.small;
      inside = omega (arith, c.in_ok-g.ensures.high, tilde_high c.args.s.now (c.args.at.place + 2) (interp_two c.args.s.now c.args.at.place (sym c.two_at.ensures ∙ c.if-not-two_at.false)), c.tilde-f.ensures);
      few = omega (arith, c.requires.few, c.in_ok-g.ensures.low);
      used = omega (arith, c.requires.used, c.in_ok-g.ensures.low);
      opened = omega (arith, c.requires.opened, c.in_ok-g.ensures.low);
      wide = c.requires.wide;
    },
    omega arith,
  ),
)

pub interp-returns-in_err-m : goal.interp-returns-in_err-m
interp-returns-in_err-m t c = rw (handed_on c.from_residual-in_err-m.result c.in_err-m.field-0.0 c.from_residual-in_err-m.ensures.1) (interp_no c.requires c.args.level.left c.args.level.lines c.args.nodes.now c.args.text.now (sym c.two_at.ensures ∙ c.if-not-two_at.false) c.in_ok-under.ensures.0 c.tilde-f.ensures c.in_ok-g.ensures refl (rw c.in_ok-under.ensures.1 at c.in_err-m.ensures) (numbered _) c.in_err-m.ensures.kept)

pub interp-returns-in_err-h : goal.interp-returns-in_err-h
interp-returns-in_err-h t c = rw (handed_on c.from_residual-in_err-h.result c.in_err-h.field-0.0 c.from_residual-in_err-h.ensures.1) (interp_open c.requires c.args.level.left c.args.level.lines c.args.nodes.now c.args.text.now (sym c.two_at.ensures ∙ c.if-not-two_at.false) c.in_ok-under.ensures.0 c.tilde-f.ensures c.in_ok-g.ensures refl (rw c.in_ok-under.ensures.1 at c.in_ok-m.ensures) refl c.in_err-h.ensures (numbered _) refl c.in_ok-m.ensures.kept)

pub interp-returns-then-not-one_at : goal.interp-returns-then-not-one_at
interp-returns-then-not-one_at t c = interp_else c.requires c.args.level.left c.args.level.lines c.args.nodes.now c.args.text.now (sym c.two_at.ensures ∙ c.if-not-two_at.false) c.in_ok-under.ensures.0 c.tilde-f.ensures c.in_ok-g.ensures refl (rw c.in_ok-under.ensures.1 at c.in_ok-m.ensures) refl c.in_ok-h.ensures refl c.tilde-z.ensures (sym c.one_at.ensures ∙ c.if-not-one_at.true) c.unexpected-then-not-one_at.ensures refl c.in_ok-m.ensures.kept

pub interp-close_at-requires : goal.interp-close_at-requires
interp-close_at-requires t c = record {
  few = omega (arith, c.requires.few, c.requires.inside, c.requires.small);
  some = omega (arith, tilde_few c.args.s.now (c.args.at.place + 2), c.tilde-f.ensures, tilde_few c.args.s.now c.in_ok-h.h, c.tilde-z.ensures);
  low = omega (arith, c.in_ok-g.ensures.low, c.in_ok-m.ensures.room, c.in_ok-h.ensures.low);
  room = omega (arith, c.in_ok-g.ensures.low, c.in_ok-m.ensures.room, c.in_ok-h.ensures.low);
  small = omega (arith, brace_high c.args.s.now (c.in_ok-h.h + c.tilde-z.result) (sym c.one_at.ensures ∙ c.if-not-one_at.false), c.requires.small);
}

pub interp-returns : goal.interp-returns
interp-returns t c = interp_ok c.requires c.args.level.left c.args.level.lines c.args.nodes.now c.args.text.now (sym c.two_at.ensures ∙ c.if-not-two_at.false) c.in_ok-under.ensures.0 c.tilde-f.ensures c.in_ok-g.ensures refl (rw c.in_ok-under.ensures.1 at c.in_ok-m.ensures) refl c.in_ok-h.ensures refl c.tilde-z.ensures (sym c.one_at.ensures ∙ c.if-not-one_at.false) (told_put c.close_at.ensures) c.in_ok-m.ensures.kept
