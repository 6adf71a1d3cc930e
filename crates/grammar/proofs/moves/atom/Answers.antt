use mathlib.Core.List.{[], ◌∷◌}
use native.Mathlib.Omega.{arith}
use Rattle.lexis.specs.Word.{if'}
use Rattle.grammar.proofs.Steps.{made_gap, made_mark, made_opens, made_ahead, made_for, made_ident, made_number, made_index, made_operator, made_parts, made_unless, made_comma, made_call, made_keyword, made_at, made_else}
use Rattle.grammar.proofs.moves.atom.Goals as goal

pub returns-in-1 : goal.returns-in-1
returns-in-1 c = made_at c.args.s.now c.args.left c.args.lines c.args.p 1 c.args.x c.in-1.is (made_gap c.args.s.now c.args.left c.args.lines c.args.p c.args.x c.mode.ensures c.space.ensures)

pub returns-in-2 : goal.returns-in-2
returns-in-2 c = made_at c.args.s.now c.args.left c.args.lines c.args.p 2 c.args.x c.in-2.is (made_mark c.args.s.now c.args.left c.args.lines c.args.p (c.args.x ∷ []) [] (omega arith) c.mark_end.ensures c.token.ensures)

pub returns-in-3 : goal.returns-in-3
returns-in-3 c = made_at c.args.s.now c.args.left c.args.lines c.args.p 3 c.args.x c.in-3.is (made_opens c.args.s.now c.args.left c.args.lines c.args.p (c.args.x ∷ []) [] (omega arith) c.mark_end-in-3.ensures c.enter.ensures)

pub returns-in-4 : goal.returns-in-4
returns-in-4 c = made_at c.args.s.now c.args.left c.args.lines c.args.p 4 c.args.x c.in-4.is (made_mark c.args.s.now c.args.left c.args.lines c.args.p (58 ∷ 58 ∷ []) [] (omega arith) c.colons_end.ensures c.token-in-4.ensures)

pub returns-in-5 : goal.returns-in-5
returns-in-5 c = made_at c.args.s.now c.args.left c.args.lines c.args.p 5 c.args.x c.in-5.is (made_mark c.args.s.now c.args.left c.args.lines c.args.p (46 ∷ 46 ∷ 46 ∷ []) [] (omega arith) c.dots_end.ensures c.token-in-5.ensures)

pub returns-in-6 : goal.returns-in-6
returns-in-6 c = made_at c.args.s.now c.args.left c.args.lines c.args.p 6 c.args.x c.in-6.is (made_mark c.args.s.now c.args.left c.args.lines c.args.p (61 ∷ 62 ∷ []) [] (omega arith) c.arrow_end.ensures c.token-in-6.ensures)

pub returns-in-7 : goal.returns-in-7
returns-in-7 c = made_at c.args.s.now c.args.left c.args.lines c.args.p 7 c.args.x c.in-7.is (made_keyword c.args.s.now c.args.left c.args.lines c.args.p c.args.x c.keyword_end.ensures c.token-in-7.ensures)

pub returns-in-8 : goal.returns-in-8
returns-in-8 c = made_at c.args.s.now c.args.left c.args.lines c.args.p 8 c.args.x c.in-8.is (made_ahead c.args.s.now c.args.left c.args.lines c.args.p if' (omega arith) c.if_end.ensures c.stay.ensures)

pub returns-in-9 : goal.returns-in-9
returns-in-9 c = made_at c.args.s.now c.args.left c.args.lines c.args.p 9 c.args.x c.in-9.is (made_for c.args.s.now c.args.left c.args.lines c.args.p c.for_end.ensures c.token-in-9.ensures)

pub returns-in-10 : goal.returns-in-10
returns-in-10 c = made_at c.args.s.now c.args.left c.args.lines c.args.p 10 c.args.x c.in-10.is (made_ident c.args.s.now c.args.left c.args.lines c.args.p c.ident_end.ensures c.token-in-10.ensures)

pub returns-in-11 : goal.returns-in-11
returns-in-11 c = made_at c.args.s.now c.args.left c.args.lines c.args.p 11 c.args.x c.in-11.is (made_number c.args.s.now c.args.left c.args.lines c.args.p c.number_end.ensures c.token-in-11.ensures)

pub returns-in-12 : goal.returns-in-12
returns-in-12 c = made_at c.args.s.now c.args.left c.args.lines c.args.p 12 c.args.x c.in-12.is (made_index c.args.s.now c.args.left c.args.lines c.args.p c.legacy.ensures)

pub returns-in-13 : goal.returns-in-13
returns-in-13 c = made_at c.args.s.now c.args.left c.args.lines c.args.p 13 c.args.x c.in-13.is (made_operator c.args.s.now c.args.left c.args.lines c.args.p c.args.x (rw c.from.ensures at c.operator.ensures))

pub returns-in-14 : goal.returns-in-14
returns-in-14 c = made_at c.args.s.now c.args.left c.args.lines c.args.p 14 c.args.x c.in-14.is (made_parts c.args.s.now c.args.left c.args.lines c.args.p c.part.ensures)

pub returns-in-15 : goal.returns-in-15
returns-in-15 c = made_at c.args.s.now c.args.left c.args.lines c.args.p 15 c.args.x c.in-15.is (made_unless c.args.s.now c.args.left c.args.lines c.args.p c.args.x c.unless.ensures)

pub returns-in-16 : goal.returns-in-16
returns-in-16 c = made_at c.args.s.now c.args.left c.args.lines c.args.p 16 c.args.x c.in-16.is (made_comma c.args.s.now c.args.left c.args.lines c.args.p c.comma.ensures)

pub returns-in-17 : goal.returns-in-17
returns-in-17 c = made_at c.args.s.now c.args.left c.args.lines c.args.p 17 c.args.x c.in-17.is (made_call c.args.s.now c.args.left c.args.lines c.args.p c.call.ensures)

pub returns-in_default : goal.returns-in_default
returns-in_default c = made_else c.args.s.now c.args.left c.args.lines c.args.p c.args.code c.args.x c.in_default.in_default-own.rest.0.0.0.0.0.0.0.0.0.0.0.0.0.0.0.0.1 c.in_default.in_default-own.rest.0.0.0.0.0.0.0.0.0.0.0.0.0.0.0.1 c.in_default.in_default-own.rest.0.0.0.0.0.0.0.0.0.0.0.0.0.0.1 c.in_default.in_default-own.rest.0.0.0.0.0.0.0.0.0.0.0.0.0.1 c.in_default.in_default-own.rest.0.0.0.0.0.0.0.0.0.0.0.0.1 c.in_default.in_default-own.rest.0.0.0.0.0.0.0.0.0.0.0.1 c.in_default.in_default-own.rest.0.0.0.0.0.0.0.0.0.0.1 c.in_default.in_default-own.rest.0.0.0.0.0.0.0.0.0.1 c.in_default.in_default-own.rest.0.0.0.0.0.0.0.0.1 c.in_default.in_default-own.rest.0.0.0.0.0.0.0.1 c.in_default.in_default-own.rest.0.0.0.0.0.0.1 c.in_default.in_default-own.rest.0.0.0.0.0.1 c.in_default.in_default-own.rest.0.0.0.0.1 c.in_default.in_default-own.rest.0.0.0.1 c.in_default.in_default-own.rest.0.0.1 c.in_default.in_default-own.rest.0.1 c.in_default.in_default-own.rest.1 (made_opens c.args.s.now c.args.left c.args.lines c.args.p (36 ∷ 123 ∷ []) [] (omega arith) c.pair_end.ensures c.enter-in_default.ensures)
