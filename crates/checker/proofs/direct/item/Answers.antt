use native.Mathlib.Omega.{arith}
use mathlib.Core.Path.{refl}
use Rattle.grammar.proofs.Refusals.{numbered}
use Rattle.checker.proofs.Lays.{chain_le}
use Rattle.checker.proofs.Directs.{direct_low, item_key_no, item_key, item_sign_no, item_sign, item_space_no, item_space, item_value_no, item_value, item_end}
use Rattle.checker.proofs.direct.item.Goals as goal

pub kid-requires : goal.kid-requires
kid-requires c = record { within = c.requires.0.within; deep = c.requires.0.deep; linked = chain_le _ _ c.requires.0.js _ c.requires.0.chain }

pub returns-then-not-kid : goal.returns-then-not-kid
returns-then-not-kid c = item_key_no _ _ _ _ _ _ c.args.p c.args.site.own c.requires.0 c.requires.1 c.one_line.ensures c.kid.ensures c.if-not-kid.true

pub returns-in_default : goal.returns-in_default
returns-in_default c = item_sign_no _ _ _ _ _ _ c.args.p c.args.site.own (item_key _ _ _ _ _ _ c.args.p c.args.site.own c.requires.0 c.requires.1 c.one_line.ensures c.kid.ensures c.if-not-kid.false c.end.ensures.0 refl) c.in_default.ensures.0 (λ z. omega (arith, z))

pub returns-in_default-space : goal.returns-in_default-space
returns-in_default-space c = item_space_no _ _ _ _ _ _ c.args.p c.args.site.own c.in-Some.ensures.1 (item_sign _ _ _ _ _ _ c.args.p c.args.site.own (item_key _ _ _ _ _ _ c.args.p c.args.site.own c.requires.0 c.requires.1 c.one_line.ensures c.kid.ensures c.if-not-kid.false c.end.ensures.0 refl) c.in-Some.ensures.0 c.in-Some.ensures.1) c.in_default-space.ensures (numbered _)

pub kid-requires-2 : goal.kid-requires-2
kid-requires-2 c = record { within = c.requires.0.within; deep = omega (arith, c.requires.0.deep, c.kid.ensures.long); linked = direct_low _ _ _ _ _ (item_space _ _ _ _ _ _ c.args.p c.args.site.own c.in-Some.ensures.1 (item_sign _ _ _ _ _ _ c.args.p c.args.site.own (item_key _ _ _ _ _ _ c.args.p c.args.site.own c.requires.0 c.requires.1 c.one_line.ensures c.kid.ensures c.if-not-kid.false c.end.ensures.0 c.next-j.ensures) c.in-Some.ensures.0 c.in-Some.ensures.1) c.in-Ok.ensures refl) }

pub returns-then-not-kid-2 : goal.returns-then-not-kid-2
returns-then-not-kid-2 c = item_value_no _ _ _ _ _ _ c.args.p c.args.site.own c.in-Some.ensures.1 (item_space _ _ _ _ _ _ c.args.p c.args.site.own c.in-Some.ensures.1 (item_sign _ _ _ _ _ _ c.args.p c.args.site.own (item_key _ _ _ _ _ _ c.args.p c.args.site.own c.requires.0 c.requires.1 c.one_line.ensures c.kid.ensures c.if-not-kid.false c.end.ensures.0 c.next-j.ensures) c.in-Some.ensures.0 c.in-Some.ensures.1) c.in-Ok.ensures refl) c.requires.0.deep c.kid-2.ensures c.if-not-kid-2.true

pub returns : goal.returns
returns c = item_end _ _ _ _ _ _ c.args.p c.args.site.own c.in-Some.ensures.1 (item_value _ _ _ _ _ _ c.args.p c.args.site.own c.in-Some.ensures.1 (item_space _ _ _ _ _ _ c.args.p c.args.site.own c.in-Some.ensures.1 (item_sign _ _ _ _ _ _ c.args.p c.args.site.own (item_key _ _ _ _ _ _ c.args.p c.args.site.own c.requires.0 c.requires.1 c.one_line.ensures c.kid.ensures c.if-not-kid.false c.end.ensures.0 c.next-j.ensures) c.in-Some.ensures.0 c.in-Some.ensures.1) c.in-Ok.ensures refl) c.requires.0.deep c.kid-2.ensures c.if-not-kid-2.false c.next.ensures c.end-2.ensures.0) c.ends.ensures
