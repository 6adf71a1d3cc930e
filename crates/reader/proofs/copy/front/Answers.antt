-- A turn copies one more, and the whole is all of one buffer and what is left of the other.
use Rattle.std.proofs.Common.{rules, ◌≡◌, ◌++◌, length, drop, ◌+◌}
use mathlib.Core.Path.{sym, ap, ◌∙◌}
use native.Mathlib.Omega.{arith}
use lib.ListN.{get_or, set, take}
use lib.Seq.{paste, paste-zero}
use Rattle.std.proofs.lemmas.List.Edits.{paste_more}
use Rattle.std.proofs.lemmas.List.{take_all}
use Rattle.reader.proofs.copy.front.Goals as goal

pub loop-i-init : goal.loop-i-init
loop-i-init g c = paste-zero c.args.to.now 0 c.args.from.now

pub loop-i-preserved : goal.loop-i-preserved
loop-i-preserved g c =
    let x = c.index-from-i.result in
    let read : x ≡ get_or c.args.from.now c.loop-i.i x = search rules in
    let at : 0 + c.loop-i.i ≡ c.loop-i.i = omega arith in
    ap (λ l. set l c.loop-i.i x) c.loop-i.invariant
    ∙ ap (λ y. set (paste c.args.to.now 0 c.args.from.now c.loop-i.i) c.loop-i.i y) read
    ∙ ap (λ k. set (paste c.args.to.now 0 c.args.from.now c.loop-i.i) k (get_or c.args.from.now c.loop-i.i x)) (sym at)
    ∙ paste_more c.args.to.now 0 c.args.from.now c.loop-i.i x (omega arith) (omega arith)

pub returns : goal.returns
returns g c =
    let all : c.loop-i.i ≡ length c.args.from.now = omega arith in
    let behind : 0 + c.loop-i.i ≡ length c.args.from.now = omega arith in
    c.loop-i.invariant
    ∙ ap (λ n. take n c.args.from.now ++ drop (0 + c.loop-i.i) c.args.to.now) all
    ∙ ap (λ n. take (length c.args.from.now) c.args.from.now ++ drop n c.args.to.now) behind
    ∙ ap (λ l. l ++ drop (length c.args.from.now) c.args.to.now) (take_all _ c.args.from.now (omega arith))
