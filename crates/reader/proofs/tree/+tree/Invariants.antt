-- The measures of the cycle: the levels left, then what is left of the source, then a rank for calls at one place; and the loops of its members.
use Rattle.lexis.specs.String.{quoted_of, from_of, to_of}
use Prim.Native.Nat.{◌+◌, ◌*◌, ◌-◌}
use Rattle.reader.proofs.Answers.{Turning}
use Rattle.reader.proofs.Arrays.{Arraying}
use Rattle.reader.proofs.Exprs.{Low, Only}
use Rattle.reader.proofs.Laids.{Turn as TurnLaids}
use Rattle.reader.proofs.ObjectTurns.{Turn as TurnObjectTurns}
use Rattle.reader.proofs.Parts.{Parting}
use Rattle.reader.proofs.Pieces.{Round}
use Rattle.reader.proofs.Ranks.{ranked, sub_rank}
use Rattle.reader.specs.Said.{AskedAt, Kept, Laying, Texting, at_level}
use lib.ListN.{length}
use mathlib.Core.Path.{◌≡◌}
use Rattle.reader.proofs.tree.+tree.Given as goal

abbrev pub decreases-array : goal.decreases-array
decreases-array l = ranked l.level.left l.s.now l.at 85

abbrev pub decreases-expr : goal.decreases-expr
decreases-expr l = ranked l.level.left l.s.now l.at 100

abbrev pub decreases-first : goal.decreases-first
decreases-first l = ranked l.level.left l.s.now l.at 99

abbrev pub decreases-grow : goal.decreases-grow
decreases-grow l = ranked l.level.left l.s.now l.at 88

abbrev pub decreases-heredoc : goal.decreases-heredoc
decreases-heredoc l = ranked l.level.left l.s.now l.at 94

abbrev pub decreases-interp : goal.decreases-interp
decreases-interp l = ranked l.level.left l.s.now l.at 90

abbrev pub decreases-item : goal.decreases-item
decreases-item l = ranked l.left l.s.now l.at 102

abbrev pub decreases-laid : goal.decreases-laid
decreases-laid l = ranked l.level.left l.s.now l.at (2 * (43 - l.node.kind))

abbrev pub decreases-named : goal.decreases-named
decreases-named l = ranked l.left l.s.now l.at 101

abbrev pub decreases-object : goal.decreases-object
decreases-object l = ranked l.level.left l.s.now l.at 94

abbrev pub decreases-part : goal.decreases-part
decreases-part l = ranked l.level.left l.s.now l.at 86

abbrev pub decreases-parts : goal.decreases-parts
decreases-parts l = ranked l.level.left l.s.now l.at 87

abbrev pub decreases-pieces : goal.decreases-pieces
decreases-pieces l = ranked l.level.left l.s.now l.at 92

abbrev pub decreases-prim : goal.decreases-prim
decreases-prim l = ranked l.level.left l.s.now l.at 96

abbrev pub decreases-quoted : goal.decreases-quoted
decreases-quoted l = ranked l.level.left l.s.now l.at 94

abbrev pub decreases-sub : goal.decreases-sub
decreases-sub l = ranked l.level.left l.s.now l.at (sub_rank l.class)

abbrev pub decreases-term : goal.decreases-term
decreases-term l = ranked l.level.left l.s.now l.at 98

abbrev pub decreases-within : goal.decreases-within
decreases-within l = ranked l.level.left l.s.now l.at 85

abbrev pub invariant-expr-loop-at : goal.invariant-expr-loop-at
invariant-expr-loop-at l = Turning (Only l.j) l.s (at_level l.level) l.at.records l.at.text l.at.place l.initial.e l.initial.n l.initial.t l.initial.nodes l.nodes l.initial.text l.text l.e l.n l.t × Kept l.at.keys l.initial.keys l.keys × (length l.nodes ≡ length l.initial.nodes) × (length l.text ≡ length l.initial.text)

abbrev pub decreases-expr-loop-at : goal.decreases-expr-loop-at
decreases-expr-loop-at l = length l.s - l.e

abbrev pub invariant-term-loop-at : goal.invariant-term-loop-at
invariant-term-loop-at l = Turning Low l.s (at_level l.level) l.at.records l.at.text l.at.place l.initial.e l.initial.n l.initial.t l.initial.nodes l.nodes l.initial.text l.text l.e l.n l.t × Kept l.at.keys l.initial.keys l.keys × (length l.nodes ≡ length l.initial.nodes) × (length l.text ≡ length l.initial.text)

abbrev pub decreases-term-loop-at : goal.decreases-term-loop-at
decreases-term-loop-at l = length l.s - l.e

abbrev pub invariant-laid-loop-level : goal.invariant-laid-loop-level
invariant-laid-loop-level l = AskedAt l.s l.initial.keys l.at × Laying l.node.start l.at.place l.node.before l.node.kind × TurnLaids l.s l.level.left l.level.lines l.node.start l.node.kind l.at.place l.at.records l.at.text l.initial.nodes l.nodes l.initial.text l.text l.pc l.q l.n l.t × Kept l.at.keys l.initial.keys l.keys × (length l.nodes ≡ length l.initial.nodes) × (length l.text ≡ length l.initial.text)

abbrev pub decreases-laid-loop-level : goal.decreases-laid-loop-level
decreases-laid-loop-level l = 256 * (length l.s - l.q) + (228 - l.pc)

abbrev pub invariant-parts-loop-g : goal.invariant-parts-loop-g
invariant-parts-loop-g l = AskedAt l.s l.initial.keys l.at × Laying l.node.start l.at.place l.node.before 37 × Parting l.s l.level.left l.level.lines l.node.start l.at.place l.at.records l.at.text l.initial.nodes l.nodes l.initial.text l.text l.q l.n l.t × Kept l.at.keys l.initial.keys l.keys × (length l.nodes ≡ length l.initial.nodes) × (length l.text ≡ length l.initial.text)

abbrev pub decreases-parts-loop-g : goal.decreases-parts-loop-g
decreases-parts-loop-g l = length l.s - l.q

abbrev pub invariant-array-loop-under : goal.invariant-array-loop-under
invariant-array-loop-under l = AskedAt l.s l.initial.keys l.at × Arraying l.s l.fn.level.left l.fn.level.lines l.at.place l.at.records l.at.text l.initial.nodes l.nodes l.initial.text l.text l.q l.n l.t × Kept l.at.keys l.initial.keys l.keys × (length l.nodes ≡ length l.initial.nodes) × (length l.text ≡ length l.initial.text)

abbrev pub decreases-array-loop-under : goal.decreases-array-loop-under
decreases-array-loop-under l = length l.s - l.q

abbrev pub invariant-object-loop-m : goal.invariant-object-loop-m
invariant-object-loop-m l = TurnObjectTurns l.s l.fn.level.left l.fn.level.lines l.at.records l.at.text l.at.place l.at.keys l.initial.nodes l.nodes l.initial.text l.text l.initial.keys l.keys l.q l.n l.t l.top × (length l.nodes ≡ length l.initial.nodes) × (length l.text ≡ length l.initial.text)

abbrev pub decreases-object-loop-m : goal.decreases-object-loop-m
decreases-object-loop-m l = length l.s - l.q

abbrev pub invariant-pieces-loop-q : goal.invariant-pieces-loop-q
invariant-pieces-loop-q l = AskedAt l.s l.initial.keys l.at × Texting l.s l.node.start l.at.place l.node.kind l.flag (quoted_of l.round) (from_of l.round) (to_of l.round) × Round l.s l.level.left l.level.lines l.node.start l.node.kind l.flag l.at.place l.at.records l.at.text l.at.keys l.initial.nodes l.nodes l.initial.text l.text l.initial.keys l.keys l.q l.n l.t × (length l.nodes ≡ length l.initial.nodes) × (length l.text ≡ length l.initial.text)

abbrev pub decreases-pieces-loop-q : goal.decreases-pieces-loop-q
decreases-pieces-loop-q l = length l.s - l.q
