-- The place stays within the room.
use Rattle.std.proofs.Common.{◌≤◌, length}
use Rattle.limits.proofs.make.source.Given as goal

abbrev pub invariant-loop-part : goal.invariant-loop-part
invariant-loop-part l = goal.iterator-loop-part.can_next l.part-iterator × goal.iterator-loop-part.is_finite l.part-iterator × (l.at ≤ length l.room)
