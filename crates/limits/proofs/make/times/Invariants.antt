-- The place stays within the source.
use Rattle.std.proofs.Common.{◌≤◌, length}
use Rattle.limits.proofs.make.times.Given as goal

abbrev pub invariant-loop : goal.invariant-loop
invariant-loop l = l.at ≤ length l.source
