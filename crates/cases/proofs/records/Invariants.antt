-- The bytes that are left get fewer.
use Rattle.std.proofs.Common.{length}
use Rattle.cases.proofs.records.Given as goal

abbrev pub decreases-loop-head : goal.decreases-loop-head
decreases-loop-head g l = length l.rest
