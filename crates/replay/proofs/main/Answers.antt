-- Each array that `main` lends has the length of its type. The arrays are too long for that to be computed.
use Rattle.std.proofs.Common.{◌≡◌, ℕ, length, replicate, sym}
use Rattle.std.proofs.lemmas.List.{length-replicate}
use Rattle.replay.proofs.main.Goals as goal

zeros : (n : ℕ) → n ≡ length (replicate {A = ℕ} n 0)
zeros n = sym (length-replicate n 0)

pub slice_bounds-all-end : goal.slice_bounds-all-end
slice_bounds-all-end c = zeros 1048576

pub slice_bounds-all-end-2 : goal.slice_bounds-all-end-2
slice_bounds-all-end-2 c = zeros 458745

pub slice_bounds-all-end-3 : goal.slice_bounds-all-end-3
slice_bounds-all-end-3 c = zeros 65535
