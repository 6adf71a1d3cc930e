use Prim.Native.Nat.{ℕ}
use native.Mathlib.Omega.{arith}
use lib.ListN.{length-replicate}
use Rattle.checker.proofs.Tolds.{told_none}
use Rattle.checker.proofs.walk_in.Goals as goal

pub walk-requires : goal.walk-requires
walk-requires g c =
    let rows = length-replicate {A = ℕ} g.row.ROWS 1 in
    let deep = length-replicate {A = ℕ} g.row.ROWS 0 in
    let keys = length-replicate {A = ℕ} g.row.KEYS 1 in
    let fits = c.requires in (
      record { ready = fits.0; marked = omega (arith, rows, fits.1); deep = omega (arith, deep, fits.1); keyed = omega (arith, keys, fits.1, fits.3) },
      omega (arith, rows, fits.1),
      told_none _ _ g.row.ROWS,
    )
