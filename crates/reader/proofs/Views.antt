-- What the code answers, in numbers.
use Prim.Native.Nat.{ℕ}
use mathlib.Core.Path.{◌≡◌, ap}
use Rattle.std.specs.Prelude.{Ok}
use Rattle.reader.specs.declared.Reading.{Reading}
use Rattle.reader.specs.Said.{step_of, answered}

-- a reading, in numbers
pub told : {m : Reading} {e n t : ℕ} → m ≡ record { end = e; count = n; text = t } → answered (Ok m) ≡ step_of 0 e n t
told {m} h = ap (λ (x : Reading). answered (Ok x)) h

-- with the record that was put for it
pub told_put : {m : Reading} {e n t : ℕ} {P : Type 0} → (m ≡ record { end = e; count = n; text = t }) × P → (answered (Ok m) ≡ step_of 0 e n t) × P
told_put h = (told h.0, h.1)
