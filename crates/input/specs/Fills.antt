-- What was read of the input, from a reader that had `before` left and has `after`.
use Rattle.std.specs.Prelude.{ℕ, ◌≡◌, ◌≤◌, List, Option, Some, None, Bool, if◌then◌else◌, eqb, length, take}
use Rattle.std.specs.Int.{w32, from_le_bytes}
use Rattle.std.specs.Io.KnownBytes.{Consumes}

-- the first n bytes of a part were read; `full` is true exactly where these are all of it
pub record Fills (before after : Option (List ℕ)) (part : List ℕ) (full : Bool) : Type 0 where
  pub n : ℕ
  pub within : n ≤ length part
  pub read : Consumes before after (take n part)
  pub is : full ≡ eqb n (length part)

-- the next four bytes, as a number with the lowest byte first; none where there are fewer
pub record Next (before after : Option (List ℕ)) (number : Option ℕ) : Type 0 where
  pub bytes : List ℕ
  pub within : length bytes ≤ 4
  pub read : Consumes before after bytes
  pub is : number ≡ (if eqb (length bytes) 4 then Some (from_le_bytes w32 bytes) else None)
