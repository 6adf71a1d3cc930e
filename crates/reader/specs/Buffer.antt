-- The lent buffers: records of seven numbers each, and texts, each only where it fits.
use Rattle.std.specs.Prelude.{ℕ, ◌+◌, ◌*◌, ◌/◌, List, [], ◌∷◌, ◌++◌, Bool, true, false, length, set, take, drop, ltb}
use Rattle.lexis.specs.String.{laid}
use Rattle.grammar.specs.Table.{Record}

abbrev pub put_as : List ℕ → ℕ → Record → Bool → List ℕ
put_as b i x true =
    set (set (set (set (set (set (set b (i * 7) x.kind) (i * 7 + 1) x.flag) (i * 7 + 2) x.start) (i * 7 + 3) x.end) (i * 7 + 4) x.count) (i * 7 + 5) x.from) (i * 7 + 6) x.length
put_as b i x false = b

-- the i-th record is x, where the buffer has an i-th record
unfoldable pub put_at : List ℕ → ℕ → Record → List ℕ
put_at b i x = put_as b i x (ltb i (length b / 7))

-- the records from the i-th on are xs
unfoldable pub lay : List ℕ → ℕ → List Record → List ℕ
lay b i [] = b
lay b i (x ∷ xs) = lay (put_at b i x) (i + 1) xs

-- the texts from u on are ts, back to back
unfoldable pub write : List ℕ → ℕ → List (List ℕ) → List ℕ
write x u [] = x
write x u (t ∷ ts) = write (laid x u t) (u + length t) ts

-- the first n of a in place of those of b
abbrev pub copied : ℕ → List ℕ → List ℕ → List ℕ
copied n a b = take n a ++ drop n b
