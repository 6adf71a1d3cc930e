-- A small language, as tables: numbers, parentheses, sums and products, a prefix minus, arrays, and records of one-letter names.
--
--   1 number       digits
--   2 parentheses  '('+1 any EXPR any ')'
--   3 plus         EXPR here '+' here (tighter than plus)
--   4 times        (as tight as times) here '*' here (tighter than times)
--   5 minus        '-'+1 here TERM
--   6 array        '['+1 any [ EXPR { any ',' any EXPR } any [ ',' any ] ] ']'                      flag 1 with a comma at the end
--   7 record       '{'+1 any [ ENTRY { any ',' any ENTRY } any [ ',' any ] ] '}'                    flag 1 with a comma at the end
--   8 entry        letter any '=' any EXPR, and no earlier entry of its record has the letter
--
-- +1 opens a level, of which there are 8. `any` is spaces and line ends; `here` is what may stand round the node: spaces alone at the root,
-- `any` inside brackets.
use Rattle.std.specs.Prelude.{Bool, true, false, not, cond, ◌&&◌, ◌||◌, List, ◌∷◌, map, [], ℕ, zero, suc, ◌+◌, ◌-◌, leb, eqb, length, get_or, drop}
use Rattle.std.proofs.Math.Option.{Option, none, some}
use Rattle.engine.specs.Base.{Rec, given, has, choose}
use Rattle.engine.specs.Layout.{Lay, bad, fin, move, kid, fork, rep, Lang}
use Rattle.engine.specs.Source.{Source}
use Rattle.engine.specs.Finite.{ranked}

-- ---- bytes

abbrev pub byte_at : List ℕ → ℕ → ℕ
byte_at s p = get_or s p 0

-- how many elements at the front of a list pass a test
abbrev pub run : (ℕ → Bool) → List ℕ → ℕ
run t [] = 0
run t (x ∷ xs) = cond (t x) (suc (run t xs)) 0

abbrev pub is_digit : ℕ → Bool
is_digit x = leb 48 x && leb x 57

abbrev pub is_letter : ℕ → Bool
is_letter x = leb 97 x && leb x 122

-- spaces, and line ends where they may stand
abbrev pub is_gap : Bool → ℕ → Bool
is_gap lines x = eqb x 32 || (lines && eqb x 10)

abbrev pub skip : Bool → List ℕ → ℕ → ℕ
skip lines s p = p + run (is_gap lines) (drop p s)

-- ---- moves

pub data Gap : Type 0 where
  flush here any : Gap

pub data Move : Type 0 where
  -- a gap; a gap and this byte; digits; a letter; a comma with gaps round it and not this byte after it; no earlier entry has the letter
  -- at the node's start
  gap : Gap → Move
  tok : Gap → ℕ → Move
  digits : Move
  letter : Move
  sep : ℕ → Move
  fresh : Move

-- what a node carries: levels that may still open, whether line ends may stand, whether it is an entry of a record
pub record Att : Type 0 where
  pub depth : ℕ
  pub lines : Bool
  pub entry : Bool

abbrev pub past : Gap → Bool → List ℕ → ℕ → ℕ
past flush lines s p = p
past here lines s p = skip lines s p
past any lines s p = skip true s p

abbrev pub token : List ℕ → ℕ → ℕ → Option ℕ
token s c p = given (eqb (byte_at s p) c) (some (p + 1))

-- no entry before has the letter
abbrev pub is_fresh : List ℕ → List ℕ → ℕ → Bool
is_fresh s starts σ = not (has (map (byte_at s) starts) (byte_at s σ))

abbrev pub moves : List ℕ → Att × List ℕ → Move → ℕ → ℕ → Option ℕ
moves s b (gap g) σ p = some (past g b.0.lines s p)
moves s b (tok g c) σ p = token s c (past g b.0.lines s p)
moves s b digits σ p = given (is_digit (byte_at s p)) (some (p + 1 + run is_digit (drop (p + 1) s)))
moves s b letter σ p = given (is_letter (byte_at s p)) (some (p + 1))
moves s b (sep c) σ p = given (eqb (byte_at s (skip true s p)) 44) (given (not (eqb (byte_at s (skip true s (skip true s p + 1))) c)) (some (skip true s (skip true s p + 1))))
moves s b fresh σ p = given (is_fresh s b.1 σ) (some p)

-- a refusal: 1 unexpected, 2 too deep, 3 a letter met before
abbrev pub refusals : List ℕ → Att × List ℕ → Move → ℕ → ℕ → ℕ × ℕ
refusals s b (gap g) σ p = (1, p)
refusals s b (tok g c) σ p = (1, past g b.0.lines s p)
refusals s b digits σ p = (1, p)
refusals s b letter σ p = (1, p)
refusals s b (sep c) σ p = (1, skip true s p)
refusals s b fresh σ p = (3, σ)

-- ---- children

pub data Child : Type 0 where
  -- inside brackets; right of a minus, a plus, a times; an entry of a record, and its value
  inside operand addend factor entry value : Child

abbrev pub deeper_as : ℕ → Bool → Bool → List ℕ → Option (Att × List ℕ)
deeper_as zero l e xs = none
deeper_as (suc d) l e xs = some (record { depth = d; lines = l; entry = e }, xs)

abbrev pub plain : Att → Att
plain b = record { depth = b.depth; lines = b.lines; entry = false }

-- an entry is handed the starts of the entries before it
abbrev pub downs : Att × List ℕ → Child → ℕ → List (Rec ℕ) → Option (Att × List ℕ)
downs b inside σ ks = deeper_as b.0.depth true false []
downs b operand σ ks = deeper_as b.0.depth b.0.lines false []
downs b addend σ ks = some (plain b.0, [])
downs b factor σ ks = some (plain b.0, [])
downs b entry σ ks = deeper_as b.0.depth true true (map (λ (r : Rec ℕ). r.start) ks)
downs b value σ ks = some (plain b.0, [])

abbrev pub bounds : Child → ℕ
bounds inside = 0
bounds operand = 2
bounds addend = 1
bounds factor = 2
bounds entry = 2
bounds value = 0

abbrev pub slacks : Child → ℕ
slacks inside = 0
slacks operand = 2
slacks addend = 1
slacks factor = 2
slacks entry = 0
slacks value = 0

-- ---- layouts

-- children between brackets, with commas
abbrev pub many : ℕ → ℕ → Child → Lay Move Child
many open' close c = move (tok flush open') (fork (tok any close) (fin 0) (move (gap any) (kid c (rep (sep close) c (fork (tok any 44) (move (tok any close) (fin 1)) (move (tok any close) (fin 0)))))))

abbrev pub layouts : List (Lay Move Child)
layouts =
    bad
    ∷ move digits (fin 0)
    ∷ move (tok flush 40) (move (gap any) (kid inside (move (tok any 41) (fin 0))))
    ∷ move (tok here 43) (move (gap here) (kid addend (fin 0)))
    ∷ move (tok here 42) (move (gap here) (kid factor (fin 0)))
    ∷ move (tok flush 45) (move (gap here) (kid operand (fin 0)))
    ∷ many 91 93 inside
    ∷ many 123 125 entry
    ∷ move letter (move fresh (move (tok any 61) (move (gap any) (kid value (fin 0)))))
    ∷ []

-- how tightly a kind binds, and which operators may follow it
abbrev pub tights : List ℕ
tights = 0 ∷ 3 ∷ 3 ∷ 1 ∷ 2 ∷ 3 ∷ 3 ∷ 3 ∷ 3 ∷ []

abbrev pub holds : List ℕ
holds = 0 ∷ 3 ∷ 3 ∷ 1 ∷ 2 ∷ 3 ∷ 3 ∷ 3 ∷ 0 ∷ []

-- the operators, with their levels
abbrev pub levels : List (ℕ × ℕ)
levels = (3, 1) ∷ (4, 2) ∷ []

-- what a byte calls for, where an expression is wanted and where an entry is; and the operator that it is
abbrev pub heads : Bool → ℕ → List (Bool × ℕ)
heads false c = (is_digit c, 1) ∷ (eqb c 40, 2) ∷ (eqb c 45, 5) ∷ (eqb c 91, 6) ∷ (eqb c 123, 7) ∷ []
heads true c = (is_letter c, 8) ∷ []

abbrev pub operators : ℕ → List (Bool × ℕ)
operators c = (eqb c 43, 3) ∷ (eqb c 42, 4) ∷ []

-- ---- marks for the check: after a child inside brackets, a byte that is no operator stops it

abbrev pub within : Child → Bool
within inside = true
within operand = false
within addend = false
within factor = false
within entry = true
within value = false

abbrev pub is_any : Gap → Bool
is_any flush = false
is_any here = false
is_any any = true

abbrev pub is_none : Option ℕ → Bool
is_none none = true
is_none (some k) = false

abbrev pub stopping : Move → Child → Bool
stopping (gap g) c = false
stopping (tok g x) c = within c && (is_any g && is_none (choose (operators x)))
stopping digits c = false
stopping letter c = false
stopping (sep x) c = within c
stopping fresh c = false

abbrev pub sample : List ℕ → Lang ℕ (Att × List ℕ) Move Child
sample s = record {
  pick = λ b p. choose (heads b.0.entry (byte_at s p));
  op_at = λ b p. choose (operators (byte_at s (skip b.0.lines s p)));
  layout = λ k. get_or layouts k bad;
  go = moves s;
  down = downs;
  tight = λ k. get_or tights k 0;
  bound = bounds;
  hold = λ k. get_or holds k 0;
  cap = 3;
  style = λ c. 0;
  name = λ n k. k;
  no_move = refusals s;
  no_kind = λ b p. (1, p);
  no_level = λ b c ks p. (2, p);
  slack = slacks;
  stops = stopping;
  keeps = λ c. not (within c);
}

-- ---- a source

abbrev pub eating : Move → Bool
eating (gap g) = false
eating (tok g x) = leb 1 x
eating digits = true
eating letter = true
eating (sep x) = true
eating fresh = false

abbrev pub root : Att
root = record { depth = 8; lines = false; entry = false }

abbrev pub source : List ℕ → Source ℕ (Att × List ℕ) Move Child
source s = record {
  lang = sample s;
  pace = ranked eating (λ c. 0) (λ b. 0) (λ p. length s - p);
  root = (root, []);
  begin = 0;
  ended = λ p. eqb p (length s);
  left = λ p. (1, p);
}
