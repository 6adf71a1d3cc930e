-- What a reading comes to, and trees of records.
-- P is the type of places: a number, or a number with whatever else runs along from left to right (as an offset into a text).
use Rattle.std.specs.Prelude.{Bool, true, false, ◌&&◌, ◌||◌, List, [], ◌∷◌, ℕ, zero, suc, ◌+◌, eqb}
use Rattle.std.proofs.Math.Option.{Option, none, some}

-- a value; or a refusal, by its number and its place; or no answer, since the fuel ran out
pub data Outcome (P X : Type 0) : Type 0 where
  ok : X → Outcome P X
  halt : ℕ → P → Outcome P X
  stuck : Outcome P X

-- go on with the value, if there is one
abbrev pub bind : {P X Y : Type 0} → Outcome P X → (X → Outcome P Y) → Outcome P Y
bind (ok x) f = f x
bind (halt k p) f = halt k p
bind stuck f = stuck

-- a node's record: all that its parent and its neighbours may see of it
pub record Rec (P : Type 0) : Type 0 where
  pub kind : ℕ
  pub flag : ℕ
  pub start : P
  pub end : P

-- a tree: kind, flag, start, end and the children
mutual
  pub data Tree (P : Type 0) : Type 0 where
    node : ℕ → ℕ → P → P → Trees P → Tree P

  pub data Trees (P : Type 0) : Type 0 where
    nil : Trees P
    cons : Tree P → Trees P → Trees P

abbrev pub rec_of : {P : Type 0} → Tree P → Rec P
rec_of (node k φ b e ts) = record { kind = k; flag = φ; start = b; end = e }

-- how many nodes there are
abbrev mutual
  pub size : {P : Type 0} → Tree P → ℕ
  size (node k φ b e ts) = suc (sizes ts)

  pub sizes : {P : Type 0} → Trees P → ℕ
  sizes nil = zero
  sizes (cons t ts) = size t + sizes ts

-- trees one after the other
abbrev pub join : {P : Type 0} → Trees P → Trees P → Trees P
join nil us = us
join (cons t ts) us = cons t (join ts us)

abbrev pub one : {P : Type 0} → Tree P → Trees P
one t = cons t nil

-- a tree and a record whose kind goes by another name
abbrev pub rename : {P : Type 0} → (ℕ → ℕ) → Tree P → Tree P
rename g (node k φ b e ts) = node (g k) φ b e ts

abbrev pub renamed : {P : Type 0} → (ℕ → ℕ) → Rec P → Rec P
renamed g r = record { kind = g r.kind; flag = r.flag; start = r.start; end = r.end }

-- go on from what is there
abbrev pub via : {X Y : Type 0} → Option X → (X → Option Y) → Option Y
via none f = none
via (some x) f = f x

-- only if the test passes
abbrev pub given : {X : Type 0} → Bool → Option X → Option X
given true o = o
given false o = none

-- only if it does not
abbrev pub unless : {S : Type 0} → Bool → S → Option S
unless true s = none
unless false s = some s

-- the first of the tests that passes chooses a number
abbrev pub choose : List (Bool × ℕ) → Option ℕ
choose [] = none
choose (x ∷ xs) = elim x.0 [ true ↦ some x.1 | false ↦ choose xs ]

-- every element passes; a number is among those listed
abbrev pub all_of : {X : Type 0} → (X → Bool) → List X → Bool
all_of q [] = true
all_of q (x ∷ xs) = q x && all_of q xs

abbrev pub has : List ℕ → ℕ → Bool
has [] k = false
has (x ∷ xs) k = eqb x k || has xs k
