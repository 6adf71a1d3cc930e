-- Flattening and growing are inverse.
use Rattle.std.specs.Prelude.{◌≡◌, refl, Bool, List, [], ◌∷◌, ◌++◌, ℕ, zero, suc, ◌+◌, ◌-◌}
use Rattle.std.proofs.Common.{ap, sym, ◌∙◌, subst, append_assoc, append-nil, arith}
use Rattle.std.proofs.Math.Option.{Option, none, some}
use Rattle.engine.specs.Base.{Rec, Tree, node, Trees, nil, cons, size, sizes, join, given, via}
use Rattle.engine.specs.Flat.{Row, flat, flats, take_trees, plant, grow_row, unpile, grow_on, grow}
use Rattle.engine.specs.BaseLaws.{size_pos, LeCase, low, high, le_case}
use Rattle.engine.specs.FlatLaws.{join_nil}

-- ---- what was listed grows again

take_none : {P : Type 0} (st us : Trees P) → take_trees st zero us ≡ some (us, st)
take_none nil us = refl
take_none (cons t st) us = refl

take_one : {P : Type 0} (t : Tree P) (st us : Trees P) (n m : ℕ) → m ≡ size t + n → take_trees (cons t st) m us ≡ take_trees st n (cons t us)
take_one t st us n zero z = absurd (omega (arith, size_pos t))
take_one {P} t st us n (suc m) z = go (le_case (size t) (suc m))
  where
    go : {b : Bool} → LeCase (size t) (suc m) b → given b (take_trees st (suc m - size t) (cons t us)) ≡ take_trees st n (cons t us)
    go (low h) = let q : suc m - size t ≡ n = omega arith in ap (λ (x : ℕ). take_trees st x (cons t us)) q
    go (high h) = absurd (omega arith)

take_pile : {P : Type 0} (ts st us : Trees P) (n m : ℕ) → m ≡ sizes ts + n → take_trees (unpile ts st) m us ≡ take_trees st n (join ts us)
take_pile nil st us n m z = let q : m ≡ n = omega arith in ap (λ (x : ℕ). take_trees st x us) q
take_pile (cons t ts) st us n m z = take_pile ts (cons t st) us (size t + n) m (omega arith) ∙ take_one t st (join ts us) n (size t + n) refl

row_grows : {P : Type 0} (r : Rec P) (ts st : Trees P) → grow_row (unpile ts st) r (suc (sizes ts)) ≡ some (cons (node r.kind r.flag r.start r.end ts) st)
row_grows {P} r ts st =
    let q : take_trees (unpile ts st) (sizes ts) nil ≡ some (ts, st) = take_pile ts st nil 0 (sizes ts) (omega arith) ∙ take_none st (join ts nil) ∙ ap (λ (us : Trees P). some (us, st)) (join_nil ts) in
    ap (plant r) q

mutual
  grow_flat : {P : Type 0} (t : Tree P) (xs : List (Row P)) (st : Trees P) → grow_on (flat t ++ xs) st ≡ grow_on xs (cons t st)
  grow_flat {P} (node k φ s e ts) xs st =
      let r : Rec P = record { kind = k; flag = φ; start = s; end = e } in
      ap (λ (ys : List (Row P)). grow_on ys st) (append_assoc (flats ts) (record { rec = r; count = suc (sizes ts) } ∷ []) xs)
      ∙ grow_flats ts (record { rec = r; count = suc (sizes ts) } ∷ xs) st
      ∙ ap (λ (o : Option (Trees P)). via o (grow_on xs)) (row_grows r ts st)

  grow_flats : {P : Type 0} (ts : Trees P) (xs : List (Row P)) (st : Trees P) → grow_on (flats ts ++ xs) st ≡ grow_on xs (unpile ts st)
  grow_flats nil xs st = refl
  grow_flats {P} (cons t ts) xs st =
      ap (λ (ys : List (Row P)). grow_on ys st) (append_assoc (flat t) (flats ts) xs) ∙ grow_flat t (flats ts ++ xs) st ∙ grow_flats ts xs (cons t st)

unpile_twice : {P : Type 0} (ts us vs : Trees P) → unpile (unpile ts us) vs ≡ unpile us (join ts vs)
unpile_twice nil us vs = refl
unpile_twice (cons t ts) us vs = unpile_twice ts (cons t us) vs

pub flats_grow : {P : Type 0} (ts : Trees P) → grow (flats ts) ≡ some ts
flats_grow {P} ts =
    ap (λ (ys : List (Row P)). grow_on ys nil) (sym (append-nil (flats ts))) ∙ grow_flats ts [] nil
    ∙ ap (λ (us : Trees P). some us) (unpile_twice ts nil nil ∙ join_nil ts)

-- ---- what grows was listed

-- the rows of a pile
abbrev backs : {P : Type 0} → Trees P → List (Row P)
backs nil = []
backs (cons t ts) = backs ts ++ flat t

unpile_rows : {P : Type 0} (st us : Trees P) → flats (unpile st us) ≡ backs st ++ flats us
unpile_rows nil us = refl
unpile_rows (cons t st) us = unpile_rows st (cons t us) ∙ sym (append_assoc (backs st) (flat t) (flats us))

record Taken {P : Type 0} (st : Trees P) (n : ℕ) (vs us rest : Trees P) : Type 0 where
  many : sizes us ≡ n + sizes vs
  rows : (backs rest ++ flats us) ≡ (backs st ++ flats vs)

take_inv : {P : Type 0} (st : Trees P) (n : ℕ) (vs us rest : Trees P) → take_trees st n vs ≡ some (us, rest) → Taken st n vs us rest
take_inv {P} nil zero vs us rest q =
    let z : ◌≡◌ {A = Trees P × Trees P} (vs, nil) (us, rest) = cc in
    subst (λ (x : Trees P × Trees P). Taken nil 0 vs x.0 x.1) z (record { many = omega arith; rows = refl })
take_inv nil (suc n) vs us rest q = absurd (let z : ◌≡◌ {A = ℕ} 0 1 = cc in omega arith)
take_inv {P} (cons t st) zero vs us rest q =
    let z : ◌≡◌ {A = Trees P × Trees P} (vs, cons t st) (us, rest) = cc in
    subst (λ (x : Trees P × Trees P). Taken (cons t st) 0 vs x.0 x.1) z (record { many = omega arith; rows = refl })
take_inv {P} (cons t st) (suc n) vs us rest q = go (le_case (size t) (suc n)) q (take_inv st (suc n - size t) (cons t vs) us rest)
  where
    go : {b : Bool} → LeCase (size t) (suc n) b → given b (take_trees st (suc n - size t) (cons t vs)) ≡ some (us, rest)
        → (take_trees st (suc n - size t) (cons t vs) ≡ some (us, rest) → Taken st (suc n - size t) (cons t vs) us rest) → Taken (cons t st) (suc n) vs us rest
    go (low h) q ih = let x = ih q in record { many = omega (arith, x.many); rows = x.rows ∙ sym (append_assoc (backs st) (flat t) (flats vs)) }
    go (high h) q ih = absurd (let z : ◌≡◌ {A = ℕ} 0 1 = cc in omega arith)

plant_inv : {P : Type 0} (r : Rec P) (o : Option (Trees P × Trees P)) (st : Trees P) → plant r o ≡ some st
    → (us : Trees P) × (rest : Trees P) × (o ≡ some (us, rest)) × (cons (node r.kind r.flag r.start r.end us) rest ≡ st)
plant_inv r none st q = absurd (let z : ◌≡◌ {A = ℕ} 0 1 = cc in omega arith)
plant_inv r (some (us, rest)) st q = (us, rest, refl, cc)

row_inv : {P : Type 0} (st : Trees P) (x : Row P) (st' : Trees P) → grow_row st x.rec x.count ≡ some st' → backs st' ≡ backs st ++ (x ∷ [])
row_inv {P} st x st' q = go x.count refl q
  where
    go : (n : ℕ) → x.count ≡ n → grow_row st x.rec n ≡ some st' → backs st' ≡ backs st ++ (x ∷ [])
    go zero z q = absurd (let z : ◌≡◌ {A = ℕ} 0 1 = cc in omega arith)
    go (suc n) z q =
        let (us, rest, y, i) = plant_inv x.rec (take_trees st n nil) st' q in
        let t = take_inv st n nil us rest y in
        let c : suc (sizes us) ≡ x.count = omega (arith, t.many) in
        sym (ap backs i) ∙ sym (append_assoc (backs rest) (flats us) _) ∙ ap (λ (ys : List (Row P)). ys ++ (record { rec = x.rec; count = suc (sizes us) } ∷ [])) (t.rows ∙ append-nil (backs st))
        ∙ ap (λ (m : ℕ). backs st ++ (record { rec = x.rec; count = m } ∷ [])) c

via_inv : {X Y : Type 0} (o : Option X) (f : X → Option Y) (y : Y) → via o f ≡ some y → (x : X) × (o ≡ some x) × (f x ≡ some y)
via_inv none f y q = absurd (let z : ◌≡◌ {A = ℕ} 0 1 = cc in omega arith)
via_inv (some x) f y q = (x, refl, q)

grow_inv : {P : Type 0} (xs : List (Row P)) (st ts : Trees P) → grow_on xs st ≡ some ts → flats ts ≡ backs st ++ xs
grow_inv {P} [] st ts q =
    let z : unpile st nil ≡ ts = cc in
    sym (ap (λ (us : Trees P). flats us) z) ∙ unpile_rows st nil
grow_inv (x ∷ xs) st ts q =
    let (st', y, z) = via_inv (grow_row st x.rec x.count) (grow_on xs) ts q in
    grow_inv xs st' ts z ∙ ap (λ ys. ys ++ xs) (row_inv st x st' y) ∙ append_assoc (backs st) (x ∷ []) xs

pub grow_rows : {P : Type 0} (rows : List (Row P)) (ts : Trees P) → grow rows ≡ some ts → flats ts ≡ rows
grow_rows rows ts q = grow_inv rows nil ts q
