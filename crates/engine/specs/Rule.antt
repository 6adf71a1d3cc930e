-- The rule: at one node, at every node of a tree, at every node of a table from anyone. It names neither the reading nor its fuel, nor
-- any refusal.
use Rattle.std.specs.Prelude.{◌≡◌, List, [], ◌∷◌, map, ℕ, suc, ◌+◌, ◌≤◌, ◌<◌}
use Rattle.std.proofs.Math.Option.{none, some}
use Rattle.engine.specs.Base.{Rec, Tree, node, Trees, nil, cons, rec_of}
use Rattle.engine.specs.Flat.{Row}
use Rattle.engine.specs.Layout.{Lay, fin, move, kid, fork, rep, Lang, named, after}

-- ---- at one node: its layout, laid over the children that it has, ends where the node ends

module _ {P B M C : Type 0} (N : Lang P B M C) where
  -- Runs Z b σ ks l p e φ rs bs: in a node that starts at σ and has the attribute b, after the children ks (the nearest first), the layout l
  -- goes from the place p to the place e over children with the records rs, hands down to them the attributes and styles bs, and comes to
  -- the flag φ; and Z holds of each child, with its attribute and class
  pub data Runs (Z : B → C → Rec P → Type 0) (b : B) (σ : P) : List (Rec P) → Lay M C → P → P → ℕ → List (Rec P) → List (B × ℕ) → Type 0 where
    -- it ends
    rfin : {p : P} {φ : ℕ} {ks : List (Rec P)} → Runs Z b σ ks (fin φ) p p φ [] []
    -- a move is made
    rmove : {m : M} {l : Lay M C} {p e : P} {φ : ℕ} {rs : List (Rec P)} {bs : List (B × ℕ)} {ks : List (Rec P)} (q : P) → N.go b m σ p ≡ some q → Runs Z b σ ks l q e φ rs bs → Runs Z b σ ks (move m l) p e φ rs bs
    -- a child starts here, and the rest goes on where it ends
    rkid : {c : C} {l : Lay M C} {p e : P} {φ : ℕ} {r : Rec P} {rs : List (Rec P)} {d : B} {bs : List (B × ℕ)} {ks : List (Rec P)}
        → N.down b c σ ks ≡ some d → r.start ≡ p → Z d c r → Runs Z b σ (r ∷ ks) l r.end e φ rs bs → Runs Z b σ ks (kid c l) p e φ (r ∷ rs) ((d, N.style c) ∷ bs)
    -- an option that is taken; one that is not, because its move cannot be made
    ryes : {m : M} {l l' : Lay M C} {p e : P} {φ : ℕ} {rs : List (Rec P)} {bs : List (B × ℕ)} {ks : List (Rec P)} (q : P) → N.go b m σ p ≡ some q → Runs Z b σ ks l q e φ rs bs → Runs Z b σ ks (fork m l l') p e φ rs bs
    rno : {m : M} {l l' : Lay M C} {p e : P} {φ : ℕ} {rs : List (Rec P)} {bs : List (B × ℕ)} {ks : List (Rec P)} → N.go b m σ p ≡ none → Runs Z b σ ks l' p e φ rs bs → Runs Z b σ ks (fork m l l') p e φ rs bs
    -- a further child; and no further one, because the move before it cannot be made
    rrep : {m : M} {c : C} {l : Lay M C} {p e : P} {φ : ℕ} {r : Rec P} {rs : List (Rec P)} {d : B} {bs : List (B × ℕ)} {ks : List (Rec P)} (q : P)
        → N.go b m σ p ≡ some q → N.down b c σ ks ≡ some d → r.start ≡ q → Z d c r → Runs Z b σ (r ∷ ks) (rep m c l) r.end e φ rs bs → Runs Z b σ ks (rep m c l) p e φ (r ∷ rs) ((d, N.style c) ∷ bs)
    rend : {m : M} {c : C} {l : Lay M C} {p e : P} {φ : ℕ} {rs : List (Rec P)} {bs : List (B × ℕ)} {ks : List (Rec P)} → N.go b m σ p ≡ none → Runs Z b σ ks l p e φ rs bs → Runs Z b σ ks (rep m c l) p e φ rs bs

  -- a child binds tighter than its place asks
  abbrev pub Firm : B → C → Rec P → Type 0
  Firm d c r = N.bound c < N.tight r.kind

  -- Local (b , n) r rs bs: the rule at a node with the attribute b, whose kind is named in the style n, of the record r, with children of
  -- the records rs, to which it hands down bs
  pub data Local : B × ℕ → Rec P → List (Rec P) → List (B × ℕ) → Type 0 where
    -- the bytes at its start call for its kind, and it is laid out from there
    first : {b : B} {n : ℕ} {r : Rec P} {rs : List (Rec P)} {bs : List (B × ℕ)} (k : ℕ)
        → named N n k ≡ r.kind → N.pick b r.start ≡ some k → Runs Firm b r.start [] (N.layout k) r.start r.end r.flag rs bs → Local (b, n) r rs bs
    -- an operator follows its left operand l, which starts where it starts, has the same attribute and its own name, and holds against it;
    -- and it is laid out from the end of l
    later : {b : B} {n : ℕ} {r l : Rec P} {rs : List (Rec P)} {bs : List (B × ℕ)} (k : ℕ)
        → named N n k ≡ r.kind → l.start ≡ r.start → N.op_at b l.end ≡ some k → N.tight k ≤ N.hold l.kind
        → Runs Firm b l.start (l ∷ []) (N.layout k) l.end r.end r.flag rs bs → Local (b, n) r (l ∷ rs) ((b, 0) ∷ bs)

-- ---- at every node of a tree: any rule at one node, with the attributes that it hands down

module _ {P B : Type 0} (Local : B → Rec P → List (Rec P) → List B → Type 0) where
  mutual
    pub data Every : B → Tree P → Type 0 where
      every : {b : B} {k φ : ℕ} {s e : P} {bs : List B} {rs : List (Rec P)} {ts : Trees P}
          → Local b (record { kind = k; flag = φ; start = s; end = e }) rs bs → Everys bs rs ts → Every b (node k φ s e ts)

    -- of children one after the other, with their attributes and records
    pub data Everys : List B → List (Rec P) → Trees P → Type 0 where
      enil : Everys [] [] nil
      econs : {b : B} {bs : List B} {r : Rec P} {rs : List (Rec P)} {t : Tree P} {ts : Trees P}
          → rec_of t ≡ r → Every b t → Everys bs rs ts → Everys (b ∷ bs) (r ∷ rs) (cons t ts)

-- ---- at every node of a table, of which row i is f i, from anyone

-- the rows from lo up to hi are subtrees one after the other, by their counts, whose roots stand at the indices listed
pub data Kids {P : Type 0} (f : ℕ → Row P) : ℕ → ℕ → List ℕ → Type 0 where
  knil : {lo : ℕ} → Kids f lo lo []
  kcons : {lo hi : ℕ} {js : List ℕ} (i : ℕ) → lo + (f i).count ≡ suc i → Kids f (suc i) hi js → Kids f lo hi (i ∷ js)

module _ {P B : Type 0} (Local : B → Rec P → List (Rec P) → List B → Type 0) (f : ℕ → Row P) where
  -- at the index i: its subtree begins at lo, its children stand at the indices `kids`, and the rule holds of their records, under
  -- attributes that anyone gave
  pub record Node (att : ℕ → B) (i : ℕ) : Type 0 where
    pub lo : ℕ
    pub kids : List ℕ
    pub tiles : lo + (f i).count ≡ suc i
    pub split : Kids f lo i kids
    pub local : Local (att i) (f i).rec (map (λ j. (f j).rec) kids) (map att kids)

  -- at every index of a table of n rows; the root, which has the attribute b, is the last row
  pub record Table (b : B) (n : ℕ) : Type 0 where
    pub att : ℕ → B
    pub last : ℕ
    pub size_is : n ≡ suc last
    pub root_att : att last ≡ b
    pub root_count : (f last).count ≡ n
    pub nodes : (i : ℕ) → i < n → Node att i

-- the rule holds at every node of a tree, the tree starts at p, and no operator follows it
abbrev pub Ruled : {P B M C : Type 0} (N : Lang P B M C) → B → P → Tree P → Type 0
Ruled N b p t = ((rec_of t).start ≡ p) × Every (Local N) (b, 0) t × (after N b (rec_of t).end ≡ 0)
