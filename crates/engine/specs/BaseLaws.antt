-- Plain facts of Base: of bind, of renamed trees, of tests with what they say, of choosing.
-- an accepted bind: both halves were accepted
use Rattle.std.specs.Prelude.{◌≡◌, refl, Bool, true, false, not, ◌&&◌, ◌||◌, ◌⊎◌, List, [], ◌∷◌, ℕ, suc, ◌≤◌, ◌<◌, zero, leb, eqb, T, get_or}
use Rattle.std.proofs.Common.{subst, inl, inr, arith, leb→le, eqb→eq}
use Rattle.std.proofs.Math.Option.{none, some, Option}
use Rattle.std.proofs.Math.Dec.{nleb→lt, eqb_refl}
use Rattle.engine.specs.Base.{Outcome, ok, halt, stuck, bind, Tree, node, rec_of, size, rename, renamed, unless, choose, all_of, has, given}

pub bind_ok : {P X Y : Type 0} (o : Outcome P X) (f : X → Outcome P Y) (y : Y) → bind o f ≡ ok y → (x : X) × (o ≡ ok x) × (f x ≡ ok y)
bind_ok (ok x) f y e = (x, refl, e)
bind_ok (halt k p) f y e = absurd (let z : ◌≡◌ {A = ℕ} 0 1 = cc in omega arith)
bind_ok stuck f y e = absurd (let z : ◌≡◌ {A = ℕ} 0 1 = cc in omega arith)

pub bind_is : {P X Y : Type 0} {o : Outcome P X} {x : X} (f : X → Outcome P Y) → o ≡ ok x → bind o f ≡ f x
bind_is f e = rw e

pub halt_is : {P X Y : Type 0} {o : Outcome P X} {k : ℕ} {q : P} (f : X → Outcome P Y) → o ≡ halt k q → bind o f ≡ halt k q
halt_is f e = rw e

pub ok_inj : {P X : Type 0} {x y : X} → ◌≡◌ {A = Outcome P X} (ok x) (ok y) → x ≡ y
ok_inj e = cc

pub halt_ok : {P X Y : Type 0} {k : ℕ} {p : P} {x : X} → ◌≡◌ {A = Outcome P X} (halt k p) (ok x) → Y
halt_ok e = absurd (let z : ◌≡◌ {A = ℕ} 0 1 = cc in omega arith)

pub stuck_ok : {P X Y : Type 0} {x : X} → ◌≡◌ {A = Outcome P X} stuck (ok x) → Y
stuck_ok e = absurd (let z : ◌≡◌ {A = ℕ} 0 1 = cc in omega arith)

pub size_pos : {P : Type 0} (t : Tree P) → 1 ≤ size t
size_pos (node k φ b e ts) = omega arith

pub size_rename : {P : Type 0} (g : ℕ → ℕ) (t : Tree P) → size (rename g t) ≡ size t
size_rename g (node k φ b e ts) = refl

pub rec_rename : {P : Type 0} (g : ℕ → ℕ) (t : Tree P) → rec_of (rename g t) ≡ renamed g (rec_of t)
rec_rename g (node k φ b e ts) = refl

pub rename_id : {P : Type 0} (t : Tree P) → rename (λ k. k) t ≡ t
rename_id (node k φ b e ts) = refl

-- a test with what it says
pub data LeCase (m n : ℕ) : Bool → Type 0 where
  low : m ≤ n → LeCase m n true
  high : n < m → LeCase m n false

pub le_case : (m n : ℕ) → LeCase m n (leb m n)
le_case m n = go (leb m n) (leb→le m n) (nleb→lt m n)
  where
    go : (b : Bool) → (T b → m ≤ n) → (T (not b) → n < m) → LeCase m n b
    go true f g = low (f tt)
    go false f g = high (g tt)

pub data EqCase (m n : ℕ) : Bool → Type 0 where
  same : m ≡ n → EqCase m n true
  other : ¬ (m ≡ n) → EqCase m n false

pub eq_case : (m n : ℕ) → EqCase m n (eqb m n)
eq_case m n = go (eqb m n) (eqb→eq m n) (λ e. subst (λ (x : ℕ). T (eqb m x)) e (eqb_refl m))
  where
    go : (b : Bool) → (T b → m ≡ n) → (m ≡ n → T b) → EqCase m n b
    go true f g = same (f tt)
    go false f g = other g

pub and_t : (a b : Bool) → T (a && b) → T a × T b
and_t true b t = (tt, t)
and_t false b t = absurd t

pub or_t : (a b : Bool) → T (a || b) → T a ⊎ T b
or_t true b t = inl tt
or_t false b t = inr t

pub t_and : (a b : Bool) → T a → T b → T (a && b)
t_and true b t u = u
t_and false b t u = absurd t

module _ {S : Type 0} (m n : ℕ) (s : S) where
  pub unless_none : unless (leb m n) s ≡ none → m ≤ n
  unless_none = go (le_case m n)
    where
      go : {b : Bool} → LeCase m n b → unless b s ≡ none → m ≤ n
      go (low h) q = h
      go (high h) q = absurd (let z : ◌≡◌ {A = ℕ} 0 1 = cc in omega arith)

  pub unless_some : (g : S) → unless (leb m n) s ≡ some g → (n < m) × (s ≡ g)
  unless_some g = go (le_case m n)
    where
      go : {b : Bool} → LeCase m n b → unless b s ≡ some g → (n < m) × (s ≡ g)
      go (low h) q = absurd (let z : ◌≡◌ {A = ℕ} 0 1 = cc in omega arith)
      go (high h) q = (h, cc)

  pub unless_le : m ≤ n → unless (leb m n) s ≡ none
  unless_le = go (le_case m n)
    where
      go : {b : Bool} → LeCase m n b → m ≤ n → unless b s ≡ none
      go (low h) q = refl
      go (high h) q = absurd (omega arith)

  pub unless_lt : n < m → unless (leb m n) s ≡ some s
  unless_lt = go (le_case m n)
    where
      go : {b : Bool} → LeCase m n b → n < m → unless b s ≡ some s
      go (low h) q = absurd (omega arith)
      go (high h) q = refl

-- a test on all that may be chosen, which computes where the tests do not
abbrev pub alls : (ℕ → Bool) → List (Bool × ℕ) → Bool
alls q [] = true
alls q (x ∷ xs) = q x.1 && alls q xs

pub choose_all : (q : ℕ → Bool) (xs : List (Bool × ℕ)) → T (alls q xs) → (k : ℕ) → choose xs ≡ some k → T (q k)
choose_all q [] t k e = absurd (let z : ◌≡◌ {A = ℕ} 0 1 = cc in omega arith)
choose_all q (x ∷ xs) t k e = go x.0 e (choose_all q xs (and_t (q x.1) (alls q xs) t).1 k)
  where
    go : (b : Bool) → elim b [ true ↦ some x.1 | false ↦ choose xs ] ≡ some k → (choose xs ≡ some k → T (q k)) → T (q k)
    go true e ih = let z : x.1 ≡ k = cc in subst (λ (y : ℕ). T (q y)) z (and_t (q x.1) (alls q xs) t).0
    go false e ih = ih e

pub lt_or : (m n : ℕ) → (m < n) ⊎ (n ≤ m)
lt_or m n = go (le_case (suc m) n)
  where
    go : {b : Bool} → LeCase (suc m) n b → (m < n) ⊎ (n ≤ m)
    go (low h) = inl h
    go (high h) = inr (omega arith)

-- a fact of all that may be chosen
abbrev pub Alls : (ℕ → Type 0) → List (Bool × ℕ) → Type 0
Alls Q [] = Unit {0}
Alls Q (x ∷ xs) = Q x.1 × Alls Q xs

pub choose_elim : (Q : ℕ → Type 0) (xs : List (Bool × ℕ)) → Alls Q xs → (k : ℕ) → choose xs ≡ some k → Q k
choose_elim Q [] t k e = absurd (let z : ◌≡◌ {A = ℕ} 0 1 = cc in omega arith)
choose_elim Q (x ∷ xs) (t, ts) k e = go x.0 e (choose_elim Q xs ts k)
  where
    go : (b : Bool) → elim b [ true ↦ some x.1 | false ↦ choose xs ] ≡ some k → (choose xs ≡ some k → Q k) → Q k
    go true e ih = let z : x.1 ≡ k = cc in subst Q z t
    go false e ih = ih e

-- a test of all that are listed is a test of each
pub has_all : (q : ℕ → Bool) (ks : List ℕ) → T (all_of q ks) → (k : ℕ) → T (has ks k) → T (q k)
has_all q [] t k h = absurd h
has_all q (x ∷ xs) t k h = go (or_t (eqb x k) (has xs k) h) (has_all q xs (and_t (q x) (all_of q xs) t).1 k)
  where
    go : T (eqb x k) ⊎ T (has xs k) → (T (has xs k) → T (q k)) → T (q k)
    go (inl u) ih = subst (λ (y : ℕ). T (q y)) (eqb→eq x k u) (and_t (q x) (all_of q xs) t).0
    go (inr u) ih = ih u

pub t_or : (a b : Bool) → T a ⊎ T b → T (a || b)
t_or true b t = tt
t_or false b (inl u) = absurd u
t_or false b (inr u) = u

pub some_is : {X : Type 0} {x y : X} → some x ≡ some y → x ≡ y
some_is e = cc

pub given_t : {X : Type 0} (b : Bool) (o : Option X) (x : X) → given b o ≡ some x → T b × (o ≡ some x)
given_t true o x e = (tt, e)
given_t false o x e = absurd (let z : ◌≡◌ {A = ℕ} 0 1 = cc in omega arith)

pub t_given : {X : Type 0} (b : Bool) (o : Option X) → T b → given b o ≡ o
t_given true o t = refl
t_given false o t = absurd t

pub is_t : (b : Bool) → b ≡ true → T b
is_t true q = tt
is_t false q = absurd (let z : ◌≡◌ {A = ℕ} 0 1 = cc in omega arith)

pub is_f : (b : Bool) → b ≡ false → T (not b)
is_f true q = absurd (let z : ◌≡◌ {A = ℕ} 0 1 = cc in omega arith)
is_f false q = tt

pub t_or_not : (b : Bool) → T b ⊎ T (not b)
t_or_not true = inl tt
t_or_not false = inr tt

-- a test of each entry of a table and of what stands after its end is a test at every index
pub getD_all : {X : Type 0} (q : X → Bool) (xs : List X) (d : X) → T (all_of q xs) → T (q d) → (i : ℕ) → T (q (get_or xs i d))
getD_all q [] d t u i = u
getD_all q (x ∷ xs) d t u zero = (and_t (q x) (all_of q xs) t).0
getD_all q (x ∷ xs) d t u (suc i) = getD_all q xs d (and_t (q x) (all_of q xs) t).1 u i
