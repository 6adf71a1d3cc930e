-- The reading of any grammar, and what it is to be read, as derivations with no fuel.
use Rattle.std.specs.Prelude.{◌≡◌, ℕ, zero, suc}
use Rattle.std.proofs.Math.Option.{Option, none, some}
use Rattle.engine.specs.Base.{Outcome, ok, halt, stuck, bind, Rec, Tree, node, Trees, nil, cons, rec_of, rename}

-- what a production comes to from the state in which it stands: it ends with a kind, a flag and an end; or it is refused, by number and
-- place; or it asks for a child under an attribute at a place, names the child's root, and goes on by the child's record
pub data View (P A S : Type 0) : Type 0 where
  done : ℕ → ℕ → P → View P A S
  stop : ℕ → P → View P A S
  ask : A → P → (ℕ → ℕ) → (Rec P → S) → View P A S

-- a grammar: the production that is read at a place under an attribute, and the one that may go on after a finished node, which is then
-- the new node's first child
pub record Grammar (P A S : Type 0) : Type 0 where
  pub view : S → View P A S
  pub lead : A → P → S
  pub next : A → Rec P → Option S

-- what a production was read to
pub record Body (P : Type 0) : Type 0 where
  pub kind : ℕ
  pub flag : ℕ
  pub end : P
  pub kids : Trees P

module _ {P A S : Type 0} (G : Grammar P A S) where
  -- ---- the reading

  abbrev pub top : P → Body P → Tree P
  top p x = node x.kind x.flag p x.end x.kids

  -- a node whose first child stands already
  abbrev pub on_top : Tree P → Body P → Tree P
  on_top t x = node x.kind x.flag (rec_of t).start x.end (cons t x.kids)

  abbrev pub with_kid : Tree P → Body P → Body P
  with_kid t x = record { kind = x.kind; flag = x.flag; end = x.end; kids = cons t x.kids }

  -- one production, children by R; `more` is the rest of it
  abbrev pub act : (A → P → Outcome P (Tree P)) → (S → Outcome P (Body P)) → View P A S → Outcome P (Body P)
  act R more (done k φ e) = ok (record { kind = k; flag = φ; end = e; kids = nil })
  act R more (stop k p) = halt k p
  act R more (ask a p nm f) = bind (R a p) (λ t. bind (more (f (rec_of t))) (λ x. ok (with_kid (rename nm t) x)))

  abbrev pub run : ℕ → (A → P → Outcome P (Tree P)) → S → Outcome P (Body P)
  run zero R s = stuck
  run (suc m) R s = act R (run m R) (G.view s)

  -- no more: what there is so far; one more production: read on
  abbrev pub on : Option S → Tree P → (S → Outcome P (Tree P)) → Outcome P (Tree P)
  on none t f = ok t
  on (some g) t f = f g

  abbrev pub loop : ℕ → ℕ → (A → P → Outcome P (Tree P)) → A → Tree P → Outcome P (Tree P)
  loop zero n R a t = stuck
  loop (suc m) n R a t = on (G.next a (rec_of t)) t (λ g. bind (run n R g) (λ x. loop m n R a (on_top t x)))

  -- what leads, then all that goes on after it
  abbrev pub climb : ℕ → ℕ → (A → P → Outcome P (Tree P)) → A → P → Outcome P (Tree P)
  climb m n R a p = bind (run n R (G.lead a p)) (λ x. loop m n R a (top p x))

  -- the reading under an attribute at a place, by fuel
  abbrev pub read : ℕ → A → P → Outcome P (Tree P)
  read zero a p = stuck
  read (suc n) a p = climb (suc n) (suc n) (read n) a p

  -- the reading by the fuel that μ says; where the grammar moves on, that is enough (Progress)
  abbrev pub full : (A → P → ℕ) → A → P → Outcome P (Tree P)
  full μ a p = read (suc (μ a p)) a p

  -- ---- acceptance, with no fuel, of a tree from anyone

  mutual
    -- the tree may stand so far as the left part of what is read under a
    pub data Good : A → Tree P → Type 0 where
      leads : {a : A} {k φ : ℕ} {b e : P} {ts : Trees P} → Fits (G.lead a b) k φ e ts → Good a (node k φ b e ts)
      grows : {a : A} {l : Tree P} {k φ : ℕ} {b e : P} {ts : Trees P} (g : S)
          → Good a l → (rec_of l).start ≡ b → G.next a (rec_of l) ≡ some g → Fits g k φ e ts → Good a (node k φ b e (cons l ts))

    -- the children fit what the production asks for
    pub data Fits : S → ℕ → ℕ → P → Trees P → Type 0 where
      ends : {s : S} {k φ : ℕ} {e : P} → G.view s ≡ done k φ e → Fits s k φ e nil
      asks : {s : S} {k φ : ℕ} {e : P} {t u : Tree P} {ts : Trees P} (a : A) (p : P) (nm : ℕ → ℕ) (f : Rec P → S)
          → G.view s ≡ ask a p nm f → rename nm t ≡ u → (rec_of t).start ≡ p → Good a t → G.next a (rec_of t) ≡ none → Fits (f (rec_of t)) k φ e ts
          → Fits s k φ e (cons u ts)

  -- the tree is read at p under a, and nothing goes on after it
  abbrev pub Whole : A → P → Tree P → Type 0
  Whole a p t = ((rec_of t).start ≡ p) × Good a t × (G.next a (rec_of t) ≡ none)

  -- ---- refusal, with no fuel: what was read well so far, and the step that cannot be made

  mutual
    pub data FailAt : A → P → ℕ → P → Type 0 where
      fails_first : {a : A} {p : P} {k : ℕ} {q : P} → FailIn (G.lead a p) k q → FailAt a p k q
      fails_later : {a : A} {p : P} {k : ℕ} {q : P} (t : Tree P) (g : S) → (rec_of t).start ≡ p → Good a t → G.next a (rec_of t) ≡ some g → FailIn g k q → FailAt a p k q

    pub data FailIn : S → ℕ → P → Type 0 where
      fails_here : {s : S} {k : ℕ} {q : P} → G.view s ≡ stop k q → FailIn s k q
      fails_kid : {s : S} {k : ℕ} {q : P} (a : A) (p : P) (nm : ℕ → ℕ) (f : Rec P → S) → G.view s ≡ ask a p nm f → FailAt a p k q → FailIn s k q
      fails_rest : {s : S} {k : ℕ} {q : P} (a : A) (p : P) (nm : ℕ → ℕ) (f : Rec P → S) (t : Tree P) → G.view s ≡ ask a p nm f → Whole a p t → FailIn (f (rec_of t)) k q → FailIn s k q
