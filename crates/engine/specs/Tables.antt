-- What is asked of a language's tables, so that rule and reading agree. The tests of layouts and levels compute: for a language the prover
-- runs them over its tables.
use Rattle.std.specs.Prelude.{◌≡◌, Bool, true, false, ◌&&◌, ◌||◌, ◌⊎◌, List, ℕ, suc, ◌≤◌, ◌<◌, leb, T}
use Rattle.std.proofs.Math.Option.{Option, none, some}
use Rattle.engine.specs.Base.{Rec}
use Rattle.engine.specs.Layout.{Lay, bad, fin, move, kid, fork, rep, Lang, after}

module _ {P B M C : Type 0} (N : Lang P B M C) where
  -- ---- what stops a child's reading: after each child of a node that operators up to lim may follow stands a move that stops it, or the
  -- node ends there, or the class takes every operator in

  abbrev pub shutK : ℕ → C → Lay M C → Bool
  shutK lim c bad = true
  shutK lim c (fin φ) = N.keeps c && leb lim (N.slack c)
  shutK lim c (move m l) = N.stops m c
  shutK lim c (kid c' l) = false
  shutK lim c (fork m l l') = N.stops m c && shutK lim c l'
  shutK lim c (rep m c' l) = N.stops m c && shutK lim c l

  abbrev pub close : ℕ → C → Lay M C → Bool
  close lim c l = leb N.cap (suc (N.slack c)) || shutK lim c l

  abbrev pub shut : ℕ → Lay M C → Bool
  shut lim bad = true
  shut lim (fin φ) = true
  shut lim (move m l) = shut lim l
  shut lim (kid c l) = close lim c l && shut lim l
  shut lim (fork m l l') = shut lim l && shut lim l'
  shut lim (rep m c l) = close lim c (rep m c l) && shut lim l

  -- ---- a node ends where only operators up to lim may follow: it ends in a child, whose bound says so, or lim is above every level

  -- the child that stands last
  abbrev pub tail : ℕ → Option C → Bool
  tail lim none = false
  tail lim (some c) = N.keeps c && leb (N.bound c) lim

  abbrev pub open' : ℕ → Option C → Lay M C → Bool
  open' lim o bad = true
  open' lim o (fin φ) = tail lim o
  open' lim o (move m l) = open' lim none l
  open' lim o (kid c l) = open' lim (some c) l
  open' lim o (fork m l l') = open' lim none l && open' lim o l'
  open' lim o (rep m c l) = open' lim o l && open' lim (some c) l

  abbrev pub opens : ℕ → Lay M C → Bool
  opens lim l = leb N.cap (suc lim) || open' lim none l

  -- ---- the test of a kind, and of one that an operator calls for

  abbrev pub ok_kind : ℕ → Bool
  ok_kind k = (leb 1 (N.tight k) && leb (N.hold k) (N.tight k)) && (shut (N.hold k) (N.layout k) && opens (N.hold k) (N.layout k))

  abbrev pub ok_op : ℕ → Bool
  ok_op k = leb (suc (N.tight k)) N.cap && ok_kind k

  -- a kind that is tight enough for a child's place holds against all that may follow there
  abbrev pub stands : C → ℕ → Bool
  stands c k = leb (N.tight k) (N.bound c) || leb (N.slack c) (N.hold k)

  -- a kind that may stand under an attribute
  abbrev pub Called : B → ℕ → Type 0
  Called b k = (p : P) × ((N.pick b p ≡ some k) ⊎ (N.op_at b p ≡ some k))

  -- ---- what a language must keep

  pub record Sane : Type 0 where
    pub cap_pos : 0 < N.cap
    -- a name is as tight as the kind
    pub name_tight : (n k : ℕ) → N.tight (N.name n k) ≡ N.tight k
    pub slack_le : (c : C) → N.slack c ≤ N.bound c
    -- the tests, of each kind that is called for
    pub pick_ok : (b : B) (p : P) (k : ℕ) → N.pick b p ≡ some k → T (ok_kind k)
    pub op_ok : (b : B) (p : P) (k : ℕ) → N.op_at b p ≡ some k → T (ok_op k)
    -- of each kind that may stand where a class is asked for
    pub stands_ok : (c : C) (b d : B) (σ : P) (ks : List (Rec P)) (k : ℕ) → N.down b c σ ks ≡ some d → Called d k → T (stands c k)
    -- the marks `stops` and `keeps` are true
    pub stops_ok : (m : M) (c : C) → T (N.stops m c) → (b d : B) (σ : P) (ks : List (Rec P)) (p q : P) → N.down b c σ ks ≡ some d → N.go b m σ p ≡ some q → after N d p ≤ N.slack c
    pub keeps_ok : (c : C) → T (N.keeps c) → (b d : B) (σ : P) (ks : List (Rec P)) (p : P) → N.down b c σ ks ≡ some d → after N d p ≡ after N b p
