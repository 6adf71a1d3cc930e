-- A language as tables: for each kind of node a layout, a small piece of data; and its reading.
use Rattle.std.specs.Prelude.{Bool, List, [], ◌∷◌, ℕ, zero, suc, leb}
use Rattle.std.proofs.Math.Option.{Option, none, some}
use Rattle.engine.specs.Base.{Outcome, Rec, Tree, renamed, unless}
use Rattle.engine.specs.Engine.{View, done, stop, ask, Grammar, read}

-- M: moves over bytes; C: classes of children
pub data Lay (M C : Type 0) : Type 0 where
  -- no way on
  bad : Lay M C
  -- the node ends here, with this flag
  fin : ℕ → Lay M C
  -- bytes, then the rest
  move : M → Lay M C → Lay M C
  -- a child, then the rest
  kid : C → Lay M C → Lay M C
  -- an option: if the move can be made, it and the first; else the second
  fork : M → Lay M C → Lay M C → Lay M C
  -- as long as the move can be made, it and a child; then the rest
  rep : M → C → Lay M C → Lay M C

-- P: places. B: attributes, what is handed down to a node (as its depth). Kinds, flags, levels and styles are numbers.
pub record Lang (P B M C : Type 0) : Type 0 where
  -- the kind that the bytes at a place call for; the kind of the operator that follows a place
  pub pick : B → P → Option ℕ
  pub op_at : B → P → Option ℕ
  -- how a kind is laid out; an operator's layout begins after its left operand
  pub layout : ℕ → Lay M C
  -- a move from a place; it sees the node's attribute and where the node starts
  pub go : B → M → P → P → Option P
  -- a child's attribute, by the node's, where the node starts and the records of its earlier children, the nearest first;
  -- none: too deep, or not here
  pub down : B → C → P → List (Rec P) → Option B
  -- how tightly a kind binds: an operator's level, or more than all levels; a child must bind tighter than the bound of its class
  pub tight : ℕ → ℕ
  pub bound : C → ℕ
  -- operators up to this level may follow a kind as their left operand
  pub hold : ℕ → ℕ
  -- above every operator's level
  pub cap : ℕ
  -- a class may call its child's root by another name: a style, 0 for the kind itself, and what a kind is called in each other style
  pub style : C → ℕ
  pub name : ℕ → ℕ → ℕ
  -- the refusals, by number and place: a move that cannot be made, no kind called for, a child that cannot be asked for
  pub no_move : B → M → P → P → ℕ × P
  pub no_kind : B → P → ℕ × P
  pub no_level : B → C → List (Rec P) → P → ℕ × P
  -- for the check of the tables alone (Tables): what stands after a child of the class is no operator of a level above its slack; nor is
  -- what stands where this move can be made; and the child's attribute sees the same operators as its parent's
  pub slack : C → ℕ
  pub stops : M → C → Bool
  pub keeps : C → Bool

-- ---- the reading

-- a production under way: its node's attribute and start, the children's records so far, its kind, the rest of its layout, and the place
pub record State (P B M C : Type 0) : Type 0 where
  pub att : B
  pub start : P
  -- the nearest first
  pub kids : List (Rec P)
  pub kind : ℕ
  pub lay : Lay M C
  pub place : P

module _ {P B M C : Type 0} (N : Lang P B M C) where
  abbrev pub Sight : Type 0
  Sight = View P (B × ℕ) (State P B M C)

  abbrev pub refuse : ℕ × P → Sight
  refuse (k, p) = stop k p

  -- a move that is made or refused; a child that is asked for or refused; a move that is tried
  abbrev pub hop : Option P → ℕ × P → (P → Sight) → Sight
  hop none z f = refuse z
  hop (some q) z f = f q

  abbrev pub dive : Option B → ℕ × P → ℕ → P → (ℕ → ℕ) → (Rec P → State P B M C) → Sight
  dive none z j p nm f = refuse z
  dive (some b) z j p nm f = ask (b, j) p nm f

  abbrev pub turn : Option P → (P → Sight) → Sight → Sight
  turn none f v = v
  turn (some q) f v = f q

  -- what a kind is called in a style
  abbrev pub named : ℕ → ℕ → ℕ
  named zero k = k
  named (suc n) k = N.name n k

  -- what a child's kind is called
  abbrev pub alias : C → ℕ → ℕ
  alias c = named (N.style c)

  -- how a production goes on by the rest of its layout
  abbrev pub seen : B → P → List (Rec P) → ℕ → Lay M C → P → Sight
  seen b σ ks k bad p = refuse (N.no_kind b p)
  seen b σ ks k (fin φ) p = done k φ p
  seen b σ ks k (move m l) p = hop (N.go b m σ p) (N.no_move b m σ p) (seen b σ ks k l)
  seen b σ ks k (kid c l) p = dive (N.down b c σ ks) (N.no_level b c ks p) (N.bound c) p (alias c) (λ r. record { att = b; start = σ; kids = renamed (alias c) r ∷ ks; kind = k; lay = l; place = r.end })
  seen b σ ks k (fork m l r) p = turn (N.go b m σ p) (seen b σ ks k l) (seen b σ ks k r p)
  seen b σ ks k (rep m c l) p =
      turn (N.go b m σ p) (λ q. dive (N.down b c σ ks) (N.no_level b c ks q) (N.bound c) q (alias c) (λ r. record { att = b; start = σ; kids = renamed (alias c) r ∷ ks; kind = k; lay = rep m c l; place = r.end })) (seen b σ ks k l p)

  -- a production begins, by its kind
  abbrev pub from : Option ℕ → B → P → List (Rec P) → P → State P B M C
  from none b σ ks p = record { att = b; start = σ; kids = ks; kind = 0; lay = bad; place = p }
  from (some k) b σ ks p = record { att = b; start = σ; kids = ks; kind = k; lay = N.layout k; place = p }

  -- the level of an operator; 0: there is none
  abbrev pub level : Option ℕ → ℕ
  level none = 0
  level (some k) = N.tight k

  -- only a kind that is tight enough
  abbrev pub fit : ℕ → Option ℕ → Option ℕ
  fit j none = none
  fit j (some k) = unless (leb (N.tight k) j) k

  -- the level of the operator that follows a place; 0: none does
  abbrev pub after : B → P → ℕ
  after b p = level (N.op_at b p)

  -- the language as a grammar. A child is asked for under (b , j): its attribute, and the bound of its class, so that what stands first must bind
  -- tighter than j, and operators of a level above j are taken
  abbrev pub grammar : Grammar P (B × ℕ) (State P B M C)
  grammar = record {
    view = λ s. seen s.att s.start s.kids s.kind s.lay s.place;
    lead = λ a p. from (fit a.1 (N.pick a.0 p)) a.0 p [] p;
    next = λ a r. unless (leb (after a.0 r.end) a.1) (from (N.op_at a.0 r.end) a.0 r.start (r ∷ []) r.end);
  }

  abbrev pub read_at : ℕ → B → P → Outcome P (Tree P)
  read_at n b p = read grammar n (b, 0) p
