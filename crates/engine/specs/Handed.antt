-- Tests that a parent makes over its children: as of a piece of text against the text round it, or of a key against the keys before it.
-- In the reading such a thing is handed down: an attribute is what a node carries (as its depth) and what its parent hands to it (as the keys
-- before it). The rule that is published sees at a node only what it carries; what is handed is tested at the parent.
use Rattle.std.specs.Prelude.{◌≡◌, Bool, true, false, not, ◌&&◌, ◌||◌, List, ◌∷◌, map, [], ℕ, T, eqb, length}
use Rattle.std.proofs.Math.Option.{some, Option}
use Rattle.engine.specs.Base.{Rec, has, given, all_of}
use Rattle.engine.specs.Flat.{Row, row_in}
use Rattle.engine.specs.Layout.{Lay, bad, fin, move, kid, fork, rep, Lang, named}
use Rattle.engine.specs.Rule.{Local, Table}
use Rattle.engine.specs.Tables.{Called}
use Rattle.engine.specs.Source.{Source, blank}

-- a test of each child by what is handed to it
pub data Tests {P X : Type 0} (Test : X → Rec P → Type 0) : List X → List (Rec P) → Type 0 where
  tnil : Tests Test [] []
  tcons : {x : X} {xs : List X} {r : Rec P} {rs : List (Rec P)} → Test x r → Tests Test xs rs → Tests Test (x ∷ xs) (r ∷ rs)

-- ---- any two rules, the one over attributes A, the other over what they carry: at each node they say the same, if the children are tested
-- at the node in the second, and the node by its parent

module _ {P A D X : Type 0} (carried : A → D) (handed : A → X) (Test : X → Rec P → Type 0) (Local : A → Rec P → List (Rec P) → List A → Type 0) where
  -- attributes that carry what is asked for, at which the rule holds, and the children's tests
  pub record Found (a : A) (r : Rec P) (rs : List (Rec P)) (ds : List D) : Type 0 where
    pub atts : List A
    pub carry : map carried atts ≡ ds
    pub local : Local a r rs atts
    pub tests : Tests Test (map handed atts) rs

  pub record Moved (Post : D → Rec P → List (Rec P) → List D → Type 0) : Type 0 where
    pub to : (a : A) (r : Rec P) (rs : List (Rec P)) (bs : List A) → Local a r rs bs → Tests Test (map handed bs) rs → Post (carried a) r rs (map carried bs) × Test (handed a) r
    pub from : (a : A) (r : Rec P) (rs : List (Rec P)) (ds : List D) → Post (carried a) r rs ds → Test (handed a) r → Found a r rs ds

-- ---- a language whose attribute is what a node carries, B, and what is handed to it, X

abbrev pub carries : {B X : Type 0} → (B × X) × ℕ → B × ℕ
carries a = (a.0.0, a.1)

abbrev pub hands : {B X : Type 0} → (B × X) × ℕ → X
hands a = a.0.1

-- a child of one of the kinds that are tested is tested; any other passes
abbrev pub test_as : {P X : Type 0} → (X → Rec P → Type 0) → Bool → X → Rec P → Type 0
test_as Test true x r = Test x r
test_as Test false x r = Unit {0}

abbrev pub Passes : {P X : Type 0} → List ℕ → (X → Rec P → Type 0) → X → Rec P → Type 0
Passes tested Test x r = test_as Test (has tested r.kind) x r

module _ {P B X M C : Type 0} where
  pub record Hands (N : Lang P (B × X) M C) : Type 1 where
    -- the moves that look at what is handed
    pub uses : M → Bool
    -- the kinds that their parent tests, and the test of such a child by what is handed to it
    pub tested : List ℕ
    pub Test : X → Rec P → Type 0
    -- what is tested of such a node at itself
    pub Own : B × ℕ → Rec P → List (Rec P) → List (B × ℕ) → Type 0
    -- what is handed in its stead to nodes of all other kinds, which do not look at it
    pub nothing : X

  module _ (N : Lang P (B × X) M C) (H : Hands N) where
    -- the rule at a node, as it is published: of a kind that its parent tests, what is its own; of any other kind the language's rule, and the
    -- test of each child
    abbrev pub post_as : Bool → B × ℕ → Rec P → List (Rec P) → List (B × ℕ) → Type 0
    post_as true d r rs ds = H.Own d r rs ds
    post_as false d r rs ds = Found carries hands (Passes H.tested H.Test) (Local N) ((d.0, H.nothing), d.1) r rs ds

    abbrev pub Posted : B × ℕ → Rec P → List (Rec P) → List (B × ℕ) → Type 0
    Posted d r rs ds = post_as (has H.tested r.kind) d r rs ds

    -- no move of the layout looks at what is handed
    abbrev pub free : Lay M C → Bool
    free bad = true
    free (fin φ) = true
    free (move m l) = not (H.uses m) && free l
    free (kid c l) = free l
    free (fork m l l') = not (H.uses m) && (free l && free l')
    free (rep m c l) = not (H.uses m) && free l

    -- what is asked: nothing but the moves that are marked looks at what is handed; the layouts of kinds that are not tested have no such move;
    -- no tested kind is a left operand; and of a tested kind the rule is its own part and the test
    pub record Blind : Type 0 where
      pub pick_blind : (b : B) (x y : X) (p : P) → N.pick (b, x) p ≡ N.pick (b, y) p
      pub op_blind : (b : B) (x y : X) (p : P) → N.op_at (b, x) p ≡ N.op_at (b, y) p
      pub go_blind : (b : B) (x y : X) (m : M) (σ p : P) → T (not (H.uses m)) → N.go (b, x) m σ p ≡ N.go (b, y) m σ p
      pub down_blind : (b : B) (x y : X) (c : C) (σ : P) (ks : List (Rec P)) → N.down (b, x) c σ ks ≡ N.down (b, y) c σ ks
      pub free_ok : (a : B × X) (n k : ℕ) → Called N a k → T (has H.tested (named N n k) || free (N.layout k))
      pub left_ok : T (all_of (λ k. eqb (N.hold k) 0) H.tested)
      pub own_to : (a : (B × X) × ℕ) (r : Rec P) (rs : List (Rec P)) (bs : List ((B × X) × ℕ)) → T (has H.tested r.kind) → Local N a r rs bs → Tests (Passes H.tested H.Test) (map hands bs) rs
          → H.Own (carries a) r rs (map carries bs) × H.Test (hands a) r
      pub own_from : (a : (B × X) × ℕ) (r : Rec P) (rs : List (Rec P)) (ds : List (B × ℕ)) → T (has H.tested r.kind) → H.Own (carries a) r rs ds → H.Test (hands a) r → Found carries hands (Passes H.tested H.Test) (Local N) a r rs ds

-- ---- the usual case of a tested kind: its layout has a move that only tests what is handed, as of a key against those before it. Its own part is
-- then the same layout without that test

abbrev pub go_as : {P : Type 0} → Bool → P → Option P → Option P
go_as true p o = some p
go_as false p o = o

module _ {P B X M C : Type 0} (N : Lang P (B × X) M C) (uses : M → Bool) where
  -- the language without its tests: they are passed, and stay where they are
  abbrev pub untested : Lang P (B × X) M C
  untested = record {
    pick = N.pick;
    op_at = N.op_at;
    layout = N.layout;
    go = λ a m σ p. go_as (uses m) p (N.go a m σ p);
    down = N.down;
    tight = N.tight;
    bound = N.bound;
    hold = N.hold;
    cap = N.cap;
    style = N.style;
    name = N.name;
    no_move = N.no_move;
    no_kind = N.no_kind;
    no_level = N.no_level;
    slack = N.slack;
    stops = N.stops;
    keeps = N.keeps;
  }

  -- a test is no option, and stands on each way
  abbrev pub sober : Lay M C → Bool
  sober bad = true
  sober (fin φ) = true
  sober (move m l) = sober l
  sober (kid c l) = sober l
  sober (fork m l l') = not (uses m) && (sober l && sober l')
  sober (rep m c l) = not (uses m) && sober l

  abbrev pub meets : Lay M C → Bool
  meets bad = true
  meets (fin φ) = false
  meets (move m l) = uses m || meets l
  meets (kid c l) = meets l
  meets (fork m l l') = meets l && meets l'
  meets (rep m c l) = meets l

  -- what the tests are: of what is handed and where the node starts
  pub record Pure (passes : X → P → Bool) : Type 0 where
    pub tests : (b : B) (x : X) (m : M) (σ p : P) → T (uses m) → N.go (b, x) m σ p ≡ given (passes x σ) (some p)
    pub others : (b : B) (x y : X) (m : M) (σ p : P) → T (not (uses m)) → N.go (b, x) m σ p ≡ N.go (b, y) m σ p
    pub picks : (b : B) (x y : X) (p : P) → N.pick (b, x) p ≡ N.pick (b, y) p
    pub downs : (b : B) (x y : X) (c : C) (σ : P) (ks : List (Rec P)) → N.down (b, x) c σ ks ≡ N.down (b, y) c σ ks

-- ---- a source's table, by the published rule

module _ {P B X M C : Type 0} (s : Source P (B × X) M C) (H : Hands s.lang) where
  pub record Posts (rows : List (Row P)) : Type 0 where
    pub rule : Table (Posted s.lang H) (row_in (blank s) rows) (s.root.0, 0) (length rows)
    pub from_start : (row_in (blank s) rows rule.last).rec.start ≡ s.begin
    pub to_end : T (s.ended (row_in (blank s) rows rule.last).rec.end)

  -- the root has no parent: if it is of a tested kind, its own part is all
  abbrev pub RootOwn : Type 0
  RootOwn = (r : Rec P) (rs : List (Rec P)) (ds : List (B × ℕ)) → T (has H.tested r.kind) → H.Own (s.root.0, 0) r rs ds → H.Test s.root.1 r
