-- What an answer of the reader's functions says.
use Rattle.std.specs.Prelude.{ℕ, ◌+◌, ◌*◌, ◌-◌, ◌≤◌, ◌<◌, ◌≡◌, List, [], ◌∷◌, Bool, true, false, ◌||◌, ◌⊎◌, length, take, eqb, Result, Ok, Err}
use Rattle.std.proofs.Math.Option.{some}
use Rattle.reader.specs.declared.Reading.{Reading}
use Rattle.reader.specs.declared.at.At.{At}
use Rattle.reader.specs.declared.at.Level.{Level}
use Rattle.engine.specs.Base.{Outcome, ok, halt, stuck, Rec, Tree, rec_of, size, sizes}
use Rattle.engine.specs.Engine.{Body, Fits, FailIn, FailAt}
use Rattle.engine.specs.Layout.{fin, move, kid, grammar, after}
use Rattle.engine.specs.Way.{Gives, Begins, Part, mid}
use Rattle.lexis.specs.Bytes.{byte_at, stands}
use Rattle.lexis.specs.Heredoc.{opener_at}
use Rattle.lexis.specs.String.{mode_of}
use Rattle.lexis.specs.Keys.{among}
use Rattle.grammar.specs.declared.picks.Head.{Head}
use Rattle.grammar.specs.declared.kinds.Refused.{Refused}
use Rattle.grammar.specs.declared.kinds.Refusal.TheVariants as refusal
use Rattle.grammar.specs.Kinds.{number}
use Rattle.grammar.specs.Alone.{HeadAt}
use Rattle.grammar.specs.Moves.{Under, an_expression, an_item, round}
use Rattle.grammar.specs.Layouts.{Layout, layout_of, text_lay, inside, opening, space, past}
use Rattle.grammar.specs.Hcl.{hcl, under, pick_at, bounds}
use Rattle.grammar.specs.Code.{class_of}
use Rattle.grammar.specs.Thrift.{spare, bonus}
use Rattle.grammar.specs.Wants.{want_in, below}
use Rattle.grammar.specs.Programmed.{Programmed}
use Rattle.grammar.specs.Table.{record_of, records_of, records_ofs, texts_of, texts_ofs, total}
use Rattle.reader.specs.Buffer.{put_at, lay, write}
use Rattle.reader.specs.Items.{met_in}

-- an answer in numbers: kind 0, the end, the number of records and of text bytes; or a refusal's kind and place, and zeros
pub record Step : Type 0 where
  pub kind : ℕ
  pub end : ℕ
  pub count : ℕ
  pub text : ℕ

abbrev pub step_of : ℕ → ℕ → ℕ → ℕ → Step
step_of k e n t = record { kind = k; end = e; count = n; text = t }

-- the same of the code's answers
abbrev pub halted : Refused → Step
halted e = step_of (number e.kind) e.at 0 0

abbrev pub answered : Result Reading Refused → Step
answered (Ok m) = step_of 0 m.end m.count m.text
answered (Err e) = halted e

-- what the reader's functions ask: a source of at most 65,535 bytes, a place in it; no more records, text bytes and thrice the keys before it than bytes;
-- and room for four numbers of each key
pub record Asked (s y : List ℕ) (i u k p : ℕ) : Type 0 where
  pub small : length s ≤ 65535
  pub inside : p ≤ length s
  pub few : i ≤ p
  pub used : u ≤ p
  pub opened : 3 * k ≤ p
  pub wide : 4 * length s ≤ 3 * length y

-- ---- what was asked for

-- a whole expression, with the operators of a level above j
abbrev pub Climbs : List ℕ → Under → ℕ → ℕ → Outcome ℕ (Tree ℕ) → Type 0
Climbs s b j p o = Gives (grammar (hcl s)) (b, j) p o

-- a term with its traversals: what stands so far, whatever operators may follow, and no traversal does
abbrev pub Terms : List ℕ → Under → ℕ → Outcome ℕ (Tree ℕ) → Type 0
Terms s b p (ok t) = ((j : ℕ) → j ≤ 7 → Part (hcl s) (b, j) p t) × (after (hcl s) b (rec_of t).end ≤ 7)
Terms s b p (halt x q) = (j : ℕ) → j ≤ 7 → FailAt (grammar (hcl s)) (b, j) p x q
Terms s b p stuck = ⊥

-- what stands first, a unary operator with its term: what stands so far, whatever operators and traversals may follow
abbrev pub Firsts : List ℕ → Under → ℕ → Outcome ℕ (Tree ℕ) → Type 0
Firsts s b p (ok t) = (j : ℕ) → j ≤ 7 → Part (hcl s) (b, j) p t
Firsts s b p (halt x q) = (j : ℕ) → j ≤ 7 → FailAt (grammar (hcl s)) (b, j) p x q
Firsts s b p stuck = ⊥

-- what stands first, without its traversals
abbrev pub Heads : List ℕ → Under → ℕ → Outcome ℕ (Tree ℕ) → Type 0
Heads s b p o = Begins (hcl s) b p o

-- ---- what an answer tells

abbrev pub told_as : List ℕ → ℕ → ℕ → List ℕ → List ℕ → List ℕ → List ℕ → Step → Outcome ℕ (Tree ℕ) → Type 0
told_as s i u b b' x x' r (ok t) =
    (r ≡ step_of 0 (rec_of t).end (size t) (total (texts_of s 0 t)))
    × (b' ≡ lay b i (records_of s 0 u t))
    × (x' ≡ write x u (texts_of s 0 t))
    × (eqb (rec_of t).kind 9 ≡ false)
told_as s i u b b' x x' r (halt k a) = (r ≡ step_of k a 0 0) × (1 ≤ k)
told_as s i u b b' x x' r stuck = ⊥

-- the first k keys are as they were, of four numbers each
pub record Kept (k : ℕ) (y y' : List ℕ) : Type 0 where
  pub same : take (4 * k) y' ≡ take (4 * k) y
  pub long : length y' ≡ length y

-- what an answer says; Z is what was asked for. The bounds hold of a refusal too, so that arithmetic reads them wherever the answer is used
pub record Said (Z : Outcome ℕ (Tree ℕ) → Type 0) (s : List ℕ) (i u k p : ℕ) (b b' x x' y y' : List ℕ) (r : Step) : Type 0 where
  pub out : Outcome ℕ (Tree ℕ)
  pub gives : Z out
  pub told : told_as s i u b b' x x' r out
  pub room : p + r.count ≤ r.end
  pub spent : p + r.text ≤ r.end
  pub high : r.end ≤ length s
  pub kept : Kept k y y'

-- what was asked for is read: it ends at e, has n records and t text bytes, and these are laid over the buffers
pub record Good (Z : Outcome ℕ (Tree ℕ) → Type 0) (s : List ℕ) (i u p : ℕ) (b b' x x' : List ℕ) (e n t : ℕ) : Type 0 where
  pub tree : Tree ℕ
  pub gives : Z (ok tree)
  pub end : (rec_of tree).end ≡ e
  pub count : size tree ≡ n
  pub text : total (texts_of s 0 tree) ≡ t
  pub laid : b' ≡ lay b i (records_of s 0 u tree)
  pub written : x' ≡ write x u (texts_of s 0 tree)
  pub whole : eqb (rec_of tree).kind 9 ≡ false
  pub room : p + n ≤ e
  pub spent : p + t ≤ e
  pub high : e ≤ length s

-- ---- the rest of a production

-- from a state, the production of the kind k is read to its end
abbrev pub Makes : List ℕ → Under → ℕ → List (Rec ℕ) → ℕ → Layout → ℕ → Outcome ℕ (Body ℕ) → Type 0
Makes s b σ ks k l p (ok x) = Fits (grammar (hcl s)) (mid (hcl s) b σ ks k l p) k x.flag x.end x.kids
Makes s b σ ks k l p (halt n q) = FailIn (grammar (hcl s)) (mid (hcl s) b σ ks k l p) n q
Makes s b σ ks k l p stuck = ⊥

-- its record is put after its children's; `before` records of its left operand stand before them
abbrev pub made_as : List ℕ → ℕ → ℕ → ℕ → ℕ → ℕ → List ℕ → List ℕ → List ℕ → List ℕ → Step → Outcome ℕ (Body ℕ) → Type 0
made_as s σ k i u before b b' x x' r (ok y) =
    (r ≡ step_of 0 y.end (sizes y.kids + 1) (total (texts_ofs s σ y.kids)))
    × (b' ≡ put_at (lay b i (records_ofs s σ u y.kids)) (i + sizes y.kids) (record_of k y.flag σ y.end (before + sizes y.kids + 1) (0, 0)))
    × (x' ≡ write x u (texts_ofs s σ y.kids))
made_as s σ k i u before b b' x x' r (halt n q) = (r ≡ step_of n q 0 0) × (1 ≤ n)
made_as s σ k i u before b b' x x' r stuck = ⊥

-- the rest of a production, under all of X without a difference
pub record Made (X : Type 0) (s : List ℕ) (a : X → Under) (σ : ℕ) (ks : X → List (Rec ℕ)) (k : ℕ) (l : Layout) (p i u before : ℕ) (b b' x x' : List ℕ) (r : Step) : Type 0 where
  pub out : Outcome ℕ (Body ℕ)
  pub gives : (ξ : X) → Makes s (a ξ) σ (ks ξ) k l p out
  pub told : made_as s σ k i u before b b' x x' r out

-- whatever template it stands in, and whatever stands before: layouts of the program look at neither
abbrev pub Any : Type 0
Any = ℕ × List (Rec ℕ)

abbrev pub under_any : ℕ → ℕ → Bool → Any → Under
under_any k left lines ξ = under left lines (want_in k ξ.0)

abbrev pub any_before : Any → List (Rec ℕ)
any_before ξ = ξ.1

-- an answer of the rest of a production; `from` is where its bytes are counted from
pub record SaidMade (X : Type 0) (s : List ℕ) (a : X → Under) (σ : ℕ) (ks : X → List (Rec ℕ)) (k : ℕ) (l : Layout) (p i u before from q : ℕ) (b b' x x' y y' : List ℕ) (r : Step) : Type 0 where
  pub made : Made X s a σ ks k l p i u before b b' x x' r
  pub room : from + r.count ≤ r.end
  pub spent : from + r.text ≤ r.end
  pub high : r.end ≤ length s
  pub kept : Kept q y y'
  pub over : r.kind ≡ 0 → from + r.count + spare k ≤ r.end

-- a record of n children can stand: it is from `from` to `to`, and has room for them and for `before` records of its left operand
pub record Closing (i n flag from to before : ℕ) : Type 0 where
  pub few : i ≤ 65535
  pub some : flag ≤ 255
  pub low : from ≤ to
  pub room : from + before + n + 1 ≤ to
  pub small : to ≤ 65535

-- it is put after its children's, and what was read ends with it
abbrev pub Closed : ℕ → ℕ → ℕ → ℕ → ℕ → ℕ → ℕ → ℕ → List ℕ → List ℕ → Reading → Type 0
Closed i n k flag from to before text b b' r =
    (r ≡ record { end = to; count = n + 1; text = text })
    × (b' ≡ put_at b (i + n) (record_of k flag from to (before + n + 1) (0, 0)))

-- ---- what the functions ask of one another

-- a kind of the program, for a node from `start` whose production goes on at p
pub record Laying (start p before k : ℕ) : Type 0 where
  pub known : Programmed k
  pub room : start + before ≤ p

-- `r` is what stands first at p; of a quote it says only that one stands there, as it is not yet seen whether it is a string's or a template's
pub record LeadAt (s : List ℕ) (p : ℕ) (lines : Bool) (r : Head) : Type 0 where
  pub alone : (r.end ≡ p → ⊥) → HeadAt s p lines r
  pub head : (r.kind ≡ 6 → ⊥) → HeadAt s p lines r
  pub quote : r.kind ≡ 6 → byte_at s p ≡ 34

-- what stands first at p, and is no unary operator; a quote by its byte, as above
pub record Primary (s : List ℕ) (left : ℕ) (lines : Bool) (p k : ℕ) : Type 0 where
  pub picked : (k ≡ 6 → ⊥) → pick_at s (under left lines an_expression) p ≡ some k
  pub quote : (eqb k 6 || eqb k 7) ≡ true → byte_at s p ≡ 34
  pub binary : (eqb k 22 || eqb k 23) ≡ false

-- an expression in brackets, of the kind k: its opener stands at p, and c closes it
pub record Bracketed (s : List ℕ) (p k c : ℕ) : Type 0 where
  pub opener : ℕ
  pub stands : stands (opener ∷ []) s p ≡ true
  pub there : p < length s
  pub lays : layout_of k ≡ move (opening (opener ∷ [])) (move space (kid inside (move (past (c ∷ [])) (fin 0))))

-- a child of a class; a part leaves a byte over
pub record SaidSub (c left : ℕ) (lines : Bool) (s : List ℕ) (i u k p : ℕ) (b b' x x' y y' : List ℕ) (r : Step) : Type 0 where
  pub said : Said (Climbs s (below left lines (class_of c)) (bounds (class_of c)) p) s i u k p b b' x x' y y' r
  pub over : r.kind ≡ 0 → p + r.count + bonus (class_of c) ≤ r.end

-- an item, whatever list of earlier keys is handed to it that is met by the same keys as the slots of `y` from the first-th to before the k-th
pub record SaidItem (s : List ℕ) (left i u k first p : ℕ) (b b' x x' y y' : List ℕ) (r : Step) : Type 0 where
  pub said : (ks : List ℕ) → among s ks p ≡ met_in s y first k p → Said (Climbs s (under left false (an_item ks)) 8 p) s i u k p b b' x x' y y' r
  pub room : p + r.count ≤ r.end
  pub spent : p + r.text ≤ r.end
  pub high : r.end ≤ length s
  pub kept : Kept k y y'
  -- its key and its sign and its value have three bytes at least
  pub long : r.kind ≡ 0 → p + 3 ≤ r.end

abbrev pub One : Type 0
One = Unit {0}

-- the text of the template or heredoc that starts at `start`, from p on; a heredoc's delimiter stands from d to e
pub record Texting (s : List ℕ) (start p k flag : ℕ) (plain : Bool) (d e : ℕ) : Type 0 where
  pub round : round s start ≡ mode_of s plain d e
  pub closes : (plain ≡ true) ⊎ (((opener_at s start).from ≡ d) × ((opener_at s start).to ≡ e))
  pub string : eqb k 6 ≡ false
  pub piece : eqb k 9 ≡ false
  pub owes : spare k ≡ 0
  pub low : start < p
  pub small : flag ≤ 255

-- ---- the same at the code's places and levels, and of its answers

abbrev pub at_level : Level → Under
at_level v = under v.left v.lines an_expression

-- the level under v, where a line may end as said; or v has none left, which is refused at p
abbrev pub Deeper : Level → ℕ → Bool → Result Level Refused → Type 0
Deeper v p lines (Ok w) = (v.left ≡ 0 → ⊥) × (w ≡ record { left = v.left - 1; lines = lines })
Deeper v p lines (Err e) = (v.left ≡ 0) × (e ≡ record { kind = refusal.Deep; at = p })

abbrev pub AskedAt : List ℕ → List ℕ → At → Type 0
AskedAt s y a = Asked s y a.records a.text a.keys a.place

-- what a function of the cycle says of records, text and keys before and after, and of its answer
abbrev pub Telling : Type 1
Telling = List ℕ → List ℕ → List ℕ → List ℕ → List ℕ → List ℕ → Result Reading Refused → Type 0

abbrev pub SaidAt : (List ℕ → Under → ℕ → Outcome ℕ (Tree ℕ) → Type 0) → List ℕ → At → Level → Telling
SaidAt Z s a v b b' x x' y y' r = Said (Z s (at_level v) a.place) s a.records a.text a.keys a.place b b' x x' y y' (answered r)

abbrev pub SaidSubAt : ℕ → List ℕ → At → Level → Telling
SaidSubAt c s a v b b' x x' y y' r = SaidSub c v.left v.lines s a.records a.text a.keys a.place b b' x x' y y' (answered r)

abbrev pub SaidItemAt : List ℕ → At → ℕ → ℕ → Telling
SaidItemAt s a left first b b' x x' y y' r = SaidItem s left a.records a.text a.keys first a.place b b' x x' y y' (answered r)

-- the production of the kind k for a node from σ, which goes on at a
abbrev pub SaidLaid : List ℕ → At → Level → ℕ → ℕ → ℕ → Telling
SaidLaid s a v σ before k b b' x x' y y' r = SaidMade Any s (under_any k v.left v.lines) σ any_before k (layout_of k) a.place a.records a.text before a.place a.keys b b' x x' y y' (answered r)

-- the text of the node of the kind k from σ, which goes on at a
abbrev pub SaidText : List ℕ → At → Level → ℕ → ℕ → ℕ → Telling
SaidText s a v σ k flag b b' x x' y y' r = SaidMade One s (λ _. at_level v) σ (λ _. []) k (text_lay flag) a.place a.records a.text 0 σ a.keys b b' x x' y y' (answered r)
