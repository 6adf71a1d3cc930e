-- Layouts that are gone through with no program: the turns that the loop of `lay` makes, one by one.
use Prim.Native.Nat.{ℕ, zero, suc, ◌+◌, ◌*◌, ◌/◌, ◌%◌, ◌≤◌, ◌<◌}
use mathlib.Core.Path.{◌≡◌, refl, sym, ap, subst, ◌∙◌}
use mathlib.Core.Bool.{Bool, true, false, cond}
use mathlib.Core.Option.{none, some}
use mathlib.Core.List.{List, [], ◌∷◌}
use native.Mathlib.Omega.{arith}
use lib.ListN.{length, get_or}
use lib.Dec.{eqb, T}
use borrow.Author.Tests.{eqb-true, eqb-false}
use Rattle.index.specs.Index.{Indexed}
use Rattle.engine.specs.Base.{has}
use Rattle.grammar.specs.Kinds.{tight_of}
use Rattle.grammar.specs.Moves.{Move, gap, line, place, walk}
use Rattle.grammar.specs.Layouts.{Class, right, operator_lay}
use Rattle.grammar.specs.Hcl.{under, downs, bounds, styles}
use Rattle.grammar.specs.Said.{Child, Went, went, Moved}
use Rattle.grammar.specs.Published.{want_of, kinds_of, More}
use Rattle.grammar.specs.Code.{atoms, move_of, operation, argument, class, otherwise}
use Rattle.checker.specs.Rows.{row_at, rec_at}
use Rattle.checker.specs.Program.{own, code_in, move_in, class_in, Codes, begin_in, laid_out}
use Rattle.checker.specs.Leaf.{ChildAt}
use Rattle.checker.specs.LeafMore.{Goes, SignBy}
use Rattle.checker.specs.Node.{Left, LeftTo}
use Rattle.checker.specs.Child.{kidded}
use Rattle.checker.specs.Lay.{KidBy, Direct, PassedBy, EndsAt, LaidBy, Operates, OperatorBy}
use Rattle.checker.proofs.Programs.{child_key, child_value}
use Rattle.checker.proofs.Goings.{here_on, here_no, line_on, line_no}
use Rattle.checker.proofs.Passes.{met_other, pass_no, pass_yes, kinds_in}
use Rattle.checker.proofs.Lays.{no_keys, Known, known, Turn, turn_start, turn_on, turn_other, lay_stop, lay_kid, lay_kid_no, lay_fin, chain_le}

-- ---- a child

abbrev child : ℕ → Bool → ℕ → ℕ → Child
child d l b w = record { left = d; lines = l; bound = b; want = w }

-- a right operand
pub child_right : (left : ℕ) (lines : Bool) {c n : ℕ} → class_in c ≡ right n → ChildAt c left lines (child left lines n 0)
child_right left lines {c} {n} e = record {
  left = λ s w σ ks. ap (λ (k : Class). (downs s (under left lines w) k σ ks).left) e;
  lines = λ s w σ ks. ap (λ (k : Class). (downs s (under left lines w) k σ ks).lines) e;
  bound = ap bounds e;
  kinds = λ s w σ ks. ap (λ (k : Class). kinds_of (downs s (under left lines w) k σ ks).want (styles k)) e;
  item = λ z. absurd (omega arith);
  plain = λ z s w σ ks x. subst (λ (k : Class). More s (downs s (under left lines w) k σ ks).want x) (sym e) tt;
  fewer = omega arith;
}

pub no_op_lem : {x m n : ℕ} → x ≡ m → ¬ (m ≡ n) → ¬ (x ≡ n)
no_op_lem e h f = h (sym e ∙ f)

-- a depth in one number
pub own_packed : (v : ℕ) → v ≡ v / 2 + v / 2 + cond (eqb (v % 2) 1) 1 0
own_packed v = go (eqb (v % 2) 1) refl
  where
    go : (b : Bool) → eqb (v % 2) 1 ≡ b → v ≡ v / 2 + v / 2 + cond b 1 0
    go true e = let f = eqb-true (v % 2) 1 e in omega (arith, f)
    go false e = let f = eqb-false (v % 2) 1 e in omega (arith, f)

module _ (s t : List ℕ) (i left : ℕ) (lines : Bool) where
  abbrev kind : ℕ
  kind = (row_at t i).kind

  pub kid_passed : {m D D' K : List ℕ} {j n c at v : ℕ} {y : Child} (r : Bool) → ChildAt c left lines y → ¬ (y.want ≡ 4) → v ≡ y.left + y.left + cond y.lines 1 0 → Indexed s K 0 n → KidBy t i D D' j at y.bound y.want v r → PassedBy s t i m D D' K K j n c left lines at (kidded t m j n r)
  kid_passed {m} {D} {D'} {K} {j} {n} {c} {at} {v} {y} true h f p ix k =
      subst (λ (o : List ℕ). PassedBy s t i m D o K K j n c left lines at (kidded t m j n true)) (sym (k.put refl))
      (pass_yes s t i m D K j n c left lines at h (k.suits refl) refl (met_other s K n (row_at t j).start y.want ix f) (k.inside refl) p refl refl)
  kid_passed {m} {D} {D'} {K} {j} {n} {c} {at} {v} {y} false h f p ix k =
      subst (λ (o : List ℕ). PassedBy s t i m D o K K j n c left lines at (kidded t m j n false)) (sym (k.still refl))
      (pass_no s t i m D K j n c left lines at refl (λ l a g w σ ks e b. let (u, x) = kinds_in s t i m D K j n c left lines at h w σ ks (rec_at t j) b in (k.no refl l).no refl a g u x))

  module _ {m D₀ D K : List ℕ} {j₀ p₀ pc q j n : ℕ} (w : Turn s t i left lines m D₀ D K j₀ p₀ pc q j n) where
    module _ {D' : List ℕ} {v : ℕ} {y : Child} (e : operation (code_in pc) ≡ 3) (h : ChildAt (class (code_in pc)) left lines y) (f : ¬ (y.want ≡ 4)) (p : v ≡ y.left + y.left + cond y.lines 1 0) (deep : i < length D) where
      pub direct_kid : {r : Bool} → KidBy t i D D' j q y.bound y.want v r → r ≡ true → Turn s t i left lines m D₀ D' K j₀ p₀ (pc + 1) (row_at t j).end (get_or m j 0) n
      direct_kid k z = lay_kid s t i left lines w deep (kid_passed true h f p w.indexed (subst (λ (b : Bool). KidBy t i D D' j q y.bound y.want v b) z k)) e refl

      pub direct_kid_no : {r : Bool} → KidBy t i D D' j q y.bound y.want v r → r ≡ false → LaidBy s t i m D₀ D' j₀ p₀ left lines false
      direct_kid_no k z = subst (λ (o : List ℕ). LaidBy s t i m D₀ o j₀ p₀ left lines false) (sym (k.still z)) (lay_kid_no s t i left lines w deep (kid_passed false h f p w.indexed (subst (λ (b : Bool). KidBy t i D D' j q y.bound y.want v b) z k)) e refl)

    -- a move m of the node
    abbrev Goes-to : Move → ℕ → Type 0
    Goes-to x at = place (walk s (under left lines (want_of kind)) (row_at t i).start x q) ≡ some at

    abbrev Goes-not : Move → Type 0
    Goes-not x = place (walk s (under left lines (want_of kind)) (row_at t i).start x q) ≡ none

    pub direct_move : {x : Move} {at : ℕ} → operation (code_in pc) ≡ 2 → move_in (argument (code_in pc)) ≡ x → Goes-to x at → Turn s t i left lines m D₀ D K j₀ p₀ (pc + 1) at j n
    direct_move {x} {at} e f g = turn_on s t i left lines w (no_op_lem e (omega arith)) (no_op_lem e (omega arith)) (no_op_lem e (omega arith)) at (subst (λ (o : Move). Goes-to o at) (sym f) g)

    pub direct_stop : {x : Move} → operation (code_in pc) ≡ 2 → move_in (argument (code_in pc)) ≡ x → Goes-not x → LaidBy s t i m D₀ D j₀ p₀ left lines false
    direct_stop {x} e f g = lay_stop s t i left lines w e (subst (λ (o : Move). Goes-not o) (sym f) g)

    pub direct_fork : {x : Move} {at : ℕ} → operation (code_in pc) ≡ 4 → move_in (argument (code_in pc)) ≡ x → Goes-to x at → Turn s t i left lines m D₀ D K j₀ p₀ (pc + 1) at j n
    direct_fork {x} {at} e f g = turn_on s t i left lines w (no_op_lem e (omega arith)) (no_op_lem e (omega arith)) (no_op_lem e (omega arith)) at (subst (λ (o : Move). Goes-to o at) (sym f) g)

    pub direct_other : {x : Move} → operation (code_in pc) ≡ 4 → move_in (argument (code_in pc)) ≡ x → Goes-not x → Turn s t i left lines m D₀ D K j₀ p₀ (otherwise (code_in pc)) q j n
    direct_other {x} e f g = turn_other s t i left lines w (no_op_lem e (omega arith)) (no_op_lem e (omega arith)) (no_op_lem e (omega arith)) (subst (λ (o : Move). Goes-not o) (sym f) g)

    pub direct_end : {r : Bool} (φ : ℕ) → operation (code_in pc) ≡ 1 → argument (code_in pc) ≡ φ → EndsAt t i j q φ r → LaidBy s t i m D₀ D j₀ p₀ left lines r
    direct_end {r} φ e f h = lay_fin s t i left lines w r e (subst (λ (o : ℕ). EndsAt t i j q o r) (sym f) h)

    -- the row that is next
    pub direct_low : j ≤ i
    direct_low = chain_le m i w.js j w.chain

-- ---- items: the program from 236 on

record Key-code : Type 0 where
  start : begin_in 13 ≡ 236
  kid : operation (code_in 236) ≡ 3
  class : class (code_in 236) ≡ 2
  fork : operation (code_in 237) ≡ 4
  equals : move_in (argument (code_in 237)) ≡ move_in 202
  other : otherwise (code_in 237) ≡ 241
  move : operation (code_in 241) ≡ 2
  colon : move_in (argument (code_in 241)) ≡ move_in 203

key_code : Key-code
unfolding own
key_code = record { start = refl; kid = refl; class = refl; fork = refl; equals = refl; other = refl; move = refl; colon = refl }

-- behind the sign, with the flag that it gives
abbrev pub behind : ℕ → ℕ
behind φ = 238 + 4 * φ

record Value-code (φ : ℕ) : Type 0 where
  move : operation (code_in (behind φ)) ≡ 2
  gap : move_in (argument (code_in (behind φ))) ≡ gap line ∷ []
  kid : operation (code_in (behind φ + 1)) ≡ 3
  class : class (code_in (behind φ + 1)) ≡ 3
  fin : operation (code_in (behind φ + 1 + 1)) ≡ 1
  flag : argument (code_in (behind φ + 1 + 1)) ≡ φ

value_code : (φ : ℕ) → φ ≤ 1 → Value-code φ
unfolding own atoms move_of
value_code zero h = record { move = refl; gap = refl; kid = refl; class = refl; fin = refl; flag = refl }
value_code (suc zero) h = record { move = refl; gap = refl; kid = refl; class = refl; fin = refl; flag = refl }
value_code (suc (suc n)) h = absurd (omega arith)

module _ (s t : List ℕ) (i : ℕ) (m D : List ℕ) (j p v : ℕ) where
  -- under way in an item of depth v: at pc and q, the row x is next
  abbrev pub Item : List ℕ → ℕ → ℕ → ℕ → Type 0
  Item D' pc q x = Turn s t i (v / 2) (eqb (v % 2) 1) m D D' [] j p pc q x 0

  abbrev pub Laid : List ℕ → Bool → Type 0
  Laid D' r = LaidBy s t i m D D' j p (v / 2) (eqb (v % 2) 1) r

  begun : Direct t i m D j → (row_at t i).kind ≡ 13 → Item D 236 p j
  begun a is =
      let k : Known (row_at t i).kind = known (row_at t i).kind (subst (λ (o : ℕ). T (has laid_out o)) (sym is) tt) in
      turn_start s t i (v / 2) (eqb (v % 2) 1) k (sym key_code.start ∙ ap begin_in (sym is)) a.js a.chain

  module _ (a : Direct t i m D j) (is : (row_at t i).kind ≡ 13) {D' : List ℕ} {u : ℕ} {r : Bool} (e : u ≡ v / 2 + v / 2) (k : KidBy t i D D' j p 0 5 u r) where
    under_key : ChildAt (class (code_in 236)) (v / 2) (eqb (v % 2) 1) (child (v / 2) false 0 5)
    under_key = child_key (v / 2) (eqb (v % 2) 1) key_code.class

    pub item_key_no : r ≡ false → Laid D' false
    item_key_no z = direct_kid_no s t i (v / 2) (eqb (v % 2) 1) (begun a is) key_code.kid under_key (λ z. omega (arith, z)) (omega (arith, e)) a.deep k z

    item_first : r ≡ true → Item D' 237 (row_at t j).end (get_or m j 0)
    item_first z = direct_kid s t i (v / 2) (eqb (v % 2) 1) (begun a is) key_code.kid under_key (λ z. omega (arith, z)) (omega (arith, e)) a.deep k z

    pub item_key : {q x : ℕ} → r ≡ true → q ≡ (row_at t j).end → x ≡ get_or m j 0 → Item D' 237 q x
    item_key {q} {x} z f g = subst (λ (o : ℕ). Item D' 237 q o) (sym g) (subst (λ (o : ℕ). Item D' 237 o (get_or m j 0)) (sym f) (item_first z))

  module _ {D' : List ℕ} {q x : ℕ} (w : Item D' 237 q x) {g : Went} (h : SignBy s q g) where
    no_equals : Goes s (move_in 202) q (went 1 q) → Item D' 241 q x
    no_equals n =
        subst (λ (o : ℕ). Item D' o q x) key_code.other
        (direct_other s t i (v / 2) (eqb (v % 2) 1) w key_code.fork key_code.equals (n.bad (λ z. omega (arith, z)) (under (v / 2) (eqb (v % 2) 1) (want_of (row_at t i).kind)) (row_at t i).start (no_keys (row_at t i).kind)))

    pub item_sign_no : ¬ (g.kind ≤ 1) → Laid D' false
    item_sign_no n =
        let (a, b) = h.neither n in
        direct_stop s t i (v / 2) (eqb (v % 2) 1) (no_equals a) key_code.move key_code.colon (b.bad (λ z. omega (arith, z)) (under (v / 2) (eqb (v % 2) 1) (want_of (row_at t i).kind)) (row_at t i).start (no_keys (row_at t i).kind))

    pub item_sign : g.kind ≤ 1 → Item D' (behind g.kind) g.at x
    item_sign l = go g.kind refl l
      where
        go : (k : ℕ) → g.kind ≡ k → k ≤ 1 → Item D' (behind k) g.at x
        go zero e l = direct_fork s t i (v / 2) (eqb (v % 2) 1) w key_code.fork key_code.equals ((h.first e).good refl (under (v / 2) (eqb (v % 2) 1) (want_of (row_at t i).kind)) (row_at t i).start (no_keys (row_at t i).kind))
        go (suc zero) e l =
            let (a, b) = h.second e in
            direct_move s t i (v / 2) (eqb (v % 2) 1) (no_equals a) key_code.move key_code.colon (b.good refl (under (v / 2) (eqb (v % 2) 1) (want_of (row_at t i).kind)) (row_at t i).start (no_keys (row_at t i).kind))
        go (suc (suc k)) e l = absurd (omega arith)

  module _ {D' : List ℕ} {φ q x : ℕ} (l : φ ≤ 1) (w : Item D' (behind φ) q x) {g : Went} (h : Moved s q false g) where
    pub item_space_no : ¬ (g.kind ≡ 0) → Laid D' false
    item_space_no n = direct_stop s t i (v / 2) (eqb (v % 2) 1) w (value_code φ l).move (value_code φ l).gap (line_no h n (under (v / 2) (eqb (v % 2) 1) (want_of (row_at t i).kind)) (row_at t i).start)

    pub item_space : g.kind ≡ 0 → Item D' (behind φ + 1) g.at x
    item_space z = direct_move s t i (v / 2) (eqb (v % 2) 1) w (value_code φ l).move (value_code φ l).gap (line_on h z (under (v / 2) (eqb (v % 2) 1) (want_of (row_at t i).kind)) (row_at t i).start)

  module _ {D' D'' : List ℕ} {φ q x : ℕ} {r : Bool} (l : φ ≤ 1) (w : Item D' (behind φ + 1) q x) (deep : i < length D) (k : KidBy t i D' D'' x q 0 0 v r) where
    under_value : ChildAt (class (code_in (behind φ + 1))) (v / 2) (eqb (v % 2) 1) (child (v / 2) (eqb (v % 2) 1) 0 0)
    under_value = child_value (v / 2) (eqb (v % 2) 1) (value_code φ l).class

    pub item_value_no : r ≡ false → Laid D'' false
    item_value_no z = direct_kid_no s t i (v / 2) (eqb (v % 2) 1) w (value_code φ l).kid under_value (λ z. omega (arith, z)) (own_packed v) (omega (arith, deep, w.long)) k z

    item_last : r ≡ true → Item D'' (behind φ + 1 + 1) (row_at t x).end (get_or m x 0)
    item_last z = direct_kid s t i (v / 2) (eqb (v % 2) 1) w (value_code φ l).kid under_value (λ z. omega (arith, z)) (own_packed v) (omega (arith, deep, w.long)) k z

    pub item_value : {b y : ℕ} → r ≡ true → y ≡ get_or m x 0 → b ≡ (row_at t x).end → Item D'' (behind φ + 1 + 1) b y
    item_value {b} {y} z g f = subst (λ (o : ℕ). Item D'' (behind φ + 1 + 1) b o) (sym g) (subst (λ (o : ℕ). Item D'' (behind φ + 1 + 1) o (get_or m x 0)) (sym f) (item_last z))

  pub item_end : {D' : List ℕ} {φ q x : ℕ} {r : Bool} → φ ≤ 1 → Item D' (behind φ + 1 + 1) q x → EndsAt t i x q φ r → Laid D' r
  item_end {φ = φ} l w h = direct_end s t i (v / 2) (eqb (v % 2) 1) w φ (value_code φ l).fin (value_code φ l).flag h

-- ---- binary operators

module _ (s t : List ℕ) (i : ℕ) (m D : List ℕ) (j v : ℕ) (a : Direct t i m D j) (has-it : T (has laid_out (row_at t i).kind)) where
  abbrev op : ℕ
  op = (row_at t i).kind

  module _ {p e : ℕ} (o : Operates s t i (eqb (v % 2) 1) p e) where
    codes : Codes (begin_in op) (operator_lay op (tight_of op))
    codes = subst (Codes (begin_in op)) o.lays (known op has-it).codes

    behind_it : Turn s t i (v / 2) (eqb (v % 2) 1) m D D [] j p (begin_in op + 1) e j 0
    behind_it =
        direct_move s t i (v / 2) (eqb (v % 2) 1) (turn_start s t i (v / 2) (eqb (v % 2) 1) (known op has-it) refl a.js a.chain) codes.0 codes.1
        (ap place (o.goes (v / 2) (row_at t i).start (want_of op)))

    module _ {g : Went} (h : Moved s e (eqb (v % 2) 1) g) where
      gap_not : ¬ (g.kind ≡ 0) → LaidBy s t i m D D j p (v / 2) (eqb (v % 2) 1) false
      gap_not n = direct_stop s t i (v / 2) (eqb (v % 2) 1) behind_it codes.2.0 codes.2.1 (here_no h n (v / 2) (row_at t i).start (want_of op))

      module _ (z : g.kind ≡ 0) where
        past_gap : Turn s t i (v / 2) (eqb (v % 2) 1) m D D [] j p (begin_in op + 1 + 1) g.at j 0
        past_gap = direct_move s t i (v / 2) (eqb (v % 2) 1) behind_it codes.2.0 codes.2.1 (here_on h z (v / 2) (row_at t i).start (want_of op))

        under_it : ChildAt (class (code_in (begin_in op + 1 + 1))) (v / 2) (eqb (v % 2) 1) (child (v / 2) (eqb (v % 2) 1) (tight_of op) 0)
        under_it = child_right (v / 2) (eqb (v % 2) 1) codes.2.2.1

        right_not : {D' : List ℕ} {r : Bool} → KidBy t i D D' j g.at (tight_of op) 0 v r → r ≡ false → LaidBy s t i m D D' j p (v / 2) (eqb (v % 2) 1) false
        right_not k y = direct_kid_no s t i (v / 2) (eqb (v % 2) 1) past_gap codes.2.2.0 under_it (λ z. omega (arith, z)) (own_packed v) a.deep k y

        right_on : {D' : List ℕ} {r b : Bool} {n q : ℕ} → KidBy t i D D' j g.at (tight_of op) 0 v r → r ≡ true → n ≡ get_or m j 0 → q ≡ (row_at t j).end → EndsAt t i n q 0 b → LaidBy s t i m D D' j p (v / 2) (eqb (v % 2) 1) b
        right_on {D'} {r} {b} {n} {q} k y f u ends =
            direct_end s t i (v / 2) (eqb (v % 2) 1) (direct_kid s t i (v / 2) (eqb (v % 2) 1) past_gap codes.2.2.0 under_it (λ z. omega (arith, z)) (own_packed v) a.deep k y) 0 codes.2.2.2.0 codes.2.2.2.1
            (subst (λ (o : ℕ). EndsAt t i o (row_at t j).end 0 b) f (subst (λ (o : ℕ). EndsAt t i n o 0 b) u ends))

  module _ {lines : Bool} (is : lines ≡ eqb (v % 2) 1) {e : ℕ} {g : Went} (h : Moved s e lines g) where
    moved : Moved s e (eqb (v % 2) 1) g
    moved = subst (λ (b : Bool). Moved s e b g) is h

    pub operator_gap_no : ¬ (g.kind ≡ 0) → OperatorBy s t i m D D j e v false
    operator_gap_no n = record { laid = λ p o. gap_not o moved n }

    module _ (z : g.kind ≡ 0) {n : ℕ} (b : n ≡ tight_of op) {D' : List ℕ} {r : Bool} (k : KidBy t i D D' j g.at n 0 v r) where
      kid_is : KidBy t i D D' j g.at (tight_of op) 0 v r
      kid_is = subst (λ (o : ℕ). KidBy t i D D' j g.at o 0 v r) b k

      pub operator_no : r ≡ false → OperatorBy s t i m D D' j e v false
      operator_no y = record { laid = λ p o. right_not o moved z kid_is y }

      pub operator_by : {x : Bool} {c q : ℕ} → r ≡ true → c ≡ get_or m j 0 → q ≡ (row_at t j).end → EndsAt t i c q 0 x → OperatorBy s t i m D D' j e v x
      operator_by y f u ends = record { laid = λ p o. right_on o moved z kid_is y f u ends }

-- behind a left operand
pub operator_laid : {s t : List ℕ} {i : ℕ} {m D D' : List ℕ} {j l q v : ℕ} {r : Bool} {x : Left} → LeftTo s t i l (eqb (v % 2) 1) x → x.good ≡ true → q ≡ (row_at t l).end → ¬ (x.end ≡ q) → OperatorBy s t i m D D' j x.end v r → LaidBy s t i m D D' j q (v / 2) (eqb (v % 2) 1) r
operator_laid {s} {t} {i} {l = l} {q} {v} {r} {x} h z f n o =
    o.laid q (subst (λ (b : ℕ). Operates s t i (eqb (v % 2) 1) b x.end) (sym f) (h.operates z (λ y. n (y ∙ sym f))))
