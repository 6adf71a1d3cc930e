-- Objects, gone through with no program: the turns that the program makes, one by one.
use Prim.Native.Nat.{ℕ, ◌≤◌, ◌<◌}
use mathlib.Core.Path.{◌≡◌, refl, sym, ap, subst, ◌∙◌}
use mathlib.Core.Bool.{Bool, true, false}
use mathlib.Core.Logic.{◌⊎◌, inl, inr}
use mathlib.Core.Option.{none, some}
use mathlib.Core.List.{List, [], ◌∷◌}
use native.Mathlib.Omega.{arith}
use lib.ListN.{length}
use Rattle.lexis.specs.Bytes.{Ran}
use Rattle.lexis.specs.Operator.{mark_to}
use Rattle.grammar.specs.Moves.{Under, Move, gap, mark, opens, any, place, walk}
use Rattle.grammar.specs.Hcl.{under}
use Rattle.grammar.specs.Said.{Went, went, Moved}
use Rattle.grammar.specs.Published.{want_of}
use Rattle.grammar.specs.Code.{atoms, move_of, operation, argument, class, otherwise}
use Rattle.std.specs.Prelude.{Some}
use Rattle.checker.specs.declared.lone.Lone.{Lone}
use Rattle.checker.specs.declared.moves.Onward.{Onward}
use Rattle.checker.specs.Rows.{row_at}
use Rattle.checker.specs.Program.{own, own_move, code_in, move_in, begin_in}
use Rattle.checker.specs.LeafMore.{Goes, after_from, AfterBy}
use Rattle.index.specs.declared.mark.Token.{Token}
use Rattle.index.specs.Mark.{TokenHere}
use Rattle.checker.specs.Lone.{Behind}
use Rattle.checker.specs.Lay.{Passing, Passed, PassedBy, EndsAt, Laying, LaidBy}
use Rattle.checker.proofs.Goings.{open_deep, open_on, open_no, any_on, any_no, shut_on, shut_no}
use Rattle.checker.proofs.Lays.{no_keys, known, Turn, turn_start, turn_other, turn_passing, lay_kid, lay_kid_no, lay_rep, lay_rep_no, next_of}
use Rattle.checker.proofs.Directs.{no_op_lem, direct_move, direct_stop, direct_fork, direct_other, direct_end}

-- what comes behind an item, by its variant
pub after_as : {s : List ℕ} {p : ℕ} {x y : Onward} → x ≡ y → AfterBy s p (after_from p (Some x)) → AfterBy s p (after_from p (Some y))
after_as {s} {p} e h = subst (λ (o : Onward). AfterBy s p (after_from p (Some o))) e h

record Codes : Type 0 where
  start : begin_in 12 ≡ 245
  enter : operation (code_in 245) ≡ 2
  entering : move_in (argument (code_in 245)) ≡ opens (123 ∷ []) [] ∷ []
  fork : operation (code_in 246) ≡ 4
  shutting : move_in (argument (code_in 246)) ≡ gap any ∷ mark (125 ∷ []) [] ∷ []
  other : otherwise (code_in 246) ≡ 248
  empty : operation (code_in 247) ≡ 1
  flag : argument (code_in 247) ≡ 0
  space : operation (code_in 248) ≡ 2
  spacing : move_in (argument (code_in 248)) ≡ gap any ∷ []
  kid : operation (code_in 249) ≡ 3
  sort : class (code_in 249) ≡ 7
  rep : operation (code_in 250) ≡ 5
  again : class (code_in 250) ≡ 7
  more : move_in (argument (code_in 250)) ≡ own_move 4
  last : otherwise (code_in 250) ≡ 251
  close : operation (code_in 251) ≡ 2
  closing : move_in (argument (code_in 251)) ≡ own_move 5
  fin : operation (code_in 252) ≡ 1
  ends : argument (code_in 252) ≡ 0

codes : Codes
unfolding own atoms move_of
codes = record {
  start = refl;
  enter = refl;
  entering = refl;
  fork = refl;
  shutting = refl;
  other = refl;
  empty = refl;
  flag = refl;
  space = refl;
  spacing = refl;
  kid = refl;
  sort = refl;
  rep = refl;
  again = refl;
  more = refl;
  last = refl;
  close = refl;
  closing = refl;
  fin = refl;
  ends = refl;
}

module _ (s t : List ℕ) (i left : ℕ) (lines : Bool) (m D : List ℕ) (j p : ℕ) where
  -- under way: at pc and q, the row x is next, after n keys
  abbrev pub At : List ℕ → List ℕ → ℕ → ℕ → ℕ → ℕ → Type 0
  At D' K pc q x n = Turn s t i left lines m D D' K j p pc q x n

  abbrev pub Laid : List ℕ → Bool → Type 0
  Laid D' r = LaidBy s t i m D D' j p left lines r

  abbrev att : Under
  att = under left lines (want_of (row_at t i).kind)

  abbrev start : ℕ
  start = (row_at t i).start

  -- an item is to come at a place: the first, or a later one behind q
  abbrev pub Ahead : List ℕ → List ℕ → ℕ → ℕ → ℕ → Type 0
  Ahead D' K at x n = At D' K 249 at x n ⊎ ((q : ℕ) × At D' K 250 q x n × (place (walk s att start (move_in (argument (code_in 250))) q) ≡ some at))

  -- ---- up to the first item

  module _ {K : List ℕ} (a : Laying t i m D K j left) (is : (row_at t i).kind ≡ 12) where
    begun : At D K 245 p j 0
    begun = turn_start s t i left lines (known (row_at t i).kind a.known) (sym codes.start ∙ ap begin_in (sym is)) a.js a.chain

    pub object_deep : left ≡ 0 → Laid D false
    object_deep z = direct_stop s t i left lines begun codes.enter codes.entering (open_deep s att start p z)

    module _ (n : ¬ (left ≡ 0)) {b : ℕ} (h : Ran s p (mark_to (123 ∷ []) [] s p) b) where
      pub object_no : b ≡ p → Laid D false
      object_no z = direct_stop s t i left lines begun codes.enter codes.entering (open_no s att start n h z)

      module _ (y : ¬ (b ≡ p)) {g : Went} (sp : Moved s b true g) where
        inside : At D K 246 b j 0
        inside = direct_move s t i left lines begun codes.enter codes.entering (open_on s att start n h y)

        not_empty : place (walk s att start (gap any ∷ mark (125 ∷ []) [] ∷ []) b) ≡ none → At D K 248 b j 0
        not_empty f = subst (λ (o : ℕ). At D K o b j 0) codes.other (direct_other s t i left lines inside codes.fork codes.shutting f)

        pub object_gap_no : ¬ (g.kind ≡ 0) → Laid D false
        object_gap_no z = direct_stop s t i left lines (not_empty (any_no s att start sp (mark (125 ∷ []) [] ∷ []) z)) codes.space codes.spacing (any_no s att start sp [] z)

        module _ (z : g.kind ≡ 0) {e : ℕ} (f : Ran s g.at (mark_to (125 ∷ []) [] s g.at) e) where
          pub object_empty : {r : Bool} → ¬ (e ≡ g.at) → EndsAt t i j e 0 r → Laid D r
          object_empty v o = direct_end s t i left lines (direct_fork s t i left lines inside codes.fork codes.shutting (shut_on s att start sp z f v)) 0 codes.empty codes.flag o

          pub object_first : e ≡ g.at → Ahead D K g.at j 0
          object_first v = inl (direct_move s t i left lines (not_empty (shut_no s att start sp z f v)) codes.space codes.spacing (any_on s att start sp z))

  -- ---- an item

  module _ {D' K : List ℕ} {at x n : ℕ} where
    pub ahead_passing : {K₀ : List ℕ} {k : Token} {r : Lone} → Ahead D' K at x n → Laying t i m D K₀ j left → length K ≡ length K₀ → TokenHere s at k → Behind s k.end r → Passing s t i m D' K x n 7 left at k.mark r.yes
    ahead_passing (inl w) a e f h = turn_passing s t i left lines w a e f h
    ahead_passing (inr (q, w, g)) a e f h = turn_passing s t i left lines w a e f h

    module _ {D'' K' : List ℕ} {r : Passed} (h : PassedBy s t i m D' D'' K K' x n 7 left lines at r) where
      class_as : {c : ℕ} → c ≡ 7 → PassedBy s t i m D' D'' K K' x n c left lines at r
      class_as e = subst (λ (o : ℕ). PassedBy s t i m D' D'' K K' x n o left lines at r) (sym e) h

      pub object_item : Ahead D' K at x n → i < length D → r.good ≡ true → At D'' K' 250 r.end r.next r.keys
      object_item (inl w) deep z = lay_kid s t i left lines w (omega (arith, deep, w.long)) (class_as codes.sort) codes.kid z
      object_item (inr (q, w, g)) deep z = lay_rep s t i left lines w (omega (arith, deep, w.long)) (class_as codes.again) codes.rep g z

      pub object_item_no : Ahead D' K at x n → i < length D → r.good ≡ false → Laid D'' false
      object_item_no (inl w) deep z = subst (λ (o : List ℕ). Laid o false) (sym (h.still z)) (lay_kid_no s t i left lines w (omega (arith, deep, w.long)) (class_as codes.sort) codes.kid z)
      object_item_no (inr (q, w, g)) deep z = subst (λ (o : List ℕ). Laid o false) (sym (h.still z)) (lay_rep_no s t i left lines w (omega (arith, deep, w.long)) (class_as codes.again) codes.rep g z)

      pub object_up : Ahead D' K at x n → r.good ≡ true → (x < r.next) × (r.next ≤ i)
      object_up (inl w) z = let y = next_of m i w.js x w.chain (h.inside z) in (omega (arith, y.up, h.next z), omega (arith, y.far, h.next z))
      object_up (inr (q, w, g)) z = let y = next_of m i w.js x w.chain (h.inside z) in (omega (arith, y.up, h.next z), omega (arith, y.far, h.next z))

  -- ---- behind it

  module _ {D' K : List ℕ} {q x n : ℕ} (w : At D' K 250 q x n) {g : Went} (h : AfterBy s q g) where
    pub object_more : g.kind ≡ 0 → Ahead D' K g.at x n
    object_more z = inr (q, w, subst (λ (o : Move). place (walk s att start o q) ≡ some g.at) (sym codes.more) ((h.first z).good refl att start (no_keys (row_at t i).kind)))

    behind : Goes s (own_move 4) q (went 1 q) → At D' K 251 q x n
    behind b =
        subst (λ (o : ℕ). At D' K o q x n) codes.last
        (turn_other s t i left lines w (no_op_lem codes.rep (omega arith)) (no_op_lem codes.rep (omega arith)) (no_op_lem codes.rep (omega arith)) (subst (λ (o : Move). place (walk s att start o q) ≡ none) (sym codes.more) (b.bad (λ z. omega (arith, z)) att start (no_keys (row_at t i).kind))))

    pub object_open : ¬ (g.kind ≡ 1) → ¬ (g.kind ≡ 0) → Laid D' false
    object_open u v =
        let (a, b) = h.neither (λ z. omega (arith, u, v, z)) in
        direct_stop s t i left lines (behind a) codes.close codes.closing (b.bad (λ z. omega (arith, z)) att start (no_keys (row_at t i).kind))

    pub object_end : {r : Bool} → g.kind ≡ 1 → EndsAt t i x g.at 0 r → Laid D' r
    object_end z o =
        let (a, b) = h.second z in
        direct_end s t i left lines (direct_move s t i left lines (behind a) codes.close codes.closing (b.good refl att start (no_keys (row_at t i).kind))) 0 codes.fin codes.ends o
