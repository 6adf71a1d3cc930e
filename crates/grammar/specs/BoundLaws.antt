-- Where the rule holds at every node of a tree, the tree has no more nodes, and no more text, than bytes.
use Rattle.std.specs.Prelude.{ℕ, zero, suc, ◌+◌, ◌≤◌, ◌≡◌, refl, Bool, false, cond, ◌&&◌, eqb, leb, T}
use Rattle.std.proofs.Math.Path.{sym, ap, subst}
use Rattle.std.proofs.Common.{◌∙◌, inl, inr, arith, leb→le, eqb-true}
use mathlib.Core.List.{List, [], ◌∷◌, ◌++◌}
use Rattle.std.proofs.Math.Bool.{true, not}
use Rattle.std.proofs.Math.Option.{some}
use Rattle.std.proofs.Math.ListN.{length}
use Rattle.lexis.specs.Bytes.{byte_at, stands}
use Rattle.lexis.specs.Operator.{is_mark}
use Rattle.lexis.specs.Heredoc.{opener_at, part}
use Rattle.lexis.specs.String.{quoted, heredoc, Mode, text_at}
use Rattle.lexis.specs.RunLaws.{stands_one, and_left}
use Rattle.lexis.proofs.Texts.{facts}
use Rattle.engine.specs.Base.{Rec, Tree, node, Trees, nil, cons, rec_of, size, sizes, all_of, choose}
use Rattle.engine.specs.BaseLaws.{and_t, EqCase, same, other, eq_case}
use Rattle.engine.specs.Layout.{bad, fin, move, kid, fork, rep, named}
use Rattle.engine.specs.Tables.{Called}
use Rattle.engine.specs.Rule.{Runs, rfin, rmove, rkid, ryes, rno, rrep, rend, Firm, Local, first, later, Every, every, Everys, enil, econs}
use Rattle.grammar.specs.Moves.{Want, an_expression, a_name, an_item, a_part, a_piece, a_condition, Under, to, place, runs, token, round, text_start, Atom, mark, run, piece, close, atom, walk}
use Rattle.grammar.specs.Moves as moves
use Rattle.grammar.specs.Layouts.{Class, inside, single, key, value, test, branch, term, right, entry, called, portion, piecewise, filter, Layout, layouts, layout_of, string_lay, piece_lay}
use Rattle.grammar.specs.Hcl.{hcl, pick_at, picks, downs, grows}
use Rattle.grammar.specs.Table.{own, own_as, total, texts_of, texts_ofs}
use Rattle.grammar.specs.Thrift.{eaten, bonus, spare}
use Rattle.grammar.specs.Going.{place_to, down_is}
use Rattle.grammar.specs.KindLaws.{heads, pick_all, followers, follow_all, called_all}
use Rattle.grammar.specs.MoveLaws.{no_to, to_is, by_test, by_then, not_made, walk_within}
use Rattle.grammar.specs.TakeLaws.{walk_takes}

-- ---- the test of a layout, which computes: w bytes are taken before it; at its end the node's own byte is paid, and a part's second one

abbrev pub frugal : ℕ → ℕ → Layout → Bool
frugal k w bad = true
frugal k w (fin φ) = leb (suc (spare k)) w
frugal k w (move m l) = frugal k (w + eaten m) l
frugal k w (kid c l) = frugal k (w + bonus c) l
frugal k w (fork m l l') = frugal k (w + eaten m) l && frugal k w l'
frugal k w (rep m c l) = frugal k w l

-- what a want asks for beside the nodes: a part of a traversal leaves a byte over
abbrev pub need : Want → ℕ
need an_expression = 0
need a_name = 0
need (an_item ks) = 0
need a_part = 1
need (a_piece t) = 0
need a_condition = 0

-- both tests, of a kind under a want
abbrev pub saves : Want → ℕ → Bool
saves w k = frugal k 0 (layout_of k) && leb (need w) (spare k)

heads_save : (w : Want) → T (all_of (saves w) (heads w))
unfolding layouts
heads_save an_expression = tt
heads_save a_name = tt
heads_save (an_item ks) = tt
heads_save a_part = tt
heads_save (a_piece t) = tt
heads_save a_condition = tt

followers_save : (w : Want) → T (grows w) → T (all_of (saves w) followers)
unfolding layouts
followers_save an_expression t = tt
followers_save a_name t = absurd t
followers_save (an_item ks) t = tt
followers_save a_part t = absurd t
followers_save (a_piece x) t = absurd t
followers_save a_condition t = tt

saved : (s : List ℕ) (b : Under) (k : ℕ) → Called (hcl s) b k → T (frugal k 0 (layout_of k)) × T (leb (need b.want) (spare k))
saved s b k x = and_t (frugal k 0 (layout_of k)) (leb (need b.want) (spare k)) (called_all s (saves b.want) b (heads_save b.want) (followers_save b.want) k x)

-- what a class leaves over is what the child's want asks for
bonus_is : (s : List ℕ) (b : Under) (c : Class) (σ : ℕ) (ks : List (Rec ℕ)) → bonus c ≡ need (downs s b c σ ks).want
bonus_is s b inside σ ks = refl
bonus_is s b single σ ks = refl
bonus_is s b key σ ks = refl
bonus_is s b value σ ks = refl
bonus_is s b test σ ks = refl
bonus_is s b branch σ ks = refl
bonus_is s b term σ ks = refl
bonus_is s b (right t) σ ks = refl
bonus_is s b entry σ ks = refl
bonus_is s b called σ ks = refl
bonus_is s b portion σ ks = refl
bonus_is s b piecewise σ ks = refl
bonus_is s b filter σ ks = refl

-- ---- a piece is a piece of the text that starts where its parent does

abbrev pub Of : Want → ℕ → Type 0
Of an_expression x = Unit {0}
Of a_name x = Unit {0}
Of (an_item ks) x = Unit {0}
Of a_part x = Unit {0}
Of (a_piece t) x = t ≡ x
Of a_condition x = Unit {0}

pub of_down : (s : List ℕ) (b : Under) (c : Class) (σ : ℕ) (ks : List (Rec ℕ)) → Of (downs s b c σ ks).want σ
of_down s b inside σ ks = tt
of_down s b single σ ks = tt
of_down s b key σ ks = tt
of_down s b value σ ks = tt
of_down s b test σ ks = tt
of_down s b branch σ ks = tt
of_down s b term σ ks = tt
of_down s b (right t) σ ks = tt
of_down s b entry σ ks = tt
of_down s b called σ ks = tt
of_down s b portion σ ks = tt
of_down s b piecewise σ ks = refl
of_down s b filter σ ks = tt

-- where an operand may grow no piece is wanted
pub of_grows : (w : Want) (x : ℕ) → T (grows w) → Of w x
of_grows an_expression x t = tt
of_grows a_name x t = tt
of_grows (an_item ks) x t = tt
of_grows a_part x t = tt
of_grows (a_piece t) x u = absurd u
of_grows a_condition x t = tt

-- ---- totals

pub total_append : (xs ys : List (List ℕ)) → total (xs ++ ys) ≡ total xs + total ys
total_append [] ys = omega arith
total_append (x ∷ xs) ys = omega (arith, total_append xs ys)

-- ---- the laws

-- a tree that is wanted so, whose parent starts at x
pub record Bound (s : List ℕ) (x : ℕ) (w : Want) (t : Tree ℕ) : Type 0 where
  pub nodes : (rec_of t).start + size t + need w ≤ (rec_of t).end
  -- by its kind: a part of a traversal, 38 to 42, leaves a byte over
  pub spares : (rec_of t).start + size t + spare (rec_of t).kind ≤ (rec_of t).end
  pub text : (rec_of t).start + total (texts_of s x t) ≤ (rec_of t).end

module _ (s : List ℕ) where
  -- children, each of which is bound wherever its parent starts
  pub data Bounds : List (Under × ℕ) → List (Rec ℕ) → Trees ℕ → Type 0 where
    bnil : Bounds [] [] nil
    bcons : {d : Under × ℕ} {ds : List (Under × ℕ)} {r : Rec ℕ} {rs : List (Rec ℕ)} {t : Tree ℕ} {ts : Trees ℕ}
        → rec_of t ≡ r → ((x : ℕ) → Of d.0.want x → Bound s x d.0.want t) → Bounds ds rs ts → Bounds (d ∷ ds) (r ∷ rs) (cons t ts)

  -- what the rest of a layout spans
  record Spans (σ k w p e : ℕ) (ts : Trees ℕ) : Type 0 where
    nodes : p + sizes ts + suc (spare k) ≤ e + w
    text : p + total (texts_ofs s σ ts) ≤ e

  further : (σ k w n p q e : ℕ) (ts : Trees ℕ) → p + n ≤ q → Spans σ k (w + n) q e ts → Spans σ k w p e ts
  further σ k w n p q e ts h x = record { nodes = omega (arith, x.nodes); text = omega (arith, x.text) }

  no_less : (σ k w p e : ℕ) (ts : Trees ℕ) → Spans σ k w p e ts → Spans σ k (w + 0) p e ts
  no_less σ k w p e ts x = record { nodes = omega (arith, x.nodes); text = x.text }

  -- a child first, that leaves n bytes over
  with_kid : (σ k w n p e : ℕ) (z : Want) (t : Tree ℕ) (ts : Trees ℕ) → p ≤ (rec_of t).start → n ≤ need z → Bound s σ z t → Spans σ k (w + n) (rec_of t).end e ts → Spans σ k w p e (cons t ts)
  with_kid σ k w n p e z t ts h m x y =
      record { nodes = omega (arith, x.nodes, y.nodes); text = omega (arith, x.text, y.text, total_append (texts_of s σ t) (texts_ofs s σ ts)) }

  runs_span : {b : Under} {σ : ℕ} {ks : List (Rec ℕ)} {l : Layout} {p e φ : ℕ} {rs : List (Rec ℕ)} {bs : List (Under × ℕ)} {ts : Trees ℕ} (k w : ℕ)
      → Runs (hcl s) (Firm (hcl s)) b σ ks l p e φ rs bs → Bounds bs rs ts → T (frugal k w l) → Spans σ k w p e ts
  runs_span {p = p} k w rfin bnil t = record { nodes = omega (arith, leb→le (suc (spare k)) w t); text = omega arith }
  runs_span {b} {σ} {ts = ts} k w (rmove {m = m} {p = p} {e = e} q g r) h t =
      further σ k w (eaten m) p q e ts (walk_takes s b σ m p q (place_to q g)) (runs_span k (w + eaten m) r h t)
  runs_span {b} {σ} k w (rkid {c = c} {l} {p} {e} {d = d} {ks = ks} a z f r) (bcons {t = u} {ts} i v h) t =
      let (y, j) = down_is s b d c σ ks a in
      let m : bonus c ≡ need d.want = bonus_is s b c σ ks ∙ ap (λ (x : Under). need x.want) j in
      let o : Of d.want σ = subst (λ (x : Under). Of x.want σ) j (of_down s b c σ ks) in
      let q : (rec_of u).start ≡ p = ap (λ r. r.start) i ∙ z in
      with_kid σ k w (bonus c) p e d.want u ts (omega arith) (omega arith) (v σ o) (subst (λ (x : ℕ). Spans σ k (w + bonus c) x e ts) (sym (ap (λ r. r.end) i)) (runs_span k (w + bonus c) r h t))
  runs_span {b} {σ} {ts = ts} k w (ryes {m = m} {l} {l'} {p} {e} q g r) h t =
      further σ k w (eaten m) p q e ts (walk_takes s b σ m p q (place_to q g)) (runs_span k (w + eaten m) r h (and_t (frugal k (w + eaten m) l) (frugal k w l') t).0)
  runs_span k w (rno {m = m} {l} {l'} g r) h t = runs_span k w r h (and_t (frugal k (w + eaten m) l) (frugal k w l') t).1
  runs_span {b} {σ} k w (rrep {m = m} {c} {l} {p} {e} {d = d} {ks = ks} q g a z f r) (bcons {t = u} {ts} i v h) t =
      let j = (down_is s b d c σ ks a).1 in
      let o : Of d.want σ = subst (λ (x : Under). Of x.want σ) j (of_down s b c σ ks) in
      let y : (rec_of u).start ≡ q = ap (λ r. r.start) i ∙ z in
      let n = (walk_within s b σ m p q (place_to q g)).low in
      with_kid σ k w 0 p e d.want u ts (omega arith) (omega arith) (v σ o)
      (subst (λ (x : ℕ). Spans σ k (w + 0) x e ts) (sym (ap (λ r. r.end) i)) (no_less σ k w _ e ts (runs_span k w r h t)))
  runs_span k w (rend g r) h t = runs_span k w r h t

  -- ---- a node's own text

  -- a run of text is no longer unescaped
  run_short : (m : Mode) (y : Bool) (p q : ℕ) → runs y p (text_at m s p) ≡ to q → p + length (text_at m s p).bytes ≤ q
  run_short m y p q e = by_test (moves.same y (text_at m s p).escaped) e (λ t f. omega (arith, to_is f, (facts m s p).short)) (λ t f. no_to f)

  -- a move of one atom
  pub one_atom : (b : Under) (σ : ℕ) (a : Atom) (p q : ℕ) → place (walk s b σ (a ∷ []) p) ≡ some q → atom s b σ a p ≡ to q
  unfolding walk
  one_atom b σ a p q e = by_then (atom s b σ a p) (walk s b σ []) (place_to q e) (λ r f g. f ∙ g)

  -- the quote that a string starts with
  pub quote_is : (b : Under) (σ p q : ℕ) → atom s b σ (mark (34 ∷ []) []) p ≡ to q → (byte_at s p ≡ 34) × (q ≡ p + 1)
  unfolding atom
  quote_is b σ p q e =
      by_test (is_mark (34 ∷ []) [] s p) e
      (λ t f. (eqb-true (byte_at s p) 34 (sym (stands_one 34 s p refl) ∙ and_left (stands (34 ∷ []) s p) true t), sym (to_is f)))
      (λ t f. not_made s p f)

  run_is : (b : Under) (σ p q : ℕ) → byte_at s σ ≡ 34 → atom s b σ (run true) p ≡ to q → p + length (text_at quoted s p).bytes ≤ q
  unfolding atom
  run_is b σ p q z e = run_short quoted true p q (subst (λ (x : ℕ). runs true p (text_at (cond (eqb x 34) quoted (heredoc (part s (opener_at s σ).from (opener_at s σ).to))) s p) ≡ to q) z e)

  piece_is_lem : (b : Under) (σ p q : ℕ) → atom s b σ (piece true) p ≡ to q → p + length (text_at (round s (text_start b.want)) s p).bytes ≤ q
  unfolding atom
  piece_is_lem b σ p q e =
      let m = round s (text_start b.want) in
      by_then (runs true p (text_at m s p)) (token s p) e
      (λ r f g. by_test (eqb r p) g (λ t h. not_made s p h) (λ t h. omega (arith, run_short m true p r f, to_is h)))

  -- a string: the quote, the run, the closing quote
  string_span : {b : Under} {σ : ℕ} {ks : List (Rec ℕ)} {e φ : ℕ} {rs : List (Rec ℕ)} {bs : List (Under × ℕ)}
      → Runs (hcl s) (Firm (hcl s)) b σ ks string_lay σ e φ rs bs → φ ≡ 1 → (σ + length (text_at quoted s (σ + 1)).bytes ≤ e) × (rs ≡ [])
  string_span (rmove q g (ryes q' g' (rmove q'' g'' rfin))) i = absurd (omega arith)
  string_span {b} {σ} (rmove q g (rno g' (rmove q'' g'' (rmove q''' g''' rfin)))) i =
      let (z, y) = quote_is b σ σ q (one_atom b σ (mark (34 ∷ []) []) σ q g) in
      let h = run_is b σ q q'' z (one_atom b σ (run true) q q'' g'') in
      let k : σ + 1 + length (text_at quoted s (σ + 1)).bytes ≤ q'' = subst (λ (x : ℕ). x + length (text_at quoted s x).bytes ≤ q'') y h in
      (omega (arith, (walk_within s b σ (close ∷ []) q'' q''' (place_to q''' g''')).low), refl)

  piece_span : {b : Under} {σ : ℕ} {ks : List (Rec ℕ)} {e φ : ℕ} {rs : List (Rec ℕ)} {bs : List (Under × ℕ)} → Runs (hcl s) (Firm (hcl s)) b σ ks piece_lay σ e φ rs bs → φ ≡ 1
      → (σ + length (text_at (round s (text_start b.want)) s σ).bytes ≤ e) × (rs ≡ [])
  piece_span (ryes q g rfin) i = absurd (omega arith)
  piece_span {b} {σ} (rno g (rmove q g' rfin)) i = (piece_is_lem b σ σ q (one_atom b σ (piece true) σ q g'), refl)

  -- own text is of a string or of a piece
  own_by : (P : List (List ℕ) → Type 0) (x k φ b : ℕ) → (k ≡ 6 → φ ≡ 1 → P ((text_at quoted s (b + 1)).bytes ∷ [])) → (k ≡ 9 → φ ≡ 1 → P ((text_at (round s x) s b).bytes ∷ [])) → P [] → P (own s x k φ b)
  unfolding own
  own_by P x k φ b f g h = go (eq_case k 6) (eq_case k 9) (eq_case φ 1)
    where
      go : {y z o : Bool} → EqCase k 6 y → EqCase k 9 z → EqCase φ 1 o → P (own_as s x b (y && o) (z && o))
      go (same e) z (same o) = f e o
      go (same e) (same i) (other o) = h
      go (same e) (other i) (other o) = h
      go (other e) (same i) (same o) = g i o
      go (other e) (same i) (other o) = h
      go (other e) (other i) (same o) = h
      go (other e) (other i) (other o) = h

  -- a kind that goes by its own name
  pub own_name : (n k j : ℕ) → ¬ (j ≡ 14) → named (hcl s) n k ≡ j → k ≡ j
  own_name zero k j h e = e
  own_name (suc n) k j h e = go (eqb k 5) e
    where
      go : (y : Bool) → cond y 14 k ≡ j → k ≡ j
      go true e = absurd (h (sym e))
      go false e = e

  -- a piece is wanted as a piece
  piece_want : (b : Under) (p x : ℕ) → pick_at s b p ≡ some 9 → Of b.want x → text_start b.want ≡ x
  unfolding pick_at
  piece_want b p x = go b.want
    where
      go : (w : Want) → choose (picks s b.lines w p) ≡ some 9 → Of w x → text_start w ≡ x
      go an_expression e o = absurd (pick_all (λ k. not (eqb k 9)) an_expression tt s b.lines p 9 e)
      go a_name e o = absurd (pick_all (λ k. not (eqb k 9)) a_name tt s b.lines p 9 e)
      go (an_item ks) e o = absurd (pick_all (λ k. not (eqb k 9)) (an_item ks) tt s b.lines p 9 e)
      go a_part e o = absurd (pick_all (λ k. not (eqb k 9)) a_part tt s b.lines p 9 e)
      go (a_piece t) e o = o
      go a_condition e o = absurd (pick_all (λ k. not (eqb k 9)) a_condition tt s b.lines p 9 e)

  -- the text of a node whose kind stands first
  no_kids : {bs : List (Under × ℕ)} {rs : List (Rec ℕ)} {ts : Trees ℕ} → Bounds bs rs ts → rs ≡ [] → (σ : ℕ) → total (texts_ofs s σ ts) ≡ 0
  no_kids bnil e σ = refl
  no_kids (bcons i v h) e σ = absurd (let z : ◌≡◌ {A = ℕ} 0 1 = cc in omega arith)

  text_first : {b : Under} {r : Rec ℕ} {rs : List (Rec ℕ)} {bs : List (Under × ℕ)} {ts : Trees ℕ} (n x k : ℕ)
      → named (hcl s) n k ≡ r.kind → pick_at s b r.start ≡ some k → Runs (hcl s) (Firm (hcl s)) b r.start [] (layout_of k) r.start r.end r.flag rs bs → Bounds bs rs ts → Of b.want x
      → r.start + total (texts_ofs s r.start ts) ≤ r.end → r.start + (total (texts_ofs s r.start ts) + total (own s x r.kind r.flag r.start)) ≤ r.end
  unfolding layouts
  text_first {b} {r} {rs} {bs} {ts} n x k i q v h o g =
      own_by (λ (y : List (List ℕ)). r.start + (total (texts_ofs s r.start ts) + total y) ≤ r.end) x r.kind r.flag r.start
      (λ e f.
      let z : k ≡ 6 = own_name n k 6 (λ u. omega arith) (i ∙ e) in
      let (m, c) = string_span (subst (λ (y : ℕ). Runs (hcl s) (Firm (hcl s)) b r.start [] (layout_of y) r.start r.end r.flag rs bs) z v) f in
      omega (arith, no_kids h c r.start))
      (λ e f.
      let z : k ≡ 9 = own_name n k 9 (λ u. omega arith) (i ∙ e) in
      let (m, c) = piece_span (subst (λ (y : ℕ). Runs (hcl s) (Firm (hcl s)) b r.start [] (layout_of y) r.start r.end r.flag rs bs) z v) f in
      let w : text_start b.want ≡ x = piece_want b r.start x (q ∙ ap some z) o in
      let m' : r.start + length (text_at (round s x) s r.start).bytes ≤ r.end = subst (λ (y : ℕ). r.start + length (text_at (round s y) s r.start).bytes ≤ r.end) w m in
      omega (arith, no_kids h c r.start))
      (omega arith)

  -- an operator has no text of its own
  text_later : (n x k j φ a : ℕ) → named (hcl s) n k ≡ j → T (not (eqb k 6) && not (eqb k 9)) → total (own s x j φ a) ≡ 0
  text_later n x k j φ a i t =
      own_by (λ (y : List (List ℕ)). total y ≡ 0) x j φ a
      (λ e f. absurd (subst (λ (y : ℕ). T (not (eqb y 6) && not (eqb y 9))) (own_name n k 6 (λ u. omega arith) (i ∙ e)) t))
      (λ e f. absurd (subst (λ (y : ℕ). T (not (eqb y 6) && not (eqb y 9))) (own_name n k 9 (λ u. omega arith) (i ∙ e)) t))
      refl

  -- a name spares what its kind does
  spare_name : (n k j : ℕ) → named (hcl s) n k ≡ j → spare k ≡ spare j
  spare_name zero k j e = ap spare e
  spare_name (suc n) k j e = go (eq_case k 5) e
    where
      go : {b : Bool} → EqCase k 5 b → cond b 14 k ≡ j → spare k ≡ spare j
      go (same z) e = ap spare z ∙ ap spare e
      go (other z) e = ap spare e

  node_bound : {d : Under × ℕ} {r : Rec ℕ} {rs : List (Rec ℕ)} {bs : List (Under × ℕ)} {ts : Trees ℕ} → Local (hcl s) d r rs bs → Bounds bs rs ts → (x : ℕ) → Of d.0.want x
      → Bound s x d.0.want (node r.kind r.flag r.start r.end ts)
  node_bound {r = r} {ts = ts} (first {b = b} {n} k i q v) h x o =
      let (t, u) = saved s b k (r.start, inl q) in
      let y = runs_span k 0 v h t in
      record {
        nodes = omega (arith, y.nodes, leb→le (need b.want) (spare k) u);
        spares = omega (arith, y.nodes, spare_name n k r.kind i);
        text = rw (total_append (texts_ofs s r.start ts) (own s x r.kind r.flag r.start)) (text_first n x k i q v h o y.text);
      }
  node_bound {r = r} (later {b = b} {n} {l = l} k i st q le v) (bcons {t = w} {ts = ts} j f h) x o =
      let (t, u) = saved s b k (l.end, inr q) in
      let (gr, ne) = follow_all (λ k. not (eqb k 6) && not (eqb k 9)) tt s b l.end k q in
      let y = runs_span k 0 v h t in
      let z = f r.start (of_grows b.want r.start gr) in
      let a : (rec_of w).start ≡ r.start = ap (λ c. c.start) j ∙ st in
      let e : (rec_of w).end ≡ l.end = ap (λ c. c.end) j in
      let m = y.text in
      let m' : l.end + total (texts_ofs s r.start ts) ≤ r.end = subst (λ (c : ℕ). l.end + total (texts_ofs s c ts) ≤ r.end) st y.text in
      record {
        nodes = omega (arith, y.nodes, z.nodes);
        spares = omega (arith, y.nodes, z.nodes, spare_name n k r.kind i);
        text = rw (total_append (texts_of s r.start w ++ texts_ofs s r.start ts) (own s x r.kind r.flag r.start), total_append (texts_of s r.start w) (texts_ofs s r.start ts), text_later n x k r.kind r.flag r.start i ne)
            (omega (arith, z.text));
      }

  -- at every node
  mutual
    pub every_bound : {d : Under × ℕ} {t : Tree ℕ} → Every (Local (hcl s)) d t → (x : ℕ) → Of d.0.want x → Bound s x d.0.want t
    every_bound (every v es) x o = node_bound v (everys_bound es) x o

    everys_bound : {ds : List (Under × ℕ)} {rs : List (Rec ℕ)} {ts : Trees ℕ} → Everys (Local (hcl s)) ds rs ts → Bounds ds rs ts
    everys_bound enil = bnil
    everys_bound (econs q e es) = bcons q (λ x o. every_bound e x o) (everys_bound es)
