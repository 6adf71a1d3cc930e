-- The published rule at every node of a tree is the language's rule there: what is wanted at a node is tested by its parent.
use Prim.Native.Nat.{ℕ, zero, suc, ◌+◌, ◌≤◌, ◌<◌}
use Rattle.std.proofs.Math.Path.{◌≡◌, refl, sym, ap, subst}
use Rattle.std.proofs.Common.{◌∙◌, inl, inr, eqb→eq, leb→le}
use mathlib.Core.List.{List, [], ◌∷◌, map}
use Rattle.std.specs.Prelude.{Bool, cond, not, ◌&&◌, ◌||◌, ◌⊎◌, length, leb}
use Rattle.std.proofs.Math.Bool.{true, false}
use Rattle.std.proofs.Math.Option.{none, some}
use native.Mathlib.Omega.{arith}
use Rattle.std.proofs.Math.Dec.{eqb, T}
use borrow.Author.Tests.{eqb-true, eqb-false, eq-eqb, ne_eqb}
use Rattle.lexis.specs.Bytes.{byte_at, stands, begins}
use Rattle.lexis.specs.Trivia.{gap_to, item, gap as gap'}
use Rattle.lexis.specs.RunLaws.{clash, inside as within, next, and_left, and_right, stands_two}
use Rattle.lexis.specs.Operator.{is_mark}
use Rattle.lexis.specs.String.{Text, text_at}
use Rattle.lexis.specs.Keys.{among, key_to}
use Rattle.engine.specs.Base.{Rec, Tree, node, Trees, rec_of, has, all_of, choose}
use Rattle.engine.specs.BaseLaws.{and_t, has_all, EqCase, same, other, eq_case, some_is}
use Rattle.engine.specs.Layout.{bad, fin, move, kid, fork, rep, named}
use Rattle.engine.specs.Tables.{Called}
use Rattle.engine.specs.Rule.{Runs, rfin, rmove, rkid, ryes, rno, rrep, rend, Firm, Local, first, later, Every, every, Everys, enil, econs}
use Rattle.engine.specs.Handed.{Tests, tnil, tcons}
use Rattle.grammar.specs.Kinds.{tight_of, hold_of}
use Rattle.grammar.specs.Moves.{Want, an_expression, a_name, an_item, a_part, a_piece, a_condition, Under, Step, to, no, then, place, Space, any, line, here, Atom, gap, mark, opens, word, ahead, for, ident, number, index, operator, parts, unless, comma, stop, ended, call, fresh, ending, run, piece, more, close, atom, Move, walk, round, runs, token, when, marks, skip, lines_in, lone, behind_key}
use Rattle.grammar.specs.Moves as moves
use Rattle.grammar.specs.Layouts.{Class, inside, single, key, value, test, branch, term, right, entry, called, portion, piecewise, filter, Layout, layouts, layout_of, item_lay, piece_lay}
use Rattle.grammar.specs.Hcl.{hcl, under, pick_at, follow_at, downs, fits, grows, bare}
use Rattle.grammar.specs.KindLaws.{heads, pick_all, followers, follow_all, called_all}
use Rattle.grammar.specs.MoveLaws.{no_to, to_is, by_test, by_then, not_made}
use Rattle.grammar.specs.Going.{place_to}
use Rattle.grammar.specs.BoundLaws.{one_atom, own_name}
use Rattle.grammar.specs.KeyLaws.{behind_lone, among_likely, key_ends, no_colon}
use Rattle.grammar.specs.Published.{Depth, depth, depth_of, wanted, kinds_of, want_as, want_of, style_of, Piece, More, Suits, Laid, rule_as, Rule}

-- a fact of all that are listed is a fact of each
abbrev All : (ℕ → Type 0) → List ℕ → Type 0
All Q [] = Unit {0}
All Q (x ∷ xs) = Q x × All Q xs

has_elim : (Q : ℕ → Type 0) (xs : List ℕ) → All Q xs → (k : ℕ) → T (has xs k) → Q k
has_elim Q [] a k t = absurd t
has_elim Q (x ∷ xs) (a, l) k t = go (eq_case x k) t (has_elim Q xs l k)
  where
    go : {b : Bool} → EqCase x k b → T (b || has xs k) → (T (has xs k) → Q k) → Q k
    go (same e) u ih = subst Q e a
    go (other n) u ih = ih u

-- ---- kinds and wants

-- a plain want is what its kinds say
abbrev Sole : Want → Type 0
Sole w = (n j : ℕ) → T (has (kinds_of w n) j) → want_of j ≡ w

none_of : (a b c d e : Bool) → T (not (a || (b || (c || (d || e))))) → want_as a b c d e ≡ an_expression
none_of true b c d e t = absurd t
none_of false true c d e t = absurd t
none_of false false true d e t = absurd t
none_of false false false true e t = absurd t
none_of false false false false true t = absurd t
none_of false false false false false t = refl

abbrev other_want : ℕ → Bool
other_want j = eqb j 17 || (eqb j 13 || ((leb 38 j && leb j 42) || (eqb j 20 || eqb j 10)))

sole_expression : Sole an_expression
sole_expression n j t = none_of (eqb j 17) (eqb j 13) (leb 38 j && leb j 42) (eqb j 20) (eqb j 10) (has_all (λ j. not (other_want j)) (kinds_of an_expression n) (all n) j t)
  where
    all : (n : ℕ) → T (all_of (λ j. not (other_want j)) (kinds_of an_expression n))
    all zero = tt
    all (suc n) = tt

sole_name : Sole a_name
sole_name n j t = has_elim (λ j. want_of j ≡ a_name) (17 ∷ []) (refl, tt) j t

sole_part : Sole a_part
sole_part n j t = has_elim (λ j. want_of j ≡ a_part) (38 ∷ 39 ∷ 40 ∷ 41 ∷ 42 ∷ []) (refl, (refl, (refl, (refl, (refl, tt))))) j t

sole_condition : Sole a_condition
sole_condition n j t = has_elim (λ j. want_of j ≡ a_condition) (20 ∷ []) (refl, tt) j t

-- a test of all kinds of a want, in both styles
kinds_all : (q : ℕ → Bool) (w : Want) (n j : ℕ) → T (all_of q (kinds_of w n)) → T (has (kinds_of w n) j) → T (q j)
kinds_all q w n j t h = has_all q (kinds_of w n) t j h

-- the names in the two styles
not_five_lem : (w : Want) (n j : ℕ) → T (has (kinds_of w (suc n)) j) → ¬ (j ≡ 5)
not_five_lem w n j h e = go w (subst (λ (x : ℕ). T (has (kinds_of w (suc n)) x)) e h)
  where
    go : (w : Want) → ¬ T (has (kinds_of w (suc n)) 5)
    go an_expression t = t
    go a_name t = t
    go (an_item ks) t = t
    go a_part t = t
    go (a_piece x) t = t
    go a_condition t = t

not_fourteen : (w : Want) (j : ℕ) → T (has (kinds_of w 0) j) → ¬ (j ≡ 14)
not_fourteen w j h e = go w (subst (λ (x : ℕ). T (has (kinds_of w 0) x)) e h)
  where
    go : (w : Want) → ¬ T (has (kinds_of w 0) 14)
    go an_expression t = t
    go a_name t = t
    go (an_item ks) t = t
    go a_part t = t
    go (a_piece x) t = t
    go a_condition t = t

module _ (s : List ℕ) where
  -- ---- the name of a kind: by the style that is asked for, and by the style that the name itself says

  called_not : (b : Under) (k : ℕ) → Called (hcl s) b k → ¬ (k ≡ 14)
  called_not b k c e = go b.want (called_all s (λ k. not (eqb k 14)) b (heads_not b.want) (λ t. tt) k c)
    where
      heads_not : (w : Want) → T (all_of (λ k. not (eqb k 14)) (heads w))
      heads_not an_expression = tt
      heads_not a_name = tt
      heads_not (an_item ks) = tt
      heads_not a_part = tt
      heads_not (a_piece t) = tt
      heads_not a_condition = tt

      go : (w : Want) → T (not (eqb k 14)) → ⊥
      go w t = subst (λ (x : ℕ). T (not (eqb x 14))) e t

  style_to : (n k j : ℕ) → ¬ (k ≡ 14) → named (hcl s) n k ≡ j → named (hcl s) (style_of j) k ≡ j
  style_to zero k j h e = go (eq_case j 14)
    where
      go : {b : Bool} → EqCase j 14 b → named (hcl s) (cond b 1 0) k ≡ j
      go (same z) = absurd (h (e ∙ z))
      go (other z) = e
  style_to (suc n) k j h e = go (eq_case j 14)
    where
      own : {b : Bool} → EqCase k 5 b → ¬ (j ≡ 14) → cond b 14 k ≡ j → k ≡ j
      own (same y) z f = absurd (z (sym f))
      own (other y) z f = f

      go : {b : Bool} → EqCase j 14 b → named (hcl s) (cond b 1 0) k ≡ j
      go (same z) = e
      go (other z) = own (eq_case k 5) z e

  style_from : (w : Want) (n k j : ℕ) → T (has (kinds_of w n) j) → named (hcl s) (style_of j) k ≡ j → named (hcl s) n k ≡ j
  style_from w zero k j h = go (eq_case j 14)
    where
      go : {b : Bool} → EqCase j 14 b → named (hcl s) (cond b 1 0) k ≡ j → k ≡ j
      go (same z) e = absurd (not_fourteen w j h z)
      go (other z) e = e
  style_from w (suc n) k j h = go (eq_case j 14)
    where
      bare_is : {b : Bool} → EqCase k 5 b → k ≡ j → cond b 14 k ≡ j
      bare_is (same y) e = absurd (not_five_lem w n j h (sym e ∙ y))
      bare_is (other y) e = e

      go : {b : Bool} → EqCase j 14 b → named (hcl s) (cond b 1 0) k ≡ j → bare k ≡ j
      go (same z) e = e
      go (other z) e = bare_is (eq_case k 5) e

  restyle_to : {b : Under} {n : ℕ} {r : Rec ℕ} {rs : List (Rec ℕ)} {bs : List (Under × ℕ)} → Local (hcl s) (b, n) r rs bs → Local (hcl s) (b, style_of r.kind) r rs bs
  restyle_to {b} {n} {r} (first k i q v) = first k (style_to n k r.kind (called_not b k (r.start, inl q)) i) q v
  restyle_to {b} {n} {r} (later {l = l} k i st q h v) = later {l = l} k (style_to n k r.kind (called_not b k (l.end, inr q)) i) st q h v

  restyle_from : {b : Under} {r : Rec ℕ} {rs : List (Rec ℕ)} {bs : List (Under × ℕ)} (w : Want) (n : ℕ) → T (has (kinds_of w n) r.kind) → Local (hcl s) (b, style_of r.kind) r rs bs → Local (hcl s) (b, n) r rs bs
  restyle_from {b} {r} w n h (first k i q v) = first k (style_from w n k r.kind h i) q v
  restyle_from {b} {r} w n h (later {l = l} k i st q z v) = later {l = l} k (style_from w n k r.kind h i) st q z v

  -- ---- a node is of a kind that is wanted there, if its children are

  heads_kinds : (w : Want) (n : ℕ) → T (all_of (λ k. has (kinds_of w n) (named (hcl s) n k)) (heads w))
  heads_kinds an_expression zero = tt
  heads_kinds an_expression (suc n) = tt
  heads_kinds a_name zero = tt
  heads_kinds a_name (suc n) = tt
  heads_kinds (an_item ks) zero = tt
  heads_kinds (an_item ks) (suc n) = tt
  heads_kinds a_part zero = tt
  heads_kinds a_part (suc n) = tt
  heads_kinds (a_piece t) zero = tt
  heads_kinds (a_piece t) (suc n) = tt
  heads_kinds a_condition zero = tt
  heads_kinds a_condition (suc n) = tt

  followers_kinds : (n : ℕ) → T (all_of (λ k. has (kinds_of an_expression n) (named (hcl s) n k)) followers)
  followers_kinds zero = tt
  followers_kinds (suc n) = tt

  -- no operator has a left operand where none may be
  no_operand : {A : Type 0} (w : Want) (l : Rec ℕ) (k : ℕ) → T (all_of (λ j. eqb (hold_of j) 0) (kinds_of w 0)) → Suits s (w, 0) l → T (leb 1 (tight_of k)) → tight_of k ≤ hold_of l.kind → A
  no_operand w l k t x u h = absurd (omega (arith, leb→le 1 (tight_of k) u, eqb→eq (hold_of l.kind) 0 (kinds_all (λ j. eqb (hold_of j) 0) w 0 l.kind t x.kind)))

  operand_kind : (b : Under) (n p k : ℕ) (l : Rec ℕ) → follow_at s b p ≡ some k → Suits s (b.want, 0) l → tight_of k ≤ hold_of l.kind → T (has (kinds_of b.want n) (named (hcl s) n k))
  operand_kind b n p k l q x h = go b.want (follow_all (λ k. leb 1 (tight_of k)) tt s b p k q).0 x
    where
      tight : T (leb 1 (tight_of k))
      tight = (follow_all (λ k. leb 1 (tight_of k)) tt s b p k q).1

      go : (w : Want) → T (grows w) → Suits s (w, 0) l → T (has (kinds_of w n) (named (hcl s) n k))
      go an_expression t x = (follow_all (λ k. has (kinds_of an_expression n) (named (hcl s) n k)) (followers_kinds n) s b p k q).1
      go a_name t x = absurd t
      go (an_item ks) t x = no_operand (an_item ks) l k tt x tight h
      go a_part t x = absurd t
      go (a_piece y) t x = absurd t
      go a_condition t x = no_operand a_condition l k tt x tight h

  kind_wanted : {b : Under} {n : ℕ} {r : Rec ℕ} {rs : List (Rec ℕ)} {bs : List (Under × ℕ)} → Local (hcl s) (b, n) r rs bs → Tests (Suits s) (map wanted bs) rs → T (has (kinds_of b.want n) r.kind)
  unfolding pick_at
  kind_wanted {b} {n} {r} (first k i q v) ts =
      subst (λ (x : ℕ). T (has (kinds_of b.want n) x)) i (pick_all (λ k. has (kinds_of b.want n) (named (hcl s) n k)) b.want (heads_kinds b.want n) s b.lines r.start k q)
  kind_wanted {b} {n} (later {l = l} k i st q h v) (tcons x ts) =
      subst (λ (x : ℕ). T (has (kinds_of b.want n) x)) i (operand_kind b n l.end k l q x h)

  -- a kind that is no operator's stands first
  pub record First (b : Under) (k : ℕ) (r : Rec ℕ) (rs : List (Rec ℕ)) (bs : List (Under × ℕ)) : Type 0 where
    pub pick : pick_at s b r.start ≡ some k
    pub runs : Runs (hcl s) (Firm (hcl s)) b r.start [] (layout_of k) r.start r.end r.flag rs bs

  first_only : {b : Under} {r : Rec ℕ} {rs : List (Rec ℕ)} {bs : List (Under × ℕ)} (n k : ℕ) → T (not (has followers k)) → ¬ (k ≡ 14) → Local (hcl s) (b, n) r rs bs → r.kind ≡ k → First b k r rs bs
  first_only {b} {r} {rs} {bs} n k t y (first j i q v) e =
      let z : j ≡ k = own_name s n j k y (i ∙ e) in
      record { pick = q ∙ ap some z; runs = subst (λ (x : ℕ). Runs (hcl s) (Firm (hcl s)) b r.start [] (layout_of x) r.start r.end r.flag rs bs) z v }
  first_only {b} n k t y (later {l = l} j i st q h v) e =
      let z : j ≡ k = own_name s n j k y (i ∙ e) in
      absurd (both (has followers k) t (subst (λ (x : ℕ). T (has followers x)) z (follow_all (λ k. has followers k) tt s b l.end j q).1))
    where
      both : (x : Bool) → T (not x) → T x → ⊥
      both true u w = u
      both false u w = w

  -- ---- moves that do not look at what is wanted

  abbrev blind_atom : Atom → Bool
  blind_atom (gap g) = true
  blind_atom (mark w l) = true
  blind_atom (opens w l) = true
  blind_atom (word w) = true
  blind_atom (ahead w) = true
  blind_atom for = true
  blind_atom ident = true
  blind_atom number = true
  blind_atom index = true
  blind_atom (operator k) = true
  blind_atom parts = true
  blind_atom (unless c) = true
  blind_atom comma = true
  blind_atom stop = true
  blind_atom ended = true
  blind_atom call = true
  blind_atom fresh = false
  blind_atom ending = true
  blind_atom (run e) = true
  blind_atom (piece e) = false
  blind_atom more = true
  blind_atom close = true

  abbrev blind : Layout → Bool
  blind bad = true
  blind (fin φ) = true
  blind (move m l) = all_of blind_atom m && blind l
  blind (kid c l) = blind l
  blind (fork m l l') = all_of blind_atom m && (blind l && blind l')
  blind (rep m c l) = all_of blind_atom m && blind l

  module _ (n : ℕ) (ls : Bool) (w w' : Want) where
    lines_blind : (g : Space) → lines_in (under n ls w) g ≡ lines_in (under n ls w') g
    lines_blind any = refl
    lines_blind line = refl
    lines_blind here = refl

    atom_blind : (σ : ℕ) (a : Atom) (p : ℕ) → T (blind_atom a) → atom s (under n ls w) σ a p ≡ atom s (under n ls w') σ a p
    unfolding atom
    atom_blind σ (gap g) p t = rw (lines_blind g)
    atom_blind σ (mark w l) p t = refl
    atom_blind σ (opens w l) p t = refl
    atom_blind σ (word w) p t = refl
    atom_blind σ (ahead w) p t = refl
    atom_blind σ for p t = refl
    atom_blind σ ident p t = refl
    atom_blind σ number p t = refl
    atom_blind σ index p t = refl
    atom_blind σ (operator k) p t = refl
    atom_blind σ parts p t = refl
    atom_blind σ (unless c) p t = refl
    atom_blind σ comma p t = refl
    atom_blind σ stop p t = refl
    atom_blind σ ended p t = refl
    atom_blind σ call p t = refl
    atom_blind σ fresh p t = absurd t
    atom_blind σ ending p t = refl
    atom_blind σ (run e) p t = refl
    atom_blind σ (piece e) p t = absurd t
    atom_blind σ more p t = refl
    atom_blind σ close p t = refl

    walk_blind : (σ : ℕ) (m : Move) (p : ℕ) → T (all_of blind_atom m) → walk s (under n ls w) σ m p ≡ walk s (under n ls w') σ m p
    unfolding walk
    walk_blind σ [] p t = refl
    walk_blind σ (a ∷ m) p t =
        let (u, v) = and_t (blind_atom a) (all_of blind_atom m) t in
        rw (atom_blind σ a p u) (then_same (atom s (under n ls w') σ a p) (λ q. walk_blind σ m q v))
      where
        then_same : {f g : ℕ → Step} (x : Step) → ((q : ℕ) → f q ≡ g q) → then x f ≡ then x g
        then_same (to q) h = h q
        then_same (no k q) h = refl

    module _ (eq : grows w ≡ grows w') where
      fits_blind : (c : Class) → fits (under n ls w) c ≡ fits (under n ls w') c
      fits_blind inside = refl
      fits_blind single = refl
      fits_blind key = refl
      fits_blind value = eq
      fits_blind test = eq
      fits_blind branch = eq
      fits_blind term = eq
      fits_blind (right t) = eq
      fits_blind entry = refl
      fits_blind called = refl
      fits_blind portion = refl
      fits_blind piecewise = refl
      fits_blind filter = refl

      downs_blind : (c : Class) (σ : ℕ) (ks : List (Rec ℕ)) → downs s (under n ls w) c σ ks ≡ downs s (under n ls w') c σ ks
      downs_blind inside σ ks = refl
      downs_blind single σ ks = refl
      downs_blind key σ ks = refl
      downs_blind value σ ks = refl
      downs_blind test σ ks = refl
      downs_blind branch σ ks = refl
      downs_blind term σ ks = refl
      downs_blind (right t) σ ks = refl
      downs_blind entry σ ks = refl
      downs_blind called σ ks = refl
      downs_blind portion σ ks = refl
      downs_blind piecewise σ ks = refl
      downs_blind filter σ ks = refl

      down_blind : (c : Class) (σ : ℕ) (ks : List (Rec ℕ)) → (hcl s).down (under n ls w) c σ ks ≡ (hcl s).down (under n ls w') c σ ks
      down_blind c σ ks = rw (fits_blind c, downs_blind c σ ks)

      go_blind : (m : Move) (σ p : ℕ) → T (all_of blind_atom m) → (hcl s).go (under n ls w') m σ p ≡ (hcl s).go (under n ls w) m σ p
      go_blind m σ p t = ap place (sym (walk_blind σ m p t))

      runs_blind : {σ : ℕ} {ks : List (Rec ℕ)} {l : Layout} {p e φ : ℕ} {rs : List (Rec ℕ)} {bs : List (Under × ℕ)} → Runs (hcl s) (Firm (hcl s)) (under n ls w) σ ks l p e φ rs bs → T (blind l)
          → Runs (hcl s) (Firm (hcl s)) (under n ls w') σ ks l p e φ rs bs
      runs_blind rfin t = rfin
      runs_blind {σ} (rmove {m} {l} {p} q g r) t =
          let (t1, t2) = and_t (all_of blind_atom m) (blind l) t in
          rmove q (go_blind m σ p t1 ∙ g) (runs_blind r t2)
      runs_blind {σ} (rkid {c} {ks = ks} a z f r) t = rkid (sym (down_blind c σ ks) ∙ a) z f (runs_blind r t)
      runs_blind {σ} (ryes {m} {l} {l'} {p} q g r) t =
          let (t1, t2) = and_t (all_of blind_atom m) (blind l && blind l') t in
          ryes q (go_blind m σ p t1 ∙ g) (runs_blind r (and_t (blind l) (blind l') t2).0)
      runs_blind {σ} (rno {m} {l} {l'} {p} g r) t =
          let (t1, t2) = and_t (all_of blind_atom m) (blind l && blind l') t in
          rno (go_blind m σ p t1 ∙ g) (runs_blind r (and_t (blind l) (blind l') t2).1)
      runs_blind {σ} (rrep {m} {c} {l} {p} {ks = ks} q g a z f r) t =
          let (t1, t2) = and_t (all_of blind_atom m) (blind l) t in
          rrep q (go_blind m σ p t1 ∙ g) (sym (down_blind c σ ks) ∙ a) z f (runs_blind r t)
      runs_blind {σ} (rend {m} {c} {l} {p} g r) t =
          let (t1, t2) = and_t (all_of blind_atom m) (blind l) t in
          rend (go_blind m σ p t1 ∙ g) (runs_blind r t2)

  -- ---- a piece

  module _ (n : ℕ) (ls : Bool) (t : ℕ) where
    abbrev text_of : ℕ → Text
    text_of p = text_at (round s t) s p

    -- a run of text that is as asked, and not empty
    piece_step : (y : Bool) (σ p q : ℕ) → place (walk s (under n ls (a_piece t)) σ (piece y ∷ []) p) ≡ some q → ((text_of p).escaped ≡ y) × (q ≡ p + (text_of p).width) × (p < q)
    unfolding atom
    piece_step y σ p q e =
        by_then (runs y p (text_of p)) (token s p) (one_atom s (under n ls (a_piece t)) σ (piece y) p q e)
        (λ r f g. by_test (moves.same y (text_of p).escaped) f
        (λ u h. by_test (eqb r p) g (λ v i. not_made s p i)
        (λ v i. let a = to_is h in let c = to_is i in let d = eqb-false r p v in (as_asked y (text_of p).escaped u, omega arith, omega arith)))
        (λ u h. no_to h))
      where
        as_asked : (y e : Bool) → moves.same y e ≡ true → e ≡ y
        as_asked true e u = u
        as_asked false true u = sym u
        as_asked false false u = refl

    piece_made : (y : Bool) (σ p : ℕ) → (text_of p).escaped ≡ y → 0 < (text_of p).width → place (walk s (under n ls (a_piece t)) σ (piece y ∷ []) p) ≡ some (p + (text_of p).width)
    unfolding atom walk
    piece_made true σ p e h = rw (e, ne_eqb (p + (text_of p).width) p (λ z. omega arith))
    piece_made false σ p e h = rw (e, ne_eqb (p + (text_of p).width) p (λ z. omega arith))

    piece_not : (σ p : ℕ) → (text_of p).escaped ≡ true → place (walk s (under n ls (a_piece t)) σ (piece false ∷ []) p) ≡ none
    unfolding atom walk
    piece_not σ p e = rw e

    pieced : {σ e φ : ℕ} {rs : List (Rec ℕ)} {bs : List (Under × ℕ)} → Runs (hcl s) (Firm (hcl s)) (under n ls (a_piece t)) σ [] piece_lay σ e φ rs bs
        → ((σ < e) × (e ≡ σ + (text_of σ).width) × (φ ≡ cond (text_of σ).escaped 1 0)) × ((rs ≡ []) × (bs ≡ []))
    pieced {σ} (ryes q g rfin) = let (a, b, c) = piece_step false σ σ q g in ((c, b, rw a), (refl, refl))
    pieced {σ} (rno f (rmove q g rfin)) = let (a, b, c) = piece_step true σ σ q g in ((c, b, rw a), (refl, refl))

    piece_runs : (σ : ℕ) (y : Bool) → (text_of σ).escaped ≡ y → 0 < (text_of σ).width → Runs (hcl s) (Firm (hcl s)) (under n ls (a_piece t)) σ [] piece_lay σ (σ + (text_of σ).width) (cond y 1 0) [] []
    piece_runs σ true e h = rno (piece_not σ σ e) (rmove (σ + (text_of σ).width) (piece_made true σ σ e h) rfin)
    piece_runs σ false e h = ryes (σ + (text_of σ).width) (piece_made false σ σ e h) rfin

    piece_to : {r : Rec ℕ} {rs : List (Rec ℕ)} {bs : List (Under × ℕ)} → First (under n ls (a_piece t)) 9 r rs bs → Piece s t r × ((rs ≡ []) × (bs ≡ []))
    unfolding pick_at layouts
    piece_to {r} x =
        let ((a, b, c), d) = pieced x.runs in
        (record { text = not_open (stands (36 ∷ 123 ∷ []) s r.start) x.pick; some = a; end = b; flag = c }, d)
      where
        not_open : (y : Bool) → choose ((y, 10) ∷ (true, 9) ∷ []) ≡ some 9 → y ≡ false
        not_open true e = absurd (let z : ◌≡◌ {A = ℕ} 10 9 = cc in omega arith)
        not_open false e = refl

    piece_from : (m : ℕ) (r : Rec ℕ) → r.kind ≡ 9 → Piece s t r → Local (hcl s) (under n ls (a_piece t), m) r [] []
    unfolding pick_at layouts
    piece_from m r k x =
        first {b = under n ls (a_piece t)} {r = r} 9 (name_nine m ∙ sym k) (nine_picked (stands (36 ∷ 123 ∷ []) s r.start) x.text)
        (subst (λ (y : ℕ). Runs (hcl s) (Firm (hcl s)) (under n ls (a_piece t)) r.start [] piece_lay r.start y r.flag [] []) (sym x.end)
        (subst (λ (y : ℕ). Runs (hcl s) (Firm (hcl s)) (under n ls (a_piece t)) r.start [] piece_lay r.start (r.start + (text_of r.start).width) y [] []) (sym x.flag)
        (piece_runs r.start (text_of r.start).escaped refl (omega (arith, x.some, x.end)))))
      where
        nine_picked : (y : Bool) → y ≡ false → choose ((y, 10) ∷ (true, 9) ∷ []) ≡ some 9
        nine_picked y e = rw e

        name_nine : (m : ℕ) → named (hcl s) m 9 ≡ 9
        name_nine zero = refl
        name_nine (suc m) = refl

  -- ---- an item

  -- what an item is, whatever keys are before it: its key and its value, the place past the key's space, and the mark there
  pub record Itemed (n : ℕ) (ls : Bool) (σ e φ : ℕ) (rs : List (Rec ℕ)) (bs : List (Under × ℕ)) : Type 0 where
    pub key : Rec ℕ
    pub value : Rec ℕ
    pub are : rs ≡ key ∷ value ∷ []
    pub unders : bs ≡ (under n false an_expression, 1) ∷ (under n ls an_expression, 0) ∷ []
    pub starts : key.start ≡ σ
    pub at : ℕ
    pub gap : skip s false key.end ≡ to at
    pub marked : (is_mark (61 ∷ []) ((61 ∷ 61 ∷ []) ∷ (61 ∷ 62 ∷ []) ∷ []) s at ≡ true) ⊎ ((is_mark (58 ∷ []) [] s at ≡ true) × (skip s false (at + 1) ≡ to value.start))
    pub rebuild : (ks : List ℕ) → (eqb (behind_key s σ) at && among s ks σ) ≡ false → Runs (hcl s) (Firm (hcl s)) (under n ls (an_item ks)) σ [] item_lay σ e φ rs bs

  module _ (n : ℕ) (ls : Bool) where
    -- the move behind a key, with its test
    fresh_step : (ks : List ℕ) (σ : ℕ) (w : List ℕ) (l : List (List ℕ)) (p q : ℕ) → place (walk s (under n ls (an_item ks)) σ (moves.gap line ∷ fresh ∷ mark w l ∷ []) p) ≡ some q
        → (x : ℕ) × (skip s false p ≡ to x) × ((eqb (behind_key s σ) x && among s ks σ) ≡ false) × (is_mark w l s x ≡ true) × (q ≡ x + length w)
    unfolding atom walk
    fresh_step ks σ w l p q e =
        by_then (skip s false p) _ (place_to q e)
        (λ x f g. by_then (when (eqb (behind_key s σ) x && among s ks σ) _ _) _ g
        (λ y h i. by_test (eqb (behind_key s σ) x && among s ks σ) h (λ u j. no_to j)
        (λ u j. by_then (marks s w l y) _ i
        (λ z k m. by_test (is_mark w l s y) k
        (λ v o. let a = to_is j in let b = to_is o in let c = to_is m in (x, f, u, subst (λ (c : ℕ). is_mark w l s c ≡ true) (sym a) v, omega arith))
        (λ v o. not_made s y o)))))

    fresh_is : (ks : List ℕ) (σ : ℕ) (w : List ℕ) (l : List (List ℕ)) (p x : ℕ) → skip s false p ≡ to x → (eqb (behind_key s σ) x && among s ks σ) ≡ false
        → walk s (under n ls (an_item ks)) σ (moves.gap line ∷ fresh ∷ mark w l ∷ []) p ≡ walk s (under n ls (an_item [])) σ (mark w l ∷ []) x
    unfolding atom walk
    fresh_is ks σ w l p x f h = rw (f, h)

    line_step : (b : Under) (σ p q : ℕ) → place (walk s b σ (moves.gap line ∷ []) p) ≡ some q → skip s false p ≡ to q
    unfolding atom
    line_step b σ p q e = one_atom s b σ (moves.gap line) p q e

    item_out : (ks : List ℕ) {σ e φ : ℕ} {rs : List (Rec ℕ)} {bs : List (Under × ℕ)} → Runs (hcl s) (Firm (hcl s)) (under n ls (an_item ks)) σ [] item_lay σ e φ rs bs
        → (x : Itemed n ls σ e φ rs bs) × ((eqb (behind_key s σ) x.at && among s ks σ) ≡ false)
    item_out ks {σ} (rkid {r = kr} a z f (ryes q g (rmove q' g' (rkid {r = vr} c y h rfin)))) =
        let (x, i, j, k, l) = fresh_step ks σ _ _ kr.end q g in (
          record {
            key = kr;
            value = vr;
            are = refl;
            unders = let u = some_is a in let v = some_is c in cc;
            starts = z;
            at = x;
            gap = i;
            marked = inl k;
            rebuild = λ ks' o.
                rkid a z f
                (ryes q (ap place (fresh_is ks' σ _ _ kr.end x i o ∙ sym (fresh_is ks σ _ _ kr.end x i j)) ∙ g)
                (rmove q' (ap place (walk_blind n ls (an_item ks') (an_item ks) σ (moves.gap line ∷ []) q tt) ∙ g') (rkid c y h rfin)));
          },
          j,
        )
    item_out ks {σ} (rkid {r = kr} a z f (rno g0 (rmove q g (rmove q' g' (rkid {r = vr} c y h rfin))))) =
        let (x, i, j, k, l) = fresh_step ks σ _ _ kr.end q g in (
          record {
            key = kr;
            value = vr;
            are = refl;
            unders = let u = some_is a in let v = some_is c in cc;
            starts = z;
            at = x;
            gap = i;
            marked = inr (k, subst (λ (m : ℕ). skip s false m ≡ to vr.start) l (line_step (under n ls (an_item ks)) σ q q' g' ∙ ap to (sym y)));
            rebuild = λ ks' o.
                rkid a z f
                (rno (ap place (fresh_is ks' σ _ _ kr.end x i o ∙ sym (fresh_is ks σ _ _ kr.end x i j)) ∙ g0)
                (rmove q (ap place (fresh_is ks' σ _ _ kr.end x i o ∙ sym (fresh_is ks σ _ _ kr.end x i j)) ∙ g)
                (rmove q' (ap place (walk_blind n ls (an_item ks') (an_item ks) σ (moves.gap line ∷ []) q tt) ∙ g') (rkid c y h rfin))));
          },
          j,
        )

  -- ---- the first and the second of two children

  list_cons : {Y : Type 0} {x y : Y} {xs ys : List Y} → ◌≡◌ {A = List Y} (x ∷ xs) (y ∷ ys) → (x ≡ y) × (xs ≡ ys)
  list_cons q = (cc, cc)

  record Child (b : Under × ℕ) (r : Rec ℕ) : Type 0 where
    tree : Tree ℕ
    rec : rec_of tree ≡ r
    ruled : Every (Local (hcl s)) b tree

  first_child : {bs bs' : List (Under × ℕ)} {rs rs' : List (Rec ℕ)} {ts : Trees ℕ} (b : Under × ℕ) (r : Rec ℕ) → Everys (Local (hcl s)) bs rs ts → bs ≡ b ∷ bs' → rs ≡ r ∷ rs'
      → Child b r × ((us : Trees ℕ) × Everys (Local (hcl s)) bs' rs' us)
  first_child b r enil p q = absurd (let z : ◌≡◌ {A = ℕ} 0 1 = cc in omega arith)
  first_child {bs' = bs'} {rs' = rs'} b r (econs {bs = bs} {rs = rs} {t = t} {ts} i e es) p q =
      let (p1, p2) = list_cons p in
      let (q1, q2) = list_cons q in (
        record { tree = t; rec = i ∙ q1; ruled = subst (λ (x : Under × ℕ). Every (Local (hcl s)) x t) p1 e },
        (ts, subst (λ (x : List (Under × ℕ)). Everys (Local (hcl s)) x rs' ts) p2 (subst (λ (x : List (Rec ℕ)). Everys (Local (hcl s)) bs x ts) q2 es)),
      )

  -- ---- an item's test, at itself and at its object

  skip_at : (l : Bool) (p q : ℕ) → skip s l p ≡ to q → (gap_to l s p).at ≡ q
  skip_at l p q e = by_test (gap_to l s p).unclosed e (λ t f. no_to f) (λ t f. to_is f)

  colon_stays : (p : ℕ) → byte_at s p ≡ 58 → (gap_to false s p).at ≡ p
  unfolding gap' item begins
  colon_stays p z = rw (next s p (within (λ x. eqb x 58) s p refl (eq-eqb (byte_at s p) 58 z)), z)

  no_both : (a b : Bool) → (a ≡ true → b ≡ true → ⊥) → (a && b) ≡ false
  no_both true true f = absurd (f refl refl)
  no_both true false f = refl
  no_both false b f = refl

  not_both : (a b : Bool) → (a ≡ true → b ≡ true → ⊥) → T (not (a && b))
  not_both true true f = absurd (f refl refl)
  not_both true false f = tt
  not_both false b f = tt

  both_not : (a b : Bool) → T (not (a && b)) → a ≡ true → b ≡ true → ⊥
  both_not true true t e f = t
  both_not true false t e f = clash (sym f)
  both_not false b t e f = clash (sym e)

  both_false : (a b : Bool) → (a && b) ≡ false → a ≡ true → b ≡ true → ⊥
  both_false true true t e f = clash t
  both_false true false t e f = clash (sym f)
  both_false false b t e f = clash (sym e)

  module _ {n : ℕ} {ls : Bool} {σ e φ : ℕ} {rs : List (Rec ℕ)} {bs : List (Under × ℕ)} {ts : Trees ℕ} (x : Itemed n ls σ e φ rs bs) (es : Everys (Local (hcl s)) bs rs ts) (ks : List ℕ) where
    fresh_object : (eqb (behind_key s σ) x.at && among s ks σ) ≡ false → T (not (lone s σ && among s ks σ))
    fresh_object h = not_both (lone s σ) (among s ks σ)
        (λ lo am.
        let (c, d) = first_child (under n false an_expression, 1) x.key es x.unders x.are in
        let en : (rec_of c.tree).end ≡ key_to s σ = key_ends s c.ruled refl refl σ (ap (λ r. r.start) c.rec ∙ x.starts) lo (among_likely s ks σ am) in
        let ke : x.key.end ≡ key_to s σ = sym (ap (λ r. r.end) c.rec) ∙ en in
        let be : behind_key s σ ≡ x.at = subst (λ (y : ℕ). (gap_to false s y).at ≡ x.at) ke (skip_at false x.key.end x.at x.gap) in
        both_false (eqb (behind_key s σ) x.at) (among s ks σ) h (eq-eqb (behind_key s σ) x.at be) am)

    one_colon : (is_mark (58 ∷ []) [] s x.at ≡ true) → skip s false (x.at + 1) ≡ to x.value.start → is_mark (58 ∷ []) ((58 ∷ 58 ∷ []) ∷ []) s x.at ≡ true
    one_colon m g = go (stands (58 ∷ 58 ∷ []) s x.at) refl
      where
        go : (y : Bool) → stands (58 ∷ 58 ∷ []) s x.at ≡ y → (stands (58 ∷ []) s x.at && not (y || false)) ≡ true
        go true f =
            let z : byte_at s (x.at + 1) ≡ 58 = eqb-true (byte_at s (x.at + 1)) 58 (and_right (eqb (byte_at s x.at) 58) (eqb (byte_at s (x.at + 1)) 58) (sym (stands_two 58 58 s x.at refl refl) ∙ f)) in
            let v : x.value.start ≡ x.at + 1 = sym (skip_at false (x.at + 1) x.value.start g) ∙ colon_stays (x.at + 1) z in
            let (c, (us, d)) = first_child (under n false an_expression, 1) x.key es x.unders x.are in
            let (w, y) = first_child (under n ls an_expression, 0) x.value d refl refl in
            absurd (no_colon s w.ruled refl (ap (byte_at s) (ap (λ r. r.start) w.rec ∙ v) ∙ z))
        go false f = rw (and_left (stands (58 ∷ []) s x.at) true m)

    object_fresh : T (not (lone s σ && among s ks σ)) → (eqb (behind_key s σ) x.at && among s ks σ) ≡ false
    object_fresh h = no_both (eqb (behind_key s σ) x.at) (among s ks σ)
        (λ be am. both_not (lone s σ) (among s ks σ) h (behind_lone s σ x.at (eqb-true (behind_key s σ) x.at be) (go x.marked)) am)
      where
        go : (is_mark (61 ∷ []) ((61 ∷ 61 ∷ []) ∷ (61 ∷ 62 ∷ []) ∷ []) s x.at ≡ true) ⊎ ((is_mark (58 ∷ []) [] s x.at ≡ true) × (skip s false (x.at + 1) ≡ to x.value.start))
            → (is_mark (61 ∷ []) ((61 ∷ 61 ∷ []) ∷ (61 ∷ 62 ∷ []) ∷ []) s x.at ≡ true) ⊎ (is_mark (58 ∷ []) ((58 ∷ 58 ∷ []) ∷ []) s x.at ≡ true)
        go (inl m) = inl m
        go (inr (m, g)) = inr (one_colon m g)

  -- ---- at a node

  eqb_not : (j : ℕ) → T (not (eqb j 9)) → eqb j 9 ≡ false
  eqb_not j t = go (eqb j 9) t
    where
      go : (b : Bool) → T (not b) → b ≡ false
      go true t = absurd t
      go false t = refl

  the_one : (k j : ℕ) → T (has (k ∷ []) j) → j ≡ k
  the_one k j t = has_elim (λ j. j ≡ k) (k ∷ []) (refl, tt) j t

  abbrev Kids : List (Under × ℕ) → List (Rec ℕ) → Type 0
  Kids bs rs = Tests (Suits s) (map wanted bs) rs

  module _ (n : ℕ) (ls : Bool) where
    rule_laid : {r : Rec ℕ} {rs : List (Rec ℕ)} {ds : List Depth} → eqb r.kind 9 ≡ false → Laid s (depth n ls) r rs ds → Rule s (depth n ls) r rs ds
    rule_laid {r} {rs} {ds} e x = subst (λ (b : Bool). rule_as b s (depth n ls) r rs ds) (sym e) x

    laid_rule : {r : Rec ℕ} {rs : List (Rec ℕ)} {ds : List Depth} → eqb r.kind 9 ≡ false → Rule s (depth n ls) r rs ds → Laid s (depth n ls) r rs ds
    laid_rule {r} {rs} {ds} e x = subst (λ (b : Bool). rule_as b s (depth n ls) r rs ds) e x

    -- an expression, a name, a part, a condition
    plain_to : (w : Want) (m : ℕ) → Sole w → T (all_of (λ j. not (eqb j 9)) (kinds_of w m)) → {r : Rec ℕ} {rs : List (Rec ℕ)} {bs : List (Under × ℕ)} → More s w r → Local (hcl s) (under n ls w, m) r rs bs → Kids bs rs
        → Rule s (depth n ls) r rs (map depth_of bs) × Suits s (w, m) r
    plain_to w m so t {r} {rs} {bs} mo x ts =
        let k = kind_wanted x ts in (
          rule_laid (eqb_not r.kind (kinds_all (λ j. not (eqb j 9)) w m r.kind t k))
              (record { below = bs; depths = refl; local = subst (λ (v : Want). Local (hcl s) (under n ls v, style_of r.kind) r rs bs) (sym (so m r.kind k)) (restyle_to x); suits = ts }),
          record { kind = k; more = mo },
        )

    item_to : (ks : List ℕ) (m : ℕ) {r : Rec ℕ} {rs : List (Rec ℕ)} {bs : List (Under × ℕ)} {ts : Trees ℕ} → Local (hcl s) (under n ls (an_item ks), m) r rs bs → Everys (Local (hcl s)) bs rs ts → Kids bs rs
        → Rule s (depth n ls) r rs (map depth_of bs) × Suits s (an_item ks, m) r
    unfolding layouts pick_at among
    item_to ks m {r} {rs} {bs} x es ts =
        let k = kind_wanted x ts in
        let z : r.kind ≡ 13 = the_one 13 r.kind k in
        let (y, h) = item_out n ls ks (first_only m 13 tt (λ u. omega arith) x z).runs in
        let v = y.rebuild [] (no_both (eqb (behind_key s r.start) y.at) (among s [] r.start) (λ a b. clash (sym b))) in
        let lo : Local (hcl s) (under n ls (an_item []), 0) r rs bs = first {r = r} 13 (sym z) refl v in (
          rule_laid (eqb_not r.kind (subst (λ (j : ℕ). T (not (eqb j 9))) (sym z) tt))
              (record { below = bs; depths = refl; local = subst (λ (j : ℕ). Local (hcl s) (under n ls (want_of j), style_of j) r rs bs) (sym z) lo; suits = ts }),
          record { kind = k; more = fresh_object y es ks h },
        )

    ten : (t m : ℕ) (r : Rec ℕ) → T (has (kinds_of (a_piece t) m) r.kind) → ¬ (r.kind ≡ 9) → r.kind ≡ 10
    ten t m r k x = has_elim (λ j. ¬ (j ≡ 9) → j ≡ 10) (9 ∷ 10 ∷ []) ((λ f. absurd (f refl)), ((λ f. refl), tt)) r.kind k x

    piece_any : (t m : ℕ) {r : Rec ℕ} {rs : List (Rec ℕ)} {bs : List (Under × ℕ)} → Local (hcl s) (under n ls (a_piece t), m) r rs bs → Kids bs rs
        → Rule s (depth n ls) r rs (map depth_of bs) × Suits s (a_piece t, m) r
    unfolding layouts pick_at
    piece_any t m {r} {rs} {bs} x ts = go (eq_case r.kind 9) (kind_wanted x ts)
      where
        go : {b : Bool} → EqCase r.kind 9 b → T (has (kinds_of (a_piece t) m) r.kind) → rule_as b s (depth n ls) r rs (map depth_of bs) × Suits s (a_piece t, m) r
        go (same z) k =
            let (p, (u, v)) = piece_to n ls t (first_only m 9 tt (λ u. omega arith) x z) in
            ((u, ap (map depth_of) v), record { kind = k; more = λ e. p })
        go (other z) k =
            let j = ten t m r k z in
            let y = first_only m 10 tt (λ u. omega arith) x j in
            let lo : Local (hcl s) (under n ls (a_piece 0), 0) r rs bs = first {r = r} 10 (sym j) y.pick (runs_blind n ls (a_piece t) (a_piece 0) refl y.runs tt) in (
              record { below = bs; depths = refl; local = subst (λ (j : ℕ). Local (hcl s) (under n ls (want_of j), style_of j) r rs bs) (sym j) lo; suits = ts },
              record { kind = k; more = λ e. absurd (z e) },
            )

    to_node : (w : Want) (m : ℕ) {r : Rec ℕ} {rs : List (Rec ℕ)} {bs : List (Under × ℕ)} {ts : Trees ℕ} → Local (hcl s) (under n ls w, m) r rs bs → Everys (Local (hcl s)) bs rs ts → Kids bs rs
        → Rule s (depth n ls) r rs (map depth_of bs) × Suits s (w, m) r
    to_node an_expression zero x es ts = plain_to an_expression zero sole_expression tt tt x ts
    to_node an_expression (suc m) x es ts = plain_to an_expression (suc m) sole_expression tt tt x ts
    to_node a_name m x es ts = plain_to a_name m sole_name tt tt x ts
    to_node (an_item ks) m x es ts = item_to ks m x es ts
    to_node a_part m x es ts = plain_to a_part m sole_part tt tt x ts
    to_node (a_piece t) m x es ts = piece_any t m x ts
    to_node a_condition m x es ts = plain_to a_condition m sole_condition tt tt x ts

  -- ---- at every node

  mutual
    pub every_post : {a : Under × ℕ} {t : Tree ℕ} → Every (Local (hcl s)) a t → Every (Rule s) (depth_of a) t × Suits s (wanted a) (rec_of t)
    every_post (every {b = a} x es) =
        let (fs, ts) = everys_post es in
        let (y, u) = to_node a.0.left a.0.lines a.0.want a.1 x es ts in
        (every y fs, u)

    everys_post : {bs : List (Under × ℕ)} {rs : List (Rec ℕ)} {ts : Trees ℕ} → Everys (Local (hcl s)) bs rs ts → Everys (Rule s) (map depth_of bs) rs ts × Kids bs rs
    everys_post enil = (enil, tnil)
    everys_post (econs {b = a} q e es) =
        let (x, y) = every_post e in
        let (xs, ys) = everys_post es in
        (econs q x xs, tcons (subst (λ (z : Rec ℕ). Suits s (wanted a) z) q y) ys)

  -- ---- and back

  -- the children's rules, under whatever suits them
  abbrev Below : List Depth → List (Rec ℕ) → Trees ℕ → Type 0
  Below ds rs ts = (bs : List (Under × ℕ)) → map depth_of bs ≡ ds → Kids bs rs → Everys (Local (hcl s)) bs rs ts

  abbrev RuledAs : ℕ → Bool → Rec ℕ → Trees ℕ → Want → ℕ → Type 0
  RuledAs n ls r ts w m = Every (Local (hcl s)) (under n ls w, m) (node r.kind r.flag r.start r.end ts)

  module _ (n : ℕ) (ls : Bool) (r : Rec ℕ) (rs : List (Rec ℕ)) (ds : List Depth) (ts : Trees ℕ) (kids : Below ds rs ts) where
    plain_from : (w : Want) (m : ℕ) → Sole w → T (all_of (λ j. not (eqb j 9)) (kinds_of w m)) → Rule s (depth n ls) r rs ds → Suits s (w, m) r → RuledAs n ls r ts w m
    plain_from w m so t x u =
        let y = laid_rule n ls (eqb_not r.kind (kinds_all (λ j. not (eqb j 9)) w m r.kind t u.kind)) x in
        let lo = subst (λ (v : Want). Local (hcl s) (under n ls v, style_of r.kind) r rs y.below) (so m r.kind u.kind) y.local in
        every (restyle_from w m u.kind lo) (kids y.below y.depths y.suits)

    item_from : (ks : List ℕ) (m : ℕ) → Rule s (depth n ls) r rs ds → Suits s (an_item ks, m) r → RuledAs n ls r ts (an_item ks) m
    unfolding layouts pick_at
    item_from ks m x u =
        let z : r.kind ≡ 13 = the_one 13 r.kind u.kind in
        let y = laid_rule n ls (eqb_not r.kind (subst (λ (j : ℕ). T (not (eqb j 9))) (sym z) tt)) x in
        let lo : Local (hcl s) (under n ls (an_item []), 0) r rs y.below = subst (λ (j : ℕ). Local (hcl s) (under n ls (want_of j), style_of j) r rs y.below) z y.local in
        let es = kids y.below y.depths y.suits in
        let (o, h) = item_out n ls [] (first_only 0 13 tt (λ u. omega arith) lo z).runs in
        let v = o.rebuild ks (object_fresh o es ks u.more) in
        every (first {r = r} 13 (name_item m ∙ sym z) refl v) es
      where
        name_item : (m : ℕ) → named (hcl s) m 13 ≡ 13
        name_item zero = refl
        name_item (suc m) = refl

    piece_back : (t m : ℕ) → Rule s (depth n ls) r rs ds → Suits s (a_piece t, m) r → RuledAs n ls r ts (a_piece t) m
    unfolding layouts pick_at
    piece_back t m x u = go (eq_case r.kind 9) x
      where
        name_ten : (m : ℕ) → named (hcl s) m 10 ≡ 10
        name_ten zero = refl
        name_ten (suc m) = refl

        go : {b : Bool} → EqCase r.kind 9 b → rule_as b s (depth n ls) r rs ds → RuledAs n ls r ts (a_piece t) m
        go (same z) (a, c) =
            let lo : Local (hcl s) (under n ls (a_piece t), m) r [] [] = piece_from n ls t m r z (u.more z) in
            every (subst (λ (l : List (Rec ℕ)). Local (hcl s) (under n ls (a_piece t), m) r l []) (sym a) lo)
            (kids [] (sym c) (subst (λ (l : List (Rec ℕ)). Kids [] l) (sym a) tnil))
        go (other z) y =
            let j = ten n ls t m r u.kind z in
            let lo : Local (hcl s) (under n ls (a_piece 0), 0) r rs y.below = subst (λ (j : ℕ). Local (hcl s) (under n ls (want_of j), style_of j) r rs y.below) j y.local in
            let f = first_only 0 10 tt (λ u. omega arith) lo j in
            every (first {r = r} 10 (name_ten m ∙ sym j) f.pick (runs_blind n ls (a_piece 0) (a_piece t) refl f.runs tt)) (kids y.below y.depths y.suits)

    from_node : (w : Want) (m : ℕ) → Rule s (depth n ls) r rs ds → Suits s (w, m) r → RuledAs n ls r ts w m
    from_node an_expression zero x u = plain_from an_expression zero sole_expression tt x u
    from_node an_expression (suc m) x u = plain_from an_expression (suc m) sole_expression tt x u
    from_node a_name m x u = plain_from a_name m sole_name tt x u
    from_node (an_item ks) m x u = item_from ks m x u
    from_node a_part m x u = plain_from a_part m sole_part tt x u
    from_node (a_piece t) m x u = piece_back t m x u
    from_node a_condition m x u = plain_from a_condition m sole_condition tt x u

  mutual
    pub post_every : {d : Depth} {t : Tree ℕ} → Every (Rule s) d t → (a : Under × ℕ) → depth_of a ≡ d → Suits s (wanted a) (rec_of t) → Every (Local (hcl s)) a t
    post_every (every {b = d} {k} {φ} {s = st} {e} {bs = ds} {rs} {ts = us} x es) a q u =
        from_node a.0.left a.0.lines (record { kind = k; flag = φ; start = st; end = e }) rs ds us (λ bs z ts. posts_every es bs z ts) a.0.want a.1
        (subst (λ (y : Depth). Rule s y (record { kind = k; flag = φ; start = st; end = e }) rs ds) (sym q) x) u

    posts_every : {ds : List Depth} {rs : List (Rec ℕ)} {ts : Trees ℕ} → Everys (Rule s) ds rs ts → (bs : List (Under × ℕ)) → map depth_of bs ≡ ds → Kids bs rs → Everys (Local (hcl s)) bs rs ts
    posts_every enil [] q t = enil
    posts_every enil (b ∷ bs) q t = absurd (let z : ◌≡◌ {A = ℕ} 0 1 = cc in omega arith)
    posts_every (econs i e es) [] q t = absurd (let z : ◌≡◌ {A = ℕ} 0 1 = cc in omega arith)
    posts_every (econs i e es) (b ∷ bs) q (tcons u ts) =
        let (q1, q2) = list_cons q in
        econs i (post_every e b q1 (subst (λ (z : Rec ℕ). Suits s (wanted b) z) (sym i) u)) (posts_every es bs q2 ts)
