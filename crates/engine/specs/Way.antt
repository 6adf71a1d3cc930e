-- For code that reads from the left. `Gives` is what a place gives, as derivations with no fuel; it is the contract of a function that reads.
-- `Way` is a production under way: from its start state, after the children read so far, the rest of its layout stands at a place. There is
-- one rule for each constructor of a layout, for the move made and for the move refused; their premises are the equations of `go` and `down`
-- that the leaf functions promise. They compose from the left, as code reads:
--
--     way_pick        the kind at a place: its layout begins           pick_none       no kind is called for
--     way_move        move                                             way_stop        .. refused
--     way_kid         kid, with a child that was read                  way_deep        .. no attribute; way_kid_no: the child is refused
--     way_yes         fork, taken                                      way_no          .. not taken
--     way_rep         rep, one more child                              way_rep_deep, way_rep_no, as of kid; way_end: no more children
--     way_fin         the node ends                                    way_join        two stretches of one production, for loops
--
-- Round a production stand `Led` (what stands first, with no operator after it) and `Part` (what stands so far, operators may follow):
-- part_led, part_more (an operator's production was read), part_stop (none follows above the bound), part_no, part_led_no.
use Rattle.std.specs.Prelude.{◌≡◌, refl, not, List, [], ◌∷◌, ℕ, ◌≤◌, ◌<◌, T}
use Rattle.std.proofs.Common.{ap, sym, ◌∙◌, subst, arith}
use Rattle.std.proofs.Math.Option.{Option, none, some}
use Rattle.engine.specs.Base.{Outcome, ok, halt, stuck, Rec, Tree, node, Trees, nil, cons, rec_of, rename, renamed, join, one}
use Rattle.engine.specs.Engine.{ask, Grammar, full, Good, leads, grows, Fits, ends, asks, Whole, FailAt, fails_first, fails_later, FailIn, fails_here, fails_kid, fails_rest}
use Rattle.engine.specs.Layout.{Lay, bad, fin, move, kid, fork, rep, Lang, State, alias, from, level, fit, after, grammar}
use Rattle.engine.specs.BaseLaws.{unless_le, unless_lt, bind_is, halt_is}
use Rattle.engine.specs.Total.{Moves, whole_full}
use Rattle.engine.specs.Fails.{fails_full}
use Rattle.engine.specs.FlatLaws.{join_assoc, join_nil}
use Rattle.engine.specs.Source.{Source, Checked, reading}
use Rattle.engine.specs.ProgressLaws.{reads_whole, reads_fails}
use Rattle.engine.specs.Flat.{flat}
use Rattle.engine.specs.LayoutLaws.{fits_same, fails_same, hop_is, hop_not, dive_is, dive_not, turn_is, turn_not}
use Rattle.engine.specs.SourceLaws.{ending_is, ending_not}

abbrev pub kids_of : {P : Type 0} → Tree P → Trees P
kids_of (node k φ b e ts) = ts

-- ---- what a place gives under an attribute, with the operators that follow

module _ {P A S : Type 0} (G : Grammar P A S) where
  abbrev pub Gives : A → P → Outcome P (Tree P) → Type 0
  Gives a p (ok t) = Whole G a p t
  Gives a p (halt k q) = FailAt G a p k q
  Gives a p stuck = ⊥

  pub gives_full : (π : P → ℕ) (ν : S → ℕ) (μ : A → P → ℕ) → Moves G π ν μ → (a : A) (p : P) (o : Outcome P (Tree P)) → Gives a p o → full G μ a p ≡ o
  gives_full π ν μ W a p (ok t) g = whole_full G π ν μ W a p t g
  gives_full π ν μ W a p (halt k q) g = fails_full G π ν μ W g
  gives_full π ν μ W a p stuck g = absurd g

-- ---- one production, from the left

module _ {P B M C : Type 0} (N : Lang P B M C) where
  abbrev pub mid : B → P → List (Rec P) → ℕ → Lay M C → P → State P B M C
  mid b σ ks k l p = record { att = b; start = σ; kids = ks; kind = k; lay = l; place = p }

  abbrev Fit : State P B M C → ℕ → ℕ → P → Trees P → Type 0
  Fit s k φ e ts = Fits (grammar N) s k φ e ts

  abbrev Fail : State P B M C → ℕ → P → Type 0
  Fail s x q = FailIn (grammar N) s x q

  -- from the state s, after the children ts, the rest of the production is l at p
  pub record Way (s : State P B M C) (ts : Trees P) (b : B) (σ : P) (ks : List (Rec P)) (k : ℕ) (l : Lay M C) (p : P) : Type 0 where
    pub fits : (φ : ℕ) (e : P) (us : Trees P) → Fits (grammar N) (mid b σ ks k l p) k φ e us → Fits (grammar N) s k φ e (join ts us)
    pub fails : (x : ℕ) (q : P) → FailIn (grammar N) (mid b σ ks k l p) x q → FailIn (grammar N) s x q

  pub way_start : (b : B) (σ : P) (ks : List (Rec P)) (k : ℕ) (l : Lay M C) (p : P) → Way (mid b σ ks k l p) nil b σ ks k l p
  way_start b σ ks k l p = record { fits = λ φ e us f. f; fails = λ x q f. f }

  -- two stretches of one production
  pub way_join : {s : State P B M C} {ts us : Trees P} {b : B} {σ : P} {ks hs : List (Rec P)} {k : ℕ} {l l' : Lay M C} {p q : P} → Way s ts b σ ks k l p → Way (mid b σ ks k l p) us b σ hs k l' q → Way s (join ts us) b σ hs k l' q
  way_join {s} {ts} {us} {k = k} w v = record {
    fits = λ φ e vs f. subst (λ (x : Trees P). Fit s k φ e x) (sym (join_assoc ts us vs)) (w.fits φ e (join us vs) (v.fits φ e vs f));
    fails = λ x r f. w.fails x r (v.fails x r f);
  }

  module _ {s : State P B M C} {ts : Trees P} {b : B} {σ : P} {ks : List (Rec P)} {k : ℕ} {p : P} where
    way_same : {l l' : Lay M C} {q : P} → (grammar N).view (mid b σ ks k l p) ≡ (grammar N).view (mid b σ ks k l' q) → Way s ts b σ ks k l p → Way s ts b σ ks k l' q
    way_same v w = record { fits = λ φ e us f. w.fits φ e us (fits_same N v f); fails = λ x q f. w.fails x q (fails_same N v f) }

    way_asks : {l l' : Lay M C} {q : P} {t : Tree P} {d : B} {j : ℕ} (c : C) → (grammar N).view (mid b σ ks k l p) ≡ ask (d, j) q (alias N c) (λ r. mid b σ (renamed (alias N c) r ∷ ks) k l' r.end) → Whole (grammar N) (d, j) q t
        → Way s ts b σ ks k l p → Way s (join ts (one (rename (alias N c) t))) b σ (renamed (alias N c) (rec_of t) ∷ ks) k l' (rec_of t).end
    way_asks {l' = l'} {q} {t} {d} {j} c v h w = record {
      fits = λ φ e us f. subst (λ (vs : Trees P). Fit s k φ e vs) (sym (join_assoc ts (one (rename (alias N c) t)) us)) (w.fits φ e (cons (rename (alias N c) t) us) (asks (d, j) q _ _ v refl h.0 h.1 h.2 f));
      fails = λ x r f. w.fails x r (fails_rest (d, j) q _ _ t v h f);
    }

    -- the node ends
    pub way_fin : {φ : ℕ} → Way s ts b σ ks k (fin φ) p → Fits (grammar N) s k φ p ts
    way_fin {φ} w = subst (λ (us : Trees P). Fit s k φ p us) (join_nil ts) (w.fits φ p nil (ends refl))

    pub way_bad : Way s ts b σ ks k bad p → FailIn (grammar N) s (N.no_kind b p).0 (N.no_kind b p).1
    way_bad w = w.fails _ _ (fails_here refl)

    -- bytes
    pub way_move : {m : M} {l : Lay M C} {q : P} → Way s ts b σ ks k (move m l) p → N.go b m σ p ≡ some q → Way s ts b σ ks k l q
    way_move w g = way_same (hop_is N _ _ g) w

    pub way_stop : {m : M} {l : Lay M C} → Way s ts b σ ks k (move m l) p → N.go b m σ p ≡ none → FailIn (grammar N) s (N.no_move b m σ p).0 (N.no_move b m σ p).1
    way_stop w g = w.fails _ _ (fails_here (hop_not N _ _ g))

    -- a child
    pub way_kid : {c : C} {l : Lay M C} {d : B} {t : Tree P} → Way s ts b σ ks k (kid c l) p → N.down b c σ ks ≡ some d → Whole (grammar N) (d, N.bound c) p t
        → Way s (join ts (one (rename (alias N c) t))) b σ (renamed (alias N c) (rec_of t) ∷ ks) k l (rec_of t).end
    way_kid {c} w g h = way_asks c (dive_is N _ _ _ _ _ g) h w

    pub way_deep : {c : C} {l : Lay M C} → Way s ts b σ ks k (kid c l) p → N.down b c σ ks ≡ none → FailIn (grammar N) s (N.no_level b c ks p).0 (N.no_level b c ks p).1
    way_deep w g = w.fails _ _ (fails_here (dive_not N _ _ _ _ _ g))

    pub way_kid_no : {c : C} {l : Lay M C} {d : B} {x : ℕ} {q : P} → Way s ts b σ ks k (kid c l) p → N.down b c σ ks ≡ some d → FailAt (grammar N) (d, N.bound c) p x q → FailIn (grammar N) s x q
    way_kid_no {x = x} {q} w g h = w.fails x q (fails_kid _ p _ _ (dive_is N _ _ _ _ _ g) h)

    -- an optional part
    pub way_yes : {m : M} {l l' : Lay M C} {q : P} → Way s ts b σ ks k (fork m l l') p → N.go b m σ p ≡ some q → Way s ts b σ ks k l q
    way_yes w g = way_same (turn_is N _ _ g) w

    pub way_no : {m : M} {l l' : Lay M C} → Way s ts b σ ks k (fork m l l') p → N.go b m σ p ≡ none → Way s ts b σ ks k l' p
    way_no w g = way_same (turn_not N _ _ g) w

    -- a further child, and the end of the children
    pub way_rep : {m : M} {c : C} {l : Lay M C} {q : P} {d : B} {t : Tree P} → Way s ts b σ ks k (rep m c l) p → N.go b m σ p ≡ some q → N.down b c σ ks ≡ some d → Whole (grammar N) (d, N.bound c) q t
        → Way s (join ts (one (rename (alias N c) t))) b σ (renamed (alias N c) (rec_of t) ∷ ks) k (rep m c l) (rec_of t).end
    way_rep {c = c} w g g' h = way_asks c (turn_is N _ _ g ∙ dive_is N _ _ _ _ _ g') h w

    pub way_rep_deep : {m : M} {c : C} {l : Lay M C} {q : P} → Way s ts b σ ks k (rep m c l) p → N.go b m σ p ≡ some q → N.down b c σ ks ≡ none → FailIn (grammar N) s (N.no_level b c ks q).0 (N.no_level b c ks q).1
    way_rep_deep w g g' = w.fails _ _ (fails_here (turn_is N _ _ g ∙ dive_not N _ _ _ _ _ g'))

    pub way_rep_no : {m : M} {c : C} {l : Lay M C} {q : P} {d : B} {x : ℕ} {r : P} → Way s ts b σ ks k (rep m c l) p → N.go b m σ p ≡ some q → N.down b c σ ks ≡ some d
        → FailAt (grammar N) (d, N.bound c) q x r → FailIn (grammar N) s x r
    way_rep_no {x = x} {r} w g g' h = w.fails x r (fails_kid _ _ _ _ (turn_is N _ _ g ∙ dive_is N _ _ _ _ _ g') h)

    pub way_end : {m : M} {c : C} {l : Lay M C} → Way s ts b σ ks k (rep m c l) p → N.go b m σ p ≡ none → Way s ts b σ ks k l p
    way_end w g = way_same (turn_not N _ _ g) w

  -- ---- what stands first at a place, with no operator

  pub record Led (b : B) (p : P) (t : Tree P) : Type 0 where
    pub start : (rec_of t).start ≡ p
    pub fits : Fits (grammar N) (from N (N.pick b p) b p [] p) (rec_of t).kind (rec_of t).flag (rec_of t).end (kids_of t)

  abbrev pub Begins : B → P → Outcome P (Tree P) → Type 0
  Begins b p (ok t) = Led b p t
  Begins b p (halt x q) = FailIn (grammar N) (from N (N.pick b p) b p [] p) x q
  Begins b p stuck = ⊥

  -- the kind at a place: its production begins
  pub way_pick : {b : B} {p : P} {k : ℕ} → N.pick b p ≡ some k → Way (from N (N.pick b p) b p [] p) nil b p [] k (N.layout k) p
  way_pick {b} {p} {k} q = subst (λ (o : Option ℕ). Way (from N o b p [] p) nil b p [] k (N.layout k) p) (sym q) (way_start b p [] k (N.layout k) p)

  pub pick_none : {b : B} {p : P} → N.pick b p ≡ none → FailIn (grammar N) (from N (N.pick b p) b p [] p) (N.no_kind b p).0 (N.no_kind b p).1
  pick_none {b} {p} q = subst (λ (o : Option ℕ). FailIn (grammar N) (from N o b p [] p) (N.no_kind b p).0 (N.no_kind b p).1) (sym q) (way_bad (way_start b p [] 0 bad p))

  pub led : {b : B} {p e : P} {k φ : ℕ} {ts : Trees P} → Fits (grammar N) (from N (N.pick b p) b p [] p) k φ e ts → Led b p (node k φ p e ts)
  led f = record { start = refl; fits = f }

  -- ---- what stands at a place so far, with operators after it

  pub record Part (a : B × ℕ) (p : P) (t : Tree P) : Type 0 where
    pub start : (rec_of t).start ≡ p
    pub good : Good (grammar N) a t

  module _ {b : B} {j : ℕ} {p : P} where
    led_as : (t : Tree P) → fit N j (N.pick b p) ≡ N.pick b p → (rec_of t).start ≡ p
        → Fits (grammar N) (from N (N.pick b p) b p [] p) (rec_of t).kind (rec_of t).flag (rec_of t).end (kids_of t) → Good (grammar N) (b, j) t
    led_as (node k φ s e ts) q z f =
        subst (λ (y : P). Good (grammar N) (b, j) (node k φ y e ts)) (sym z) (leads (subst (λ (o : Option ℕ). Fits (grammar N) (from N o b p [] p) k φ e ts) (sym q) f))

    -- every kind that may stand first is tight enough
    pub part_led : {t : Tree P} → fit N j (N.pick b p) ≡ N.pick b p → Led b p t → Part (b, j) p t
    part_led {t} q h = record { start = h.start; good = led_as t q h.start h.fits }

    pub part_led_no : {x : ℕ} {r : P} → fit N j (N.pick b p) ≡ N.pick b p → FailIn (grammar N) (from N (N.pick b p) b p [] p) x r → FailAt (grammar N) (b, j) p x r
    part_led_no {x} {r} q h = fails_first (subst (λ (o : Option ℕ). FailIn (grammar N) (from N o b p [] p) x r) (sym q) h)

    module _ {t : Tree P} (w : Part (b, j) p t) where
      -- no operator of a level above j follows
      pub part_stop : after N b (rec_of t).end ≤ j → Whole (grammar N) (b, j) p t
      part_stop h = (w.start, w.good, unless_le (after N b (rec_of t).end) j _ h)

      -- one does, of the kind k; its production begins after t
      module _ {k : ℕ} (q : N.op_at b (rec_of t).end ≡ some k) (h : j < N.tight k) where
        next_is : (grammar N).next (b, j) (rec_of t) ≡ some (mid b (rec_of t).start (rec_of t ∷ []) k (N.layout k) (rec_of t).end)
        next_is = let z : after N b (rec_of t).end ≡ N.tight k = ap (level N) q in unless_lt (after N b (rec_of t).end) j _ (omega arith) ∙ ap (λ (o : Option ℕ). some (from N o b (rec_of t).start (rec_of t ∷ []) (rec_of t).end)) q

        pub part_more : {φ : ℕ} {e : P} {ts : Trees P} → Fits (grammar N) (mid b (rec_of t).start (rec_of t ∷ []) k (N.layout k) (rec_of t).end) k φ e ts → Part (b, j) p (node k φ p e (cons t ts))
        part_more f = record { start = refl; good = grows _ w.good w.start next_is f }

        pub part_no : {x : ℕ} {r : P} → FailIn (grammar N) (mid b (rec_of t).start (rec_of t ∷ []) k (N.layout k) (rec_of t).end) x r → FailAt (grammar N) (b, j) p x r
        part_no f = fails_later t _ w.start w.good next_is f

-- ---- a whole source

module _ {P B M C : Type 0} (s : Source P B M C) (W : Checked s) where
  pub source_read : (t : Tree P) → Whole (grammar s.lang) (s.root, 0) s.begin t → T (s.ended (rec_of t).end) → reading s ≡ ok (flat t)
  source_read t w e = bind_is _ ((reads_whole s.lang s.pace W.going s.root s.begin t).1 w) ∙ ending_is s (s.ended (rec_of t).end) t e

  pub source_left : (t : Tree P) → Whole (grammar s.lang) (s.root, 0) s.begin t → T (not (s.ended (rec_of t).end)) → reading s ≡ halt (s.left (rec_of t).end).0 (s.left (rec_of t).end).1
  source_left t w e = bind_is _ ((reads_whole s.lang s.pace W.going s.root s.begin t).1 w) ∙ ending_not s (s.ended (rec_of t).end) t e

  pub source_fails : (k : ℕ) (q : P) → FailAt (grammar s.lang) (s.root, 0) s.begin k q → reading s ≡ halt k q
  source_fails k q f = halt_is _ ((reads_fails s.lang s.pace W.going s.root s.begin k q).1 f)
