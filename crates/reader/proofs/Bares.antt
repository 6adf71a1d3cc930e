-- A key that is a lone variable: which trees are one, and its record put anew as 14.
use Prim.Native.Nat.{ℕ, suc, ◌+◌, ◌*◌, ◌/◌, ◌<◌}
use mathlib.Core.Path.{◌≡◌, refl, sym, ap, subst, ◌∙◌}
use mathlib.Core.Bool.{Bool, true, false, cond, not, ◌&&◌, ◌||◌, and-false}
use mathlib.Core.Option.{Option, none, some}
use mathlib.Core.List.{List, [], ◌∷◌}
use native.Mathlib.Omega.{arith}
use lib.ListN.{length, set, drop}
use lib.Seq.{sets, length-sets, set-set, set_comm}
use lib.Dec.{eqb, ltb, leb, T}
use borrow.Author.Tests.{eqb-true, eqb-false, leb-true}
use Rattle.engine.specs.Base.{Rec, Tree, Trees, node, nil, cons, rec_of, size, sizes, rename, choose}
use Rattle.engine.specs.BaseLaws.{size_pos, unless_some, choose_all, alls, some_is}
use Rattle.engine.specs.Engine.{done, stop, ask, Good, leads, grows, Fits, ends, asks, Whole}
use Rattle.engine.specs.Layout.{Lay, bad, fin, move, kid, fork, rep, Lang, State, Sight, refuse, hop, dive, turn, seen, grammar, from, fit, after}
use Rattle.lexis.specs.Bytes.{byte_at, is_digit, is_start}
use Rattle.lexis.specs.Word.{is_word, null, yes, no, constant_at}
use Rattle.lexis.specs.RunLaws.{clash}
use Rattle.grammar.specs.Moves.{an_expression, walk, place, refusal, ident}
use Rattle.grammar.specs.Kinds.{tight_of}
use Rattle.grammar.specs.Layouts.{layouts}
use Rattle.grammar.specs.Hcl.{hcl, under, bare, pick_at, terms, is_call, follow_at}
use Rattle.grammar.specs.KindLaws.{follow_all}
use Rattle.grammar.specs.Table.{Record, record_of, own}
use Rattle.reader.specs.Buffer.{put_as, put_at}
use Rattle.reader.specs.Items.{is_bare, bared}
use Rattle.reader.proofs.Lays.{lay_one}
use Rattle.reader.proofs.Stages.{Put}

-- ---- a production keeps its kind

module _ {P B M C : Type 0} (N : Lang P B M C) where
  abbrev Of : ℕ → Sight N → Type 0
  Of k (done x φ e) = k ≡ x
  Of k (stop x q) = Unit {0}
  Of k (ask a p nm f) = (r : Rec P) → (f r).kind ≡ k

  of_refuse : (k : ℕ) (z : ℕ × P) → Of k (refuse N z)
  of_refuse k (x, q) = tt

  of_hop : (k : ℕ) (o : Option P) (z : ℕ × P) (f : P → Sight N) → ((q : P) → Of k (f q)) → Of k (hop N o z f)
  of_hop k none z f h = of_refuse k z
  of_hop k (some q) z f h = h q

  of_dive : (k : ℕ) (o : Option B) (z : ℕ × P) (j : ℕ) (p : P) (nm : ℕ → ℕ) (f : Rec P → State P B M C) → ((r : Rec P) → (f r).kind ≡ k) → Of k (dive N o z j p nm f)
  of_dive k none z j p nm f h = of_refuse k z
  of_dive k (some b) z j p nm f h = h

  of_turn : (k : ℕ) (o : Option P) (f : P → Sight N) (v : Sight N) → ((q : P) → Of k (f q)) → Of k v → Of k (turn N o f v)
  of_turn k none f v h g = g
  of_turn k (some q) f v h g = h q

  of_seen : (b : B) (σ : P) (ks : List (Rec P)) (k : ℕ) (l : Lay M C) (p : P) → Of k (seen N b σ ks k l p)
  of_seen b σ ks k bad p = of_refuse k (N.no_kind b p)
  of_seen b σ ks k (fin φ) p = refl
  of_seen b σ ks k (move m l) p = of_hop k (N.go b m σ p) (N.no_move b m σ p) (seen N b σ ks k l) (of_seen b σ ks k l)
  of_seen b σ ks k (kid c l) p = of_dive k (N.down b c σ ks) _ _ p _ _ (λ r. refl)
  of_seen b σ ks k (fork m l r) p = of_turn k (N.go b m σ p) (seen N b σ ks k l) (seen N b σ ks k r p) (of_seen b σ ks k l) (of_seen b σ ks k r p)
  of_seen b σ ks k (rep m c l) p = of_turn k (N.go b m σ p) _ (seen N b σ ks k l p) (λ q. of_dive k (N.down b c σ ks) _ _ q _ _ (λ r. refl)) (of_seen b σ ks k l p)

  fits_kind : {s : State P B M C} {k φ : ℕ} {e : P} {ts : Trees P} → Fits (grammar N) s k φ e ts → s.kind ≡ k
  fits_kind {s} (ends v) = subst (λ (x : Sight N). Of s.kind x) v (of_seen s.att s.start s.kids s.kind s.lay s.place)
  fits_kind {s} (asks {t = t} a p nm f v g₁ g₂ g₃ g₄ h) =
      let w : (r : Rec P) → (f r).kind ≡ s.kind = subst (λ (x : Sight N). Of s.kind x) v (of_seen s.att s.start s.kids s.kind s.lay s.place) in
      sym (w (rec_of t)) ∙ fits_kind h

-- ---- what the tests choose

abbrev not_five : ℕ → Bool
not_five k = not (eqb k 5)

choose_five : (d c n y o t : Bool) (rest : List (Bool × ℕ)) → T (alls not_five rest) → choose ((d, 4) ∷ (c, 16) ∷ (n, 1) ∷ (y, 2) ∷ (o, 3) ∷ (t, 5) ∷ rest) ≡ some 5
    → (n ≡ false) × (y ≡ false) × (o ≡ false) × (t ≡ true)
choose_five true c n y o t rest h e = absurd (let z : ◌≡◌ {A = ℕ} 4 5 = some_is e in omega arith)
choose_five false true n y o t rest h e = absurd (let z : ◌≡◌ {A = ℕ} 16 5 = some_is e in omega arith)
choose_five false false true y o t rest h e = absurd (let z : ◌≡◌ {A = ℕ} 1 5 = some_is e in omega arith)
choose_five false false false true o t rest h e = absurd (let z : ◌≡◌ {A = ℕ} 2 5 = some_is e in omega arith)
choose_five false false false false true t rest h e = absurd (let z : ◌≡◌ {A = ℕ} 3 5 = some_is e in omega arith)
choose_five false false false false false true rest h e = (refl, refl, refl, refl)
choose_five false false false false false false rest h e = absurd (choose_all not_five rest h 5 e)

choose_word : (k : ℕ) (d c n y o t : Bool) (rest : List (Bool × ℕ)) → d ≡ false → ◌≡◌ {A = ℕ} (cond n 1 (cond y 2 (cond o 3 0))) 0 → t ≡ true → choose ((d, 4) ∷ (c, 16) ∷ (n, 1) ∷ (y, 2) ∷ (o, 3) ∷ (t, 5) ∷ rest) ≡ some k
    → ¬ (k ≡ 16) → k ≡ 5
choose_word k true c n y o t rest f g h e i = clash f
choose_word k false true n y o t rest f g h e i = absurd (i (sym (some_is e)))
choose_word k false false true y o t rest f g h e i = absurd (omega arith)
choose_word k false false false true o t rest f g h e i = absurd (omega arith)
choose_word k false false false false true t rest f g h e i = absurd (omega arith)
choose_word k false false false false false true rest f g h e i = sym (some_is e)
choose_word k false false false false false false rest f g h e i = clash (sym h)

digit_start : (b : ℕ) → is_start b ≡ true → is_digit b ≡ false
digit_start b = go (leb 65 b) (leb 97 b) (eqb b 95) (leb 48 b) (leb b 57) (leb b 90) (leb b 122) refl refl refl refl refl
  where
    go : (u v w x y m n : Bool) → leb 65 b ≡ u → leb 97 b ≡ v → eqb b 95 ≡ w → leb 48 b ≡ x → leb b 57 ≡ y → (((u && m) || (v && n)) || w) ≡ true → (x && y) ≡ false
    go u v w x false m n e₁ e₂ e₃ e₄ e₅ h = and-false x
    go u v w false true m n e₁ e₂ e₃ e₄ e₅ h = refl
    go true v w true true m n e₁ e₂ e₃ e₄ e₅ h = absurd (omega (arith, leb-true 65 b e₁, leb-true b 57 e₅))
    go false true w true true m n e₁ e₂ e₃ e₄ e₅ h = absurd (omega (arith, leb-true 97 b e₂, leb-true b 57 e₅))
    go false false true true true m n e₁ e₂ e₃ e₄ e₅ h = absurd (omega (arith, eqb-true b 95 e₃, leb-true b 57 e₅))
    go false false false true true m n e₁ e₂ e₃ e₄ e₅ h = clash (sym h)

constant_none : (n y o : Bool) → n ≡ false → y ≡ false → o ≡ false → ◌≡◌ {A = ℕ} (cond n 1 (cond y 2 (cond o 3 0))) 0
constant_none n y o e f g = rw (e, f, g)

module _ (s : List ℕ) (left : ℕ) (lines : Bool) (p : ℕ) where
  five_tests : pick_at s (under left lines an_expression) p ≡ some 5 → (is_start (byte_at s p) ≡ true) × (constant_at s p ≡ 0)
  unfolding pick_at
  five_tests e =
      let h = choose_five (is_digit (byte_at s p)) (is_call s lines p) (is_word null s p) (is_word yes s p) (is_word no s p) (is_start (byte_at s p)) (drop 6 (terms s lines p)) tt e in
      (h.3, constant_none (is_word null s p) (is_word yes s p) (is_word no s p) h.0 h.1 h.2)

  word_five : (k : ℕ) → pick_at s (under left lines an_expression) p ≡ some k → is_start (byte_at s p) ≡ true → constant_at s p ≡ 0 → ¬ (k ≡ 16) → k ≡ 5
  unfolding pick_at
  word_five k e start none-such i =
      choose_word k (is_digit (byte_at s p)) (is_call s lines p) (is_word null s p) (is_word yes s p) (is_word no s p) (is_start (byte_at s p)) (drop 6 (terms s lines p)) (digit_start (byte_at s p) start) none-such start e i

  module _ {φ e : ℕ} where
    -- a variable has no children and no flag
    five_flag : {ts : Trees ℕ} → Fits (grammar (hcl s)) (from (hcl s) (some 5) (under left lines an_expression) p [] p) 5 φ e ts → (φ ≡ 0) × (ts ≡ nil)
    unfolding layouts
    five_flag (ends v) = (five_flag_as (place (walk s (under left lines an_expression) p (ident ∷ []) p)) (refusal (walk s (under left lines an_expression) p (ident ∷ []) p)) v, refl)
      where
        five_flag_as : (o : Option ℕ) (z : ℕ × ℕ) → hop (hcl s) o z (λ q. done 5 0 q) ≡ done 5 φ e → φ ≡ 0
        five_flag_as none (x, q) v = absurd (let z : ◌≡◌ {A = ℕ} 0 1 = cc in omega arith)
        five_flag_as (some q) z v = cc
    five_flag (asks a q nm f v g₁ g₂ g₃ g₄ h) = absurd (asked (place (walk s (under left lines an_expression) p (ident ∷ []) p)) (refusal (walk s (under left lines an_expression) p (ident ∷ []) p)) v)
      where
        asked : (o : Option ℕ) (z : ℕ × ℕ) → hop (hcl s) o z (λ q. done 5 0 q) ≡ ask a q nm f → ⊥
        asked none (x, q) v = let z : ◌≡◌ {A = ℕ} 0 1 = cc in omega arith
        asked (some q) z v = let z : ◌≡◌ {A = ℕ} 0 1 = cc in omega arith

    -- a call has a child at least
    call_kids : ¬ (Fits (grammar (hcl s)) (from (hcl s) (some 16) (under left lines an_expression) p [] p) 16 φ e nil)
    unfolding layouts
    call_kids (ends v) = let z : ◌≡◌ {A = ℕ} 0 1 = cc in omega arith

fit_some : (s : List ℕ) (j k : ℕ) (o : Option ℕ) → fit (hcl s) j o ≡ some k → o ≡ some k
fit_some s j k none e = e
fit_some s j k (some x) e = ap some (unless_some (tight_of x) j x k e).1

refuse_done : (s : List ℕ) (z : ℕ × ℕ) {k φ e : ℕ} → refuse (hcl s) z ≡ done k φ e → ⊥
refuse_done s (x, q) v = let z : ◌≡◌ {A = ℕ} 0 1 = cc in omega arith

-- ---- trees that are a lone variable

module _ (s : List ℕ) (left : ℕ) (lines : Bool) (j : ℕ) where
  -- what leads, of a kind
  led_five : (b φ e : ℕ) (ts : Trees ℕ) (o : Option ℕ) → Fits (grammar (hcl s)) (from (hcl s) o (under left lines an_expression) b [] b) 5 φ e ts → (o ≡ some 5) × (φ ≡ 0) × (ts ≡ nil)
  led_five b φ e ts none f = absurd (let z : ◌≡◌ {A = ℕ} 0 5 = fits_kind (hcl s) f in omega arith)
  led_five b φ e ts (some k) f =
      let z : k ≡ 5 = fits_kind (hcl s) f in
      let h = five_flag s left lines b (subst (λ (x : ℕ). Fits (grammar (hcl s)) (from (hcl s) (some x) (under left lines an_expression) b [] b) 5 φ e ts) z f) in
      (ap some z, h.0, h.1)

  -- no operator is a variable
  grown_five : (b φ e q : ℕ) (ks : List (Rec ℕ)) (ts : Trees ℕ) (o : Option ℕ) → follow_at s (under left lines an_expression) q ≡ o → Fits (grammar (hcl s)) (from (hcl s) o (under left lines an_expression) b ks q) 5 φ e ts → ⊥
  grown_five b φ e q ks ts none h f = let z : ◌≡◌ {A = ℕ} 0 5 = fits_kind (hcl s) f in omega arith
  grown_five b φ e q ks ts (some k) h f =
      let z : k ≡ 5 = fits_kind (hcl s) f in
      subst (λ (x : ℕ). T (not_five x)) z (follow_all not_five tt s (under left lines an_expression) q k h).1

  good_five : (φ b e : ℕ) (ts : Trees ℕ) → Good (grammar (hcl s)) (under left lines an_expression, j) (node 5 φ b e ts) → (pick_at s (under left lines an_expression) b ≡ some 5) × (φ ≡ 0) × (ts ≡ nil)
  good_five φ b e ts (leads f) =
      let h = led_five b φ e ts (fit (hcl s) j (pick_at s (under left lines an_expression) b)) f in
      (fit_some s j 5 (pick_at s (under left lines an_expression) b) h.0, h.1, h.2)
  good_five φ b e ts (grows {l = l} {ts = us} g h₁ h₂ h₃ f) =
      let z = (unless_some (after (hcl s) (under left lines an_expression) (rec_of l).end) j _ g h₃).1 in
      absurd (grown_five (rec_of l).start φ e (rec_of l).end (rec_of l ∷ []) us (follow_at s (under left lines an_expression) (rec_of l).end) refl (rw z f))

  -- a tree of one node, at a word that is no constant
  led_one : (b k φ e : ℕ) (o : Option ℕ) → Fits (grammar (hcl s)) (from (hcl s) o (under left lines an_expression) b [] b) k φ e nil → (o ≡ some k) × ¬ (k ≡ 16)
  led_one b k φ e none (ends v) = absurd (refuse_done s _ v)
  led_one b k φ e (some x) f =
      let z : x ≡ k = fits_kind (hcl s) f in (
        ap some z,
        λ w. call_kids s left lines b
            (subst (λ (y : ℕ). Fits (grammar (hcl s)) (from (hcl s) (some 16) (under left lines an_expression) b [] b) y φ e nil) w
            (subst (λ (y : ℕ). Fits (grammar (hcl s)) (from (hcl s) (some y) (under left lines an_expression) b [] b) k φ e nil) (z ∙ w) f)),
      )

  good_one : (k φ b e : ℕ) (ts : Trees ℕ) → Good (grammar (hcl s)) (under left lines an_expression, j) (node k φ b e ts) → suc (sizes ts) ≡ 1 → is_start (byte_at s b) ≡ true → constant_at s b ≡ 0 → k ≡ 5
  good_one k φ b e nil (leads f) n start word =
      let h = led_one b k φ e (fit (hcl s) j (pick_at s (under left lines an_expression) b)) f in
      word_five s left lines b k (fit_some s j k (pick_at s (under left lines an_expression) b) h.0) start word h.1
  good_one k φ b e (cons t ts) g n start word = absurd (omega (arith, size_pos t))

-- a key is a lone variable, and named 14; or it keeps its kind
pub data Bare (s : List ℕ) (p : ℕ) (z : Tree ℕ) : Type 0 where
  lone : (e : ℕ) → z ≡ node 5 0 p e nil → is_bare s p (size z) ≡ true → Bare s p z
  kept : rename bare z ≡ z → is_bare s p (size z) ≡ false → Bare s p z

and_two : (x y z : Bool) → (x && (y && z)) ≡ true → (x ≡ true) × (y ≡ true) × (z ≡ true)
and_two true true true e = (refl, refl, refl)
and_two true true false e = clash (sym e)
and_two true false z e = clash (sym e)
and_two false y z e = clash (sym e)

pub bare_is : (s : List ℕ) (left : ℕ) (lines : Bool) (j p : ℕ) (z : Tree ℕ) → Whole (grammar (hcl s)) (under left lines an_expression, j) p z → Bare s p z
bare_is s left lines j p (node k φ b e ts) (at, g, n) = subst (λ (y : ℕ). Bare s y (node k φ b e ts)) at (go (eqb k 5) refl)
  where
    go : (x : Bool) → eqb k 5 ≡ x → Bare s b (node k φ b e ts)
    go true h =
        let five : k ≡ 5 = eqb-true k 5 h in
        let (pick, flag, kids) = good_five s left lines j φ b e ts (subst (λ (x : ℕ). Good (grammar (hcl s)) (under left lines an_expression, j) (node x φ b e ts)) five g) in
        let tests = five_tests s left lines b pick in
        lone e (rw (five, flag, kids)) (rw (kids, tests.0, tests.1))
    go false h = kept (rw h) (other (is_bare s b (suc (sizes ts))) refl)
      where
        other : (x : Bool) → is_bare s b (suc (sizes ts)) ≡ x → x ≡ false
        other true f =
            let (one, start, word) = and_two (eqb (suc (sizes ts)) 1) (is_start (byte_at s b)) (eqb (constant_at s b) 0) f in
            absurd (eqb-false k 5 h (good_one s left lines j k φ b e ts g (eqb-true (suc (sizes ts)) 1 one) start (eqb-true (constant_at s b) 0 word)))
        other false f = refl

-- ---- its record put anew

abbrev numbered : Record → List ℕ
numbered x = x.kind ∷ x.flag ∷ x.start ∷ x.end ∷ x.count ∷ x.from ∷ x.length ∷ []

sets_set : (l : List ℕ) (i : ℕ) (v : ℕ) (j : ℕ) (vs : List ℕ) → i < j → set (sets l j vs) i v ≡ sets (set l i v) j vs
sets_set l i v j [] h = refl
sets_set l i v j (w ∷ vs) h = sets_set (set l j w) i v (suc j) vs (omega arith) ∙ ap (λ (x : List ℕ). sets x (suc j) vs) (set_comm l j i w v (λ e. omega arith))

sets_sets : (l : List ℕ) (i : ℕ) (vs ws : List ℕ) → length vs ≡ length ws → sets (sets l i vs) i ws ≡ sets l i ws
sets_sets l i [] [] h = refl
sets_sets l i [] (w ∷ ws) h = absurd (omega arith)
sets_sets l i (v ∷ vs) [] h = absurd (omega arith)
sets_sets l i (v ∷ vs) (w ∷ ws) h =
    ap (λ (x : List ℕ). sets x (suc i) ws) (sets_set (set l i v) i w (suc i) vs (omega arith) ∙ ap (λ (x : List ℕ). sets x (suc i) vs) (set-set l i v w))
    ∙ sets_sets (set l i w) (suc i) vs ws (omega arith)

as_sets : (b : List ℕ) (i : ℕ) (x : Record) → put_as b i x true ≡ sets b (i * 7) (numbered x)
as_sets b i x =
    let e₁ : i * 7 + 1 ≡ suc (i * 7) = omega arith in
    let e₂ : i * 7 + 2 ≡ suc (suc (i * 7)) = omega arith in
    let e₃ : i * 7 + 3 ≡ suc (suc (suc (i * 7))) = omega arith in
    let e₄ : i * 7 + 4 ≡ suc (suc (suc (suc (i * 7)))) = omega arith in
    let e₅ : i * 7 + 5 ≡ suc (suc (suc (suc (suc (i * 7))))) = omega arith in
    let e₆ : i * 7 + 6 ≡ suc (suc (suc (suc (suc (suc (i * 7)))))) = omega arith in
    rw (e₁, e₂, e₃, e₄, e₅, e₆)

-- a record that is put over another
pub put_put : (b : List ℕ) (i : ℕ) (x y : Record) → put_at (put_at b i x) i y ≡ put_at b i y
unfolding put_at
put_put b i x y = go (ltb i (length b / 7)) refl
  where
    go : (t : Bool) → ltb i (length b / 7) ≡ t → put_as (put_as b i x t) i y (ltb i (length (put_as b i x t) / 7)) ≡ put_as b i y t
    go false e = rw e
    go true e =
        let l : length (put_as b i x true) ≡ length b = ap length (as_sets b i x) ∙ length-sets b (i * 7) (numbered x) in
        rw (l, e) (as_sets (put_as b i x true) i y ∙ ap (λ (z : List ℕ). sets z (i * 7) (numbered y)) (as_sets b i x) ∙ sets_sets b (i * 7) (numbered x) (numbered y) refl ∙ sym (as_sets b i y))

put_lone : {s : List ℕ} {i u p : ℕ} {b b' b'' x x' : List ℕ} {a e n m : ℕ} → Put s i u p b b' x x' (node 5 0 p a nil) e n m → b'' ≡ put_at b' i (record_of 14 0 p e 1 (0, 0)) → Put s i u p b b'' x x' (node 14 0 p a nil) e n m
unfolding own
put_lone {s} {i} {u} {p} {b} {b'} {b''} {x} {x'} {a} {e} {n} {m} h q = record {
  end = h.end;
  count = h.count;
  text = h.text;
  laid = q ∙ rw (← h.end, h.laid, ← lay_one b i (record_of 5 0 p a 1 (0, 0)), put_put b i (record_of 5 0 p a 1 (0, 0)) (record_of 14 0 p a 1 (0, 0))) (lay_one b i (record_of 14 0 p a 1 (0, 0)));
  written = h.written;
  whole = refl;
  room = h.room;
  spent = h.spent;
  high = h.high;
}

-- the key as the item has it
pub put_bare : {s : List ℕ} {i u p : ℕ} {b b' b'' x x' : List ℕ} {z : Tree ℕ} {e n m : ℕ} → Bare s p z → Put s i u p b b' x x' z e n m → b'' ≡ bared s b' i n p e → Put s i u p b b'' x x' (rename bare z) e n m
put_bare {s} {i} {u} {p} {b} {b'} {b''} {x} {x'} {z} {e} {n} {m} (lone a is t) h q =
    let t' : is_bare s p n ≡ true = rw h.count at t in
    let w : Put s i u p b b'' x x' (node 14 0 p a nil) e n m = put_lone (rw is at h) (rw t' at q) in
    rw is w
put_bare {s} {i} {u} {p} {b} {b'} {b''} {x} {x'} {z} {e} {n} {m} (kept is t) h q =
    let t' : is_bare s p n ≡ false = rw h.count at t in
    let same : b'' ≡ b' = rw t' at q in
    rw (is, same) h
