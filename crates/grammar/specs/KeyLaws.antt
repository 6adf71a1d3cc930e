-- Laws on keys: a key that begins with a word or a plain string, with `=` or `:` behind it, is that token alone; and no expression begins with `:`.
use Rattle.std.specs.Prelude.{ℕ, ◌+◌, ◌≤◌, Bool, not, ◌&&◌, ◌||◌, ◌⊎◌, length, drop, leb, T}
use Rattle.std.proofs.Math.Path.{◌≡◌, refl, sym, ap}
use Rattle.std.proofs.Common.{◌∙◌, subst, inl, inr, arith, eqb-true, eq-eqb, ne_eqb, leb-true, drop-drop}
use mathlib.Core.List.{List, [], ◌∷◌}
use Rattle.std.proofs.Math.Bool.{true, false, cond}
use Rattle.std.proofs.Math.Bool as bool
use Rattle.std.proofs.Math.Option.{Option, none, some}
use Rattle.std.proofs.Math.Dec.{eqb}
use Rattle.std.proofs.lemmas.Bool.{eqb-false, lt-leb}
use Rattle.lexis.specs.declared.string.Why.{Why}
use Rattle.lexis.specs.declared.string.Why.TheVariants as why
use Rattle.lexis.specs.Bytes.{byte_at, is_digit, is_start, is_rest, stands, begins, run}
use Rattle.lexis.specs.Trivia.{gap_to}
use Rattle.lexis.specs.Word.{ident_to, is_word, null, yes, no}
use Rattle.lexis.specs.Operator.{is_mark, equals_to}
use Rattle.lexis.specs.Utf8.{is_scalar}
use Rattle.lexis.specs.Heredoc.{fresh_at}
use Rattle.lexis.specs.String as string
use Rattle.lexis.specs.String.{Mode, quoted, unit_in, text_at}
use Rattle.lexis.specs.Keys.{Key, word, plain, other as odd, key_at, plain_as, string_at, same_as, same_key, among, rest_of, key_to}
use Rattle.lexis.specs.RunLaws.{clash, front, and_left, and_right, stands_one, stands_two, stands_cons, run_on, run_stop, inside, other}
use Rattle.engine.specs.Base.{Rec, Tree, Trees, rec_of, choose, all_of}
use Rattle.engine.specs.Rule.{Runs, rfin, rmove, ryes, rno, Firm, Local, first, later, Every, every, Everys, enil, econs}
use Rattle.engine.specs.BaseLaws.{and_t, some_is}
use Rattle.grammar.specs.Moves
use Rattle.grammar.specs.Moves.{an_expression, Under, to, place, ident, mark, close, round, close_as, atom, walk, lone, behind_key}
use Rattle.grammar.specs.Layouts.{layouts, layout_of, word_lay, ident_lay, string_lay}
use Rattle.grammar.specs.MoveLaws.{to_is, no_to, by_test, not_made}
use Rattle.grammar.specs.BoundLaws.{one_atom}
use Rattle.grammar.specs.Hcl.{hcl, follows, follow_at, terms, pick_at, grows, is_call}
use Rattle.grammar.specs.StillLaws.{still_at, still_equals, still_test, or-true}

-- bytes that pass a test, at the front of a list
begins_run : (t : ℕ → Bool) (w xs : List ℕ) → T (all_of t w) → begins w xs ≡ true → run t xs ≡ length w + run t (drop (length w) xs)
unfolding run begins
begins_run t [] xs u e = omega arith
begins_run t (b ∷ w) [] u e = clash (sym e)
begins_run t (b ∷ w) (x ∷ xs) u e =
    let (v, r) = and_t (t b) (all_of t w) u in
    let z : x ≡ b = eqb-true x b (and_left (eqb x b) (begins w xs) e) in
    let y : t x ≡ true = ap t z ∙ t_is (t b) v in
    rw y (omega (arith, begins_run t w xs r (and_right (eqb x b) (begins w xs) e)))
  where
    t_is : (c : Bool) → T c → c ≡ true
    t_is true u = refl
    t_is false u = absurd u

-- quoted text is never ended by a closing line
data Calm : string.Unit → Type 0 where
  calm_is : {w : ℕ} {bs : List ℕ} {e : Bool} → Calm (string.is w bs e)
  calm_quote : Calm (string.not why.Quote)
  calm_interpolation : Calm (string.not why.Interpolation)
  calm_directive : Calm (string.not why.Directive)
  calm_escape : Calm (string.not why.Escape)
  calm_end : Calm (string.not why.End)

calm_if : (b : Bool) {x y : string.Unit} → Calm x → Calm y → Calm (cond b x y)
calm_if true h g = h
calm_if false h g = g

calm_scalar : (n : ℕ) (o : Option ℕ) → Calm (string.scalar_as n o)
calm_scalar n none = calm_escape
calm_scalar n (some v) = calm_if (is_scalar v) calm_is calm_escape

calm_letter : (b : ℕ) (l : List ℕ) → Calm (string.escape b l)
unfolding string.escape
calm_letter b l =
    calm_if (eqb b 110) calm_is
    (calm_if (eqb b 114) calm_is
    (calm_if (eqb b 116) calm_is
    (calm_if (eqb b 92) calm_is
    (calm_if (eqb b 34) calm_is
    (calm_if (eqb b 117) (calm_scalar 4 (string.hexes 0 4 l)) (calm_if (eqb b 85) (calm_scalar 8 (string.hexes 0 8 l)) calm_escape))))))

calm : (f : Bool) (l : List ℕ) → Calm (unit_in quoted f l)
unfolding string.unit
calm f [] = calm_end
calm f (b ∷ l) =
    calm_if (eqb b 36) (calm_if (eqb (byte_at l 0) b && eqb (byte_at l 1) 123) calm_is (calm_if (eqb (byte_at l 0) 123) calm_interpolation calm_is))
    (calm_if (eqb b 37) (calm_if (eqb (byte_at l 0) b && eqb (byte_at l 1) 123) calm_is (calm_if (eqb (byte_at l 0) 123) calm_directive calm_is))
    (calm_if (eqb b 34) calm_quote (calm_if (eqb b 92) (calm_letter (byte_at l 0) (drop 1 l)) calm_is)))

module _ (s : List ℕ) where
  -- ---- what stands behind a lone key

  -- a single `=`, or a single `:`
  pub data Behind (q : ℕ) : Type 0 where
    equals : stands (61 ∷ []) s q ≡ true → stands (61 ∷ 61 ∷ []) s q ≡ false → Behind q
    colon : byte_at s q ≡ 58 → stands (58 ∷ 58 ∷ []) s q ≡ false → Behind q

  not-true : (b : Bool) → not b ≡ true → b ≡ false
  not-true true e = sym e
  not-true false e = refl

  -- a mark, and none of the longer ones
  mark_one : (a b : Bool) → (a && not (b || false)) ≡ true → (a ≡ true) × (b ≡ false)
  mark_one true true e = clash (sym e)
  mark_one true false e = (refl, refl)
  mark_one false b e = clash (sym e)

  mark_two : (a b c : Bool) → (a && not (b || (c || false))) ≡ true → (a ≡ true) × (b ≡ false) × (c ≡ false)
  mark_two true true c e = clash (sym e)
  mark_two true false true e = clash (sym e)
  mark_two true false false e = (refl, refl, refl)
  mark_two false b c e = clash (sym e)

  equals_mark : (q : ℕ) → not (eqb (equals_to s q) q) ≡ true → is_mark (61 ∷ []) ((61 ∷ 62 ∷ []) ∷ (61 ∷ 61 ∷ []) ∷ []) s q ≡ true
  equals_mark q = go (is_mark (61 ∷ []) ((61 ∷ 62 ∷ []) ∷ (61 ∷ 61 ∷ []) ∷ []) s q)
    where
      go : (b : Bool) → not (eqb (cond b (q + 1) q) q) ≡ true → b ≡ true
      go true e = refl
      go false e = absurd (eqb-false q q (not-true (eqb q q) e) refl)

  behind_by : (q : ℕ) → (not (eqb (equals_to s q) q) || is_mark (58 ∷ []) ((58 ∷ 58 ∷ []) ∷ []) s q) ≡ true → Behind q
  behind_by q e = go (or-true (not (eqb (equals_to s q) q)) (is_mark (58 ∷ []) ((58 ∷ 58 ∷ []) ∷ []) s q) e)
    where
      go : (not (eqb (equals_to s q) q) ≡ true) ⊎ (is_mark (58 ∷ []) ((58 ∷ 58 ∷ []) ∷ []) s q ≡ true) → Behind q
      go (inl f) = let (a, b, c) = mark_two (stands (61 ∷ []) s q) (stands (61 ∷ 62 ∷ []) s q) (stands (61 ∷ 61 ∷ []) s q) (equals_mark q f) in equals a c
      go (inr f) =
          let (a, b) = mark_one (stands (58 ∷ []) s q) (stands (58 ∷ 58 ∷ []) s q) f in
          colon (eqb-true (byte_at s q) 58 (sym (stands_one 58 s q refl) ∙ a)) b

  pub lone_behind : (a : ℕ) → lone s a ≡ true → Behind (behind_key s a)
  lone_behind a e = behind_by (behind_key s a) e

  -- so nothing follows there
  pub behind_still : (q : ℕ) → Behind q → choose (follows s q) ≡ none
  behind_still q (equals e f) = still_at s q (still_equals (drop q s) e f)
  behind_still q (colon e f) = still_at s q (still_test (λ (x : ℕ). eqb x 58) (drop q s) (eq-eqb (byte_at (drop q s) 0) 58 (front s q ∙ e)) refl tt refl refl refl)

  -- neither `(` nor `::` stands there
  pub behind_call : (q : ℕ) → Behind q → (eqb (byte_at s q) 40 || stands (58 ∷ 58 ∷ []) s q) ≡ false
  behind_call q (equals e f) =
      let z : byte_at s q ≡ 61 = eqb-true (byte_at s q) 61 (sym (stands_one 61 s q refl) ∙ e) in
      rw (z, stands_two 58 58 s q refl refl, z)
  behind_call q (colon e f) = rw (e, f)

  -- back: the mark that an item has behind its key
  equals_by : (q : ℕ) (a b c m : Bool) → (a && not (b || (c || false))) ≡ true → (not (eqb (cond (a && not (c || (b || false))) (q + 1) q) q) || m) ≡ true
  equals_by q true true c m e = clash (sym e)
  equals_by q true false true m e = clash (sym e)
  equals_by q true false false m e = rw (ne_eqb (q + 1) q (λ z. omega arith))
  equals_by q false b c m e = clash (sym e)

  pub behind_lone : (a q : ℕ) → behind_key s a ≡ q → (is_mark (61 ∷ []) ((61 ∷ 61 ∷ []) ∷ (61 ∷ 62 ∷ []) ∷ []) s q ≡ true) ⊎ (is_mark (58 ∷ []) ((58 ∷ 58 ∷ []) ∷ []) s q ≡ true) → lone s a ≡ true
  behind_lone a q z x = subst (λ (y : ℕ). (not (eqb (equals_to s y) y) || is_mark (58 ∷ []) ((58 ∷ 58 ∷ []) ∷ []) s y) ≡ true) (sym z) (go x)
    where
      go : (is_mark (61 ∷ []) ((61 ∷ 61 ∷ []) ∷ (61 ∷ 62 ∷ []) ∷ []) s q ≡ true) ⊎ (is_mark (58 ∷ []) ((58 ∷ 58 ∷ []) ∷ []) s q ≡ true) → (not (eqb (equals_to s q) q) || is_mark (58 ∷ []) ((58 ∷ 58 ∷ []) ∷ []) s q) ≡ true
      go (inl e) = equals_by q (stands (61 ∷ []) s q) (stands (61 ∷ 61 ∷ []) s q) (stands (61 ∷ 62 ∷ []) s q) (is_mark (58 ∷ []) ((58 ∷ 58 ∷ []) ∷ []) s q) e
      go (inr e) = rw e (bool.or-true (not (eqb (equals_to s q) q)))

  -- ---- a key that may be equal to another: a word, or a plain string

  pub data Likely (a : ℕ) : Type 0 where
    is_word_lem : is_start (byte_at s a) ≡ true → Likely a
    is_string : byte_at s a ≡ 34 → (text_at quoted s (a + 1)).why ≡ why.Quote → Likely a

  other_not : (k : Key) → same_as k odd ≡ false
  other_not (word a) = refl
  other_not (plain a) = refl
  other_not odd = refl

  likely_as : (k : Key) (a : ℕ) → same_as k (key_at s a) ≡ true → Likely a
  unfolding key_at
  likely_as k a = go (is_start (byte_at s a)) (eqb (byte_at s a) 34) refl refl
    where
      by : (w : Why) → (text_at quoted s (a + 1)).why ≡ w → byte_at s a ≡ 34 → same_as k (plain_as w (text_at quoted s (a + 1)).bytes) ≡ true → Likely a
      by why.Quote e z h = is_string z e
      by why.Interpolation e z h = clash (sym h ∙ other_not k)
      by why.Directive e z h = clash (sym h ∙ other_not k)
      by why.Escape e z h = clash (sym h ∙ other_not k)
      by why.Closing e z h = clash (sym h ∙ other_not k)
      by why.Foreign e z h = clash (sym h ∙ other_not k)
      by why.End e z h = clash (sym h ∙ other_not k)

      go : (x y : Bool) → is_start (byte_at s a) ≡ x → eqb (byte_at s a) 34 ≡ y → same_as k (cond x (word (rest_of (drop a s))) (cond y (string_at s (a + 1)) odd)) ≡ true → Likely a
      go true y e f h = is_word_lem e
      go false true e f h = by (text_at quoted s (a + 1)).why refl (eqb-true (byte_at s a) 34 f) h
      go false false e f h = clash (sym h ∙ other_not k)

  pub among_likely : (ks : List ℕ) (a : ℕ) → among s ks a ≡ true → Likely a
  unfolding among
  among_likely [] a e = clash (sym e)
  among_likely (k ∷ ks) a e = go (or-true (same_key s k a) (among s ks a) e) (among_likely ks a)
    where
      go : (same_key s k a ≡ true) ⊎ (among s ks a ≡ true) → (among s ks a ≡ true → Likely a) → Likely a
      go (inl f) ih = likely_as (key_at s k) a f
      go (inr f) ih = ih f

  -- ---- words and identifiers

  -- a word is the whole identifier
  pub word_ends : (w : List ℕ) (p : ℕ) → T (all_of is_rest w) → is_start (byte_at s p) ≡ true → is_word w s p ≡ true → ident_to s p ≡ p + length w
  word_ends w p t e f =
      let a = and_left (stands w s p) (not (is_rest (byte_at s (p + length w)))) f in
      let b = not-true (is_rest (byte_at s (p + length w))) (and_right (stands w s p) (not (is_rest (byte_at s (p + length w)))) f) in
      let r : is_rest (byte_at s p) ≡ true = rw e in
      let on = run_on is_rest s p (inside is_start s p refl e) r in
      let st = run_stop is_rest s (p + length w) b in
      let n = begins_run is_rest w (drop p s) t a in
      let d : drop (length w) (drop p s) ≡ drop (p + length w) s = drop-drop (length w) p s in
      let m : run is_rest (drop p s) ≡ length w + run is_rest (drop (p + length w) s) = n ∙ ap (λ (xs : List ℕ). length w + run is_rest xs) d in
      rw e (omega arith)

  pub start_digit : (b : ℕ) → is_start b ≡ true → is_digit b ≡ false
  start_digit b e = go (leb 48 b) (leb b 57) refl refl
    where
      by : 48 ≤ b → b ≤ 57 → ⊥
      by h g = clash (sym (rw (lt-leb 65 b (omega arith), lt-leb 97 b (omega arith), ne_eqb b 95 (λ z. omega arith)) at e))

      go : (x y : Bool) → leb 48 b ≡ x → leb b 57 ≡ y → (x && y) ≡ false
      go true true f g = absurd (by (leb-true 48 b f) (leb-true b 57 g))
      go true false f g = refl
      go false y f g = refl

  -- ---- the key's own node

  word_end : {b : Under} {σ : ℕ} {ks : List (Rec ℕ)} {e φ : ℕ} {rs : List (Rec ℕ)} {bs : List (Under × ℕ)} (w : List ℕ) → Runs (hcl s) (Firm (hcl s)) b σ ks (word_lay w) σ e φ rs bs → e ≡ σ + length w
  unfolding atom
  word_end {b} {σ} w (rmove q g rfin) =
      by_test (is_word w s σ) (one_atom s b σ (Moves.word w) σ q g) (λ t f. sym (to_is f)) (λ t f. not_made s σ f)

  ident_end : {b : Under} {σ : ℕ} {ks : List (Rec ℕ)} {e φ : ℕ} {rs : List (Rec ℕ)} {bs : List (Under × ℕ)} → Runs (hcl s) (Firm (hcl s)) b σ ks ident_lay σ e φ rs bs → e ≡ ident_to s σ
  unfolding atom
  ident_end {b} {σ} (rmove q g rfin) =
      by_test (eqb (ident_to s σ) σ) (one_atom s b σ ident σ q g) (λ t f. not_made s σ f) (λ t f. sym (to_is f))

  and_no : (a b : Bool) {c : Bool} → c ≡ false → (a && (b && c)) ≡ false
  and_no true true e = e
  and_no true false e = refl
  and_no false b e = refl

  -- a word: none of what else might stand there is called for
  word_first : (b : Under) (σ e φ k : ℕ) (rs : List (Rec ℕ)) (bs : List (Under × ℕ)) → is_start (byte_at s σ) ≡ true → lone s σ ≡ true → choose (terms s false σ) ≡ some k
      → Runs (hcl s) (Firm (hcl s)) b σ [] (layout_of k) σ e φ rs bs → e ≡ key_to s σ
  unfolding layouts
  word_first b σ e φ k rs bs st lo pk v =
      go (is_word null s σ) (is_word yes s σ) (is_word no s σ) refl refl refl
      (rw (start_digit (byte_at s σ) st, not_call, st) at pk)
    where
      not_quote : eqb (byte_at s σ) 34 ≡ false
      not_quote = other is_start (byte_at s σ) 34 st refl

      to_ident : key_to s σ ≡ ident_to s σ
      to_ident = rw not_quote

      not_call : is_call s false σ ≡ false
      not_call =
          let h : (eqb (byte_at s (gap_to false s (ident_to s σ)).at) 40 || stands (58 ∷ 58 ∷ []) s (gap_to false s (ident_to s σ)).at) ≡ false
          = subst (λ (x : ℕ). (eqb (byte_at s (gap_to false s x).at) 40 || stands (58 ∷ 58 ∷ []) s (gap_to false s x).at) ≡ false) to_ident (behind_call (behind_key s σ) (lone_behind σ lo)) in
          and_no (is_start (byte_at s σ)) (not (gap_to false s (ident_to s σ)).unclosed) h

      run_as : (j : ℕ) → k ≡ j → Runs (hcl s) (Firm (hcl s)) b σ [] (layout_of j) σ e φ rs bs
      run_as j z = subst (λ (j : ℕ). Runs (hcl s) (Firm (hcl s)) b σ [] (layout_of j) σ e φ rs bs) z v

      go : (x y z : Bool) → is_word null s σ ≡ x → is_word yes s σ ≡ y → is_word no s σ ≡ z → choose ((false, 4) ∷ (false, 16) ∷ (x, 1) ∷ (y, 2) ∷ (z, 3) ∷ (true, 5) ∷ []) ≡ some k → e ≡ key_to s σ
      go true y z f g h i = word_end null (run_as 1 (cc)) ∙ sym (to_ident ∙ word_ends null σ tt st f)
      go false true z f g h i = word_end yes (run_as 2 (cc)) ∙ sym (to_ident ∙ word_ends yes σ tt st g)
      go false false true f g h i = word_end no (run_as 3 (cc)) ∙ sym (to_ident ∙ word_ends no σ tt st h)
      go false false false f g h i = ident_end (run_as 5 (cc)) ∙ sym to_ident

  -- a string that is closed ends behind its closing quote
  close_end : (t p q : ℕ) {u : string.Unit} → Calm u → close_as s t p u ≡ to q → q ≡ p + 1
  close_end t p q calm_is e = no_to e
  close_end t p q calm_quote e = sym (to_is e)
  close_end t p q calm_interpolation e = no_to e
  close_end t p q calm_directive e = no_to e
  close_end t p q calm_escape e = no_to e
  close_end t p q calm_end e = no_to e

  module _ (b : Under) (σ : ℕ) (z : byte_at s σ ≡ 34) where
    round_is : round s σ ≡ quoted
    round_is = rw z

    closed : (p q : ℕ) → place (walk s b σ (close ∷ []) p) ≡ some q → q ≡ p + 1
    unfolding atom
    closed p q e = close_end σ p q (subst (λ (m : Mode). Calm (unit_in m (fresh_at s p) (drop p s))) (sym round_is) (calm (fresh_at s p) (drop p s))) (one_atom s b σ close p q e)

    ran : (y : Bool) (p q : ℕ) → place (walk s b σ (Moves.run y ∷ []) p) ≡ some q → q ≡ p + (text_at quoted s p).width
    unfolding atom
    ran y p q e =
        by_test (Moves.same y (text_at (round s σ) s p).escaped) (one_atom s b σ (Moves.run y) p q e)
        (λ t f. sym (to_is f) ∙ ap (λ (m : Mode). p + (text_at m s p).width) round_is)
        (λ t f. no_to f)

    opened : (q : ℕ) → place (walk s b σ (mark (34 ∷ []) [] ∷ []) σ) ≡ some q → q ≡ σ + 1
    unfolding atom
    opened q e = by_test (is_mark (34 ∷ []) [] s σ) (one_atom s b σ (mark (34 ∷ []) []) σ q e) (λ t f. sym (to_is f)) (λ t f. not_made s σ f)

    pub key_is : key_to s σ ≡ σ + 2 + (text_at quoted s (σ + 1)).width
    key_is = rw z

    string_ends : (q q' e : ℕ) → q ≡ σ + 1 → q' ≡ q + (text_at quoted s q).width → e ≡ q' + 1 → e ≡ key_to s σ
    string_ends q q' e a c d =
        let c' : q' ≡ σ + 1 + (text_at quoted s (σ + 1)).width = subst (λ (x : ℕ). q' ≡ x + (text_at quoted s x).width) a c in
        let d' : e ≡ σ + 2 + (text_at quoted s (σ + 1)).width = omega arith in
        d' ∙ sym key_is

    pub string_end : {e φ : ℕ} {rs : List (Rec ℕ)} {bs : List (Under × ℕ)} → Runs (hcl s) (Firm (hcl s)) b σ [] string_lay σ e φ rs bs → e ≡ key_to s σ
    string_end (rmove q g (ryes q' g' (rmove q'' g'' rfin))) = string_ends q q' q'' (opened q g) (ran false q q' g') (closed q' q'' g'')
    string_end (rmove q g (rno g' (rmove q' g'' (rmove q'' g''' rfin)))) = string_ends q q' q'' (opened q g) (ran true q q' g'') (closed q' q'' g''')

    off : (c : ℕ) (w : List ℕ) → eqb 256 c ≡ false → eqb 34 c ≡ false → stands (c ∷ w) s σ ≡ false
    off c w n m = stands_cons c w s σ n ∙ rw (z, m)

    string_first : (e φ k : ℕ) (rs : List (Rec ℕ)) (bs : List (Under × ℕ)) → (text_at quoted s (σ + 1)).why ≡ why.Quote → choose (terms s false σ) ≡ some k
        → Runs (hcl s) (Firm (hcl s)) b σ [] (layout_of k) σ e φ rs bs → e ≡ key_to s σ
    unfolding layouts
    string_first e φ k rs bs w pk v =
        let i : ◌≡◌ {A = Option ℕ} (some 6) (some k) = rw (z, off 110 _ refl refl, off 116 _ refl refl, off 102 _ refl refl, off 33 _ refl refl, w) at pk in
        string_end (subst (λ (j : ℕ). Runs (hcl s) (Firm (hcl s)) b σ [] (layout_of j) σ e φ rs bs) (sym (some_is i)) v)

  -- ---- a lone key is the token that it begins with

  follow_not : (b : Under) (p k : ℕ) → b.lines ≡ false → choose (follows s (gap_to false s p).at) ≡ none → ¬ (follow_at s b p ≡ some k)
  unfolding follow_at
  follow_not b p k l h e = go (grows b.want) (gap_to false s p).unclosed (rw l at e)
    where
      go : (g u : Bool) → cond g (cond u none (choose (follows s (gap_to false s p).at))) none ≡ some k → ⊥
      go true true e = absurd (let z : ◌≡◌ {A = ℕ} 0 1 = cc in omega arith)
      go true false e = absurd (let z : ◌≡◌ {A = ℕ} 0 1 = cc (h, e) in omega arith)
      go false u e = absurd (let z : ◌≡◌ {A = ℕ} 0 1 = cc in omega arith)

  -- what holds of a node, if it holds of its first child, holds of every tree
  abbrev Head : (Under × ℕ → Rec ℕ → Type 0) → List (Under × ℕ) → List (Rec ℕ) → Type 0
  Head Q [] rs = Unit {0}
  Head Q (b ∷ bs) [] = Unit {0}
  Head Q (b ∷ bs) (r ∷ rs) = Q b r

  module _ (Q : Under × ℕ → Rec ℕ → Type 0) (step : (a : Under × ℕ) (r : Rec ℕ) (rs : List (Rec ℕ)) (bs : List (Under × ℕ)) → Local (hcl s) a r rs bs → Head Q bs rs → Q a r) where
    mutual
      leading : {a : Under × ℕ} {t : Tree ℕ} → Every (Local (hcl s)) a t → Q a (rec_of t)
      leading (every {b = a} {k} {φ} {s = st} {e} {bs} {rs} x es) = step a (record { kind = k; flag = φ; start = st; end = e }) rs bs x (leadings es)

      leadings : {bs : List (Under × ℕ)} {rs : List (Rec ℕ)} {ts : Trees ℕ} → Everys (Local (hcl s)) bs rs ts → Head Q bs rs
      leadings enil = tt
      leadings (econs {b = a} j e es) = subst (λ (r : Rec ℕ). Q a r) j (leading e)

  abbrev Ends : Under × ℕ → Rec ℕ → Type 0
  Ends a r = a.0.lines ≡ false → a.0.want ≡ an_expression → (σ : ℕ) → r.start ≡ σ → lone s σ ≡ true → Likely σ → r.end ≡ key_to s σ

  ends_step : (a : Under × ℕ) (r : Rec ℕ) (rs : List (Rec ℕ)) (bs : List (Under × ℕ)) → Local (hcl s) a r rs bs → Head Ends bs rs → Ends a r
  unfolding pick_at
  ends_step a r rs bs (first {b = b} k i q v) h l w σ z lo x = go x
    where
      pk : choose (terms s false σ) ≡ some k
      pk = rw (l, w, z) at q

      run_from : Runs (hcl s) (Firm (hcl s)) b σ [] (layout_of k) σ r.end r.flag rs bs
      run_from = subst (λ (y : ℕ). Runs (hcl s) (Firm (hcl s)) b y [] (layout_of k) y r.end r.flag rs bs) z v

      go : Likely σ → r.end ≡ key_to s σ
      go (is_word_lem y) = word_first b σ r.end r.flag k rs bs y lo pk run_from
      go (is_string y y') = string_first b σ y r.end r.flag k rs bs y' pk run_from
  ends_step a r rs bs (later {b = b} {l = u} k i st q hd v) h l w σ z lo x =
      let n : u.end ≡ key_to s σ = h l w σ (st ∙ z) lo x in
      absurd (follow_not b u.end k l (subst (λ (y : ℕ). choose (follows s (gap_to false s y).at) ≡ none) (sym n) (behind_still (behind_key s σ) (lone_behind σ lo))) q)

  pub key_ends : {a : Under × ℕ} {t : Tree ℕ} → Every (Local (hcl s)) a t → Ends a (rec_of t)
  key_ends = leading Ends ends_step

  -- ---- no expression begins with `:`

  abbrev NoColon : Under × ℕ → Rec ℕ → Type 0
  NoColon a r = a.0.want ≡ an_expression → ¬ (byte_at s r.start ≡ 58)

  off_colon : (c p : ℕ) (w : List ℕ) → byte_at s p ≡ 58 → eqb 256 c ≡ false → eqb 58 c ≡ false → stands (c ∷ w) s p ≡ false
  off_colon c p w z n m = stands_cons c w s p n ∙ rw (z, m)

  colon_step_lem : (a : Under × ℕ) (r : Rec ℕ) (rs : List (Rec ℕ)) (bs : List (Under × ℕ)) → Local (hcl s) a r rs bs → Head NoColon bs rs → NoColon a r
  unfolding pick_at
  colon_step_lem a r rs bs (first {b = b} k i q v) h w z =
      let p = r.start in
      let i : ◌≡◌ {A = Option ℕ} none (some k)
      = rw (w, z, off_colon 110 p _ z refl refl, off_colon 116 p _ z refl refl, off_colon 102 p _ z refl refl, off_colon 33 p _ z refl refl, off_colon 60 p _ z refl refl) at q in
      absurd (let y : ◌≡◌ {A = ℕ} 0 1 = cc in omega arith)
  colon_step_lem a r rs bs (later {l = u} k i st q hd v) h w z = h w (ap (byte_at s) st ∙ z)

  pub no_colon : {a : Under × ℕ} {t : Tree ℕ} → Every (Local (hcl s)) a t → NoColon a (rec_of t)
  no_colon = leading NoColon colon_step_lem
