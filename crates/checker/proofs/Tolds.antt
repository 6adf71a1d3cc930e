-- What an object tells of its keys, and the rule at a row that is known to be a key.
use Prim.Native.Nat.{ℕ, zero, suc, ◌+◌, ◌≤◌}
use mathlib.Core.Path.{◌≡◌, refl, sym, ap, subst, ◌∙◌}
use mathlib.Core.Bool.{Bool, true, false, cond, not, ◌&&◌}
use mathlib.Core.Logic.{◌⊎◌, inl, inr}
use mathlib.Core.List.{List, [], ◌∷◌}
use native.Mathlib.Omega.{arith}
use lib.ListN.{length, get_or, set, replicate, length-set}
use lib.Seq.{get_or-set_other}
use lib.Dec.{eqb}
use borrow.Author.Tests.{eqb-true, eqb-false, eq-eqb, ne_eqb}
use Rattle.lexis.specs.Bytes.{byte_at, is_start, is_rest, stands, Ran, run_to}
use Rattle.lexis.specs.Trivia.{gap_to}
use Rattle.lexis.specs.Word.{ident_to, is_word, null, yes, constant_at}
use Rattle.lexis.specs.Word as words
use Rattle.lexis.specs.Keys.{key_to}
use Rattle.lexis.specs.RunLaws.{clash, run_high, inside, stands_one}
use Rattle.index.specs.declared.mark.Token.{Token}
use Rattle.index.specs.Mark.{TokenHere}
use Rattle.grammar.specs.Moves.{lone, behind_key}
use Rattle.grammar.specs.KeyLaws.{lone_behind, behind_call, word_ends, start_digit}
use Rattle.grammar.specs.Said.{calls_at}
use Rattle.grammar.specs.Alone.{head_of, HeadAt}
use Rattle.grammar.proofs.Heads.{head_variable}
use Rattle.checker.specs.declared.lone.Lone.{Lone}
use Rattle.checker.specs.Rows.{row_at}
use Rattle.checker.specs.Lone.{signed, Behind}
use Rattle.checker.specs.Told.{KeyHere, Told, Tells}
use Rattle.checker.specs.Node.{TokenAt, SingleBy}
use Rattle.checker.proofs.Singles.{sure, token_by, read_key}

-- ---- the notes

-- nothing is told at first
pub told_none : (s t : List ℕ) (n : ℕ) → Told s t (replicate n 1)
told_none s t n k e = absurd (let z : ◌≡◌ {A = ℕ} 1 0 = sym (ones n k) ∙ e in omega arith)
  where
    ones : (n k : ℕ) → get_or (replicate {A = ℕ} n 1) k 1 ≡ 1
    ones zero k = refl
    ones (suc n) zero = refl
    ones (suc n) (suc k) = ones n k

module _ {t E : List ℕ} {at e : ℕ} {alone : Bool} where
  pub tells_none : Tells t E E at e alone
  tells_none = record { long = refl; new = λ k z. inl z }

  pub tells_one : (k : ℕ) → alone ≡ true → (row_at t k).start ≡ at → (row_at t k).end ≡ e → Tells t E (set E k 0) at e alone
  tells_one k a b c = record { long = length-set E k 0; new = λ x. go x (eqb x k) refl }
    where
      go : (x : ℕ) (d : Bool) → eqb x k ≡ d → get_or (set E k 0) x 1 ≡ 0 → (get_or E x 1 ≡ 0) ⊎ ((alone ≡ true) × ((row_at t x).start ≡ at) × ((row_at t x).end ≡ e))
      go x true f z = let y : x ≡ k = eqb-true x k f in inr (a, ap (λ (o : ℕ). (row_at t o).start) y ∙ b, ap (λ (o : ℕ). (row_at t o).end) y ∙ c)
      go x false f z = inl (sym (get_or-set_other E k x 0 1 (eqb-false x k f)) ∙ z)

-- what an object tells is so
pub told_on : {s t E E' : List ℕ} {at : ℕ} {k : Token} {r : Lone} → Told s t E → TokenHere s at k → Behind s k.end r → Tells t E E' at k.end r.yes → Told s t E'
told_on {s} {t} {E} {E'} {at} {k} {r} d f b h x z = go (h.new x z)
  where
    go : (get_or E x 1 ≡ 0) ⊎ ((r.yes ≡ true) × ((row_at t x).start ≡ at) × ((row_at t x).end ≡ k.end)) → KeyHere s t x
    go (inl y) = d x y
    go (inr (y, v, w)) = record { alone = ap (lone s) v ∙ sym (b.yes ∙ ap (signed s) f.end) ∙ y; end = w ∙ f.end ∙ ap (key_to s) (sym v) }

-- ---- the rule at such a row

module _ (s : List ℕ) (p e : ℕ) (al : lone s p ≡ true) (en : e ≡ key_to s p) (far : p + 6 ≤ e) (quote : byte_at s p ≡ 34 → ⊥) where
  is_ident : e ≡ ident_to s p
  is_ident = en ∙ rw (ne_eqb (byte_at s p) 34 quote)

  starts : is_start (byte_at s p) ≡ true
  starts = go (is_start (byte_at s p)) refl
    where
      go : (b : Bool) → is_start (byte_at s p) ≡ b → b ≡ true
      go true y = refl
      go false y = absurd (let z : e ≡ p = is_ident ∙ rw y in omega arith)

  ran : Ran s p (ident_to s p) e
  ran = record {
    is = is_ident;
    low = omega (arith, far);
    high = let z : e ≡ run_to is_rest s (p + 1) = is_ident ∙ rw starts in let y = run_high is_rest s (p + 1) in let x = inside is_start s p refl starts in omega (arith, x, y, z);
  }

  no_call : false ≡ calls_at s false e
  no_call = sym (ap (λ (x : ℕ). calls_at s false x) en ∙ go (gap_to false s (key_to s p)).unclosed (behind_call s (behind_key s p) (lone_behind s p al)))
    where
      go : (b : Bool) {c : Bool} → c ≡ false → (not b && c) ≡ false
      go true y = refl
      go false y = y

  -- its length alone tells that it is no constant
  not_word : (w : List ℕ) → is_word w s p ≡ true → e ≡ p + length w → length w ≤ 5 → ⊥
  not_word w y z l = omega (arith, far, z, l)

  no_constant : ◌≡◌ {A = ℕ} 0 (constant_at s p)
  no_constant = go (is_word null s p) (is_word yes s p) (is_word words.no s p) refl refl refl
    where
      go : (x y z : Bool) → is_word null s p ≡ x → is_word yes s p ≡ y → is_word words.no s p ≡ z → ◌≡◌ {A = ℕ} 0 (cond x 1 (cond y 2 (cond z 3 0)))
      go true y z a b c = absurd (not_word null a (is_ident ∙ word_ends s null p tt starts a) (omega arith))
      go false true z a b c = absurd (not_word yes b (is_ident ∙ word_ends s yes p tt starts b) (omega arith))
      go false false true a b c = absurd (not_word words.no c (is_ident ∙ word_ends s words.no p tt starts c) (omega arith))
      go false false false a b c = refl

  key_head : HeadAt s p false (head_of 5 e)
  key_head = head_variable false (start_digit s (byte_at s p) starts) starts ran no_call refl no_constant refl refl

pub keyed_no : {s t : List ℕ} {i : ℕ} {lines : Bool} → SingleBy s t i lines (record { sure = false; yes = true })
keyed_no = record { other = λ z. clash (sym z); rule = λ z. clash (sym z) }

module _ {s t : List ℕ} {i : ℕ} (k : KeyHere s t i) (is : (row_at t i).kind ≡ 14) (flag : (row_at t i).flag ≡ 0) (far : (row_at t i).start + 6 ≤ (row_at t i).end) where
  key_single : (byte_at s (row_at t i).start ≡ 34 → ⊥) → SingleBy s t i false (record { sure = true; yes = true })
  key_single q =
      sure (inr is) refl (key_head s (row_at t i).start (row_at t i).end k.alone k.end far q) (λ z. omega (arith, z, far))
      (subst (λ (b : Bool). TokenAt t i 5 (row_at t i).end b) (eq-eqb _ 0 flag) (token_by refl (sym (read_key (row_at t i).kind is)) refl))

  pub keyed_by : {p : ℕ} {lines r : Bool} → p ≡ (row_at t i).start → lines ≡ false → r ≡ stands (34 ∷ []) s p → SingleBy s t i lines (record { sure = not r; yes = true })
  keyed_by {p} {lines} {r} a l e = subst (λ (b : Bool). SingleBy s t i b (record { sure = not r; yes = true })) (sym l) (go r (e ∙ ap (stands (34 ∷ []) s) a))
    where
      go : (b : Bool) → b ≡ stands (34 ∷ []) s (row_at t i).start → SingleBy s t i false (record { sure = not b; yes = true })
      go true y = keyed_no
      go false y = key_single (λ z. clash (sym (y ∙ stands_one 34 s (row_at t i).start refl ∙ eq-eqb (byte_at s (row_at t i).start) 34 z)))
