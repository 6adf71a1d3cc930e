-- Laws on tokens: where each ends. An end that is not p is past p, so the token stands within the source.
use Rattle.std.specs.Prelude.{ℕ, ◌+◌, ◌*◌, ◌-◌, ◌≤◌, ◌<◌, ◌≡◌, refl, List, [], ◌∷◌, Bool, true, false, cond, not, ◌&&◌, ◌||◌, length, drop, eqb, leb, T}
use Rattle.std.proofs.Common.{arith, leb→le}
use Rattle.lexis.specs.declared.operator.Op.{Op}
use Rattle.lexis.specs.Bytes.{byte_at, is_digit, is_start, is_rest, run_to, begins, stands}
use Rattle.lexis.specs.Word.{ident_to, is_word, word_to, for', ends_for, for_to}
use Rattle.lexis.specs.Number.{digits_to, fraction_to, sign_to, exponent_to, number_to, index_to}
use Rattle.lexis.specs.Operator.{Row, no_op, operators, among, op_at, any_of, is_mark, mark_to}
use Rattle.lexis.specs.Heredoc.{line_end}
use Rattle.lexis.specs.TriviaLaws.{ending_most}
use Rattle.lexis.specs.RunLaws.{inside, left, and_left, and_right, run_high, run_on, begins_most, stands_inside}

-- e is an end that may be reached from p: not before p, within the source where p is, and p itself where p is not
pub record Within (s : List ℕ) (p e : ℕ) : Type 0 where
  pub low : p ≤ e
  pub high : e ≤ p + (length s - p)

-- one or the other, as a test has it
pub if_within : {s : List ℕ} {p x y : ℕ} (b : Bool) → (b ≡ true → Within s p x) → (b ≡ false → Within s p y) → Within s p (cond b x y)
if_within true f g = f refl
if_within false f g = g refl

module _ (s : List ℕ) where
  pub stays : (p : ℕ) → Within s p p
  stays p = record { low = omega arith; high = omega arith }

  pub further : {p q r : ℕ} → Within s p q → Within s q r → Within s p r
  further f g = record { low = omega arith; high = omega arith }

  -- bytes within the source
  pub takes : (p n : ℕ) → n ≤ length s - p → Within s p (p + n)
  takes p n h = record { low = omega arith; high = omega arith }

  pub run_within : (t : ℕ → Bool) (p : ℕ) → Within s p (run_to t s p)
  run_within t p = record { low = omega arith; high = run_high t s p }

  -- a run behind n bytes that are within the source
  behind : (t : ℕ → Bool) (p n : ℕ) → n ≤ length s - p → Within s p (run_to t s (p + n))
  behind t p n h = further (takes p n h) (run_within t (p + n))

  module _ (p : ℕ) where
    pub ident_within : Within s p (ident_to s p)
    ident_within = if_within (is_start (byte_at s p)) (λ e. let h = inside is_start s p refl e in behind is_rest p 1 (omega arith)) (λ e. stays p)

    pub fraction_within : Within s p (fraction_to s p)
    fraction_within =
        if_within (eqb (byte_at s p) 46 && is_digit (byte_at s (p + 1)))
        (λ e. let h = inside is_digit s (p + 1) refl (and_right (eqb (byte_at s p) 46) (is_digit (byte_at s (p + 1))) e) in behind is_digit p 1 (omega arith))
        (λ e. stays p)

    sign_low : p ≤ sign_to s p
    sign_low = go (eqb (byte_at s p) 43 || eqb (byte_at s p) 45)
      where
        go : (b : Bool) → p ≤ cond b (p + 1) p
        go true = omega arith
        go false = omega arith

  module _ (p : ℕ) where
    pub exponent_within : Within s p (exponent_to s p)
    exponent_within =
        let b = eqb (byte_at s p) 101 || eqb (byte_at s p) 69 in
        let q = sign_to s (p + 1) in
        if_within (b && is_digit (byte_at s q))
        (λ e.
        let h = inside is_digit s q refl (and_right b (is_digit (byte_at s q)) e) in
        let l = sign_low (p + 1) in
        let m : Within s p q = record { low = omega arith; high = omega arith } in
        further m (run_within is_digit q))
        (λ e. stays p)

  module _ (p : ℕ) where
    pub number_within : Within s p (number_to s p)
    number_within =
        if_within (is_digit (byte_at s p))
        (λ e. further (further (run_within is_digit p) (fraction_within (digits_to s p))) (exponent_within (fraction_to s (digits_to s p))))
        (λ e. stays p)

    pub index_within : Within s p (index_to s p)
    index_within =
        if_within (eqb (byte_at s p) 48)
        (λ e. let h = inside (λ x. eqb x 48) s p refl e in takes p 1 (omega arith))
        (λ e. run_within is_digit p)

    pub for_within : Within s p (for_to s p)
    for_within =
        if_within (stands for' s p && ends_for (byte_at s (p + 3)))
        (λ e. takes p 3 (stands_inside for' s p (and_left (stands for' s p) (ends_for (byte_at s (p + 3))) e)))
        (λ e. stays p)

    -- a line ending
    pub line_within : Within s p (p + line_end s p)
    line_within = takes p (line_end s p) (omega (arith, ending_most (drop p s), left s p))

    -- words and marks
    pub word_within : (w : List ℕ) → is_word w s p ≡ true → Within s p (p + length w)
    word_within w e = takes p (length w) (stands_inside w s p (and_left (stands w s p) (not (is_rest (byte_at s (p + length w)))) e))

    pub mark_within : (w : List ℕ) (longer : List (List ℕ)) → is_mark w longer s p ≡ true → Within s p (p + length w)
    mark_within w longer e = takes p (length w) (stands_inside w s p (and_left (stands w s p) (not (any_of longer s p)) e))

    pub word_ends : (w : List ℕ) → Within s p (word_to w s p)
    word_ends w = if_within (is_word w s p) (word_within w) (λ e. stays p)

    pub mark_ends : (w : List ℕ) (longer : List (List ℕ)) → Within s p (mark_to w longer s p)
    mark_ends w longer = if_within (is_mark w longer s p) (mark_within w longer) (λ e. stays p)

    -- a token that stands is not empty
    pub ident_on : is_start (byte_at s p) ≡ true → p < ident_to s p
    ident_on e = rw e (omega arith)

    digits_on : is_digit (byte_at s p) ≡ true → p < digits_to s p
    digits_on e = omega (arith, run_on is_digit s p (inside is_digit s p refl e) e)

    pub number_on : is_digit (byte_at s p) ≡ true → p < number_to s p
    number_on e =
        rw e
        (omega (arith, digits_on e, (fraction_within (digits_to s p)).low, (exponent_within (fraction_to s (digits_to s p))).low))

    pub index_on : is_digit (byte_at s p) ≡ true → p < index_to s p
    index_on e = first (eqb (byte_at s p) 48)
      where
        first : (b : Bool) → p < cond b (p + 1) (digits_to s p)
        first true = omega arith
        first false = digits_on e

    pub word_on : (w : List ℕ) → is_word w s p ≡ true → 1 ≤ length w → p < word_to w s p
    word_on w e h = rw e (omega arith)

    pub mark_on : (w : List ℕ) (longer : List (List ℕ)) → is_mark w longer s p ≡ true → 1 ≤ length w → p < mark_to w longer s p
    mark_on w longer e h = rw e (omega arith)

-- ---- operators

-- what holds of the rows whose bytes stand at the front of a list, and of no operator, holds of the operator there
abbrev pub Rows : (Op → Type 0) → List ℕ → List Row → Type 0
Rows Q xs [] = Q no_op
Rows Q xs (r ∷ rs) = (begins r.bytes xs ≡ true → Q r.op) × Rows Q xs rs

pub among_is : (Q : Op → Type 0) (xs : List ℕ) (rs : List Row) → Rows Q xs rs → Q (among rs xs)
among_is Q xs [] h = h
among_is Q xs (r ∷ rs) (h, hs) = go (begins r.bytes xs) refl (among_is Q xs rs hs)
  where
    go : (b : Bool) → begins r.bytes xs ≡ b → Q (among rs xs) → Q (cond b r.op (among rs xs))
    go true e ih = h e
    go false e ih = ih

t_and : (a b : Bool) → T (a && b) → T a × T b
t_and true b t = (tt, t)
t_and false b t = absurd t

-- a test of the table, which computes, passes at each operator that is found
abbrev pub ops_pass : (Op → Bool) → List Row → Bool
ops_pass q [] = q no_op
ops_pass q (r ∷ rs) = q r.op && ops_pass q rs

pass_rows : (q : Op → Bool) (xs : List ℕ) (rs : List Row) → T (ops_pass q rs) → Rows (λ o. T (q o)) xs rs
pass_rows q xs [] t = t
pass_rows q xs (r ∷ rs) t = let (u, v) = t_and (q r.op) (ops_pass q rs) t in (λ e. u, pass_rows q xs rs v)

pub op_all : (q : Op → Bool) → T (ops_pass q operators) → (s : List ℕ) (p : ℕ) → T (q (op_at s p))
unfolding op_at
op_all q t s p = among_is (λ o. T (q o)) (drop p s) operators (pass_rows q (drop p s) operators t)

-- an operator is within the source, and has a width where it is one
pub record Wide (n : ℕ) (o : Op) : Type 0 where
  pub inside : o.width ≤ n
  pub wide : o.kind ≤ 36 * o.width

abbrev fair : List Row → Bool
fair [] = true
fair (r ∷ rs) = (leb r.op.width (length r.bytes) && leb r.op.kind (36 * r.op.width)) && fair rs

fair_rows : (xs : List ℕ) (rs : List Row) → T (fair rs) → Rows (Wide (length xs)) xs rs
fair_rows xs [] t = record { inside = omega arith; wide = omega arith }
fair_rows xs (r ∷ rs) t =
    let (u, v) = t_and (leb r.op.width (length r.bytes) && leb r.op.kind (36 * r.op.width)) (fair rs) t in
    let (a, b) = t_and (leb r.op.width (length r.bytes)) (leb r.op.kind (36 * r.op.width)) u in (
      λ e. record { inside = omega (arith, leb→le r.op.width (length r.bytes) a, begins_most r.bytes xs e); wide = leb→le r.op.kind (36 * r.op.width) b },
      fair_rows xs rs v,
    )

pub op_wide : (s : List ℕ) (p : ℕ) → Wide (length s - p) (op_at s p)
unfolding op_at
op_wide s p = let h = among_is (Wide (length (drop p s))) (drop p s) operators (fair_rows (drop p s) operators tt) in rw (left s p) at h
