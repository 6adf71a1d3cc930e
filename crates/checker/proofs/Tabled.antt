-- A table's rows: the rule of a table from anyone, over its numbers.
use Prim.Native.Nat.{ℕ, zero, suc, ◌+◌, ◌*◌, ◌%◌, ◌≤◌, ◌<◌}
use mathlib.Core.Path.{◌≡◌, refl, sym, ap, subst, ◌∙◌, fun_ext}
use mathlib.Core.Bool.{false}
use mathlib.Core.List.{List, [], ◌∷◌}
use native.Mathlib.Omega.{arith}
use lib.ListN.{length, get_or, drop}
use lib.Dec.{T}
use Rattle.engine.specs.Base.{has}
use Rattle.engine.specs.Rule.{Kids, Table}
use Rattle.lexis.specs.Utf8.{Formed}
use Rattle.grammar.specs.Kinds.{most, levels}
use Rattle.grammar.specs.Moves.{an_expression}
use Rattle.grammar.specs.Table.{Record, numbers}
use Rattle.grammar.specs.Published.{depth, kinds_of, Rule, used, Texted, row_of, rows_in, Holds}
use Rattle.grammar.specs.RuleTable.{parts_holds, holds_parts}
use Rattle.grammar.proofs.OrderLaws.{holds_ordered}
use Rattle.checker.specs.Rows.{row_at, rows}

-- ---- a list of rows and its numbers

shift : (a b c d e f g : ℕ) (l : List ℕ) (i k : ℕ) → get_or (a ∷ b ∷ c ∷ d ∷ e ∷ f ∷ g ∷ l) (7 * suc i + k) 0 ≡ get_or l (7 * i + k) 0
shift a b c d e f g l i k = let z : 7 * suc i + k ≡ suc (suc (suc (suc (suc (suc (suc (7 * i + k))))))) = omega arith in rw z

row_is : (rs : List Record) (i : ℕ) → row_at (numbers rs) i ≡ rows_in rs i
row_is [] i = refl
row_is (r ∷ rs) zero = refl
row_is (r ∷ rs) (suc i) =
    let z : 7 * suc i ≡ 7 * suc i + 0 = omega arith in
    let w : 7 * i + 0 ≡ 7 * i = omega arith in
    let at : (k : ℕ) → get_or (numbers (r ∷ rs)) (7 * suc i + k) 0 ≡ get_or (numbers rs) (7 * i + k) 0 = shift r.kind r.flag r.start r.end r.count r.from r.length (numbers rs) i in
    let first : get_or (numbers (r ∷ rs)) (7 * suc i) 0 ≡ get_or (numbers rs) (7 * i) 0 = ap (λ (x : ℕ). get_or (numbers (r ∷ rs)) x 0) z ∙ at 0 ∙ ap (λ (x : ℕ). get_or (numbers rs) x 0) w in
    let e₁ = at 1 in
    let e₂ = at 2 in
    let e₃ = at 3 in
    let e₄ = at 4 in
    let e₅ = at 5 in
    let e₆ = at 6 in
    same first e₁ e₂ e₃ e₄ e₅ e₆ ∙ row_is rs i
  where
    same : {k k' f f' s s' e e' c c' x x' y y' : ℕ} → k ≡ k' → f ≡ f' → s ≡ s' → e ≡ e' → c ≡ c' → x ≡ x' → y ≡ y'
        → ◌≡◌ {A = Record} (record { kind = k; flag = f; start = s; end = e; count = c; from = x; length = y }) (record { kind = k'; flag = f'; start = s'; end = e'; count = c'; from = x'; length = y' })
    same p q r s t u v = cc

pub numbers_long : (rs : List Record) → length (numbers rs) ≡ 7 * length rs
numbers_long [] = refl
numbers_long (r ∷ rs) = let z = numbers_long rs in omega arith

-- the rows of a table of n
abbrev listed : List ℕ → ℕ → List Record
listed t zero = []
listed t (suc n) = row_at t 0 ∷ listed (drop 7 t) n

listed_numbers : (t : List ℕ) (n : ℕ) → length t ≡ 7 * n → numbers (listed t n) ≡ t
listed_numbers [] zero e = refl
listed_numbers (a ∷ t) zero e = absurd (omega arith)
listed_numbers [] (suc n) e = absurd (omega arith)
listed_numbers (a ∷ []) (suc n) e = absurd (omega arith)
listed_numbers (a ∷ b ∷ []) (suc n) e = absurd (omega arith)
listed_numbers (a ∷ b ∷ c ∷ []) (suc n) e = absurd (omega arith)
listed_numbers (a ∷ b ∷ c ∷ d ∷ []) (suc n) e = absurd (omega arith)
listed_numbers (a ∷ b ∷ c ∷ d ∷ x ∷ []) (suc n) e = absurd (omega arith)
listed_numbers (a ∷ b ∷ c ∷ d ∷ x ∷ y ∷ []) (suc n) e = absurd (omega arith)
listed_numbers (a ∷ b ∷ c ∷ d ∷ x ∷ y ∷ z ∷ l) (suc n) e = let w = listed_numbers l n (omega arith) in rw w

-- ---- the rule over the numbers

pub record Full (s t text : List ℕ) (n : ℕ) : Type 0 where
  pub short : length s ≤ most
  pub formed : Formed s
  pub rule : Table (Rule s) (rows t) (depth levels false) n
  pub kind : T (has (kinds_of an_expression 0) (row_at t rule.last).kind)
  pub start : (row_at t rule.last).start ≡ 0
  pub end : (row_at t rule.last).end ≡ length s
  pub words : (i : ℕ) → i < n → ¬ ((row_at t i).kind ≡ 9) → Texted s text 0 (used (row_at t) i) (row_at t i)
  pub pieces : (i lo : ℕ) (js : List ℕ) → i < n → lo + (row_at t i).count ≡ suc i → Kids (rows t) lo i js
      → (j : ℕ) → T (has js j) → (row_at t j).kind ≡ 9 → Texted s text (row_at t i).start (used (row_at t) j) (row_at t j)
  pub all_used : used (row_at t) n ≡ length text

-- over any function from places to rows
record Over (s t text : List ℕ) (n : ℕ) (f : ℕ → Record) : Type 0 where
  short : length s ≤ most
  formed : Formed s
  rule : Table (Rule s) (λ i. row_of (f i)) (depth levels false) n
  kind : T (has (kinds_of an_expression 0) (f rule.last).kind)
  start : (f rule.last).start ≡ 0
  end : (f rule.last).end ≡ length s
  words : (i : ℕ) → i < n → ¬ ((f i).kind ≡ 9) → Texted s text 0 (used f i) (f i)
  pieces : (i lo : ℕ) (js : List ℕ) → i < n → lo + (f i).count ≡ suc i → Kids (λ i. row_of (f i)) lo i js → (j : ℕ) → T (has js j) → (f j).kind ≡ 9 → Texted s text (f i).start (used f j) (f j)
  all_used : used f n ≡ length text

pub full_of : (s t text : List ℕ) (n : ℕ) → length t ≡ 7 * n → Holds s t text → Full s t text n
full_of s t text n long h =
    let p = holds_parts s t text h in
    let f : rows_in p.rows ≡ row_at t = fun_ext (λ i. sym (ap (λ (x : List ℕ). row_at x i) (sym p.seven) ∙ row_is p.rows i)) in
    let m : length p.rows ≡ n = omega (arith, numbers_long p.rows, ap length p.seven) in
    let o : Over s t text (length p.rows) (rows_in p.rows) = record { short = p.short; formed = p.formed; rule = p.rule; kind = p.kind; start = p.start; end = p.end; words = p.words; pieces = p.pieces; all_used = p.all_used } in
    let x : Over s t text n (row_at t) = subst (λ (g : ℕ → Record). Over s t text n g) f (subst (λ (k : ℕ). Over s t text k (rows_in p.rows)) m o) in
    record { short = x.short; formed = x.formed; rule = x.rule; kind = x.kind; start = x.start; end = x.end; words = x.words; pieces = x.pieces; all_used = x.all_used }

pub of_full : (s t text : List ℕ) (n : ℕ) → length t ≡ 7 * n → Full s t text n → Holds s t text
of_full s t text n long h =
    let e : numbers (listed t n) ≡ t = listed_numbers t n long in
    let f : row_at t ≡ rows_in (listed t n) = fun_ext (λ i. ap (λ (x : List ℕ). row_at x i) (sym e) ∙ row_is (listed t n) i) in
    let m : n ≡ length (listed t n) = omega (arith, numbers_long (listed t n), ap length e) in
    let o : Over s t text n (row_at t) = record { short = h.short; formed = h.formed; rule = h.rule; kind = h.kind; start = h.start; end = h.end; words = h.words; pieces = h.pieces; all_used = h.all_used } in
    let x : Over s t text (length (listed t n)) (rows_in (listed t n)) = subst (λ (k : ℕ). Over s t text k (rows_in (listed t n))) m (subst (λ (g : ℕ → Record). Over s t text n g) f o) in
    parts_holds s t text (record { short = x.short; formed = x.formed; rows = listed t n; seven = e; rule = x.rule; kind = x.kind; start = x.start; end = x.end; words = x.words; pieces = x.pieces; all_used = x.all_used })

pub ordered_of : (s t text : List ℕ) (n : ℕ) → length t ≡ 7 * n → (h : Holds s t text) → (i : ℕ) → i < n → (row_at t i).start < (row_at t i).end
ordered_of s t text n long h i l =
    let m : length h.rows ≡ n = omega (arith, numbers_long h.rows, ap length h.seven) in
    let e : rows_in h.rows i ≡ row_at t i = sym (ap (λ (x : List ℕ). row_at x i) (sym h.seven) ∙ row_is h.rows i) in
    subst (λ (r : Record). r.start < r.end) e (holds_ordered s t text h i (omega arith))

-- a table has seven numbers a row
pub sevens : {s t text : List ℕ} → Holds s t text → length t % 7 ≡ 0
sevens {t = t} h = omega (arith, numbers_long h.rows, ap length h.seven)
