-- The tests before the walk.
use Prim.Native.Nat.{ℕ, ◌*◌, ◌-◌, ◌≤◌, ◌<◌}
use mathlib.Core.Path.{◌≡◌, refl, sym, ap, subst, ◌∙◌}
use mathlib.Core.Bool.{Bool, false}
use mathlib.Core.List.{List, [], append-nil}
use native.Mathlib.Omega.{arith}
use lib.ListN.{length}
use lib.Dec.{T}
use Rattle.lexis.specs.Utf8.{Formed, first_bad, good_after}
use Rattle.lexis.specs.RunLaws.{clash}
use Rattle.engine.specs.Base.{has}
use Rattle.grammar.specs.Moves.{an_expression}
use Rattle.grammar.specs.Published.{kinds_of, Holds}
use Rattle.grammar.proofs.DemandLaws.{formed_on}
use Rattle.checker.specs.Rows.{row_at}
use Rattle.checker.specs.Leaf.{kinds_by}
use Rattle.checker.specs.Check.{Rooted, Checks}
use Rattle.checker.proofs.Tabled.{Full, full_of}
use Rattle.checker.proofs.Nodes.{is_t, not_t}

pub checks_no : {s t text : List ℕ} → (Holds s t text → ⊥) → Checks s t text false
checks_no f = record { yes = λ z. clash (sym z); no = λ z. f }

-- ---- the root

module _ {s t : List ℕ} {n : ℕ} where
  pub rooted_no : ((text : List ℕ) → length t ≡ 7 * n → Full s t text n → ⊥) → Rooted s t n false
  rooted_no f = record { yes = λ z. clash (sym z); no = λ z long text h. f text long (full_of s t text n long h) }

  -- the root is the last row
  pub root_at : (text : List ℕ) (f : Full s t text n) → (f.rule.last ≡ n - 1) × (1 ≤ n)
  root_at text f = (omega (arith, f.rule.size_is), omega (arith, f.rule.size_is))

  pub root_count : (text : List ℕ) (f : Full s t text n) → (row_at t (n - 1)).count ≡ n
  root_count text f = subst (λ (x : ℕ). (row_at t x).count ≡ n) (root_at text f).0 f.rule.root_count

  pub root_start : (text : List ℕ) (f : Full s t text n) → (row_at t (n - 1)).start ≡ 0
  root_start text f = subst (λ (x : ℕ). (row_at t x).start ≡ 0) (root_at text f).0 f.start

  pub root_end : (text : List ℕ) (f : Full s t text n) → (row_at t (n - 1)).end ≡ length s
  root_end text f = subst (λ (x : ℕ). (row_at t x).end ≡ length s) (root_at text f).0 f.end

  pub rooted_by : {b : Bool} → b ≡ has (kinds_by 0) (row_at t (n - 1)).kind → 1 ≤ n → (row_at t (n - 1)).count ≡ n → n ≤ 65535 → (row_at t (n - 1)).start ≡ 0 → (row_at t (n - 1)).end ≡ length s → Rooted s t n b
  rooted_by e some count small start end = record {
    yes = λ z. record { some = some; count = count; small = small; start = start; end = end; kind = is_t _ (sym e ∙ z) };
    no = λ z long text h. let f = full_of s t text n long h in not_t _ (sym e ∙ z) (subst (λ (x : ℕ). T (has (kinds_of an_expression 0) (row_at t x).kind)) (root_at text f).0 f.kind);
  }

-- ---- the source

none_bad : first_bad [] ≡ 0
unfolding good_after
none_bad = refl

pub formed_end : (s : List ℕ) → Formed s → first_bad s ≡ length s
formed_end s f = ap first_bad (sym (append-nil s)) ∙ formed_on f [] ∙ omega (arith, none_bad)

pub checks_long : {s t text : List ℕ} → 65535 < length s → Checks s t text false
checks_long l = checks_no (λ h. omega (arith, h.short))

pub checks_unformed : {s t text : List ℕ} → ¬ (first_bad s ≡ length s) → Checks s t text false
checks_unformed {s} n = checks_no (λ h. n (formed_end s h.formed))
