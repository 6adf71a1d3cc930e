-- The published rule at 01's examples: it holds of each table that 01 gives, and of no other table of that source.
use Rattle.std.specs.Prelude.{ℕ, ◌≡◌, refl, List, [], ◌∷◌, get_or}
use Rattle.std.proofs.Common.{sym, ap, ◌∙◌, subst, arith}
use Rattle.engine.specs.Base.{Outcome, ok, halt, stuck, Tree}
use Rattle.grammar.specs.Answer.{Answer, answer_of, outcome}
use Rattle.grammar.specs.Examples.{Shown, shown_as, shown, Example, examples, All, right}
use Rattle.grammar.specs.Published.{Holds}
use Rattle.grammar.proofs.DemandLaws.{accepted_when, fair_is, derives_reading, demand_3_own, demand_3_one}

answer_shown : (s : List ℕ) (o : Outcome ℕ (Tree ℕ)) → (shown_as s o).answer ≡ answer_of s 65535 65535
answer_shown s (ok t) = refl
answer_shown s (halt k p) = refl
answer_shown s stuck = refl

-- what is shown of an accepted source is a table and a text at which the rule holds
pub shown_holds : (s : List ℕ) (x : Shown) → shown s ≡ x → x.answer.kind ≡ 0 → Holds s x.records x.text
shown_holds s x e k =
    let a = accepted_when s 65535 65535 (ap (λ (y : Answer). y.kind) (sym (answer_shown s (outcome s)) ∙ ap (λ (y : Shown). y.answer) e) ∙ k) in
    let o : outcome s ≡ ok a.tree = fair_is s a.fair ∙ derives_reading s a.tree a.derives in
    let y : shown_as s (ok a.tree) ≡ x = ap (shown_as s) (sym o) ∙ e in
    subst (λ (z : Shown). Holds s z.records z.text) y (demand_3_own s 65535 65535 a)

-- each example that is accepted
abbrev pub Met : List Example → Type 0
Met [] = Unit {0}
Met (x ∷ xs) = (x.right.answer.kind ≡ 0 → Holds x.source x.right.records x.right.text) × Met xs

all_met : (xs : List Example) → All xs → Met xs
all_met [] h = tt
all_met (x ∷ xs) (e, h) = (shown_holds x.source x.right e, all_met xs h)

pub met : Met examples
met = all_met examples right

-- "Folding operators to the right": `8-3-2` with 3-2 as the right operand of the first `-` is refused
pub folded_right : ¬ Holds (56 ∷ 45 ∷ 51 ∷ 45 ∷ 50 ∷ [])
    (4 ∷ 0 ∷ 0 ∷ 1 ∷ 1 ∷ 0 ∷ 0 ∷ 4 ∷ 0 ∷ 2 ∷ 3 ∷ 1 ∷ 0 ∷ 0 ∷ 4 ∷ 0 ∷ 4 ∷ 5 ∷ 1 ∷ 0 ∷ 0 ∷ 28 ∷ 0 ∷ 2 ∷ 5 ∷ 3 ∷ 0 ∷ 0 ∷ 28 ∷ 0 ∷ 0 ∷ 5 ∷ 5 ∷ 0 ∷ 0 ∷ []) []
folded_right h =
    let (a, b) = demand_3_one (56 ∷ 45 ∷ 51 ∷ 45 ∷ 50 ∷ []) _ _ _ _ (met.1.0 refl) h in
    let z : ◌≡◌ {A = ℕ} 28 4 = ap (λ (l : List ℕ). get_or l 14 0) a in
    absurd (omega arith)
