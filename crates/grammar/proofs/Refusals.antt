-- The numbers of refusals, and an error that is handed on.
use mathlib.Core.Path.{◌≡◌, ap}
use native.Mathlib.Omega.{arith}
use Rattle.std.specs.Prelude.{Result, Ok, Err, IsErrAnd}
use Rattle.grammar.specs.declared.kinds.Refusal.{Refusal}
use Rattle.grammar.specs.declared.kinds.Refusal.TheVariants as refusal
use Rattle.grammar.specs.Kinds.{number}

-- a refusal's number is not that of an acceptance
pub numbered : (k : Refusal) → number k ≡ 0 → ⊥
numbered refusal.Long e = omega arith
numbered refusal.Utf8 e = omega arith
numbered refusal.Foreign e = omega arith
numbered refusal.Unexpected e = omega arith
numbered refusal.Escape e = omega arith
numbered refusal.Unclosed e = omega arith
numbered refusal.Duplicate e = omega arith
numbered refusal.Deep e = omega arith
numbered refusal.Directive e = omega arith
numbered refusal.Index e = omega arith
numbered refusal.Slots e = omega arith
numbered refusal.Text e = omega arith

-- what a `?` hands on
pub handed_on : {T E : Type 0} (r : Result T E) (e : E) → IsErrAnd r (λ y. y ≡ e) → r ≡ Err e
handed_on (Ok x) e h = absurd h
handed_on (Err y) e h = ap Err h
