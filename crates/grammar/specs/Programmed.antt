-- What the prover computed of each kind of the program, as one record.
use Rattle.std.specs.Prelude.{ℕ, ◌+◌, List, [], ◌∷◌, Bool, true, false, ◌&&◌, ◌⊎◌, eqb, ltb, T}
use Rattle.std.proofs.Common.{subst, inl, inr, eqb→eq}
use Rattle.engine.specs.Base.{has, all_of}
use Rattle.engine.specs.BaseLaws.{has_all, or_t}
use Rattle.engine.specs.Layout.{bad, fin, move, kid, fork, rep}
use Rattle.grammar.specs.Layouts.{Layout, layout_of, layouts}
use Rattle.grammar.specs.Code.{Codes, All, right_coded, coded, begin, begins, program, code, otherwise}
use Rattle.grammar.specs.Thrift.{thrift, thrifty}
use Rattle.grammar.specs.Wants.{suited, all_suited}

-- how many instructions there are
abbrev pub instructions : ℕ
instructions = 228

-- from an instruction the program only goes forward
abbrev pub ahead : ℕ → Layout → Bool
ahead pc bad = true
ahead pc (fin φ) = ltb pc instructions
ahead pc (move m l) = ltb pc instructions && ahead (pc + 1) l
ahead pc (kid c l) = ltb pc instructions && ahead (pc + 1) l
ahead pc (fork m l l') = (ltb pc instructions && ltb pc (otherwise (code pc))) && (ahead (pc + 1) l && ahead (otherwise (code pc)) l')
ahead pc (rep m c l) = (ltb pc instructions && ltb pc (otherwise (code pc))) && ahead (otherwise (code pc)) l

all_ahead : T (all_of (λ k. ahead (begin k) (layout_of k)) coded)
unfolding layouts program begins
all_ahead = tt

pub record Programmed (k : ℕ) : Type 0 where
  pub codes : Codes (begin k) (layout_of k)
  pub thrifty : T (thrift k false 0 (layout_of k))
  pub suited : T (suited k (layout_of k))
  pub ahead : T (ahead (begin k) (layout_of k))

codes_all : (ks : List ℕ) → All ks → (k : ℕ) → T (has ks k) → Codes (begin k) (layout_of k)
codes_all [] t k h = absurd h
codes_all (x ∷ xs) (t, ts) k h = go (or_t (eqb x k) (has xs k) h) (codes_all xs ts k)
  where
    go : T (eqb x k) ⊎ T (has xs k) → (T (has xs k) → Codes (begin k) (layout_of k)) → Codes (begin k) (layout_of k)
    go (inl e) f = subst (λ (z : ℕ). Codes (begin z) (layout_of z)) (eqb→eq x k e) t
    go (inr e) f = f e

pub programmed : (k : ℕ) → T (has coded k) → Programmed k
programmed k h = record {
  codes = codes_all coded right_coded k h;
  thrifty = has_all (λ k. thrift k false 0 (layout_of k)) coded thrifty k h;
  suited = has_all (λ k. suited k (layout_of k)) coded all_suited k h;
  ahead = has_all (λ k. ahead (begin k) (layout_of k)) coded all_ahead k h;
}
