use Prim.Native.Nat.{ℕ, ◌+◌}
use mathlib.Core.Path.{refl, sym, ap, ◌∙◌}
use mathlib.Core.List.{[], ◌∷◌}
use mathlib.Core.Bool.{true}
use Rattle.std.specs.Prelude.{Ok}
use Rattle.lexis.specs.Bytes.{byte_at}
use Rattle.lexis.specs.String.{answer_of, made_of}
use Rattle.lexis.proofs.Spelling.{packs, pack_two}
use Rattle.lexis.proofs.Units.{marker_escaped}
use Rattle.lexis.proofs.string.marker_at.Goals as goal

pub returns : goal.returns
returns c = ap Ok (c.made.ensures ∙ ap (λ (x : ℕ). made_of 3 x 2) (rw (c.from-2.ensures, c.from-3.ensures))) ∙ packs 3 _ 2 (c.args.b ∷ 123 ∷ []) true (pack_two c.args.b 123) refl ∙ ap answer_of (sym (marker_escaped c.args.why c.args.b (byte_at c.args.s.now (c.args.p + 1)) (byte_at c.args.s.now (c.args.p + 2)) (sym c.byte_at-c.ensures.is ∙ c.if-c-from.false ∙ c.from.ensures) (sym c.byte_at.ensures.is ∙ c.if-byte_at-ne-BRACE.false)))
