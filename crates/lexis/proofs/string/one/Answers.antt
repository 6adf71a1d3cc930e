use Prim.Native.Nat.{ℕ}
use mathlib.Core.Path.{ap, ◌∙◌}
use Rattle.lexis.specs.String.{made_of}
use Rattle.lexis.proofs.Spelling.{pack_one}
use Rattle.lexis.proofs.string.one.Goals as goal

pub returns : goal.returns
returns c = c.made.ensures ∙ ap (λ (x : ℕ). made_of c.args.width x 1) (c.from.ensures ∙ pack_one c.args.b)
