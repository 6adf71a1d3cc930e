-- `string` meets its contract.
use mathlib.Core.Path.{refl}
use native.Mathlib.Omega.{arith}
use Rattle.grammar.proofs.Refusals.{numbered, handed_on}
use Rattle.reader.proofs.Strings.{string_leaf, said_no, said_escaped, said_plain}
use Rattle.reader.proofs.Views.{told}
use Rattle.reader.proofs.text.string.Goals as goal

pub returns-in_err-c : goal.returns-in_err-c
returns-in_err-c c = rw (handed_on c.from_residual.result c.in_err-c.field-0.0 c.from_residual.ensures.1) (said_no c.requires.0 c.requires.1 c.in_err-c.ensures (numbered _))

pub leaf-requires : goal.leaf-requires
leaf-requires c = string_leaf c.requires.0 c.requires.1 c.in_ok-c.ensures (omega (arith, c.requires.0, c.requires.1)) (omega (arith, c.requires.1))

pub returns-then-r : goal.returns-then-r
returns-then-r c = said_escaped c.requires.0 c.requires.1 c.in_ok-c.ensures refl c.if-r.true (told c.accept.ensures) c.leaf.ensures c.write.ensures

pub leaf-requires-2 : goal.leaf-requires-2
leaf-requires-2 c = string_leaf c.requires.0 c.requires.1 c.in_ok-c.ensures (omega (arith, c.requires.1)) (omega arith)

pub returns : goal.returns
returns c = said_plain c.requires.0 c.requires.1 c.in_ok-c.ensures refl c.if-r.false (told c.accept-2.ensures) c.leaf-2.ensures
