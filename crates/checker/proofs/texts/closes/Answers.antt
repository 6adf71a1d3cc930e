use mathlib.Core.Path.{refl}
use Rattle.grammar.specs.MoveLaws.{no_to}
use Rattle.checker.proofs.Strands.{closes_quote, closes_never, closes_line, closes_as_lem}
use Rattle.checker.proofs.texts.closes.Goals as goal

pub returns-in-Quote : goal.returns-in-Quote
returns-in-Quote c = closes_as_lem (c.in-Quote.is) closes_quote

pub returns-in-Interpolation : goal.returns-in-Interpolation
returns-in-Interpolation c = closes_as_lem (c.in-Interpolation.is) (closes_never (λ σ e. no_to e))

pub returns-in-Directive : goal.returns-in-Directive
returns-in-Directive c = closes_as_lem (c.in-Directive.is) (closes_never (λ σ e. no_to e))

pub returns-in-Escape : goal.returns-in-Escape
returns-in-Escape c = closes_as_lem (c.in-Escape.is) (closes_never (λ σ e. no_to e))

pub returns-in-Closing : goal.returns-in-Closing
returns-in-Closing c = closes_as_lem (c.in-Closing.is) (closes_line refl (λ σ. refl) (c.line_ends.ensures))

pub returns-in-Foreign : goal.returns-in-Foreign
returns-in-Foreign c = closes_as_lem (c.in-Foreign.is) (closes_line refl (λ σ. refl) (c.line_ends-in-Foreign.ensures))

pub returns-in-End : goal.returns-in-End
returns-in-End c = closes_as_lem (c.in-End.is) (closes_never (λ σ e. no_to e))
