use mathlib.Core.Path.{refl, sym, ap, ◌∙◌}
use mathlib.Core.Bool.{true, false}
use lib.ListN.{drop}
use Rattle.lexis.specs.declared.heredoc.Line.{Line}
use Rattle.lexis.specs.String.{answer_of, unit, unit_in, line_or, mode_of}
use Rattle.lexis.proofs.Units.{unit_here, same_here}
use Rattle.lexis.proofs.Texts.{in_sound, in_quoted, in_text, in_line}
use Rattle.lexis.proofs.string.unit_in.Goals as goal

pub returns-in-Quoted : goal.returns-in-Quoted
returns-in-Quoted c = rw c.in-Quoted.is (same_here (in_quoted c.args.s.now c.args.p true c.args.fresh 0 0 c.if-s-p.false refl) c.unit_at.ensures)

pub returns-then-not-fresh : goal.returns-then-not-fresh
returns-then-not-fresh c = rw c.in-Heredoc.is (same_here (in_text c.args.s.now c.args.p false c.args.fresh c.in-Heredoc.from c.in-Heredoc.to c.if-s-p.false refl (c.if-not-fresh.true)) c.unit_at-then-not-fresh.ensures)

pub returns-in-Text : goal.returns-in-Text
returns-in-Text c = rw c.in-Heredoc.is (same_here (in_line c.args.s.now c.args.p false c.args.fresh c.in-Heredoc.from c.in-Heredoc.to c.if-s-p.false refl (c.if-not-fresh.false) c.line_at.result c.line_at.ensures ∙ ap (λ (x : Line). line_or x (unit false (drop c.args.p c.args.s.now))) c.in-Text.is) c.unit_at-in-Text.ensures)

pub returns-in-Closes : goal.returns-in-Closes
returns-in-Closes c = rw c.in-Heredoc.is (unit_here c.args.s.now (unit_in (mode_of c.args.s.now false c.in-Heredoc.from c.in-Heredoc.to) c.args.fresh (drop c.args.p c.args.s.now)) c.args.p _ (in_sound (mode_of c.args.s.now false c.in-Heredoc.from c.in-Heredoc.to) c.args.fresh (drop c.args.p c.args.s.now)) (ap answer_of (sym (in_line c.args.s.now c.args.p false c.args.fresh c.in-Heredoc.from c.in-Heredoc.to c.if-s-p.false refl (c.if-not-fresh.false) c.line_at.result c.line_at.ensures ∙ ap (λ (x : Line). line_or x (unit false (drop c.args.p c.args.s.now))) c.in-Closes.is))))

pub returns-in-Foreign : goal.returns-in-Foreign
returns-in-Foreign c = rw c.in-Heredoc.is (unit_here c.args.s.now (unit_in (mode_of c.args.s.now false c.in-Heredoc.from c.in-Heredoc.to) c.args.fresh (drop c.args.p c.args.s.now)) c.args.p _ (in_sound (mode_of c.args.s.now false c.in-Heredoc.from c.in-Heredoc.to) c.args.fresh (drop c.args.p c.args.s.now)) (ap answer_of (sym (in_line c.args.s.now c.args.p false c.args.fresh c.in-Heredoc.from c.in-Heredoc.to c.if-s-p.false refl (c.if-not-fresh.false) c.line_at.result c.line_at.ensures ∙ ap (λ (x : Line). line_or x (unit false (drop c.args.p c.args.s.now))) c.in-Foreign.is))))
