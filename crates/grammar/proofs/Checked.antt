-- The engine's check at HCL: its tables are sane, its reading moves on, and nothing follows the source's end. So the engine's theorems
-- hold of HCL: the rule and the reading agree, there is one table at most, and every source is answered.
use Rattle.std.specs.Prelude.{ℕ, ◌≡◌, List, [], false, length, drop, eqb, T}
use Rattle.std.proofs.Common.{arith, eqb→eq}
use Rattle.lexis.specs.Trivia.{gap, gap_to, ends_at}
use Rattle.lexis.specs.RunLaws.{empty}
use Rattle.engine.specs.Layout.{after}
use Rattle.engine.specs.Source.{Checked}
use Rattle.grammar.specs.Hcl.{hcl}
use Rattle.grammar.specs.Answer.{root, source}
use Rattle.grammar.specs.StillLaws.{still_at, still_end}
use Rattle.grammar.specs.Going.{going}
use Rattle.grammar.specs.QuietLaws.{follow_none}
use Rattle.grammar.proofs.Sane.{sane}

-- past the source's last byte there is no trivia, and nothing follows
pub quiet : (s : List ℕ) (e : ℕ) → T (eqb e (length s)) → after (hcl s) root e ≡ 0
unfolding gap
quiet s e t =
    let z : drop e s ≡ [] = empty s e (omega (arith, eqb→eq e (length s) t)) in
    let g : gap_to false s e ≡ ends_at e = rw z in
    follow_none s root e (rw g (still_at s e (rw z still_end)))

pub checked : (s : List ℕ) → Checked (source s)
checked s = record { sane = sane s; going = going s; quiet = quiet s }
