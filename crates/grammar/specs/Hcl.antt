-- HCL as tables: what each place calls for, what may follow an operand, what a child is under; the language of a source for the engine.
use Rattle.std.specs.Prelude.{ℕ, ◌+◌, ◌-◌, min, List, [], ◌∷◌, Bool, true, false, cond, not, ◌&&◌, ◌||◌, eqb, leb, ltb}
use Rattle.std.proofs.Math.Option.{Option, none, some}
use Rattle.lexis.specs.declared.string.Why.{Why}
use Rattle.lexis.specs.declared.string.Why.TheVariants as why
use Rattle.lexis.specs.Bytes.{byte_at, is_digit, is_start, stands}
use Rattle.lexis.specs.Trivia.{Gap, gap_to}
use Rattle.lexis.specs.Word.{ident_to, is_word, for_to, null, yes, no}
use Rattle.lexis.specs.Operator.{op_at, is_mark, any_of}
use Rattle.lexis.specs.String.{quoted, text_at}
use Rattle.engine.specs.Base.{Rec, choose}
use Rattle.engine.specs.Layout.{Lang}
use Rattle.grammar.specs.Kinds.{tight_of, hold_of, Deep}
use Rattle.grammar.specs.Moves.{Want, an_expression, a_name, an_item, a_part, a_piece, a_condition, Under, place, refusal, unexpected, is_part, lones, gap, mark, opens, word, ahead, for, ident, number, index, operator, parts, unless, comma, stop, ended, call, fresh, ending, run, piece, more, close, Space, any, line, here, Move, walk}
use Rattle.grammar.specs.Layouts.{Class, inside, single, key, value, test, branch, term, right, entry, called, portion, piecewise, filter, layout_of}

-- ---- what a place calls for

-- past trivia that is closed
abbrev pub beyond : Gap → (ℕ → Bool) → Bool
beyond g f = not g.unclosed && f g.at

-- "An identifier followed, past its mode's trivia, by `::` or `(` is a call, whatever its spelling."
abbrev pub is_call : List ℕ → Bool → ℕ → Bool
is_call s lines p = is_start (byte_at s p) && beyond (gap_to lines s (ident_to s p)) (λ q. eqb (byte_at s q) 40 || stands (58 ∷ 58 ∷ []) s q)

-- "`-`, optional same-line space, digits is one number."
abbrev pub is_minus : List ℕ → ℕ → Bool
is_minus s p = eqb (byte_at s p) 45 && beyond (gap_to false s (p + 1)) (λ q. is_digit (byte_at s q))

-- "`[` or `{`, trivia, `for` and one of space, tab, CR, LF, `#`, `/` commits to a for-expression."
abbrev pub is_for : List ℕ → ℕ → Bool
is_for s p = beyond (gap_to true s (p + 1)) (λ q. not (eqb (for_to s q) q))

-- quoted text with an interpolation
abbrev pub is_broken : Why → Bool
is_broken why.Quote = false
is_broken why.Interpolation = true
is_broken why.Directive = false
is_broken why.Escape = false
is_broken why.Closing = false
is_broken why.Foreign = false
is_broken why.End = false

-- 01: "A quoted string may hold interpolations that hold quoted strings."
abbrev pub is_template : List ℕ → ℕ → Bool
is_template s p = is_broken (text_at quoted s (p + 1)).why

-- where a term may start
abbrev pub terms : List ℕ → Bool → ℕ → List (Bool × ℕ)
terms s lines p =
    (is_digit (byte_at s p), 4)
    ∷ (is_call s lines p, 16)
    ∷ (is_word null s p, 1)
    ∷ (is_word yes s p, 2)
    ∷ (is_word no s p, 3)
    ∷ (is_start (byte_at s p), 5)
    ∷ (is_minus s p, 4)
    ∷ (eqb (byte_at s p) 45, 22)
    ∷ (is_mark (33 ∷ []) ((33 ∷ 61 ∷ []) ∷ []) s p, 23)
    ∷ (eqb (byte_at s p) 40, 15)
    ∷ (eqb (byte_at s p) 91 && is_for s p, 18)
    ∷ (eqb (byte_at s p) 91, 11)
    ∷ (eqb (byte_at s p) 123 && is_for s p, 19)
    ∷ (eqb (byte_at s p) 123, 12)
    ∷ (eqb (byte_at s p) 34 && is_template s p, 7)
    ∷ (eqb (byte_at s p) 34, 6)
    ∷ (stands (60 ∷ 60 ∷ []) s p, 8)
    ∷ []

-- the parts of a traversal: past the `.` or `[` and any trivia, `*` or not
-- 01: "After `.` any trivia may stand, then `*`, an index (0, or 1 to 9 and digits) or an identifier."
abbrev pub portions : List ℕ → ℕ → List (Bool × ℕ)
portions s p =
    (eqb (byte_at s p) 46 && beyond (gap_to true s (p + 1)) (λ q. eqb (byte_at s q) 42), 40)
    ∷ (eqb (byte_at s p) 46 && beyond (gap_to true s (p + 1)) (λ q. is_digit (byte_at s q)), 39)
    ∷ (eqb (byte_at s p) 46, 38)
    ∷ (eqb (byte_at s p) 91 && beyond (gap_to true s (p + 1)) (λ q. eqb (byte_at s q) 42), 41)
    ∷ (eqb (byte_at s p) 91, 42)
    ∷ []

-- the kinds that may stand under a want, each with its test
abbrev pub picks : List ℕ → Bool → Want → ℕ → List (Bool × ℕ)
picks s lines an_expression p = terms s lines p
picks s lines a_name p = (true, 17) ∷ []
picks s lines (an_item ks) p = (true, 13) ∷ []
picks s lines a_part p = portions s p
picks s lines (a_piece t) p = (stands (36 ∷ 123 ∷ []) s p, 10) ∷ (true, 9) ∷ []
picks s lines a_condition p = (true, 20) ∷ []

unfoldable pub pick_at : List ℕ → Under → ℕ → Option ℕ
pick_at s b p = choose (picks s b.lines b.want p)

-- ---- what may follow an operand, past the mode's trivia: an operator, `?`, or a part of a traversal

abbrev pub follows : List ℕ → ℕ → List (Bool × ℕ)
follows s q = (ltb 0 (op_at s q).kind, (op_at s q).kind) ∷ (eqb (byte_at s q) 63, 21) ∷ (is_part s q, 37) ∷ []

abbrev pub follow_in : List ℕ → Gap → Option ℕ
follow_in s g = cond g.unclosed none (choose (follows s g.at))

-- nothing grows where a name, a part or a piece of text is wanted
abbrev pub grows : Want → Bool
grows an_expression = true
grows a_name = false
grows (an_item ks) = true
grows a_part = false
grows (a_piece t) = false
grows a_condition = true

unfoldable pub follow_at : List ℕ → Under → ℕ → Option ℕ
follow_at s b p = cond (grows b.want) (follow_in s (gap_to b.lines s p)) none

-- ---- what a child is under

abbrev pub starts : List (Rec ℕ) → List ℕ
starts [] = []
starts (r ∷ rs) = r.start ∷ starts rs

abbrev pub under : ℕ → Bool → Want → Under
under d l w = record { left = d; lines = l; want = w }

-- levels: brackets, an interpolation, a unary operator and `?` opened one by the move before the child
abbrev pub downs : List ℕ → Under → Class → ℕ → List (Rec ℕ) → Under
downs s b inside σ ks = under (b.left - 1) true an_expression
downs s b single σ ks = under (b.left - 1) false an_expression
downs s b key σ ks = under b.left false an_expression
downs s b value σ ks = under b.left b.lines an_expression
downs s b test σ ks = under b.left b.lines an_expression
downs s b branch σ ks = under (b.left - 1) b.lines an_expression
downs s b term σ ks = under (b.left - 1) b.lines an_expression
downs s b (right t) σ ks = under b.left b.lines an_expression
downs s b entry σ ks = under (b.left - 1) false (an_item (lones s (starts ks)))
downs s b called σ ks = under b.left b.lines a_name
downs s b portion σ ks = under b.left b.lines a_part
downs s b piecewise σ ks = under b.left b.lines (a_piece σ)
downs s b filter σ ks = under (b.left - 1) true a_condition

-- a child that ends its node sees the same operators behind it as the node does: it stands only where operators may follow the node. In a
-- reading it always is so (DownLaws)
abbrev pub fits : Under → Class → Bool
fits b inside = true
fits b single = true
fits b key = true
fits b value = grows b.want
fits b test = grows b.want
fits b branch = grows b.want
fits b term = grows b.want
fits b (right t) = grows b.want
fits b entry = true
fits b called = true
fits b portion = true
fits b piecewise = true
fits b filter = true

-- operators that bind tighter are taken into the child
abbrev pub bounds : Class → ℕ
bounds inside = 0
bounds single = 0
bounds key = 0
bounds value = 0
bounds test = 0
bounds branch = 0
bounds term = 7
bounds (right t) = t
bounds entry = 8
bounds called = 8
bounds portion = 8
bounds piecewise = 8
bounds filter = 8

-- what may follow the child: only operators that are no tighter; the tightest level of a binary operator is 7
abbrev pub slacks : Class → ℕ
slacks inside = 0
slacks single = 0
slacks key = 0
slacks value = 0
slacks test = 0
slacks branch = 0
slacks term = 7
slacks (right t) = min t 7
slacks entry = 0
slacks called = 8
slacks portion = 8
slacks piecewise = 8
slacks filter = 0

-- "one that is a lone identifier other than `null`, `true`, `false` is 14"
abbrev pub styles : Class → ℕ
styles inside = 0
styles single = 0
styles key = 1
styles value = 0
styles test = 0
styles branch = 0
styles term = 0
styles (right t) = 0
styles entry = 0
styles called = 0
styles portion = 0
styles piecewise = 0
styles filter = 0

-- 01: "A key is an expression;"
abbrev pub bare : ℕ → ℕ
bare k = cond (eqb k 5) 14 k

-- ---- for the check of the tables: after a child no operator stands where the move can be made

-- a byte that begins no operator, no `?` and no part: `) , : ] } ~`
abbrev pub is_quiet : ℕ → Bool
is_quiet c = eqb c 41 || eqb c 44 || eqb c 58 || eqb c 93 || eqb c 125 || eqb c 126

-- what begins a mark that begins none: such a byte, `=` that is not `==`, `=>`, `..`
abbrev pub quiet_mark : List ℕ → List (List ℕ) → Bool
quiet_mark [] l = false
quiet_mark (c ∷ []) l = is_quiet c || (eqb c 61 && any_of l (61 ∷ 61 ∷ []) 0)
quiet_mark (c ∷ d ∷ w) l = (eqb c 61 && eqb d 62) || (eqb c 46 && eqb d 46)

abbrev pub quiet : Move → Bool
quiet [] = false
quiet (gap g ∷ m) = false
quiet (mark w l ∷ m) = quiet_mark w l
quiet (opens w l ∷ m) = false
quiet (word w ∷ m) = is_start (byte_at w 0)
quiet (ahead w ∷ m) = is_start (byte_at w 0)
quiet (for ∷ m) = false
quiet (ident ∷ m) = false
quiet (number ∷ m) = false
quiet (index ∷ m) = false
quiet (operator k ∷ m) = false
quiet (parts ∷ m) = false
quiet (unless c ∷ m) = false
quiet (comma ∷ m) = quiet m
quiet (stop ∷ m) = true
quiet (ended ∷ m) = true
quiet (call ∷ m) = false
quiet (fresh ∷ m) = quiet m
quiet (ending ∷ m) = false
quiet (run e ∷ m) = false
quiet (piece e ∷ m) = false
quiet (more ∷ m) = false
quiet (close ∷ m) = false

-- the trivia before it reaches at least as far as the child's own
abbrev pub reaches : Space → Class → Bool
reaches any c = true
reaches line inside = false
reaches line single = true
reaches line key = true
reaches line value = false
reaches line test = false
reaches line branch = false
reaches line term = false
reaches line (right t) = false
reaches line entry = true
reaches line called = false
reaches line portion = false
reaches line piecewise = false
reaches line filter = false
reaches here inside = false
reaches here single = false
reaches here key = false
reaches here value = true
reaches here test = true
reaches here branch = true
reaches here term = true
reaches here (right t) = true
reaches here entry = false
reaches here called = false
reaches here portion = false
reaches here piecewise = false
reaches here filter = false

abbrev pub stilled : Move → Class → Bool
stilled [] c = false
stilled (gap g ∷ m) c = reaches g c && quiet m
stilled (mark w l ∷ m) c = false
stilled (opens w l ∷ m) c = false
stilled (word w ∷ m) c = false
stilled (ahead w ∷ m) c = false
stilled (for ∷ m) c = false
stilled (ident ∷ m) c = false
stilled (number ∷ m) c = false
stilled (index ∷ m) c = false
stilled (operator k ∷ m) c = false
stilled (parts ∷ m) c = false
stilled (unless b ∷ m) c = false
stilled (comma ∷ m) c = false
stilled (stop ∷ m) c = false
stilled (ended ∷ m) c = false
stilled (call ∷ m) c = false
stilled (fresh ∷ m) c = false
stilled (ending ∷ m) c = false
stilled (run e ∷ m) c = false
stilled (piece e ∷ m) c = false
stilled (more ∷ m) c = false
stilled (close ∷ m) c = false

-- classes whose attribute sees the operators that their parent's sees
abbrev pub keeping : Class → Bool
keeping inside = false
keeping single = false
keeping key = false
keeping value = true
keeping test = true
keeping branch = true
keeping term = true
keeping (right t) = true
keeping entry = false
keeping called = false
keeping portion = false
keeping piecewise = false
keeping filter = false

-- ---- the language of a source

-- 01: "A node runs from its first byte to the end of its last, without the trivia round it; brackets, quotes, `${` and `}`, `<<` and the closing delimiter belong to it."
abbrev pub hcl : List ℕ → Lang ℕ Under Move Class
hcl s = record {
  go = λ b m σ p. place (walk s b σ m p);
  down = λ b c σ ks. cond (fits b c) (some (downs s b c σ ks)) none;
  style = styles;
  name = λ n k. bare k;
  bound = bounds;
  slack = slacks;
  pick = pick_at s;
  op_at = follow_at s;
  layout = layout_of;
  tight = tight_of;
  hold = hold_of;
  cap = 9;
  stops = λ m c. leb 8 (slacks c) || stilled m c;
  keeps = keeping;
  no_move = λ b m σ p. refusal (walk s b σ m p);
  no_kind = λ b p. refusal (unexpected s p);
  no_level = λ b c ks p. (Deep, p);
}
