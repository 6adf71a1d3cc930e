-- How many bytes a layout takes at least, beside those of its children: so that nodes are never more than bytes.
use Rattle.std.specs.Prelude.{ℕ, suc, ◌+◌, [], ◌∷◌, Bool, true, false, cond, ◌&&◌, ◌||◌, length, eqb, leb, ltb, T}
use Rattle.engine.specs.Base.{all_of}
use Rattle.engine.specs.Layout.{bad, fin, move, kid, fork, rep}
use Rattle.grammar.specs.Moves.{Atom, gap, mark, opens, word, ahead, for, ident, number, index, operator, parts, unless, comma, stop, ended, call, fresh, ending, run, piece, more, close, Move}
use Rattle.grammar.specs.Layouts.{Class, inside, single, key, value, test, branch, term, right, entry, called, portion, piecewise, filter, Layout, layout_of, layouts}
use Rattle.grammar.specs.Code.{coded}

-- the bytes that an atom takes at least; that a move takes at least
abbrev pub takes : Atom → ℕ
takes (gap g) = 0
takes (mark w l) = length w
takes (opens w l) = length w
takes (word w) = length w
takes (ahead w) = 0
takes for = 3
takes ident = 1
takes number = 1
takes index = 1
takes (operator k) = cond (ltb 0 k) 1 0
takes parts = 0
takes (unless c) = 0
takes comma = 0
takes stop = 1
takes ended = 0
takes call = 1
takes fresh = 0
takes ending = 1
takes (run e) = 0
takes (piece e) = 1
takes more = 0
takes close = 0

abbrev pub eaten : Move → ℕ
eaten [] = 0
eaten (a ∷ m) = takes a + eaten m

-- a part of a traversal leaves a byte over for the traversal itself
abbrev pub bonus : Class → ℕ
bonus inside = 0
bonus single = 0
bonus key = 0
bonus value = 0
bonus test = 0
bonus branch = 0
bonus term = 0
bonus (right t) = 0
bonus entry = 0
bonus called = 0
bonus portion = 1
bonus piecewise = 0
bonus filter = 0

-- what a kind owes: a byte for its own node, and a part one more
abbrev pub spare : ℕ → ℕ
spare k = cond (leb 38 k && leb k 42) 1 0

-- a call begins with its first name, and a traversal goes on with its first part
abbrev pub leads : ℕ → Class → Bool
leads k inside = false
leads k single = false
leads k key = false
leads k value = false
leads k test = false
leads k branch = false
leads k term = false
leads k (right t) = false
leads k entry = false
leads k called = eqb k 16
leads k portion = eqb k 37
leads k piecewise = false
leads k filter = false

-- a layout of the kind k, of which w bytes are taken at least; f: something is taken, so that a child does not start where the node does
abbrev pub thrift : ℕ → Bool → ℕ → Layout → Bool
thrift k f w bad = true
thrift k f w (fin φ) = leb (suc (spare k)) w
thrift k f w (move m l) = thrift k (f || ltb 0 (eaten m)) (w + eaten m) l
thrift k f w (kid c l) = (f || leads k c) && thrift k true (w + bonus c) l
thrift k f w (fork m l l') = thrift k (f || ltb 0 (eaten m)) (w + eaten m) l && thrift k f w l'
thrift k f w (rep m c l) = (f || ltb 0 (eaten m)) && thrift k f w l

-- the kinds of the program are thrifty, which is computed
pub thrifty : T (all_of (λ k. thrift k false 0 (layout_of k)) coded)
unfolding layouts
thrifty = tt
