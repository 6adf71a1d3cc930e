-- The layouts as the checker's code has them: grammar's program, and behind it the instructions of the kinds that it lacks (12, 13, 22, 23), with
-- six moves of their own. A bare key (14) is laid out as a variable (5). The kinds with literal text (6 to 9) have none.
-- That the program at a kind's start is the kind's layout is computed (`right_coded`).
use Rattle.std.specs.Prelude.{ℕ, ◌+◌, ◌-◌, ◌≡◌, refl, List, [], ◌∷◌, Bool, true, false, cond, ◌&&◌, get_or, eqb, ltb, T}
use Rattle.engine.specs.Base.{all_of}
use Rattle.engine.specs.Layout.{bad, fin, move, kid, fork, rep}
use Rattle.grammar.specs.Moves.{Move, gap, mark, opens, unless, stop, ended, fresh, any, line, same}
use Rattle.grammar.specs.Layouts.{Class, inside, single, key, value, test, branch, term, right, entry, called, portion, piecewise, filter, Layout, layout_of, layouts}
use Rattle.grammar.specs.Hcl.{fits, under}
use Rattle.grammar.specs.Published.{want_of}
use Rattle.grammar.specs.Code.{move_at, class_of, code, operation, argument, class, otherwise, begin, coded, atoms, move_of, program, begins}

-- ---- the moves of its own, and all moves by their number: under 200 grammar's

abbrev pub own_move : ℕ → Move
own_move n =
    cond (eqb n 0) (opens (45 ∷ []) [] ∷ [])
    (cond (eqb n 1) (opens (33 ∷ []) ((33 ∷ 61 ∷ []) ∷ []) ∷ [])
    (cond (eqb n 2) (gap line ∷ fresh ∷ mark (61 ∷ []) ((61 ∷ 61 ∷ []) ∷ (61 ∷ 62 ∷ []) ∷ []) ∷ [])
    (cond (eqb n 3) (gap line ∷ fresh ∷ mark (58 ∷ []) [] ∷ [])
    (cond (eqb n 4) (gap line ∷ stop ∷ gap any ∷ unless 125 ∷ []) (gap line ∷ ended ∷ mark (125 ∷ []) [] ∷ [])))))

abbrev pub move_in : ℕ → Move
move_in a = cond (ltb a 200) (move_at a) (own_move (a - 200))

-- ---- the instructions: from 228 on its own

unfoldable pub own : List ℕ
own =
    51202 ∷ 1794 ∷ 393219 ∷ 1 ∷ 51458 ∷ 1794 ∷ 393219 ∷ 1
    ∷ 131075 ∷ 4043360772 ∷ 1794 ∷ 196611 ∷ 1 ∷ 51970 ∷ 1794 ∷ 196611
    ∷ 257 ∷ 17410 ∷ 4160768260 ∷ 1 ∷ 4610 ∷ 458755 ∷ 4211592197 ∷ 52482
    ∷ 1
    ∷ []

abbrev pub code_in : ℕ → ℕ
code_in pc = cond (ltb pc 228) (code pc) (get_or own (pc - 228) 0)

-- how many instructions there are
abbrev pub instructions : ℕ
instructions = 253

-- the classes as numbers: 2, 3, 6 and 7 are those of its own
abbrev pub class_in : ℕ → Class
class_in c = cond (eqb c 2) key (cond (eqb c 3) value (cond (eqb c 6) term (cond (eqb c 7) entry (class_of c))))

-- where the program of a kind starts; 0 for the kinds that have none
abbrev pub begin_in : ℕ → ℕ
begin_in k = cond (eqb k 12) 245 (cond (eqb k 13) 236 (cond (eqb k 14) 12 (cond (eqb k 22) 228 (cond (eqb k 23) 232 (begin k)))))

-- the program at pc is a layout
abbrev pub Codes : ℕ → Layout → Type 0
Codes pc bad = ⊥
Codes pc (fin φ) = (operation (code_in pc) ≡ 1) × (argument (code_in pc) ≡ φ)
Codes pc (move m l) = (operation (code_in pc) ≡ 2) × (move_in (argument (code_in pc)) ≡ m) × Codes (pc + 1) l
Codes pc (kid c l) = (operation (code_in pc) ≡ 3) × (class_in (class (code_in pc)) ≡ c) × Codes (pc + 1) l
Codes pc (fork m l l') = (operation (code_in pc) ≡ 4) × (move_in (argument (code_in pc)) ≡ m) × Codes (pc + 1) l × Codes (otherwise (code_in pc)) l'
Codes pc (rep m c l) = (operation (code_in pc) ≡ 5) × (move_in (argument (code_in pc)) ≡ m) × (class_in (class (code_in pc)) ≡ c) × Codes (otherwise (code_in pc)) l

abbrev pub All : List ℕ → Type 0
All [] = Unit {0}
All (k ∷ ks) = Codes (begin_in k) (layout_of k) × All ks

-- the kinds that the program has
abbrev pub laid_out : List ℕ
laid_out = 12 ∷ 13 ∷ 14 ∷ 22 ∷ 23 ∷ coded

abbrev pub unary_coded : Codes 228 (layout_of 22) × Codes 232 (layout_of 23)
unfolding atoms move_of program begins layouts own
unary_coded = ((refl, refl, (refl, refl, (refl, refl, (refl, refl)))), (refl, refl, (refl, refl, (refl, refl, (refl, refl)))))

grammars : All coded
unfolding atoms move_of program begins layouts own
grammars = (
  (refl, refl, (refl, refl)),
  (
    (refl, refl, (refl, refl)),
    (
      (refl, refl, (refl, refl)),
      (
        (refl, refl, (refl, refl, (refl, refl)), (refl, refl, (refl, refl))),
        (
          (refl, refl, (refl, refl)),
          (
            (refl, refl, (refl, refl, (refl, refl, (refl, refl, (refl, refl, (refl, refl, (refl, refl)), (refl, refl, (refl, refl))))), (refl, refl, (refl, refl, (refl, refl, (refl, refl, (refl, refl)), (refl, refl, (refl, refl))))))),
            (
              (refl, refl, (refl, refl, (refl, refl), (refl, refl, (refl, refl, (refl, refl, refl, (refl, refl, (refl, refl))))))),
              (
                (refl, refl, (refl, refl, (refl, refl, (refl, refl, (refl, refl))))),
                (
                  (refl, refl, (refl, refl, refl, (refl, refl, (refl, refl, (refl, refl), (refl, refl, (refl, refl, (refl, refl, refl, (refl, refl, (refl, refl, (refl, refl)), (refl, refl, (refl, refl)))))))))),
                  (
                    (refl, refl, (refl, refl)),
                    (
                      (refl, refl, (refl, refl, (refl, refl, (refl, refl, (refl, refl, (refl, refl, (refl, refl, (refl, refl, (refl, refl, (refl, refl, (refl, refl, (refl, refl, (refl, refl, (refl, refl, (refl, refl, (refl, refl, (refl, refl))), (refl, refl, (refl, refl))))))))))), (refl, refl, (refl, refl, (refl, refl, (refl, refl, (refl, refl, (refl, refl, (refl, refl, (refl, refl, (refl, refl, (refl, refl))), (refl, refl, (refl, refl)))))))))))))),
                      (
                        (refl, refl, (refl, refl, (refl, refl, (refl, refl, (refl, refl, (refl, refl, (refl, refl, (refl, refl, (refl, refl, (refl, refl, (refl, refl, (refl, refl, (refl, refl, (refl, refl, (refl, refl, (refl, refl, (refl, refl, (refl, refl, (refl, refl, (refl, refl, (refl, refl))), (refl, refl, (refl, refl))), (refl, refl, (refl, refl, (refl, refl, (refl, refl))), (refl, refl, (refl, refl))))))))))))))), (refl, refl, (refl, refl, (refl, refl, (refl, refl, (refl, refl, (refl, refl, (refl, refl, (refl, refl, (refl, refl, (refl, refl, (refl, refl, (refl, refl, (refl, refl, (refl, refl))), (refl, refl, (refl, refl))), (refl, refl, (refl, refl, (refl, refl, (refl, refl))), (refl, refl, (refl, refl)))))))))))))))))),
                        (
                          (refl, refl, (refl, refl, (refl, refl, (refl, refl)))),
                          (
                            (refl, refl, (refl, refl, (refl, refl, (refl, refl, (refl, refl, (refl, refl, (refl, refl))))))),
                            (
                              (refl, refl, (refl, refl, (refl, refl, (refl, refl)))),
                              (
                                (refl, refl, (refl, refl, (refl, refl, (refl, refl)))),
                                (
                                  (refl, refl, (refl, refl, (refl, refl, (refl, refl)))),
                                  (
                                    (refl, refl, (refl, refl, (refl, refl, (refl, refl)))),
                                    (
                                      (refl, refl, (refl, refl, (refl, refl, (refl, refl)))),
                                      (
                                        (refl, refl, (refl, refl, (refl, refl, (refl, refl)))),
                                        (
                                          (refl, refl, (refl, refl, (refl, refl, (refl, refl)))),
                                          (
                                            (refl, refl, (refl, refl, (refl, refl, (refl, refl)))),
                                            (
                                              (refl, refl, (refl, refl, (refl, refl, (refl, refl)))),
                                              (
                                                (refl, refl, (refl, refl, (refl, refl, (refl, refl)))),
                                                (
                                                  (refl, refl, (refl, refl, (refl, refl, (refl, refl)))),
                                                  (
                                                    (refl, refl, (refl, refl, (refl, refl, (refl, refl)))),
                                                    (
                                                      (refl, refl, (refl, refl, (refl, refl, (refl, refl)))),
                                                      (
                                                        (refl, refl, (refl, refl, (refl, refl, refl, (refl, refl)))),
                                                        (
                                                          (refl, refl, (refl, refl, (refl, refl, (refl, refl)))),
                                                          (
                                                            (refl, refl, (refl, refl, (refl, refl, (refl, refl)))),
                                                            (
                                                              (refl, refl, (refl, refl, (refl, refl, (refl, refl)))),
                                                              (
                                                                (refl, refl, (refl, refl, (refl, refl, (refl, refl)))),
                                                                ((refl, refl, (refl, refl, (refl, refl, (refl, refl, (refl, refl))))), tt),
                                                              ),
                                                            ),
                                                          ),
                                                        ),
                                                      ),
                                                    ),
                                                  ),
                                                ),
                                              ),
                                            ),
                                          ),
                                        ),
                                      ),
                                    ),
                                  ),
                                ),
                              ),
                            ),
                          ),
                        ),
                      ),
                    ),
                  ),
                ),
              ),
            ),
          ),
        ),
      ),
    ),
  ),
)

pub right_coded : All laid_out
unfolding atoms move_of program begins layouts own
right_coded = (
  (refl, refl, (refl, refl, (refl, refl), (refl, refl, (refl, refl, (refl, refl, refl, (refl, refl, (refl, refl))))))),
  (
    (refl, refl, (refl, refl, (refl, refl, (refl, refl, (refl, refl))), (refl, refl, (refl, refl, (refl, refl, (refl, refl)))))),
    (
      (refl, refl, (refl, refl)),
      (unary_coded.0, (unary_coded.1, grammars)),
    ),
  ),
)

-- ---- from an instruction the program only goes forward; and each child fits under its node's kind

abbrev pub ahead : ℕ → Layout → Bool
ahead pc bad = true
ahead pc (fin φ) = ltb pc instructions
ahead pc (move m l) = ltb pc instructions && ahead (pc + 1) l
ahead pc (kid c l) = ltb pc instructions && ahead (pc + 1) l
ahead pc (fork m l l') = (ltb pc instructions && ltb pc (otherwise (code_in pc))) && (ahead (pc + 1) l && ahead (otherwise (code_in pc)) l')
ahead pc (rep m c l) = (ltb pc instructions && ltb pc (otherwise (code_in pc))) && ahead (otherwise (code_in pc)) l

pub all_ahead : T (all_of (λ k. ahead (begin_in k) (layout_of k)) laid_out)
unfolding layouts program begins own
all_ahead = tt

abbrev pub fitting : ℕ → Layout → Bool
fitting k bad = true
fitting k (fin φ) = true
fitting k (move m l) = fitting k l
fitting k (kid c l) = fits (under 0 true (want_of k)) c && fitting k l
fitting k (fork m l l') = fitting k l && fitting k l'
fitting k (rep m c l) = fits (under 0 true (want_of k)) c && fitting k l

pub all_fitting : T (all_of (λ k. fitting k (layout_of k)) laid_out)
unfolding layouts
all_fitting = tt

-- an object's children are items, and no others are
abbrev pub is_entry : Class → Bool
is_entry inside = false
is_entry single = false
is_entry key = false
is_entry value = false
is_entry test = false
is_entry branch = false
is_entry term = false
is_entry (right n) = false
is_entry entry = true
is_entry called = false
is_entry portion = false
is_entry piecewise = false
is_entry filter = false

abbrev pub itemed : ℕ → Layout → Bool
itemed k bad = true
itemed k (fin φ) = true
itemed k (move m l) = itemed k l
itemed k (kid c l) = same (eqb k 12) (is_entry c) && itemed k l
itemed k (fork m l l') = itemed k l && itemed k l'
itemed k (rep m c l) = same (eqb k 12) (is_entry c) && itemed k l

pub all_itemed : T (all_of (λ k. itemed k (layout_of k)) laid_out)
unfolding layouts
all_itemed = tt

-- no child is a piece or an interpolation; and the layouts without children
abbrev pub is_piece : Class → Bool
is_piece inside = false
is_piece single = false
is_piece key = false
is_piece value = false
is_piece test = false
is_piece branch = false
is_piece term = false
is_piece (right n) = false
is_piece entry = false
is_piece called = false
is_piece portion = false
is_piece piecewise = true
is_piece filter = false

abbrev pub pieceless : Layout → Bool
pieceless bad = true
pieceless (fin φ) = true
pieceless (move m l) = pieceless l
pieceless (kid c l) = same false (is_piece c) && pieceless l
pieceless (fork m l l') = pieceless l && pieceless l'
pieceless (rep m c l) = same false (is_piece c) && pieceless l

pub all_pieceless : T (all_of (λ k. pieceless (layout_of k)) laid_out)
unfolding layouts
all_pieceless = tt

abbrev pub kidless : Layout → Bool
kidless bad = true
kidless (fin φ) = true
kidless (move m l) = kidless l
kidless (kid c l) = false
kidless (fork m l l') = kidless l && kidless l'
kidless (rep m c l) = false
