-- The layouts as the code has them: a program of instructions, each one number, and the atoms of its moves, each one number.
-- That the program at a kind's start is the kind's layout is computed (`coded`).
use Rattle.std.specs.Prelude.{ℕ, ◌+◌, ◌/◌, ◌%◌, ◌≡◌, refl, List, [], ◌∷◌, cond, get_or, drop, eqb, leb, T}
use Rattle.lexis.specs.Word.{null, yes, no, in', if'}
use Rattle.engine.specs.Layout.{bad, fin, move, kid, fork, rep}
use Rattle.grammar.specs.Moves.{Atom, gap, mark, opens, word, ahead, for, ident, number, index, operator, parts, unless, comma, call, any, line, here, Move}
use Rattle.grammar.specs.Layouts.{Class, inside, single, test, branch, right, called, portion, filter, Layout, layout_of, layouts}

-- ---- atoms: a code and an argument

abbrev pub space_of : ℕ → Atom
space_of x = cond (eqb x 0) (gap any) (cond (eqb x 1) (gap line) (gap here))

abbrev pub word_of : ℕ → List ℕ
word_of x = cond (eqb x 1) null (cond (eqb x 2) yes (cond (eqb x 3) no (cond (eqb x 4) in' if')))

abbrev pub atom_of : ℕ → ℕ → Atom
atom_of c x =
    cond (eqb c 1) (space_of x)
    (cond (eqb c 2) (mark (x ∷ []) [])
    (cond (eqb c 3) (opens (x ∷ []) [])
    (cond (eqb c 4) (mark (58 ∷ 58 ∷ []) [])
    (cond (eqb c 5) (mark (46 ∷ 46 ∷ 46 ∷ []) [])
    (cond (eqb c 6) (mark (61 ∷ 62 ∷ []) [])
    (cond (eqb c 7) (word (word_of x))
    (cond (eqb c 8) (ahead if')
    (cond (eqb c 9) for
    (cond (eqb c 10) ident
    (cond (eqb c 11) number
    (cond (eqb c 12) index
    (cond (eqb c 13) (operator x)
    (cond (eqb c 14) parts
    (cond (eqb c 15) (unless x)
    (cond (eqb c 16) comma
    (cond (eqb c 17) call (opens (36 ∷ 123 ∷ []) [])))))))))))))))))

-- the atoms of the moves, one move after the other, a 0 behind each: code + 256 * argument
unfoldable pub atoms : List ℕ
atoms =
    263 ∷ 0 ∷ 519 ∷ 0 ∷ 775 ∷ 0 ∷ 11522 ∷ 257 ∷ 0 ∷ 11 ∷ 0 ∷ 10
    ∷ 0 ∷ 23299 ∷ 0 ∷ 1 ∷ 23810 ∷ 0 ∷ 1 ∷ 0 ∷ 1 ∷ 11266 ∷ 1 ∷ 23823
    ∷ 0 ∷ 1 ∷ 16 ∷ 23810 ∷ 0 ∷ 10243 ∷ 0 ∷ 1 ∷ 10498 ∷ 0 ∷ 513 ∷ 4
    ∷ 513 ∷ 0 ∷ 513 ∷ 17 ∷ 0 ∷ 1 ∷ 11266 ∷ 1 ∷ 10511 ∷ 0 ∷ 1 ∷ 5
    ∷ 0 ∷ 1 ∷ 16 ∷ 10498 ∷ 0 ∷ 1 ∷ 9 ∷ 0 ∷ 1 ∷ 11266 ∷ 0 ∷ 1
    ∷ 1031 ∷ 0 ∷ 1 ∷ 14850 ∷ 0 ∷ 1 ∷ 1288 ∷ 0 ∷ 31491 ∷ 0 ∷ 1 ∷ 6
    ∷ 0 ∷ 1 ∷ 32002 ∷ 0 ∷ 1287 ∷ 0 ∷ 513 ∷ 16131 ∷ 0 ∷ 513 ∷ 0 ∷ 513
    ∷ 14850 ∷ 0 ∷ 513 ∷ 14 ∷ 0 ∷ 11778 ∷ 0 ∷ 12 ∷ 0 ∷ 10754 ∷ 0 ∷ 1
    ∷ 10754 ∷ 0 ∷ 18 ∷ 0 ∷ 32258 ∷ 0 ∷ 1 ∷ 32258 ∷ 0 ∷ 32002 ∷ 0 ∷ 513
    ∷ 6157 ∷ 0 ∷ 513 ∷ 6413 ∷ 0 ∷ 513 ∷ 6669 ∷ 0 ∷ 513 ∷ 6925 ∷ 0 ∷ 513
    ∷ 7181 ∷ 0 ∷ 513 ∷ 7437 ∷ 0 ∷ 513 ∷ 7693 ∷ 0 ∷ 513 ∷ 7949 ∷ 0 ∷ 513
    ∷ 8205 ∷ 0 ∷ 513 ∷ 8461 ∷ 0 ∷ 513 ∷ 8717 ∷ 0 ∷ 513 ∷ 8973 ∷ 0 ∷ 513
    ∷ 9229 ∷ 0 ∷ []

-- the move that a list of atoms begins with
unfoldable pub move_of : List ℕ → Move
move_of [] = []
move_of (x ∷ xs) = cond (eqb x 0) [] (atom_of (x % 256) (x / 256) ∷ move_of xs)

-- the move whose atoms begin at a
abbrev pub move_at : ℕ → Move
move_at a = move_of (drop a atoms)

-- ---- instructions: an operation, an argument (a flag, or where a move's atoms begin), a class, and where to go on otherwise

unfoldable pub program : List ℕ
program =
    0 ∷ 2 ∷ 1 ∷ 514 ∷ 1 ∷ 1026 ∷ 1 ∷ 167773700
    ∷ 2306 ∷ 257 ∷ 2306 ∷ 1 ∷ 2818 ∷ 1 ∷ 25090 ∷ 385901572
    ∷ 4610 ∷ 3 ∷ 352347652 ∷ 26882 ∷ 769 ∷ 18690 ∷ 257 ∷ 4610
    ∷ 3 ∷ 469788164 ∷ 26882 ∷ 513 ∷ 18690 ∷ 1 ∷ 3330 ∷ 553651972
    ∷ 1 ∷ 4610 ∷ 3 ∷ 603984901 ∷ 6402 ∷ 1 ∷ 7426 ∷ 4610
    ∷ 3 ∷ 7938 ∷ 1 ∷ 589827 ∷ 755573253 ∷ 9730 ∷ 805314308 ∷ 1
    ∷ 4610 ∷ 3 ∷ 855648517 ∷ 905981444 ∷ 7938 ∷ 257 ∷ 12546 ∷ 1
    ∷ 2818 ∷ 1 ∷ 3330 ∷ 13570 ∷ 4610 ∷ 589827 ∷ 1291859972 ∷ 4610
    ∷ 589827 ∷ 15106 ∷ 4610 ∷ 65539 ∷ 15874 ∷ 4610 ∷ 3 ∷ 1258307844
    ∷ 786435 ∷ 3842 ∷ 1 ∷ 3842 ∷ 1 ∷ 15106 ∷ 4610 ∷ 65539
    ∷ 15874 ∷ 4610 ∷ 3 ∷ 1459634436 ∷ 786435 ∷ 3842 ∷ 1 ∷ 3842
    ∷ 1 ∷ 17410 ∷ 13570 ∷ 4610 ∷ 589827 ∷ 1979725828 ∷ 4610 ∷ 589827
    ∷ 15106 ∷ 4610 ∷ 65539 ∷ 15874 ∷ 4610 ∷ 65539 ∷ 17922 ∷ 4610
    ∷ 65539 ∷ 1879059972 ∷ 1845510404 ∷ 786435 ∷ 18690 ∷ 257 ∷ 18690 ∷ 257
    ∷ 1946173700 ∷ 786435 ∷ 18690 ∷ 1 ∷ 18690 ∷ 1 ∷ 15106 ∷ 4610
    ∷ 65539 ∷ 15874 ∷ 4610 ∷ 65539 ∷ 17922 ∷ 4610 ∷ 65539 ∷ 2248158724
    ∷ 2214609156 ∷ 786435 ∷ 18690 ∷ 257 ∷ 18690 ∷ 257 ∷ 2315272452 ∷ 786435
    ∷ 18690 ∷ 1 ∷ 18690 ∷ 1 ∷ 19458 ∷ 4610 ∷ 262147 ∷ 1
    ∷ 19970 ∷ 20738 ∷ 327683 ∷ 21250 ∷ 20738 ∷ 327683 ∷ 1 ∷ 27394
    ∷ 20738 ∷ 1507331 ∷ 1 ∷ 28162 ∷ 20738 ∷ 1507331 ∷ 1 ∷ 28930
    ∷ 20738 ∷ 1507331 ∷ 1 ∷ 29698 ∷ 20738 ∷ 1441795 ∷ 1 ∷ 30466
    ∷ 20738 ∷ 1441795 ∷ 1 ∷ 31234 ∷ 20738 ∷ 1376259 ∷ 1 ∷ 32002
    ∷ 20738 ∷ 1376259 ∷ 1 ∷ 32770 ∷ 20738 ∷ 1376259 ∷ 1 ∷ 33538
    ∷ 20738 ∷ 1376259 ∷ 1 ∷ 34306 ∷ 20738 ∷ 1310723 ∷ 1 ∷ 35074
    ∷ 20738 ∷ 1310723 ∷ 1 ∷ 35842 ∷ 20738 ∷ 1245187 ∷ 1 ∷ 36610
    ∷ 20738 ∷ 1179651 ∷ 1 ∷ 22018 ∷ 655363 ∷ 3456783877 ∷ 1 ∷ 22786
    ∷ 4610 ∷ 2818 ∷ 1 ∷ 22786 ∷ 4610 ∷ 23298 ∷ 1 ∷ 22786
    ∷ 4610 ∷ 23810 ∷ 1 ∷ 3330 ∷ 24322 ∷ 3842 ∷ 1 ∷ 3330
    ∷ 4610 ∷ 3 ∷ 3842 ∷ 1 ∷ []

abbrev pub code : ℕ → ℕ
code pc = get_or program pc 0

abbrev pub operation : ℕ → ℕ
operation x = x % 256

abbrev pub argument : ℕ → ℕ
argument x = x / 256 % 256

abbrev pub class : ℕ → ℕ
class x = x / 65536 % 256

abbrev pub otherwise : ℕ → ℕ
otherwise x = x / 16777216

-- the classes as numbers: 16 and more are the right operands
abbrev pub class_of : ℕ → Class
class_of c =
    cond (eqb c 0) inside
    (cond (eqb c 1) single
    (cond (eqb c 4) test
    (cond (eqb c 5) branch
    (cond (eqb c 9) called
    (cond (eqb c 10) portion
    (cond (eqb c 12) filter (right (c % 16))))))))

-- the program at pc is a layout
abbrev pub Codes : ℕ → Layout → Type 0
Codes pc bad = ⊥
Codes pc (fin φ) = (operation (code pc) ≡ 1) × (argument (code pc) ≡ φ)
Codes pc (move m l) = (operation (code pc) ≡ 2) × (move_at (argument (code pc)) ≡ m) × Codes (pc + 1) l
Codes pc (kid c l) = (operation (code pc) ≡ 3) × (class_of (class (code pc)) ≡ c) × T (leb (class (code pc)) 23) × Codes (pc + 1) l
Codes pc (fork m l l') = (operation (code pc) ≡ 4) × (move_at (argument (code pc)) ≡ m) × Codes (pc + 1) l × Codes (otherwise (code pc)) l'
Codes pc (rep m c l) = (operation (code pc) ≡ 5) × (move_at (argument (code pc)) ≡ m) × (class_of (class (code pc)) ≡ c) × T (leb (class (code pc)) 23) × Codes (otherwise (code pc)) l

-- where the program of a kind starts; 0 for the kinds that have none here
unfoldable pub begins : List ℕ
begins =
    0 ∷ 1 ∷ 3 ∷ 5 ∷ 7 ∷ 12 ∷ 0 ∷ 0 ∷ 0 ∷ 0 ∷ 14 ∷ 30 ∷ 0 ∷ 0 ∷ 0 ∷ 38
    ∷ 43 ∷ 56 ∷ 58 ∷ 89 ∷ 140 ∷ 144 ∷ 0 ∷ 0 ∷ 151 ∷ 155 ∷ 159 ∷ 163 ∷ 167 ∷ 171 ∷ 175 ∷ 179
    ∷ 183 ∷ 187 ∷ 191 ∷ 195 ∷ 199 ∷ 203 ∷ 207 ∷ 211 ∷ 215 ∷ 219 ∷ 223 ∷ []

abbrev pub begin : ℕ → ℕ
begin k = get_or begins k 0

-- the kinds that the program has, with their layouts
abbrev pub All : List ℕ → Type 0
All [] = Unit {0}
All (k ∷ ks) = Codes (begin k) (layout_of k) × All ks

abbrev pub coded : List ℕ
coded = 1 ∷ 2 ∷ 3 ∷ 4 ∷ 5 ∷ 10 ∷ 11 ∷ 15 ∷ 16 ∷ 17 ∷ 18 ∷ 19 ∷ 20 ∷ 21 ∷ 24 ∷ 25 ∷ 26 ∷ 27 ∷ 28 ∷ 29 ∷ 30 ∷ 31 ∷ 32 ∷ 33 ∷ 34 ∷ 35 ∷ 36 ∷ 37 ∷ 38 ∷ 39 ∷ 40 ∷ 41 ∷ 42 ∷ []

pub right_coded : All coded
unfolding atoms move_of program begins layouts
right_coded = (
  (refl, refl, (refl, refl)),
  (
    (refl, refl, (refl, refl)),
    (
      (refl, refl, (refl, refl)),
      (
        (refl, refl, (refl, refl, (refl, refl)), (refl, refl, (refl, refl))),
        (
          (refl, refl, (refl, refl)),
          (
            (refl, refl, (refl, refl, (refl, refl, (refl, refl, tt, (refl, refl, (refl, refl, (refl, refl)), (refl, refl, (refl, refl))))), (refl, refl, (refl, refl, tt, (refl, refl, (refl, refl, (refl, refl)), (refl, refl, (refl, refl))))))),
            (
              (refl, refl, (refl, refl, (refl, refl), (refl, refl, (refl, refl, tt, (refl, refl, refl, tt, (refl, refl, (refl, refl))))))),
              (
                (refl, refl, (refl, refl, (refl, refl, tt, (refl, refl, (refl, refl))))),
                (
                  (refl, refl, tt, (refl, refl, refl, tt, (refl, refl, (refl, refl, (refl, refl), (refl, refl, (refl, refl, tt, (refl, refl, refl, tt, (refl, refl, (refl, refl, (refl, refl)), (refl, refl, (refl, refl)))))))))),
                  (
                    (refl, refl, (refl, refl)),
                    (
                      (refl, refl, (refl, refl, (refl, refl, (refl, refl, tt, (refl, refl, (refl, refl, (refl, refl, tt, (refl, refl, (refl, refl, (refl, refl, tt, (refl, refl, (refl, refl, (refl, refl, tt, (refl, refl, (refl, refl, tt, (refl, refl, (refl, refl))), (refl, refl, (refl, refl))))))))))), (refl, refl, (refl, refl, (refl, refl, tt, (refl, refl, (refl, refl, (refl, refl, tt, (refl, refl, (refl, refl, tt, (refl, refl, (refl, refl))), (refl, refl, (refl, refl)))))))))))))),
                      (
                        (refl, refl, (refl, refl, (refl, refl, (refl, refl, tt, (refl, refl, (refl, refl, (refl, refl, tt, (refl, refl, (refl, refl, (refl, refl, tt, (refl, refl, (refl, refl, (refl, refl, tt, (refl, refl, (refl, refl, (refl, refl, tt, (refl, refl, (refl, refl, (refl, refl, tt, (refl, refl, (refl, refl))), (refl, refl, (refl, refl))), (refl, refl, (refl, refl, tt, (refl, refl, (refl, refl))), (refl, refl, (refl, refl))))))))))))))), (refl, refl, (refl, refl, (refl, refl, tt, (refl, refl, (refl, refl, (refl, refl, tt, (refl, refl, (refl, refl, (refl, refl, tt, (refl, refl, (refl, refl, (refl, refl, tt, (refl, refl, (refl, refl))), (refl, refl, (refl, refl))), (refl, refl, (refl, refl, tt, (refl, refl, (refl, refl))), (refl, refl, (refl, refl)))))))))))))))))),
                        (
                          (refl, refl, (refl, refl, (refl, refl, tt, (refl, refl)))),
                          (
                            (refl, refl, (refl, refl, (refl, refl, tt, (refl, refl, (refl, refl, (refl, refl, tt, (refl, refl))))))),
                            (
                              (refl, refl, (refl, refl, (refl, refl, tt, (refl, refl)))),
                              (
                                (refl, refl, (refl, refl, (refl, refl, tt, (refl, refl)))),
                                (
                                  (refl, refl, (refl, refl, (refl, refl, tt, (refl, refl)))),
                                  (
                                    (refl, refl, (refl, refl, (refl, refl, tt, (refl, refl)))),
                                    (
                                      (refl, refl, (refl, refl, (refl, refl, tt, (refl, refl)))),
                                      (
                                        (refl, refl, (refl, refl, (refl, refl, tt, (refl, refl)))),
                                        (
                                          (refl, refl, (refl, refl, (refl, refl, tt, (refl, refl)))),
                                          (
                                            (refl, refl, (refl, refl, (refl, refl, tt, (refl, refl)))),
                                            (
                                              (refl, refl, (refl, refl, (refl, refl, tt, (refl, refl)))),
                                              (
                                                (refl, refl, (refl, refl, (refl, refl, tt, (refl, refl)))),
                                                (
                                                  (refl, refl, (refl, refl, (refl, refl, tt, (refl, refl)))),
                                                  (
                                                    (refl, refl, (refl, refl, (refl, refl, tt, (refl, refl)))),
                                                    (
                                                      (refl, refl, (refl, refl, (refl, refl, tt, (refl, refl)))),
                                                      (
                                                        (refl, refl, (refl, refl, tt, (refl, refl, refl, tt, (refl, refl)))),
                                                        (
                                                          (refl, refl, (refl, refl, (refl, refl, (refl, refl)))),
                                                          (
                                                            (refl, refl, (refl, refl, (refl, refl, (refl, refl)))),
                                                            (
                                                              (refl, refl, (refl, refl, (refl, refl, (refl, refl)))),
                                                              (
                                                                (refl, refl, (refl, refl, (refl, refl, (refl, refl)))),
                                                                ((refl, refl, (refl, refl, (refl, refl, tt, (refl, refl, (refl, refl))))), tt),
                                                              ),
                                                            ),
                                                          ),
                                                        ),
                                                      ),
                                                    ),
                                                  ),
                                                ),
                                              ),
                                            ),
                                          ),
                                        ),
                                      ),
                                    ),
                                  ),
                                ),
                              ),
                            ),
                          ),
                        ),
                      ),
                    ),
                  ),
                ),
              ),
            ),
          ),
        ),
      ),
    ),
  ),
)
