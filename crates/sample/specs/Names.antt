-- A second, smaller language, which uses what the first does not: a class that calls its child by another name, a move that sees where its node
-- starts, and a child that depends on the record of the child before it.
use Rattle.std.specs.Prelude.{◌≡◌, refl, Bool, true, false, ◌&&◌, ◌||◌, List, [], ◌∷◌, ℕ, zero, suc, ◌+◌, eqb}
use Rattle.std.proofs.Common.{ap, sym, ◌∙◌, arith}
use Rattle.std.proofs.Math.Option.{Option, none, some}
use Rattle.engine.specs.Base.{ok, halt, Rec, Tree, node, nil, cons, choose}
use Rattle.engine.specs.Layout.{Lay, bad, fin, move, kid, fork, Lang, read_at}
use Rattle.engine.specs.Rule.{Ruled}
use Rattle.engine.specs.Tables.{ok_kind, Sane}
use Rattle.engine.specs.BaseLaws.{ok_inj, choose_all}
use Rattle.engine.specs.LayoutLaws.{ruled_read, read_ruled}

pub data Child : Type 0 where
  key : Child
  val : Child

abbrev byte_at : List ℕ → ℕ → ℕ
byte_at [] p = 0
byte_at (x ∷ xs) zero = x
byte_at (x ∷ xs) (suc p) = byte_at xs p

abbrev when : {X : Type 0} → Bool → X → Option X
when true x = some x
when false x = none

-- 61 (an equals sign) must stand two bytes after the node's start, unless it is a loose language
abbrev step : Bool → List ℕ → ℕ → ℕ → ℕ → Option ℕ
step loose s m σ p = when (eqb (byte_at s p) m && elim (eqb m 61) [ true ↦ eqb p (σ + 2) || loose | false ↦ true ]) (suc p)

-- a value stands only after a child of kind 3, a key
abbrev under : Child → List (Rec ℕ) → Option ℕ
under key ks = some 0
under val [] = none
under val (r ∷ ks) = when (eqb r.kind 3) 0

abbrev lay : ℕ → Lay ℕ Child
lay k = elim (eqb k 1) [ true ↦ move 97 (fin 5) | false ↦ elim (eqb k 2) [ true ↦ move 123 (kid key (move 61 (kid val (fork 125 (fin 7) (move 59 (fin 8)))))) | false ↦ bad ] ]

abbrev style_of : Child → ℕ
style_of key = 1
style_of val = 0

abbrev eg : Bool → List ℕ → Lang ℕ ℕ ℕ Child
eg loose s = record {
  go = λ b m σ p. step loose s m σ p;
  down = λ b c σ ks. under c ks;
  style = style_of;
  name = λ n k. elim (eqb k 1) [ true ↦ 3 | false ↦ k ];
  bound = λ c. 0;
  slack = λ c. 0;
  pick = λ b p. choose ((eqb (byte_at s p) 97, 1) ∷ (eqb (byte_at s p) 123, 2) ∷ []);
  op_at = λ b p. none;
  layout = lay;
  tight = λ k. 1;
  hold = λ k. 1;
  cap = 1;
  stops = λ m c. true;
  keeps = λ c. true;
  no_move = λ b m σ p. (m, p);
  no_kind = λ b p. (1, p);
  no_level = λ b c ks p. (2, p);
}

-- {a=a}: the key's kind is 3, the value's 1, the flag is 7
eg_reads : read_at (eg false (123 ∷ 97 ∷ 61 ∷ 97 ∷ 125 ∷ [])) 9 0 0 ≡ ok (node 2 7 0 5 (cons (node 3 5 1 2 nil) (cons (node 1 5 3 4 nil) nil)))
eg_reads = refl

-- {a=a; has another flag
eg_flag : read_at (eg false (123 ∷ 97 ∷ 61 ∷ 97 ∷ 59 ∷ [])) 9 0 0 ≡ ok (node 2 8 0 5 (cons (node 3 5 1 2 nil) (cons (node 1 5 3 4 nil) nil)))
eg_flag = refl

-- {{a=a}=a}: the sign stands too far from the start of the outer node
eg_start : read_at (eg false (123 ∷ 123 ∷ 97 ∷ 61 ∷ 97 ∷ 125 ∷ 61 ∷ 97 ∷ 125 ∷ [])) 9 0 0 ≡ halt 61 6
eg_start = refl

-- {{a=a}=a}, loose: a value stands only after a key that was a variable
eg_siblings : read_at (eg true (123 ∷ 123 ∷ 97 ∷ 61 ∷ 97 ∷ 125 ∷ 61 ∷ 97 ∷ 125 ∷ [])) 9 0 0 ≡ halt 2 7
eg_siblings = refl

eg_tight : (n k : ℕ) → ◌≡◌ {A = ℕ} 1 1
eg_tight n k = refl

eg_sane : (loose : Bool) (s : List ℕ) → Sane (eg loose s)
eg_sane loose s = record {
  cap_pos = omega arith;
  name_tight = eg_tight;
  slack_le = λ c. omega arith;
  pick_ok = λ b p k q. choose_all (ok_kind (eg loose s)) ((eqb (byte_at s p) 97, 1) ∷ (eqb (byte_at s p) 123, 2) ∷ []) tt k q;
  op_ok = λ b p k q. absurd (let z : ◌≡◌ {A = ℕ} 0 1 = cc in omega arith);
  stands_ok = λ c b d σ ks k w m. tt;
  stops_ok = λ m c t b d σ ks p q w g. omega arith;
  keeps_ok = λ c t b d σ ks p w. refl;
}

abbrev src : List ℕ
src = 123 ∷ 97 ∷ 61 ∷ 97 ∷ 125 ∷ []

-- the rule holds of the tree, and not of the one in which the key is not renamed
eg_rule : Ruled (eg false src) 0 0 (node 2 7 0 5 (cons (node 3 5 1 2 nil) (cons (node 1 5 3 4 nil) nil)))
eg_rule = read_ruled (eg false src) (eg_sane false src) 0 0 _ 9 refl

abbrev key_kind : Tree ℕ → ℕ
key_kind (node k φ b e (cons (node k' φ' b' e' us) ts)) = k'
key_kind (node k φ b e nil) = 0

eg_wrong : ¬ Ruled (eg false src) 0 0 (node 2 7 0 5 (cons (node 1 5 1 2 nil) (cons (node 1 5 3 4 nil) nil)))
eg_wrong r =
    let q = ruled_read (eg false src) (eg_sane false src) 0 0 _ 9 (omega arith) r in
    let z : ◌≡◌ {A = ℕ} 3 1 = ap key_kind (ok_inj (sym eg_reads ∙ q)) in
    absurd (omega arith)
