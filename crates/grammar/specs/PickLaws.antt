-- Laws on what a place calls for: which kinds it may be, and what the program and the tables say of these.
use Rattle.std.specs.Prelude.{ℕ, ◌≤◌, ◌≡◌, List, [], ◌∷◌, Bool, ◌&&◌, ◌||◌, drop, eqb, ltb}
use Rattle.std.proofs.Math.Path.{refl}
use Rattle.std.proofs.Common.{sym, ap, subst, arith, leb→le, eqb→eq, eqb-true, eq-eqb, ne_eqb, ltb-true}
use Rattle.std.proofs.Math.Bool.{true, false, cond, not}
use Rattle.std.proofs.Math.Option.{Option, none, some}
use Rattle.std.proofs.Math.Dec.{T, leb}
use Rattle.lexis.specs.Trivia.{Gap, gap_to}
use Rattle.lexis.specs.Operator.{op_at}
use Rattle.lexis.specs.TokenLaws.{op_all}
use Rattle.engine.specs.Base.{all_of, has, choose}
use Rattle.grammar.specs.Kinds.{tight_of}
use Rattle.grammar.specs.Moves.{Want, an_expression, a_name, an_item, a_part, a_piece, a_condition, Under}
use Rattle.grammar.specs.Hcl.{terms, portions, picks, pick_at, follows, follow_in, follow_at, grows, under}
use Rattle.grammar.specs.Code.{coded}
use Rattle.grammar.specs.Programmed.{Programmed, programmed}
use Rattle.grammar.specs.Wants.{want_in, want_as}
use Rattle.grammar.specs.Said.{kind_of}

first : (a b : Bool) → T (a && b) → T a
first true b t = tt
first false b t = absurd t

second : (a b : Bool) → T (a && b) → T b
second true b t = t
second false b t = absurd t

-- a test that passes at each number of a list, which is computed, passes at a number that is listed
pub listed : (q : ℕ → Bool) (xs : List ℕ) → T (all_of q xs) → (k : ℕ) → T (has xs k) → T (q k)
listed q [] t k h = absurd h
listed q (x ∷ xs) t k h = go (eqb x k) refl h (listed q xs (second (q x) (all_of q xs) t) k)
  where
    go : (b : Bool) → eqb x k ≡ b → T (b || has xs k) → (T (has xs k) → T (q k)) → T (q k)
    go true e u f = subst (λ (n : ℕ). T (q n)) (eqb-true x k e) (first (q x) (all_of q xs) t)
    go false e u f = f u

-- ---- a choice is one of its list

none_some : {A : Type 0} {k : ℕ} → none ≡ some k → A
none_some e = let z : ◌≡◌ {A = ℕ} 0 1 = cc in absurd (omega arith)

pub chosen : (q : ℕ → Bool) (l : List (Bool × ℕ)) → T (all_of (λ x. q x.1) l) → (k : ℕ) → choose l ≡ some k → T (q k)
chosen q [] t k e = none_some e
chosen q (x ∷ l) t k e = go x.0 e (chosen q l (second (q x.1) (all_of (λ y. q y.1) l) t) k)
  where
    go : (b : Bool) → elim b [ true ↦ some x.1 | false ↦ choose l ] ≡ some k → (choose l ≡ some k → T (q k)) → T (q k)
    go true f g = let z : x.1 ≡ k = cc in subst (λ (n : ℕ). T (q n)) z (first (q x.1) (all_of (λ y. q y.1) l) t)
    go false f g = g f

-- the kinds that may follow an operand
abbrev pub followers : List ℕ
followers = 21 ∷ 24 ∷ 25 ∷ 26 ∷ 27 ∷ 28 ∷ 29 ∷ 30 ∷ 31 ∷ 32 ∷ 33 ∷ 34 ∷ 35 ∷ 36 ∷ 37 ∷ []

-- those of a term
abbrev pub termed : List ℕ
termed = 1 ∷ 2 ∷ 3 ∷ 4 ∷ 5 ∷ 6 ∷ 7 ∷ 8 ∷ 11 ∷ 12 ∷ 15 ∷ 16 ∷ 18 ∷ 19 ∷ 22 ∷ 23 ∷ []

module _ (s : List ℕ) (p : ℕ) where
  pub picked_term : (left : ℕ) (lines : Bool) (k : ℕ) → pick_at s (under left lines an_expression) p ≡ some k → T (has termed k)
  unfolding pick_at
  picked_term left lines k e = chosen (has termed) (terms s lines p) tt k e

  pub picked_part : (left : ℕ) (lines : Bool) (k : ℕ) → pick_at s (under left lines a_part) p ≡ some k → T (leb 38 k && leb k 42)
  unfolding pick_at
  picked_part left lines k e = chosen (λ n. leb 38 n && leb n 42) (portions s p) tt k e

  pub picked_name : (left : ℕ) (lines : Bool) → pick_at s (under left lines a_name) p ≡ some 17
  unfolding pick_at
  picked_name left lines = refl

  pub picked_condition : (left : ℕ) (lines : Bool) → pick_at s (under left lines a_condition) p ≡ some 20
  unfolding pick_at
  picked_condition left lines = refl

  -- no kind is 0
  nowhere_zero : (lines : Bool) (w : Want) → T (all_of (λ x. not (eqb x.1 0)) (picks s lines w p))
  nowhere_zero lines an_expression = tt
  nowhere_zero lines a_name = tt
  nowhere_zero lines (an_item ks) = tt
  nowhere_zero lines a_part = tt
  nowhere_zero lines (a_piece t) = tt
  nowhere_zero lines a_condition = tt

  pub picked_pos : (b : Under) (k : ℕ) → pick_at s b p ≡ some k → T (not (eqb k 0))
  unfolding pick_at
  picked_pos b k e = chosen (λ n. not (eqb n 0)) (picks s b.lines b.want p) (nowhere_zero b.lines b.want) k e

  -- an operator of the table, `?` or a part of a traversal
  operator_known : (q k : ℕ) → choose (follows s q) ≡ some k → T (has followers k)
  operator_known q k e = go (ltb 0 (op_at s q).kind) refl e (op_all (λ o. eqb o.kind 0 || has followers o.kind) tt s q)
    where
      go : (b : Bool) → ltb 0 (op_at s q).kind ≡ b → choose ((b, (op_at s q).kind) ∷ drop 1 (follows s q)) ≡ some k
          → T (eqb (op_at s q).kind 0 || has followers (op_at s q).kind) → T (has followers k)
      go true u f t =
          let z : (op_at s q).kind ≡ k = cc in
          let n : T (has followers (op_at s q).kind) = rw (ne_eqb (op_at s q).kind 0 (λ w. omega (arith, ltb-true 0 (op_at s q).kind u))) at t in
          subst (λ (x : ℕ). T (has followers x)) z n
      go false u f t = chosen (has followers) (drop 1 (follows s q)) tt k f

  in_gap : (g : Gap) (k : ℕ) → follow_in s g ≡ some k → T (has followers k)
  in_gap g k e = go g.unclosed e
    where
      go : (u : Bool) → cond u none (choose (follows s g.at)) ≡ some k → T (has followers k)
      go true f = none_some f
      go false f = operator_known g.at k f

  pub followed : (b : Under) (k : ℕ) → follow_at s b p ≡ some k → T (has followers k)
  unfolding follow_at
  followed b k e = go (grows b.want) e
    where
      go : (u : Bool) → cond u (follow_in s (gap_to b.lines s p)) none ≡ some k → T (has followers k)
      go true f = in_gap (gap_to b.lines s p) k f
      go false f = none_some f

-- ---- a kind that the code has, as an option

pub kind_some : (o : Option ℕ) (k : ℕ) → kind_of o ≡ k → (k ≡ 0 → ⊥) → o ≡ some k
kind_some none k e n = absurd (n (sym e))
kind_some (some j) k e n = ap some e

kind_none : (o : Option ℕ) → ((k : ℕ) → o ≡ some k → T (not (eqb k 0))) → kind_of o ≡ 0 → o ≡ none
kind_none none f e = refl
kind_none (some k) f e = absurd (let t : T (not (eqb k 0)) = f k refl in rw e at t)

pub pick_none : (s : List ℕ) (b : Under) (p : ℕ) → kind_of (pick_at s b p) ≡ 0 → pick_at s b p ≡ none
pick_none s b p e = kind_none (pick_at s b p) (picked_pos s p b) e

pub follow_none : (s : List ℕ) (b : Under) (p : ℕ) → kind_of (follow_at s b p) ≡ 0 → follow_at s b p ≡ none
follow_none s b p e = kind_none (follow_at s b p) (λ k h. listed (λ n. not (eqb n 0)) followers tt k (followed s p b k h)) e

-- ---- what they are wanted as

abbrev plain : ℕ → Bool
plain k = not (eqb k 17) && (not (leb 38 k && leb k 42) && (not (eqb k 20) && not (eqb k 10)))

plain_as_lem : (a b c d : Bool) → T (not a && (not b && (not c && not d))) → want_as a b c d 0 ≡ an_expression
plain_as_lem true b c d t = absurd t
plain_as_lem false true c d t = absurd t
plain_as_lem false false true d t = absurd t
plain_as_lem false false false true t = absurd t
plain_as_lem false false false false t = refl

-- the kinds of a list are wanted as expressions, which is computed
wanted : (xs : List ℕ) → T (all_of plain xs) → (k : ℕ) → T (has xs k) → want_in k 0 ≡ an_expression
wanted xs t k h = plain_as_lem (eqb k 17) (leb 38 k && leb k 42) (eqb k 20) (eqb k 10) (listed plain xs t k h)

-- ---- what the program and the tables say of them

-- a term whose program the code follows
pub record Term (k : ℕ) : Type 0 where
  pub known : Programmed k
  pub want : want_in k 0 ≡ an_expression
  pub tight : tight_of k ≡ 9
  pub six : k ≡ 6 → ⊥
  pub nine : k ≡ 9 → ⊥

-- what may follow an operand
pub record Following (k : ℕ) : Type 0 where
  pub known : Programmed k
  pub want : want_in k 0 ≡ an_expression
  pub low : 1 ≤ tight_of k
  pub high : tight_of k ≤ 8
  pub six : k ≡ 6 → ⊥
  pub nine : k ≡ 9 → ⊥

-- a part of a traversal
pub record Portion (k : ℕ) : Type 0 where
  pub known : Programmed k
  pub tight : tight_of k ≡ 9
  pub low : 38 ≤ k
  pub high : k ≤ 42

-- no number of a list is one that is not listed
unlisted : (xs : List ℕ) (n k : ℕ) → T (has xs k) → T (all_of (λ x. not (eqb x n)) xs) → k ≡ n → ⊥
unlisted xs n k h t e =
    let u : T (not (eqb k n)) = listed (λ x. not (eqb x n)) xs t k h in
    let v : T (not (eqb n n)) = subst (λ (x : ℕ). T (not (eqb x n))) e u in
    rw (eq-eqb n n refl) at v

-- strings, templates, heredocs, objects and unary operators are not in the program: the rest of the terms is
pub term_of : (k : ℕ) → T (has termed k) → (k ≡ 6 → ⊥) → (k ≡ 7 → ⊥) → (k ≡ 8 → ⊥) → (k ≡ 12 → ⊥) → (k ≡ 22 → ⊥) → (k ≡ 23 → ⊥) → Term k
term_of k t n6 n7 n8 n12 n22 n23 = record {
  known = programmed k in_code;
  want = wanted termed tt k t;
  six = n6;
  tight = eqb→eq (tight_of k) 9 (listed (λ n. eqb (tight_of n) 9) termed tt k t);
  nine = unlisted termed 9 k t tt;
}
  where
    in_code : T (has coded k)
    in_code =
        let h : T ((eqb k 6 || eqb k 7 || eqb k 8 || eqb k 12 || eqb k 22 || eqb k 23) || has coded k) =
        listed (λ n. (eqb n 6 || eqb n 7 || eqb n 8 || eqb n 12 || eqb n 22 || eqb n 23) || has coded n) termed tt k t in
        rw (ne_eqb k 6 n6, ne_eqb k 7 n7, ne_eqb k 8 n8, ne_eqb k 12 n12, ne_eqb k 22 n22, ne_eqb k 23 n23) at h

pub following_of : (k : ℕ) → T (has followers k) → Following k
following_of k t = record {
  known = programmed k (listed (has coded) followers tt k t);
  want = wanted followers tt k t;
  low = leb→le 1 (tight_of k) (listed (λ n. leb 1 (tight_of n)) followers tt k t);
  high = leb→le (tight_of k) 8 (listed (λ n. leb (tight_of n) 8) followers tt k t);
  six = unlisted followers 6 k t tt;
  nine = unlisted followers 9 k t tt;
}

abbrev portioned : List ℕ
portioned = 38 ∷ 39 ∷ 40 ∷ 41 ∷ 42 ∷ []

pub portion_of : (s : List ℕ) (p left : ℕ) (lines : Bool) (k : ℕ) → pick_at s (under left lines a_part) p ≡ some k → Portion k
unfolding pick_at
portion_of s p left lines k e =
    let t : T (has portioned k) = chosen (has portioned) (portions s p) tt k e in
    record {
      known = programmed k (listed (has coded) portioned tt k t);
      tight = eqb→eq (tight_of k) 9 (listed (λ n. eqb (tight_of n) 9) portioned tt k t);
      low = leb→le 38 k (listed (leb 38) portioned tt k t);
      high = leb→le k 42 (listed (λ n. leb n 42) portioned tt k t);
    }

-- the same of what the code was told
pub term_kind : (s : List ℕ) (p left : ℕ) (lines : Bool) (k : ℕ) → k ≡ kind_of (pick_at s (under left lines an_expression) p) → (k ≡ 0 → ⊥) → T (has termed k)
term_kind s p left lines k e n = picked_term s p left lines k (kind_some (pick_at s (under left lines an_expression) p) k (sym e) n)

pub follow_kind : (s : List ℕ) (p left : ℕ) (lines : Bool) (k : ℕ) → k ≡ kind_of (follow_at s (under left lines an_expression) p) → (k ≡ 0 → ⊥) → Following k
follow_kind s p left lines k e n =
    following_of k (followed s p (under left lines an_expression) k (kind_some (follow_at s (under left lines an_expression) p) k (sym e) n))

pub part_kind : (s : List ℕ) (p left : ℕ) (lines : Bool) (k : ℕ) → k ≡ kind_of (pick_at s (under left lines a_part) p) → (k ≡ 0 → ⊥) → Portion k
part_kind s p left lines k e n = portion_of s p left lines k (kind_some (pick_at s (under left lines a_part) p) k (sym e) n)

-- a name, a for's condition, an interpolation
pub name_known : Programmed 17
name_known = programmed 17 tt

pub condition_known : Programmed 20
condition_known = programmed 20 tt

pub interpolation_known : Programmed 10
interpolation_known = programmed 10 tt
