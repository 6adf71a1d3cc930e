-- What reading from the left refuses, it refuses by one of the numbers 3 to 10.
use Rattle.std.specs.Prelude.{ℕ, zero, suc, ◌+◌, ◌≤◌, Bool, false, ◌&&◌, eqb, leb, T}
use Rattle.std.proofs.Common.{subst, arith, leb→le}
use mathlib.Core.List.{List, [], ◌∷◌}
use Rattle.std.proofs.Math.Bool.{true}
use Rattle.std.proofs.Math.Option.{Option, none, some}
use Rattle.lexis.specs.declared.heredoc.Line.{Line}
use Rattle.lexis.specs.declared.heredoc.Line.TheVariants as heredoc_line
use Rattle.lexis.specs.declared.string.Why.TheVariants as why
use Rattle.lexis.specs.Bytes.{byte_at, is_foreign, stands}
use Rattle.lexis.specs.Trivia.{Stopping, gap_to, stop_to}
use Rattle.lexis.specs.Word.{ident_to, is_word, for_to}
use Rattle.lexis.specs.Number.{number_to, index_at}
use Rattle.lexis.specs.Operator.{op_at, is_mark}
use Rattle.lexis.specs.Heredoc.{opener_at, line_at, line_end, part}
use Rattle.lexis.specs.String.{Text, text_at}
use Rattle.lexis.specs.String as string
use Rattle.lexis.specs.Keys.{among}
use Rattle.engine.specs.Base.{Rec}
use Rattle.engine.specs.BaseLaws.{and_t}
use Rattle.engine.specs.Engine.{done, stop, ask, FailAt, fails_first, fails_later, FailIn, fails_here, fails_kid, fails_rest}
use Rattle.engine.specs.Layout.{bad, fin, move, kid, fork, rep, State, Sight, hop, dive, turn, seen, grammar}
use Rattle.grammar.specs.Moves.{Under, Step, to, no, then, refusal, when, unexpected, token, gap, mark, opens, word, ahead, for, ident, number, index, operator, parts, unless, comma, ended, call, fresh, ending, run, piece, more, close, Atom, round, unit_at, closes_as, close_as, goes_as, same, runs, text_start, keys_of, behind_key, lines_in, skip, level, opening, is_part, stop_step, refused, atom, Move, walk}
use Rattle.grammar.specs.Moves as moves
use Rattle.grammar.specs.Layouts.{Class, Layout}
use Rattle.grammar.specs.Hcl.{hcl}
use Rattle.grammar.specs.Answer.{leftover}

-- a number of 01's table that reading meets
pub record Met (k : ℕ) : Type 0 where
  pub low : 3 ≤ k
  pub high : k ≤ 10

data Right : Step → Type 0 where
  made : {q : ℕ} → Right (to q)
  met : {k q : ℕ} → T (leb 3 k && leb k 10) → Right (no k q)

refusal_met : {x : Step} → Right x → Met (refusal x).0
refusal_met made = record { low = omega arith; high = omega arith }
refusal_met (met {k} h) = let (a, b) = and_t (leb 3 k) (leb k 10) h in record { low = leb→le 3 k a; high = leb→le k 10 b }

-- ---- steps

when_right : (b : Bool) {x y : Step} → Right x → Right y → Right (when b x y)
when_right true h g = h
when_right false h g = g

then_right : {x : Step} {f : ℕ → Step} → Right x → ((q : ℕ) → Right (f q)) → Right (then x f)
then_right (made {q}) g = g q
then_right (met h) g = met h

line_right : (l : Line) (p : ℕ) → Right (closes_as l p)
line_right heredoc_line.Text p = met tt
line_right (heredoc_line.Closes e) p = made
line_right (heredoc_line.Foreign e) p = met tt

refused_right : {x : Step} → Right x → Right (refused x)
refused_right made = met tt
refused_right (met h) = met h

goes_right : (p : ℕ) (u : string.Unit) → Right (goes_as p u)
goes_right p (string.is w bs e) = made
goes_right p (string.not why.Quote) = met tt
goes_right p (string.not why.Interpolation) = made
goes_right p (string.not why.Directive) = met tt
goes_right p (string.not why.Escape) = met tt
goes_right p (string.not why.Closing) = met tt
goes_right p (string.not why.Foreign) = met tt
goes_right p (string.not why.End) = met tt

module _ (s : List ℕ) where
  unexpected_right : (p : ℕ) → Right (unexpected s p)
  unexpected_right p = when_right (is_foreign (byte_at s p)) (met tt) (met tt)

  token_right : (p e : ℕ) → Right (token s p e)
  token_right p e = when_right (eqb e p) (unexpected_right p) made

  skip_right : (l : Bool) (p : ℕ) → Right (skip s l p)
  skip_right l p = when_right (gap_to l s p).unclosed (met tt) made

  level_right : (n p : ℕ) {x : Step} → Right x → Right (level n p x)
  level_right zero p h = met tt
  level_right (suc n) p h = h

  opening_right : (n : ℕ) (w : List ℕ) (l : List (List ℕ)) (p : ℕ) → Right (opening s n w l p)
  opening_right n w l p = when_right (is_mark w l s p) (level_right n p made) (unexpected_right p)

  stop_right : (p n : ℕ) (x : Stopping) → Right (stop_step s p n x)
  stop_right p zero x = unexpected_right p
  stop_right p (suc zero) x = made
  stop_right p (suc (suc n)) x = met tt

  runs_right : (e : Bool) (p : ℕ) (t : Text) → Right (runs e p t)
  runs_right e p t = when_right (same e t.escaped) made (met tt)

  close_right : (t p : ℕ) (u : string.Unit) → Right (close_as s t p u)
  close_right t p (string.is w bs e) = met tt
  close_right t p (string.not why.Quote) = made
  close_right t p (string.not why.Interpolation) = met tt
  close_right t p (string.not why.Directive) = met tt
  close_right t p (string.not why.Escape) = met tt
  close_right t p (string.not why.Closing) = line_right (line_at (part s (opener_at s t).from (opener_at s t).to) s p) p
  close_right t p (string.not why.Foreign) = line_right (line_at (part s (opener_at s t).from (opener_at s t).to) s p) p
  close_right t p (string.not why.End) = met tt

  module _ (b : Under) (σ : ℕ) where
    atom_right : (a : Atom) (p : ℕ) → Right (atom s b σ a p)
    unfolding atom
    atom_right (gap g) p = skip_right (lines_in b g) p
    atom_right (mark w l) p = when_right (is_mark w l s p) made (unexpected_right p)
    atom_right (opens w l) p = opening_right b.left w l p
    atom_right (word w) p = when_right (is_word w s p) made (unexpected_right p)
    atom_right (ahead w) p = when_right (is_word w s p) made (unexpected_right p)
    atom_right for p = token_right p (for_to s p)
    atom_right ident p = token_right p (ident_to s p)
    atom_right number p = token_right p (number_to s p)
    atom_right index p =
        when_right (eqb (index_at s p).end p) (unexpected_right p) (when_right (index_at s p).over (met tt) made)
    atom_right (operator k) p = when_right (eqb (op_at s p).kind k) made (unexpected_right p)
    atom_right parts p = when_right (is_part s p) made (unexpected_right p)
    atom_right (unless c) p = when_right (eqb (byte_at s p) c) (unexpected_right p) made
    atom_right comma p = when_right (eqb (byte_at s p) 44) (skip_right true (p + 1)) made
    atom_right moves.stop p = stop_right p (stop_to s p).how (stop_to s p)
    atom_right ended p =
        when_right (eqb (byte_at s p) 125) made (then_right (stop_right p (stop_to s p).how (stop_to s p)) (λ q. skip_right true q))
    atom_right call p =
        when_right (stands (58 ∷ 58 ∷ []) s p) (refused_right (skip_right b.lines (p + 2))) (opening_right b.left (40 ∷ []) [] p)
    atom_right fresh p = when_right (eqb (behind_key s σ) p && among s (keys_of b.want) σ) (met tt) made
    atom_right ending p = token_right p (p + line_end s p)
    atom_right (run e) p = runs_right e p (text_at (round s σ) s p)
    atom_right (piece e) p =
        let m = round s (text_start b.want) in
        then_right (runs_right e p (text_at m s p)) (λ q. token_right p q)
    atom_right more p = goes_right p (unit_at s σ p)
    atom_right close p = close_right σ p (unit_at s σ p)

    walk_right : (m : Move) (p : ℕ) → Right (walk s b σ m p)
    unfolding walk
    walk_right [] p = made
    walk_right (a ∷ m) p = then_right (atom_right a p) (λ q. walk_right m q)

  -- ---- productions

  abbrev Sees : Sight (hcl s) → Type 0
  Sees (done k φ p) = Unit {0}
  Sees (stop k p) = Met k
  Sees (ask a p nm f) = Unit {0}

  hop_met : (o : Option ℕ) (z : ℕ × ℕ) (f : ℕ → Sight (hcl s)) → Met z.0 → ((q : ℕ) → Sees (f q)) → Sees (hop (hcl s) o z f)
  hop_met none z f h g = h
  hop_met (some q) z f h g = g q

  dive_met : (o : Option Under) (z : ℕ × ℕ) (j p : ℕ) (nm : ℕ → ℕ) (f : Rec ℕ → State ℕ Under Move Class) → Met z.0 → Sees (dive (hcl s) o z j p nm f)
  dive_met none z j p nm f h = h
  dive_met (some d) z j p nm f h = tt

  turn_met : (o : Option ℕ) (f : ℕ → Sight (hcl s)) (v : Sight (hcl s)) → ((q : ℕ) → Sees (f q)) → Sees v → Sees (turn (hcl s) o f v)
  turn_met none f v h g = g
  turn_met (some q) f v h g = h q

  deep : Met 8
  deep = record { low = omega arith; high = omega arith }

  seen_met : (b : Under) (σ : ℕ) (ks : List (Rec ℕ)) (k : ℕ) (l : Layout) (p : ℕ) → Sees (seen (hcl s) b σ ks k l p)
  seen_met b σ ks k bad p = refusal_met (unexpected_right p)
  seen_met b σ ks k (fin φ) p = tt
  seen_met b σ ks k (move m l) p = hop_met ((hcl s).go b m σ p) _ _ (refusal_met (walk_right b σ m p)) (λ q. seen_met b σ ks k l q)
  seen_met b σ ks k (kid c l) p = dive_met ((hcl s).down b c σ ks) (8, p) _ p _ _ deep
  seen_met b σ ks k (fork m l r) p = turn_met ((hcl s).go b m σ p) _ _ (λ q. seen_met b σ ks k l q) (seen_met b σ ks k r p)
  seen_met b σ ks k (rep m c l) p = turn_met ((hcl s).go b m σ p) _ _ (λ q. dive_met ((hcl s).down b c σ ks) (8, q) _ q _ _ deep) (seen_met b σ ks k l p)

  mutual
    pub fail_met : {a : Under × ℕ} {p k q : ℕ} → FailAt (grammar (hcl s)) a p k q → Met k
    fail_met (fails_first x) = in_met x
    fail_met (fails_later t g i h n x) = in_met x

    in_met : {g : State ℕ Under Move Class} {k q : ℕ} → FailIn (grammar (hcl s)) g k q → Met k
    in_met (fails_here {s = g} e) = subst Sees e (seen_met g.att g.start g.kids g.kind g.lay g.place)
    in_met (fails_kid a p nm f e x) = fail_met x
    in_met (fails_rest a p nm f t e h x) = in_met x

  -- what is left after the expression
  pub left_met : (e : ℕ) → Met (leftover s e).0
  left_met e = refusal_met (then_right (skip_right false e) (λ q. unexpected_right q))
