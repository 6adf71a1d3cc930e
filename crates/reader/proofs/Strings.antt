-- A string: the run between its quotes, and how it ends.
use Prim.Native.Nat.{ℕ, ◌+◌, ◌-◌, ◌≤◌, ◌<◌}
use mathlib.Core.Path.{◌≡◌, refl, sym, ap, subst, ◌∙◌}
use mathlib.Core.Bool.{Bool, true, false, cond}
use mathlib.Core.Option.{Option, some}
use mathlib.Core.List.{List, [], ◌∷◌}
use native.Mathlib.Omega.{arith}
use lib.ListN.{length}
use lib.Dec.{eqb}
use borrow.Author.Tests.{eq-eqb}
use Rattle.lexis.specs.declared.string.Why.{Why}
use Rattle.lexis.specs.declared.string.Why.TheVariants as why
use Rattle.lexis.specs.declared.string.Run.{Run}
use Rattle.lexis.specs.Bytes.{byte_at}
use Rattle.lexis.specs.String.{Mode, quoted, not, text_at, laid, RunHere, Wrote}
use Rattle.lexis.specs.RunLaws.{clash, inside}
use Rattle.engine.specs.Base.{nil}
use Rattle.engine.specs.Engine.{Fits}
use Rattle.engine.specs.Layout.{fin, move, fork, grammar, from}
use Rattle.engine.specs.Way.{mid, Way, way_start, way_fin, way_move, way_stop, way_yes, way_no, led}
use Rattle.grammar.specs.Moves.{an_expression, Under, to, no, place, run, close, round, unit_at, close_by, walk}
use Rattle.grammar.specs.Layouts.{Layout, layouts, string_lay}
use Rattle.grammar.specs.Hcl.{hcl, under, pick_at}
use Rattle.grammar.specs.Table.{record_of, span}
use Rattle.reader.specs.Buffer.{put_at}
use Rattle.reader.specs.Said.{Step, step_of, Asked, Heads, Said}
use Rattle.reader.specs.Text.{flag_of, step_from, Ends, Quoting, SaidString}
use Rattle.grammar.specs.TextLaws.{close_by_lem, run_yes, run_no, pick_string, plain_yes, quote_stands}
use Rattle.reader.proofs.Lays.{lay_one}
use Rattle.reader.proofs.Answers.{from_good, refused, head_no, kept_same}
use Rattle.grammar.specs.UnitLaws.{is_line, run_escaped, run_length, run_end, run_stops}
use Rattle.reader.proofs.Texts.{leaf, leaf_string, total_leaf, records_leaf, written_leaf}
use Rattle.reader.proofs.Pieces.{Ended, ended_by, refused_as, closed_as, delimited_not, quoted_line}

-- what a string asks, where one is called for
pub quoting : {s y : List ℕ} {i u k p : ℕ} (left : ℕ) (lines : Bool) → Asked s y i u k p → pick_at s (under left lines an_expression) p ≡ some 6 → Quoting s i u p
quoting {s} {p = p} left lines a q = record { small = a.small; quote = pick_string s left lines p q; few = a.few; used = a.used }

-- a quote is within the source
pub quote_inside : {s : List ℕ} {i u p : ℕ} → Quoting s i u p → p < length s
quote_inside {s} {p = p} w = inside (λ x. eqb x 34) s p refl (eq-eqb (byte_at s p) 34 w.quote)

pub run_inside : {s : List ℕ} {i u p : ℕ} {r : Run} → Quoting s i u p → RunHere quoted s (p + 1) r → r.end ≤ length s
run_inside w h = omega (arith, quote_inside w, h.high)

-- quoted text is closed by a quote alone
quote_alone : (s : List ℕ) (t q e : ℕ) (y : Why) → is_line y ≡ false → close_by s t q y ≡ to e → q + 1 ≡ e
quote_alone s t q e why.Quote f g = cc
quote_alone s t q e why.Interpolation f g = absurd (let z : ◌≡◌ {A = ℕ} 0 1 = cc in omega arith)
quote_alone s t q e why.Directive f g = absurd (let z : ◌≡◌ {A = ℕ} 0 1 = cc in omega arith)
quote_alone s t q e why.Escape f g = absurd (let z : ◌≡◌ {A = ℕ} 0 1 = cc in omega arith)
quote_alone s t q e why.Closing f g = clash f
quote_alone s t q e why.Foreign f g = clash f
quote_alone s t q e why.End f g = absurd (let z : ◌≡◌ {A = ℕ} 0 1 = cc in omega arith)

module _ {s : List ℕ} {i u p d e : ℕ} {r : Run} {c : Step} (w : Quoting s i u p) (h : RunHere quoted s (p + 1) r) (z : Ends s p r.end d e r.why c) where
  in_quotes : round s p ≡ quoted
  in_quotes = rw (eq-eqb (byte_at s p) 34 w.quote)

  here : RunHere (round s p) s (p + 1) r
  here = subst (λ (o : Mode). RunHere o s (p + 1) r) (sym in_quotes) h

  unit_here : unit_at s p r.end ≡ not r.why
  unit_here = run_stops here

  no_line : is_line r.why ≡ false
  no_line = quoted_line s p r.end r.why in_quotes unit_here

  end_is : c ≡ step_from (close_by s p r.end r.why)
  end_is = z.is (delimited_not s p d e r.why no_line)

  fits_in_lem : Ended s p r.end (close_by s p r.end r.why)
  fits_in_lem = ended_by s p r.end (omega (arith, h.low)) (run_inside w h) r.why unit_here

  c_low : p ≤ c.end
  c_low = rw end_is fits_in_lem.low

  pub string_high : c.end ≤ length s
  string_high = rw end_is fits_in_lem.high

  -- the numbers of its record fit
  pub string_leaf : {v n : ℕ} → v ≤ r.end → n ≤ r.end → (p ≤ 65535) × (c.end ≤ 65535) × (v ≤ 65535) × (n ≤ 65535)
  string_leaf f g = let end = run_inside w h in omega (arith, c_low, string_high, w.small)

  closed : c.kind ≡ 0 → close_by s p r.end r.why ≡ to c.end
  closed f = closed_as c (close_by s p r.end r.why) end_is fits_in_lem.refused f

  -- its closing quote
  string_end : c.kind ≡ 0 → r.end + 1 ≡ c.end
  string_end f = quote_alone s p r.end c.end r.why no_line (closed f)

  abbrev inner : Layout
  inner = fork (run false ∷ []) (move (close ∷ []) (fin 0)) (move (run true ∷ []) (move (close ∷ []) (fin 1)))

  opened : (a : Under) → Way (hcl s) (mid (hcl s) a p [] 6 string_lay p) nil a p [] 6 inner (p + 1)
  opened a = way_move (hcl s) (way_start (hcl s) a p [] 6 string_lay p) (ap place (plain_yes s a p p (34 ∷ []) (quote_stands s p w.quote)))

  gone : (a : Under) (φ : Bool) → (text_at (round s p) s (p + 1)).escaped ≡ φ → walk s a p (run φ ∷ []) (p + 1) ≡ to r.end
  gone a φ f = run_yes s a p (p + 1) φ f ∙ ap to (run_end here)

  way_string : (a : Under) → Way (hcl s) (mid (hcl s) a p [] 6 string_lay p) nil a p [] 6 (move (close ∷ []) (fin (flag_of r.escaped))) r.end
  way_string a = go r.escaped (sym (run_escaped here))
    where
      go : (φ : Bool) → (text_at (round s p) s (p + 1)).escaped ≡ φ → Way (hcl s) (mid (hcl s) a p [] 6 string_lay p) nil a p [] 6 (move (close ∷ []) (fin (flag_of φ))) r.end
      go false f = way_yes (hcl s) (opened a) (ap place (gone a false f))
      go true f = way_move (hcl s) (way_no (hcl s) (opened a) (ap place (run_no s a p (p + 1) f))) (ap place (gone a true f))

  module _ (left : ℕ) (lines : Bool) (q : pick_at s (under left lines an_expression) p ≡ some 6) (k : ℕ) (y : List ℕ) where
    abbrev a₀ : Under
    a₀ = under left lines an_expression

    string_no : {b b' x x' : List ℕ} → ¬ (c.kind ≡ 0) → Said (Heads s (under left lines an_expression) p) s i u k p b b' x x' y y c
    unfolding layouts
    string_no f =
        let g = refused_as c (close_by s p r.end r.why) end_is fits_in_lem.refused f in
        let stuck : walk s a₀ p (close ∷ []) r.end ≡ no c.kind c.end = close_by_lem s a₀ p r.end r.why unit_here ∙ g.no in
        refused c.kind c.end g.is (head_no s q (rw stuck at (way_stop (hcl s) (way_string a₀) (ap place stuck)))) g.kind c_low string_high (kept_same y)

    string_yes : {b b' x x' : List ℕ} {m : Step} → c.kind ≡ 0 → m ≡ step_of 0 c.end 1 (cond r.escaped r.length 0)
        → b' ≡ put_at b i (record_of 6 (flag_of r.escaped) p c.end 1 (span 6 (flag_of r.escaped) p c.end u r.length)) → x' ≡ cond r.escaped (laid x u (text_at quoted s (p + 1)).bytes) x
        → Said (Heads s (under left lines an_expression) p) s i u k p b b' x x' y y m
    unfolding layouts
    string_yes {b} {b'} {x} {x'} f m-is put written =
        let φ = r.escaped in
        let e = c.end in
        let said = (text_at quoted s (p + 1)).bytes in
        let has = leaf_string s 0 p e in
        let n-is = run_length h in
        let shut : walk s a₀ p (close ∷ []) r.end ≡ to e = close_by_lem s a₀ p r.end r.why unit_here ∙ closed f in
        let fits : Fits (grammar (hcl s)) (mid (hcl s) a₀ p [] 6 string_lay p) 6 (flag_of φ) e nil = way_fin (hcl s) (way_move (hcl s) (way_string a₀) (ap place shut)) in
        let last = string_end f in
        from_good
        (record {
          tree = leaf s 0 6 p e said φ;
          gives = led (hcl s) (subst (λ (o : Option ℕ). Fits (grammar (hcl s)) (from (hcl s) o a₀ p [] p) 6 (flag_of φ) e nil) (sym q) fits);
          end = refl;
          count = refl;
          text = total_leaf s 0 6 p e said has φ r.length n-is;
          laid = put ∙ rw (records_leaf s 0 6 p e said has φ u r.length n-is) (lay_one b i (record_of 6 (flag_of φ) p e 1 (span 6 (flag_of φ) p e u r.length)));
          written = written_leaf s 0 6 p e said has φ x x' u written;
          whole = refl;
          room = omega (arith, h.low);
          spent = omega (arith, h.low, h.short, most φ r.length);
          high = string_high;
        })
        m-is (kept_same y)
      where
        most : (φ : Bool) (n : ℕ) → cond φ n 0 ≤ n
        most true n = omega arith
        most false n = omega arith

  -- the answers, wherever a string is called for
  pub said_no : {b b' x x' : List ℕ} → ¬ (c.kind ≡ 0) → SaidString s i u p b b' x x' c
  said_no f = record { said = λ left lines q k y. string_no left lines q k y f }

  -- with an escape
  pub said_escaped : {b b' x x' : List ℕ} {m : Step} {v : Bool} → c.kind ≡ 0 → r.escaped ≡ true → m ≡ step_of 0 c.end 1 r.length → b' ≡ put_at b i (record_of 6 1 p c.end 1 (u, r.length))
      → Wrote x x' u (text_at quoted s (p + 1)).bytes v → SaidString s i u p b b' x x' m
  said_escaped f g m-is put written = record { said = λ left lines q k y. string_yes left lines q k y f (m-is ∙ rw g) (put ∙ rw g) (written.laid ∙ rw g) }

  -- as it stands
  pub said_plain : {b b' x : List ℕ} {m : Step} → c.kind ≡ 0 → r.escaped ≡ false → m ≡ step_of 0 c.end 1 0 → b' ≡ put_at b i (record_of 6 0 p c.end 1 (p + 1, r.end - (p + 1)))
      → SaidString s i u p b b' x x m
  said_plain f g m-is put =
      let long : r.end - (p + 1) ≡ c.end - p - 2 = omega (arith, string_end f) in
      record { said = λ left lines q k y. string_yes left lines q k y f (m-is ∙ rw g) (put ∙ rw (g, long)) (rw g) }
