-- The text of a template or heredoc: what holds whenever the loop over its pieces begins a turn, and what each of its answers says.
use Prim.Native.Nat.{ℕ, ◌+◌, ◌-◌, ◌≤◌, ◌<◌}
use mathlib.Core.Path.{◌≡◌, refl, sym, ap, subst, ◌∙◌}
use mathlib.Core.Bool.{Bool, true, false}
use mathlib.Core.Logic.{◌⊎◌, inl, inr}
use mathlib.Core.Option.{some}
use mathlib.Core.List.{List, [], ◌∷◌}
use native.Mathlib.Omega.{arith}
use lib.ListN.{length, drop}
use Rattle.lexis.specs.declared.heredoc.Line.{Line}
use Rattle.lexis.specs.declared.heredoc.Line.TheVariants as line
use Rattle.lexis.specs.declared.string.Why.{Why}
use Rattle.lexis.specs.declared.string.Why.TheVariants as why
use Rattle.lexis.specs.declared.string.Run.{Run}
use Rattle.lexis.specs.Heredoc.{fresh_at, opener_at, line_at, part}
use Rattle.lexis.specs.String.{Mode, quoted, not, text_at, mode_of, RunHere, Wrote}
use Rattle.lexis.specs.RunLaws.{clash}
use Rattle.lexis.specs.TextLaws.{closes_within}
use Rattle.engine.specs.Base.{Outcome, ok, halt, stuck, Rec}
use Rattle.engine.specs.Engine.{Body, FailIn, FailAt}
use Rattle.engine.specs.Layout.{fin, move, grammar}
use Rattle.engine.specs.Way.{mid}
use Rattle.grammar.specs.Kinds.{Foreign, Unexpected, Escape, Unclosed, Directive}
use Rattle.grammar.specs.Moves.{a_piece, an_expression, Under, to, no, close, round, unit_at, closes_as, close_by}
use Rattle.grammar.specs.Moves as moves
use Rattle.grammar.specs.MoveLaws.{walk_within}
use Rattle.grammar.specs.Layouts.{Layout, layout_of, text_lay}
use Rattle.grammar.specs.Hcl.{hcl, under, pick_at}
use Rattle.grammar.proofs.Sane.{sane}
use Rattle.grammar.specs.Table.{record_of}
use Rattle.reader.specs.Buffer.{put_at}
use Rattle.reader.specs.Said.{Step, step_of, Asked, Closing, Climbs, Good, Kept, Makes, made_as, Made, SaidMade, Any, under_any, any_before, One, Texting}
use Rattle.reader.specs.Text.{step_from, Delimited, Ends, Piecing, Pieced}
use Rattle.grammar.specs.UnitLaws.{is_line, closable, marks, foreign_within, run_none}
use Rattle.grammar.specs.TextLaws.{more_dollar, more_not, close_by_lem, pick_dollar}
use Rattle.reader.proofs.Stages.{Stage, stage_start, stage_rep, stage_rep_no, stage_end, stage_move, stage_stop}
use Rattle.reader.proofs.Answers.{done, done_head, head_no, head_whole, head_whole_no, stage_made, made_no, kept_same, kept_join}
use Rattle.reader.proofs.Texts.{stage_piece}

-- ---- a production that was refused

pub record Halted (X : Type 0) (s : List ℕ) (a : X → Under) (σ : ℕ) (ks : X → List (Rec ℕ)) (k : ℕ) (l : Layout) (p : ℕ) (r : Step) : Type 0 where
  pub is : r ≡ step_of r.kind r.end 0 0
  pub kind : 1 ≤ r.kind
  pub fails : (ξ : X) → FailIn (grammar (hcl s)) (mid (hcl s) (a ξ) σ (ks ξ) k l p) r.kind r.end

halted_as : (X : Type 0) (s : List ℕ) (a : X → Under) (σ : ℕ) (ks : X → List (Rec ℕ)) (k : ℕ) (l : Layout) (p i u before : ℕ) (b b' x x' : List ℕ) (r : Step) (o : Outcome ℕ (Body ℕ))
    → ((ξ : X) → Makes s (a ξ) σ (ks ξ) k l p o) → made_as s σ k i u before b b' x x' r o → ¬ (r.kind ≡ 0) → Halted X s a σ ks k l p r
halted_as X s a σ ks k l p i u before b b' x x' r (ok y) g (e, h, w) z = absurd (z (ap (λ (y : Step). y.kind) e))
halted_as X s a σ ks k l p i u before b b' x x' r (halt n q) g (e, h) z =
    subst (λ (y : Step). Halted X s a σ ks k l p y) (sym e) (record { is = refl; kind = h; fails = g })
halted_as X s a σ ks k l p i u before b b' x x' r stuck g t z = absurd t

pub halted : {X : Type 0} {s : List ℕ} {a : X → Under} {σ : ℕ} {ks : X → List (Rec ℕ)} {k : ℕ} {l : Layout} {p i u before : ℕ} {b b' x x' : List ℕ} {r : Step} → Made X s a σ ks k l p i u before b b' x x' r → ¬ (r.kind ≡ 0)
    → Halted X s a σ ks k l p r
halted {X} {s} {a} {σ} {ks} {k} {l} {p} {i} {u} {before} {b} {b'} {x} {x'} {r} w z = halted_as X s a σ ks k l p i u before b b' x x' r w.out w.gives w.told z

-- ---- an interpolation

abbrev Interp : List ℕ → ℕ → Bool → ℕ → ℕ → ℕ → ℕ → List ℕ → List ℕ → List ℕ → List ℕ → List ℕ → List ℕ → Step → Type 0
Interp s left lines p i u k b b' x x' y y' r = SaidMade Any s (under_any 10 left lines) p any_before 10 (layout_of 10) p i u 0 p k b b' x x' y y' r

module _ {s : List ℕ} {left : ℕ} {lines : Bool} {p i u k : ℕ} {b b' x x' y y' : List ℕ} {r : Step} (σ : ℕ) (q : pick_at s (under left lines (a_piece σ)) p ≡ some 10) (w : Interp s left lines p i u k b b' x x' y y' r) where
  interp_good : r.kind ≡ 0 → Good (Climbs s (under left lines (a_piece σ)) 8 p) s i u p b b' x x' r.end r.count r.text
  interp_good z = head_whole (sane s) q (omega arith) (done_head refl refl q (σ, []) refl refl (done w.made z) w.room w.spent w.high)

  interp_no : ¬ (r.kind ≡ 0) → FailAt (grammar (hcl s)) (under left lines (a_piece σ), 8) p r.kind r.end
  interp_no z = head_whole_no s q (omega arith) (head_no s q ((halted w.made z).fails (σ, [])))

-- ---- how a text ends

-- an end of the text that starts at σ, at q: not before σ, within the source, and no less than q where the text is closed; a refusal has a number
pub record Ended (s : List ℕ) (σ q : ℕ) (o : moves.Step) : Type 0 where
  pub low : σ ≤ (step_from o).end
  pub high : (step_from o).end ≤ length s
  pub past : (step_from o).kind ≡ 0 → q ≤ (step_from o).end
  pub refused : (k v : ℕ) → o ≡ no k v → 1 ≤ k

module _ (s : List ℕ) (σ q : ℕ) (first : σ ≤ q) (inside : q ≤ length s) where
  ended_no : (k v : ℕ) → 1 ≤ k → σ ≤ v → v ≤ length s → Ended s σ q (no k v)
  ended_no k v pos low high = record { low = low; high = high; past = λ z. absurd (omega arith); refused = λ l w e. let same : k ≡ l = cc in omega arith }

  ended_to : (e : ℕ) → q ≤ e → e ≤ length s → Ended s σ q (to e)
  ended_to e low high = record { low = omega arith; high = high; past = λ z. low; refused = λ k v f. absurd (let z : ◌≡◌ {A = ℕ} 0 1 = cc in omega arith) }

  ended_line : (d : List ℕ) (l : Line) → line_at d s q ≡ l → Ended s σ q (closes_as l q)
  ended_line d line.Text e = ended_no Unexpected q (omega arith) first inside
  ended_line d (line.Closes v) e = let h = closes_within d s q v e in ended_to v h.low (omega (arith, h.high))
  ended_line d (line.Foreign v) e = let h = foreign_within d s q v e in ended_no Foreign v (omega arith) (omega (arith, h.low)) (omega (arith, h.high))

  pub ended_by : (y : Why) → unit_at s σ q ≡ not y → Ended s σ q (close_by s σ q y)
  ended_by why.Quote e = let h = walk_within s (under 0 false an_expression) σ (close ∷ []) q (q + 1) (close_by_lem s (under 0 false an_expression) σ q why.Quote e) in ended_to (q + 1) (omega arith) (omega (arith, h.high))
  ended_by why.Interpolation e = ended_no Unexpected q (omega arith) first inside
  ended_by why.Directive e = ended_no Directive q (omega arith) first inside
  ended_by why.Escape e = ended_no Escape q (omega arith) first inside
  ended_by why.Closing e = let d = part s (opener_at s σ).from (opener_at s σ).to in ended_line d (line_at d s q) refl
  ended_by why.Foreign e = let d = part s (opener_at s σ).from (opener_at s σ).to in ended_line d (line_at d s q) refl
  ended_by why.End e = ended_no Unclosed σ (omega arith) (omega arith) (omega arith)

-- an answer that a text is closed, and one that it is not
pub closed_as : (r : Step) (o : moves.Step) → r ≡ step_from o → ((k v : ℕ) → o ≡ no k v → 1 ≤ k) → r.kind ≡ 0 → o ≡ to r.end
closed_as r (to e) h f z = ap to (sym (ap (λ (y : Step). y.end) h))
closed_as r (no k v) h f z = absurd (let n : r.kind ≡ k = ap (λ (y : Step). y.kind) h in omega (arith, f k v refl))

pub record Refused (o : moves.Step) (r : Step) : Type 0 where
  pub is : r ≡ step_of r.kind r.end 0 0
  pub kind : 1 ≤ r.kind
  pub no : o ≡ no r.kind r.end

pub refused_as : (r : Step) (o : moves.Step) → r ≡ step_from o → ((k v : ℕ) → o ≡ no k v → 1 ≤ k) → ¬ (r.kind ≡ 0) → Refused o r
refused_as r (to e) h f z = absurd (z (ap (λ (y : Step). y.kind) h))
refused_as r (no k v) h f z = subst (λ (y : Step). Refused (no k v) y) (sym h) (record { is = refl; kind = f k v refl; no = refl })

-- only a line of a heredoc asks for the delimiter
delimited_by : (s : List ℕ) (t d e : ℕ) (y : Why) → ((opener_at s t).from ≡ d) → ((opener_at s t).to ≡ e) → Delimited s t d e y
delimited_by s t d e why.Quote f g = tt
delimited_by s t d e why.Interpolation f g = tt
delimited_by s t d e why.Directive f g = tt
delimited_by s t d e why.Escape f g = tt
delimited_by s t d e why.Closing f g = (f, g)
delimited_by s t d e why.Foreign f g = (f, g)
delimited_by s t d e why.End f g = tt

pub delimited_not : (s : List ℕ) (t d e : ℕ) (y : Why) → is_line y ≡ false → Delimited s t d e y
delimited_not s t d e why.Quote f = tt
delimited_not s t d e why.Interpolation f = tt
delimited_not s t d e why.Directive f = tt
delimited_not s t d e why.Escape f = tt
delimited_not s t d e why.Closing f = clash f
delimited_not s t d e why.Foreign f = clash f
delimited_not s t d e why.End f = tt

-- in quoted text no line closes
pub quoted_line : (s : List ℕ) (t q : ℕ) (y : Why) → round s t ≡ quoted → unit_at s t q ≡ not y → is_line y ≡ false
quoted_line s t q y m e = (marks (round s t) (fresh_at s q) (drop q s)).inner y e (ap closable m)

-- an end is told by why
pub ends_as : {s : List ℕ} {t q d e : ℕ} {y v : Why} {r : Step} → v ≡ y → Ends s t q d e y r → Ends s t q d e v r
ends_as {s} {t} {q} {d} {e} {r = r} f h = subst (λ (o : Why). Ends s t q d e o r) (sym f) h

pub ends_line_lem : {s : List ℕ} {t q d e : ℕ} {r : Step} → r ≡ step_from (closes_as (line_at (part s d e) s q) q) → Ends s t q d e why.Closing r × Ends s t q d e why.Foreign r
ends_line_lem h = (record { is = λ z. h ∙ rw (z.0, z.1) }, record { is = λ z. h ∙ rw (z.0, z.1) })

-- ---- a piece that was put

module _ {s : List ℕ} {i u from to n d e r : ℕ} {escaped plain : Bool} {b b' x : List ℕ} where
  pub pieced_yes : {x' : List ℕ} {w : Bool} → escaped ≡ true → r ≡ n → b' ≡ put_at b i (record_of 9 1 from to 1 (u, n)) → Wrote x x' u (text_at (mode_of s plain d e) s from).bytes w
      → Pieced s i u from to escaped n plain d e b b' x x' r
  pieced_yes f g h k = record { is = g ∙ rw f; laid = h ∙ rw f; written = k.laid ∙ rw f }

  pub pieced_no : escaped ≡ false → r ≡ 0 → b' ≡ put_at b i (record_of 9 0 from to 1 (from, to - from)) → Pieced s i u from to escaped n plain d e b b' x x r
  pieced_no f g h = record { is = g ∙ rw f; laid = h ∙ rw f; written = rw f }

-- ---- the loop over the pieces

-- at q, with n records and t text bytes since p, where the text begins
pub record Round (s : List ℕ) (left : ℕ) (lines : Bool) (start k flag p i u κ : ℕ) (b b' x x' y y' : List ℕ) (q n t : ℕ) : Type 0 where
  pub stage : Stage One s (λ _. mid (hcl s) (under left lines an_expression) start [] k (text_lay flag) p) (λ _. under left lines an_expression) start k p i u b b' x x' (text_lay flag) q n t 0
  pub low : p + n ≤ q
  pub spent : p + t ≤ q
  pub high : q ≤ length s
  pub kept : Kept κ y y'

round_of : {s : List ℕ} {left : ℕ} {lines : Bool} {start k flag p i u κ : ℕ} {b b' x x' y y' : List ℕ} {q n t : ℕ}
    → Stage One s (λ _. mid (hcl s) (under left lines an_expression) start [] k (text_lay flag) p) (λ _. under left lines an_expression) start k p i u b b' x x' (text_lay flag) q n t 0 → Kept κ y y'
    → Round s left lines start k flag p i u κ b b' x x' y y' q n t
round_of g kept = record { stage = g; low = omega (arith, g.room); spent = g.spent; high = g.high; kept = kept }

pub round_start : {s : List ℕ} {left : ℕ} {lines : Bool} {start k flag p i u κ : ℕ} {b x y : List ℕ} → p ≤ length s → Round s left lines start k flag p i u κ b b x x y y p 0 0
round_start {y = y} inside = round_of (stage_start (λ _. []) (omega arith) inside) (kept_same y)

module _ {s : List ℕ} {left : ℕ} {lines : Bool} {start k flag p i u κ : ℕ} {b b' x x' y y' : List ℕ} {q n t : ℕ} {plain : Bool} {d e : ℕ} {r : Run}
    (w : Round s left lines start k flag p i u κ b b' x x' y y' q n t) (h : Texting s start p k flag plain d e) (here : RunHere (mode_of s plain d e) s q r)
  where
    -- a run that is not empty is a piece
    pub round_piece : {b'' x'' : List ℕ} {v : ℕ} → ¬ (r.end ≡ q) → Pieced s (i + n) (u + t) q r.end r.escaped r.length plain d e b' b'' x' x'' v
        → Round s left lines start k flag p i u κ b b'' x x'' y y' r.end (n + 1) (t + v)
    round_piece long z = round_of (stage_piece w.stage h.round here long z) w.kept

    module _ (empty : r.end ≡ q) where
      unit_here : unit_at s start q ≡ not r.why
      unit_here = run_none (subst (λ (o : Mode). RunHere o s q r) (sym h.round) here) empty

      -- an interpolation
      module _ (dollar : r.why ≡ why.Interpolation) {b'' x'' y'' : List ℕ} {m : Step} (z : Interp s left lines q (i + n) (u + t) κ b' b'' x' x'' y' y'' m) where
        unit_dollar : unit_at s start q ≡ not why.Interpolation
        unit_dollar = unit_here ∙ ap not dollar

        pub round_interp : m.kind ≡ 0 → Round s left lines start k flag p i u κ b b'' x x'' y y'' m.end (n + m.count) (t + m.text)
        round_interp f =
            round_of
            (stage_rep w.stage (λ ξ. more_dollar s (under left lines an_expression) start q unit_dollar) refl (λ ξ. refl) refl (interp_good start (pick_dollar s left lines start q unit_dollar) z f) (omega arith) refl refl refl refl)
            (kept_join w.kept z.kept)

        -- an interpolation has bytes
        pub round_far : m.kind ≡ 0 → q < m.end
        round_far f = omega (arith, (done z.made f).count, z.room)

        pub round_interp_no : ¬ (m.kind ≡ 0) → SaidMade One s (λ _. under left lines an_expression) start (λ _. []) k (text_lay flag) p i u 0 start κ b b'' x x'' y y'' m
        round_interp_no f =
            let g = halted z.made f in
            record {
              made = made_no m.kind m.end g.is g.kind (stage_rep_no w.stage (λ ξ. more_dollar s (under left lines an_expression) start q unit_dollar) (λ ξ. refl) refl (interp_no start (pick_dollar s left lines start q unit_dollar) z f));
              room = omega (arith, z.room, w.low, h.low);
              spent = omega (arith, z.spent, w.low, h.low);
              high = z.high;
              kept = kept_join w.kept z.kept;
              over = λ o. absurd (f o);
            }

      -- the end
      module _ (other : ¬ (r.why ≡ why.Interpolation)) {c : Step} (z : Ends s start q d e r.why c) where
        known : (plain ≡ true) ⊎ (((opener_at s start).from ≡ d) × ((opener_at s start).to ≡ e)) → Delimited s start d e r.why
        known (inl f) = delimited_not s start d e r.why (quoted_line s start q r.why (h.round ∙ rw f) unit_here)
        known (inr (f, g)) = delimited_by s start d e r.why f g

        end_is : c ≡ step_from (close_by s start q r.why)
        end_is = z.is (known h.closes)

        fits_in_lem : Ended s start q (close_by s start q r.why)
        fits_in_lem = ended_by s start q (omega (arith, w.low, h.low)) w.high r.why unit_here

        c_low : start ≤ c.end
        c_low = rw end_is fits_in_lem.low

        pub c_high : c.end ≤ length s
        c_high = rw end_is fits_in_lem.high

        pub c_past : c.kind ≡ 0 → q ≤ c.end
        c_past f = rw end_is (fits_in_lem.past (rw end_is at f))

        at_end : Stage One s (λ _. mid (hcl s) (under left lines an_expression) start [] k (text_lay flag) p) (λ _. under left lines an_expression) start k p i u b b' x x' (move (close ∷ []) (fin flag)) q n t 0
        at_end = stage_end w.stage (λ ξ. more_not s (under left lines an_expression) start q r.why unit_here other)

        pub round_ends_no : ¬ (c.kind ≡ 0) → SaidMade One s (λ _. under left lines an_expression) start (λ _. []) k (text_lay flag) p i u 0 start κ b b' x x' y y' c
        round_ends_no f =
            let g = refused_as c (close_by s start q r.why) end_is fits_in_lem.refused f in
            let ct : c.count ≡ 0 = ap (λ (o : Step). o.count) g.is in
            let tx : c.text ≡ 0 = ap (λ (o : Step). o.text) g.is in
            record {
              made = made_no c.kind c.end g.is g.kind (stage_stop at_end (λ ξ. close_by_lem s (under left lines an_expression) start q r.why unit_here ∙ g.no));
              room = omega (arith, c_low);
              spent = omega (arith, c_low);
              high = c_high;
              kept = w.kept;
              over = λ o. absurd (f o);
            }

        pub round_closes : {b'' : List ℕ} {m : Step} → c.kind ≡ 0 → m ≡ step_of 0 c.end (n + 1) t → b'' ≡ put_at b' (i + n) (record_of k flag start c.end (0 + n + 1) (0, 0))
            → SaidMade One s (λ _. under left lines an_expression) start (λ _. []) k (text_lay flag) p i u 0 start κ b b'' x x' y y' m
        round_closes {m = m} f q' put =
            let past = c_past f in
            let me : m.end ≡ c.end = ap (λ (o : Step). o.end) q' in
            let mn : m.count ≡ n + 1 = ap (λ (o : Step). o.count) q' in
            let mt : m.text ≡ t = ap (λ (o : Step). o.text) q' in
            record {
              made = stage_made 0
                  (stage_move 0 at_end (λ ξ. close_by_lem s (under left lines an_expression) start q r.why unit_here ∙ closed_as c (close_by s start q r.why) end_is fits_in_lem.refused f) (omega arith) c_high) q' put;
              room = omega (arith, w.low, h.low);
              spent = omega (arith, w.spent, h.low);
              high = omega (arith, c_high);
              kept = w.kept;
              over = λ o. omega (arith, w.low, h.low, h.owes);
            }

        -- the record of the whole can stand
        pub round_closing : length s ≤ 65535 → i ≤ 65535 → c.kind ≡ 0 → Closing i n flag start c.end 0
        round_closing small few f =
            let past = c_past f in
            record { few = few; some = h.small; low = c_low; room = omega (arith, w.low, h.low); small = omega (arith, c_high) }

    -- so can that of a piece
    pub round_piecing : length s ≤ 65535 → u ≤ p → Piecing (u + t) q r.end r.length
    round_piecing small used =
        let end : r.end ≤ length s = omega (arith, here.high, w.high) in
        record { low = here.low; small = omega arith; used = omega (arith, w.spent, w.high); short = omega (arith, here.short) }

-- what a child is asked under
pub round_asked : {s : List ℕ} {left : ℕ} {lines : Bool} {start k flag p i u κ : ℕ} {b b' x x' y y' : List ℕ} {q n t : ℕ} → Round s left lines start k flag p i u κ b b' x x' y y' q n t → Asked s y i u κ p → Asked s y' (i + n) (u + t) κ q
round_asked w a =
    record {
      small = a.small;
      inside = w.high;
      few = omega (arith, w.low, a.few);
      used = omega (arith, w.spent, a.used);
      opened = omega (arith, w.low, a.opened);
      wide = omega (arith, w.kept.long, a.wide);
    }
