-- A string: its layout laid over no children.
use Prim.Native.Nat.{ℕ, ◌+◌}
use mathlib.Core.Path.{◌≡◌, refl, sym, ap, subst, ◌∙◌}
use mathlib.Core.List.{List, [], ◌∷◌}
use mathlib.Core.Bool.{Bool, true, false, cond, ◌&&◌}
use mathlib.Core.Option.{Option, none, some}
use mathlib.Core.Logic.{◌⊎◌, inl, inr}
use native.Mathlib.Omega.{arith}
use lib.ListN.{drop}
use lib.Dec.{eqb}
use borrow.Author.Tests.{eq-eqb, eqb-true}
use Rattle.lexis.specs.declared.string.Why.{Why}
use Rattle.lexis.specs.declared.string.Why.TheVariants as why
use Rattle.lexis.specs.declared.string.Run.{Run}
use Rattle.lexis.specs.Bytes.{byte_at, is_foreign, stands}
use Rattle.lexis.specs.Heredoc.{fresh_at}
use Rattle.lexis.specs.Keys.{is_quote}
use Rattle.lexis.specs.Utf8.{is_scalar}
use Rattle.lexis.specs.String.{quoted, Unit, is, not, hexes, scalar_as, escape, marker, unit, unit_in, Text, text_at, RunHere}
use Rattle.lexis.specs.RunLaws.{clash, stands_one, stands_two, stands_cons}
use Rattle.engine.specs.Base.{Rec}
use Rattle.engine.specs.Layout.{fin, move, fork, named}
use Rattle.engine.specs.Rule.{Runs, rfin, rmove, ryes, rno, Firm, Local, first}
use Rattle.grammar.specs.Moves.{an_expression, Under, Step, to, no, then, when, place, same, runs, Atom, mark, run, close, round, close_by, atom, Move, walk}
use Rattle.grammar.specs.Layouts.{Layout, layouts, layout_of, string_lay}
use Rattle.grammar.specs.Hcl.{hcl, under, pick_at, is_broken}
use Rattle.grammar.specs.Table.{Record}
use Rattle.grammar.specs.Published.{row_of}
use Rattle.checker.specs.declared.row.Row.{Row}
use Rattle.checker.specs.Rows.{row_at}
use Rattle.checker.specs.Leaf.{StringAt}
use Rattle.checker.specs.LeafMore.{RowHere, Told}
use Rattle.checker.proofs.Runs.{text_stops}
use Rattle.checker.proofs.Tellings.{Tells, tells_yes, tells_no}

-- ---- quoted text ends at no line

abbrev is_line : Why → Bool
is_line why.Quote = false
is_line why.Interpolation = false
is_line why.Directive = false
is_line why.Escape = false
is_line why.Closing = true
is_line why.Foreign = true
is_line why.End = false

record Inner (u : Unit) : Type 0 where
  why : (y : Why) → u ≡ not y → is_line y ≡ false

inner_is : (w : ℕ) (bs : List ℕ) (e : Bool) → Inner (is w bs e)
inner_is w bs e = record { why = λ y f. absurd (let z : ◌≡◌ {A = ℕ} 0 1 = cc in omega arith) }

inner_not : (y : Why) → is_line y ≡ false → Inner (not y)
inner_not y h = record { why = λ v f. let z : v ≡ y = cc in ap is_line z ∙ h }

either : {u v : Unit} (b : Bool) → Inner u → Inner v → Inner (cond b u v)
either true f g = f
either false f g = g

inner_scalar : (n : ℕ) (o : Option ℕ) → Inner (scalar_as n o)
inner_scalar n none = inner_not why.Escape refl
inner_scalar n (some v) = either (is_scalar v) (inner_is _ _ _) (inner_not why.Escape refl)

inner_escape : (b : ℕ) (l : List ℕ) → Inner (escape b l)
unfolding escape
inner_escape b l =
    either (eqb b 110) (inner_is _ _ _)
    (either (eqb b 114) (inner_is _ _ _)
    (either (eqb b 116) (inner_is _ _ _)
    (either (eqb b 92) (inner_is _ _ _)
    (either (eqb b 34) (inner_is _ _ _)
    (either (eqb b 117) (inner_scalar 4 (hexes 0 4 l)) (either (eqb b 85) (inner_scalar 8 (hexes 0 8 l)) (inner_not why.Escape refl)))))))

inner_marker : (y : Why) (b c d : ℕ) → is_line y ≡ false → Inner (marker y b c d)
inner_marker y b c d h = either (eqb c b && eqb d 123) (inner_is _ _ _) (either (eqb c 123) (inner_not y h) (inner_is _ _ _))

inner_quoted : (f : Bool) (l : List ℕ) → Inner (unit_in quoted f l)
unfolding unit
inner_quoted f [] = inner_not why.End refl
inner_quoted f (b ∷ l) =
    either (eqb b 36) (inner_marker why.Interpolation b (byte_at l 0) (byte_at l 1) refl)
    (either (eqb b 37) (inner_marker why.Directive b (byte_at l 0) (byte_at l 1) refl)
    (either (eqb b 34) (inner_not why.Quote refl) (either (eqb b 92) (inner_escape (byte_at l 0) (drop 1 l)) (inner_is _ _ _))))

quoted_why : (s : List ℕ) (p : ℕ) → is_line (text_at quoted s p).why ≡ false
quoted_why s p =
    let q = p + (text_at quoted s p).width in
    (inner_quoted (fresh_at s q) (drop q s)).why (text_at quoted s p).why (text_stops quoted s p)

-- so it is closed by a quote alone
quote_alone : (s : List ℕ) (t q e : ℕ) (y : Why) → is_line y ≡ false → place (close_by s t q y) ≡ some e → (y ≡ why.Quote) × (e ≡ q + 1)
quote_alone s t q e why.Quote f g = (refl, cc)
quote_alone s t q e why.Interpolation f g = absurd (let z : ◌≡◌ {A = ℕ} 0 1 = cc in omega arith)
quote_alone s t q e why.Directive f g = absurd (let z : ◌≡◌ {A = ℕ} 0 1 = cc in omega arith)
quote_alone s t q e why.Escape f g = absurd (let z : ◌≡◌ {A = ℕ} 0 1 = cc in omega arith)
quote_alone s t q e why.Closing f g = clash f
quote_alone s t q e why.Foreign f g = clash f
quote_alone s t q e why.End f g = absurd (let z : ◌≡◌ {A = ℕ} 0 1 = cc in omega arith)

-- ---- moves of one atom

walk_one : (s : List ℕ) (b : Under) (σ : ℕ) (x : Atom) (p : ℕ) → walk s b σ (x ∷ []) p ≡ atom s b σ x p
unfolding walk
walk_one s b σ x p = go (atom s b σ x p)
  where
    go : (o : Step) → then o to ≡ o
    go (to q) = refl
    go (no k q) = refl

module _ (s : List ℕ) (b : Under) (σ : ℕ) (h : byte_at s σ ≡ 34) where
  in_quotes : round s σ ≡ quoted
  in_quotes = rw (eq-eqb (byte_at s σ) 34 h)

  opened : place (walk s b σ (mark (34 ∷ []) [] ∷ []) σ) ≡ some (σ + 1)
  unfolding atom
  opened = let z : stands (34 ∷ []) s σ ≡ true = stands_one 34 s σ refl ∙ eq-eqb (byte_at s σ) 34 h in ap place (walk_one s b σ (mark (34 ∷ []) []) σ) ∙ rw z

  run_is : (φ : Bool) (p : ℕ) → place (walk s b σ (run φ ∷ []) p) ≡ place (runs φ p (text_at quoted s p))
  unfolding atom
  run_is φ p = ap place (walk_one s b σ (run φ) p) ∙ rw in_quotes

  close_is : (p : ℕ) → place (walk s b σ (close ∷ []) (p + (text_at quoted s p).width)) ≡ place (close_by s σ (p + (text_at quoted s p).width) (text_at quoted s p).why)
  unfolding atom
  close_is p = ap place (walk_one s b σ close (p + (text_at quoted s p).width)) ∙ rw (in_quotes, text_stops quoted s p)

-- ---- its layout by its parts

-- a layout from p to e, in a node at σ that has no children
abbrev Lays : List ℕ → Under → ℕ → Layout → ℕ → ℕ → ℕ → List (Under × ℕ) → Type 0
Lays s b σ l p e φ bs = Runs (hcl s) (Firm (hcl s)) b σ [] l p e φ [] bs

part_move : (s : List ℕ) {b : Under} {σ p e φ : ℕ} {bs : List (Under × ℕ)} {m : Move} {l : Layout} → Lays s b σ (move m l) p e φ bs → (q : ℕ) × (place (walk s b σ m p) ≡ some q) × Lays s b σ l q e φ bs
part_move s (rmove q g x) = (q, g, x)

part_fork : (s : List ℕ) {b : Under} {σ p e φ : ℕ} {bs : List (Under × ℕ)} {m : Move} {l l' : Layout} → Lays s b σ (fork m l l') p e φ bs
    → ((q : ℕ) × (place (walk s b σ m p) ≡ some q) × Lays s b σ l q e φ bs) ⊎ ((place (walk s b σ m p) ≡ none) × Lays s b σ l' p e φ bs)
part_fork s (ryes q g x) = inl (q, g, x)
part_fork s (rno g x) = inr (g, x)

part_fin : (s : List ℕ) {b : Under} {σ p e φ ψ : ℕ} {bs : List (Under × ℕ)} → Lays s b σ (fin ψ) p e φ bs → (e ≡ p) × (φ ≡ ψ)
part_fin s rfin = (refl, refl)

-- behind its opening quote
abbrev inside : Layout
inside = fork (run false ∷ []) (move (close ∷ []) (fin 0)) (move (run true ∷ []) (move (close ∷ []) (fin 1)))

-- ---- the string at a place

-- from σ to e, with the flag φ
pub record Strung (s : List ℕ) (σ e φ : ℕ) : Type 0 where
  pub quote : byte_at s σ ≡ 34
  pub why : (text_at quoted s (σ + 1)).why ≡ why.Quote
  pub end : e ≡ σ + 1 + (text_at quoted s (σ + 1)).width + 1
  pub flag : φ ≡ cond (text_at quoted s (σ + 1)).escaped 1 0

-- a quote with no interpolation behind it calls for one
pick_six : (s : List ℕ) (left : ℕ) (lines : Bool) (p : ℕ) → byte_at s p ≡ 34 → is_broken (text_at quoted s (p + 1)).why ≡ false → pick_at s (under left lines an_expression) p ≡ some 6
unfolding pick_at
pick_six s left lines p e f =
    rw (
      stands_cons 110 (117 ∷ 108 ∷ 108 ∷ []) s p refl,
      stands_cons 116 (114 ∷ 117 ∷ 101 ∷ []) s p refl,
      stands_cons 102 (97 ∷ 108 ∷ 115 ∷ 101 ∷ []) s p refl,
      stands_one 33 s p refl,
      stands_two 33 61 s p refl refl,
      stands_two 60 60 s p refl refl,
      e,
      f,
    )

-- a run that is as asked, or is not
run_same : (φ : Bool) (p : ℕ) (t : Text) → t.escaped ≡ φ → place (runs φ p t) ≡ some (p + t.width)
run_same true p t e = rw e
run_same false p t e = rw e

run_other : (p : ℕ) (t : Text) → t.escaped ≡ true → place (runs false p t) ≡ none
run_other p t e = rw e

same_run : (φ : Bool) (p q : ℕ) (t : Text) → place (runs φ p t) ≡ some q → (t.escaped ≡ φ) × (q ≡ p + t.width)
same_run φ p q t = go φ t.escaped
  where
    go : (φ y : Bool) → place (when (same φ y) (to (p + t.width)) (no 4 p)) ≡ some q → (y ≡ φ) × (q ≡ p + t.width)
    go true true e = (refl, cc)
    go true false e = absurd (let z : ◌≡◌ {A = ℕ} 0 1 = cc in omega arith)
    go false true e = absurd (let z : ◌≡◌ {A = ℕ} 0 1 = cc in omega arith)
    go false false e = (refl, cc)

-- ---- a string is laid out so

module _ {s : List ℕ} {σ e φ : ℕ} (h : Strung s σ e φ) (b : Under) where
  close_here : place (walk s b σ (close ∷ []) (σ + 1 + (text_at quoted s (σ + 1)).width)) ≡ some e
  close_here = close_is s b σ h.quote (σ + 1) ∙ rw h.why (ap some (sym h.end))

  laid_out_lem : Lays s b σ string_lay σ e φ []
  laid_out_lem = rmove (σ + 1) (opened s b σ h.quote) (go (text_at quoted s (σ + 1)).escaped refl)
    where
      run_here : (y : Bool) → (text_at quoted s (σ + 1)).escaped ≡ y → place (walk s b σ (run y ∷ []) (σ + 1)) ≡ some (σ + 1 + (text_at quoted s (σ + 1)).width)
      run_here y k = run_is s b σ h.quote y (σ + 1) ∙ run_same y (σ + 1) (text_at quoted s (σ + 1)) k

      go : (y : Bool) → (text_at quoted s (σ + 1)).escaped ≡ y
          → Lays s b σ inside (σ + 1) e φ []
      go false k =
          let f : 0 ≡ φ = sym (h.flag ∙ rw k) in
          subst (λ (n : ℕ). Lays s b σ inside (σ + 1) e n []) f
          (ryes (σ + 1 + (text_at quoted s (σ + 1)).width) (run_here false k) (rmove e close_here rfin))
      go true k =
          let f : 1 ≡ φ = sym (h.flag ∙ rw k) in
          subst (λ (n : ℕ). Lays s b σ inside (σ + 1) e n []) f
          (rno (run_is s b σ h.quote false (σ + 1) ∙ run_other (σ + 1) (text_at quoted s (σ + 1)) k) (rmove (σ + 1 + (text_at quoted s (σ + 1)).width) (run_here true k) (rmove e close_here rfin)))

-- ---- and only so

some_some : {a b : ℕ} → some a ≡ some b → a ≡ b
some_some e = cc

quote_of : (s : List ℕ) (b : Under) (σ p q : ℕ) → place (walk s b σ (mark (34 ∷ []) [] ∷ []) p) ≡ some q → byte_at s p ≡ 34
unfolding atom
quote_of s b σ p q e = go (stands (34 ∷ []) s p) refl (is_foreign (byte_at s p)) (ap place (sym (walk_one s b σ (mark (34 ∷ []) []) p)) ∙ e)
  where
    go : (y : Bool) → stands (34 ∷ []) s p ≡ y → (x : Bool) → place (when (y && true) (to (p + 1)) (when x (no 3 p) (no 4 p))) ≡ some q → byte_at s p ≡ 34
    go true f x g = eqb-true (byte_at s p) 34 (sym (stands_one 34 s p refl) ∙ f)
    go false f true g = absurd (let z : ◌≡◌ {A = ℕ} 0 1 = cc in omega arith)
    go false f false g = absurd (let z : ◌≡◌ {A = ℕ} 0 1 = cc in omega arith)

module _ (s : List ℕ) (b : Under) (σ : ℕ) (quote : byte_at s σ ≡ 34) where
  -- a run that is made
  ran : (y : Bool) {p q : ℕ} → p ≡ σ + 1 → place (walk s b σ (run y ∷ []) p) ≡ some q → ((text_at quoted s (σ + 1)).escaped ≡ y) × (q ≡ σ + 1 + (text_at quoted s (σ + 1)).width)
  ran y {p} {q} z g = same_run y (σ + 1) q (text_at quoted s (σ + 1)) (sym (run_is s b σ quote y (σ + 1)) ∙ ap (λ (n : ℕ). place (walk s b σ (run y ∷ []) n)) (sym z) ∙ g)

  module _ {e φ : ℕ} {bs : List (Under × ℕ)} where
    -- its closing quote, behind the run
    closes : (y : Bool) {q : ℕ} → ((text_at quoted s (σ + 1)).escaped ≡ y) × (q ≡ σ + 1 + (text_at quoted s (σ + 1)).width) → Lays s b σ (move (close ∷ []) (fin (cond y 1 0))) q e φ bs → Strung s σ e φ
    closes y {q} (k, z) x =
        let (c, g, v) = part_move s x in
        let shut : place (close_by s σ (σ + 1 + (text_at quoted s (σ + 1)).width) (text_at quoted s (σ + 1)).why) ≡ some c =
        sym (close_is s b σ quote (σ + 1)) ∙ ap (λ (n : ℕ). place (walk s b σ (close ∷ []) n)) (sym z) ∙ g in
        let (w, f) = quote_alone s σ (σ + 1 + (text_at quoted s (σ + 1)).width) c (text_at quoted s (σ + 1)).why (quoted_why s (σ + 1)) shut in
        let (h, u) = part_fin s v in
        record { quote = quote; why = w; end = h ∙ f; flag = u ∙ sym (rw k) }

    parts : {p : ℕ} → p ≡ σ + 1 → Lays s b σ inside p e φ bs → Strung s σ e φ
    parts {p} z x = go (part_fork s x)
      where
        go : ((q : ℕ) × (place (walk s b σ (run false ∷ []) p) ≡ some q) × Lays s b σ (move (close ∷ []) (fin 0)) q e φ bs)
            ⊎ ((place (walk s b σ (run false ∷ []) p) ≡ none) × Lays s b σ (move (run true ∷ []) (move (close ∷ []) (fin 1))) p e φ bs)
            → Strung s σ e φ
        go (inl (q, g, y)) = closes false (ran false z g) y
        go (inr (g, y)) = let (q, f, v) = part_move s y in closes true (ran true z f) v

strung : {s : List ℕ} {b : Under} {σ e φ : ℕ} {bs : List (Under × ℕ)} → Lays s b σ string_lay σ e φ bs → Strung s σ e φ
strung {s} {b} {σ} x =
    let (q, g, y) = part_move s x in
    let quote = quote_of s b σ σ q g in
    parts s b σ quote (some_some (sym g ∙ opened s b σ quote)) y

first_of : (s : List ℕ) {b : Under} {n : ℕ} {r : Rec ℕ} {bs : List (Under × ℕ)} → Local (hcl s) (b, n) r [] bs
    → (k : ℕ) × (named (hcl s) n k ≡ r.kind) × Lays s b r.start (layout_of k) r.start r.end r.flag bs
first_of s (first k e f x) = (k, e, x)

local_strung : {s : List ℕ} {b : Under} {bs : List (Under × ℕ)} (o : Record) → o.kind ≡ 6 → Local (hcl s) (b, 0) (row_of o).rec [] bs → Strung s o.start o.end o.flag
unfolding layouts
local_strung {s} {b} {bs} o six l =
    let (k, e, x) = first_of s l in
    strung (subst (λ (n : ℕ). Lays s b o.start (layout_of n) o.start o.end o.flag bs) (e ∙ six) x)

not_broken : (y : Why) → y ≡ why.Quote → is_broken y ≡ false
not_broken y e = rw e

strung_local : {s : List ℕ} (o : Record) → o.kind ≡ 6 → Strung s o.start o.end o.flag → (left : ℕ) (lines : Bool) → Local (hcl s) (under left lines an_expression, 0) (row_of o).rec [] []
unfolding layouts
strung_local {s} o six h left lines =
    first 6 (sym six) (pick_six s left lines o.start h.quote (not_broken (text_at quoted s (o.start + 1)).why h.why)) (laid_out_lem h (under left lines an_expression))

-- ---- as the code finds it

quote_only : (y : Why) → is_quote y ≡ true → y ≡ why.Quote
quote_only why.Quote e = refl
quote_only why.Interpolation e = clash (sym e)
quote_only why.Directive e = clash (sym e)
quote_only why.Escape e = clash (sym e)
quote_only why.Closing e = clash (sym e)
quote_only why.Foreign e = clash (sym e)
quote_only why.End e = clash (sym e)

string_not : {s text : List ℕ} {o : Record} → (o.kind ≡ 6) → (Strung s o.start o.end o.flag → ⊥) → StringAt s text o false
string_not {o = o} six n = record { yes = λ z. clash (sym z); spelt = λ z. clash (sym z); no = λ z left lines bs l t. n (local_strung o six l) }

module _ {table : List ℕ} {i : ℕ} {r : Row} (six : (row_at table i).kind ≡ 6) (w : RowHere table i r) (s text : List ℕ) where
  quote_here : {x : Bool} → x ≡ stands (34 ∷ []) s r.start → x ≡ eqb (byte_at s (row_at table i).start) 34
  quote_here f = f ∙ stands_one 34 s r.start refl ∙ rw w.start

  pub string_bare : {x : Bool} → x ≡ stands (34 ∷ []) s r.start → x ≡ false → StringAt s text (row_at table i) false
  string_bare f z = string_not six (λ h. clash (sym (eq-eqb (byte_at s (row_at table i).start) 34 h.quote) ∙ sym (quote_here f) ∙ z))

  module _ {t : Run} (g : RunHere quoted s (r.start + 1) t) where
    here : RunHere quoted s ((row_at table i).start + 1) t
    here = rw w.start at g

    pub string_open : {x : Bool} → x ≡ is_quote t.why → x ≡ false → StringAt s text (row_at table i) false
    string_open f z = string_not six (λ h. clash (sym (ap is_quote (ap (λ (v : Run). v.why) here.is ∙ h.why)) ∙ sym f ∙ z))

    pub string_short : ¬ (r.end ≡ t.end + 1) → StringAt s text (row_at table i) false
    string_short n = string_not six (λ h. n (w.end ∙ h.end ∙ ap (λ (v : ℕ). v + 1) (sym (ap (λ (v : Run). v.end) here.is))))

    module _ {x y z : Bool} (f : x ≡ stands (34 ∷ []) s r.start) (a : x ≡ true) (k : y ≡ is_quote t.why) (b : y ≡ true) (l : r.end ≡ t.end + 1) (d : Told s text (r.start + 1) true t r z) where
      tells : Told s text ((row_at table i).start + 1) true t r z
      tells = subst (λ (n : ℕ). Told s text (n + 1) true t r z) w.start d

      flagged : Tells quoted s text ((row_at table i).start + 1) (row_at table i) → Strung s (row_at table i).start (row_at table i).end (row_at table i).flag
      flagged v = record {
        quote = eqb-true (byte_at s (row_at table i).start) 34 (sym (quote_here f) ∙ a);
        why = sym (ap (λ (u : Run). u.why) here.is) ∙ quote_only t.why (sym k ∙ b);
        end = sym w.end ∙ l ∙ ap (λ (u : ℕ). u + 1) (ap (λ (u : Run). u.end) here.is);
        flag = v.flag;
      }

      pub string_told : StringAt s text (row_at table i) z
      string_told = record {
        yes = λ e. strung_local (row_at table i) six (flagged (tells_yes here w text (tells.is 0 0) e));
        spelt = λ e. (tells_yes here w text (tells.is 0 0) e).spelt;
        no = λ e left lines bs o v. tells_no here w text (tells.is 0 0) e (record { flag = (local_strung (row_at table i) six o).flag; spelt = v });
      }
