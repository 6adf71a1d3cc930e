-- The pieces, interpolations and the end of a text.
use Prim.Native.Nat.{ℕ, ◌+◌}
use mathlib.Core.Path.{◌≡◌, refl, sym, ap, subst, ◌∙◌}
use mathlib.Core.Bool.{Bool, true, false, cond, ◌||◌}
use mathlib.Core.Option.{none, some}
use mathlib.Core.Logic.{◌⊎◌, inl, inr}
use mathlib.Core.List.{List, [], ◌∷◌}
use native.Mathlib.Omega.{arith}
use lib.ListN.{drop}
use lib.Dec.{eqb, eqb→eq, T}
use borrow.Author.Tests.{eqb-true, eqb-false}
use denote.Enum.Bare.{sameb}
use Rattle.lexis.specs.contracts.string.Why.{the_type}
use Rattle.lexis.specs.declared.heredoc.Line.{Line}
use Rattle.lexis.specs.declared.heredoc.Line.TheVariants as line
use Rattle.lexis.specs.declared.string.Why.{Why}
use Rattle.lexis.specs.declared.string.Why.TheVariants as why
use Rattle.lexis.specs.declared.string.Run.{Run}
use Rattle.lexis.specs.Bytes.{stands, byte_at}
use Rattle.lexis.specs.Heredoc.{part, opener_at, line_at, fresh_at}
use Rattle.lexis.specs.String.{Mode, quoted, heredoc, not, unit_in, text_at, mode_of, RunHere}
use Rattle.lexis.specs.RunLaws.{clash}
use Rattle.engine.specs.Base.{has}
use Rattle.engine.specs.BaseLaws.{some_is, or_t}
use Rattle.grammar.specs.Moves.{a_piece, Step, to, no, place, round, unit_at, closes_as, close_by}
use Rattle.grammar.specs.MoveLaws.{no_to, to_is}
use Rattle.grammar.specs.Hcl.{is_broken}
use Rattle.grammar.specs.UnitLaws.{Stands, text_some, marks, is_line, closable, run_none, run_some}
use Rattle.grammar.specs.TextLaws.{more_unit, more_dollar, more_not, close_by_lem}
use Rattle.grammar.specs.Published.{Piece, Suits}
use Rattle.checker.specs.Rows.{row_at, rec_at}
use Rattle.checker.specs.Leaf.{PieceBy, PieceAt}
use Rattle.checker.specs.Texts.{LineEnds, Delimited, ClosesBy, ShutsAt, OpensAt, Sane, StrandAt}

place_to : (o : Step) {q : ℕ} → place o ≡ some q → o ≡ to q
place_to (to p) e = ap to (some_is e)
place_to (no k p) e = absurd (let z : ◌≡◌ {A = ℕ} 0 1 = cc in omega arith)

-- ---- how a text ends

-- what a derived `==` says of an interpolation
pub broken_as : (y : Why) → sameb the_type y why.Interpolation ≡ is_broken y
broken_as why.Quote = refl
broken_as why.Interpolation = refl
broken_as why.Directive = refl
broken_as why.Escape = refl
broken_as why.Closing = refl
broken_as why.Foreign = refl
broken_as why.End = refl

pub line_closes : {s w : List ℕ} {q end at : ℕ} → line_at w s q ≡ line.Closes at → LineEnds s w q end (eqb at end)
line_closes {q = q} {end} {at} e = record { yes = λ z. ap (λ (x : Line). closes_as x q) e ∙ ap to (eqb-true at end z); no = λ z h. eqb-false at end z (to_is (sym (ap (λ (x : Line). closes_as x q) e) ∙ h)) }

pub line_text : {s w : List ℕ} {q end : ℕ} → line_at w s q ≡ line.Text → LineEnds s w q end false
line_text {q = q} e = record { yes = λ z. clash (sym z); no = λ z h. no_to (sym (ap (λ (x : Line). closes_as x q) e) ∙ h) }

pub line_foreign : {s w : List ℕ} {q end at : ℕ} → line_at w s q ≡ line.Foreign at → LineEnds s w q end false
line_foreign {q = q} e = record { yes = λ z. clash (sym z); no = λ z h. no_to (sym (ap (λ (x : Line). closes_as x q) e) ∙ h) }

module _ {s : List ℕ} {d e q end : ℕ} where
  pub closes_quote : ClosesBy s d e q why.Quote end (eqb (q + 1) end)
  closes_quote = record { yes = λ z σ h. ap to (eqb-true (q + 1) end z); no = λ z σ h g. eqb-false (q + 1) end z (to_is g) }

  pub closes_never : {y : Why} → ((σ : ℕ) → close_by s σ q y ≡ to end → ⊥) → ClosesBy s d e q y end false
  closes_never f = record { yes = λ z. clash (sym z); no = λ z σ h g. f σ g }

  pub closes_line : {r : Bool} {y : Why} → is_line y ≡ true → ((σ : ℕ) → close_by s σ q y ≡ closes_as (line_at (part s (opener_at s σ).from (opener_at s σ).to) s q) q) → LineEnds s (part s d e) q end r → ClosesBy s d e q y end r
  closes_line o f h = record {
    yes = λ z σ g. f σ ∙ ap (λ (w : List ℕ). closes_as (line_at w s q) q) (g o) ∙ h.yes z;
    no = λ z σ g k. h.no z (sym (ap (λ (w : List ℕ). closes_as (line_at w s q) q) (g o)) ∙ sym (f σ) ∙ k);
  }

  pub closes_as_lem : {y v : Why} {r : Bool} → v ≡ y → ClosesBy s d e q y end r → ClosesBy s d e q v end r
  closes_as_lem {r = r} f h = subst (λ (o : Why). ClosesBy s d e q o end r) (sym f) h

-- the delimiter of a heredoc, by its mode
delimited : (s : List ℕ) (σ d e : ℕ) (plain : Bool) → mode_of s plain d e ≡ round s σ → plain ≡ false → Delimited s σ d e
delimited s σ d e plain m f = go (eqb (byte_at s σ) 34) (subst (λ (b : Bool). mode_of s b d e ≡ round s σ) f m)
  where
    go : (b : Bool) → heredoc (part s d e) ≡ cond b quoted (heredoc (part s (opener_at s σ).from (opener_at s σ).to)) → Delimited s σ d e
    go true h = absurd (let z : ◌≡◌ {A = ℕ} 0 1 = cc in omega arith)
    go false h = cc

module _ (s : List ℕ) (q d e : ℕ) (plain : Bool) {r : Run} (h : RunHere (mode_of s plain d e) s q r) where
  unit_none : (σ : ℕ) → mode_of s plain d e ≡ round s σ → r.end ≡ q → unit_at s σ q ≡ not r.why
  unit_none σ m z = ap (λ (o : Mode). unit_in o (fresh_at s q) (drop q s)) (sym m) ∙ run_none h z

  unit_some : (σ : ℕ) → mode_of s plain d e ≡ round s σ → ¬ (r.end ≡ q) → Stands (unit_at s σ q)
  unit_some σ m z = subst (λ (o : Mode). Stands (unit_in o (fresh_at s q) (drop q s))) m (run_some h z)

  none_to : {A : Type 0} {x : ℕ} → none ≡ some x → A
  none_to {x = x} e = absurd (let z : ◌≡◌ {A = ℕ} 0 1 = cc in omega arith)

  -- text goes on
  pub shuts_text : {end : ℕ} → ¬ (r.end ≡ q) → ShutsAt s q plain d e end false
  shuts_text z = record { yes = λ y. clash (sym y); no = λ y a σ m f g. none_to (sym f ∙ ap place (more_unit s a σ q (unit_some σ m z))) }

  -- only a line asks for the delimiter, and only a heredoc has lines
  by_line : (σ : ℕ) → mode_of s plain d e ≡ round s σ → r.end ≡ q → is_line r.why ≡ true → Delimited s σ d e
  by_line σ m z l = go plain refl
    where
      go : (b : Bool) → plain ≡ b → Delimited s σ d e
      go false p = delimited s σ d e plain m p
      go true p =
          let f : closable (round s σ) ≡ false = ap closable (sym m) ∙ ap (λ (o : Bool). closable (mode_of s o d e)) p in
          clash (sym l ∙ (marks (round s σ) (fresh_at s q) (drop q s)).inner r.why (unit_none σ m z) f)

  -- no text goes on
  pub shuts_by : {end : ℕ} {b : Bool} → r.end ≡ q → ClosesBy s d e q r.why end b → ShutsAt s q plain d e end b
  shuts_by {end} {b} z c = record {
    yes = λ y a σ m.
        let u = unit_none σ m z in
        let g : close_by s σ q r.why ≡ to end = c.yes y σ (by_line σ m z) in
        (ap place (more_not s a σ q r.why u (λ f. no_to (sym (ap (close_by s σ q) f) ∙ g))), ap place (close_by_lem s a σ q r.why u ∙ g));
    no = λ y a σ m f g.
        let u = unit_none σ m z in
        c.no y σ (by_line σ m z) (place_to (close_by s σ q r.why) (ap place (sym (close_by_lem s a σ q r.why u)) ∙ g));
  }

  -- ---- an interpolation

  broken_why : (y : Why) → is_broken y ≡ true → y ≡ why.Interpolation
  broken_why why.Quote e = clash (sym e)
  broken_why why.Interpolation e = refl
  broken_why why.Directive e = clash (sym e)
  broken_why why.Escape e = clash (sym e)
  broken_why why.Closing e = clash (sym e)
  broken_why why.Foreign e = clash (sym e)
  broken_why why.End e = clash (sym e)

  whole_why : (y : Why) → is_broken y ≡ false → ¬ (y ≡ why.Interpolation)
  whole_why y e f = clash (sym (ap is_broken f) ∙ e)

  pub opens_by : {b : Bool} → r.end ≡ q → b ≡ is_broken r.why → OpensAt s q plain d e b
  opens_by {b} z e = record {
    yes = λ y a σ m. ap place (more_dollar s a σ q (unit_none σ m z ∙ ap not (broken_why r.why (sym e ∙ y))));
    no = λ y st a σ m p g. none_to (sym (ap place (more_not s a σ q r.why (unit_none σ m z) (whole_why r.why (sym e ∙ y)))) ∙ g);
  }

  -- where `${` stands no unit of text does
  pub opens_text : ¬ (r.end ≡ q) → OpensAt s q plain d e false
  opens_text z = record {
    yes = λ y. clash (sym y);
    no = λ y st a σ m p g. clash (sym st ∙ (marks (round s σ) (fresh_at s q) (drop q s)).no (unit_some σ m z));
  }

-- ---- a piece or an interpolation

module _ (s text t : List ℕ) (j q : ℕ) (plain : Bool) (d e : ℕ) where
  pub strand_no : ((row_at t j).start ≡ q → Sane s text t (mode_of s plain d e) j → (σ : ℕ) → Suits s (a_piece σ, 0) (rec_at t j) → ⊥) → StrandAt s text t j q plain d e false
  strand_no f = record { start = λ z. clash (sym z); suits = λ z. clash (sym z); goes = λ z. clash (sym z); spelt = λ z. clash (sym z); no = λ z a b c σ m u p g. f a b σ u }

  -- a piece, under its mode
  piece_of : {σ : ℕ} → mode_of s plain d e ≡ round s σ → (x : PieceBy (mode_of s plain d e) s (row_at t j)) → Piece s σ (rec_at t j)
  piece_of {σ} m x = record {
    text = x.text;
    some = x.some;
    end = x.end ∙ ap (λ (o : Mode). (row_at t j).start + (text_at o s (row_at t j).start).width) m;
    flag = x.flag ∙ ap (λ (o : Mode). cond (text_at o s (row_at t j).start).escaped 1 0) m;
  }

  of_piece : {σ : ℕ} → mode_of s plain d e ≡ round s σ → Piece s σ (rec_at t j) → PieceBy (mode_of s plain d e) s (row_at t j)
  of_piece {σ} m x = record {
    text = x.text;
    some = x.some;
    end = x.end ∙ ap (λ (o : Mode). (row_at t j).start + (text_at o s (row_at t j).start).width) (sym m);
    flag = x.flag ∙ ap (λ (o : Mode). cond (text_at o s (row_at t j).start).escaped 1 0) (sym m);
  }

  -- a kind of the two
  nine : {k : ℕ} → k ≡ 9 → T (has (9 ∷ 10 ∷ []) k)
  nine e = subst (λ (x : ℕ). T (has (9 ∷ 10 ∷ []) x)) (sym e) tt

  ten : {k : ℕ} → k ≡ 10 → T (has (9 ∷ 10 ∷ []) k)
  ten e = subst (λ (x : ℕ). T (has (9 ∷ 10 ∷ []) x)) (sym e) tt

  pub strand_piece : {b : Bool} → PieceAt (mode_of s plain d e) s text (row_at t j) b → (row_at t j).kind ≡ 9 → (row_at t j).start ≡ q → StrandAt s text t j q plain d e b
  strand_piece h k a = record {
    start = λ z. a;
    suits = λ z σ m. record { kind = nine k; more = λ f. piece_of m (h.yes z).0 };
    goes = λ z u σ m.
        let x = (h.yes z).0 in
        let long : ¬ ((text_at (mode_of s plain d e) s q).width ≡ 0) = λ y. absurd (omega (arith, x.some, x.end, ap (λ (o : ℕ). (text_at (mode_of s plain d e) s o).width) a, y)) in
        ap place (more_unit s u σ q (subst (λ (o : Mode). Stands (unit_in o (fresh_at s q) (drop q s))) m (text_some (mode_of s plain d e) s q long)));
    spelt = λ z f. (h.yes z).1;
    no = λ z c y u σ m v p g. h.no z (of_piece m (v.more k)) (y.spelt k);
  }

  pub strand_dollar : {b : Bool} → OpensAt s q plain d e b → (row_at t j).kind ≡ 10 → (row_at t j).start ≡ q → StrandAt s text t j q plain d e b
  strand_dollar {b} h k a = record {
    start = λ z. a;
    suits = λ z σ m. record { kind = ten k; more = λ f. absurd (omega arith) };
    goes = λ z u σ m. h.yes z u σ m;
    spelt = λ z f. absurd (omega arith);
    no = λ z c y u σ m v p g. h.no z (subst (λ (o : ℕ). stands (36 ∷ 123 ∷ []) s o ≡ true) a (y.dollar k)) u σ m p g;
  }

  pub strand_other : ¬ ((row_at t j).kind ≡ 9) → ¬ ((row_at t j).kind ≡ 10) → StrandAt s text t j q plain d e false
  strand_other f g = strand_no (λ a y σ u. go (or_t (eqb 9 (row_at t j).kind) (eqb 10 (row_at t j).kind || false) u.kind))
    where
      same : (x k : ℕ) → T (eqb x k) → x ≡ k
      same x k h = eqb→eq x k h

      go : T (eqb 9 (row_at t j).kind) ⊎ T (eqb 10 (row_at t j).kind || false) → ⊥
      go (inl h) = f (sym (same 9 (row_at t j).kind h))
      go (inr h) = last (or_t (eqb 10 (row_at t j).kind) false h)
        where
          last : T (eqb 10 (row_at t j).kind) ⊎ T false → ⊥
          last (inl h) = g (sym (same 10 (row_at t j).kind h))
          last (inr h) = h
