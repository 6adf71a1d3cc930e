-- The check of the tables: the tests over layouts, levels and kinds are computed (`tt`); what the moves do is proved here.
use Rattle.std.specs.Prelude.{◌≡◌, refl, Bool, true, false, not, ◌&&◌, List, ◌∷◌, map, [], ℕ, zero, suc, ◌+◌, ◌≤◌, ◌<◌, ◌-◌, leb, eqb, T, length, get_or}
use Rattle.std.proofs.Common.{ap, sym, ◌∙◌, subst, arith, leb→le, eqb→eq}
use Rattle.std.proofs.Math.Option.{Option, none, some}
use Rattle.std.proofs.Math.Decide.{dec_le}
use Rattle.std.proofs.Math.ListN.{get_or-eq_default}
use Rattle.engine.specs.Base.{Rec, has, choose, all_of}
use Rattle.engine.specs.Layout.{bad, level, after}
use Rattle.engine.specs.Tables.{ok_kind, stands, Sane}
use Rattle.engine.specs.Progress.{ate, Going}
use Rattle.engine.specs.Source.{Checked}
use Rattle.engine.specs.Finite.{Kinds, choose_has, sane_by, going_by}
use Rattle.engine.specs.BaseLaws.{and_t, some_is, given_t}
use Rattle.sample.specs.Lang.{byte_at, is_digit, is_letter, skip, Gap, flush, here, any, Move, gap, tok, digits, letter, sep, fresh, Att, past, token, is_fresh, inside, operand, addend, factor, entry, value, deeper_as, downs, bounds, slacks, layouts, heads, operators, within, is_any, is_none, stopping, sample, eating, root, source, moves, Child}

-- ---- bytes

-- a byte above 0 is in the source
in_source : (s : List ℕ) (p : ℕ) → 1 ≤ byte_at s p → p < length s
in_source s p h = elim (dec_le (length s) p) [ yes g ↦ absurd (omega (arith, get_or-eq_default {A = ℕ} s 0 g)) | no g ↦ omega arith ]

past_le : (g : Gap) (l : Bool) (s : List ℕ) (p : ℕ) → p ≤ past g l s p
past_le flush l s p = omega arith
past_le here l s p = omega arith
past_le any l s p = omega arith

-- a comma, and where the move ends
sep_inv : (s : List ℕ) (c p q : ℕ) → moves s (root, []) (sep c) 0 p ≡ some q → (byte_at s (skip true s p) ≡ 44) × (skip true s (skip true s p + 1) ≡ q)
sep_inv s c p q e =
    let (t, e1) = given_t (eqb (byte_at s (skip true s p)) 44) _ q e in
    let (u, e2) = given_t (not (eqb (byte_at s (skip true s (skip true s p + 1))) c)) (some (skip true s (skip true s p + 1))) q e1 in
    (eqb→eq (byte_at s (skip true s p)) 44 t, some_is e2)

module _ (s : List ℕ) where
  -- ---- the kinds that are called for

  abbrev pub heads_of : Bool → List ℕ
  heads_of false = 1 ∷ 2 ∷ 5 ∷ 6 ∷ 7 ∷ []
  heads_of true = 8 ∷ []

  pub heads_all : (t : Bool) (c k : ℕ) → choose (heads t c) ≡ some k → T (has (heads_of t) k)
  heads_all false c k q = choose_has (heads false c) k q
  heads_all true c k q = choose_has (heads true c) k q

  deeper_entry : (d : ℕ) (l e : Bool) (xs : List ℕ) (b : Att × List ℕ) → deeper_as d l e xs ≡ some b → (b.0.entry ≡ e) × (b.0.lines ≡ l)
  deeper_entry zero l e xs b q = absurd (let z : ◌≡◌ {A = ℕ} 0 1 = cc in omega arith)
  deeper_entry (suc d) l e xs b q = let z : (record { depth = d; lines = l; entry = e }, xs) ≡ b = some_is q in (ap (λ (x : Att × List ℕ). x.0.entry) (sym z), ap (λ (x : Att × List ℕ). x.0.lines) (sym z))

  -- whether a class asks for an entry
  abbrev asks_entry : Child → Bool
  asks_entry inside = false
  asks_entry operand = false
  asks_entry addend = false
  asks_entry factor = false
  asks_entry entry = true
  asks_entry value = false

  down_entry : (c : Child) (b d : Att × List ℕ) (σ : ℕ) (ks : List (Rec ℕ)) → downs b c σ ks ≡ some d → d.0.entry ≡ asks_entry c
  down_entry inside b d σ ks q = (deeper_entry b.0.depth true false [] d q).0
  down_entry operand b d σ ks q = (deeper_entry b.0.depth b.0.lines false [] d q).0
  down_entry addend b d σ ks q = ap (λ (x : Att × List ℕ). x.0.entry) (sym (some_is q))
  down_entry factor b d σ ks q = ap (λ (x : Att × List ℕ). x.0.entry) (sym (some_is q))
  down_entry entry b d σ ks q = (deeper_entry b.0.depth true true (map (λ (r : Rec ℕ). r.start) ks) d q).0
  down_entry value b d σ ks q = ap (λ (x : Att × List ℕ). x.0.entry) (sym (some_is q))

  abbrev pub kinds : Kinds (sample s)
  kinds = record {
    heads = λ b. heads_of b.0.entry;
    ops = λ b. 3 ∷ 4 ∷ [];
    heads_all = λ b p k q. heads_all b.0.entry (byte_at s p) k q;
    ops_all = λ b p k q. choose_has (operators (byte_at s (skip b.0.lines s p))) k q;
  }

  -- ---- the tests, which compute

  heads_ok : (t : Bool) → T (all_of (ok_kind (sample s)) (heads_of t))
  heads_ok false = tt
  heads_ok true = tt

  stands_all : (c : Child) → T (all_of (stands (sample s) c) (heads_of (asks_entry c))) × T (all_of (stands (sample s) c) (3 ∷ 4 ∷ []))
  stands_all inside = (tt, tt)
  stands_all operand = (tt, tt)
  stands_all addend = (tt, tt)
  stands_all factor = (tt, tt)
  stands_all entry = (tt, tt)
  stands_all value = (tt, tt)

  slack_all : (c : Child) → T (leb (slacks c) (bounds c))
  slack_all inside = tt
  slack_all operand = tt
  slack_all addend = tt
  slack_all factor = tt
  slack_all entry = tt
  slack_all value = tt

  heads_ate : (t : Bool) → T (all_of (λ k. ate (source s).pace 0 (get_or layouts k bad)) (heads_of t))
  heads_ate false = tt
  heads_ate true = tt

  -- ---- what the marks mean

  none_level : (o : Option ℕ) → T (is_none o) → level (sample s) o ≡ 0
  none_level none t = refl
  none_level (some k) t = absurd t

  -- a byte that is no operator
  quiet_at : (b : Att × List ℕ) (p x : ℕ) → byte_at s (skip b.0.lines s p) ≡ x → T (is_none (choose (operators x))) → after (sample s) b p ≡ 0
  quiet_at b p x e t = rw e (none_level (choose (operators x)) t)

  within_lines : (c : Child) → T (within c) → (b d : Att × List ℕ) (σ : ℕ) (ks : List (Rec ℕ)) → downs b c σ ks ≡ some d → d.0.lines ≡ true
  within_lines inside t b d σ ks q = (deeper_entry b.0.depth true false [] d q).1
  within_lines operand t b d σ ks q = absurd t
  within_lines addend t b d σ ks q = absurd t
  within_lines factor t b d σ ks q = absurd t
  within_lines entry t b d σ ks q = (deeper_entry b.0.depth true true (map (λ (r : Rec ℕ). r.start) ks) d q).1
  within_lines value t b d σ ks q = absurd t

  tok_stops : (g : Gap) (x p q : ℕ) (l : Bool) → T (is_any g) → token s x (past g l s p) ≡ some q → byte_at s (skip true s p) ≡ x
  tok_stops flush x p q l t e = absurd t
  tok_stops here x p q l t e = absurd t
  tok_stops any x p q l t e = eqb→eq (byte_at s (skip true s p)) x (given_t (eqb (byte_at s (skip true s p)) x) _ q e).0

  stops_ok : (m : Move) (c : Child) → T (stopping m c) → (b d : Att × List ℕ) (σ : ℕ) (ks : List (Rec ℕ)) (p q : ℕ) → downs b c σ ks ≡ some d → moves s b m σ p ≡ some q → after (sample s) d p ≤ slacks c
  stops_ok (gap g) c t b d σ ks p q w e = absurd t
  stops_ok (tok g x) c t b d σ ks p q w e =
      let (t1, t2) = and_t (within c) (is_any g && is_none (choose (operators x))) t in
      let (t3, t4) = and_t (is_any g) (is_none (choose (operators x))) t2 in
      let l = within_lines c t1 b d σ ks w in
      omega (arith, quiet_at d p x (ap (λ (y : Bool). byte_at s (skip y s p)) l ∙ tok_stops g x p q b.0.lines t3 e) t4)
  stops_ok digits c t b d σ ks p q w e = absurd t
  stops_ok letter c t b d σ ks p q w e = absurd t
  stops_ok (sep x) c t b d σ ks p q w e =
      let l = within_lines c t b d σ ks w in
      omega (arith, quiet_at d p 44 (ap (λ (y : Bool). byte_at s (skip y s p)) l ∙ (sep_inv s x p q e).0) tt)
  stops_ok fresh c t b d σ ks p q w e = absurd t

  same_lines : (b d : Att × List ℕ) (p : ℕ) → d.0.lines ≡ b.0.lines → after (sample s) d p ≡ after (sample s) b p
  same_lines b d p e = rw e

  keeps_ok : (c : Child) → T (not (within c)) → (b d : Att × List ℕ) (σ : ℕ) (ks : List (Rec ℕ)) (p : ℕ) → downs b c σ ks ≡ some d → after (sample s) d p ≡ after (sample s) b p
  keeps_ok inside t b d σ ks p q = absurd t
  keeps_ok operand t b d σ ks p q = same_lines b d p (deeper_entry b.0.depth b.0.lines false [] d q).1
  keeps_ok addend t b d σ ks p q = same_lines b d p (ap (λ (x : Att × List ℕ). x.0.lines) (sym (some_is q)))
  keeps_ok factor t b d σ ks p q = same_lines b d p (ap (λ (x : Att × List ℕ). x.0.lines) (sym (some_is q)))
  keeps_ok entry t b d σ ks p q = absurd t
  keeps_ok value t b d σ ks p q = same_lines b d p (ap (λ (x : Att × List ℕ). x.0.lines) (sym (some_is q)))

  pub sane : Sane (sample s)
  sane = sane_by (sample s) kinds (record {
    cap_pos = tt;
    name_tight = λ n k. refl;
    slack_le = slack_all;
    heads_ok = λ b. heads_ok b.0.entry;
    ops_ok = λ b. tt;
    stands_ok = λ c b d σ ks w. subst (λ (e : Bool). T (all_of (stands (sample s) c) (heads_of e)) × T (all_of (stands (sample s) c) (3 ∷ 4 ∷ []))) (sym (down_entry c b d σ ks w)) (stands_all c);
    stops_ok = stops_ok;
    keeps_ok = keeps_ok;
  })

  -- ---- the reading moves on

  go_less : (b : Att × List ℕ) (m : Move) (σ p q : ℕ) → moves s b m σ p ≡ some q → p ≤ q
  go_less b (gap g) σ p q e = omega (arith, past_le g b.0.lines s p, some_is e)
  go_less b (tok g x) σ p q e = omega (arith, past_le g b.0.lines s p, some_is (given_t (eqb (byte_at s (past g b.0.lines s p)) x) _ q e).1)
  go_less b digits σ p q e = omega (arith, some_is (given_t (is_digit (byte_at s p)) _ q e).1)
  go_less b letter σ p q e = omega (arith, some_is (given_t (is_letter (byte_at s p)) _ q e).1)
  go_less b (sep x) σ p q e = omega (arith, (sep_inv s x p q e).1)
  go_less b fresh σ p q e = omega (arith, some_is (given_t (is_fresh s b.1 σ) _ q e).1)

  go_eats : (b : Att × List ℕ) (m : Move) (σ p q : ℕ) → T (eating m) → moves s b m σ p ≡ some q → (p < length s) × (p < q)
  go_eats b (gap g) σ p q t e = absurd t
  go_eats b (tok g x) σ p q t e =
      let (u, z) = given_t (eqb (byte_at s (past g b.0.lines s p)) x) _ q e in
      let y = eqb→eq (byte_at s (past g b.0.lines s p)) x u in
      let v = in_source s (past g b.0.lines s p) (omega (arith, leb→le 1 x t)) in
      let w = past_le g b.0.lines s p in
      (omega arith, omega (arith, some_is z))
  go_eats b digits σ p q t e =
      let (u, z) = given_t (is_digit (byte_at s p)) _ q e in
      let (v, w) = and_t (leb 48 (byte_at s p)) (leb (byte_at s p) 57) u in
      (in_source s p (omega (arith, leb→le 48 (byte_at s p) v)), omega (arith, some_is z))
  go_eats b letter σ p q t e =
      let (u, z) = given_t (is_letter (byte_at s p)) _ q e in
      let (v, w) = and_t (leb 97 (byte_at s p)) (leb (byte_at s p) 122) u in
      (in_source s p (omega (arith, leb→le 97 (byte_at s p) v)), omega (arith, some_is z))
  go_eats b (sep x) σ p q t e =
      let (y, z) = sep_inv s x p q e in
      let v = in_source s (skip true s p) (omega arith) in
      (omega arith, omega arith)
  go_eats b fresh σ p q t e = absurd t

  pub going : Going (sample s) (source s).pace
  going = going_by (sample s) kinds eating (λ c. 0) (λ b. 0) (λ p. length s - p) (record {
    rank_low = λ b. omega arith;
    down_rank = λ b d c σ ks q. omega arith;
    go_less = λ b m σ p q e. omega (arith, go_less b m σ p q e);
    go_eats = λ b m σ p q t e. let (v, w) = go_eats b m σ p q t e in omega arith;
    heads_ate = λ b. heads_ate b.0.entry;
    ops_ate = λ b. tt;
  })

  -- at the end stands no operator
  quiet : (e : ℕ) → T (eqb e (length s)) → after (sample s) (root, []) e ≡ 0
  quiet e t =
      let w : length s ≤ skip false s e = omega (arith, eqb→eq e (length s) t) in
      quiet_at (root, []) e 0 (get_or-eq_default {A = ℕ} s 0 w) tt

  pub checked : Checked (source s)
  checked = record { sane = sane; going = going; quiet = quiet }
