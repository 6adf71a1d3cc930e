-- The answers of `laid`, from those of the functions that it calls.
use Prim.Native.Nat.{ℕ, suc, ◌+◌, ◌*◌, ◌-◌, ◌≤◌, ◌<◌}
use mathlib.Core.Path.{◌≡◌, sym, ap, subst, ◌∙◌}
use mathlib.Core.Bool.{Bool}
use mathlib.Core.Logic.{◌⊎◌, inl, inr}
use mathlib.Core.List.{List}
use native.Mathlib.Omega.{arith}
use lib.ListN.{length}
use lib.Dec.{T}
use Rattle.grammar.specs.declared.shape.Instr.{Instr}
use Rattle.engine.specs.Base.{Outcome, ok, halt, stuck, Rec, Tree}
use Rattle.engine.specs.BaseLaws.{size_pos}
use Rattle.engine.specs.Engine.{FailIn}
use Rattle.engine.specs.Layout.{grammar}
use Rattle.engine.specs.Way.{mid}
use Rattle.grammar.specs.Moves.{Under}
use Rattle.grammar.specs.Layouts.{Layout, layout_of}
use Rattle.grammar.specs.Hcl.{hcl}
use Rattle.grammar.specs.Code.{code, operation, argument, class}
use Rattle.grammar.specs.Table.{record_of}
use Rattle.grammar.specs.Thrift.{spare, leads}
use Rattle.grammar.specs.Wants.{want_in}
use Rattle.grammar.specs.Programmed.{instructions}
use Rattle.grammar.specs.Said.{Went, Instructed, Walked}
use Rattle.reader.specs.Buffer.{put_at}
use Rattle.reader.specs.Said.{Step, step_of, Good, Kept, Any, under_any, any_before, told_as, Said, SaidMade, SaidSub}
use Rattle.reader.proofs.Answers.{good, stage_made, made_no}
use Rattle.reader.proofs.Ranks.{sub_rank, lead_rank}
use Rattle.reader.proofs.Laids.{Turn, sort, turn_fin, turn_stop, turn_other, turn_on, turn_kid, turn_kid_no, turn_rep, turn_rep_no, turn_lead, turn_again, turn_within, turn_later}

-- a reading has a record at least
pub good_pos : {Z : Outcome ℕ (Tree ℕ) → Type 0} {s : List ℕ} {i u p : ℕ} {b b' x x' : List ℕ} {e n t : ℕ} → Good Z s i u p b b' x x' e n t → 1 ≤ n
good_pos g = omega (arith, size_pos g.tree, g.count)

-- a refusal of a child is one of the production
refused_as : (Y : Outcome ℕ (Tree ℕ) → Type 0) (X : Type 0) (s : List ℕ) (a : X → Under) (σ : ℕ) (ks : X → List (Rec ℕ)) (k : ℕ) (l : Layout) (p i u before from K i' u' : ℕ) (b b' x x' y y' c c' v v' : List ℕ) (r : Step) (o : Outcome ℕ (Tree ℕ))
    → Y o → told_as s i' u' c c' v v' r o → ¬ (r.kind ≡ 0) → from + r.count ≤ r.end → from + r.text ≤ r.end → r.end ≤ length s → Kept K y y'
    → ((z q : ℕ) → Y (halt z q) → (ξ : X) → FailIn (grammar (hcl s)) (mid (hcl s) (a ξ) σ (ks ξ) k l p) z q) → SaidMade X s a σ ks k l p i u before from K b b' x x' y y' r
refused_as Y X s a σ ks k l p i u before from K i' u' b b' x x' y y' c c' v v' r (ok t) g (e, f₁, f₂, f₃) z room spent high kept h = absurd (z (ap (λ (w : Step). w.kind) e))
refused_as Y X s a σ ks k l p i u before from K i' u' b b' x x' y y' c c' v v' r (halt n q) g (e, pos) z room spent high kept h =
    record { made = made_no n q e pos (h n q g); room = room; spent = spent; high = high; kept = kept; over = λ w. absurd (z w) }
refused_as Y X s a σ ks k l p i u before from K i' u' b b' x x' y y' c c' v v' r stuck g t z room spent high kept h = absurd t

pub pass_made : {Y : Outcome ℕ (Tree ℕ) → Type 0} {X : Type 0} {s : List ℕ} {a : X → Under} {σ : ℕ} {ks : X → List (Rec ℕ)} {k : ℕ} {l : Layout} {p i u before from K i' u' K' q : ℕ} {b b' x x' y y' c c' v v' z z' : List ℕ} {r : Step}
    → Said Y s i' u' K' q c c' v v' z z' r → ¬ (r.kind ≡ 0) → from ≤ q → Kept K y y'
    → ((z q : ℕ) → Y (halt z q) → (ξ : X) → FailIn (grammar (hcl s)) (mid (hcl s) (a ξ) σ (ks ξ) k l p) z q) → SaidMade X s a σ ks k l p i u before from K b b' x x' y y' r
pass_made {Y} {X} {s} {a} {σ} {ks} {k} {l} {p} {i} {u} {before} {from} {K} {i'} {u'} {K'} {q} {b} {b'} {x} {x'} {y} {y'} {c} {c'} {v} {v'} {r = r} w z low kept h =
    refused_as Y X s a σ ks k l p i u before from K i' u' b b' x x' y y' c c' v v' r w.out w.gives w.told z (omega (arith, w.room)) (omega (arith, w.spent)) w.high kept h

-- a move from q to a
pub record Past (s : List ℕ) (left : ℕ) (lines : Bool) (arg q a : ℕ) : Type 0 where
  pub went : Went
  pub walked : Walked s left lines arg q went
  pub good : went.kind ≡ 0
  pub there : a ≡ went.at

module _ {s : List ℕ} {left : ℕ} {lines : Bool} {σ k p i u : ℕ} {b b' x x' : List ℕ} {pc q n t : ℕ} (w : Turn s left lines σ k p i u b b' x x' pc q n t) {r : Instr} (at : Instructed pc r) where
  is_op : (m : ℕ) → r.op ≡ m → operation (code pc) ≡ m
  is_op m e = sym at.op ∙ e

  not_op : (m : ℕ) → ¬ (r.op ≡ m) → ¬ (operation (code pc) ≡ m)
  not_op m f e = f (at.op ∙ e)

  -- the end: its record is put
  pub laid_ok : {before K : ℕ} {y y' : List ℕ} {z : Step} {b'' : List ℕ} → Kept K y y' → r.op ≡ 1 → (z ≡ step_of 0 q (n + 1) t) × (b'' ≡ put_at b' (i + n) (record_of k r.arg σ q (before + n + 1) (0, 0)))
      → SaidMade Any s (under_any k left lines) σ any_before k (layout_of k) p i u before p K b b'' x x' y y' z
  laid_ok {before} {z = z} {b''} kept e (f, put) =
      let end = turn_fin w (is_op 1 e) in
      let h = end.room in
      record {
        made = stage_made before end.stage f (put ∙ ap (λ (o : ℕ). put_at b' (i + n) (record_of k o σ q (before + n + 1) (0, 0))) at.arg);
        room = rw f (omega arith);
        spent = rw f w.spent;
        high = rw f w.high;
        kept = kept;
        over = λ _. rw f (omega arith);
      }

  pub laid_room : r.op ≡ 1 → p + n + suc (spare k) ≤ q
  laid_room e = (turn_fin w (is_op 1 e)).room

  -- ---- a child

  -- the class as the program has it
  sub_class : (P : ℕ → Type 0) → P r.class → P (class (code pc))
  sub_class P h = subst P at.class h

  module _ {K : ℕ} {z : Step} {b'' x'' y' y'' : List ℕ} (h : SaidSub r.class left lines s (i + n) (u + t) K q b' b'' x' x'' y' y'' z) where
    child : SaidSub (class (code pc)) left lines s (i + n) (u + t) K q b' b'' x' x'' y' y'' z
    child = sub_class (λ (o : ℕ). SaidSub o left lines s (i + n) (u + t) K q b' b'' x' x'' y' y'' z) h

    laid_kid_no : {before : ℕ} {y : List ℕ} → r.op ≡ 3 → ¬ (z.kind ≡ 0) → Kept K y y'' → {c c' : List ℕ} → SaidMade Any s (under_any k left lines) σ any_before k (layout_of k) p i u before p K b c x c' y y'' z
    laid_kid_no e f kept = pass_made child.said f (omega (arith, w.low)) kept (λ a o g. turn_kid_no w a o (is_op 3 e) g)

    laid_kid : r.op ≡ 3 → z.kind ≡ 0 → Turn s left lines σ k p i u b b'' x x'' (pc + 1) z.end (n + z.count) (t + z.text)
    laid_kid e f = let g = good child.said f in turn_kid w (is_op 3 e) g (child.over f) (good_pos g)

  laid_lead : r.op ≡ 3 → (p < q) ⊎ (sub_rank r.class < 2 * (43 - k))
  laid_lead e = go (turn_lead w (is_op 3 e)).0
    where
      go : (p < q) ⊎ T (leads k (sort pc)) → (p < q) ⊎ (sub_rank r.class < 2 * (43 - k))
      go (inl a) = inl a
      go (inr a) = inr (subst (λ (o : ℕ). sub_rank o < 2 * (43 - k)) (sym at.class) (lead_rank k (class (code pc)) a))

  -- ---- a move

  module _ {v : Went} (m : Walked s left lines r.arg q v) where
    moved : Walked s left lines (argument (code pc)) q v
    moved = subst (λ (o : ℕ). Walked s left lines o q v) at.arg m

    inside : v.at ≤ length s
    inside = omega (arith, m.high, w.high)

    pub laid_stop : {before K : ℕ} {y y' : List ℕ} {z : Step} → r.op ≡ 2 → ¬ (v.kind ≡ 0) → z ≡ step_of v.kind v.at 0 0 → Kept K y y' → SaidMade Any s (under_any k left lines) σ any_before k (layout_of k) p i u before p K b b' x x' y y' z
    laid_stop e f g kept = record {
      made = made_no v.kind v.at g (omega arith) (turn_stop w v.kind v.at (is_op 2 e) (λ ξ. moved.bad f σ (want_in k ξ.0)));
      room = rw g (omega (arith, m.low, w.low));
      spent = rw g (omega (arith, m.low, w.low));
      high = rw g inside;
      kept = kept;
      over = λ o. absurd (f (sym (ap (λ (a : Step). a.kind) g) ∙ o));
    }

    pub laid_other : ¬ (r.op ≡ 1) → ¬ (r.op ≡ 3) → ¬ (r.op ≡ 2) → ¬ (v.kind ≡ 0) → Turn s left lines σ k p i u b b' x x' r.next q n t
    laid_other e₁ e₃ e₂ f =
        subst (λ (o : ℕ). Turn s left lines σ k p i u b b' x x' o q n t) (sym at.next)
        (turn_other w v.kind v.at (not_op 1 e₁) (not_op 2 e₂) (not_op 3 e₃) (λ ξ. moved.bad f σ (want_in k ξ.0)))

    pub laid_later : ¬ (r.op ≡ 1) → ¬ (r.op ≡ 3) → ¬ (r.op ≡ 2) → pc < r.next
    laid_later e₁ e₃ e₂ = subst (λ (o : ℕ). pc < o) (sym at.next) (turn_later w (not_op 1 e₁) (not_op 2 e₂) (not_op 3 e₃))

    pub laid_on : ¬ (r.op ≡ 1) → ¬ (r.op ≡ 3) → ¬ (r.op ≡ 5) → v.kind ≡ 0 → Turn s left lines σ k p i u b b' x x' (pc + 1) v.at n t
    laid_on e₁ e₃ e₅ f = turn_on w v.at (not_op 1 e₁) (not_op 3 e₃) (not_op 5 e₅) (λ ξ. moved.good f σ (want_in k ξ.0)) (moved.ate f) inside

    laid_again : r.op ≡ 5 → v.kind ≡ 0 → p < v.at
    laid_again e f = (turn_again w v.at (is_op 5 e) (moved.ate f)).0

    module _ {K : ℕ} {z : Step} {b'' x'' y' y'' : List ℕ} (h : SaidSub r.class left lines s (i + n) (u + t) K v.at b' b'' x' x'' y' y'' z) where
      further : SaidSub (class (code pc)) left lines s (i + n) (u + t) K v.at b' b'' x' x'' y' y'' z
      further = sub_class (λ (o : ℕ). SaidSub o left lines s (i + n) (u + t) K v.at b' b'' x' x'' y' y'' z) h

      laid_rep_no : {before : ℕ} {y : List ℕ} → r.op ≡ 5 → v.kind ≡ 0 → ¬ (z.kind ≡ 0) → Kept K y y'' → {c c' : List ℕ} → SaidMade Any s (under_any k left lines) σ any_before k (layout_of k) p i u before p K b c x c' y y'' z
      laid_rep_no e g f kept = pass_made further.said f (omega (arith, m.low, w.low)) kept (λ a o d. turn_rep_no w v.at a o (is_op 5 e) (λ ξ. moved.good g σ (want_in k ξ.0)) d)

      laid_rep : r.op ≡ 5 → v.kind ≡ 0 → z.kind ≡ 0 → Turn s left lines σ k p i u b b'' x x'' pc z.end (n + z.count) (t + z.text)
      laid_rep e g f = let d = good further.said f in turn_rep w (is_op 5 e) (λ ξ. moved.good g σ (want_in k ξ.0)) m.low d (good_pos d)

  pub laid_within : pc < instructions
  laid_within = turn_within w

  -- ---- the child of an instruction: at a, with the program going on at o behind it

  -- at once, or past a move
  abbrev pub Aim : ℕ → ℕ → Type 0
  Aim a o = ((r.op ≡ 3) × (a ≡ q) × (o ≡ pc + 1)) ⊎ ((r.op ≡ 5) × Past s left lines r.arg q a × (o ≡ pc))

  pub aim_kid : {a o : ℕ} → r.op ≡ 3 → a ≡ q → o ≡ pc + 1 → Aim a o
  aim_kid e f g = inl (e, f, g)

  pub aim_past : {a o : ℕ} {v : Went} → r.op ≡ 5 → Walked s left lines r.arg q v → v.kind ≡ 0 → a ≡ v.at → o ≡ pc → Aim a o
  aim_past {v = v} e m g f h = inr (e, record { went = v; walked = m; good = g; there = f }, h)

  pub aim_low : {a o : ℕ} → Aim a o → q ≤ a
  aim_low (inl (e, f, g)) = omega (arith, f)
  aim_low (inr (e, m, g)) = omega (arith, m.walked.low, m.there)

  pub aim_high : {a o : ℕ} → Aim a o → a ≤ length s
  aim_high (inl (e, f, g)) = omega (arith, f, w.high)
  aim_high (inr (e, m, g)) = omega (arith, inside m.walked, m.there)

  pub aim_lead : {a o : ℕ} → Aim a o → (p < a) ⊎ (sub_rank r.class < 2 * (43 - k))
  aim_lead (inl (e, f, g)) = subst (λ (b : ℕ). (p < b) ⊎ (sub_rank r.class < 2 * (43 - k))) (sym f) (laid_lead e)
  aim_lead (inr (e, m, g)) = inl (subst (λ (b : ℕ). p < b) (sym m.there) (laid_again m.walked e m.good))

  module _ {a o : ℕ} (g : Aim a o) {K : ℕ} {z : Step} {b'' x'' y' y'' : List ℕ} (h : SaidSub r.class left lines s (i + n) (u + t) K a b' b'' x' x'' y' y'' z) where
    from : (c : ℕ) → a ≡ c → SaidSub r.class left lines s (i + n) (u + t) K c b' b'' x' x'' y' y'' z
    from c e = subst (λ (d : ℕ). SaidSub r.class left lines s (i + n) (u + t) K d b' b'' x' x'' y' y'' z) e h

    pub aim_no : {before : ℕ} {y : List ℕ} → ¬ (z.kind ≡ 0) → Kept K y y'' → {c c' : List ℕ} → SaidMade Any s (under_any k left lines) σ any_before k (layout_of k) p i u before p K b c x c' y y'' z
    aim_no {before} {y} f kept {c} {c'} = go g
      where
        go : Aim a o → SaidMade Any s (under_any k left lines) σ any_before k (layout_of k) p i u before p K b c x c' y y'' z
        go (inl (e, d, _)) = laid_kid_no (from q d) e f kept
        go (inr (e, m, _)) = laid_rep_no m.walked (from m.went.at m.there) e m.good f kept

    pub aim_yes : z.kind ≡ 0 → Turn s left lines σ k p i u b b'' x x'' o z.end (n + z.count) (t + z.text)
    aim_yes f = go g
      where
        go : Aim a o → Turn s left lines σ k p i u b b'' x x'' o z.end (n + z.count) (t + z.text)
        go (inl (e, d, j)) = subst (λ (l : ℕ). Turn s left lines σ k p i u b b'' x x'' l z.end (n + z.count) (t + z.text)) (sym j) (laid_kid (from q d) e f)
        go (inr (e, m, j)) = subst (λ (l : ℕ). Turn s left lines σ k p i u b b'' x x'' l z.end (n + z.count) (t + z.text)) (sym j) (laid_rep m.walked (from m.went.at m.there) e m.good f)

    pub aim_far : z.kind ≡ 0 → q < z.end
    aim_far f = omega (arith, aim_low g, h.said.room, good_pos (good h.said f))
