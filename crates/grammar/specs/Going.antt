-- The reading of HCL moves on (the engine's Progress).
use Rattle.std.specs.Prelude.{ℕ, ◌≤◌, ◌≡◌, refl, List, Bool, true, false, cond, T}
use Rattle.std.proofs.Common.{ap, arith}
use Rattle.std.proofs.Math.Path.{subst}
use Rattle.std.proofs.Math.Option.{none, some}
use Rattle.engine.specs.Base.{Rec, all_of}
use Rattle.engine.specs.Progress.{ate, Going}
use Rattle.grammar.specs.Moves.{Want, an_expression, a_name, an_item, a_part, a_piece, a_condition, Under, Step, to, no, place}
use Rattle.grammar.specs.Layouts.{Class, inside, single, key, value, test, branch, term, right, entry, called, portion, piecewise, filter, layouts, layout_of}
use Rattle.grammar.specs.Hcl.{hcl, downs, fits, pick_at, grows}
use Rattle.grammar.specs.Answer.{rank_of, ranks, rank, pace}
use Rattle.grammar.specs.MoveLaws.{walk_within, walk_eats}
use Rattle.grammar.specs.KindLaws.{heads, pick_all, followers, follow_all}

pub place_to : {x : Step} (q : ℕ) → place x ≡ some q → x ≡ to q
place_to {x} q = go x
  where
    go : (x : Step) → place x ≡ some q → x ≡ to q
    go (to r) e = let z : r ≡ q = cc in ap to z
    go (no k r) e = absurd (let z : ◌≡◌ {A = ℕ} 0 1 = cc in omega arith)

rank_most : (w : Want) → rank_of w ≤ 2
rank_most an_expression = omega arith
rank_most a_name = omega arith
rank_most (an_item ks) = omega arith
rank_most a_part = omega arith
rank_most (a_piece t) = omega arith
rank_most a_condition = omega arith

-- a child that may stand there is under what `downs` says
pub down_is : (s : List ℕ) (b d : Under) (c : Class) (σ : ℕ) (ks : List (Rec ℕ)) → cond (fits b c) (some (downs s b c σ ks)) none ≡ some d → (fits b c ≡ true) × (downs s b c σ ks ≡ d)
down_is s b d c σ ks = go (fits b c)
  where
    go : (f : Bool) → cond f (some (downs s b c σ ks)) none ≡ some d → (f ≡ true) × (downs s b c σ ks ≡ d)
    go true e = (refl, cc)
    go false e = absurd (let z : ◌≡◌ {A = ℕ} 0 1 = cc in omega arith)

-- a child's rank is at most its class's
down_most : (s : List ℕ) (b : Under) (c : Class) (σ : ℕ) (ks : List (Rec ℕ)) → rank (downs s b c σ ks) ≤ ranks c
down_most s b inside σ ks = omega arith
down_most s b single σ ks = omega arith
down_most s b key σ ks = omega arith
down_most s b value σ ks = omega arith
down_most s b test σ ks = omega arith
down_most s b branch σ ks = omega arith
down_most s b term σ ks = omega arith
down_most s b (right t) σ ks = omega arith
down_most s b entry σ ks = omega arith
down_most s b called σ ks = omega arith
down_most s b portion σ ks = omega arith
down_most s b piecewise σ ks = omega arith
down_most s b filter σ ks = omega arith

-- the test of a layout, over the kinds that each want calls for
module _ (s : List ℕ) where
  abbrev eaten : ℕ → ℕ → Bool
  eaten r k = ate (pace s) r (layout_of k)

  heads_eat : (w : Want) → T (all_of (eaten (rank_of w)) (heads w))
  unfolding layouts
  heads_eat an_expression = tt
  heads_eat a_name = tt
  heads_eat (an_item ks) = tt
  heads_eat a_part = tt
  heads_eat (a_piece t) = tt
  heads_eat a_condition = tt

  followers_eat : (w : Want) → T (grows w) → T (all_of (eaten (rank_of w)) followers)
  unfolding layouts
  followers_eat an_expression t = tt
  followers_eat a_name t = absurd t
  followers_eat (an_item ks) t = tt
  followers_eat a_part t = absurd t
  followers_eat (a_piece x) t = absurd t
  followers_eat a_condition t = tt

  pub going : Going (hcl s) (pace s)
  unfolding pick_at
  going = record {
    go_less = λ b m σ p q e. omega (arith, (walk_within s b σ m p q (place_to q e)).low);
    go_eats = λ b m σ p q t e. let h = walk_within s b σ m p q (place_to q e) in omega (arith, walk_eats s b σ m p q t (place_to q e));
    down_rank = λ b d c σ ks e. let z = (down_is s b d c σ ks e).1 in subst (λ (x : Under). rank x ≤ ranks c) z (down_most s b c σ ks);
    fuel_left = λ b p. omega arith;
    fuel_less = λ b d p q h. omega (arith, rank_most d.want);
    fuel_rank = λ b d p q h r. omega arith;
    pick_ate = λ b p k. pick_all (eaten (rank b)) b.want (heads_eat b.want) s b.lines p k;
    op_ate = λ b p k e. (follow_all (eaten (rank b)) (followers_eat b.want (follow_all (λ k. true) tt s b p k e).0) s b p k e).1;
  }
