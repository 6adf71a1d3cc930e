-- In a reading each child fits: the root is in the mode that its want goes with, and so is each child; and under such an attribute no child
-- of a kind that is called for is refused for its place.
use Rattle.std.specs.Prelude.{ℕ, ◌≡◌, refl, List, Bool, true, false, cond, ◌&&◌, ◌⊎◌, T}
use Rattle.std.proofs.Common.{subst, inl, inr}
use Rattle.std.proofs.Math.Option.{some, none}
use Rattle.engine.specs.Base.{Rec, all_of}
use Rattle.engine.specs.BaseLaws.{and_t}
use Rattle.engine.specs.Layout.{bad, fin, move, kid, fork, rep}
use Rattle.engine.specs.Tables.{Called}
use Rattle.grammar.specs.Moves.{Want, an_expression, a_name, an_item, a_part, a_piece, a_condition, Under}
use Rattle.grammar.specs.Layouts.{Class, Layout, layouts, layout_of}
use Rattle.grammar.specs.Hcl.{hcl, grows, fits, downs, under}
use Rattle.grammar.specs.KindLaws.{heads, followers, called_all}

-- a child of a class stands somewhere in a layout
abbrev pub Has : Layout → Class → Type 0
Has bad c = ⊥
Has (fin φ) c = ⊥
Has (move m l) c = Has l c
Has (kid d l) c = (d ≡ c) ⊎ Has l c
Has (fork m l r) c = Has l c ⊎ Has r c
Has (rep m d l) c = (d ≡ c) ⊎ Has l c

-- a test of all classes of a layout, which computes
abbrev pub kids : (Class → Bool) → Layout → Bool
kids q bad = true
kids q (fin φ) = true
kids q (move m l) = kids q l
kids q (kid d l) = q d && kids q l
kids q (fork m l r) = kids q l && kids q r
kids q (rep m d l) = q d && kids q l

here : (q : Class → Bool) (d : Class) (l : Layout) → T (q d && kids q l) → (c : Class) → (d ≡ c) ⊎ Has l c → (Has l c → T (q c)) → T (q c)
here q d l t c (inl e) f = subst (λ (x : Class). T (q x)) e (and_t (q d) (kids q l) t).0
here q d l t c (inr h) f = f h

pub kids_all : (q : Class → Bool) (l : Layout) → T (kids q l) → (c : Class) → Has l c → T (q c)
kids_all q bad t c h = absurd h
kids_all q (fin φ) t c h = absurd h
kids_all q (move m l) t c h = kids_all q l t c h
kids_all q (kid d l) t c h = here q d l t c h (kids_all q l (and_t (q d) (kids q l) t).1 c)
kids_all q (fork m l r) t c h = go h (kids_all q l (and_t (kids q l) (kids q r) t).0 c) (kids_all q r (and_t (kids q l) (kids q r) t).1 c)
  where
    go : Has l c ⊎ Has r c → (Has l c → T (q c)) → (Has r c → T (q c)) → T (q c)
    go (inl x) f g = f x
    go (inr x) f g = g x
kids_all q (rep m d l) t c h = here q d l t c h (kids_all q l (and_t (q d) (kids q l) t).1 c)

-- the test at HCL, over the kinds that each want calls for
pub heads_fit : (n : ℕ) (w : Want) (lines : Bool) → T (all_of (λ k. kids (fits (under n lines w)) (layout_of k)) (heads w))
unfolding layouts
heads_fit n an_expression lines = tt
heads_fit n a_name lines = tt
heads_fit n (an_item ks) lines = tt
heads_fit n a_part lines = tt
heads_fit n (a_piece x) lines = tt
heads_fit n a_condition lines = tt

pub followers_fit : (n : ℕ) (w : Want) (lines : Bool) → T (grows w) → T (all_of (λ k. kids (fits (under n lines w)) (layout_of k)) followers)
unfolding layouts
followers_fit n an_expression lines t = tt
followers_fit n a_name lines t = absurd t
followers_fit n (an_item ks) lines t = tt
followers_fit n a_part lines t = absurd t
followers_fit n (a_piece x) lines t = absurd t
followers_fit n a_condition lines t = tt

pub child_fits : (s : List ℕ) (b : Under) (k : ℕ) → Called (hcl s) b k → (c : Class) → Has (layout_of k) c → (σ : ℕ) (ks : List (Rec ℕ))
    → (hcl s).down b c σ ks ≡ some (downs s b c σ ks)
child_fits s b k x c h σ ks = go (fits b c) (kids_all (fits b) (layout_of k) (called_all s (λ k. kids (fits b) (layout_of k)) b (heads_fit b.left b.want b.lines) (followers_fit b.left b.want b.lines) k x) c h)
  where
    go : (f : Bool) → T f → cond f (some (downs s b c σ ks)) none ≡ some (downs s b c σ ks)
    go true u = refl
    go false u = absurd u
