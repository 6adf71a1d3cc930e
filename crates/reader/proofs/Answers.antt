-- The answers of the reader's functions, from those of the functions that they call.
use Prim.Native.Nat.{ℕ, suc, ◌+◌, ◌≤◌, ◌<◌}
use mathlib.Core.Path.{◌≡◌, refl, sym, ap, subst, ◌∙◌}
use mathlib.Core.Bool.{false}
use mathlib.Core.Option.{Option, some}
use mathlib.Core.List.{List, [], ◌∷◌, ◌++◌, append-nil, append_assoc}
use native.Mathlib.Omega.{arith}
use lib.ListN.{length, length-append}
use lib.Dec.{eqb}
use Rattle.engine.specs.Base.{Outcome, ok, halt, stuck, Rec, Tree, Trees, node, cons, rec_of, size, sizes}
use Rattle.engine.specs.BaseLaws.{unless_lt}
use Rattle.engine.specs.Engine.{Body, Fits, FailIn, FailAt}
use Rattle.engine.specs.Layout.{fin, grammar, fit, from}
use Rattle.engine.specs.Tables.{Sane}
use Rattle.engine.specs.LayoutLaws.{after_cap}
use Rattle.engine.specs.Way.{mid, way_fin, led, Part, part_led, part_led_no, part_stop, part_more, part_no}
use Rattle.grammar.specs.Moves.{Under}
use Rattle.grammar.specs.Kinds.{tight_of}
use Rattle.grammar.specs.Layouts.{Layout, layout_of}
use Rattle.grammar.specs.Hcl.{hcl, pick_at, follow_at}
use Rattle.grammar.specs.Table.{Record, record_of, own, records_of, records_ofs, texts_of, texts_ofs, total}
use Rattle.reader.specs.Buffer.{put_at, lay, write}
use Rattle.reader.specs.Said.{Step, step_of, Climbs, Heads, Good, told_as, Kept, Said, Makes, made_as, Made}
use Rattle.reader.proofs.Lays.{lay_none, lay_join, lay_one, write_none, write_join, total_append, lengths_records, length_records, texts_same, records_same, own_none, span_none}
use Rattle.reader.proofs.Stages.{Stage}

-- ---- answers that were given

-- an answer of kind 0 is of a reading
good_as : (Z : Outcome ℕ (Tree ℕ) → Type 0) (s : List ℕ) (i u p : ℕ) (b b' x x' : List ℕ) (r : Step) (o : Outcome ℕ (Tree ℕ)) → Z o → told_as s i u b b' x x' r o → r.kind ≡ 0
    → p + r.count ≤ r.end → p + r.text ≤ r.end → r.end ≤ length s → Good Z s i u p b b' x x' r.end r.count r.text
good_as Z s i u p b b' x x' r (ok t) g (e, l, w, k) z room spent high = record {
  tree = t;
  gives = g;
  end = sym (ap (λ (y : Step). y.end) e);
  count = sym (ap (λ (y : Step). y.count) e);
  text = sym (ap (λ (y : Step). y.text) e);
  laid = l;
  written = w;
  whole = k;
  room = room;
  spent = spent;
  high = high;
}
good_as Z s i u p b b' x x' r (halt k a) g (e, h) z room spent high = absurd (let f : r.kind ≡ k = ap (λ (y : Step). y.kind) e in omega arith)
good_as Z s i u p b b' x x' r stuck g t z room spent high = absurd t

pub good : {Z : Outcome ℕ (Tree ℕ) → Type 0} {s : List ℕ} {i u k p : ℕ} {b b' x x' y y' : List ℕ} {r : Step} → Said Z s i u k p b b' x x' y y' r → r.kind ≡ 0
    → Good Z s i u p b b' x x' r.end r.count r.text
good {Z} {s} {i} {u} {k} {p} {b} {b'} {x} {x'} {r = r} w z = good_as Z s i u p b b' x x' r w.out w.gives w.told z w.room w.spent w.high

-- what was read, told
pub from_good : {Z : Outcome ℕ (Tree ℕ) → Type 0} {s : List ℕ} {i u k p : ℕ} {b b' x x' y y' : List ℕ} {e n t : ℕ} {r : Step} → Good Z s i u p b b' x x' e n t → r ≡ step_of 0 e n t → Kept k y y'
    → Said Z s i u k p b b' x x' y y' r
from_good {r = r} g q kept = record {
  out = ok g.tree;
  gives = g.gives;
  told = (q ∙ rw (g.end, g.count, g.text), g.laid, g.written, g.whole);
  room = rw q g.room;
  spent = rw q g.spent;
  high = rw q g.high;
  kept = kept;
}

-- a refusal
pub refused : {Z : Outcome ℕ (Tree ℕ) → Type 0} {s : List ℕ} {i u k p : ℕ} {b b' x x' y y' : List ℕ} {r : Step} (z q : ℕ) → r ≡ step_of z q 0 0 → Z (halt z q) → 1 ≤ z → p ≤ q → q ≤ length s → Kept k y y'
    → Said Z s i u k p b b' x x' y y' r
refused z q e g pos low high kept = record { out = halt z q; gives = g; told = (e, pos); room = rw e (omega arith); spent = rw e (omega arith); high = rw e high; kept = kept }

-- a refusal of what was asked for within, passed on
pass_as : (Z Y : Outcome ℕ (Tree ℕ) → Type 0) (s : List ℕ) (i u i' u' k p : ℕ) (b b' x x' c c' v v' y y' : List ℕ) (r : Step) (o : Outcome ℕ (Tree ℕ)) → Y o → told_as s i' u' c c' v v' r o → ¬ (r.kind ≡ 0)
    → p + r.count ≤ r.end → p + r.text ≤ r.end → r.end ≤ length s → ((z q : ℕ) → Y (halt z q) → Z (halt z q)) → Kept k y y' → Said Z s i u k p b b' x x' y y' r
pass_as Z Y s i u i' u' k p b b' x x' c c' v v' y y' r (ok t) g (e, l, v₁, v₂) z room spent high f kept = absurd (z (ap (λ (y : Step). y.kind) e))
pass_as Z Y s i u i' u' k p b b' x x' c c' v v' y y' r (halt n q) g (e, h) z room spent high f kept = record { out = halt n q; gives = f n q g; told = (e, h); room = room; spent = spent; high = high; kept = kept }
pass_as Z Y s i u i' u' k p b b' x x' c c' v v' y y' r stuck g t z room spent high f kept = absurd t

pub pass : {Z Y : Outcome ℕ (Tree ℕ) → Type 0} {s : List ℕ} {i u i' u' k k' p q : ℕ} {b b' x x' c c' v v' y y' z z' : List ℕ} {r : Step} → Said Y s i' u' k' q c c' v v' z z' r → ¬ (r.kind ≡ 0) → p ≤ q
    → ((z q : ℕ) → Y (halt z q) → Z (halt z q)) → Kept k y y' → Said Z s i u k p b b' x x' y y' r
pass {Z} {Y} {s} {i} {u} {i'} {u'} {k} {k'} {p} {q} {b} {b'} {x} {x'} {c} {c'} {v} {v'} {y} {y'} {r = r} w z low f kept =
    pass_as Z Y s i u i' u' k p b b' x x' c c' v v' y y' r w.out w.gives w.told z (omega (arith, w.room)) (omega (arith, w.spent)) w.high f kept

-- ---- the keys that are kept

pub kept_same : {k : ℕ} (y : List ℕ) → Kept k y y
kept_same y = record { same = refl; long = refl }

pub kept_join : {k : ℕ} {y y' y'' : List ℕ} → Kept k y y' → Kept k y' y'' → Kept k y y''
kept_join a b = record { same = b.same ∙ a.same; long = b.long ∙ a.long }

-- ---- productions that were read to their end

pub record Done (X : Type 0) (s : List ℕ) (a : X → Under) (σ : ℕ) (ks : X → List (Rec ℕ)) (k : ℕ) (l : Layout) (p i u before : ℕ) (b b' x x' : List ℕ) (e n t : ℕ) : Type 0 where
  pub flag : ℕ
  pub kids : Trees ℕ
  pub fits : (ξ : X) → Fits (grammar (hcl s)) (mid (hcl s) (a ξ) σ (ks ξ) k l p) k flag e kids
  pub count : sizes kids + 1 ≡ n
  pub text : total (texts_ofs s σ kids) ≡ t
  pub laid : b' ≡ put_at (lay b i (records_ofs s σ u kids)) (i + sizes kids) (record_of k flag σ e (before + sizes kids + 1) (0, 0))
  pub written : x' ≡ write x u (texts_ofs s σ kids)

done_as : (X : Type 0) (s : List ℕ) (a : X → Under) (σ : ℕ) (ks : X → List (Rec ℕ)) (k : ℕ) (l : Layout) (p i u before : ℕ) (b b' x x' : List ℕ) (r : Step) (o : Outcome ℕ (Body ℕ)) → ((ξ : X) → Makes s (a ξ) σ (ks ξ) k l p o) → made_as s σ k i u before b b' x x' r o → r.kind ≡ 0
    → Done X s a σ ks k l p i u before b b' x x' r.end r.count r.text
done_as X s a σ ks k l p i u before b b' x x' r (ok y) g (e, h, w) z =
    let end : y.end ≡ r.end = sym (ap (λ (y : Step). y.end) e) in
    record {
      flag = y.flag;
      kids = y.kids;
      fits = λ ξ. subst (λ (q : ℕ). Fits (grammar (hcl s)) (mid (hcl s) (a ξ) σ (ks ξ) k l p) k y.flag q y.kids) end (g ξ);
      count = sym (ap (λ (y : Step). y.count) e);
      text = sym (ap (λ (y : Step). y.text) e);
      laid = h ∙ ap (λ (q : ℕ). put_at (lay b i (records_ofs s σ u y.kids)) (i + sizes y.kids) (record_of k y.flag σ q (before + sizes y.kids + 1) (0, 0))) end;
      written = w;
    }
done_as X s a σ ks k l p i u before b b' x x' r (halt n q) g (e, h) z = absurd (let f : r.kind ≡ n = ap (λ (y : Step). y.kind) e in omega arith)
done_as X s a σ ks k l p i u before b b' x x' r stuck g t z = absurd t

pub done : {X : Type 0} {s : List ℕ} {a : X → Under} {σ : ℕ} {ks : X → List (Rec ℕ)} {k : ℕ} {l : Layout} {p i u before : ℕ} {b b' x x' : List ℕ} {r : Step} → Made X s a σ ks k l p i u before b b' x x' r → r.kind ≡ 0
    → Done X s a σ ks k l p i u before b b' x x' r.end r.count r.text
done {X} {s} {a} {σ} {ks} {k} {l} {p} {i} {u} {before} {b} {b'} {x} {x'} {r} w z = done_as X s a σ ks k l p i u before b b' x x' r w.out w.gives w.told z

-- one that ends: its record is put
pub stage_made : {X : Type 0} {s : List ℕ} {a : X → Under} {σ k p₀ : ℕ} {ks : X → List (Rec ℕ)} {l : Layout} {p i u : ℕ} {b b₁ b₂ x x₁ : List ℕ} {φ e n t w : ℕ} {r : Step} (before : ℕ)
    → Stage X s (λ ξ. mid (hcl s) (a ξ) σ (ks ξ) k l p) a σ k p₀ i u b b₁ x x₁ (fin φ) e n t w → r ≡ step_of 0 e (n + 1) t → b₂ ≡ put_at b₁ (i + n) (record_of k φ σ e (before + n + 1) (0, 0))
    → Made X s a σ ks k l p i u before b b₂ x x₁ r
stage_made {X} {s} {a} {σ} {k} {p₀} {ks} {l} {p} {i} {u} {b} {b₁} {b₂} {x} {x₁} {φ} {e} {n} {t} {w} {r} before g q put = record {
  out = ok (record { kind = k; flag = φ; end = e; kids = g.kids });
  gives = λ ξ. way_fin (hcl s) (g.way ξ);
  told = (
    q ∙ rw (g.count, g.text),
    put ∙ rw (g.laid, g.count),
    g.written,
  );
}

pub made_no : {X : Type 0} {s : List ℕ} {a : X → Under} {σ : ℕ} {ks : X → List (Rec ℕ)} {k : ℕ} {l : Layout} {p i u before : ℕ} {b b' x x' : List ℕ} {r : Step} (z q : ℕ) → r ≡ step_of z q 0 0 → 1 ≤ z
    → ((ξ : X) → FailIn (grammar (hcl s)) (mid (hcl s) (a ξ) σ (ks ξ) k l p) z q) → Made X s a σ ks k l p i u before b b' x x' r
made_no z q e pos f = record { out = halt z q; gives = f; told = (e, pos) }

-- ---- a kind that stands first

-- the records and texts of a node that has none of its own
node_laid : (s : List ℕ) (k φ p e i u n : ℕ) (ts : Trees ℕ) (b : List ℕ) {b' : List ℕ} → eqb k 6 ≡ false → eqb k 9 ≡ false → sizes ts + 1 ≡ n
    → b' ≡ put_at (lay b i (records_ofs s p u ts)) (i + sizes ts) (record_of k φ p e n (0, 0)) → b' ≡ lay b i (records_of s 0 u (node k φ p e ts))
node_laid s k φ p e i u n ts b {b'} f g c h =
    let m : n ≡ suc (sizes ts) = omega arith in
    rw (span_none k φ p e (u + total (texts_ofs s p ts)) (total (own s 0 k φ p)) f g)
    (lay_join b i (records_ofs s p u ts) (record_of k φ p e (suc (sizes ts)) (0, 0) ∷ []) refl (ap (λ (x : ℕ). i + x) (lengths_records s p u ts))
    (h ∙ rw m (lay_one (lay b i (records_ofs s p u ts)) (i + sizes ts) (record_of k φ p e (suc (sizes ts)) (0, 0)))))

node_texts : (s : List ℕ) (k φ p e : ℕ) (ts : Trees ℕ) → eqb k 6 ≡ false → eqb k 9 ≡ false → texts_of s 0 (node k φ p e ts) ≡ texts_ofs s p ts
node_texts s k φ p e ts f g = rw (own_none s 0 k φ p f g) (append-nil (texts_ofs s p ts))

module _ {s : List ℕ} {a : Under} {k p i u : ℕ} {b b' x x' : List ℕ} {e n t : ℕ} (f : eqb k 6 ≡ false) (g : eqb k 9 ≡ false) (q : pick_at s a p ≡ some k) where
  -- its production, read from its start
  pub done_head : {X : Type 0} {α : X → Under} {κ : X → List (Rec ℕ)} (ξ : X) → α ξ ≡ a → κ ξ ≡ [] → Done X s α p κ k (layout_of k) p i u 0 b b' x x' e n t → p + n ≤ e → p + t ≤ e → e ≤ length s → Good (Heads s a p) s i u p b b' x x' e n t
  done_head {κ = κ} ξ same none_before d room spent high =
      let z : Tree ℕ = node k d.flag p e d.kids in
      let fits : Fits (grammar (hcl s)) (from (hcl s) (pick_at s a p) a p [] p) k d.flag e d.kids =
      subst (λ (o : Option ℕ). Fits (grammar (hcl s)) (from (hcl s) o a p [] p) k d.flag e d.kids) (sym q) (subst (λ (o : List (Rec ℕ)). Fits (grammar (hcl s)) (mid (hcl s) a p o k (layout_of k) p) k d.flag e d.kids) none_before
      (subst (λ (o : Under). Fits (grammar (hcl s)) (mid (hcl s) o p (κ ξ) k (layout_of k) p) k d.flag e d.kids) same (d.fits ξ))) in
      record {
        tree = z;
        gives = led (hcl s) fits;
        end = refl;
        count = omega (arith, d.count);
        text = ap total (node_texts s k d.flag p e d.kids f g) ∙ d.text;
        laid = node_laid s k d.flag p e i u (0 + sizes d.kids + 1) d.kids b f g (omega arith) d.laid;
        written = d.written ∙ ap (write x u) (sym (node_texts s k d.flag p e d.kids f g));
        whole = g;
        room = room;
        spent = spent;
        high = high;
      }

pub head_no : (s : List ℕ) {a : Under} {k p z y : ℕ} → pick_at s a p ≡ some k → FailIn (grammar (hcl s)) (mid (hcl s) a p [] k (layout_of k) p) z y → Heads s a p (halt z y)
head_no s {a} {k} {p} {z} {y} q h = subst (λ (o : Option ℕ). FailIn (grammar (hcl s)) (from (hcl s) o a p [] p) z y) (sym q) h

-- what stands first is tight enough for every place
pub fits_all : (s : List ℕ) (a : Under) (k p j : ℕ) → pick_at s a p ≡ some k → j < tight_of k → fit (hcl s) j (pick_at s a p) ≡ pick_at s a p
fits_all s a k p j q h = subst (λ (o : Option ℕ). fit (hcl s) j o ≡ o) (sym q) (unless_lt (tight_of k) j k h)

module _ {s : List ℕ} (U : Sane (hcl s)) {a : Under} {k p i u : ℕ} {b b' x x' : List ℕ} {e n t : ℕ} (q : pick_at s a p ≡ some k) (tight : 8 < tight_of k) where
  -- a kind that no operator takes apart, where none is taken
  pub head_whole : Good (Heads s a p) s i u p b b' x x' e n t → Good (Climbs s a 8 p) s i u p b b' x x' e n t
  head_whole g = record {
    tree = g.tree;
    gives = part_stop (hcl s) (part_led (hcl s) (fits_all s a k p 8 q tight) g.gives) (omega (arith, after_cap (hcl s) U a (rec_of g.tree).end));
    end = g.end;
    count = g.count;
    text = g.text;
    laid = g.laid;
    written = g.written;
    whole = g.whole;
    room = g.room;
    spent = g.spent;
    high = g.high;
  }

pub head_whole_no : (s : List ℕ) {a : Under} {k p z y : ℕ} → pick_at s a p ≡ some k → 8 < tight_of k → Heads s a p (halt z y) → Climbs s a 8 p (halt z y)
head_whole_no s {a} {k} {p} q tight h = part_led_no (hcl s) (fits_all s a k p 8 q tight) h

-- ---- what grows from an operand, by operators: for each of some levels J that are taken

pub record Grown (J : ℕ → Type 0) (s : List ℕ) (a : Under) (p u : ℕ) (z : Tree ℕ) (added : List Record) (said : List (List ℕ)) (e n t : ℕ) : Type 0 where
  pub tree : Tree ℕ
  pub part : (j : ℕ) → J j → Part (hcl s) (a, j) p tree
  pub ends : (rec_of tree).end ≡ e
  pub sized : size tree ≡ n
  pub worded : total (texts_of s 0 tree) ≡ t
  pub listed : records_of s 0 u tree ≡ records_of s 0 u z ++ added
  pub spoken : texts_of s 0 tree ≡ texts_of s 0 z ++ said
  pub whole : eqb (rec_of tree).kind 9 ≡ false

-- what holds whenever a loop over operators begins a turn: what stood at its start, to `end` with `count` records and `text` text bytes, grew by what was laid since
pub record Turning (J : ℕ → Type 0) (s : List ℕ) (a : Under) (i u p end count text : ℕ) (b b' x x' : List ℕ) (e n t : ℕ) : Type 0 where
  pub added : List Record
  pub said : List (List ℕ)
  pub counted : count + length added ≡ n
  pub worded : text + total said ≡ t
  pub laid : b' ≡ lay b (i + count) added
  pub written : x' ≡ write x (u + text) said
  pub follows : (z : Tree ℕ) → ((j : ℕ) → J j → Part (hcl s) (a, j) p z) → (rec_of z).end ≡ end → size z ≡ count → total (texts_of s 0 z) ≡ text → eqb (rec_of z).kind 9 ≡ false
      → Grown J s a p u z added said e n t
  pub room : p + n ≤ e
  pub spent : p + t ≤ e
  pub high : e ≤ length s

module _ {J : ℕ → Type 0} {s : List ℕ} {a : Under} {i u p end count text : ℕ} {b x : List ℕ} where
  pub turning_start : p + count ≤ end → p + text ≤ end → end ≤ length s → Turning J s a i u p end count text b b x x end count text
  turning_start room spent high = record {
    added = [];
    said = [];
    counted = omega arith;
    worded = omega arith;
    laid = lay_none b (i + count);
    written = write_none x (u + text);
    follows = λ z w f g h k. record { tree = z; part = w; ends = f; sized = g; worded = h; listed = sym (append-nil (records_of s 0 u z)); spoken = sym (append-nil (texts_of s 0 z)); whole = k };
    room = room;
    spent = spent;
    high = high;
  }

  module _ {b' x' : List ℕ} {e n t : ℕ} (w : Turning J s a i u p end count text b b' x x' e n t) where
    -- the whole, from what stood first
    pub turned : {Z : Outcome ℕ (Tree ℕ) → Type 0} {Y : Outcome ℕ (Tree ℕ) → Type 0} {b₀ x₀ : List ℕ} (left : Good Y s i u p b₀ b x₀ x end count text) → ((j : ℕ) → J j → Part (hcl s) (a, j) p left.tree)
        → ((z : Tree ℕ) → ((j : ℕ) → J j → Part (hcl s) (a, j) p z) → (rec_of z).end ≡ e → Z (ok z)) → Good Z s i u p b₀ b' x₀ x' e n t
    turned {b₀ = b₀} {x₀} left part f =
        let g = w.follows left.tree part left.end left.count left.text left.whole in
        record {
          tree = g.tree;
          gives = f g.tree g.part g.ends;
          end = g.ends;
          count = g.sized;
          text = g.worded;
          laid = rw g.listed (lay_join b₀ i (records_of s 0 u left.tree) w.added left.laid (omega (arith, length_records s 0 u left.tree, left.count)) w.laid);
          written = rw g.spoken (write_join x₀ u (texts_of s 0 left.tree) w.said left.written (omega (arith, left.text)) w.written);
          whole = g.whole;
          room = w.room;
          spent = w.spent;
          high = w.high;
        }

    -- the production of an operator was refused
    pub turning_no : {Y : Outcome ℕ (Tree ℕ) → Type 0} {b₀ x₀ : List ℕ} {k z y : ℕ} (left : Good Y s i u p b₀ b x₀ x end count text) → ((j : ℕ) → J j → Part (hcl s) (a, j) p left.tree)
        → follow_at s a e ≡ some k → ((ks : List (Rec ℕ)) → FailIn (grammar (hcl s)) (mid (hcl s) a p ks k (layout_of k) e) z y) → (j : ℕ) → J j → j < tight_of k → FailAt (grammar (hcl s)) (a, j) p z y
    turning_no {k = k} {z} {y} left part q f j here tight =
        let g = w.follows left.tree part left.end left.count left.text left.whole in
        let pt = g.part j here in
        part_no (hcl s) pt (rw g.ends q) tight
        (subst (λ (o : ℕ). FailIn (grammar (hcl s)) (mid (hcl s) a o (rec_of g.tree ∷ []) k (layout_of k) (rec_of g.tree).end) z y) (sym pt.start)
        (subst (λ (o : ℕ). FailIn (grammar (hcl s)) (mid (hcl s) a p (rec_of g.tree ∷ []) k (layout_of k) o) z y) (sym g.ends) (f (rec_of g.tree ∷ []))))

    -- the production of an operator was read, and its record put
    pub turning_more : {X : Type 0} {α : X → Under} {κ : X → List (Rec ℕ)} {k e' m y : ℕ} {b'' x'' : List ℕ} → ((ks : List (Rec ℕ)) → (ξ : X) × (α ξ ≡ a) × (κ ξ ≡ ks)) → eqb k 6 ≡ false → eqb k 9 ≡ false
        → follow_at s a e ≡ some k → ((j : ℕ) → J j → j < tight_of k) → Done X s α p κ k (layout_of k) e (i + n) (u + t) n b' b'' x' x'' e' m y → e + m ≤ e' → e + y ≤ e' → e' ≤ length s
        → Turning J s a i u p end count text b b'' x x'' e' (n + m) (t + y)
    turning_more {X} {α} {κ} {k} {e'} {m} {y} {b''} {x''} under_all f6 f9 q tight d room spent high =
        let φ = d.flag in
        let ts = d.kids in
        let top : Record = record_of k φ p e' (n + m) (0, 0) in
        let nm : n + sizes ts + 1 ≡ n + m = omega (arith, d.count) in
        let at : i + n + length (records_ofs s p (u + t) ts) ≡ i + n + sizes ts = omega (arith, lengths_records s p (u + t) ts) in
        record {
          added = w.added ++ (records_ofs s p (u + t) ts ++ top ∷ []);
          said = w.said ++ texts_ofs s p ts;
          counted = simp length-append (omega (arith, w.counted, lengths_records s p (u + t) ts, d.count));
          worded = rw (total_append w.said (texts_ofs s p ts)) (omega (arith, w.worded, d.text));
          laid = lay_join b (i + count) w.added (records_ofs s p (u + t) ts ++ top ∷ []) w.laid (omega (arith, w.counted))
              (lay_join b' (i + n) (records_ofs s p (u + t) ts) (top ∷ []) refl at (d.laid ∙ rw nm (lay_one (lay b' (i + n) (records_ofs s p (u + t) ts)) (i + n + sizes ts) top)));
          written = write_join x (u + text) w.said (texts_ofs s p ts) w.written (omega (arith, w.worded)) d.written;
          follows = λ z part g₁ g₂ g₃ g₄. grown z (w.follows z part g₁ g₂ g₃ g₄);
          room = omega (arith, w.room);
          spent = omega (arith, w.spent);
          high = high;
        }
      where
        grown : (z : Tree ℕ) → Grown J s a p u z w.added w.said e n t
            → Grown J s a p u z (w.added ++ (records_ofs s p (u + t) d.kids ++ record_of k d.flag p e' (n + m) (0, 0) ∷ [])) (w.said ++ texts_ofs s p d.kids) e' (n + m) (t + y)
        grown z g =
            let φ = d.flag in
            let ts = d.kids in
            let v = g.tree in
            let (ξ, same, before) = under_all (rec_of v ∷ []) in
            let fits : Fits (grammar (hcl s)) (mid (hcl s) a p (rec_of v ∷ []) k (layout_of k) e) k φ e' ts =
            subst (λ (o : List (Rec ℕ)). Fits (grammar (hcl s)) (mid (hcl s) a p o k (layout_of k) e) k φ e' ts) before
            (subst (λ (o : Under). Fits (grammar (hcl s)) (mid (hcl s) o p (κ ξ) k (layout_of k) e) k φ e' ts) same (d.fits ξ)) in
            let ut : u + total (texts_of s p v) ≡ u + t = omega (arith, g.worded, ap total (texts_same s p 0 v g.whole)) in
            let own_is = own_none s 0 k φ p f6 f9 in
            let texts : texts_of s 0 (node k φ p e' (cons v ts)) ≡ texts_of s 0 v ++ texts_ofs s p ts =
            rw (own_is, append-nil (texts_of s p v ++ texts_ofs s p ts)) (ap (λ (o : List (List ℕ)). o ++ texts_ofs s p ts) (texts_same s p 0 v g.whole)) in
            let size_is : suc (size v + sizes ts) ≡ n + m = omega (arith, g.sized, d.count) in
            record {
              tree = node k φ p e' (cons v ts);
              part = λ j here. part_more (hcl s) (g.part j here) (rw g.ends q) (tight j here)
                  (subst (λ (o : ℕ). Fits (grammar (hcl s)) (mid (hcl s) a o (rec_of v ∷ []) k (layout_of k) (rec_of v).end) k φ e' ts) (sym (g.part j here).start)
                  (subst (λ (o : ℕ). Fits (grammar (hcl s)) (mid (hcl s) a p (rec_of v ∷ []) k (layout_of k) o) k φ e' ts) (sym g.ends) fits));
              ends = refl;
              sized = size_is;
              worded = ap total texts ∙ total_append (texts_of s 0 v) (texts_ofs s p ts) ∙ omega (arith, g.worded, d.text);
              listed =
                  rw (span_none k φ p e' (u + total (texts_ofs s p (cons v ts))) (total (own s 0 k φ p)) f6 f9, size_is, ut, records_same s p 0 u v g.whole, g.listed)
                  (simp append_assoc);
              spoken = texts ∙ rw g.spoken (append_assoc (texts_of s 0 z) w.said (texts_ofs s p ts));
              whole = f9;
            }
