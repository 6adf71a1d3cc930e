-- An object: its brace, its items one after the other, and its end.
use Prim.Native.Nat.{ℕ, suc, ◌+◌, ◌*◌, ◌-◌, ◌≤◌, ◌<◌}
use mathlib.Core.Path.{◌≡◌, refl, sym, ap, subst, ◌∙◌}
use mathlib.Core.Bool.{Bool, true, false, cond}
use mathlib.Core.Option.{some}
use mathlib.Core.List.{List, [], ◌∷◌, ◌++◌, append-nil}
use native.Mathlib.Omega.{arith}
use lib.ListN.{length, drop}
use lib.Dec.{eqb}
use borrow.Author.Tests.{eqb-true}
use Rattle.engine.specs.Base.{halt, Rec, Tree, Trees, nil, one, join, rec_of, rename, renamed, choose, sizes}
use Rattle.engine.specs.BaseLaws.{rename_id, some_is}
use Rattle.engine.specs.FlatLaws.{sizes_join}
use Rattle.engine.specs.Engine.{Whole, FailIn, FailAt}
use Rattle.engine.specs.Layout.{fin, move, kid, fork, rep, State, grammar, alias}
use Rattle.engine.specs.Way.{mid, Way, way_start, way_move, way_no, way_kid, way_kid_no, way_rep, way_rep_no}
use Rattle.lexis.specs.Bytes.{byte_at, begins, stands, is_foreign}
use Rattle.lexis.specs.Keys.{among}
use Rattle.index.specs.Mark.{mark_at}
use Rattle.index.specs.Index.{Indexed}
use Rattle.index.specs.Index as index
use Rattle.index.specs.IndexLaws.{indexed_none}
use Rattle.lexis.specs.RunLaws.{inside, next, clash, stands_one}
use Rattle.std.specs.Prelude.{Option, None, Some, is_some}
use Rattle.grammar.specs.declared.picks.Key.{Key}
use Rattle.grammar.specs.Alone.{KeyAt}
use Rattle.grammar.specs.Kinds.{Deep, Foreign, Unexpected}
use Rattle.grammar.specs.Moves.{Under, to, no, when, unexpected, skip, place, lone, lones, an_expression, an_item, Move, walk, atom}
use Rattle.grammar.specs.Layouts.{Class, entry, Layout, layouts, layout_of, object_lay, opening, past, space}
use Rattle.grammar.specs.Hcl.{hcl, under, pick_at, terms, starts}
use Rattle.grammar.specs.Table.{record_of, records_of, records_ofs, texts_of, texts_ofs, total}
use Rattle.reader.specs.Buffer.{put_at, lay, write}
use Rattle.reader.specs.Said.{Step, step_of, Climbs, Heads, Kept, Said, SaidItem, One}
use Rattle.reader.specs.Items.{met_in, behind_item, Keeping, Keeps}
use Rattle.reader.proofs.Lays.{lay_none, lay_join, write_none, write_join, total_append, texts_join, records_join, lengths_records, texts_same, records_same}
use Rattle.reader.proofs.Stages.{Stage, stage_start, stage_move, stage_yes, stage_no, stage_stop, stage_end}
use Rattle.reader.proofs.Answers.{good, from_good, refused, pass, done, Done, stage_made, done_head, head_no, kept_join, kept_same}
use Rattle.reader.proofs.Objects.{further, closer, behind_no, behind_last, behind_more}
use Rattle.reader.proofs.Entries.{still_indexed}
use Rattle.reader.proofs.Keepings.{met_more, kept_less, kept_next}

-- ---- the brace

-- what was chosen passed its test
abbrev Tests : (ℕ → Type 0) → List (Bool × ℕ) → Type 0
Tests Q [] = Unit {0}
Tests Q (x ∷ xs) = (x.0 ≡ true → Q x.1) × Tests Q xs

choose_test : (Q : ℕ → Type 0) (xs : List (Bool × ℕ)) → Tests Q xs → (k : ℕ) → choose xs ≡ some k → Q k
choose_test Q [] t k e = absurd (let z : ◌≡◌ {A = ℕ} 0 1 = cc in omega arith)
choose_test Q ((b, n) ∷ xs) (t, ts) k e = go b t e (choose_test Q xs ts k)
  where
    go : (b : Bool) → (b ≡ true → Q n) → elim b [ true ↦ some n | false ↦ choose xs ] ≡ some k → (choose xs ≡ some k → Q k) → Q k
    go true t e ih = subst Q (some_is e) (t refl)
    go false t e ih = ih e

object_brace : (s : List ℕ) (left : ℕ) (lines : Bool) (p : ℕ) → pick_at s (under left lines an_expression) p ≡ some 12 → eqb (byte_at s p) 123 ≡ true
unfolding pick_at
object_brace s left lines p e = choose_test (λ k. eqb k 12 ≡ true → eqb (byte_at s p) 123 ≡ true) (terms s lines p) (n, (n, (n, (n, (n, (n, (n, (n, (n, (n, (n, (n, (n, (λ t f. t, (n, (n, (n, tt))))))))))))))))) 12 e refl
  where
    n : {b : Bool} → b ≡ true → false ≡ true → eqb (byte_at s p) 123 ≡ true
    n t f = clash (sym f)

-- no rule takes what stands there
unexpected_no : (s : List ℕ) (p : ℕ) → unexpected s p ≡ no (cond (is_foreign (byte_at s p)) Foreign Unexpected) p
unexpected_no s p = go (is_foreign (byte_at s p))
  where
    go : (x : Bool) → when x (no Foreign p) (no Unexpected p) ≡ no (cond x Foreign Unexpected) p
    go true = refl
    go false = refl

module _ (s : List ℕ) (b : Under) (σ p : ℕ) where
  brace_here : (c : ℕ) → eqb 256 c ≡ false → eqb (byte_at s p) c ≡ true → drop p s ≡ c ∷ drop (p + 1) s
  brace_here c n h = next s p (inside (λ x. eqb x c) s p n h) ∙ ap (λ (x : ℕ). x ∷ drop (p + 1) s) (eqb-true (byte_at s p) c h)

  open_walk : (n : ℕ) → b.left ≡ suc n → eqb (byte_at s p) 123 ≡ true → walk s b σ (opening (123 ∷ [])) p ≡ to (p + 1)
  unfolding walk atom begins
  open_walk n e h = rw (brace_here 123 refl h, e)

  open_deep : b.left ≡ 0 → eqb (byte_at s p) 123 ≡ true → walk s b σ (opening (123 ∷ [])) p ≡ no Deep p
  unfolding walk atom begins
  open_deep e h = rw (brace_here 123 refl h, e)

  space_to : {q : ℕ} → skip s true p ≡ to q → walk s b σ space p ≡ to q
  unfolding walk atom
  space_to e = rw e

  space_no : {k q : ℕ} → skip s true p ≡ no k q → (walk s b σ space p ≡ no k q) × (walk s b σ (past (125 ∷ [])) p ≡ no k q)
  unfolding walk atom
  space_no e = (rw e, rw e)

module _ (s : List ℕ) (b : Under) (σ p q : ℕ) (e : skip s true p ≡ to q) where
  past_to : eqb (byte_at s q) 125 ≡ true → walk s b σ (past (125 ∷ [])) p ≡ to (q + 1)
  unfolding walk atom begins
  past_to h = rw (e, brace_here s b σ q 125 refl h)

  past_no : eqb (byte_at s q) 125 ≡ false → walk s b σ (past (125 ∷ [])) p ≡ no (cond (is_foreign (byte_at s q)) Foreign Unexpected) q
  unfolding walk atom
  past_no h = rw (e, stands_one 125 s q refl, h, unexpected_no s q)

-- a byte that stands there, as the code tests it
pub stood : (s : List ℕ) (q : ℕ) {r x : Bool} → r ≡ stands (125 ∷ []) s q → r ≡ x → eqb (byte_at s q) 125 ≡ x
stood s q h e = sym (stands_one 125 s q refl) ∙ sym h ∙ e

pub close_room : (s : List ℕ) (q : ℕ) → eqb (byte_at s q) 125 ≡ true → q < length s
close_room s q h = inside (λ x. eqb x 125) s q refl h

-- a key that is a word may be compared
word_alone : (s : List ℕ) (q : ℕ) (κ : Option Key) → KeyAt s q κ → is_some κ ≡ true → lone s q ≡ true
word_alone s q None h e = clash (sym e)
word_alone s q (Some κ) h e = h.alone

-- ---- the object under way

-- after its items
abbrev pub rest_lay : Layout
rest_lay = rep further entry (move closer (fin 0))

module _ (s : List ℕ) (left : ℕ) (lines : Bool) (i u p : ℕ) where
  abbrev in_object : Under
  in_object = under left lines an_expression

  abbrev start : State ℕ Under Move Class
  start = mid (hcl s) in_object p [] 12 (layout_of 12) p

  abbrev Object : List ℕ → List ℕ → List ℕ → List ℕ → Layout → ℕ → ℕ → ℕ → ℕ → Type 0
  Object b b' x x' l q n t w = Stage One s (λ _. start) (λ _. in_object) p 12 p i u b b' x x' l q n t w

  object_start : (b x : List ℕ) → p ≤ length s → Object b b x x object_lay p 0 0 0
  unfolding layouts
  object_start b x h = stage_start (λ _. []) (omega arith) h

  -- an item is next, at q: the starts of the earlier keys that may be compared are met just as the slots from the k-th to before the top-th in y
  pub record Turn (k : ℕ) (b b' x x' y₀ y : List ℕ) (q n t top : ℕ) : Type 0 where
    pub kids : Trees ℕ
    pub recs : List (Rec ℕ)
    pub takes : (z : Tree ℕ) → Whole (grammar (hcl s)) (under (left - 1) false (an_item (lones s (starts recs))), 8) q z
        → Way (hcl s) start (join kids (one (rename (alias (hcl s) entry) z))) in_object p (renamed (alias (hcl s) entry) (rec_of z) ∷ recs) 12 rest_lay (rec_of z).end
    pub fails : (z a : ℕ) → FailAt (grammar (hcl s)) (under (left - 1) false (an_item (lones s (starts recs))), 8) q z a → FailIn (grammar (hcl s)) start z a
    pub count : sizes kids ≡ n
    pub text : total (texts_ofs s p kids) ≡ t
    pub laid : b' ≡ lay b i (records_ofs s p u kids)
    pub written : x' ≡ write x u (texts_ofs s p kids)
    pub met : (v : ℕ) → among s (lones s (starts recs)) v ≡ met_in s y k top v
    pub indexed : Indexed s y k top
    pub kept : Kept k y₀ y
    pub low : k ≤ top
    pub few : 3 * top ≤ q
    pub room : p + n + 1 ≤ q
    pub spent : p + t ≤ q
    pub high : q ≤ length s

  module _ (pick : pick_at s in_object p ≡ some 12) (within : p ≤ length s) where
    object_fails : {z q : ℕ} → FailIn (grammar (hcl s)) start z q → Heads s in_object p (halt z q)
    object_fails f = head_no s pick f

    pub inside_brace : p < length s
    inside_brace = inside (λ x. eqb x 123) s p refl (object_brace s left lines p pick)

    -- no level is left
    pub object_deep : {k : ℕ} {b x y : List ℕ} {r : Step} → left ≡ 0 → r ≡ step_of 8 p 0 0 → Said (Heads s in_object p) s i u k p b b x x y y r
    unfolding layouts
    object_deep {b = b} {x} {y} e f =
        refused 8 p f (object_fails (stage_stop (object_start b x within) (λ ξ. open_deep s in_object p p e (object_brace s left lines p pick)) tt)) (omega arith) (omega arith) within (kept_same y)

    module _ (some_left : ¬ (left ≡ 0)) where
      left_is : left ≡ suc (left - 1)
      left_is = omega arith

      opened : (b x : List ℕ) → Object b b x x (fork (past (125 ∷ [])) (fin 0) (move space (kid entry rest_lay))) (p + 1) 0 0 (0 + 1)
      opened b x = stage_move 1 (object_start b x within) (λ ξ. open_walk s in_object p p (left - 1) left_is (object_brace s left lines p pick)) (omega arith) (omega (arith, inside_brace))

      -- the trivia behind the brace is refused
      pub object_open_no : {k z q : ℕ} {b x y : List ℕ} {r : Step} → skip s true (p + 1) ≡ no z q → ¬ (z ≡ 0) → r ≡ step_of z q 0 0 → p + 1 ≤ q → q ≤ length s → Said (Heads s in_object p) s i u k p b b x x y y r
      object_open_no {z = z} {q} {b} {x} {y} e pos f low high =
          refused z q f (object_fails (stage_stop (stage_no (opened b x) (λ ξ. (space_no s in_object p (p + 1) e).1)) (λ ξ. (space_no s in_object p (p + 1) e).0) tt)) (omega arith) (omega arith) high (kept_same y)

      module _ {q : ℕ} (e : skip s true (p + 1) ≡ to q) (low : p + 1 ≤ q) (high : q ≤ length s) where
        -- no item
        pub object_empty : {k : ℕ} {b b' x y : List ℕ} {r : Step} → eqb (byte_at s q) 125 ≡ true → r ≡ step_of 0 (q + 1) (0 + 1) 0 → b' ≡ put_at b (i + 0) (record_of 12 0 p (q + 1) (0 + 0 + 1) (0, 0))
            → Said (Heads s in_object p) s i u k p b b' x x y y r
        object_empty {b = b} {b'} {x} {y} h f put =
            let end : q < length s = inside (λ x. eqb x 125) s q refl h in
            let st = stage_yes 1 (opened b x) (λ ξ. past_to s in_object p (p + 1) q e h) (omega arith) (omega arith) in
            let d = done (stage_made 0 st f put) (ap (λ (x : Step). x.kind) f) in
            let d' : Done One s (λ _. in_object) p (λ _. []) 12 (layout_of 12) p i u 0 b b' x x (q + 1) (0 + 1) 0 = rw f at d in
            from_good (done_head refl refl pick tt refl refl d' (omega arith) (omega arith) (omega arith)) f (kept_same y)

        -- the first
        pub turn_start : {k : ℕ} {b x y : List ℕ} → 3 * k ≤ p → 4 * length s ≤ 3 * length y → eqb (byte_at s q) 125 ≡ false → Turn k b b x x y y q 0 0 k
        unfolding layouts lones among index.starts_of
        turn_start {k} {b} {x} {y} few wide h =
            let way = way_move (hcl s)
            (way_no (hcl s)
            (way_move (hcl s) (way_start (hcl s) in_object p [] 12 (layout_of 12) p) (ap place (open_walk s in_object p p (left - 1) left_is (object_brace s left lines p pick))))
            (ap place (past_no s in_object p (p + 1) q e h)))
            (ap place (space_to s in_object p (p + 1) e)) in
            record {
              kids = nil;
              recs = [];
              takes = λ z full. way_kid (hcl s) way refl full;
              fails = λ z a f. way_kid_no (hcl s) way refl f;
              count = refl;
              text = refl;
              laid = lay_none b i;
              written = write_none x u;
              met = λ v. let z : k - k ≡ 0 = omega arith in rw z;
              indexed = indexed_none s y k (omega arith);
              kept = kept_same y;
              low = omega arith;
              few = omega arith;
              room = omega arith;
              spent = omega arith;
              high = high;
            }

    -- an item was asked for: m is what was answered
    module _ {k : ℕ} {b b' b'' x x' x'' y₀ y y' : List ℕ} {q n t top : ℕ} {m : Step} (w : Turn k b b' x x' y₀ y q n t top) (a : SaidItem s (left - 1) (i + n) (u + t) top k q b' b'' x' x'' y y' m) where
      asked : Said (Climbs s (under (left - 1) false (an_item (lones s (starts w.recs)))) 8 q) s (i + n) (u + t) top q b' b'' x' x'' y y' m
      asked = a.said (lones s (starts w.recs)) (w.met q)

      keeps : Kept k y₀ y'
      keeps = kept_join w.kept (kept_less w.low a.kept)

      pub turn_no : ¬ (m.kind ≡ 0) → Said (Heads s in_object p) s i u k p b b'' x x'' y₀ y' m
      turn_no pos = pass asked pos (omega (arith, w.room)) (λ z c f. object_fails (w.fails z c f)) keeps

      module _ (ok : m.kind ≡ 0) where
        -- there is room for its key
        pub turn_keeping : {h : ℕ} (κ : Option Key) {word : Bool} → length s ≤ 65535 → 4 * length s ≤ 3 * length y₀ → h ≡ mark_at s q → KeyAt s q κ → word ≡ is_some κ → Keeping s y' k top q h word
        turn_keeping κ small wide e κ-at f =
            record {
              indexed = still_indexed a.kept w.indexed;
              fits = record { room = omega (arith, keeps.long, w.few, a.long ok, a.high); few = omega (arith, w.few, w.high); small = omega (arith, w.high) };
              mark = e;
              lone = λ g. word_alone s q κ κ-at (sym f ∙ g);
            }

        taken : Object b b'' x x'' rest_lay m.end (n + m.count) (t + m.text) 1
        taken =
            let h = good asked ok in
            let ks = w.kids in
            let z = h.tree in
            let tx : texts_ofs s p (join ks (one z)) ≡ texts_ofs s p ks ++ texts_of s 0 z = texts_join s p ks (one z) ∙ rw (append-nil, texts_same s p 0 z h.whole) in
            let rx : records_ofs s p u (join ks (one z)) ≡ records_ofs s p u ks ++ records_of s 0 (u + total (texts_ofs s p ks)) z =
            records_join s p u ks (one z) ∙ rw (append-nil, records_same s p 0 (u + total (texts_ofs s p ks)) z h.whole) in
            let uu : u + total (texts_ofs s p ks) ≡ u + t = omega (arith, w.text) in
            let way : Way (hcl s) start (join ks (one z)) in_object p (renamed (alias (hcl s) entry) (rec_of z) ∷ w.recs) 12 rest_lay (rec_of z).end =
            subst (λ (o : Tree ℕ). Way (hcl s) start (join ks (one o)) in_object p (renamed (alias (hcl s) entry) (rec_of z) ∷ w.recs) 12 rest_lay (rec_of z).end) (rename_id z) (w.takes z h.gives) in
            record {
              kids = join ks (one z);
              recs = λ ξ. renamed (alias (hcl s) entry) (rec_of z) ∷ w.recs;
              way = λ ξ. subst (λ (o : ℕ). Way (hcl s) start (join ks (one z)) in_object p (renamed (alias (hcl s) entry) (rec_of z) ∷ w.recs) 12 rest_lay o) h.end way;
              count = sizes_join ks (one z) ∙ omega (arith, w.count, h.count);
              text = ap total tx ∙ total_append (texts_ofs s p ks) (texts_of s 0 z) ∙ omega (arith, w.text, h.text);
              laid = rw (rx, uu) (lay_join b i (records_ofs s p u ks) (records_of s 0 (u + t) z) w.laid (omega (arith, lengths_records s p u ks, w.count)) h.laid);
              written = rw tx (write_join x u (texts_ofs s p ks) (texts_of s 0 z) w.written uu h.written);
              room = omega (arith, w.room, h.room);
              spent = omega (arith, w.spent, h.spent);
              high = h.high;
            }

        -- what should end it does not
        pub object_end_no : {z c : ℕ} {r : Step} → behind_item s m.end ≡ no z c → ¬ (z ≡ 0) → r ≡ step_of z c 0 0 → m.end ≤ c → c ≤ length s → Said (Heads s in_object p) s i u k p b b'' x x'' y₀ y' r
        object_end_no {z} {c} e pos f low high =
            refused z c f (object_fails (stage_stop (stage_end taken (λ ξ. (behind_no s in_object p m.end e).0)) (λ ξ. (behind_no s in_object p m.end e).1) tt)) (omega arith) (omega (arith, taken.room)) high keeps

        module _ {c : ℕ} (e : behind_item s m.end ≡ to c) (low : m.end ≤ c) (high : c ≤ length s) where
          -- it was the last
          pub object_end : {b''' : List ℕ} {r : Step} → eqb (byte_at s c) 125 ≡ true → r ≡ step_of 0 (c + 1) (n + m.count + 1) (t + m.text)
              → b''' ≡ put_at b'' (i + (n + m.count)) (record_of 12 0 p (c + 1) (0 + (n + m.count) + 1) (0, 0)) → Said (Heads s in_object p) s i u k p b b''' x x'' y₀ y' r
          object_end {b'''} h f put =
              let end : c < length s = inside (λ x. eqb x 125) s c refl h in
              let st = stage_move 1 (stage_end taken (λ ξ. (behind_last s in_object p m.end e h).0)) (λ ξ. (behind_last s in_object p m.end e h).1) (omega arith) (omega arith) in
              let d = done (stage_made 0 st f put) (ap (λ (x : Step). x.kind) f) in
              let d' : Done One s (λ _. in_object) p (λ _. []) 12 (layout_of 12) p i u 0 b b''' x x'' (c + 1) (n + m.count + 1) (t + m.text) = rw f at d in
              from_good (done_head refl refl pick tt refl refl d' (omega (arith, st.room)) (omega (arith, st.spent)) (omega arith)) f keeps

          -- another follows
          pub turn_more : {y'' : List ℕ} {r : ℕ} → eqb (byte_at s c) 125 ≡ false → Keeps s y' y'' k top q r
              → Turn k b b'' x x'' y₀ y'' c (n + m.count) (t + m.text) r
          unfolding taken
          turn_more {y''} {r} h put =
              let z = (good asked ok).tree in
              let at : (rec_of z).start ≡ q = (good asked ok).gives.0 in
              let moved = behind_more s in_object p m.end e h in
              let more : r ≤ top + 1 = most (lone s q) put.next in
              let least : top ≤ r = fewest (lone s q) put.next in
              record {
                kids = taken.kids;
                recs = taken.recs tt;
                takes = λ z full. way_rep (hcl s) (taken.way tt) (ap place moved) refl full;
                fails = λ z a f. way_rep_no (hcl s) (taken.way tt) (ap place moved) refl f;
                count = taken.count;
                text = taken.text;
                laid = taken.laid;
                written = taken.written;
                met = λ v. rw at (met_more s (starts w.recs) k top q v (w.met v) a.kept put);
                indexed = put.indexed;
                kept = kept_join keeps (kept_next put);
                low = omega (arith, w.low);
                few = omega (arith, w.few, a.long ok);
                room = omega (arith, taken.room);
                spent = omega (arith, taken.spent);
                high = high;
              }
            where
              most : (x : Bool) → r ≡ cond x (top + 1) top → r ≤ top + 1
              most true f = omega (arith, f)
              most false f = omega (arith, f)

              fewest : (x : Bool) → r ≡ cond x (top + 1) top → top ≤ r
              fewest true f = omega (arith, f)
              fewest false f = omega (arith, f)
