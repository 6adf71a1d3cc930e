-- The proofs of the demands.
use Rattle.std.specs.Prelude.{ℕ, zero, suc, ◌+◌, ◌-◌, ◌*◌, ◌≤◌, ◌<◌, ◌≡◌, refl, List, [], ◌∷◌, ◌++◌, map, Bool, true, false, cond, ◌↔◌, length, get_or, take, drop, eqb, ltb, T}
use Rattle.std.proofs.Common.{sym, ap, ◌∙◌, append_assoc, arith, length-append, take-append-drop, length-take-le}
use Rattle.std.proofs.Math.Path.{subst, fun_ext}
use Rattle.std.proofs.Math.Option.{some}
use Rattle.std.proofs.Math.Seq.{drop-append_seam, take-length}
use Rattle.std.proofs.Math.Dec.{eqb_refl}
use borrow.Author.Tests.{eq-eqb, ne_eqb, eqb-true, eqb-false, lt-ltb, le-ltb, ltb-true, ltb-false}
use Rattle.lexis.specs.Utf8.{Formed, none, more, sequence, first_bad, good_after}
use Rattle.lexis.proofs.Sequences.{sequence_front, good_step, good_stop}
use Rattle.lexis.proofs.Wellformed.{split, good_formed, formed_good}
use Rattle.engine.specs.Base.{Outcome, ok, halt, stuck, Rec, Tree, rec_of, size, has}
use Rattle.engine.specs.BaseLaws.{bind_ok, bind_is, halt_is, ok_inj, halt_ok}
use Rattle.engine.specs.Engine.{Whole, FailAt}
use Rattle.engine.specs.Flat.{Row, flat, row_in}
use Rattle.engine.specs.FlatLaws.{length_flat, at_eq}
use Rattle.engine.specs.Layout.{grammar}
use Rattle.engine.specs.Levels.{level_in}
use Rattle.engine.specs.Progress.{reads}
use Rattle.engine.specs.ProgressLaws.{reads_whole, reads_fails, reads_answers, reads_ruled, ruled_reads}
use Rattle.engine.specs.Source as engine
use Rattle.engine.specs.Theorem.{agree}
use Rattle.grammar.specs.Kinds.{Long, Utf8, Slots, Text, most, levels}
use Rattle.grammar.specs.Moves.{an_expression}
use Rattle.grammar.specs.Hcl.{hcl}
use Rattle.grammar.specs.Table.{Record, total, texts_of, records_of, numbers, table_of, words_of}
use Rattle.grammar.specs.Answer.{Answer, answer, answer_of, answer_as, root, leftover, source, pace, whole, reading, outcome}
use Rattle.grammar.proofs.AnswerLaws.{reading_rows, rows_of}
use Rattle.grammar.specs.Going.{going}
use Rattle.grammar.proofs.Sane.{sane}
use Rattle.grammar.proofs.Checked.{checked, quiet}
use Rattle.grammar.specs.Precedence.{thirteen, Binds}
use Rattle.grammar.proofs.Theorems.{binds}
use Rattle.grammar.proofs.Bounds.{flatten_long, reading_small}
use Rattle.grammar.specs.NarrowLaws.{Narrows, rows_narrow, numbers_narrow, narrow_most}
use Rattle.grammar.specs.RefusalLaws.{Met, fail_met, left_met}
use Rattle.grammar.specs.Published.{depth, kinds_of, used, row_of, no_row, rows_in, Holds}
use Rattle.grammar.specs.PostLaws.{every_post, post_every}
use Rattle.grammar.proofs.RowLaws.{length_records, plain_rows, plain_row, rows_tree, Listed, tree_rows}
use Rattle.grammar.specs.Demands.{Fair, Derives, nodes_of, bytes_of, Answers, long, unformed, refused, unread, slots, words, accepted, OneReading, OneAnswer, Accepted, AcceptedWhen, TrueCounts, Gives, RuleMeetsReading, SevenEach, OwnTable, OneTable, Precedence, MoreRoom, AnyRoom, NoMoreThanBytes, SixteenBits}

-- ---- the first bad sequence is where what stands before it is well formed and no sequence stands

pub formed_on : {w : List ℕ} → Formed w → (r : List ℕ) → first_bad (w ++ r) ≡ length w + first_bad r
formed_on none r = omega arith
formed_on (more w v pos e f) r = go (length w) refl (formed_on f r)
  where
    go : (n : ℕ) → length w ≡ n → first_bad (v ++ r) ≡ length v + first_bad r → first_bad ((w ++ v) ++ r) ≡ length (w ++ v) + first_bad r
    go zero z ih = absurd (omega arith)
    go (suc n) z ih =
        let q : sequence (w ++ (v ++ r)) ≡ suc n = sequence_front w (v ++ r) n (e ∙ z) in
        let d : drop (suc n) (w ++ (v ++ r)) ≡ v ++ r = subst (λ (i : ℕ). drop i (w ++ (v ++ r)) ≡ v ++ r) z (drop-append_seam w (v ++ r)) in
        rw (append_assoc w v r, good_step (w ++ (v ++ r)) (suc n) q (λ y. omega arith), d, ih, length-append w v) (omega arith)

pub bad_at : (s : List ℕ) (p : ℕ) → Formed (take p s) → p < length s → sequence (drop p s) ≡ 0 → first_bad s ≡ p
bad_at s p f h e =
    let q : first_bad s ≡ length (take p s) + first_bad (drop p s) = ap first_bad (sym (take-append-drop p s)) ∙ formed_on f (drop p s) in
    omega (arith, good_stop (drop p s) e, length-take-le p s (omega arith))

-- it is within the source where it is not its end
good_most : (n : ℕ) (s : List ℕ) → good_after n s ≤ length s
unfolding good_after
good_most n [] = omega arith
good_most (suc n) (b ∷ s) = omega (arith, good_most n s)
good_most zero (b ∷ s) = go (eqb (sequence (b ∷ s)) 0) (good_most (sequence (b ∷ s) - 1) s)
  where
    go : (y : Bool) → good_after (sequence (b ∷ s) - 1) s ≤ length s → cond y 0 (suc (good_after (sequence (b ∷ s) - 1) s)) ≤ suc (length s)
    go true h = omega arith
    go false h = omega arith

good_less : (s : List ℕ) → ¬ (first_bad s ≡ length s) → first_bad s < length s
good_less s n = omega (arith, good_most 0 s)

module _ (s : List ℕ) where
  -- ---- the reading and the derivations

  whole_is : (t : Tree ℕ) → (rec_of t).end ≡ length s → whole s (eqb (rec_of t).end (length s)) t ≡ ok t
  whole_is t e = rw (eq-eqb (rec_of t).end (length s) e)

  whole_ends : (t u : Tree ℕ) → whole s (eqb (rec_of t).end (length s)) t ≡ ok u → (t ≡ u) × ((rec_of t).end ≡ length s)
  whole_ends t u = go (eqb (rec_of t).end (length s)) refl
    where
      go : (y : Bool) → eqb (rec_of t).end (length s) ≡ y → whole s y t ≡ ok u → (t ≡ u) × ((rec_of t).end ≡ length s)
      go true e f = (ok_inj f, eqb-true (rec_of t).end (length s) e)
      go false e f = halt_ok f

  pub derives_reading : (t : Tree ℕ) → Derives s t → reading s ≡ ok t
  unfolding reading
  derives_reading t d = bind_is _ ((reads_whole (hcl s) (pace s) (going s) root 0 t).1 d.derived) ∙ whole_is t d.whole

  pub reading_derives : (t : Tree ℕ) → reading s ≡ ok t → Derives s t
  unfolding reading
  reading_derives t e =
      let (u, i, j) = bind_ok (reads (hcl s) (pace s) root 0) _ t e in
      let (z, w) = whole_ends u t j in
      subst (Derives s) z (record { derived = (reads_whole (hcl s) (pace s) (going s) root 0 u).0 i; whole = w })

  pub one_reading : (t u : Tree ℕ) → Derives s t → Derives s u → t ≡ u
  one_reading t u d e = ok_inj (sym (derives_reading t d) ∙ derives_reading u e)

  -- ---- what a source comes to

  long_is : most < length s → outcome s ≡ halt Long 0
  unfolding outcome
  long_is h = rw (lt-ltb most (length s) h)

  bad_is : length s ≤ most → (p : ℕ) → first_bad s ≡ p → p < length s → outcome s ≡ halt Utf8 p
  unfolding outcome
  bad_is h p e g = rw (le-ltb most (length s) h, ne_eqb (first_bad s) (length s) (λ z. omega arith), e)

  pub fair_is : Fair s → outcome s ≡ reading s
  unfolding outcome
  fair_is f = rw (le-ltb most (length s) f.short, eq-eqb (first_bad s) (length s) (formed_good f.formed))

  refused_is : (k p : ℕ) → FailAt (grammar (hcl s)) (root, 0) 0 k p → reading s ≡ halt k p
  unfolding reading
  refused_is k p x = halt_is _ ((reads_fails (hcl s) (pace s) (going s) root 0 k p).1 x)

  unread_is : (t : Tree ℕ) → Whole (grammar (hcl s)) (root, 0) 0 t → ¬ ((rec_of t).end ≡ length s)
      → reading s ≡ halt (leftover s (rec_of t).end).0 (leftover s (rec_of t).end).1
  unfolding reading
  unread_is t x n = bind_is _ ((reads_whole (hcl s) (pace s) (going s) root 0 t).1 x) ∙ rw (ne_eqb (rec_of t).end (length s) n)

  module _ (nodes text : ℕ) where
    answer_by : {o : Outcome ℕ (Tree ℕ)} → outcome s ≡ o → answer_of s nodes text ≡ answer_as s nodes text o
    unfolding answer_of
    answer_by e = rw e

    slots_is : (t : Tree ℕ) → nodes < nodes_of t → answer_as s nodes text (ok t) ≡ answer Slots 0 (nodes_of t) (bytes_of s t)
    slots_is t h = rw (lt-ltb nodes (size t) h)

    words_is : (t : Tree ℕ) → nodes_of t ≤ nodes → text < bytes_of s t → answer_as s nodes text (ok t) ≡ answer Text 0 (nodes_of t) (bytes_of s t)
    words_is t h g = rw (le-ltb nodes (size t) h, lt-ltb text (bytes_of s t) g)

    accepted_is : (t : Tree ℕ) → nodes_of t ≤ nodes → bytes_of s t ≤ text → answer_as s nodes text (ok t) ≡ answer 0 (length s) (nodes_of t) (bytes_of s t)
    accepted_is t h g = rw (le-ltb nodes (size t) h, le-ltb text (bytes_of s t) g)

    derived_by : (t : Tree ℕ) → Fair s → Derives s t → answer_of s nodes text ≡ answer_as s nodes text (ok t)
    derived_by t f d = answer_by (fair_is f ∙ derives_reading t d)

    pub only_answer : {a : Answer} → Answers s nodes text a → a ≡ answer_of s nodes text
    only_answer (long h) = sym (answer_by (long_is h))
    only_answer (unformed h p f g e) = sym (answer_by (bad_is h p (bad_at s p f g e) g))
    only_answer (refused f k p x) = sym (answer_by (fair_is f ∙ refused_is k p x))
    only_answer (unread f t x n) = sym (answer_by (fair_is f ∙ unread_is t x n))
    only_answer (slots f t d h) = sym (derived_by t f d ∙ slots_is t h)
    only_answer (words f t d h g) = sym (derived_by t f d ∙ words_is t h g)
    only_answer (accepted f t d h g) = sym (derived_by t f d ∙ accepted_is t h g)

    -- ---- there is an answer

    given : (a : Answer) → Answers s nodes text a → Answers s nodes text (answer_of s nodes text)
    given a x = subst (Answers s nodes text) (only_answer x) x

    at_tree : Fair s → (t : Tree ℕ) → Derives s t → Answers s nodes text (answer_of s nodes text)
    at_tree f t d = go (ltb nodes (size t)) (ltb text (bytes_of s t)) refl refl
      where
        go : (x y : Bool) → ltb nodes (size t) ≡ x → ltb text (bytes_of s t) ≡ y → Answers s nodes text (answer_of s nodes text)
        go true y e g = given _ (slots f t d (ltb-true nodes (size t) e))
        go false true e g = given _ (words f t d (ltb-false nodes (size t) e) (ltb-true text (bytes_of s t) g))
        go false false e g = given _ (accepted f t d (ltb-false nodes (size t) e) (ltb-false text (bytes_of s t) g))

    at_end : Fair s → (t : Tree ℕ) → Whole (grammar (hcl s)) (root, 0) 0 t → Answers s nodes text (answer_of s nodes text)
    at_end f t w = go (eqb (rec_of t).end (length s)) refl
      where
        go : (y : Bool) → eqb (rec_of t).end (length s) ≡ y → Answers s nodes text (answer_of s nodes text)
        go true e = at_tree f t (record { derived = w; whole = eqb-true (rec_of t).end (length s) e })
        go false e = given _ (unread f t w (eqb-false (rec_of t).end (length s) e))

    at_fair : Fair s → Answers s nodes text (answer_of s nodes text)
    at_fair f = go (reads (hcl s) (pace s) root 0) refl
      where
        go : (o : Outcome ℕ (Tree ℕ)) → reads (hcl s) (pace s) root 0 ≡ o → Answers s nodes text (answer_of s nodes text)
        go (ok t) e = at_end f t ((reads_whole (hcl s) (pace s) (going s) root 0 t).0 e)
        go (halt k p) e = given _ (refused f k p ((reads_fails (hcl s) (pace s) (going s) root 0 k p).0 e))
        go stuck e = absurd (reads_answers (hcl s) (pace s) (going s) (sane s) root 0 e)

    pub an_answer : Answers s nodes text (answer_of s nodes text)
    an_answer = go (ltb most (length s)) (eqb (first_bad s) (length s)) refl refl
      where
        go : (x y : Bool) → ltb most (length s) ≡ x → eqb (first_bad s) (length s) ≡ y → Answers s nodes text (answer_of s nodes text)
        go true y e f = given _ (long (ltb-true most (length s) e))
        go false true e f = at_fair (record { short = ltb-false most (length s) e; formed = good_formed s (eqb-true (first_bad s) (length s) f) })
        go false false e f =
            let x = split s in
            let n = eqb-false (first_bad s) (length s) f in
            given _ (unformed (ltb-false most (length s) e) (first_bad s) x.good (good_less s n) x.bad)

    -- ---- acceptance

    pub accepted_when : ((answer_of s nodes text).kind ≡ 0) → Accepted s nodes text
    accepted_when e = go an_answer e
      where
        none_is : {A : Type 0} {k : ℕ} → Met k → k ≡ 0 → A
        none_is m z = absurd (omega (arith, m.low))

        go : {a : Answer} → Answers s nodes text a → a.kind ≡ 0 → Accepted s nodes text
        go (long h) z = absurd (omega arith)
        go (unformed h p f g x) z = absurd (omega arith)
        go (refused f k p x) z = none_is (fail_met s x) z
        go (unread f t x n) z = none_is (left_met s (rec_of t).end) z
        go (slots f t d h) z = absurd (omega arith)
        go (words f t d h g) z = absurd (omega arith)
        go (accepted f t d h g) z = record { fair = f; tree = t; derives = d; few_nodes = h; few_bytes = g }

    pub true_counts : (x : Accepted s nodes text) → answer_of s nodes text ≡ answer 0 (length s) (nodes_of x.tree) (bytes_of s x.tree)
    true_counts x = sym (only_answer (accepted x.fair x.tree x.derives x.few_nodes x.few_bytes))

  -- ---- more room

  pub more_room : (n m n' m' : ℕ) → n ≤ n' → m ≤ m' → (answer_of s n m).kind ≡ 0 → answer_of s n' m' ≡ answer_of s n m
  more_room n m n' m' h g e =
      let x = accepted_when n m e in
      true_counts n' m' (record { fair = x.fair; tree = x.tree; derives = x.derives; few_nodes = omega (arith, x.few_nodes); few_bytes = omega (arith, x.few_bytes) })
      ∙ sym (true_counts n m x)

  pub any_room : (n m n' m' : ℕ) → 0 < (answer_of s n m).kind → (answer_of s n m).kind < Slots → answer_of s n' m' ≡ answer_of s n m
  any_room n m n' m' h g = sym (go (an_answer n m) h g)
    where
      go : {a : Answer} → Answers s n m a → 0 < a.kind → a.kind < Slots → a ≡ answer_of s n' m'
      go (long x) h g = only_answer n' m' (long x)
      go (unformed x p f y z) h g = only_answer n' m' (unformed x p f y z)
      go (refused f k p x) h g = only_answer n' m' (refused f k p x)
      go (unread f t x y) h g = only_answer n' m' (unread f t x y)
      go (slots f t d x) h g = absurd (omega arith)
      go (words f t d x y) h g = absurd (omega arith)
      go (accepted f t d x y) h g = absurd (omega arith)

  pub small : (t : Tree ℕ) → Derives s t → (nodes_of t ≤ length s) × (bytes_of s t ≤ length s)
  small t d = let x = reading_small s t (derives_reading t d) in (x.nodes, x.text)

  -- ---- precedence

  derived_holds : (t : Tree ℕ) → Derives s t → engine.Holds (source s) (flat t)
  derived_holds t d = (agree (source s) (checked s) (flat t)).1 (reading_rows s ∙ ap rows_of (derives_reading t d))

-- ---- the published rule

module _ (s table words : List ℕ) where
  -- a root of a kind that is an expression is no piece
  not_piece : (k : ℕ) → T (has (kinds_of an_expression 0) k) → ¬ (k ≡ 9)
  not_piece k t e = subst (λ (x : ℕ). T (has (kinds_of an_expression 0) x)) e t

  -- the tree of a table at which the rule holds
  pub record Found (rows : List Record) : Type 0 where
    pub tree : Tree ℕ
    pub derives : Derives s tree
    pub rows_are : rows ≡ records_of s 0 0 tree
    pub table_is : numbers (table_of s tree) ≡ table
    pub words_is : words_of s tree ≡ words

  pub holds_found : (h : Holds s table words) → Found h.rows
  holds_found h =
      let f = rows_in h.rows in
      let x = rows_tree s words f h.att h.root (λ j w. h.nodes j (omega (arith, h.last))) (h.all ∙ h.last) (not_piece (f h.root).kind h.kind) in
      let t = x.tree in
      let ki : T (has (kinds_of an_expression 0) (rec_of t).kind) = subst (λ (r : Rec ℕ). T (has (kinds_of an_expression 0) r.kind)) (sym x.rooted) h.kind in
      let ev = post_every s x.ruled (root, 0) (sym h.top) (record { kind = ki; more = tt }) in
      let st : (rec_of t).start ≡ 0 = ap (λ (r : Rec ℕ). r.start) x.rooted ∙ h.start in
      let en : (rec_of t).end ≡ length s = ap (λ (r : Rec ℕ). r.end) x.rooted ∙ h.end in
      let qu = quiet s (rec_of t).end (subst (λ (x : ℕ). T (eqb (rec_of t).end x)) en (eqb_refl (rec_of t).end)) in
      let re = ruled_reads (hcl s) (pace s) (going s) (sane s) root 0 t (st, ev, qu) in
      let n : length h.rows ≡ size t = sym h.all ∙ sym x.sized in
      let eq : h.rows ≡ records_of s 0 0 t = at_eq no_row h.rows (records_of s 0 0 t) (n ∙ sym (length_records s 0 0 t)) x.stands.listed in
      let zn : 0 + size t ≡ length h.rows = omega arith in
      let us : used f (0 + size t) ≡ length words = ap (used f) zn ∙ h.all_used in
      let to : total (texts_of s 0 t) ≡ length words = omega (arith, x.stands.next) in
      record {
        tree = t;
        derives = record { derived = (reads_whole (hcl s) (pace s) (going s) root 0 t).0 re; whole = en };
        rows_are = eq;
        table_is = ap numbers (sym eq) ∙ h.seven;
        words_is = sym x.stands.cut ∙ ap (λ (i : ℕ). take i words) to ∙ take-length words;
      }

  found_holds : Fair s → (t : Tree ℕ) → Derives s t → numbers (table_of s t) ≡ table → words_of s t ≡ words → Holds s table words
  found_holds fa t d ta wo =
      let re = (reads_whole (hcl s) (pace s) (going s) root 0 t).1 d.derived in
      let (st, ev, af) = reads_ruled (hcl s) (pace s) (going s) (sane s) root 0 t re in
      let (ru, su) = every_post s ev in
      let l = subst (λ (w : List ℕ). Listed s w (depth levels false) t (records_of s 0 0 t)) wo (tree_rows s (depth levels false) t ru) in
      record {
        short = fa.short;
        formed = fa.formed;
        rows = records_of s 0 0 t;
        seven = ta;
        att = l.att;
        nodes = l.nodes;
        root = l.root;
        last = l.last;
        all = l.all;
        top = l.top_att;
        kind = subst (λ (r : Rec ℕ). T (has (kinds_of an_expression 0) r.kind)) (sym l.rec) su.kind;
        start = ap (λ (r : Rec ℕ). r.start) l.rec ∙ st;
        end = ap (λ (r : Rec ℕ). r.end) l.rec ∙ d.whole;
        all_used = l.all_used;
      }

  pub rule_reading : (nodes text : ℕ) → length s ≤ nodes → length s ≤ text → Holds s table words ↔ Gives s nodes text table words
  rule_reading nodes text g k = (
    λ h.
        let x = holds_found h in
        let (a, b) = small s x.tree x.derives in
        record {
          accepted = ap (λ (y : Answer). y.kind)
              (true_counts s nodes text (record { fair = record { short = h.short; formed = h.formed }; tree = x.tree; derives = x.derives; few_nodes = omega arith; few_bytes = omega arith }));
          tree = x.tree;
          derives = x.derives;
          table_is = x.table_is;
          words_is = x.words_is;
        },
    λ y. found_holds (accepted_when s nodes text y.accepted).fair y.tree y.derives y.table_is y.words_is,
  )

  -- ---- precedence

  pub precedence : (h : Holds s table words) (i n : ℕ) → i < length h.rows → level_in thirteen (rows_in h.rows i).kind ≡ some n → Binds (λ j. row_of (rows_in h.rows j)) i n
  precedence h i n w e =
      let x = holds_found h in
      let t = x.tree in
      let z : length h.rows ≡ length (flat t) = ap length x.rows_are ∙ length_records s 0 0 t ∙ sym (length_flat t) in
      let same : (λ (j : ℕ). row_of (rows_in h.rows j)) ≡ row_in (engine.blank (source s)) (flat t)
      = fun_ext (λ j. plain_row h.rows j ∙ ap (λ (rows : List (Row ℕ)). get_or rows j (row_of no_row)) (ap (map row_of) x.rows_are ∙ plain_rows s 0 0 t)) in
      subst (λ (f : ℕ → Row ℕ). Binds f i n) (sym same)
      (binds s (flat t) (derived_holds s t x.derives) i n (omega arith) (subst (λ (f : ℕ → Row ℕ). level_in thirteen (f i).rec.kind ≡ some n) same e))

numbers_long : (rows : List Record) → length (numbers rows) ≡ 7 * length rows
numbers_long [] = refl
numbers_long (r ∷ rows) = omega (arith, numbers_long rows)

seven_each : (s table text : List ℕ) (h : Holds s table text) → length table ≡ 7 * length h.rows
seven_each s table text h = ap length (sym h.seven) ∙ numbers_long h.rows

-- ---- 16 bits

sixteen_bits : (s table text : List ℕ) → Holds s table text → (i : ℕ) → get_or table i 0 ≤ 65535
sixteen_bits s table text h i =
    let x = holds_found s table text h in
    let t = x.tree in
    let (st, ev, af) = reads_ruled (hcl s) (pace s) (going s) (sane s) root 0 t ((reads_whole (hcl s) (pace s) (going s) root 0 t).1 x.derives.derived) in
    let (a, b) = small s t x.derives in
    let n : Narrows (length s) (records_of s 0 0 t) = rows_narrow s ev (omega arith) 0 0 tt (omega (arith, flatten_long (texts_of s 0 t))) in
    subst (λ (l : List ℕ). get_or l i 0 ≤ 65535) x.table_is (numbers_narrow 65535 (records_of s 0 0 t) (omega arith) (narrow_most (length s) 65535 (records_of s 0 0 t) h.short n) i)

own_table : (s : List ℕ) (nodes text : ℕ) (x : Accepted s nodes text) → Holds s (numbers (table_of s x.tree)) (words_of s x.tree)
own_table s nodes text x = found_holds s (numbers (table_of s x.tree)) (words_of s x.tree) x.fair x.tree x.derives refl refl

one_table : (s table text table' text' : List ℕ) → Holds s table text → Holds s table' text' → (table ≡ table') × (text ≡ text')
one_table s table text table' text' h h' =
    let x = holds_found s table text h in
    let y = holds_found s table' text' h' in
    let e = one_reading s x.tree y.tree x.derives y.derives in
    (sym x.table_is ∙ ap (λ (t : Tree ℕ). numbers (table_of s t)) e ∙ y.table_is, sym x.words_is ∙ ap (words_of s) e ∙ y.words_is)

-- ---- the demands

pub demand_1_reading : OneReading
demand_1_reading = one_reading

pub demand_1_answer : OneAnswer
demand_1_answer s nodes text a = (λ x. only_answer s nodes text x, λ e. subst (Answers s nodes text) (sym e) (an_answer s nodes text))

pub demand_2 : AcceptedWhen
demand_2 s nodes text = (accepted_when s nodes text, λ x. ap (λ (a : Answer). a.kind) (true_counts s nodes text x))

pub demand_2_counts : TrueCounts
demand_2_counts = true_counts

pub demand_3 : RuleMeetsReading
demand_3 = rule_reading

pub demand_3_seven : SevenEach
demand_3_seven = seven_each

pub demand_3_own : OwnTable
demand_3_own = own_table

pub demand_3_one : OneTable
demand_3_one = one_table

pub demand_4 : Precedence
demand_4 = precedence

pub demand_5_more : MoreRoom
demand_5_more = more_room

pub demand_5_any : AnyRoom
demand_5_any = any_room

pub demand_5_bytes : NoMoreThanBytes
demand_5_bytes = small

pub demand_5_bits : SixteenBits
demand_5_bits = sixteen_bits
