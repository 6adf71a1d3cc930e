-- The answers of `whole` and of `read`.
use Prim.Native.Nat.{ℕ, ◌*◌, ◌/◌, ◌≤◌, ◌<◌}
use mathlib.Core.Path.{◌≡◌, refl, sym, ap, ◌∙◌}
use mathlib.Core.Bool.{Bool, false}
use mathlib.Core.List.{List, [], ◌∷◌, ◌++◌}
use native.Mathlib.Omega.{arith}
use lib.ListN.{length, take, drop}
use lib.Dec.{eqb, ltb}
use borrow.Author.Tests.{eq-eqb, ne_eqb, lt-ltb, le-ltb}
use Rattle.reader.specs.declared.Answer.{Answer}
use Rattle.reader.specs.declared.Reading.{Reading}
use Rattle.engine.specs.Base.{Outcome, ok, halt, stuck, bind, Tree, rec_of}
use Rattle.engine.specs.BaseLaws.{ok_inj}
use Rattle.engine.specs.Engine.{Whole, FailAt}
use Rattle.engine.specs.Layout.{grammar}
use Rattle.engine.specs.Theorem.{accepts, refuses}
use Rattle.lexis.specs.Utf8.{first_bad}
use Rattle.grammar.specs.Kinds.{Long, Utf8, Slots, Text, most}
use Rattle.grammar.specs.Moves.{to, no, when, then, skip, unexpected, refusal}
use Rattle.grammar.specs.Hcl.{hcl}
use Rattle.grammar.specs.Table.{Record, table_of, texts_of, total, words_of, flatten, numbers}
use Rattle.grammar.specs.Answer.{root, leftover, whole, pace, source, reading, formed_as, long_as, outcome, answer, room_as, answer_as, answer_of}
use Rattle.grammar.specs.Answer as grammar-answer
use Rattle.grammar.proofs.Bounds.{flatten_long, reading_small}
use Rattle.grammar.proofs.Checked.{checked}
use Rattle.grammar.proofs.RowLaws.{length_records}
use Rattle.grammar.specs.Said.{Went, Moved, went_of}
use Rattle.reader.specs.Buffer.{lay, write, copied}
use Rattle.reader.specs.Said.{Step, step_of, Climbs, Good, told_as, Said}
use Rattle.reader.specs.Read.{Wholes, Fitting, Reads, answer_from}
use Rattle.reader.specs.NodeTextLaws.{take_before}
use Rattle.reader.specs.NodeReadLaws.{lay_behind, written}
use Rattle.reader.proofs.Answers.{good, from_good, refused, pass}
use Rattle.reader.proofs.Exprs.{step_is, unexpected_is, unexpected_both}

-- ---- the reading of a source, from a derivation

module _ (s : List ℕ) where
  read_whole : (t : Tree ℕ) → Whole (grammar (hcl s)) (root, 0) 0 t → reading s ≡ whole s (eqb (rec_of t).end (length s)) t
  unfolding reading
  read_whole t w = ap (λ (o : Outcome ℕ (Tree ℕ)). bind o (λ u. whole s (eqb (rec_of u).end (length s)) u)) ((accepts (source s) (checked s) root 0 t).1 w)

  read_fails : (k q : ℕ) → FailAt (grammar (hcl s)) (root, 0) 0 k q → reading s ≡ halt k q
  unfolding reading
  read_fails k q w = ap (λ (o : Outcome ℕ (Tree ℕ)). bind o (λ u. whole s (eqb (rec_of u).end (length s)) u)) ((refuses (source s) (checked s) root 0 k q).1 w)

step_as : (s : List ℕ) (i u : ℕ) (b b' x x' : List ℕ) (r : Step) (o : Outcome ℕ (Tree ℕ)) → told_as s i u b b' x x' r o → r.kind ≡ 0 → r ≡ step_of 0 r.end r.count r.text
step_as s i u b b' x x' r (ok t) (e, f₁, f₂, f₃) z = step_is r e
step_as s i u b b' x x' r (halt k q) (e, pos) z = absurd (omega (arith, ap (λ (v : Step). v.kind) e))
step_as s i u b b' x x' r stuck t z = absurd t

-- ---- the answers of `whole`

module _ {s : List ℕ} {b b' x x' y y' : List ℕ} {m : Step} (w : Said (Climbs s root 0 0) s 0 0 0 0 b b' x x' y y' m) where
  pub whole_no : ¬ (m.kind ≡ 0) → Said (Wholes s) s 0 0 0 0 b b' x x' y y' m
  whole_no f = pass w f (omega arith) (λ k q d. read_fails s k q d) w.kept

  module _ (z : m.kind ≡ 0) where
    read : Good (Climbs s root 0 0) s 0 0 0 b b' x x' m.end m.count m.text
    read = good w z

    pub whole_ok : m.end ≡ length s → Said (Wholes s) s 0 0 0 0 b b' x x' y y' m
    whole_ok e =
        from_good (record {
          tree = read.tree;
          gives = read_whole s read.tree read.gives ∙ ap (λ (v : Bool). whole s v read.tree) (eq-eqb (rec_of read.tree).end (length s) (read.end ∙ e));
          end = read.end;
          count = read.count;
          text = read.text;
          laid = read.laid;
          written = read.written;
          whole = read.whole;
          room = read.room;
          spent = read.spent;
          high = read.high;
        }) (step_as s 0 0 b b' x x' m w.out w.told z) w.kept

    module _ (e : ¬ (m.end ≡ length s)) where
      left : reading s ≡ halt (leftover s m.end).0 (leftover s m.end).1
      left =
          read_whole s read.tree read.gives
          ∙ ap (λ (v : Bool). whole s v read.tree) (ne_eqb (rec_of read.tree).end (length s) (λ o. e (sym read.end ∙ o)))
          ∙ ap (λ (v : ℕ). halt (leftover s v).0 (leftover s v).1) read.end

      module _ {g : Went} (sp : Moved s m.end false g) where
        pub whole_space : {r : Step} {c c' : List ℕ} → ¬ (g.kind ≡ 0) → r ≡ step_of g.kind g.at 0 0 → Said (Wholes s) s 0 0 0 0 b c x c' y y' r
        whole_space f q =
            refused g.kind g.at q (left ∙ rw (sp.bad f)) (omega arith) (omega arith) (omega (arith, sp.high, w.high)) w.kept

        pub whole_left : {r : Step} {c c' : List ℕ} {v : Went} → g.kind ≡ 0 → v ≡ went_of (unexpected s g.at) → r ≡ step_of v.kind v.at 0 0 → Said (Wholes s) s 0 0 0 0 b c x c' y y' r
        whole_left {v = v} f h q =
            let (pos, place) = unexpected_is s g.at h in
            let (is-kind, is-place) = unexpected_both s g.at h in
            refused v.kind v.at q
            (left ∙ ap (λ (o : Rattle.grammar.specs.Moves.Step). halt (refusal (then o (unexpected s))).0 (refusal (then o (unexpected s))).1) (sp.good f) ∙ rw (is-kind, is-place))
            pos (omega arith) (omega (arith, sp.high, w.high)) w.kept

-- ---- the answers of `read`

module _ (s : List ℕ) where
  outcome_long : most < length s → outcome s ≡ halt Long 0
  unfolding outcome
  outcome_long h = ap (long_as s) (lt-ltb most (length s) h)

  outcome_formed : length s ≤ most → outcome s ≡ formed_as s (eqb (first_bad s) (length s))
  unfolding outcome
  outcome_formed h = ap (long_as s) (le-ltb most (length s) h)

  outcome_bad : length s ≤ most → ¬ (first_bad s ≡ length s) → outcome s ≡ halt Utf8 (first_bad s)
  outcome_bad h f = outcome_formed h ∙ ap (formed_as s) (ne_eqb (first_bad s) (length s) f)

  outcome_read : length s ≤ most → first_bad s ≡ length s → outcome s ≡ reading s
  outcome_read h f = outcome_formed h ∙ ap (formed_as s) (eq-eqb (first_bad s) (length s) f)

  answer_as_lem : (n t : ℕ) (o : Outcome ℕ (Tree ℕ)) → outcome s ≡ o → answer_of s n t ≡ answer_as s n t o
  unfolding answer_of
  answer_as_lem n t o e = ap (answer_as s n t) e

-- a refusal of any source
read_no : {s b x : List ℕ} {r : Answer} (k p : ℕ) → outcome s ≡ halt k p → 1 ≤ k → p ≤ length s → answer_from r ≡ answer k p 0 0 → Reads s b b x x r
read_no {s} {b} {x} k p o pos low e = record {
  is = e ∙ sym (answer_as_lem s (length b / 7) (length x) (halt k p) o);
  same = λ z. (refl, refl);
  laid = λ z. absurd (omega (arith, z, ap (λ (a : grammar-answer.Answer). a.kind) e));
  long = (refl, refl);
  room = λ z. absurd (omega (arith, z, ap (λ (a : grammar-answer.Answer). a.kind) e));
  place = omega (arith, ap (λ (a : grammar-answer.Answer). a.place) e);
}

pub read_long : {s b x : List ℕ} {r : Answer} → most < length s → answer_from r ≡ answer Long 0 0 0 → Reads s b b x x r
read_long {s} h e = read_no Long 0 (outcome_long s h) (omega arith) (omega arith) e

pub read_bad : {s b x : List ℕ} {r : Answer} {p : ℕ} → length s ≤ most → p ≡ first_bad s → ¬ (p ≡ length s) → p ≤ length s → answer_from r ≡ answer Utf8 p 0 0 → Reads s b b x x r
read_bad {s} {p = p} h z f low e = read_no Utf8 p (outcome_bad s h (λ o. f (z ∙ o)) ∙ ap (halt Utf8) (sym z)) (omega arith) low e

-- ---- what is copied of a reading into room of its own is what it would lay over the lent room

numbers_long : (rs : List Record) → length (numbers rs) ≡ 7 * length rs
numbers_long [] = refl
numbers_long (r ∷ rs) = omega (arith, numbers_long rs)

module _ (b c : List ℕ) (rs : List Record) (n : ℕ) (e : length rs ≡ n) (fits : 7 * n ≤ length b) (fits' : 7 * n ≤ length c) where
  lay_copied : copied (7 * n) (lay c 0 rs) b ≡ lay b 0 rs
  lay_copied =
      let long : 7 * n ≡ length (numbers rs) = omega (arith, e, numbers_long rs) in
      let wide : length rs * 7 ≡ 7 * n = omega (arith, e) in
      ap (λ (l : List ℕ). copied (7 * n) l b) (lay_behind c [] c 0 rs refl refl (omega (arith, e, fits')))
      ∙ ap (λ (k : ℕ). take k (numbers rs ++ drop (length rs * 7) c) ++ drop (7 * n) b) long
      ∙ ap (λ (l : List ℕ). l ++ drop (7 * n) b) (take_before (numbers rs) (drop (length rs * 7) c))
      ∙ ap (λ (k : ℕ). numbers rs ++ drop k b) (sym wide)
      ∙ sym (lay_behind b [] b 0 rs refl refl (omega (arith, e, fits)))

module _ (x v : List ℕ) (ts : List (List ℕ)) (n : ℕ) (e : total ts ≡ n) (fits : n ≤ length x) (fits' : n ≤ length v) where
  write_copied : copied n (write v 0 ts) x ≡ write x 0 ts
  write_copied =
      let long : n ≡ length (flatten ts) = omega (arith, e, flatten_long ts) in
      ap (λ (l : List ℕ). copied n l x) (written v ts (omega (arith, e, fits')))
      ∙ ap (λ (k : ℕ). take k (flatten ts ++ drop (total ts) v) ++ drop n x) long
      ∙ ap (λ (l : List ℕ). l ++ drop n x) (take_before (flatten ts) (drop (total ts) v))
      ∙ ap (λ (k : ℕ). flatten ts ++ drop k x) (sym e)
      ∙ sym (written x ts (omega (arith, e, fits)))

-- a reading that is accepted with the lent room, and laid over it
reads_fitting : {s b b' x x' : List ℕ} {m : Reading} {r : Answer} → Fitting s b x m → ((t : Tree ℕ) → outcome s ≡ ok t → (b' ≡ lay b 0 (table_of s t)) × (x' ≡ write x 0 (texts_of s 0 t)))
    → length b' ≡ length b → length x' ≡ length x → answer_from r ≡ answer 0 m.end m.count m.text → Reads s b b' x x' r
reads_fitting f laid same same' e = record {
  is = e ∙ f.is;
  same = λ o. absurd (o (ap (λ (a : grammar-answer.Answer). a.kind) e));
  laid = λ o. laid;
  long = (same, same');
  room = λ o. (omega (arith, f.few, ap (λ (a : grammar-answer.Answer). a.nodes) e), omega (arith, f.used, ap (λ (a : grammar-answer.Answer). a.text) e));
  place = omega (arith, f.inside, ap (λ (a : grammar-answer.Answer). a.place) e);
}

ok_halt : {t : Tree ℕ} {k q : ℕ} → ◌≡◌ {A = Outcome ℕ (Tree ℕ)} (ok t) (halt k q) → ⊥
ok_halt e = let z : ◌≡◌ {A = ℕ} 0 1 = cc in omega arith

-- the reading, into room of its own
module _ {s : List ℕ} (h : length s ≤ most) {p : ℕ} (z : p ≡ first_bad s) (f : p ≡ length s) {c c' v v' y y' : List ℕ} {m : Step} (w : Said (Wholes s) s 0 0 0 0 c c' v v' y y' m) where
  is_reading : outcome s ≡ reading s
  is_reading = outcome_read s h (sym z ∙ f)

  -- it refused
  no_as : {b x : List ℕ} {r : Answer} (o : Outcome ℕ (Tree ℕ)) → reading s ≡ o → told_as s 0 0 c c' v v' m o → ¬ (m.kind ≡ 0) → answer_from r ≡ answer m.kind m.end 0 0 → Reads s b b x x r
  no_as (ok t) g (e, t₁, t₂, t₃) n a = absurd (n (ap (λ (q : Step). q.kind) e))
  no_as (halt k q) g (e, pos) n a =
      read_no k q (is_reading ∙ g) pos (omega (arith, w.high, ap (λ (o : Step). o.end) e)) (a ∙ rw (ap (λ (o : Step). o.kind) e, ap (λ (o : Step). o.end) e))
  no_as stuck g t n a = absurd t

  pub read_refused : {b x : List ℕ} {r : Answer} → ¬ (m.kind ≡ 0) → answer_from r ≡ answer m.kind m.end 0 0 → Reads s b b x x r
  read_refused n a = no_as w.out w.gives w.told n a

  module _ (n : m.kind ≡ 0) where
    found : Good (Wholes s) s 0 0 0 c c' v v' m.end m.count m.text
    found = good w n

    words_long : length (words_of s found.tree) ≡ m.text
    words_long = flatten_long (texts_of s 0 found.tree) ∙ found.text

    end : m.end ≡ length s
    end = sym found.end ∙ (reading_small s found.tree found.gives).end

    has_answer : (i u : ℕ) → answer_of s i u ≡ room_as (length s) m.count m.text (ltb i m.count) (ltb u m.text)
    has_answer i u = answer_as_lem s i u (ok found.tree) (is_reading ∙ found.gives) ∙ rw (found.count, words_long)

    short : {b x : List ℕ} {r : Answer} (k : ℕ) → answer_from r ≡ answer k 0 m.count m.text → 1 ≤ k → answer_from r ≡ answer_of s (length b / 7) (length x) → Reads s b b x x r
    short k e pos is = record {
      is = is;
      same = λ o. (refl, refl);
      laid = λ o. absurd (omega (arith, o, ap (λ (a : grammar-answer.Answer). a.kind) e));
      long = (refl, refl);
      room = λ o. absurd (omega (arith, o, ap (λ (a : grammar-answer.Answer). a.kind) e));
      place = omega (arith, ap (λ (a : grammar-answer.Answer). a.place) e);
    }

    -- too little room for its records, or for its text
    pub read_slots : {b x : List ℕ} {r : Answer} → length b / 7 < m.count → answer_from r ≡ answer Slots 0 m.count m.text → Reads s b b x x r
    read_slots {b} {x} o e = short Slots e (omega arith) (e ∙ sym (has_answer (length b / 7) (length x) ∙ rw (lt-ltb (length b / 7) m.count o)))

    pub read_text_lem : {b x : List ℕ} {r : Answer} → m.count ≤ length b / 7 → length x < m.text → answer_from r ≡ answer Text 0 m.count m.text → Reads s b b x x r
    read_text_lem {b} {x} o l e = short Text e (omega arith) (e ∙ sym (has_answer (length b / 7) (length x) ∙ rw (le-ltb (length b / 7) m.count o, lt-ltb (length x) m.text l)))

    -- it is accepted with the lent room
    pub fitting : {b x : List ℕ} → m.count ≤ length b / 7 → m.text ≤ length x → Fitting s b x (record { end = m.end; count = m.count; text = m.text })
    fitting {b} {x} few used = record {
      is = ap (λ (o : ℕ). answer 0 o m.count m.text) end ∙ sym (has_answer (length b / 7) (length x) ∙ rw (le-ltb (length b / 7) m.count few, le-ltb (length x) m.text used));
      few = few;
      used = used;
      inside = w.high;
    }

    -- and copied there
    pub read_copied : {b b' x x' : List ℕ} {r : Answer} → m.count ≤ length b / 7 → m.text ≤ length x → m.count ≤ length c / 7 → m.text ≤ length v → b' ≡ copied (7 * m.count) c' b → x' ≡ copied m.text v' x
        → length b' ≡ length b → length x' ≡ length x → answer_from r ≡ answer 0 m.end m.count m.text → Reads s b b' x x' r
    read_copied {b} {b'} {x} {x'} few used few' used' eb ex same same' e =
        let t : Tree ℕ = found.tree in
        let n : length (table_of s t) ≡ m.count = length_records s 0 0 t ∙ found.count in
        let laid : b' ≡ lay b 0 (table_of s t) = eb ∙ ap (λ (l : List ℕ). copied (7 * m.count) l b) found.laid ∙ lay_copied b c (table_of s t) m.count n (omega (arith, few)) (omega (arith, few')) in
        let written : x' ≡ write x 0 (texts_of s 0 t) = ex ∙ ap (λ (l : List ℕ). copied m.text l x) found.written ∙ write_copied x v (texts_of s 0 t) m.text found.text used used' in
        reads_fitting (fitting few used) (λ (u : Tree ℕ) q.
        let j : t ≡ u = ok_inj (sym (is_reading ∙ found.gives) ∙ q) in
        (laid ∙ ap (λ (o : Tree ℕ). lay b 0 (table_of s o)) j, written ∙ ap (λ (o : Tree ℕ). write x 0 (texts_of s 0 o)) j)) same same' e

-- the reading again, into the lent room
module _ {s : List ℕ} (h : length s ≤ most) (z : first_bad s ≡ length s) {b b' x x' y y' : List ℕ} {m : Step} (w : Said (Wholes s) s 0 0 0 0 b b' x x' y y' m) where
  again_as : (o : Outcome ℕ (Tree ℕ)) → reading s ≡ o → told_as s 0 0 b b' x x' m o → (t : Tree ℕ) → reading s ≡ ok t → (b' ≡ lay b 0 (table_of s t)) × (x' ≡ write x 0 (texts_of s 0 t))
  again_as (ok u) g (e, l, k, i) t q =
      let j : u ≡ t = ok_inj (sym g ∙ q) in
      (l ∙ ap (λ (o : Tree ℕ). lay b 0 (table_of s o)) j, k ∙ ap (λ (o : Tree ℕ). write x 0 (texts_of s 0 o)) j)
  again_as (halt k q₁) g l t q = absurd (ok_halt (sym q ∙ g))
  again_as stuck g l t q = absurd l

  pub read_again : {k : Reading} {r : Answer} → Fitting s b x k → length b' ≡ length b → length x' ≡ length x → answer_from r ≡ answer 0 k.end k.count k.text → Reads s b b' x x' r
  read_again f same same' e = reads_fitting f (λ t q. again_as w.out w.gives w.told t (sym (outcome_read s h z) ∙ q)) same same' e
