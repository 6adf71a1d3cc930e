-- What the reader laid over the lent buffers shows the texts of the reading, and where there are any.
use Rattle.std.specs.Prelude.{ℕ, zero, suc, ◌+◌, ◌*◌, ◌/◌, ◌≤◌, ◌<◌, ◌≡◌, refl, List, [], ◌∷◌, ◌++◌, cond, length, take, drop, set, get_or}
use Rattle.std.proofs.Common.{sym, ap, ◌∙◌, arith, length-append, length-drop, le-leb, lt-ltb}
use Rattle.lexis.specs.String.{laid}
use Rattle.reader.specs.declared.Answer.{Answer}
use Rattle.engine.specs.Base.{ok, Tree}
use Rattle.grammar.specs.Table.{Record, total, flatten, numbers, texts_of, table_of}
use Rattle.grammar.specs.Answer.{outcome}
use Rattle.grammar.specs.Answer as grammar
use Rattle.grammar.proofs.Bounds.{flatten_long}
use Rattle.grammar.proofs.RowLaws.{length_records}
use Rattle.grammar.specs.Published.{rows_in}
use Rattle.grammar.specs.Demands.{Derives}
use Rattle.grammar.proofs.DemandLaws.{derives_reading, fair_is, accepted_when, true_counts}
use Rattle.reader.specs.Buffer.{put_at, put_as, lay, write}
use Rattle.reader.specs.Node.{is_text, text_of_node, node_has_text}
use Rattle.reader.specs.NodeTexts.{read_texts}
use Rattle.reader.specs.NodeTextLaws.{assoc, take_before, text_of_reading, has_of_reading}
use Rattle.reader.specs.Read.{Reads}

-- ---- the text buffer

drop_more : (p q : List ℕ) (u n : ℕ) → u ≡ length p → drop (u + n) (p ++ q) ≡ drop n q
drop_more [] q u n h = let e : u + n ≡ n = omega (arith, h) in ap (λ m. drop m q) e
drop_more (a ∷ p) q u n h =
    let e : u + n ≡ suc (length p + n) = omega (arith, h) in ap (λ m. drop m (a ∷ (p ++ q))) e ∙ drop_more p q (length p) n refl

drop_twice : (q : List ℕ) (m n : ℕ) → drop n (drop m q) ≡ drop (m + n) q
drop_twice q zero n = let e : n ≡ zero + n = omega arith in ap (λ k. drop k q) e
drop_twice [] (suc m) zero = let e : suc m + zero ≡ suc m = omega arith in sym (ap (λ k. drop {A = ℕ} k []) e)
drop_twice [] (suc m) (suc n) = let e : suc m + suc n ≡ suc (m + suc n) = omega arith in sym (ap (λ k. drop {A = ℕ} k []) e)
drop_twice (a ∷ q) (suc m) n = let e : suc m + n ≡ suc (m + n) = omega arith in drop_twice q m n ∙ sym (ap (λ k. drop k (a ∷ q)) e)

laid_behind : (p q t : List ℕ) (u : ℕ) → u ≡ length p → length t ≤ length q → laid (p ++ q) u t ≡ (p ++ t) ++ drop (length t) q
laid_behind p q t u h l =
    let w : List ℕ = p ++ q in
    let fit : u + length t ≤ length (p ++ q) = omega (arith, h, l, length-append p q) in
    ap (λ c. cond c ((take u w ++ t) ++ drop (u + length t) w) w) (le-leb _ _ fit)
    ∙ ap (λ d. (take u w ++ t) ++ d) (drop_more p q u (length t) h)
    ∙ ap (λ d. (d ++ t) ++ drop (length t) q) (ap (λ n. take n w) h ∙ take_before p q)

pub write_behind : (x p q : List ℕ) (u : ℕ) (ts : List (List ℕ)) → x ≡ p ++ q → u ≡ length p → total ts ≤ length q → write x u ts ≡ p ++ (flatten ts ++ drop (total ts) q)
unfolding write
write_behind x p q u [] g h l = g
write_behind x p q u (t ∷ ts) g h l =
    let short : length t ≤ length q = omega (arith, l) in
    let rest : total ts ≤ length (drop (length t) q) = omega (arith, l, length-drop (length t) q) in
    let long : u + length t ≡ length (p ++ t) = omega (arith, h, length-append p t) in
    write_behind (laid x u t) (p ++ t) (drop (length t) q) (u + length t) ts (ap (λ y. laid y u t) g ∙ laid_behind p q t u h short) long rest
    ∙ ap (λ d. (p ++ t) ++ (flatten ts ++ d)) (drop_twice q (length t) (total ts))
    ∙ assoc p t (flatten ts ++ drop (length t + total ts) q)
    ∙ ap (λ d. p ++ d) (sym (assoc t (flatten ts) (drop (length t + total ts) q)))

-- ---- the records

set_behind : (p q : List ℕ) (n m v : ℕ) → n ≡ length p + m → set (p ++ q) n v ≡ p ++ set q m v
set_behind [] q n m v h = let e : n ≡ m = omega (arith, h) in ap (λ k. set q k v) e
set_behind (a ∷ p) q n m v h =
    let e : n ≡ suc (length p + m) = omega (arith, h) in ap (λ k. set (a ∷ (p ++ q)) k v) e ∙ ap (λ l. a ∷ l) (set_behind p q (length p + m) m v refl)

-- the text buffer begins with the texts, and the rest is as it was
pub written : (x : List ℕ) (ts : List (List ℕ)) → total ts ≤ length x → write x 0 ts ≡ flatten ts ++ drop (total ts) x
written x ts l = write_behind x [] x 0 ts refl refl l

put_behind : (p q : List ℕ) (a0 a1 a2 a3 a4 a5 a6 i : ℕ) (r : Record) → i * 7 ≡ length p → put_at (p ++ (a0 ∷ a1 ∷ a2 ∷ a3 ∷ a4 ∷ a5 ∷ a6 ∷ q)) i r ≡ (p ++ numbers (r ∷ [])) ++ q
unfolding put_at
put_behind p q a0 a1 a2 a3 a4 a5 a6 i r h =
    let full : length (p ++ (a0 ∷ a1 ∷ a2 ∷ a3 ∷ a4 ∷ a5 ∷ a6 ∷ q)) ≡ length p + (7 + length q) = length-append p (a0 ∷ a1 ∷ a2 ∷ a3 ∷ a4 ∷ a5 ∷ a6 ∷ q) ∙ (let e : length p + length (a0 ∷ a1 ∷ a2 ∷ a3 ∷ a4 ∷ a5 ∷ a6 ∷ q) ≡ length p + (7 + length q) = omega arith in e) in
    let fit : i < length (p ++ (a0 ∷ a1 ∷ a2 ∷ a3 ∷ a4 ∷ a5 ∷ a6 ∷ q)) / 7 = omega (arith, full, h) in
    ap (λ c. put_as (p ++ (a0 ∷ a1 ∷ a2 ∷ a3 ∷ a4 ∷ a5 ∷ a6 ∷ q)) i r c) (lt-ltb _ _ fit)
    ∙ ap (λ l. (set (set (set (set (set (set l (i * 7 + 1) r.flag) (i * 7 + 2) r.start) (i * 7 + 3) r.end) (i * 7 + 4) r.count) (i * 7 + 5) r.from) (i * 7 + 6) r.length)) (set_behind p (a0 ∷ a1 ∷ a2 ∷ a3 ∷ a4 ∷ a5 ∷ a6 ∷ q) (i * 7) 0 r.kind (let e : (i * 7) ≡ length p + 0 = omega (arith, h) in e))
    ∙ ap (λ l. (set (set (set (set (set l (i * 7 + 2) r.start) (i * 7 + 3) r.end) (i * 7 + 4) r.count) (i * 7 + 5) r.from) (i * 7 + 6) r.length)) (set_behind p (r.kind ∷ a1 ∷ a2 ∷ a3 ∷ a4 ∷ a5 ∷ a6 ∷ q) (i * 7 + 1) 1 r.flag (let e : (i * 7 + 1) ≡ length p + 1 = omega (arith, h) in e))
    ∙ ap (λ l. (set (set (set (set l (i * 7 + 3) r.end) (i * 7 + 4) r.count) (i * 7 + 5) r.from) (i * 7 + 6) r.length)) (set_behind p (r.kind ∷ r.flag ∷ a2 ∷ a3 ∷ a4 ∷ a5 ∷ a6 ∷ q) (i * 7 + 2) 2 r.start (let e : (i * 7 + 2) ≡ length p + 2 = omega (arith, h) in e))
    ∙ ap (λ l. (set (set (set l (i * 7 + 4) r.count) (i * 7 + 5) r.from) (i * 7 + 6) r.length)) (set_behind p (r.kind ∷ r.flag ∷ r.start ∷ a3 ∷ a4 ∷ a5 ∷ a6 ∷ q) (i * 7 + 3) 3 r.end (let e : (i * 7 + 3) ≡ length p + 3 = omega (arith, h) in e))
    ∙ ap (λ l. (set (set l (i * 7 + 5) r.from) (i * 7 + 6) r.length)) (set_behind p (r.kind ∷ r.flag ∷ r.start ∷ r.end ∷ a4 ∷ a5 ∷ a6 ∷ q) (i * 7 + 4) 4 r.count (let e : (i * 7 + 4) ≡ length p + 4 = omega (arith, h) in e))
    ∙ ap (λ l. (set l (i * 7 + 6) r.length)) (set_behind p (r.kind ∷ r.flag ∷ r.start ∷ r.end ∷ r.count ∷ a5 ∷ a6 ∷ q) (i * 7 + 5) 5 r.from (let e : (i * 7 + 5) ≡ length p + 5 = omega (arith, h) in e))
    ∙ ap (λ l. l) (set_behind p (r.kind ∷ r.flag ∷ r.start ∷ r.end ∷ r.count ∷ r.from ∷ a6 ∷ q) (i * 7 + 6) 6 r.length (let e : (i * 7 + 6) ≡ length p + 6 = omega (arith, h) in e))
    ∙ sym (assoc p (numbers (r ∷ [])) q)

pub lay_behind : (b p q : List ℕ) (i : ℕ) (rs : List Record) → b ≡ p ++ q → i * 7 ≡ length p → length rs * 7 ≤ length q → lay b i rs ≡ p ++ (numbers rs ++ drop (length rs * 7) q)
unfolding lay
lay_behind b p q i [] g h l = g
lay_behind b p ([]) i (r ∷ rs) g h l = absurd (omega (arith, l))
lay_behind b p (a0 ∷ []) i (r ∷ rs) g h l = absurd (omega (arith, l))
lay_behind b p (a0 ∷ a1 ∷ []) i (r ∷ rs) g h l = absurd (omega (arith, l))
lay_behind b p (a0 ∷ a1 ∷ a2 ∷ []) i (r ∷ rs) g h l = absurd (omega (arith, l))
lay_behind b p (a0 ∷ a1 ∷ a2 ∷ a3 ∷ []) i (r ∷ rs) g h l = absurd (omega (arith, l))
lay_behind b p (a0 ∷ a1 ∷ a2 ∷ a3 ∷ a4 ∷ []) i (r ∷ rs) g h l = absurd (omega (arith, l))
lay_behind b p (a0 ∷ a1 ∷ a2 ∷ a3 ∷ a4 ∷ a5 ∷ []) i (r ∷ rs) g h l = absurd (omega (arith, l))
lay_behind b p (a0 ∷ a1 ∷ a2 ∷ a3 ∷ a4 ∷ a5 ∷ a6 ∷ q) i (r ∷ rs) g h l =
    let rest : length rs * 7 ≤ length q = omega (arith, l) in
    let long : (i + 1) * 7 ≡ length (p ++ numbers (r ∷ [])) = omega (arith, h, length-append p (numbers (r ∷ []))) in
    let more : length (r ∷ rs) * 7 ≡ suc (suc (suc (suc (suc (suc (suc (length rs * 7))))))) = omega arith in
    lay_behind (put_at b i r) (p ++ numbers (r ∷ [])) q (i + 1) rs (ap (λ y. put_at y i r) g ∙ put_behind p q a0 a1 a2 a3 a4 a5 a6 i r h) long rest
    ∙ assoc p (numbers (r ∷ [])) (numbers rs ++ drop (length rs * 7) q)
    ∙ sym (ap (λ n. p ++ (numbers (r ∷ rs) ++ drop n (a0 ∷ a1 ∷ a2 ∷ a3 ∷ a4 ∷ a5 ∷ a6 ∷ q))) more)

-- what an accepted reading leaves in the lent buffers
module _ (s b x : List ℕ) (y : Tree ℕ) (d : Derives s y) (i : ℕ) (room : length (table_of s y) * 7 ≤ length b) (space : total (texts_of s 0 y) ≤ length x) (h : i < length (table_of s y)) where
  -- shows, at each node, the text of the reading
  pub text_as_read : text_of_node s (lay b 0 (table_of s y)) (write x 0 (texts_of s 0 y)) i ≡ get_or (read_texts s 0 y) i []
  text_as_read =
      ap (λ l. text_of_node s l (write x 0 (texts_of s 0 y)) i) (lay_behind b [] b 0 (table_of s y) refl refl room)
      ∙ ap (λ l. text_of_node s (numbers (table_of s y) ++ drop (length (table_of s y) * 7) b) l i) (written x (texts_of s 0 y) space)
      ∙ text_of_reading s (drop (length (table_of s y) * 7) b) (drop (total (texts_of s 0 y)) x) y d i h

  -- and that there is one exactly where its kind is 6 or 9
  pub has_as_read : node_has_text s (lay b 0 (table_of s y)) (write x 0 (texts_of s 0 y)) i ≡ is_text (rows_in (table_of s y) i).kind
  has_as_read =
      ap (λ l. node_has_text s l (write x 0 (texts_of s 0 y)) i) (lay_behind b [] b 0 (table_of s y) refl refl room)
      ∙ ap (λ l. node_has_text s (numbers (table_of s y) ++ drop (length (table_of s y) * 7) b) l i) (written x (texts_of s 0 y) space)
      ∙ has_of_reading s (drop (length (table_of s y) * 7) b) (drop (total (texts_of s 0 y)) x) y d i h

-- ---- so, of what `read` promises

-- what a table b and a text x of n nodes show of a source
pub record Shows (s b x : List ℕ) (n : ℕ) : Type 0 where
  pub tree : Tree ℕ
  pub derives : Derives s tree
  pub nodes : n ≡ length (table_of s tree)
  -- the text of each node is that of the reading
  pub text : (i : ℕ) → i < n → text_of_node s b x i ≡ get_or (read_texts s 0 tree) i []
  -- a node has text exactly where its kind is 6 or 9
  pub has : (i : ℕ) → i < n → node_has_text s b x i ≡ is_text (rows_in (table_of s tree) i).kind

pub read_shows : (s b b' x x' : List ℕ) (r : Answer) → Reads s b b' x x' r → r.kind ≡ 0 → Shows s b' x' r.nodes
read_shows s b b' x x' r c k =
    let p = accepted_when s (length b / 7) (length x) (sym (ap (λ (a : grammar.Answer). a.kind) c.is) ∙ k) in
    let t = p.tree in
    let o : outcome s ≡ ok t = fair_is s p.fair ∙ derives_reading s t p.derives in
    let (e, f) = c.laid k t o in
    let n : r.nodes ≡ length (table_of s t) = ap (λ (a : grammar.Answer). a.nodes) (c.is ∙ true_counts s (length b / 7) (length x) p) ∙ sym (length_records s 0 0 t) in
    let room : length (table_of s t) * 7 ≤ length b = omega (arith, p.few_nodes, length_records s 0 0 t) in
    let space : total (texts_of s 0 t) ≤ length x = omega (arith, p.few_bytes, flatten_long (texts_of s 0 t)) in
    record {
      tree = t;
      derives = p.derives;
      nodes = n;
      text = λ i h.
          let g : i < length (table_of s t) = omega arith in
          ap (λ l. text_of_node s l x' i) e ∙ ap (λ l. text_of_node s (lay b 0 (table_of s t)) l i) f ∙ text_as_read s b x t p.derives i room space g;
      has = λ i h.
          let g : i < length (table_of s t) = omega arith in
          ap (λ l. node_has_text s l x' i) e ∙ ap (λ l. node_has_text s (lay b 0 (table_of s t)) l i) f ∙ has_as_read s b x t p.derives i room space g;
    }
