-- Equal memory exactly for equal documents: the words of rows say the rows, so tables that hold rows hold no others, `holds_once`, and two
-- documents that the same tables hold are one, `memory_once`; and rows are held by one memory only, `held_once`.
-- Assumes nothing.
use Rattle.std.specs.Prelude.{ℕ, suc, ◌-◌, ◌≡◌, refl, Bool, true, false, length, replicate}
use Rattle.std.proofs.Common.{arith, sym, ap, ◌∙◌}
use mathlib.Core.List.{List, [], ◌∷◌, nil≢cons, head-eq_of_cons-eq, tail-eq_of_cons-eq}
use Rattle.meaning.specs.Places.{Place, place, Children, childless, child, Elements, empty, element, Document}
use Rattle.meaning.specs.Members.{All}
use Rattle.meaning.specs.Sheet.{Spot, in_map, in_list, Row, row_of, rows, rows_children, rows_elements, rows_of}
use Rattle.meaning.specs.Sound.{SoundPlace, SoundChildren, SoundElements, Sound}
use Rattle.theorems.specs.Rows.{rows_once}
use Rattle.readers.specs.Order.{words_once}
use Rattle.tables.specs.Words.{bit, side, head_word, map_in, list_in, depth_in, side_in, marks_at, values_at, spot_words}
use Rattle.tables.specs.Words.{each_value, heads_of, keys_of, marks_of, values_of, pad}
use Rattle.tables.specs.declared.Tables.{Tables}
use Rattle.tables.specs.Finds.{GoodSpot, Narrow, AllNarrow, bit_small, side_small, depth_in_lem, side_in_lem, marks_in_lem, values_in_lem}
use Rattle.tables.specs.Standing.{three_words, heads-length, keys_length}
use Rattle.tables.specs.Holding.{heads_room, keys_room, marks_room, values_room, Holds}
use Rattle.tables.specs.Parts.{each_length, marks_length, values_length, all_both, holds_narrow}
use Rattle.tables.specs.Saying.{split_once, ValidValue, each_once}
use Rattle.tables.specs.declared.Counts.{Counts}

-- Rows.

abbrev pub ValidValues : Row → Type 0
ValidValues r = All ValidValue r.values

map_in_lem : (r : Row) → Narrow r → map_in (head_word r) ≡ bit r.map
map_in_lem r h = omega (arith, h.depth, side_small r.spot, bit_small r.map)

list_in_lem : (r : Row) → Narrow r → list_in (head_word r) ≡ bit r.list
list_in_lem r h = omega (arith, h.depth, side_small r.spot, bit_small r.map, bit_small r.list)

bit_once : (b c : Bool) → bit b ≡ bit c → b ≡ c
bit_once true true e = refl
bit_once true false e = absurd (omega arith)
bit_once false true e = absurd (omega arith)
bit_once false false e = refl

spot_once : (p q : Spot) → GoodSpot p → GoodSpot q → side p ≡ side q → spot_words p ≡ spot_words q → p ≡ q
spot_once (in_map k) (in_map j) g h s e = ap in_map (words_once k j g h e)
spot_once (in_map k) (in_list j) g h s e = absurd (omega arith)
spot_once (in_list i) (in_map j) g h s e = absurd (omega arith)
spot_once (in_list i) (in_list j) g h s e = ap in_list (head-eq_of_cons-eq e)

module _ (r u : Row) (n : Narrow r) (o : Narrow u) (e : head_word r ≡ head_word u) where
  marks_same : length r.marks ≡ length u.marks
  marks_same = sym (marks_in_lem r n) ∙ (ap marks_at e ∙ marks_in_lem u o)

  values_same : length r.values ≡ length u.values
  values_same = sym (values_in_lem r n) ∙ (ap values_at e ∙ values_in_lem u o)

  row_once : spot_words r.spot ≡ spot_words u.spot → r.marks ≡ u.marks → r.values ≡ u.values → r ≡ u
  row_once k m v =
      let a = sym (depth_in_lem r n) ∙ (ap depth_in e ∙ depth_in_lem u o) in
      let b = spot_once r.spot u.spot n.spot o.spot (sym (side_in_lem r n) ∙ (ap side_in e ∙ side_in_lem u o)) k in
      let c = bit_once r.map u.map (sym (map_in_lem r n) ∙ (ap map_in e ∙ map_in_lem u o)) in
      let d = bit_once r.list u.list (sym (list_in_lem r n) ∙ (ap list_in e ∙ list_in_lem u o)) in
      λ t. record { depth = a t; spot = b t; map = c t; list = d t; marks = m t; values = v t }

-- equal words, equal rows
pub rows_stored_once : (rs us : List Row) → AllNarrow rs → AllNarrow us → All ValidValues rs → All ValidValues us
    → heads_of rs ≡ heads_of us → keys_of rs ≡ keys_of us → marks_of rs ≡ marks_of us → values_of rs ≡ values_of us → rs ≡ us
unfolding AllNarrow heads_of keys_of marks_of values_of
rows_stored_once [] [] n o p q h k m v = refl
rows_stored_once [] (u ∷ us) n o p q h k m v = absurd (nil≢cons h)
rows_stored_once (r ∷ rs) [] n o p q h k m v = absurd (nil≢cons (sym h))
rows_stored_once (r ∷ rs) (u ∷ us) n o p q h k m v =
    let e = head-eq_of_cons-eq h in
    let l = values_same r u n.0 o.0 e in
    let x = split_once (spot_words r.spot) (spot_words u.spot) (keys_of rs) (keys_of us)
    (three_words r.spot ∙ sym (three_words u.spot)) k in
    let y = split_once r.marks u.marks (marks_of rs) (marks_of us) (marks_same r u n.0 o.0 e) m in
    let z = split_once (each_value r.values) (each_value u.values) (values_of rs) (values_of us)
    (omega (arith, each_length r.values, each_length u.values)) v in
    let w = each_once r.values u.values l p.0 q.0 z.0 in
    cc (
      row_once r u n.0 o.0 e x.0 y.0 w,
      rows_stored_once rs us n.1 o.1 p.1 q.1 (tail-eq_of_cons-eq h) x.1 y.1 z.1,
    )

-- Tables.

-- as many live words, with zeros behind them
live_once : (n : ℕ) (t a b : List ℕ) → t ≡ pad n a → t ≡ pad n b → length a ≡ length b → a ≡ b
live_once n t a b e f l = (split_once a b (replicate (n - length a) 0) (replicate (n - length b) 0) l (sym e ∙ f)).0

-- tables that hold rows hold no others
pub holds_once : (T : Tables) (c : Counts) (rs us : List Row) → Holds T c rs → Holds T c us
    → All ValidValues rs → All ValidValues us → rs ≡ us
holds_once T c rs us h k p q =
    let l : length rs ≡ length us = sym h.rows_are ∙ k.rows_are in
    rows_stored_once rs us (holds_narrow T c rs h) (holds_narrow T c us k) p q
    (live_once heads_room T.heads (heads_of rs) (heads_of us) h.heads k.heads (omega (arith, heads-length rs, heads-length us)))
    (live_once keys_room T.keys (keys_of rs) (keys_of us) h.keys k.keys (omega (arith, keys_length rs, keys_length us)))
    (live_once marks_room T.marks (marks_of rs) (marks_of us) h.marks k.marks
    (marks_length rs ∙ (sym h.marks_are ∙ (k.marks_are ∙ sym (marks_length us)))))
    (live_once values_room T.values (values_of rs) (values_of us) h.values k.values
    (omega (arith, values_length rs, values_length us, h.values_are, k.values_are)))

-- rows are held by one memory only: each word of each table, and the counts
pub held_once : (T U : Tables) (c e : Counts) (rs : List Row) → Holds T c rs → Holds U e rs → (T ≡ U) × (c ≡ e)
held_once T U c e rs h k = (
  λ t. record {
    heads = (h.heads ∙ sym k.heads) t;
    keys = (h.keys ∙ sym k.keys) t;
    marks = (h.marks ∙ sym k.marks) t;
    values = (h.values ∙ sym k.values) t;
  },
  λ t. record {
    rows = (h.rows_are ∙ sym k.rows_are) t;
    marks = (h.marks_are ∙ sym k.marks_are) t;
    values = (h.values_are ∙ sym k.values_are) t;
  },
)

-- Documents.

valid_here : (P : ℕ → Type 0) (m n : ℕ) (p : Spot) (c : Place) → SoundPlace P m c → ValidValues (row_of n p c)
valid_here P m n p (place f l ms vs ks es) s = s.0.valid

mutual
  unfolding rows

  valid_under : (P : ℕ → Type 0) (n : ℕ) (c : Place) → SoundPlace P n c → All ValidValues (rows n c)
  valid_under P n (place m l ms vs ks es) s =
      all_both ValidValues (rows_children n ks) (rows_elements n es) (valid_children _ n ks s.3) (valid_elements _ n es s.4)

  valid_children : (P : ℕ → Type 0) (n : ℕ) (ks : Children) → SoundChildren P n ks → All ValidValues (rows_children n ks)
  valid_children P n childless s = tt
  valid_children P n (child k c ks) s = (
    valid_here P (suc n) n (in_map k) c s.2,
    all_both ValidValues (rows (suc n) c) (rows_children n ks) (valid_under P (suc n) c s.2) (valid_children P n ks s.3),
  )

  valid_elements : (P : ℕ → Type 0) (n : ℕ) (es : Elements) → SoundElements P n es → All ValidValues (rows_elements n es)
  valid_elements P n empty s = tt
  valid_elements P n (element i c es) s = (
    valid_here P (suc n) n (in_list i) c s.1,
    all_both ValidValues (rows (suc n) c) (rows_elements n es) (valid_under P (suc n) c s.1) (valid_elements P n es s.2),
  )

pub valid_rows : (D : Document) → Sound D → All ValidValues (rows_of D)
unfolding rows_of
valid_rows D s = valid_children _ 1 D.root s.places

-- equal memory, equal documents (`seen` stands in memory of its own)
pub memory_once : (T : Tables) (c : Counts) (D E : Document) → Holds T c (rows_of D) → Holds T c (rows_of E) → Sound D → Sound E
    → D.root ≡ E.root
unfolding rows_of
memory_once T c D E h k s t =
    let d : Document = record { seen = []; root = D.root } in
    let e : Document = record { seen = []; root = E.root } in
    ap (λ d. d.root) (rows_once d e refl (holds_once T c (rows_of D) (rows_of E) h k (valid_rows D s) (valid_rows E t)))
