-- The elements of a place: the row of the n-th, and that it is the one that document 01 reads.
-- Assumes nothing.
use Prim.Native.Nat.{ℕ, zero, suc, ◌+◌, ◌-◌, ◌≤◌, ◌<◌}
use native.Mathlib.Omega.{arith}
use mathlib.Core.Path.{◌≡◌, refl, sym, ap, ap₂, ◌∙◌}
use mathlib.Core.Bool.{Bool, true, false, cond, ◌&&◌}
use mathlib.Core.List.{List, [], ◌∷◌, ◌++◌}
use borrow.Author.Tests.{lt-ltb, le-ltb, eq-eqb, ne_eqb}
use lib.Dec.{ltb, eqb}
use lib.ListN.{length}
use Rattle.meaning.specs.Places.{Place, elements_of}
use Rattle.meaning.specs.Read.{Finding, not_there, listed, present_ids, nth_text}
use Rattle.meaning.specs.Sheet.{Spot, in_map, in_list, Row, rows}
use Rattle.rows.specs.Blocks.{passed, deeper}
use Rattle.rows.specs.Listing.{read_under, id_picked, elements_under}
use Rattle.readers.specs.declared.Key.{Key}
use Rattle.lines.specs.Rows.{id_row}
use Rattle.lines.proofs.Texts.{row_text_lem}
use Rattle.tables.specs.Words.{hangs, spot_words}
use Rattle.tables.specs.Heads.{head_in, key_in, key_at}
use Rattle.tables.specs.Finds.{depth_in_lem}
use Rattle.tables.specs.Holding.{heads_room, Holds, four}
use Rattle.tables.specs.Parts.{narrow_at}
use Rattle.tables.specs.Stands.{head_at_lem, key_at_lem}
use Rattle.tables.specs.declared.Counts.{Counts}
use Rattle.tables.specs.declared.Head.{Head}
use Rattle.std.specs.Prelude.{Option, Some, None}
use Rattle.tables.specs.declared.Side.{Side}
use Rattle.tables.specs.declared.Side.TheVariants as S
use Rattle.listings.specs.Texts.{same_side, head_of, is_listed, still_of, nth_row, IsNth}
use Rattle.listings.specs.Lists.{Under}
use Rattle.listings.proofs.Tests.{listed_row}
use Rattle.listings.proofs.Places.{behind-one, one_on, under_count}

-- How many are still to be counted behind a row: one less, if it is an element that counts.

pub still_less : (d n : ℕ) (h : Head) → is_listed d S.List h ≡ true → n - 1 ≡ still_of d h n
unfolding still_of
still_less d n h e = rw e

pub still_same : (d n : ℕ) (h : Head) → is_listed d S.List h ≡ false → n ≡ still_of d h n
unfolding still_of
still_same d n h e = rw e

-- On the way over the rows, at row i: n elements are still to be counted.
module _ (heads : List ℕ) (rows from d index : ℕ) where
  pub record Counting (i n : ℕ) : Type 0 where
    pub same : nth_row heads d index from (rows - from) ≡ nth_row heads d n i (rows - i)
    pub high : i ≤ rows
    pub some : 0 < n

  module _ {i n : ℕ} (g : Counting i n) where
    pub counting_end : rows ≤ i → IsNth heads rows from d index None
    unfolding nth_row
    counting_end l = record { is = sym (g.same ∙ none (rows - i) (omega arith)); near = tt }
      where
        none : (left : ℕ) → left ≤ 0 → nth_row heads d n i left ≡ None
        none zero l = refl
        none (suc left) l = absurd (omega arith)

    module _ (l : i < rows) {h : Head} (e : h ≡ head_of heads i) where
      abbrev under : ℕ → Option ℕ
      under m = cond (eqb m 0) (Some i) (nth_row heads d m (i + 1) (rows - (i + 1)))

      step : nth_row heads d index from (rows - from) ≡ cond (ltb d h.depth) (under (still_of d h n)) None
      unfolding nth_row
      step = let p : rows - i ≡ suc (rows - (i + 1)) = omega arith in g.same ∙ rw (p, e)

      pub counting_stop : h.depth ≤ d → IsNth heads rows from d index None
      counting_stop s =
          record { is = sym (step ∙ ap (λ b. cond b (under (still_of d h n)) None) (le-ltb d h.depth s)); near = tt }

      module _ (s : d < h.depth) {m : ℕ} (q : m ≡ still_of d h n) where
        down : nth_row heads d index from (rows - from) ≡ under m
        down = step ∙ (ap (λ b. cond b (under (still_of d h n)) None) (lt-ltb d h.depth s) ∙ ap under (sym q))

        pub counting_here : rows ≤ heads_room → m ≡ 0 → IsNth heads rows from d index (Some i)
        counting_here f z = record {
          is = sym (down ∙ ap (λ b. cond b (Some i) (nth_row heads d m (i + 1) (rows - (i + 1)))) (eq-eqb m 0 z));
          near = omega arith;
        }

        pub counting_on : (m ≡ 0 → ⊥) → Counting (i + 1) m
        counting_on z = record {
          same = down ∙ ap (λ b. cond b (Some i) (nth_row heads d m (i + 1) (rows - (i + 1)))) (ne_eqb m 0 z);
          high = omega arith;
          some = omega arith;
        }

-- What is found where the n-th stands.
abbrev pub nth_finding : List ℕ → Option ℕ → Finding
nth_finding k (Some row) = listed (id_row (key_at k row).hi)
nth_finding k None = not_there

none_there : (n : ℕ) → nth_text n [] ≡ not_there
unfolding nth_text
none_there zero = refl
none_there (suc zero) = refl
none_there (suc (suc n)) = refl

pub no_index : (ids : List ℕ) → nth_text 0 ids ≡ not_there
unfolding nth_text
no_index [] = refl
no_index (i ∷ ids) = refl

-- Of tables that hold rows: whether a row is an element that counts (b), what is read of it, and its key's first word.
data Says (b : Bool) (x : List ℕ) (id : ℕ) : Type 0 where
  element : b ≡ true → x ≡ id ∷ [] → Says b x id
  no_element : b ≡ false → x ≡ [] → Says b x id

says : (a b : Bool) (p : Spot) → Says (a && (same_side (hangs p) S.List && b)) (cond (a && b) (id_picked p) []) (key_in (spot_words p)).hi
says true true (in_map k) = no_element refl refl
says true false (in_map k) = no_element refl refl
says false b (in_map k) = no_element refl refl
says true true (in_list i) = element refl refl
says true false (in_list i) = no_element refl refl
says false b (in_list i) = no_element refl refl

-- one row
count_row : (k : List ℕ) (i : ℕ) (next : ℕ → Option ℕ) (ids : List ℕ) → ((n : ℕ) → 0 < n → nth_text n ids ≡ nth_finding k (next n))
    → (n : ℕ) → 0 < n → {b : Bool} {x : List ℕ} {id : ℕ} → Says b x id → (key_at k i).hi ≡ id
    → nth_text n (x ++ ids) ≡ nth_finding k (cond (eqb (cond b (n - 1) n) 0) (Some i) (next (cond b (n - 1) n)))
unfolding nth_text
count_row k i next ids on zero s q e = absurd (omega arith)
count_row k i next ids on (suc zero) s (element b x) e = rw (b, x) (ap listed (sym (row_text_lem _) ∙ ap id_row (sym e)))
count_row k i next ids on (suc (suc n)) s (element b x) e =
    let m : suc (suc n) - 1 ≡ suc n = omega arith in
    let z : suc n ≡ 0 → ⊥ = λ z. omega arith in
    rw (b, x, m, ne_eqb (suc n) 0 z) (on (suc n) (omega arith))
count_row k i next ids on (suc n) s (no_element b x) e =
    let z : suc n ≡ 0 → ⊥ = λ z. omega arith in
    rw (b, x, ne_eqb (suc n) 0 z) (on (suc n) s)

-- the ids of the elements under a place of depth d, whose rows are the first of these
abbrev ids : ℕ → List Row → List ℕ
ids d R = read_under id_picked d (passed (deeper d) R)

module _ (h k m v : List ℕ) (c : Counts) (d : ℕ) where
  nth_is : (A R : List Row) → Holds (four h k m v) c (A ++ R) → (n : ℕ) → 0 < n
      → nth_text n (ids d R) ≡ nth_finding k (nth_row h d n (length A) (length R))
  unfolding read_under passed nth_row still_of
  nth_is A [] H n s = none_there n
  nth_is A (r ∷ R) H n s =
      let N = narrow_at (four h k m v) c A r R H in
      let w = head_at_lem h k m v c A R r H in
      go (deeper d r) (ap (λ w. ltb d (head_in w).depth) w ∙ ap (ltb d) (depth_in_lem r N))
      (ap (λ w. is_listed d S.List (head_in w)) w ∙ listed_row r N d S.List)
      (ap (λ (key : Key). key.hi) (key_at_lem h k m v c A R r H))
      (λ n s. nth_is (A ++ (r ∷ [])) R (one_on h k m v c A r R H) n s
      ∙ ap (λ i. nth_finding k (nth_row h d n i (length R))) (behind-one A r))
    where
      go : (b : Bool) → ltb d (head_of h (length A)).depth ≡ b
          → is_listed d S.List (head_of h (length A)) ≡ (eqb r.depth (suc d) && (same_side (hangs r.spot) S.List && ltb 0 (length r.marks)))
          → (key_at k (length A)).hi ≡ (key_in (spot_words r.spot)).hi
          → ((n : ℕ) → 0 < n → nth_text n (ids d R) ≡ nth_finding k (nth_row h d n (length A + 1) (length R)))
          → nth_text n (read_under id_picked d (cond b (r ∷ passed (deeper d) R) []))
          ≡ nth_finding k (nth_row h d n (length A) (length (r ∷ R)))
      go false e f q on = rw e (none_there n)
      go true e f q on =
          rw (e, f) (count_row k (length A) (λ n. nth_row h d n (length A + 1) (length R)) (ids d R) on n s
          (says (eqb r.depth (suc d)) (ltb 0 (length r.marks)) r.spot) q)

-- what is read of a place's list
pub nth_found : (h k : List ℕ) (count from d index : ℕ) (p : Place) → Under h k count from d p → 0 < index → (r : Option ℕ)
    → IsNth h count from d index r → nth_text index (present_ids (elements_of p)) ≡ nth_finding k r
nth_found h k count from d index p u s r g =
    let A = u.ahead in
    let R = rows (suc d) p ++ u.later in
    let l : count - from ≡ length R = omega (arith, under_count u) in
    ap (nth_text index) (sym (elements_under d p u.later u.ends))
    ∙ (nth_is h k u.marks u.values u.counts d A R u.holds index s
    ∙ ap (nth_finding k) (ap₂ (nth_row h d index) (sym u.here) (sym l) ∙ sym g.is))
