-- The keys of a place: what is read of a row, how many rows its map has, and that the text is the one that document 01 reads.
-- Assumes nothing.
use Prim.Native.Nat.{ℕ, zero, suc, ◌+◌, ◌*◌, ◌-◌, ◌≤◌, ◌<◌}
use native.Mathlib.Omega.{arith}
use mathlib.Core.Path.{◌≡◌, refl, sym, ap, ap₂, ◌∙◌, subst}
use mathlib.Core.Bool.{Bool, true, false, cond, ◌&&◌}
use mathlib.Core.List.{List, [], ◌∷◌, ◌++◌}
use borrow.Author.Tests.{le-ltb}
use lib.Dec.{ltb, eqb}
use lib.ListN.{length}
use Rattle.meaning.specs.Places.{Place, children_of}
use Rattle.meaning.specs.Read.{keys_text}
use Rattle.meaning.specs.Sheet.{Spot, in_map, in_list, Row, rows}
use Rattle.rows.specs.Blocks.{passed, rest, in_a_map, over}
use Rattle.rows.specs.Balanced.{passed-rest}
use Rattle.rows.specs.Listing.{is_read, read_under, key_picked, keys_under}
use Rattle.readers.specs.declared.Key.{Key}
use Rattle.writers.specs.Sized.{Sized}
use Rattle.writers.specs.Words.{bytes_of}
use Rattle.writers.specs.Texts.{texts}
use Rattle.writers.proofs.Texts.{sized-of}
use Rattle.writers.proofs.Runs.{sized_more}
use Rattle.lines.specs.Rows.{key_row}
use Rattle.lines.proofs.Texts.{key_text_lem}
use Rattle.lines.proofs.Words.{key_back}
use Rattle.tables.specs.Words.{hangs, spot_words}
use Rattle.tables.specs.Heads.{head_in, key_in, key_at}
use Rattle.tables.specs.Finds.{GoodSpot}
use Rattle.tables.specs.Holding.{Holds, four}
use Rattle.tables.specs.Parts.{narrow_at}
use Rattle.tables.specs.Stands.{head_at_lem, key_at_lem}
use Rattle.tables.specs.declared.Counts.{Counts}
use Rattle.tables.specs.declared.Head.{Head}
use Rattle.tables.specs.declared.Side.{Side}
use Rattle.tables.specs.declared.Side.TheVariants as S
use Rattle.listings.specs.Texts.{same_side, head_of, is_listed, of_map, map_rows, short_of, key_bytes, key_of, key_text, keys_from, Extends}
use Rattle.listings.specs.Lists.{Under}
use Rattle.listings.proofs.Tests.{listed_row, map_row_lem}
use Rattle.listings.proofs.Places.{behind-one, one_on, under_count}

-- What is read of a row, of the words that were read.
module _ (h : Head) (keys : List ℕ) (d row : ℕ) {b : Bool} (t : b ≡ is_listed d S.Map h) where
  -- its key
  pub key_here : b ≡ true → {k : Key} {n : ℕ} → k ≡ key_at keys row → n ≡ short_of k.len
      → key_row (bytes_of (k.hi ∷ k.lo ∷ []) n) ≡ key_of h keys d row
  unfolding key_of
  key_here y e s = rw (sym t ∙ y, s, e)

  -- nothing
  pub nothing_here : b ≡ false → [] ≡ key_of h keys d row
  unfolding key_of
  nothing_here y = rw (sym t ∙ y)

-- of the row whose head was read
pub key_of_lem : (heads keys : List ℕ) (d row : ℕ) {h : Head} → h ≡ head_of heads row → key_of h keys d row ≡ key_text heads keys d row
key_of_lem heads keys d row e = ap (λ h. key_of h keys d row) e

-- The rows of the map.
module _ (heads : List ℕ) (d : ℕ) where
  map_more : (i n : ℕ) → 0 < n → of_map d (head_of heads i) ≡ true → map_rows heads d i n ≡ suc (map_rows heads d (i + 1) (n - 1))
  unfolding map_rows
  map_more i zero h e = absurd (omega arith)
  map_more i (suc n) h e = let p : n ≡ suc n - 1 = omega arith in rw e (ap (λ m. suc (map_rows heads d (i + 1) m)) p)

  map_stop : (i n : ℕ) → of_map d (head_of heads i) ≡ false → map_rows heads d i n ≡ 0
  unfolding map_rows
  map_stop i zero e = refl
  map_stop i (suc n) e = rw e

  map_end : (i n : ℕ) → n ≤ 0 → map_rows heads d i n ≡ 0
  unfolding map_rows
  map_end i zero h = refl
  map_end i (suc n) h = absurd (omega arith)

  pub map_most : (i n : ℕ) → map_rows heads d i n ≤ n
  unfolding map_rows
  map_most i zero = omega arith
  map_most i (suc n) = by_test (of_map d (head_of heads i)) (map_most (i + 1) n)
    where
      by_test : (b : Bool) → map_rows heads d (i + 1) n ≤ n → cond b (suc (map_rows heads d (i + 1) n)) zero ≤ suc n
      by_test true h = omega arith
      by_test false h = omega arith

-- On the way over the rows from `from` on, at row i: all before it are of the map, with keys of this size.
module _ (heads keys : List ℕ) (d : ℕ) where
  pub record Going (rows from i size : ℕ) : Type 0 where
    pub low : from ≤ i
    pub high : i ≤ rows
    pub count : map_rows heads d from (rows - from) ≡ (i - from) + map_rows heads d i (rows - i)
    pub sized : Sized (keys_from heads keys d from (i - from)) (33 * (i - from)) size

  pub going_none : (rows from : ℕ) → from ≤ rows → Going rows from from 0
  unfolding texts
  going_none rows from l =
      let e : from - from ≡ 0 = omega arith in
      record {
        low = omega arith;
        high = l;
        count = omega arith;
        sized = rw e (record { size = refl; most = omega arith });
      }

  module _ {rows from i size : ℕ} (g : Going rows from i size) where
    -- the row here, whose head was read
    module _ (l : i < rows) {h : Head} (e : h ≡ head_of heads i) {b : Bool} (t : b ≡ of_map d h) where
      here : of_map d (head_of heads i) ≡ b
      here = ap (of_map d) (sym e) ∙ sym t

      pub going_on : b ≡ true → {m limit : ℕ} → Sized (key_of h keys d i) limit m → limit ≤ 33 → Going rows from (i + 1) (size + m)
      going_on y {m} z w =
          let a : i + 1 - from ≡ i - from + 1 = omega (arith, g.low) in
          let p : from + (i - from) ≡ i = omega (arith, g.low) in
          let q : rows - i - 1 ≡ rows - (i + 1) = omega arith in
          let k : Sized (key_text heads keys d (from + (i - from))) 33 m =
          rw p (sized-of (sym (key_of_lem heads keys d i e)) w z) in
          record {
            low = omega (arith, g.low);
            high = omega arith;
            count = omega (arith, g.low, g.count, map_more heads d i (rows - i) (omega arith) (here ∙ y), ap (map_rows heads d (i + 1)) q);
            sized = rw a (sized_more (key_text heads keys d) from (i - from) 33 g.sized k);
          }

      pub going_stop : b ≡ false → Extends heads keys rows from d (record { rows = i - from; size = size })
      going_stop y = record { span = omega (arith, g.count, map_stop heads d i (rows - i) (here ∙ y)); sized = g.sized }

    pub going_all : rows ≤ i → Extends heads keys rows from d (record { rows = rows - from; size = size })
    going_all l =
        let e : i ≡ rows = omega (arith, g.high) in
        record {
          span = omega (arith, g.count, map_end heads d i (rows - i) (omega arith));
          sized = rw (sym e) g.sized;
        }

-- Of tables that hold rows.
short_key : (k : List ℕ) → length k ≤ 16 → short_of (length k) ≡ length k
unfolding short_of
short_key k h = rw (le-ltb 16 (length k) h)

key_is : (k : List ℕ) → GoodSpot (in_map k) → key_bytes (key_in (spot_words (in_map k))) ≡ k
key_is k g = rw (short_key k g.short) (key_back k g)

picked : (a b : Bool) (p : Spot) → GoodSpot p
    → cond (a && (same_side (hangs p) S.Map && b)) (key_row (key_bytes (key_in (spot_words p)))) [] ≡ cond (a && b) (key_picked p) []
picked a b (in_map k) g = ap (λ t. cond (a && b) t []) (ap key_row (key_is k g) ∙ key_text_lem k)
picked true true (in_list i) g = refl
picked true false (in_list i) g = refl
picked false b (in_list i) g = refl

module _ (h k m v : List ℕ) (c : Counts) (d : ℕ) where
  abbrev Held : List Row → Type 0
  Held rs = Holds (four h k m v) c rs

  row_read : (A : List Row) (r : Row) (R : List Row) → Held (A ++ r ∷ R)
      → key_text h k d (length A) ≡ cond (is_read d r) (key_picked r.spot) []
  unfolding key_of
  row_read A r R H =
      let n = narrow_at (four h k m v) c A r R H in
      ap₂ (λ w t. cond (is_listed d S.Map (head_in w)) (key_row (key_bytes t)) []) (head_at_lem h k m v c A R r H) (key_at_lem h k m v c A R r H)
      ∙ (ap (λ b. cond b (key_row (key_bytes (key_in (spot_words r.spot)))) []) (listed_row r n d S.Map)
      ∙ picked (eqb r.depth (suc d)) (ltb 0 (length r.marks)) r.spot n.spot)

  rows_read : (A B R : List Row) → Held (A ++ (B ++ R)) → keys_from h k d (length A) (length B) ≡ read_under key_picked d B
  unfolding texts read_under
  rows_read A [] R H = refl
  rows_read A (r ∷ B) R H =
      ap₂ (λ t u. t ++ u) (row_read A r (B ++ R) H)
      (ap (λ i. keys_from h k d i (length B)) (sym (behind-one A r)) ∙ rows_read (A ++ (r ∷ [])) B R (one_on h k m v c A r (B ++ R) H))

  map_is : (A R : List Row) → Held (A ++ R) → map_rows h d (length A) (length R) ≡ length (passed (over (suc d) in_a_map) R)
  unfolding map_rows passed
  map_is A [] H = refl
  map_is A (r ∷ R) H =
      let e = ap (λ w. of_map d (head_in w)) (head_at_lem h k m v c A R r H) ∙ map_row_lem r (narrow_at (four h k m v) c A r R H) d in
      let i = ap (λ i. map_rows h d i (length R)) (sym (behind-one A r)) ∙ map_is (A ++ (r ∷ [])) R (one_on h k m v c A r R H) in
      ap (λ b. cond b (suc (map_rows h d (length A + 1) (length R))) zero) e
      ∙ go (over (suc d) in_a_map r) (passed (over (suc d) in_a_map) R) i
    where
      go : (b : Bool) {x : ℕ} (l : List Row) → x ≡ length l → cond b (suc x) zero ≡ length (cond b (r ∷ l) [])
      go true l e = ap suc e
      go false l e = refl

-- what is read of a place's map
module _ (h k : List ℕ) (count from d : ℕ) (p : Place) (u : Under h k count from d p) where
  abbrev under : List Row
  under = rows (suc d) p ++ u.later

  abbrev mapped : List Row
  mapped = passed (over (suc d) in_a_map) under

  split : Holds (four h k u.marks u.values) u.counts (u.ahead ++ (mapped ++ rest (over (suc d) in_a_map) under))
  split =
      subst (λ rs. Holds (four h k u.marks u.values) u.counts (u.ahead ++ rs)) (sym (passed-rest (over (suc d) in_a_map) under))
      u.holds

  pub keys_are : (n : ℕ) → n ≡ map_rows h d from (count - from) → keys_text (children_of p) ≡ keys_from h k d from n
  keys_are n e =
      let l : count - from ≡ length under = omega (arith, under_count u) in
      let s : n ≡ length mapped = e ∙ (ap₂ (map_rows h d) u.here l
      ∙ map_is h k u.marks u.values u.counts d u.ahead under u.holds) in
      sym (keys_under d p u.later u.ends)
      ∙ (sym (rows_read h k u.marks u.values u.counts d u.ahead mapped (rest (over (suc d) in_a_map) under) split)
      ∙ ap₂ (keys_from h k d) (sym u.here) (sym s))
