-- What `find`, `is_at` and `next_row` promise of tables that hold rows: a search from a row on stops behind the rows that it passes over,
-- the row that stands there is known by its words, and the place behind it by its head.
-- Assumes nothing.
use Rattle.std.specs.Prelude.{ℕ, ◌+◌, ◌*◌, ◌≤◌, ◌<◌, ◌≡◌, refl, Bool, false, get_or, drop}
use Rattle.std.proofs.Common.{arith, ap₂, ◌∙◌, length-append, get_or-drop}
use Rattle.std.proofs.Math.Path.{sym, ap}
use mathlib.Core.List.{List, [], ◌∷◌, ◌++◌}
use Rattle.std.proofs.Math.ListN.{length}
use Rattle.std.proofs.lemmas.List.{get_or_at}
use Rattle.meaning.specs.Load.{marks_in, values_in}
use Rattle.meaning.specs.Sheet.{Spot, Row}
use Rattle.rows.specs.Blocks.{passed, over, at}
use Rattle.tables.specs.Words.{head_word, spot_words, heads_of, keys_of}
use Rattle.tables.specs.Heads.{head_in, key_in, key_at}
use Rattle.tables.specs.Seek.{is_sought, Searches, further, Passes, sought}
use Rattle.tables.specs.Finds.{AllNarrow, next_row, further_same, after, Agrees, Tells, key_here}
use Rattle.tables.specs.Standing.{first, behind, after_more, heads-length, keys_from_lem, found}
use Rattle.tables.specs.Holding.{Holds, four, begins}
use Rattle.tables.specs.Parts.{at-behind, holds_narrow, narrow_at, heads_long, keys_long, heads-parts}
use Rattle.tables.specs.Parts.{all_narrow_left, all_narrow_right}
use Rattle.tables.specs.declared.Counts.{Counts}
use Rattle.tables.specs.declared.Position.{Position}
use Rattle.tables.specs.declared.Search.{Search}

-- the search w from a row on, which passes over the rows of its depth whose spot passes, stops behind those
abbrev pub FindsIn : List ℕ → List ℕ → ℕ → Position → Search → Position → Type 0
FindsIn h k rows from w r =
    (m v : List ℕ) (c : Counts) (A B : List Row) (pass : Spot → Bool) → Holds (four h k m v) c (A ++ B) → rows ≡ c.rows → from ≡ behind A
    → Agrees w pass → r ≡ behind (A ++ passed (over w.depth pass) B)

-- whether the row that stands here is the one that is meant
abbrev pub Knows : List ℕ → List ℕ → ℕ → ℕ → Search → Bool → Type 0
Knows h k rows here w r =
    (m v : List ℕ) (c : Counts) (A B : List Row) (meant : Spot → Bool) → Holds (four h k m v) c (A ++ B) → rows ≡ c.rows
    → here ≡ length A → Tells w meant → r ≡ begins w.depth meant B

few_marks : (rs : List Row) → AllNarrow rs → marks_in rs ≤ 2048 * length rs
unfolding AllNarrow marks_in
few_marks [] n = omega arith
few_marks (r ∷ rs) n = omega (arith, n.0.marks, few_marks rs n.1)

few_values : (rs : List Row) → AllNarrow rs → values_in rs ≤ 512 * length rs
unfolding AllNarrow values_in
few_values [] n = omega arith
few_values (r ∷ rs) n = omega (arith, n.0.values, few_values rs n.1)

module _ (h k m v : List ℕ) (c : Counts) (A B : List Row) (H : Holds (four h k m v) c (A ++ B)) where
  pub may_search : (rows : ℕ) (s : Position) → rows ≡ c.rows → s ≡ behind A → Searches h k rows s
  may_search rows s e b =
      let a = at-behind s A b in
      let n = all_narrow_left A B (holds_narrow (four h k m v) c (A ++ B) H) in
      let l : length (A ++ B) ≡ length A + length B = length-append A B in
      let x = H.rows_are in
      let y = H.rows_fit in
      record {
        in_heads = omega (arith, heads_long (four h k m v) c (A ++ B) H);
        in_keys = omega (arith, keys_long (four h k m v) c (A ++ B) H);
        few = omega arith;
        begins = omega (arith, a.row);
        marks = omega (arith, a.row, a.mark, few_marks A n);
        values = omega (arith, a.row, a.value, few_values A n);
      }

  pub search_stops : (w : Search) (pass : Spot → Bool) (rows : ℕ) (s : Position) → rows ≡ c.rows → s ≡ behind A → Agrees w pass
      → sought w h k rows s ≡ behind (A ++ passed (over w.depth pass) B)
  search_stops w pass rows s e b g =
      ap₂ (λ n t. sought w h k n t) (e ∙ H.rows_are) b
      ∙ (ap₂ (λ h k. sought w h k (length (A ++ B)) (behind A)) H.heads H.keys
      ∙ found A B _ _ w pass g (all_narrow_right A B (holds_narrow (four h k m v) c (A ++ B) H)))

-- the words of a row
key_drop : (k : List ℕ) (n : ℕ) → key_at k n ≡ key_in (drop (3 * n) k)
key_drop k n =
    let e : 3 * n ≡ 3 * n + 0 = omega arith in
    let a : get_or k (3 * n) 0 ≡ get_or (drop (3 * n) k) 0 0 = ap (λ i. get_or k i 0) e ∙ sym (get_or-drop (3 * n) k 0 0) in
    rw (a, get_or-drop (3 * n) k 1 0, get_or-drop (3 * n) k 2 0)

module _ (h k m v : List ℕ) (c : Counts) (A R : List Row) (r : Row) (H : Holds (four h k m v) c (A ++ r ∷ R)) where
  pub head_at_lem : get_or h (length A) 0 ≡ head_word r
  head_at_lem =
      ap (λ l. get_or l (length A) 0) (H.heads ∙ heads-parts A r R _)
      ∙ get_or_at (heads_of A) (head_word r) _ 0 (length A) (heads-length A)

  pub key_at_lem : key_at k (length A) ≡ key_in (spot_words r.spot)
  unfolding keys_of
  key_at_lem =
      key_drop k (length A)
      ∙ (ap (λ l. key_in (drop (3 * length A) l)) H.keys ∙ (ap key_in (keys_from_lem A (r ∷ R) [] _) ∙ key_here r.spot (keys_of R) _))

  -- it is told
  pub wanted-at : (w : Search) (meant : Spot → Bool) → Tells w meant
      → is_sought w (head_in (get_or h (length A) 0)) (key_at k (length A)) ≡ at w.depth meant r
  wanted-at w meant t = ap₂ (is_sought w) (ap head_in head_at_lem) key_at_lem ∙ t r (narrow_at (four h k m v) c A r R H)

  -- the place behind it
  pub row_past : (s : Position) → s ≡ behind A → further s (get_or h s.row 0) ≡ behind (A ++ r ∷ [])
  unfolding after
  row_past s b =
      let N = narrow_at (four h k m v) c A r R H in
      ap (λ i. further s (get_or h i 0)) (at-behind s A b).row
      ∙ (ap (further s) head_at_lem ∙ (further_same r N s ∙ (ap (λ s. next_row s r) b ∙ sym (after_more first A (r ∷ [])))))

  pub passes : (s p : Position) → Passes h s p → s ≡ behind A → p ≡ behind (A ++ r ∷ [])
  passes s p P b =
      let S = may_search h k m v c A (r ∷ R) H c.rows s refl b in
      let few : s.row ≤ 1024 = omega (arith, S.begins, S.few) in
      P (record { row = few; mark = omega (arith, few, S.marks); value = omega (arith, few, S.values) }) ∙ row_past s b

-- what `known` comes to: where it looks at no row there is none, and else at the row that stands there
module _ (h k : List ℕ) (rows here : ℕ) (w : Search) where
  pub knows_none : (rows ≤ here) → Knows h k rows here w false
  knows_none e m v c A [] meant H q l t = refl
  knows_none e m v c A (r ∷ R) meant H q l t =
      absurd (omega (arith, H.rows_are, length-append A (r ∷ R)))

  pub knows_out : ((m v : List ℕ) (c : Counts) (A R : List Row) (r : Row) → Holds (four h k m v) c (A ++ r ∷ R) → here ≡ length A → ⊥)
      → Knows h k rows here w false
  knows_out n m v c A [] meant H q l t = refl
  knows_out n m v c A (r ∷ R) meant H q l t = absurd (n m v c A R r H l)

  pub knows_row : here < rows → Knows h k rows here w (is_sought w (head_in (get_or h here 0)) (key_at k here))
  knows_row e m v c A [] meant H q l t = absurd (omega (arith, H.rows_are, length-append A []))
  knows_row e m v c A (r ∷ R) meant H q l t = rw l (wanted-at h k m v c A R r H w meant t)
