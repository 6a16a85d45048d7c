-- Document 01, "Reads", on rows: what is read of the rows under a place of depth d. Of the rows right under it those that have a mark are
-- read; `pick` takes from a row's spot what is read of it in one branch, and nothing in the other. Carried to the tree: `keys_under`,
-- `elements_under`.
-- Assumes nothing.
use Prim.Native.Nat.{ℕ, suc}
use Rattle.std.proofs.Common.{arith, ◌∙◌}
use Rattle.std.specs.Prelude.{◌≡◌, Bool, ◌&&◌, ltb, eqb, length}
use Rattle.std.proofs.Math.Path.{refl, sym, ap, ap₂}
use Rattle.std.proofs.Math.Bool.{true, false, cond}
use mathlib.Core.List.{List, [], ◌∷◌, ◌++◌, append_assoc, append-nil}
use borrow.Author.Tests.{lt-ltb, le-ltb, eq-eqb, ne_eqb}
use Rattle.meaning.specs.Ascii.{ascii}
use Rattle.meaning.specs.Text.{hex}
use Rattle.meaning.specs.Places.{Place, place, Children, childless, child, Elements, empty, element, children_of, elements_of}
use Rattle.meaning.specs.Read.{is_marked, keys_text, present_ids}
use Rattle.meaning.specs.Sheet.{Spot, in_map, in_list, Row, row_of, rows, rows_children, rows_elements}
use Rattle.theorems.specs.Fit.{Deep, deep_rows}
use Rattle.rows.specs.Blocks.{passed, deeper, in_a_map, over}
use Rattle.rows.specs.Spans.{Splits, split_none, split_stop, block_stop, map_pass, Shallow, under_split}

-- a row right under a place of depth d, with a mark
abbrev pub is_read : ℕ → Row → Bool
is_read d r = eqb r.depth (suc d) && ltb 0 (length r.marks)

-- what is read of some rows
unfoldable pub read_under : (Spot → List ℕ) → ℕ → List Row → List ℕ
read_under pick d [] = []
read_under pick d (r ∷ rs) = cond (is_read d r) (pick r.spot) [] ++ read_under pick d rs

-- of a map's rows the key as it is written; of a list's the element's id
abbrev pub key_picked : Spot → List ℕ
key_picked (in_map k) = hex k ++ ascii "\n"
key_picked (in_list i) = []

abbrev pub id_picked : Spot → List ℕ
id_picked (in_map k) = []
id_picked (in_list i) = i ∷ []

module _ (pick : Spot → List ℕ) (d : ℕ) where
  read_append : (a b : List Row) → read_under pick d (a ++ b) ≡ read_under pick d a ++ read_under pick d b
  unfolding read_under
  read_append [] b = refl
  read_append (r ∷ a) b =
      let t = cond (is_read d r) (pick r.spot) [] in
      ap (t ++◌) (read_append a b) ∙ sym (append_assoc t (read_under pick d a) (read_under pick d b))

  -- of deeper rows nothing is read
  deep_read : (rs : List Row) → Deep (suc (suc d)) rs → read_under pick d rs ≡ []
  unfolding read_under
  deep_read [] h = refl
  deep_read (r ∷ rs) h =
      let e : r.depth ≡ suc d → ⊥ = λ e. omega (arith, h.0) in
      rw (ne_eqb r.depth (suc d) e) (deep_read rs h.1)

  own_read : (p : Spot) (c : Place)
      → cond (is_read d (row_of (suc d) p c)) (pick (row_of (suc d) p c).spot) [] ≡ cond (is_marked c) (pick p) []
  own_read p (place m l [] vs ks es) = rw (eq-eqb (suc d) (suc d) refl)
  own_read p (place m l (i ∷ ms) vs ks es) = rw (eq-eqb (suc d) (suc d) refl, lt-ltb 0 (length (i ∷ ms)) (omega arith))

  -- a place right under it, and then others
  place_read : (p : Spot) (c : Place) (rs : List Row)
      → read_under pick d (row_of (suc d) p c ∷ (rows (suc (suc d)) c ++ rs)) ≡ cond (is_marked c) (pick p) [] ++ read_under pick d rs
  unfolding read_under
  place_read p c rs =
      ap₂ (λ t u. t ++ u) (own_read p c)
      (read_append (rows (suc (suc d)) c) rs
      ∙ ap (◌++ read_under pick d rs) (deep_read (rows (suc (suc d)) c) (deep_rows c (suc (suc d)))))

module _ (d : ℕ) where
  children_keys : (ks : Children) → read_under key_picked d (rows_children (suc d) ks) ≡ keys_text ks
  unfolding rows_children read_under keys_text
  children_keys childless = refl
  children_keys (child k c ks) =
      place_read key_picked d (in_map k) c (rows_children (suc d) ks)
      ∙ (ap (cond (is_marked c) (hex k ++ ascii "\n") [] ++◌) (children_keys ks) ∙ go (is_marked c))
    where
      go : (b : Bool)
          → cond b (hex k ++ ascii "\n") [] ++ keys_text ks ≡ cond b (hex k ++ (ascii "\n" ++ keys_text ks)) (keys_text ks)
      go true = append_assoc (hex k) (ascii "\n") (keys_text ks)
      go false = refl

  children_ids : (ks : Children) → read_under id_picked d (rows_children (suc d) ks) ≡ []
  unfolding rows_children read_under
  children_ids childless = refl
  children_ids (child k c ks) = place_read id_picked d (in_map k) c (rows_children (suc d) ks) ∙ go (is_marked c) (children_ids ks)
    where
      go : (b : Bool) {t : List ℕ} → t ≡ [] → cond b [] [] ++ t ≡ []
      go true e = e
      go false e = e

  elements_ids : (es : Elements) → read_under id_picked d (rows_elements (suc d) es) ≡ present_ids es
  unfolding rows_elements read_under present_ids
  elements_ids empty = refl
  elements_ids (element i c es) = place_read id_picked d (in_list i) c (rows_elements (suc d) es) ∙ go (is_marked c) (elements_ids es)
    where
      go : (b : Bool) {t : List ℕ} → t ≡ present_ids es → cond b (i ∷ []) [] ++ t ≡ cond b (i ∷ present_ids es) (present_ids es)
      go true e = ap (i ∷◌) e
      go false e = e

  -- behind the map stands an element, a row that isn't under the place, or none
  map-ends : (es : Elements) (B : List Row) → Shallow d B
      → Splits (over (suc d) in_a_map) (rows_elements (suc d) es ++ B) [] (rows_elements (suc d) es ++ B)
  unfolding rows_elements
  map-ends empty [] h = split_none (over (suc d) in_a_map)
  map-ends empty (r ∷ B) h =
      let e : r.depth ≡ suc d → ⊥ = λ e. omega (arith, h) in
      split_stop (over (suc d) in_a_map) r B (rw (le-ltb (suc d) r.depth (omega (arith, h)), ne_eqb r.depth (suc d) e))
  map-ends (element i c es) B h = block_stop (suc d) in_a_map (in_list i) c _ refl

  keys-passed : (c : Place) (B : List Row) → Shallow d B
      → passed (over (suc d) in_a_map) (rows (suc d) c ++ B) ≡ rows_children (suc d) (children_of c)
  unfolding rows
  keys-passed (place m l ms vs ks es) B h =
      ap (passed (over (suc d) in_a_map)) (append_assoc (rows_children (suc d) ks) (rows_elements (suc d) es) B)
      ∙ ((map_pass (suc d) in_a_map (λ k. refl) ks (rows_elements (suc d) es ++ B) [] (rows_elements (suc d) es ++ B)
      (map-ends es B h)).front
      ∙ append-nil (rows_children (suc d) ks))

  place_ids : (c : Place) → read_under id_picked d (rows (suc d) c) ≡ present_ids (elements_of c)
  unfolding rows
  place_ids (place m l ms vs ks es) =
      read_append id_picked d (rows_children (suc d) ks) (rows_elements (suc d) es)
      ∙ ap₂ (λ t u. t ++ u) (children_ids ks) (elements_ids es)

-- Of the rows under a place of depth d, and of those behind them: the rows of its map are the first, up to one that is none of them.
pub keys_under : (d : ℕ) (c : Place) (B : List Row) → Shallow d B
    → read_under key_picked d (passed (over (suc d) in_a_map) (rows (suc d) c ++ B)) ≡ keys_text (children_of c)
keys_under d c B h = ap (read_under key_picked d) (keys-passed d c B h) ∙ children_keys d (children_of c)

pub elements_under : (d : ℕ) (c : Place) (B : List Row) → Shallow d B
    → read_under id_picked d (passed (deeper d) (rows (suc d) c ++ B)) ≡ present_ids (elements_of c)
elements_under d c B h =
    ap (read_under id_picked d) ((under_split d c B h).front ∙ append-nil (rows (suc d) c)) ∙ place_ids d c
