-- The top place is looked for once: from where that search stops, judging and carrying out come to what they come to from the first row on.
-- Assumes nothing.
use Prim.Native.Nat.{ℕ}
use mathlib.Core.Path.{◌≡◌, refl, subst}
use mathlib.Core.Bool.{Bool, true, false, cond}
use mathlib.Core.List.{List, [], ◌∷◌, ◌++◌}
use Rattle.meaning.specs.Sheet.{in_map, Row, rows_of}
use Rattle.meaning.specs.Ways.{Way, into_map}
use Rattle.rows.specs.Blocks.{passed, rest, key_below, over, seek_rows, at_key_rows}
use Rattle.rows.specs.Locate.{locate, locate_key, elements_found_rows}
use Rattle.rows.specs.Within.{under_rows, under_change}
use Rattle.message.specs.Means.{pad}
use Rattle.tables.specs.Words.{spot_words}
use Rattle.tables.specs.Finds.{after}
use Rattle.readers.specs.Hex.{words_in}
use Rattle.tables.specs.Heads.{key_in}
use Rattle.tables.specs.Wants.{search_of, spot_agrees}
use Rattle.tables.specs.Stands.{FindsIn}
use Rattle.tables.specs.Standing.{first, behind}
use Rattle.tables.specs.declared.Position.{Position}
use Rattle.tables.specs.declared.Search.{Search}
use Rattle.judging.specs.Judging.{TopsIn}

pub first-behind : first ≡ behind []
unfolding after
first-behind = refl

-- what the search finds
pub tops : (h k : List ℕ) (rows : ℕ) (ks : List ℕ) (w : Search) (r : Position) → w ≡ search_of 1 (key_in ks)
    → FindsIn h k rows first w r → TopsIn h k rows ks r
unfolding pad search_of
tops h k rows ks w r e F m v c q D o S x val =
    let words : words_in (key_in ks) ≡ spot_words (in_map o.top) = rw x in
    subst (λ w. FindsIn h k rows first w r) e F m v c [] (rows_of D) (key_below o.top) S.rows q first-behind
    (spot_agrees 1 (key_in ks) (in_map o.top) words val.edit.first)

module _ (p : Row → Bool) where
  passed_none : (rs : List Row) → passed p (rest p rs) ≡ []
  unfolding passed rest
  passed_none [] = refl
  passed_none (r ∷ rs) = go (p r) refl (passed_none rs)
    where
      go : (b : Bool) → p r ≡ b → passed p (rest p rs) ≡ [] → passed p (cond b (rest p rs) (r ∷ rs)) ≡ []
      go true e q = q
      go false e q = rw e

  rest-rest : (rs : List Row) → rest p (rest p rs) ≡ rest p rs
  unfolding rest
  rest-rest [] = refl
  rest-rest (r ∷ rs) = go (p r) refl (rest-rest rs)
    where
      go : (b : Bool) → p r ≡ b → rest p (rest p rs) ≡ rest p rs
          → rest p (cond b (rest p rs) (r ∷ rs)) ≡ cond b (rest p rs) (r ∷ rs)
      go true e q = q
      go false e q = rw e

-- from the first row on that isn't gone over
module _ (n : ℕ) (k : List ℕ) (w : Way) (rs : List Row) where
  located : locate_key n k (rest (over n (key_below k)) rs) ≡ locate_key n k rs
  unfolding locate_key locate
  located = rw (rest-rest (over n (key_below k)) rs)

  pub found_top : (d : List ℕ) → elements_found_rows d n (into_map k w) (rest (over n (key_below k)) rs) ≡ elements_found_rows d n (into_map k w) rs
  unfolding elements_found_rows
  found_top d = rw located

  pub change_top : (d : List ℕ) → under_change d n (into_map k w) (rest (over n (key_below k)) rs) ≡ under_change d n (into_map k w) rs
  unfolding under_change
  change_top d = rw located

  pub rows_top : (i : ℕ) (d : List ℕ)
      → passed (over n (key_below k)) rs ++ under_rows i d n (into_map k w) (rest (over n (key_below k)) rs) ≡ under_rows i d n (into_map k w) rs
  unfolding under_rows at_key_rows seek_rows
  rows_top i d = rw (passed_none (over n (key_below k)) rs, rest-rest (over n (key_below k)) rs)
