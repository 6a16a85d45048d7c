-- The tests of a row's head: which rows are read, and which are of a map.
-- Assumes nothing.
use Prim.Native.Nat.{ℕ, suc, ◌-◌, ◌≤◌, ◌<◌}
use native.Mathlib.Omega.{arith}
use mathlib.Core.Path.{◌≡◌, refl, sym, ap}
use mathlib.Core.Bool.{true, false, ◌&&◌}
use borrow.Author.Tests.{lt-ltb, le-ltb, eq-eqb, ne_eqb}
use lib.Dec.{ltb, eqb}
use lib.ListN.{length}
use Rattle.meaning.specs.Sheet.{Spot, in_map, in_list, Row}
use Rattle.rows.specs.Blocks.{over, in_a_map}
use Rattle.tables.specs.Words.{hangs, head_word}
use Rattle.tables.specs.Heads.{head_in}
use Rattle.tables.specs.Finds.{Narrow, depth_in_lem, hangs_in_lem, marks_in_lem}
use Rattle.tables.specs.declared.Head.{Head}
use Rattle.tables.specs.declared.Side.{Side}
use Rattle.tables.specs.declared.Side.TheVariants as S
use Rattle.listings.specs.Texts.{same_side, is_listed, of_map}

-- a side is itself, and no other
side_same : (a b : Side) → a ≡ b → same_side a b ≡ true
side_same S.Map b e = ap (same_side S.Map) (sym e)
side_same S.List b e = ap (same_side S.List) (sym e)

side_other : (a b : Side) → (a ≡ b → ⊥) → same_side a b ≡ false
side_other S.Map S.Map n = absurd (n refl)
side_other S.Map S.List n = refl
side_other S.List S.Map n = refl
side_other S.List S.List n = absurd (n refl)

module _ (h : Head) (d : ℕ) where
  -- not deeper than the place
  module _ (l : h.depth ≤ d) where
    not_under : h.depth ≡ suc d → ⊥
    not_under e = omega arith

    -- isn't read
    pub unlisted : (s : Side) → false ≡ is_listed d s h
    unfolding is_listed
    unlisted s = rw (ne_eqb h.depth (suc d) not_under)

    -- nor is it of the map
    pub not_of_map : false ≡ of_map d h
    unfolding of_map
    not_of_map = rw (le-ltb (suc d) h.depth (omega arith), ne_eqb h.depth (suc d) not_under)

  module _ (l : d < h.depth) where
    -- deeper than what is right under it
    module _ (n : h.depth - d ≡ 1 → ⊥) where
      not_right : h.depth ≡ suc d → ⊥
      not_right e = n (let q : h.depth - d ≡ 1 = omega arith in q)

      -- isn't read
      pub unlisted_deep : (s : Side) → false ≡ is_listed d s h
      unfolding is_listed
      unlisted_deep s = rw (ne_eqb h.depth (suc d) not_right)

      -- but goes on with the map
      pub of_map_deep : true ≡ of_map d h
      unfolding of_map
      of_map_deep = let q = not_right in rw (lt-ltb (suc d) h.depth (omega (arith, n)))

    -- right under it
    module _ (e : h.depth - d ≡ 1) where
      right_under : h.depth ≡ suc d
      right_under = omega arith

      -- isn't read in the other branch
      pub other_side : (s : Side) → (h.side ≡ s → ⊥) → false ≡ is_listed d s h
      unfolding is_listed
      other_side s n = rw (eq-eqb h.depth (suc d) right_under, side_other h.side s n)

      -- is read in its own, where it has a mark
      pub this_side : (s : Side) → h.side ≡ s → ltb 0 h.marks ≡ is_listed d s h
      unfolding is_listed
      this_side s q = rw (eq-eqb h.depth (suc d) right_under, side_same h.side s q)

      -- is of the map where it hangs by a key
      pub of_map-side : same_side h.side S.Map ≡ of_map d h
      unfolding of_map
      of_map-side = rw (le-ltb (suc d) h.depth (omega (arith, right_under)), eq-eqb h.depth (suc d) right_under)

-- of the words that hold a row
module _ (r : Row) (n : Narrow r) (d : ℕ) where
  pub listed_row : (s : Side)
      → is_listed d s (head_in (head_word r)) ≡ (eqb r.depth (suc d) && (same_side (hangs r.spot) s && ltb 0 (length r.marks)))
  unfolding is_listed
  listed_row s = rw (depth_in_lem r n, hangs_in_lem r n, marks_in_lem r n)

  pub map_row_lem : of_map d (head_in (head_word r)) ≡ over (suc d) in_a_map r
  unfolding of_map
  map_row_lem = rw (depth_in_lem r n, hangs_in_lem r n, key_side r.spot)
    where
      key_side : (p : Spot) → same_side (hangs p) S.Map ≡ in_a_map p
      key_side (in_map k) = refl
      key_side (in_list i) = refl
