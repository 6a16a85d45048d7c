-- 10: the room that is counted is the room that the operation leaves.
-- Assumes nothing.
use Prim.Native.Nat.{ℕ, suc, ◌+◌, ◌≤◌, ◌<◌}
use native.Mathlib.Omega.{arith}
use mathlib.Core.Path.{◌≡◌, refl, sym, ap, ◌∙◌}
use mathlib.Core.Bool.{Bool, true, false, cond, ◌&&◌}
use mathlib.Core.List.{List}
use borrow.Author.Tests.{le-leb, lt-leb}
use lib.Dec.{leb}
use lib.ListN.{length}
use Rattle.meaning.specs.Ways.{Assigned, plain, empty_map, empty_list, Way, assign, delete, insert, into_map, into_list}
use Rattle.meaning.specs.Ways.{deletes, makes}
use Rattle.meaning.specs.Ways as M
use Rattle.meaning.specs.Limits.{fits}
use Rattle.meaning.specs.Load.{marks_in, values_in}
use Rattle.meaning.specs.Places.{Document}
use Rattle.meaning.specs.Apply.{apply}
use Rattle.meaning.specs.Sheet.{Spot, in_map, in_list, Row, rows_of}
use Rattle.theorems.specs.Accepting.{fits_limits}
use Rattle.rows.specs.Blocks.{Block}
use Rattle.rows.specs.Locate.{Located, nowhere, here, locate_key, locate_element}
use Rattle.rows.specs.Counting.{Change, no_change, both, adds, give_change}
use Rattle.rows.specs.Counting.{new_change, passing_change, new_block, found_change, is_prev, run_change}
use Rattle.rows.specs.Counting.{change}
use Rattle.rows.proofs.Balanced.{apply_balance}
use Rattle.rows.specs.Room.{room, room_for, sound_fresh}
use Rattle.rows.proofs.Room.{room_rows}
use Rattle.tables.specs.declared.Tables.{Tables}
use Rattle.tables.specs.declared.Counts.{Counts}
use Rattle.forecast.specs.Weighs.{Counted}
use Rattle.forecast.specs.declared.Weight.{Weight}
use Rattle.keeping.specs.Storing.{Stores}
use Rattle.judging.specs.Judging.{Small, has_room, Newer}

-- no place goes, and at most one value comes
record Slight (c : Change) : Type 0 where
  no_place : c.less.places ≡ 0
  one_value : c.more.values ≤ 1

found_slight : (f : Block → Change) → ((b : Block) → Slight (f b)) → (new : Bool) (n : ℕ) (p : Spot) (l : Located)
    → Slight (found_change f new n p l)
found_slight f h new n p (here b) = h b
found_slight f h true n p nowhere =
    let s = h (new_block n p) in
    record { no_place = omega (arith, s.no_place); one_value = omega (arith, s.one_value) }
found_slight f h false n p nowhere = record { no_place = refl; one_value = omega arith }

passing_slight : (w : Way) (c : Change) → Slight c → Slight (both (passing_change w) c)
passing_slight w c s = go (deletes w)
  where
    go : (b : Bool) → Slight (both (cond b no_change (adds 0 1 0)) c)
    go true = record { no_place = omega (arith, s.no_place); one_value = omega (arith, s.one_value) }
    go false = record { no_place = omega (arith, s.no_place); one_value = omega (arith, s.one_value) }

new_slight : (b : Bool) (a : Assigned) → Slight (cond b (new_change a) no_change)
new_slight true (plain v) = record { no_place = refl; one_value = omega arith }
new_slight true empty_map = record { no_place = refl; one_value = omega arith }
new_slight true empty_list = record { no_place = refl; one_value = omega arith }
new_slight false a = record { no_place = refl; one_value = omega arith }

run_slight : (d : List ℕ) (w : Way) (n : ℕ) (b : Block) → Slight (run_change d n w b)
unfolding run_change give_change
run_slight d (assign (plain v)) n b = record { no_place = refl; one_value = omega arith }
run_slight d (assign empty_map) n b = record { no_place = refl; one_value = omega arith }
run_slight d (assign empty_list) n b = record { no_place = refl; one_value = omega arith }
run_slight d delete n b = record { no_place = refl; one_value = omega arith }
run_slight d (insert p a) n b =
    let s = new_slight (is_prev (suc n) p b.under) a in
    record { no_place = omega (arith, s.no_place); one_value = omega (arith, s.one_value) }
run_slight d (into_map k w) n b = passing_slight w _
    (found_slight _ (run_slight d w (suc n)) (makes w) (suc n) (in_map k) (locate_key (suc n) k b.under))
run_slight d (into_list e w) n b = passing_slight w _
    (found_slight _ (run_slight d w (suc n)) false (suc n) (in_list e) (locate_element (suc n) e b.under))

change_slight : (o : M.Operation) (rs : List Row) → Slight (change o rs)
unfolding change
change_slight o rs = found_slight _ (run_slight o.deps o.way 1) (makes o.way) 1 (in_map o.top) (locate_key 1 o.top rs)

module _ (T : Tables) (c : Counts) (D : Document) (o : M.Operation) (S : Stores T c D.seen D) (n : Newer D o) (x : Weight)
    (W : Counted (change o (rows_of D)) x) (few_places : x.places ≤ 24) (few_marks : x.marks ≤ 24) where
  pub weight_small : Small c x
  weight_small =
      let b = apply_balance o (rows_of D) (sound_fresh D o.id S.sound n) in
      let s = change_slight o (rows_of D) in
      let l = fits_limits D S.limits in
      let H = S.rows in
      record {
        rows = H.rows_fit;
        marks = H.marks_fit;
        values = H.values_fit;
        more_places = few_places;
        more_marks = few_marks;
        more_values = omega (arith, W.values, s.one_value);
        less_marks = omega (arith, W.gone_marks, W.marks, few_marks, b.marks, l.marks);
        less_values = omega (arith, W.gone-values, b.values, l.values, s.one_value);
      }

  pub room-is : has_room c x ≡ fits (apply o D)
  unfolding has_room room_for room
  room-is =
      let H = S.rows in
      let z = (change_slight o (rows_of D)).no_place in
      let a : 256 ≡ 256 + (change o (rows_of D)).less.places = omega (arith, z) in
      let ch = change o (rows_of D) in
      let marks = leb (marks_in (rows_of D) + ch.more.marks) (1024 + ch.less.marks) in
      let values = leb (values_in (rows_of D) + ch.more.values) (256 + ch.less.values) in
      rw (H.rows_are, H.marks_are, H.values_are, W.places, W.marks, W.values, W.gone_marks, W.gone-values)
      (ap (λ y. leb (length (rows_of D) + ch.more.places) y && marks && values) a ∙ sym (room_rows o D S.sound n))

-- the tests, one after another
module _ (c : Counts) (w : Weight) where
  -- too many places
  pub no_places : 256 < c.rows + w.places → false ≡ has_room c w
  unfolding has_room
  no_places h = rw (lt-leb (c.rows + w.places) 256 h)

  -- too many marks
  pub no_marks : c.rows + w.places ≤ 256 → 1024 + w.gone_marks < c.marks + w.marks → false ≡ has_room c w
  unfolding has_room
  no_marks h k = rw (le-leb (c.rows + w.places) 256 h, lt-leb (c.marks + w.marks) (1024 + w.gone_marks) k)

  -- where there is room for both, the values decide
  pub the_values : c.rows + w.places ≤ 256 → c.marks + w.marks ≤ 1024 + w.gone_marks
      → leb (c.values + w.values) (256 + w.gone_values) ≡ has_room c w
  unfolding has_room
  the_values h k = rw (le-leb (c.rows + w.places) 256 h, le-leb (c.marks + w.marks) (1024 + w.gone_marks) k)
