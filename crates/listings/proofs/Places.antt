-- Places in tables that hold rows: the rows one on, and how many stand from a place on.
-- Assumes nothing.
use Prim.Native.Nat.{ℕ, suc, ◌+◌, ◌≤◌}
use native.Mathlib.Omega.{arith}
use mathlib.Core.Path.{◌≡◌, sym, subst}
use mathlib.Core.List.{List, [], ◌∷◌, ◌++◌, append_assoc}
use lib.ListN.{length, length-append}
use Rattle.meaning.specs.Places.{Place}
use Rattle.meaning.specs.Sheet.{Row, rows}
use Rattle.tables.specs.Holding.{heads_room, Holds, four}
use Rattle.tables.specs.Parts.{heads_long}
use Rattle.tables.specs.declared.Counts.{Counts}
use Rattle.listings.specs.Lists.{Under}

-- the rows behind A and one more
pub behind-one : (A : List Row) (r : Row) → length (A ++ (r ∷ [])) ≡ length A + 1
behind-one A r = length-append A (r ∷ [])

module _ (h k m v : List ℕ) (c : Counts) where
  pub one_on : (A : List Row) (r : Row) (R : List Row) → Holds (four h k m v) c (A ++ r ∷ R) → Holds (four h k m v) c ((A ++ (r ∷ [])) ++ R)
  one_on A r R H = subst (Holds (four h k m v) c) (sym (append_assoc A (r ∷ []) R)) H

-- how many rows there are: no more than have room, and so many from the place on
module _ {h k : List ℕ} {count from d : ℕ} {p : Place} (u : Under h k count from d p) where
  pub under_few : count ≤ heads_room
  under_few = omega (arith, u.counted, u.holds.rows_fit)

  pub under_count : from + length (rows (suc d) p ++ u.later) ≡ count
  under_count = omega (arith, u.counted, u.holds.rows_are, u.here, length-append u.ahead (rows (suc d) p ++ u.later))

  -- the table of heads has its whole room
  pub under_long : length h ≡ heads_room
  under_long = heads_long (four h k u.marks u.values) u.counts (u.ahead ++ (rows (suc d) p ++ u.later)) u.holds
