-- `tables::seek` meets its contract: a search through the rows. Assumes nothing.
use Prim.Native.Nat.{ℕ, ◌-◌}
use mathlib.Core.Path.{◌≡◌}
use mathlib.Core.List.{List}
use Rattle.tables.specs.declared.Position.{Position}
use Rattle.tables.specs.declared.Search.{Search}
use Rattle.tables.specs.Seek.{Searches, sought}
use Rattle.tables.proofs.seek.Given as goal

-- the search from here ends where the search from the beginning ends
pub record Going (w : Search) (heads keys : List ℕ) (rows : ℕ) (from at : Position) : Type 0 where
  pub ok : Searches heads keys rows at
  pub same : sought w heads keys rows at ≡ sought w heads keys rows from

abbrev pub invariant-loop-at : goal.invariant-loop-at
invariant-loop-at l = Going l.w l.heads l.keys l.rows l.initial.at l.at

abbrev pub decreases-loop-at : goal.decreases-loop-at
decreases-loop-at l = l.rows - l.at.row
