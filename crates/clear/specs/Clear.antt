-- What clearing a row, a branch, a place and a block leaves in the tables. d are the counters that cover what goes.
-- Assumes nothing: these are definitions.
use Rattle.std.specs.Prelude.{ℕ, ◌+◌, ◌≤◌, ◌<◌, ◌≡◌, List, [], ◌∷◌, ◌++◌, map, length}
use Rattle.meaning.specs.Sheet.{Row}
use Rattle.rows.specs.Blocks.{passed, rest, deeper, clear_row}
use Rattle.tables.specs.Standing.{behind}
use Rattle.tables.specs.Holding.{Holds, four}
use Rattle.tables.specs.declared.Counts.{Counts}
use Rattle.tables.specs.declared.Position.{Position}
use Rattle.clear.specs.declared.Cursor.{Cursor}
use Rattle.clear.specs.WithGap.{Within, WithGap}

-- three tables that are changed, and a cursor in them
pub record Pass : Type 0 where
  pub heads : List ℕ
  pub marks : List ℕ
  pub values : List ℕ
  pub at : Cursor

abbrev pub passing : List ℕ → List ℕ → List ℕ → Cursor → Pass
passing h m v p = record { heads = h; marks = m; values = v; at = p }

abbrev pub Gaps : Counts → Pass → List Row → List Row → Type 0
Gaps c x A us = WithGap c x.heads x.marks x.values x.at A us

abbrev pub In : Pass → Type 0
In x = Within x.marks x.values x.at

-- what each of the three asks: the rows are in the table, and the cursor is in the tables
pub record Starts (rows : ℕ) (x : Pass) : Type 0 where
  pub rows_in : rows ≤ length x.heads
  pub row_in : x.at.row ≤ rows
  pub within : In x

-- one row
pub record ClearsRow (d : List ℕ) (x y : Pass) : Type 0 where
  pub next : y.at.row ≡ x.at.row + 1
  pub within : In y
  pub clears : (c : Counts) (A us : List Row) (r : Row) → Gaps c x A (r ∷ us) → Gaps c y (A ++ clear_row d r ∷ []) us

-- the rows at the cursor that are deeper than n, in so many levels
pub record ClearsBranch (d : List ℕ) (rows n left : ℕ) (x y : Pass) : Type 0 where
  pub low : x.at.row ≤ y.at.row
  pub high : y.at.row ≤ rows
  pub within : In y
  pub clears : (c : Counts) (A us : List Row) → c.rows ≡ rows → 8 ≤ n + left → Gaps c x A us
      → Gaps c y (A ++ map (clear_row d) (passed (deeper n) us)) (rest (deeper n) us)

-- the row at the cursor, and the deeper rows behind it
pub record ClearsPlace (d : List ℕ) (rows left : ℕ) (x y : Pass) : Type 0 where
  pub low : x.at.row < y.at.row
  pub high : y.at.row ≤ rows
  pub within : In y
  pub clears : (c : Counts) (A us : List Row) (r : Row) → c.rows ≡ rows → 8 ≤ r.depth + left → Gaps c x A (r ∷ us)
      → Gaps c y (A ++ clear_row d r ∷ map (clear_row d) (passed (deeper r.depth) us)) (rest (deeper r.depth) us)

-- tables that hold rows hold them afterwards with the block at s cleared; h, m and v are the words before, h', m' and v' those after
pub record Clears (d h m v : List ℕ) (c : Counts) (s : Position) (h' m' v' : List ℕ) (e : Counts) : Type 0 where
  pub holds : (k : List ℕ) (A R : List Row) (r : Row) → Holds (four h k m v) c (A ++ r ∷ R) → s ≡ behind A
      → Holds (four h' k m' v') e
      (A ++ clear_row d r ∷ (map (clear_row d) (passed (deeper r.depth) R) ++ rest (deeper r.depth) R))
  pub rows_same : e.rows ≡ c.rows
  pub marks_fewer : e.marks ≤ c.marks
  pub values_fewer : e.values ≤ c.values
