-- Tables on the way of one pass over the rows with a place to read at and a place to write at: the rows A have been gone over and stand
-- as they are to stay, the rows us are still to come, and in marks and in values there is a gap of any words between the two.
-- Assumes nothing: these are definitions.
use Rattle.std.specs.Prelude.{ℕ, ◌+◌, ◌*◌, ◌-◌, ◌≤◌, ◌≡◌, List, ◌++◌, length, replicate}
use Rattle.meaning.specs.Members.{All}
use Rattle.meaning.specs.Sheet.{Row}
use Rattle.tables.specs.Words.{heads_of, marks_of, values_of}
use Rattle.tables.specs.Holding.{heads_room, marks_room, values_room, Good}
use Rattle.tables.specs.declared.Counts.{Counts}
use Rattle.clear.specs.declared.Cursor.{Cursor}

-- a cursor's places are in the tables, and it writes no further than it has read
pub record Within (m v : List ℕ) (p : Cursor) : Type 0 where
  pub marks_low : p.marked ≤ p.mark
  pub marks_high : p.mark ≤ length m
  pub values_low : p.valued ≤ p.value
  pub values_high : p.value ≤ length v

-- c counts the rows, and the words up to the last live one, gaps included
pub record WithGap (c : Counts) (h m v : List ℕ) (p : Cursor) (A us : List Row) : Type 0 where
  pub gap : List ℕ
  pub gap_values : List ℕ
  pub heads : h ≡ heads_of (A ++ us) ++ replicate (heads_room - c.rows) 0
  pub marks : m ≡ marks_of A ++ (gap ++ (marks_of us ++ replicate (marks_room - c.marks) 0))
  pub values : v ≡ values_of A ++ (gap_values ++ (values_of us ++ replicate (values_room - c.values * 6) 0))
  pub row_is : p.row ≡ length A
  pub marked-is : p.marked ≡ length (marks_of A)
  pub mark-is : p.mark ≡ p.marked + length gap
  pub valued-is : p.valued ≡ length (values_of A)
  pub value_is : p.value ≡ p.valued + length gap_values
  pub rows_are : c.rows ≡ length A + length us
  pub marks_are : c.marks ≡ p.mark + length (marks_of us)
  pub values_are : c.values * 6 ≡ p.value + length (values_of us)
  pub rows_fit : c.rows ≤ 264
  pub marks_fit : c.marks ≤ 1032
  pub values_fit : c.values ≤ 257
  pub good_before : All Good A
  pub good_behind : All Good us
