-- Tables in lent memory that hold rows: the live words, zeros behind them, and how many there are. Beyond document 01's limits each
-- table has room for what one operation may add before the limits are looked at again: eight places, eight marks, one value.
-- The contracts of the steps say: if the tables hold these rows, they hold those afterwards.
-- Assumes nothing: these are definitions.
use Rattle.std.specs.Prelude.{ℕ, ◌≤◌, ◌≡◌, refl, Bool, true, false, ◌&&◌, List, [], ◌∷◌, leb, length}
use Rattle.std.proofs.Common.{le-leb, leb-true}
use Rattle.theorems.specs.Decide.{and_left}
use Rattle.meaning.specs.Members.{All, Ascending, own, id_of_value}
use Rattle.meaning.specs.Load.{marks_in, values_in}
use Rattle.meaning.specs.Sheet.{Row}
use Rattle.rows.specs.Blocks.{at, map_row, list_row}
use Rattle.tables.specs.Words.{heads_of, keys_of, marks_of, values_of, pad}
use Rattle.tables.specs.declared.Tables.{Tables}
use Rattle.tables.specs.Finds.{GoodSpot}
use Rattle.tables.specs.declared.Counts.{Counts}
use Rattle.tables.specs.declared.Side.{Side}
use Rattle.tables.specs.declared.Side.TheVariants as S
use Rattle.meaning.specs.Sheet.{Spot}

-- words in each table
abbrev pub heads_room : ℕ
heads_room = 264

abbrev pub keys_room : ℕ
keys_room = 792

abbrev pub marks_room : ℕ
marks_room = 1032

abbrev pub values_room : ℕ
values_room = 1542

-- so many rows, marks and values have room in the tables
unfoldable pub within_tables : Counts → Bool
within_tables c = leb c.rows 264 && (leb c.marks 1032 && leb c.values 257)

-- a row as every document has it
pub record Good (r : Row) : Type 0 where
  pub spot : GoodSpot r.spot
  pub depth : r.depth ≤ 8
  pub marks : Ascending own r.marks
  pub values : Ascending id_of_value r.values

-- the four tables and the counts hold these rows
pub record Holds (T : Tables) (c : Counts) (rs : List Row) : Type 0 where
  pub heads : T.heads ≡ pad heads_room (heads_of rs)
  pub keys : T.keys ≡ pad keys_room (keys_of rs)
  pub marks : T.marks ≡ pad marks_room (marks_of rs)
  pub values : T.values ≡ pad values_room (values_of rs)
  pub rows_are : c.rows ≡ length rs
  pub marks_are : c.marks ≡ marks_in rs
  pub values_are : c.values ≡ values_in rs
  pub rows_fit : c.rows ≤ 264
  pub marks_fit : c.marks ≤ 1032
  pub values_fit : c.values ≤ 257
  pub good : All Good rs

-- what the tables hold has room in them
pub holds_within : {T : Tables} {c : Counts} {rs : List Row} → Holds T c rs → within_tables c ≡ true
unfolding within_tables
holds_within {c = c} h =
    rw (le-leb c.rows 264 h.rows_fit, le-leb c.marks 1032 h.marks_fit, le-leb c.values 257 h.values_fit) refl

pub within_rows : (c : Counts) → within_tables c ≡ true → c.rows ≤ 264
unfolding within_tables
within_rows c e = leb-true c.rows 264 (and_left (leb c.rows 264) _ e)

-- four tables by their words
abbrev pub four : List ℕ → List ℕ → List ℕ → List ℕ → Tables
four h k m v = record { heads = h; keys = k; marks = m; values = v }

-- the flag of a branch: of the list, or of the map
abbrev pub flag_row : Side → Row → Row
flag_row S.List r = list_row r
flag_row S.Map r = map_row r

-- whether the rows begin with the one that is meant
abbrev pub begins : ℕ → (Spot → Bool) → List Row → Bool
begins n meant [] = false
begins n meant (r ∷ rs) = at n meant r
