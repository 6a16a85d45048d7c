-- Document 01, "The saved sheet": what `save` promises.
-- Assumes nothing: these are definitions.
use Rattle.std.specs.Prelude.{ℕ, ◌≡◌, false, List, Err}
use Rattle.meaning.specs.Places.{Document}
use Rattle.meaning.specs.Members.{All}
use Rattle.meaning.specs.Valid.{ValidPlain}
use Rattle.meaning.specs.Sheet.{Row, rows_of}
use Rattle.meaning.specs.Promises.{Saves}
use Rattle.meaning.specs.declared.Counters.{Counters}
use Rattle.meaning.specs.Answers.{Saved}
use Rattle.tables.specs.declared.Tables.{Tables}
use Rattle.tables.specs.Holding.{Holds, within_tables}
use Rattle.tables.specs.declared.Counts.{Counts}

-- the row's values are within document 01's bounds
abbrev pub ValidRow : Row → Type 0
ValidRow r = All (λ v. ValidPlain v.val) r.values

-- the bytes that are said to be needed where the counts have no room in the tables: more than any buffer has
abbrev pub unbounded : ℕ
unbounded = 18446744073709551615

-- If the tables hold a document, its sheet is saved. Whatever they hold, nothing is written into a buffer that is too short; and of counts
-- that have no room in the tables 13 is answered, with the greatest number.
pub record Saving (T : Tables) (c : Counts) (seen : Counters) (before : List ℕ) (answer : Saved) (after : List ℕ) : Type 0 where
  pub saves : (D : Document) → Holds T c (rows_of D) → All ValidRow (rows_of D) → seen.at ≡ D.seen → Saves D before answer after
  pub untouched : (needed : ℕ) → answer ≡ Err (record { needed = needed }) → after ≡ before
  pub beyond : within_tables c ≡ false → answer ≡ Err (record { needed = unbounded })
