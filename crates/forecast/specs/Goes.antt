-- What goes: how many marks and values deps cover, of a row, of what hangs under a place, of a block. Each promise says: if the tables hold
-- rows, and the place is that of one of them, the numbers are those of the rows. And for any memory the numbers are few.
-- Assumes nothing: these are definitions.
use Rattle.std.specs.Prelude.{ℕ, ◌+◌, ◌≤◌, ◌≡◌, List, [], ◌∷◌, ◌++◌, length}
use Rattle.meaning.specs.Sheet.{Row}
use Rattle.rows.specs.Blocks.{passed, deeper}
use Rattle.rows.specs.Counting.{gone_marks, gone_values}
use Rattle.tables.specs.Standing.{behind}
use Rattle.tables.specs.Holding.{Holds, four}
use Rattle.tables.specs.declared.Counts.{Counts}
use Rattle.tables.specs.declared.Position.{Position}
use Rattle.forecast.specs.declared.Lost.{Lost}

-- these go of the rows
pub record Goes (d : List ℕ) (rs : List Row) (g : Lost) : Type 0 where
  pub marks : g.marks ≡ gone_marks d rs
  pub values : g.values ≡ gone_values d rs

-- what goes of two parts
abbrev pub together : Lost → Lost → Lost
together g u = record { marks = g.marks + u.marks; values = g.values + u.values }

pub record RowGone (heads marks values : List ℕ) (s : Position) (d : List ℕ) (g : Lost) : Type 0 where
  pub few_marks : g.marks ≤ 2047
  pub few_values : g.values ≤ 511
  pub is : (keys : List ℕ) (c : Counts) (A : List Row) (r : Row) (R : List Row)
      → Holds (four heads keys marks values) c (A ++ r ∷ R) → s ≡ behind A → Goes d (r ∷ []) g

pub record UnderGone (heads marks values : List ℕ) (rows : ℕ) (s : Position) (n : ℕ) (d : List ℕ) (g : Lost) : Type 0 where
  pub few_marks : g.marks ≤ 540408
  pub few_values : g.values ≤ 134904
  pub is : (keys : List ℕ) (c : Counts) (A B : List Row) → rows ≡ c.rows
      → Holds (four heads keys marks values) c (A ++ B) → s ≡ behind A → Goes d (passed (deeper n) B) g

pub record BlockGone (heads marks values : List ℕ) (rows : ℕ) (s : Position) (d : List ℕ) (g : Lost) : Type 0 where
  pub few_marks : g.marks ≤ 542455
  pub few_values : g.values ≤ 135415
  pub is : (keys : List ℕ) (c : Counts) (A : List Row) (r : Row) (R : List Row) → rows ≡ c.rows
      → Holds (four heads keys marks values) c (A ++ r ∷ R) → s ≡ behind A → Goes d (r ∷ passed (deeper r.depth) R) g

-- a row's depth
abbrev pub RowDeep : List ℕ → ℕ → ℕ → Type 0
RowDeep heads row n =
    (keys marks values : List ℕ) (c : Counts) (A : List Row) (r : Row) (R : List Row)
    → Holds (four heads keys marks values) c (A ++ r ∷ R) → row ≡ length A → n ≡ r.depth
