-- Memory that holds the document of a terminal: its rows and counters, sound and within the limits of document 01.
-- Assumes nothing: these are definitions.
use Rattle.std.specs.Prelude.{ℕ, ◌≡◌, true, List}
use Rattle.meaning.specs.Places.{Document}
use Rattle.meaning.specs.Limits.{fits}
use Rattle.meaning.specs.Sheet.{rows_of}
use Rattle.meaning.specs.Sound.{Sound}
use Rattle.tables.specs.declared.Tables.{Tables}
use Rattle.tables.specs.Holding.{Holds}
use Rattle.tables.specs.declared.Counts.{Counts}
use Rattle.keeping.specs.declared.Document as K

-- memory that holds a document, as every terminal has it
pub record Stores (T : Tables) (c : Counts) (seen : List ℕ) (D : Document) : Type 0 where
  pub rows : Holds T c (rows_of D)
  pub counters : seen ≡ D.seen
  pub sound : Sound D
  pub limits : fits D ≡ true

-- the same of a document's tables, counts and counters together
abbrev pub StoresIn : K.Document → Document → Type 0
StoresIn d D = Stores d.tables d.counts d.seen.at D
