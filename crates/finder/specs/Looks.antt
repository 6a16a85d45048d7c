-- A place under a key is looked for among the rows that stand behind a place, its children of depth n first; rows that are shallower end
-- them. The promise says: if the tables hold rows, the answer is that of the rows.
-- Assumes nothing: these are definitions.
use Rattle.std.specs.Prelude.{ℕ, ◌≡◌, Bool, List, [], ◌∷◌, ◌++◌, Option, None, Some}
use Rattle.meaning.specs.Sheet.{Spot, Row}
use Rattle.rows.specs.Blocks.{passed, deeper}
use Rattle.rows.specs.Locate.{Located, nowhere, here, locate}
use Rattle.readers.specs.declared.Key.{Key}
use Rattle.tables.specs.Finds.{Agrees, Tells}
use Rattle.tables.specs.Wants.{search_of}
use Rattle.tables.specs.Standing.{behind}
use Rattle.tables.specs.Holding.{Holds, four}
use Rattle.tables.specs.declared.Counts.{Counts}
use Rattle.tables.specs.declared.Position.{Position}

-- among the rows rs, what was looked for is this
pub data Sees (rs : List Row) (n : ℕ) (s : Option Position) (l : Located) : Type 0 where
  missing : s ≡ None → l ≡ nowhere → Sees rs n s l
  standing : (at : Position) (F : List Row) (r : Row) (R : List Row) → s ≡ Some at → rs ≡ F ++ r ∷ R → at ≡ behind F → r.depth ≡ n
      → l ≡ here (record { own = r; under = passed (deeper n) R }) → Sees rs n s l

-- the rows that hang there: those from the place on, or none
abbrev pub hanging : Option Position → List Row → List Row
hanging (Some from) B = B
hanging None B = []

-- the place from which rows hang is behind these, if there is one
abbrev pub HangsBehind : Option Position → List Row → Type 0
HangsBehind (Some from) A = from ≡ behind A
HangsBehind None A = Unit {0}

abbrev pub Looks : List ℕ → List ℕ → ℕ → Option Position → ℕ → Key → Option Position → Type 0
Looks h k rows from n y s =
    (m v : List ℕ) (c : Counts) (A B : List Row) (pass meant : Spot → Bool) → Holds (four h k m v) c (A ++ B) → rows ≡ c.rows
    → HangsBehind from A → Agrees (search_of n y) pass → Tells (search_of n y) meant
    → Sees (A ++ B) n s (locate n pass meant (hanging from B))
