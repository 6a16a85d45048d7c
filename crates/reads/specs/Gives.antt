-- A read in its two steps: the way is followed to a place, and what is read of that place is given. Each promise says: if the tables hold
-- rows, the answer is that of the rows.
-- Assumes nothing: these are definitions.
use Rattle.std.specs.Prelude.{ℕ, ◌≡◌, List, Result, Ok, Err}
use Rattle.meaning.specs.Places.{Place, children_of, elements_of, values_of, Document}
use Rattle.meaning.specs.Members.{All}
use Rattle.meaning.specs.Read.{PlaceWay, ValidPlaceWay, Sought, seek, Finding, listed, keys_text, values_text}
use Rattle.meaning.specs.Read.{present_ids, nth_text, at_place}
use Rattle.meaning.specs.Sheet.{Row, rows_of}
use Rattle.meaning.specs.Answers.{Refusal, Reading, reading_answer}
use Rattle.meaning.specs.declared.ReadError.{ReadError}
use Rattle.meaning.specs.declared.ReadError.TheVariants.{NotThere}
use Rattle.message.specs.Means.{MeansPlace}
use Rattle.message.specs.declared.Way.{Way}
use Rattle.tables.specs.Holding.{Holds, four}
use Rattle.tables.specs.Once.{ValidValues}
use Rattle.tables.specs.declared.Counts.{Counts}
use Rattle.tables.specs.declared.Position.{Position}
use Rattle.finder.specs.declared.Absence.{Absence}
use Rattle.finder.specs.Follows.{Followed, Leads}
use Rattle.listings.specs.Lists.{Answers}

-- a way leads where document 01 says
abbrev pub Reaches : List ℕ → List ℕ → ℕ → Way → Followed → Type 0
Reaches h k rows way r =
    (m v : List ℕ) (c : Counts) (D : Document) (w : PlaceWay) → Holds (four h k m v) c (rows_of D) → rows ≡ c.rows
    → MeansPlace way w → ValidPlaceWay w → Leads (rows_of D) way.n r (seek w D)

-- the same, where 14 stands for either absence
pub data LeadsTo (h k : List ℕ) (rows : ℕ) (way : Way) : Result Position ReadError → Type 0 where
  somewhere : (at : Position) → Reaches h k rows way (Ok at) → LeadsTo h k rows way (Ok at)
  nowhere : (a : Absence) → Reaches h k rows way (Err a) → LeadsTo h k rows way (Err NotThere)

-- what `find` says of the place that was found, of depth n, is given into the buffer; 14 if there is none
pub record Gives (Held : List Row → Type 0) (n : ℕ) (find : Place → Finding) (found : Followed) (before : List ℕ) (answer : Reading)
    (after : List ℕ) : Type 0 where
  pub gives : (rs : List Row) (s : Sought) → Held rs → Leads rs n found s → Answers (at_place find s) before answer after
  pub stays : Refusal (reading_answer answer) → after ≡ before

-- the tables hold the rows, with these heads and keys, and so many; with these heads and values, which are valid
abbrev pub HeldRows : List ℕ → List ℕ → ℕ → List Row → Type 0
HeldRows h k count rs = (m : List ℕ) × (v : List ℕ) × (c : Counts) × Holds (four h k m v) c rs × (count ≡ c.rows)

abbrev pub HeldValues : List ℕ → List ℕ → List Row → Type 0
HeldValues h v rs = (k : List ℕ) × (m : List ℕ) × (c : Counts) × Holds (four h k m v) c rs × All ValidValues rs

abbrev pub GivesKeys : List ℕ → List ℕ → ℕ → Followed → ℕ → List ℕ → Reading → List ℕ → Type 0
GivesKeys h k count found n = Gives (HeldRows h k count) n (λ p. listed (keys_text (children_of p))) found

abbrev pub GivesValues : List ℕ → List ℕ → Followed → List ℕ → Reading → List ℕ → Type 0
GivesValues h v found before answer after =
    (n : ℕ) → Gives (HeldValues h v) n (λ p. listed (values_text (values_of p))) found before answer after

abbrev pub GivesElement : List ℕ → List ℕ → ℕ → Followed → ℕ → ℕ → List ℕ → Reading → List ℕ → Type 0
GivesElement h k count found n index = Gives (HeldRows h k count) n (λ p. nth_text index (present_ids (elements_of p))) found
