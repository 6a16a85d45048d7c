-- Document 01, "Reads": what `keys`, `values` and `element` promise. If the tables hold rows among which a place stands, what is answered
-- and written is what document 01 reads of that place. Whatever they hold, a refusal leaves the buffer as it was.
-- Assumes nothing: these are definitions.
use Rattle.std.specs.Prelude.{ℕ, suc, ◌≡◌, List, ◌∷◌, ◌++◌, length}
use Rattle.meaning.specs.Places.{Place, children_of, elements_of, values_of}
use Rattle.meaning.specs.Sheet.{Spot, Row, row_of, rows}
use Rattle.meaning.specs.Read.{Finding, listed, keys_text, values_text, present_ids, nth_text, answer_read}
use Rattle.meaning.specs.Answers.{reading_answer, Refusal}
use Rattle.meaning.specs.Answers.{Reading}
use Rattle.rows.specs.Spans.{Shallow}
use Rattle.tables.specs.Standing.{behind}
use Rattle.tables.specs.Holding.{Holds, four}
use Rattle.tables.specs.Once.{ValidValues}
use Rattle.tables.specs.declared.Counts.{Counts}
use Rattle.tables.specs.declared.Position.{Position}

-- the answer and the buffer are those of what is found
pub record Answers (found : Finding) (before : List ℕ) (answer : Reading) (after : List ℕ) : Type 0 where
  pub answers : reading_answer answer ≡ (answer_read found before).answer
  pub writes : after ≡ (answer_read found before).buffer

-- Where a place stands.

-- what hangs under a place of depth d stands from row `from` on, and behind it a row that isn't deeper, or none; the root is such a place,
-- of depth 0 and without elements, from row 0 on
pub record Under (h k : List ℕ) (count from d : ℕ) (p : Place) : Type 0 where
  pub marks : List ℕ
  pub values : List ℕ
  pub counts : Counts
  pub ahead : List Row
  pub later : List Row
  pub holds : Holds (four h k marks values) counts (ahead ++ (rows (suc d) p ++ later))
  pub counted : count ≡ counts.rows
  pub here : from ≡ length ahead
  pub ends : Shallow d later

-- a place's own row stands here
pub record Owns (h v : List ℕ) (at : Position) (p : Place) : Type 0 where
  pub keys : List ℕ
  pub marks : List ℕ
  pub counts : Counts
  pub depth : ℕ
  pub spot : Spot
  pub ahead : List Row
  pub later : List Row
  pub holds : Holds (four h keys marks v) counts (ahead ++ row_of depth spot p ∷ later)
  pub here : at ≡ behind ahead
  pub valid : ValidValues (row_of depth spot p)

-- What is read of a place that stands so.
pub record Lists (Stands : Place → Type 0) (find : Place → Finding) (before : List ℕ) (answer : Reading) (after : List ℕ) : Type 0 where
  pub lists : (p : Place) → Stands p → Answers (find p) before answer after
  pub stays : Refusal (reading_answer answer) → after ≡ before

abbrev pub ListsKeys : List ℕ → List ℕ → ℕ → ℕ → ℕ → List ℕ → Reading → List ℕ → Type 0
ListsKeys h k count from d = Lists (Under h k count from d) (λ p. listed (keys_text (children_of p)))

abbrev pub ListsValues : List ℕ → List ℕ → Position → List ℕ → Reading → List ℕ → Type 0
ListsValues h v at = Lists (Owns h v at) (λ p. listed (values_text (values_of p)))

abbrev pub ListsElement : List ℕ → List ℕ → ℕ → ℕ → ℕ → ℕ → List ℕ → Reading → List ℕ → Type 0
ListsElement h k count from d index = Lists (Under h k count from d) (λ p. nth_text index (present_ids (elements_of p)))
