-- Document 01, "Reads": a place is looked for along a read's way. The promise says: if the tables hold a document's rows, the answer is
-- that of the document, and the place that is present stands where it is said to.
-- Assumes nothing: these are definitions.
use Rattle.std.specs.Prelude.{ℕ, suc, ◌+◌, ◌≤◌, ◌≡◌, List, ◌++◌, Result, Ok, Err}
use Rattle.meaning.specs.Places.{Place, Document}
use Rattle.meaning.specs.Read.{Trail, trail_steps, ValidTrail, PlaceWay, ValidPlaceWay, Sought, missing, without_marks, present}
use Rattle.meaning.specs.Read.{entered, follow, seek}
use Rattle.meaning.specs.Sheet.{Spot, Row, rows_of}
use Rattle.meaning.specs.Sheet as Sheet
use Rattle.rows.specs.Spans.{Shallow}
use Rattle.rows.specs.Sought.{place_at, Stands}
use Rattle.readers.specs.Words.{key_words}
use Rattle.message.specs.Means.{trail_words}
use Rattle.tables.specs.Words.{spot_words}
use Rattle.tables.specs.Finds.{GoodSpot}
use Rattle.tables.specs.Standing.{behind}
use Rattle.tables.specs.Holding.{Holds, four}
use Rattle.tables.specs.declared.Counts.{Counts}
use Rattle.tables.specs.declared.Position.{Position}
use Rattle.finder.specs.declared.Absence.{Absence}
use Rattle.finder.specs.declared.Absence.TheVariants as F

-- where a way leads: the last place on it stands here, or why it is absent
abbrev pub Followed : Type 0
Followed = Result Position Absence

-- the place that is present is of depth n, and stands here
pub record StandsHere (rs : List Row) (n : ℕ) (at : Position) (s : Sought) : Type 0 where
  pub place : Place
  pub spot : Spot
  pub front : List Row
  pub is : s ≡ present place
  pub here : at ≡ behind front
  pub stands : Stands rs front n spot place

-- among the rows rs, the way leads to this
abbrev pub Leads : List Row → ℕ → Followed → Sought → Type 0
Leads rs n (Err F.Missing) s = s ≡ missing
Leads rs n (Err F.WithoutMarks) s = s ≡ without_marks
Leads rs n (Ok at) s = StandsHere rs n at s

abbrev pub Follows : List ℕ → List ℕ → ℕ → List ℕ → Followed → Type 0
Follows h k rows words r =
    (m v : List ℕ) (c : Counts) (D : Document) (w : PlaceWay) → Holds (four h k m v) c (rows_of D) → rows ≡ c.rows
    → words ≡ key_words w.top ++ trail_words w.trail → ValidPlaceWay w
    → Leads (rows_of D) (suc (trail_steps w.trail)) r (seek w D)

-- From the place x on, whose children have depth n and whose rows begin at `from`: the words are a way's that goes by p, and then on by t.
pub record OnWay (h k : List ℕ) (rows : ℕ) (from : Position) (n : ℕ) (words : List ℕ) (rs : List Row) (x : Place) (p : Spot) (t : Trail)
    : Type 0 where
  pub marks : List ℕ
  pub values : List ℕ
  pub counts : Counts
  pub holds : Holds (four h k marks values) counts rs
  pub rows_are : rows ≡ counts.rows
  pub front : List Row
  pub back : List Row
  pub all : rs ≡ front ++ (Sheet.rows n x ++ back)
  pub here : from ≡ behind front
  pub depth : ℕ
  pub deeper : n ≡ suc depth
  pub ends : Shallow depth back
  pub way : words ≡ spot_words p ++ trail_words t
  pub good : GoodSpot p
  pub valid : ValidTrail t
  pub few : n + trail_steps t ≤ 8

abbrev pub FollowsUnder : List ℕ → List ℕ → ℕ → Position → ℕ → List ℕ → Followed → Type 0
FollowsUnder h k rows from n words r =
    (rs : List Row) (x : Place) (p : Spot) (t : Trail) → OnWay h k rows from n words rs x p t
    → Leads rs (n + trail_steps t) r (entered (follow t) (place_at p x))
