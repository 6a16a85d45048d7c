-- Where a new element comes, in tables that hold rows: h and k are the words of heads and keys, c the counts; A are the rows before, B
-- those behind.
-- Assumes nothing: these are definitions.
use Rattle.std.specs.Prelude.{ℕ, ◌≡◌, List, [], ◌∷◌, ◌++◌, Option, None, Some}
use Rattle.meaning.specs.Ways.{Prev}
use Rattle.meaning.specs.Sheet.{Row}
use Rattle.rows.specs.Blocks.{passed, rest, deeper, insert_rows}
use Rattle.message.specs.Means.{prev_words}
use Rattle.tables.specs.Standing.{behind}
use Rattle.tables.specs.Holding.{Holds, four}
use Rattle.tables.specs.declared.Counts.{Counts}
use Rattle.tables.specs.declared.Position.{Position}

-- the rows before it and beyond
pub record Sits (n i : ℕ) (p : Prev) (at : Position) (A B : List Row) : Type 0 where
  pub before : List Row
  pub beyond : List Row
  pub rows : B ≡ before ++ beyond
  pub here : at ≡ behind (A ++ before)
  pub ends : passed (deeper n) beyond ≡ []
  pub stays : rest (deeper n) beyond ≡ beyond
  pub inserts : (new : List Row) → insert_rows n p i new B ≡ before ++ (new ++ beyond)

-- the predecessor isn't there
abbrev pub SitsNot : ℕ → ℕ → Prev → List Row → Type 0
SitsNot n i p B = (new : List Row) → insert_rows n p i new B ≡ B

-- it comes here if the predecessor is there, and nowhere if not
abbrev pub SitsIf : ℕ → ℕ → Prev → Option Position → List Row → List Row → Type 0
SitsIf n i p (Some at) A B = Sits n i p at A B
SitsIf n i p None A B = SitsNot n i p B

abbrev pub Seats : ℕ → ℕ → ℕ → ℕ → ℕ → Position → List ℕ → List ℕ → Option Position → Type 0
Seats n hi len i rows from h k x =
    (m v : List ℕ) (c : Counts) (A B : List Row) (p : Prev) → Holds (four h k m v) c (A ++ B) → rows ≡ c.rows → from ≡ behind A
    → hi ∷ 0 ∷ len ∷ [] ≡ prev_words p → SitsIf n i p x A B
