-- What the single steps over the tables promise: if the tables held these rows, they hold those afterwards. A step changes one row, or
-- opens one.
-- h, k, m, v are the words of the tables heads, keys, marks, values; primed ones are those afterwards; c and e the counts before and after.
-- A table that a step isn't lent is any, and the same afterwards. Memory that holds no rows is promised nothing.
-- Assumes nothing: these are definitions.
use Rattle.std.specs.Prelude.{ℕ, ◌+◌, ◌-◌, ◌≤◌, ◌<◌, ◌≡◌, List, ◌∷◌, ◌++◌, length}
use Rattle.meaning.specs.Members.{Has, own}
use Rattle.meaning.specs.Sheet.{Spot, Row}
use Rattle.rows.specs.Blocks.{new_row, mark_row}
use Rattle.words.specs.Gap.{Gap, Leaves}
use Rattle.tables.specs.Words.{hangs, spot_words}
use Rattle.tables.specs.Finds.{GoodSpot}
use Rattle.tables.specs.Standing.{behind}
use Rattle.tables.specs.Holding.{Holds, four, flag_row}
use Rattle.tables.specs.declared.Counts.{Counts}
use Rattle.tables.specs.declared.Position.{Position}
use Rattle.tables.specs.declared.Side.{Side}

-- the flag of a branch is set
unfoldable pub Flags : Side → ℕ → List ℕ → List ℕ → Type 0
Flags side row h h' =
    (k m v : List ℕ) (c : Counts) (A R : List Row) (r : Row) → Holds (four h k m v) c (A ++ r ∷ R) → row ≡ length A
    → Holds (four h' k m v) c (A ++ flag_row side r ∷ R)

-- a new row stands before row `at`; p's three words are w
unfoldable pub Opens : ℕ → ℕ → Side → List ℕ → Counts → List ℕ → List ℕ → Counts → List ℕ → List ℕ → Type 0
Opens at depth s w c h k e h' k' =
    (m v : List ℕ) (A R : List Row) (p : Spot) → Holds (four h k m v) c (A ++ R) → at ≡ length A → c.rows < 264 → depth ≤ 8 → GoodSpot p
    → spot_words p ≡ w → s ≡ hangs p → Holds (four h' k' m v) e (A ++ new_row depth p ∷ R)

-- The row r has a mark more. The marks are lent with a gap of g words in them, from p on, behind the marks of r; afterwards the gap is
-- one word smaller and stands from p' on, behind the marks before r.
unfoldable pub Marks : Position → ℕ → Counts → ℕ → ℕ → List ℕ → List ℕ → Counts → ℕ → List ℕ → List ℕ → Type 0
Marks s id c p g h m e p' h' m' =
    (k t v : List ℕ) (A R : List Row) (r : Row) → Gap g p m t → Holds (four h k t v) c (A ++ r ∷ R) → s ≡ behind A
    → (Has own id r.marks → ⊥) → c.marks < 1032 → 0 < g → s.mark + length r.marks ≤ p
    → Leaves (g - 1) s.mark p' m' (λ t. Holds (four h' k t v) e (A ++ mark_row id r ∷ R))
