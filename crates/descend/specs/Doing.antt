-- What following a way promises of tables that hold rows: h, k, m, v are the words of heads, keys, marks and values, primed ones
-- those afterwards; c and e the counts before and after; A are the rows before, B or R those behind.
-- Assumes nothing: these are definitions.
use Rattle.std.specs.Prelude.{ℕ, ◌+◌, ◌-◌, ◌≤◌, ◌<◌, ◌≡◌, Bool, true, cond, List, ◌∷◌, ◌++◌, [], length, ltb, Option, None, Some}
use Rattle.meaning.specs.Ways.{Way, steps}
use Rattle.meaning.specs.Valid.{ValidWay}
use Rattle.meaning.specs.Sheet.{Spot, Row}
use Rattle.rows.specs.Blocks.{Block}
use Rattle.rows.specs.Counting.{Fresh}
use Rattle.rows.specs.Within.{under_rows, of_list, enter_row}
use Rattle.message.specs.Means.{way_words, deed_of}
use Rattle.words.specs.Gap.{Gap, Leaves}
use Rattle.readers.specs.Hex.{words_in}
use Rattle.tables.specs.Words.{hangs, spot_words}
use Rattle.tables.specs.declared.Tables.{Tables}
use Rattle.tables.specs.Finds.{GoodSpot, Agrees, Tells}
use Rattle.tables.specs.Standing.{behind}
use Rattle.tables.specs.Holding.{Holds, four}
use Rattle.tables.specs.declared.Counts.{Counts}
use Rattle.tables.specs.declared.Position.{Position}
use Rattle.tables.specs.declared.Search.{Search}
use Rattle.act.specs.Acting.{Spare, Does, marks_by, with_marks}
use Rattle.message.specs.declared.Act.{Act}
use Rattle.descend.specs.Reach.{Reached, changing}
use Rattle.tables.specs.declared.Side.{Side}
use Rattle.tables.specs.declared.Side.TheVariants as S

-- The child that a search leads to.

-- it can be made
pub record Making (w : Search) (p : Spot) (c : Counts) : Type 0 where
  pub words : spot_words p ≡ words_in w.key
  pub good : GoodSpot p
  pub under : S.Map ≡ hangs p
  pub deep : w.depth ≤ 8
  pub room : c.rows < 264

-- the search led to the row at a place, with which the counts are e
pub record Arrives (T : Tables) (c : Counts) (at : Position) (e : Counts) (n : ℕ) (change : (Block → Block) → List Row) (A B : List Row)
    : Type 0 where
  pub before : List Row
  pub row : Row
  pub beyond : List Row
  pub holds : Holds T e (A ++ (before ++ row ∷ beyond))
  pub here : at ≡ behind (A ++ before)
  pub reached : Reached n change before row beyond
  pub fresh : (i : ℕ) → Fresh i B → Fresh i (row ∷ beyond)
  pub rows_more : e.rows ≤ c.rows + 1
  pub marks_same : e.marks ≡ c.marks
  pub values_same : e.values ≡ c.values

-- or nowhere, and nothing is changed
pub record Stays (T U : Tables) (change : (Block → Block) → List Row) (B : List Row) : Type 0 where
  pub same : U ≡ T
  pub nothing : (f : Block → Block) → change f ≡ B

abbrev pub Lands : Tables → Tables → Counts → ℕ → ((Block → Block) → List Row) → List Row → List Row → Option (Position × Counts) → Type 0
Lands T U c n change A B (Some x) = Arrives U c x.0 x.1 n change A B
Lands T U c n change A B None = Stays T U change B

abbrev pub Leads : Search → Bool → Counts → Position → Tables → Tables → Option (Position × Counts) → Type 0
Leads w make c from T U x =
    (A B : List Row) (pass meant : Spot → Bool) (p : Spot) → Holds T c (A ++ B) → from ≡ behind A
    → Agrees w pass → Tells w meant → (make ≡ true → Making w p c)
    → Lands T U c w.depth (changing w.depth pass meant make p B) A B x

-- the same of heads and keys alone, whatever marks and values stand beside them
abbrev pub LeadsIn : Search → Bool → Counts → Position → List ℕ → List ℕ → List ℕ → List ℕ → Option (Position × Counts) → Type 0
LeadsIn w make c from h k h' k' x = (m v : List ℕ) → Leads w make c from (four h k m v) (four h' k' m v) x

-- the branch that a key is of, by its third word, and the branch that a way goes into
abbrev pub side_by : ℕ → Side
side_by len = cond (ltb 16 len) S.List S.Map

abbrev pub way_side : Way → Side
way_side w = cond (of_list w) S.List S.Map

-- The way goes on from r, into its list or its map. The marks of the places on the way are put in through a gap in the marks
-- (act/specs/Acting), which stands behind the marks of r.
abbrev pub Enters : Act → Side → ℕ → Position → Counts → ℕ → List ℕ → List ℕ → Counts → ℕ → List ℕ → List ℕ → Type 0
Enters o side n s c p h m e p' h' m' =
    (k t v : List ℕ) (A R : List Row) (r : Row) (w : Way) → Gap (marks_by o.deed n) p m t → Holds (four h k t v) c (A ++ r ∷ R)
    → s ≡ behind A → side ≡ way_side w → o.deed ≡ deed_of w → Fresh o.id (r ∷ []) → Spare c 0 1 0 → 0 < n
    → s.mark + length r.marks ≤ p
    → Leaves (marks_by o.deed (n - 1)) s.mark p' m' (λ t. Does (four h' k t v) c e 0 1 0 (A ++ enter_row o.id w r ∷ R))

-- What is done among the rows B behind a place, its children of depth n first.

-- the way is followed; marks of n - 1 places above are left to be put in
abbrev pub Descends : Act → ℕ → List ℕ → Position → Counts → Tables → Counts → ℕ → Tables → Type 0
Descends o n ks from c T e p' U =
    (A B : List Row) (w : Way) → Holds T c (A ++ B) → from ≡ behind A → ks ≡ way_words w → ValidWay w
    → o.deed ≡ deed_of w → n + steps w ≤ 9 → Fresh o.id B → 0 < n → Spare c (steps w) (n - 1 + steps w) 1
    → Leaves (marks_by o.deed (n - 1)) from.mark p' U.marks (λ t. Does (with_marks U t) c e (steps w) (steps w) 1
    (A ++ under_rows o.id o.deps.at n w B))
