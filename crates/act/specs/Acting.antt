-- What is done at the way's end, in tables that hold rows: h, k, m, v are the words of heads, keys, marks and values, primed ones those
-- afterwards; c and e the counts before and after; A are the rows before, B or R those behind.
-- Assumes nothing: these are definitions.
use Rattle.std.specs.Prelude.{ℕ, ◌+◌, ◌-◌, ◌≤◌, ◌<◌, ◌≡◌, cond, List, [], ◌∷◌, ◌++◌}
use Rattle.meaning.specs.Ways.{Prev, Assigned, Way}
use Rattle.meaning.specs.Valid.{ValidAssigned, ValidWay}
use Rattle.meaning.specs.Sheet.{in_list, Row}
use Rattle.rows.specs.Blocks.{passed, rest, Block, join, deeper, give_block, run_block, insert_rows}
use Rattle.rows.specs.Counting.{Fresh, new_block}
use Rattle.readers.specs.Given.{given_of}
use Rattle.readers.specs.declared.Given.{Given}
use Rattle.message.specs.Means.{prev_words, way_words, deed_of}
use Rattle.message.specs.declared.Deed.{Deed}
use Rattle.message.specs.declared.Deed.TheVariants as D
use Rattle.words.specs.Gap.{Leaves}
use Rattle.tables.specs.declared.Tables.{Tables}
use Rattle.tables.specs.Standing.{behind}
use Rattle.tables.specs.Holding.{Holds, four}
use Rattle.tables.specs.declared.Counts.{Counts}
use Rattle.tables.specs.declared.Position.{Position}
use Rattle.deeds.specs.Deeds.{is_delete}
use Rattle.message.specs.declared.Act.{Act}

-- the block of the row r, which stands before the rows R
abbrev pub block_at : ℕ → Row → List Row → Block
block_at n r R = record { own = r; under = passed (deeper n) R }

-- room for so many more rows, marks and values
pub record Spare (c : Counts) (rows marks values : ℕ) : Type 0 where
  pub rows_spare : c.rows + rows ≤ 264
  pub marks_spare : c.marks + marks ≤ 1032
  pub values_spare : c.values + values ≤ 257

-- the tables hold these rows, with at most so many more rows, marks and values
pub record Does (U : Tables) (c e : Counts) (rows marks values : ℕ) (rs : List Row) : Type 0 where
  pub holds : Holds U e rs
  pub rows_more : e.rows ≤ c.rows + rows
  pub marks_more : e.marks ≤ c.marks + marks
  pub values_more : e.values ≤ c.values + values

-- What is done at a row, which r stands for. The marks of the places on the way, n with that of r at depth n, are put in one after another
-- through a gap in the marks (words/specs/Gap): p is where it stands before, p' afterwards.

-- how many of n marks are put in: none by a delete
unfoldable pub marks_by : Deed → ℕ → ℕ
marks_by deed n = cond (is_delete deed) 0 n

-- something is assigned
abbrev pub Gives : ℕ → List ℕ → Given → ℕ → Position → Counts → List ℕ → List ℕ → List ℕ → Counts → ℕ → List ℕ → List ℕ → List ℕ
    → Type 0
Gives i d g n s c h m v e p' h' m' v' =
    (k : List ℕ) (A R : List Row) (r : Row) (a : Assigned) → Holds (four h k m v) c (A ++ r ∷ R) → s ≡ behind A
    → ValidAssigned a → g ≡ given_of a → Fresh i (r ∷ []) → 0 < n → Spare c 0 n 1
    → Leaves (n - 1) s.mark p' m' (λ t. Does (four h' k t v') c e 0 1 1
    (A ++ (join (give_block i d a (block_at r.depth r R)) ++ rest (deeper r.depth) R)))

-- the way ends at r
abbrev pub Finishes : Act → ℕ → Position → Counts → List ℕ → List ℕ → List ℕ → Counts → ℕ → List ℕ → List ℕ → List ℕ → Type 0
Finishes o n s c h m v e p' h' m' v' =
    (k : List ℕ) (A R : List Row) (r : Row) (w : Way) → Holds (four h k m v) c (A ++ r ∷ R) → s ≡ behind A
    → way_words w ≡ [] → ValidWay w → o.deed ≡ deed_of w → Fresh o.id (r ∷ []) → 0 < n → Spare c 0 n 1
    → Leaves (marks_by o.deed (n - 1)) s.mark p' m' (λ t. Does (four h' k t v') c e 0 1 1
    (A ++ (join (run_block o.id o.deps.at r.depth w (block_at r.depth r R)) ++ rest (deeper r.depth) R)))

-- the tables with other marks
abbrev pub with_marks : Tables → List ℕ → Tables
with_marks U t = four U.heads U.keys t U.values

-- a new element is put in behind its predecessor
abbrev pub Inserts : Act → ℕ → ℕ → ℕ → Position → Counts → Tables → Counts → ℕ → Tables → Type 0
Inserts o n hi len from c T e p' U =
    (A B : List Row) (p : Prev) (a : Assigned) → Holds T c (A ++ B) → from ≡ behind A → hi ∷ 0 ∷ len ∷ [] ≡ prev_words p
    → ValidAssigned a → o.deed ≡ D.Insert (given_of a) → n ≤ 8 → Fresh o.id B → 0 < n → Spare c 1 n 1
    → Leaves (n - 1) from.mark p' U.marks (λ t. Does (with_marks U t) c e 1 1 1
    (A ++ insert_rows n p o.id (join (give_block o.id o.deps.at a (new_block n (in_list o.id)))) B))
