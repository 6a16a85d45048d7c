-- Document 01, "The saved sheet": the text of the tables' words, whatever the words are. A place is a row's head and three key words, a
-- value six words. Behind a table's end its words count as 0, a kind that is none as null, a key that is too long as the empty one.
-- specs/Saving.antt says that of tables that hold a document's rows this is the document's sheet.
-- Assumes nothing: these are definitions.
use Rattle.std.specs.Prelude.{ℕ, suc, ◌+◌, ◌*◌, ◌≤◌, cond, List, ◌++◌, ltb, eqb, get_or}
use Rattle.std.proofs.Common.{arith}
use Rattle.meaning.specs.Ascii.{ascii}
use Rattle.meaning.specs.Sheet.{line_text, sheet_line, seen_line, place_line, mark_line, end_line}
use Rattle.writers.specs.Texts.{texts}
use Rattle.lines.specs.Spots.{spot_of}
use Rattle.lines.specs.declared.place.Spot.{Spot}
use Rattle.lines.specs.declared.place.Spot.TheVariants.{Key, Element}
use Rattle.tables.specs.Words.{marks_at, values_at}
use Rattle.tables.specs.declared.Tables.{Tables}
use Rattle.tables.specs.Heads.{head_in, key_at}
use Rattle.listings.specs.Texts.{values_from}
use Rattle.readers.specs.declared.Key.{Key as KeyWords}
use Rattle.tables.specs.Seek.{further}
use Rattle.tables.specs.Standing.{first}
use Rattle.tables.specs.declared.Head.{Head}
use Rattle.tables.specs.declared.Side.{Side}
use Rattle.tables.specs.declared.Side.TheVariants as S
use Rattle.tables.specs.declared.Position.{Position}

-- where a row hangs, by its side and its key's words
unfoldable pub spot_in : Side → KeyWords → Spot
spot_in S.List k = Element k.hi
spot_in S.Map k = cond (ltb 16 k.len) (Key (record { hi = k.hi; lo = k.lo; len = 0 })) (Key k)

-- the place line of row n, whose head is h
unfoldable pub place_text : Head → List ℕ → ℕ → List ℕ
place_text h keys n = line_text (place_line h.depth (spot_of (spot_in h.side (key_at keys n))) h.map h.list)

-- the line of mark i
abbrev pub mark_text : List ℕ → ℕ → List ℕ
mark_text marks i = line_text (mark_line (get_or marks i 0))

-- the lines of n marks, of n values, from one on
abbrev pub marks_text : List ℕ → ℕ → ℕ → List ℕ
marks_text marks = texts (mark_text marks) (λ i. i + 1)

abbrev pub values_text : List ℕ → ℕ → ℕ → List ℕ
values_text values = values_from (ascii "value=") values

-- the head's word of the row at s, the lines of that row, and of n rows from there on
abbrev pub head_at : Tables → Position → ℕ
head_at T s = get_or T.heads s.row 0

unfoldable pub row_text : Tables → Position → List ℕ
row_text T s =
    place_text (head_in (head_at T s)) T.keys s.row
    ++ (marks_text T.marks s.mark (marks_at (head_at T s)) ++ values_text T.values s.value (values_at (head_at T s)))

abbrev pub rows_text : Tables → Position → ℕ → List ℕ
rows_text T = texts (row_text T) (λ s. further s (head_at T s))

-- the sheet, with so many rows
unfoldable pub sheet_text : Tables → ℕ → List ℕ → List ℕ
sheet_text T rows seen = line_text sheet_line ++ (line_text (seen_line seen) ++ (rows_text T first rows ++ line_text (end_line rows)))

-- n rows are to come of at most 264, by the greatest counts that heads can give the rows before them
pub record Near (s : Position) (n : ℕ) : Type 0 where
  pub row : s.row + n ≤ 264
  pub mark : s.mark ≤ 2048 * s.row
  pub value : s.value ≤ 512 * s.row

-- one is here, and the others behind it
pub near-on : (s : Position) (n w : ℕ) → Near s (suc n) → Near s 1 × Near (further s w) n
near-on s n w h = (
  record { row = omega (arith, h.row); mark = h.mark; value = h.value },
  record { row = omega (arith, h.row); mark = omega (arith, h.mark); value = omega (arith, h.value) },
)
