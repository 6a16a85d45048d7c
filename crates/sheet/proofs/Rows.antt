-- A row and the sheet, piece by piece.
-- Assumes nothing.
use Prim.Native.Nat.{ℕ, ◌+◌, ◌*◌, ◌-◌, ◌≤◌, ◌<◌}
use native.Mathlib.Omega.{arith}
use mathlib.Core.Path.{◌≡◌, refl, sym}
use mathlib.Core.List.{List, ◌++◌}
use Rattle.meaning.specs.Ascii.{ascii}
use Rattle.meaning.specs.Sheet.{line_text, seen_line, place_line, end_line}
use Rattle.readers.specs.declared.Key.{Key}
use Rattle.lines.specs.Spots.{spot_of}
use Rattle.tables.specs.declared.Tables.{Tables}
use Rattle.tables.specs.Heads.{head_in, key_at}
use Rattle.tables.specs.Standing.{first}
use Rattle.tables.specs.declared.Head.{Head}
use Rattle.tables.specs.declared.Position.{Position}
use Rattle.sheet.specs.Texts.{spot_in, place_text, marks_text, values_text, head_at, row_text, rows_text, sheet_text}

-- a row, whose head was read, and the sheet, in pieces
pub row_text_lem : (T : Tables) (s : Position) {h : Head} → h ≡ head_in (head_at T s)
    → row_text T s
    ≡ place_text h T.keys s.row ++ (marks_text T.marks s.mark h.marks ++ values_text T.values s.value h.values)
unfolding row_text
row_text_lem T s e = rw e

pub sheet_text_lem : (T : Tables) (rows : ℕ) (seen : List ℕ)
    → sheet_text T rows seen ≡ ascii "sheet=1\n" ++ (line_text (seen_line seen) ++ (rows_text T first rows ++ line_text (end_line rows)))
unfolding sheet_text line_text
sheet_text_lem T rows seen = refl
