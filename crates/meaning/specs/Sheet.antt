-- Document 01, "The saved sheet": what is saved, as rows, as lines, and as text.
-- Assumes nothing: these are definitions.
use Rattle.std.specs.Prelude.{ℕ, suc, Bool, true, false, cond, List, [], ◌∷◌, ◌++◌, map, ltb, length}
use Rattle.meaning.specs.Ascii.{ascii}
use Rattle.meaning.specs.Places.{Value, Place, place, Children, childless, child, Elements, empty, element, Document}
use Rattle.meaning.specs.Text.{decimal, id_text, counters_text, hex, stored_text, over}
use Rattle.meaning.specs.Answers.{Answer, done, short}

-- where a place hangs: under the parent's map by a key, or under its list by an element id
pub data Spot : Type 0 where
  in_map : List ℕ → Spot
  in_list : ℕ → Spot

-- a place as it is saved, without what hangs under it
pub record Row : Type 0 where
  pub depth : ℕ
  pub spot : Spot
  pub map : Bool
  pub list : Bool
  pub marks : List ℕ
  pub values : List Value

abbrev pub row_of : ℕ → Spot → Place → Row
row_of n s (place m l ms vs ks es) = record { depth = n; spot = s; map = m; list = l; marks = ms; values = vs }

-- A place precedes what hangs under it; map children first in key order, then elements in list order. These are the rows of what hangs
-- under a place, whose children have depth n.
unfoldable mutual
  pub rows : ℕ → Place → List Row
  rows n (place m l ms vs ks es) = rows_children n ks ++ rows_elements n es

  pub rows_children : ℕ → Children → List Row
  rows_children n childless = []
  rows_children n (child k c ks) = row_of n (in_map k) c ∷ (rows (suc n) c ++ rows_children n ks)

  pub rows_elements : ℕ → Elements → List Row
  rows_elements n empty = []
  rows_elements n (element i c es) = row_of n (in_list i) c ∷ (rows (suc n) c ++ rows_elements n es)

unfoldable pub rows_of : Document → List Row
rows_of D = rows_children 1 D.root

pub data Line : Type 0 where
  sheet_line : Line
  seen_line : List ℕ → Line
  place_line : ℕ → Spot → Bool → Bool → Line
  mark_line : ℕ → Line
  value_line : Value → Line
  end_line : ℕ → Line

-- which branches are known: none, the map, the list, both
abbrev pub flags_text : Bool → Bool → List ℕ
flags_text false false = ascii "-"
flags_text true false = ascii "m"
flags_text false true = ascii "l"
flags_text true true = ascii "b"

-- the parent's branch, the flags, and the key in hex or the element id
unfoldable pub spot_text : Spot → List ℕ → List ℕ
spot_text (in_map k) flags = ascii "{" ++ (flags ++ hex k)
spot_text (in_list i) flags = ascii "[" ++ (flags ++ id_text i)

unfoldable pub line_text : Line → List ℕ
line_text sheet_line = ascii "sheet=1\n"
line_text (seen_line s) = ascii "seen=" ++ (counters_text s ++ ascii "\n")
line_text (place_line n p m l) = ascii "place=" ++ (decimal n ++ (spot_text p (flags_text m l) ++ ascii "\n"))
line_text (mark_line i) = ascii "mark=" ++ (id_text i ++ ascii "\n")
line_text (value_line v) = ascii "value=" ++ (id_text v.id ++ (ascii ":" ++ (stored_text v.val ++ ascii "\n")))
line_text (end_line n) = ascii "end=" ++ (decimal n ++ ascii "\n")

unfoldable pub lines_text : List Line → List ℕ
lines_text [] = []
lines_text (l ∷ ls) = line_text l ++ lines_text ls

-- the place line, then the marks, then the values
unfoldable pub row_lines : Row → List Line
row_lines r = place_line r.depth r.spot r.map r.list ∷ (map mark_line r.marks ++ map value_line r.values)

unfoldable pub rows_lines : List Row → List Line
rows_lines [] = []
rows_lines (r ∷ rs) = row_lines r ++ rows_lines rs

unfoldable pub sheet_lines : Document → List Line
sheet_lines D = sheet_line ∷ seen_line D.seen ∷ (rows_lines (rows_of D) ++ (end_line (length (rows_of D)) ∷ []))

unfoldable pub sheet : Document → List ℕ
sheet D = lines_text (sheet_lines D)

-- what saving comes to: 13 with the bytes needed and nothing written, or the sheet at the buffer's start
pub record SaveOutcome : Type 0 where
  pub answer : Answer
  pub buffer : List ℕ

unfoldable pub save : Document → List ℕ → SaveOutcome
save D buffer =
    cond (ltb (length buffer) (length (sheet D)))
    (record { answer = short (length (sheet D)); buffer = buffer })
    (record { answer = done 0 0 (length (sheet D)); buffer = over (sheet D) buffer })
