-- The document's tables in lent memory: which words hold which rows.
-- Rows stand in the sheet's order. `heads` has a word a row: depth, side, flags, and how many marks and values the row has. `keys` has
-- three words a row. `marks` has the ids that mark the rows, row after row; `values` six words a value, row after row. So no word names
-- a row by its number: where a row's marks stand is how many the rows before it have, and to open a row moves nothing but rows. Behind
-- the live words a table is zeros, so equal documents have equal memory.
-- Assumes nothing: these are definitions.
use Rattle.std.specs.Prelude.{ℕ, ◌+◌, ◌*◌, ◌/◌, ◌%◌, Bool, true, false, List, [], ◌∷◌, ◌++◌, length}
use Rattle.meaning.specs.Places.{Value}
use Rattle.meaning.specs.Sheet.{Spot, in_map, in_list, Row}
use Rattle.words.specs.Words as words
use Rattle.readers.specs.Words.{key_words, plain_words}
use Rattle.tables.specs.declared.Tables.{Tables}
use Rattle.tables.specs.declared.Side.{Side}
use Rattle.tables.specs.declared.Side.TheVariants as S

abbrev pub bit : Bool → ℕ
bit true = 1
bit false = 0

abbrev pub side : Spot → ℕ
side (in_map k) = 0
side (in_list i) = 1

-- the branch that a row hangs in, and the side's number in a head's word
abbrev pub hangs : Spot → Side
hangs (in_map k) = S.Map
hangs (in_list i) = S.List

abbrev pub side_number : Side → ℕ
side_number S.Map = 0
side_number S.List = 1

-- depth, side, the flags of map and list, the number of marks, the number of values
abbrev pub head_word : Row → ℕ
head_word r =
    r.depth + 16 * side r.spot + 32 * bit r.map + 64 * bit r.list + 128 * length r.marks + 262144 * length r.values

-- what a head's word says
abbrev pub depth_in : ℕ → ℕ
depth_in h = h % 16

abbrev pub side_in : ℕ → ℕ
side_in h = h / 16 % 2

abbrev pub map_in : ℕ → ℕ
map_in h = h / 32 % 2

abbrev pub list_in : ℕ → ℕ
list_in h = h / 64 % 2

abbrev pub marks_at : ℕ → ℕ
marks_at h = h / 128 % 2048

abbrev pub values_at : ℕ → ℕ
values_at h = h / 262144 % 512

-- a key's words, or an element id
abbrev pub spot_words : Spot → List ℕ
spot_words (in_map k) = key_words k
spot_words (in_list i) = i ∷ 0 ∷ 17 ∷ []

-- a value: its id, and the words of the plain value
abbrev pub value_words : Value → List ℕ
value_words v = v.id ∷ plain_words v.val

unfoldable pub each_value : List Value → List ℕ
each_value [] = []
each_value (v ∷ vs) = value_words v ++ each_value vs

-- the live words of some rows
unfoldable pub heads_of : List Row → List ℕ
heads_of [] = []
heads_of (r ∷ rs) = head_word r ∷ heads_of rs

unfoldable pub keys_of : List Row → List ℕ
keys_of [] = []
keys_of (r ∷ rs) = spot_words r.spot ++ keys_of rs

unfoldable pub marks_of : List Row → List ℕ
marks_of [] = []
marks_of (r ∷ rs) = r.marks ++ marks_of rs

unfoldable pub values_of : List Row → List ℕ
values_of [] = []
values_of (r ∷ rs) = each_value r.values ++ values_of rs

-- live words, then zeros
abbrev pub pad : ℕ → List ℕ → List ℕ
pad n live = words.pad n live

-- the tables that hold some rows, of the lengths of T
unfoldable pub storing : Tables → List Row → Tables
storing T rs = record {
  heads = pad (length T.heads) (heads_of rs);
  keys = pad (length T.keys) (keys_of rs);
  marks = pad (length T.marks) (marks_of rs);
  values = pad (length T.values) (values_of rs);
}
