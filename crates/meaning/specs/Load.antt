-- Document 01, "The saved sheet": loading. Each line is judged with those before it. A sheet is accepted if its lines run to the end; else
-- the first line that breaks a rule is the one where no allowed line stands.
-- Assumes nothing: these are definitions.
use Rattle.std.specs.Prelude.{ℕ, suc, ◌+◌, ◌≤◌, ◌<◌, ◌≡◌, true, false, cond, List, [], ◌∷◌, ◌++◌, reverse, ltb, eqb, length}
use Rattle.meaning.specs.Ids.{counter_of, covered}
use Rattle.meaning.specs.Places.{Value, before, order, Document}
use Rattle.meaning.specs.Members.{Has, own, id_of_value}
use Rattle.meaning.specs.Valid.{ValidCounters, ValidKey, ValidStored}
use Rattle.meaning.specs.Sheet.{Spot, in_map, in_list, Row, rows_of, lines_text, line_text}
use Rattle.meaning.specs.Sheet.{Line, sheet_line, seen_line, place_line, mark_line, value_line, end_line}

-- What the lines so far have said.

-- nothing; `sheet=1`; then `seen` and the places so far, the newest first; the same, with `end` read
pub data Loading : Type 0 where
  begin : Loading
  headed : Loading
  reading : List ℕ → List Row → Loading
  ended : List ℕ → List Row → Loading

-- the depth of the place line before, 0 if there is none
abbrev pub last_depth : List Row → ℕ
last_depth [] = 0
last_depth (r ∷ rs) = r.depth

-- the place that one of depth n hangs under: the nearest before it of smaller depth, or the root
pub data Parent : Type 0 where
  root : Parent
  under : Row → Parent

unfoldable pub parent : ℕ → List Row → Parent
parent n [] = root
parent n (r ∷ rs) = elim (ltb r.depth n) [ true ↦ under r | false ↦ parent n rs ]

-- the place that hangs there just before it, if there is one
pub data Elder : Type 0 where
  eldest : Elder
  behind : Row → Elder

unfoldable pub elder : ℕ → List Row → Elder
elder n [] = eldest
elder n (r ∷ rs) =
    elim (ltb r.depth n) [ true ↦ eldest | false ↦ elim (ltb n r.depth) [ true ↦ elder n rs | false ↦ behind r ] ]

-- how often an element id stands in the sheet
abbrev pub is_element : ℕ → Spot → ℕ
is_element e (in_map k) = 0
is_element e (in_list i) = cond (eqb e i) 1 0

unfoldable pub times : ℕ → List Row → ℕ
times e [] = 0
times e (r ∷ rs) = is_element e r.spot + times e rs

unfoldable pub marks_in : List Row → ℕ
marks_in [] = 0
marks_in (r ∷ rs) = length r.marks + marks_in rs

unfoldable pub values_in : List Row → ℕ
values_in [] = 0
values_in (r ∷ rs) = length r.values + values_in rs

-- The rules.

-- an id that stands in a document: its counter is from 1 on, and it is covered by seen
pub record Seen (s : List ℕ) (i : ℕ) : Type 0 where
  pub low : 1 ≤ counter_of i
  pub covers : covered s i ≡ true

-- the parent's flag has the branch; the root is a map
abbrev pub HasBranch : Parent → Spot → Type 0
HasBranch root (in_map k) = Unit {0}
HasBranch root (in_list i) = ⊥
HasBranch (under r) (in_map k) = r.map ≡ true
HasBranch (under r) (in_list i) = r.list ≡ true

-- map children first in key order, each key once, then elements
abbrev pub Ordered : Spot → Spot → Type 0
Ordered (in_map j) (in_map k) = order j k ≡ before
Ordered (in_map j) (in_list i) = Unit {0}
Ordered (in_list e) (in_map k) = ⊥
Ordered (in_list e) (in_list i) = Unit {0}

abbrev pub Follows : Elder → Spot → Type 0
Follows eldest p = Unit {0}
Follows (behind r) p = Ordered r.spot p

-- a key is valid; an element id is covered by seen and doesn't stand in the sheet yet
abbrev pub Named : List ℕ → List Row → Spot → Type 0
Named s rs (in_map k) = ValidKey k
Named s rs (in_list i) = Seen s i × (times i rs ≡ 0)

pub record PlaceRule (s : List ℕ) (rs : List Row) (n : ℕ) (p : Spot) : Type 0 where
  pub limit : length rs < 256
  pub low : 1 ≤ n
  pub high : n ≤ 8
  pub step : n ≤ suc (last_depth rs)
  pub branch : HasBranch (parent n rs) p
  pub order : Follows (elder n rs) p
  pub named : Named s rs p

-- a mark is among the parent's; at depth 1 any
abbrev pub Among : Parent → ℕ → Type 0
Among root i = Unit {0}
Among (under r) i = Has own i r.marks

-- a mark of the newest place r, behind which stand rs
pub record MarkRule (s : List ℕ) (r : Row) (rs : List Row) (i : ℕ) : Type 0 where
  pub limit : marks_in (r ∷ rs) < 1024
  pub seen : Seen s i
  pub early : r.values ≡ []
  pub ascends : (j : ℕ) → Has own j r.marks → j < i
  pub among : Among (parent r.depth rs) i

pub record ValueRule (r : Row) (rs : List Row) (v : Value) : Type 0 where
  pub limit : values_in (r ∷ rs) < 256
  pub valid : ValidStored v.val
  pub ascends : (j : ℕ) → Has id_of_value j r.values → j < v.id
  pub marked : Has own v.id r.marks

-- before the first place there is nothing to mark
abbrev pub MarkHere : List ℕ → List Row → ℕ → Type 0
MarkHere s [] i = ⊥
MarkHere s (r ∷ rs) i = MarkRule s r rs i

abbrev pub ValueHere : List Row → Value → Type 0
ValueHere [] v = ⊥
ValueHere (r ∷ rs) v = ValueRule r rs v

abbrev pub First : Line → Type 0
First sheet_line = Unit {0}
First (seen_line s) = ⊥
First (place_line n p m l) = ⊥
First (mark_line i) = ⊥
First (value_line v) = ⊥
First (end_line n) = ⊥

abbrev pub Second : Line → Type 0
Second sheet_line = ⊥
Second (seen_line s) = ValidCounters s
Second (place_line n p m l) = ⊥
Second (mark_line i) = ⊥
Second (value_line v) = ⊥
Second (end_line n) = ⊥

abbrev pub Later : List ℕ → List Row → Line → Type 0
Later s rs sheet_line = ⊥
Later s rs (seen_line c) = ⊥
Later s rs (place_line n p m l) = PlaceRule s rs n p
Later s rs (mark_line i) = MarkHere s rs i
Later s rs (value_line v) = ValueHere rs v
Later s rs (end_line n) = n ≡ length rs

-- which line may stand next
abbrev pub Allowed : Loading → Line → Type 0
Allowed begin l = First l
Allowed headed l = Second l
Allowed (reading s rs) l = Later s rs l
Allowed (ended s rs) l = ⊥

-- What an allowed line leaves.

abbrev pub add_mark : ℕ → List Row → List Row
add_mark i [] = []
add_mark i (r ∷ rs) =
    record { depth = r.depth; spot = r.spot; map = r.map; list = r.list; marks = r.marks ++ (i ∷ []); values = r.values } ∷ rs

abbrev pub add_value : Value → List Row → List Row
add_value v [] = []
add_value v (r ∷ rs) =
    record { depth = r.depth; spot = r.spot; map = r.map; list = r.list; marks = r.marks; values = r.values ++ (v ∷ []) } ∷ rs

abbrev pub seen_in : Line → Loading
seen_in sheet_line = headed
seen_in (seen_line s) = reading s []
seen_in (place_line n p m l) = headed
seen_in (mark_line i) = headed
seen_in (value_line v) = headed
seen_in (end_line n) = headed

abbrev pub later : List ℕ → List Row → Line → Loading
later s rs sheet_line = reading s rs
later s rs (seen_line c) = reading s rs
later s rs (place_line n p m l) = reading s (record { depth = n; spot = p; map = m; list = l; marks = []; values = [] } ∷ rs)
later s rs (mark_line i) = reading s (add_mark i rs)
later s rs (value_line v) = reading s (add_value v rs)
later s rs (end_line n) = ended s rs

abbrev pub next : Loading → Line → Loading
next begin l = headed
next headed l = seen_in l
next (reading s rs) l = later s rs l
next (ended s rs) l = ended s rs

-- A run of lines.

abbrev pub Runs : Loading → List Line → Type 0
Runs L [] = Unit {0}
Runs L (l ∷ ls) = Allowed L l × Runs (next L l) ls

abbrev pub next_all : Loading → List Line → Loading
next_all L [] = L
next_all L (l ∷ ls) = next_all (next L l) ls

-- the text is accepted, and says the document D
pub record Accepted (text : List ℕ) (D : Document) : Type 0 where
  pub lines : List Line
  pub spells : text ≡ lines_text lines
  pub runs : Runs begin lines
  pub says : next_all begin lines ≡ ended D.seen (reverse (rows_of D))

-- something is wrong with what follows: the sheet hasn't ended, or bytes stand behind its end
abbrev pub Unfinished : Loading → List ℕ → Type 0
Unfinished begin t = Unit {0}
Unfinished headed t = Unit {0}
Unfinished (reading s rs) t = Unit {0}
Unfinished (ended s rs) t = 0 < length t

-- line n is the first that breaks a rule: those before it run, and no allowed line stands there
pub record Broken (text : List ℕ) (n : ℕ) : Type 0 where
  pub lines : List Line
  pub rest : List ℕ
  pub spells : text ≡ lines_text lines ++ rest
  pub runs : Runs begin lines
  pub number : n ≡ suc (length lines)
  pub unfinished : Unfinished (next_all begin lines) rest
  pub never : (l : Line) (t : List ℕ) → Allowed (next_all begin lines) l → rest ≡ line_text l ++ t → ⊥
