-- Searching the rows on their words: which rows are gone over, where the search stops, and whether what was looked for stands there.
-- Assumes nothing: these are definitions.
use Rattle.std.specs.Prelude.{ℕ, ◌+◌, ◌*◌, ◌≤◌, ◌≡◌, Bool, true, false, cond, not, List, [], ◌∷◌, ltb, eqb, length, get_or, take, drop}
use Rattle.std.specs.declared.cmp.Ordering.{Ordering}
use Rattle.std.specs.declared.cmp.Ordering.TheVariants as O
use Rattle.std.specs.Ordering.{is_gt, is_eq}
use Rattle.meaning.specs.Places.{Turn, before, equal, beyond, order}
use Rattle.tables.specs.Either.{either}
use Rattle.readers.specs.Hex.{words_in}
use Rattle.readers.specs.declared.Key.{Key}
use Rattle.tables.specs.Words.{marks_at, values_at}
use Rattle.tables.specs.Heads.{head_in, key_in}
use Rattle.tables.specs.declared.Head.{Head}
use Rattle.tables.specs.declared.Aim.{Aim}
use Rattle.tables.specs.declared.Aim.TheVariants as A
use Rattle.tables.specs.declared.Position.{Position}
use Rattle.tables.specs.declared.Search.{Search}
use Rattle.tables.specs.declared.Side.{Side}
use Rattle.tables.specs.declared.Side.TheVariants as S

-- what is looked for, beside the key k
abbrev pub turn : Key → Key → Turn
turn w k = order (words_in w) (words_in k)

-- the turn as std's order
abbrev pub ordering_of : Turn → Ordering
ordering_of before = O.Less
ordering_of equal = O.Equal
ordering_of beyond = O.Greater

-- Of the rows of the depth that is looked at, those that are gone over, by what is looked for: under a map or a list.
abbrev pub passing : Aim → Side → Key → Key → Bool
passing A.Key S.Map w k = is_gt (ordering_of (turn w k))
passing A.Key S.List w k = false
passing A.Element S.Map w k = true
passing A.Element S.List w k = not (eqb w.hi k.hi)
passing A.Seat S.Map w k = false
passing A.Seat S.List w k = ltb w.hi k.hi
passing A.FirstSeat S.Map w k = true
passing A.FirstSeat S.List w k = ltb w.hi k.hi
passing A.End s w k = false

unfoldable pub passes_one : Search → Side → Key → Bool
passes_one w s k = passing w.aim s w.key k

-- deeper rows hang under one that was gone over
unfoldable pub goes_over : Search → Head → Key → Bool
goes_over w h k = cond (ltb w.depth h.depth) true (cond (eqb h.depth w.depth) (passes_one w h.side k) false)

-- the row that is looked for: a key, or an element
abbrev pub meant : Aim → Side → Key → Key → Bool
meant A.Key S.Map w k = is_eq (ordering_of (turn w k))
meant A.Key S.List w k = false
meant A.Element S.Map w k = false
meant A.Element S.List w k = eqb w.hi k.hi
meant A.Seat s w k = false
meant A.FirstSeat s w k = false
meant A.End s w k = false

unfoldable pub is_sought : Search → Head → Key → Bool
is_sought w h k = cond (eqb h.depth w.depth) (meant w.aim h.side w.key k) false

-- one row further
abbrev pub further : Position → ℕ → Position
further s h = record { row = s.row + 1; mark = s.mark + marks_at h; value = s.value + values_at h }

-- at most 1024 rows are before it, by the greatest counts that their heads can give them
pub record Few (s : Position) : Type 0 where
  pub row : s.row ≤ 1024
  pub mark : s.mark ≤ 2097152
  pub value : s.value ≤ 524288

-- r is the place behind the row at s
abbrev pub Passes : List ℕ → Position → Position → Type 0
Passes heads s r = Few s → r ≡ further s (get_or heads s.row 0)

-- where the search through these heads and keys stops, which begin at s
unfoldable pub seek_words : Search → List ℕ → List ℕ → Position → Position
seek_words w [] ks s = s
seek_words w (h ∷ hs) ks s = elim (goes_over w (head_in h) (key_in ks)) [ true ↦ seek_words w hs (drop 3 ks) (further s h) | false ↦ s ]

-- there are so many rows, and the search begins at one of them or behind the last; no sum of counts is too large
pub record Searches (heads keys : List ℕ) (rows : ℕ) (s : Position) : Type 0 where
  pub in_heads : rows ≤ length heads
  pub in_keys : 3 * rows ≤ length keys
  pub few : rows ≤ 1024
  pub begins : s.row ≤ rows
  pub marks : s.mark ≤ 2048 * s.row
  pub values : s.value ≤ 512 * s.row

-- a test says whether something holds
abbrev pub holds_if : Bool → Type 0 → Type 0
holds_if b P = either b P (P → ⊥)

-- in tables with this many rows
abbrev pub sought : Search → List ℕ → List ℕ → ℕ → Position → Position
sought w heads keys rows s = seek_words w (drop s.row (take rows heads)) (drop (3 * s.row) keys) s
