-- Document 01, "Reads": what is read under a place of depth d, of the tables' words, whatever the words are. Rows stand in the sheet's
-- order: the rows right behind a place's own row that are deeper hang under it, and those of its map come first. Behind a table's end its
-- words count as 0, and a key that is too long as the empty one, as in the sheet (crate `sheet`, specs/Texts). specs/Lists says that of
-- tables that hold a document's rows this is what document 01 reads.
-- Assumes nothing: these are definitions.
use Rattle.std.specs.Prelude.{ℕ, zero, suc, ◌+◌, ◌*◌, ◌-◌, ◌<◌, ◌≡◌, Bool, true, false, cond, ◌&&◌, ◌||◌, Option, Some, None}
use Rattle.std.specs.Prelude.{List, [], ◌∷◌, ◌++◌, ltb, eqb, get_or}
use Rattle.readers.specs.declared.Key.{Key}
use Rattle.writers.specs.Words.{bytes_of}
use Rattle.writers.specs.Sized.{Sized}
use Rattle.writers.specs.Texts.{texts}
use Rattle.lines.specs.Rows.{key_row, value_of, value_row}
use Rattle.tables.specs.Heads.{head_in, key_at, value_at}
use Rattle.tables.specs.Holding.{heads_room}
use Rattle.tables.specs.declared.Head.{Head}
use Rattle.tables.specs.declared.Side.{Side}
use Rattle.tables.specs.declared.Side.TheVariants as S
use Rattle.listings.specs.declared.Extent.{Extent}

-- what the head of row i says
abbrev pub head_of : List ℕ → ℕ → Head
head_of heads i = head_in (get_or heads i 0)

-- a row right under a place of depth d, in the branch of this side, with a mark
abbrev pub same_side : Side → Side → Bool
same_side S.Map S.Map = true
same_side S.Map S.List = false
same_side S.List S.Map = false
same_side S.List S.List = true

unfoldable pub is_listed : ℕ → Side → Head → Bool
is_listed d side h = eqb h.depth (suc d) && (same_side h.side side && ltb 0 h.marks)

-- Keys.

-- a row of the map: deeper than what is right under the place, or right under it by a key
unfoldable pub of_map : ℕ → Head → Bool
of_map d h = ltb (suc d) h.depth || (eqb h.depth (suc d) && same_side h.side S.Map)

-- how many of the `left` rows from row i on are rows of the map, up to the first that isn't
unfoldable pub map_rows : List ℕ → ℕ → ℕ → ℕ → ℕ
map_rows heads d i zero = zero
map_rows heads d i (suc left) = cond (of_map d (head_of heads i)) (suc (map_rows heads d (i + 1) left)) zero

-- the length of a key
unfoldable pub short_of : ℕ → ℕ
short_of len = cond (ltb 16 len) 0 len

abbrev pub key_bytes : Key → List ℕ
key_bytes k = bytes_of (k.hi ∷ k.lo ∷ []) (short_of k.len)

-- what is read of row i, whose head is h; of row i; and of n rows from row i on
unfoldable pub key_of : Head → List ℕ → ℕ → ℕ → List ℕ
key_of h keys d i = cond (is_listed d S.Map h) (key_row (key_bytes (key_at keys i))) []

abbrev pub key_text : List ℕ → List ℕ → ℕ → ℕ → List ℕ
key_text heads keys d i = key_of (head_of heads i) keys d i

abbrev pub keys_from : List ℕ → List ℕ → ℕ → ℕ → ℕ → List ℕ
keys_from heads keys d = texts (key_text heads keys d) (λ i. i + 1)

-- the map's rows from row `from` on, and the size of their keys
pub record Extends (heads keys : List ℕ) (rows from d : ℕ) (e : Extent) : Type 0 where
  pub span : e.rows ≡ map_rows heads d from (rows - from)
  pub sized : Sized (keys_from heads keys d from e.rows) (33 * e.rows) e.size

-- Values: the value i behind a lead (in a read there is none, in a sheet it is `value=`), and n of them from there on.

abbrev pub value_text : List ℕ → List ℕ → ℕ → List ℕ
value_text lead values i = lead ++ value_row (value_of (value_at values i).id (value_at values i).kind (value_at values i).words)

abbrev pub values_from : List ℕ → List ℕ → ℕ → ℕ → List ℕ
values_from lead values = texts (value_text lead values) (λ i. i + 1)

-- Elements: how many are still to be counted behind a row with this head, if n were before it; and where the n-th from row i on stands
-- among `left` rows, up to the first that isn't under the place.

unfoldable pub still_of : ℕ → Head → ℕ → ℕ
still_of d h n = cond (is_listed d S.List h) (n - 1) n

unfoldable pub nth_row : List ℕ → ℕ → ℕ → ℕ → ℕ → Option ℕ
nth_row heads d n i zero = None
nth_row heads d n i (suc left) =
    cond (ltb d (head_of heads i).depth)
    (cond (eqb (still_of d (head_of heads i) n) 0) (Some i) (nth_row heads d (still_of d (head_of heads i) n) (i + 1) left))
    None

-- one of the rows that have room in the tables
abbrev pub Near : Option ℕ → Type 0
Near (Some row) = row < heads_room
Near None = Unit {0}

pub record IsNth (heads : List ℕ) (rows from d index : ℕ) (r : Option ℕ) : Type 0 where
  pub is : r ≡ nth_row heads d index from (rows - from)
  pub near : Near r
