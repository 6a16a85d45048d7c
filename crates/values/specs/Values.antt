-- What the steps over a row's values promise: if the tables held these rows, they hold those afterwards.
-- h, k, m, v are the words of the tables heads, keys, marks, values; primed ones are those afterwards; c and e the counts before and after.
-- A table that a step isn't lent is any, and the same afterwards. Memory that holds no rows is promised nothing.
-- Assumes nothing: these are definitions.
use Rattle.std.specs.Prelude.{ℕ, ◌+◌, ◌*◌, ◌≤◌, ◌<◌, ◌≡◌, Bool, true, false, List, [], ◌∷◌, ◌++◌, length}
use Rattle.meaning.specs.Ids.{uncovered}
use Rattle.meaning.specs.Members.{Has, id_of_value}
use Rattle.meaning.specs.Places.{Plain, Value}
use Rattle.meaning.specs.Sheet.{Row}
use Rattle.rows.specs.Blocks.{drop_row, add_row}
use Rattle.readers.specs.Words.{plain_words}
use Rattle.tables.specs.Standing.{behind}
use Rattle.tables.specs.Holding.{Holds, four}
use Rattle.tables.specs.declared.Counts.{Counts}
use Rattle.tables.specs.declared.Position.{Position}

-- the values that d covers go
unfoldable pub Drops : Position → List ℕ → Counts → List ℕ → List ℕ → Counts → List ℕ → List ℕ → Type 0
Drops s d c h v e h' v' =
    (k m : List ℕ) (A R : List Row) (r : Row) → Holds (four h k m v) c (A ++ r ∷ R) → s ≡ behind A
    → Holds (four h' k m v') e (A ++ drop_row d r ∷ R)

-- w are the value's kind and its four words
unfoldable pub Adds : Position → ℕ → List ℕ → Counts → List ℕ → List ℕ → Counts → List ℕ → List ℕ → Type 0
Adds s id w c h v e h' v' =
    (k m : List ℕ) (A R : List Row) (r : Row) (x : Plain) → Holds (four h k m v) c (A ++ r ∷ R) → s ≡ behind A
    → (Has id_of_value id r.values → ⊥) → c.values < 257 → plain_words x ≡ w → Holds (four h' k m v') e (A ++ add_row id x r ∷ R)

-- where it is said so, the words of one value are in the table, and the row has one value, which d covers
pub record One (s : Position) (d h v : List ℕ) : Type 0 where
  pub low : s.value ≤ 256
  pub long : 6 * s.value + 6 ≤ length v
  pub one :
      (k m : List ℕ) (c : Counts) (A R : List Row) (r : Row) → Holds (four h k m v) c (A ++ r ∷ R) → s ≡ behind A
      → (y : Value) × (r.values ≡ y ∷ []) × (uncovered d y.id ≡ false)

abbrev pub HasOne : Position → List ℕ → List ℕ → List ℕ → Bool → Type 0
HasOne s d h v b = b ≡ true → One s d h v

-- the values that d covers go, and one comes
unfoldable pub Sets : Position → List ℕ → ℕ → List ℕ → Counts → List ℕ → List ℕ → Counts → List ℕ → List ℕ → Type 0
Sets s d id w c h v e h' v' =
    (k m : List ℕ) (A R : List Row) (r : Row) (x : Plain) → Holds (four h k m v) c (A ++ r ∷ R) → s ≡ behind A
    → (Has id_of_value id (drop_row d r).values → ⊥) → c.values < 257 → plain_words x ≡ w
    → Holds (four h' k m v') e (A ++ add_row id x (drop_row d r) ∷ R)
