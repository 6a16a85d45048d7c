-- A table in lent memory with a gap in it. While several words are to be put into a table, one before another, a gap of as many words
-- stands in the memory; each word that is put in makes it one word smaller and moves it to the front, so that no word of the table is
-- moved twice.
-- Assumes nothing: these are definitions.
use Rattle.std.specs.Prelude.{ℕ, ◌+◌, ◌≤◌, ◌<◌, ◌≡◌, List, length, get_or}

-- Memory m is the table t but for a gap of g words from p on, which are any: the table's words before p stand where they are, those from
-- p on stand g places further on, and its last g words stand nowhere.
pub record Gap (g p : ℕ) (m t : List ℕ) : Type 0 where
  pub long : length m ≡ length t
  pub fits : p + g ≤ length t
  pub front : (j : ℕ) → j < p → get_or m j 0 ≡ get_or t j 0
  pub back : (j : ℕ) → p ≤ j → j + g < length t → get_or m (j + g) 0 ≡ get_or t j 0

-- Memory m has a table with a gap of g words from p on, before which stand at least `low` words, and the table is as P says.
pub record Leaves (g low p : ℕ) (m : List ℕ) (P : List ℕ → Type 0) : Type 0 where
  pub table : List ℕ
  pub gap : Gap g p m table
  pub before : low ≤ p
  pub is : P table
