-- Words moved and written inside a lent table. Every function of this crate leaves the table that it was lent with some words laid over it
-- from a place on: `over_at`. Which words they are is said by `run`; the names below those are what the contracts cite.
-- Assumes nothing: these are definitions.
use Rattle.std.specs.Prelude.{ℕ, ◌+◌, ◌-◌, List, ◌++◌, length, take, drop, replicate}

module _ {A : Type 0} where
  -- the n words of t from `from` on
  unfoldable pub run : ℕ → ℕ → List A → List A
  run from n t = take n (drop from t)

  -- t with the words of `new` from `at` on; every other word is as it was
  unfoldable pub over_at : ℕ → List A → List A → List A
  over_at at new t = take at t ++ (new ++ drop (at + length new) t)

  -- the words from `at` up to `live` moved up by n places; those that stood from `at` on stay there till they are written
  unfoldable pub opened : ℕ → ℕ → ℕ → List A → List A
  opened live at n t = over_at (at + n) (run at (live - at) t) t

  -- the words from `from` up to `live` moved down to `to`, and the words that this frees set to z
  unfoldable pub closed : A → ℕ → ℕ → ℕ → List A → List A
  closed z live from to t = over_at to (run from (live - from) t ++ replicate (from - to) z) t

  -- the words of `new` put in before the word at `at`, of the words up to `live`: opened, then written
  unfoldable pub inserted : ℕ → ℕ → List A → List A → List A
  inserted live at new t = over_at at (new ++ run at (live - at) t) t

  -- the words from `to` up to `from` replaced by `new`, which are fewer, of the words up to `live`: laid over them, then closed
  unfoldable pub shrunk : A → ℕ → ℕ → ℕ → List A → List A → List A
  shrunk z live from to new t = over_at to (new ++ (run from (live - from) t ++ replicate (from - (to + length new)) z)) t

-- live words, then zeros: n words in all
abbrev pub pad : ℕ → List ℕ → List ℕ
pad n live = live ++ replicate (n - length live) 0
