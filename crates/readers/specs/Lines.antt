-- Document 01, "The saved sheet": the line at a place is the part between two line feeds, without its own.
-- Assumes nothing: these are definitions.
use Rattle.std.specs.Prelude.{ℕ, ◌+◌, ◌≤◌, ◌≡◌, List, [], ◌∷◌, ◌++◌, length, drop}
use Rattle.meaning.specs.Ascii.{byte}

-- no line feed stands in it
abbrev pub Unbroken : List ℕ → Type 0
Unbroken [] = Unit {0}
Unbroken (c ∷ l) = (c ≡ byte "\n" → ⊥) × Unbroken l

-- a line feed follows, or nothing
abbrev pub Ended : List ℕ → Type 0
Ended [] = Unit {0}
Ended (c ∷ t) = c ≡ byte "\n"

-- l is the line at a. Its line feed stands behind it exactly if the text goes on there.
pub record IsLine (s : List ℕ) (a : ℕ) (l : List ℕ) : Type 0 where
  pub text : drop a s ≡ l ++ drop (a + length l) s
  pub unbroken : Unbroken l
  pub ended : Ended (drop (a + length l) s)
  pub within : a ≤ length s → a + length l ≤ length s
