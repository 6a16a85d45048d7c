-- What a writer promises that goes on behind bytes that are written already.
-- Assumes nothing: these are definitions.
use Rattle.std.specs.Prelude.{ℕ, ◌+◌, ◌≡◌, List, ◌++◌, length, take, drop}
use Rattle.meaning.specs.Text.{over}

-- A text was written into a buffer at the place `at`: n is the place behind it, and the rest of the buffer is as it was.
pub record WroteAt (text : List ℕ) (at : ℕ) (before after : List ℕ) (n : ℕ) : Type 0 where
  pub size : n ≡ at + length text
  pub buffer : after ≡ take at before ++ over text (drop at before)
