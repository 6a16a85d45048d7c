-- What a size promises: it is known before a byte of the text is written.
-- Assumes nothing: these are definitions.
use Rattle.std.specs.Prelude.{ℕ, ◌≤◌, ◌≡◌, List, length}

-- n is how many bytes the text has, and there are at most `limit`
pub record Sized (text : List ℕ) (limit n : ℕ) : Type 0 where
  pub size : n ≡ length text
  pub most : n ≤ limit
