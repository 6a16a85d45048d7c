-- Document 01, "Which form goes where": the table of twenty powers of ten. Its rule: entry k is 10 ^ k.
-- Assumes nothing: these are definitions.
use Rattle.std.specs.Prelude.{ℕ, zero, suc, ◌^◌, List, [], ◌∷◌}

-- n powers of ten, from 10 ^ k on
unfoldable pub powers_from : ℕ → ℕ → List ℕ
powers_from zero k = []
powers_from (suc n) k = 10 ^ k ∷ powers_from n (suc k)

unfoldable pub powers_of_ten : List ℕ
powers_of_ten = powers_from 20 0
