-- Members of lists: which numbers a list has, that it ascends, that all its members have a property.
-- Assumes nothing: these are definitions.
use Rattle.std.specs.Prelude.{ℕ, ◌<◌, ◌≡◌, List, [], ◌∷◌, ◌⊎◌}
use Rattle.meaning.specs.Places.{Value}

module _ {A : Type 0} where
  abbrev pub All : (A → Type 0) → List A → Type 0
  All P [] = Unit {0}
  All P (x ∷ xs) = P x × All P xs

  -- some member has the number j
  abbrev pub Has : (A → ℕ) → ℕ → List A → Type 0
  Has number j [] = ⊥
  Has number j (x ∷ xs) = (j ≡ number x) ⊎ Has number j xs

  -- strictly ascending: what follows a member is greater
  abbrev pub Ascending : (A → ℕ) → List A → Type 0
  Ascending number [] = Unit {0}
  Ascending number (x ∷ xs) = ((j : ℕ) → Has number j xs → number x < j) × Ascending number xs

-- a mark is its own number, a value has its id
abbrev pub own : ℕ → ℕ
own i = i

abbrev pub id_of_value : Value → ℕ
id_of_value v = v.id
