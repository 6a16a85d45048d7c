-- Sets as lists. Marks, values and waiting messages are sets whose members have numbers: each is its list in ascending order.
-- Assumes nothing: these are definitions.
use Rattle.std.specs.Prelude.{ℕ, Bool, cond, List, [], ◌∷◌, ◌++◌, ltb}

module _ {A : Type 0} where
  -- those that pass a test, in their order
  unfoldable pub keep : (A → Bool) → List A → List A
  keep p [] = []
  keep p (x ∷ xs) = cond (p x) (x ∷ keep p xs) (keep p xs)

  -- the members whose number is smaller than that of a, and greater
  unfoldable pub smaller : (A → ℕ) → A → A → Bool
  smaller number a x = ltb (number x) (number a)

  unfoldable pub greater : (A → ℕ) → A → A → Bool
  greater number a x = ltb (number a) (number x)

  -- one member more: behind the smaller ones, before the greater ones, in the place of one with its number
  unfoldable pub put : (A → ℕ) → A → List A → List A
  put number a xs = keep (smaller number a) xs ++ a ∷ keep (greater number a) xs
