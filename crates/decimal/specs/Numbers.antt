-- Document 01, "Messages": numbers without a sign, as they are read and written.
-- Assumes nothing: these are definitions.
use Rattle.std.specs.Prelude.{ℕ, ◌≤◌, ◌≡◌, false, List, [], ◌∷◌, Option, None, Some}
use Rattle.meaning.specs.Text.{width, decimal}
use Rattle.theorems.specs.Decimal.{is_digit}
use Rattle.decimal.specs.Take.{Layout, Reads}

-- what follows doesn't go on with a digit
abbrev pub NoDigit : List ℕ → Type 0
NoDigit [] = Unit {0}
NoDigit (c ∷ t) = is_digit c ≡ false

-- the numbers from low to high in decimal
abbrev pub numbers : ℕ → ℕ → Layout ℕ
numbers low high = record { Valid = λ x. (low ≤ x) × (x ≤ high); text = decimal; More = λ x. NoDigit }

-- a number was read, and the place behind it; or none stands there
abbrev pub ReadsNumber : Layout ℕ → List ℕ → ℕ → Option (ℕ × ℕ) → Type 0
ReadsNumber = Reads

-- a run of n digits with the value v is the decimal of v, and this is answered; or it isn't
abbrev pub Spells : ℕ → ℕ → ℕ → Option (ℕ × ℕ) → Type 0
Spells n v next (Some (w, m)) = (w ≡ v) × (m ≡ next) × (width v ≡ n)
Spells n v next None = width v ≡ n → ⊥
