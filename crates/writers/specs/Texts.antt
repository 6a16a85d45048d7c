-- Texts one behind the other.
-- Assumes nothing: these are definitions.
use Rattle.std.specs.Prelude.{ℕ, zero, suc, List, [], ◌++◌, Option, None, Some}

-- n texts: the one at s, then from the next on
unfoldable pub texts : {S : Type 0} → (S → List ℕ) → (S → S) → S → ℕ → List ℕ
texts piece next s zero = []
texts piece next s (suc n) = piece s ++ texts piece next (next s) n

-- a text, or none: what is written, how much it is at most, and that it is valid
abbrev pub maybe : {X : Type 0} → (X → List ℕ) → Option X → List ℕ
maybe text None = []
maybe text (Some x) = text x

abbrev pub maybe_most : {X : Type 0} → (X → ℕ) → Option X → ℕ
maybe_most most None = 0
maybe_most most (Some x) = most x

abbrev pub MaybeValid : {X : Type 0} → (X → Type 0) → Option X → Type 0
MaybeValid Valid None = Unit {0}
MaybeValid Valid (Some x) = Valid x
